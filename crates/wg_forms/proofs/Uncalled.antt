-- A member and an index call nothing.
use Rattle.std.proofs.Common.{◌≡◌, Option, Some, None, refl}
use Rattle.wg_tree.specs.declared.expr.Named.{Named}
use Rattle.wg_typing.specs.declared.part.Along.{Along}
use Rattle.wg_typing.specs.declared.part.Along.TheVariants as along
use Rattle.wg_typing.specs.declared.part.FormLayer.TheVariants as form_layer
use Rattle.wg_typing.specs.declared.part.Part.{Part}
use Rattle.wg_typing.specs.declared.scope.Value.TheVariants as value
use Rattle.wg_forms.specs.Forms.{called_by}

pub no_member_call : (a : Option Along) (name : Named) → called_by a (form_layer.Member name) ≡ None
no_member_call None name = refl
no_member_call (Some (along.Typed r)) name = refl
no_member_call (Some (along.Other (value.Typed of standing tree))) name = refl
no_member_call (Some (along.Other (value.Object o element))) name = refl
no_member_call (Some (along.Other (value.Act at act))) name = refl
no_member_call (Some (along.Other (value.Text bytes))) name = refl

pub no_index_call : (a : Option Along) (at : Part) → called_by a (form_layer.Index at) ≡ None
no_index_call None at = refl
no_index_call (Some (along.Typed r)) at = refl
no_index_call (Some (along.Other (value.Typed of standing tree))) at = refl
no_index_call (Some (along.Other (value.Object o element))) at = refl
no_index_call (Some (along.Other (value.Act name act))) at = refl
no_index_call (Some (along.Other (value.Text bytes))) at = refl
