-- UnknownName: no such name, member or method here, or in a `const` a name that may not stand there; the name. Own number.
use Rattle.std.specs.Prelude.{ℕ, Bool, true, false, not, ◌&&◌, is_none, List, [], ◌∷◌, map, Option, Some, None}
use Rattle.wg_words.specs.declared.place.Place.{Place}
use Rattle.wg_typing.specs.Named.{is_among}
use Rattle.wg_typing.specs.Scope.{Context, look}
use Rattle.wg_typing.specs.TypingObjects.{method_of}
use Rattle.wg_typing.specs.TypingForms.{member_of}
use Rattle.wg_typing.specs.Sites.{at_if}
use Rattle.wg_typing.specs.RulesShared.{unknown_flags}
use Rattle.wg_typing.specs.Site.{Site, AtNamed, AtCall, AtFlags, AtForm, AtType}
use Rattle.wg_tree.specs.declared.expr.Named.{Named}
use Rattle.wg_tree.specs.declared.expr.TypeName.{TypeName}
use Rattle.wg_tree.specs.declared.expr.TypeName.TheVariants as type_name
use Rattle.wg_typing.specs.declared.scope.Meant.{Meant}
use Rattle.wg_typing.specs.declared.scope.Meant.TheVariants as meant
use Rattle.wg_typing.specs.declared.scope.Object.{Object}
use Rattle.wg_typing.specs.declared.scope.Value.TheVariants as value
use Rattle.wg_typing.specs.declared.context.Around.{Around}
use Rattle.wg_typing.specs.declared.part.FormLayer.{FormLayer}
use Rattle.wg_typing.specs.declared.part.Part.{Part}
use Rattle.wg_typing.specs.declared.called.CalledName.{CalledName}
use Rattle.wg_typing.specs.declared.part.Along.{Along}
use Rattle.wg_typing.specs.declared.part.Reached.{Reached}
use Rattle.wg_typing.specs.declared.context.Around.TheVariants as surrounding
use Rattle.wg_typing.specs.declared.part.FormLayer.TheVariants as form_layer
use Rattle.wg_typing.specs.declared.called.CalledName.TheVariants as called_name
use Rattle.wg_typing.specs.declared.part.Along.TheVariants as along

-- whether what a name means is no value and no object
abbrev pub is_no_value : Option Meant → Bool
is_no_value (Some (meant.Struct number)) = true
is_no_value (Some (meant.Constant of words known)) = false
is_no_value (Some (meant.Shared variable of)) = false
is_no_value (Some (meant.Variable variable of constant)) = false
is_no_value (Some (meant.Object object)) = false
is_no_value (Some (meant.Function number is_entry result parameters chain)) = true
is_no_value (Some meant.Itself) = true
is_no_value (Some meant.Broken) = false
is_no_value None = true

-- whether it is no static constant
abbrev pub is_no_constant : Option Meant → Bool
is_no_constant (Some (meant.Struct number)) = true
is_no_constant (Some (meant.Constant of words known)) = false
is_no_constant (Some (meant.Shared variable of)) = true
is_no_constant (Some (meant.Variable variable of constant)) = true
is_no_constant (Some (meant.Object object)) = true
is_no_constant (Some (meant.Function number is_entry result parameters chain)) = true
is_no_constant (Some meant.Itself) = true
is_no_constant (Some meant.Broken) = false
is_no_constant None = true

-- whether it is no struct
abbrev pub is_no_struct : Option Meant → Bool
is_no_struct (Some (meant.Struct number)) = false
is_no_struct (Some (meant.Constant of words known)) = true
is_no_struct (Some (meant.Shared variable of)) = true
is_no_struct (Some (meant.Variable variable of constant)) = true
is_no_struct (Some (meant.Object object)) = true
is_no_struct (Some (meant.Function number is_entry result parameters chain)) = true
is_no_struct (Some meant.Itself) = true
is_no_struct (Some meant.Broken) = false
is_no_struct None = true

abbrev pub unknown_value : Around → List ℕ → Option Meant → Bool
unknown_value (surrounding.Entry lanes) name m = is_no_value m
unknown_value surrounding.Plain name m = is_no_value m
unknown_value surrounding.Const name m = is_no_constant m
unknown_value (surrounding.Attribute allowed) name m = not (is_among allowed name) && is_no_constant m

abbrev pub places_of : List Named → List Place
places_of names = map (λ (n : Named). n.place) names

abbrev pub unknown_call : Place → CalledName → List Place
unknown_call name (called_name.Plain number result parameters chain) = []
unknown_call name called_name.Entry = []
unknown_call name called_name.Itself = []
unknown_call name (called_name.Builtin b) = []
unknown_call name called_name.Broken = []
unknown_call name called_name.Unknown = name ∷ []

abbrev pub unknown_member : Context → Reached → FormLayer Part → List Place
unknown_member c r (form_layer.Member name) = at_if (is_none (member_of c.structs r.of name.name r)) name.place
unknown_member c r (form_layer.Method name parts) = name.place ∷ []
unknown_member c r (form_layer.Index p) = []

abbrev pub unknown_method : Object → FormLayer Part → List Place
unknown_method o (form_layer.Member name) = name.place ∷ []
unknown_method o (form_layer.Method name parts) = at_if (is_none (method_of o name.name)) name.place
unknown_method o (form_layer.Index p) = []

abbrev pub unknown_form : Context → Along → FormLayer Part → List Place
unknown_form c (along.Typed r) f = unknown_member c r f
unknown_form c (along.Other (value.Typed of standing tree)) f = []
unknown_form c (along.Other (value.Object o element)) f = unknown_method o f
unknown_form c (along.Other (value.Act name act)) f = []
unknown_form c (along.Other (value.Text bytes)) f = []

abbrev pub unknown_type : Context → TypeName → List Place
unknown_type c (type_name.Value place of) = []
unknown_type c (type_name.Struct name) = at_if (is_no_struct (look name.name c.names)) name.place

abbrev pub unknown_name : Site → List Place
unknown_name (AtNamed around name m) = at_if (unknown_value around name.name m) name.place
unknown_name (AtCall around name k parts) = unknown_call name k
unknown_name (AtFlags c name parts) = places_of (unknown_flags c parts)
unknown_name (AtForm c place a f) = unknown_form c a f
unknown_name (AtType c of) = unknown_type c of
unknown_name _ = []
