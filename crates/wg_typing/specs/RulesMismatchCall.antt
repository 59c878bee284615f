-- Mismatch in the arguments of a call: an argument that does not convert, at its first token, or arguments that do not fit together, at the
-- called name. Own.
use Rattle.std.specs.Prelude.{Bool, not, ◌&&◌, is_none, List, [], ◌∷◌, ◌++◌, if◌then◌else◌}
use Rattle.wg_words.specs.declared.place.Place.{Place}
use Rattle.wg_typing.specs.Conversions.{same_type, fits}
use Rattle.wg_typing.specs.Scope.{Context}
use Rattle.wg_typing.specs.TypingIntrinsic.{all_suit, reckons, signature_on}
use Rattle.wg_typing.specs.TypingBarrier.{orders, syncs_of}
use Rattle.wg_typing.specs.Sites.{at_if}
use Rattle.wg_typing.specs.RulesShared.{flags_whole}
use Rattle.wg_typed.specs.declared.typed_expr.Intrinsic.{Intrinsic}
use Rattle.wg_typing.specs.declared.scope.FormalParameter.{FormalParameter}
use Rattle.wg_typing.specs.TypingFunctionCall.{is_given_back}
use Rattle.wg_typing.specs.declared.part.Part.{Part}
use Rattle.wg_typing.specs.declared.part.TypedPart.{TypedPart}

-- an argument of a plain function
abbrev pub passes : FormalParameter → TypedPart → Bool
passes a t = if is_given_back a.direction then same_type t.of a.of else fits t.of a.of

-- the arguments of an intrinsic
abbrev pub unfit_together : Place → Intrinsic → List TypedPart → List Place
unfit_together name i ts = at_if (all_suit (reckons i) ts && is_none (signature_on i ts)) name

-- the arguments of `Barrier`, where no name in them is unknown
abbrev pub unfit_flags : Context → List Part → List Place
unfit_flags c (a ∷ b ∷ []) =
    if flags_whole c (a ∷ b ∷ []) then at_if (not (orders c a.pieces)) a.place ++ at_if (is_none (syncs_of c b.pieces)) b.place else []
unfit_flags c parts = []
