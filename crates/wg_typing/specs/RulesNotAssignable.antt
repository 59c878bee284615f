-- NotAssignable: what is assigned to is a mere value, a constant, or can only be read. The place is that of the target's first token. Own.
use Rattle.std.specs.Prelude.{Bool, not, List, [], ◌∷◌, Option, Some, None, if◌then◌else◌}
use Rattle.wg_words.specs.declared.place.Place.{Place}
use Rattle.wg_typing.specs.TypingInterlocked.{is_fixed, is_memory}
use Rattle.wg_typing.specs.Sites.{at_if}
use Rattle.wg_typing.specs.TypingActs.{is_plain_act}
use Rattle.wg_typing.specs.Site.{Site, AtArgument, AtDestination, AtAssigned, AtTarget}
use Rattle.wg_typing.specs.declared.scope.FormalParameter.{FormalParameter}
use Rattle.wg_typing.specs.declared.scope.Value.{Value}
use Rattle.wg_typing.specs.declared.scope.Value.TheVariants as value
use Rattle.wg_typing.specs.TypingFunctionCall.{is_given_back}
use Rattle.wg_typing.specs.declared.part.Part.{Part}
use Rattle.wg_typing.specs.declared.part.TypedPart.{TypedPart}

abbrev pub can_change : TypedPart → Bool
can_change t = not (is_fixed t.standing)

-- an argument of a plain function that is given back
abbrev pub fixed_argument : FormalParameter → TypedPart → List Place
fixed_argument a t = if is_given_back a.direction then at_if (not (can_change t)) t.place else []

abbrev pub is_in_memory : TypedPart → Bool
is_in_memory t = is_memory t.standing

-- a target: a value that can be assigned; an object and a call without a value are none
abbrev pub fixed_target : Place → Option Value → List Place
fixed_target place (Some (value.Typed of standing tree)) = at_if (is_fixed standing) place
fixed_target place (Some (value.Object object element)) = place ∷ []
fixed_target place (Some (value.Act name a)) = at_if (is_plain_act a) place
fixed_target place (Some (value.Text bytes)) = place ∷ []
fixed_target place None = []

abbrev pub fixed_part : Part → List Place
fixed_part p = fixed_target p.place p.value

abbrev pub not_assignable : Site → List Place
not_assignable (AtArgument a t) = fixed_argument a t
not_assignable (AtDestination t) = at_if (not (is_in_memory t)) t.place
not_assignable (AtAssigned t) = at_if (not (can_change t)) t.place
not_assignable (AtTarget p) = fixed_part p
not_assignable _ = []
