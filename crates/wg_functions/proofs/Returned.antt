-- What happens in two lists, one after the other, is noted as one; and where no part is left nothing is given back.
use Rattle.std.proofs.Common.{◌≡◌, ◌≤◌, ◌∙◌, ℕ, drop, length, List, [], ◌∷◌, ◌++◌, if◌then◌else◌, refl, ap}
use Rattle.std.proofs.lemmas.List.{at_drop_all}
use Rattle.wg_typing.specs.TypingChanged.{given_back, changed}
use Rattle.wg_typing.specs.TypingFunctionCall.{is_given_back}
use Rattle.wg_typing.specs.declared.event.Event.{Event}
use Rattle.wg_typing.specs.declared.part.Part.{Part}
use Rattle.wg_typing.specs.declared.scope.FormalParameter.{FormalParameter}
use Rattle.wg_notes.specs.Notes.{with_events}
use Rattle.wg_notes.specs.declared.notes.Note.{Note}
use Rattle.wg_notes.specs.declared.notes.Note.TheVariants as note

happens_on : (xs ys : List Event) (old : List Note) → with_events (xs ++ ys) old ≡ with_events ys (with_events xs old)
happens_on [] ys old = refl
happens_on (x ∷ xs) ys old = happens_on xs ys (old ++ note.Happens x ∷ [])

pub one_more : (a : FormalParameter) (parameters : List FormalParameter) (p : Part) (parts : List Part) (old : List Note)
    → with_events (given_back (a ∷ parameters) (p ∷ parts)) old ≡ with_events (given_back parameters parts) (with_events (if is_given_back a.direction then changed p else []) old)
one_more a parameters p parts old = happens_on (if is_given_back a.direction then changed p else []) (given_back parameters parts) old

given_end : (parameters : List FormalParameter) → given_back parameters [] ≡ []
given_end [] = refl
given_end (a ∷ parameters) = refl

pub given_over : (parameters : List FormalParameter) (parts : List Part) (i : ℕ) (old : List Note) → length parts ≤ i → with_events (given_back parameters (drop i parts)) old ≡ old
given_over parameters parts i old q = at_drop_all (λ (l : List Part). with_events (given_back parameters l) old) parts i q ∙ ap (λ (l : List Event). with_events l old) (given_end parameters)
