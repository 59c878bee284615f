-- What is noted of a call of a plain function, whatever its arguments are. Own.
use Rattle.std.specs.Prelude.{ℕ, not, List, ◌∷◌}
use Rattle.wg_words.specs.declared.place.Place.{Place}
use Rattle.wg_typing.specs.Sites.{at_if}
use Rattle.wg_typing.specs.TypingChanged.{given_back}
use Rattle.wg_typing.specs.TypingFunctionCall.{chain_fits}
use Rattle.wg_typing.specs.declared.event.Event.TheVariants as event
use Rattle.wg_typing.specs.declared.part.Part.{Part}
use Rattle.wg_typing.specs.declared.scope.FormalParameter.{FormalParameter}
use Rattle.wg_notes.specs.Notes.{with_events, with_faults}
use Rattle.wg_notes.specs.declared.notes.Note.{Note}

abbrev pub plain_noted : Place → List FormalParameter → ℕ → List Part → List Note → List Note
plain_noted name parameters chain parts old = with_events (event.Calls chain ∷ given_back parameters parts) (with_faults 306 (at_if (not (chain_fits chain)) name) old)
