use Rattle.std.proofs.Common.{◌≡◌, drop}
use Rattle.wg_typing.specs.TypingChanged.{given_back}
use Rattle.wg_notes.specs.Notes.{with_events}
use Rattle.wg_functions.proofs.passed.given_back.Given as goal

abbrev pub invariant-loop-part : goal.invariant-loop-part
invariant-loop-part l = with_events (given_back l.parameters (drop l.part-index l.parts)) l.notes.list ≡ with_events (given_back l.fn.parameters l.parts) l.initial.notes.list
