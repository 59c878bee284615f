use Rattle.std.proofs.Common.{◌≡◌, drop}
use Rattle.wg_typing.specs.PartSites.{goal_sites}
use Rattle.wg_notes.specs.Notes.{noted}
use Rattle.wg_wanted.proofs.fitting.goals.Given as goal

abbrev pub invariant-loop-part : goal.invariant-loop-part
invariant-loop-part l = noted (goal_sites l.types (drop l.part-index l.parts)) l.notes.list ≡ noted (goal_sites l.fn.types l.parts) l.initial.notes.list
