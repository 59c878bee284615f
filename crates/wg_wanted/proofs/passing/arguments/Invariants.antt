use Rattle.std.proofs.Common.{◌≡◌, drop}
use Rattle.wg_typing.specs.PartSites.{passed_sites}
use Rattle.wg_notes.specs.Notes.{noted}
use Rattle.wg_wanted.proofs.passing.arguments.Given as goal

abbrev pub invariant-loop-part : goal.invariant-loop-part
invariant-loop-part l = noted (passed_sites l.parameters (drop l.part-index l.parts)) l.notes.list ≡ noted (passed_sites l.fn.parameters l.parts) l.initial.notes.list
