use Rattle.std.proofs.Common.{◌≡◌, drop}
use Rattle.wg_typing.specs.Site.{AtComponent}
use Rattle.wg_notes.specs.Notes.{noted}
use Rattle.wg_arguments.specs.Arguments.{each_at}
use Rattle.wg_arguments.proofs.constructors.unmade.Given as goal

abbrev pub invariant-loop-t : goal.invariant-loop-t
invariant-loop-t l = noted (each_at (AtComponent l.size) (drop l.t-index l.ts)) l.notes.list ≡ noted (each_at (AtComponent l.size) l.ts) l.initial.notes.list
