use Rattle.std.proofs.Common.{◌≡◌, ◌+◌, ◌++◌, drop}
use Rattle.std.specs.List.{flat_map}
use Rattle.wg_machine.specs.State.{kept, born}
use Rattle.wg_plain.proofs.changes.arrive.Given as goal

abbrev pub invariant-loop-record : goal.invariant-loop-record
invariant-loop-record l = record {
  number : l.number ≡ l.next + l.record-index;
  bag : l.bag ++ flat_map kept (born l.shape l.number (drop l.record-index l.sent)) ≡ l.initial.bag ++ flat_map kept (born l.shape l.next l.sent);
}
