use Rattle.std.proofs.Common.{◌≡◌, ◌≤◌, ◌+◌, ◌*◌, ◌++◌, List, drop}
use Rattle.std.specs.List.{flat_map}
use Rattle.wg_machine.specs.declared.launch.Live.{Live}
use Rattle.wg_machine.specs.State.{born, kept}
use Rattle.wg_records.specs.Bags.{Keeps}
use Rattle.wg_records.proofs.live.LiveRecords.put_all.Given as goal

abbrev pub invariant-loop-record : goal.invariant-loop-record
invariant-loop-record l = record {
  next : l.self.next ≡ l.initial.self.next + l.record-index;
  handed : l.self.handed ≡ l.initial.self.handed;
  small : l.self.bytes ≤ 8192 * l.self.next;
  keeps : (bag : List Live) → Keeps l.shape l.initial.self bag
      → (now : List Live) × Keeps l.shape l.self now × (now ++ flat_map kept (born l.shape l.self.next (drop l.record-index l.sent)) ≡ bag ++ flat_map kept (born l.shape l.initial.self.next l.sent));
}
