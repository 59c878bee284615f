use Rattle.std.proofs.Common.{◌≡◌, ◌≤◌, ℕ, List, map, take}
use Rattle.wg_words.specs.Each.{Each}
use Rattle.wg_machine.specs.declared.launch.Live.{Live}
use Rattle.wg_machine.specs.Step.{IsReady, left_after, numbers_of, record_of, taken}
use Rattle.wg_records.specs.Bags.{Keeps}
use Rattle.wg_records.proofs.live.LiveRecords.take_all.Given as goal

abbrev pub invariant-loop-i : goal.invariant-loop-i
invariant-loop-i l = record {
  next : l.self.next ≡ l.initial.self.next;
  handed : l.self.handed ≡ l.initial.self.handed;
  small : l.self.bytes ≤ l.initial.self.bytes;
  keeps : (bag : List Live) → Keeps l.shape l.initial.self bag → numbers_of (map record_of (taken l.numbers bag)) ≡ l.numbers
      → ((unit : ℕ) × Each (IsReady unit l.at) (taken l.numbers bag))
      → Keeps l.shape l.self (left_after (take l.i l.numbers) l.at l.new bag);
}
