use Rattle.std.proofs.Common.{◌≡◌, ◌++◌, drop, take}
use Rattle.wg_store.specs.Items.{all_opened}
use Rattle.wg_store.proofs.steps.open_all.Given as goal

abbrev pub invariant-loop-place : goal.invariant-loop-place
invariant-loop-place l = l.items ≡ all_opened l.numbers (take l.place l.initial.items) ++ drop l.place l.initial.items
