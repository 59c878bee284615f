use Rattle.std.proofs.Common.{◌≡◌, take}
use Rattle.wg_store.specs.Items.{all_opened}
use Rattle.wg_hold.proofs.steps.open_all.Given as goal

-- those before the place are opened
abbrev pub invariant-loop-number : goal.invariant-loop-number
invariant-loop-number l = l.rows ≡ record l.initial.rows { items = all_opened (take l.number-index l.numbers) l.initial.rows.items }
