use Rattle.std.proofs.Common.{◌≡◌, ℕ, ◌+◌, ◌<◌, IsTrue, length, take, drop}
use Rattle.wg_machine.specs.Need.{need_from}
use Rattle.wg_need.specs.Rows.{need_in}
use Rattle.wg_need.specs.Scratch.{IsCursor, IsOpenRow}
use Rattle.wg_need.proofs.sums.sum_up.Given as goal

-- what is added so far and what the other budgets add are the need
abbrev pub invariant-loop-number : goal.invariant-loop-number
invariant-loop-number l =
    IsOpenRow l.start l.number l.seen l.needs.items
    × (take l.start l.needs.items ≡ l.initial.needs.items)
    × (IsTrue l.ordered → IsCursor l.outputs l.number l.at)
    × ((v : ℕ) → v < length l.seen → need_in (drop l.start l.needs.items) v + need_from l.outputs l.number (drop l.number l.budgets) v ≡ need_from l.outputs 0 l.budgets v)
