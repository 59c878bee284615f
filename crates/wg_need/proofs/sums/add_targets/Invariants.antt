use Rattle.std.proofs.Common.{◌≡◌, ℕ, ◌+◌, ◌<◌, ◌||◌, length, take, drop}
use Rattle.std.specs.List.{list_any}
use Rattle.wg_machine.specs.Need.{is_target}
use Rattle.wg_need.specs.Rows.{need_in}
use Rattle.wg_need.specs.Scratch.{IsOpenRow, is_on, owed}
use Rattle.wg_need.proofs.sums.add_targets.Given as goal

-- the budget is added to the targets so far
abbrev pub invariant-loop-target : goal.invariant-loop-target
invariant-loop-target l =
    IsOpenRow l.start (l.budget.number + 1) l.seen l.needs.items
    × (take l.start l.needs.items ≡ take l.start l.initial.needs.items)
    × ((v : ℕ) → v < length l.seen → is_on l.start l.budget.number l.seen v ≡ (is_on l.start l.budget.number l.initial.seen v || list_any (is_target v) (take l.target-index l.elements)))
    × ((v : ℕ) → v < length l.seen → need_in (drop l.start l.needs.items) v + owed l.budget l.start l.initial.seen v ≡ need_in (drop l.start l.initial.needs.items) v + owed l.budget l.start l.seen v)
