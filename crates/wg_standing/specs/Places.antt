-- The places of a core's records. This project's own.
use Rattle.std.specs.Prelude.{◌≡◌, ℕ, ◌+◌, ◌≤◌, ◌==◌, List, sum_by, count_by}
use Rattle.wg_machine.specs.declared.launch.Live.{Live}
use Rattle.wg_standing.specs.Core.{CoreView}

-- how many records have the number
abbrev pub times_in : ℕ → List Live → ℕ
times_in n xs = count_by (λ (x : Live). x.number == n) xs

-- The record of a number, where it is live, waits in a slot, is held in one, is left of the entries or was taken from
-- them, and is in one of these places once.
pub record HasOnePlace (core : CoreView) (n : ℕ) : Type 0 where
  pub parts : sum_by (times_in n) core.waits + times_in n core.entries + sum_by (times_in n) core.held + times_in n core.taken ≡ times_in n core.bag
  pub once : times_in n core.bag ≤ 1
