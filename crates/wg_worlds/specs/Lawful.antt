-- What holds of the world of a launch at every moment. This project's own.
use Rattle.std.specs.Prelude.{◌≡◌, ℕ, ◌+◌, ◌≤◌, ◌==◌, if◌then◌else◌, List, length, slice_get, slice_index}
use Rattle.std.specs.List.{sum_by}
use Rattle.wg_words.specs.Each.{Each}
use Rattle.wg_machine.specs.declared.shape.Output.{Output}
use Rattle.wg_machine.specs.declared.shape.Unit.{Unit}
use Rattle.wg_machine.specs.Buffers.{lengths_of}
use Rattle.wg_state.specs.Requests.{budget_of, record_words}
use Rattle.wg_state.specs.declared.world.Grant.{Grant}
use Rattle.wg_state.specs.declared.world.World.{World}

-- how many records of a grant count against a budget
abbrev pub counted_on : List Output → ℕ → Grant → ℕ
counted_on outputs budget g = if budget_of (slice_get outputs g.output) == budget then length g.items else 0

-- the records granted on a budget
abbrev pub granted_on : List Output → ℕ → List Grant → ℕ
granted_on outputs budget grants = sum_by (counted_on outputs budget) grants

-- a grant's records have the words of their output
abbrev pub HasOutputWords : List Output → Grant → Type 0
HasOutputWords outputs g = Each (λ (words : List ℕ). length words ≡ record_words (slice_get outputs g.output)) g.items

-- Granted records have the words of their output; what is granted on a budget and what is left of it are the budget; no more
-- requests are denied than there were; and input records and buffers have these lengths.
pub record IsLawfulWorld (unit : Unit) (inputs buffers : List ℕ) (w : World) : Type 0 where
  pub items : Each (HasOutputWords unit.outputs) w.grants
  pub budgets : (b : ℕ) → granted_on unit.outputs b w.grants + slice_index w.left b ≡ slice_index unit.budgets b
  pub denied : w.denied ≤ length w.grants
  pub inputs_stay : lengths_of w.inputs ≡ inputs
  pub buffers_stay : lengths_of w.buffers ≡ buffers

-- a grant whose records were written to
pub record IsRewritten (old new : Grant) : Type 0 where
  pub output : new.output ≡ old.output
  pub lengths : lengths_of new.items ≡ lengths_of old.items
