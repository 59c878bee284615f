-- A lane of a text beside a lane of its code: what the code's registers hold, and how two runs agree. Own.
use Rattle.std.specs.Prelude.{ℕ, ◌≡◌, ◌<◌, List, [], map, length, slice_index}
use Rattle.wg_state.specs.Turns.{Ending, Spent, Done}
use Rattle.wg_typed.specs.Layout.{put}
use Rattle.wg_semantics.specs.Places.{Setting}
use Rattle.wg_semantics.specs.declared.state.State.{State}
use Rattle.wg_code.specs.Lane.{Around, Site, Exit, Through}
use Rattle.wg_lowered.specs.Where.{Names, variables_end}

-- what stays the same while the lane runs is the same for both
pub record Beside (around : Around) (setting : Setting) : Type 0 where
  pub outputs : around.outputs ≡ setting.outputs
  pub level : around.level ≡ setting.level
  pub last : around.last ≡ setting.last

-- The code's lane, which has so many registers, holds the variables of the source's in the first of them, one after another; its groupshared
-- words are those of all groupshared variables, and the rest that lanes share is the same.
pub record Holds (k : Names) (registers : ℕ) (s : State) (f : Site) : Type 0 where
  pub variables : map length s.variables ≡ k.variables
  pub count : length f.registers ≡ registers
  pub same : (x : ℕ) → x < variables_end k → slice_index f.registers x ≡ slice_index (put s.variables) x
  pub shared_sizes : map length s.world.shared ≡ k.shared
  pub shared : f.shared ≡ put s.world.shared
  pub world : f.world ≡ record s.world { shared = [] }

-- both spent, or both done with as many turns left, and related
abbrev pub Agree : {S A F B : Type 0} → (A → S → B → F → Type 0) → Ending S A → Ending F B → Type 0
Agree Q Spent Spent = Unit {0}
Agree Q Spent (Done b f u) = ⊥
Agree Q (Done a s t) Spent = ⊥
Agree Q (Done a s t) (Done b f u) = (t ≡ u) × Q a s b f

-- the registers below are the same, and as many
pub record Below (d : ℕ) (old new : List ℕ) : Type 0 where
  pub kept : (r : ℕ) → r < d → slice_index new r ≡ slice_index old r
  pub count : length new ≡ length old

-- The code went through, holds the state that the source left, has kept the registers below d, and these registers hold the words.
pub record Leaves (k : Names) (registers d : ℕ) (at : List ℕ) (before : Site) (words : List ℕ) (s : State) (exit : Exit) (after : Site) : Type 0 where
  pub is_through : exit ≡ Through
  pub holds : Holds k registers s after
  pub below : Below d before.registers after.registers
  pub value : map (slice_index after.registers) at ≡ words
