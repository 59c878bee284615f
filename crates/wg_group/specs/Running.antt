-- What an answer says of the parts of code that were run over the lanes of a group, whose registers lie one lane's behind another's. Own.
use Rattle.std.specs.Prelude.{◌≡◌, ⊤, ℕ, zero, suc, ◌*◌, Bool, IsTrue, List, [], ◌∷◌, take, drop, Result, Ok, Err}
use Rattle.wg_machine.specs.Agreement.{Trace, AgreesWith, now_of}
use Rattle.wg_machine.specs.Buffers.{Buffers}
use Rattle.wg_machine.specs.Effects.{Grows}
use Rattle.wg_machine.specs.declared.bodies.Halt.{Halt}
use Rattle.wg_machine.specs.declared.bodies.Halt.TheVariants as halt
use Rattle.wg_state.specs.Turns.{Action, Ending, Spent, Done}
use Rattle.wg_code.specs.Flow.{Outside}
use Rattle.wg_code.specs.PartMeaning.{Lanes}
use Rattle.wg_registers.specs.declared.outside.Outside.{Outside as Shared}

-- the registers of a lane, of so many
abbrev pub row_at : ℕ → ℕ → List ℕ → List ℕ
row_at width lane words = take width (drop (lane * width) words)

-- the registers of so many lanes, from a number on
abbrev pub rows_from : ℕ → ℕ → ℕ → List ℕ → Lanes
rows_from at zero width words = []
rows_from at (suc n) width words = row_at width at words ∷ rows_from (suc at) n width words

-- the buffers are the memory's
abbrev pub outside_of : Shared → Buffers → Outside
outside_of s buffers = (s.shared, record s.world { buffers = buffers })

-- turns are spent where the code spends them; want of memory says nothing
abbrev pub Stops : {A : Type 0} → Ending Outside A → Halt → Type 0
Stops o halt.Turns = o ≡ Spent
Stops o halt.Memory = ⊤

-- what the code leaves, what lanes share after it, and the turns left
abbrev pub Leaves : {A T : Type 0} → Ending Outside A → Result T Halt → A → Shared → Buffers → Type 0
Leaves o (Ok ran) a s buffers = o ≡ Done a (outside_of s buffers) s.turns
Leaves o (Err h) a s buffers = Stops o h

-- the same for each start that agrees with the memory afterwards
abbrev pub Runs : {A T : Type 0} → Action Outside A → Shared → Trace → Result T Halt → A → Shared → Trace → Type 0
Runs m s old result a s' new = (start : Buffers) → AgreesWith new start
    → Leaves (m (outside_of s (now_of old start)) s.turns) result a s' (now_of new start)

-- a memory forgets nothing, and where code reads no shared buffer it logs nothing
pub record Went (quiet : Bool) (old new : Trace) : Type 0 where
  pub grows : Grows old new
  pub silent : IsTrue quiet → new.log ≡ old.log

-- but where the memory is only dropped
abbrev pub Kept : {T : Type 0} → Bool → Trace → Result T Halt → Trace → Type 0
Kept quiet old (Ok ran) new = Went quiet old new
Kept quiet old (Err halt.Turns) new = Went quiet old new
Kept quiet old (Err halt.Memory) new = ⊤
