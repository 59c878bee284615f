-- What a lane's code works on, and its registers. Own.
use Rattle.std.specs.Prelude.{ℕ, ◌+◌, ◌-◌, Bool, nat_lt, if◌then◌else◌, List, [], ◌∷◌, map, slice_index, slice_set}
use Rattle.wg_machine.specs.declared.shape.Output.{Output}
use Rattle.wg_state.specs.Turns.{Action, ◌>>◌, pure, read, change}
use Rattle.wg_state.specs.declared.world.World.{World}
use Rattle.wg_code.specs.declared.code.Function.{Function}
use Rattle.wg_code.specs.declared.code.Handle.{Handle}

-- what stays the same while a lane's code runs: the functions, how many buffers the graph has, the node's handles, its unit's outputs and
-- level, the lane, its ten system values, and whether the launch is the last of a shared record
pub record Around : Type 0 where
  pub functions : List Function
  pub buffers : ℕ
  pub handles : List Handle
  pub outputs : List Output
  pub level : ℕ
  pub lane : ℕ
  pub numbers : List ℕ
  pub last : Bool

-- the lane's registers, the groupshared words, and the rest that lanes share; the rest has no groupshared variables
pub record Site : Type 0 where
  pub registers : List ℕ
  pub shared : List ℕ
  pub world : World

-- how operations end: they went through, or a `Break`, a `Continue`, or an operation that named what is not there stopped them
pub data Exit : Type 0 where
  Through : Exit
  Out : Exit
  Again : Exit
  Wrong : Exit

abbrev pub get : ℕ → Action Site ℕ
get r = read (λ f. slice_index f.registers r)

abbrev pub put : ℕ → ℕ → Action Site (Unit {0})
put r v = change (λ f. record f { registers = slice_set f.registers r v })

abbrev pub puts : ℕ → ℕ → Action Site Exit
puts d v = put d v >> pure Through

abbrev pub changes : (Site → Site) → Action Site Exit
changes f = change f >> pure Through

abbrev pub get_all : List ℕ → Site → List ℕ
get_all registers f = map (λ r. slice_index f.registers r) registers

-- the words into the registers, in order, as far as there are words
abbrev pub set_all : List ℕ → List ℕ → List ℕ → List ℕ
set_all words [] values = words
set_all words (r ∷ rest) [] = words
set_all words (r ∷ rest) (v ∷ values) = set_all (slice_set words r v) rest values

-- ---- a word of a range, by an index; outside it reads 0 and writes nothing

abbrev pub ranged : List ℕ → ℕ → ℕ → ℕ → ℕ
ranged words from to index = if nat_lt index (to - from) then slice_index words (from + index) else 0

abbrev pub with_ranged : List ℕ → ℕ → ℕ → ℕ → ℕ → List ℕ
with_ranged words from to index v = if nat_lt index (to - from) then slice_set words (from + index) v else words
