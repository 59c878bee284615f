-- Bodies that only add to the shared buffers, and what a record's whole tree of launches adds. This project's own.
use Rattle.std.specs.Prelude.{◌≡◌, ⊤, ℕ, ◌+◌, ◌%◌, ◌^◌, ◌<◌, false, List, [], ◌∷◌, length, map, Option, Some, None, replicate}
use Rattle.wg_machine.specs.declared.shape.Shape.{Shape}
use Rattle.wg_machine.specs.declared.launch.Record.{Record}
use Rattle.wg_machine.specs.declared.launch.Launch.{Launch}
use Rattle.wg_machine.specs.Buffers.{Buffers, lengths_of, buffer_at, word_at}
use Rattle.wg_machine.specs.Grids.{grid_of}
use Rattle.wg_machine.specs.LaunchMeaning.{Meaning, Outcome, FitsShape}
use Rattle.wg_machine.specs.Units.{kind_at, is_coalescing, shared_at}

-- buffers of these lengths, all of zeros
abbrev pub zero_buffers : List ℕ → Buffers
zero_buffers lengths = map (λ n. replicate n 0) lengths

-- Each word is one of 32 bits: a definition's numbers have no bound of their own.
abbrev pub AreWords : Buffers → Type 0
AreWords buffers = (b w : ℕ) → word_at buffers b w < 2 ^ 32

-- Each word in range of `after` is that of `before` with that of `change` added; the lengths stay.
pub record IsAdded (before change after : Buffers) : Type 0 where
  pub lengths : lengths_of after ≡ lengths_of before
  pub words : (b w : ℕ) → w < length (buffer_at before b) → word_at after b w ≡ (word_at before b w + word_at change b w) % 2 ^ 32

-- what a launch does on zeros is what it adds on buffers
pub record OnlyAdds (before : Buffers) (on_zeros on_before : Outcome) : Type 0 where
  pub sent : on_before.sent ≡ on_zeros.sent
  pub denied : on_before.denied ≡ on_zeros.denied
  pub turns : on_before.turns ≡ on_zeros.turns
  pub buffers : IsAdded before on_zeros.buffers on_before.buffers

-- the same verdict, and only additions
abbrev pub DoesTheSame : Buffers → Option Outcome → Option Outcome → Type 0
DoesTheSame before None None = ⊤
DoesTheSame before (Some on_zeros) (Some on_before) = OnlyAdds before on_zeros on_before
DoesTheSame before None (Some o) = ⊥
DoesTheSame before (Some o) None = ⊥

abbrev pub unnumbered_record : Record → Record
unnumbered_record r = record { number = 0; words = r.words }

-- a launch without the numbers of its records
abbrev pub unnumbered_launch : Launch → Launch
unnumbered_launch l = record { unit = l.unit; records = map unnumbered_record l.records; group = l.group; grid = l.grid; last = false }

-- Additive bodies: no unit coalesces, none is shared, and a launch does on all buffers what it does on zeros of their
-- lengths, whatever the numbers of its records are, but for the words that it adds to.
pub record IsAdditive (shape : Shape) (made : Meaning) : Type 0 where
  pub none_coalesces : (u : ℕ) → is_coalescing (kind_at shape u) ≡ false
  pub none_shared : (u : ℕ) → shared_at shape u ≡ false
  pub adds : (l : Launch) (m : Buffers) (turns : ℕ) → FitsShape shape l → l.last ≡ false → AreWords m
      → DoesTheSame m (made (unnumbered_launch l) (zero_buffers (lengths_of m)) turns) (made l m turns)

-- the launch of one group of a record, without its number
abbrev pub group_launch : Shape → ℕ → List ℕ → ℕ → Launch
group_launch shape unit words place =
    record {
      unit = unit;
      records = record { number = 0; words = words } ∷ [];
      group = place;
      grid = grid_of (kind_at shape unit) words;
      last = false;
    }
