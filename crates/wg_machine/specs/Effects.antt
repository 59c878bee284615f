-- What a call of a memory does to what it remembers, and to the buffers now of each start that agrees with it afterwards.
use Rattle.std.specs.Prelude.{◌≡◌, ◌⊎◌, ℕ, List, [], ◌∷◌, ◌++◌}
use Rattle.wg_machine.specs.declared.memory.Atomic.{Atomic}
use Rattle.wg_machine.specs.declared.memory.Seen.{Seen}
use Rattle.wg_machine.specs.declared.memory.Write.{Write}
use Rattle.wg_machine.specs.Buffers.{Buffers, word_at, with_word, written, exchanged}
use Rattle.wg_machine.specs.Agreement.{Trace, AgreesWith, now_of}

-- nothing is taken back
pub record Grows (old new : Trace) : Type 0 where
  pub over : new.over ≡ old.over
  pub log : (more : List Seen) × (new.log ≡ old.log ++ more)
  pub writes : (more : List Write) × (new.writes ≡ old.writes ++ more)

-- at most the named word is logged
abbrev pub LogsAtMost : ℕ → ℕ → List Seen → List Seen → Type 0
LogsAtMost b w old new =
    (new ≡ old) ⊎ ((value : ℕ) × (new ≡ old ++ record { buffer = b; word = w; value = value } ∷ []))

pub record OnlyLogs (b w : ℕ) (old new : Trace) : Type 0 where
  pub over : new.over ≡ old.over
  pub log : LogsAtMost b w old.log new.log
  pub writes : new.writes ≡ old.writes

pub record OnlyWrites (old new : Trace) : Type 0 where
  pub over : new.over ≡ old.over
  pub log : new.log ≡ old.log
  pub writes : (more : List Write) × (new.writes ≡ old.writes ++ more)

pub record LogsAndWrites (b w : ℕ) (old new : Trace) : Type 0 where
  pub over : new.over ≡ old.over
  pub log : LogsAtMost b w old.log new.log
  pub writes : (more : List Write) × (new.writes ≡ old.writes ++ more)

-- a read gives the word of the buffers now
abbrev pub Reads : Trace → Trace → ℕ → ℕ → ℕ → Type 0
Reads old new b w value = (start : Buffers) → AgreesWith new start → value ≡ word_at (now_of old start) b w

-- a write changes the buffers now
abbrev pub Writes : Trace → Trace → Write → Type 0
Writes old new w = (start : Buffers) → AgreesWith new start → now_of new start ≡ written (now_of old start) w

-- an interlocked form gives the old word, and leaves its own
pub record Exchanges (old new : Trace) (op : Atomic) (b w compare value found : ℕ) : Type 0 where
  pub found_is : Reads old new b w found
  pub leaves : (start : Buffers) → AgreesWith new start
      → now_of new start ≡ with_word (now_of old start) b w (exchanged op found compare value)
