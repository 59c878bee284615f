-- What a launch's memory remembers, and the start buffers that agree with it. This project's own.
use Rattle.std.specs.Prelude.{◌≡◌, ℕ, ◌==◌, Bool, List, IsTrue}
use Rattle.std.specs.List.{list_all}
use Rattle.wg_machine.specs.declared.memory.Seen.{Seen}
use Rattle.wg_machine.specs.declared.memory.Write.{Write}
use Rattle.wg_machine.specs.Buffers.{Buffers, lengths_of, word_at, all_written}

abbrev pub has_seen : Buffers → Seen → Bool
has_seen buffers s = word_at buffers s.buffer s.word == s.value

-- Buffers agree with lengths and a log of words read: they have these lengths and these words.
pub record Agrees (sizes : List ℕ) (seen : List Seen) (buffers : Buffers) : Type 0 where
  pub lengths : lengths_of buffers ≡ sizes
  pub log : IsTrue (list_all (has_seen buffers) seen)

-- the buffers over which a memory was made, the words read, the writes
pub record Trace : Type 0 where
  pub over : Buffers
  pub log : List Seen
  pub writes : List Write

-- start buffers agree with what a memory knows
abbrev pub AgreesWith : Trace → Buffers → Type 0
AgreesWith trace start = Agrees (lengths_of trace.over) trace.log start

-- the buffers now of a start
abbrev pub now_of : Trace → Buffers → Buffers
now_of trace start = all_written start trace.writes
