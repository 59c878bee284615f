-- Logs of words read. This project's own.
use Rattle.std.specs.Prelude.{ℕ, ◌≤◌, ◌==◌, ◌&&◌, Bool, List, nat_lt, slice_index, count_by}
use Rattle.wg_machine.specs.declared.memory.Seen.{Seen}

abbrev pub is_seen : ℕ → ℕ → Seen → Bool
is_seen b w s = (s.buffer == b) && (s.word == w)

-- a logged word lies in its buffer
abbrev pub is_inside : List ℕ → Seen → Bool
is_inside lengths s = nat_lt s.word (slice_index lengths s.buffer)

-- each word is logged at most once
abbrev pub IsLoggedOnce : List Seen → Type 0
IsLoggedOnce log = (b w : ℕ) → count_by (is_seen b w) log ≤ 1
