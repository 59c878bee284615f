-- Counts of calls, of faults and of bytes, of 64 bits each. This is the project's own rule.
use Rattle.std.specs.Prelude.{ℕ, ◌+◌, ◌-◌, ◌^◌, ◌==◌, Bool, min, List}
use Rattle.std.specs.List.{list_any}

-- a count stands once it has reached this value
abbrev pub last_count : ℕ
last_count = 2 ^ 64 - 1

-- the count raised by n
abbrev pub raised : ℕ → ℕ → ℕ
raised count n = min (count + n) last_count

-- what is taken of a file of this length: all of it, but no more than one byte above the limit
abbrev pub taken_of : ℕ → ℕ → ℕ
taken_of size limit = min size (limit + 1)

-- whether the next call is one of those that fail, where so many calls were made
abbrev pub next_fails : List ℕ → ℕ → Bool
next_fails fails calls = list_any (λ n. n == calls) fails
