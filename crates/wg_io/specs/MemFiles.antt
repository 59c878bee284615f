-- Files in memory, as their callers see them. This is the project's own rule.
use Rattle.std.specs.Prelude.{ℕ, length, List, Option, None, Some, if◌then◌else◌}
use Rattle.wg_io.specs.Counts.{raised, taken_of, next_fails}
use Rattle.wg_io.specs.Named.{bytes_under}

-- named files, with the numbers of the reads that fail, how many reads there were, and the counts
pub record HeldFiles : Type 0 where
  pub files : List (List ℕ × List ℕ)
  pub fails : List ℕ
  pub reads : ℕ
  pub faults : ℕ
  pub taken : ℕ

-- what the next read of a name finds, or none where it fails
abbrev pub next_read : HeldFiles → List ℕ → Option (List ℕ)
next_read held name = if next_fails held.fails held.reads then None else bytes_under held.files name

-- the files after a read that found these bytes, or none
abbrev pub after_read : HeldFiles → Option (List ℕ) → ℕ → HeldFiles
after_read held None limit = record held { reads = raised held.reads 1; faults = raised held.faults 1 }
after_read held (Some bytes) limit =
    record held { reads = raised held.reads 1; taken = raised held.taken (taken_of (length bytes) limit) }
