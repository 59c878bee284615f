-- A sink in memory, as its callers see it. This is the project's own rule.
use Rattle.std.specs.Prelude.{◌++◌, ℕ, List}
use Rattle.wg_io.specs.Counts.{raised}

-- what was written, with the numbers of the writes that fail, how many writes there were, and the count
pub record HeldText : Type 0 where
  pub bytes : List ℕ
  pub fails : List ℕ
  pub writes : ℕ
  pub faults : ℕ

-- the text after a write of these bytes
abbrev pub after_write : HeldText → List ℕ → HeldText
after_write held bytes = record held { bytes = held.bytes ++ bytes; writes = raised held.writes 1 }

-- the text after a write that failed
abbrev pub after_fault : HeldText → HeldText
after_fault held = record held { writes = raised held.writes 1; faults = raised held.faults 1 }
