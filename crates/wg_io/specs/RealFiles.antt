-- The files of the system, as their callers see them. This is the project's own rule.
use Rattle.std.specs.Prelude.{ℕ}

-- how many reads failed, and how many bytes were taken
pub record FileCounts : Type 0 where
  pub faults : ℕ
  pub taken : ℕ
