-- Files in memory that never fail, as their callers see them. This is the project's own rule.
use Rattle.std.specs.Prelude.{ℕ, List, [], unwrap_or}
use Rattle.wg_io.specs.Named.{bytes_under}

-- named files, with the count of the bytes that were taken
pub record CountedFiles : Type 0 where
  pub files : List (List ℕ × List ℕ)
  pub taken : ℕ

-- the bytes under a name, which are none where the name is not there
abbrev pub bytes_or_empty : CountedFiles → List ℕ → List ℕ
bytes_or_empty counted name = unwrap_or (bytes_under counted.files name) []
