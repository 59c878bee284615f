-- Files by their names. This is the project's own rule.
use Rattle.std.specs.Prelude.{ℕ, List, Option, map, string_bytes}
use Rattle.std.specs.Map.{lookup}
use Rattle.std.specs.Str.{bytes_eq}
use Rattle.wg_io.specs.declared.named.NamedFile.{NamedFile}

-- a name with its bytes
abbrev pub pair_of : NamedFile → List ℕ × List ℕ
pair_of file = (string_bytes file.name, file.bytes.items)

-- names with their bytes, in the order in which they were added
abbrev pub pairs_of : List NamedFile → List (List ℕ × List ℕ)
pairs_of files = map pair_of files

-- the bytes under a name, of two equal names the first
abbrev pub bytes_under : List (List ℕ × List ℕ) → List ℕ → Option (List ℕ)
bytes_under files name = lookup (λ other. bytes_eq other name) files
