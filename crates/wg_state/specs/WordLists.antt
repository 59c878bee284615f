-- Lists of words: those of variables, of records and of buffers.
use Rattle.std.specs.Prelude.{ℕ, List, [], replicate, slice_get, unwrap_or}

abbrev pub zeros : ℕ → List ℕ
zeros n = replicate n 0

-- a list by its number; an unknown one has no words
abbrev pub list_at : List (List ℕ) → ℕ → List ℕ
list_at lists at = unwrap_or (slice_get lists at) []
