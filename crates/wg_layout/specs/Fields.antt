-- The words of a field, which stand in a range of a list of words. An index outside the field reads 0 and writes nothing; own.
use Rattle.std.specs.Prelude.{ℕ, ◌+◌, ◌-◌, nat_lt, if◌then◌else◌, List, slice_index, slice_set}

abbrev pub field_word : List ℕ → ℕ → ℕ → ℕ → ℕ
field_word words from to index = if nat_lt index (to - from) then slice_index words (from + index) else 0

abbrev pub with_field_word : List ℕ → ℕ → ℕ → ℕ → ℕ → List ℕ
with_field_word words from to index value = if nat_lt index (to - from) then slice_set words (from + index) value else words
