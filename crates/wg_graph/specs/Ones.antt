-- The places at which words are 1. This project's own.
use Rattle.std.specs.Prelude.{ℕ, ◌==◌, List, filter, length, slice_index}
use Rattle.std.specs.List.{range_with_len}

abbrev pub places_of_ones : List ℕ → List ℕ
places_of_ones words = filter (λ at. slice_index words at == 1) (range_with_len 0 (length words))
