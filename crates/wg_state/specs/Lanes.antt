-- The lanes of a thread group, by number (HLSL, `numthreads` and the system values of compute shaders).
use Rattle.std.specs.Prelude.{ℕ, ◌*◌, ◌/◌, ◌%◌, List, [], ◌∷◌, slice_index}
use Rattle.wg_words.specs.Words.{sum_of, product_of}

abbrev pub lanes_in : List ℕ → ℕ
lanes_in threads = slice_index threads 0 * slice_index threads 1 * slice_index threads 2

-- the coordinates of a number in a box of so many, x running fastest: of a lane in its group, of a group in its grid
abbrev pub coordinates_of : List ℕ → ℕ → List ℕ
coordinates_of box number =
    number % slice_index box 0 ∷ number / slice_index box 0 % slice_index box 1 ∷ number / (slice_index box 0 * slice_index box 1) ∷ []

abbrev pub dispatch_component : List ℕ → List ℕ → ℕ → ℕ → ℕ
dispatch_component group threads lane k =
    sum_of 32 (product_of 32 (slice_index group k) (slice_index threads k)) (slice_index (coordinates_of threads lane) k)

-- `SV_DispatchThreadID = SV_GroupID * NumThreads + SV_GroupThreadID`, component by component
abbrev pub dispatch_of : List ℕ → List ℕ → ℕ → List ℕ
dispatch_of group threads lane =
    dispatch_component group threads lane 0 ∷ dispatch_component group threads lane 1 ∷ dispatch_component group threads lane 2 ∷ []
