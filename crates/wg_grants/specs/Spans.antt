-- Runs of items in a list, one behind another. This project's own.
use Rattle.std.specs.Prelude.{ℕ, ◌+◌, ◌≤◌, List, [], ◌∷◌, map, take, drop}
use Rattle.wg_grants.specs.declared.spans.Span.{Span}

-- the items of a span
abbrev pub part_of : {A : Type 0} → Span → List A → List A
part_of s xs = take s.count (drop s.first xs)

-- the items of each span
abbrev pub parts_of : {A : Type 0} → List Span → List A → List (List A)
parts_of spans xs = map (λ (s : Span). part_of s xs) spans

-- no span begins before the one before it ends, and the last ends within so many items
abbrev pub LieFrom : ℕ → List Span → ℕ → Type 0
LieFrom at [] end = at ≤ end
LieFrom at (s ∷ spans) end = (at ≤ s.first) × LieFrom (s.first + s.count) spans end
