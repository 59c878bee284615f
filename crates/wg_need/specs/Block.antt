-- Rows that lie one after the other in one block, by their ends. This project's own.
use Rattle.std.specs.Prelude.{◌≡◌, ℕ, ◌-◌, ◌≤◌, List, [], ◌∷◌, take, drop}
use Rattle.wg_need.specs.declared.table.Need.{Need}

-- the rows from a place on, each up to its end
abbrev pub rows_from : ℕ → List ℕ → List Need → List (List Need)
rows_from start [] needs = []
rows_from start (end ∷ ends) needs = take (end - start) (drop start needs) ∷ rows_from end ends needs

-- no row ends before it begins, and the last at the block's end
abbrev pub AreEnds : ℕ → List ℕ → ℕ → Type 0
AreEnds start [] count = start ≡ count
AreEnds start (end ∷ ends) count = (start ≤ end) × AreEnds end ends count
