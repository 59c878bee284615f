-- What is left of the entries while a core opens them from the front. This project's own.
use Rattle.std.specs.Prelude.{◌≡◌, ⊤, ℕ, List, [], ◌∷◌, ◌++◌}
use Rattle.wg_machine.specs.declared.launch.Live.{Live}

-- the same record, its words and groups apart
pub record IsSameRecord (x y : Live) : Type 0 where
  pub number : y.number ≡ x.number
  pub unit : y.unit ≡ x.unit
  pub grid : y.grid ≡ x.grid

-- the records one by one, with all their groups; their words may be new
abbrev pub AreUntouched : List Live → List Live → Type 0
AreUntouched [] [] = ⊤
AreUntouched (x ∷ all) (y ∷ left) = IsSameRecord x y × (y.groups ≡ x.groups) × AreUntouched all left
AreUntouched [] (y ∷ left) = ⊥
AreUntouched (x ∷ all) [] = ⊥

-- the groups without some of the first
abbrev pub IsEndOf : List (List ℕ) → List (List ℕ) → Type 0
IsEndOf all left = (opened : List (List ℕ)) × (all ≡ opened ++ left)

-- the records one by one, of the first perhaps some groups opened
abbrev pub AreNext : List Live → List Live → Type 0
AreNext [] [] = ⊤
AreNext (x ∷ all) (y ∷ left) = IsSameRecord x y × IsEndOf x.groups y.groups × AreUntouched all left
AreNext [] (y ∷ left) = ⊥
AreNext (x ∷ all) [] = ⊥

-- An end of a list of records, of which the first may be opened in part, in rising order of group.
pub record IsLeftOf (all left : List Live) : Type 0 where
  pub opened : List Live
  pub rest : List Live
  pub parts : all ≡ opened ++ rest
  pub next : AreNext rest left
