-- Launches that are out, on a bag. This project's own.
use Rattle.std.specs.Prelude.{◌≡◌, ⊤, ℕ, true, false, List, [], ◌∷◌, None}
use Rattle.wg_words.specs.Each.{Each}
use Rattle.wg_machine.specs.declared.shape.Shape.{Shape}
use Rattle.wg_machine.specs.declared.launch.Launch.{Launch}
use Rattle.wg_machine.specs.declared.launch.Live.{Live}
use Rattle.wg_machine.specs.Grids.{same_group}
use Rattle.wg_machine.specs.Step.{Allows, has_number, launch_in, left_after, numbers_of}
use Rattle.wg_standing.specs.declared.pending.Pending.{Pending}

-- the launch of now of a launch out: with the words, the grid and the `last` that a bag gives it
abbrev pub launch_now : Shape → List Live → Pending → Launch
launch_now shape bag o = launch_in shape bag o.unit o.at o.inputs

-- the bag after a launch took its group, with the words as they are
abbrev pub after_one : Pending → List Live → List Live
after_one o bag = left_after o.inputs o.at None bag

-- what is not yet opened: the bag after all launches out took theirs
abbrev pub unopened : List Pending → List Live → List Live
unopened [] bag = bag
unopened (o ∷ outs) bag = unopened outs (after_one o bag)

-- the two do not take one group of one record
abbrev pub IsApart : Pending → Pending → Type 0
IsApart p q = (n : ℕ) → has_number p.inputs n ≡ true → has_number q.inputs n ≡ true → same_group p.at q.at ≡ false

abbrev pub ApartFromAll : Pending → List Pending → Type 0
ApartFromAll p outs = Each (IsApart p) outs

-- no two launches out take one group of one record
abbrev pub AllApart : List Pending → Type 0
AllApart [] = ⊤
AllApart (o ∷ outs) = ApartFromAll o outs × AllApart outs

-- the bag allows the launch of now, which takes the records that are named
pub record IsAllowed (shape : Shape) (bag : List Live) (o : Pending) : Type 0 where
  pub allowed : Allows shape bag (launch_now shape bag o) o.at
  pub named : numbers_of (launch_now shape bag o).records ≡ o.inputs

abbrev pub AllAllowed : Shape → List Live → List Pending → Type 0
AllAllowed shape bag outs = Each (IsAllowed shape bag) outs
