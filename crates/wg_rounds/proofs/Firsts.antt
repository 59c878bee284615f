-- The first of a list of launches out and the others, and that some outcome is not none.
use Rattle.std.proofs.Common.{◌≡◌, List, [], ◌∷◌, Option, Some, None}
use Rattle.wg_machine.specs.LaunchMeaning.{Outcome}
use Rattle.wg_standing.specs.declared.pending.Pending.{Pending}

abbrev pub rest_of : List Pending → List Pending
rest_of [] = []
rest_of (o ∷ os) = os

abbrev pub head_or : Pending → List Pending → Pending
head_or d [] = d
head_or d (o ∷ os) = o

pub some_not_none : (a : Option Outcome) (o : Outcome) → a ≡ Some o → a ≡ None → ⊥
some_not_none a o e f = cc
