-- The pieces of a text between the bytes that cut it.
use Rattle.std.proofs.Common.{◌≡◌, ◌≢◌, ℕ, Bool, true, false, cond, List, [], ◌∷◌, Some}
use Rattle.std.specs.List.{slice_split, onto_first}

pub some_is : {X : Type 0} (x y : X) → Some x ≡ Some y → x ≡ y
some_is x y e = cc

pub pieces_some : (at : ℕ → Bool) (text : List ℕ) → slice_split at text ≢ []
pieces_some at [] e = absurd cc
pieces_some at (c ∷ text) e = choice (at c) (slice_split at text) e
  where
    choice : (b : Bool) (pieces : List (List ℕ)) → cond b ([] ∷ pieces) (onto_first c pieces) ≡ [] → ⊥
    choice true pieces h = absurd cc
    choice false [] h = absurd cc
    choice false (f ∷ pieces) h = absurd cc
