-- The fields of a line.
use Rattle.std.proofs.Common.{◌≡◌, ◌≢◌, ℕ, Bool, true, false, cond, List, [], ◌∷◌, ◌++◌, Option, Some, None, refl}
use Rattle.std.specs.Prelude.{◌==◌}
use Rattle.std.specs.Option.{option_map}
use Rattle.std.specs.List.{onto_first}
use Rattle.wg_journal.specs.Reading.{split_fields}

-- what was passed before a cut
abbrev pub with_front : List ℕ → Option (List ℕ × List ℕ) → Option (List ℕ × List ℕ)
with_front front None = None
with_front front (Some r) = Some (front ++ r.0, r.1)

pub some_is : {X : Type 0} (x y : X) → Some x ≡ Some y → x ≡ y
some_is x y e = cc

pub front_none : (r : Option (List ℕ × List ℕ)) → with_front [] r ≡ r
front_none None = refl
front_none (Some r) = refl

pub fields_some : (text : List ℕ) → split_fields text ≢ []
fields_some [] e = absurd cc
fields_some (c ∷ text) e = choice (c == 32) (split_fields text) e
  where
    choice : (b : Bool) (fields : List (List ℕ)) → cond b ([] ∷ fields) (onto_first c fields) ≡ [] → ⊥
    choice true fields h = absurd cc
    choice false [] h = absurd cc
    choice false (f ∷ fields) h = absurd cc

-- the words so far, and those that are left
abbrev pub after_words : List ℕ → Option (List ℕ) → Option (List ℕ)
after_words front words = option_map (λ (ws : List ℕ). front ++ ws) words
