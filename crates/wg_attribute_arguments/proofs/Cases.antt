-- Capital letters as small ones, and tests by what they tell.
use Rattle.std.proofs.Common.{◌≡◌, ℕ, suc, ◌+◌, ◌<◌, ◌≤◌, Bool, true, false, cond, List, [], ◌∷◌, map, refl, sym, ap, ap₂, ◌∙◌, ⊎_elim, arith}
use Rattle.std.specs.Prelude.{◌↔◌, ◌&&◌, nat_le, nat_lt}
use Rattle.std.specs.Bool.{IsTrue, Decides}
use Rattle.std.specs.Char.{to_ascii_lowercase}
use Rattle.std.specs.Str.{bytes_eq}
use Rattle.std.proofs.lemmas.Bool.{cases_lt, le-leb, lt-leb}
use Rattle.std.proofs.lemmas.Slice.Eq.{bytes_eq-Decides}
use Rattle.wg_typing.specs.Named.{small, is_same_name}

small_is : (c : ℕ) → small c ≡ to_ascii_lowercase c
small_is c = ⊎_elim below (λ l. ⊎_elim (inside l) (above l) (cases_lt c 91)) (cases_lt c 65)
  where
    below : c < 65 → small c ≡ to_ascii_lowercase c
    below h = ap (λ t. cond (t && nat_le c 90) (c + 32) c) (lt-leb 65 c h) ∙ sym (ap (λ t. cond t c (cond (nat_lt c 91) (c + 32) c)) (le-leb (suc c) 65 h))

    inside : 65 ≤ c → c < 91 → small c ≡ to_ascii_lowercase c
    inside l h =
        ap₂ (λ s t. cond (s && t) (c + 32) c) (le-leb 65 c l) (le-leb c 90 (omega arith))
        ∙ sym (ap₂ (λ s t. cond s c (cond t (c + 32) c)) (lt-leb (suc c) 65 (omega arith)) (le-leb (suc c) 91 h))

    above : 65 ≤ c → 91 ≤ c → small c ≡ to_ascii_lowercase c
    above l h =
        ap₂ (λ s t. cond (s && t) (c + 32) c) (le-leb 65 c l) (lt-leb c 90 (omega arith))
        ∙ sym (ap₂ (λ s t. cond s c (cond t (c + 32) c)) (lt-leb (suc c) 65 (omega arith)) (lt-leb (suc c) 91 (omega arith)))

pub smalls_are : (a : List ℕ) → map small a ≡ map to_ascii_lowercase a
smalls_are [] = refl
smalls_are (c ∷ rest) = ap₂ (λ x xs. x ∷ xs) (small_is c) (smalls_are rest)

decided : {P : Type 0} (r t : Bool) → (IsTrue r ↔ P) → Decides t P → r ≡ t
decided true t h d = sym (d.1 (h.0 refl))
decided false true h d = h.1 (d.0 refl)
decided false false h d = refl

pub same_names : (r : Bool) (a b : List ℕ) → (IsTrue r ↔ (map to_ascii_lowercase a ≡ map to_ascii_lowercase b)) → r ≡ is_same_name a b
same_names r a b h =
    decided r (bytes_eq (map to_ascii_lowercase a) (map to_ascii_lowercase b)) h (bytes_eq-Decides (map to_ascii_lowercase a) (map to_ascii_lowercase b))
    ∙ sym (ap₂ bytes_eq (smalls_are a) (smalls_are b))
