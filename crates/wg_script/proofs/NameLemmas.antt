-- The maps from names, filled from the last.
use Rattle.std.proofs.Common.{◌≡◌, ℕ, ◌+◌, ◌^◌, ◌<◌, Bool, true, false, List, ◌∷◌, length, take, drop, get_or, drop-cons, add-one, Option, Some, refl, sym, ap, ◌∙◌, arith}
use Rattle.std.specs.Prelude.{◌==◌, ◌&&◌, if◌then◌else◌}
use Rattle.std.specs.Option.{option_map}
use Rattle.std.specs.Int.{w32, to_be_bytes, from_be_bytes}
use Rattle.std.specs.Str.{bytes_eq}
use Rattle.std.proofs.lemmas.Bool.Decides.{nat_tests}
use Rattle.std.proofs.lemmas.Nat.{from_be_bytes-to_be_bytes_4}
use Rattle.std.proofs.lemmas.Slice.Eq.{bytes_eq-Decides}
use Rattle.wg_script.specs.Naming.{first_from}
use Rattle.wg_script.specs.Names.{node_key}

-- ---- the first that passes

pub first_here : {A : Type 0} (passes : A → Bool) (xs : List A) (i : ℕ) (x : A) → i < length xs → x ≡ get_or xs i x → passes x ≡ true → first_from passes i (drop i xs) ≡ Some i
first_here passes xs i x h is t =
    let test : passes (get_or xs i x) ≡ true = ap passes (sym is) ∙ t in
    rw (drop-cons xs i x, test) refl

pub first_later : {A : Type 0} (passes : A → Bool) (xs : List A) (i : ℕ) (x : A) → i < length xs → x ≡ get_or xs i x → passes x ≡ false → first_from passes i (drop i xs) ≡ first_from passes (i + 1) (drop (i + 1) xs)
first_later passes xs i x h is t =
    let test : passes (get_or xs i x) ≡ false = ap passes (sym is) ∙ t in
    let here : drop i xs ≡ get_or xs i x ∷ drop (i + 1) xs = drop-cons xs i x h ∙ ap (λ (k : ℕ). get_or xs i x ∷ drop k xs) (sym (add-one i)) in
    rw (here, test) refl

-- what is found of the first that passes, with one more in front
pub first_more : {A B : Type 0} (passes : A → Bool) (f : ℕ → B) (xs : List A) (i : ℕ) (x : A) (old : Option B) → i < length xs → x ≡ get_or xs i x → old ≡ option_map f (first_from passes (i + 1) (drop (i + 1) xs))
    → (if passes x then Some (f i) else old) ≡ option_map f (first_from passes i (drop i xs))
first_more passes f xs i x old h is e = choice (passes x) refl
  where
    choice : (b : Bool) → passes x ≡ b → (if b then Some (f i) else old) ≡ option_map f (first_from passes i (drop i xs))
    choice true t = sym (ap (option_map f) (first_here passes xs i x h is t))
    choice false t = e ∙ sym (ap (option_map f) (first_later passes xs i x h is t))

-- the same without what is found there
pub place_more : {A : Type 0} (passes : A → Bool) (xs : List A) (i : ℕ) (x : A) (old : Option ℕ) → i < length xs → x ≡ get_or xs i x → old ≡ first_from passes (i + 1) (drop (i + 1) xs)
    → (if passes x then Some i else old) ≡ first_from passes i (drop i xs)
place_more passes xs i x old h is e = choice (passes x) refl
  where
    choice : (b : Bool) → passes x ≡ b → (if b then Some i else old) ≡ first_from passes i (drop i xs)
    choice true t = sym (first_here passes xs i x h is t)
    choice false t = e ∙ sym (first_later passes xs i x h is t)

-- ---- a node's key

same_index : (i j : ℕ) → i < 2 ^ 32 → j < 2 ^ 32 → to_be_bytes w32 i ≡ to_be_bytes w32 j → i ≡ j
same_index i j p q e = sym (from_be_bytes-to_be_bytes_4 i p) ∙ (ap (from_be_bytes w32) e ∙ from_be_bytes-to_be_bytes_4 j q)

key_tells : (a : List ℕ) (i : ℕ) (b : List ℕ) (j : ℕ) → i < 2 ^ 32 → j < 2 ^ 32 → node_key a i ≡ node_key b j → (a ≡ b) × (i ≡ j)
key_tells a i b j p q e = (ap (drop 4) e, same_index i j p q (ap (take 4) e))

pub same_key : (a : List ℕ) (i : ℕ) (b : List ℕ) (j : ℕ) → i < 2 ^ 32 → j < 2 ^ 32 → bytes_eq (node_key a i) (node_key b j) ≡ (bytes_eq a b && (i == j))
same_key a i b j p q = choice (bytes_eq (node_key a i) (node_key b j)) refl (bytes_eq a b) refl (i == j) refl
  where
    choice : (k : Bool) → bytes_eq (node_key a i) (node_key b j) ≡ k → (l : Bool) → bytes_eq a b ≡ l → (m : Bool) → (i == j) ≡ m → k ≡ (l && m)
    choice true r true s true t = refl
    choice true r true s false t =
        let is = (key_tells a i b j p q ((bytes_eq-Decides (node_key a i) (node_key b j)).0 r)).1 in
        absurd (grind (arith, nat_tests))
    choice true r false s m t =
        let is = (key_tells a i b j p q ((bytes_eq-Decides (node_key a i) (node_key b j)).0 r)).0 in
        let y : bytes_eq a b ≡ true = (bytes_eq-Decides a b).1 is in
        absurd cc
    choice false r true s true t =
        let name = (bytes_eq-Decides a b).0 s in
        let index : i ≡ j = grind (arith, nat_tests) in
        let y : bytes_eq (node_key a i) (node_key b j) ≡ true = (bytes_eq-Decides (node_key a i) (node_key b j)).1 (ap (λ (n : List ℕ). node_key n i) name ∙ ap (node_key b) index) in
        absurd cc
    choice false r true s false t = refl
    choice false r false s m t = refl
