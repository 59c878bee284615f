-- Lists whose items are changed one after another.
use Rattle.std.proofs.Common.{◌≡◌, ℕ, zero, suc, ◌+◌, ◌≤◌, Bool, true, false, List, [], ◌∷◌, ◌++◌, length, map, refl, ap, sym, ◌∙◌, subst, arith, None, Some, drop, take}
use Rattle.std.specs.Prelude.{if◌then◌else◌, ◌==◌, slice_get, slice_set}
use Rattle.std.proofs.lemmas.Bool.Decides.{nat_tests}
use Rattle.wg_words.specs.Each.{Each}
use Rattle.wg_store.specs.declared.item.Item.{Item}
use Rattle.wg_store.specs.Items.{IsOnce, item_in, with_words}

pub get_same : (f : Item → Item) (xs : List Item) (i : ℕ) → slice_get (map f (take i xs) ++ drop i xs) i ≡ slice_get xs i
get_same f [] zero = refl
get_same f [] (suc i) = refl
get_same f (y ∷ xs) zero = refl
get_same f (y ∷ xs) (suc i) = get_same f xs i

-- the item at the place is changed, and all before it are
pub set_at : (f : Item → Item) (xs : List Item) (i : ℕ) (x : Item) → slice_get xs i ≡ Some x → slice_set (map f (take i xs) ++ drop i xs) i (f x) ≡ map f (take (i + 1) xs) ++ drop (i + 1) xs
set_at f [] i x e = absurd (cc)
set_at f (y ∷ xs) zero x e = ap (λ (z : Item). f z ∷ xs) (same y x e)
  where
    same : (y x : Item) → Some y ≡ Some x → x ≡ y
    same y x e = cc
set_at f (y ∷ xs) (suc i) x e =
    let z : suc i + 1 ≡ suc (i + 1) = omega arith in
    ap (λ (rest : List Item). f y ∷ rest) (set_at f xs i x e)
    ∙ ap (λ (k : ℕ). map f (take k (y ∷ xs)) ++ drop k (y ∷ xs)) (sym z)

pub long_at : (f : Item → Item) (xs : List Item) (i : ℕ) → length (map f (take i xs) ++ drop i xs) ≡ length xs
long_at f [] zero = refl
long_at f [] (suc i) = refl
long_at f (x ∷ xs) zero = refl
long_at f (x ∷ xs) (suc i) = ap suc (long_at f xs i)

pub all_at : (f : Item → Item) (xs : List Item) (n : ℕ) → length xs ≤ n → map f (take n xs) ++ drop n xs ≡ map f xs
all_at f [] zero h = refl
all_at f [] (suc n) h = refl
all_at f (x ∷ xs) zero h = absurd (omega arith)
all_at f (x ∷ xs) (suc n) h = ap (λ (rest : List Item). f x ∷ rest) (all_at f xs n (omega arith))

pub each_at : (P : Item → Type 0) (xs : List Item) (i : ℕ) (x : Item) → Each P xs → slice_get xs i ≡ Some x → P x
each_at P [] i x each e = absurd (cc)
each_at P (y ∷ xs) zero x each e = subst P (same y x e) each.0
  where
    same : (y x : Item) → Some y ≡ Some x → y ≡ x
    same y x e = cc
each_at P (y ∷ xs) (suc i) x each e = each_at P xs i x each.1 e

none_worded : (n : ℕ) (new : List ℕ) (xs : List Item) → item_in n xs ≡ None → with_words n new xs ≡ xs
none_worded n new [] e = refl
none_worded n new (x ∷ xs) e = go (x.number == n) refl e (none_worded n new xs)
  where
    go : (b : Bool) → (x.number == n) ≡ b → (if b then Some x else item_in n xs) ≡ None → (item_in n xs ≡ None → with_words n new xs ≡ xs) → (if b then record x { words = new } else x) ∷ with_words n new xs ≡ x ∷ xs
    go true q f rest = absurd (cc)
    go false q f rest = ap (λ (ys : List Item). x ∷ ys) (rest f)

pub words_none : (n : ℕ) (new : List ℕ) (xs : List Item) → item_in n xs ≡ None → xs ≡ with_words n new xs
words_none n new xs e = sym (none_worded n new xs e)

named_in : (n : ℕ) (xs : List Item) (y : Item) → item_in n xs ≡ Some y → (y.number == n) ≡ true
named_in n [] y e = absurd (cc)
named_in n (x ∷ xs) y e = go (x.number == n) refl e (named_in n xs y)
  where
    same : (x y : Item) → Some x ≡ Some y → x ≡ y
    same x y e = cc

    go : (b : Bool) → (x.number == n) ≡ b → (if b then Some x else item_in n xs) ≡ Some y → (item_in n xs ≡ Some y → (y.number == n) ≡ true) → (y.number == n) ≡ true
    go true q f rest = sym (ap (λ (z : Item). z.number == n) (same x y f)) ∙ q
    go false q f rest = rest f

missing : (n : ℕ) (zs : List Item) (j : ℕ) (y : Item) → slice_get zs j ≡ Some y → (y.number == n) ≡ true → item_in n zs ≡ None → ⊥
missing n [] j y there q none = absurd (cc)
missing n (z ∷ zs) j y there q none = go (z.number == n) refl j there none (λ k f g. missing n zs k y f q g)
  where
    same : (x y : Item) → Some x ≡ Some y → x ≡ y
    same x y e = cc

    other : Some z ≡ None → ⊥
    other e = absurd (cc)

    differ : true ≡ false → ⊥
    differ e = absurd (cc)

    go : (b : Bool) → (z.number == n) ≡ b → (j : ℕ) → slice_get (z ∷ zs) j ≡ Some y → (if b then Some z else item_in n zs) ≡ None → ((k : ℕ) → slice_get zs k ≡ Some y → item_in n zs ≡ None → ⊥) → ⊥
    go true p j f g rest = other g
    go false p zero f g rest = differ (sym q ∙ sym (ap (λ (x : Item). x.number == n) (same z y f)) ∙ p)
    go false p (suc k) f g rest = rest k f g

-- the first record with the number is the only one
pub words_set : (n : ℕ) (new : List ℕ) (xs : List Item) (i : ℕ) (x : Item) → IsOnce n xs → slice_get xs i ≡ item_in n xs → slice_get xs i ≡ Some x → slice_set xs i (record x { words = new }) ≡ with_words n new xs
words_set n new [] i x once found there = absurd (cc)
words_set n new (y ∷ xs) i x once found there = go (y.number == n) refl i found there (λ j f. words_set n new xs j x once.1 f)
  where
    same : (y x : Item) → Some y ≡ Some x → y ≡ x
    same y x e = cc

    differ : true ≡ false → ⊥
    differ e = absurd (cc)

    go : (b : Bool) → (y.number == n) ≡ b → (i : ℕ) → slice_get (y ∷ xs) i ≡ (if b then Some y else item_in n xs) → slice_get (y ∷ xs) i ≡ Some x
        → ((j : ℕ) → slice_get xs j ≡ item_in n xs → slice_get xs j ≡ Some x → slice_set xs j (record x { words = new }) ≡ with_words n new xs)
        → slice_set (y ∷ xs) i (record x { words = new }) ≡ (if b then record y { words = new } else y) ∷ with_words n new xs
    go true q zero f e rest = ap (λ (z : Item). (let w : Item = record z { words = new } in w ∷ xs)) (sym (same y x e)) ∙ ap (λ (ys : List Item). (let w : Item = record y { words = new } in w ∷ ys)) (sym (none_worded n new xs (once.0 (grind (arith, nat_tests)))))
    go false q (suc j) f e rest = ap (λ (ys : List Item). y ∷ ys) (rest j f e)
    go true q (suc j) f e rest = absurd (missing n xs j y f q (once.0 (grind (arith, nat_tests))))
    go false q zero f e rest = absurd (differ (sym (named_in n xs y (sym f)) ∙ q))

-- one item more is changed
pub stepped : (f : Item → Item) (xs ys : List Item) (i : ℕ) (x new : Item) → ys ≡ map f (take i xs) ++ drop i xs → slice_get ys i ≡ Some x → new ≡ f x → slice_set ys i new ≡ map f (take (i + 1) xs) ++ drop (i + 1) xs
stepped f xs ys i x new e there is =
    let here : slice_get xs i ≡ Some x = sym (get_same f xs i) ∙ ap (λ (zs : List Item). slice_get zs i) (sym e) ∙ there in
    ap (λ (zs : List Item). slice_set zs i new) e ∙ ap (slice_set (map f (take i xs) ++ drop i xs) i) is ∙ set_at f xs i x here
