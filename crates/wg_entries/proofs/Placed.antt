-- Items at the places of their numbers, of which some change.
use Rattle.std.proofs.Common.{◌≡◌, ℕ, zero, suc, ◌+◌, ◌<◌, ◌≤◌, Bool, true, false, List, [], ◌∷◌, length, map, refl, ap, sym, ◌∙◌, subst, arith, drop, Some}
use Rattle.std.specs.Prelude.{if◌then◌else◌, ◌==◌, ◌||◌, slice_get, slice_index_or, slice_set}
use Rattle.std.proofs.lemmas.Option.{slice_get-get_or}
use Rattle.std.proofs.lemmas.Bool.Decides.{nat_tests}
use Rattle.wg_words.specs.Each.{Each}
use Rattle.wg_machine.specs.Step.{has_number}
use Rattle.wg_store.specs.declared.item.Item.{Item}
use Rattle.wg_store.specs.Items.{AreAtPlaces, item_in, with_words}
use Rattle.wg_entries.specs.Apart.{AreApart}

-- the items, with those changed that have these numbers
abbrev pub by : (Item → Item) → List ℕ → List Item → List Item
by f numbers items = map (λ (x : Item). if has_number numbers x.number then f x else x) items

-- the item at a place is the one with its number
found_at : (from i : ℕ) (items : List Item) (x : Item) → AreAtPlaces from items → slice_get items i ≡ Some x → item_in (from + i) items ≡ Some x
found_at from i [] x places e = absurd (cc)
found_at from zero (y ∷ items) x places e =
    let p = places.0 in
    let q : (y.number == (from + 0)) ≡ true = grind (arith, nat_tests) in
    rw q e
found_at from (suc i) (y ∷ items) x places e =
    let p = places.0 in
    let q : (y.number == (from + suc i)) ≡ false = grind (arith, nat_tests) in
    let z : from + suc i ≡ (from + 1) + i = omega arith in
    rw q (ap (λ (m : ℕ). item_in m items) z ∙ found_at (from + 1) i items x places.1 e)

-- no item has a number before the first place
by_before : (f : Item → Item) (from n : ℕ) (items : List Item) → AreAtPlaces from items → n < from → items ≡ by f (n ∷ []) items
by_before f from n [] places h = refl
by_before f from n (x ∷ items) places h =
    let p = places.0 in
    let q : (n == x.number) ≡ false = grind (arith, nat_tests) in
    rw q (ap (λ (ys : List Item). x ∷ ys) (by_before f (from + 1) n items places.1 (omega (arith, h))))

-- no item has a number behind the last place
by_past : (f : Item → Item) (from n : ℕ) (items : List Item) → AreAtPlaces from items → from + length items ≤ n → items ≡ by f (n ∷ []) items
by_past f from n [] places h = refl
by_past f from n (x ∷ items) places h =
    let p = places.0 in
    let q : (n == x.number) ≡ false = grind (arith, nat_tests) in
    rw q (ap (λ (ys : List Item). x ∷ ys) (by_past f (from + 1) n items places.1 (omega (arith, h))))

-- the item at a place is changed
by_at : (f : Item → Item) (from i : ℕ) (items : List Item) (x : Item) → AreAtPlaces from items → slice_get items i ≡ Some x → slice_set items i (f x) ≡ by f ((from + i) ∷ []) items
by_at f from i [] x places e = absurd (cc)
by_at f from zero (y ∷ items) x places e =
    let p = places.0 in
    let q : ((from + 0) == y.number) ≡ true = grind (arith, nat_tests) in
    let z : from + 0 < from + 1 = omega arith in
    rw q (ap (λ (w : Item). f w ∷ items) (same x y e) ∙ ap (λ (ys : List Item). f y ∷ ys) (by_before f (from + 1) (from + 0) items places.1 z))
  where
    same : (x y : Item) → Some y ≡ Some x → x ≡ y
    same x y e = cc
by_at f from (suc i) (y ∷ items) x places e =
    let p = places.0 in
    let q : ((from + suc i) == y.number) ≡ false = grind (arith, nat_tests) in
    let z : (from + 1) + i ≡ from + suc i = omega arith in
    rw q (ap (λ (ys : List Item). y ∷ ys) (by_at f (from + 1) i items x places.1 e ∙ ap (λ (m : ℕ). by f (m ∷ []) items) z))

words_before : (n : ℕ) (new : List ℕ) (from : ℕ) (items : List Item) → AreAtPlaces from items → n < from → items ≡ with_words n new items
words_before n new from [] places h = refl
words_before n new from (x ∷ items) places h =
    let p = places.0 in
    let q : (x.number == n) ≡ false = grind (arith, nat_tests) in
    rw q (ap (λ (ys : List Item). x ∷ ys) (words_before n new (from + 1) items places.1 (omega (arith, h))))

-- the item at a place gets other words
words_at : (new : List ℕ) (from i : ℕ) (items : List Item) (x : Item) → AreAtPlaces from items → slice_get items i ≡ Some x → slice_set items i (record x { words = new }) ≡ with_words (from + i) new items
words_at new from i [] x places e = absurd (cc)
words_at new from zero (y ∷ items) x places e =
    let p = places.0 in
    let q : (y.number == (from + 0)) ≡ true = grind (arith, nat_tests) in
    let z : from + 0 < from + 1 = omega arith in
    rw q (ap (λ (w : Item). (let v : Item = record w { words = new } in v ∷ items)) (same x y e) ∙ ap (λ (ys : List Item). (let v : Item = record y { words = new } in v ∷ ys)) (words_before (from + 0) new (from + 1) items places.1 z))
  where
    same : (x y : Item) → Some y ≡ Some x → x ≡ y
    same x y e = cc
words_at new from (suc i) (y ∷ items) x places e =
    let p = places.0 in
    let q : (y.number == (from + suc i)) ≡ false = grind (arith, nat_tests) in
    let z : (from + 1) + i ≡ from + suc i = omega arith in
    rw q (ap (λ (ys : List Item). y ∷ ys) (words_at new (from + 1) i items x places.1 e ∙ ap (λ (m : ℕ). with_words m new items) z))

abbrev pub KeepsNumber : (Item → Item) → Type 0
KeepsNumber f = (x : Item) → (f x).number ≡ x.number

pub map_places : (g : Item → Item) (from : ℕ) (items : List Item) → KeepsNumber g → AreAtPlaces from items → AreAtPlaces from (map g items)
map_places g from [] same places = tt
map_places g from (x ∷ items) same places = (same x ∙ places.0, map_places g (from + 1) items same places.1)

abbrev pub chosen : (Item → Item) → Bool → Item → Item
chosen f b x = if b then f x else x

pub chosen_number : (f : Item → Item) → KeepsNumber f → (b : Bool) (x : Item) → (chosen f b x).number ≡ x.number
chosen_number f same true x = same x
chosen_number f same false x = refl

pub by_places : (f : Item → Item) (numbers : List ℕ) (items : List Item) → KeepsNumber f → AreAtPlaces 0 items → AreAtPlaces 0 (by f numbers items)
by_places f numbers items same places = map_places (λ (x : Item). if has_number numbers x.number then f x else x) 0 items (λ x. chosen_number f same (has_number numbers x.number) x) places

pub by_none : (f : Item → Item) (items : List Item) → by f [] items ≡ items
by_none f [] = refl
by_none f (x ∷ items) = ap (λ (ys : List Item). x ∷ ys) (by_none f items)

-- one number first and then the others
pub by_more : (f : Item → Item) (items : List Item) (n : ℕ) (numbers : List ℕ) → KeepsNumber f → has_number numbers n ≡ false → by f numbers (by f (n ∷ []) items) ≡ by f (n ∷ numbers) items
by_more f [] n numbers same apart = refl
by_more f (x ∷ items) n numbers same apart = go (n == x.number) refl (by_more f items n numbers same apart)
  where
    go : (b : Bool) → (n == x.number) ≡ b → by f numbers (by f (n ∷ []) items) ≡ by f (n ∷ numbers) items
        → chosen f (has_number numbers (chosen f (b || false) x).number) (chosen f (b || false) x) ∷ by f numbers (by f (n ∷ []) items) ≡ chosen f (b || has_number numbers x.number) x ∷ by f (n ∷ numbers) items
    go true e rest =
        let m : n ≡ x.number = grind (arith, nat_tests) in
        let z : has_number numbers (f x).number ≡ false = ap (has_number numbers) (same x ∙ sym m) ∙ apart in
        rw z (ap (λ (ys : List Item). f x ∷ ys) rest)
    go false e rest = ap (λ (ys : List Item). chosen f (has_number numbers x.number) x ∷ ys) rest

-- what those with these numbers have
abbrev pub OfNumbers : (Item → Type 0) → List ℕ → Item → Type 0
OfNumbers P numbers x = has_number numbers x.number ≡ true → P x

pub of_first : (P : Item → Type 0) (n : ℕ) (numbers : List ℕ) (items : List Item) → Each (OfNumbers P (n ∷ numbers)) items → Each (OfNumbers P (n ∷ [])) items
of_first P n numbers [] each = tt
of_first P n numbers (x ∷ items) each = (go (n == x.number) each.0, of_first P n numbers items each.1)
  where
    go : (b : Bool) → ((b || has_number numbers x.number) ≡ true → P x) → (b || false) ≡ true → P x
    go true f e = f refl
    go false f e = absurd (cc)

-- those still to change have it when the first is changed
pub of_later : (P : Item → Type 0) (f : Item → Item) (n : ℕ) (numbers : List ℕ) (items : List Item) → KeepsNumber f → has_number numbers n ≡ false → Each (OfNumbers P (n ∷ numbers)) items → Each (OfNumbers P numbers) (by f (n ∷ []) items)
of_later P f n numbers [] same apart each = tt
of_later P f n numbers (x ∷ items) same apart each = (go (n == x.number) refl each.0, of_later P f n numbers items same apart each.1)
  where
    clash : (b : Bool) → b ≡ false → b ≡ true → P (f x)
    clash b p q = absurd (cc)

    go : (b : Bool) → (n == x.number) ≡ b → ((b || has_number numbers x.number) ≡ true → P x) → has_number numbers (chosen f (b || false) x).number ≡ true → P (chosen f (b || false) x)
    go true e h has =
        let m : n ≡ x.number = grind (arith, nat_tests) in
        clash (has_number numbers (f x).number) (ap (has_number numbers) (same x ∙ sym m) ∙ apart) has
    go false e h has = h has

-- the items while those with the numbers that are left are still to change
pub record Changes (P : Item → Type 0) (f : Item → Item) (numbers left : List ℕ) (old now : List Item) : Type 0 where
  pub whole : by f left now ≡ by f numbers old
  pub places : AreAtPlaces 0 now
  pub can : Each (OfNumbers P left) now
  pub apart : AreApart left

pub changes_first : (P : Item → Type 0) (f : Item → Item) (numbers : List ℕ) (old : List Item) → AreAtPlaces 0 old → Each (OfNumbers P numbers) old → AreApart numbers → Changes P f numbers numbers old old
changes_first P f numbers old places can apart = record { whole = refl; places = places; can = can; apart = apart }

pub changes_can : (P : Item → Type 0) (f : Item → Item) (numbers left : List ℕ) (n : ℕ) (rest : List ℕ) (old now : List Item) → left ≡ n ∷ rest → Changes P f numbers left old now → Each (OfNumbers P (n ∷ [])) now
changes_can P f numbers left n rest old now e c = of_first P n rest now (subst (λ (ns : List ℕ). Each (OfNumbers P ns) now) e c.can)

pub changes_more : (P : Item → Type 0) (f : Item → Item) (numbers left : List ℕ) (n : ℕ) (rest : List ℕ) (old now new : List Item) → KeepsNumber f → left ≡ n ∷ rest → new ≡ by f (n ∷ []) now → Changes P f numbers left old now → Changes P f numbers rest old new
changes_more P f numbers left n rest old now new same e is c =
    let apart = subst AreApart e c.apart in
    record {
      whole = ap (by f rest) is ∙ by_more f now n rest same apart.0 ∙ ap (λ (ns : List ℕ). by f ns now) (sym e) ∙ c.whole;
      places = subst (AreAtPlaces 0) (sym is) (by_places f (n ∷ []) now same c.places);
      can = subst (Each (OfNumbers P rest)) (sym is) (of_later P f n rest now same apart.0 (subst (λ (ns : List ℕ). Each (OfNumbers P ns) now) e c.can));
      apart = apart.1;
    }

pub changes_last : (P : Item → Type 0) (f : Item → Item) (numbers left : List ℕ) (old now : List Item) → left ≡ [] → Changes P f numbers left old now → now ≡ by f numbers old
changes_last P f numbers left old now e c = sym (by_none f now) ∙ ap (λ (ns : List ℕ). by f ns now) (sym e) ∙ c.whole

next_is : {X : Type 0} (xs : List X) (i : ℕ) (x : X) → slice_get xs i ≡ Some x → drop i xs ≡ x ∷ drop (i + 1) xs
next_is [] i x e = absurd (cc)
next_is {X = X} (y ∷ xs) zero x e = same y x e
  where
    same : (y x : X) → Some y ≡ Some x → y ∷ xs ≡ x ∷ xs
    same y x e = cc
next_is (y ∷ xs) (suc i) x e =
    let z : suc i + 1 ≡ suc (i + 1) = omega arith in
    next_is xs i x e ∙ ap (λ (k : ℕ). x ∷ drop k (y ∷ xs)) (sym z)

-- the next number, and then those behind it
pub next_at : (xs : List ℕ) (i d : ℕ) → i < length xs → drop i xs ≡ slice_index_or xs i d ∷ drop (i + 1) xs
next_at xs i d h = next_is xs i (slice_index_or xs i d) (slice_get-get_or xs i d h)

-- the item at a place may change where those with its number may
may_at : (P : Item → Type 0) (from i : ℕ) (items : List Item) (x : Item) → AreAtPlaces from items → slice_get items i ≡ Some x → Each (OfNumbers P ((from + i) ∷ [])) items → P x
may_at P from i [] x places e each = absurd (cc)
may_at P from zero (y ∷ items) x places e each =
    let p = places.0 in
    let q : ((from + 0) == y.number) ≡ true = grind (arith, nat_tests) in
    subst P (same y x e) (each.0 (rw q refl))
  where
    same : (y x : Item) → Some y ≡ Some x → y ≡ x
    same y x e = cc
may_at P from (suc i) (y ∷ items) x places e each =
    let z : from + suc i ≡ (from + 1) + i = omega arith in
    may_at P (from + 1) i items x places.1 e (subst (λ (m : ℕ). Each (OfNumbers P (m ∷ [])) items) z each.1)

pub none_left : {X : Type 0} (xs : List X) (n : ℕ) → length xs ≤ n → drop n xs ≡ []
none_left [] zero h = refl
none_left [] (suc n) h = refl
none_left (x ∷ xs) zero h = absurd (omega arith)
none_left (x ∷ xs) (suc n) h = none_left xs n (omega arith)

first_place : (n : ℕ) → 0 + n ≡ n
first_place n = omega arith

pub found_first : (n : ℕ) (items : List Item) (x : Item) → AreAtPlaces 0 items → slice_get items n ≡ Some x → item_in n items ≡ Some x
found_first n items x places e = ap (λ (m : ℕ). item_in m items) (sym (first_place n)) ∙ found_at 0 n items x places e

pub by_past_first : (f : Item → Item) (n : ℕ) (items : List Item) → AreAtPlaces 0 items → length items ≤ n → items ≡ by f (n ∷ []) items
by_past_first f n items places h = by_past f 0 n items places (omega (arith, h))

pub by_first : (f : Item → Item) (n : ℕ) (items : List Item) (x : Item) → AreAtPlaces 0 items → slice_get items n ≡ Some x → slice_set items n (f x) ≡ by f (n ∷ []) items
by_first f n items x places e = by_at f 0 n items x places e ∙ ap (λ (m : ℕ). by f (m ∷ []) items) (first_place n)

pub words_first : (new : List ℕ) (n : ℕ) (items : List Item) (x : Item) → AreAtPlaces 0 items → slice_get items n ≡ Some x → slice_set items n (record x { words = new }) ≡ with_words n new items
words_first new n items x places e = words_at new 0 n items x places e ∙ ap (λ (m : ℕ). with_words m new items) (first_place n)

pub may_first : (P : Item → Type 0) (n : ℕ) (items : List Item) (x : Item) → AreAtPlaces 0 items → slice_get items n ≡ Some x → Each (OfNumbers P (n ∷ [])) items → P x
may_first P n items x places e each = may_at P 0 n items x places e (subst (λ (m : ℕ). Each (OfNumbers P (m ∷ [])) items) (sym (first_place n)) each)
