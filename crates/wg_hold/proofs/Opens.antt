-- The records that a launch takes from the front wait, and are apart; opening them one after another opens them all.
use Rattle.std.proofs.Common.{◌≡◌, ℕ, zero, suc, ◌+◌, ◌<◌, ◌≤◌, Bool, true, false, List, [], ◌∷◌, ◌++◌, take, refl, ap, sym, ◌∙◌, arith, Some}
use Rattle.std.specs.Prelude.{if◌then◌else◌, ◌==◌, ◌&&◌, ◌||◌, slice_get}
use Rattle.std.proofs.lemmas.Bool.Decides.{nat_tests}
use Rattle.std.proofs.lemmas.List.Folds.{list_any-append}
use Rattle.wg_words.specs.Each.{Each}
use Rattle.wg_machine.specs.Grids.{groups_in}
use Rattle.wg_machine.specs.Step.{has_number}
use Rattle.wg_keep.specs.Opening.{IsOpening}
use Rattle.wg_store.specs.declared.item.Item.{Item}
use Rattle.wg_store.specs.Items.{CanOpen, all_opened, fits_unit, numbers_in, waits_item, with_opened}
use Rattle.wg_hold.specs.RowsOf.{AreRising}
use Rattle.wg_hold.specs.Held.{AreApart}
use Rattle.wg_hold.proofs.Changes.{one_is}

-- ---- what a launch takes from the front

front_above : (u low k n : ℕ) (xs : List Item) → AreRising low xs → n < low → has_number (numbers_in (take k (fits_unit u xs))) n ≡ false
front_above u low zero n [] r h = refl
front_above u low (suc k) n [] r h = refl
front_above u low k n (x ∷ xs) r h = go ((x.unit == u) && waits_item x) refl k (λ j. front_above u (x.number + 1) j n xs r.1 (let a = r.0 in omega (arith, a, h)))
  where
    above : n < x.number
    above = let a = r.0 in omega (arith, a, h)

    go : (b : Bool) → ((x.unit == u) && waits_item x) ≡ b → (k : ℕ) → ((j : ℕ) → has_number (numbers_in (take j (fits_unit u xs))) n ≡ false) → has_number (numbers_in (take k (if b then x ∷ fits_unit u xs else fits_unit u xs))) n ≡ false
    go true e zero rest = refl
    go true e (suc k) rest =
        let q : (x.number == n) ≡ false = (let a = above in grind (arith, nat_tests)) in
        ap (λ (b : Bool). b || has_number (numbers_in (take k (fits_unit u xs))) n) q ∙ rest k
    go false e k rest = rest k

-- they are apart
pub front_apart : (u low k : ℕ) (xs : List Item) → AreRising low xs → AreApart (numbers_in (take k (fits_unit u xs)))
front_apart u low zero [] r = tt
front_apart u low (suc k) [] r = tt
front_apart u low k (x ∷ xs) r = go ((x.unit == u) && waits_item x) k (λ j. front_apart u (x.number + 1) j xs r.1)
  where
    go : (b : Bool) (k : ℕ) → ((j : ℕ) → AreApart (numbers_in (take j (fits_unit u xs)))) → AreApart (numbers_in (take k (if b then x ∷ fits_unit u xs else fits_unit u xs)))
    go true zero rest = tt
    go true (suc k) rest = (front_above u (x.number + 1) k x.number xs r.1 (omega arith), rest k)
    go false k rest = rest k

-- a record with one of these numbers waits
abbrev pub WaitsIn : List ℕ → Item → Type 0
WaitsIn numbers x = has_number numbers x.number ≡ true → waits_item x ≡ true

each_rise : (P Q : Item → Type 0) (low : ℕ) (xs : List Item) → ((x : Item) → low ≤ x.number → P x → Q x) → AreRising low xs → Each P xs → Each Q xs
each_rise P Q low [] f r e = tt
each_rise P Q low (x ∷ xs) f r e = (f x r.0 e.0, each_rise P Q (x.number + 1) xs (λ y h. f y (let a = r.0 in omega (arith, a, h))) r.1 e.1)

waits_none : (ys : List Item) → Each (WaitsIn []) ys
waits_none [] = tt
waits_none (y ∷ ys) = (λ n. absurd (cc), waits_none ys)

pub front_waits : (u low k : ℕ) (xs : List Item) → AreRising low xs → Each (WaitsIn (numbers_in (take k (fits_unit u xs)))) xs
front_waits u low k [] r = tt
front_waits u low k (x ∷ xs) r = go ((x.unit == u) && waits_item x) refl k (λ j. front_waits u (x.number + 1) j xs r.1)
  where
    inner : ((x.unit == u) && waits_item x) ≡ true → waits_item x ≡ true
    inner e = second (x.unit == u) e
      where
        second : (b : Bool) → (b && waits_item x) ≡ true → waits_item x ≡ true
        second true e = e
        second false e = absurd (cc)

    go : (b : Bool) → ((x.unit == u) && waits_item x) ≡ b → (k : ℕ) → ((j : ℕ) → Each (WaitsIn (numbers_in (take j (fits_unit u xs)))) xs) → Each (WaitsIn (numbers_in (take k (if b then x ∷ fits_unit u xs else fits_unit u xs)))) (x ∷ xs)
    go true e zero rest = (λ n. absurd (cc), waits_none xs)
    go true e (suc k) rest = (
      λ n. inner e,
      each_rise (WaitsIn (numbers_in (take k (fits_unit u xs)))) (WaitsIn (x.number ∷ numbers_in (take k (fits_unit u xs)))) (x.number + 1) xs
          (λ y h w n. w (sym (ap (λ (b : Bool). b || has_number (numbers_in (take k (fits_unit u xs))) y.number) (let d : (x.number == y.number) ≡ false = grind (arith, nat_tests) in d)) ∙ n)) r.1 (rest k),
    )
    go false e k rest =
        (λ n. (let f = front_above u (x.number + 1) k x.number xs r.1 (omega arith) in absurd (let t : true ≡ false = sym n ∙ f in cc)), rest k)

-- ---- one after another

pub apart_at : (ns : List ℕ) (i n : ℕ) → AreApart ns → slice_get ns i ≡ Some n → has_number (take i ns) n ≡ false
apart_at [] i n a e = absurd (cc)
apart_at (m ∷ ns) zero n a e = refl
apart_at (m ∷ ns) (suc i) n a e = ap (λ (b : Bool). b || has_number (take i ns) n) (differs ns i a.0 e) ∙ apart_at ns i n a.1 e
  where
    differs : (ks : List ℕ) (j : ℕ) → has_number ks m ≡ false → slice_get ks j ≡ Some n → (m == n) ≡ false
    differs [] j f e = absurd (cc)
    differs (k ∷ ks) zero f e = (let q = same k e in let d = first (k == m) (has_number ks m) f in grind (arith, nat_tests))
      where
        same : (k : ℕ) → Some k ≡ Some n → k ≡ n
        same k e = cc

        first : (a b : Bool) → (a || b) ≡ false → a ≡ false
        first true b e = absurd (cc)
        first false b e = refl
    differs (k ∷ ks) (suc j) f e = differs ks j (rest (k == m) (has_number ks m) f) e
      where
        rest : (a b : Bool) → (a || b) ≡ false → b ≡ false
        rest true b e = absurd (cc)
        rest false b e = e

opened_yes : (ns : List ℕ) (x : Item) (xs : List Item) → has_number ns x.number ≡ true → all_opened ns (x ∷ xs) ≡ with_opened x ∷ all_opened ns xs
opened_yes ns x xs p = ap (λ (b : Bool). (if b then with_opened x else x) ∷ all_opened ns xs) p

opened_no : (ns : List ℕ) (x : Item) (xs : List Item) → has_number ns x.number ≡ false → all_opened ns (x ∷ xs) ≡ x ∷ all_opened ns xs
opened_no ns x xs p = ap (λ (b : Bool). (if b then with_opened x else x) ∷ all_opened ns xs) p

opened_step : (ms : List ℕ) (n : ℕ) (xs : List Item) → has_number ms n ≡ false → all_opened (n ∷ []) (all_opened ms xs) ≡ all_opened (ms ++ n ∷ []) xs
opened_step ms n [] f = refl
opened_step ms n (x ∷ xs) f = go (has_number ms x.number) refl (n == x.number) refl (opened_step ms n xs f)
  where
    both : has_number (ms ++ n ∷ []) x.number ≡ (has_number ms x.number || has_number (n ∷ []) x.number)
    both = list_any-append (λ (m : ℕ). m == x.number) ms (n ∷ [])

    go : (b : Bool) → has_number ms x.number ≡ b → (d : Bool) → (n == x.number) ≡ d → all_opened (n ∷ []) (all_opened ms xs) ≡ all_opened (ms ++ n ∷ []) xs → all_opened (n ∷ []) (all_opened ms (x ∷ xs)) ≡ all_opened (ms ++ n ∷ []) (x ∷ xs)
    go true p true q ih = absurd (let k : n ≡ x.number = grind (arith, nat_tests) in let t : true ≡ false = sym p ∙ ap (has_number ms) (sym k) ∙ f in cc)
    go true p false q ih =
        ap (all_opened (n ∷ [])) (opened_yes ms x xs p)
        ∙ opened_no (n ∷ []) (with_opened x) (all_opened ms xs) (one_is n x.number ∙ q)
        ∙ ap (λ (ys : List Item). with_opened x ∷ ys) ih
        ∙ sym (opened_yes (ms ++ n ∷ []) x xs (both ∙ ap (λ (b : Bool). b || has_number (n ∷ []) x.number) p))
    go false p true q ih =
        ap (all_opened (n ∷ [])) (opened_no ms x xs p)
        ∙ opened_yes (n ∷ []) x (all_opened ms xs) (one_is n x.number ∙ q)
        ∙ ap (λ (ys : List Item). with_opened x ∷ ys) ih
        ∙ sym (opened_yes (ms ++ n ∷ []) x xs (both ∙ ap (λ (b : Bool). b || has_number (n ∷ []) x.number) p ∙ one_is n x.number ∙ q))
    go false p false q ih =
        ap (all_opened (n ∷ [])) (opened_no ms x xs p)
        ∙ opened_no (n ∷ []) x (all_opened ms xs) (one_is n x.number ∙ q)
        ∙ ap (λ (ys : List Item). x ∷ ys) ih
        ∙ sym (opened_no (ms ++ n ∷ []) x xs (both ∙ ap (λ (b : Bool). b || has_number (n ∷ []) x.number) p ∙ one_is n x.number ∙ q))

pub opened_nothing : (xs : List Item) → all_opened [] xs ≡ xs
opened_nothing [] = refl
opened_nothing (x ∷ xs) = ap (λ (ys : List Item). x ∷ ys) (opened_nothing xs)

pub take_next : (ns : List ℕ) (i n : ℕ) → slice_get ns i ≡ Some n → take (i + 1) ns ≡ take i ns ++ n ∷ []
take_next [] i n e = absurd (cc)
take_next (m ∷ ns) zero n e = same m e
  where
    same : (m : ℕ) → Some m ≡ Some n → m ∷ [] ≡ n ∷ []
    same m e = cc
take_next (m ∷ ns) (suc i) n e =
    let z : suc i + 1 ≡ suc (i + 1) = omega arith in
    ap (λ (k : ℕ). take k (m ∷ ns)) z ∙ ap (λ (ys : List ℕ). m ∷ ys) (take_next ns i n e)

pub has_at : (ns : List ℕ) (i n : ℕ) → slice_get ns i ≡ Some n → has_number ns n ≡ true
has_at [] i n e = absurd (cc)
has_at (m ∷ ns) zero n e = (let s = same m e in let q : (m == n) ≡ true = grind (arith, nat_tests) in ap (λ (b : Bool). b || has_number ns n) q)
  where
    same : (m : ℕ) → Some m ≡ Some n → m ≡ n
    same m e = cc
has_at (m ∷ ns) (suc i) n e = go (m == n) (has_at ns i n e)
  where
    go : (b : Bool) → has_number ns n ≡ true → (b || has_number ns n) ≡ true
    go true h = refl
    go false h = h

-- the next to be opened can be
pub can_next : (ns : List ℕ) (i n : ℕ) (xs : List Item) → AreApart ns → slice_get ns i ≡ Some n → Each (CanOpen ns) xs → Each (CanOpen (n ∷ [])) (all_opened (take i ns) xs)
can_next ns i n [] a e can = tt
can_next ns i n (x ∷ xs) a e can = (go (has_number (take i ns) x.number) refl, can_next ns i n xs a e can.1)
  where
    go : (b : Bool) → has_number (take i ns) x.number ≡ b → CanOpen (n ∷ []) (if b then with_opened x else x)
    go true p = λ h. (let q : (n == x.number) ≡ true = sym (one_is n x.number) ∙ h in let k : n ≡ x.number = grind (arith, nat_tests) in absurd (let t : true ≡ false = sym p ∙ ap (has_number (take i ns)) (sym k) ∙ apart_at ns i n a e in cc))
    go false p = λ h. (let q : (n == x.number) ≡ true = sym (one_is n x.number) ∙ h in let k : n ≡ x.number = grind (arith, nat_tests) in can.0 (sym (ap (has_number ns) k) ∙ has_at ns i n e))

pub opens_next : (ns : List ℕ) (i n : ℕ) (xs : List Item) → AreApart ns → slice_get ns i ≡ Some n → all_opened (n ∷ []) (all_opened (take i ns) xs) ≡ all_opened (take (i + 1) ns) xs
opens_next ns i n xs a e = opened_step (take i ns) n xs (apart_at ns i n a e) ∙ ap (λ (ks : List ℕ). all_opened ks xs) (sym (take_next ns i n e))

-- a record that waits has a group more to open
pub waiting_can : (ns : List ℕ) (xs : List Item) → Each (WaitsIn ns) xs → Each (λ (x : Item). IsOpening x.opening) xs → Each (CanOpen ns) xs
waiting_can ns [] w o = tt
waiting_can ns (x ∷ xs) w o = (λ h. (let a = w.0 h in let b = o.0.few in let c : x.opening.opened < groups_in x.opening.grid = grind (arith, nat_tests) in omega (arith, b, c)), waiting_can ns xs w.1 o.1)

pub openings_opened : (ns : List ℕ) (xs : List Item) → Each (WaitsIn ns) xs → Each (λ (x : Item). IsOpening x.opening) xs → Each (λ (x : Item). IsOpening x.opening) (all_opened ns xs)
openings_opened ns [] w o = tt
openings_opened ns (x ∷ xs) w o = (go (has_number ns x.number) refl, openings_opened ns xs w.1 o.1)
  where
    go : (b : Bool) → has_number ns x.number ≡ b → IsOpening (if b then with_opened x else x).opening
    go true p = record { opened = (let a = w.0 p in let c : x.opening.opened < groups_in x.opening.grid = grind (arith, nat_tests) in omega (arith, c)); left = o.0.left; few = o.0.few }
    go false p = o.0
