-- Counting groups as settled one after another counts them all.
use Rattle.std.proofs.Common.{◌≡◌, ℕ, ◌+◌, Bool, true, false, List, [], ◌∷◌, ◌++◌, take, refl, ap, sym, ◌∙◌, arith, Some}
use Rattle.std.specs.Prelude.{if◌then◌else◌, ◌==◌, ◌||◌, filter, slice_get}
use Rattle.std.proofs.lemmas.Bool.Decides.{nat_tests}
use Rattle.std.proofs.lemmas.List.Folds.{list_any-append}
use Rattle.wg_words.specs.Each.{Each}
use Rattle.wg_machine.specs.Step.{has_number}
use Rattle.wg_store.specs.declared.item.Item.{Item}
use Rattle.wg_store.specs.Items.{all_counted, has_left, waits_item, with_counted}
use Rattle.wg_store.proofs.Found.{each_filter}
use Rattle.wg_hold.specs.RowsOf.{EndsWith}
use Rattle.wg_hold.specs.Held.{AreApart}
use Rattle.wg_hold.proofs.Changes.{cons_left, left_no, left_yes, one_is}
use Rattle.wg_hold.proofs.Opens.{apart_at, has_at, take_next}

counted_yes : (ns : List ℕ) (x : Item) (xs : List Item) → has_number ns x.number ≡ true → all_counted ns (x ∷ xs) ≡ with_counted x ∷ all_counted ns xs
counted_yes ns x xs p = ap (λ (b : Bool). (if b then with_counted x else x) ∷ all_counted ns xs) p

counted_no : (ns : List ℕ) (x : Item) (xs : List Item) → has_number ns x.number ≡ false → all_counted ns (x ∷ xs) ≡ x ∷ all_counted ns xs
counted_no ns x xs p = ap (λ (b : Bool). (if b then with_counted x else x) ∷ all_counted ns xs) p

counted_step : (ms : List ℕ) (n : ℕ) (xs : List Item) → has_number ms n ≡ false → Each (λ (x : Item). has_left x ≡ true) xs → filter has_left (all_counted (n ∷ []) (filter has_left (all_counted ms xs))) ≡ filter has_left (all_counted (ms ++ n ∷ []) xs)
counted_step ms n [] f l = refl
counted_step ms n (x ∷ xs) f l = go (has_number ms x.number) refl (n == x.number) refl (counted_step ms n xs f l.1)
  where
    both : has_number (ms ++ n ∷ []) x.number ≡ (has_number ms x.number || has_number (n ∷ []) x.number)
    both = list_any-append (λ (m : ℕ). m == x.number) ms (n ∷ [])

    go : (b : Bool) → has_number ms x.number ≡ b → (d : Bool) → (n == x.number) ≡ d → filter has_left (all_counted (n ∷ []) (filter has_left (all_counted ms xs))) ≡ filter has_left (all_counted (ms ++ n ∷ []) xs)
        → filter has_left (all_counted (n ∷ []) (filter has_left (all_counted ms (x ∷ xs)))) ≡ filter has_left (all_counted (ms ++ n ∷ []) (x ∷ xs))
    go true p true q ih = absurd (let k : n ≡ x.number = grind (arith, nat_tests) in let t : true ≡ false = sym p ∙ ap (has_number ms) (sym k) ∙ f in cc)
    go true p false q ih =
        ap (λ (ys : List Item). filter has_left (all_counted (n ∷ []) (filter has_left ys))) (counted_yes ms x xs p)
        ∙ kept (has_left (with_counted x)) refl ih
        ∙ sym (ap (filter has_left) (counted_yes (ms ++ n ∷ []) x xs (both ∙ ap (λ (b : Bool). b || has_number (n ∷ []) x.number) p)))
      where
        kept : (h : Bool) → has_left (with_counted x) ≡ h → filter has_left (all_counted (n ∷ []) (filter has_left (all_counted ms xs))) ≡ filter has_left (all_counted (ms ++ n ∷ []) xs)
            → filter has_left (all_counted (n ∷ []) (filter has_left (with_counted x ∷ all_counted ms xs))) ≡ filter has_left (with_counted x ∷ all_counted (ms ++ n ∷ []) xs)
        kept true h ih =
            ap (λ (ys : List Item). filter has_left (all_counted (n ∷ []) ys)) (left_yes (with_counted x) (all_counted ms xs) h)
            ∙ ap (filter has_left) (counted_no (n ∷ []) (with_counted x) (filter has_left (all_counted ms xs)) (one_is n x.number ∙ q))
            ∙ cons_left (with_counted x) (all_counted (n ∷ []) (filter has_left (all_counted ms xs))) (all_counted (ms ++ n ∷ []) xs) ih
        kept false h ih =
            ap (λ (ys : List Item). filter has_left (all_counted (n ∷ []) ys)) (left_no (with_counted x) (all_counted ms xs) h)
            ∙ ih
            ∙ sym (left_no (with_counted x) (all_counted (ms ++ n ∷ []) xs) h)
    go false p true q ih =
        ap (λ (ys : List Item). filter has_left (all_counted (n ∷ []) (filter has_left ys))) (counted_no ms x xs p)
        ∙ ap (λ (ys : List Item). filter has_left (all_counted (n ∷ []) ys)) (left_yes x (all_counted ms xs) l.0)
        ∙ ap (filter has_left) (counted_yes (n ∷ []) x (filter has_left (all_counted ms xs)) (one_is n x.number ∙ q))
        ∙ cons_left (with_counted x) (all_counted (n ∷ []) (filter has_left (all_counted ms xs))) (all_counted (ms ++ n ∷ []) xs) ih
        ∙ sym (ap (filter has_left) (counted_yes (ms ++ n ∷ []) x xs (both ∙ ap (λ (b : Bool). b || has_number (n ∷ []) x.number) p ∙ one_is n x.number ∙ q)))
    go false p false q ih =
        ap (λ (ys : List Item). filter has_left (all_counted (n ∷ []) (filter has_left ys))) (counted_no ms x xs p)
        ∙ ap (λ (ys : List Item). filter has_left (all_counted (n ∷ []) ys)) (left_yes x (all_counted ms xs) l.0)
        ∙ ap (filter has_left) (counted_no (n ∷ []) x (filter has_left (all_counted ms xs)) (one_is n x.number ∙ q))
        ∙ cons_left x (all_counted (n ∷ []) (filter has_left (all_counted ms xs))) (all_counted (ms ++ n ∷ []) xs) ih
        ∙ sym (ap (filter has_left) (counted_no (ms ++ n ∷ []) x xs (both ∙ ap (λ (b : Bool). b || has_number (n ∷ []) x.number) p ∙ one_is n x.number ∙ q)))

pub counts_nothing : (xs : List Item) → Each (λ (x : Item). has_left x ≡ true) xs → xs ≡ filter has_left (all_counted [] xs)
counts_nothing [] l = refl
counts_nothing (x ∷ xs) l = ap (λ (ys : List Item). x ∷ ys) (counts_nothing xs l.1) ∙ sym (left_yes x (all_counted [] xs) l.0)

pub counts_next : (ns : List ℕ) (i n : ℕ) (xs : List Item) → AreApart ns → slice_get ns i ≡ Some n → Each (λ (x : Item). has_left x ≡ true) xs
    → filter has_left (all_counted (n ∷ []) (filter has_left (all_counted (take i ns) xs))) ≡ filter has_left (all_counted (take (i + 1) ns) xs)
counts_next ns i n xs a e l = counted_step (take i ns) n xs (apart_at ns i n a e) l ∙ ap (λ (ks : List ℕ). filter has_left (all_counted ks xs)) (sym (take_next ns i n e))

ends_each : (ns : List ℕ) (i n : ℕ) (xs : List Item) → AreApart ns → slice_get ns i ≡ Some n → Each (λ (x : Item). has_number ns x.number ≡ true → x.opening.left ≡ 1 → waits_item x ≡ false) xs → Each (EndsWith n) (all_counted (take i ns) xs)
ends_each ns i n [] a e ends = tt
ends_each ns i n (x ∷ xs) a e ends = (go (has_number (take i ns) x.number) refl, ends_each ns i n xs a e ends.1)
  where
    go : (b : Bool) → has_number (take i ns) x.number ≡ b → EndsWith n (if b then with_counted x else x)
    go true p = λ h o. (let q : (n == x.number) ≡ true = sym (one_is n x.number) ∙ h in let k : n ≡ x.number = grind (arith, nat_tests) in absurd (let t : true ≡ false = sym p ∙ ap (has_number (take i ns)) (sym k) ∙ apart_at ns i n a e in cc))
    go false p = λ h o. (let q : (n == x.number) ≡ true = sym (one_is n x.number) ∙ h in let k : n ≡ x.number = grind (arith, nat_tests) in ends.0 (sym (ap (has_number ns) k) ∙ has_at ns i n e) o)

-- the next to be counted ends as it must
pub ends_next : (ns : List ℕ) (i n : ℕ) (xs : List Item) → AreApart ns → slice_get ns i ≡ Some n → Each (λ (x : Item). has_number ns x.number ≡ true → x.opening.left ≡ 1 → waits_item x ≡ false) xs → Each (EndsWith n) (filter has_left (all_counted (take i ns) xs))
ends_next ns i n xs a e ends = each_filter (EndsWith n) has_left (all_counted (take i ns) xs) (ends_each ns i n xs a e ends)
