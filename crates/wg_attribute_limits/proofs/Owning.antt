-- The budgets of a node, as they are numbered.
use Rattle.std.proofs.Common.{◌≡◌, ◌≢◌, ◌≤◌, ◌<◌, ◌+◌, ◌==◌, inl, inr, ⊎_elim, ℕ, zero, suc, Bool, true, false, cond, List, [], ◌∷◌, length, map, filter, eq-eqb, ne_eqb, refl, sym, ap, ◌∙◌, subst, arith}
use Rattle.std.specs.List.{range_with_len}
use Rattle.wg_words.specs.Each.{Each}
use Rattle.wg_machine.specs.GoodShape.{IsBetween}
use Rattle.wg_typing.specs.Sites.{In}
use Rattle.wg_node_attributes.specs.Budgets.{place_in}
use Rattle.wg_node_attributes.specs.declared.attributes.OutputAttr.{OutputAttr}
use Rattle.wg_shapes.specs.ShapeOf.{budget_count, most_of}

-- ---- numbers that rise

abbrev pub Rises : ℕ → List ℕ → Type 0
Rises least [] = Unit {0}
Rises least (n ∷ ns) = (least ≤ n) × Rises (suc n) ns

pub rises_from : (low least : ℕ) (ns : List ℕ) → low ≤ least → Rises least ns → Rises low ns
rises_from low least [] le h = tt
rises_from low least (n ∷ ns) le h = let first = h.0 in (omega (arith, le, first), h.1)

rises_in : (least : ℕ) (ns : List ℕ) (n : ℕ) → Rises least ns → In ns n → least ≤ n
rises_in least [] n h i = absurd i
rises_in least (m ∷ ns) n h i = ⊎_elim (λ (e : m ≡ n). subst (λ k. least ≤ k) e h.0) (λ r. let later = rises_in (suc m) ns n h.1 r in let first = h.0 in omega (arith, later, first)) i

pub filter_rises : (test : ℕ → Bool) (least : ℕ) (ns : List ℕ) → Rises least ns → Rises least (filter test ns)
filter_rises test least [] h = tt
filter_rises test least (n ∷ ns) h = kept (test n) (filter_rises test (suc n) ns h.1)
  where
    kept : (b : Bool) → Rises (suc n) (filter test ns) → Rises least (cond b (n ∷ filter test ns) (filter test ns))
    kept true r = (h.0, r)
    kept false r = let first = h.0 in rises_from least (suc n) (filter test ns) (omega (arith, first)) r

-- ---- what passes a test

kept_here : (b : Bool) (n : ℕ) (ns : List ℕ) → b ≡ true → In (cond b (n ∷ ns) ns) n
kept_here b n ns e = subst (λ (x : Bool). In (cond x (n ∷ ns) ns) n) (sym e) (inl refl)

kept_later : (b : Bool) (m n : ℕ) (ns : List ℕ) → In ns n → In (cond b (m ∷ ns) ns) n
kept_later true m n ns r = inr r
kept_later false m n ns r = r

pub in_filter : (test : ℕ → Bool) (ns : List ℕ) (n : ℕ) → In ns n → test n ≡ true → In (filter test ns) n
in_filter test [] n i e = absurd i
in_filter test (m ∷ ns) n (inl q) e = subst (λ k. In (filter test (m ∷ ns)) k) q (kept_here (test m) m (filter test ns) (subst (λ k. test k ≡ true) (sym q) e))
in_filter test (m ∷ ns) n (inr r) e = kept_later (test m) m n (filter test ns) (in_filter test ns n r e)

unkept : (test : ℕ → Bool) (m n : ℕ) (ns : List ℕ) (b : Bool) → test m ≡ b → (In (filter test ns) n → In ns n × (test n ≡ true)) → In (cond b (m ∷ filter test ns) (filter test ns)) n → In (m ∷ ns) n × (test n ≡ true)
unkept test m n ns true e k (inl q) = (inl q, subst (λ k. test k ≡ true) q e)
unkept test m n ns true e k (inr r) = let s = k r in (inr s.0, s.1)
unkept test m n ns false e k r = let s = k r in (inr s.0, s.1)

pub from_filter : (test : ℕ → Bool) (ns : List ℕ) (n : ℕ) → In (filter test ns) n → In ns n × (test n ≡ true)
from_filter test [] n i = absurd i
from_filter test (m ∷ ns) n i = unkept test m n ns (test m) refl (from_filter test ns n) i

-- ---- places

place_step : (b : Bool) (x n : ℕ) → x < n → cond b 0 (suc x) < suc n
place_step true x n h = omega arith
place_step false x n h = omega (arith, h)

pub place_below : (ns : List ℕ) (n : ℕ) → In ns n → place_in ns n < length ns
place_below [] n i = absurd i
place_below (m ∷ ns) n (inl e) = subst (λ (b : Bool). cond b 0 (suc (place_in ns n)) < suc (length ns)) (sym (eq-eqb m n e)) (omega arith)
place_below (m ∷ ns) n (inr r) = place_step (m == n) (place_in ns n) (length ns) (place_below ns n r)

pub at_place : (least : ℕ) (ns : List ℕ) → Rises least ns → (k : ℕ) → k < length ns → (n : ℕ) × In ns n × (place_in ns n ≡ k)
at_place least [] h k l = absurd (omega (arith, l))
at_place least (m ∷ ns) h zero l = (m, inl refl, ap (λ (b : Bool). cond b 0 (suc (place_in ns m))) (eq-eqb m m refl))
at_place least (m ∷ ns) h (suc k) l =
    let r = at_place (suc m) ns h.1 k (omega (arith, l)) in
    let above = rises_in (suc m) ns r.0 h.1 r.1 in
    let other : m ≢ r.0 = λ e. absurd (omega (arith, above, e)) in
    (r.0, inr r.1, ap (λ (b : Bool). cond b 0 (suc (place_in ns r.0))) (ne_eqb m r.0 other) ∙ ap suc r.2)

-- ---- budgets of outputs that are made one by one

pub count_within : (f : ℕ → OutputAttr) (ns : List ℕ) (most : ℕ) → ((n : ℕ) → In ns n → (f n).budget < most) → budget_count (map f ns) ≤ most
count_within f [] most h = omega arith
count_within f (n ∷ ns) most h =
    let first = h n (inl refl) in
    let rest = count_within f ns most (λ m i. h m (inr i)) in
    omega (arith, first, rest)

pub most_found : (f : ℕ → OutputAttr) (ns : List ℕ) (budget n : ℕ) → ((m : ℕ) → IsBetween 1 256 (f m).most) → In ns n → (f n).budget ≡ budget → IsBetween 1 256 (most_of (map f ns) budget)
most_found f [] budget n h i e = absurd i
most_found f (m ∷ ns) budget n h (inl q) e =
    subst (λ (b : Bool). IsBetween 1 256 (cond b (f m).most (most_of (map f ns) budget))) (sym (eq-eqb (f m).budget budget (ap (λ k. (f k).budget) q ∙ e))) (h m)
most_found f (m ∷ ns) budget n h (inr r) e = either (eqb_of m) (most_found f ns budget n h r e)
  where
    eqb_of : ℕ → Bool
    eqb_of m = (f m).budget == budget

    either : (b : Bool) → IsBetween 1 256 (most_of (map f ns) budget) → IsBetween 1 256 (cond b (f m).most (most_of (map f ns) budget))
    either true k = h m
    either false k = k

pub each_in_range : (g : ℕ → ℕ) (p : ℕ → Type 0) (at n : ℕ) → ((k : ℕ) → k < at + n → p (g k)) → Each p (map g (range_with_len at n))
each_in_range g p at zero h = tt
each_in_range g p at (suc n) h = (h at (omega arith), each_in_range g p (at + 1) n (λ k l. h k (omega (arith, l))))
