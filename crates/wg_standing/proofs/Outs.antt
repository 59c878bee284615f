-- Launches that are out, as one opens and one settles.
use Rattle.std.proofs.Common.{None, ◌≡◌, ℕ, ◌+◌, ◌<◌, ◌≤◌, Bool, true, false, List, [], ◌∷◌, ◌++◌, refl, ap, sym, ◌∙◌, subst, arith, inl, inr}
use Rattle.std.specs.Prelude.{if◌then◌else◌}
use Rattle.wg_standing.specs.declared.pending.Pending.{Pending}
use Rattle.wg_machine.specs.declared.launch.Live.{Live}
use Rattle.wg_machine.specs.declared.shape.Shape.{Shape}
use Rattle.wg_machine.specs.State.{kept}
use Rattle.wg_machine.specs.Step.{left_after, has_number, taken}
use Rattle.wg_machine.specs.Grids.{without_group, same_group}
use Rattle.wg_machine.specs.Run.{times}
use Rattle.wg_standing.specs.Outs.{after_one, unopened, AllAllowed, AllApart, ApartFromAll, IsAllowed, IsApart}
use Rattle.wg_standing.specs.Standing.{Rises, EachDistinct}
use Rattle.wg_standing.proofs.Commute.{append_nil, live_with, ran}
use Rattle.wg_standing.proofs.Allowed.{same_sym, taken_append}
use Rattle.wg_standing.proofs.Names.{Named, allowed_of, named_bare, named_of, stays_allowed}
use Rattle.wg_standing.proofs.Rising.{rises_left, numbers, among_first}
use Rattle.wg_standing.proofs.Opening.{was, times_cons, among_taken}

-- each number that an allowed launch takes stands in the bag
pub allowed_among : (shape : Shape) (bag : List Live) (o : Pending) → IsAllowed shape bag o → (n : ℕ) → has_number o.inputs n ≡ true → has_number (numbers bag) n ≡ true
allowed_among shape bag o a n e =
    let q = sym (named_of shape bag o a).named in
    among_taken o.inputs bag n (subst (λ (ns : List ℕ). has_number ns n ≡ true) q e)

pub record WasAllowed (shape : Shape) (bag : List Live) (p o : Pending) : Type 0 where
  pub allowed : IsAllowed shape bag o
  pub apart : IsApart p o

pub was_allowed : (shape : Shape) (lo end : ℕ) (bag : List Live) (p o : Pending) → lo ≡ 0 → Rises lo bag end → EachDistinct bag → IsAllowed shape (after_one p bag) o → WasAllowed shape bag p o
was_allowed shape lo end bag p o z rises distinct a =
    let m = named_of shape (after_one p bag) o a in
    let w = was o.unit o.at o.inputs p.at p.inputs lo end bag rises distinct (λ n e h. allowed_among shape (after_one p bag) o a n e) m.ready in
    record {
      allowed = allowed_of shape bag o (named_bare shape o (taken o.inputs (after_one p bag)) (taken o.inputs bag) (sym w.records) w.ready m);
      apart = λ n f e. w.apart n f e (allowed_among shape (after_one p bag) o a n e);
    }

-- fewer groups are distinct too
times_without : (at other : List ℕ) (gs : List (List ℕ)) → times at (without_group other gs) ≤ times at gs
times_without at other [] = omega arith
times_without at other (g ∷ gs) = choice (times_without at other gs) (same_group g other)
  where
    choice : times at (without_group other gs) ≤ times at gs → (b : Bool) → times at (if b then gs else g ∷ without_group other gs) ≤ times at (g ∷ gs)
    choice ih true = let c = times_cons at g gs in omega (arith, c)
    choice ih false = let c = times_cons at g gs in let d = times_cons at g (without_group other gs) in omega (arith, c, d, ih)

distinct_kept : (number unit : ℕ) (words grid : List ℕ) (gs : List (List ℕ)) (rest : List Live) → ((at : List ℕ) → times at gs ≤ 1) → EachDistinct rest → EachDistinct (kept (live_with number unit words grid gs) ++ rest)
distinct_kept number unit words grid [] rest t d = d
distinct_kept number unit words grid (g ∷ gs) rest t d = (t, d)

pub distinct_left : (nums other : List ℕ) (bag : List Live) → EachDistinct bag → EachDistinct (left_after nums other None bag)
distinct_left nums other [] d = tt
distinct_left nums other (x ∷ bag) d = choice (distinct_left nums other bag d.1) (has_number nums x.number)
  where
    choice : EachDistinct (left_after nums other None bag) → (b : Bool) → EachDistinct (ran b other x ++ left_after nums other None bag)
    choice ih true = distinct_kept x.number x.unit x.words x.grid (without_group other x.groups) (left_after nums other None bag) (λ at. let a = times_without at other x.groups in let b = d.0 at in omega (arith, a, b)) ih
    choice ih false = (d.0, ih)

pub distinct_append : (xs ys : List Live) → EachDistinct xs → EachDistinct ys → EachDistinct (xs ++ ys)
distinct_append [] ys d e = e
distinct_append (x ∷ xs) ys d e = (d.0, distinct_append xs ys d.1 e)

-- one more launch out, which what is unopened allows
pub apart_more : (p o : Pending) (outs : List Pending) → ApartFromAll p outs → IsApart p o → ApartFromAll p (outs ++ o ∷ [])
apart_more p o [] a b = (b, tt)
apart_more p o (q ∷ outs) a b = (a.0, apart_more p o outs a.1 b)

pub record Joins (shape : Shape) (bag : List Live) (outs : List Pending) (o : Pending) : Type 0 where
  pub allowed : IsAllowed shape bag o
  pub apart : AllApart outs → AllApart (outs ++ o ∷ [])

pub joins : (shape : Shape) (end : ℕ) (outs : List Pending) (bag : List Live) (o : Pending) → Rises 0 bag end → EachDistinct bag → IsAllowed shape (unopened outs bag) o → Joins shape bag outs o
joins shape end [] bag o rises distinct a = record { allowed = a; apart = λ all. (tt, tt) }
joins shape end (p ∷ outs) bag o rises distinct a =
    let k = joins shape end outs (after_one p bag) o (rises_left 0 end p.inputs p.at bag rises) (distinct_left p.inputs p.at bag distinct) a in
    let w = was_allowed shape 0 end bag p o refl rises distinct k.allowed in
    record { allowed = w.allowed; apart = λ all. (apart_more p o outs all.0 w.apart, k.apart all.1) }

pub allowed_more : (shape : Shape) (bag : List Live) (outs : List Pending) (o : Pending) → AllAllowed shape bag outs → IsAllowed shape bag o → AllAllowed shape bag (outs ++ o ∷ [])
allowed_more shape bag [] o all a = (a, tt)
allowed_more shape bag (p ∷ outs) o all a = (all.0, allowed_more shape bag outs o all.1 a)

-- new records, with higher numbers, change nothing for a launch out
numbers_below : (lo n end : ℕ) (xs : List Live) → Rises lo xs end → has_number (numbers xs) n ≡ true → n < end
numbers_below lo n end [] r e = absurd (cc)
numbers_below lo n end (x ∷ xs) r e =
    elim (among_first x.number n (numbers xs) e) [
      | inl q ↦ (let t = above (x.number + 1) end xs r.1 in omega arith)
      | inr k ↦ numbers_below (x.number + 1) n end xs r.1 k
    ]
  where
    above : (m end : ℕ) (ys : List Live) → Rises m ys end → m ≤ end
    above m end [] r = r
    above m end (y ∷ ys) r = let t = above (y.number + 1) end ys r.1 in let h = r.0 in omega (arith, h, t)

abbrev pub AllBelow : List ℕ → ℕ → Type 0
AllBelow nums next = (n : ℕ) → has_number nums n ≡ true → n < next

not_among : (nums : List ℕ) (lo n : ℕ) → AllBelow nums lo → lo ≤ n → has_number nums n ≡ false
not_among nums lo n below h = choice (has_number nums n) refl
  where
    choice : (b : Bool) → has_number nums n ≡ b → b ≡ false
    choice true e = let k = below n e in absurd (omega (arith, k, h))
    choice false e = refl

pub taken_new : (nums : List ℕ) (lo end : ℕ) (xs : List Live) → AllBelow nums lo → Rises lo xs end → taken nums xs ≡ []
taken_new nums lo end [] below r = refl
taken_new nums lo end (x ∷ xs) below r =
    let low = r.0 in
    let e = not_among nums lo x.number below low in
    let k = taken_new nums (x.number + 1) end xs (λ n f. let h = below n f in omega (arith, h, low)) r.1 in
    rw (e, k) refl

pub left_new : (nums at : List ℕ) (lo end : ℕ) (xs : List Live) → AllBelow nums lo → Rises lo xs end → left_after nums at None xs ≡ xs
left_new nums at lo end [] below r = refl
left_new nums at lo end (x ∷ xs) below r =
    let low = r.0 in
    let e = not_among nums lo x.number below low in
    let k = left_new nums at (x.number + 1) end xs (λ n f. let h = below n f in omega (arith, h, low)) r.1 in
    rw (e, k) refl

pub out_below : (shape : Shape) (next : ℕ) (bag : List Live) (o : Pending) → Rises 0 bag next → IsAllowed shape bag o → AllBelow o.inputs next
out_below shape next bag o r a n e = numbers_below 0 n next bag r (allowed_among shape bag o a n e)

pub allowed_born : (shape : Shape) (next end : ℕ) (bag new : List Live) (o : Pending) → Rises next new end → AllBelow o.inputs next → IsAllowed shape bag o → IsAllowed shape (bag ++ new) o
allowed_born shape next end bag new o rises below a =
    let q : taken o.inputs (bag ++ new) ≡ taken o.inputs bag =
    taken_append o.inputs bag new ∙ ap (λ (xs : List Live). taken o.inputs bag ++ xs) (taken_new o.inputs next end new below rises) ∙ append_nil (taken o.inputs bag) in
    allowed_of shape (bag ++ new) o (subst (Named shape o) (sym q) (named_of shape bag o a))

apart_sym : (p q : Pending) → IsApart p q → IsApart q p
apart_sym p q a = λ n e f. same_sym q.at p.at ∙ a n f e

-- each launch out but the one that settles stays allowed, on what its step leaves
pub allowed_settled : (shape : Shape) (next end : ℕ) (bag new : List Live) (o : Pending) (outs : List Pending) → Rises 0 bag next → Rises next new end → ApartFromAll o outs → AllAllowed shape bag outs → AllAllowed shape (after_one o bag ++ new) outs
allowed_settled shape next end bag new o [] rises rise apart all = tt
allowed_settled shape next end bag new o (p ∷ outs) rises rise apart all = (
  allowed_born shape next end (after_one o bag) new p rise (out_below shape next bag p rises all.0) (stays_allowed shape bag o p apart.0 all.0),
  allowed_settled shape next end bag new o outs rises rise apart.1 all.1,
)

pub all_without : (shape : Shape) (bag : List Live) (xs : List Pending) (o : Pending) (ys : List Pending) → AllAllowed shape bag (xs ++ o ∷ ys) → AllAllowed shape bag (xs ++ ys)
all_without shape bag [] o ys all = all.1
all_without shape bag (x ∷ xs) o ys all = (all.0, all_without shape bag xs o ys all.1)

pub one_of : (shape : Shape) (bag : List Live) (xs : List Pending) (o : Pending) (ys : List Pending) → AllAllowed shape bag (xs ++ o ∷ ys) → IsAllowed shape bag o
one_of shape bag [] o ys all = all.0
one_of shape bag (x ∷ xs) o ys all = one_of shape bag xs o ys all.1

apart_without : (p : Pending) (xs : List Pending) (o : Pending) (ys : List Pending) → ApartFromAll p (xs ++ o ∷ ys) → ApartFromAll p (xs ++ ys) × IsApart p o
apart_without p [] o ys a = (a.1, a.0)
apart_without p (x ∷ xs) o ys a = let k = apart_without p xs o ys a.1 in ((a.0, k.0), k.1)

pub apart_settled : (xs : List Pending) (o : Pending) (ys : List Pending) → AllApart (xs ++ o ∷ ys) → ApartFromAll o (xs ++ ys) × AllApart (xs ++ ys)
apart_settled [] o ys a = a
apart_settled (x ∷ xs) o ys a =
    let k = apart_settled xs o ys a.1 in
    let l = apart_without x xs o ys a.0 in
    ((apart_sym x o l.1, k.0), (l.0, k.1))

-- what is unopened gains the new records, and nothing else changes
pub unopened_new : (shape : Shape) (next end : ℕ) (bag new : List Live) (outs : List Pending) → Rises 0 bag next → Rises next new end → AllAllowed shape bag outs → unopened outs new ≡ new
unopened_new shape next end bag new [] rises rise all = refl
unopened_new shape next end bag new (o ∷ outs) rises rise all =
    ap (unopened outs) (left_new o.inputs o.at next end new (out_below shape next bag o rises all.0) rise)
    ∙ unopened_new shape next end bag new outs rises rise all.1
