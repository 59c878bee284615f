-- A launch that what is not yet opened allows is one that the bag allows, apart from those that are out.
use Rattle.std.proofs.Common.{None, ◌≡◌, ℕ, ◌+◌, ◌≤◌, Bool, true, false, ◌||◌, cond, List, [], ◌∷◌, ◌++◌, map, refl, ap, sym, ◌∙◌, subst, arith, inl, inr, ◌⊎◌}
use Rattle.std.specs.Prelude.{if◌then◌else◌, ◌==◌}
use Rattle.std.proofs.lemmas.List.Sums.{sum_by-cons}
use Rattle.wg_machine.specs.declared.launch.Live.{Live}
use Rattle.wg_machine.specs.State.{kept}
use Rattle.wg_machine.specs.Step.{left_after, has_number, taken, IsReady}
use Rattle.wg_machine.specs.Grids.{without_group, same_group, has_group}
use Rattle.wg_machine.specs.Run.{times}
use Rattle.wg_standing.specs.Standing.{Rises, EachDistinct}
use Rattle.wg_words.specs.Each.{Each}
use Rattle.wg_standing.proofs.Commute.{live_with, ran, same_as}
use Rattle.wg_standing.proofs.Allowed.{bare, has_cases, has_here, has_more, taken_append, taken_ran_not}
use Rattle.wg_standing.proofs.Rising.{rises_left, numbers, among_none, among_ran}

pub times_cons : (at g : List ℕ) (gs : List (List ℕ)) → times at (g ∷ gs) ≡ (if same_group g at then 1 else 0) + times at gs
times_cons at g gs = sum_by-cons (λ (h : List ℕ). cond (same_group h at) 1 0) g gs

has_times : (at : List ℕ) (gs : List (List ℕ)) → has_group gs at ≡ true → 1 ≤ times at gs
has_times at [] c = absurd (cc)
has_times at (g ∷ gs) c = choice (λ d. has_times at gs d) (has_cases g at gs c)
  where
    choice : (has_group gs at ≡ true → 1 ≤ times at gs) → (same_group g at ≡ true) ⊎ (has_group gs at ≡ true) → 1 ≤ times at (g ∷ gs)
    choice ih (inl e) =
        let t = times_cons at g gs in
        let t' = subst (λ (b : Bool). times at (g ∷ gs) ≡ (if b then 1 else 0) + times at gs) e t in omega (arith, t')
    choice ih (inr d) = let k = ih d in let t = times_cons at g gs in omega (arith, t, k)

-- what another group leaves was there
without_back : (at other : List ℕ) (gs : List (List ℕ)) → has_group (without_group other gs) at ≡ true → has_group gs at ≡ true
without_back at other [] c = c
without_back at other (g ∷ gs) c = choice (λ d. without_back at other gs d) (same_group g other) c
  where
    choice : (has_group (without_group other gs) at ≡ true → has_group gs at ≡ true) → (b : Bool) → has_group (if b then gs else g ∷ without_group other gs) at ≡ true → has_group (g ∷ gs) at ≡ true
    choice ih true c = has_more g at gs c
    choice ih false c =
        elim (has_cases g at (without_group other gs) c) [
          | inl q ↦ has_here g at gs q
          | inr d ↦ has_more g at gs (ih d)
        ]

-- in a record whose groups differ, what another group leaves is another one
without_other : (at other : List ℕ) (gs : List (List ℕ)) → times at gs ≤ 1 → has_group (without_group other gs) at ≡ true → same_group other at ≡ false
without_other at other [] t c = absurd (cc)
without_other at other (g ∷ gs) t c = choice (λ u d. without_other at other gs u d) (same_group g other) refl (same_group other at) refl c
  where
    fewer : times at gs ≤ 1
    fewer = let e = times_cons at g gs in omega (arith, e, t)

    choice : (times at gs ≤ 1 → has_group (without_group other gs) at ≡ true → same_group other at ≡ false) → (b : Bool) → same_group g other ≡ b → (d : Bool) → same_group other at ≡ d → has_group (if b then gs else g ∷ without_group other gs) at ≡ true → d ≡ false
    choice ih b e false f c = refl
    choice ih true e true f c =
        let k : same_group g at ≡ true = sym (same_as g other at f) ∙ e in
        let one = has_times at gs c in
        let t' = subst (λ (b : Bool). times at (g ∷ gs) ≡ (if b then 1 else 0) + times at gs) k (times_cons at g gs) in absurd (omega (arith, one, t', t))
    choice ih false e true f c =
        elim (has_cases g at (without_group other gs) c) [
          | inl q ↦ (let k : same_group g other ≡ true = same_as g other at f ∙ q in absurd (cc))
          | inr d ↦ (let k = ih fewer d in absurd (cc))
        ]

abbrev pub Covers : List ℕ → ℕ → List Live → Type 0
Covers nums lo rest = (n : ℕ) → has_number nums n ≡ true → lo ≤ n → has_number (numbers rest) n ≡ true

record WasOne (unit : ℕ) (at nums : List ℕ) (number u : ℕ) (words grid : List ℕ) (gs : List (List ℕ)) (rest : List Live) : Type 0 where
  unit_is : u ≡ unit
  group_is : has_group gs at ≡ true
  ready : Each (IsReady unit at) (taken nums rest)
  records : map bare (taken nums (kept (live_with number u words grid gs) ++ rest)) ≡ live_with number u words grid [] ∷ map bare (taken nums rest)

was_one : (unit : ℕ) (at nums : List ℕ) (number u end : ℕ) (words grid : List ℕ) (gs : List (List ℕ)) (rest : List Live) → has_number nums number ≡ true → Rises (number + 1) rest end → has_number (numbers (kept (live_with number u words grid gs) ++ rest)) number ≡ true → Each (IsReady unit at) (taken nums (kept (live_with number u words grid gs) ++ rest)) → WasOne unit at nums number u words grid gs rest
was_one unit at nums number u end words grid [] rest e r there ready =
    let none = among_none number (number + 1) end rest r (omega arith) in absurd (cc)
was_one unit at nums number u end words grid (g ∷ gs) rest e r there ready =
    let x = live_with number u words grid (g ∷ gs) in
    let a = subst (λ (b : Bool). Each (IsReady unit at) (if b then x ∷ taken nums rest else taken nums rest)) e ready in
    record { unit_is = a.0.unit_is; group_is = a.0.group_is; ready = a.1; records = rw e refl }

pub record WasReady (unit : ℕ) (at nums others other : List ℕ) (old new : List Live) : Type 0 where
  pub records : map bare (taken nums new) ≡ map bare (taken nums old)
  pub ready : Each (IsReady unit at) (taken nums old)
  pub apart : (n : ℕ) → has_number others n ≡ true → has_number nums n ≡ true → has_number (numbers new) n ≡ true → same_group other at ≡ false

pub was : (unit : ℕ) (at nums other others : List ℕ) (lo end : ℕ) (bag : List Live) → Rises lo bag end → EachDistinct bag → Covers nums lo (left_after others other None bag) → Each (IsReady unit at) (taken nums (left_after others other None bag)) → WasReady unit at nums others other bag (left_after others other None bag)
was unit at nums other others lo end [] rises distinct covers r = record { records = refl; ready = tt; apart = λ n e f g. absurd (cc) }
was unit at nums other others lo end (x ∷ bag) rises distinct covers r = choice (λ c a. was unit at nums other others (x.number + 1) end bag rises.1 distinct.1 c a) (has_number nums x.number) (has_number others x.number) refl refl covers r
  where
    rest : List Live
    rest = left_after others other None bag

    tail : (t : Bool) → Covers nums lo (ran t other x ++ left_after others other None bag) → Covers nums (x.number + 1) (left_after others other None bag)
    tail t c n e h =
        let low = rises.0 in
        elim (among_ran other x (left_after others other None bag) t n (c n e (omega arith))) [
          | inl q ↦ absurd (omega arith)
          | inr k ↦ k
        ]

    tail_ready : (t : Bool) → has_number nums x.number ≡ false → Each (IsReady unit at) (taken nums (ran t other x ++ left_after others other None bag)) → Each (IsReady unit at) (taken nums (left_after others other None bag))
    tail_ready t e a = subst (Each (IsReady unit at)) (taken_append nums (ran t other x) (left_after others other None bag) ∙ ap (λ (first : List Live). first ++ taken nums (left_after others other None bag)) (taken_ran_not nums other x t e)) a

    choice : (Covers nums (x.number + 1) (left_after others other None bag) → Each (IsReady unit at) (taken nums (left_after others other None bag)) → WasReady unit at nums others other bag (left_after others other None bag)) → (s t : Bool) → has_number nums x.number ≡ s → has_number others x.number ≡ t → Covers nums lo (ran t other x ++ left_after others other None bag) → Each (IsReady unit at) (taken nums (ran t other x ++ left_after others other None bag)) → WasReady unit at nums others other (x ∷ bag) (ran t other x ++ left_after others other None bag)
    choice ih true true e f c a =
        let w = was_one unit at nums x.number x.unit end x.words x.grid (without_group other x.groups) (left_after others other None bag) e (rises_left (x.number + 1) end others other bag rises.1) (c x.number e rises.0) a in
        let k = ih (tail true c) w.ready in
        let differs : same_group other at ≡ false = without_other at other x.groups (distinct.0 at) w.group_is in
        record {
          records = w.records ∙ rw e (ap (λ (more : List Live). bare x ∷ more) k.records);
          ready = rw e (record { unit_is = w.unit_is; group_is = without_back at other x.groups w.group_is }, k.ready);
          apart = λ n g h there. differs;
        }
    choice ih true false e f c a =
        let b = subst (λ (s : Bool). Each (IsReady unit at) (if s then x ∷ taken nums (left_after others other None bag) else taken nums (left_after others other None bag))) e a in
        let k = ih (tail false c) b.1 in
        record {
          records = rw e (ap (λ (more : List Live). bare x ∷ more) k.records);
          ready = rw e (b.0, k.ready);
          apart = λ n g h there. elim (among_ran other x (left_after others other None bag) false n there) [
            | inl q ↦ (let z : has_number others n ≡ false = subst (λ (m : ℕ). has_number others m ≡ false) q f in absurd (cc))
            | inr m ↦ k.apart n g h m
          ];
        }
    choice ih false t e f c a =
        let k = ih (tail t c) (tail_ready t e a) in
        record {
          records = ap (map bare) (taken_append nums (ran t other x) (left_after others other None bag) ∙ ap (λ (first : List Live). first ++ taken nums (left_after others other None bag)) (taken_ran_not nums other x t e)) ∙ k.records ∙ rw e refl;
          ready = rw e k.ready;
          apart = λ n g h there. elim (among_ran other x (left_after others other None bag) t n there) [
            | inl q ↦ (let z : has_number nums n ≡ false = subst (λ (m : ℕ). has_number nums m ≡ false) q e in absurd (cc))
            | inr m ↦ k.apart n g h m
          ];
        }

pub among_taken : (nums : List ℕ) (bag : List Live) (n : ℕ) → has_number (numbers (taken nums bag)) n ≡ true → has_number (numbers bag) n ≡ true
among_taken nums [] n e = e
among_taken nums (x ∷ bag) n e = choice (λ f. among_taken nums bag n f) (has_number nums x.number) e
  where
    more : has_number (numbers bag) n ≡ true → has_number (numbers (x ∷ bag)) n ≡ true
    more f = either (x.number == n) (has_number (numbers bag) n) f
      where
        either : (a b : Bool) → b ≡ true → (a || b) ≡ true
        either true b f = refl
        either false b f = f

    first : (a b c : Bool) → (b ≡ true → c ≡ true) → (a || b) ≡ true → (a || c) ≡ true
    first true b c f e = refl
    first false b c f e = f e

    choice : (has_number (numbers (taken nums bag)) n ≡ true → has_number (numbers bag) n ≡ true) → (b : Bool) → has_number (numbers (if b then x ∷ taken nums bag else taken nums bag)) n ≡ true → has_number (numbers (x ∷ bag)) n ≡ true
    choice ih true e = first (x.number == n) (has_number (numbers (taken nums bag)) n) (has_number (numbers bag) n) ih e
    choice ih false e = more (ih e)
