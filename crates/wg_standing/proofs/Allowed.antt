-- Launches that stay allowed.
use Rattle.std.proofs.Common.{None, ◌≡◌, ℕ, Bool, true, false, ◌||◌, List, [], ◌∷◌, ◌++◌, map, refl, ap, sym, ◌∙◌, subst, arith, inl, inr, ◌⊎◌}
use Rattle.std.specs.Prelude.{if◌then◌else◌}
use Rattle.std.proofs.lemmas.Bool.Decides.{nat_tests}
use Rattle.wg_machine.specs.declared.launch.Live.{Live}
use Rattle.wg_machine.specs.State.{kept}
use Rattle.wg_machine.specs.Step.{left_after, has_number, taken, IsReady}
use Rattle.wg_machine.specs.Grids.{without_group, same_group, has_group}
use Rattle.wg_words.specs.Each.{Each}
use Rattle.wg_standing.proofs.Commute.{live_with, ran, same_both}

pub same_self : (g : List ℕ) → same_group g g ≡ true
same_self g = grind (arith, nat_tests)

pub same_sym : (g h : List ℕ) → same_group g h ≡ same_group h g
same_sym g h = grind (arith, nat_tests)

either : (a b : Bool) → (a || b) ≡ true → (a ≡ true) ⊎ (b ≡ true)
either true b e = inl refl
either false b e = inr e

pub has_cases : (g at : List ℕ) (gs : List (List ℕ)) → has_group (g ∷ gs) at ≡ true → (same_group g at ≡ true) ⊎ (has_group gs at ≡ true)
has_cases g at gs h = either (same_group g at) (has_group gs at) h

or_first : (a b : Bool) → a ≡ true → (a || b) ≡ true
or_first true b e = refl
or_first false b e = absurd (cc)

or_second : (a b : Bool) → b ≡ true → (a || b) ≡ true
or_second true b e = refl
or_second false b e = e

pub has_here : (g at : List ℕ) (gs : List (List ℕ)) → same_group g at ≡ true → has_group (g ∷ gs) at ≡ true
has_here g at gs e = or_first (same_group g at) (has_group gs at) e

pub has_more : (g at : List ℕ) (gs : List (List ℕ)) → has_group gs at ≡ true → has_group (g ∷ gs) at ≡ true
has_more g at gs e = or_second (same_group g at) (has_group gs at) e

-- another group stays
pub without_keeps : (at other : List ℕ) (gs : List (List ℕ)) → has_group gs at ≡ true → same_group other at ≡ false → has_group (without_group other gs) at ≡ true
without_keeps at other [] c f = c
without_keeps at other (g ∷ gs) c f = choice (λ d. without_keeps at other gs d f) (same_group g other) refl (has_cases g at gs c)
  where
    choice : (has_group gs at ≡ true → has_group (without_group other gs) at ≡ true) → (b : Bool) → same_group g other ≡ b → (same_group g at ≡ true) ⊎ (has_group gs at ≡ true) → has_group (if b then gs else g ∷ without_group other gs) at ≡ true
    choice ih true e (inl q) = let t = same_both g other at e q in absurd (cc)
    choice ih true e (inr d) = d
    choice ih false e (inl q) = has_here g at (without_group other gs) q
    choice ih false e (inr d) = has_more g at (without_group other gs) (ih d)

pub taken_append : (nums : List ℕ) (xs ys : List Live) → taken nums (xs ++ ys) ≡ taken nums xs ++ taken nums ys
taken_append nums [] ys = refl
taken_append nums (x ∷ xs) ys = choice (taken_append nums xs ys) (has_number nums x.number)
  where
    choice : taken nums (xs ++ ys) ≡ taken nums xs ++ taken nums ys → (b : Bool) → (if b then x ∷ taken nums (xs ++ ys) else taken nums (xs ++ ys)) ≡ (if b then x ∷ taken nums xs else taken nums xs) ++ taken nums ys
    choice ih true = ap (λ (rest : List Live). x ∷ rest) ih
    choice ih false = ih

pub taken_kept_not : (nums : List ℕ) (number unit : ℕ) (words grid : List ℕ) (gs : List (List ℕ)) → has_number nums number ≡ false → taken nums (kept (live_with number unit words grid gs)) ≡ []
taken_kept_not nums number unit words grid [] e = refl
taken_kept_not nums number unit words grid (g ∷ gs) e = rw e refl

pub taken_ran_not : (nums other : List ℕ) (x : Live) (b : Bool) → has_number nums x.number ≡ false → taken nums (ran b other x) ≡ []
taken_ran_not nums other x true e = taken_kept_not nums x.number x.unit x.words x.grid (without_group other x.groups) e
taken_ran_not nums other x false e = rw e refl

-- a record without its groups
abbrev pub bare : Live → Live
bare x = record x { groups = [] }

-- what a launch takes is there after another one took its group
pub record StaysReady (unit : ℕ) (at nums : List ℕ) (old new : List Live) : Type 0 where
  pub records : map bare (taken nums new) ≡ map bare (taken nums old)
  pub ready : Each (IsReady unit at) (taken nums new)

stays_one : (unit : ℕ) (at nums other : List ℕ) (number u : ℕ) (words grid : List ℕ) (gs : List (List ℕ)) (old rest : List Live) → has_number nums number ≡ true → u ≡ unit → has_group gs at ≡ true → StaysReady unit at nums old rest → StaysReady unit at nums (live_with number u words grid gs ∷ old) (kept (live_with number u words grid gs) ++ rest)
stays_one unit at nums other number u words grid [] old rest e f c s = absurd (cc)
stays_one unit at nums other number u words grid (g ∷ gs) old rest e f c s =
    record {
      records = rw e (ap (λ (tail : List Live). live_with number u words grid [] ∷ tail) s.records);
      ready = rw e (record { unit_is = f; group_is = c }, s.ready);
    }

pub stays : (unit : ℕ) (at nums other others : List ℕ) (bag : List Live) → ((n : ℕ) → has_number others n ≡ true → has_number nums n ≡ true → same_group other at ≡ false) → Each (IsReady unit at) (taken nums bag) → StaysReady unit at nums bag (left_after others other None bag)
stays unit at nums other others [] apart r = record { records = refl; ready = tt }
stays unit at nums other others (x ∷ bag) apart r = choice (λ h. stays unit at nums other others bag apart h) (has_number nums x.number) (has_number others x.number) refl refl r
  where
    choice : (Each (IsReady unit at) (taken nums bag) → StaysReady unit at nums bag (left_after others other None bag)) → (s t : Bool) → has_number nums x.number ≡ s → has_number others x.number ≡ t → Each (IsReady unit at) (if s then x ∷ taken nums bag else taken nums bag) → StaysReady unit at nums (x ∷ bag) (ran t other x ++ left_after others other None bag)
    choice ih true true e f r =
        let k = ih r.1 in
        let c = without_keeps at other x.groups r.0.group_is (apart x.number f e) in
        let s = stays_one unit at nums other x.number x.unit x.words x.grid (without_group other x.groups) bag (left_after others other None bag) e r.0.unit_is c k in
        record { records = s.records ∙ rw e refl; ready = s.ready }
    choice ih true false e f r =
        let k = ih r.1 in
        record {
          records = rw e (ap (λ (tail : List Live). bare x ∷ tail) k.records);
          ready = rw e (r.0, k.ready);
        }
    choice ih false t e f r =
        let k = ih r in
        let n : taken nums (ran t other x ++ left_after others other None bag) ≡ taken nums (left_after others other None bag) =
        taken_append nums (ran t other x) (left_after others other None bag) ∙ ap (λ (first : List Live). first ++ taken nums (left_after others other None bag)) (taken_ran_not nums other x t e) in
        record {
          records = ap (map bare) n ∙ k.records ∙ rw e refl;
          ready = subst (λ (xs : List Live). Each (IsReady unit at) xs) (sym n) k.ready;
        }
