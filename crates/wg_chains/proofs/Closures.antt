-- Which numbers steps lead to, found by letting them go through one number after another.
use Rattle.std.proofs.Common.{◌≡◌, ℕ, zero, suc, ◌+◌, ◌<◌, ◌≤◌, Bool, true, false, List, ◌&&◌, ◌||◌, refl, sym, ap, ap₂, subst, ◌∙◌, ◌⊎◌, inl, inr, ⊎_elim, arith, IsTrue, ◌↔◌, true≢false}
use Rattle.std.proofs.lemmas.Bool.{cases_lt}
use Rattle.wg_shapes.specs.Cycle.{Leads, at_once, through}
use Rattle.wg_chains.specs.Rows.{leads}

-- steps lead from i to j through numbers below k alone
abbrev pub through_below : (ℕ → ℕ → Bool) → ℕ → ℕ → ℕ → Bool
through_below R zero i j = R i j
through_below R (suc k) i j = through_below R k i j || (through_below R k i k && through_below R k k j)

or_left : (a b : Bool) → IsTrue a → IsTrue (a || b)
or_left true b h = refl
or_left false b h = absurd (true≢false (sym h))

or_right : (a b : Bool) → IsTrue b → IsTrue (a || b)
or_right true b h = refl
or_right false b h = h

or_either : (a b : Bool) → IsTrue (a || b) → IsTrue a ⊎ IsTrue b
or_either true b h = inl refl
or_either false b h = inr h

and_pair : (a b : Bool) → IsTrue a → IsTrue b → IsTrue (a && b)
and_pair true b p q = q
and_pair false b p q = p

and_left : (a b : Bool) → IsTrue (a && b) → IsTrue a
and_left true b h = refl
and_left false b h = h

and_right : (a b : Bool) → IsTrue (a && b) → IsTrue b
and_right true b h = h
and_right false b h = absurd (true≢false (sym h))

module _ (R : ℕ → ℕ → Bool) where
  one_more : (k i j : ℕ) → IsTrue (through_below R k i j) → IsTrue (through_below R (suc k) i j)
  one_more k i j h = or_left (through_below R k i j) (through_below R k i k && through_below R k k j) h

  by_the_last : (k i j : ℕ) → IsTrue (through_below R k i k) → IsTrue (through_below R k k j) → IsTrue (through_below R (suc k) i j)
  by_the_last k i j p q = or_right (through_below R k i j) (through_below R k i k && through_below R k k j) (and_pair (through_below R k i k) (through_below R k k j) p q)

  -- to the number that comes in, the old steps lead
  to_the_last : (k i : ℕ) → IsTrue (through_below R (suc k) i k) → IsTrue (through_below R k i k)
  to_the_last k i h = ⊎_elim (λ a. a) (λ b. and_left (through_below R k i k) (through_below R k k k) b) (or_either (through_below R k i k) (through_below R k i k && through_below R k k k) h)

  from_the_last : (k j : ℕ) → IsTrue (through_below R (suc k) k j) → IsTrue (through_below R k k j)
  from_the_last k j h = ⊎_elim (λ a. a) (λ b. and_right (through_below R k k k) (through_below R k k j) b) (or_either (through_below R k k j) (through_below R k k k && through_below R k k j) h)

  -- steps through numbers below k go on from one of these
  abbrev Joins : ℕ → Type 0
  Joins k = (i m j : ℕ) → m < k → IsTrue (through_below R k i m) → IsTrue (through_below R k m j) → IsTrue (through_below R k i j)

  joined_below : (k : ℕ) → Joins k → (i m j : ℕ) → m < k → IsTrue (through_below R (suc k) i m) → IsTrue (through_below R (suc k) m j) → IsTrue (through_below R (suc k) i j)
  joined_below k more i m j l p q = ⊎_elim
      (λ a. ⊎_elim
      (λ b. one_more k i j (more i m j l a b))
      (λ b. by_the_last k i j (more i m k l a (and_left (through_below R k m k) (through_below R k k j) b)) (and_right (through_below R k m k) (through_below R k k j) b))
      (or_either (through_below R k m j) (through_below R k m k && through_below R k k j) q))
      (λ a. ⊎_elim
      (λ b. by_the_last k i j (and_left (through_below R k i k) (through_below R k k m) a) (more k m j l (and_right (through_below R k i k) (through_below R k k m) a) b))
      (λ b. by_the_last k i j (and_left (through_below R k i k) (through_below R k k m) a) (and_right (through_below R k m k) (through_below R k k j) b))
      (or_either (through_below R k m j) (through_below R k m k && through_below R k k j) q))
      (or_either (through_below R k i m) (through_below R k i k && through_below R k k m) p)

  joined : (k : ℕ) → Joins k
  joined zero i m j lt p q = absurd (omega (arith, lt))
  joined (suc k) i m j lt p q = ⊎_elim
      (λ (l : m < k). joined_below k (joined k) i m j l p q)
      (λ (le : k ≤ m). (let e : m ≡ k = omega (arith, le, lt) in
      by_the_last k i j (to_the_last k i (subst (λ x. IsTrue (through_below R (suc k) i x)) e p)) (from_the_last k j (subst (λ x. IsTrue (through_below R (suc k) x j)) e q))))
      (cases_lt m k)

  all_steps : (k i j : ℕ) → IsTrue (R i j) → IsTrue (through_below R k i j)
  all_steps zero i j h = h
  all_steps (suc k) i j h = one_more k i j (all_steps k i j h)

  linked : (i m j : ℕ) → Leads R i m → Leads R m j → Leads R i j
  linked i m j a (at_once t) = through a t
  linked i m j a (through {by = b} c t) = through (linked i m b a c) t

  pub leads_there : (k i j : ℕ) → IsTrue (through_below R k i j) → Leads R i j
  leads_there zero i j h = at_once h
  leads_there (suc k) i j h = ⊎_elim
      (λ a. leads_there k i j a)
      (λ b. linked i k j (leads_there k i k (and_left (through_below R k i k) (through_below R k k j) b)) (leads_there k k j (and_right (through_below R k i k) (through_below R k k j) b)))
      (or_either (through_below R k i j) (through_below R k i k && through_below R k k j) h)

  pub is_led : (n i j : ℕ) → ((a b : ℕ) → IsTrue (R a b) → a < n) → Leads R i j → IsTrue (through_below R n i j)
  is_led n i j within (at_once t) = all_steps n i j t
  is_led n i j within (through {by = m} c t) = joined n i m j (within m j t) (is_led n i m within c) (all_steps n m j t)

-- the same tests lead the same way
pub same_leads : (R S : ℕ → ℕ → Bool) (i j : ℕ) → ((a b : ℕ) → R a b ≡ S a b) → Leads R i j → Leads S i j
same_leads R S i j same (at_once t) = at_once (sym (same i j) ∙ t)
same_leads R S i j same (through {by = m} c t) = through (same_leads R S i m same c) (sym (same m j) ∙ t)

-- rows where steps go through one number more
pub next_rows : (R : ℕ → ℕ → Bool) (old new : List (List Bool)) (k : ℕ) → ((i j : ℕ) → leads old i j ≡ through_below R k i j)
    → ((i j : ℕ) → leads new i j ≡ (leads old i j || (leads old i k && leads old k j))) → (i j : ℕ) → leads new i j ≡ through_below R (k + 1) i j
next_rows R old new k was is i j =
    let e : suc k ≡ k + 1 = omega arith in
    is i j ∙ (ap₂ (λ a b. a || b) (was i j) (ap₂ (λ a b. a && b) (was i k) (was k j)) ∙ ap (λ n. through_below R n i j) e)
