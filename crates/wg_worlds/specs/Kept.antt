-- What lanes do to a world leaves it lawful.
use Rattle.std.proofs.Common.{◌≡◌, ℕ, zero, suc, ◌+◌, ◌-◌, ◌≤◌, Bool, true, false, cond, List, [], ◌∷◌, ◌++◌, length, Option, Some, None, refl, sym, ap, ◌∙◌, subst, arith}
use Rattle.std.specs.Prelude.{◌==◌, if◌then◌else◌, nat_le, is_some, slice_get, slice_index, slice_set}
use Rattle.std.proofs.lemmas.Bool.Decides.{nat_tests, Decides-eqb}
use Rattle.std.proofs.lemmas.List.{length-set, length-replicate, length-append}
use Rattle.std.proofs.lemmas.List.Sums.{sum_by_push, sum_by-cons}
use Rattle.wg_words.specs.Each.{Each}
use Rattle.wg_machine.specs.declared.shape.Output.{Output}
use Rattle.wg_machine.specs.declared.shape.Unit.{Unit as Node}
use Rattle.wg_machine.specs.declared.launch.Launch.{Launch}
use Rattle.wg_machine.specs.Buffers.{Buffers, lengths_of}
use Rattle.wg_state.specs.Launching.{record_words_of, world_before}
use Rattle.wg_state.specs.Requests.{target_of, budget_of, record_words, grant_for, with_grant, budget_taken, denied_once, is_granted, asked, requested, closed, closed_in}
use Rattle.wg_state.specs.WordLists.{zeros}
use Rattle.wg_state.specs.declared.world.Grant.{Grant}
use Rattle.wg_state.specs.declared.world.Request.{Request}
use Rattle.wg_state.specs.declared.world.World.{World}
use Rattle.wg_worlds.specs.Lawful.{counted_on, granted_on, HasOutputWords, IsLawfulWorld, IsRewritten}
use Rattle.wg_worlds.specs.Lists.{each_append, each_set, each_at, each_replicate, index_set_same, index_set_other}

pub begins : (shared : List (List ℕ)) (unit : Node) (launch : Launch) (buffers : Buffers)
    → IsLawfulWorld unit (lengths_of (record_words_of launch)) (lengths_of buffers) (world_before shared unit launch buffers)
begins shared unit launch buffers = record {
  items = tt;
  budgets = λ b. (omega arith);
  denied = omega arith;
  inputs_stay = refl;
  buffers_stay = refl;
}

-- ---- requests

module _ (unit : Node) (inputs buffers : List ℕ) (r : Request) where
  -- what a grant of so many records counts against a budget
  counts : (b n : ℕ) → counted_on unit.outputs b (grant_for unit.outputs r n) ≡ (if budget_of (slice_get unit.outputs r.output) == b then n else 0)
  counts b n = ap (λ (k : ℕ). if budget_of (slice_get unit.outputs r.output) == b then k else 0) (length-replicate n (zeros (record_words (slice_get unit.outputs r.output))))

  has_words : (n : ℕ) → HasOutputWords unit.outputs (grant_for unit.outputs r n)
  has_words n = each_replicate _ n (zeros (record_words (slice_get unit.outputs r.output))) (length-replicate (record_words (slice_get unit.outputs r.output)) 0)

  one_more : (w : World) (g : Grant) → length (w.grants ++ g ∷ []) ≡ length w.grants + 1
  one_more w g = length-append w.grants (g ∷ [])

  nothing_more : (t : Bool) → cond {A = ℕ} t 0 0 ≡ 0
  nothing_more true = refl
  nothing_more false = refl

  -- a grant of none, where at most one more is denied
  none_granted : (w : World) (denied : ℕ) → denied ≤ w.denied + 1 → IsLawfulWorld unit inputs buffers w
      → IsLawfulWorld unit inputs buffers (with_grant unit.outputs r 0 (record w { denied = denied }))
  none_granted w denied few l = record {
    items = each_append (HasOutputWords unit.outputs) w.grants (grant_for unit.outputs r 0 ∷ []) l.items (has_words 0, tt);
    budgets = λ b. (
        let p = sum_by_push (counted_on unit.outputs b) w.grants (grant_for unit.outputs r 0) in
        let c = counts b 0 ∙ nothing_more (budget_of (slice_get unit.outputs r.output) == b) in
        let old = l.budgets b in
        omega (arith, p, c, old));
    denied = let n = one_more w (grant_for unit.outputs r 0) in let d = l.denied in omega (arith, n, d, few);
    inputs_stay = l.inputs_stay;
    buffers_stay = l.buffers_stay;
  }

  -- so many more are granted on a budget, and so many fewer are left of it
  moved : (left : List ℕ) (at b n granted budget : ℕ) → 1 ≤ n → n ≤ slice_index left at → granted + slice_index left b ≡ budget
      → (granted + (if at == b then n else 0)) + slice_index (slice_set left at (slice_index left at - n)) b ≡ budget
  moved left at b n granted budget some few old = choice (at == b) refl
    where
      choice : (t : Bool) → (at == b) ≡ t → (granted + (if t then n else 0)) + slice_index (slice_set left at (slice_index left at - n)) b ≡ budget
      choice true e =
          let same : at ≡ b = (Decides-eqb at b).0 e in
          let here = index_set_same left at (slice_index left at - n) (omega (arith, some, few)) in
          let there = subst (λ k. slice_index (slice_set left at (slice_index left at - n)) k ≡ slice_index left at - n) same here in
          let before = subst (λ k. granted + slice_index left k ≡ budget) (sym same) old in
          omega (arith, there, before, few)
      choice false e = let other = index_set_other left at b (slice_index left at - n) e in omega (arith, other, old)

  all_granted : (w : World) (n : ℕ) → 1 ≤ n → n ≤ slice_index w.left (budget_of (slice_get unit.outputs r.output)) → IsLawfulWorld unit inputs buffers w
      → IsLawfulWorld unit inputs buffers (with_grant unit.outputs r n (budget_taken (budget_of (slice_get unit.outputs r.output)) n w))
  all_granted w n some few l = record {
    items = each_append (HasOutputWords unit.outputs) w.grants (grant_for unit.outputs r n ∷ []) l.items (has_words n, tt);
    budgets = λ b.
        ap (λ k. k + slice_index (slice_set w.left (budget_of (slice_get unit.outputs r.output)) (slice_index w.left (budget_of (slice_get unit.outputs r.output)) - n)) b)
        (sum_by_push (counted_on unit.outputs b) w.grants (grant_for unit.outputs r n) ∙ ap (λ k. granted_on unit.outputs b w.grants + k) (counts b n))
        ∙ moved w.left (budget_of (slice_get unit.outputs r.output)) b n (granted_on unit.outputs b w.grants) (slice_index unit.budgets b) some few (l.budgets b);
    denied = let k = one_more w (grant_for unit.outputs r n) in let d = l.denied in omega (arith, k, d);
    inputs_stay = l.inputs_stay;
    buffers_stay = l.buffers_stay;
  }

  within : (t : Bool) (n m : ℕ) → (if t then nat_le n m else false) ≡ true → n ≤ m
  within true n m e = grind (arith, nat_tests)
  within false n m e = absurd (cc)

  whole : (w : World) (t : Bool) → is_granted unit.outputs r w ≡ t → 1 ≤ r.amount → IsLawfulWorld unit inputs buffers w
      → IsLawfulWorld unit inputs buffers (if t then with_grant unit.outputs r r.amount (budget_taken (budget_of (slice_get unit.outputs r.output)) r.amount w) else with_grant unit.outputs r 0 (denied_once w))
  whole w true e some l = all_granted w r.amount some (within (is_some (target_of unit.outputs r.output r.element)) r.amount (slice_index w.left (budget_of (slice_get unit.outputs r.output))) e) l
  whole w false e some l = none_granted w (suc w.denied) (omega arith) l

  asks : (w : World) (n : ℕ) → r.amount ≡ n → IsLawfulWorld unit inputs buffers w → IsLawfulWorld unit inputs buffers (asked unit.outputs r n w)
  asks w zero e l = none_granted w w.denied (omega arith) l
  asks w (suc n) e l = whole w (is_granted unit.outputs r w) refl (omega (arith, e)) l

  pub request_kept : (w : World) → IsLawfulWorld unit inputs buffers w → IsLawfulWorld unit inputs buffers (requested unit.outputs r w)
  request_kept w l = asks w r.amount refl l

pub one_grant : (outputs : List Output) (r : Request) (w : World) → length (requested outputs r w).grants ≡ length w.grants + 1
one_grant outputs r w = asks r.amount
  where
    whole : (t : Bool) → length (if t then with_grant outputs r r.amount (budget_taken (budget_of (slice_get outputs r.output)) r.amount w) else with_grant outputs r 0 (denied_once w)).grants ≡ length w.grants + 1
    whole true = length-append w.grants (grant_for outputs r r.amount ∷ [])
    whole false = length-append w.grants (grant_for outputs r 0 ∷ [])

    asks : (n : ℕ) → length (asked outputs r n w).grants ≡ length w.grants + 1
    asks zero = length-append w.grants (grant_for outputs r 0 ∷ [])
    asks (suc n) = whole (is_granted outputs r w)

-- ---- grants that are there

module _ (unit : Node) (inputs buffers : List ℕ) where
  -- a list's elements have these words, by the lengths alone
  same_words : (n : ℕ) (new old : List (List ℕ)) → lengths_of new ≡ lengths_of old → Each (λ (words : List ℕ). length words ≡ n) old → Each (λ (words : List ℕ). length words ≡ n) new
  same_words n [] old e f = tt
  same_words n (x ∷ new) [] e f = absurd (cc)
  same_words n (x ∷ new) (y ∷ old) e f = (first (length x) (length y) (lengths_of new) (lengths_of old) e ∙ f.0, same_words n new old (rest (length x) (length y) (lengths_of new) (lengths_of old) e) f.1)
    where
      first : (a b : ℕ) (xs ys : List ℕ) → a ∷ xs ≡ b ∷ ys → a ≡ b
      first a b xs ys e = cc

      rest : (a b : ℕ) (xs ys : List ℕ) → a ∷ xs ≡ b ∷ ys → xs ≡ ys
      rest a b xs ys e = cc

  length_of_lengths : (lists : List (List ℕ)) → length (lengths_of lists) ≡ length lists
  length_of_lengths [] = refl
  length_of_lengths (x ∷ lists) = ap suc (length_of_lengths lists)

  as_many : (new old : List (List ℕ)) → lengths_of new ≡ lengths_of old → length new ≡ length old
  as_many new old e = sym (length_of_lengths new) ∙ (ap (λ (ns : List ℕ). length ns) e ∙ length_of_lengths old)

  same_count : (b : ℕ) (old new : Grant) → IsRewritten old new → counted_on unit.outputs b new ≡ counted_on unit.outputs b old
  same_count b old new g =
      ap (λ o. if budget_of (slice_get unit.outputs o) == b then length new.items else 0) g.output
      ∙ ap (λ (n : ℕ). if budget_of (slice_get unit.outputs old.output) == b then n else 0) (as_many new.items old.items g.lengths)

  same_granted : (b : ℕ) (grants : List Grant) (at : ℕ) (old new : Grant) → slice_get grants at ≡ Some old → counted_on unit.outputs b new ≡ counted_on unit.outputs b old
      → granted_on unit.outputs b (slice_set grants at new) ≡ granted_on unit.outputs b grants
  same_granted b [] at old new e c = refl
  same_granted b (g ∷ grants) zero old new e c =
      let p = sum_by-cons (counted_on unit.outputs b) new grants in
      let q = sum_by-cons (counted_on unit.outputs b) g grants in
      let h = ap (counted_on unit.outputs b) (inside g old e) in
      omega (arith, p, q, h, c)
    where
      inside : (y x : Grant) → Some y ≡ Some x → y ≡ x
      inside y x e = cc
  same_granted b (g ∷ grants) (suc at) old new e c =
      let p = sum_by-cons (counted_on unit.outputs b) g (slice_set grants at new) in
      let q = sum_by-cons (counted_on unit.outputs b) g grants in
      let ih = same_granted b grants at old new e c in
      omega (arith, p, q, ih)

  new_words : (old new : Grant) → IsRewritten old new → HasOutputWords unit.outputs old → HasOutputWords unit.outputs new
  new_words old new g h =
      subst (λ o. Each (λ (words : List ℕ). length words ≡ record_words (slice_get unit.outputs o)) new.items) (sym g.output)
      (same_words (record_words (slice_get unit.outputs old.output)) new.items old.items g.lengths h)

  pub record_kept : (w : World) (at : ℕ) (old new : Grant) → IsLawfulWorld unit inputs buffers w → slice_get w.grants at ≡ Some old → IsRewritten old new
      → IsLawfulWorld unit inputs buffers (record w { grants = slice_set w.grants at new })
  record_kept w at old new l e g = record {
    items = each_set (HasOutputWords unit.outputs) w.grants at new l.items (new_words old new g (each_at (HasOutputWords unit.outputs) w.grants at old l.items e));
    budgets = λ b. (ap (λ k. k + slice_index w.left b) (same_granted b w.grants at old new e (same_count b old new g)) ∙ l.budgets b);
    denied = let n = length-set w.grants at new in let d = l.denied in omega (arith, n, d);
    inputs_stay = l.inputs_stay;
    buffers_stay = l.buffers_stay;
  }

  pub closed_kept : (w : World) (at : Option ℕ) → IsLawfulWorld unit inputs buffers w → IsLawfulWorld unit inputs buffers (closed at w)
  closed_kept w None l = l
  closed_kept w (Some at) l = choice (slice_get w.grants at) refl
    where
      choice : (g : Option Grant) → slice_get w.grants at ≡ g → IsLawfulWorld unit inputs buffers (record w { grants = closed_in g w.grants at })
      choice None e = l
      choice (Some g) e = record_kept w at g (record g { complete = true }) l e (record { output = refl; lengths = refl })

  pub inputs_kept : (w : World) (new : List (List ℕ)) → IsLawfulWorld unit inputs buffers w → lengths_of new ≡ lengths_of w.inputs → IsLawfulWorld unit inputs buffers (record w { inputs = new })
  inputs_kept w new l e = record { items = l.items; budgets = l.budgets; denied = l.denied; inputs_stay = e ∙ l.inputs_stay; buffers_stay = l.buffers_stay }

  pub buffers_kept : (w : World) (new : Buffers) → IsLawfulWorld unit inputs buffers w → lengths_of new ≡ lengths_of w.buffers → IsLawfulWorld unit inputs buffers (record w { buffers = new })
  buffers_kept w new l e = record { items = l.items; budgets = l.budgets; denied = l.denied; inputs_stay = l.inputs_stay; buffers_stay = e ∙ l.buffers_stay }
