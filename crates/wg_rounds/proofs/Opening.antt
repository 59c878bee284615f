-- A round while it is opened.
use Rattle.std.proofs.Common.{◌≡◌, ℕ, suc, ◌<◌, ◌≤◌, List, [], ◌∷◌, ◌++◌, length, refl, ap, sym, ◌∙◌, subst, arith, inl, inr, None, Some}
use Rattle.std.proofs.lemmas.List.{length_push, length-append}
use Rattle.wg_machine.specs.LaunchMeaning.{Meaning}
use Rattle.wg_standing.specs.declared.pending.Pending.{Pending}
use Rattle.wg_standing.specs.Core.{CoreView}
use Rattle.wg_standing.specs.Moves.{with_out}
use Rattle.wg_rounds.specs.declared.ahead.Ahead.{Ahead}
use Rattle.wg_engine.specs.Tables.{IsLaunchesSpent}
use Rattle.wg_standing.specs.Idle.{IsIdle}
use Rattle.wg_rounds.specs.declared.ahead.Why.{Why}
use Rattle.wg_rounds.specs.declared.ahead.Why.TheVariants as why
use Rattle.wg_rounds.specs.Ahead.{AreAhead, FailsToOpen, FailsToOpenRound, IsAhead, NothingRead, OpensAhead, OpensRound, OpensSome}
use Rattle.wg_rounds.specs.Rounds.{AreNext, IsNext, NoneIsNext, with_outs}

-- what opening leaves as it was
pub record IsOpenedFrom (core : CoreView) (os : List Pending) (new : CoreView) : Type 0 where
  pub shape : new.shape ≡ core.shape
  pub limits : new.limits ≡ core.limits
  pub bag : new.bag ≡ core.bag
  pub buffers : new.buffers ≡ core.buffers
  pub journal : new.journal ≡ core.journal
  pub kept : new.kept ≡ core.kept
  pub stopped : new.stopped ≡ core.stopped
  pub outs : new.outs ≡ core.outs ++ os

append_none : (xs : List Pending) → xs ≡ xs ++ []
append_none [] = refl
append_none (x ∷ xs) = ap (λ (l : List Pending). x ∷ l) (append_none xs)

append_twice : (xs : List Pending) (o : Pending) (os : List Pending) → (xs ++ o ∷ []) ++ os ≡ xs ++ o ∷ os
append_twice [] o os = refl
append_twice (x ∷ xs) o os = ap (λ (l : List Pending). x ∷ l) (append_twice xs o os)

pub opened_from : (core : CoreView) (os : List Pending) → IsOpenedFrom core os (with_outs core os)
opened_from core [] = record { shape = refl; limits = refl; bag = refl; buffers = refl; journal = refl; kept = refl; stopped = refl; outs = append_none core.outs }
opened_from core (o ∷ os) =
    let h = opened_from (with_out core o) os in
    record {
      shape = h.shape;
      limits = h.limits;
      bag = h.bag;
      buffers = h.buffers;
      journal = h.journal;
      kept = h.kept;
      stopped = h.stopped;
      outs = h.outs ∙ append_twice core.outs o os;
    }

-- one more
pub one_more : (core : CoreView) (os : List Pending) (o : Pending) → with_outs core (os ++ o ∷ []) ≡ with_out (with_outs core os) o
one_more core [] o = refl
one_more core (x ∷ os) o = one_more (with_out core x) os o

pub next_more : (core : CoreView) (os : List Pending) (o : Pending) → AreNext core os → IsNext (with_outs core os) o → AreNext core (os ++ o ∷ [])
next_more core [] o all n = (n, tt)
next_more core (x ∷ os) o all n = (all.0, next_more (with_out core x) os o all.1 n)

ahead_kept : (made : Meaning) (core : CoreView) (o p : Pending) (a : Ahead) → IsAhead made core p a → IsAhead made (with_out core o) p a
ahead_kept made core o p a i = record { ticket = i.ticket; launch = i.launch; fits = i.fits; truth = i.truth }

pub ahead_more : (made : Meaning) (core : CoreView) (os : List Pending) (as' : List Ahead) (o : Pending) (a : Ahead) → AreAhead made core os as' → IsAhead made (with_out core o) o a → AreAhead made (with_out core o) (os ++ o ∷ []) (as' ++ a ∷ [])
ahead_more made core [] [] o a all i = (i, tt)
ahead_more made core (p ∷ os) (b ∷ as') o a all i = (ahead_kept made core o p b all.0, ahead_more made core os as' o a all.1 i)
ahead_more made core [] (b ∷ as') o a all i = absurd all
ahead_more made core (p ∷ os) [] o a all i = absurd all

-- a round as far as it is opened
pub record OpensSoFar (made : Meaning) (old now : CoreView) (os : List Pending) (ahead : List Ahead) : Type 0 where
  pub next : AreNext old os
  pub opens : now ≡ with_outs old os
  pub guessed : AreAhead made now os ahead

pub as_many : (made : Meaning) (core : CoreView) (os : List Pending) (ahead : List Ahead) → AreAhead made core os ahead → length os ≡ length ahead
as_many made core [] [] all = refl
as_many made core (o ∷ os) (a ∷ ahead) all = ap suc (as_many made core os ahead all.1)
as_many made core [] (a ∷ ahead) all = absurd all
as_many made core (o ∷ os) [] all = absurd all

pub opens_more : (made : Meaning) (old now new : CoreView) (os : List Pending) (ahead : List Ahead) (o : Pending) (a : Ahead) → OpensSoFar made old now os ahead → IsNext now o → new ≡ with_out now o → IsAhead made new o a → OpensSoFar made old new (os ++ o ∷ []) (ahead ++ a ∷ [])
opens_more made old now new os ahead o a x n e i = record {
  next = next_more old os o x.next (subst (λ (c : CoreView). IsNext c o) x.opens n);
  opens = e ∙ ap (λ (c : CoreView). with_out c o) x.opens ∙ sym (one_more old os o);
  guessed = subst (λ (c : CoreView). AreAhead made c (os ++ o ∷ []) (ahead ++ a ∷ [])) (sym e) (ahead_more made now os ahead o a x.guessed (subst (λ (c : CoreView). IsAhead made c o a) e i));
}

pub some_more : (workers : ℕ) (old now new : CoreView) (os : List Pending) (o : Pending) → AreNext old os → now ≡ with_outs old os → length os < workers → IsNext now o → new ≡ with_out now o → OpensSome workers old new
some_more workers old now new os o all e lt n f = record {
  os = os ++ o ∷ [];
  next = next_more old os o all (subst (λ (c : CoreView). IsNext c o) e n);
  few = let m = length_push os o in omega (arith, m, lt);
  opens = f ∙ ap (λ (c : CoreView). with_out c o) e ∙ sym (one_more old os o);
}

-- where no launch is out, none was opened
none_opened : (old : CoreView) (os : List Pending) → (with_outs old os).outs ≡ [] → with_outs old os ≡ old
none_opened old [] none = refl
none_opened old (o ∷ os) none =
    let h = (opened_from old (o ∷ os)).outs in
    let e : length (old.outs ++ o ∷ os) ≡ 0 = ap (λ (l : List Pending). length l) (sym h ∙ none) in
    let m = length-append old.outs (o ∷ os) in
    let k : length (o ∷ os) ≡ suc (length os) = refl in
    absurd (let bad : ⊥ = omega (arith, e, m, k) in bad)

pub back_to : (old now : CoreView) (os : List Pending) → now ≡ with_outs old os → now.outs ≡ [] → now ≡ old
back_to old now os e none = e ∙ none_opened old os (ap (λ (c : CoreView). c.outs) (sym e) ∙ none)

pub fails_round : (workers : ℕ) (made : Meaning) (old now new : CoreView) (os : List Pending) (ahead : List Ahead) (w : Why) → OpensSoFar made old now os ahead → length ahead < workers → FailsToOpen now new w → FailsToOpenRound workers old new w
fails_round workers made old now new os ahead why.Idle x lt f = (subst IsIdle (back_to old now os x.opens f.0.outs) f.0, f.1 ∙ back_to old now os x.opens f.0.outs)
fails_round workers made old now new os ahead why.LaunchesSpent x lt f = (subst IsLaunchesSpent (back_to old now os x.opens f.0.2) f.0, f.1 ∙ back_to old now os x.opens f.0.2)
fails_round workers made old now new os ahead why.TurnsSpent x lt f = absurd f
fails_round workers made old now new os ahead why.Memory x lt f = by f
  where
    many : length os ≡ length ahead
    many = as_many made now os ahead x.guessed

    by : FailsToOpen now new why.Memory → OpensSome workers old new
    by (inl e) = record { os = os; next = x.next; few = omega (arith, many, lt); opens = e ∙ x.opens }
    by (inr n) = some_more workers old now new os n.0 x.next x.opens (omega (arith, many, lt)) n.1 n.2

pub nothing_more : (ahead : List Ahead) (a : Ahead) → NothingRead ahead → a.guess.log ≡ [] → NothingRead (ahead ++ a ∷ [])
nothing_more [] a all e = (e, tt)
nothing_more (b ∷ ahead) a all e = (all.0, nothing_more ahead a all.1 e)

-- a round that was opened
pub round_full : (made : Meaning) (workers : ℕ) (old now : CoreView) (os : List Pending) (ahead : List Ahead) → 1 ≤ workers → OpensSoFar made old now os ahead → length ahead ≡ workers → OpensRound made workers old now ahead
round_full made workers old now os ahead some x full =
    let many = as_many made now os ahead x.guessed in
    record {
      os = os;
      round = record { next = x.next; some = omega (arith, many, full, some); few = omega (arith, many, full); whole = λ lt. absurd (let bad : ⊥ = omega (arith, many, full, lt) in bad) };
      opens = x.opens;
      guessed = x.guessed;
    }

pub round_less : (made : Meaning) (workers : ℕ) (old now new : CoreView) (os : List Pending) (ahead : List Ahead) → old.outs ≡ [] → OpensSoFar made old now os ahead → length ahead < workers → OpensAhead made now new None → OpensRound made workers old new ahead
round_less made workers old now new os ahead none x lt o =
    let many = as_many made now os ahead x.guessed in
    let outs : now.outs ≡ os = ap (λ (c : CoreView). c.outs) x.opens ∙ (opened_from old os).outs ∙ ap (λ (l : List Pending). l ++ os) none in
    let out = o.1 in
    let long = ap (λ (l : List Pending). length l) outs in
    record {
      os = os;
      round = record { next = x.next; some = omega (arith, long, out); few = omega (arith, many, lt); whole = λ l. subst NoneIsNext x.opens o.0 };
      opens = o.2 ∙ x.opens;
      guessed = subst (λ (c : CoreView). AreAhead made c os ahead) (sym o.2) x.guessed;
    }

pub so_far_shape : (made : Meaning) (old now : CoreView) (os : List Pending) (ahead : List Ahead) → OpensSoFar made old now os ahead → now.shape ≡ old.shape
so_far_shape made old now os ahead x = ap (λ (c : CoreView). c.shape) x.opens ∙ (opened_from old os).shape

pub so_far_free : (made : Meaning) (old now : CoreView) (os : List Pending) (ahead : List Ahead) → OpensSoFar made old now os ahead → now.stopped ≡ old.stopped
so_far_free made old now os ahead x = ap (λ (c : CoreView). c.stopped) x.opens ∙ (opened_from old os).stopped

-- one more was opened and guessed
pub opens_ahead : (made : Meaning) (old now new : CoreView) (os : List Pending) (ahead : List Ahead) (a : Ahead) → OpensSoFar made old now os ahead → (o : OpensAhead made now new (Some a)) → OpensSoFar made old new (os ++ o.0 ∷ []) (ahead ++ a ∷ [])
opens_ahead made old now new os ahead a x o = opens_more made old now new os ahead o.0 a x o.1 o.2 o.3

-- one more was opened, but there was no memory for its guess
pub opens_some : (workers : ℕ) (made : Meaning) (old now new : CoreView) (os : List Pending) (ahead : List Ahead) (a : Ahead) → OpensSoFar made old now os ahead → length ahead < workers → OpensAhead made now new (Some a) → OpensSome workers old new
opens_some workers made old now new os ahead a x lt o =
    let many = as_many made now os ahead x.guessed in
    some_more workers old now new os o.0 x.next x.opens (omega (arith, many, lt)) o.1 o.2
