-- Rounds one after another.
use Rattle.std.proofs.Common.{◌≡◌, ℕ, ◌+◌, ◌*◌, ◌<◌, ◌≤◌, List, [], ◌∷◌, ◌++◌, length, refl, ap, sym, ◌∙◌, subst, suc, arith, inl, inr, IfSome, None, Option, Some}
use Rattle.std.proofs.lemmas.List.{append-nil, length-append}
use Rattle.std.specs.Prelude.{◌⊎◌, Err, IfErr, Ok, OnOk, Result}
use Rattle.wg_guess.specs.Guesses.{IsTrueOf}
use Rattle.wg_machine.specs.LaunchMeaning.{Meaning}
use Rattle.wg_standing.specs.declared.pending.Pending.{Pending}
use Rattle.wg_standing.specs.Core.{CoreView}
use Rattle.wg_standing.specs.Idle.{IsIdle, SomeIsOut}
use Rattle.wg_standing.specs.Laws.{UnsharedStay}
use Rattle.wg_standing.specs.Outs.{launch_now}
use Rattle.wg_standing.specs.Standing.{IsPlaced}
use Rattle.wg_engine.specs.Tables.{IsLaunchesSpent}
use Rattle.wg_rounds.specs.declared.ahead.Ahead.{Ahead}
use Rattle.wg_rounds.specs.declared.ahead.Why.{Why}
use Rattle.wg_rounds.specs.declared.ahead.Why.TheVariants as why
use Rattle.wg_rounds.specs.Rounds.{AllRounds, AllSettle, AreNext, IsCutWhileOpening, IsCutWhileSettling, IsRound, bare, with_outs}
use Rattle.wg_rounds.specs.Ahead.{AreAhead, FailsToOpenRound, FailsToSettle, FailsToSettleAll, IsFirst, IsOfFirst, NothingRead, OpensRound, Settling, SettlesAll, SettlesFirst}
use Rattle.wg_rounds.specs.Ends.{EndsBy, IsCutOpening, IsCutSettling, KeepsEachGuess, KeepsOneEachRound, NoneIsShared, RoundEnds, RunsRound}
use Rattle.wg_rounds.proofs.Choosing.{all_next_bare, idle_none, none_bare, outs_bare, round_bare, spent_none}
use Rattle.wg_rounds.proofs.Opening.{opened_from}
use Rattle.wg_rounds.proofs.Settling.{ahead_first, ahead_of_first, ahead_stays, grows_one, one_kept, settling_more, settling_none}

-- ---- a round while it settles

-- a round as far as it has settled, with the guesses of what is still out
pub record SettlesSoFar (made : Meaning) (old now : CoreView) (front later : List Pending) (all rest : List Ahead) : Type 0 where
  pub settles : Settling made old now front later
  pub guessed : AreAhead made old later rest
  pub free : now.stopped ≡ None
  pub first : front ≡ [] → now ≡ old
  pub alike : NoneIsShared old.shape → NothingRead all → NothingRead rest × AreAhead made now later rest × KeepsEachGuess old now

pub none_so_far : (made : Meaning) (core : CoreView) (all : List Ahead) → core.stopped ≡ None → AreAhead made core core.outs all → SettlesSoFar made core core [] core.outs all all
none_so_far made core all free guessed = record {
  settles = settling_none made core;
  guessed = guessed;
  free = free;
  first = λ e. refl;
  alike = λ unshared quiet. (quiet, guessed, refl);
}

-- what is known of the next guess
pub record NextIs (made : Meaning) (old now : CoreView) (front later : List Pending) (a : Ahead) (rest : List Ahead) : Type 0 where
  pub pending : Pending
  pub others : List Pending
  pub place : later ≡ pending ∷ others
  pub out : now.outs ≡ pending ∷ others
  pub guessed : AreAhead made old (pending ∷ others) (a ∷ rest)

pub next_is : (made : Meaning) (old now : CoreView) (front later : List Pending) (all : List Ahead) (a : Ahead) (rest : List Ahead) → SettlesSoFar made old now front later all (a ∷ rest) → NextIs made old now front later a rest
next_is made old now front [] all a rest x = absurd x.guessed
next_is made old now front (o ∷ others) all a rest x = record { pending = o; others = others; place = refl; out = x.settles.outs; guessed = x.guessed }

pub next_first : (made : Meaning) (old now : CoreView) (front later : List Pending) (a : Ahead) (rest : List Ahead) → NextIs made old now front later a rest → IsFirst now a.ticket
next_first made old now front later a rest n = ahead_first made old now n.pending n.others a rest n.guessed n.out

keeps_each : (old now new : CoreView) → KeepsEachGuess old now → length new.journal ≡ length now.journal + 1 → now.kept < new.kept → new.kept ≤ now.kept + 1 → KeepsEachGuess old new
keeps_each old now new k long more once = omega (arith, k, long, more, once)

pub one_settled : UnsharedStay → (made : Meaning) (old now new : CoreView) (front later : List Pending) (all : List Ahead) (a : Ahead) (rest : List Ahead) → IsPlaced now now.bag → (x : SettlesSoFar made old now front later all (a ∷ rest)) → (n : NextIs made old now front later a rest) → SettlesFirst made now new → (IsOfFirst now a → now.kept < new.kept) → SettlesSoFar made old new (front ++ n.pending ∷ []) n.others all rest
one_settled law made old now new front later all a rest placed x n s keeps =
    let settles = subst (λ (l : List Pending). Settling made old now front l) n.place x.settles in
    let of_first : front ≡ [] → IsOfFirst now a = λ e. subst (λ (c : CoreView). IsOfFirst c a) (sym (x.first e)) (ahead_of_first made old n.pending n.others a rest n.guessed (ap (λ (c : CoreView). c.outs) (sym (x.first e)) ∙ n.out)) in
    let old_now : front ≡ [] → old.kept < new.kept = λ e. let k = keeps (of_first e) in let m = ap (λ (c : CoreView). c.kept) (x.first e) in omega (arith, k, m) in
    record {
      settles = settling_more made old now new front n.pending n.others settles s old_now;
      guessed = n.guessed.1;
      free = s.free;
      first = λ e. absurd (not_none front n.pending e);
      alike = λ unshared quiet.
          let k = x.alike unshared quiet in
          let here = subst (λ (l : List Pending). AreAhead made now l (a ∷ rest)) n.place k.1 in
          let apart = subst NoneIsShared (sym x.settles.shape) unshared in (
            k.0.1,
            ahead_stays law made now new n.pending n.others rest placed apart n.out s k.0.1 here.1,
            keeps_each old now new k.2 (grows_one made now new s) (keeps (ahead_of_first made now n.pending n.others a rest here n.out)) s.once,
          );
    }
  where
    not_none : (f : List Pending) (o : Pending) → f ++ o ∷ [] ≡ [] → ⊥
    not_none f o e =
        let long = length-append f (o ∷ []) in
        let none = ap (λ (l : List Pending). length l) e in
        let one : length (o ∷ []) ≡ 1 = refl in
        omega (arith, long, none, one)

-- the next guess is true still
pub still_true : (made : Meaning) (old now : CoreView) (front later : List Pending) (all : List Ahead) (a : Ahead) (rest : List Ahead) → SettlesSoFar made old now front later all (a ∷ rest) → IsTrueOf old.shape made now.limits.turns a.guess
still_true made old now front later all a rest x =
    let n = next_is made old now front later all a rest x in
    subst (λ (t : ℕ). IsTrueOf old.shape made t a.guess) (sym (ap (λ l. l.turns) x.settles.limits)) n.guessed.0.truth

-- all have settled
pub all_settled : (made : Meaning) (old now : CoreView) (front later : List Pending) (all : List Ahead) → SettlesSoFar made old now front later all [] → SettlesAll made old now
all_settled made old now front [] all x =
    let whole : front ≡ old.outs = sym (append-nil front) ∙ sym x.settles.place in
    record { settles = subst (λ (f : List Pending). Settling made old now f []) whole x.settles; free = x.free }
all_settled made old now front (o ∷ later) all x = absurd x.guessed

pub not_all : (made : Meaning) (old now new : CoreView) (front later : List Pending) (all : List Ahead) (a : Ahead) (rest : List Ahead) (w : Why) → (x : SettlesSoFar made old now front later all (a ∷ rest)) → (n : NextIs made old now front later a rest) → FailsToSettle made now new w → FailsToSettleAll made old new w
not_all made old now new front later all a rest why.Idle x n f = absurd f
not_all made old now new front later all a rest why.LaunchesSpent x n f = absurd f
not_all made old now new front later all a rest why.Memory x n f =
    record { front = front; later = later; settles = subst (λ (c : CoreView). Settling made old c front later) (sym f) x.settles; free = ap (λ (c : CoreView). c.stopped) f ∙ x.free }
not_all made old now new front later all a rest why.TurnsSpent x n f =
    let e = f.stopped in
    record {
      front = front;
      pending = f.pending;
      later = f.later;
      settles = record {
        place = x.settles.place ∙ ap (λ (l : List Pending). front ++ l) (sym x.settles.outs ∙ f.out);
        outs = ap (λ (c : CoreView). c.outs) e ∙ f.out;
        settles = subst (λ (c : CoreView). AllSettle made (bare old) front c) (sym (ap bare e)) x.settles.settles;
        kept = λ lt. let k = x.settles.kept lt in let m = ap (λ (c : CoreView). c.kept) e in omega (arith, k, m);
        no_fewer = let k = x.settles.no_fewer in let m = ap (λ (c : CoreView). c.kept) e in omega (arith, k, m);
        grows = ap (λ (c : CoreView). length c.journal) e ∙ x.settles.grows;
        limits = ap (λ (c : CoreView). c.limits) e ∙ x.settles.limits;
        shape = ap (λ (c : CoreView). c.shape) e ∙ x.settles.shape;
      };
      spent = subst (λ (c : CoreView). made (launch_now c.shape c.bag f.pending) c.buffers c.limits.turns ≡ None) (sym e) f.spent;
      stopped = ap (λ (c : CoreView). c.stopped) e;
    }

pub so_far_alike : (made : Meaning) (old now : CoreView) (front later : List Pending) (all rest : List Ahead) → SettlesSoFar made old now front later all rest → NoneIsShared old.shape → NothingRead all → KeepsEachGuess old now
so_far_alike made old now front later all rest x unshared quiet = (x.alike unshared quiet).2

pub alike_still : (made : Meaning) (old now new : CoreView) (front later : List Pending) (all rest : List Ahead) (w : Why) → SettlesSoFar made old now front later all rest → FailsToSettle made now new w → NoneIsShared old.shape → NothingRead all → KeepsEachGuess old new
alike_still made old now new front later all rest why.Idle x f unshared quiet = absurd f
alike_still made old now new front later all rest why.LaunchesSpent x f unshared quiet = absurd f
alike_still made old now new front later all rest why.Memory x f unshared quiet = subst (KeepsEachGuess old) (sym f) ((x.alike unshared quiet).2)
alike_still made old now new front later all rest why.TurnsSpent x f unshared quiet = subst (KeepsEachGuess old) (sym f.stopped) ((x.alike unshared quiet).2)

-- ---- one round

first_few : (core : CoreView) (os : List Pending) → AreNext core os → 0 < length os → length core.journal < core.limits.launches
first_few core [] n lt = absurd (let bad : ⊥ = omega (arith, lt) in bad)
first_few core (o ∷ os) n lt = let few = n.0.few in omega (arith, few)

-- a core as opening left it
record IsFrom (old mid : CoreView) (os : List Pending) : Type 0 where
  outs : mid.outs ≡ os
  journal : mid.journal ≡ old.journal
  kept : mid.kept ≡ old.kept
  limits : mid.limits ≡ old.limits
  shape : mid.shape ≡ old.shape
  plain : bare mid ≡ with_outs (bare old) os

is_from : (old mid : CoreView) (os : List Pending) → old.outs ≡ [] → mid ≡ with_outs old os → IsFrom old mid os
is_from old mid os none e =
    let h = opened_from old os in
    record {
      outs = ap (λ (c : CoreView). c.outs) e ∙ h.outs ∙ ap (λ (l : List Pending). l ++ os) none;
      journal = ap (λ (c : CoreView). c.journal) e ∙ h.journal;
      kept = ap (λ (c : CoreView). c.kept) e ∙ h.kept;
      limits = ap (λ (c : CoreView). c.limits) e ∙ h.limits;
      shape = ap (λ (c : CoreView). c.shape) e ∙ h.shape;
      plain = ap bare e ∙ outs_bare old os;
    }

pub same_shape : (made : Meaning) (workers : ℕ) (old mid : CoreView) (ahead : List Ahead) → OpensRound made workers old mid ahead → mid.shape ≡ old.shape
same_shape made workers old mid ahead x = ap (λ (c : CoreView). c.shape) x.opens ∙ (opened_from old x.os).shape

pub still_free : (made : Meaning) (workers : ℕ) (old mid : CoreView) (ahead : List Ahead) → OpensRound made workers old mid ahead → old.stopped ≡ None → mid.stopped ≡ None
still_free made workers old mid ahead x free = ap (λ (c : CoreView). c.stopped) x.opens ∙ (opened_from old x.os).stopped ∙ free

pub guessed_outs : (made : Meaning) (workers : ℕ) (old mid : CoreView) (ahead : List Ahead) → old.outs ≡ [] → (x : OpensRound made workers old mid ahead) → AreAhead made mid mid.outs ahead
guessed_outs made workers old mid ahead none x = subst (λ (l : List Pending). AreAhead made mid l ahead) (sym (is_from old mid x.os none x.opens).outs) x.guessed

pub round_runs : (made : Meaning) (workers : ℕ) (old mid new : CoreView) (ahead : List Ahead) → old.outs ≡ [] → (x : OpensRound made workers old mid ahead) → SettlesAll made mid new → RunsRound made workers old new
round_runs made workers old mid new ahead none x s =
    let f = is_from old mid x.os none x.opens in
    let a = subst (λ (l : List Pending). AllSettle made (bare mid) l (bare new)) f.outs s.settles.settles in
    let long = s.settles.grows in
    let journal = ap (λ l. length l) f.journal in
    let outs = ap (λ (l : List Pending). length l) f.outs in
    let some = x.round.some in
    record {
      os = x.os;
      round = round_bare workers old x.os x.round;
      settles = subst (λ (c : CoreView). AllSettle made c x.os (bare new)) f.plain a;
      outs = s.settles.outs;
      free = s.free;
      grows = omega (arith, long, journal, outs, some);
      limits = s.settles.limits ∙ f.limits;
      shape = s.settles.shape ∙ f.shape;
      few = first_few old x.os x.round.next x.round.some;
    }

settled_kept : (made : Meaning) (workers : ℕ) (old mid new : CoreView) (os front later : List Pending) → IsFrom old mid os → length os ≤ workers → Settling made mid new front later → KeepsOneEachRound workers old new
settled_kept made workers old mid new os front later f few s =
    let place = ap (λ (l : List Pending). length l) (sym f.outs ∙ s.place) in
    let both = length-append front later in
    let k = one_kept workers (length front) mid.kept new.kept (omega (arith, place, both, few)) s.kept s.no_fewer in
    let same : workers * mid.kept ≡ workers * old.kept = ap (λ n. workers * n) f.kept in
    let long = s.grows in
    let journal = ap (λ l. length l) f.journal in
    omega (arith, k, same, long, journal)

pub kept_whole : (made : Meaning) (workers : ℕ) (old mid new : CoreView) (ahead : List Ahead) → old.outs ≡ [] → (x : OpensRound made workers old mid ahead) → SettlesAll made mid new → KeepsOneEachRound workers old new
kept_whole made workers old mid new ahead none x s = settled_kept made workers old mid new x.os mid.outs [] (is_from old mid x.os none x.opens) x.round.few s.settles

pub kept_part : (made : Meaning) (workers : ℕ) (old mid new : CoreView) (ahead : List Ahead) (w : Why) → old.outs ≡ [] → (x : OpensRound made workers old mid ahead) → FailsToSettleAll made mid new w → KeepsOneEachRound workers old new
kept_part made workers old mid new ahead why.Idle none x s = absurd s
kept_part made workers old mid new ahead why.LaunchesSpent none x s = absurd s
kept_part made workers old mid new ahead why.TurnsSpent none x s = settled_kept made workers old mid new x.os s.front (s.pending ∷ s.later) (is_from old mid x.os none x.opens) x.round.few s.settles
kept_part made workers old mid new ahead why.Memory none x s = settled_kept made workers old mid new x.os s.front s.later (is_from old mid x.os none x.opens) x.round.few s.settles

kept_equal : (workers : ℕ) (old new : CoreView) → new.journal ≡ old.journal → new.kept ≡ old.kept → KeepsOneEachRound workers old new
kept_equal workers old new j k =
    let long = ap (λ l. length l) j in
    let same : workers * new.kept ≡ workers * old.kept = ap (λ n. workers * n) k in
    omega (arith, long, same)

each_equal : (old new : CoreView) → new.journal ≡ old.journal → new.kept ≡ old.kept → KeepsEachGuess old new
each_equal old new j k = let long = ap (λ l. length l) j in omega (arith, long, k)

pub kept_unopened : (workers : ℕ) (old new : CoreView) (w : Why) → FailsToOpenRound workers old new w → KeepsOneEachRound workers old new
kept_unopened workers old new why.Idle f = kept_equal workers old new (ap (λ (c : CoreView). c.journal) f.1) (ap (λ (c : CoreView). c.kept) f.1)
kept_unopened workers old new why.LaunchesSpent f = kept_equal workers old new (ap (λ (c : CoreView). c.journal) f.1) (ap (λ (c : CoreView). c.kept) f.1)
kept_unopened workers old new why.TurnsSpent f = absurd f
kept_unopened workers old new why.Memory f =
    let h = opened_from old f.os in
    kept_equal workers old new (ap (λ (c : CoreView). c.journal) f.opens ∙ h.journal) (ap (λ (c : CoreView). c.kept) f.opens ∙ h.kept)

pub each_unopened : (workers : ℕ) (old new : CoreView) (w : Why) → FailsToOpenRound workers old new w → KeepsEachGuess old new
each_unopened workers old new why.Idle f = each_equal old new (ap (λ (c : CoreView). c.journal) f.1) (ap (λ (c : CoreView). c.kept) f.1)
each_unopened workers old new why.LaunchesSpent f = each_equal old new (ap (λ (c : CoreView). c.journal) f.1) (ap (λ (c : CoreView). c.kept) f.1)
each_unopened workers old new why.TurnsSpent f = absurd f
each_unopened workers old new why.Memory f =
    let h = opened_from old f.os in
    each_equal old new (ap (λ (c : CoreView). c.journal) f.opens ∙ h.journal) (ap (λ (c : CoreView). c.kept) f.opens ∙ h.kept)

pub each_opened : (made : Meaning) (workers : ℕ) (old mid new : CoreView) (ahead : List Ahead) → OpensRound made workers old mid ahead → KeepsEachGuess mid new → KeepsEachGuess old new
each_opened made workers old mid new ahead x k =
    let h = opened_from old x.os in
    let long = ap (λ (c : CoreView). length c.journal) x.opens ∙ ap (λ l. length l) h.journal in
    let kept = ap (λ (c : CoreView). c.kept) x.opens ∙ h.kept in
    omega (arith, k, long, kept)

pub ends_unopened : (made : Meaning) (workers : ℕ) (old new : CoreView) (w : Why) → old.stopped ≡ None → FailsToOpenRound workers old new w → RoundEnds made workers old new w
ends_unopened made workers old new why.Idle free f = (subst IsIdle (sym f.1) f.0, ap (λ (c : CoreView). c.stopped) f.1 ∙ free, f.1)
ends_unopened made workers old new why.LaunchesSpent free f = (subst IsLaunchesSpent (sym f.1) f.0, f.1)
ends_unopened made workers old new why.TurnsSpent free f = absurd f
ends_unopened made workers old new why.Memory free f = (
  ap (λ (c : CoreView). c.stopped) f.opens ∙ (opened_from old f.os).stopped ∙ free,
  inl (record { os = f.os; next = all_next_bare old f.os f.next; few = f.few; opens = ap bare f.opens ∙ outs_bare old f.os }),
)

round_of : (made : Meaning) (workers : ℕ) (old mid : CoreView) (ahead : List Ahead) (front later : List Pending) → old.outs ≡ [] → (x : OpensRound made workers old mid ahead) → mid.outs ≡ front ++ later → IsRound workers (bare old) (front ++ later)
round_of made workers old mid ahead front later none x place =
    subst (IsRound workers (bare old)) (sym (is_from old mid x.os none x.opens).outs ∙ place) (round_bare workers old x.os x.round)

settles_of : (made : Meaning) (workers : ℕ) (old mid : CoreView) (ahead : List Ahead) (front later : List Pending) (end : CoreView) → old.outs ≡ [] → (x : OpensRound made workers old mid ahead) → mid.outs ≡ front ++ later → AllSettle made (bare mid) front end → AllSettle made (with_outs (bare old) (front ++ later)) front end
settles_of made workers old mid ahead front later end none x place s =
    let f = is_from old mid x.os none x.opens in
    subst (λ (c : CoreView). AllSettle made c front end) (f.plain ∙ ap (with_outs (bare old)) (sym f.outs ∙ place)) s

pub ends_part : (made : Meaning) (workers : ℕ) (old mid new : CoreView) (ahead : List Ahead) (w : Why) → old.outs ≡ [] → old.stopped ≡ None → (x : OpensRound made workers old mid ahead) → FailsToSettleAll made mid new w → RoundEnds made workers old new w
ends_part made workers old mid new ahead why.Idle none free x s = absurd s
ends_part made workers old mid new ahead why.LaunchesSpent none free x s = absurd s
ends_part made workers old mid new ahead why.TurnsSpent none free x s = record {
  front = s.front;
  pending = s.pending;
  later = s.later;
  round = round_of made workers old mid ahead s.front (s.pending ∷ s.later) none x s.settles.place;
  settles = settles_of made workers old mid ahead s.front (s.pending ∷ s.later) (bare new) none x s.settles.place s.settles.settles;
  out = s.settles.outs;
  spent = s.spent;
  stopped = s.stopped;
}
ends_part made workers old mid new ahead why.Memory none free x s = (
  s.free,
  inr (record {
    front = s.front;
    later = s.later;
    round = round_of made workers old mid ahead s.front s.later none x s.settles.place;
    settles = settles_of made workers old mid ahead s.front s.later (bare new) none x s.settles.place s.settles.settles;
  }),
)

-- ---- several rounds

pub record RanSoFar (made : Meaning) (workers : ℕ) (old now : CoreView) (rounds : List (List Pending)) : Type 0 where
  pub runs : AllRounds made workers (bare old) rounds (bare now)
  pub outs : now.outs ≡ []
  pub free : now.stopped ≡ None
  pub shape : now.shape ≡ old.shape
  pub kept : KeepsOneEachRound workers old now

rounds_more : (made : Meaning) (workers : ℕ) (rounds : List (List Pending)) (core mid : CoreView) (os : List Pending) (end : CoreView) → AllRounds made workers core rounds mid → IsRound workers mid os → AllSettle made (with_outs mid os) os end → AllRounds made workers core (rounds ++ os ∷ []) end
rounds_more made workers [] core mid os end x r s =
    (end, subst (λ (c : CoreView). IsRound workers c os) x r, subst (λ (c : CoreView). AllSettle made (with_outs c os) os end) x s, refl)
rounds_more made workers (ps ∷ rounds) core mid os end x r s = (x.0, x.1, x.2, rounds_more made workers rounds x.0 mid os end x.3 r s)

pub kept_then : (workers : ℕ) (a b c : CoreView) → KeepsOneEachRound workers a b → KeepsOneEachRound workers b c → KeepsOneEachRound workers a c
kept_then workers a b c x y = omega (arith, x, y)

pub each_then : (a b c : CoreView) → KeepsEachGuess a b → KeepsEachGuess b c → KeepsEachGuess a c
each_then a b c x y = omega (arith, x, y)

pub one_round_more : (made : Meaning) (workers : ℕ) (old now new : CoreView) (rounds : List (List Pending)) → RanSoFar made workers old now rounds → (r : RunsRound made workers now new) → KeepsOneEachRound workers now new → RanSoFar made workers old new (rounds ++ r.os ∷ [])
one_round_more made workers old now new rounds x r kept = record {
  runs = rounds_more made workers rounds (bare old) (bare now) r.os (bare new) x.runs r.round r.settles;
  outs = r.outs;
  free = r.free;
  shape = r.shape ∙ x.shape;
  kept = kept_then workers old now new x.kept kept;
}

pub run_ends : (made : Meaning) (workers : ℕ) (old now new : CoreView) (rounds : List (List Pending)) (w : Why) → RanSoFar made workers old now rounds → RoundEnds made workers now new w → EndsBy made workers old new w
run_ends made workers old now new rounds why.Idle x e = (
  record { rounds = rounds; runs = subst (AllRounds made workers (bare old) rounds) (sym (ap bare e.2)) x.runs; none = none_bare new (idle_none new e.0) },
  e.0,
  e.1,
)
run_ends made workers old now new rounds why.LaunchesSpent x e = (
  record { rounds = rounds; runs = subst (AllRounds made workers (bare old) rounds) (sym (ap bare e.1)) x.runs; none = none_bare new (spent_none new e.0.3) },
  e.0,
)
run_ends made workers old now new rounds why.TurnsSpent x e = (
  e.pending,
  record { rounds = rounds; before = bare now; runs = x.runs; front = e.front; later = e.later; round = e.round; settles = e.settles; out = e.out; spent = e.spent },
  e.stopped,
)
run_ends made workers old now new rounds why.Memory x e = (e.0, cut e.1)
  where
    cut : IsCutOpening workers now new ⊎ IsCutSettling made workers now new → IsCutWhileOpening made workers (bare old) (bare new) ⊎ IsCutWhileSettling made workers (bare old) (bare new)
    cut (inl o) = inl (record { rounds = rounds; before = bare now; runs = x.runs; os = o.os; next = o.next; few = o.few; opens = o.opens })
    cut (inr s) = inr (record { rounds = rounds; before = bare now; runs = x.runs; front = s.front; later = s.later; round = s.round; settles = s.settles })

-- ---- by what a step answers

pub on_ok : (r : Result (Unit {0}) Why) (A B : Type 0) → (A → B) → OnOk r A → OnOk r B
on_ok (Ok x) A B f h = f h
on_ok (Err w) A B f h = tt

pub on_err : (r : Result (Unit {0}) Why) (P Q : Why → Type 0) → ((w : Why) → P w → Q w) → IfErr r P → IfErr r Q
on_err (Ok x) P Q f h = tt
on_err (Err w) P Q f h = f w h

pub either_way : (r : Result (Unit {0}) Why) (A C : Type 0) (P : Why → Type 0) → (A → C) → ((w : Why) → P w → C) → OnOk r A → IfErr r P → C
either_way (Ok x) A C P f g a p = f a
either_way (Err w) A C P f g a p = g w p

none_is_out : (core : CoreView) (o : Option ℕ) → IfSome o (SomeIsOut core) → core.outs ≡ [] → o ≡ None
none_is_out core None is none = refl
none_is_out core (Some t) is none =
    let place = ap (λ (l : List Pending). length l) (sym none ∙ is.3.place) in
    let long = length-append is.0 (is.1 ∷ is.2) in
    let one : length (is.1 ∷ is.2) ≡ suc (length is.2) = refl in
    let zero_long : length {A = Pending} [] ≡ 0 = refl in
    absurd (let bad : ⊥ = omega (arith, place, long, one, zero_long) in bad)

pub ran_none : (made : Meaning) (workers : ℕ) (core : CoreView) → core.outs ≡ [] → IfSome core.stopped (SomeIsOut core) → RanSoFar made workers core core []
ran_none made workers core none stopped = record { runs = refl; outs = none; free = none_is_out core core.stopped stopped none; shape = refl; kept = omega arith }
