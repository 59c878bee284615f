-- A round while it settles.
use Rattle.std.proofs.Common.{◌≡◌, ℕ, zero, suc, ◌+◌, ◌*◌, ◌<◌, ◌≤◌, List, [], ◌∷◌, ◌++◌, length, refl, ap, sym, ◌∙◌, subst, arith, Option, Some, None}
use Rattle.std.proofs.Math.Nat.{mul-le-mul_left}
use Rattle.std.proofs.lemmas.List.{length_push, append_assoc}
use Rattle.std.specs.Prelude.{IfSome, IsTrue}
use Rattle.std.specs.List.{list_all}
use Rattle.wg_words.specs.Each.{Each}
use Rattle.wg_machine.specs.declared.launch.Made.{Made}
use Rattle.wg_machine.specs.declared.launch.Launch.{Launch}
use Rattle.wg_machine.specs.declared.memory.Seen.{Seen}
use Rattle.wg_machine.specs.declared.memory.Write.{Write}
use Rattle.wg_machine.specs.declared.shape.Shape.{Shape}
use Rattle.wg_machine.specs.Agreement.{has_seen}
use Rattle.wg_machine.specs.Buffers.{Buffers, lengths_of}
use Rattle.wg_machine.specs.GoodShape.{IsGoodShape}
use Rattle.wg_machine.specs.LaunchMeaning.{FitsShape, KeepsLaws, Meaning, Outcome}
use Rattle.wg_machine.specs.Step.{entry_of}
use Rattle.wg_guess.specs.declared.guesses.Guess.{Guess}
use Rattle.wg_guess.specs.Guesses.{IsTrueOf, guessed}
use Rattle.wg_standing.specs.declared.pending.Pending.{Pending}
use Rattle.wg_standing.specs.Core.{CoreView}
use Rattle.wg_standing.specs.Laws.{OutsFit, UnsharedStay}
use Rattle.wg_standing.specs.Moves.{TakesStep, settled_of}
use Rattle.wg_standing.specs.Outs.{launch_now}
use Rattle.wg_standing.specs.Standing.{IsNotOut, IsPlaced, TicketsDiffer}
use Rattle.wg_engine.specs.declared.engine.Settled.TheVariants as settled
use Rattle.wg_engine.specs.Serving.{Serves}
use Rattle.wg_engine.specs.Tables.{Settles, SpendsTurns}
use Rattle.wg_rounds.specs.declared.ahead.Ahead.{Ahead}
use Rattle.wg_rounds.specs.Rounds.{AllSettle, bare}
use Rattle.wg_rounds.specs.Ends.{NoneIsShared}
use Rattle.wg_rounds.specs.Ahead.{AreAhead, IsFirst, IsOfFirst, NothingRead, Settling, SettlesFirst, SpendsFirst}
use Rattle.wg_rounds.proofs.Firsts.{head_or, rest_of, some_not_none}

-- ---- the launch that is out first

not_later : (ticket : ℕ) (front : List Pending) (o : Pending) (later : List Pending) → IsNotOut ticket (front ++ o ∷ later) → o.ticket ≡ ticket → ⊥
not_later ticket [] o later not named = not.0 named
not_later ticket (p ∷ front) o later not named = not_later ticket front o later not.1 named

none_before : (before : List Pending) (p : Pending) (after : List Pending) (o : Pending) (later : List Pending) → TicketsDiffer (o ∷ later) → o ∷ later ≡ before ++ p ∷ after → p.ticket ≡ o.ticket → before ≡ []
none_before [] p after o later differ same named = refl
none_before (b ∷ before) p after o later differ same named =
    absurd (not_later o.ticket before p after (subst (IsNotOut o.ticket) (ap rest_of same) differ.0) named)

-- the launch of a ticket is the first that is out, where that has the ticket
record IsThe (o p : Pending) (before later after : List Pending) : Type 0 where
  none : before ≡ []
  same : p ≡ o
  rest : after ≡ later

is_the : (core : CoreView) (ticket : ℕ) (o : Pending) (later : List Pending) (before : List Pending) (p : Pending) (after : List Pending) → TicketsDiffer core.outs → core.outs ≡ o ∷ later → o.ticket ≡ ticket → core.outs ≡ before ++ p ∷ after → p.ticket ≡ ticket → IsThe o p before later after
is_the core ticket o later before p after differ out named place also =
    let same : o ∷ later ≡ before ++ p ∷ after = sym out ∙ place in
    let none = none_before before p after o later (subst TicketsDiffer out differ) same (also ∙ sym named) in
    let one : o ∷ later ≡ p ∷ after = subst (λ (b : List Pending). o ∷ later ≡ b ++ p ∷ after) none same in
    record { none = none; same = sym (ap (head_or p) one); rest = sym (ap rest_of one) }

-- ---- one settling

abbrev Steps : Meaning → CoreView → CoreView → Pending → List Pending → Outcome → Type 0
Steps made old new o later outcome =
    (made (launch_now old.shape old.bag o) old.buffers old.limits.turns ≡ Some outcome) × (new ≡ settled_of old [] o later outcome)

step_is : (made : Meaning) (old new : CoreView) (ticket : ℕ) (o : Pending) (later : List Pending) → TicketsDiffer old.outs → old.outs ≡ o ∷ later → o.ticket ≡ ticket → (t : TakesStep made old new ticket) → Steps made old new o later t.outcome
step_is made old new ticket o later differ out named t =
    let i = is_the old ticket o later t.before t.pending t.later differ out named t.was_out t.named in
    let runs = subst (λ (p : Pending). made (launch_now old.shape old.bag p) old.buffers old.limits.turns ≡ Some t.outcome) i.same t.runs in
    let a = subst (λ (b : List Pending). new ≡ settled_of old b t.pending t.later t.outcome) i.none t.after in
    let b = subst (λ (p : Pending). new ≡ settled_of old [] p t.later t.outcome) i.same a in
    (runs, subst (λ (l : List Pending). new ≡ settled_of old [] o l t.outcome) i.rest b)

-- each launch that fits keeps to the laws
abbrev pub IsLawful : Shape → Meaning → Type 0
IsLawful shape made = (l : Launch) (m : Buffers) (t : ℕ) → FitsShape shape l → IfSome (made l m t) (KeepsLaws shape l m t)

laws_of : (shape : Shape) (made : Meaning) (l : Launch) (m : Buffers) (t : ℕ) (o : Outcome) → IsLawful shape made → FitsShape shape l → made l m t ≡ Some o → KeepsLaws shape l m t o
laws_of shape made l m t o lawful fits e = subst (λ (x : Option Outcome). IfSome x (KeepsLaws shape l m t)) e (lawful l m t fits)

settles_by : (made : Meaning) (old after new : CoreView) (o : Pending) (later : List Pending) (outcome : Outcome) → IsLawful old.shape made → FitsShape old.shape (launch_now old.shape old.bag o) → old.stopped ≡ None → old.outs ≡ o ∷ later → Steps made old after o later outcome → bare new ≡ bare after → new.stopped ≡ after.stopped → after.kept ≤ new.kept → new.kept ≤ after.kept + 1 → SettlesFirst made old new
settles_by made old after new o later outcome lawful fits free out s same stop few once = record {
  pending = o;
  later = later;
  outcome = outcome;
  was_out = out;
  runs = s.0;
  after = same ∙ ap bare s.1;
  free = stop ∙ ap (λ (c : CoreView). c.stopped) s.1 ∙ free;
  laws = laws_of old.shape made (launch_now old.shape old.bag o) old.buffers old.limits.turns outcome lawful fits s.0;
  kept = let e : after.kept ≡ old.kept = ap (λ (c : CoreView). c.kept) s.1 in omega (arith, e, few);
  once = let e : after.kept ≡ old.kept = ap (λ (c : CoreView). c.kept) s.1 in omega (arith, e, once);
}

-- ---- what `settle` answers of the first

fits_first : OutsFit → (core : CoreView) (ticket : ℕ) → IsGoodShape core.shape → IsPlaced core core.bag → (f : IsFirst core ticket) → FitsShape core.shape (launch_now core.shape core.bag f.pending)
fits_first law core ticket good placed f = law core [] f.pending f.later good f.out placed

pub kept_settles : (made : Meaning) (old new : CoreView) (ticket : ℕ) (g : Option Guess) → OutsFit → IsLawful old.shape made → IsGoodShape old.shape → IsPlaced old old.bag → IsFirst old ticket → Settles made old new ticket g settled.Kept → SettlesFirst made old new
kept_settles made old new ticket g law lawful good placed f s =
    let k = s.1 in
    let step = step_is made old k.after ticket f.pending f.later placed.tickets_differ f.out f.named k.step in
    let e = ap (λ (c : CoreView). c.kept) k.counted in
    settles_by made old k.after new f.pending f.later k.step.outcome lawful (fits_first law old ticket good placed f) s.0 f.out step (ap bare k.counted) (ap (λ (c : CoreView). c.stopped) k.counted) (omega (arith, e)) (omega (arith, e))

pub kept_counts : (made : Meaning) (old new : CoreView) (ticket : ℕ) (g : Option Guess) → Settles made old new ticket g settled.Kept → old.kept < new.kept
kept_counts made old new ticket g s =
    let k = s.1 in
    let e = ap (λ (c : CoreView). c.kept) k.counted in
    let f = ap (λ (c : CoreView). c.kept) k.step.after in
    omega (arith, e, f)

pub redone_settles : (made : Meaning) (old new : CoreView) (ticket : ℕ) (g : Option Guess) → OutsFit → IsLawful old.shape made → IsGoodShape old.shape → IsPlaced old old.bag → IsFirst old ticket → Settles made old new ticket g settled.Redone → SettlesFirst made old new
redone_settles made old new ticket g law lawful good placed f s =
    let k = s.1 in
    let step = step_is made old new ticket f.pending f.later placed.tickets_differ f.out f.named k.step in
    settles_by made old new new f.pending f.later k.step.outcome lawful (fits_first law old ticket good placed f) s.0 f.out step refl refl (omega arith) (omega arith)

guessed_none : (a : Option Made) (writes : List Write) (buffers : Buffers) → a ≡ None → guessed a writes buffers ≡ None
guessed_none a writes buffers e = ap (λ (x : Option Made). guessed x writes buffers) e

-- a guess of the first as it is now is kept, where the launch settles
pub never_redone : (made : Meaning) (old new : CoreView) (a : Ahead) → TicketsDiffer old.outs → IsFirst old a.ticket → IsOfFirst old a → IsTrueOf old.shape made old.limits.turns a.guess → Settles made old new a.ticket (Some a.guess) settled.Redone → ⊥
never_redone made old new a differ f i honest s =
    let k = s.1 in
    let step = step_is made old new a.ticket f.pending f.later differ f.out f.named k.step in
    let same : i.pending ≡ f.pending = sym (ap (head_or i.pending) (sym f.out ∙ i.out)) in
    let launch : a.guess.launch ≡ launch_now old.shape old.bag f.pending = i.launch ∙ ap (launch_now old.shape old.bag) same in
    let said : made a.guess.launch old.buffers old.limits.turns ≡ guessed a.guess.answer a.guess.writes old.buffers = honest.over old.buffers i.fits in
    let ran : made a.guess.launch old.buffers old.limits.turns ≡ Some k.step.outcome = ap (λ l. made l old.buffers old.limits.turns) launch ∙ step.0 in
    let where_is = is_the old a.ticket f.pending f.later k.step.before k.step.pending k.step.later differ f.out f.named k.step.was_out k.step.named in
    k.unserved (subst (λ (p : Pending). Serves old p (Some a.guess)) (sym where_is.same) (record {
      launch = launch;
      unspent = λ e. some_not_none (made a.guess.launch old.buffers old.limits.turns) k.step.outcome ran (said ∙ guessed_none a.guess.answer a.guess.writes old.buffers e);
      agrees = i.fits;
    }))

pub spent_first : (made : Meaning) (old new : CoreView) (ticket : ℕ) (s : SpendsTurns made old ticket) → TicketsDiffer old.outs → IsFirst old ticket → new ≡ record old { stopped = Some ticket } → SpendsFirst made old new
spent_first made old new ticket s differ f e =
    let i = is_the old ticket f.pending f.later s.before s.pending s.later differ f.out f.named s.out.place s.out.named in
    record {
      pending = f.pending;
      later = f.later;
      out = f.out;
      spent = subst (λ (p : Pending). made (launch_now old.shape old.bag p) old.buffers old.limits.turns ≡ None) i.same s.spent;
      stopped = e ∙ ap (λ (t : ℕ). record old { stopped = Some t }) (sym f.named);
    }

pub first_is_out : (core : CoreView) (ticket : ℕ) → IsFirst core ticket → IsNotOut ticket core.outs → ⊥
first_is_out core ticket f not = let n = subst (IsNotOut ticket) f.out not in n.0 f.named

-- ---- several

pub settling_none : (made : Meaning) (core : CoreView) → Settling made core core [] core.outs
settling_none made core = record {
  place = refl;
  outs = refl;
  settles = refl;
  kept = λ lt. absurd (let h : ⊥ = omega (arith, lt) in h);
  no_fewer = omega arith;
  grows = omega arith;
  limits = refl;
  shape = refl;
}

all_more : (made : Meaning) (core : CoreView) (front : List Pending) (mid : CoreView) (o : Pending) (later : List Pending) (outcome : Outcome) (end : CoreView) → AllSettle made core front mid → mid.outs ≡ o ∷ later → made (launch_now mid.shape mid.bag o) mid.buffers mid.limits.turns ≡ Some outcome → end ≡ settled_of mid [] o later outcome → AllSettle made core (front ++ o ∷ []) end
all_more made core [] mid o later outcome end s out runs after = (
  later,
  outcome,
  subst (λ (c : CoreView). c.outs ≡ o ∷ later) s out,
  subst (λ (c : CoreView). made (launch_now c.shape c.bag o) c.buffers c.limits.turns ≡ Some outcome) s runs,
  subst (λ (c : CoreView). end ≡ settled_of c [] o later outcome) s after,
)
all_more made core (p ∷ front) mid o later outcome end s out runs after =
    (s.0, s.1, s.2, s.3, all_more made (settled_of core [] p s.0 s.1) front mid o later outcome end s.4 out runs after)

-- the next settled too
pub settling_more : (made : Meaning) (old mid new : CoreView) (front : List Pending) (o : Pending) (later : List Pending) → Settling made old mid front (o ∷ later) → (s : SettlesFirst made mid new) → (front ≡ [] → old.kept < new.kept) → Settling made old new (front ++ o ∷ []) later
settling_more made old mid new front o later x s first =
    let one : s.pending ∷ s.later ≡ o ∷ later = sym s.was_out ∙ x.outs in
    let p : s.pending ≡ o = ap (head_or o) one in
    let l : s.later ≡ later = ap rest_of one in
    let runs = subst (λ (q : Pending). made (launch_now mid.shape mid.bag q) mid.buffers mid.limits.turns ≡ Some s.outcome) p s.runs in
    let a = subst (λ (q : Pending). bare new ≡ settled_of (bare mid) [] q s.later s.outcome) p s.after in
    let after = subst (λ (k : List Pending). bare new ≡ settled_of (bare mid) [] o k s.outcome) l a in
    let long : length new.journal ≡ length mid.journal + 1 = ap (λ (c : CoreView). length c.journal) after ∙ length_push mid.journal (entry_of (launch_now mid.shape mid.bag o) o.at mid.next s.outcome) in
    record {
      place = x.place ∙ sym (append_assoc front (o ∷ []) later);
      outs = ap (λ (c : CoreView). c.outs) after;
      settles = all_more made (bare old) front (bare mid) o later s.outcome (bare new) x.settles x.outs runs after;
      kept = λ lt. more front refl;
      no_fewer = let a = x.no_fewer in let b = s.kept in omega (arith, a, b);
      grows = let g = x.grows in let m = length_push front o in omega (arith, long, g, m);
      limits = ap (λ (c : CoreView). c.limits) after ∙ x.limits;
      shape = ap (λ (c : CoreView). c.shape) after ∙ x.shape;
    }
  where
    more : (f : List Pending) → front ≡ f → old.kept < new.kept
    more [] e = first e
    more (q ∷ f) e =
        let lt : 0 < length front = subst (λ (z : List Pending). 0 < length z) (sym e) (let h : 0 < length (q ∷ f) = omega arith in h) in
        let a = x.kept lt in
        let b = s.kept in
        omega (arith, a, b)

-- the guesses of those that are still out
pub ahead_first : (made : Meaning) (start core : CoreView) (o : Pending) (later : List Pending) (a : Ahead) (rest : List Ahead) → AreAhead made start (o ∷ later) (a ∷ rest) → core.outs ≡ o ∷ later → IsFirst core a.ticket
ahead_first made start core o later a rest all out = record { pending = o; later = later; out = out; named = sym all.0.ticket }

pub ahead_of_first : (made : Meaning) (core : CoreView) (o : Pending) (later : List Pending) (a : Ahead) (rest : List Ahead) → AreAhead made core (o ∷ later) (a ∷ rest) → core.outs ≡ o ∷ later → IsOfFirst core a
ahead_of_first made core o later a rest all out = record { pending = o; later = later; out = out; launch = all.0.launch; fits = all.0.fits }

-- with nothing read and no record shared, the guesses stay those of the launches of now
still_ahead : UnsharedStay → (made : Meaning) (mid new : CoreView) (o : Pending) (later : List Pending) (outcome : Outcome) → IsPlaced mid mid.bag → NoneIsShared mid.shape → mid.outs ≡ o ∷ later → KeepsLaws mid.shape (launch_now mid.shape mid.bag o) mid.buffers mid.limits.turns outcome → bare new ≡ settled_of (bare mid) [] o later outcome → (os : List Pending) (rest : List Ahead) → Each (λ (p : Pending). launch_now mid.shape (settled_of mid [] o later outcome).bag p ≡ launch_now mid.shape mid.bag p) os → NothingRead rest → AreAhead made mid os rest → AreAhead made new os rest
still_ahead law made mid new o later outcome placed unshared out laws after [] [] same quiet all = tt
still_ahead law made mid new o later outcome placed unshared out laws after (p ∷ os) (a ∷ rest) same quiet all =
    let shape : new.shape ≡ mid.shape = ap (λ (c : CoreView). c.shape) after in
    let bag : new.bag ≡ (settled_of mid [] o later outcome).bag = ap (λ (c : CoreView). c.bag) after in
    let turns : new.limits.turns ≡ mid.limits.turns = ap (λ (c : CoreView). c.limits.turns) after in
    let buffers : new.buffers ≡ outcome.buffers = ap (λ (c : CoreView). c.buffers) after in
    let now : launch_now new.shape new.bag p ≡ launch_now mid.shape mid.bag p = ap (λ (s : Shape). launch_now s new.bag p) shape ∙ ap (λ b. launch_now mid.shape b p) bag ∙ same.0 in
    let is = all.0 in (
      record {
        ticket = is.ticket;
        launch = is.launch ∙ sym now;
        fits = record {
          lengths = ap lengths_of buffers ∙ laws.lengths ∙ is.fits.lengths;
          log = subst (λ (l : List Seen). IsTrue (list_all (has_seen new.buffers) l)) (sym quiet.0) refl;
        };
        truth = subst (λ (t : ℕ). IsTrueOf new.shape made t a.guess) (sym turns) (subst (λ (s : Shape). IsTrueOf s made mid.limits.turns a.guess) (sym shape) is.truth);
      },
      still_ahead law made mid new o later outcome placed unshared out laws after os rest same.1 quiet.1 all.1,
    )
still_ahead law made mid new o later outcome placed unshared out laws after [] (a ∷ rest) same quiet all = absurd all
still_ahead law made mid new o later outcome placed unshared out laws after (p ∷ os) [] same quiet all = absurd all

pub ahead_stays : UnsharedStay → (made : Meaning) (mid new : CoreView) (o : Pending) (later : List Pending) (rest : List Ahead) → IsPlaced mid mid.bag → NoneIsShared mid.shape → mid.outs ≡ o ∷ later → (s : SettlesFirst made mid new) → NothingRead rest → AreAhead made mid later rest → AreAhead made new later rest
ahead_stays law made mid new o later rest placed unshared out s quiet all =
    let one : s.pending ∷ s.later ≡ o ∷ later = sym s.was_out ∙ out in
    let l : s.later ≡ later = ap rest_of one in
    let same = law mid [] s.pending s.later s.outcome unshared s.was_out s.laws placed in
    let mine = subst (λ (k : List Pending). AreAhead made mid k rest) (sym l) all in
    subst (λ (k : List Pending). AreAhead made new k rest) l (still_ahead law made mid new s.pending s.later s.outcome placed unshared s.was_out s.laws s.after s.later rest same quiet mine)

pub grows_one : (made : Meaning) (old new : CoreView) (s : SettlesFirst made old new) → length new.journal ≡ length old.journal + 1
grows_one made old new s =
    ap (λ (c : CoreView). length c.journal) s.after ∙ length_push old.journal (entry_of (launch_now old.shape old.bag s.pending) s.pending.at old.next s.outcome)

-- at least one guess of a round is kept
pub one_kept : (workers n a b : ℕ) → n ≤ workers → (0 < n → a < b) → a ≤ b → n + workers * a ≤ workers * b
one_kept workers zero a b few some le = let m = mul-le-mul_left workers le in omega (arith, m)
one_kept workers (suc n) a b few some le =
    let lt : a + 1 ≤ b = let x = some (omega arith) in omega (arith, x) in
    let more : workers * (a + 1) ≤ workers * b = mul-le-mul_left workers lt in
    let sum : workers * (a + 1) ≡ workers * a + workers = grind arith in
    omega (arith, more, sum, few)
