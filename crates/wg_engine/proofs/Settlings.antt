-- A core settles.
use Rattle.std.proofs.Common.{◌≡◌, ℕ, ◌+◌, ◌<◌, ◌≤◌, List, [], ◌∷◌, ◌++◌, length, ap, sym, ◌∙◌, subst, arith, Bool, true, false, None, Option}
use Rattle.std.specs.Prelude.{◌==◌, if◌then◌else◌, IfSome, Ok}
use Rattle.std.proofs.lemmas.List.{length_push, length-map}
use Rattle.wg_words.specs.Each.{Each}
use Rattle.wg_words.specs.declared.limits.TheConstants.{MOST_SENT}
use Rattle.wg_machine.specs.declared.launch.Entry.{Entry}
use Rattle.wg_machine.specs.declared.launch.Launch.{Launch}
use Rattle.wg_machine.specs.declared.launch.Made.{Made}
use Rattle.wg_machine.specs.declared.memory.Write.{Write}
use Rattle.wg_machine.specs.declared.shape.Shape.{Shape}
use Rattle.wg_machine.specs.Buffers.{Buffers, all_written, lengths_of}
use Rattle.wg_machine.specs.GoodShape.{IsGoodShape}
use Rattle.wg_machine.specs.LaunchMeaning.{FitsShape, KeepsLaws, Meaning, Outcome, outcome_of}
use Rattle.wg_machine.specs.Step.{entry_of}
use Rattle.wg_standing.specs.declared.pending.Pending.{Pending}
use Rattle.wg_standing.specs.Core.{CoreView}
use Rattle.wg_standing.specs.Laws.{KeepingsPlace, OutsFit, SettlingsPlace}
use Rattle.wg_standing.specs.Moves.{settled_of, with_kept}
use Rattle.wg_standing.specs.Idle.{IsOut, SomeIsOut}
use Rattle.wg_standing.specs.Outs.{launch_now}
use Rattle.wg_standing.specs.Standing.{IsNotOut, IsPlaced, TicketsDiffer}
use Rattle.wg_guess.specs.declared.guesses.Guess.{Guess}
use Rattle.wg_guess.specs.Guesses.{IsFor, IsTrueOf, guessed}
use Rattle.wg_engine.specs.Effects.{CanStep}
use Rattle.wg_engine.specs.Inside.{IsSoundCore, spent_ticket}
use Rattle.wg_engine.specs.declared.stepping.Effect.{Effect}
use Rattle.wg_engine.specs.declared.stepping.Spent.{Spent}
use Rattle.wg_engine.proofs.Effects.{FindsOut}
use Rattle.wg_engine.proofs.Stands.{IsLawful}
use Rattle.wg_engine.proofs.Openings.{never_spent}

abbrev pub FewAreSent : Type 0
FewAreSent = (shape : Shape) (launch : Launch) (buffers : Buffers) (turns : ℕ) (o : Outcome) → IsGoodShape shape → FitsShape shape launch → KeepsLaws shape launch buffers turns o → length o.sent ≤ MOST_SENT

-- a guess that is true and agrees with the buffers says what its launch does to them
pub says : (shape : Shape) (made : Meaning) (turns : ℕ) (g : Guess) (launch : Launch) (buffers : Buffers) → IsTrueOf shape made turns g → IsFor g buffers → g.launch ≡ launch → made launch buffers turns ≡ guessed g.answer g.writes buffers
says shape made turns g launch buffers honest agrees same = ap (λ (l : Launch). made l buffers turns) (sym same) ∙ honest.over buffers agrees

-- the entries of the journal gave numbers below the next
born_more : (m n : ℕ) (journal : List Entry) (e : Entry) → m ≤ n → Each (λ (x : Entry). x.first_out + x.outs ≤ m) journal → e.first_out + e.outs ≤ n → Each (λ (x : Entry). x.first_out + x.outs ≤ n) (journal ++ e ∷ [])
born_more m n [] e h all last = (last, tt)
born_more m n (j ∷ journal) e h all last = (let a = all.0 in omega arith, born_more m n journal e h all.1 last)

entry_few : (next n : ℕ) → (if n == 0 then 0 else next) + n ≤ next + n
entry_few next n = choice (n == 0)
  where
    choice : (b : Bool) → (if b then 0 else next) + n ≤ next + n
    choice true = omega arith
    choice false = omega arith

-- the buffers stay as many
pub as_many : (a b : Buffers) → lengths_of a ≡ lengths_of b → length a ≡ length b
as_many a b e = sym (length-map a (λ (ws : List ℕ). length ws)) ∙ ap (λ (ns : List ℕ). length ns) e ∙ length-map b (λ (ws : List ℕ). length ws)

-- a core that settled is sound
pub settled_sound : SettlingsPlace → (core : CoreView) (before : List Pending) (o : Pending) (later : List Pending) (outcome : Outcome) (spent : Option Spent) → IsSoundCore core spent → spent_ticket spent ≡ None → core.outs ≡ before ++ o ∷ later → KeepsLaws core.shape (launch_now core.shape core.bag o) core.buffers core.limits.turns outcome → length outcome.sent ≤ MOST_SENT → IsSoundCore (settled_of core before o later outcome) spent
settled_sound law core before o later outcome spent s none was_out laws few =
    let entry = entry_of (launch_now core.shape core.bag o) o.at core.next outcome in
    let longer = length_push core.journal entry in
    record {
      placed = law core before o later outcome s.good was_out laws s.placed;
      good = s.good;
      wide = s.wide;
      buffers = as_many outcome.buffers core.buffers laws.lengths ∙ s.buffers;
      few = s.few;
      next = let a = s.next in omega (arith, longer, a, few);
      denied = let a = s.denied in let b = laws.denied_few in omega (arith, longer, a, b);
      kept = let a = s.kept in omega (arith, longer, a);
      born = born_more core.next (core.next + length outcome.sent) core.journal entry (omega arith) s.born (entry_few core.next (length outcome.sent));
      stopped = never_spent (settled_of core before o later outcome) spent none;
    }

-- a step counts no guess, and makes the journal longer
pub longer_than_kept : (core : CoreView) (before : List Pending) (o : Pending) (later : List Pending) (outcome : Outcome) (spent : Option Spent) → IsSoundCore core spent → (settled_of core before o later outcome).kept < length (settled_of core before o later outcome).journal
longer_than_kept core before o later outcome spent s =
    let longer = length_push core.journal (entry_of (launch_now core.shape core.bag o) o.at core.next outcome) in
    let a = s.kept in
    omega (arith, longer, a)

-- a core with one more guess counted is sound
pub counted_sound : KeepingsPlace → (core : CoreView) (spent : Option Spent) → IsSoundCore core spent → core.kept < length core.journal → IsSoundCore (with_kept core) spent
counted_sound law core spent s few =
    record {
      placed = law core s.placed;
      good = s.good;
      wide = s.wide;
      buffers = s.buffers;
      few = s.few;
      next = s.next;
      denied = s.denied;
      kept = omega (arith, few);
      born = s.born;
      stopped = λ t is. (let old = s.stopped t is in record { before = old.before; pending = old.pending; later = old.later; out = record { place = old.out.place; named = old.out.named }; launch = old.launch });
    }

-- a guess that was just made of a launch out says what that does to the buffers now
pub told_now : (shape : Shape) (made : Meaning) (core : CoreView) (turns : ℕ) (o : Pending) (g : Guess) (l : Launch) → turns ≡ core.limits.turns → IsTrueOf shape made turns g → IsFor g core.buffers → g.launch ≡ l → l ≡ launch_now core.shape core.bag o → made (launch_now core.shape core.bag o) core.buffers core.limits.turns ≡ guessed g.answer g.writes core.buffers
told_now shape made core turns o g l same honest agrees of now =
    let launch = launch_now core.shape core.bag o in
    ap (λ (t : ℕ). made launch core.buffers t) (sym same) ∙ says shape made turns g launch core.buffers honest agrees (of ∙ now)

pub not_again : (ticket : ℕ) (xs : List Pending) (o : Pending) (ys : List Pending) → o.ticket ≡ ticket → IsNotOut ticket (xs ++ o ∷ ys) → ⊥
not_again ticket [] o ys e n = n.0 e
not_again ticket (x ∷ xs) o ys e n = not_again ticket xs o ys e n.1

first_of : (x y : Pending) (xs ys : List Pending) → x ∷ xs ≡ y ∷ ys → x ≡ y
first_of x y xs ys e = cc

rest_of : (x y : Pending) (xs ys : List Pending) → x ∷ xs ≡ y ∷ ys → xs ≡ ys
rest_of x y xs ys e = cc

one_at : (before : List Pending) (o : Pending) (later : List Pending) (before_2 : List Pending) (p : Pending) (later_2 : List Pending) → TicketsDiffer (before ++ o ∷ later) → before ++ o ∷ later ≡ before_2 ++ p ∷ later_2 → o.ticket ≡ p.ticket → o ≡ p
one_at [] o later [] p later_2 d e t = first_of o p later later_2 e
one_at [] o later (x ∷ before_2) p later_2 d e t = absurd (not_again o.ticket before_2 p later_2 (sym t) (subst (IsNotOut o.ticket) (rest_of o x later (before_2 ++ p ∷ later_2) e) d.0))
one_at (x ∷ before) o later [] p later_2 d e t =
    let h : x ≡ p = first_of x p (before ++ o ∷ later) later_2 e in
    absurd (not_again x.ticket before o later (t ∙ sym (ap (λ (q : Pending). q.ticket) h)) d.0)
one_at (x ∷ before) o later (y ∷ before_2) p later_2 d e t = one_at before o later before_2 p later_2 d.1 (rest_of x y (before ++ o ∷ later) (before_2 ++ p ∷ later_2) e) t

-- one launch is out with a ticket
pub one_out : (core : CoreView) (ticket : ℕ) (before : List Pending) (o : Pending) (later : List Pending) (before_2 : List Pending) (p : Pending) (later_2 : List Pending) → IsPlaced core core.bag → IsOut core ticket before o later → IsOut core ticket before_2 p later_2 → o ≡ p
one_out core ticket before o later before_2 p later_2 placed a b =
    one_at before o later before_2 p later_2 (subst TicketsDiffer a.place placed.tickets_differ) (sym a.place ∙ b.place) (a.named ∙ sym b.named)

-- a launch that keeps the laws sends few records
few_sent : FewAreSent → OutsFit → (core : CoreView) (spent : Option Spent) (before : List Pending) (o : Pending) (later : List Pending) (outcome : Outcome) → IsSoundCore core spent → core.outs ≡ before ++ o ∷ later → KeepsLaws core.shape (launch_now core.shape core.bag o) core.buffers core.limits.turns outcome → length outcome.sent ≤ MOST_SENT
few_sent few fit core spent before o later outcome s was_out laws =
    few core.shape (launch_now core.shape core.bag o) core.buffers core.limits.turns outcome s.good (fit core before o later s.good was_out s.placed) laws

-- a core that took a step which it may take is sound
pub stepped_sound : SettlingsPlace → FewAreSent → OutsFit → (core : CoreView) (spent : Option Spent) (ticket : ℕ) (made : Made) (writes : List Write) (before : List Pending) (o : Pending) (later : List Pending) → IsSoundCore core spent → spent ≡ None → CanStep core ticket made writes → IsOut core ticket before o later → IsSoundCore (settled_of core before o later (outcome_of made (all_written core.buffers writes))) spent
stepped_sound place few fit core spent ticket made writes before o later s none can out =
    let outcome = outcome_of made (all_written core.buffers writes) in
    let same : can.pending ≡ o = one_out core ticket can.before can.pending can.later before o later s.placed can.out out in
    let laws = subst (λ (p : Pending). KeepsLaws core.shape (launch_now core.shape core.bag p) core.buffers core.limits.turns outcome) same can.laws in
    settled_sound place core before o later outcome spent s (ap spent_ticket none) out.place laws (few_sent few fit core spent before o later outcome s out.place laws)

-- what was found of the launch out may be taken
pub can_step : OutsFit → (made : Meaning) (core : CoreView) (spent : Option Spent) (ticket : ℕ) (guess : Option Guess) (e : Effect) → IsSoundCore core spent → IsLawful made core.shape → FindsOut made core ticket guess (Ok e) → SomeIsOut core ticket → CanStep core ticket e.made e.writes
can_step fit made core spent ticket guess e s lawful finds out =
    let launch = launch_now core.shape core.bag out.1 in
    let fits = fit core out.0 out.1 out.2 s.good out.3.place s.placed in
    record {
      before = out.0;
      pending = out.1;
      later = out.2;
      out = out.3;
      laws = subst (λ (x : Option Outcome). IfSome x (KeepsLaws core.shape launch core.buffers core.limits.turns)) (finds out.0 out.1 out.2 out.3).0 (lawful launch core.buffers core.limits.turns fits);
    }
