-- A core opens.
use Rattle.std.proofs.Common.{◌≡◌, ℕ, zero, suc, ◌+◌, ◌<◌, List, [], length, refl, ap, sym, inr, ◌∙◌, subst, None, Some, Option}
use Rattle.std.specs.Prelude.{filter}
use Rattle.std.specs.Option.{ForSome}
use Rattle.wg_words.specs.Each.{Each}
use Rattle.wg_machine.specs.declared.launch.Live.{Live}
use Rattle.wg_standing.specs.declared.pending.Pending.{Pending}
use Rattle.wg_standing.specs.Choice.{IsChoice, NoChoice}
use Rattle.wg_standing.specs.Core.{CoreView}
use Rattle.wg_standing.specs.Idle.{IsIdle}
use Rattle.wg_standing.specs.Laws.{NeverBlocked, OpeningsPlace}
use Rattle.wg_standing.specs.Moves.{with_out}
use Rattle.wg_standing.specs.Outs.{unopened}
use Rattle.wg_standing.specs.Standing.{IsPlaced, by_unit, is_entry_record}
use Rattle.wg_engine.specs.declared.engine.Opened.TheVariants as opened
use Rattle.wg_engine.specs.declared.keeping.Out.{Out}
use Rattle.wg_engine.specs.Calls.{OpensNext, SomeChoice}
use Rattle.wg_engine.specs.Inside.{IsSoundCore, IsStopped, spent_ticket}
use Rattle.wg_engine.specs.Tables.{Opens}
use Rattle.wg_engine.proofs.Views.{Own, choice_up, core_with, no_choice_up}
use Rattle.wg_engine.specs.declared.stepping.Spent.{Spent}

none_wait : (handed v n : ℕ) → Each (λ (ws : List Live). ws ≡ []) (by_unit handed v n [])
none_wait handed v zero = tt
none_wait handed v (suc n) = (refl, none_wait handed (v + 1) n)

-- with nothing out and an empty bag a core is idle
idle_of : (core : CoreView) → IsPlaced core core.bag → core.outs ≡ [] → core.bag ≡ [] → IsIdle core
idle_of core p none empty =
    let n = length core.shape.units in
    let u : unopened core.outs core.bag ≡ [] = ap (λ (os : List Pending). unopened os core.bag) none ∙ empty in
    record {
      waits = subst (Each (λ (ws : List Live). ws ≡ [])) (sym (p.waits ∙ ap (by_unit core.handed 0 n) u)) (none_wait core.handed 0 n);
      entries = p.entries ∙ ap (filter (is_entry_record core.handed)) u;
      outs = none;
    }

-- with nothing out, a core that is not idle has something to open
pub unblocked : NeverBlocked → (core : CoreView) (spent : Option Spent) → IsSoundCore core spent → core.outs ≡ [] → (IsIdle core → ⊥) → NoChoice core → ⊥
unblocked law core spent s none busy nothing =
    nothing.unentered (law core s.good s.wide s.placed none (λ empty. busy (idle_of core s.placed none empty)) nothing.unpicked)

pub never_spent : (core : CoreView) (spent : Option Spent) → spent_ticket spent ≡ None → ForSome spent (IsStopped core)
never_spent core None e s is = absurd (cc)
never_spent core (Some t) e s is = absurd (cc)

-- a core with one more launch out is sound
pub opened_sound : OpeningsPlace → (core : CoreView) (spent : Option Spent) (o : Pending) → IsSoundCore core spent → spent_ticket spent ≡ None → length core.journal + length core.outs < core.limits.launches → IsChoice core o → IsSoundCore (with_out core o) spent
opened_sound law core spent o s none few choice =
    record {
      placed = law core o s.good few s.placed choice;
      good = s.good;
      wide = s.wide;
      buffers = s.buffers;
      few = s.few;
      next = s.next;
      denied = s.denied;
      kept = s.kept;
      born = s.born;
      stopped = never_spent (with_out core o) spent none;
    }

-- what a core answers where its keep opened a launch, had none, or found no memory
pub opens_some : (k l : CoreView) (w : Own) (out : Out) → w.spent ≡ None → length k.journal + length k.outs < k.limits.launches → OpensNext k l (Some out) → Opens (core_with k w) (core_with l w) (opened.Launch out)
opens_some k l w out none few op =
    (ap spent_ticket none, few, (op.0, choice_up k w op.0 op.1, op.2, ap (λ (x : CoreView). core_with x w) op.3))

pub opens_none : (k l : CoreView) (w : Own) → w.spent ≡ None → 0 < length k.outs → OpensNext k l None → Opens (core_with k w) (core_with l w) opened.NotNow
opens_none k l w none some op =
    (ap spent_ticket none, some, inr (no_choice_up k w op.0), ap (λ (x : CoreView). core_with x w) op.1)

pub opens_memory : (k l : CoreView) (w : Own) → w.spent ≡ None → length k.journal + length k.outs < k.limits.launches → SomeChoice k → l ≡ k → Opens (core_with k w) (core_with l w) opened.Memory
opens_memory k l w none few some same =
    (ap spent_ticket none, few, (some.0, choice_up k w some.0 some.1), ap (λ (x : CoreView). core_with x w) same)

-- a core whose keep opened what comes next is sound
pub next_sound : OpeningsPlace → (k l : CoreView) (w : Own) (out : Option Out) → IsSoundCore (core_with k w) w.spent → w.spent ≡ None → length k.journal + length k.outs < k.limits.launches → OpensNext k l out → IsSoundCore (core_with l w) w.spent
next_sound law k l w None s none few op = subst (λ (x : CoreView). IsSoundCore (core_with x w) w.spent) (sym op.1) s
next_sound law k l w (Some out) s none few op =
    subst (λ (x : CoreView). IsSoundCore (core_with x w) w.spent) (sym op.3) (opened_sound law (core_with k w) w.spent op.0 s (ap spent_ticket none) few (choice_up k w op.0 op.1))
