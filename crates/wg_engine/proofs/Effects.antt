-- What a launch out makes when it settles, and what taking it comes to.
use Rattle.std.proofs.Common.{◌≡◌, ◌≢◌, ℕ, List, [], ◌+◌, refl, ap, sym, ◌∙◌, subst, Bool, true, false, None, Some, Option}
use Rattle.std.specs.Prelude.{IsTrue, Result, Ok, Err, max}
use Rattle.wg_machine.specs.declared.launch.Made.{Made}
use Rattle.wg_machine.specs.declared.memory.Write.{Write}
use Rattle.wg_machine.specs.Buffers.{all_written}
use Rattle.wg_machine.specs.LaunchMeaning.{Meaning, outcome_of}
use Rattle.wg_standing.specs.declared.pending.Pending.{Pending}
use Rattle.wg_standing.specs.Core.{CoreView}
use Rattle.wg_standing.specs.Idle.{IsOut, SomeIsOut}
use Rattle.wg_standing.specs.Moves.{TakesStep, settled_of, slot_bytes}
use Rattle.wg_guess.specs.declared.guesses.Guess.{Guess}
use Rattle.wg_engine.specs.declared.engine.Settled.{Settled}
use Rattle.wg_engine.specs.declared.engine.Settled.TheVariants as settled
use Rattle.wg_engine.specs.declared.stepping.Effect.{Effect}
use Rattle.wg_engine.specs.declared.stepping.Halted.{Halted}
use Rattle.wg_engine.specs.declared.stepping.Halted.TheVariants.{Turns, Memory}
use Rattle.wg_engine.specs.Calls.{MakesStep}
use Rattle.wg_engine.specs.Effects.{Finds, HasWritesOf, Runs, StepsTo, Takes}
use Rattle.wg_engine.specs.Inside.{core_of}
use Rattle.wg_engine.specs.Serving.{OnlyWithWrites, Serves}
use Rattle.wg_engine.specs.Tables.{Settles}
use Rattle.wg_engine.proofs.Views.{Own, core_with}

unserved_writes : (core : CoreView) (o : Pending) (guess : Option Guess) (writes : List Write) → (Serves core o guess → ⊥) → HasWritesOf core o guess writes
unserved_writes core o None writes no_guess = tt
unserved_writes core o (Some g) writes no_guess = λ s. absurd (no_guess s)

untrue : (b : Bool) → b ≡ false → IsTrue b → ⊥
untrue true e t = cc
untrue false e t = cc

-- where no guess serves, a launch that is run finds what it makes
pub runs_find : (made : Meaning) (core : CoreView) (o : Pending) (guess : Option Guess) (r : Result Effect Halted) → Runs made core o r → (Serves core o guess → ⊥) → Finds made core o guess r
runs_find made core o guess (Ok e) x unserved = (x.0, (λ t. absurd (untrue e.kept x.1 t), λ s. absurd (unserved s)), unserved_writes core o guess e.writes unserved)
runs_find made core o guess (Err (Turns launch)) x unserved = (x.0, x.1, unserved)
runs_find made core o guess (Err Memory) x unserved = unserved

-- what is found of the launch that is out with the ticket
abbrev pub FindsOut : Meaning → CoreView → ℕ → Option Guess → Result Effect Halted → Type 0
FindsOut made core ticket guess r = (before : List Pending) (o : Pending) (later : List Pending) → IsOut core ticket before o later → Finds made core o guess r

abbrev step_of : (made : Meaning) (old new : CoreView) (ticket : ℕ) (guess : Option Guess) (e : Effect) → FindsOut made old ticket guess (Ok e) → StepsTo old new ticket e.made e.writes → TakesStep made old new ticket
step_of made old new ticket guess e finds s =
    record {
      before = s.before;
      pending = s.pending;
      later = s.later;
      was_out = s.out.place;
      named = s.out.named;
      outcome = outcome_of e.made (all_written old.buffers e.writes);
      runs = (finds s.before s.pending s.later s.out).0;
      after = s.after;
    }

only_with : (core : CoreView) (o : Pending) (guess : Option Guess) (writes : List Write) → HasWritesOf core o guess writes → writes ≢ [] → OnlyWithWrites core o guess
only_with core o None writes has some = tt
only_with core o (Some g) writes has some = λ serving none. some (has serving ∙ none)

-- taking what was found answers as the table says
pub takes_settle : (made : Meaning) (old new : CoreView) (ticket : ℕ) (guess : Option Guess) (e : Effect) (r : Settled) → old.stopped ≡ None → SomeIsOut old ticket → FindsOut made old ticket guess (Ok e) → Takes old new ticket e r → Settles made old new ticket guess r
takes_settle made old new ticket guess e settled.Kept free out finds t =
    let s = t.1.1 in (
      free,
      record {
        after = t.1.0;
        step = step_of made old t.1.0 ticket guess e finds s;
        serves = (finds s.before s.pending s.later s.out).1.0 (subst IsTrue (sym t.0) refl);
        counted = t.1.2;
      },
    )
takes_settle made old new ticket guess e settled.Redone free out finds t =
    let s = t.1 in (
      free,
      record {
        step = step_of made old new ticket guess e finds s;
        unserved = λ serves. untrue e.kept t.0 ((finds s.before s.pending s.later s.out).1.1 serves);
      },
    )
takes_settle made old new ticket guess e settled.Memory free out finds t = (
  free,
  record {
    before = out.0;
    pending = out.1;
    later = out.2;
    out = out.3;
    writes = only_with old out.1 guess e.writes (finds out.0 out.1 out.2 out.3).2 t.0;
  },
  t.1,
)
takes_settle made old new ticket guess e (settled.TurnsSpent launch) free out finds t = absurd t
takes_settle made old new ticket guess e settled.NotOut free out finds t = absurd t
takes_settle made old new ticket guess e settled.Stopped free out finds t = absurd t

-- where no guess serves, memory may want
pub unserved_memory : (core : CoreView) (o : Pending) (guess : Option Guess) → (Serves core o guess → ⊥) → OnlyWithWrites core o guess
unserved_memory core o None no_guess = tt
unserved_memory core o (Some g) no_guess = λ s. absurd (no_guess s)

-- the view after a step
pub stepped_view : (k l : CoreView) (w : Own) (ticket : ℕ) (made : Made) (writes : List Write) (m : MakesStep k l ticket made) → core_of l (all_written w.buffers writes) (w.denied + made.denied) (max w.peak (slot_bytes l.shape 0 l.used)) w.kept w.spent ≡ settled_of (core_with k w) m.before m.pending m.later (outcome_of made (all_written w.buffers writes))
stepped_view k l w ticket made writes m =
    ap (λ (x : CoreView). core_of x (all_written w.buffers writes) (w.denied + made.denied) (max w.peak (slot_bytes x.shape 0 x.used)) w.kept w.spent) m.after
