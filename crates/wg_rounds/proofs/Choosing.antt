-- When a launch is next, and that it does not depend on the guesses kept.
use Rattle.std.proofs.Common.{◌≡◌, ℕ, zero, suc, ◌<◌, List, [], ◌∷◌, length, refl, ap, inl, inr, subst, arith}
use Rattle.std.specs.Prelude.{◌⊎◌, slice_get, unwrap_or}
use Rattle.wg_words.specs.Each.{Each}
use Rattle.wg_machine.specs.declared.launch.Live.{Live}
use Rattle.wg_standing.specs.declared.pending.Pending.{Pending}
use Rattle.wg_standing.specs.Choice.{IsChoice, NoChoice, from_slots, from_entries}
use Rattle.wg_standing.specs.Core.{CoreView}
use Rattle.wg_standing.specs.Idle.{IsIdle, IsSpentUp}
use Rattle.wg_standing.specs.Moves.{with_out}
use Rattle.wg_rounds.specs.Rounds.{AreNext, IsNext, IsRound, NoneIsNext, bare, with_outs}

-- where there is no choice, none is next
pub no_choice : (core : CoreView) (o : Pending) → NoChoice core → IsChoice core o → ⊥
no_choice core o n (from_slots u p) = n.unpicked u p.waits p.room
no_choice core o n (from_entries none can) = n.unentered can

no_less : 0 < 0 → ⊥
no_less lt = omega (arith, lt)

none_waits : (waits : List (List Live)) (u : ℕ) → Each (λ (ws : List Live). ws ≡ []) waits → 0 < length (unwrap_or (slice_get waits u) []) → ⊥
none_waits [] u all lt = absurd (no_less lt)
none_waits (ws ∷ waits) zero all lt = let e : length ws ≡ 0 = ap (λ (x : List Live). length x) all.0 in omega (arith, e, lt)
none_waits (ws ∷ waits) (suc u) all lt = none_waits waits u all.1 lt

idle_choice : (core : CoreView) (o : Pending) → IsIdle core → IsChoice core o → ⊥
idle_choice core o i (from_slots u p) = none_waits core.waits u i.waits p.waits
idle_choice core o i (from_entries none can) = let e = ap (λ (x : List Live). length x) i.entries in let s = can.some in omega (arith, e, s)

pub idle_none : (core : CoreView) → IsIdle core → NoneIsNext core
idle_none core i = λ o n. idle_choice core o i n.choice

pub spent_none : (core : CoreView) → IsSpentUp core → NoneIsNext core
spent_none core s = λ o n. let few = n.few in omega (arith, s, few)

pub not_now_none : (core : CoreView) → IsSpentUp core ⊎ NoChoice core → NoneIsNext core
not_now_none core (inl s) = spent_none core s
not_now_none core (inr n) = λ o x. no_choice core o n x.choice

choice_bare : (core : CoreView) (o : Pending) → IsChoice core o → IsChoice (bare core) o
choice_bare core o (from_slots u q) = from_slots u (record { within = q.within; waits = q.waits; room = q.room; best = q.best })
choice_bare core o (from_entries none can) = from_entries none (record { some = can.some; room = can.room })

bare_choice : (core : CoreView) (o : Pending) → IsChoice (bare core) o → IsChoice core o
bare_choice core o (from_slots u q) = from_slots u (record { within = q.within; waits = q.waits; room = q.room; best = q.best })
bare_choice core o (from_entries none can) = from_entries none (record { some = can.some; room = can.room })

pub next_bare : (core : CoreView) (o : Pending) → IsNext core o → IsNext (bare core) o
next_bare core o n = record { few = n.few; choice = choice_bare core o n.choice }

pub none_bare : (core : CoreView) → NoneIsNext core → NoneIsNext (bare core)
none_bare core none = λ o n. none o (record { few = n.few; choice = bare_choice core o n.choice })

pub all_next_bare : (core : CoreView) (os : List Pending) → AreNext core os → AreNext (bare core) os
all_next_bare core [] n = tt
all_next_bare core (o ∷ os) n = (next_bare core o n.0, all_next_bare (with_out core o) os n.1)

pub outs_bare : (core : CoreView) (os : List Pending) → bare (with_outs core os) ≡ with_outs (bare core) os
outs_bare core [] = refl
outs_bare core (o ∷ os) = outs_bare (with_out core o) os

pub round_bare : (workers : ℕ) (core : CoreView) (os : List Pending) → IsRound workers core os → IsRound workers (bare core) os
round_bare workers core os r =
    record {
      next = all_next_bare core os r.next;
      some = r.some;
      few = r.few;
      whole = λ lt. subst NoneIsNext (outs_bare core os) (none_bare (with_outs core os) (r.whole lt));
    }
