use Rattle.std.proofs.Common.{rules, ◌≡◌, ◌<◌, ◌+◌, [], length, None, Option, ap, sym, subst, arith, ◌∙◌}
use Rattle.std.proofs.lemmas.List.{nil_from_length}
use Rattle.wg_machine.specs.declared.launch.Limits.{Limits}
use Rattle.wg_standing.specs.Core.{CoreView}
use Rattle.wg_standing.specs.Idle.{IsIdle}
use Rattle.wg_engine.specs.declared.keeping.Out.{Out}
use Rattle.wg_engine.specs.Calls.{OpensNext}
use Rattle.wg_engine.specs.Inside.{IsSoundCore}
use Rattle.wg_engine.specs.Tables.{Opens}
use Rattle.wg_engine.proofs.Openings.{next_sound, opens_memory, opens_none, opens_some, unblocked}
use Rattle.wg_engine.proofs.Views.{Own, core_with, idle_down, no_choice_up}
use Rattle.wg_engine.proofs.engine.Core.opened.Goals as goal
use Rattle.wg_engine.proofs.engine.Core.opened.Goals.{in-Err, in-Ok-Some, in-Ok-None+else-out-eq0-2}

pub unreachable-requires : goal.unreachable-requires
unreachable-requires g c =
    let s = c.self.inside in
    let k : CoreView = g.K.Keeping.seen s.keep in
    let w : Own = record { buffers = s.buffers; denied = s.denied; peak = s.peak; kept = s.kept; spent = s.spent } in
    let none : k.outs ≡ [] = nil_from_length k.outs (sym c.out_count-out.ensures ∙ c.if-out-eq0-2.true) in
    let busy : IsIdle (core_with k w) → ⊥ = λ i. (let t = c.is_idle.ensures.1 (idle_down k w i) in let f = c.if-is_idle.false in cc) in
    let op = subst (λ (o : Option Out). OpensNext k (g.K.Keeping.seen c.open.new.self) o) c.in-Ok-None.field-0-is c.in-Ok-None.ensures.opens in
    unblocked c.never_blocked.ensures (core_with k w) s.spent c.self.invariant none busy (no_choice_up k w op.0)

pub invariant_of-self : goal.invariant_of-self
invariant_of-self g c =
    let s = c.self.inside in
    let k : CoreView = g.K.Keeping.seen s.keep in
    let w : Own = record { buffers = s.buffers; denied = s.denied; peak = s.peak; kept = s.kept; spent = s.spent } in
    let l : CoreView = g.K.Keeping.seen c.open.new.self in
    let none : s.spent ≡ None = search rules in
    let a = c.if-length-out.false in
    let b = c.length.ensures in
    let d = c.out_count-out.ensures in
    let e = ap (λ (x : Limits). x.launches) c.limits.ensures in
    let few : length k.journal + length k.outs < k.limits.launches = omega (arith, a, b, d, e) in
    elim c.match-open.branch [
      | in-Err x ↦ subst (λ (n : CoreView). IsSoundCore (core_with n w) s.spent) (sym x.in-Err.ensures.same) c.self.invariant
      | in-Ok-Some x ↦ next_sound c.openings_place.ensures k l w x.in-Ok-Some.field-0 c.self.invariant none few x.in-Ok-Some.ensures.opens
      | in-Ok-None+else-out-eq0-2 x ↦ next_sound c.openings_place.ensures k l w x.in-Ok-None.field-0 c.self.invariant none few x.in-Ok-None.ensures.opens
    ]

pub returns : goal.returns
returns g c =
    let s = c.self.inside in
    let k : CoreView = g.K.Keeping.seen s.keep in
    let w : Own = record { buffers = s.buffers; denied = s.denied; peak = s.peak; kept = s.kept; spent = s.spent } in
    let l : CoreView = g.K.Keeping.seen c.open.new.self in
    let none : s.spent ≡ None = search rules in
    let a = c.if-length-out.false in
    let b = c.length.ensures in
    let d = c.out_count-out.ensures in
    let e = ap (λ (x : Limits). x.launches) c.limits.ensures in
    let few : length k.journal + length k.outs < k.limits.launches = omega (arith, a, b, d, e) in
    elim c.match-open.branch [
      | in-Err x ↦ subst (λ (n : CoreView). Opens n (core_with l w) c.match-open.result) c.self.view_is (subst (Opens (core_with k w) (core_with l w)) (sym x.result-is) (opens_memory k l w none few x.in-Err.ensures.some x.in-Err.ensures.same))
      | in-Ok-Some x ↦ (
          let op = subst (λ (o : Option Out). OpensNext k l o) x.in-Ok-Some.field-0-is x.in-Ok-Some.ensures.opens in
          subst (λ (n : CoreView). Opens n (core_with l w) c.match-open.result) c.self.view_is (subst (Opens (core_with k w) (core_with l w)) (sym x.result-is) (opens_some k l w _ none few op))
          )
      | in-Ok-None+else-out-eq0-2 x ↦ (
          let op = subst (λ (o : Option Out). OpensNext k l o) x.in-Ok-None.field-0-is x.in-Ok-None.ensures.opens in
          let f = x.if-out-eq0-2.false in
          let some : 0 < length k.outs = omega (arith, f, d) in
          subst (λ (n : CoreView). Opens n (core_with l w) c.match-open.result) c.self.view_is (subst (Opens (core_with k w) (core_with l w)) (sym x.result-is) (opens_none k l w none some op))
          )
    ]
