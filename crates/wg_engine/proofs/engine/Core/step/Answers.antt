use Rattle.std.proofs.Common.{rules, ◌≡◌, ◌+◌, None, ap, sym, subst, ◌∙◌}
use Rattle.std.specs.Prelude.{max}
use Rattle.wg_machine.specs.Buffers.{all_written}
use Rattle.wg_machine.specs.LaunchMeaning.{outcome_of}
use Rattle.wg_standing.specs.Core.{CoreView}
use Rattle.wg_standing.specs.Idle.{IsOut}
use Rattle.wg_standing.specs.Moves.{settled_of, slot_bytes}
use Rattle.wg_engine.specs.Calls.{MakesStep}
use Rattle.wg_engine.specs.Effects.{CanStep, StepsTo}
use Rattle.wg_engine.specs.Inside.{IsSoundCore, core_of}
use Rattle.wg_engine.proofs.Effects.{stepped_view}
use Rattle.wg_engine.proofs.Settlings.{stepped_sound}
use Rattle.wg_engine.proofs.Views.{Own, core_with, out_up}
use Rattle.wg_engine.proofs.engine.Core.step.Goals as goal

pub invariant_of-self-2 : goal.invariant_of-self-2
invariant_of-self-2 g c =
    let s = c.self.inside in
    let k : CoreView = g.K.Keeping.seen s.keep in
    let w : Own = record { buffers = s.buffers; denied = s.denied; peak = s.peak; kept = s.kept; spent = s.spent } in
    let l : CoreView = g.K.Keeping.seen c.settle.new.self in
    let none : s.spent ≡ None = search rules in
    let m : MakesStep k l c.args.ticket c.args.made = c.settle.ensures in
    let a = c.as_slice.ensures in
    let b = c.writes.view_is in
    let seen : c.as_slice.result.now ≡ c.args.writes = cc in
    let written : c.apply.new.self ≡ all_written s.buffers c.args.writes = c.in_ok-apply.ensures.ok ∙ ap (all_written s.buffers) seen in
    let d : c.from-denied.result ≡ c.args.made.denied = c.from-denied.ensures in
    let x : c.max-self-inside.result ≡ max s.peak (slot_bytes l.shape 0 l.used) = c.max-self-inside.ensures ∙ ap (max s.peak) c.bytes.ensures in
    let can : CanStep (core_with k w) c.args.ticket c.args.made c.args.writes = subst (λ (n : CoreView). CanStep n c.args.ticket c.args.made c.args.writes) (sym c.self.view_is) c.requires.can in
    let out : IsOut (core_with k w) c.args.ticket m.before m.pending m.later = out_up k w c.args.ticket m.before m.pending m.later m.out in
    let sound = stepped_sound c.settlings_place.ensures c.few_are_sent.ensures c.outs_fit.ensures (core_with k w) s.spent c.args.ticket c.args.made c.args.writes m.before m.pending m.later c.self.invariant none can out in
    rw (written, d, x) (subst (λ (n : CoreView). IsSoundCore n s.spent) (sym (stepped_view k l w c.args.ticket c.args.made c.args.writes m)) sound)

pub returns-clause-steps : goal.returns-clause-steps
returns-clause-steps g c =
    let s = c.self.inside in
    let k : CoreView = g.K.Keeping.seen s.keep in
    let w : Own = record { buffers = s.buffers; denied = s.denied; peak = s.peak; kept = s.kept; spent = s.spent } in
    let l : CoreView = g.K.Keeping.seen c.settle.new.self in
    let m : MakesStep k l c.args.ticket c.args.made = c.settle.ensures in
    let a = c.as_slice.ensures in
    let b = c.writes.view_is in
    let seen : c.as_slice.result.now ≡ c.args.writes = cc in
    let written : c.apply.new.self ≡ all_written s.buffers c.args.writes = c.in_ok-apply.ensures.ok ∙ ap (all_written s.buffers) seen in
    let d : c.from-denied.result ≡ c.args.made.denied = c.from-denied.ensures in
    let x : c.max-self-inside.result ≡ max s.peak (slot_bytes l.shape 0 l.used) = c.max-self-inside.ensures ∙ ap (max s.peak) c.bytes.ensures in
    let after : CoreView = core_of l c.apply.new.self (s.denied + c.from-denied.result) c.max-self-inside.result s.kept s.spent in
    let is : after ≡ settled_of (core_with k w) m.before m.pending m.later (outcome_of c.args.made (all_written s.buffers c.args.writes)) = rw (written, d, x) (stepped_view k l w c.args.ticket c.args.made c.args.writes m) in
    let steps : StepsTo (core_with k w) after c.args.ticket c.args.made c.args.writes = record { before = m.before; pending = m.pending; later = m.later; out = out_up k w c.args.ticket m.before m.pending m.later m.out; after = is } in
    subst (λ (n : CoreView). StepsTo n after c.args.ticket c.args.made c.args.writes) c.self.view_is steps
