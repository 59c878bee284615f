use Rattle.std.proofs.Common.{false, List, ℕ, drop, sym, ap, ◌∙◌, arith}
use Rattle.wg_code.specs.OpMeaning.{ops_do}
use Rattle.wg_registers.specs.Given.{site_of}
use Rattle.wg_control.proofs.Front.{set_next}
use Rattle.wg_control.proofs.simple.run_front.Goals as goal

pub loop-op-preserved : goal.loop-op-preserved
loop-op-preserved c = (
  let e = c.loop-op.invariant.0 in omega (arith, e),
  λ A C s b t. c.loop-op.invariant.1 A C s b t
      ∙ set_next A C c.args.ops.now c.loop-op.op-index c.op-item.result c.op-item.is c.loop-op-test.true c.loop-op.registers c.run_set.new.registers s b t (c.run_set.ensures.sets c.if-not-run_set.false A C s b t),
)

pub returns-then-not-run_set-clause-sets : goal.returns-then-not-run_set-clause-sets
returns-then-not-run_set-clause-sets c = λ A C s b t.
    c.loop-op.invariant.1 A C s b t
    ∙ (ap (λ n. ops_do false A C (drop n c.args.ops.now) (site_of c.loop-op.registers s b) t) (sym c.loop-op.invariant.0)
    ∙ ap (λ (l : List ℕ). ops_do false A C (drop c.loop-op.done c.args.ops.now) (site_of l s b) t) (sym (c.run_set.ensures.leaves c.if-not-run_set.true)))
