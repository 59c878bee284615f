use Rattle.std.proofs.Common.{arith, sym}
use Rattle.wg_emit.specs.Each.{form_in}
use Rattle.wg_emit.proofs.Runs.{pairs_end}
use Rattle.wg_emit.proofs.operators.emit_pairs.Goals as goal

pub returns : goal.returns
returns c =
    rw (sym c.as_slice-left.ensures, sym c.as_slice-right.ensures)
    (pairs_end _ _ (form_in c.args.form) c.as_slice-left.result.now c.as_slice-right.result.now c.args.d c.loop-i.i (omega (arith, c.min-count.ensures, c.loop-i-test.false)) c.loop-i.invariant)
