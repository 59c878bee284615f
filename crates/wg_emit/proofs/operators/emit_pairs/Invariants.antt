use Rattle.std.proofs.Common.{◌≡◌, ◌++◌, ◌+◌, drop}
use Rattle.wg_emit.specs.Each.{form_in}
use Rattle.wg_lowered.specs.Exprs.{pair_ops}
use Rattle.wg_emit.proofs.operators.emit_pairs.Given as goal

abbrev pub invariant-loop-i : goal.invariant-loop-i
invariant-loop-i l = l.ops ++ pair_ops (form_in l.form) (drop l.i l.left) (drop l.i l.right) (l.d + l.i) ≡ l.initial.ops ++ pair_ops (form_in l.form) l.left l.right l.d
