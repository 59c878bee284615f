use Rattle.std.proofs.Common.{sym, ap, ◌∙◌}
use Rattle.wg_code.specs.Given.{scope_of}
use Rattle.wg_code.specs.Valid.{Judged}
use Rattle.wg_code.proofs.Layers.{fits_if, fits_loop, fits_no_loop}
use Rattle.wg_code.proofs.NotControl.{not_control}
use Rattle.wg_code.proofs.valid.+fits.Goals as goal

pub op_fits-returns-then-ops_fit : goal.op_fits-returns-then-ops_fit
op_fits-returns-then-ops_fit t c =
    fits_if (scope_of c.args.k.now) c.args.in_loop _ _ _ _ _ _ _ c.in-If.is c.if-a-n.true c.as_slice.ensures c.as_slice-then-ops_fit.ensures (sym c.ops_fit.ensures ∙ c.if-ops_fit.true) c.ops_fit-then-ops_fit.ensures

pub op_fits-returns-then-ops_fit-3 : goal.op_fits-returns-then-ops_fit-3
op_fits-returns-then-ops_fit-3 t c =
    fits_loop (scope_of c.args.k.now) c.args.in_loop _ _ _ _ _ _ _ _ _ c.in-Loop.is c.if-a-n-2.true c.as_slice-then-a-n-2.ensures c.as_slice-then-ops_fit-2.ensures c.as_slice-then-ops_fit-3.ensures (sym c.ops_fit-then-a-n-2.ensures ∙ c.if-ops_fit-2.true) (sym c.ops_fit-then-ops_fit-2.ensures ∙ c.if-ops_fit-3.true) c.ops_fit-then-ops_fit-3.ensures

pub op_fits-returns-else-ops_fit-3 : goal.op_fits-returns-else-ops_fit-3
op_fits-returns-else-ops_fit-3 t c =
    fits_no_loop (scope_of c.args.k.now) c.args.in_loop _ _ _ _ _ _ _ _ c.in-Loop.is c.if-a-n-2.true c.as_slice-then-a-n-2.ensures c.as_slice-then-ops_fit-2.ensures (sym c.ops_fit-then-a-n-2.ensures ∙ c.if-ops_fit-2.true) c.ops_fit-then-ops_fit-2.ensures c.if-ops_fit-3.false

pub op_fits-returns-in_default : goal.op_fits-returns-in_default
op_fits-returns-in_default t c =
    c.leaf_fits.ensures ∙ sym (ap (λ (j : Judged). j c.args.in_loop) (not_control (scope_of c.args.k.now) c.args.op.now (record { not_If = c.in_default.not-If; not_Loop = c.in_default.not-Loop; not_Break = c.in_default.not-Break; not_Continue = c.in_default.not-Continue; not_Call = c.in_default.not-Call })))
