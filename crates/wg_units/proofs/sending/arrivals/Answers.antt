use Rattle.std.proofs.Common.{◌≡◌, ◌<◌, ℕ, Option, None, get_or, length, arith}
use Rattle.std.specs.Prelude.{slice_index_or}
use Rattle.wg_units.proofs.Placed.{again, more_arrivals, one_below}
use Rattle.wg_units.proofs.sending.arrivals.Goals as goal

pub loop-e-preserved : goal.loop-e-preserved
loop-e-preserved c nodes tops lt le below =
    let lt_e : c.loop-e.e < length c.args.elements.now = omega arith in
    let e : Option ℕ = slice_index_or c.args.elements.now c.loop-e.e None in
    let e_is : e ≡ get_or c.args.elements.now c.loop-e.e e = again c.args.elements.now c.loop-e.e None lt_e in
    more_arrivals nodes c.args.n c.args.level c.loop-e.e c.args.elements.now c.loop-e.targets c.push.new.self e c.arrives.result (c.loop-e.invariant nodes tops lt le below) lt_e e_is
    (c.arrives.ensures nodes tops lt le (one_below (length nodes) c.args.elements.now c.loop-e.e e below lt_e e_is))
    c.in_ok-push.ensures.ok
