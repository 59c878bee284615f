use Rattle.std.proofs.Common.{IsTrue, sym, arith, length, subst}
use Rattle.wg_shapes.specs.Cycle.{OnCycle, joins}
use Rattle.wg_chains.specs.Rows.{leads, IsSquare}
use Rattle.wg_chains.proofs.Closures.{same_leads}
use Rattle.wg_chains.proofs.Squares.{first_moved}
use Rattle.wg_chains.proofs.cycles.first_on_cycle.Goals as goal

pub closure-requires : goal.closure-requires
closure-requires c = record { square = subst (λ n. IsSquare n c.in_ok-joined.joined) (sym c.in_ok-joined.ensures.square.count) c.in_ok-joined.ensures.square }

pub first_back-requires : goal.first_back-requires
first_back-requires c = let a = c.in_ok-closed.ensures.count in let b = c.in_ok-joined.ensures.square.count in let f = c.requires.few in record { few = omega (arith, a, b, f) }

pub returns : goal.returns
returns c =
    first_moved (λ n. IsTrue (leads c.in_ok-closed.closed n n)) (OnCycle c.args.nodes.now) c.first_back.result
    (λ n h. same_leads (leads c.in_ok-joined.joined) (joins c.args.nodes.now) n n c.in_ok-joined.ensures.joins ((c.in_ok-closed.ensures.steps n n).0 h))
    (λ n h. (c.in_ok-closed.ensures.steps n n).1 (same_leads (joins c.args.nodes.now) (leads c.in_ok-joined.joined) n n (λ a b. sym (c.in_ok-joined.ensures.joins a b)) h))
    c.first_back.ensures
