use Rattle.std.proofs.Common.{◌≡◌, suc, ◌+◌, subst, arith}
use Rattle.wg_chains.specs.Arrived.{AreReached}
use Rattle.wg_chains.proofs.depths.first_unit_depths.Goals as goal

pub loop-k-preserved : goal.loop-k-preserved
loop-k-preserved c = let e : suc c.loop-k._k ≡ c.loop-k._k + 1 = omega arith in subst (λ k. AreReached c.args.nodes.now k c.in_ok-depths-2.depths) e (c.in_ok-depths-2.ensures c.loop-k._k c.loop-k.invariant)

pub returns : goal.returns
returns c = let e : c.loop-k._k ≡ 32 = omega arith in subst (λ k. AreReached c.args.nodes.now k c.loop-k.depths) e c.loop-k.invariant
