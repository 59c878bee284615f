use Rattle.std.proofs.Common.{ℕ, Bool, ◌||◌, ◌&&◌, arith}
use Rattle.wg_chains.specs.Rows.{flag}
use Rattle.wg_chains.proofs.Squares.{filled_none, filled_more, filled_all, either_past}
use Rattle.wg_chains.proofs.closure.either.Goals as goal

pub loop-m-init : goal.loop-m-init
loop-m-init c = filled_none (λ j. flag c.args.row.now j || (c.args.by && flag c.args.other.now j)) _ c.new-flags.ensures

pub loop-m-preserved : goal.loop-m-preserved
loop-m-preserved c = filled_more (λ j. flag c.args.row.now j || (c.args.by && flag c.args.other.now j)) c.loop-m.m c.loop-m.flags c.push.new.self _ c.loop-m.invariant (cc) c.in_ok-push.ensures.ok

pub returns-clause-flags : goal.returns-clause-flags
returns-clause-flags c m = filled_all (λ j. flag c.args.row.now j || (c.args.by && flag c.args.other.now j)) c.loop-m.m c.loop-m.flags c.loop-m.invariant (λ j le. either_past c.args.row.now c.args.other.now c.args.by j c.requires (omega arith)) m
