use Rattle.std.proofs.Common.{ℕ, List, Bool, IsTrue, length, refl, sym, subst, ◌∙◌, arith}
use Rattle.wg_chains.specs.Rows.{leads, IsSquare}
use Rattle.wg_chains.proofs.Closures.{next_rows, leads_there, is_led}
use Rattle.wg_chains.proofs.Squares.{within_size}
use Rattle.wg_chains.proofs.closure.closure.Goals as goal

pub through-requires-clause-square : goal.through-requires-clause-square
through-requires-clause-square c = subst (λ n. IsSquare n c.loop-k.closed) (sym c.loop-k.invariant.square.count) c.loop-k.invariant.square

pub loop-k-init : goal.loop-k-init
loop-k-init c = record { square = c.requires.square; steps = λ i j. refl }

pub loop-k-preserved : goal.loop-k-preserved
loop-k-preserved c = record {
  square = subst (λ n. IsSquare n c.in_ok-closed.closed) c.loop-k.invariant.square.count c.in_ok-closed.ensures.square;
  steps = next_rows (leads c.args.rows) c.loop-k.closed c.in_ok-closed.closed c.loop-k.k c.loop-k.invariant.steps c.in_ok-closed.ensures.steps;
}

pub returns-clause-count : goal.returns-clause-count
returns-clause-count c = c.loop-k.invariant.square.count

pub returns-clause-steps : goal.returns-clause-steps
returns-clause-steps c i j = (
  (λ h. leads_there (leads c.args.rows) c.loop-k.k i j (sym (c.loop-k.invariant.steps i j) ∙ h)),
  (λ h. c.loop-k.invariant.steps i j ∙ is_led (leads c.args.rows) c.loop-k.k i j (λ a b t. (let lt = within_size (length c.args.rows) c.args.rows a b c.requires.square t in omega (arith, lt))) h),
)
