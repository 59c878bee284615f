use Rattle.std.proofs.Common.{◌++◌, ◌∙◌}
use Rattle.wg_tool.specs.declared.pair.TheConstants.{PAIR_HEAD, INPUT}
use Rattle.wg_tool.proofs.FormLemmas.{regrouped, head_joined, head_named}
use Rattle.wg_tool.proofs.graph.read_head.Goals as goal

pub returns-in_err-strip-clause-none : goal.returns-in_err-strip-clause-none
returns-in_err-strip-clause-none c = rw c.from_residual.ensures (λ name more is e.
    c.in_err-strip.ensures.none (name ++ (INPUT.now ++ more)) (e ∙ regrouped PAIR_HEAD.now name INPUT.now more))

pub returns-in_err-strip-2-clause-none : goal.returns-in_err-strip-2-clause-none
returns-in_err-strip-2-clause-none c = rw c.from_residual-in_err-strip-2.ensures (λ name more is e.
    let h = head_named c.args.bytes.now _ c.in_ok-name.rest.now c.in_ok-name.name.now name more c.in_ok-strip.ensures.found c.in_ok-name.ensures.found.1 c.in_ok-name.ensures.found.0 c.in_ok-name.ensures.ends is e in
    c.in_err-strip-2.ensures.none more h.1)

pub returns-clause-found : goal.returns-clause-found
returns-clause-found c =
    (c.in_ok-name.ensures.found.0, head_joined c.args.bytes.now _ c.in_ok-name.rest.now c.in_ok-name.name.now _ c.in_ok-strip.ensures.found c.in_ok-name.ensures.found.1 c.in_ok-strip-2.ensures.found)
