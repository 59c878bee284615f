use Rattle.std.proofs.Common.{◌++◌, ◌∙◌}
use Rattle.wg_tool.specs.declared.pair.TheConstants.{OPENS, REQUESTS, ADDS}
use Rattle.wg_tool.proofs.FormLemmas.{all_regrouped, after_part, target_joined, target_named}
use Rattle.wg_tool.proofs.graph.read_target.Goals as goal

pub returns-in_err-strip-clause-none : goal.returns-in_err-strip-clause-none
returns-in_err-strip-clause-none c = rw c.from_residual.ensures (λ name more is e.
    c.in_err-strip.ensures.none (name ++ (REQUESTS.now ++ (name ++ (ADDS.now ++ more)))) (e ∙ all_regrouped OPENS.now name REQUESTS.now name ADDS.now more))

pub returns-in_err-strip-2-clause-none : goal.returns-in_err-strip-2-clause-none
returns-in_err-strip-2-clause-none c = rw c.from_residual-in_err-strip-2.ensures (λ name more is e.
    let h = target_named c.args.bytes.now _ c.in_ok-target.rest.now c.in_ok-target.target.now name more c.in_ok-strip.ensures.found c.in_ok-target.ensures.found.1 c.in_ok-target.ensures.found.0 c.in_ok-target.ensures.ends is e in
    c.in_err-strip-2.ensures.none (c.in_ok-target.target.now ++ (ADDS.now ++ more)) h.1)

pub returns-in_err-rest-clause-none : goal.returns-in_err-rest-clause-none
returns-in_err-rest-clause-none c = rw c.from_residual-in_err-rest.ensures (λ name more is e.
    let h = target_named c.args.bytes.now _ c.in_ok-target.rest.now c.in_ok-target.target.now name more c.in_ok-strip.ensures.found c.in_ok-target.ensures.found.1 c.in_ok-target.ensures.found.0 c.in_ok-target.ensures.ends is e in
    c.in_err-rest.ensures.none (ADDS.now ++ more) (after_part c.in_ok-target.rest.now REQUESTS.now _ (c.in_ok-target.target.now ++ (ADDS.now ++ more)) c.in_ok-strip-2.ensures.found h.1))

pub returns-in_err-strip-3-clause-none : goal.returns-in_err-strip-3-clause-none
returns-in_err-strip-3-clause-none c = rw c.from_residual-in_err-strip-3.ensures (λ name more is e.
    let h = target_named c.args.bytes.now _ c.in_ok-target.rest.now c.in_ok-target.target.now name more c.in_ok-strip.ensures.found c.in_ok-target.ensures.found.1 c.in_ok-target.ensures.found.0 c.in_ok-target.ensures.ends is e in
    let second = after_part c.in_ok-target.rest.now REQUESTS.now _ (c.in_ok-target.target.now ++ (ADDS.now ++ more)) c.in_ok-strip-2.ensures.found h.1 in
    c.in_err-strip-3.ensures.none more (after_part _ c.in_ok-target.target.now _ (ADDS.now ++ more) c.in_ok-rest.ensures.found second))

pub returns-clause-found : goal.returns-clause-found
returns-clause-found c =
    (c.in_ok-target.ensures.found.0, target_joined c.args.bytes.now _ c.in_ok-target.rest.now _ c.in_ok-rest.rest.now c.in_ok-target.target.now _ c.in_ok-strip.ensures.found c.in_ok-target.ensures.found.1 c.in_ok-strip-2.ensures.found c.in_ok-rest.ensures.found c.in_ok-strip-3.ensures.found)
