use Rattle.std.proofs.Common.{◌++◌, ◌∙◌, append_assoc}
use Rattle.wg_tool.specs.FirstForm.{head_text, sends_text}
use Rattle.wg_tool.proofs.FormLemmas.{pair_after, no_pair, sender_found}
use Rattle.wg_tool.proofs.graph.read_pair.Goals as goal

pub returns-in_default-clause-none : goal.returns-in_default-clause-none
returns-in_default-clause-none c = λ p more good e.
    c.in_default.ensures.none p.name (sends_text p.sends ++ more) good.name (e ∙ append_assoc (head_text p.name) (sends_text p.sends) more)

pub returns-in_default-2-clause-none : goal.returns-in_default-2-clause-none
returns-in_default-2-clause-none c = λ p more good e.
    let h = pair_after c.args.bytes.now c.in-Some.rest.now c.in-Some.name.now more p c.in-Some.ensures.found.0 c.in-Some.ensures.found.1 good e in
    no_pair c.in-Some.rest.now more p.sends good.sends c.in_default-strip.ensures.none (rw c.in_default-2.is at c.in_ok-target.ensures.none) h.1

pub returns-clause-found : goal.returns-clause-found
returns-clause-found c =
    let h = rw c.in-Some-2.is at c.in_ok-target.ensures.found in
    sender_found c.args.bytes.now c.in-Some.rest.now c.in-Some.name.now c.in-Some-2.target.now c.in-Some-2.rest.now _ _ c.in-Some-2.add c.in-Some.ensures.found.1 h.2 c.in-Some.ensures.found.0 h.0 h.1 c.in_ok-name.ensures c.in_ok-target-2.ensures
