use Rattle.std.proofs.Common.{sym, ◌∙◌}
use Rattle.wg_tool.proofs.PartLemmas.{name_found}
use Rattle.wg_tool.proofs.parts.read_name.Goals as goal

pub returns-clause-found : goal.returns-clause-found
returns-clause-found c =
    let h = name_found c.args.bytes.now c.in_ok-first.rest.now c.split_at.result.0.now c.split_at.result.1.now c.in_ok-first.first.now c.lower_letters-letters.result c.in_ok-first.ensures.cases.0 (sym c.is_ascii_uppercase.ensures.value ∙ c.if-not-is_ascii_uppercase.false) c.lower_letters-letters.ensures.is c.if-letters-eq0.false c.split_at.ensures.front c.split_at.ensures.back in
    (h.0, h.1)

pub returns-clause-ends : goal.returns-clause-ends
returns-clause-ends c =
    let h = name_found c.args.bytes.now c.in_ok-first.rest.now c.split_at.result.0.now c.split_at.result.1.now c.in_ok-first.first.now c.lower_letters-letters.result c.in_ok-first.ensures.cases.0 (sym c.is_ascii_uppercase.ensures.value ∙ c.if-not-is_ascii_uppercase.false) c.lower_letters-letters.ensures.is c.if-letters-eq0.false c.split_at.ensures.front c.split_at.ensures.back in
    h.2
