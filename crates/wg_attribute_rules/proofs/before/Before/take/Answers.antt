use Rattle.std.proofs.Common.{ap, ◌∙◌}
use Rattle.std.specs.Prelude.{is_some}
use Rattle.wg_attribute_rules.proofs.Kept.{clashed, kept}
use Rattle.wg_attribute_rules.proofs.before.Before.take.Goals as goal

pub returns-clause-clashes : goal.returns-clause-clashes
returns-clause-clashes c =
    clashed c.args.a.now c.args.name c.args.self.now c.is_some.result c.has_rival.result c.as_slice.result.now
    (c.as_slice.ensures.value ∙ c.in_ok-small.ensures)
    (c.is_some.ensures ∙ ap is_some c.get.ensures)
    c.has_rival.ensures
    (λ position before. c.what_stood_before_says.ensures.twice position c.args.a.now before)

pub returns-clause-keeps : goal.returns-clause-keeps
returns-clause-keeps c =
    kept c.args.a.now c.args.name c.args.self.now (record { names = c.insert.new.self; stood = c.and-self.result }) c.in_ok-small.small.items
    c.in_ok-small.ensures c.in_ok-insert.ensures.ok c.and-self.ensures
