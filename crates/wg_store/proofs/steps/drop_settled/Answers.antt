use Rattle.std.proofs.Common.{rules}
use Rattle.std.proofs.lemmas.List.Elements.{filter_from_retain}
use Rattle.wg_store.specs.Items.{has_left}
use Rattle.wg_store.proofs.steps.drop_settled.Goals as goal

pub returns : goal.returns
returns c = filter_from_retain _ has_left (λ p x b q r. search rules) _ c.args.items.now.items c.retain.new.self.items c.retain.ensures.filtered
