use Rattle.std.proofs.Common.{subst, sym, ◌∙◌}
use Rattle.wg_words.specs.Each.{Each}
use Rattle.wg_machine.specs.declared.shape.Shape.{Shape}
use Rattle.wg_machine.specs.GoodShape.{IsGoodShape}
use Rattle.wg_machine.specs.LaunchMeaning.{Arrives}
use Rattle.wg_tool.proofs.GoodShapes.{good_shape}
use Rattle.wg_tool.proofs.RunLemmas.{entries_arrive}
use Rattle.wg_tool.proofs.run.begin.Goals as goal

pub new-requires-clause-good : goal.new-requires-clause-good
new-requires-clause-good c = subst (λ (s : Shape). IsGoodShape s) (sym (c.in_ok-shape.ensures ∙ c.requires.is)) (good_shape c.requires.pairs c.requires.form)

pub new-requires-clause-arrive : goal.new-requires-clause-arrive
new-requires-clause-arrive c = subst (λ (s : Shape). Each (Arrives s) c.args.entries) (sym (c.in_ok-shape.ensures ∙ c.requires.is)) (entries_arrive c.requires.pairs c.args.entries c.requires.entries.each)
