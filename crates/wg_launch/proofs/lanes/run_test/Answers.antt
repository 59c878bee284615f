use Rattle.std.proofs.Common.{subst}
use Rattle.wg_semantics.specs.Places.{Setting}
use Rattle.wg_semantics.specs.ExprMeaning.{seen, word_of}
use Rattle.wg_semantics.specs.FunctionMeaning.{callees_of}
use Rattle.wg_evaluation.specs.Says.{Says}
use Rattle.wg_values.specs.Pieces.{setting_of}
use Rattle.wg_launch.proofs.lanes.run_test.Goals as goal

pub returns : goal.returns
returns c =
    let e = c.args.e.now in
    let run = c.args.run.now in
    let own = setting_of c.setting_at.result in
    subst (λ (s : Setting). Says (word_of s (seen s (callees_of s c.args.entry.now.text.now.functions) e) run.state run.turns) c.test.result c.test.new.run.state c.test.new.run.turns)
    c.setting_at.ensures.setting
    (subst (λ f. Says (word_of own (seen own (callees_of own f) e) run.state run.turns) c.test.result c.test.new.run.state c.test.new.run.turns)
    c.setting_at.ensures.earlier c.test.ensures)
