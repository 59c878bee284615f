use Rattle.std.proofs.Common.{ap, subst, take, ◌∙◌}
use Rattle.std.proofs.Math.Seq.{take-length}
use Rattle.wg_semantics.specs.ExprMeaning.{seen, word_of}
use Rattle.wg_semantics.specs.FunctionMeaning.{callees_of}
use Rattle.wg_values.specs.Pieces.{setting_of}
use Rattle.wg_evaluation.specs.Says.{Says}
use Rattle.wg_meaning.proofs.depth.test.Goals as goal

pub returns : goal.returns
returns c =
    let setting = setting_of c.args.setting.now in
    let earlier = c.args.setting.now.earlier.now in
    subst (λ functions. Says (word_of setting (seen setting (callees_of setting functions) c.args.e.now) c.args.run.now.state c.args.run.now.turns) c.word.result c.word.new.run.state c.word.new.run.turns)
    (ap (λ n. take n earlier) c.in_ok-depth.ensures ∙ take-length earlier)
    c.word.ensures.says
