use Rattle.std.proofs.Common.{◌∙◌, subst, sym}
use Rattle.wg_code.specs.declared.code.RawCode.{RawCode}
use Rattle.wg_code.specs.Valid.{valid as is_valid_code}
use Rattle.wg_machine.specs.GoodShape.{IsGoodShape}
use Rattle.wg_outcomes.proofs.Checked.{is_raw}
use Rattle.wg_outcomes.proofs.answer.guessed.Goals as goal

pub guess-requires-clause-good : goal.guess-requires-clause-good
guess-requires-clause-good c =
    let same = is_raw (is_valid_code c.args.raw) c.args.raw c.in-Some.code (sym c.in-Some.is ∙ c.validate.ensures) in
    subst (λ (k : RawCode). IsGoodShape k.shape) (sym (c.new-bodies.ensures ∙ same)) c.requires.good
