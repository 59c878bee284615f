use Rattle.wg_lex.proofs.CutTexts.{exact}
use Rattle.wg_lex.proofs.text.lex.Goals as goal

pub returns-clause-exact : goal.returns-clause-exact
returns-clause-exact c = exact c.args.text.now c.cut.result c.cut.ensures.fault
