use Rattle.std.proofs.Common.{rules}
use Rattle.wg_lex.proofs.FrontAnswers.{front_of_number, front_of_wide}
use Rattle.wg_lex.proofs.front.number.Goals as goal

pub returns-in-Some : goal.returns-in-Some
returns-in-Some c = front_of_number c.args.text.now c.scan_number-numeral.result c.in-Some.value c.requires (search rules) c.in-Some.is c.scan_number-numeral.ensures

pub returns-in-None : goal.returns-in-None
returns-in-None c = front_of_wide c.args.text.now c.scan_number-numeral.result c.in-None.is c.scan_number-numeral.ensures
