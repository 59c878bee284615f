use Rattle.wg_lex.proofs.FrontAnswers.{front_of_mark, front_of_stray}
use Rattle.wg_lex.proofs.front.mark.Goals as goal

pub returns-in-Some : goal.returns-in-Some
returns-in-Some c = front_of_mark c.args.text.now c.in-Some.mark c.in-Some.size c.requires.other c.in-Some.ensures.some

pub returns-in-None : goal.returns-in-None
returns-in-None c = front_of_stray c.args.text.now c.requires.some c.requires.other c.in-None.ensures.none
