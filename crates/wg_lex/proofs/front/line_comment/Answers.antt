use Rattle.wg_lex.proofs.FrontAnswers.{front_of_line_comment}
use Rattle.wg_lex.proofs.front.line_comment.Goals as goal

pub returns : goal.returns
returns c = front_of_line_comment c.args.text.now c.after.result.now c.line_len.result c.requires c.after.ensures c.line_len.ensures.count
