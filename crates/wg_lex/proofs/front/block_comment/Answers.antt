use Rattle.std.proofs.Common.{sym, ◌∙◌}
use Rattle.wg_lex.proofs.FrontAnswers.{front_of_block_comment, front_of_open_comment}
use Rattle.wg_lex.proofs.front.block_comment.Goals as goal

pub returns-in-Some : goal.returns-in-Some
returns-in-Some c = front_of_block_comment c.args.text.now c.after.result.now c.in-Some.size c.requires c.after.ensures (sym c.in-Some.is ∙ c.comment_len.ensures.end)

pub returns-in-None : goal.returns-in-None
returns-in-None c = front_of_open_comment c.args.text.now c.after.result.now c.requires c.after.ensures (sym c.in-None.is ∙ c.comment_len.ensures.end)
