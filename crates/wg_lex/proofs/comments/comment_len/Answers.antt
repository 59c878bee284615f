use Rattle.wg_lex.proofs.CommentEnds.{end_begin}
use Rattle.wg_lex.proofs.comments.comment_len.Goals as goal

pub loop-i-init : goal.loop-i-init
loop-i-init c = end_begin c.args.text.now
