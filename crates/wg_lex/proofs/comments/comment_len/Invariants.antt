use Rattle.std.proofs.Common.{◌≡◌, ◌+◌, drop, false}
use Rattle.std.specs.Option.{option_map}
use Rattle.wg_lex.specs.Scanning.{comment_end}
use Rattle.wg_lex.proofs.comments.comment_len.Given as goal

abbrev pub invariant-loop-i : goal.invariant-loop-i
invariant-loop-i l = option_map (λ k. k + l.i) (comment_end l.after_star (drop l.i l.text)) ≡ comment_end false l.text
