use Rattle.std.proofs.Common.{◌∙◌}
use Rattle.wg_text.proofs.NumberLemmas.{printed_led, printed_plain, one_digit}
use Rattle.wg_text.proofs.numbers.printed.Goals.{else-text-gt1-via-then-text-gt1+else-text-eq48, else-text-gt1-via-else-text-gt1}
use Rattle.wg_text.proofs.numbers.printed.Goals as goal

pub returns-then-text-eq48 : goal.returns-then-text-eq48
returns-then-text-eq48 c = printed_led c.args.text.now c.if-text-gt1.true c.if-text-eq48.true

pub returns : goal.returns
returns c = c.number.ensures ∙ printed_plain c.args.text.now (λ e. elim c.else-text-gt1.branch [ else-text-gt1-via-then-text-gt1+else-text-eq48 w ↦ absurd (w.if-text-eq48.false e) | else-text-gt1-via-else-text-gt1 w ↦ one_digit c.args.text.now w.if-text-gt1.false e ])
