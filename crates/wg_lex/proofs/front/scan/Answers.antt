use Rattle.std.proofs.Common.{sym, ◌∙◌, ap}
use Rattle.wg_tokens.specs.Characters.{is_blank}
use Rattle.wg_lex.proofs.FrontAnswers.{front_of_blank}
use Rattle.wg_lex.proofs.front.scan.Goals as goal

pub returns-then-is_blank : goal.returns-then-is_blank
returns-then-is_blank c = front_of_blank c.args.text.now c.requires (ap is_blank (sym c.byte-first.ensures) ∙ sym c.if-is_blank.ensures)
