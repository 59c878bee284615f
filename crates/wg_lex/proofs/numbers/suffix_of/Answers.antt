use Rattle.std.proofs.Common.{refl, ◌∙◌, ap}
use Rattle.wg_tokens.specs.Spelling.{is_unsigned_letter, is_long_letter}
use Rattle.wg_lex.proofs.Suffixes.{by_tests, longest_suffix}
use Rattle.wg_lex.proofs.numbers.suffix_of.Goals as goal

pub returns : goal.returns
returns c = longest_suffix c.args.text.now _
    (by_tests (c.is_unsigned_letter.ensures ∙ ap is_unsigned_letter c.byte-first.ensures) (c.is_long_letter.ensures ∙ ap is_long_letter c.byte-first.ensures) (c.is_unsigned_letter-2.ensures ∙ ap is_unsigned_letter c.byte-second.ensures))
    (by_tests (c.is_long_letter-2.ensures ∙ ap is_long_letter c.byte-first.ensures) (c.is_unsigned_letter-3.ensures ∙ ap is_unsigned_letter c.byte-first.ensures) (c.is_long_letter-3.ensures ∙ ap is_long_letter c.byte-second.ensures))
    (rw (c.from.ensures, c.from-2.ensures) refl)
