use Rattle.std.proofs.Common.{List, ℕ, sym, ◌∙◌, subst}
use Rattle.wg_tokens.specs.declared.token.TokenKind.TheVariants.{Plain}
use Rattle.wg_lex.specs.declared.front.Front.TheVariants.{Token}
use Rattle.wg_lex.specs.Fronts.{IsFront}
use Rattle.wg_lex.proofs.FrontAnswers.{front_of_name}
use Rattle.wg_lex.proofs.front.name.Goals as goal

pub returns : goal.returns
returns c = subst (λ (name : List ℕ). IsFront c.args.text.now (Token (Plain name) c.word_len-size.result)) (sym (c.in_ok-name.ensures ∙ c.before-2.ensures))
    (front_of_name c.args.text.now c.word_len-size.result c.word_len-size.ensures.count c.requires.blank c.requires.letter)
