use Rattle.std.proofs.Common.{List, ℕ, ◌+◌, ◌≡◌, get_or, sym, ◌∙◌, subst, rules}
use Rattle.wg_tokens.specs.declared.token.TokenKind.TheVariants.{Text}
use Rattle.wg_lex.specs.declared.front.Front.TheVariants.{Token}
use Rattle.wg_lex.specs.Fronts.{IsFront}
use Rattle.wg_lex.proofs.FrontAnswers.{front_of_text, front_of_open_text}
use Rattle.wg_lex.proofs.front.string.Goals as goal

pub returns-then-byte-ne34 : goal.returns-then-byte-ne34
returns-then-byte-ne34 c = front_of_open_text c.args.text.now c.after-inside.result.now c.string_len-count.result c.requires.some c.requires.quote c.after-inside.ensures c.string_len-count.ensures.count (search rules)

pub returns : goal.returns
returns c =
    let quote : get_or c.after-inside.result.now c.string_len-count.result 0 ≡ 34 = sym c.byte.ensures ∙ search rules in
    subst (λ (bytes : List ℕ). IsFront c.args.text.now (Token (Text bytes) (c.string_len-count.result + 2))) (sym (c.in_ok-bytes.ensures ∙ c.before-2.ensures))
    (front_of_text c.args.text.now c.after-inside.result.now c.string_len-count.result c.requires.quote c.after-inside.ensures c.string_len-count.ensures.count quote)
