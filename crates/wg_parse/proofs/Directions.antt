-- A parameter has a direction where the next token is one.
use Rattle.std.proofs.Common.{◌≡◌, Bool, true, List, [], ◌∷◌, refl, sym, subst, if◌then◌else◌, Some, None}
use Rattle.wg_tokens.specs.declared.token.Token.{Token}
use Rattle.wg_tokens.specs.declared.keyword.Keyword.TheVariants as k
use Rattle.wg_grammar.specs.Reading.{Got, Wrong, read_on, sees, take_if}
use Rattle.wg_grammar.specs.Productions.{of}
use Rattle.wg_tokens.specs.Classes.{of_word, class}
use Rattle.wg_tree.specs.GrammarItem.{directed, some_direction}
use Rattle.wg_declarations.specs.PartReads.{item_part_read}

abbrev is_direction : Token → Bool
is_direction = of class (of_word k.In ∷ of_word k.Out ∷ of_word k.InOut ∷ [])

pub with_direction : (ts : List Token) → sees is_direction ts ≡ true → item_part_read 0 some_direction ts ≡ read_on (take_if is_direction (λ t. t) ts) (λ t rest. Got (Some (directed t)) rest)
with_direction [] e = absurd (cc)
with_direction (t ∷ ts) e =
    let P : Bool → Type 0 = λ b. (if b then read_on (if b then Got (directed t) ts else Wrong (t ∷ ts)) (λ x rest. Got (Some x) rest) else Got None (t ∷ ts))
    ≡ read_on (if b then Got t ts else Wrong (t ∷ ts)) (λ t rest. Got (Some (directed t)) rest) in
    subst P (sym e) refl
