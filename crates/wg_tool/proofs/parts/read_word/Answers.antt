use Rattle.std.proofs.Common.{◌≡◌, ◌++◌, ℕ, List, ap, sym, ◌∙◌, arith}
use Rattle.std.specs.Fmt.{decimal}
use Rattle.wg_tool.specs.Parts.{value_from}
use Rattle.wg_tool.proofs.PartLemmas.{value_decimal}
use Rattle.wg_tool.proofs.parts.read_word.Goals as goal

pub returns-then-value-clause-none : goal.returns-then-value-clause-none
returns-then-value-clause-none c = λ word more few ends e.
    let value : c.value_of-value.result ≡ word = c.value_of-value.ensures ∙ (ap (λ (t : List ℕ). value_from 0 t) e ∙ value_decimal word few more ends) in
    omega arith

pub returns-in_default-clause-none : goal.returns-in_default-clause-none
returns-in_default-clause-none c = λ word more few ends e.
    let value : c.value_of-value.result ≡ word = c.value_of-value.ensures ∙ (ap (λ (t : List ℕ). value_from 0 t) e ∙ value_decimal word few more ends) in
    let text : c.as_bytes.result.now ≡ decimal word = c.as_bytes.ensures.value ∙ (c.in_ok-text.ensures.ok ∙ ap (λ (n : ℕ). decimal n) value) in
    c.in_default.ensures.none more (e ∙ ap (λ (t : List ℕ). t ++ more) (sym text))

pub returns-clause-only : goal.returns-clause-only
returns-clause-only c = λ word more few ends e.
    sym (value_decimal word few more ends) ∙ (ap (λ (t : List ℕ). value_from 0 t) (sym e) ∙ sym c.value_of-value.ensures)
