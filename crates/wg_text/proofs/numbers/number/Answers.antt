use Rattle.std.proofs.Common.{◌≡◌, ◌∙◌, List, ℕ, Some, None, Result, Ok, Err, sym, ap, Bor}
use Rattle.std.specs.Result.{MatchResult, result_ok}
use Rattle.std.specs.Str.{IsUtf8}
use Rattle.wg_text.proofs.NumberLemmas.{not_text, parsed_is}
use Rattle.wg_text.proofs.numbers.number.Goals as goal

no_text : {E : Type 0} (R : E → Type 0) (text : List ℕ) (r : Result (Bor (List ℕ)) E) → result_ok r ≡ None → MatchResult r (λ s. (s.now ≡ text) × IsUtf8 text) (λ e. ¬ (IsUtf8 text) × R e) → ¬ (IsUtf8 text)
no_text R text (Ok s) e h = absurd cc
no_text R text (Err x) e h = h.0

same_text : {E : Type 0} (R : E → Type 0) (text : List ℕ) (r : Result (Bor (List ℕ)) E) (s : Bor (List ℕ)) → result_ok r ≡ Some s → MatchResult r (λ s. (s.now ≡ text) × IsUtf8 text) (λ e. ¬ (IsUtf8 text) × R e) → s.now ≡ text
same_text R text (Ok t) s e h = ap (λ (b : Bor (List ℕ)). b.now) (some_is s t (sym e)) ∙ h.0
  where
    some_is : (x y : Bor (List ℕ)) → Some x ≡ Some y → x ≡ y
    some_is x y e = cc
same_text R text (Err x) s e h = absurd cc

pub returns-in_err-text : goal.returns-in_err-text
returns-in_err-text c = c.from_residual.ensures ∙ not_text c.args.base c.args.text.now c.requires.high (no_text _ c.args.text.now c.from_utf8.result (sym c.ok.ensures.value ∙ c.in_err-text.was) c.from_utf8.ensures.cases)

pub returns : goal.returns
returns c =
    c.ok-2.ensures.value
    ∙ parsed_is c.args.base c.args.text.now c.in_ok-text.text.now c.from_str_radix.result (sym c.starts_with.ensures.value ∙ c.if-starts_with.false)
    (same_text _ c.args.text.now c.from_utf8.result c.in_ok-text.text (sym c.ok.ensures.value ∙ c.in_ok-text.was) c.from_utf8.ensures.cases) c.from_str_radix.ensures.value
