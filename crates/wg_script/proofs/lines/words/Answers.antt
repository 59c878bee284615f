use Rattle.std.proofs.Common.{◌∙◌, ◌++◌, ℕ, List, ap, sym}
use Rattle.std.specs.Option.{option_map}
use Rattle.wg_script.specs.Lines.{all_words}
use Rattle.wg_script.specs.Numbers.{words_by}
use Rattle.wg_script.proofs.WordLemmas.{more_words, no_words}
use Rattle.wg_script.proofs.lines.words.Goals as goal

pub loop-field-preserved : goal.loop-field-preserved
loop-field-preserved c =
    more_words c.loop-field.words c.add_words.new.words (words_by c.args.version c.in-Some.field.now) (all_words c.args.version c.next.new.self) c.in_ok-add_words.ensures
    ∙ (ap (λ (l : List (List ℕ)). option_map (λ (ws : List ℕ). c.loop-field.words ++ ws) (all_words c.args.version l)) (sym c.in-Some.ensures)
    ∙ c.loop-field.invariant)

pub returns-in_err-add_words : goal.returns-in_err-add_words
returns-in_err-add_words c =
    no_words c.in_err-add_words.field-0.0 c.from_residual.result c.add_words.new.words c.loop-field.words (words_by c.args.version c.in-Some.field.now) (all_words c.args.version c.next.new.self) (all_words c.args.version c.args.fields.now) c.in_err-add_words.ensures
    (ap (λ (l : List (List ℕ)). option_map (λ (ws : List ℕ). c.loop-field.words ++ ws) (all_words c.args.version l)) (sym c.in-Some.ensures)
    ∙ c.loop-field.invariant)
    c.from_residual.ensures
