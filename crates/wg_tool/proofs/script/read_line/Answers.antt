use Rattle.std.proofs.Common.{◌≡◌, ◌++◌, ℕ, ap, refl, ◌∙◌}
use Rattle.std.specs.Fmt.{decimal}
use Rattle.wg_tool.specs.declared.script.TheConstants.{BLANK, LINE_END}
use Rattle.wg_tool.proofs.FormLemmas.{after_part}
use Rattle.wg_tool.proofs.ScriptLemmas.{line_named}
use Rattle.wg_tool.proofs.script.read_line.Goals as goal

pub returns-in_default-strip-clause-none : goal.returns-in_default-strip-clause-none
returns-in_default-strip-clause-none c = λ name word more is few e.
    let h = line_named c.args.bytes.now c.in-Some.after_entry.now c.in-Some-read_name.after_name.now c.in-Some-read_name.name.now name more word c.in-Some.ensures.found c.in-Some-read_name.ensures.found.1 c.in-Some-read_name.ensures.found.0 c.in-Some-read_name.ensures.ends is e in
    c.in_default-strip.ensures.none (decimal word ++ (LINE_END.now ++ more)) h.1

pub returns-in_default-2-clause-none : goal.returns-in_default-2-clause-none
returns-in_default-2-clause-none c = λ name word more is few e.
    let h = line_named c.args.bytes.now c.in-Some.after_entry.now c.in-Some-read_name.after_name.now c.in-Some-read_name.name.now name more word c.in-Some.ensures.found c.in-Some-read_name.ensures.found.1 c.in-Some-read_name.ensures.found.0 c.in-Some-read_name.ensures.ends is e in
    let d = after_part c.in-Some-read_name.after_name.now BLANK.now c.in-Some-strip.digits.now (decimal word ++ (LINE_END.now ++ more)) c.in-Some-strip.ensures.found h.1 in
    (rw c.in_default-2.is at c.in_ok-word.ensures.none) word (LINE_END.now ++ more) few refl d

pub returns-in_default-strip-2-clause-none : goal.returns-in_default-strip-2-clause-none
returns-in_default-strip-2-clause-none c = λ name word more is few e.
    let h = line_named c.args.bytes.now c.in-Some.after_entry.now c.in-Some-read_name.after_name.now c.in-Some-read_name.name.now name more word c.in-Some.ensures.found c.in-Some-read_name.ensures.found.1 c.in-Some-read_name.ensures.found.0 c.in-Some-read_name.ensures.ends is e in
    let d = after_part c.in-Some-read_name.after_name.now BLANK.now c.in-Some-strip.digits.now (decimal word ++ (LINE_END.now ++ more)) c.in-Some-strip.ensures.found h.1 in
    let same : word ≡ c.in-Some-2.word = (rw c.in-Some-2.is at c.in_ok-word.ensures.only) word (LINE_END.now ++ more) few refl d in
    let found : c.in-Some-strip.digits.now ≡ decimal c.in-Some-2.word ++ c.in-Some-2.end.now = rw c.in-Some-2.is at c.in_ok-word.ensures.found in
    c.in_default-strip-2.ensures.none more (after_part c.in-Some-strip.digits.now (decimal c.in-Some-2.word) c.in-Some-2.end.now (LINE_END.now ++ more) found (d ∙ ap (λ (n : ℕ). decimal n ++ (LINE_END.now ++ more)) same))
