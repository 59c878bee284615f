use Rattle.std.proofs.Common.{◌≡◌, Some, true, false, sym, refl, ◌∙◌}
use Rattle.std.specs.Prelude.{slice_index}
use Rattle.wg_tool.specs.Script.{pair_name_at}
use Rattle.std.proofs.lemmas.Option.{none-some}
use Rattle.wg_tool.specs.Wiring.{is_free, targets_of}
use Rattle.wg_tool.proofs.FormLemmas.{true_is_not_false}
use Rattle.wg_tool.proofs.ScriptLemmas.{entry_read, entry_found, good_name}
use Rattle.wg_tool.proofs.script.read_entry.Goals as goal

pub returns-in_default-clause-none : goal.returns-in_default-clause-none
returns-in_default-clause-none c = λ s more good e.
    (rw c.in_default.is at c.in_ok-name.ensures.none) (pair_name_at c.args.pairs.now s.unit) (slice_index s.words 0) more (good_name c.args.pairs.now s.unit c.requires.form.each good.unit) good.word e

pub returns-in_default-place_of-clause-none : goal.returns-in_default-place_of-clause-none
returns-in_default-place_of-clause-none c = λ s more good e.
    let f = rw c.in-Some.is at c.in_ok-name.ensures.found in
    let h = entry_read c.args.pairs.now c.args.bytes.now c.in-Some.name.now c.in-Some.rest.now more c.in-Some.word s c.requires.form f.0 f.1 f.2 good e in
    none-some s.unit (c.in_default-place_of.ensures ∙ h.0)

pub returns-then-not-is_free-clause-none : goal.returns-then-not-is_free-clause-none
returns-then-not-is_free-clause-none c = λ s more good e.
    let f = rw c.in-Some.is at c.in_ok-name.ensures.found in
    let h = entry_read c.args.pairs.now c.args.bytes.now c.in-Some.name.now c.in-Some.rest.now more c.in-Some.word s c.requires.form f.0 f.1 f.2 good e in
    let both : Some c.in-Some-place_of.place ≡ Some s.unit = c.in-Some-place_of.ensures ∙ h.0 in
    let place : c.in-Some-place_of.place ≡ s.unit = cc in
    let not_free : is_free (targets_of c.args.pairs.now) s.unit ≡ false = rw (← place, ← c.requires.targets) (sym c.if-not-is_free.ensures) in
    true_is_not_false (sym good.free ∙ not_free)

pub returns-clause-found : goal.returns-clause-found
returns-clause-found c =
    let f = rw c.in-Some.is at c.in_ok-name.ensures.found in
    let free : is_free (targets_of c.args.pairs.now) c.in-Some-place_of.place ≡ true = rw (← c.requires.targets) (sym c.if-not-is_free.ensures) in
    entry_found c.args.pairs.now c.args.bytes.now c.in-Some.name.now c.in-Some.rest.now _ c.in-Some.word c.in-Some-place_of.place c.in-Some-place_of.place f.2 f.1 (sym c.in-Some-place_of.ensures) refl free c.in_ok-words.ensures
