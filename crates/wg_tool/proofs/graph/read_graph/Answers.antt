use Rattle.std.proofs.Common.{◌≡◌, length, ap, sym, ◌∙◌, arith}
use Rattle.wg_tool.specs.FirstForm.{pairs_text, names_differ, targets_are_later, IsFirstForm}
use Rattle.wg_tool.proofs.FormLemmas.{form_read, true_is_not_false}
use Rattle.std.proofs.lemmas.Bool.Decides.{nat_tests}
use Rattle.wg_tool.proofs.graph.read_graph.Goals as goal
use Rattle.wg_tool.proofs.graph.read_graph.Goals.{then-is_empty-via-then-is_empty, then-is_empty-via-else-is_empty+then-not-names_differ, then-is_empty-via-else-is_empty+else-not-names_differ+then-not-targets_are_later}

pub returns-in_default-clause-none : goal.returns-in_default-clause-none
returns-in_default-clause-none c = λ pairs form e. c.in_default.ensures.none (pairs_text pairs) e

pub returns-then-is_empty-clause-none : goal.returns-then-is_empty-clause-none
returns-then-is_empty-clause-none c = λ pairs form e.
    let f = rw c.in-Some-2.is at c.in_ok-pairs.ensures.found in
    let given : IsFirstForm c.in-Some-2.pairs.items = form_read c.args.text.now c.in-Some.bytes.now c.in-Some-2.pairs.items pairs f.0 c.in-Some.ensures.found f.2 form e in
    let items = c.in-Some-2.pairs.items in
    elim c.then-is_empty.branch [
      | then-is_empty-via-then-is_empty w ↦ let empty : length items ≡ 0 = grind (arith, nat_tests, w.if-is_empty.ensures, c.in-Some-2.pairs.ok.0) in let some = given.some in omega arith
      | then-is_empty-via-else-is_empty+then-not-names_differ w ↦ true_is_not_false (sym given.differ ∙ (ap names_differ (sym w.deref.ensures.value) ∙ sym w.if-not-names_differ.ensures))
      | then-is_empty-via-else-is_empty+else-not-names_differ+then-not-targets_are_later w ↦ true_is_not_false (sym given.later ∙ (ap targets_are_later (sym w.deref-else-not-names_differ.ensures.value) ∙ sym w.if-not-targets_are_later.ensures))
    ]
