use Rattle.std.proofs.Common.{◌≢◌, ◌++◌, [], ℕ, List, ap, sym, ◌∙◌, arith, rules, append_assoc}
use Rattle.std.proofs.lemmas.List.{length_push}
use Rattle.wg_tool.specs.Script.{line_of, entry_lines, IsFormEntry}
use Rattle.wg_tool.specs.declared.script.TheConstants.{SCRIPT_LINE}
use Rattle.wg_tool.proofs.FormLemmas.{each_push}
use Rattle.wg_tool.proofs.ScriptLemmas.{entry_lines_push, entries_left, first_entry}
use Rattle.wg_tool.proofs.script.read_script.Goals as goal

pub returns-in_default-2-clause-none : goal.returns-in_default-2-clause-none
returns-in_default-2-clause-none c = λ entries good e.
    let h = c.loop-rest.invariant.only entries good.each e in
    let some : c.loop-rest.rest.now ≢ [] = search rules in
    let first = first_entry c.args.pairs.now c.loop-rest.rest.now h.0 some h.2 h.3 in
    (rw c.in_default-2.is at c.in_ok-entry.ensures.none) first.0 first.1 first.2 first.3

pub loop-rest-preserved : goal.loop-rest-preserved
loop-rest-preserved c =
    let pairs = c.args.pairs.now in
    let rest = c.loop-rest.rest.now in
    let k = c.loop-rest.invariant in
    let entries = c.loop-rest.entries.items in
    let entry = c.in-Some-2.entry in
    let some : rest ≢ [] = search rules in
    let f = rw c.in-Some-2.is at c.in_ok-entry.ensures.found in
    record {
      so_far = rw (c.in_ok-push.ensures.items, entry_lines_push) (k.so_far ∙ ap (λ (t : List ℕ). SCRIPT_LINE.now ++ t) (ap (λ (t : List ℕ). entry_lines pairs entries ++ t) f.1 ∙ sym (append_assoc (entry_lines pairs entries) (line_of pairs entry) c.in-Some-2.after.now)));
      good = rw c.in_ok-push.ensures.items (each_push (IsFormEntry pairs) entries entry k.good f.0);
      few = rw c.in_ok-push.ensures.items (omega (arith, length_push entries entry, c.len.ensures, c.loop-rest.entries.ok.0, c.if-len-eq-MOST_ENTRIES.false, k.few));
      only = λ es good e.
          let h = k.only es good e in
          rw c.in_ok-push.ensures.items (entries_left pairs rest c.in-Some-2.after.now entries es entry c.requires.form f.0 some f.1 h.0 h.1 h.2 h.3);
    }
