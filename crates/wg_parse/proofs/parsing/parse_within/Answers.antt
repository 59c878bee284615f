use Rattle.std.proofs.Common.{◌≡◌, ◌∙◌, sym, ap, subst, Err}
use Rattle.wg_tree.specs.ReadsItem.{read_text}
use Rattle.wg_tree.specs.ParseFaults.{spelled, expected, too_deep, IsExpected, IsTooDeep}
use Rattle.wg_cursor.specs.IsReading.{Halts}
use Rattle.wg_parse.proofs.Answering.{told, says, all_read, some_left}
use Rattle.wg_parse.proofs.parsing.parse_within.Goals as goal

pub returns-then-left-eq0-clause-tree : goal.returns-then-left-eq0-clause-tree
returns-then-left-eq0-clause-tree c =
    let read = ap (read_text c.args.nesting) (sym c.new-cursor.ensures) ∙ c.in-Ok-text.ensures in
    all_read c.args.nesting c.args.tokens.now c.text.new.cursor c.in-Ok-text.tree (sym c.left.ensures ∙ c.if-left-eq0.true) read c.reads_what_is_spelled.ensures.only

pub returns-then-left-eq0-clause-exact : goal.returns-then-left-eq0-clause-exact
returns-then-left-eq0-clause-exact c = λ answer other.
    let read = ap (read_text c.args.nesting) (sym c.new-cursor.ensures) ∙ c.in-Ok-text.ensures in
    c.one_answer.ensures.one c.args.nesting c.args.tokens.now answer (spelled c.in-Ok-text.tree) other
    (all_read c.args.nesting c.args.tokens.now c.text.new.cursor c.in-Ok-text.tree (sym c.left.ensures ∙ c.if-left-eq0.true) read c.reads_what_is_spelled.ensures.only)

pub returns-in-Ok-text-clause-fault : goal.returns-in-Ok-text-clause-fault
returns-in-Ok-text-clause-fault c =
    let read = ap (read_text c.args.nesting) (sym c.new-cursor.ensures) ∙ c.in-Ok-text.ensures in
    let is = subst (IsExpected c.args.nesting c.args.tokens.now) (sym c.rest.ensures)
    (some_left c.args.nesting c.args.tokens.now c.text.new.cursor c.in-Ok-text.tree (λ e. c.if-left-eq0.false (c.left.ensures ∙ e)) read c.reads_to_the_fault.ensures.left) in
    (told c.args.nesting c.args.tokens.now (expected c.rest.result.now) (Err c.expected.result) (c.one_answer.ensures.one c.args.nesting c.args.tokens.now) is (says c.args.nesting c.args.tokens.now c.rest.result.now c.expected.result c.expected.ensures)).1

pub returns-in-Ok-text-clause-exact : goal.returns-in-Ok-text-clause-exact
returns-in-Ok-text-clause-exact c =
    let read = ap (read_text c.args.nesting) (sym c.new-cursor.ensures) ∙ c.in-Ok-text.ensures in
    let is = subst (IsExpected c.args.nesting c.args.tokens.now) (sym c.rest.ensures)
    (some_left c.args.nesting c.args.tokens.now c.text.new.cursor c.in-Ok-text.tree (λ e. c.if-left-eq0.false (c.left.ensures ∙ e)) read c.reads_to_the_fault.ensures.left) in
    (told c.args.nesting c.args.tokens.now (expected c.rest.result.now) (Err c.expected.result) (c.one_answer.ensures.one c.args.nesting c.args.tokens.now) is (says c.args.nesting c.args.tokens.now c.rest.result.now c.expected.result c.expected.ensures)).2

pub returns-in-Err-Wrong-clause-fault : goal.returns-in-Err-Wrong-clause-fault
returns-in-Err-Wrong-clause-fault c =
    let halted = subst (λ h. Halts (read_text c.args.nesting c.new-cursor.result) h c.text.new.cursor) c.in-Err-Wrong.field-0-is c.in-Err-Wrong.ensures in
    let read = ap (read_text c.args.nesting) (sym c.new-cursor.ensures) ∙ halted in
    let is = subst (IsExpected c.args.nesting c.args.tokens.now) (sym c.rest-in-Err-Wrong.ensures) (c.reads_to_the_fault.ensures.wrong c.args.nesting c.args.tokens.now c.text.new.cursor read) in
    (told c.args.nesting c.args.tokens.now (expected c.rest-in-Err-Wrong.result.now) (Err c.expected-in-Err-Wrong.result) (c.one_answer.ensures.one c.args.nesting c.args.tokens.now) is
    (says c.args.nesting c.args.tokens.now c.rest-in-Err-Wrong.result.now c.expected-in-Err-Wrong.result c.expected-in-Err-Wrong.ensures)).1

pub returns-in-Err-Wrong-clause-exact : goal.returns-in-Err-Wrong-clause-exact
returns-in-Err-Wrong-clause-exact c =
    let halted = subst (λ h. Halts (read_text c.args.nesting c.new-cursor.result) h c.text.new.cursor) c.in-Err-Wrong.field-0-is c.in-Err-Wrong.ensures in
    let read = ap (read_text c.args.nesting) (sym c.new-cursor.ensures) ∙ halted in
    let is = subst (IsExpected c.args.nesting c.args.tokens.now) (sym c.rest-in-Err-Wrong.ensures) (c.reads_to_the_fault.ensures.wrong c.args.nesting c.args.tokens.now c.text.new.cursor read) in
    (told c.args.nesting c.args.tokens.now (expected c.rest-in-Err-Wrong.result.now) (Err c.expected-in-Err-Wrong.result) (c.one_answer.ensures.one c.args.nesting c.args.tokens.now) is
    (says c.args.nesting c.args.tokens.now c.rest-in-Err-Wrong.result.now c.expected-in-Err-Wrong.result c.expected-in-Err-Wrong.ensures)).2

pub returns-in-Err-Deep-clause-fault : goal.returns-in-Err-Deep-clause-fault
returns-in-Err-Deep-clause-fault c =
    let halted = subst (λ h. Halts (read_text c.args.nesting c.new-cursor.result) h c.text.new.cursor) c.in-Err-Deep.field-0-is c.in-Err-Deep.ensures in
    let read = ap (read_text c.args.nesting) (sym c.new-cursor.ensures) ∙ halted in
    let is = subst (IsTooDeep c.args.nesting c.args.tokens.now) (sym c.rest-in-Err-Deep.ensures) (c.reads_to_the_fault.ensures.deep c.args.nesting c.args.tokens.now c.text.new.cursor read) in
    (c.rest-in-Err-Deep.result.now, is, c.place_at.ensures)

pub returns-in-Err-Deep-clause-exact : goal.returns-in-Err-Deep-clause-exact
returns-in-Err-Deep-clause-exact c = λ answer other.
    let halted = subst (λ h. Halts (read_text c.args.nesting c.new-cursor.result) h c.text.new.cursor) c.in-Err-Deep.field-0-is c.in-Err-Deep.ensures in
    let read = ap (read_text c.args.nesting) (sym c.new-cursor.ensures) ∙ halted in
    let is = subst (IsTooDeep c.args.nesting c.args.tokens.now) (sym c.rest-in-Err-Deep.ensures) (c.reads_to_the_fault.ensures.deep c.args.nesting c.args.tokens.now c.text.new.cursor read) in
    (c.rest-in-Err-Deep.result.now, c.one_answer.ensures.one c.args.nesting c.args.tokens.now answer (too_deep c.rest-in-Err-Deep.result.now) other is, c.place_at.ensures)
