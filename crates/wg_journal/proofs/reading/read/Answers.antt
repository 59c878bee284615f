use Rattle.std.proofs.Common.{◌≡◌, ◌≢◌, ◌∙◌, ◌++◌, ℕ, true, false, List, [], ◌∷◌, None, Some, Result, Err, length, arith, ap, refl}
use Rattle.std.specs.Prelude.{◌==◌}
use Rattle.std.proofs.lemmas.Bool.Decides.{nat_tests}
use Rattle.std.proofs.lemmas.List.{append-nil}
use Rattle.wg_machine.specs.declared.journal.Journal.{Journal}
use Rattle.wg_journal.specs.declared.fault.JournalFault.{JournalFault}
use Rattle.wg_journal.specs.declared.fault.JournalFault.TheVariants as faults
use Rattle.wg_journal.specs.Names.{unit_in}
use Rattle.wg_journal.specs.Reading.{step}
use Rattle.wg_journal.specs.Report.{lines_in}
use Rattle.wg_journal.specs.Texts.{report_text}
use Rattle.wg_journal.proofs.RunLemmas.{goes_first, goes_on, only_one, no_report, bad_line}
use Rattle.wg_journal.proofs.reading.read.Goals as goal

is_some : (rest : List ℕ) → false ≡ (length rest == 0) → rest ≢ []
is_some [] e = absurd cc
is_some (c ∷ rest) e = λ h. cc

is_none : (rest : List ℕ) → true ≡ (length rest == 0) → rest ≡ []
is_none [] e = refl
is_none (c ∷ rest) e = absurd (grind (arith, nat_tests))

abbrev failed : ℕ → Result Journal JournalFault
failed n = Err (faults.Line n)

line_is : {m n : ℕ} → failed m ≡ failed n → m ≡ n
line_is e = cc

pub loop-rest-init : goal.loop-rest-init
loop-rest-init c = rw (c.new-2.ensures, c.new-3.ensures) (goes_first c.args.shape.now (unit_in c.in_ok-names.names) c.args.text.now)

pub returns-in-Err-Form-clause-only : goal.returns-in-Err-Form-clause-only
returns-in-Err-Form-clause-only c =
    let g = c.loop-rest.invariant in
    let some : c.loop-rest.rest.now ≢ [] = is_some c.loop-rest.rest.now c.loop-rest-test.ensures in
    let none : step (unit_in c.in_ok-names.names) c.loop-rest.journal c.loop-rest.rest.now ≡ None = rw c.in-Err-Form.field-0-is at c.in-Err-Form.ensures in
    no_report c.args.shape.now c.requires (unit_in c.in_ok-names.names) c.in_ok-names.ensures c.args.text.now (lines_in c.loop-rest.journal) c.loop-rest.journal c.loop-rest.rest.now g.read some none

pub returns-in-Err-Form-clause-line : goal.returns-in-Err-Form-clause-line
returns-in-Err-Form-clause-line c = λ number e.
    (let g = c.loop-rest.invariant in
    let some : c.loop-rest.rest.now ≢ [] = is_some c.loop-rest.rest.now c.loop-rest-test.ensures in
    let none : step (unit_in c.in_ok-names.names) c.loop-rest.journal c.loop-rest.rest.now ≡ None = rw c.in-Err-Form.field-0-is at c.in-Err-Form.ensures in
    let same : c.loop-rest.number ≡ number = line_is e in
    bad_line c.args.shape.now c.requires (unit_in c.in_ok-names.names) c.in_ok-names.ensures c.args.text.now c.loop-rest.journal c.loop-rest.rest.now number g.read g.report g.begins some none (g.lines ∙ same))

pub loop-rest-preserved : goal.loop-rest-preserved
loop-rest-preserved c =
    (goes_on c.args.shape.now (unit_in c.in_ok-names.names) c.in_ok-names.ensures c.args.text.now c.loop-rest.journal c.loop-rest.rest.now c.loop-rest.number c.read_line.new.journal c.in-Ok.after.now (omega arith) c.loop-rest.invariant c.in-Ok.ensures).0

pub loop-rest-smaller : goal.loop-rest-smaller
loop-rest-smaller c =
    (goes_on c.args.shape.now (unit_in c.in_ok-names.names) c.in_ok-names.ensures c.args.text.now c.loop-rest.journal c.loop-rest.rest.now c.loop-rest.number c.read_line.new.journal c.in-Ok.after.now (omega arith) c.loop-rest.invariant c.in-Ok.ensures).1

pub returns-clause-only : goal.returns-clause-only
returns-clause-only c = λ j report e.
    (let g = c.loop-rest.invariant in
    let none = is_none c.loop-rest.rest.now c.loop-rest-test.ensures in
    let read = g.read ∙ ap (λ (r : List ℕ). Some (c.loop-rest.journal, r)) none in
    only_one c.args.shape.now c.requires (unit_in c.in_ok-names.names) c.in_ok-names.ensures c.args.text.now (lines_in c.loop-rest.journal) c.loop-rest.journal j read report e)

pub returns-clause-found : goal.returns-clause-found
returns-clause-found c =
    let g = c.loop-rest.invariant in
    let none = is_none c.loop-rest.rest.now c.loop-rest-test.ensures in
    (g.report, g.begins ∙ (ap (λ (r : List ℕ). report_text c.args.shape.now c.loop-rest.journal ++ r) none ∙ append-nil (report_text c.args.shape.now c.loop-rest.journal)))
