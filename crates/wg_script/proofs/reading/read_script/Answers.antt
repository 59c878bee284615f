use Rattle.std.proofs.Common.{◌≡◌, ◌∙◌, [], ℕ, List, None, Result, Err, length, replicate, sym, ap, subst, ⊎_elim, arith}
use Rattle.std.specs.Result.{IsErr, IsErrAnd}
use Rattle.wg_script.specs.declared.script.Script.{Script}
use Rattle.wg_script.specs.declared.script.ScriptFault.{ScriptFault}
use Rattle.wg_script.specs.declared.script.ScriptFault.TheVariants as faults
use Rattle.wg_script.specs.Fit.{IsFit}
use Rattle.wg_script.specs.Lines.{all_said}
use Rattle.wg_script.specs.Reading.{Sofar}
use Rattle.wg_script.specs.Rules.{IsFirstFault}
use Rattle.wg_script.specs.Script.{IsScript}
use Rattle.wg_script.specs.Words.{lines_of}
use Rattle.wg_script.proofs.RunLemmas.{Goes, lines_some, title_fault, goes_first, goes_few, goes_on, goes_wrong, goes_end, not_good}
use Rattle.wg_script.proofs.FitLemmas.{is_fit}
use Rattle.wg_script.proofs.GivenLemmas.{is_script}
use Rattle.wg_script.proofs.reading.read_script.Goals as goal

abbrev failed : ScriptFault → Result Script ScriptFault
failed f = Err f

fault_is : {f g : ScriptFault} → failed f ≡ failed g → f ≡ g
fault_is e = cc

-- what holds of an error
err_and : (P : ScriptFault → Type 0) (r : Result Script ScriptFault) (f : ScriptFault) → r ≡ Err f → IsErr r × IsErrAnd r P → P f
err_and P r f e h = subst (λ (s : Result Script ScriptFault). IsErrAnd s P) e h.1

pub returns-in_default-clause-fault : goal.returns-in_default-clause-fault
returns-in_default-clause-fault c = λ fault e ne. absurd (lines_some c.args.text.now (sym c.new-lines.ensures ∙ c.in_default.ensures.0))

pub returns-in_default-title-clause-fault : goal.returns-in_default-title-clause-fault
returns-in_default-title-clause-fault c = λ fault e ne.
    (subst (IsFirstFault c.args.shape.now c.args.text.now) (fault_is e)
    (title_fault c.args.shape.now c.args.text.now c.in-Some.first.now c.next.new.self (sym c.new-lines.ensures ∙ c.in-Some.ensures) (sym c.in_default-title.ensures)))

pub loop-line-init : goal.loop-line-init
loop-line-init c =
    let first = goes_first c.args.shape.now c.args.text.now c.in-Some.first.now c.in-Some-title.version c.next.new.self (sym c.new-lines.ensures ∙ c.in-Some.ensures) (sym c.in-Some-title.ensures) in
    let draft = c.in_ok-draft.ensures ∙ ap (λ (n : ℕ). record { entries = []; given = replicate n None; asked = 0 }) c.len.ensures in
    subst (λ (s : Sofar). Goes c.args.shape.now c.args.text.now c.in-Some-title.version s c.next.new.self 1) (sym draft) first

pub overflow_add-number : goal.overflow_add-number
overflow_add-number c =
    let few = goes_few c.args.shape.now c.args.text.now c.in-Some-title.version c.loop-line.draft c.loop-line.lines c.loop-line.number c.loop-line.invariant in
    let line = ap (λ (l : List (List ℕ)). length l) c.in-Some-next.ensures in
    omega arith

pub loop-line-preserved : goal.loop-line-preserved
loop-line-preserved c =
    goes_on c.args.shape.now c.args.text.now c.in-Some-title.version c.loop-line.draft c.add_line.new.draft c.in-Some-next.line.now c.next-in-loop-line.new.self c.loop-line.number
    (subst (λ (l : List (List ℕ)). Goes c.args.shape.now c.args.text.now c.in-Some-title.version c.loop-line.draft l c.loop-line.number) c.in-Some-next.ensures c.loop-line.invariant) c.in_ok-add_line.ensures

pub returns-in_err-add_line-clause-fault : goal.returns-in_err-add_line-clause-fault
returns-in_err-add_line-clause-fault c = λ fault e ne.
    (let own = c.in_err-add_line.field-0.0 in
    let same : own ≡ fault = sym (err_and _ _ fault e c.from_residual-in_err-add_line.ensures) in
    ⊎_elim
    (λ memory. absurd (ne (sym same ∙ memory)))
    (λ wrong.
    (subst (IsFirstFault c.args.shape.now c.args.text.now) same
    (goes_wrong c.args.shape.now c.args.text.now c.in-Some-title.version c.loop-line.draft c.in-Some-next.line.now c.next-in-loop-line.new.self c.loop-line.number own
    (subst (λ (l : List (List ℕ)). Goes c.args.shape.now c.args.text.now c.in-Some-title.version c.loop-line.draft l c.loop-line.number) c.in-Some-next.ensures c.loop-line.invariant) wrong)))
    c.in_err-add_line.ensures)

pub returns-clause-good : goal.returns-clause-good
returns-clause-good c =
    (goes_end c.args.shape.now c.args.text.now c.in-Some-title.version c.loop-line.draft c.loop-line.number
    (subst (λ (l : List (List ℕ)). Goes c.args.shape.now c.args.text.now c.in-Some-title.version c.loop-line.draft l c.loop-line.number) c.in_default-next.ensures.0 c.loop-line.invariant)).good

pub returns-clause-script : goal.returns-clause-script
returns-clause-script c =
    let end = goes_end c.args.shape.now c.args.text.now c.in-Some-title.version c.loop-line.draft c.loop-line.number
    (subst (λ (l : List (List ℕ)). Goes c.args.shape.now c.args.text.now c.in-Some-title.version c.loop-line.draft l c.loop-line.number) c.in_default-next.ensures.0 c.loop-line.invariant) in
    subst (IsScript c.args.shape.now (all_said (lines_of c.args.text.now))) (sym c.in_ok-finish.ensures) (is_script c.args.shape.now c.loop-line.draft (all_said (lines_of c.args.text.now)) end.stands)

pub returns-clause-fit : goal.returns-clause-fit
returns-clause-fit c = subst (IsFit c.args.shape.now) (sym c.in_ok-finish.ensures) (is_fit c.args.shape.now c.loop-line.draft c.loop-line.invariant.holds)

pub returns-in_default-clause-only : goal.returns-in_default-clause-only
returns-in_default-clause-only c = λ good fault e. absurd (lines_some c.args.text.now (sym c.new-lines.ensures ∙ c.in_default.ensures.0))

pub returns-in_default-title-clause-only : goal.returns-in_default-title-clause-only
returns-in_default-title-clause-only c = λ good fault e.
    (absurd (not_good c.args.shape.now c.args.text.now (faults.Form 1)
    (title_fault c.args.shape.now c.args.text.now c.in-Some.first.now c.next.new.self (sym c.new-lines.ensures ∙ c.in-Some.ensures) (sym c.in_default-title.ensures)) good))

pub returns-in_err-add_line-clause-only : goal.returns-in_err-add_line-clause-only
returns-in_err-add_line-clause-only c = λ good fault e.
    (let own = c.in_err-add_line.field-0.0 in
    let same : own ≡ fault = sym (err_and _ _ fault e c.from_residual-in_err-add_line.ensures) in
    ⊎_elim
    (λ memory. sym same ∙ memory)
    (λ wrong.
    (absurd (not_good c.args.shape.now c.args.text.now own
    (goes_wrong c.args.shape.now c.args.text.now c.in-Some-title.version c.loop-line.draft c.in-Some-next.line.now c.next-in-loop-line.new.self c.loop-line.number own
    (subst (λ (l : List (List ℕ)). Goes c.args.shape.now c.args.text.now c.in-Some-title.version c.loop-line.draft l c.loop-line.number) c.in-Some-next.ensures c.loop-line.invariant) wrong) good)))
    c.in_err-add_line.ensures)
