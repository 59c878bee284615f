use Rattle.std.proofs.Common.{◌≡◌, ◌∙◌, ◌++◌, ◌<◌, ◌^◌, ℕ, List, length, ap, subst, arith}
use Rattle.wg_machine.specs.declared.shape.Unit.{Unit}
use Rattle.wg_text.specs.Names.{found_in}
use Rattle.wg_journal.specs.Names.{index_at}
use Rattle.wg_journal.specs.Texts.{unit_label}
use Rattle.wg_journal.proofs.NameLemmas.{last_below, none_below, one_below, small_more, is_naming}
use Rattle.wg_journal.proofs.names.UnitNames.new.Goals as goal

pub overflow_cast-number : goal.overflow_cast-number
overflow_cast-number c =
    let few = c.few_units.ensures c.args.shape.now c.requires in
    let same = ap (λ (l : List Unit). length l) c.as_slice-items.ensures in
    let here = c.loop-number-test.true in
    omega arith

pub loop-number-init : goal.loop-number-init
loop-number-init c = record { named = λ text. rw c.new-by_text.ensures (none_below c.args.shape.now text); small = λ u h. absurd (omega arith) }

pub loop-number-preserved : goal.loop-number-preserved
loop-number-preserved c =
    let n = c.loop-number.number in
    let text : c.push_unit.new.line.items ≡ unit_label c.args.shape.now n = c.in_ok-push_unit.ensures.text ∙ ap (λ (t : List ℕ). t ++ unit_label c.args.shape.now n) c.new-text.ensures.items in
    record {
      named = λ t. c.in_ok-insert.ensures.ok t ∙ one_below c.args.shape.now n t c.push_unit.new.line.items (found_in c.loop-number.by_text t) text (c.loop-number.invariant.named t);
      small = small_more (index_at c.args.shape.now) n c.loop-number.invariant.small c.in_ok-push_unit.ensures.index;
    }

pub returns : goal.returns
returns c =
    let same = ap (λ (l : List Unit). length l) c.as_slice-items.ensures in
    let all : c.loop-number.number ≡ length c.args.shape.now.units = omega (arith, c.loop-number-test.false, c.loop-number.auto.number-end) in
    is_naming c.args.shape.now c.loop-number.by_text c.requires
    (subst (λ (n : ℕ). (text : List ℕ) → found_in c.loop-number.by_text text ≡ last_below c.args.shape.now n text) all c.loop-number.invariant.named)
    (subst (λ (n : ℕ). (u : ℕ) → u < n → index_at c.args.shape.now u < 2 ^ 64) all c.loop-number.invariant.small)
