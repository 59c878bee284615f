use Rattle.std.proofs.Common.{◌≡◌, List, ℕ, length, ap, sym, ◌∙◌}
use Rattle.wg_machine.specs.declared.shape.Shape.{Shape}
use Rattle.wg_standing.specs.Core.{CoreView}
use Rattle.wg_driver.proofs.Begun.{started_count}
use Rattle.wg_driver.proofs.answer.core_of.Goals as goal

pub begin-requires-clause-many : goal.begin-requires-clause-many
begin-requires-clause-many g c =
    let shape : c.in_ok-keep.keep.shape ≡ c.in_ok-shape.shape = ap (λ (v : CoreView). v.shape) c.in_ok-keep.ensures.begun in
    let given = shape ∙ (c.in_ok-shape.ensures ∙ c.shape.ensures) in
    let lengths = ap (λ (w : List ℕ). length w) c.as_slice.ensures in
    let starts = ap (λ (w : List (List ℕ)). length w) c.as_slice-2.ensures in
    let count = started_count c.as_slice.result.now c.as_slice-2.result.now (starts ∙ (c.requires.starts ∙ (sym c.requires.lengths ∙ sym lengths))) in
    ap (λ (b : List (List ℕ)). length b) c.in_ok-buffers.ensures ∙ (count ∙ (lengths ∙ (c.requires.lengths ∙ ap (λ (s : Shape). length s.buffers) (sym given))))
