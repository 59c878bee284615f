use Rattle.std.proofs.Common.{◌≡◌, ℕ, List, Option, length, ap, subst, sym, arith, ◌∙◌}
use Rattle.wg_machine.specs.declared.shape.Shape.{Shape}
use Rattle.wg_tool.specs.SenderLaws.{IsWired}
use Rattle.wg_tool.specs.Wiring.{shape_of, targets_of}
use Rattle.wg_tool.proofs.GoodShapes.{graph_wired, length_targets}
use Rattle.wg_tool.proofs.senders.senders_of.Goals as goal

pub shape_of-requires-clause-few : goal.shape_of-requires-clause-few
shape_of-requires-clause-few c =
    let few = c.requires.form.few in
    let same : length c.as_slice.result.now ≡ length c.args.pairs.now = ap (λ (l : List (Option ℕ)). length l) (c.as_slice.ensures ∙ c.requires.targets) ∙ length_targets 0 c.args.pairs.now in
    omega arith

pub invariant_of-result : goal.invariant_of-result
invariant_of-result c =
    let pairs = c.args.pairs.now in
    let targets : c.in_ok-targets.targets ≡ targets_of pairs = c.in_ok-targets.ensures ∙ (c.as_slice-2.ensures ∙ c.requires.targets) in
    record { wired = subst (λ (s : Shape). IsWired s c.in_ok-targets.targets) (sym c.in_ok-shape.ensures) (subst (λ (l : List (Option ℕ)). IsWired (shape_of pairs) l) (sym targets) (graph_wired pairs)) }
