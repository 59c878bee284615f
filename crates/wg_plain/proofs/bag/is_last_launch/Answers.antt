use Rattle.std.proofs.Common.{◌≡◌, ◌∙◌, ◌&&◌, ap, sym, true, Bool, length}
use Rattle.std.specs.Prelude.{◌==◌}
use Rattle.std.specs.List.{list_all}
use Rattle.wg_machine.specs.declared.launch.Live.{Live}
use Rattle.wg_machine.specs.Step.{taken}
use Rattle.wg_machine.specs.Units.{shared_at}
use Rattle.wg_plain.proofs.Found.{tests_taken}
use Rattle.wg_plain.proofs.bag.is_last_launch.Goals as goal

pub returns-then-is_shared : goal.returns-then-is_shared
returns-then-is_shared c =
    let shared : shared_at c.args.shape.now c.args.unit ≡ true = sym c.is_shared.ensures ∙ c.if-is_shared.true in
    let left = λ (r : Live). length r.groups == 1 in
    c.all_have_one_left.ensures ∙ tests_taken left c.args.numbers.now c.args.bag.now
    ∙ ap (λ (b : Bool). b && list_all left (taken c.args.numbers.now c.args.bag.now)) (sym shared)
