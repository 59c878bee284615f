use Rattle.std.proofs.Common.{◌≡◌, ◌∙◌, ap, sym, true, Bool}
use Rattle.std.specs.Prelude.{◌&&◌}
use Rattle.std.specs.List.{list_all}
use Rattle.wg_machine.specs.Units.{shared_at}
use Rattle.wg_records.specs.Bags.{slot_at}
use Rattle.wg_records.specs.Named.{has_one_left}
use Rattle.wg_records.proofs.finding.is_last_launch.Goals as goal

pub returns-then-is_shared : goal.returns-then-is_shared
returns-then-is_shared c =
    let shared : shared_at c.args.shape.now c.args.unit ≡ true = sym c.is_shared.ensures ∙ c.if-is_shared.true in
    c.are_at_last_group.ensures
    ∙ ap (λ (b : Bool). b && list_all (λ n. has_one_left (slot_at c.args.records.now n)) c.args.numbers.now) (sym shared)
