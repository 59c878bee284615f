use Rattle.std.proofs.Common.{◌∙◌, ℕ, ap, refl, length, [], arith}
use Rattle.std.specs.List.{flat_map}
use Rattle.wg_machine.specs.State.{born, kept}
use Rattle.wg_records.specs.Bags.{bytes_of_bag}
use Rattle.wg_records.proofs.Loops.{none_left}
use Rattle.wg_records.proofs.EntryBytes.{entry_bytes}
use Rattle.wg_records.proofs.live.LiveRecords.start.Goals as goal

pub returns-clause-keeps : goal.returns-clause-keeps
returns-clause-keeps c = c.in_ok-put_all.ensures.keeps [] (none_left c.args.shape.now _ c.new.ensures.empty refl refl)

pub returns-clause-bytes : goal.returns-clause-bytes
returns-clause-bytes c =
    let script = c.args.script.now in
    let keeps = c.in_ok-put_all.ensures.keeps [] (none_left c.args.shape.now _ c.new.ensures.empty refl refl) in
    keeps.bytes ∙ ap (λ (h : ℕ). bytes_of_bag c.args.shape.now h (flat_map kept (born c.args.shape.now 0 script))) c.in_ok-put_all.ensures.handed
    ∙ entry_bytes c.args.shape.now (length script) 0 script (omega arith)
