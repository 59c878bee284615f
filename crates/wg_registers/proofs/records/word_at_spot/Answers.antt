use Rattle.std.proofs.Common.{sym, ◌∙◌}
use Rattle.std.specs.Prelude.{Some}
use Rattle.wg_state.specs.WordLists.{list_at}
use Rattle.wg_code.specs.Records.{items_at}
use Rattle.wg_registers.proofs.Ranges.{read_inside, read_outside}
use Rattle.wg_registers.proofs.records.word_at_spot.Goals as goal

pub returns-in-Some : goal.returns-in-Some
returns-in-Some c =
    c.word.ensures ∙ read_inside c.args.spot.from c.args.spot.to c.args.spot.word (list_at (items_at (Some c.args.grant) c.args.grants.now) c.args.spot.record) c.in-Some.at (sym c.place_in.ensures ∙ c.in-Some.is)

pub returns-in-None : goal.returns-in-None
returns-in-None c =
    read_outside c.args.spot.from c.args.spot.to c.args.spot.word (list_at (items_at (Some c.args.grant) c.args.grants.now) c.args.spot.record) (sym c.place_in.ensures ∙ c.in-None.is)
