use Rattle.std.proofs.Common.{sym, ◌∙◌}
use Rattle.wg_registers.proofs.Ranges.{put_inside, put_outside}
use Rattle.wg_registers.proofs.records.put_at_spot.Goals as goal

pub returns-in-Some : goal.returns-in-Some
returns-in-Some c =
    c.put.ensures ∙ put_inside c.args.spot.from c.args.spot.to c.args.spot.word c.args.value c.args.grant c.args.spot.record c.args.grants.now c.in-Some.at (sym c.place_in.ensures ∙ c.in-Some.is)

pub returns-in-None : goal.returns-in-None
returns-in-None c =
    put_outside c.args.spot.from c.args.spot.to c.args.spot.word c.args.value c.args.grant c.args.spot.record c.args.grants.now (sym c.place_in.ensures ∙ c.in-None.is)
