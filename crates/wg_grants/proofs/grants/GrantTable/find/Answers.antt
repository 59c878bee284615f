use Rattle.std.proofs.Common.{◌∙◌, ap}
use Rattle.std.specs.Prelude.{None}
use Rattle.wg_state.specs.Requests.{latest}
use Rattle.wg_grants.proofs.Tables.{found_by}
use Rattle.wg_grants.proofs.grants.GrantTable.find.Goals as goal

pub returns : goal.returns
returns c =
    c.copied.ensures ∙ c.get.ensures.value
    ∙ found_by c.self.inside.rows.items c.self.inside.records c.self.inside.latest.entries c.self.invariant c.args.handle c.args.lane
    ∙ ap (latest c.args.handle c.args.lane 0 None) c.self.view_is
