use Rattle.std.proofs.Common.{◌≡◌, List, length, ap, ◌∙◌}
use Rattle.std.specs.Prelude.{slice_get, Some}
use Rattle.std.proofs.lemmas.Option.{slice_get_read}
use Rattle.wg_state.specs.Requests.{closed_in}
use Rattle.wg_state.specs.declared.world.Grant.{Grant}
use Rattle.wg_grants.specs.declared.rows.Row.{Row}
use Rattle.wg_grants.proofs.Tables.{kept_closed, view_closed}
use Rattle.wg_grants.proofs.grants.GrantTable.close.Goals as goal

pub invariant_of-self : goal.invariant_of-self
invariant_of-self c =
    let rows = c.self.inside.rows.items in
    let row = c.index_mut-row.result.now in
    let there : slice_get rows c.args.grant ≡ Some row = slice_get_read rows (length c.as_slice.result.now) c.args.grant row (ap (λ (l : List Row). length l) c.as_slice.ensures.value) c.if-grant-as_slice.true c.index_mut-row.ensures.value in
    kept_closed rows c.self.inside.records c.self.inside.latest.entries c.args.grant row there c.self.invariant

pub returns-then-grant-as_slice : goal.returns-then-grant-as_slice
returns-then-grant-as_slice c =
    let rows = c.self.inside.rows.items in
    let row = c.index_mut-row.result.now in
    let there : slice_get rows c.args.grant ≡ Some row = slice_get_read rows (length c.as_slice.result.now) c.args.grant row (ap (λ (l : List Row). length l) c.as_slice.ensures.value) c.if-grant-as_slice.true c.index_mut-row.ensures.value in
    view_closed rows c.self.inside.records c.args.grant row there ∙ ap (λ (l : List Grant). closed_in (slice_get l c.args.grant) l c.args.grant) c.self.view_is
