use Rattle.std.proofs.Common.{false, ◌++◌, ◌∷◌, [], List, replicate, refl, sym, ap, ◌∙◌}
use Rattle.std.proofs.lemmas.List.{length-replicate}
use Rattle.std.proofs.lemmas.Result.{err_from_is_err_and}
use Rattle.wg_state.specs.WordLists.{zeros}
use Rattle.wg_state.specs.declared.world.Grant.{Grant}
use Rattle.wg_grants.specs.Rows.{row_grant}
use Rattle.wg_grants.specs.declared.rows.Row.{Row}
use Rattle.wg_grants.proofs.Tables.{kept_same, view_same, kept_new, view_new}
use Rattle.wg_grants.proofs.grants.GrantTable.push.Goals as goal

pub invariant_of-self : goal.invariant_of-self
invariant_of-self c =
    let rows = c.self.inside.rows.items in
    let table = c.self.inside.latest.entries in
    kept_same rows rows c.self.inside.records c.add_zeros.new.records c.in_err-add_zeros.ensures.grows.0 table table c.self.invariant c.in_err-add_zeros.ensures.grows.1 refl c.self.invariant.found

pub returns-in_err-add_zeros-clause-err : goal.returns-in_err-add_zeros-clause-err
returns-in_err-add_zeros-clause-err c =
    let rows = c.self.inside.rows.items in
    let table = c.self.inside.latest.entries in
    let p = err_from_is_err_and c.from_residual.result c.from_residual.ensures.1 in
    rw (p.1) (view_same rows rows c.self.inside.records c.add_zeros.new.records c.in_err-add_zeros.ensures.grows.0 table table c.self.invariant c.in_err-add_zeros.ensures.grows.1 refl ∙ c.self.view_is)

pub invariant_of-self-in_err-add_row : goal.invariant_of-self-in_err-add_row
invariant_of-self-in_err-add_row c =
    let rows = c.self.inside.rows.items in
    kept_same rows c.add_row.new.rows.items c.self.inside.records c.add_zeros.new.records (replicate c.args.count (zeros c.args.words)) c.self.inside.latest.entries c.add_row.new.latest.entries c.self.invariant c.in_ok-add_zeros.ensures.ok c.in_err-add_row.ensures.err c.in_err-add_row.ensures.found

pub returns-in_err-add_row-clause-err : goal.returns-in_err-add_row-clause-err
returns-in_err-add_row-clause-err c =
    let rows = c.self.inside.rows.items in
    let p = err_from_is_err_and c.from_residual-in_err-add_row.result c.from_residual-in_err-add_row.ensures.1 in
    rw (p.1) (view_same rows c.add_row.new.rows.items c.self.inside.records c.add_zeros.new.records (replicate c.args.count (zeros c.args.words)) c.self.inside.latest.entries c.add_row.new.latest.entries c.self.invariant c.in_ok-add_zeros.ensures.ok c.in_err-add_row.ensures.err ∙ c.self.view_is)

pub invariant_of-self-2 : goal.invariant_of-self-2
invariant_of-self-2 c =
    let rows = c.self.inside.rows.items in
    kept_new rows c.add_row.new.rows.items c.self.inside.records c.add_zeros.new.records (replicate c.args.count (zeros c.args.words)) c.self.inside.latest.entries c.add_row.new.latest.entries c.self.invariant c.in_ok-add_zeros.ensures.ok
    (record { handle = c.args.request.handle; lane = c.args.request.lane; output = c.args.request.output; element = c.args.request.element; complete = false; span = record { first = c.len-first.result; count = c.args.count } })
    c.len-first.ensures (sym (length-replicate c.args.count (zeros c.args.words))) c.in_ok-add_row.ensures.ok c.in_ok-add_row.ensures.found

pub returns-clause-ok : goal.returns-clause-ok
returns-clause-ok c =
    let rows = c.self.inside.rows.items in
    let row : Row = record { handle = c.args.request.handle; lane = c.args.request.lane; output = c.args.request.output; element = c.args.request.element; complete = false; span = record { first = c.len-first.result; count = c.args.count } } in
    view_new rows c.add_row.new.rows.items c.self.inside.records c.add_zeros.new.records (replicate c.args.count (zeros c.args.words)) c.self.inside.latest.entries c.add_row.new.latest.entries c.self.invariant c.in_ok-add_zeros.ensures.ok
    row c.len-first.ensures (sym (length-replicate c.args.count (zeros c.args.words))) c.in_ok-add_row.ensures.ok
    ∙ ap (λ (l : List Grant). l ++ row_grant row (replicate c.args.count (zeros c.args.words)) ∷ []) c.self.view_is
