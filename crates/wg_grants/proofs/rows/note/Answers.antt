use Rattle.std.proofs.Common.{ℕ, ◌&&◌, ◌∙◌, ap, sym}
use Rattle.std.specs.Prelude.{◌==◌, if◌then◌else◌, Option, Some}
use Rattle.std.specs.Map.{lookup}
use Rattle.wg_state.specs.Requests.{is_numbered}
use Rattle.wg_grants.specs.Rows.{is_key, key_of}
use Rattle.wg_grants.proofs.rows.note.Goals as goal

pub returns-in_ok-insert-in-Some-clause-ok : goal.returns-in_ok-insert-in-Some-clause-ok
returns-in_ok-insert-in-Some-clause-ok c = λ h l.
    c.in_ok-insert-in-Some.ensures.updates.0 (key_of h l)
    ∙ ap (λ (o : Option ℕ). if is_numbered o h && (c.args.lane == l) then Some c.args.at else lookup (is_key (key_of h l)) c.args.latest.now.entries) (sym c.in-Some.is)
