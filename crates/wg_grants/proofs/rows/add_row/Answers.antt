use Rattle.std.proofs.Common.{◌≡◌, ◌++◌, ◌∷◌, ◌&&◌, [], List, ℕ, length, ap, sym, subst, ◌∙◌}
use Rattle.std.specs.Prelude.{◌==◌, if◌then◌else◌, Some}
use Rattle.std.specs.Map.{lookup}
use Rattle.wg_state.specs.Requests.{is_numbered}
use Rattle.wg_grants.specs.Rows.{AreFound, is_key, key_of}
use Rattle.wg_grants.specs.declared.rows.Row.{Row}
use Rattle.wg_grants.proofs.Tables.{found_pushed}
use Rattle.wg_grants.proofs.rows.add_row.Goals as goal

pub returns-clause-found : goal.returns-clause-found
returns-clause-found c =
    let rows = c.args.rows.now.items in
    let row = c.args.row in
    let is : c.push.new.self.items ≡ rows ++ row ∷ [] = c.in_ok-push.ensures.items ∙ ap (λ (l : List Row). l ++ row ∷ []) c.in_ok-reserve.ensures.items in
    let at : length c.as_slice.result.now ≡ length rows = ap (λ (l : List Row). length l) c.as_slice.ensures.value ∙ ap (λ (l : List Row). length l) c.in_ok-reserve.ensures.items in
    subst (λ (l : List Row). AreFound l c.note.new.latest.entries) (sym is)
    (found_pushed rows row c.args.latest.now.entries c.note.new.latest.entries c.requires
    (λ h l. c.in_ok-note.ensures.ok h l ∙ ap (λ (n : ℕ). if is_numbered row.handle h && (row.lane == l) then Some n else lookup (is_key (key_of h l)) c.args.latest.now.entries) at))
