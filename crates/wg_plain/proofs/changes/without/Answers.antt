use Rattle.std.proofs.Common.{◌≡◌, ◌∙◌, ap, sym, List, ℕ}
use Rattle.std.specs.Prelude.{position}
use Rattle.wg_machine.specs.Grids.{same_group, without_group}
use Rattle.wg_plain.proofs.Leaving.{place_found, place_missing}
use Rattle.wg_plain.proofs.changes.without.Goals as goal

pub returns-in_default : goal.returns-in_default
returns-in_default c =
    let gs = c.into_vec-groups.result.items in
    let p = λ (g : List ℕ). same_group g c.args.at.now in
    let e : position p gs ≡ c.place_in.result = ap (position p) (sym c.as_slice.ensures.value) ∙ sym c.place_in.ensures.first in
    c.from_vec.ensures ∙ place_missing c.args.at.now gs (e ∙ c.in_default.is) ∙ ap (without_group c.args.at.now) c.into_vec-groups.ensures

pub returns : goal.returns
returns c =
    let gs = c.into_vec-groups.result.items in
    let p = λ (g : List ℕ). same_group g c.args.at.now in
    let e : position p gs ≡ c.place_in.result = ap (position p) (sym c.as_slice.ensures.value) ∙ sym c.place_in.ensures.first in
    let f = place_found c.args.at.now gs c.in-Some.i (e ∙ c.in-Some.is) in
    c.from_vec-2.ensures ∙ c.remove.ensures.items ∙ f.1 ∙ ap (without_group c.args.at.now) c.into_vec-groups.ensures
