use Rattle.std.proofs.Common.{◌∙◌, Some, sym, ap, subst, arith}
use Rattle.std.specs.Prelude.{IsSome}
use Rattle.std.proofs.lemmas.Option.{slice_get-get_or}
use Rattle.wg_slots.specs.Kept.{Kept, number_at}
use Rattle.wg_slots.proofs.Rings.{is_used}
use Rattle.wg_slots.proofs.unit.UnitSlots.number.Goals as goal

pub index-requires : goal.index-requires
index-requires c =
    let used = is_used c.self.inside.places.free c.self.inside.numbers.items c.args.slot (subst (λ (k : Kept). IsSome (number_at k c.args.slot)) (sym c.self.view_is) c.requires) in
    let within = used.within in
    let len = c.self.inside.numbers.len in
    omega arith

pub returns : goal.returns
returns c =
    let ns = c.self.inside.numbers.items in
    let used = is_used c.self.inside.places.free ns c.args.slot (subst (λ (k : Kept). IsSome (number_at k c.args.slot)) (sym c.self.view_is) c.requires) in
    sym (ap (λ (k : Kept). number_at k c.args.slot) c.self.view_is)
    ∙ (used.is ∙ (slice_get-get_or ns c.args.slot c.index.result.now used.within ∙ ap Some (sym c.index.ensures)))
