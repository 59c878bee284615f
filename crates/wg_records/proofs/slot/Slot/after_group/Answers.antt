use Rattle.std.proofs.Common.{◌∙◌, ap, refl, arith}
use Rattle.std.specs.Prelude.{◌||◌}
use Rattle.wg_records.specs.declared.slot.GroupPlace.{GroupPlace}
use Rattle.wg_records.specs.Slots.{has_ran, is_place}
use Rattle.wg_records.proofs.Slots.{ran_more}
use Rattle.wg_records.proofs.slot.Slot.after_group.Goals as goal

pub returns : goal.returns
returns c = record {
  unit = refl;
  words = c.in_ok-words_after.ensures;
  grid = refl;
  left = (let a = c.requires in omega (arith, a));
  ran = λ p. ran_more c.place_at.result p _ _ (c.in_ok-insert.ensures.updates.0 p) ∙ ap (λ (q : GroupPlace). is_place q p || has_ran c.args.self.ran.entries p) c.place_at.ensures;
}
