use Rattle.std.proofs.Common.{◌∙◌, ℕ, List, ap, refl, arith}
use Rattle.std.specs.Prelude.{slice_index}
use Rattle.wg_slots.specs.SlotsOf.{all_free}
use Rattle.wg_keep.specs.declared.stock.Stock.{Stock}
use Rattle.wg_keep.specs.Stock.{IsEmptyStock}
use Rattle.wg_keep.proofs.Stocks.{empty_sound, words_index}
use Rattle.wg_keep.proofs.stock.Stock.new.Goals as goal

pub returns-clause-empty : goal.returns-clause-empty
returns-clause-empty c =
    let many = c.in_ok-slots.ensures.count ∙ c.requires.count in
    record {
      slots = λ u h. (
          c.in_ok-slots.ensures.free u (omega (arith, h, many))
          ∙ ap (λ (w : ℕ). all_free (slice_index c.args.counts.now u) w) (ap (λ (l : List ℕ). slice_index l u) (c.deref.ensures.value ∙ c.in_ok-words.ensures) ∙ words_index c.args.shape.units u)
          );
      bounds = c.in_ok-room.ensures.bounds;
      used = c.in_ok-room.ensures.used;
      reserved = c.in_ok-room.ensures.reserved;
    }

pub returns-clause-sound : goal.returns-clause-sound
returns-clause-sound c =
    let s : Stock = record { shape = c.args.shape; slots = c.in_ok-slots.slots; room = c.in_ok-room.room; picker = c.in_ok-picker.picker; bytes = 0 } in
    let many = c.in_ok-slots.ensures.count ∙ c.requires.count in
    let e : IsEmptyStock s c.args.counts.now = record {
      slots = λ u h. (
          c.in_ok-slots.ensures.free u (omega (arith, h, many))
          ∙ ap (λ (w : ℕ). all_free (slice_index c.args.counts.now u) w) (ap (λ (l : List ℕ). slice_index l u) (c.deref.ensures.value ∙ c.in_ok-words.ensures) ∙ words_index c.args.shape.units u)
          );
      bounds = c.in_ok-room.ensures.bounds;
      used = c.in_ok-room.ensures.used;
      reserved = c.in_ok-room.ensures.reserved;
    } in
    empty_sound s c.args.counts.now c.requires.good many c.requires.count e c.in_ok-picker.ensures (λ v. (let h = c.type_inv.counts v in omega (arith, h))) c.in_ok-room.ensures.needs refl
