use Rattle.std.proofs.Common.{◌≡◌, ◌∙◌, ◌+◌, ◌<◌, ◌∷◌, ◌++◌, [], ℕ, length, ap, sym, subst, arith}
use Rattle.std.specs.Prelude.{slice_index, slice_set}
use Rattle.wg_words.specs.Each.{Each}
use Rattle.wg_words.specs.declared.limits.TheConstants.{GRID_BOUND}
use Rattle.wg_machine.specs.Grids.{grid_of, groups_in}
use Rattle.wg_machine.specs.Units.{kind_at, words_at}
use Rattle.wg_room.specs.Counts.{Counts}
use Rattle.wg_store.specs.declared.item.Item.{Item as ItemOf}
use Rattle.wg_hold.specs.Held.{Held}
use Rattle.wg_hold.specs.Parts.{IsHold}
use Rattle.wg_hold.specs.RowsOf.{RowsOf}
use Rattle.wg_hold.proofs.Holding.{bytes_fit, place_left, put_hold}
use Rattle.wg_hold.proofs.hold.Hold.put.Goals as goal

pub push-requires-clause-few : goal.push-requires-clause-few
push-requires-clause-few c =
    let i = c.self.inside in
    let free = subst (λ (h : Held). slice_index h.room.used c.args.sent.unit < slice_index h.room.bounds c.args.sent.unit) (sym c.self.view_is) c.requires.free in
    place_left i.shape i.rows i.room i.bytes c.args.sent.unit c.self.invariant free

pub push-requires-clause-above : goal.push-requires-clause-above
push-requires-clause-above c =
    let above = subst (λ (h : Held). Each (λ (x : ItemOf). x.number < c.args.number) h.items) (sym c.self.view_is) c.requires.above in
    subst (λ (n : ℕ). Each (λ (x : ItemOf). x.number < n) c.self.inside.rows.items) (sym (ap (λ (x : ItemOf). x.number) c.new.ensures)) above

pub overflow_add-self : goal.overflow_add-self
overflow_add-self c =
    let i = c.self.inside in
    let b = bytes_fit i.shape i.rows i.room i.bytes c.self.invariant (c.few_units.ensures i.shape c.self.invariant.good) (λ u. c.strides_are_small.ensures i.shape u c.self.invariant.good) in
    let small = c.strides_are_small.ensures i.shape c.args.sent.unit c.self.invariant.good in
    let stride = c.stride.ensures in
    let from = c.from.ensures in
    omega (arith, b, small, stride, from)

pub invariant_of-self : goal.invariant_of-self
invariant_of-self c =
    let i = c.self.inside in
    let s = c.args.sent in
    let unit = subst (λ (h : Held). s.unit < length h.shape.units) (sym c.self.view_is) c.requires.unit in
    let words = subst (λ (h : Held). length s.words ≡ words_at h.shape s.unit) (sym c.self.view_is) c.requires.words in
    let free = subst (λ (h : Held). slice_index h.room.used s.unit < slice_index h.room.bounds s.unit) (sym c.self.view_is) c.requires.free in
    let few = subst (λ (h : Held). groups_in (grid_of (kind_at h.shape s.unit) s.words) < GRID_BOUND) (sym c.self.view_is) c.requires.few in
    let held = put_hold i.shape i.rows i.room i.bytes (i.bytes + c.from.result) c.args.number s c.self.invariant unit words few free (ap (λ (n : ℕ). i.bytes + n) (c.from.ensures ∙ c.stride.ensures)) in
    let placed = c.push.ensures ∙ ap (λ (x : ItemOf). (let r : RowsOf = record i.rows { items = i.rows.items ++ x ∷ [] } in r)) c.new.ensures in
    let room : Counts = record i.room { used = slice_set i.room.used s.unit (slice_index i.room.used s.unit + 1) } in
    subst (λ (r : Counts). IsHold i.shape c.push.new.self r (i.bytes + c.from.result)) (sym c.arrive.ensures) (subst (λ (r : RowsOf). IsHold i.shape r room (i.bytes + c.from.result)) (sym placed) held)
