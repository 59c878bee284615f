use Rattle.std.proofs.Common.{ap, arith}
use Rattle.std.specs.Prelude.{vec_capacity}
use Rattle.wg_slots.specs.Kept.{Kept, numbers_used}
use Rattle.wg_slots.proofs.Turns.{free_counts}
use Rattle.wg_slots.proofs.unit.UnitSlots.free.Goals as goal

pub overflow_add-result : goal.overflow_add-result
overflow_add-result c =
    let count = free_counts c.self.inside.count (vec_capacity c.self.inside.numbers) c.self.inside.places c.self.inside.numbers.items c.self.invariant in
    let small = c.self.invariant.small in
    let few = c.self.invariant.few in
    let len = c.self.inside.numbers.len in
    let long = c.len.ensures in
    let free = c.free.ensures in
    omega arith

pub overflow_cast-result : goal.overflow_cast-result
overflow_cast-result c =
    let count = free_counts c.self.inside.count (vec_capacity c.self.inside.numbers) c.self.inside.places c.self.inside.numbers.items c.self.invariant in
    let small = c.self.invariant.small in
    let few = c.self.invariant.few in
    let len = c.self.inside.numbers.len in
    let long = c.len.ensures in
    let free = c.free.ensures in
    omega arith

pub returns : goal.returns
returns c =
    let count = free_counts c.self.inside.count (vec_capacity c.self.inside.numbers) c.self.inside.places c.self.inside.numbers.items c.self.invariant in
    let few = c.self.invariant.few in
    let len = c.self.inside.numbers.len in
    let long = c.len.ensures in
    let free = c.free.ensures in
    let used = ap numbers_used c.self.view_is in
    let all = ap (λ (k : Kept). k.count) c.self.view_is in
    omega arith
