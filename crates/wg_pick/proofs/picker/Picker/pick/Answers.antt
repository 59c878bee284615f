use Rattle.std.proofs.Common.{rules, ap, arith, length}
use Rattle.wg_pick.proofs.Rows.{flagged_waits, none_left, before_left}
use Rattle.wg_pick.proofs.picker.Picker.pick.Goals as goal

pub next_flag-requires : goal.next_flag-requires
next_flag-requires g c = omega (arith, ap length c.deref.ensures.value, c.self.invariant.short)

pub room-requires : goal.room-requires
room-requires g c =
    let found = rw c.deref.ensures.value at c.in-Some.ensures in
    let waits = (flagged_waits c.self.inside.depths.items c.self.inside.order.items c.self.inside.places.items c.self.inside.flags.items c.in-Some.place c.index-unit.result.now
    c.self.invariant found.2 c.index-unit.ensures).1 in
    let asks = rw (← c.self.view_is) at c.requires in
    let may = asks c.index-unit.result.now waits in
    search (rules, may)

pub returns-then-room-clause-waits : goal.returns-then-room-clause-waits
returns-then-room-clause-waits g c =
    let found = rw c.deref.ensures.value at c.in-Some.ensures in
    let waits = (flagged_waits c.self.inside.depths.items c.self.inside.order.items c.self.inside.places.items c.self.inside.flags.items c.in-Some.place c.index-unit.result.now
    c.self.invariant found.2 c.index-unit.ensures).1 in
    rw (← c.self.view_is) waits

pub returns-then-room-clause-first : goal.returns-then-room-clause-first
returns-then-room-clause-first g c =
    let found = rw c.deref.ensures.value at c.in-Some.ensures in
    rw (← c.self.view_is) (before_left c.self.inside.depths.items c.self.inside.order.items c.self.inside.places.items c.self.inside.flags.items _ c.loop-place.from c.in-Some.place
    c.index-unit.result.now c.self.invariant c.loop-place.invariant found c.index-unit.ensures)

pub returns-clause-first : goal.returns-clause-first
returns-clause-first g c =
    let none = rw c.deref.ensures.value at c.in_default.ensures in
    let s = c.self.inside in
    rw (← c.self.view_is) (none_left s.depths.items s.order.items s.places.items s.flags.items _ c.loop-place.from c.self.invariant c.loop-place.invariant none)
