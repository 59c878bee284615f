use Rattle.std.proofs.Common.{List, length, ap, arith}
use Rattle.wg_store.specs.declared.item.Item.{Item}
use Rattle.wg_hold.specs.Held.{Held}
use Rattle.wg_kept.proofs.Takings.{entries_front, entries_same, first_at, from_entries, from_slots, slots_behind, slots_same}
use Rattle.wg_kept.proofs.store.Store.open.Goals as goal

pub open-requires : goal.open-requires
open-requires c =
    let s = c.args.self.now in
    let o = c.args.pending.now in
    let less = c.if-as_slice-len.true in
    let long = c.len.ensures in
    let first = first_at o.inputs c.as_slice.result.now c.as_slice.ensures in
    record { front = (s.hold.shape, from_entries s.hold.shape s.entries s.hold.items o c.requires.behind c.requires.some c.requires.front (omega (arith, less, long, first))) }

pub open-requires-else-as_slice-len-clause-some : goal.open-requires-else-as_slice-len-clause-some
open-requires-else-as_slice-len-clause-some c =
    let s = c.args.self.now in
    let o = c.args.pending.now in
    let past = c.if-as_slice-len.false in
    let long = c.len.ensures in
    let first = first_at o.inputs c.as_slice.result.now c.as_slice.ensures in
    (from_slots s.hold.shape s.entries s.hold.items o c.requires.places c.requires.some c.requires.front (omega (arith, past, long, first))).0

pub open-requires-else-as_slice-len-clause-front : goal.open-requires-else-as_slice-len-clause-front
open-requires-else-as_slice-len-clause-front c =
    let s = c.args.self.now in
    let o = c.args.pending.now in
    let past = c.if-as_slice-len.false in
    let long = c.len.ensures in
    let first = first_at o.inputs c.as_slice.result.now c.as_slice.ensures in
    (from_slots s.hold.shape s.entries s.hold.items o c.requires.places c.requires.some c.requires.front (omega (arith, past, long, first))).1

pub returns-then-as_slice-len-clause-hold : goal.returns-then-as_slice-len-clause-hold
returns-then-as_slice-len-clause-hold c =
    let s = c.args.self.now in
    let o = c.args.pending.now in
    let less = c.if-as_slice-len.true in
    let long = c.len.ensures in
    let first = first_at o.inputs c.as_slice.result.now c.as_slice.ensures in
    let front = from_entries s.hold.shape s.entries s.hold.items o c.requires.behind c.requires.some c.requires.front (omega (arith, less, long, first)) in
    ap (λ (xs : List Item). (let h : Held = record s.hold { items = xs } in h)) (slots_same o.inputs (length s.entries) s.hold.items c.requires.behind (entries_front s.hold.shape s.entries o c.requires.places front))

pub returns-else-as_slice-len-clause-entries : goal.returns-else-as_slice-len-clause-entries
returns-else-as_slice-len-clause-entries c =
    let s = c.args.self.now in
    let o = c.args.pending.now in
    let past = c.if-as_slice-len.false in
    let long = c.len.ensures in
    let first = first_at o.inputs c.as_slice.result.now c.as_slice.ensures in
    let front = from_slots s.hold.shape s.entries s.hold.items o c.requires.places c.requires.some c.requires.front (omega (arith, past, long, first)) in
    entries_same o.inputs s.entries c.requires.places (slots_behind (length s.entries) s.hold.shape s.hold.items o c.requires.behind front)
