use Rattle.std.proofs.Common.{◌∙◌, List, ℕ, sym, subst, ap}
use Rattle.wg_words.specs.Each.{Each}
use Rattle.wg_store.specs.declared.item.Item.{Item}
use Rattle.wg_store.specs.Items.{CanOpen, all_opened}
use Rattle.wg_entries.specs.Apart.{AreApart}
use Rattle.wg_entries.specs.Front.{IsFront}
use Rattle.wg_entries.specs.Stands.{IsPast}
use Rattle.wg_entries.proofs.Taking.{can_open, front_takes, stands_moved, stands_opened}
use Rattle.wg_entries.proofs.cursor.EntryCursor.open.Goals as goal

pub open_in-requires-clause-apart : goal.open_in-requires-clause-apart
open_in-requires-clause-apart c =
    let front = subst (λ (xs : List Item). IsFront c.requires.front.0 xs c.args.pending.now) (sym c.self.view_is) c.requires.front.1 in
    let takes = front_takes c.requires.front.0 c.self.inside.items.items c.args.pending.now c.self.invariant.places front in
    subst AreApart (sym c.as_slice.ensures) takes.apart

pub open_in-requires-clause-can : goal.open_in-requires-clause-can
open_in-requires-clause-can c =
    let front = subst (λ (xs : List Item). IsFront c.requires.front.0 xs c.args.pending.now) (sym c.self.view_is) c.requires.front.1 in
    let takes = front_takes c.requires.front.0 c.self.inside.items.items c.args.pending.now c.self.invariant.places front in
    subst (λ (ns : List ℕ). Each (CanOpen ns) c.self.inside.items.items) (sym c.as_slice.ensures) (can_open c.args.pending.now.inputs c.self.inside.items.items c.self.invariant.openings takes)

pub next_waiting-self-inside-requires-clause-past : goal.next_waiting-self-inside-requires-clause-past
next_waiting-self-inside-requires-clause-past c =
    let front = subst (λ (xs : List Item). IsFront c.requires.front.0 xs c.args.pending.now) (sym c.self.view_is) c.requires.front.1 in
    let takes = front_takes c.requires.front.0 c.self.inside.items.items c.args.pending.now c.self.invariant.places front in
    let before = stands_opened c.args.pending.now.inputs c.self.inside.items.items c.self.inside.place c.self.invariant takes in
    let is = c.as_slice-2.ensures.value ∙ c.open_in.ensures ∙ ap (λ (ns : List ℕ). all_opened ns c.self.inside.items.items) c.as_slice.ensures in
    subst (λ (xs : List Item). IsPast xs c.self.inside.place) (sym is) before.past

pub invariant_of-self : goal.invariant_of-self
invariant_of-self c =
    let front = subst (λ (xs : List Item). IsFront c.requires.front.0 xs c.args.pending.now) (sym c.self.view_is) c.requires.front.1 in
    let takes = front_takes c.requires.front.0 c.self.inside.items.items c.args.pending.now c.self.invariant.places front in
    let before = stands_opened c.args.pending.now.inputs c.self.inside.items.items c.self.inside.place c.self.invariant takes in
    let is = c.open_in.ensures ∙ ap (λ (ns : List ℕ). all_opened ns c.self.inside.items.items) c.as_slice.ensures in
    let moved = c.next_waiting-self-inside.ensures in
    stands_moved (all_opened c.args.pending.now.inputs c.self.inside.items.items) c.open_in.new.items.items c.as_slice-2.result.now c.self.inside.place c.next_waiting-self-inside.result before is c.as_slice-2.ensures.value moved.within moved.past moved.waits
