use Rattle.std.proofs.Common.{◌≡◌, ◌*◌, ◌<◌, ◌∙◌, ℕ, List, length, ap, sym, subst}
use Rattle.std.specs.Prelude.{slice_index}
use Rattle.wg_machine.specs.Need.{most}
use Rattle.wg_store.specs.Keep.{view_of}
use Rattle.wg_kept.specs.declared.store.Store.{Store}
use Rattle.wg_kept.specs.Inside.{kept_of}
use Rattle.wg_kept.proofs.Beginnings.{begun_core, begun_is, sound_begun}
use Rattle.wg_kept.proofs.keep.Keep.new.Goals as goal

pub invariant_of-result : goal.invariant_of-result
invariant_of-result c =
    let a = c.args in
    let h = c.in_ok-hold.ensures in
    let store : Store = record { entries = c.in_ok-entries.entries; hold = c.in_ok-hold.hold } in
    let is = begun_is a.shape a.plan.width a.limits a.entries store c.new-4.result.items c.len-next.result c.new-3.result h.shape h.items c.in_ok-entries.ensures c.new-4.ensures.items c.len-next.ensures c.new-3.ensures in
    let counts = c.as_slice.result.now in
    let many : length counts ≡ length a.shape.units = ap (λ (xs : List ℕ). length xs) c.as_slice.ensures ∙ c.requires.count in
    let slots = subst (λ (xs : List ℕ). (v : ℕ) → v < length xs → slice_index xs v ≡ a.plan.width * most a.shape v) (sym c.as_slice.ensures) c.requires.slots in
    let slots_at = λ (v : ℕ) (below : v < length a.shape.units). slots v (subst (λ (n : ℕ). v < n) (sym many) below) in
    let room = c.beginnings_keep_room.ensures a.shape a.plan.width a.limits a.entries store.hold.room counts c.requires.arrive many slots_at h.bounds h.used h.reserved h.needs h.within in
    sound_begun c.beginnings_keep.ensures (kept_of store a.plan.width a.limits c.new-4.result.items c.len-next.result c.new-3.result 0) store a.shape a.plan.width a.limits a.entries c.new-3.result _ a.plan.bytes is c.requires.good c.requires.arrive c.requires.few c.requires.launches c.requires.bytes c.new-3.ensures room

pub returns-clause-begun : goal.returns-clause-begun
returns-clause-begun c =
    let a = c.args in
    let h = c.in_ok-hold.ensures in
    let store : Store = record { entries = c.in_ok-entries.entries; hold = c.in_ok-hold.hold } in
    let is = begun_is a.shape a.plan.width a.limits a.entries store c.new-4.result.items c.len-next.result c.new-3.result h.shape h.items c.in_ok-entries.ensures c.new-4.ensures.items c.len-next.ensures c.new-3.ensures in
    ap view_of is ∙ sym (c.beginnings_are_seen.ensures a.shape a.plan.width a.limits a.entries c.requires.arrive)

pub returns-clause-is_begun : goal.returns-clause-is_begun
returns-clause-is_begun c =
    let a = c.args in
    let h = c.in_ok-hold.ensures in
    let store : Store = record { entries = c.in_ok-entries.entries; hold = c.in_ok-hold.hold } in
    let is = begun_is a.shape a.plan.width a.limits a.entries store c.new-4.result.items c.len-next.result c.new-3.result h.shape h.items c.in_ok-entries.ensures c.new-4.ensures.items c.len-next.ensures c.new-3.ensures in
    begun_core c.beginnings_are_seen.ensures (kept_of store a.plan.width a.limits c.new-4.result.items c.len-next.result c.new-3.result 0) a.shape a.plan.width a.limits a.entries is c.requires.good c.requires.wide c.requires.arrive c.requires.few c.requires.launches
