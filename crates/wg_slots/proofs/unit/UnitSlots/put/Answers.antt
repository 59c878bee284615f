use Rattle.std.proofs.Common.{◌≡◌, ◌∙◌, ◌++◌, ◌∷◌, [], ℕ, List, length, sym, ap, subst, arith}
use Rattle.std.specs.Prelude.{vec_capacity, slice_set}
use Rattle.wg_slots.specs.Kept.{Kept, numbers_used, KeepsNumber}
use Rattle.wg_slots.specs.Places.{PlacesOf, IsRing}
use Rattle.wg_slots.proofs.Turns.{kept_by, first_room, ring_few, ring_put_first, puts_first, again_within, puts_again}
use Rattle.wg_slots.proofs.unit.UnitSlots.put.Goals as goal

pub push_reserved-requires : goal.push_reserved-requires
push_reserved-requires c =
    let p = c.self.inside.places in
    let ns = c.self.inside.numbers.items in
    let none : length p.free ≡ 0 = sym c.free.ensures ∙ c.if-free-eq0.true in
    let used = ap numbers_used c.self.view_is in
    let all = ap (λ (k : Kept). k.count) c.self.view_is in
    let room = first_room c.self.inside.count (vec_capacity c.self.inside.numbers) p ns c.self.invariant none (omega (arith, c.requires)) in
    let len = c.self.inside.numbers.len in
    let most = c.self.invariant.numbers_room in
    omega arith

pub wait-requires-clause-room : goal.wait-requires-clause-room
wait-requires-clause-room c =
    let p = c.self.inside.places in
    let ns = c.self.inside.numbers.items in
    let none : length p.free ≡ 0 = sym c.free.ensures ∙ c.if-free-eq0.true in
    let used = ap numbers_used c.self.view_is in
    let all = ap (λ (k : Kept). k.count) c.self.view_is in
    let room = first_room c.self.inside.count (vec_capacity c.self.inside.numbers) p ns c.self.invariant none (omega (arith, c.requires)) in
    let few = ring_few c.self.inside.count (vec_capacity c.self.inside.numbers) p ns c.self.invariant in
    let most = c.self.invariant.room in
    omega arith

pub invariant_of-self : goal.invariant_of-self
invariant_of-self c =
    let p = c.self.inside.places in
    let ns = c.self.inside.numbers.items in
    let none : length p.free ≡ 0 = sym c.free.ensures ∙ c.if-free-eq0.true in
    let used = ap numbers_used c.self.view_is in
    let all = ap (λ (k : Kept). k.count) c.self.view_is in
    let room = first_room c.self.inside.count (vec_capacity c.self.inside.numbers) p ns c.self.invariant none (omega (arith, c.requires)) in
    let last : c.len-slot.result ≡ length ns = let len = c.self.inside.numbers.len in omega (arith, c.len-slot.ensures) in
    subst (λ (m : ℕ). IsRing c.self.inside.count m c.wait.new.self c.push_reserved.new.self.items) (sym c.push_reserved.ensures.capacity)
    (subst (λ (l : List ℕ). IsRing c.self.inside.count (vec_capacity c.self.inside.numbers) c.wait.new.self l) (sym c.push_reserved.ensures.items)
    (subst (λ (q : PlacesOf). IsRing c.self.inside.count (vec_capacity c.self.inside.numbers) q (ns ++ c.args.number ∷ [])) (sym (c.wait.ensures ∙ ap (λ (s : ℕ). record p { waiting = p.waiting ++ s ∷ [] }) last))
    (ring_put_first c.self.inside.count (vec_capacity c.self.inside.numbers) p ns c.args.number c.self.invariant none room)))

pub returns-then-free-eq0 : goal.returns-then-free-eq0
returns-then-free-eq0 c =
    let p = c.self.inside.places in
    let ns = c.self.inside.numbers.items in
    let none : length p.free ≡ 0 = sym c.free.ensures ∙ c.if-free-eq0.true in
    let used = ap numbers_used c.self.view_is in
    let all = ap (λ (k : Kept). k.count) c.self.view_is in
    let room = first_room c.self.inside.count (vec_capacity c.self.inside.numbers) p ns c.self.invariant none (omega (arith, c.requires)) in
    let last : c.len-slot.result ≡ length ns = let len = c.self.inside.numbers.len in omega (arith, c.len-slot.ensures) in
    let show : PlacesOf → List ℕ → Kept = kept_by c.self.inside.count c.self.inside.words c.self.inside.first in
    subst (λ (k : Kept). KeepsNumber k (show c.wait.new.self c.push_reserved.new.self.items) c.args.number c.len-slot.result) c.self.view_is
    (subst (λ (l : List ℕ). KeepsNumber (show p ns) (show c.wait.new.self l) c.args.number c.len-slot.result) (sym c.push_reserved.ensures.items)
    (subst (λ (q : PlacesOf). KeepsNumber (show p ns) (show q (ns ++ c.args.number ∷ [])) c.args.number c.len-slot.result) (sym c.wait.ensures)
    (subst (λ (s : ℕ). KeepsNumber (show p ns) (show (record p { waiting = p.waiting ++ s ∷ [] }) (ns ++ c.args.number ∷ [])) c.args.number s) (sym last)
    (puts_first c.self.inside.count (vec_capacity c.self.inside.numbers) c.self.inside.words c.self.inside.first p ns c.args.number c.self.invariant none room))))

pub index_mut-requires : goal.index_mut-requires
index_mut-requires c =
    let h = again_within c.self.inside.count (vec_capacity c.self.inside.numbers) c.self.inside.places c.self.inside.numbers.items c.reuse-slot.new.self.free c.reuse-slot.result c.self.invariant c.reuse-slot.ensures.free in
    let len = c.self.inside.numbers.len in
    omega arith

pub returns : goal.returns
returns c =
    let p = c.self.inside.places in
    let ns = c.self.inside.numbers.items in
    let slot = c.reuse-slot.result in
    let free = c.reuse-slot.new.self.free in
    let show : PlacesOf → List ℕ → Kept = kept_by c.self.inside.count c.self.inside.words c.self.inside.first in
    subst (λ (k : Kept). KeepsNumber k (show c.reuse-slot.new.self (slice_set ns slot c.args.number)) c.args.number slot) c.self.view_is
    (subst (λ (q : PlacesOf). KeepsNumber (show p ns) (show q (slice_set ns slot c.args.number)) c.args.number slot) (sym c.reuse-slot.ensures.same)
    (puts_again c.self.inside.count (vec_capacity c.self.inside.numbers) c.self.inside.words c.self.inside.first p ns free slot c.args.number c.self.invariant c.reuse-slot.ensures.free))
