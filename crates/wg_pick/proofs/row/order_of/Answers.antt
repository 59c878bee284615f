use Rattle.std.proofs.Common.{◌≡◌, ℕ, ◌+◌, List, length, get_or, arith, subst, sym}
use Rattle.std.specs.declared.cmp.Reverse.{Reverse}
use Rattle.wg_pick.specs.Row.{IsOrder}
use Rattle.wg_pick.proofs.Orders.{AreRanked, later, sorted_order}
use Rattle.wg_pick.proofs.row.order_of.Goals as goal

pub returns : goal.returns
returns c =
    let depth : Reverse ℕ × ℕ → ℕ = λ r. r.0.0 in
    let unit : Reverse ℕ × ℕ → ℕ = λ r. r.1 in
    let depths = c.args.depths.now in
    let row = c.loop-unit.ranked.items in
    let sorted = c.sort_unstable.new.self.items in
    let whole : c.loop-unit.unit ≡ length depths = omega (arith, c.loop-unit.auto.unit-end, c.loop-unit-test.false) in
    let P : ℕ → Type 0 = λ n. AreRanked depth unit depths n row in
    let ranked : AreRanked depth unit depths (length depths) row = subst P whole c.loop-unit.invariant in
    let none : Reverse ℕ × ℕ = (record { 0 = 0 }, 0) in
    let order = sorted_order depth unit depths row sorted none ranked c.sort_unstable.ensures.permutation
    (λ k d h. later (depth (get_or sorted k d)) (depth (get_or sorted (k + 1) d)) (unit (get_or sorted k d)) (unit (get_or sorted (k + 1) d)) (c.sort_unstable.ensures.sorted k d (omega arith) h)) in
    let units = rw c.deref.ensures.value at c.in_ok-order.ensures in
    let Q : List ℕ → Type 0 = λ xs. IsOrder depths xs in
    subst Q (sym units) order
