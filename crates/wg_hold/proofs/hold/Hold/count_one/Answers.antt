use Rattle.std.proofs.Common.{◌≡◌, ◌∙◌, ◌+◌, ◌-◌, ◌∷◌, [], ℕ, Option, Some, ap, sym, subst, arith}
use Rattle.wg_room.specs.Counts.{Counts}
use Rattle.wg_hold.specs.Held.{count_of}
use Rattle.wg_hold.specs.Parts.{IsHold}
use Rattle.wg_hold.specs.RowsOf.{RowsOf, gone_at}
use Rattle.wg_hold.proofs.Holding.{Fits, fits_counted, fits_of, gone_bytes, gone_hold, gone_some, gone_within, same_hold}
use Rattle.wg_hold.proofs.hold.Hold.count_one.Goals as goal

pub invariant_of-self : goal.invariant_of-self
invariant_of-self c =
    let i = c.self.inside in
    let most = ap (λ (r : RowsOf). r.most) c.count.ensures.items in
    let units = ap (λ (r : RowsOf). r.units) c.count.ensures.items in
    let fits = subst (λ (r : RowsOf). Fits i.shape r.items) (sym c.count.ensures.items) (fits_counted i.shape (c.args.number ∷ []) i.rows.items (fits_of i.shape i.rows i.room i.bytes c.self.invariant)) in
    same_hold i.shape i.rows c.count.new.self i.room i.bytes c.self.invariant most units fits (λ v. (let f = c.count.ensures.fewer v in let g : gone_at v c.count.result ≡ 0 = ap (gone_at v) c.in_default.is in omega (arith, f, g)))

pub leave-requires-clause-unit : goal.leave-requires-clause-unit
leave-requires-clause-unit c =
    let i = c.self.inside in
    let u = c.in-Some.unit in
    let fewer : (v : ℕ) → count_of v c.count.new.self.items + gone_at v (Some u) ≡ count_of v i.rows.items = λ v. ap (λ (o : Option ℕ). count_of v c.count.new.self.items + gone_at v o) (sym c.in-Some.is) ∙ c.count.ensures.fewer v in
    gone_within i.shape i.rows c.count.new.self i.room i.bytes u c.self.invariant fewer

pub leave-requires-clause-some : goal.leave-requires-clause-some
leave-requires-clause-some c =
    let i = c.self.inside in
    let u = c.in-Some.unit in
    let fewer : (v : ℕ) → count_of v c.count.new.self.items + gone_at v (Some u) ≡ count_of v i.rows.items = λ v. ap (λ (o : Option ℕ). count_of v c.count.new.self.items + gone_at v o) (sym c.in-Some.is) ∙ c.count.ensures.fewer v in
    gone_some i.shape i.rows c.count.new.self i.room i.bytes u c.self.invariant fewer

pub overflow_sub-self : goal.overflow_sub-self
overflow_sub-self c =
    let i = c.self.inside in
    let u = c.in-Some.unit in
    let fewer : (v : ℕ) → count_of v c.count.new.self.items + gone_at v (Some u) ≡ count_of v i.rows.items = λ v. ap (λ (o : Option ℕ). count_of v c.count.new.self.items + gone_at v o) (sym c.in-Some.is) ∙ c.count.ensures.fewer v in
    let k = gone_bytes i.shape i.rows c.count.new.self i.room i.bytes u c.self.invariant fewer in
    let stride = c.stride.ensures in
    let from = c.from.ensures in
    omega (arith, k, stride, from)

pub invariant_of-self-2 : goal.invariant_of-self-2
invariant_of-self-2 c =
    let i = c.self.inside in
    let u = c.in-Some.unit in
    let fewer : (v : ℕ) → count_of v c.count.new.self.items + gone_at v (Some u) ≡ count_of v i.rows.items = λ v. ap (λ (o : Option ℕ). count_of v c.count.new.self.items + gone_at v o) (sym c.in-Some.is) ∙ c.count.ensures.fewer v in
    let most = ap (λ (r : RowsOf). r.most) c.count.ensures.items in
    let units = ap (λ (r : RowsOf). r.units) c.count.ensures.items in
    let fits = subst (λ (r : RowsOf). Fits i.shape r.items) (sym c.count.ensures.items) (fits_counted i.shape (c.args.number ∷ []) i.rows.items (fits_of i.shape i.rows i.room i.bytes c.self.invariant)) in
    subst (λ (r : Counts). IsHold i.shape c.count.new.self r (i.bytes - c.from.result)) (sym c.leave.ensures)
    (gone_hold i.shape i.rows c.count.new.self i.room i.bytes u (i.bytes - c.from.result) c.self.invariant most units fits fewer (ap (λ (n : ℕ). i.bytes - n) (c.from.ensures ∙ c.stride.ensures)))
