use Rattle.std.proofs.Common.{◌≡◌, ◌∙◌, List, ℕ, take, ap, sym, subst}
use Rattle.wg_words.specs.Each.{Each}
use Rattle.wg_machine.specs.Units.{kind_at, most_inputs}
use Rattle.wg_standing.specs.declared.pending.Pending.{Pending as PendingOf}
use Rattle.wg_store.specs.Items.{fits_unit, numbers_in}
use Rattle.wg_hold.specs.Held.{AreApart, Held, count_of}
use Rattle.wg_hold.specs.RowsOf.{RowsOf}
use Rattle.wg_hold.proofs.Holding.{Fits, count_opened, fits_of, fits_opened, same_hold}
use Rattle.wg_hold.proofs.Opens.{WaitsIn, front_apart, front_waits, openings_opened, waiting_can}
use Rattle.wg_hold.proofs.hold.Hold.open.Goals as goal

pub open_all-requires-clause-apart : goal.open_all-requires-clause-apart
open_all-requires-clause-apart c =
    let i = c.self.inside in
    let u = c.args.pending.now.unit in
    let k = most_inputs (kind_at i.shape u) in
    let named : c.as_slice.result.now ≡ numbers_in (take k (fits_unit u i.rows.items)) =
    c.as_slice.ensures
    ∙ ap (λ (p : PendingOf). p.inputs) c.requires.front
    ∙ sym (ap (λ (h : Held). numbers_in (take (most_inputs (kind_at h.shape u)) (fits_unit u h.items))) c.self.view_is) in
    subst AreApart (sym named) (front_apart u 0 k i.rows.items c.keeps_laws.ensures.rises)

pub open_all-requires-clause-can : goal.open_all-requires-clause-can
open_all-requires-clause-can c =
    let i = c.self.inside in
    let u = c.args.pending.now.unit in
    let k = most_inputs (kind_at i.shape u) in
    let named : c.as_slice.result.now ≡ numbers_in (take k (fits_unit u i.rows.items)) =
    c.as_slice.ensures
    ∙ ap (λ (p : PendingOf). p.inputs) c.requires.front
    ∙ sym (ap (λ (h : Held). numbers_in (take (most_inputs (kind_at h.shape u)) (fits_unit u h.items))) c.self.view_is) in
    let waits = subst (λ (ns : List ℕ). Each (WaitsIn ns) i.rows.items) (sym named) (front_waits u 0 k i.rows.items c.keeps_laws.ensures.rises) in
    waiting_can c.as_slice.result.now i.rows.items waits c.self.invariant.openings

pub invariant_of-self : goal.invariant_of-self
invariant_of-self c =
    let i = c.self.inside in
    let u = c.args.pending.now.unit in
    let k = most_inputs (kind_at i.shape u) in
    let named : c.as_slice.result.now ≡ numbers_in (take k (fits_unit u i.rows.items)) =
    c.as_slice.ensures
    ∙ ap (λ (p : PendingOf). p.inputs) c.requires.front
    ∙ sym (ap (λ (h : Held). numbers_in (take (most_inputs (kind_at h.shape u)) (fits_unit u h.items))) c.self.view_is) in
    let waits = subst (λ (ns : List ℕ). Each (WaitsIn ns) i.rows.items) (sym named) (front_waits u 0 k i.rows.items c.keeps_laws.ensures.rises) in
    let ns = c.as_slice.result.now in
    let most = ap (λ (r : RowsOf). r.most) c.open_all.ensures in
    let units = ap (λ (r : RowsOf). r.units) c.open_all.ensures in
    let openings = openings_opened ns i.rows.items waits c.self.invariant.openings in
    let fits = subst (λ (r : RowsOf). Fits i.shape r.items) (sym c.open_all.ensures) (fits_opened i.shape ns i.rows.items openings (fits_of i.shape i.rows i.room i.bytes c.self.invariant)) in
    same_hold i.shape i.rows c.open_all.new.rows i.room i.bytes c.self.invariant most units fits (λ v. ap (λ (r : RowsOf). count_of v r.items) c.open_all.ensures ∙ count_opened v ns i.rows.items)
