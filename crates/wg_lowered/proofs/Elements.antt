-- Forms after a value: fields, components and elements.
use Rattle.std.proofs.Common.{◌≡◌, ℕ, ◌+◌, ◌-◌, ◌*◌, ◌<◌, ◌≤◌, ◌^◌, List, [], map, length, Bool, true, false, refl, sym, ap, ◌∙◌, subst, arith}
use Rattle.std.proofs.lemmas.Bool.{ltb-true}
use Rattle.std.proofs.lemmas.List.{length-map}
use Rattle.std.specs.Prelude.{slice_index, nat_lt}
use Rattle.wg_typed.specs.Layout.{words_in}
use Rattle.wg_semantics.specs.Places.{part_at, element_at}
use Rattle.wg_semantics.specs.declared.state.Spot.{Spot}
use Rattle.wg_semantics.specs.declared.state.Spot.TheVariants as spot
use Rattle.wg_code.specs.Lane.{Around, Site}
use Rattle.wg_code.specs.Flow.{Callees}
use Rattle.wg_lowered.specs.Where.{Names, variables_end}
use Rattle.wg_lowered.specs.declared.places.Where.{Where}
use Rattle.wg_lowered.specs.declared.places.Where.TheVariants as place
use Rattle.wg_lowered.specs.declared.places.Space.{Space}
use Rattle.wg_lowered.specs.declared.places.Space.TheVariants as space
use Rattle.wg_lowered.specs.Where.{index_ops, copies, copy_op, run}
use Rattle.wg_lowered.specs.Exprs.{element_code}
use Rattle.wg_lowered.proofs.Straight.{below_same, Straight, straight_then, Puts, each_puts, copy_puts, with}
use Rattle.wg_lowered.proofs.Registers.{run_reads}
use Rattle.wg_lowered.proofs.Values.{Within, Stands, StandsIn, LiesBelow, range_more}
use Rattle.wg_lowered.proofs.Parts.{part_stands, part_in, chosen, index_puts, index_puts_from, stands_same, element_inside, next_element, one_inside}

-- the element of a place that is fixed, where its index register is known
fixed_in : (k : Names) (words at to d i : ℕ) (p : Spot) (f : List ℕ) → slice_index f d ≡ i → Within (variables_end k) d words at to i → Stands k words (place.Fixed (at + i)) p f → Stands k words (place.Ranged space.Own at to d) p f
fixed_in k words at to d i (spot.Value ws) f e q h = rw e (q, h)
fixed_in k words at to d i (spot.At x from) f e q h = rw e (q, h)
fixed_in k words at to d i spot.Nowhere f e q h = absurd h

pub fixed_element : (k : Names) (count words at d j : ℕ) (p : Spot) (f : List ℕ) → variables_end k ≤ d → 0 < count → count * words ≤ 2 ^ 30 → Stands k (count * words) (place.Fixed at) p f → slice_index f d ≡ chosen 0 count words (count * words) j → Stands k words (place.Ranged space.Own at (at + count * words) d) (element_at count words j p) f
fixed_element k count words at d j p f far some small h e = go (nat_lt j count) refl
  where
    w : words ≤ count * words
    w = one_inside count words some

    go : (b : Bool) → nat_lt j count ≡ b → Stands k words (place.Ranged space.Own at (at + count * words) d) (element_at count words j p) f
    go true c =
        let i : j * words + words ≤ count * words = element_inside j count words (ltb-true j count c) in
        let z : 0 + j * words ≡ j * words = omega arith in
        let x : slice_index f d ≡ j * words = e ∙ rw c z in
        let part : Stands k words (place.Fixed (at + j * words)) (part_at (record { from = j * words; to = (j + 1) * words }) p) f = part_stands k (count * words) words (record { from = j * words; to = (j + 1) * words }) (place.Fixed at) p f (next_element j words) (omega (arith, next_element j words, i)) h in
        rw c (fixed_in k words at (at + count * words) d (j * words) (part_at (record { from = j * words; to = (j + 1) * words }) p) f x (record { small = record { apart = far; index_small = omega (arith, i, small, w); range_small = omega (arith, small, w) }; inside = omega (arith, i) }) part)
    go false c =
        let x : slice_index f d ≡ count * words = e ∙ rw c refl in
        rw (c, x) (record { apart = far; index_small = omega (arith, small, w); range_small = omega (arith, small, w) }, omega arith)

-- the element of a place in a range
pub ranged_element : (k : Names) (count words : ℕ) (sp : Space) (from to index d j : ℕ) (p : Spot) (f : List ℕ) → variables_end k ≤ d → 0 < count → Stands k (count * words) (place.Ranged sp from to index) p f → slice_index f d ≡ chosen (slice_index f index) count words (to - from) j → Stands k words (place.Ranged sp from to d) (element_at count words j p) f
ranged_element k count words sp from to index d j p f far some h e = go (nat_lt j count) refl p h
  where
    w : words ≤ count * words
    w = one_inside count words some

    go : (b : Bool) → nat_lt j count ≡ b → (p : Spot) → Stands k (count * words) (place.Ranged sp from to index) p f → Stands k words (place.Ranged sp from to d) (element_at count words j p) f
    go true c (spot.Value ws) h =
        let i : j * words + words ≤ count * words = element_inside j count words (ltb-true j count c) in
        let x : slice_index f d ≡ slice_index f index + j * words = e ∙ rw c refl in
        let y : from + slice_index f index + j * words ≡ from + (slice_index f index + j * words) = omega arith in
        let part = part_in sp f (from + slice_index f index) (count * words) words (record { from = j * words; to = (j + 1) * words }) ws (next_element j words) (omega (arith, next_element j words, i)) h.1 in
        rw (c, x) (record { small = record { apart = far; index_small = omega (arith, i, h.0.small.index_small); range_small = omega (arith, w, h.0.small.range_small) }; inside = omega (arith, i, h.0.inside) }, subst (λ z. StandsIn sp f z words (words_in (record { from = j * words; to = (j + 1) * words }) ws)) y part)
    go true c (spot.At x' at) h =
        let i : j * words + words ≤ count * words = element_inside j count words (ltb-true j count c) in
        let x : slice_index f d ≡ slice_index f index + j * words = e ∙ rw c refl in
        rw (c, x) (record { small = record { apart = far; index_small = omega (arith, i, h.0.small.index_small); range_small = omega (arith, w, h.0.small.range_small) }; inside = omega (arith, i, h.0.inside) }, record { is_variable = h.1.is_variable; inside = omega (arith, i, h.1.inside); base = omega (arith, h.1.base) })
    go true c spot.Nowhere h =
        let i : j * words + words ≤ count * words = element_inside j count words (ltb-true j count c) in
        let x : slice_index f d ≡ slice_index f index + j * words = e ∙ rw c refl in
        rw (c, x) (record { apart = far; index_small = omega (arith, i, h.0.index_small); range_small = omega (arith, w, h.0.range_small) }, omega (arith, h.1))
    go false c (spot.Value ws) h =
        let x : slice_index f d ≡ to - from = e ∙ rw c refl in
        rw (c, x) (record { apart = far; index_small = omega (arith, w, h.0.small.range_small); range_small = omega (arith, w, h.0.small.range_small) }, omega arith)
    go false c (spot.At x' at) h =
        let x : slice_index f d ≡ to - from = e ∙ rw c refl in
        rw (c, x) (record { apart = far; index_small = omega (arith, w, h.0.small.range_small); range_small = omega (arith, w, h.0.small.range_small) }, omega arith)
    go false c spot.Nowhere h =
        let x : slice_index f d ≡ to - from = e ∙ rw c refl in
        rw (c, x) (record { apart = far; index_small = omega (arith, w, h.0.range_small); range_small = omega (arith, w, h.0.range_small) }, omega arith)

-- what is needed of a range's index, that a sum does not wrap
pub ranged_small : (k : Names) (n : ℕ) (sp : Space) (from to index : ℕ) (p : Spot) (f : List ℕ) → Stands k n (place.Ranged sp from to index) p f → slice_index f index + n ≤ 2 ^ 31
ranged_small k n sp from to index (spot.Value ws) f h = h.0.small.index_small
ranged_small k n sp from to index (spot.At x at) f h = h.0.small.index_small
ranged_small k n sp from to index spot.Nowhere f h = h.0.index_small

module _ (a : Around) (cs : Callees) (k : Names) (R : ℕ) where
  -- where an element's code leaves it
  pub element_leaves : (count words : ℕ) (w : Where) (p : Spot) (q d j : ℕ) (f : Site) (t : ℕ) → variables_end k ≤ d → 0 < count → count * words ≤ 2 ^ 30 → q < d → d + (count * words + 1) < R → length f.registers ≡ R → slice_index f.registers q ≡ j → LiesBelow d (count * words) w → Stands k (count * words) w p f.registers → Straight a cs (element_code count words w q d).ops d f t (λ after. Stands k words (element_code count words w q d).at (element_at count words j p) after × LiesBelow (d + (count * words + 1)) words (element_code count words w q d).at)
  element_leaves count words (place.Fixed at) p q d j f t far some small lt room n v l h =
      let x = index_puts a cs count words (count * words) q d f t lt (omega (arith, n)) (omega (arith, small)) in
      record { after = x.after; runs = x.runs; below = x.below; holds = (fixed_element k count words at d j p x.after far some small (stands_same a cs k d (count * words) (place.Fixed at) p f.registers x.after l x.below h) (x.holds ∙ ap (chosen 0 count words (count * words)) v), (omega arith, omega (arith, l))) }
  element_leaves count words (place.Held rs) p q d j f t far some small lt room n v l h = held_leaves p h
    where
      held_leaves : (p : Spot) → Stands k (count * words) (place.Held rs) p f.registers → Straight a cs (element_code count words (place.Held rs) q d).ops d f t (λ after. Stands k words (element_code count words (place.Held rs) q d).at (element_at count words j p) after × LiesBelow (d + (count * words + 1)) words (element_code count words (place.Held rs) q d).at)
      held_leaves (spot.Value ws) h =
          let c = each_puts a cs copy_op (λ r. slice_index f.registers r) d R f.registers f.shared (λ r. r < d) (λ r d' g u ok ge lt' n' b _.
          subst (λ z. Puts a cs (copy_op r d') d' z g u) (b.kept r ok) (copy_puts a cs r d' g u (omega (arith, n')))) rs l d f t (omega arith) (omega (arith, h.1)) n (below_same d f.registers) refl in
          let m : length (map (slice_index f.registers) rs) ≡ count * words = length-map rs (slice_index f.registers) ∙ h.1 in
          let fixed : Stands k (count * words) (place.Fixed d) (spot.Value ws) c.after = sym (run_reads c.after d (count * words)) ∙ subst (λ m. map (slice_index c.after) (run d m) ≡ map (slice_index f.registers) rs) m c.holds ∙ h.0 in
          let n' : length c.after ≡ R = c.below.count ∙ n in
          let x = index_puts a cs count words (count * words) q (d + count * words) (with f c.after) t (omega arith) (omega (arith, n')) (omega (arith, small)) in
          let vq : slice_index c.after q ≡ j = c.below.kept q lt ∙ v in
          straight_then a cs (copies rs d) (index_ops [] count words (count * words) q (d + count * words)) d (d + count * words) f t _ _ (omega arith) c (record { after = x.after; runs = x.runs; below = x.below; holds = (fixed_element k count words d (d + count * words) j (spot.Value ws) x.after (omega (arith, far)) some small (stands_same a cs k (d + count * words) (count * words) (place.Fixed d) (spot.Value ws) c.after x.after (omega arith) x.below fixed) (x.holds ∙ ap (chosen 0 count words (count * words)) vq), (omega arith, omega arith)) })
      held_leaves (spot.At x from) h = absurd h
      held_leaves spot.Nowhere h = absurd h
  element_leaves count words (place.Ranged sp from to index) p q d j f t far some small lt room n v l h =
      let s = ranged_small k (count * words) sp from to index p f.registers h in
      let x = index_puts_from a cs index count words (to - from) q d f t l.0 lt (omega (arith, n)) (omega (arith, s)) in
      let e : slice_index x.after d ≡ chosen (slice_index x.after index) count words (to - from) j = x.holds ∙ rw (v, x.below.kept index l.0) refl in
      record { after = x.after; runs = x.runs; below = x.below; holds = (ranged_element k count words sp from to index d j p x.after far some (stands_same a cs k d (count * words) (place.Ranged sp from to index) p f.registers x.after l x.below h) e, (omega arith, range_more sp d (d + (count * words + 1)) to (omega arith) l.1)) }
