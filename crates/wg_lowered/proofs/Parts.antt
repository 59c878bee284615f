-- Parts of places, and elements by an index.
use Rattle.std.proofs.Common.{◌≡◌, ℕ, zero, suc, ◌+◌, ◌-◌, ◌*◌, ◌<◌, ◌≤◌, ◌^◌, List, [], ◌∷◌, map, length, take, drop, Bool, true, false, refl, sym, ap, ◌∙◌, arith}
use Rattle.std.proofs.lemmas.Bool.{ltb-true}
use Rattle.std.proofs.lemmas.List.{length-take-le, length-drop, take-map, drop-map}
use Rattle.std.proofs.Math.Nat.{mod-eq_of_lt}
use Rattle.std.specs.declared.cmp.Ordering.TheVariants as order
use Rattle.std.specs.Prelude.{slice_index, ◌==◌, nat_lt, cond, if◌then◌else◌}
use Rattle.wg_words.specs.Words.{sum_of, product_of, order_u}
use Rattle.wg_words.specs.Truth.{truth, is_true, is_less_order}
use Rattle.wg_typed.specs.Layout.{Range, words_in}
use Rattle.wg_semantics.specs.Places.{words_from, part_at}
use Rattle.wg_semantics.specs.declared.state.Spot.{Spot}
use Rattle.wg_semantics.specs.declared.state.Spot.TheVariants as spot
use Rattle.wg_code.specs.Lane.{Around, Site}
use Rattle.wg_code.specs.Flow.{Callees}
use Rattle.wg_code.specs.Operators.{binary}
use Rattle.wg_code.specs.declared.op.Op.{Op}
use Rattle.wg_code.specs.declared.op.Op.TheVariants as o
use Rattle.wg_lowered.specs.Where.{Names}
use Rattle.wg_lowered.specs.declared.places.Where.{Where}
use Rattle.wg_lowered.specs.declared.places.Where.TheVariants as place
use Rattle.wg_lowered.specs.declared.places.Space.{Space}
use Rattle.wg_lowered.specs.declared.places.Space.TheVariants as space
use Rattle.wg_lowered.specs.Where.{part_of, index_ops, run}
use Rattle.wg_lowered.proofs.Ops.{ops_one, does_If}
use Rattle.wg_lowered.specs.Holding.{Below}
use Rattle.wg_lowered.proofs.Straight.{Every, Straight, straight_then, Puts, set_puts, binary_puts, with}
use Rattle.wg_lowered.proofs.Registers.{run_below, run_below_if, run_reads, reads_same}
use Rattle.wg_lowered.proofs.Values.{Stands, StandsIn, LiesBelow}

-- ---- parts of words

pub drop_from : (xs : List ℕ) (at n m : ℕ) → m ≤ n → drop m (words_from xs at n) ≡ words_from xs (at + m) (n - m)
drop_from xs at n zero le = let e : at + 0 ≡ at = omega arith in let f : n - 0 ≡ n = omega arith in rw (e, f) refl
drop_from xs at zero (suc m) le = absurd (let h : ⊥ = omega arith in h)
drop_from xs at (suc n) (suc m) le =
    let e : suc at + m ≡ at + suc m = omega arith in
    let f : suc n - suc m ≡ n - m = omega arith in
    drop_from xs (suc at) n m (omega arith) ∙ rw (e, f) refl

pub take_from : (xs : List ℕ) (at n m : ℕ) → m ≤ n → take m (words_from xs at n) ≡ words_from xs at m
take_from xs at n zero le = refl
take_from xs at zero (suc m) le = absurd (let h : ⊥ = omega arith in h)
take_from xs at (suc n) (suc m) le = ap (λ l. slice_index xs at ∷ l) (take_from xs (suc at) n m (omega arith))

pub in_from : (xs : List ℕ) (at n m : ℕ) (r : Range) → r.from + m ≡ r.to → r.to ≤ n → words_in r (words_from xs at n) ≡ words_from xs (at + r.from) m
in_from xs at n m r e le =
    let f : r.to - r.from ≡ m = omega (arith, e) in
    rw (f, drop_from xs at n r.from (omega (arith, e))) (take_from xs (at + r.from) (n - r.from) m (omega (arith, e)))

pub in_map : (g : ℕ → ℕ) (r : Range) (rs : List ℕ) → words_in r (map g rs) ≡ map g (words_in r rs)
in_map g r rs = rw (drop-map g r.from rs, take-map g (r.to - r.from) (drop r.from rs)) refl

every_drop : (P : ℕ → Type 0) (n : ℕ) (l : List ℕ) → Every P l → Every P (drop n l)
every_drop P zero l h = h
every_drop P (suc n) [] h = tt
every_drop P (suc n) (x ∷ l) h = every_drop P n l h.1

every_take : (P : ℕ → Type 0) (n : ℕ) (l : List ℕ) → Every P l → Every P (take n l)
every_take P zero l h = tt
every_take P (suc n) [] h = tt
every_take P (suc n) (x ∷ l) h = (h.0, every_take P n l h.1)

pub in_length : (n m : ℕ) (r : Range) (rs : List ℕ) → r.from + m ≡ r.to → r.to ≤ n → length rs ≡ n → length (words_in r rs) ≡ m
in_length n m r rs e le c =
    let f : r.to - r.from ≡ m = omega (arith, e) in
    rw f (length-take-le m (drop r.from rs) (rw (length-drop r.from rs) (omega (arith, e, c))))

pub part_in : (sp : Space) (f : List ℕ) (at n m : ℕ) (r : Range) (words : List ℕ) → r.from + m ≡ r.to → r.to ≤ n → StandsIn sp f at n words → StandsIn sp f (at + r.from) m (words_in r words)
part_in space.Own f at n m r words e le h = sym (in_from f at n m r e le) ∙ ap (words_in r) h
part_in space.Group f at n m r words e le h = h

-- a part of a place stands where the code says
pub part_stands : (k : Names) (n m : ℕ) (r : Range) (w : Where) (p : Spot) (f : List ℕ) → r.from + m ≡ r.to → r.to ≤ n → Stands k n w p f → Stands k m (part_of r w) (part_at r p) f
part_stands k n m r (place.Fixed at) (spot.Value words) f e le h = sym (in_from f at n m r e le) ∙ ap (words_in r) h
part_stands k n m r (place.Fixed at) (spot.At x from) f e le h = record { is_variable = h.is_variable; inside = omega (arith, e, h.inside); base = omega (arith, h.base) }
part_stands k n m r (place.Fixed at) spot.Nowhere f e le h = h
part_stands k n m r (place.Held rs) (spot.Value words) f e le h = (sym (in_map (slice_index f) r rs) ∙ ap (words_in r) h.0, in_length n m r rs e le h.1)
part_stands k n m r (place.Held rs) (spot.At x from) f e le h = h
part_stands k n m r (place.Held rs) spot.Nowhere f e le h = h
part_stands k n m r (place.Ranged sp from to i) (spot.Value words) f e le h = (
  record { small = record { apart = h.0.small.apart; index_small = omega (arith, e, h.0.small.index_small); range_small = omega (arith, e, h.0.small.range_small) }; inside = omega (arith, e, h.0.inside) },
  (let c : from + r.from + slice_index f i ≡ from + slice_index f i + r.from = omega arith in rw c (part_in sp f (from + slice_index f i) n m r words e le h.1)),
)
part_stands k n m r (place.Ranged sp from to i) (spot.At x at) f e le h = (
  record { small = record { apart = h.0.small.apart; index_small = omega (arith, e, h.0.small.index_small); range_small = omega (arith, e, h.0.small.range_small) }; inside = omega (arith, e, h.0.inside) },
  record { is_variable = h.1.is_variable; inside = omega (arith, e, h.1.inside); base = omega (arith, h.1.base) },
)
part_stands k n m r (place.Ranged sp from to i) spot.Nowhere f e le h =
    (record { apart = h.0.apart; index_small = omega (arith, e, h.0.index_small); range_small = omega (arith, e, h.0.range_small) }, omega (arith, h.1))

pub part_lies : (d n m : ℕ) (r : Range) (w : Where) → r.from + m ≡ r.to → r.to ≤ n → LiesBelow d n w → LiesBelow d m (part_of r w)
part_lies d n m r (place.Fixed at) e le h = omega (arith, e, h)
part_lies d n m r (place.Held rs) e le h = every_take (λ x. x < d) (r.to - r.from) (drop r.from rs) (every_drop (λ x. x < d) r.from rs h)
part_lies d n m r (place.Ranged sp from to i) e le h = h

-- ---- an element by an index

pub truth_true : (b : Bool) → is_true (truth b) ≡ b
truth_true true = refl
truth_true false = refl

pub less_is : (a b : ℕ) → is_less_order (order_u a b) ≡ nat_lt a b
less_is a b = go (nat_lt a b) (a == b)
  where
    go : (x y : Bool) → is_less_order (cond x order.Less (cond y order.Equal order.Greater)) ≡ x
    go true y = refl
    go false true = refl
    go false false = refl

pub product_small : (a b : ℕ) → a * b < 2 ^ 32 → product_of 32 a b ≡ a * b
product_small a b lt = mod-eq_of_lt lt

pub sum_small : (a b : ℕ) → a + b < 2 ^ 32 → sum_of 32 a b ≡ a + b
sum_small a b lt = mod-eq_of_lt lt

below_product : (j count words : ℕ) → j < count → count * words < 2 ^ 32 → j * words < 2 ^ 32
below_product j count words lt small = grind arith

-- an element lies in its array
pub element_inside : (j count words : ℕ) → j < count → j * words + words ≤ count * words
element_inside j count words lt = grind arith

pub next_element : (j words : ℕ) → j * words + words ≡ (j + 1) * words
next_element j words = grind arith

pub one_inside : (count words : ℕ) → 0 < count → words ≤ count * words
one_inside count words lt = grind arith

plus_none : (n : ℕ) → n ≡ 0 + n
plus_none n = omega arith

abbrev pub chosen : ℕ → ℕ → ℕ → ℕ → ℕ → ℕ
chosen base size words outside j = if nat_lt j size then base + j * words else outside

module _ (a : Around) (cs : Callees) where
  pub if_straight : (r : ℕ) (x y : List Op) (d : ℕ) (f : Site) (t : ℕ) (P : List ℕ → Type 0) → (is_true (slice_index f.registers r) ≡ true → Straight a cs x d f t P) → (is_true (slice_index f.registers r) ≡ false → Straight a cs y d f t P) → Straight a cs (o.If r x y ∷ []) d f t P
  if_straight r x y d f t P p q = go (is_true (slice_index f.registers r)) refl
    where
      go : (b : Bool) → is_true (slice_index f.registers r) ≡ b → Straight a cs (o.If r x y ∷ []) d f t P
      go true e = let z = p e in record { after = z.after; runs = ops_one a cs _ _ f t (does_If a cs r x y) ∙ rw e z.runs; below = z.below; holds = z.holds }
      go false e = let z = q e in record { after = z.after; runs = ops_one a cs _ _ f t (does_If a cs r x y) ∙ rw e z.runs; below = z.below; holds = z.holds }

  -- where the element stands, from the start of its range
  pub index_puts : (count words outside q d : ℕ) (f : Site) (t : ℕ) → q < d → d < length f.registers → count * words < 2 ^ 32 → Puts a cs (index_ops [] count words outside q d) d (chosen 0 count words outside (slice_index f.registers q)) f t
  index_puts count words outside q d f t lt room small =
      let x = set_puts a cs count d f t room in
      let y = binary_puts a cs 14 q d d (with f x.after) t (omega (arith, room, x.below.count)) in
      let j = slice_index f.registers q in
      let v : slice_index y.after d ≡ truth (is_less_order (order_u (slice_index f.registers q) count)) = y.holds ∙ rw (x.below.kept q lt, x.holds) refl in
      let jq : slice_index y.after q ≡ slice_index f.registers q = y.below.kept q lt ∙ x.below.kept q lt in
      let n : length y.after ≡ length f.registers = y.below.count ∙ x.below.count in
      let test : is_true (slice_index y.after d) ≡ nat_lt (slice_index f.registers q) count = ap is_true v ∙ truth_true (is_less_order (order_u (slice_index f.registers q) count)) ∙ less_is (slice_index f.registers q) count in
      let z = if_straight d (o.Set d words ∷ o.Binary 2 d q d ∷ []) (o.Set d outside ∷ []) d (with f y.after) t (λ after. slice_index after d ≡ chosen 0 count words outside (slice_index f.registers q)) (λ e.
      let i : nat_lt (slice_index f.registers q) count ≡ true = sym test ∙ e in
      let l : slice_index f.registers q < count = ltb-true (slice_index f.registers q) count i in
      let b : slice_index f.registers q * words < 2 ^ 32 = below_product (slice_index f.registers q) count words l small in
      let x1 = set_puts a cs words d (with f y.after) t (omega (arith, n, room)) in
      let y1 = binary_puts a cs 2 q d d (with f x1.after) t (omega (arith, n, room, x1.below.count)) in
      let r : slice_index y1.after d ≡ chosen 0 count words outside (slice_index f.registers q) = y1.holds ∙ rw (x1.below.kept q lt, x1.holds, jq, i) (product_small (slice_index f.registers q) words b ∙ plus_none (slice_index f.registers q * words)) in
      straight_then a cs (o.Set d words ∷ []) (o.Binary 2 d q d ∷ []) d d (with f y.after) t (λ after. slice_index after d ≡ words) (λ after. slice_index after d ≡ chosen 0 count words outside (slice_index f.registers q)) (omega arith) x1 (record { after = y1.after; runs = y1.runs; below = y1.below; holds = r })) (λ e.
      let i : nat_lt (slice_index f.registers q) count ≡ false = sym test ∙ e in
      let x1 = set_puts a cs outside d (with f y.after) t (omega (arith, n, room)) in
      record { after = x1.after; runs = x1.runs; below = x1.below; holds = x1.holds ∙ rw i refl }) in
      straight_then a cs (o.Set d count ∷ []) (o.Binary 14 d q d ∷ o.If d (o.Set d words ∷ o.Binary 2 d q d ∷ []) (o.Set d outside ∷ []) ∷ []) d d f t (λ after. slice_index after d ≡ count) (λ after. slice_index after d ≡ chosen 0 count words outside (slice_index f.registers q)) (omega arith) x (straight_then a cs (o.Binary 14 d q d ∷ []) (o.If d (o.Set d words ∷ o.Binary 2 d q d ∷ []) (o.Set d outside ∷ []) ∷ []) d d (with f x.after) t (λ after. slice_index after d ≡ binary 32 14 (slice_index x.after q) (slice_index x.after d)) (λ after. slice_index after d ≡ chosen 0 count words outside (slice_index f.registers q)) (omega arith) y z)

  pub index_puts_from : (base count words outside q d : ℕ) (f : Site) (t : ℕ) → base < d → q < d → d < length f.registers → slice_index f.registers base + count * words < 2 ^ 32 → Puts a cs (index_ops (o.Binary 0 d base d ∷ []) count words outside q d) d (chosen (slice_index f.registers base) count words outside (slice_index f.registers q)) f t
  index_puts_from base count words outside q d f t bt lt room small =
      let x = set_puts a cs count d f t room in
      let y = binary_puts a cs 14 q d d (with f x.after) t (omega (arith, room, x.below.count)) in
      let j = slice_index f.registers q in
      let v : slice_index y.after d ≡ truth (is_less_order (order_u (slice_index f.registers q) count)) = y.holds ∙ rw (x.below.kept q lt, x.holds) refl in
      let jq : slice_index y.after q ≡ slice_index f.registers q = y.below.kept q lt ∙ x.below.kept q lt in
      let n : length y.after ≡ length f.registers = y.below.count ∙ x.below.count in
      let test : is_true (slice_index y.after d) ≡ nat_lt (slice_index f.registers q) count = ap is_true v ∙ truth_true (is_less_order (order_u (slice_index f.registers q) count)) ∙ less_is (slice_index f.registers q) count in
      let z = if_straight d (o.Set d words ∷ o.Binary 2 d q d ∷ o.Binary 0 d base d ∷ []) (o.Set d outside ∷ []) d (with f y.after) t (λ after. slice_index after d ≡ chosen (slice_index f.registers base) count words outside (slice_index f.registers q)) (λ e.
      let i : nat_lt (slice_index f.registers q) count ≡ true = sym test ∙ e in
      let l : slice_index f.registers q < count = ltb-true (slice_index f.registers q) count i in
      let b : slice_index f.registers q * words + words ≤ count * words = element_inside (slice_index f.registers q) count words l in
      let x1 = set_puts a cs words d (with f y.after) t (omega (arith, n, room)) in
      let y1 = binary_puts a cs 2 q d d (with f x1.after) t (omega (arith, n, room, x1.below.count)) in
      let z1 = binary_puts a cs 0 base d d (with f y1.after) t (omega (arith, n, room, x1.below.count, y1.below.count)) in
      let r : slice_index y1.after d ≡ slice_index f.registers q * words = y1.holds ∙ rw (x1.below.kept q lt, x1.holds, jq) (product_small (slice_index f.registers q) words (omega (arith, small, b))) in
      let bq : slice_index y1.after base ≡ slice_index f.registers base = y1.below.kept base bt ∙ x1.below.kept base bt ∙ y.below.kept base bt ∙ x.below.kept base bt in
      let w : slice_index z1.after d ≡ chosen (slice_index f.registers base) count words outside (slice_index f.registers q) = z1.holds ∙ rw (bq, r, i) (sum_small (slice_index f.registers base) (slice_index f.registers q * words) (omega (arith, small, b))) in
      straight_then a cs (o.Set d words ∷ []) (o.Binary 2 d q d ∷ o.Binary 0 d base d ∷ []) d d (with f y.after) t (λ after. slice_index after d ≡ words) (λ after. slice_index after d ≡ chosen (slice_index f.registers base) count words outside (slice_index f.registers q)) (omega arith) x1 (straight_then a cs (o.Binary 2 d q d ∷ []) (o.Binary 0 d base d ∷ []) d d (with f x1.after) t (λ after. slice_index after d ≡ binary 32 2 (slice_index x1.after q) (slice_index x1.after d)) (λ after. slice_index after d ≡ chosen (slice_index f.registers base) count words outside (slice_index f.registers q)) (omega arith) y1 (record { after = z1.after; runs = z1.runs; below = z1.below; holds = w }))) (λ e.
      let i : nat_lt (slice_index f.registers q) count ≡ false = sym test ∙ e in
      let x1 = set_puts a cs outside d (with f y.after) t (omega (arith, n, room)) in
      record { after = x1.after; runs = x1.runs; below = x1.below; holds = x1.holds ∙ rw i refl }) in
      straight_then a cs (o.Set d count ∷ []) (o.Binary 14 d q d ∷ o.If d (o.Set d words ∷ o.Binary 2 d q d ∷ o.Binary 0 d base d ∷ []) (o.Set d outside ∷ []) ∷ []) d d f t (λ after. slice_index after d ≡ count) (λ after. slice_index after d ≡ chosen (slice_index f.registers base) count words outside (slice_index f.registers q)) (omega arith) x (straight_then a cs (o.Binary 14 d q d ∷ []) (o.If d (o.Set d words ∷ o.Binary 2 d q d ∷ o.Binary 0 d base d ∷ []) (o.Set d outside ∷ []) ∷ []) d d (with f x.after) t (λ after. slice_index after d ≡ binary 32 14 (slice_index x.after q) (slice_index x.after d)) (λ after. slice_index after d ≡ chosen (slice_index f.registers base) count words outside (slice_index f.registers q)) (omega arith) y z)

  -- what stands in registers below, read later
  pub stands_same : (k : Names) (d n : ℕ) (w : Where) (p : Spot) (old new : List ℕ) → LiesBelow d n w → Below d old new → Stands k n w p old → Stands k n w p new
  stands_same k d n (place.Fixed at) (spot.Value words) old new l b h = sym (run_reads new at n) ∙ reads_same d old new (run at n) b (run_below at n d l) ∙ run_reads old at n ∙ h
  stands_same k d n (place.Fixed at) (spot.At x from) old new l b h = h
  stands_same k d n (place.Fixed at) spot.Nowhere old new l b h = h
  stands_same k d n (place.Held rs) (spot.Value words) old new l b h = (reads_same d old new rs b l ∙ h.0, h.1)
  stands_same k d n (place.Held rs) (spot.At x from) old new l b h = h
  stands_same k d n (place.Held rs) spot.Nowhere old new l b h = h
  stands_same k d n (place.Ranged space.Own from to i) (spot.Value words) old new l b h =
      rw (b.kept i l.0) (h.0, sym (run_reads new (from + slice_index old i) n) ∙ reads_same d old new (run (from + slice_index old i) n) b (run_below_if (from + slice_index old i) n d (λ some. omega (arith, some, h.0.inside, l.1))) ∙ run_reads old (from + slice_index old i) n ∙ h.1)
  stands_same k d n (place.Ranged space.Group from to i) (spot.Value words) old new l b h = absurd h.1
  stands_same k d n (place.Ranged sp from to i) (spot.At x at) old new l b h = rw (b.kept i l.0) h
  stands_same k d n (place.Ranged sp from to i) spot.Nowhere old new l b h = rw (b.kept i l.0) h
