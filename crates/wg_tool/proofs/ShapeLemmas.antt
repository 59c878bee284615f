-- The shape of a graph of the first form is a good one.
use Rattle.std.proofs.Common.{◌≡◌, ℕ, zero, suc, ◌+◌, ◌<◌, ◌≤◌, Bool, true, false, List, [], ◌∷◌, ◌++◌, length, Option, Some, None, refl, ap, sym, ◌∙◌, subst, arith, append_assoc, drop, get_or}
use Rattle.std.specs.Prelude.{IsTrue, ⊤, ◌||◌, ◌==◌, nat_lt, map, filter, slice_get}
use Rattle.std.proofs.lemmas.Bool.Decides.{nat_tests}
use Rattle.std.proofs.lemmas.List.{append-nil, at_drop_more}
use Rattle.std.proofs.lemmas.List.Elements.{filter-append}
use Rattle.std.proofs.lemmas.Option.{none-some}
use Rattle.wg_words.specs.Each.{Each}
use Rattle.wg_machine.specs.declared.shape.Unit.{Unit}
use Rattle.wg_machine.specs.Need.{is_target, greatest}
use Rattle.wg_machine.specs.Unrolling.{sends_to, depth_of}
use Rattle.wg_tool.proofs.PartLemmas.{and_both}
use Rattle.wg_tool.specs.Wiring.{unit_of, later_units, units_of, goes_later, are_later}

-- no depth is above a number
abbrev pub AreShallow : ℕ → List Unit → Type 0
AreShallow n us = Each (λ (u : Unit). u.depth ≤ n) us

shallow_more : (m n : ℕ) (us : List Unit) → m ≤ n → AreShallow m us → AreShallow n us
shallow_more m n [] h s = tt
shallow_more m n (u ∷ us) h s = (let d = s.0 in omega arith, shallow_more m n us h s.1)

shallow_push : (n : ℕ) (us : List Unit) (u : Unit) → AreShallow n us → u.depth ≤ n → AreShallow n (us ++ u ∷ [])
shallow_push n [] u s h = (h, tt)
shallow_push n (x ∷ us) u s h = (s.0, shallow_push n us u s.1 h)

shallow_greatest : (n v : ℕ) (us : List Unit) → AreShallow n us → greatest (map (λ (u : Unit). u.depth) (filter (sends_to v) us)) ≤ n
shallow_greatest n v [] s = omega arith
shallow_greatest n v (u ∷ us) s = choice (sends_to v u) refl (shallow_greatest n v us s.1)
  where
    choice : (b : Bool) → sends_to v u ≡ b → greatest (map (λ (x : Unit). x.depth) (filter (sends_to v) us)) ≤ n → greatest (map (λ (x : Unit). x.depth) (filter (sends_to v) (u ∷ us))) ≤ n
    choice true e h = rw e (let d = s.0 in omega arith)
    choice false e h = rw e h

-- a unit is at most one deeper than those before it
pub shallow_depth : (n v : ℕ) (us : List Unit) → AreShallow n us → depth_of us v ≤ n + 1
shallow_depth n v us s = let h = shallow_greatest n v us s in omega arith

pub shallow_next : (all : List (Option ℕ)) (us : List Unit) (k : ℕ) (t : Option ℕ) → AreShallow k us → AreShallow (k + 1) (us ++ unit_of all k (depth_of us k) t ∷ [])
shallow_next all us k t s = shallow_push (k + 1) us (unit_of all k (depth_of us k) t) (shallow_more k (k + 1) us (omega arith) s) (shallow_depth k k us s)

pub shallow_units : (all : List (Option ℕ)) (built : List Unit) (k n : ℕ) (ts : List (Option ℕ)) → AreShallow k built → k + length ts ≤ n → AreShallow n (later_units all built k ts)
shallow_units all built k n [] s h = tt
shallow_units all built k n (t ∷ ts) s h =
    (let d = shallow_depth k k built s in omega arith, shallow_units all (built ++ unit_of all k (depth_of built k) t ∷ []) (k + 1) n ts (shallow_next all built k t s) (omega arith))

-- one more unit
pub units_step : (ts : List (Option ℕ)) (us : List Unit) (k : ℕ) → k < length ts → us ++ later_units ts us k (drop k ts) ≡ units_of ts
    → (us ++ unit_of ts k (depth_of us k) (get_or ts k None) ∷ []) ++ later_units ts (us ++ unit_of ts k (depth_of us k) (get_or ts k None) ∷ []) (k + 1) (drop (k + 1) ts) ≡ units_of ts
units_step ts us k h e =
    let u = unit_of ts k (depth_of us k) (get_or ts k None) in
    let next : later_units ts us k (drop k ts) ≡ u ∷ later_units ts (us ++ u ∷ []) (k + 1) (drop (k + 1) ts) = at_drop_more (later_units ts us k) ts k None h in
    append_assoc us (u ∷ []) (later_units ts (us ++ u ∷ []) (k + 1) (drop (k + 1) ts)) ∙ (ap (λ (l : List Unit). us ++ l) (sym next) ∙ e)

or_false : (b : Bool) → (b || false) ≡ b
or_false true = refl
or_false false = refl

-- a unit of a target sends there alone
pub unit_sends : (all : List (Option ℕ)) (k d v : ℕ) (t : Option ℕ) → sends_to v (unit_of all k d t) ≡ is_target v t
unit_sends all k d v None = refl
unit_sends all k d v (Some x) = or_false ((x == v) || false) ∙ or_false (x == v)

-- nothing from a unit on sends to it or to one before it
none_back : (n k v : ℕ) (all : List (Option ℕ)) (built : List Unit) (ts : List (Option ℕ)) → IsTrue (are_later n k ts) → v ≤ k → filter (sends_to v) (later_units all built k ts) ≡ []
none_back n k v all built [] l h = refl
none_back n k v all built (t ∷ ts) l h =
    let parts = and_both (goes_later n k t) (are_later n (k + 1) ts) l in
    let u = unit_of all k (depth_of built k) t in
    let not_here : sends_to v u ≡ false = unit_sends all k (depth_of built k) v t ∙ misses t parts.0 in
    rw not_here (none_back n (k + 1) v all (built ++ u ∷ []) ts parts.1 (omega arith))
  where
    misses : (o : Option ℕ) → IsTrue (goes_later n k o) → is_target v o ≡ false
    misses None g = refl
    misses (Some x) g = let p = and_both (nat_lt k x) (nat_lt x n) g in let less = p.0 in grind (arith, nat_tests)

-- each unit's depth is that over all units
abbrev pub AreDeep : List Unit → ℕ → List Unit → Type 0
AreDeep whole k [] = ⊤
AreDeep whole k (u ∷ us) = (u.depth ≡ depth_of whole k) × AreDeep whole (k + 1) us

pub are_deep : (n k : ℕ) (all : List (Option ℕ)) (built : List Unit) (ts : List (Option ℕ)) → IsTrue (are_later n k ts) → AreDeep (built ++ later_units all built k ts) k (later_units all built k ts)
are_deep n k all built [] l = tt
are_deep n k all built (t ∷ ts) l =
    let parts = and_both (goes_later n k t) (are_later n (k + 1) ts) l in
    let u = unit_of all k (depth_of built k) t in
    let tail = later_units all (built ++ u ∷ []) (k + 1) ts in
    let later : filter (sends_to k) (u ∷ tail) ≡ [] = none_back n k k all built (t ∷ ts) l (omega arith) in
    let same : filter (sends_to k) (built ++ u ∷ tail) ≡ filter (sends_to k) built = filter-append (sends_to k) built (u ∷ tail) ∙ (ap (λ (l : List Unit). filter (sends_to k) built ++ l) later ∙ append-nil (filter (sends_to k) built)) in
    let here : depth_of built k ≡ depth_of (built ++ u ∷ tail) k = ap (λ (l : List Unit). greatest (map (λ (x : Unit). x.depth) l) + 1) (sym same) in
    (here, subst (λ (whole : List Unit). AreDeep whole (k + 1) tail) (append_assoc built (u ∷ []) tail) (are_deep n (k + 1) all (built ++ u ∷ []) ts parts.1))

pub deep_at : (whole : List Unit) (k i : ℕ) (us : List Unit) (u : Unit) → AreDeep whole k us → slice_get us i ≡ Some u → u.depth ≡ depth_of whole (k + i)
deep_at whole k i [] u d e = absurd (none-some u e)
deep_at whole k zero (x ∷ us) u d e =
    let same : x ≡ u = cc in
    let z : k + zero ≡ k = omega arith in
    rw z (subst (λ (y : Unit). y.depth ≡ depth_of whole k) same d.0)
deep_at whole k (suc i) (x ∷ us) u d e =
    let z : k + suc i ≡ k + 1 + i = omega arith in
    rw z (deep_at whole (k + 1) i us u d.1 e)

-- a unit by its number
pub record IsUnitOf (all : List (Option ℕ)) (ts : List (Option ℕ)) (k i : ℕ) (u : Unit) : Type 0 where
  pub depth : ℕ
  pub target : Option ℕ
  pub at : slice_get ts i ≡ Some target
  pub is : u ≡ unit_of all (k + i) depth target

pub unit_at : (all : List (Option ℕ)) (built : List Unit) (k i : ℕ) (ts : List (Option ℕ)) (u : Unit) → slice_get (later_units all built k ts) i ≡ Some u → IsUnitOf all ts k i u
unit_at all built k i [] u e = absurd (none-some u e)
unit_at all built k zero (t ∷ ts) u e =
    let z : k + zero ≡ k = omega arith in
    record { depth = depth_of built k; target = t; at = refl; is = rw z (let same : unit_of all k (depth_of built k) t ≡ u = cc in sym same) }
unit_at all built k (suc i) (t ∷ ts) u e =
    let h = unit_at all (built ++ unit_of all k (depth_of built k) t ∷ []) (k + 1) i ts u e in
    let z : k + suc i ≡ k + 1 + i = omega arith in
    record { depth = h.depth; target = h.target; at = h.at; is = rw z h.is }

pub length_units : (all : List (Option ℕ)) (built : List Unit) (k : ℕ) (ts : List (Option ℕ)) → length (later_units all built k ts) ≡ length ts
length_units all built k [] = refl
length_units all built k (t ∷ ts) = let h = length_units all (built ++ unit_of all k (depth_of built k) t ∷ []) (k + 1) ts in omega (arith, h)

-- a unit is deeper than one that sends to it
pub deeper_than : (us : List Unit) (i v : ℕ) (u : Unit) → slice_get us i ≡ Some u → IsTrue (sends_to v u) → u.depth < depth_of us v
deeper_than [] i v u e s = absurd (none-some u e)
deeper_than (x ∷ us) zero v u e s =
    let same : x ≡ u = cc in
    let sends : sends_to v x ≡ true = ap (λ (y : Unit). sends_to v y) same ∙ s in
    let depth : x.depth ≡ u.depth = ap (λ (y : Unit). y.depth) same in
    rw sends (omega arith)
deeper_than (x ∷ us) (suc i) v u e s = choice (sends_to v x) refl (deeper_than us i v u e s)
  where
    choice : (b : Bool) → sends_to v x ≡ b → u.depth < depth_of us v → u.depth < depth_of (x ∷ us) v
    choice true t h = rw t (omega arith)
    choice false t h = rw t h

pub later_at : (n k i : ℕ) (ts : List (Option ℕ)) (t : ℕ) → IsTrue (are_later n k ts) → slice_get ts i ≡ Some (Some t) → (k + i < t) × (t < n)
later_at n k i [] t l e = absurd (none-some (Some t) e)
later_at n k zero (o ∷ ts) t l e =
    let same : o ≡ Some t = cc in
    let parts = and_both (goes_later n k o) (are_later n (k + 1) ts) l in
    let here : IsTrue (goes_later n k (Some t)) = subst (λ (x : Option ℕ). IsTrue (goes_later n k x)) same parts.0 in
    let p = and_both (nat_lt k t) (nat_lt t n) here in
    let low = p.0 in
    let high = p.1 in
    (grind (arith, nat_tests), grind (arith, nat_tests))
later_at n k (suc i) (o ∷ ts) t l e =
    let parts = and_both (goes_later n k o) (are_later n (k + 1) ts) l in
    let h = later_at n (k + 1) i ts t parts.1 e in
    (omega arith, h.1)
