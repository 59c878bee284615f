-- A round of depths, and what the last round says.
use Rattle.std.proofs.Common.{◌≡◌, ◌≢◌, ℕ, zero, suc, ◌+◌, ◌-◌, ◌<◌, ◌≤◌, min, max, Bool, true, false, cond, not, ◌&&◌, ◌==◌, List, [], ◌∷◌, ◌++◌, length, length-append, get_or, refl, sym, ap, ap₂, subst, subst₂, ◌∙◌, eq-eqb, ne_eqb, ◌⊎◌, inl, inr, ⊎_elim, arith, IsTrue, Option, Some, None, slice_get, unwrap_or, true≢false}
use Rattle.std.proofs.lemmas.Bool.{cases_Bool, cases_lt, cond-true, cond-false}
use Rattle.std.proofs.lemmas.Option.{same_Some, slice_get-get_or, slice_get_within}
use Rattle.wg_node_attributes.specs.declared.attributes.NodeAttrs.{NodeAttrs}
use Rattle.wg_shapes.specs.Chain.{Chain, alone, onward, IsLongest}
use Rattle.wg_shapes.specs.ChainTooLong.{EndsLongChain}
use Rattle.wg_shapes.specs.Level.{Sends, depth_if, top_level}
use Rattle.wg_shapes.specs.Naming.{targets, targets_of}
use Rattle.wg_chains.specs.Arrived.{lower_levels, last_of, lower_in, last_in, deeper_of, IsArrived, IsReached, AreReached}
use Rattle.wg_chains.specs.Rows.{leads, AreLinks}
use Rattle.wg_chains.proofs.Squares.{within_row}

-- ---- chains

-- a chain has shorter ones at its end
shorter : {A : Type 0} (R : A → A → Type 0) (m j : ℕ) (x : A) → Chain R m x → 1 ≤ j → j ≤ m → Chain R j x
shorter R m zero x c least le = absurd (omega (arith, least))
shorter R m (suc zero) x c least le = alone
shorter R m (suc (suc j)) x alone least le = absurd (omega (arith, le))
shorter R m (suc (suc j)) x (onward {n = n} {x = y} c step) least le = onward (shorter R n (suc j) y c (omega arith) (omega (arith, le))) step

record LastStep (nodes : List NodeAttrs) (n : ℕ) (y : ℕ × ℕ) : Type 0 where
  units : ℕ
  from : ℕ × ℕ
  is : n ≡ suc units
  chain : Chain (Sends nodes) units from
  step : Sends nodes from y

last_step : (nodes : List NodeAttrs) (n : ℕ) (y : ℕ × ℕ) → Chain (Sends nodes) n y → (n ≡ 1) ⊎ LastStep nodes n y
last_step nodes n y alone = inl refl
last_step nodes n y (onward {n = m} {x = x} chain step) = inr (record { units = m; from = x; is = refl; chain = chain; step = step })

-- a chain that ends at a level of a node, seen from the node's first unit
record Climbed (nodes : List NodeAttrs) (y : ℕ × ℕ) (m : ℕ) : Type 0 where
  units : ℕ
  chain : Chain (Sends nodes) units (y.0, top_level nodes y.0)
  most : m ≤ units + (top_level nodes y.0 - y.1)
  own : (m ≤ units) ⊎ IsTrue (targets nodes y.0 y.0)

climb : (nodes : List NodeAttrs) (m : ℕ) (y : ℕ × ℕ) → Chain (Sends nodes) m y → Climbed nodes y m
climb nodes m y alone = record { units = 1; chain = alone; most = omega arith; own = inl (omega arith) }
climb nodes m y (onward {n = n} {x = x} c step) = ⊎_elim (own (climb nodes n x c)) other step.arrives
  where
    own : Climbed nodes x n → ((y.0 ≡ x.0) × (y.1 + 1 ≡ x.1)) → Climbed nodes y (suc n)
    own h same =
        let top : top_level nodes x.0 ≡ top_level nodes y.0 = ap (top_level nodes) (sym same.0) in
        let l = step.level in let below = same.1 in let more = h.most in
        record {
          units = h.units;
          chain = subst (λ k. Chain (Sends nodes) h.units (k, top_level nodes k)) (sym same.0) h.chain;
          most = omega (arith, top, l, below, more);
          own = inr (subst (λ k. IsTrue (targets nodes k y.0)) (sym same.0) step.target);
        }

    other : ((y.0 ≢ x.0) × (y.1 ≡ top_level nodes y.0)) → Climbed nodes y (suc n)
    other apart = record {
      units = suc n;
      chain = subst (λ l. Chain (Sends nodes) (suc n) (y.0, l)) apart.1 (onward c step);
      most = omega arith;
      own = inl (omega arith);
    }

-- no chain is longer at a lower level than by the lower levels
climbed : (nodes : List NodeAttrs) (m : ℕ) (y : ℕ × ℕ) (h : Climbed nodes y m) → m ≤ h.units + lower_levels nodes y.0
climbed nodes m y h = ⊎_elim (λ (le : m ≤ h.units). omega (arith, le)) own h.own
  where
    own : IsTrue (targets nodes y.0 y.0) → m ≤ h.units + lower_levels nodes y.0
    own t =
        let e = cond-true (targets nodes y.0 y.0) (top_level nodes y.0) 0 t in
        let most = h.most in
        omega (arith, e, most)

-- a chain to a node's first unit goes on to its lower levels
descend : (nodes : List NodeAttrs) (n m j : ℕ) → IsTrue (targets nodes n n) → j ≤ top_level nodes n → Chain (Sends nodes) m (n, top_level nodes n) → Chain (Sends nodes) (m + j) (n, top_level nodes n - j)
descend nodes n m zero t le c =
    let e : m + 0 ≡ m = omega arith in let f : top_level nodes n - 0 ≡ top_level nodes n = omega arith in
    subst (λ k. Chain (Sends nodes) k (n, top_level nodes n - 0)) (sym e) (subst (λ l. Chain (Sends nodes) m (n, l)) (sym f) c)
descend nodes n m (suc j) t le c =
    let e : m + suc j ≡ suc (m + j) = omega arith in
    subst (λ k. Chain (Sends nodes) k (n, top_level nodes n - suc j)) (sym e)
    (onward (descend nodes n m j t (omega (arith, le)) c) (record { level = omega arith; target = t; arrives = inl (refl, omega (arith, le)) }))

-- a chain that ends at a node's last unit
record AtLast (nodes : List NodeAttrs) (n m : ℕ) : Type 0 where
  level : ℕ
  within : level ≤ top_level nodes n
  chain : Chain (Sends nodes) m (n, level)

at_last : (nodes : List NodeAttrs) (n m : ℕ) → Chain (Sends nodes) m (n, top_level nodes n) → AtLast nodes n (m + lower_levels nodes n)
at_last nodes n m c = ⊎_elim yes no (cases_Bool (targets nodes n n))
  where
    yes : targets nodes n n ≡ true → AtLast nodes n (m + lower_levels nodes n)
    yes t =
        let e = cond-true (targets nodes n n) (top_level nodes n) 0 t in
        subst (λ k. AtLast nodes n (m + k)) (sym e) (record { level = top_level nodes n - top_level nodes n; within = omega arith; chain = descend nodes n m (top_level nodes n) t (omega arith) c })

    no : targets nodes n n ≡ false → AtLast nodes n (m + lower_levels nodes n)
    no f =
        let e = cond-false (targets nodes n n) (top_level nodes n) 0 f in
        let z : m ≡ m + 0 = omega arith in
        subst (λ k. AtLast nodes n (m + k)) (sym e) (record { level = top_level nodes n; within = omega arith; chain = subst (λ k. Chain (Sends nodes) k (n, top_level nodes n)) z c })

-- ---- rounds

depth_at : (nodes : List NodeAttrs) (depths : List ℕ) (k i m : ℕ) → AreReached nodes k depths → IsTrue (targets nodes i m) → IsReached nodes k i (unwrap_or (slice_get depths i) 0)
depth_at nodes depths k i m r t = go (slice_get depths i) refl
  where
    inside : (o : Option NodeAttrs) → slice_get nodes i ≡ o → IsTrue (targets_of nodes o m) → i < length nodes
    inside None e t = absurd (true≢false (sym t))
    inside (Some a) e t = slice_get_within nodes i a e

    go : (o : Option ℕ) → slice_get depths i ≡ o → IsReached nodes k i (unwrap_or (slice_get depths i) 0)
    go (Some d) e = subst (λ o. IsReached nodes k i (unwrap_or o 0)) (sym e) (r.each i d e)
    go None e =
        let l = inside (slice_get nodes i) refl t in
        let c = r.count in
        let some = slice_get-get_or depths i 0 (omega (arith, l, c)) in
        absurd (let x = sym e ∙ some in cc)

pub first_round : (nodes : List NodeAttrs) (n : ℕ) → IsReached nodes 0 n 1
first_round nodes n = record { chain = alone; longest = λ m c. omega arith }

pub next_round : (nodes : List NodeAttrs) (depths : List ℕ) (k n d : ℕ) → AreReached nodes k depths → IsArrived nodes depths n d → IsReached nodes (suc k) n d
next_round nodes depths k n d r a = record { chain = ⊎_elim one more a.from; longest = longest }
  where
    one : d ≡ 1 → Chain (Sends nodes) d (n, top_level nodes n)
    one e = subst (λ j. Chain (Sends nodes) j (n, top_level nodes n)) (sym e) alone

    more : ((i : ℕ) × (i ≢ n) × IsTrue (targets nodes i n) × (d ≤ suc (last_of nodes depths i))) → Chain (Sends nodes) d (n, top_level nodes n)
    more s =
        let reached = depth_at nodes depths k s.0 n r s.2 in
        let l = at_last nodes s.0 (unwrap_or (slice_get depths s.0) 0) reached.chain in
        shorter (Sends nodes) (suc (last_of nodes depths s.0)) d (n, top_level nodes n)
        (onward l.chain (record { level = l.within; target = s.2; arrives = inr ((λ e. s.1 (sym e)), refl) })) a.least s.3

    longest : (m : ℕ) → Chain (Sends nodes) m (n, top_level nodes n) → min 33 (min m (suc (suc k))) ≤ d
    longest m c = ⊎_elim (λ (e : m ≡ 1). (let l = a.least in omega (arith, e, l))) last (last_step nodes m (n, top_level nodes n) c)
      where
        last : LastStep nodes m (n, top_level nodes n) → min 33 (min m (suc (suc k))) ≤ d
        last s = ⊎_elim own other s.step.arrives
          where
            own : ((n ≡ s.from.0) × (top_level nodes n + 1 ≡ s.from.1)) → min 33 (min m (suc (suc k))) ≤ d
            own same =
                let l = s.step.level in let e = same.1 in let t = ap (top_level nodes) same.0 in
                absurd (omega (arith, l, e, t))

            other : ((n ≢ s.from.0) × (top_level nodes n ≡ top_level nodes n)) → min 33 (min m (suc (suc k))) ≤ d
            other apart =
                let reached = depth_at nodes depths k s.from.0 n r s.step.target in
                let h = climb nodes s.units s.from s.chain in
                let most = climbed nodes s.units s.from h in
                let is = s.is in
                let known = reached.longest h.units h.chain in
                let above = a.above s.from.0 (λ e. apart.0 (sym e)) s.step.target in
                omega (arith, most, is, known, above)

-- ---- the last round

pub long_there : (nodes : List NodeAttrs) (n d : ℕ) → IsReached nodes 32 n d → 32 < d + lower_levels nodes n → EndsLongChain nodes n
long_there nodes n d r lt =
    let l = at_last nodes n d r.chain in
    record { level = l.level; units = d + lower_levels nodes n; long = lt; chain = l.chain }

pub none_long : (nodes : List NodeAttrs) (n d : ℕ) → IsReached nodes 32 n d → d + lower_levels nodes n ≤ 32 → EndsLongChain nodes n → ⊥
none_long nodes n d r le e =
    let h = climb nodes e.units (n, e.level) e.chain in
    let most = climbed nodes e.units (n, e.level) h in
    let known = r.longest h.units h.chain in
    let long = e.long in
    omega (arith, most, known, long, le)

-- ---- lower levels

-- a node with more than one level targets itself
more_levels : (nodes : List NodeAttrs) (n : ℕ) → 0 < top_level nodes n → IsTrue (targets nodes n n)
more_levels nodes n lt = go (targets nodes n n) refl lt
  where
    go : (b : Bool) → targets nodes n n ≡ b → 0 < cond b (depth_if (slice_get nodes n)) 0 → targets nodes n n ≡ true
    go true e lt = e
    go false e lt = absurd (omega (arith, lt))

chain_at : (nodes : List NodeAttrs) (n d level : ℕ) → Chain (Sends nodes) d (n, top_level nodes n) → level ≤ top_level nodes n → Chain (Sends nodes) (d + (top_level nodes n - level)) (n, level)
chain_at nodes n d level c le = ⊎_elim lower same (cases_lt level (top_level nodes n))
  where
    lower : level < top_level nodes n → Chain (Sends nodes) (d + (top_level nodes n - level)) (n, level)
    lower lt =
        let e : top_level nodes n - (top_level nodes n - level) ≡ level = omega (arith, le) in
        subst (λ l. Chain (Sends nodes) (d + (top_level nodes n - level)) (n, l)) e (descend nodes n d (top_level nodes n - level) (more_levels nodes n (omega (arith, lt))) (omega arith) c)

    same : top_level nodes n ≤ level → Chain (Sends nodes) (d + (top_level nodes n - level)) (n, level)
    same ge =
        let e : top_level nodes n ≡ level = omega (arith, le, ge) in
        let f : d ≡ d + (top_level nodes n - level) = omega (arith, ge) in
        subst₂ (λ k l. Chain (Sends nodes) k (n, l)) f e c

-- the longest chain to a unit of a lower level has so many units more
pub longest_at : (nodes : List NodeAttrs) (n d level : ℕ) → IsReached nodes 32 n d → (EndsLongChain nodes n → ⊥) → level ≤ top_level nodes n → IsLongest (Sends nodes) (d + (top_level nodes n - level)) (n, level)
longest_at nodes n d level r none le = record { chain = chain_at nodes n d level r.chain le; longest = longest }
  where
    longest : (m : ℕ) → Chain (Sends nodes) m (n, level) → m ≤ d + (top_level nodes n - level)
    longest m x =
        let h = climb nodes m (n, level) x in
        let most = h.most in
        let known = r.longest h.units h.chain in
        ⊎_elim
        (λ (lt : 32 < d + (top_level nodes n - level)). absurd (none (record { level = level; units = d + (top_level nodes n - level); long = lt; chain = chain_at nodes n d level r.chain le })))
        (λ (short : d + (top_level nodes n - level) ≤ 32). omega (arith, most, known, short))
        (cases_lt 32 (d + (top_level nodes n - level)))

-- ---- one depth, found node by node

pub record Arriving (nodes : List NodeAttrs) (depths : List ℕ) (n i best : ℕ) : Type 0 where
  pub least : 1 ≤ best
  pub most : best ≤ 33
  pub above : (k : ℕ) → k < i → k ≢ n → IsTrue (targets nodes k n) → min 33 (suc (last_of nodes depths k)) ≤ best
  pub from : (best ≡ 1) ⊎ ((k : ℕ) × (k ≢ n) × IsTrue (targets nodes k n) × (best ≤ suc (last_of nodes depths k)))

same_last : (nodes : List NodeAttrs) (rows : List (List Bool)) (depths : List ℕ) (n : ℕ) → AreLinks nodes rows → last_in nodes rows depths n ≡ last_of nodes depths n
same_last nodes rows depths n links =
    ap (λ b. unwrap_or (slice_get depths n) 0 + cond b (depth_if (slice_get nodes n)) 0) (links.same n n)
    ∙ ap (λ d. unwrap_or (slice_get depths n) 0 + d) (twice (targets nodes n n) (depth_if (slice_get nodes n)))
  where
    twice : (b : Bool) (d : ℕ) → cond b d 0 ≡ cond b (cond b d 0) 0
    twice true d = refl
    twice false d = refl

pub none_arriving : (nodes : List NodeAttrs) (depths : List ℕ) (n : ℕ) → Arriving nodes depths n 0 1
none_arriving nodes depths n = record { least = omega arith; most = omega arith; above = λ k lt. absurd (omega (arith, lt)); from = inl refl }

pub next_arriving : (nodes : List NodeAttrs) (rows : List (List Bool)) (depths : List ℕ) (n i best last new : ℕ) (counts : Bool) → AreLinks nodes rows → counts ≡ (not (i == n) && leads rows i n) → last ≡ last_in nodes rows depths i → new ≡ deeper_of best counts last
    → Arriving nodes depths n i best → Arriving nodes depths n (i + 1) new
next_arriving nodes rows depths n i best last new counts links c l e h = ⊎_elim yes no (cases_Bool counts)
  where
    last_is : last ≡ last_of nodes depths i
    last_is = l ∙ same_last nodes rows depths i links

    counted : counts ≡ (not (i == n) && targets nodes i n)
    counted = c ∙ ap (λ b. not (i == n) && b) (links.same i n)

    apart : counts ≡ true → i ≢ n
    apart t same = true≢false (sym t ∙ (counted ∙ ap (λ b. not b && targets nodes i n) (eq-eqb i n same)))

    second : (a b : Bool) → (a && b) ≡ true → b ≡ true
    second true b t = t
    second false b t = absurd (true≢false (sym t))

    yes : counts ≡ true → Arriving nodes depths n (i + 1) new
    yes t =
        let is = e ∙ cond-true counts (max best (min 33 (suc last))) best t in
        let least = h.least in let most = h.most in
        record {
          least = omega (arith, is, least);
          most = omega (arith, is, most);
          above = λ k lt other target. ⊎_elim
              (λ (below : k < i). (let a = h.above k below other target in omega (arith, is, a)))
              (λ (le : i ≤ k). (let same : k ≡ i = omega (arith, lt, le) in let m = ap (last_of nodes depths) same in omega (arith, is, m, last_is)))
              (cases_lt k i);
          from = ⊎_elim
              (λ (lt : best < new). inr (i, apart t, second (not (i == n)) (targets nodes i n) (sym counted ∙ t), omega (arith, lt, is, last_is)))
              (λ (le : new ≤ best). ⊎_elim (λ (one : best ≡ 1). inl (omega (arith, one, is, le))) (λ s. (let b = s.3 in inr (s.0, s.1, s.2, omega (arith, b, le)))) h.from)
              (cases_lt best new);
        }

    no : counts ≡ false → Arriving nodes depths n (i + 1) new
    no f =
        let is = e ∙ cond-false counts (max best (min 33 (suc last))) best f in
        subst (Arriving nodes depths n (i + 1)) (sym is) (record {
          least = h.least;
          most = h.most;
          above = λ k lt other target. ⊎_elim
              (λ (below : k < i). h.above k below other target)
              (λ (le : i ≤ k). (let same : k ≡ i = omega (arith, lt, le) in
              absurd (true≢false (sym (ap₂ (λ a b. not a && b) (ne_eqb i n (λ x. other (same ∙ x))) (sym (ap (λ m. targets nodes m n) same) ∙ target)) ∙ (sym counted ∙ f)))))
              (cases_lt k i);
          from = h.from;
        })

pub arrived : (nodes : List NodeAttrs) (depths : List ℕ) (n i d : ℕ) → length nodes ≤ i → Arriving nodes depths n i d → IsArrived nodes depths n d
arrived nodes depths n i d le h = record {
  least = h.least;
  above = λ k other target. h.above k (let lt = inside (slice_get nodes k) refl target in omega (arith, lt, le)) other target;
  from = h.from;
}
  where
    inside : {k : ℕ} (o : Option NodeAttrs) → slice_get nodes k ≡ o → IsTrue (targets_of nodes o n) → k < length nodes
    inside None e t = absurd (true≢false (sym t))
    inside {k} (Some a) e t = slice_get_within nodes k a e

-- ---- lists of depths

pub record RoundFilled (nodes : List NodeAttrs) (depths : List ℕ) (n : ℕ) (next : List ℕ) : Type 0 where
  pub count : length next ≡ n
  pub each : (m d : ℕ) → slice_get next m ≡ Some d → IsArrived nodes depths m d

pushed : (xs : List ℕ) (y m d : ℕ) → slice_get (xs ++ y ∷ []) m ≡ Some d → (slice_get xs m ≡ Some d) ⊎ ((m ≡ length xs) × (y ≡ d))
pushed [] y zero d e = inr (refl, same_Some y d e)
pushed [] y (suc m) d e = absurd cc
pushed (x ∷ xs) y zero d e = inl e
pushed (x ∷ xs) y (suc m) d e = ⊎_elim (λ h. inl h) (λ (h : (m ≡ length xs) × (y ≡ d)). inr (ap suc h.0, h.1)) (pushed xs y m d e)

pub round_none : (nodes : List NodeAttrs) (depths next : List ℕ) → next ≡ [] → RoundFilled nodes depths 0 next
round_none nodes depths next e = record { count = ap length e; each = λ m d f. absurd (let g = sym (ap (λ l. slice_get l m) e) ∙ f in none m d g) }
  where
    none : (m d : ℕ) → slice_get {X = ℕ} [] m ≡ Some d → ⊥
    none m d e = cc

pub round_more : (nodes : List NodeAttrs) (depths : List ℕ) (n : ℕ) (next new : List ℕ) (y : ℕ) → RoundFilled nodes depths n next → IsArrived nodes depths n y → new ≡ next ++ y ∷ [] → RoundFilled nodes depths (n + 1) new
round_more nodes depths n next new y h a e = record {
  count = let c = h.count in let l = ap length e in let p = length-append next (y ∷ []) in omega (arith, c, l, p);
  each = λ m d f. ⊎_elim
      (λ g. h.each m d g)
      (λ (g : (m ≡ length next) × (y ≡ d)). subst₂ (IsArrived nodes depths) (sym (g.0 ∙ h.count)) g.1 a)
      (pushed next y m d (sym (ap (λ l. slice_get l m) e) ∙ f));
}

pub round_done : (nodes : List NodeAttrs) (depths : List ℕ) (n : ℕ) (next : List ℕ) → n ≡ length nodes → RoundFilled nodes depths n next → (k : ℕ) → AreReached nodes k depths → AreReached nodes (suc k) next
round_done nodes depths n next e h k r = record { count = h.count ∙ e; each = λ m d f. next_round nodes depths k m d r (h.each m d f) }

pub record Ones (n : ℕ) (depths : List ℕ) : Type 0 where
  pub count : length depths ≡ n
  pub each : (m d : ℕ) → slice_get depths m ≡ Some d → d ≡ 1

pub ones_none : (depths : List ℕ) → depths ≡ [] → Ones 0 depths
ones_none depths e = record { count = ap length e; each = λ m d f. absurd (none m d (sym (ap (λ l. slice_get l m) e) ∙ f)) }
  where
    none : (m d : ℕ) → slice_get {X = ℕ} [] m ≡ Some d → ⊥
    none m d e = cc

pub ones_more : (n : ℕ) (depths new : List ℕ) → Ones n depths → new ≡ depths ++ 1 ∷ [] → Ones (n + 1) new
ones_more n depths new h e = record {
  count = let c = h.count in let l = ap length e in let p = length-append depths (1 ∷ []) in omega (arith, c, l, p);
  each = λ m d f. ⊎_elim (λ g. h.each m d g) (λ (g : (m ≡ length depths) × (1 ≡ d)). sym g.1) (pushed depths 1 m d (sym (ap (λ l. slice_get l m) e) ∙ f));
}

pub ones_done : (nodes : List NodeAttrs) (n : ℕ) (depths : List ℕ) → n ≡ length nodes → Ones n depths → AreReached nodes 0 depths
ones_done nodes n depths e h = record { count = h.count ∙ e; each = λ m d f. subst (IsReached nodes 0 m) (sym (h.each m d f)) (first_round nodes m) }

-- ---- the first node with a long chain

depth_there : (nodes : List NodeAttrs) (depths : List ℕ) (n : ℕ) → AreReached nodes 32 depths → n < length nodes → IsReached nodes 32 n (unwrap_or (slice_get depths n) 0)
depth_there nodes depths n r lt =
    let c = r.count in
    let there = slice_get-get_or depths n 0 (omega (arith, c, lt)) in
    subst (λ o. IsReached nodes 32 n (unwrap_or o 0)) (sym there) (r.each n (get_or depths n 0) there)

pub is_long : (nodes : List NodeAttrs) (rows : List (List Bool)) (depths : List ℕ) (n last : ℕ) → AreLinks nodes rows → AreReached nodes 32 depths → n < length nodes → last ≡ last_in nodes rows depths n → 32 < last → EndsLongChain nodes n
is_long nodes rows depths n last links r lt is more = let e = is ∙ same_last nodes rows depths n links in long_there nodes n (unwrap_or (slice_get depths n) 0) (depth_there nodes depths n r lt) (omega (arith, e, more))

pub is_short : (nodes : List NodeAttrs) (rows : List (List Bool)) (depths : List ℕ) (n : ℕ) → AreLinks nodes rows → AreReached nodes 32 depths → n < length nodes → last_in nodes rows depths n ≤ 32 → EndsLongChain nodes n → ⊥
is_short nodes rows depths n links r lt le = let e = same_last nodes rows depths n links in none_long nodes n (unwrap_or (slice_get depths n) 0) (depth_there nodes depths n r lt) (omega (arith, e, le))

-- past the nodes no chain is long
none_past : (nodes : List NodeAttrs) (rows : List (List Bool)) (n : ℕ) → AreLinks nodes rows → length nodes ≤ n → EndsLongChain nodes n → ⊥
none_past nodes rows n links le e = ⊎_elim (λ (one : e.units ≡ 1). (let l = e.long in omega (arith, one, l))) last (last_step nodes e.units (n, e.level) e.chain)
  where
    last : LastStep nodes e.units (n, e.level) → ⊥
    last s = let lt = within_row (length nodes) rows s.from.0 n links.square (links.same s.from.0 n ∙ s.step.target) in omega (arith, lt, le)

pub none_is_long : (nodes : List NodeAttrs) (rows : List (List Bool)) (depths : List ℕ) (i : ℕ) → AreLinks nodes rows → AreReached nodes 32 depths → length nodes ≤ i → ((m : ℕ) → m < i → last_in nodes rows depths m ≤ 32) → (n : ℕ) → EndsLongChain nodes n → ⊥
none_is_long nodes rows depths i links r le short n e = ⊎_elim
    (λ (lt : n < length nodes). is_short nodes rows depths n links r lt (short n (omega (arith, lt, le))) e)
    (λ (past : length nodes ≤ n). none_past nodes rows n links past e)
    (cases_lt n (length nodes))
