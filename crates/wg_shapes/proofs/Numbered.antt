-- Where the units of a graph stand: those of a node follow those of the nodes before it, by falling level.
use Rattle.std.proofs.Common.{◌≡◌, ℕ, zero, suc, ◌+◌, ◌-◌, ◌<◌, ◌≤◌, List, [], ◌∷◌, ◌++◌, refl, sym, ap, ◌∙◌, ◌⊎◌, inl, inr, ⊎_elim, arith, Some, slice_get}
use Rattle.std.proofs.lemmas.Bool.{cases_lt}
use Rattle.std.proofs.lemmas.Option.{same_Some}
use Rattle.wg_machine.specs.Unrolling.{levels, unrolled}

-- the number of a node's first unit, by the declared depths
abbrev pub first_unit : List ℕ → ℕ → ℕ
first_unit [] m = 0
first_unit (d ∷ ds) zero = 0
first_unit (d ∷ ds) (suc m) = d + 1 + first_unit ds m

-- a unit's number is that of a node, numbered from n on, at a level
pub record Stands (n : ℕ) (ds : List ℕ) (t : ℕ) (p : ℕ × ℕ) : Type 0 where
  pub number : ℕ
  pub depth : ℕ
  pub declared : slice_get ds number ≡ Some depth
  pub node : p.0 ≡ n + number
  pub within : p.1 ≤ depth
  pub place : t + p.1 ≡ first_unit ds number + depth

-- ---- the levels of one node

pub record InLevels (n d t : ℕ) (p : ℕ × ℕ) : Type 0 where
  pub node : p.0 ≡ n
  pub place : t + p.1 ≡ d

pub record PastLevels (d t : ℕ) (rest : List (ℕ × ℕ)) (p : ℕ × ℕ) : Type 0 where
  pub number : ℕ
  pub is : t ≡ d + 1 + number
  pub there : slice_get rest number ≡ Some p

in_levels : (n d : ℕ) (rest : List (ℕ × ℕ)) (t : ℕ) (p : ℕ × ℕ) → slice_get (levels n d ++ rest) t ≡ Some p → InLevels n d t p ⊎ PastLevels d t rest p
in_levels n zero rest zero p e = let q = same_Some (n, 0) p e in let l : p.1 ≡ 0 = ap (λ (q : ℕ × ℕ). q.1) (sym q) in inl (record { node = ap (λ (q : ℕ × ℕ). q.0) (sym q); place = omega (arith, l) })
in_levels n zero rest (suc t) p e = inr (record { number = t; is = omega arith; there = e })
in_levels n (suc d) rest zero p e = let q = same_Some (n, suc d) p e in let l : p.1 ≡ suc d = ap (λ (q : ℕ × ℕ). q.1) (sym q) in inl (record { node = ap (λ (q : ℕ × ℕ). q.0) (sym q); place = omega (arith, l) })
in_levels n (suc d) rest (suc t) p e =
    ⊎_elim
    (λ (h : InLevels n d t p). let l = h.place in inl (record { node = h.node; place = omega (arith, l) }))
    (λ (h : PastLevels d t rest p). let l = h.is in inr (record { number = h.number; is = omega (arith, l); there = h.there }))
    (in_levels n d rest t p e)

level_there : (n d level : ℕ) (rest : List (ℕ × ℕ)) → level ≤ d → slice_get (levels n d ++ rest) (d - level) ≡ Some (n, level)
level_there n zero zero rest le = refl
level_there n zero (suc level) rest le = absurd (omega (arith, le))
level_there n (suc d) level rest le = ⊎_elim (λ (l : level < suc d). later l (level_there n d level rest (omega (arith, l)))) here (cases_lt level (suc d))
  where
    here : suc d ≤ level → slice_get (levels n (suc d) ++ rest) (suc d - level) ≡ Some (n, level)
    here l =
        let z : suc d - level ≡ 0 = omega (arith, le, l) in
        let e : suc d ≡ level = omega (arith, le, l) in
        ap (λ k. slice_get (levels n (suc d) ++ rest) k) z ∙ ap (λ l. Some (n, l)) e

    later : level < suc d → slice_get (levels n d ++ rest) (d - level) ≡ Some (n, level) → slice_get (levels n (suc d) ++ rest) (suc d - level) ≡ Some (n, level)
    later l there = let z : suc d - level ≡ suc (d - level) = omega (arith, l) in ap (λ k. slice_get (levels n (suc d) ++ rest) k) z ∙ there

past_levels : (n d k : ℕ) (rest : List (ℕ × ℕ)) → slice_get (levels n d ++ rest) (suc d + k) ≡ slice_get rest k
past_levels n zero k rest = let z : 1 + k ≡ suc k = omega arith in ap (λ j. slice_get (levels n 0 ++ rest) j) z
past_levels n (suc d) k rest = let z : suc (suc d) + k ≡ suc (suc d + k) = omega arith in ap (λ j. slice_get (levels n (suc d) ++ rest) j) z ∙ past_levels n d k rest

-- ---- the units of all nodes

pub stands : (ds : List ℕ) (n t : ℕ) (p : ℕ × ℕ) → slice_get (unrolled n ds) t ≡ Some p → Stands n ds t p
stands [] n t p e = absurd cc
stands (d ∷ ds) n t p e =
    ⊎_elim
    (λ (h : InLevels n d t p). let a = h.node in let b = h.place in record { number = 0; depth = d; declared = refl; node = omega (arith, a); within = omega (arith, b); place = omega (arith, b) })
    (λ (h : PastLevels d t (unrolled (n + 1) ds) p). (let r = stands ds (n + 1) h.number p h.there in
    let i = h.is in let a = r.node in let b = r.place in
    record { number = suc r.number; depth = r.depth; declared = r.declared; node = omega (arith, a); within = r.within; place = omega (arith, i, b) }))
    (in_levels n d (unrolled (n + 1) ds) t p e)

pub unit_there : (ds : List ℕ) (n m d level : ℕ) → slice_get ds m ≡ Some d → level ≤ d → slice_get (unrolled n ds) (first_unit ds m + (d - level)) ≡ Some (n + m, level)
unit_there [] n m d level e le = absurd cc
unit_there (x ∷ ds) n zero d level e le =
    let s = same_Some x d e in
    let z : first_unit (x ∷ ds) 0 + (d - level) ≡ x - level = omega (arith, s) in
    ap (λ k. slice_get (levels n x ++ unrolled (n + 1) ds) k) z ∙ level_there n x level (unrolled (n + 1) ds) (omega (arith, s, le)) ∙ ap (λ k. Some (k, level)) (omega arith)
unit_there (x ∷ ds) n (suc m) d level e le =
    let z : first_unit (x ∷ ds) (suc m) + (d - level) ≡ suc x + (first_unit ds m + (d - level)) = omega arith in
    ap (λ k. slice_get (levels n x ++ unrolled (n + 1) ds) k) z ∙ past_levels n x (first_unit ds m + (d - level)) (unrolled (n + 1) ds)
    ∙ unit_there ds (n + 1) m d level e le ∙ ap (λ k. Some (k, level)) (omega arith)

-- two units at one node and level are one
pub one_unit : (ds : List ℕ) (n i j : ℕ) (p : ℕ × ℕ) → slice_get (unrolled n ds) i ≡ Some p → slice_get (unrolled n ds) j ≡ Some p → i ≡ j
one_unit ds n i j p e f =
    let a = stands ds n i p e in
    let b = stands ds n j p f in
    let an = a.node in let bn = b.node in
    let same : a.number ≡ b.number = omega (arith, an, bn) in
    let depth : a.depth ≡ b.depth = same_Some a.depth b.depth (sym a.declared ∙ ap (slice_get ds) same ∙ b.declared) in
    let first : first_unit ds a.number ≡ first_unit ds b.number = ap (first_unit ds) same in
    let i_is = a.place in let j_is = b.place in
    omega (arith, depth, first, i_is, j_is)

-- no unit of a node stands before the one at the declared depth
pub none_before : (ds : List ℕ) (n t v m d : ℕ) (p q : ℕ × ℕ) → slice_get ds m ≡ Some d → slice_get (unrolled n ds) t ≡ Some p → p.0 ≡ n + m → p.1 ≡ d → slice_get (unrolled n ds) v ≡ Some q → q.0 ≡ p.0 → t ≤ v
none_before ds n t v m d p q declared e node level f same =
    let a = stands ds n t p e in
    let b = stands ds n v q f in
    let an = a.node in let bn = b.node in
    let aw = a.within in let bw = b.within in
    let here : a.number ≡ m = omega (arith, an, node) in
    let there : b.number ≡ m = omega (arith, bn, node, same) in
    let one : a.depth ≡ d = same_Some a.depth d (sym a.declared ∙ ap (slice_get ds) here ∙ declared) in
    let other : b.depth ≡ d = same_Some b.depth d (sym b.declared ∙ ap (slice_get ds) there ∙ declared) in
    let first : first_unit ds a.number ≡ first_unit ds b.number = ap (first_unit ds) (here ∙ sym there) in
    let i = a.place in let j = b.place in
    omega (arith, one, other, first, i, j, level, bw)
