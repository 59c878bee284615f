-- Numbers of first units.
use Rattle.std.proofs.Common.{◌≡◌, ℕ, zero, suc, ◌+◌, ◌*◌, ◌<◌, ◌≤◌, Bool, true, false, cond, List, [], ◌∷◌, ◌++◌, length, map, get_or, refl, sym, ap, ap₂, subst, ◌∙◌, ⊎_elim, arith, Option, Some, None, slice_get, unwrap_or}
use Rattle.std.specs.List.{range_with_len}
use Rattle.std.proofs.lemmas.Bool.{cases_lt}
use Rattle.std.proofs.lemmas.List.FromFn.{map-range_with_len_more, length-map-range_with_len, get_or-map-range_with_len}
use Rattle.std.proofs.lemmas.Option.{slice_get-get_or, slice_get_past}
use Rattle.wg_words.specs.Each.{Each}
use Rattle.wg_chains.specs.Rows.{leads, AreLinks}
use Rattle.wg_node_attributes.specs.declared.attributes.NodeAttrs.{NodeAttrs}
use Rattle.wg_shapes.specs.Level.{depth_declared, depth_if, top_level, top_levels}
use Rattle.wg_shapes.specs.Naming.{targets}
use Rattle.wg_shapes.proofs.Booleans.{each_at, each_of}
use Rattle.wg_shapes.proofs.Depths.{top_is}
use Rattle.wg_units.specs.Numbers.{first_unit, first_units}

-- ---- top levels

-- the top level of a node by the rows
pub one_top : (nodes : List NodeAttrs) (rows : List (List Bool)) (n top : ℕ) (a : NodeAttrs) (itself : Bool) → AreLinks nodes rows → n < length nodes → a ≡ get_or nodes n a → itself ≡ leads rows n n → top ≡ cond itself (depth_declared a) 0 → top ≡ top_level nodes n
one_top nodes rows n top a itself links lt is b t =
    t ∙ (ap (λ c. cond c (depth_declared a) 0) (b ∙ links.same n n)
    ∙ ap (λ d. cond (targets nodes n n) d 0) (sym (ap depth_if (slice_get-get_or nodes n a lt ∙ ap (λ x. Some x) (sym is)))))

pub low_tops : (nodes : List NodeAttrs) → Each (λ (a : NodeAttrs). depth_declared a ≤ 31) nodes → Each (λ top. top ≤ 31) (top_levels nodes)
low_tops nodes low = each_of (λ top. top ≤ 31) (top_levels nodes) (λ n d e. let t = top_is nodes n d e in let l = low_top n in omega (arith, t, l))
  where
    low_top : (n : ℕ) → top_level nodes n ≤ 31
    low_top n = few (targets nodes n n) (depth_if (slice_get nodes n)) (go (slice_get nodes n) refl)
      where
        go : (o : Option NodeAttrs) → slice_get nodes n ≡ o → depth_if o ≤ 31
        go None e = omega arith
        go (Some a) e = each_at (λ (a : NodeAttrs). depth_declared a ≤ 31) nodes n a low e

        few : (b : Bool) (d : ℕ) → d ≤ 31 → cond b d 0 ≤ 31
        few true d le = le
        few false d le = omega arith

pub count_tops : (nodes : List NodeAttrs) → length (top_levels nodes) ≡ length nodes
count_tops nodes = length-map-range_with_len (top_level nodes) 0 (length nodes)

-- one more in a list of what a function gives
pub one_more : (f : ℕ → ℕ) (n : ℕ) (list new : List ℕ) (x : ℕ) → list ≡ map f (range_with_len 0 n) → x ≡ f n → new ≡ list ++ x ∷ [] → new ≡ map f (range_with_len 0 (n + 1))
one_more f n list new x is found e = e ∙ (ap₂ (λ l y. l ++ y ∷ []) is found ∙ sym (map-range_with_len_more f 0 n n (omega arith)))

-- ---- first units

first_begins : (tops : List ℕ) → first_unit tops 0 ≡ 0
first_begins [] = refl
first_begins (top ∷ tops) = refl

first_goes_on : (tops : List ℕ) (n top : ℕ) → n < length tops → top ≡ get_or tops n 0 → first_unit tops (suc n) ≡ first_unit tops n + (top + 1)
first_goes_on [] n top lt is = absurd (omega (arith, lt))
first_goes_on (t ∷ tops) zero top lt is = let b = first_begins tops in omega (arith, b, is)
first_goes_on (t ∷ tops) (suc n) top lt is = let r = first_goes_on tops n top (omega (arith, lt)) is in omega (arith, r)

-- the unit after the last one of a node
pub next_first : (tops : List ℕ) (n at top new : ℕ) → n < length tops → top ≡ get_or tops n 0 → at ≡ first_unit tops n → new ≡ at + (top + 1) → new ≡ first_unit tops (n + 1)
next_first tops n at top new lt is e f =
    let g = first_goes_on tops n top lt is in
    let same : suc n ≡ n + 1 = omega arith in
    let h = ap (first_unit tops) same in
    omega (arith, e, f, g, h)

pub none_first : (tops : List ℕ) → 0 ≡ first_unit tops 0
none_first tops = sym (first_begins tops)

-- there are few units
pub first_low : (tops : List ℕ) (n : ℕ) → Each (λ top. top ≤ 31) tops → first_unit tops n ≤ 32 * n
first_low [] n low = omega arith
first_low (top ∷ tops) zero low = omega arith
first_low (top ∷ tops) (suc n) low = let r = first_low tops n low.1 in let l = low.0 in omega (arith, r, l)

pub one_low : (tops : List ℕ) (n top : ℕ) → Each (λ top. top ≤ 31) tops → n < length tops → top ≡ get_or tops n 0 → top ≤ 31
one_low tops n top low lt is = each_at (λ top. top ≤ 31) tops n top low (slice_get-get_or tops n 0 lt ∙ ap (λ t. Some t) (sym is))

-- ---- what tables have

pub first_there : (tops : List ℕ) (n : ℕ) → n < length tops → unwrap_or (slice_get (first_units tops) n) 0 ≡ first_unit tops n
first_there tops n lt =
    let l = length-map-range_with_len (first_unit tops) 0 (length tops) in
    ap (λ o. unwrap_or o 0) (slice_get-get_or (first_units tops) n 0 (omega (arith, l, lt))) ∙ get_or-map-range_with_len (first_unit tops) 0 (length tops) n n 0 lt (omega arith)

first_past : (tops : List ℕ) (n : ℕ) → length tops ≤ n → unwrap_or (slice_get (first_units tops) n) 0 ≡ 0
first_past tops n le = let l = length-map-range_with_len (first_unit tops) 0 (length tops) in ap (λ o. unwrap_or o 0) (slice_get_past (first_units tops) n (omega (arith, l, le)))

-- a node's first unit and its levels are within 8,192
pub number_small : (tops firsts : List ℕ) (n : ℕ) → firsts ≡ first_units tops → length tops ≤ 256 → Each (λ top. top ≤ 31) tops → unwrap_or (slice_get firsts n) 0 + unwrap_or (slice_get tops n) 0 ≤ 8191
number_small tops firsts n e few low = ⊎_elim here past (cases_lt n (length tops))
  where
    here : n < length tops → unwrap_or (slice_get firsts n) 0 + unwrap_or (slice_get tops n) 0 ≤ 8191
    here lt =
        let f = ap (λ l. unwrap_or (slice_get l n) 0) e ∙ first_there tops n lt in
        let l = first_low tops n low in
        let there = slice_get-get_or tops n 0 lt in
        let top : unwrap_or (slice_get tops n) 0 ≤ 31 = subst (λ o. unwrap_or o 0 ≤ 31) (sym there) (each_at (λ top. top ≤ 31) tops n (get_or tops n 0) low there) in
        omega (arith, f, l, top, lt, few)

    past : length tops ≤ n → unwrap_or (slice_get firsts n) 0 + unwrap_or (slice_get tops n) 0 ≤ 8191
    past le =
        let f = ap (λ l. unwrap_or (slice_get l n) 0) e ∙ first_past tops n le in
        let t = ap (λ o. unwrap_or o 0) (slice_get_past tops n le) in
        omega (arith, f, t)
