-- Rows of flags that are made one flag, or one row, after another.
use Rattle.std.proofs.Common.{◌≡◌, ℕ, zero, suc, ◌+◌, ◌<◌, ◌≤◌, Bool, true, false, cond, not, ◌&&◌, ◌||◌, ◌==◌, List, [], ◌∷◌, ◌++◌, length, length-append, refl, sym, ap, ap₂, subst, ◌∙◌, ⊎_elim, arith, IsTrue, Option, Some, None, slice_get, get_or, unwrap_or, true≢false}
use Rattle.std.proofs.lemmas.Bool.{cases_lt}
use Rattle.std.proofs.lemmas.Option.{slice_get_past, slice_get-get_or, slice_get_within}
use Rattle.wg_words.specs.Each.{Each}
use Rattle.wg_node_attributes.specs.declared.attributes.NodeAttrs.{NodeAttrs}
use Rattle.wg_shapes.specs.Cycle.{joins, recurs_if}
use Rattle.wg_shapes.specs.Naming.{targets, targets_of}
use Rattle.wg_chains.specs.Arrived.{IsFirstOrNone}
use Rattle.wg_chains.specs.Rows.{flag, flag_in, leads, AreLinks, IsSquare}

-- ---- one row

pub record Filled (f : ℕ → Bool) (n : ℕ) (row : List Bool) : Type 0 where
  pub size : length row ≡ n
  pub flags : (j : ℕ) → j < n → flag row j ≡ f j

pub flag_past : (row : List Bool) (j : ℕ) → length row ≤ j → flag row j ≡ false
flag_past row j le = ap (λ o. unwrap_or o false) (slice_get_past row j le)

in_front : {A : Type 0} (xs ys : List A) (j : ℕ) → j < length xs → slice_get (xs ++ ys) j ≡ slice_get xs j
in_front [] ys j lt = absurd (omega (arith, lt))
in_front (x ∷ xs) ys zero lt = refl
in_front (x ∷ xs) ys (suc j) lt = in_front xs ys j (omega (arith, lt))

at_end : {A : Type 0} (xs : List A) (y : A) (j : ℕ) → j ≡ length xs → slice_get (xs ++ y ∷ []) j ≡ Some y
at_end [] y zero e = refl
at_end [] y (suc j) e = absurd (omega (arith, e))
at_end (x ∷ xs) y zero e = absurd (omega (arith, e))
at_end (x ∷ xs) y (suc j) e = at_end xs y j (omega (arith, e))

pub filled_none : (f : ℕ → Bool) (row : List Bool) → row ≡ [] → Filled f 0 row
filled_none f row e = record { size = ap length e; flags = λ j lt. absurd (omega (arith, lt)) }

pub filled_more : (f : ℕ → Bool) (n : ℕ) (row new : List Bool) (x : Bool) → Filled f n row → x ≡ f n → new ≡ row ++ x ∷ [] → Filled f (n + 1) new
filled_more f n row new x h is e = record {
  size = let s = h.size in let l = ap length e in let a = length-append row (x ∷ []) in omega (arith, s, l, a);
  flags = λ j lt. ⊎_elim
      (λ (below : j < n). ap (λ r. flag r j) e ∙ (ap (λ o. unwrap_or o false) (in_front row (x ∷ []) j (let s = h.size in omega (arith, s, below))) ∙ h.flags j below))
      (λ (le : n ≤ j). (let s = h.size in let same : j ≡ n = omega (arith, lt, le) in ap (λ r. flag r j) e ∙ (ap (λ o. unwrap_or o false) (at_end row x j (omega (arith, s, same))) ∙ (is ∙ ap f (sym same)))))
      (cases_lt j n);
}

pub filled_all : (f : ℕ → Bool) (n : ℕ) (row : List Bool) → Filled f n row → ((j : ℕ) → n ≤ j → f j ≡ false) → (j : ℕ) → flag row j ≡ f j
filled_all f n row h past j = ⊎_elim (λ lt. h.flags j lt) (λ le. flag_past row j (let s = h.size in omega (arith, s, le)) ∙ sym (past j le)) (cases_lt j n)

-- ---- rows

pub record RowsFilled (g : ℕ → ℕ → Bool) (size n : ℕ) (rows : List (List Bool)) : Type 0 where
  pub count : length rows ≡ n
  pub sizes : Each (λ (row : List Bool). length row ≡ size) rows
  pub flags : (i : ℕ) → i < n → (j : ℕ) → leads rows i j ≡ g i j

pub rows_none : (g : ℕ → ℕ → Bool) (size : ℕ) (rows : List (List Bool)) → rows ≡ [] → RowsFilled g size 0 rows
rows_none g size rows e = record { count = ap length e; sizes = subst (Each (λ (row : List Bool). length row ≡ size)) (sym e) tt; flags = λ i lt. absurd (omega (arith, lt)) }

each_push : (size : ℕ) (rows : List (List Bool)) (row : List Bool) → Each (λ (r : List Bool). length r ≡ size) rows → length row ≡ size → Each (λ (r : List Bool). length r ≡ size) (rows ++ row ∷ [])
each_push size [] row all e = (e, tt)
each_push size (r ∷ rows) row all e = (all.0, each_push size rows row all.1 e)

pub rows_more : (g : ℕ → ℕ → Bool) (size n : ℕ) (rows new : List (List Bool)) (row : List Bool) → RowsFilled g size n rows → length row ≡ size → ((j : ℕ) → flag row j ≡ g n j) → new ≡ rows ++ row ∷ [] → RowsFilled g size (n + 1) new
rows_more g size n rows new row h sized is e = record {
  count = let s = h.count in let l = ap length e in let a = length-append rows (row ∷ []) in omega (arith, s, l, a);
  sizes = subst (Each (λ (r : List Bool). length r ≡ size)) (sym e) (each_push size rows row h.sizes sized);
  flags = λ i lt j. ⊎_elim
      (λ (below : i < n). ap (λ r. leads r i j) e ∙ (ap (λ o. flag_in o j) (in_front rows (row ∷ []) i (let s = h.count in omega (arith, s, below))) ∙ h.flags i below j))
      (λ (le : n ≤ i). (let s = h.count in let same : i ≡ n = omega (arith, lt, le) in ap (λ r. leads r i j) e ∙ (ap (λ o. flag_in o j) (at_end rows row i (omega (arith, s, same))) ∙ (is j ∙ ap (λ k. g k j) (sym same)))))
      (cases_lt i n);
}

pub leads_past : (rows : List (List Bool)) (i j : ℕ) → length rows ≤ i → leads rows i j ≡ false
leads_past rows i j le = ap (λ o. flag_in o j) (slice_get_past rows i le)

pub rows_all : (g : ℕ → ℕ → Bool) (size n : ℕ) (rows : List (List Bool)) → RowsFilled g size n rows → ((i j : ℕ) → n ≤ i → g i j ≡ false) → (i j : ℕ) → leads rows i j ≡ g i j
rows_all g size n rows h past i j = ⊎_elim (λ lt. h.flags i lt j) (λ le. leads_past rows i j (let s = h.count in omega (arith, s, le)) ∙ sym (past i j le)) (cases_lt i n)

-- a row by its number
pub row_there : {A : Type 0} (list rows : List A) (row : A) (i : ℕ) → list ≡ rows → i < length list → row ≡ get_or list i row → slice_get rows i ≡ Some row
row_there list rows row i same lt e = ap (λ l. slice_get l i) (sym same) ∙ (slice_get-get_or list i row lt ∙ ap (λ r. Some r) (sym e))

pub row_size : (n : ℕ) (rows : List (List Bool)) (row : List Bool) (i : ℕ) → IsSquare n rows → slice_get rows i ≡ Some row → length row ≡ n
row_size n rows row i square e = at rows i square.sizes e
  where
    some_is : (a b : List Bool) → Some b ≡ Some a → a ≡ b
    some_is a b f = cc

    at : (rows : List (List Bool)) (i : ℕ) → Each (λ (r : List Bool). length r ≡ n) rows → slice_get rows i ≡ Some row → length row ≡ n
    at [] i all f = absurd cc
    at (r ∷ rows) zero all f = ap length (some_is row r f) ∙ all.0
    at (r ∷ rows) (suc i) all f = at rows i all.1 f

-- a row where steps may also go through a number
pub stepped : (rows : List (List Bool)) (row other : List Bool) (i k j : ℕ) (by r : Bool) → slice_get rows i ≡ Some row → slice_get rows k ≡ Some other → by ≡ flag row k → r ≡ (flag row j || (by && flag other j)) → r ≡ (leads rows i j || (leads rows i k && leads rows k j))
stepped rows row other i k j by r e f is h =
    h
    ∙ (ap (λ b. flag row j || (b && flag other j)) is
    ∙ sym (ap₂ (λ (o : Option (List Bool)) p. flag_in o j || (flag_in o k && flag_in p j)) e f))

-- a row of a node without the node itself where it has a declared depth
pub joined_is : (nodes : List NodeAttrs) (rows : List (List Bool)) (n j : ℕ) (row : List Bool) (declared r : Bool) → AreLinks nodes rows → slice_get rows n ≡ Some row → declared ≡ recurs_if (slice_get nodes n)
    → r ≡ (flag row j && not (n == j && declared)) → r ≡ joins nodes n j
joined_is nodes rows n j row declared r links f is h = h ∙ ap₂ (λ x y. x && not (n == j && y)) (sym (ap (λ o. flag_in o j) f) ∙ links.same n j) is

pub joins_past : (nodes : List NodeAttrs) (i j : ℕ) → length nodes ≤ i → joins nodes i j ≡ false
joins_past nodes i j le = ap (λ o. targets_of nodes o j && not (i == j && recurs_if o)) (slice_get_past nodes i le)

pub first_moved : (P Q : ℕ → Type 0) (r : Option ℕ) → ((n : ℕ) → P n → Q n) → ((n : ℕ) → Q n → P n) → IsFirstOrNone P r → IsFirstOrNone Q r
first_moved P Q None p q h = λ n x. h n (q n x)
first_moved P Q (Some n) p q h = record { holds = p n h.holds; none_before = λ m lt x. h.none_before m lt (q m x) }

-- the flags of a row within its size
pub within_size : (n : ℕ) (rows : List (List Bool)) (i j : ℕ) → IsSquare n rows → IsTrue (leads rows i j) → i < n
within_size n rows i j square t = ⊎_elim (λ lt. lt) (λ (le : n ≤ i). absurd (true≢false (sym t ∙ leads_past rows i j (let c = square.count in omega (arith, c, le))))) (cases_lt i n)

pub neither : (a b r : Bool) → a ≡ false → b ≡ false → (a || (b && r)) ≡ false
neither a b r e f = ap₂ (λ x y. x || (y && r)) e f

pub within_row : (n : ℕ) (rows : List (List Bool)) (i j : ℕ) → IsSquare n rows → IsTrue (leads rows i j) → j < n
within_row n rows i j square t = go (slice_get rows i) refl t
  where
    go : (o : Option (List Bool)) → slice_get rows i ≡ o → IsTrue (flag_in o j) → j < n
    go None e t = absurd (true≢false (sym t))
    go (Some row) e t = ⊎_elim (λ lt. lt) (λ (le : n ≤ j). (let s = row_size n rows row i square e in absurd (true≢false (sym t ∙ flag_past row j (omega (arith, s, le)))))) (cases_lt j n)

pub either_past : (row other : List Bool) (by : Bool) (j : ℕ) → length other ≤ length row → length row ≤ j → (flag row j || (by && flag other j)) ≡ false
either_past row other by j le past = ap₂ (λ a b. a || (by && b)) (flag_past row j past) (flag_past other j (omega (arith, le, past))) ∙ and_none by
  where
    and_none : (b : Bool) → (b && false) ≡ false
    and_none true = refl
    and_none false = refl

pub and_past : (row : List Bool) (b : Bool) (j : ℕ) → length row ≤ j → (flag row j && b) ≡ false
and_past row b j past = ap (λ a. a && b) (flag_past row j past)
