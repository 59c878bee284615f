-- Places of nodes by name and index, found one by one.
use Rattle.std.proofs.Common.{◌≡◌, ℕ, zero, suc, ◌+◌, ◌<◌, ◌≤◌, Bool, true, false, cond, ◌&&◌, ◌||◌, ◌==◌, List, [], ◌∷◌, ◌++◌, length, length-append, map, refl, sym, ap, ap₂, ◌∙◌, ⊎_elim, arith, Option, Some, None, slice_get, eqb-true}
use Rattle.std.specs.List.{list_any, position_from, range_with_len}
use Rattle.std.specs.Str.{bytes_eq}
use Rattle.std.proofs.lemmas.Bool.{cases_lt}
use Rattle.std.proofs.lemmas.List.FromFn.{map-range_with_len_more}
use Rattle.std.proofs.lemmas.Option.{slice_get_past}
use Rattle.wg_words.specs.Each.{Each}
use Rattle.wg_words.specs.Maybe.{◌>>=◌}
use Rattle.wg_text.specs.Names.{found_in}
use Rattle.wg_node_attributes.specs.declared.attributes.NodeAttrs.{NodeAttrs}
use Rattle.wg_node_attributes.specs.declared.attributes.OutputAttr.{OutputAttr}
use Rattle.wg_shapes.specs.Naming.{is_named, node_named, elements_of}
use Rattle.wg_directories.specs.Listed.{listed_at, IsDirectory}

-- ---- all indices

-- no node has an index past those that all have
pub none_named : (nodes : List NodeAttrs) (name : List ℕ) (index i : ℕ) → Each (λ (a : NodeAttrs). a.index < 256) nodes → 256 ≤ index → position_from (is_named name index) i nodes ≡ None
none_named [] name index i each le = refl
none_named (a ∷ rest) name index i each le =
    ap (λ b. cond b (Some i) (position_from (is_named name index) (i + 1) rest)) (other (bytes_eq name a.name) (a.index == index) refl)
    ∙ none_named rest name index (i + 1) each.1 le
  where
    other : (b c : Bool) → (a.index == index) ≡ c → (b && c) ≡ false
    other b true e = absurd (let s = eqb-true a.index index e in let l = each.0 in omega (arith, s, l, le))
    other true false e = refl
    other false false e = refl

in_front : {A : Type 0} (xs ys : List A) (j : ℕ) → j < length xs → slice_get (xs ++ ys) j ≡ slice_get xs j
in_front [] ys j lt = absurd (omega (arith, lt))
in_front (x ∷ xs) ys zero lt = refl
in_front (x ∷ xs) ys (suc j) lt = in_front xs ys j (omega (arith, lt))

at_end : {A : Type 0} (xs : List A) (y : A) (j : ℕ) → j ≡ length xs → slice_get (xs ++ y ∷ []) j ≡ Some y
at_end [] y zero e = refl
at_end [] y (suc j) e = absurd (omega (arith, e))
at_end (x ∷ xs) y zero e = absurd (omega (arith, e))
at_end (x ∷ xs) y (suc j) e = at_end xs y j (omega (arith, e))

-- the tables of the indices below one
pub record HasTables (nodes : List NodeAttrs) (n : ℕ) (tables : List (List (List ℕ × ℕ))) : Type 0 where
  pub count : length tables ≡ n
  pub found : (name : List ℕ) (i : ℕ) → i < n → listed_at tables name i ≡ node_named nodes name i

pub no_tables : (nodes : List NodeAttrs) (tables : List (List (List ℕ × ℕ))) → tables ≡ [] → HasTables nodes 0 tables
no_tables nodes tables e = record { count = ap length e; found = λ name i lt. absurd (omega (arith, lt)) }

pub more_tables : (nodes : List NodeAttrs) (n : ℕ) (tables new : List (List (List ℕ × ℕ))) (t : List (List ℕ × ℕ)) → HasTables nodes n tables → ((name : List ℕ) → found_in t name ≡ node_named nodes name n) → new ≡ tables ++ t ∷ [] → HasTables nodes (n + 1) new
more_tables nodes n tables new t h is e = record {
  count = let c = h.count in let l = ap length e in let a = length-append tables (t ∷ []) in omega (arith, c, l, a);
  found = λ name i lt. ⊎_elim
      (λ (below : i < n). ap (λ l. listed_at l name i) e ∙ (ap (λ (o : Option (List (List ℕ × ℕ))). o >>= (λ t. found_in t name)) (in_front tables (t ∷ []) i (let c = h.count in omega (arith, c, below))) ∙ h.found name i below))
      (λ (le : n ≤ i). (let c = h.count in let same : i ≡ n = omega (arith, lt, le) in
      ap (λ l. listed_at l name i) e ∙ (ap (λ (o : Option (List (List ℕ × ℕ))). o >>= (λ t. found_in t name)) (at_end tables t i (omega (arith, c, same))) ∙ (is name ∙ ap (node_named nodes name) (sym same)))))
      (cases_lt i n);
}

pub all_tables : (nodes : List NodeAttrs) (n : ℕ) (tables : List (List (List ℕ × ℕ))) → n ≡ 256 → Each (λ (a : NodeAttrs). a.index < 256) nodes → HasTables nodes n tables → IsDirectory nodes tables
all_tables nodes n tables e each h name i = ⊎_elim
    (λ (lt : i < n). h.found name i lt)
    (λ (le : n ≤ i). ap (λ (o : Option (List (List ℕ × ℕ))). o >>= (λ t. found_in t name)) (slice_get_past tables i (let c = h.count in omega (arith, c, le))) ∙ sym (none_named nodes name i 0 each (omega (arith, e, le))))
    (cases_lt i n)

-- ---- elements

map_same : (f g : ℕ → Option ℕ) (xs : List ℕ) → ((n : ℕ) → f n ≡ g n) → map f xs ≡ map g xs
map_same f g [] h = refl
map_same f g (x ∷ xs) h = ap₂ (λ a b. a ∷ b) (h x) (map_same f g xs h)

pub elements_are : (nodes : List NodeAttrs) (tables : List (List (List ℕ × ℕ))) (o : OutputAttr) → IsDirectory nodes tables → map (listed_at tables o.name) (range_with_len o.index o.elements) ≡ elements_of nodes o
elements_are nodes tables o is = map_same (listed_at tables o.name) (node_named nodes o.name) (range_with_len o.index o.elements) (is o.name)

some_passes : (p : Option ℕ → Bool) (f : ℕ → Option ℕ) (at n i : ℕ) → i < n → p (f (at + i)) ≡ true → list_any p (map f (range_with_len at n)) ≡ true
some_passes p f at zero i lt t = absurd (omega (arith, lt))
some_passes p f at (suc n) zero lt t = let e : at + 0 ≡ at = omega arith in ap (λ b. b || list_any p (map f (range_with_len (at + 1) n))) (ap (λ k. p (f k)) (sym e) ∙ t)
some_passes p f at (suc n) (suc i) lt t =
    let e : at + 1 + i ≡ at + suc i = omega arith in
    ap (λ b. p (f at) || b) (some_passes p f (at + 1) n i (omega (arith, lt)) (ap (λ k. p (f k)) e ∙ t)) ∙ or_true (p (f at))
  where
    or_true : (b : Bool) → (b || true) ≡ true
    or_true true = refl
    or_true false = refl

none_passes : (p : Option ℕ → Bool) (f : ℕ → Option ℕ) (at n : ℕ) → ((i : ℕ) → i < n → p (f (at + i)) ≡ false) → list_any p (map f (range_with_len at n)) ≡ false
none_passes p f at zero h = refl
none_passes p f at (suc n) h =
    let e : at + 0 ≡ at = omega arith in
    ap₂ (λ a b. a || b) (ap (λ k. p (f k)) (sym e) ∙ h 0 (omega arith))
    (none_passes p f (at + 1) n (λ i lt. let g : at + 1 + i ≡ at + suc i = omega arith in ap (λ k. p (f k)) g ∙ h (suc i) (omega (arith, lt))))

-- an element passes a test, or none does
pub one_does : (p : Option ℕ → Bool) (tables : List (List (List ℕ × ℕ))) (o : OutputAttr) (e : ℕ) → e < o.elements → p (listed_at tables o.name (o.index + e)) ≡ true → (nodes : List NodeAttrs) → IsDirectory nodes tables → true ≡ list_any p (elements_of nodes o)
one_does p tables o e lt t nodes is = sym (ap (list_any p) (sym (elements_are nodes tables o is)) ∙ some_passes p (listed_at tables o.name) o.index o.elements e lt t)

pub none_does : (p : Option ℕ → Bool) (tables : List (List (List ℕ × ℕ))) (o : OutputAttr) (n : ℕ) → o.elements ≤ n → ((i : ℕ) → i < n → p (listed_at tables o.name (o.index + i)) ≡ false) → (nodes : List NodeAttrs) → IsDirectory nodes tables → false ≡ list_any p (elements_of nodes o)
none_does p tables o n le h nodes is = sym (ap (list_any p) (sym (elements_are nodes tables o is)) ∙ none_passes p (listed_at tables o.name) o.index o.elements (λ i lt. h i (omega (arith, lt, le))))

-- one more place in the list of those of an output
pub pushed_place : (tables : List (List (List ℕ × ℕ))) (o : OutputAttr) (n : ℕ) (places new : List (Option ℕ)) (p : Option ℕ) → places ≡ map (listed_at tables o.name) (range_with_len o.index n) → p ≡ listed_at tables o.name (o.index + n) → new ≡ places ++ p ∷ [] → new ≡ map (listed_at tables o.name) (range_with_len o.index (n + 1))
pushed_place tables o n places new p is found e = e ∙ (ap₂ (λ l x. l ++ x ∷ []) is found ∙ sym (map-range_with_len_more (listed_at tables o.name) o.index n (o.index + n) refl))
