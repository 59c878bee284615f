-- Flags that are set one by one.
use Rattle.std.proofs.Common.{◌≡◌, ℕ, zero, suc, ◌+◌, ◌<◌, ◌≤◌, Bool, true, false, cond, ◌||◌, List, [], ◌∷◌, ◌++◌, length, map, take, refl, sym, ap, ap₂, ◌∙◌, ⊎_elim, arith, ne_eqb, Option, Some, slice_get}
use Rattle.std.specs.List.{list_any, position_from, range_with_len}
use Rattle.std.proofs.lemmas.Bool.{cases_Bool, cases_lt}
use Rattle.std.proofs.lemmas.List.Folds.{list_any-append}
use Rattle.std.proofs.lemmas.Option.{slice_get_past}
use Rattle.std.proofs.lemmas.List.FromFn.{map-range_with_len_more}
use Rattle.wg_machine.specs.Need.{is_target}
use Rattle.wg_node_attributes.specs.declared.attributes.NodeAttrs.{NodeAttrs}
use Rattle.wg_node_attributes.specs.declared.attributes.OutputAttr.{OutputAttr}
use Rattle.wg_shapes.specs.Naming.{elements_of, is_named, node_named, targets, targets_of}
use Rattle.wg_chains.specs.Rows.{flag}
use Rattle.wg_chains.proofs.Squares.{flag_past}
use Rattle.wg_directories.specs.Listed.{listed_at}

or_none : (b : Bool) → b ≡ (b || false)
or_none true = refl
or_none false = refl

or_assoc : (a b c : Bool) → ((a || b) || c) ≡ (a || (b || c))
or_assoc true b c = refl
or_assoc false b c = refl

-- ---- the flags of an output

pub record Marked (tables : List (List (List ℕ × ℕ))) (o : OutputAttr) (old : List Bool) (n : ℕ) (row : List Bool) : Type 0 where
  pub size : length row ≡ length old
  pub flags : (m : ℕ) → m < length old → flag row m ≡ (flag old m || list_any (is_target m) (map (listed_at tables o.name) (range_with_len o.index n)))

pub none_marked : (tables : List (List (List ℕ × ℕ))) (o : OutputAttr) (old : List Bool) → Marked tables o old 0 old
none_marked tables o old = record { size = refl; flags = λ m lt. or_none (flag old m) }

pub more_marked : (tables : List (List (List ℕ × ℕ))) (o : OutputAttr) (old : List Bool) (n : ℕ) (row new : List Bool) (found : Option ℕ) → Marked tables o old n row → found ≡ listed_at tables o.name (o.index + n) → length new ≡ length row
    → ((m : ℕ) → m < length row → flag new m ≡ (flag row m || is_target m found)) → Marked tables o old (n + 1) new
more_marked tables o old n row new found h is size flags = record {
  size = size ∙ h.size;
  flags = λ m lt. (
      let s = h.size in
      let few : list_any (is_target m) (map (listed_at tables o.name) (range_with_len o.index (n + 1))) ≡ (list_any (is_target m) (map (listed_at tables o.name) (range_with_len o.index n)) || is_target m found) =
      ap (list_any (is_target m)) (map-range_with_len_more (listed_at tables o.name) o.index n (o.index + n) refl ∙ ap (λ x. map (listed_at tables o.name) (range_with_len o.index n) ++ x ∷ []) (sym is))
      ∙ (list_any-append (is_target m) (map (listed_at tables o.name) (range_with_len o.index n)) (found ∷ []) ∙ ap (λ b. list_any (is_target m) (map (listed_at tables o.name) (range_with_len o.index n)) || b) (sym (or_none (is_target m found)))) in
      flags m (omega (arith, lt, s))
      ∙ (ap (λ b. b || is_target m found) (h.flags m lt)
      ∙ (or_assoc (flag old m) (list_any (is_target m) (map (listed_at tables o.name) (range_with_len o.index n))) (is_target m found) ∙ ap (λ b. flag old m || b) (sym few))));
}

-- ---- all rows

-- a node is found below the number of nodes
found_below : (test : NodeAttrs → Bool) (nodes : List NodeAttrs) (i m : ℕ) → i + length nodes ≤ m → is_target m (position_from test i nodes) ≡ false
found_below test [] i m le = refl
found_below test (a ∷ nodes) i m le = ⊎_elim
    (λ t. ap (is_target m) (cond_is true t) ∙ ne_eqb i m (λ e. omega (arith, e, le)))
    (λ f. ap (is_target m) (cond_is false f) ∙ found_below test nodes (i + 1) m (omega (arith, le)))
    (cases_Bool (test a))
  where
    cond_is : (b : Bool) → test a ≡ b → position_from test i (a ∷ nodes) ≡ cond b (Some i) (position_from test (i + 1) nodes)
    cond_is b e = ap (λ c. cond c (Some i) (position_from test (i + 1) nodes)) e

none_far : (nodes : List NodeAttrs) (m : ℕ) (outputs : List OutputAttr) → length nodes ≤ m → list_any (λ (o : OutputAttr). list_any (is_target m) (elements_of nodes o)) outputs ≡ false
none_far nodes m [] le = refl
none_far nodes m (o ∷ outputs) le = ap₂ (λ a b. a || b) (elements o.index o.elements) (none_far nodes m outputs le)
  where
    elements : (at n : ℕ) → list_any (is_target m) (map (node_named nodes o.name) (range_with_len at n)) ≡ false
    elements at zero = refl
    elements at (suc n) = ap₂ (λ a b. a || b) (found_below (is_named o.name at) nodes 0 m (omega (arith, le))) (elements (at + 1) n)

-- the row of a node has the flags of its targets
pub row_is : (nodes : List NodeAttrs) (n : ℕ) (a : NodeAttrs) (row : List Bool) → n < length nodes → slice_get nodes n ≡ Some a → length row ≡ length nodes
    → ((m : ℕ) → m < length nodes → flag row m ≡ list_any (λ (o : OutputAttr). list_any (is_target m) (elements_of nodes o)) a.outputs) → (m : ℕ) → flag row m ≡ targets nodes n m
row_is nodes n a row lt there size flags m =
    ⊎_elim
    (λ (below : m < length nodes). flags m below)
    (λ (le : length nodes ≤ m). flag_past row m (omega (arith, size, le)) ∙ sym (none_far nodes m a.outputs le))
    (cases_lt m (length nodes))
    ∙ ap (λ o. targets_of nodes o m) (sym there)

-- there are no nodes past the last one
pub targets_past : (nodes : List NodeAttrs) (i j : ℕ) → length nodes ≤ i → targets nodes i j ≡ false
targets_past nodes i j le = ap (λ o. targets_of nodes o j) (slice_get_past nodes i le)

pub take_all : (xs : List OutputAttr) (n : ℕ) → length xs ≤ n → take n xs ≡ xs
take_all [] zero le = refl
take_all [] (suc n) le = refl
take_all (x ∷ xs) zero le = absurd (omega (arith, le))
take_all (x ∷ xs) (suc n) le = ap (λ l. x ∷ l) (take_all xs n (omega (arith, le)))
