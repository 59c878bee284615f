-- What is left of a loop over lists of words.
use Rattle.std.proofs.Common.{◌≡◌, ℕ, zero, suc, ◌+◌, ◌<◌, ◌≤◌, List, [], ◌∷◌, ◌++◌, length, drop, get_or, refl, sym, ap, ◌∙◌, arith, drop-cons, add-one, append-nil}
use Rattle.std.specs.Prelude.{slice_index, slice_set, min, if◌then◌else◌, map, ◌≢◌}
use Rattle.std.proofs.lemmas.Option.{slice_get-get_or, slice_get_past}
use Rattle.wg_state.specs.declared.world.Grant.{Grant}
use Rattle.wg_semantics.specs.Places.{words_from, over_written, with_item, Setting, fetched, part_at}
use Rattle.wg_state.specs.WordLists.{list_at}
use Rattle.wg_semantics.specs.declared.state.State.{State}
use Rattle.wg_semantics.specs.declared.state.Spot.{Spot}
use Rattle.wg_semantics.specs.declared.state.Spot.TheVariants as spot
use Rattle.wg_typed.specs.declared.types.TypeTree.{TypeTree}
use Rattle.wg_state.specs.Turns.{Done}
use Rattle.wg_semantics.specs.ExprMeaning.{components_of}
use Rattle.wg_typed.specs.Operators.{pairwise}
use Rattle.wg_words.specs.Truth.{is_true}
use Rattle.wg_typed.specs.Intrinsics.{selected}

pub words_from_last : (words : List ℕ) (from i : ℕ) → words_from words from (i + 1) ≡ words_from words from i ++ slice_index words (from + i) ∷ []
words_from_last words from zero = let e : from + 0 ≡ from = omega arith in rw e refl
words_from_last words from (suc i) =
    let e : suc i + 1 ≡ suc (i + 1) = omega arith in
    let g : from + suc i ≡ suc from + i = omega arith in
    rw (e, g, words_from_last words (suc from) i) refl

pub over_written_next : (words values : List ℕ) (from i : ℕ) → i < length values → over_written words (from + i) (drop i values) ≡ over_written (slice_set words (from + i) (slice_index values i)) (from + (i + 1)) (drop (i + 1) values)
over_written_next words values from i lt =
    let next : suc (from + i) ≡ from + (i + 1) = omega arith in
    ap (over_written words (from + i)) (drop-cons values i 0 lt)
    ∙ ap (λ n. over_written (slice_set words (from + i) (slice_index values i)) n (drop (suc i) values)) next
    ∙ ap (λ n. over_written (slice_set words (from + i) (slice_index values i)) (from + (i + 1)) (drop n values)) (sym (add-one i))

pub nothing_more : (done rest whole : List ℕ) → rest ≡ [] → done ++ rest ≡ whole → done ≡ whole
nothing_more done rest whole e h = sym (append-nil done) ∙ ap (λ l. done ++ l) (sym e) ∙ h

pub pairwise_next : (f : ℕ → ℕ → ℕ) (xs ys : List ℕ) (i : ℕ) → i < length xs → i < length ys → pairwise f (drop i xs) (drop i ys) ≡ f (slice_index xs i) (slice_index ys i) ∷ pairwise f (drop (i + 1) xs) (drop (i + 1) ys)
pairwise_next f xs ys i lx ly = rw (drop-cons xs i 0 lx, drop-cons ys i 0 ly, add-one i) refl

pairwise_none : (f : ℕ → ℕ → ℕ) (xs : List ℕ) → pairwise f xs [] ≡ []
pairwise_none f [] = refl
pairwise_none f (x ∷ xs) = refl

pub pairwise_ends : (f : ℕ → ℕ → ℕ) (xs ys : List ℕ) (i : ℕ) → min (length xs) (length ys) ≤ i → pairwise f (drop i xs) (drop i ys) ≡ []
pairwise_ends f [] ys zero le = refl
pairwise_ends f [] ys (suc i) le = refl
pairwise_ends f (x ∷ xs) [] zero le = refl
pairwise_ends f (x ∷ xs) [] (suc i) le = pairwise_none f (drop i xs)
pairwise_ends f (x ∷ xs) (y ∷ ys) zero le = absurd (let h : ⊥ = omega (arith, le) in h)
pairwise_ends f (x ∷ xs) (y ∷ ys) (suc i) le = pairwise_ends f xs ys i (omega (arith, le))

pub selected_next : (cs xs ys : List ℕ) (i : ℕ) → i < length cs → i < length xs → i < length ys → selected (drop i cs) (drop i xs) (drop i ys) ≡ (if is_true (slice_index cs i) then slice_index xs i else slice_index ys i) ∷ selected (drop (i + 1) cs) (drop (i + 1) xs) (drop (i + 1) ys)
selected_next cs xs ys i lc lx ly = rw (drop-cons cs i 0 lc, drop-cons xs i 0 lx, drop-cons ys i 0 ly, add-one i) refl

selected_none : (cs xs : List ℕ) → selected cs xs [] ≡ []
selected_none [] xs = refl
selected_none (c ∷ cs) [] = refl
selected_none (c ∷ cs) (x ∷ xs) = refl

selected_no_second : (cs ys : List ℕ) → selected cs [] ys ≡ []
selected_no_second [] ys = refl
selected_no_second (c ∷ cs) ys = refl

pub selected_ends : (cs xs ys : List ℕ) (i : ℕ) → min (min (length cs) (length xs)) (length ys) ≤ i → selected (drop i cs) (drop i xs) (drop i ys) ≡ []
selected_ends [] xs ys zero le = refl
selected_ends [] xs ys (suc i) le = refl
selected_ends (c ∷ cs) [] ys zero le = refl
selected_ends (c ∷ cs) [] ys (suc i) le = selected_no_second (drop i cs) (drop (suc i) ys)
selected_ends (c ∷ cs) (x ∷ xs) [] zero le = refl
selected_ends (c ∷ cs) (x ∷ xs) [] (suc i) le = selected_none (drop i cs) (drop i xs)
selected_ends (c ∷ cs) (x ∷ xs) (y ∷ ys) zero le = absurd (let h : ⊥ = omega (arith, le) in h)
selected_ends (c ∷ cs) (x ∷ xs) (y ∷ ys) (suc i) le = selected_ends cs xs ys i (omega (arith, le))

pub list_at_in : (lists : List (List ℕ)) (i : ℕ) (d : List ℕ) → i < length lists → list_at lists i ≡ get_or lists i d
list_at_in lists i d lt = rw (slice_get-get_or lists i d lt) refl

pub set_past : {A : Type 0} (xs : List A) (i : ℕ) (x : A) → length xs ≤ i → slice_set xs i x ≡ xs
set_past [] i x le = refl
set_past (y ∷ xs) zero x le = absurd (let h : ⊥ = omega (arith, le) in h)
set_past (y ∷ xs) (suc i) x le = ap (λ l. y ∷ l) (set_past xs i x (omega (arith, le)))

-- the lists of a grant that is there, with one set
pub with_item_at : (grants : List Grant) (at item : ℕ) (g : Grant) (words : List ℕ) → g ≡ get_or grants at g → at < length grants → with_item grants at item words ≡ slice_set grants at (record g { items = slice_set g.items item words })
with_item_at grants at item g words e lt = rw (slice_get-get_or grants at g lt, ← e) refl

pub with_item_past : (grants : List Grant) (at item : ℕ) (words : List ℕ) → length grants ≤ at → with_item grants at item words ≡ grants
with_item_past grants at item words le = rw (slice_get_past grants at le) refl

module _ (setting : Setting) (t : TypeTree) (p : Spot) (s : State) (turns : ℕ) where
  pub one_component : (components : List ℕ) → length components ≡ 1 → components_of setting components t p s turns ≡ Done (part_at (record { from = slice_index components 0; to = slice_index components 0 + 1 }) p) s turns
  one_component [] e = absurd (let h : ⊥ = omega (arith, e) in h)
  one_component (c ∷ []) e = refl
  one_component (c ∷ d ∷ rest) e = absurd (let h : ⊥ = omega (arith, e) in h)

  pub several_components : (components : List ℕ) → length components ≢ 1 → components_of setting components t p s turns ≡ Done (spot.Value (map (slice_index (fetched setting.structs t p s)) components)) s turns
  several_components [] n = refl
  several_components (c ∷ []) n = absurd (n refl)
  several_components (c ∷ d ∷ rest) n = refl
