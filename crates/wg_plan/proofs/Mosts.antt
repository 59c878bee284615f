-- One unit more in the greatest needs.
use Rattle.std.proofs.Common.{◌≡◌, ℕ, zero, suc, ◌+◌, ◌<◌, ◌≤◌, ◌++◌, max, List, [], ◌∷◌, All, length, map, take, drop, drop-cons, add-one, get_or, slice_index, slice_set, slice_get, unwrap_or, Some, refl, sym, ap, ◌∙◌, arith, inl, inr}
use Rattle.std.proofs.lemmas.Bool.Decides.{eqb_tells}
use Rattle.std.proofs.lemmas.Grind.{common_steps}
use Rattle.std.proofs.lemmas.List.{get_or-set_same, get_or-set_other}
use Rattle.std.proofs.lemmas.Option.{unwrap_or-slice_get}
use Rattle.wg_machine.specs.declared.shape.Shape.{Shape}
use Rattle.wg_machine.specs.declared.shape.Unit.{Unit}
use Rattle.wg_machine.specs.Need.{need, need_of, greatest}
use Rattle.wg_need.specs.declared.table.Need.{Need}
use Rattle.wg_need.specs.Rows.{need_in, need_at, IsSoundRow}
use Rattle.wg_plan.proofs.Greatest.{greatest_more}

-- a row of the table is what the unit of its number needs
pub record IsRowOf (units : List Unit) (k : ℕ) (row : List Need) : Type 0 where
  pub unit : Unit
  pub is : unit ≡ get_or units k unit
  pub needs : (v : ℕ) → v < length units → need_in row v ≡ need_of unit v

-- there is a unit of each number below their count
some_unit : (units : List Unit) (k : ℕ) → k < length units → (u : Unit) × (slice_get units k ≡ Some u) × (u ≡ get_or units k u)
some_unit [] k h = absurd (omega arith)
some_unit (u ∷ units) zero h = (u, refl, refl)
some_unit (u ∷ units) (suc k) h = some_unit units k (omega arith)

pub row_at : (shape : Shape) (rows : List (List Need)) (k : ℕ) (row : List Need)
    → length rows ≡ length shape.units → k < length rows → row ≡ unwrap_or (slice_get rows k) []
    → ((u v : ℕ) → v < length shape.units → need_at rows u v ≡ need shape u v)
    → IsRowOf shape.units k row
row_at shape rows k row count h is needs =
    let found = some_unit shape.units k (omega (arith, count, h)) in
    record {
      unit = found.0;
      is = found.2;
      needs = λ v below. rw is (rw found.1 at (needs k v below));
    }

pub row_sound : (count : ℕ) (rows : List (List Need)) (k : ℕ) (row : List Need) → All (IsSoundRow count) rows → k < length rows → row ≡ unwrap_or (slice_get rows k) [] → IsSoundRow count row
row_sound count rows k row all h is = rw (is, unwrap_or-slice_get rows k []) (all k [] h)

-- ---- one need more in the numbers

-- the needs of a unit in what is left of a row
left_less : (needs : List Need) (k v : ℕ) → need_in (drop k needs) v ≤ need_in needs v
left_less [] k v = grind (arith, common_steps)
left_less (n ∷ needs) zero v = omega arith
left_less (n ∷ needs) (suc k) v = omega (arith, left_less needs k v)

left_more : (needs : List Need) (k v : ℕ) (d : Need) → k < length needs → need_in (drop k needs) v ≡ need_in (get_or needs k d ∷ []) v + need_in (drop (k + 1) needs) v
left_more needs k v d h =
    let here : drop k needs ≡ get_or needs k d ∷ drop (k + 1) needs = drop-cons needs k d h ∙ ap (λ (j : ℕ). get_or needs k d ∷ drop j needs) (sym (add-one k)) in
    rw here (omega arith)

-- the numbers raised to the needs so far, with those that are left, are raised to all
pub raised_more : (first old : List ℕ) (needs : List Need) (k x : ℕ) (d : Need) → IsSoundRow (length old) needs → k < length needs
    → x ≡ max (slice_index old (get_or needs k d).unit) (get_or needs k d).records
    → ((v : ℕ) → max (slice_index old v) (need_in (drop k needs) v) ≡ max (slice_index first v) (need_in needs v))
    → (v : ℕ) → max (slice_index (slice_set old (get_or needs k d).unit x) v) (need_in (drop (k + 1) needs) v) ≡ max (slice_index first v) (need_in needs v)
raised_more first old needs k x d sound h raised so_far v =
    let n = get_or needs k d in
    let left = left_more needs k v d h in
    elim (eqb_tells n.unit v) [
      | inl same ↦
          let at : v ≡ n.unit = sym same.1 in
          let here : slice_index (slice_set old n.unit x) v ≡ x = ap (λ w. slice_index (slice_set old n.unit x) w) at ∙ get_or-set_same old n.unit x 0 (sound k d h).within in
          let before : slice_index old v ≡ slice_index old n.unit = ap (λ w. slice_index old w) at in
          let whole : need_in needs v ≡ n.records = ap (need_in needs) at ∙ (sound k d h).whole in
          let split : need_in (drop k needs) v ≡ n.records + 0 + need_in (drop (k + 1) needs) v = rw same.0 at left in
          omega (arith, split, left_less needs k v, whole, here, before, raised, so_far v)
      | inr differs ↦
          let there : slice_index (slice_set old n.unit x) v ≡ slice_index old v = get_or-set_other old n.unit v x 0 (λ e. differs.1 (sym e)) in
          let split : need_in (drop k needs) v ≡ 0 + 0 + need_in (drop (k + 1) needs) v = rw differs.0 at left in
          omega (arith, split, there, so_far v)
    ]

-- ---- one row more in the greatest needs

-- the greatest needs of some units
pub record AreMosts (units : List Unit) (count : ℕ) (mosts : List ℕ) : Type 0 where
  pub count_is : length mosts ≡ count
  pub needs : (v : ℕ) → v < count → slice_index mosts v ≡ greatest (map (λ (u : Unit). need_of u v) units)
  pub few : (v : ℕ) → slice_index mosts v ≤ 16384

whole : (items new : List ℕ) (len : ℕ) → len ≡ length items → length new ≡ length items → take len (new ++ drop (length new) items) ≡ new
whole items new len e n = grind (arith, common_steps)

pub mosts_more : (items new : List ℕ) (row : List Need) (units : List Unit) (i : ℕ) (u : Unit)
    → length new ≡ length items
    → ((v : ℕ) → slice_index new v ≡ max (slice_index items v) (need_in row v))
    → ((v : ℕ) → v < length units → need_in row v ≡ need_of u v)
    → ((v : ℕ) → need_of u v ≤ 16384)
    → i < length units → u ≡ get_or units i u
    → AreMosts (take i units) (length units) items
    → AreMosts (take (i + 1) units) (length units) new
mosts_more items new row units i u n raised are few h is m =
    record {
      count_is = n ∙ m.count_is;
      needs = λ v below. rw (raised v, m.needs v below, are v below) (sym (greatest_more (λ (w : Unit). need_of w v) units i u h is));
      few = λ v. few_at v;
    }
  where
    few_at : (v : ℕ) → slice_index new v ≤ 16384
    few_at v = grind (arith, common_steps, raised v, m.few v, are v, few v)

-- the same of what is written back into a `Vec`
pub mosts_kept : (units : List Unit) (n len : ℕ) (items new : List ℕ) → len ≡ length items → length new ≡ length items → AreMosts units n new → AreMosts units n (take len (new ++ drop (length new) items))
mosts_kept units n len items new e same m = rw (whole items new len e same) m
