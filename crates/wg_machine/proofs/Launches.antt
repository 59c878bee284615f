-- A launch that a bag allows is the one of its group and numbers as the bag has its records, and the other way round.
use Rattle.std.proofs.Common.{◌≡◌, ℕ, suc, ◌≤◌, Bool, List, [], ◌∷◌, length, map, refl, ap, sym, ◌∙◌, subst, arith}
use Rattle.wg_words.specs.Each.{Each}
use Rattle.wg_machine.specs.declared.shape.Kind.{Kind}
use Rattle.wg_machine.specs.declared.shape.Kind.TheVariants.{Thread, Coalescing, Grid, GridField}
use Rattle.wg_machine.specs.declared.shape.Shape.{Shape}
use Rattle.wg_machine.specs.declared.launch.Launch.{Launch}
use Rattle.wg_machine.specs.declared.launch.Live.{Live}
use Rattle.wg_machine.specs.declared.launch.Record.{Record}
use Rattle.wg_machine.specs.Fitting.{IsFitting, BagFits}
use Rattle.wg_machine.specs.Grids.{grid_of, place_of}
use Rattle.wg_machine.specs.Step.{Allows, IsReady, first_grid, is_last, launch_in, numbers_of, record_of, taken}
use Rattle.wg_machine.specs.Units.{kind_at, most_inputs}
use Rattle.wg_machine.proofs.Fits.{each_taken}

first_is : (grid : List ℕ) (records : List Live) → 1 ≤ length (map record_of records) → Each (λ (r : Live). grid ≡ r.grid) records → grid ≡ first_grid records
first_is grid [] some each = absurd (omega arith)
first_is grid (r ∷ records) some each = each.0

pub launch_is : (shape : Shape) (bag : List Live) (launch : Launch) (at : List ℕ) → Allows shape bag launch at → launch ≡ launch_in shape bag launch.unit at (numbers_of launch.records)
launch_is shape bag launch at allowed =
    let T = taken (numbers_of launch.records) bag in
    let some : 1 ≤ length (map record_of T) = subst (λ (rs : List Record). 1 ≤ length rs) allowed.records allowed.some in
    let grid : launch.grid ≡ first_grid T = first_is launch.grid T some allowed.grid in
    let group : launch.group ≡ place_of (first_grid T) at = allowed.group ∙ ap (λ (g : List ℕ). place_of g at) grid in
    let made = λ (rs : List Record) (p : ℕ) (g : List ℕ) (z : Bool). (let k : Launch = record { unit = launch.unit; records = rs; group = p; grid = g; last = z } in k) in
    ap (λ (rs : List Record). made rs launch.group launch.grid launch.last) allowed.records
    ∙ ap (λ (p : ℕ). made (map record_of T) p launch.grid launch.last) group
    ∙ ap (λ (g : List ℕ). made (map record_of T) (place_of (first_grid T) at) g launch.last) grid
    ∙ ap (λ (z : Bool). made (map record_of T) (place_of (first_grid T) at) (first_grid T) z) allowed.last

-- records that one launch may take have one grid

abbrev HaveGrid : List ℕ → List Live → Type 0
HaveGrid grid records = Each (λ (r : Live). grid ≡ r.grid) records

abbrev AreOf : Shape → Kind → List Live → Type 0
AreOf shape kind records = Each (λ (r : Live). (ws : List ℕ) × (r.grid ≡ grid_of kind ws)) records

of_kind : (shape : Shape) (unit : ℕ) (at : List ℕ) (T : List Live) → Each (IsReady unit at) T → BagFits shape T → AreOf shape (kind_at shape unit) T
of_kind shape unit at [] ready fits = tt
of_kind shape unit at (r ∷ T) ready fits =
    ((fits.0.first_words, fits.0.grid ∙ ap (λ (u : ℕ). grid_of (kind_at shape u) fits.0.first_words) ready.0.unit_is), of_kind shape unit at T ready.1 fits.1)

all_ones : (shape : Shape) (most : ℕ) (T : List Live) → AreOf shape (Coalescing most) T → HaveGrid (1 ∷ 1 ∷ 1 ∷ []) T
all_ones shape most [] of = tt
all_ones shape most (r ∷ T) of = (sym of.0.1, all_ones shape most T of.1)

first_ones : (shape : Shape) (most : ℕ) (T : List Live) → AreOf shape (Coalescing most) T → HaveGrid (first_grid T) T
first_ones shape most [] of = tt
first_ones shape most (r ∷ T) of = (refl, subst (λ (g : List ℕ). HaveGrid g T) (sym of.0.1) (all_ones shape most T of.1))

one_record : (T : List Live) → length T ≤ 1 → HaveGrid (first_grid T) T
one_record [] few = tt
one_record (r ∷ []) few = (refl, tt)
one_record (r ∷ q ∷ T) few = absurd (omega arith)

one_grid : (shape : Shape) (kind : Kind) (T : List Live) → length T ≤ most_inputs kind → AreOf shape kind T → HaveGrid (first_grid T) T
one_grid shape Thread T few of = one_record T few
one_grid shape (Coalescing most) T few of = first_ones shape most T of
one_grid shape (Grid x y z) T few of = one_record T few
one_grid shape (GridField first parts x y z) T few of = one_record T few

counted : (T : List Live) (numbers : List ℕ) → numbers_of (map record_of T) ≡ numbers → length T ≡ length numbers
counted T numbers e = go T ∙ ap (λ (ns : List ℕ). length ns) e
  where
    go : (T : List Live) → length T ≡ length (numbers_of (map record_of T))
    go [] = refl
    go (r ∷ T) = ap (λ (n : ℕ). suc n) (go T)

pub is_allowed : (shape : Shape) (bag : List Live) (unit : ℕ) (at numbers : List ℕ) → BagFits shape bag → numbers_of (map record_of (taken numbers bag)) ≡ numbers → 1 ≤ length numbers → length numbers ≤ most_inputs (kind_at shape unit) → Each (IsReady unit at) (taken numbers bag)
    → Allows shape bag (launch_in shape bag unit at numbers) at
is_allowed shape bag unit at numbers fits e some few ready =
    let T = taken numbers bag in
    let back : taken (numbers_of (map record_of T)) bag ≡ T = ap (λ (ns : List ℕ). taken ns bag) e in
    let n = counted T numbers e in
    let m : length (map record_of T) ≡ length T = sym (lengths T) in
    let fit = each_taken (IsFitting shape) numbers bag fits in
    record {
      records = ap (map record_of) (sym back);
      some = omega arith;
      few = omega arith;
      ready = subst (Each (IsReady unit at)) (sym back) ready;
      grid = subst (HaveGrid (first_grid T)) (sym back) (one_grid shape (kind_at shape unit) T (omega arith) (of_kind shape unit at T ready fit));
      group = refl;
      last = ap (is_last shape unit) (sym back);
    }
  where
    lengths : (T : List Live) → length T ≡ length (map record_of T)
    lengths [] = refl
    lengths (r ∷ T) = ap (λ (n : ℕ). suc n) (lengths T)
