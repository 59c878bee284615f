-- Launches out fit the shape.
use Rattle.std.proofs.Common.{◌≡◌, ℕ, ◌+◌, ◌*◌, ◌^◌, ◌<◌, ◌≤◌, Bool, true, false, List, [], ◌∷◌, ◌++◌, length, map, refl, ap, sym, ◌∙◌, subst, arith, inl, inr, min}
use Rattle.std.specs.Prelude.{if◌then◌else◌, slice_index, nat_lt}
use Rattle.std.proofs.lemmas.Bool.Decides.{nat_tests}
use Rattle.wg_words.specs.Each.{Each}
use Rattle.wg_machine.specs.declared.shape.Kind.{Kind}
use Rattle.wg_machine.specs.declared.shape.Kind.TheVariants.{Thread, Coalescing, Grid, GridField}
use Rattle.wg_machine.specs.declared.shape.Shape.{Shape}
use Rattle.wg_machine.specs.declared.launch.Launch.{Launch}
use Rattle.wg_machine.specs.declared.launch.Live.{Live}
use Rattle.wg_machine.specs.declared.launch.Record.{Record}
use Rattle.wg_machine.specs.GoodShape.{IsGoodShape, IsGoodKind}
use Rattle.wg_machine.specs.Grids.{clipped, grid_of, groups_in, place_of, same_group, has_group}
use Rattle.wg_machine.specs.LaunchMeaning.{FitsShape, HasGridOf}
use Rattle.wg_machine.specs.Step.{IsReady, has_number, record_of, taken}
use Rattle.wg_machine.specs.Units.{kind_at, most_inputs, words_at}
use Rattle.wg_standing.specs.declared.pending.Pending.{Pending}
use Rattle.wg_standing.specs.Core.{CoreView}
use Rattle.wg_standing.specs.Outs.{AllAllowed, launch_now}
use Rattle.wg_standing.specs.Standing.{IsPlaced, IsFull, IsGridAt, IsWithin, EachFull, EachKnown, EachHasWords}
use Rattle.wg_standing.proofs.Allowed.{has_cases}
use Rattle.wg_standing.proofs.Names.{named_of}
use Rattle.wg_standing.proofs.Outs.{one_of}
use Rattle.wg_standing.proofs.Shapes.{kind_good}

each_taken : (P : Live → Type 0) (nums : List ℕ) (bag : List Live) → Each P bag → Each P (taken nums bag)
each_taken P nums [] e = tt
each_taken P nums (x ∷ bag) e = choice (has_number nums x.number) (each_taken P nums bag e.1)
  where
    choice : (b : Bool) → Each P (taken nums bag) → Each P (if b then x ∷ taken nums bag else taken nums bag)
    choice true ih = (e.0, ih)
    choice false ih = ih

row : (X Y x y : ℕ) → x < X → y < Y → y * X + x < Y * X
row X Y x y a b = grind arith

-- a group within a grid has its place there
place_within : (grid at : List ℕ) → IsWithin grid at → place_of grid at < groups_in grid
place_within grid at w =
    let X = slice_index grid 0 in
    let Y = slice_index grid 1 in
    let Z = slice_index grid 2 in
    let x = slice_index at 0 in
    let y = slice_index at 1 in
    let z = slice_index at 2 in
    let a : y * X + x < Y * X = row X Y x y w.x w.y in
    let b : z * (Y * X) + (y * X + x) < Z * (Y * X) = row (Y * X) Z (y * X + x) z a w.z in
    omega (arith, b)

within_same : (grid g at : List ℕ) → same_group g at ≡ true → IsWithin grid g → IsWithin grid at
within_same grid g at e w =
    let a = w.x in
    let b = w.y in
    let c = w.z in
    let p : slice_index g 0 ≡ slice_index at 0 = grind (arith, nat_tests) in
    let q : slice_index g 1 ≡ slice_index at 1 = grind (arith, nat_tests) in
    let r : slice_index g 2 ≡ slice_index at 2 = grind (arith, nat_tests) in
    record { x = omega arith; y = omega arith; z = omega arith }

within_has : (grid at : List ℕ) (gs : List (List ℕ)) → Each (IsWithin grid) gs → has_group gs at ≡ true → IsWithin grid at
within_has grid at [] each h = absurd (cc)
within_has grid at (g ∷ gs) each h =
    elim (has_cases g at gs h) [
      | inl e ↦ within_same grid g at e each.0
      | inr later ↦ within_has grid at gs each.1 later
    ]

has_grid : (k : Kind) (grid words : List ℕ) → grid ≡ grid_of k words → HasGridOf k grid
has_grid Thread grid words e = e
has_grid (Coalescing m) grid words e = e
has_grid (Grid x y z) grid words e = tt
has_grid (GridField f n x y z) grid words e = tt

clipped_most : (f n : ℕ) (words : List ℕ) (k most : ℕ) → 1 ≤ most → clipped f n words k most ≤ most
clipped_most f n words k most h = choice (nat_lt k n)
  where
    choice : (b : Bool) → (if b then min most (slice_index words (f + k)) else 1) ≤ most
    choice true = omega arith
    choice false = h

times_le : (a b c d e f : ℕ) → a ≤ d → b ≤ e → c ≤ f → a * b * c ≤ d * e * f
times_le a b c d e f p q r = both (a * b) c (d * e) f (both a b d e p q) r
  where
    one : (a b c : ℕ) → a ≤ b → a * c ≤ b * c
    one a b c h = grind arith

    both : (a b d e : ℕ) → a ≤ d → b ≤ e → a * b ≤ d * e
    both a b d e p q = let x = one a d b p in let y = one b e d q in omega (arith, x, y)

grid_few : (k : Kind) (n : ℕ) (words : List ℕ) → IsGoodKind n k → groups_in (grid_of k words) < 2 ^ 24
grid_few Thread n words g = omega arith
grid_few (Coalescing m) n words g = omega arith
grid_few (Grid x y z) n words g = g.product
grid_few (GridField f m x y z) n words g =
    let d = g.grid in
    let a = clipped_most f m words 0 x d.x_fits.low in
    let b = clipped_most f m words 1 y d.y_fits.low in
    let c = clipped_most f m words 2 z d.z_fits.low in
    let t = times_le (clipped f m words 0 x) (clipped f m words 1 y) (clipped f m words 2 z) x y z a b c in
    let p = d.product in
    omega (arith, t, p)

-- what a launch takes, of a unit
record Taken (shape : Shape) (unit : ℕ) (at : List ℕ) (x : Live) : Type 0 where
  ready : IsReady unit at x
  full : IsFull shape x
  known : x.unit < length shape.units
  words : length x.words ≡ words_at shape x.unit

all_takes : (shape : Shape) (unit : ℕ) (at : List ℕ) (xs : List Live) → Each (IsReady unit at) xs → EachFull shape xs → EachKnown (length shape.units) xs → EachHasWords shape xs → Each (Taken shape unit at) xs
all_takes shape unit at [] r f k w = tt
all_takes shape unit at (x ∷ xs) r f k w = (record { ready = r.0; full = f.0; known = k.0; words = w.0 }, all_takes shape unit at xs r.1 f.1 k.1 w.1)

all_words : (shape : Shape) (unit : ℕ) (at : List ℕ) (xs : List Live) → Each (Taken shape unit at) xs → Each (λ (r : Record). length r.words ≡ words_at shape unit) (map record_of xs)
all_words shape unit at [] t = tt
all_words shape unit at (x ∷ xs) t = (t.0.words ∙ ap (words_at shape) t.0.ready.unit_is, all_words shape unit at xs t.1)

fits_from : (shape : Shape) (l : Launch) (at : List ℕ) (mine : List Live) → IsGoodShape shape → Each (Taken shape l.unit at) mine → l.records ≡ map record_of mine → 1 ≤ length l.records → length l.records ≤ most_inputs (kind_at shape l.unit) → Each (λ (r : Live). l.grid ≡ r.grid) mine → l.group ≡ place_of l.grid at → FitsShape shape l
fits_from shape l at [] good t e some few grids group = let z = ap (λ (rs : List Record). length rs) e in absurd (omega (arith, z, some))
fits_from shape l at (x ∷ mine) good t e some few grids group =
    let k = kind_at shape l.unit in
    let same = t.0.ready.unit_is in
    let birth = subst (λ (u : ℕ). IsGridAt shape u x.grid) same t.0.full.grid in
    let grid : l.grid ≡ grid_of k birth.0 = grids.0 ∙ birth.1 in
    let within = subst (λ (g : List ℕ). IsWithin g at) (sym grids.0) (within_has x.grid at x.groups t.0.full.within t.0.ready.group_is) in
    let place = place_within l.grid at within in
    record {
      unit = subst (λ (u : ℕ). u < length shape.units) same t.0.known;
      some = some;
      few = few;
      words = subst (λ (rs : List Record). Each (λ (r : Record). length r.words ≡ words_at shape l.unit) rs) (sym e) (all_words shape l.unit at (x ∷ mine) t);
      grid_some = omega (arith, place);
      grid_few = subst (λ (g : List ℕ). groups_in g < 2 ^ 24) (sym grid) (grid_few k (words_at shape l.unit) birth.0 (kind_good shape l.unit good));
      group = subst (λ (n : ℕ). n < groups_in l.grid) (sym group) place;
      grid = has_grid k l.grid birth.0 grid;
    }

pub out_fits : (core : CoreView) (before : List Pending) (o : Pending) (later : List Pending) → IsGoodShape core.shape → core.outs ≡ before ++ o ∷ later → IsPlaced core core.bag → FitsShape core.shape (launch_now core.shape core.bag o)
out_fits core before o later good was_out p =
    let bag = core.bag in
    let a = one_of core.shape bag before o later (subst (AllAllowed core.shape bag) was_out p.allowed) in
    let n = named_of core.shape bag o a in
    let nums = o.inputs in
    let mine = taken nums bag in
    let all = all_takes core.shape o.unit o.at mine n.ready (each_taken (IsFull core.shape) nums bag p.full) (each_taken (λ (x : Live). x.unit < length core.shape.units) nums bag p.known) (each_taken (λ (x : Live). length x.words ≡ words_at core.shape x.unit) nums bag p.words) in
    fits_from core.shape (launch_now core.shape bag o) o.at mine good all refl a.allowed.some a.allowed.few n.grid refl
