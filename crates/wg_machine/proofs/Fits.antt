-- Launches that a fitting bag allows fit the shape, and steps of lawful bodies keep a state fitting.
use Rattle.std.proofs.Common.{◌≡◌, ℕ, ◌+◌, ◌*◌, ◌^◌, ◌<◌, ◌≤◌, Bool, true, false, List, [], ◌∷◌, ◌++◌, length, map, refl, ap, sym, ◌∙◌, subst, arith, Option, None, Some, min, unwrap_or}
use Rattle.std.specs.Prelude.{IsTrue, IfSome, if◌then◌else◌, nat_lt, slice_get, slice_index}
use Rattle.std.specs.Option.{option_map}
use Rattle.std.specs.List.{flat_map}
use Rattle.wg_words.specs.Each.{Each}
use Rattle.wg_machine.specs.declared.shape.Kind.{Kind}
use Rattle.wg_machine.specs.declared.shape.Kind.TheVariants.{Thread, Coalescing, Grid, GridField}
use Rattle.wg_machine.specs.declared.shape.Shape.{Shape}
use Rattle.wg_machine.specs.declared.shape.Unit.{Unit}
use Rattle.wg_machine.specs.declared.launch.Entry.{Entry}
use Rattle.wg_machine.specs.declared.launch.Launch.{Launch}
use Rattle.wg_machine.specs.declared.launch.Live.{Live}
use Rattle.wg_machine.specs.declared.launch.Record.{Record}
use Rattle.wg_machine.specs.declared.launch.Sent.{Sent}
use Rattle.wg_machine.specs.Buffers.{Buffers, lengths_of}
use Rattle.wg_machine.specs.Fitting.{IsFitting, BagFits, StateFits, IsLawful}
use Rattle.wg_machine.specs.GoodShape.{IsGoodShape, IsGoodKind}
use Rattle.wg_machine.specs.Grids.{clipped, grid_of, groups_in, groups_of, has_group, place_of, without_group}
use Rattle.wg_machine.specs.LaunchMeaning.{Meaning, Outcome, Arrives, HasGridOf, HasNewWords, FitsShape, KeepsLaws}
use Rattle.wg_machine.specs.Run.{IsRun, EachState, times}
use Rattle.wg_machine.specs.State.{State, born, kept, live_of, start}
use Rattle.wg_machine.specs.Step.{Allows, IsReady, Passed, Step, after_group, has_number, left_after, numbers_of, record_of, taken}
use Rattle.wg_machine.specs.Units.{kind_at, words_at, shared_at}
use Rattle.wg_machine.proofs.Groups.{place_in_grid, has_times, times_has, times_without}

-- lists of facts

pub each_append : {A : Type 0} (P : A → Type 0) (xs ys : List A) → Each P xs → Each P ys → Each P (xs ++ ys)
each_append P [] ys a b = b
each_append P (x ∷ xs) ys a b = (a.0, each_append P xs ys a.1 b)

pub each_taken : (P : Live → Type 0) (nums : List ℕ) (bag : List Live) → Each P bag → Each P (taken nums bag)
each_taken P nums [] each = tt
each_taken P nums (x ∷ bag) each = choice (has_number nums x.number) (each_taken P nums bag each.1)
  where
    choice : (b : Bool) → Each P (taken nums bag) → Each P (if b then x ∷ taken nums bag else taken nums bag)
    choice true rest = (each.0, rest)
    choice false rest = rest

-- grids of good shapes

times_le : (a b c d : ℕ) → a ≤ b → c ≤ d → a * c ≤ b * d
times_le a b c d h k = grind arith

clipped_low : (first parts : ℕ) (words : List ℕ) (k most : ℕ) → 1 ≤ most → clipped first parts words k most ≤ most
clipped_low first parts words k most h = choice (nat_lt k parts)
  where
    choice : (b : Bool) → (if b then min most (slice_index words (first + k)) else 1) ≤ most
    choice true = omega arith
    choice false = h

pub small_grid : (words_count : ℕ) (k : Kind) (words : List ℕ) → IsGoodKind words_count k → groups_in (grid_of k words) < 2 ^ 24
small_grid n Thread words good = omega arith
small_grid n (Coalescing m) words good = omega arith
small_grid n (Grid x y z) words good = good.product
small_grid n (GridField first parts x y z) words good =
    let g = good.grid in
    let a = clipped_low first parts words 0 x g.x_fits.low in
    let b = clipped_low first parts words 1 y g.y_fits.low in
    let c = clipped_low first parts words 2 z g.z_fits.low in
    let ab = times_le (clipped first parts words 0 x) x (clipped first parts words 1 y) y a b in
    let abc = times_le (clipped first parts words 0 x * clipped first parts words 1 y) (x * y) (clipped first parts words 2 z) z ab c in
    let p = g.product in
    omega (arith, abc, p)

pub good_kind : (shape : Shape) (u : ℕ) → IsGoodShape shape → IsGoodKind (words_at shape u) (kind_at shape u)
good_kind shape u good = choice (slice_get shape.units u) refl
  where
    choice : (n : Option Unit) → slice_get shape.units u ≡ n → IsGoodKind (unwrap_or (option_map (λ (n : Unit). n.words) n) 0) (unwrap_or (option_map (λ (n : Unit). n.kind) n) Thread)
    choice None e = tt
    choice (Some n) e = (good.units u n e).kind

pub grid_kind : (k : Kind) (words : List ℕ) → HasGridOf k (grid_of k words)
grid_kind Thread words = refl
grid_kind (Coalescing m) words = refl
grid_kind (Grid x y z) words = tt
grid_kind (GridField first parts x y z) words = tt

-- a launch that is allowed

all_words : (shape : Shape) (unit : ℕ) (at : List ℕ) (xs : List Live) → Each (IsReady unit at) xs → BagFits shape xs → Each (λ (r : Record). length r.words ≡ words_at shape unit) (map record_of xs)
all_words shape unit at [] ready fits = tt
all_words shape unit at (x ∷ xs) ready fits =
    (fits.0.words ∙ ap (words_at shape) ready.0.unit_is, all_words shape unit at xs ready.1 fits.1)

pub allowed_fits : (shape : Shape) (bag : List Live) (launch : Launch) (at : List ℕ) → IsGoodShape shape → BagFits shape bag → Allows shape bag launch at → FitsShape shape launch
allowed_fits shape bag launch at good fits allowed =
    go (taken (numbers_of launch.records) bag) refl allowed.ready (each_taken (IsFitting shape) (numbers_of launch.records) bag fits)
  where
    go : (xs : List Live) → taken (numbers_of launch.records) bag ≡ xs → Each (IsReady launch.unit at) xs → BagFits shape xs → FitsShape shape launch
    go [] e ready fit = absurd (let l = ap (λ (rs : List Record). length rs) (allowed.records ∙ ap (map record_of) e) in let s = allowed.some in omega (arith, l, s))
    go (x ∷ xs) e ready fit =
        let records : launch.records ≡ map record_of (x ∷ xs) = allowed.records ∙ ap (map record_of) e in
        let unit = ready.0.unit_is in
        let kind = kind_at shape launch.unit in
        let now : launch.grid ≡ x.grid = (subst (Each (λ (r : Live). launch.grid ≡ r.grid)) e allowed.grid).0 in
        let grid : launch.grid ≡ grid_of kind fit.0.first_words = now ∙ fit.0.grid ∙ ap (λ (u : ℕ). grid_of (kind_at shape u) fit.0.first_words) unit in
        let once = has_times x.groups at ready.0.group_is in
        let most : times at x.groups ≤ times at (groups_of x.grid) = fit.0.groups at in
        let inside = times_has (groups_of x.grid) at (omega (arith, once, most)) in
        let place : launch.group < groups_in launch.grid =
        subst (λ (g : List ℕ). launch.group < groups_in g) (sym now)
        (subst (λ n. n < groups_in x.grid) (sym (allowed.group ∙ ap (λ (g : List ℕ). place_of g at) now))
        (place_in_grid x.grid at inside)) in
        record {
          unit = subst (λ u. u < length shape.units) unit fit.0.unit;
          some = allowed.some;
          few = allowed.few;
          words = subst (Each (λ (r : Record). length r.words ≡ words_at shape launch.unit)) (sym records) (all_words shape launch.unit at (x ∷ xs) ready fit);
          grid_some = omega (arith, place);
          grid_few = subst (λ (g : List ℕ). groups_in g < 2 ^ 24) (sym grid) (small_grid (words_at shape launch.unit) kind fit.0.first_words (good_kind shape launch.unit good));
          group = place;
          grid = subst (HasGridOf kind) (sym grid) (grid_kind kind fit.0.first_words);
        }

-- a group of a live record lies in its grid
pub live_lies : (shape : Shape) (r : Live) (at : List ℕ) → IsGoodShape shape → IsFitting shape r → IsTrue (has_group r.groups at) → (place_of r.grid at < groups_in r.grid) × (groups_in r.grid < 2 ^ 24)
live_lies shape r at good fits h =
    let once = has_times r.groups at h in
    let most = fits.groups at in (
      place_in_grid r.grid at (times_has (groups_of r.grid) at (omega (arith, once, most))),
      subst (λ (g : List ℕ). groups_in g < 2 ^ 24) (sym fits.grid) (small_grid (words_at shape r.unit) (kind_at shape r.unit) fits.first_words (good_kind shape r.unit good)),
    )

-- a step keeps a state fitting

kept_fits : (shape : Shape) (number unit : ℕ) (words grid : List ℕ) (groups : List (List ℕ)) → IsFitting shape (record { number = number; unit = unit; words = words; grid = grid; groups = groups }) → BagFits shape (kept (record { number = number; unit = unit; words = words; grid = grid; groups = groups }))
kept_fits shape number unit words grid [] fits = tt
kept_fits shape number unit words grid (g ∷ groups) fits = (fits, tt)

-- new words are those of a shared unit, and as many as it has
after_fits : (shape : Shape) (unit : ℕ) (at : List ℕ) (new : Option (List ℕ)) (x : Live) → x.unit ≡ unit → HasNewWords (shared_at shape unit) (words_at shape unit) new → IsFitting shape x → IsFitting shape (after_group at new x)
after_fits shape unit at None x e laws fits = record {
  unit = fits.unit;
  words = fits.words;
  first_words = fits.first_words;
  grid = fits.grid;
  stays = fits.stays;
  groups = λ b. (let k = times_without at b x.groups in let f = fits.groups b in omega (arith, k, f));
}
after_fits shape unit at (Some ws) x e laws fits = choice (shared_at shape unit) refl laws
  where
    choice : (b : Bool) → shared_at shape unit ≡ b → HasNewWords b (words_at shape unit) (Some ws) → IsFitting shape (after_group at (Some ws) x)
    choice false is laws = absurd laws
    choice true is laws = record {
      unit = fits.unit;
      words = laws ∙ ap (words_at shape) (sym e);
      first_words = fits.first_words;
      grid = fits.grid;
      stays = λ no. absurd (let same = ap (shared_at shape) e in cc);
      groups = λ b. (let k = times_without at b x.groups in let f = fits.groups b in omega (arith, k, f));
    }

left_fits : (shape : Shape) (unit : ℕ) (nums at : List ℕ) (new : Option (List ℕ)) (bag : List Live) → HasNewWords (shared_at shape unit) (words_at shape unit) new → Each (IsReady unit at) (taken nums bag) → BagFits shape bag → BagFits shape (left_after nums at new bag)
left_fits shape unit nums at new [] laws ready fits = tt
left_fits shape unit nums at new (x ∷ bag) laws ready fits = choice (has_number nums x.number) (λ r. left_fits shape unit nums at new bag laws r fits.1) ready
  where
    choice : (b : Bool) → (Each (IsReady unit at) (taken nums bag) → BagFits shape (left_after nums at new bag)) → Each (IsReady unit at) (if b then x ∷ taken nums bag else taken nums bag) → BagFits shape ((if b then kept (after_group at new x) else x ∷ []) ++ left_after nums at new bag)
    choice true rest ready = each_append (IsFitting shape) (kept (after_group at new x)) (left_after nums at new bag) (kept_fits shape x.number x.unit (unwrap_or new x.words) x.grid (without_group at x.groups) (after_fits shape unit at new x ready.0.unit_is laws fits.0)) (rest ready.1)
    choice false rest ready = (fits.0, rest ready)

pub born_fits : (shape : Shape) (n : ℕ) (sent : List Sent) → Each (Arrives shape) sent → BagFits shape (flat_map kept (born shape n sent))
born_fits shape n [] all = tt
born_fits shape n (s ∷ sent) all =
    each_append (IsFitting shape) (kept (live_of shape n s)) (flat_map kept (born shape (n + 1) sent))
    (kept_fits shape n s.unit s.words (grid_of (kind_at shape s.unit) s.words) (groups_of (grid_of (kind_at shape s.unit) s.words))
    (record { unit = all.0.unit; words = all.0.words; first_words = s.words; grid = refl; stays = λ _. refl; groups = λ at. (omega arith) }))
    (born_fits shape (n + 1) sent all.1)

pub step_keeps : (shape : Shape) (made : Meaning) (turns : ℕ) (lengths : List ℕ) (s : State) (e : Entry) (p : Passed) → IsGoodShape shape → IsLawful shape made → StateFits shape lengths s → Step shape made turns s e p → StateFits shape lengths p.after
step_keeps shape made turns lengths s e p good lawful fits step =
    let laws = subst (λ (o : Option Outcome). IfSome o (KeepsLaws shape p.launch s.buffers turns)) step.runs (lawful p.launch s.buffers turns (allowed_fits shape s.bag p.launch e.at good fits.bag step.allowed)) in
    subst (StateFits shape lengths) (sym step.becomes) (record {
      bag = each_append (IsFitting shape) (left_after (numbers_of p.launch.records) e.at p.outcome.shared s.bag) (flat_map kept (born shape s.next p.outcome.sent))
          (left_fits shape p.launch.unit (numbers_of p.launch.records) e.at p.outcome.shared s.bag laws.shared step.allowed.ready fits.bag) (born_fits shape s.next p.outcome.sent laws.arrive);
      buffers = laws.lengths ∙ fits.buffers;
    })

run_keeps : (shape : Shape) (made : Meaning) (turns : ℕ) (lengths : List ℕ) (s : State) (entries : List Entry) (trail : List Passed) (final : State) → IsGoodShape shape → IsLawful shape made → StateFits shape lengths s → IsRun shape made turns s entries trail final → EachState (StateFits shape lengths) s trail
run_keeps shape made turns lengths s [] [] final good lawful fits run = fits
run_keeps shape made turns lengths s [] (p ∷ trail) final good lawful fits run = absurd run
run_keeps shape made turns lengths s (e ∷ entries) [] final good lawful fits run = absurd run
run_keeps shape made turns lengths s (e ∷ entries) (p ∷ trail) final good lawful fits run =
    (fits, run_keeps shape made turns lengths p.after entries trail final good lawful (step_keeps shape made turns lengths s e p good lawful fits run.0) run.1)

pub run_fits : (shape : Shape) (made : Meaning) (turns : ℕ) (script : List Sent) (buffers : Buffers) (entries : List Entry) (trail : List Passed) (final : State) → IsGoodShape shape → IsLawful shape made → Each (Arrives shape) script → IsRun shape made turns (start shape script buffers) entries trail final → EachState (StateFits shape (lengths_of buffers)) (start shape script buffers) trail
run_fits shape made turns script buffers entries trail final good lawful arrive run =
    run_keeps shape made turns (lengths_of buffers) (start shape script buffers) entries trail final good lawful (record { bag = born_fits shape 0 script arrive; buffers = refl }) run
