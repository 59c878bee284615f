-- The entries of a script as items.
use Rattle.std.proofs.Common.{◌≡◌, ℕ, suc, ◌+◌, ◌*◌, ◌<◌, ◌≤◌, Bool, true, false, List, [], ◌∷◌, ◌++◌, length, refl, ap, sym, ◌∙◌, subst, arith, None, Option, Some, unwrap_or}
use Rattle.std.specs.Prelude.{if◌then◌else◌, min, nat_lt, slice_get, slice_index}
use Rattle.std.specs.Option.{option_map}
use Rattle.wg_words.specs.Each.{Each}
use Rattle.wg_words.specs.declared.limits.TheConstants.{GRID_BOUND}
use Rattle.wg_machine.specs.declared.launch.Sent.{Sent}
use Rattle.wg_machine.specs.declared.shape.Kind.{Kind}
use Rattle.wg_machine.specs.declared.shape.Kind.TheVariants.{Thread, Coalescing, Grid, GridField}
use Rattle.wg_machine.specs.declared.shape.Shape.{Shape}
use Rattle.wg_machine.specs.declared.shape.Unit.{Unit as Node}
use Rattle.wg_machine.specs.GoodShape.{IsGoodKind, IsGoodShape}
use Rattle.wg_machine.specs.Grids.{clipped, grid_of, groups_in}
use Rattle.wg_machine.specs.Units.{kind_at}
use Rattle.wg_keep.specs.Opening.{IsOpening}
use Rattle.wg_store.specs.declared.item.Item.{Item}
use Rattle.wg_store.specs.Items.{AreAtPlaces, entry_items, item_of}

times_more : (a b c : ℕ) → a ≤ b → a * c ≤ b * c
times_more a b c h = grind arith

-- a clipped grid has no more groups
clipped_few : (a b c x y z : ℕ) → a ≤ x → b ≤ y → c ≤ z → a * b * c ≤ x * y * z
clipped_few a b c x y z p q r =
    let one = times_more a x b p in
    let two = times_more b y x q in
    let left = times_more (a * b) (x * y) c (let s : b * x ≡ x * b = grind arith in let t : y * x ≡ x * y = grind arith in omega (arith, one, two, s, t)) in
    let three = times_more c z (x * y) r in
    let s : c * (x * y) ≡ x * y * c = grind arith in
    let t : z * (x * y) ≡ x * y * z = grind arith in
    omega (arith, left, three, s, t)

clipped_low : (first parts : ℕ) (words : List ℕ) (k most : ℕ) → 1 ≤ most → clipped first parts words k most ≤ most
clipped_low first parts words k most h = go (nat_lt k parts)
  where
    go : (b : Bool) → (if b then min most (slice_index words (first + k)) else 1) ≤ most
    go true = omega arith
    go false = h

few_groups : (words : ℕ) (kind : Kind) (ws : List ℕ) → IsGoodKind words kind → groups_in (grid_of kind ws) < GRID_BOUND
few_groups words Thread ws good = omega arith
few_groups words (Coalescing most) ws good = omega arith
few_groups words (Grid x y z) ws good = good.product
few_groups words (GridField f p x y z) ws good =
    let a = clipped_low f p ws 0 x good.grid.x_fits.low in
    let b = clipped_low f p ws 1 y good.grid.y_fits.low in
    let c = clipped_low f p ws 2 z good.grid.z_fits.low in
    let product = good.grid.product in
    let less = clipped_few (clipped f p ws 0 x) (clipped f p ws 1 y) (clipped f p ws 2 z) x y z a b c in
    omega (arith, product, less)

-- a record of a good shape has few groups
pub sent_few : (shape : Shape) (s : Sent) → IsGoodShape shape → groups_in (grid_of (kind_at shape s.unit) s.words) < GRID_BOUND
sent_few shape s good = go (slice_get shape.units s.unit) refl
  where
    of : (o : Option Node) → slice_get shape.units s.unit ≡ o → groups_in (grid_of (unwrap_or (option_map (λ (n : Node). n.kind) o) Thread) s.words) < GRID_BOUND → groups_in (grid_of (unwrap_or (option_map (λ (n : Node). n.kind) (slice_get shape.units s.unit)) Thread) s.words) < GRID_BOUND
    of o e h = subst (λ (p : Option Node). groups_in (grid_of (unwrap_or (option_map (λ (n : Node). n.kind) p) Thread) s.words) < GRID_BOUND) (sym e) h

    go : (o : Option Node) → slice_get shape.units s.unit ≡ o → groups_in (grid_of (unwrap_or (option_map (λ (n : Node). n.kind) (slice_get shape.units s.unit)) Thread) s.words) < GRID_BOUND
    go None there = of None there (omega arith)
    go (Some node) there = of (Some node) there (few_groups node.words node.kind s.words (good.units s.unit node there).kind)

-- the entries with one more
pub entries_more : (shape : Shape) (n : ℕ) (ss : List Sent) (s : Sent) → entry_items shape n (ss ++ s ∷ []) ≡ entry_items shape n ss ++ item_of shape (n + length ss) s ∷ []
entries_more shape n [] s = let z : n ≡ n + 0 = omega arith in ap (λ (m : ℕ). item_of shape m s ∷ []) z
entries_more shape n (t ∷ ss) s =
    let z : (n + 1) + length ss ≡ n + suc (length ss) = omega arith in
    ap (λ (xs : List Item). item_of shape n t ∷ xs) (entries_more shape (n + 1) ss s ∙ ap (λ (m : ℕ). entry_items shape (n + 1) ss ++ item_of shape m s ∷ []) z)

pub long_entries : (shape : Shape) (n : ℕ) (ss : List Sent) → length (entry_items shape n ss) ≡ length ss
long_entries shape n [] = refl
long_entries shape n (s ∷ ss) = ap suc (long_entries shape (n + 1) ss)

-- one more entry is made
pub made_more : (shape : Shape) (ss : List Sent) (s : Sent) (xs ys : List Item) (x : Item) → xs ≡ entry_items shape 0 ss → x ≡ item_of shape (length xs) s → ys ≡ xs ++ x ∷ [] → ys ≡ entry_items shape 0 (ss ++ s ∷ [])
made_more shape ss s xs ys x whole made more =
    let z : length ss ≡ 0 + length ss = omega arith in
    let long : length xs ≡ 0 + length ss = ap length whole ∙ long_entries shape 0 ss ∙ z in
    more ∙ ap (λ (y : Item). xs ++ y ∷ []) (made ∙ ap (λ (m : ℕ). item_of shape m s) long)
    ∙ ap (λ (zs : List Item). zs ++ item_of shape (0 + length ss) s ∷ []) whole ∙ sym (entries_more shape 0 ss s)

pub entry_places : (shape : Shape) (n : ℕ) (ss : List Sent) → AreAtPlaces n (entry_items shape n ss)
entry_places shape n [] = tt
entry_places shape n (s ∷ ss) = (refl, entry_places shape (n + 1) ss)

pub entry_openings : (shape : Shape) (n : ℕ) (ss : List Sent) → IsGoodShape shape → Each (λ (x : Item). IsOpening x.opening) (entry_items shape n ss)
entry_openings shape n [] good = tt
entry_openings shape n (s ∷ ss) good = (record { opened = omega arith; left = omega arith; few = sent_few shape s good }, entry_openings shape (n + 1) ss good)
