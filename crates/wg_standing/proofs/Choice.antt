-- The launch that is chosen is one that what is unopened allows.
use Rattle.std.proofs.Common.{◌≡◌, ℕ, zero, suc, ◌+◌, ◌<◌, ◌≤◌, Bool, true, false, List, [], ◌∷◌, length, refl, ap, sym, ◌∙◌, subst, arith, inl, inr, ◌⊎◌, unwrap_or}
use Rattle.std.specs.Prelude.{if◌then◌else◌, ◌==◌, filter, take, take_while, slice_get, ⊤}
use Rattle.std.specs.List.{prefix_len}
use Rattle.std.proofs.lemmas.Bool.Decides.{nat_tests}
use Rattle.wg_machine.specs.declared.launch.Live.{Live}
use Rattle.wg_machine.specs.declared.shape.Kind.TheVariants.{Thread, Coalescing, Grid, GridField}
use Rattle.wg_machine.specs.declared.shape.Kind.{Kind}
use Rattle.wg_machine.specs.declared.shape.Shape.{Shape}
use Rattle.wg_machine.specs.Step.{IsReady, first_grid, has_number, taken}
use Rattle.wg_machine.specs.Units.{kind_at, most_inputs}
use Rattle.wg_machine.specs.Grids.{grid_of, has_group}
use Rattle.wg_standing.specs.Standing.{Rises, IsFull, IsGridAt, EachFull, origin, has_one_group}
use Rattle.wg_standing.specs.Outs.{IsAllowed}
use Rattle.wg_standing.specs.Choice.{front_for, first_group, pending_from}
use Rattle.wg_words.specs.Each.{Each}
use Rattle.wg_standing.proofs.Allowed.{has_here, same_self}
use Rattle.wg_standing.proofs.Rising.{numbers}
use Rattle.wg_standing.proofs.Names.{Named, allowed_of, numbers_taken}

-- some of a list, in its order
abbrev pub IsSub : List Live → List Live → Type 0
IsSub [] ys = ⊤
IsSub (x ∷ xs) [] = ⊥
IsSub (x ∷ xs) (y ∷ ys) = ((x ≡ y) × IsSub xs ys) ⊎ IsSub (x ∷ xs) ys

pub sub_more : (xs : List Live) (y : Live) (ys : List Live) → IsSub xs ys → IsSub xs (y ∷ ys)
sub_more [] y ys s = tt
sub_more (x ∷ xs) y ys s = inr s

pub sub_filter : (p : Live → Bool) (ys : List Live) → IsSub (filter p ys) ys
sub_filter p [] = tt
sub_filter p (y ∷ ys) = choice (p y) (sub_filter p ys)
  where
    choice : (b : Bool) → IsSub (filter p ys) ys → IsSub (if b then y ∷ filter p ys else filter p ys) (y ∷ ys)
    choice true s = inl (refl, s)
    choice false s = sub_more (filter p ys) y ys s

pub sub_take : (k : ℕ) (xs ys : List Live) → IsSub xs ys → IsSub (take k xs) ys
sub_take zero xs ys s = tt
sub_take (suc k) [] ys s = tt
sub_take (suc k) (x ∷ xs) [] s = absurd s
sub_take (suc k) (x ∷ xs) (y ∷ ys) (inl a) = inl (a.0, sub_take k xs ys a.1)
sub_take (suc k) (x ∷ xs) (y ∷ ys) (inr b) = inr (sub_take (suc k) (x ∷ xs) ys b)

pub sub_while : (p : Live → Bool) (xs ys : List Live) → IsSub xs ys → IsSub (take_while p xs) ys
sub_while p xs ys s = sub_take (prefix_len p xs) xs ys s

sub_above : (n lo end : ℕ) (xs ys : List Live) → IsSub xs ys → Rises lo ys end → n < lo → has_number (numbers xs) n ≡ false
sub_above n lo end [] ys s r h = refl
sub_above n lo end (x ∷ xs) [] s r h = absurd s
sub_above n lo end (x ∷ xs) (y ∷ ys) (inl a) r h =
    let low = r.0 in
    let q = ap (λ (z : Live). z.number) a.0 in
    let e : (x.number == n) ≡ false = grind (arith, nat_tests) in
    rw (e, sub_above n (y.number + 1) end xs ys a.1 r.1 (omega arith)) refl
sub_above n lo end (x ∷ xs) (y ∷ ys) (inr b) r h = let low = r.0 in sub_above n (y.number + 1) end (x ∷ xs) ys b r.1 (omega arith)

taken_nil : (ys : List Live) → taken [] ys ≡ []
taken_nil [] = refl
taken_nil (y ∷ ys) = taken_nil ys

skip_first : (m lo end : ℕ) (ns : List ℕ) (ys : List Live) → Rises lo ys end → m < lo → taken (m ∷ ns) ys ≡ taken ns ys
skip_first m lo end ns [] r h = refl
skip_first m lo end ns (y ∷ ys) r h =
    let low = r.0 in
    let e : (m == y.number) ≡ false = grind (arith, nat_tests) in
    rw (e, skip_first m (y.number + 1) end ns ys r.1 (omega arith)) refl

-- the records with the numbers of some are those
pub taken_sub : (lo end : ℕ) (xs ys : List Live) → IsSub xs ys → Rises lo ys end → taken (numbers xs) ys ≡ xs
taken_sub lo end [] ys s r = taken_nil ys
taken_sub lo end (x ∷ xs) [] s r = absurd s
taken_sub lo end (x ∷ xs) (y ∷ ys) (inl a) r =
    let q = ap (λ (z : Live). z.number) a.0 in
    let e : (x.number == y.number) ≡ true = grind (arith, nat_tests) in
    let k : taken (x.number ∷ numbers xs) ys ≡ xs = skip_first x.number (y.number + 1) end (numbers xs) ys r.1 (omega arith) ∙ taken_sub (y.number + 1) end xs ys a.1 r.1 in
    rw e (ap (λ (rest : List Live). y ∷ rest) k ∙ ap (λ (z : Live). z ∷ xs) (sym a.0))
taken_sub lo end (x ∷ xs) (y ∷ ys) (inr b) r =
    let e : has_number (numbers (x ∷ xs)) y.number ≡ false = sub_above y.number (y.number + 1) end (x ∷ xs) ys b r.1 (omega arith) in
    subst (λ (t : Bool). (if t then y ∷ taken (numbers (x ∷ xs)) ys else taken (numbers (x ∷ xs)) ys) ≡ x ∷ xs) (sym e) (taken_sub (y.number + 1) end (x ∷ xs) ys b r.1)

pub sub_full : (shape : Shape) (xs ys : List Live) → IsSub xs ys → EachFull shape ys → EachFull shape xs
sub_full shape [] ys s f = tt
sub_full shape (x ∷ xs) [] s f = absurd s
sub_full shape (x ∷ xs) (y ∷ ys) (inl a) f = (subst (IsFull shape) (sym a.0) f.0, sub_full shape xs ys a.1 f.1)
sub_full shape (x ∷ xs) (y ∷ ys) (inr b) f = sub_full shape (x ∷ xs) ys b f.1

-- all are of a unit, and full as its kind has it
abbrev pub AllOf : ℕ → Kind → List Live → Type 0
AllOf u k [] = ⊤
AllOf u k (x ∷ xs) = (x.unit ≡ u) × (0 < length x.groups) × (has_one_group k ≡ true → x.groups ≡ origin ∷ []) × ((words : List ℕ) × (x.grid ≡ grid_of k words)) × AllOf u k xs

abbrev pub AllAt : ℕ → List Live → Type 0
AllAt u [] = ⊤
AllAt u (x ∷ xs) = (x.unit ≡ u) × AllAt u xs

all_of : (shape : Shape) (u : ℕ) (xs : List Live) → AllAt u xs → EachFull shape xs → AllOf u (kind_at shape u) xs
all_of shape u [] a f = tt
all_of shape u (x ∷ xs) a f = (a.0, f.0.some, λ e. f.0.whole (subst (λ (n : ℕ). has_one_group (kind_at shape n) ≡ true) (sym a.0) e), subst (λ (n : ℕ). IsGridAt shape n x.grid) a.0 f.0.grid, all_of shape u xs a.1 f.1)

has_first : (gs : List (List ℕ)) → 0 < length gs → has_group gs (unwrap_or (slice_get gs 0) []) ≡ true
has_first [] h = absurd (omega arith)
has_first (g ∷ gs) h = has_here g g gs (same_self g)

origins_ready : (u : ℕ) (k : Kind) (m : ℕ) (xs : List Live) → has_one_group k ≡ true → AllOf u k xs → Each (IsReady u origin) (take m xs)
origins_ready u k zero xs e a = tt
origins_ready u k (suc m) [] e a = tt
origins_ready u k (suc m) (x ∷ xs) e a =
    (record { unit_is = a.0; group_is = subst (λ (gs : List (List ℕ)). has_group gs origin ≡ true) (sym (a.2 e)) refl }, origins_ready u k m xs e a.4)

first_ready : (u : ℕ) (k : Kind) (x : Live) (xs : List Live) → AllOf u k (x ∷ xs) → Each (IsReady u (first_group (x ∷ xs))) (take 1 (x ∷ xs))
first_ready u k x xs a = (record { unit_is = a.0; group_is = has_first x.groups a.1 }, tt)

ready_from : (u : ℕ) (k : Kind) (x : Live) (xs : List Live) → AllOf u k (x ∷ xs) → Each (IsReady u (first_group (x ∷ xs))) (take (most_inputs k) (x ∷ xs))
ready_from u Thread x xs a = first_ready u Thread x xs a
ready_from u (Coalescing m) x xs a =
    let e : origin ≡ first_group (x ∷ xs) = sym (ap (λ (gs : List (List ℕ)). unwrap_or (slice_get gs 0) []) (a.2 refl)) in
    subst (λ (at : List ℕ). Each (IsReady u at) (take m (x ∷ xs))) e (origins_ready u (Coalescing m) m (x ∷ xs) refl a)
ready_from u (Grid p q r) x xs a = first_ready u (Grid p q r) x xs a
ready_from u (GridField f n p q r) x xs a = first_ready u (GridField f n p q r) x xs a

one_grid : (k : Kind) (words : List ℕ) → has_one_group k ≡ true → grid_of k words ≡ 1 ∷ 1 ∷ 1 ∷ []
one_grid Thread words e = refl
one_grid (Coalescing m) words e = refl
one_grid (Grid x y z) words e = absurd (cc)
one_grid (GridField f n x y z) words e = absurd (cc)

-- records of a unit with one group have one grid
grids_alike : (k : Kind) (g : List ℕ) (u : ℕ) (xs : List Live) → has_one_group k ≡ true → g ≡ 1 ∷ 1 ∷ 1 ∷ [] → AllOf u k xs → (m : ℕ) → Each (λ (r : Live). g ≡ r.grid) (take m xs)
grids_alike k g u xs e q a zero = tt
grids_alike k g u [] e q a (suc m) = tt
grids_alike k g u (x ∷ xs) e q a (suc m) = (q ∙ sym (a.3.1 ∙ one_grid k a.3.0 e), grids_alike k g u xs e q a.4 m)

grid_from : (k : Kind) (u : ℕ) (x : Live) (xs : List Live) → 1 ≤ most_inputs k → AllOf u k (x ∷ xs) → Each (λ (r : Live). first_grid (take (most_inputs k) (x ∷ xs)) ≡ r.grid) (take (most_inputs k) (x ∷ xs))
grid_from Thread u x xs h a = (refl, tt)
grid_from (Coalescing zero) u x xs h a = absurd (omega arith)
grid_from (Coalescing (suc m)) u x xs h a = grids_alike (Coalescing (suc m)) x.grid u (x ∷ xs) refl (a.3.1 ∙ one_grid (Coalescing (suc m)) a.3.0 refl) a (suc m)
grid_from (Grid p q s) u x xs h a = (refl, tt)
grid_from (GridField f n p q s) u x xs h a = (refl, tt)

length_some : (m : ℕ) (x : Live) (xs : List Live) → 1 ≤ m → 1 ≤ length (numbers (take m (x ∷ xs)))
length_some zero x xs h = absurd (omega arith)
length_some (suc m) x xs h = omega arith

length_few : (m : ℕ) (xs : List Live) → length (numbers (take m xs)) ≤ m
length_few zero xs = omega arith
length_few (suc m) [] = omega arith
length_few (suc m) (x ∷ xs) = let k = length_few m xs in omega (arith, k)

-- the launch that takes from the front of some is allowed
pub allowed_from : (ticket : ℕ) (shape : Shape) (u lo end : ℕ) (xs ready : List Live) → IsSub xs ready → Rises lo ready end → EachFull shape ready → AllAt u xs → 0 < length xs → 1 ≤ most_inputs (kind_at shape u) → IsAllowed shape ready (pending_from ticket shape u xs)
allowed_from ticket shape u lo end [] ready s r f a h m = absurd (omega arith)
allowed_from ticket shape u lo end (x ∷ xs) ready s r f a h m =
    let k = kind_at shape u in
    let o = pending_from ticket shape u (x ∷ xs) in
    let mine = front_for shape u (x ∷ xs) in
    let inputs : o.inputs ≡ numbers mine = numbers_taken mine in
    let t : taken o.inputs ready ≡ mine = ap (λ (ns : List ℕ). taken ns ready) inputs ∙ taken_sub lo end mine ready (sub_take (most_inputs k) (x ∷ xs) ready s) r in
    let all = all_of shape u (x ∷ xs) a (sub_full shape (x ∷ xs) ready s f) in
    let many = ap (λ (ns : List ℕ). length ns) inputs in
    let some = length_some (most_inputs k) x xs m in
    let few = length_few (most_inputs k) (x ∷ xs) in
    let named : Named shape o mine = record {
      named = sym inputs;
      some = omega (arith, many, some);
      few = omega (arith, many, few);
      ready = ready_from u k x xs all;
      grid = grid_from k u x xs m all;
    } in
    allowed_of shape ready o (subst (Named shape o) (sym t) named)
