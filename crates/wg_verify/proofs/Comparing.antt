-- Lines of buffers, compared one by one.
use Rattle.std.proofs.Common.{◌≡◌, ◌∙◌, ℕ, zero, suc, ◌≤◌, ◌<◌, List, [], ◌∷◌, length, take, get_or, Some, None, refl, ap, sym, subst, arith}
use Rattle.std.proofs.lemmas.List.{take_all}
use Rattle.std.specs.Prelude.{slice_get}
use Rattle.wg_machine.specs.declared.journal.BufferLine.{BufferLine}
use Rattle.wg_machine.specs.Buffers.{Buffers, buffer_at}
use Rattle.wg_verify.specs.Tails.{buffer_line, buffer_lines, AreFirst, DifferAt}

pub lines_count : (names : List (List ℕ)) (buffers : Buffers) → length buffers ≡ length names → length (buffer_lines names buffers) ≡ length names
lines_count [] buffers h = refl
lines_count (name ∷ names) [] h = absurd (omega arith)
lines_count (name ∷ names) (words ∷ buffers) h = ap suc (lines_count names buffers (omega arith))

some_inside : {X : Type 0} (xs : List X) (k : ℕ) (x : X) → slice_get xs k ≡ Some x → k < length xs
some_inside [] k x h = cc
some_inside (y ∷ xs) zero x h = omega arith
some_inside (y ∷ xs) (suc k) x h = let ih = some_inside xs k x h in omega (arith, ih)

pub line_inside : (names : List (List ℕ)) (buffers : Buffers) (k : ℕ) (line : BufferLine) → length buffers ≡ length names
    → slice_get (buffer_lines names buffers) k ≡ Some line → k < length names
line_inside names buffers k line many h =
    let inside = some_inside (buffer_lines names buffers) k line h in
    let count = lines_count names buffers many in
    omega (arith, inside, count)

pub line_at : (names : List (List ℕ)) (buffers : Buffers) (k : ℕ) (name : List ℕ) → length buffers ≡ length names
    → slice_get names k ≡ Some name → slice_get (buffer_lines names buffers) k ≡ Some (buffer_line name (buffer_at buffers k))
line_at [] buffers k name many h = cc
line_at (n ∷ names) [] k name many h = absurd (omega arith)
line_at (n ∷ names) (words ∷ buffers) zero name many h =
    let same : n ≡ name = cc in
    ap (λ (x : List ℕ). Some (buffer_line x words)) same
line_at (n ∷ names) (words ∷ buffers) (suc k) name many h = line_at names buffers k name (omega arith) h

pub agree_more : (lines all : List BufferLine) (k : ℕ) (line : BufferLine) → k < length lines → line ≡ get_or lines k line
    → take k lines ≡ take k all → slice_get all k ≡ Some line → take (suc k) lines ≡ take (suc k) all
agree_more [] all k line less is same at = absurd (omega arith)
agree_more (x ∷ lines) [] k line less is same at = cc
agree_more (x ∷ lines) (y ∷ all) zero line less is same at =
    let e : x ≡ y = cc in
    ap (λ (z : BufferLine). z ∷ []) e
agree_more (x ∷ lines) (y ∷ all) (suc k) line less is same at =
    let e : x ≡ y = cc in
    let rest : take k lines ≡ take k all = cc in
    ap (λ (z : BufferLine). z ∷ take (suc k) lines) e ∙ ap (λ (zs : List BufferLine). y ∷ zs) (agree_more lines all k line (omega arith) is rest at)

get_is : {X : Type 0} (xs : List X) (k : ℕ) (x : X) → k < length xs → x ≡ get_or xs k x → slice_get xs k ≡ Some x
get_is [] k x less is = absurd (omega arith)
get_is (y ∷ xs) zero x less is = ap (λ z. Some z) (sym is)
get_is (y ∷ xs) (suc k) x less is = get_is xs k x (omega arith) is

pub differ_here : (lines all : List BufferLine) (k : ℕ) (line : BufferLine) → k < length lines → line ≡ get_or lines k line
    → take k lines ≡ take k all → (slice_get all k ≡ Some line → ⊥) → DifferAt k lines all
differ_here lines all k line less is same other = record {
  inside = less;
  before = same;
  here = λ h. other (sym h ∙ get_is lines k line less is);
}

pub all_agree : (lines all : List BufferLine) (k : ℕ) → length lines ≤ k → take k lines ≡ take k all → k ≤ length lines → AreFirst lines all
all_agree lines all k most same least =
    let e : k ≡ length lines = omega arith in
    subst (λ (n : ℕ). take n all ≡ lines) e (sym same ∙ take_all k lines most)

pub agree_all : (lines all : List BufferLine) → AreFirst lines all → length lines ≡ length all → lines ≡ all
agree_all lines all h same = sym h ∙ ap (λ (n : ℕ). take n all) same ∙ take_all (length all) all (omega arith)

pub get_none : {X : Type 0} (xs : List X) (k : ℕ) → slice_get xs k ≡ None → length xs ≤ k
get_none [] k h = omega arith
get_none (y ∷ xs) zero h = cc
get_none (y ∷ xs) (suc k) h = let ih = get_none xs k h in omega (arith, ih)
