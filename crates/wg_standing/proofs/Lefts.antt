-- What is left of the entries, as launches take from their front and shared records get new words.
use Rattle.std.proofs.Common.{◌≡◌, ℕ, zero, suc, ◌+◌, ◌<◌, ◌≤◌, Bool, true, false, ◌||◌, List, [], ◌∷◌, ◌++◌, length, map, refl, ap, sym, ◌∙◌, subst, arith, append_assoc, take, None, Option, unwrap_or}
use Rattle.std.specs.Prelude.{if◌then◌else◌, ◌==◌, ◌&&◌, filter, nat_le, take_while, slice_get}
use Rattle.std.specs.List.{prefix_len}
use Rattle.std.proofs.lemmas.Bool.Decides.{nat_tests}
use Rattle.wg_words.specs.Each.{Each}
use Rattle.wg_machine.specs.declared.launch.Live.{Live}
use Rattle.wg_machine.specs.declared.shape.Kind.{Kind}
use Rattle.wg_machine.specs.declared.shape.Kind.TheVariants.{Thread, Coalescing, Grid, GridField}
use Rattle.wg_machine.specs.declared.shape.Shape.{Shape}
use Rattle.wg_machine.specs.GoodShape.{IsGoodShape}
use Rattle.wg_machine.specs.Grids.{same_group, without_group}
use Rattle.wg_machine.specs.State.{kept}
use Rattle.wg_machine.specs.Step.{after_group, has_number, left_after, numbers_of, record_of}
use Rattle.wg_machine.specs.Units.{kind_at, most_inputs}
use Rattle.wg_standing.specs.declared.pending.Pending.{Pending}
use Rattle.wg_standing.specs.Choice.{IsChoice, from_slots, from_entries, first_group, first_unit, front_for, pending_from, waiting_at}
use Rattle.wg_standing.specs.Core.{CoreView}
use Rattle.wg_standing.specs.Left.{AreNext, AreUntouched, IsEndOf, IsLeftOf, IsSameRecord}
use Rattle.wg_standing.specs.Moves.{with_words}
use Rattle.wg_standing.specs.Outs.{unopened}
use Rattle.wg_standing.specs.Standing.{EachFull, IsFull, IsPlaced, Rises, has_one_group, in_slot, is_entry_record, origin}
use Rattle.wg_standing.proofs.Allowed.{same_self}
use Rattle.wg_standing.proofs.Choice.{AllAt, sub_filter, sub_full}
use Rattle.wg_standing.proofs.Chosen.{full_unopened, prefix_at, prefix_some, waiting_is}
use Rattle.wg_standing.proofs.Shapes.{takes_some}
use Rattle.wg_standing.proofs.Rising.{rises_unopened, rises_weaker}
use Rattle.wg_standing.proofs.Words.{same_number, same_unit, same_grid, same_groups, worded}

pub untouched : (xs : List Live) → AreUntouched xs xs
untouched [] = tt
untouched (x ∷ xs) = (record { number = refl; unit = refl; grid = refl }, refl, untouched xs)

pub next_of : (xs ys : List Live) → AreUntouched xs ys → AreNext xs ys
next_of [] [] a = tt
next_of (x ∷ xs) (y ∷ ys) a = (a.0, ([], sym a.1), a.2)
next_of [] (y ∷ ys) a = absurd a
next_of (x ∷ xs) [] a = absurd a

pub all_left : (xs : List Live) → IsLeftOf xs xs
all_left xs = record { opened = []; rest = xs; parts = refl; next = next_of xs xs (untouched xs) }

-- new words leave a record what it is
same_worded : (b : Bool) (new : Option (List ℕ)) (x y : Live) → IsSameRecord x y → IsSameRecord x (worded b new y)
same_worded b new x y s = record { number = same_number b new y ∙ s.number; unit = same_unit b new y ∙ s.unit; grid = same_grid b new y ∙ s.grid }

untouched_worded : (nums : List ℕ) (new : Option (List ℕ)) (xs ys : List Live) → AreUntouched xs ys → AreUntouched xs (with_words nums new ys)
untouched_worded nums new [] [] a = tt
untouched_worded nums new (x ∷ xs) (y ∷ ys) a =
    (same_worded (has_number nums y.number) new x y a.0, same_groups (has_number nums y.number) new y ∙ a.1, untouched_worded nums new xs ys a.2)
untouched_worded nums new [] (y ∷ ys) a = absurd a
untouched_worded nums new (x ∷ xs) [] a = absurd a

next_worded : (nums : List ℕ) (new : Option (List ℕ)) (xs ys : List Live) → AreNext xs ys → AreNext xs (with_words nums new ys)
next_worded nums new [] [] a = tt
next_worded nums new (x ∷ xs) (y ∷ ys) a =
    (same_worded (has_number nums y.number) new x y a.0, subst (IsEndOf x.groups) (sym (same_groups (has_number nums y.number) new y)) a.1, untouched_worded nums new xs ys a.2)
next_worded nums new [] (y ∷ ys) a = absurd a
next_worded nums new (x ∷ xs) [] a = absurd a

pub left_reworded : (nums : List ℕ) (new : Option (List ℕ)) (all left : List Live) → IsLeftOf all left → IsLeftOf all (with_words nums new left)
left_reworded nums new all left l = record { opened = l.opened; rest = l.rest; parts = l.parts; next = next_worded nums new l.rest left l.next }

-- without some of the first, all that is left is untouched
later_left : (all opened xs front back : List Live) → all ≡ opened ++ xs → AreUntouched xs (front ++ back) → IsLeftOf all back
later_left all opened xs [] back e a = record { opened = opened; rest = xs; parts = e; next = next_of xs back a }
later_left all opened [] (f ∷ front) back e a = absurd a
later_left all opened (x ∷ xs) (f ∷ front) back e a = later_left all (opened ++ x ∷ []) xs front back (e ∙ sym (append_assoc opened (x ∷ []) xs)) a.2

dropped : (all : List Live) (f : Live) (front back : List Live) → IsLeftOf all (f ∷ front ++ back) → IsLeftOf all back
dropped all f front back l = go l.rest l.parts l.next
  where
    go : (rest : List Live) → all ≡ l.opened ++ rest → AreNext rest (f ∷ front ++ back) → IsLeftOf all back
    go [] e a = absurd a
    go (x ∷ rest) e a = later_left all (l.opened ++ x ∷ []) rest front back (e ∙ sym (append_assoc l.opened (x ∷ []) rest)) a.2

-- the first with some groups more opened
opened_more : (all : List Live) (y : Live) (g : List ℕ) (gs : List (List ℕ)) (back : List Live) → y.groups ≡ g ∷ gs → IsLeftOf all (y ∷ back) → IsLeftOf all (record y { groups = gs } ∷ back)
opened_more all y g gs back q l = go l.rest l.parts l.next
  where
    go : (rest : List Live) → all ≡ l.opened ++ rest → AreNext rest (y ∷ back) → IsLeftOf all (record y { groups = gs } ∷ back)
    go [] e a = absurd a
    go (x ∷ rest) e a =
        let less : IsEndOf x.groups gs = (a.1.0 ++ g ∷ [], a.1.1 ∙ ap (λ (hs : List (List ℕ)). a.1.0 ++ hs) q ∙ sym (append_assoc a.1.0 (g ∷ []) gs)) in
        record { opened = l.opened; rest = x ∷ rest; parts = e; next = (record { number = a.0.number; unit = a.0.unit; grid = a.0.grid }, less, a.2) }

-- none of the records has one of the numbers
abbrev NoneIn : List ℕ → List Live → Type 0
NoneIn nums xs = Each (λ (x : Live). has_number nums x.number ≡ false) xs

-- each of the records has one of the numbers, and one group, the given one
abbrev AllIn : List ℕ → List ℕ → List Live → Type 0
AllIn nums at xs = Each (λ (x : Live). (has_number nums x.number ≡ true) × (x.groups ≡ at ∷ [])) xs

pub none_leaves : (nums at : List ℕ) (xs : List Live) → NoneIn nums xs → left_after nums at None xs ≡ xs
none_leaves nums at [] n = refl
none_leaves nums at (x ∷ xs) n = rw n.0 (ap (λ (rest : List Live). x ∷ rest) (none_leaves nums at xs n.1))

all_leave : (nums at : List ℕ) (front back : List Live) → AllIn nums at front → NoneIn nums back → left_after nums at None (front ++ back) ≡ back
all_leave nums at [] back a n = none_leaves nums at back n
all_leave nums at (x ∷ front) back a n = rw a.0.0 (ap (λ (xs : List Live). xs ++ left_after nums at None (front ++ back)) (gone x a.0.1) ∙ all_leave nums at front back a.1 n)
  where
    gone : (x : Live) → x.groups ≡ at ∷ [] → kept (after_group at None x) ≡ []
    gone x e =
        let same : (if same_group at at then [] else at ∷ []) ≡ [] = rw (same_self at) refl in
        let none : without_group at x.groups ≡ [] = ap (without_group at) e ∙ same in
        ap (λ (gs : List (List ℕ)). kept (record x { groups = gs })) none

-- numbers of records in slots are none of entries
high_slots : (handed u : ℕ) (xs : List Live) → Each (λ (x : Live). handed ≤ x.number) (filter (in_slot handed u) xs)
high_slots handed u [] = tt
high_slots handed u (x ∷ xs) = choice (in_slot handed u x) refl (high_slots handed u xs)
  where
    high : (a : Bool) → (a && nat_le handed x.number) ≡ true → handed ≤ x.number
    high true e = grind (arith, nat_tests)
    high false e = absurd (cc)

    choice : (b : Bool) → in_slot handed u x ≡ b → Each (λ (x : Live). handed ≤ x.number) (filter (in_slot handed u) xs) → Each (λ (x : Live). handed ≤ x.number) (if b then x ∷ filter (in_slot handed u) xs else filter (in_slot handed u) xs)
    choice true e a = (high (x.unit == u) e, a)
    choice false e a = a

low_entries : (handed : ℕ) (xs : List Live) → Each (λ (x : Live). x.number < handed) (filter (is_entry_record handed) xs)
low_entries handed [] = tt
low_entries handed (x ∷ xs) = choice (is_entry_record handed x) refl (low_entries handed xs)
  where
    choice : (b : Bool) → is_entry_record handed x ≡ b → Each (λ (x : Live). x.number < handed) (filter (is_entry_record handed) xs) → Each (λ (x : Live). x.number < handed) (if b then x ∷ filter (is_entry_record handed) xs else filter (is_entry_record handed) xs)
    choice true e a = (grind (arith, nat_tests), a)
    choice false e a = a

each_taken : (P : Live → Type 0) (k : ℕ) (xs : List Live) → Each P xs → Each P (take k xs)
each_taken P zero xs e = tt
each_taken P (suc k) [] e = tt
each_taken P (suc k) (x ∷ xs) e = (e.0, each_taken P k xs e.1)

high_number : (handed n : ℕ) (xs : List Live) → Each (λ (x : Live). handed ≤ x.number) xs → n < handed → has_number (numbers_of (map record_of xs)) n ≡ false
high_number handed n [] high h = refl
high_number handed n (x ∷ xs) high h =
    let low = high.0 in
    let e : (x.number == n) ≡ false = grind (arith, nat_tests) in
    rw (e, high_number handed n xs high.1 h) refl

none_high : (handed : ℕ) (xs ys : List Live) → Each (λ (x : Live). handed ≤ x.number) xs → Each (λ (y : Live). y.number < handed) ys → NoneIn (numbers_of (map record_of xs)) ys
none_high handed xs [] high low = tt
none_high handed xs (y ∷ ys) high low = (high_number handed y.number xs high low.0, none_high handed xs ys high low.1)

-- records in rising order: those in front are among their numbers, those behind are not
rises_those : (p : Live → Bool) (lo end : ℕ) (xs : List Live) → Rises lo xs end → Rises lo (filter p xs) end
rises_those p lo end [] r = r
rises_those p lo end (x ∷ xs) r = choice (p x) (rises_those p (x.number + 1) end xs r.1)
  where
    choice : (b : Bool) → Rises (x.number + 1) (filter p xs) end → Rises lo (if b then x ∷ filter p xs else filter p xs) end
    choice true h = (r.0, h)
    choice false h = let low = r.0 in rises_weaker lo (x.number + 1) end (filter p xs) (omega arith) h

among_more : (m : ℕ) (ms : List ℕ) (xs : List Live) → Each (λ (x : Live). has_number ms x.number ≡ true) xs → Each (λ (x : Live). has_number (m ∷ ms) x.number ≡ true) xs
among_more m ms [] e = tt
among_more m ms (x ∷ xs) e = (or_more (m == x.number) (has_number ms x.number) e.0, among_more m ms xs e.1)
  where
    or_more : (a b : Bool) → b ≡ true → (a || b) ≡ true
    or_more true b e = refl
    or_more false b e = e

among_own : (xs : List Live) → Each (λ (x : Live). has_number (numbers_of (map record_of xs)) x.number ≡ true) xs
among_own [] = tt
among_own (x ∷ xs) =
    let self : (x.number == x.number) ≡ true = grind (arith, nat_tests) in
    (rw self refl, among_more x.number (numbers_of (map record_of xs)) xs (among_own xs))

behind : (lo end n : ℕ) (front back : List Live) → Rises lo (front ++ back) end → n < lo → has_number (numbers_of (map record_of front)) n ≡ false
behind lo end n [] back r h = refl
behind lo end n (x ∷ front) back r h =
    let low = r.0 in
    let e : (x.number == n) ≡ false = grind (arith, nat_tests) in
    rw (e, behind (x.number + 1) end n front back r.1 (omega arith)) refl

none_low : (n lo end : ℕ) (nums : List ℕ) (xs : List Live) → Rises lo xs end → NoneIn nums xs → n < lo → NoneIn (n ∷ nums) xs
none_low n lo end nums [] r a h = tt
none_low n lo end nums (x ∷ xs) r a h =
    let low = r.0 in
    let e : (n == x.number) ≡ false = grind (arith, nat_tests) in
    (rw (e, a.0) refl, none_low n (x.number + 1) end nums xs r.1 a.1 (omega arith))

rises_back : (lo end : ℕ) (front back : List Live) → Rises lo (front ++ back) end → Rises lo back end
rises_back lo end [] back r = r
rises_back lo end (x ∷ front) back r = let low = r.0 in rises_weaker lo (x.number + 1) end back (omega arith) (rises_back (x.number + 1) end front back r.1)

none_behind : (lo end : ℕ) (front back : List Live) → Rises lo (front ++ back) end → NoneIn (numbers_of (map record_of front)) back
none_behind lo end [] back r = bare back
  where
    bare : (xs : List Live) → NoneIn [] xs
    bare [] = tt
    bare (x ∷ xs) = (refl, bare xs)
none_behind lo end (x ∷ front) back r = none_low x.number (x.number + 1) end (numbers_of (map record_of front)) back (rises_back (x.number + 1) end front back r.1) (none_behind (x.number + 1) end front back r.1) (omega arith)

all_in : (nums at : List ℕ) (xs : List Live) → Each (λ (x : Live). has_number nums x.number ≡ true) xs → Each (λ (x : Live). x.groups ≡ at ∷ []) xs → AllIn nums at xs
all_in nums at [] a b = tt
all_in nums at (x ∷ xs) a b = ((a.0, b.0), all_in nums at xs a.1 b.1)

-- a list begins with what is taken of it
record Front (k : ℕ) (p : Live → Bool) (xs : List Live) : Type 0 where
  back : List Live
  whole : xs ≡ take k (take_while p xs) ++ back

begins : (k : ℕ) (xs : List Live) → (back : List Live) × (xs ≡ take k xs ++ back)
begins zero xs = (xs, refl)
begins (suc k) [] = ([], refl)
begins (suc k) (x ∷ xs) = let b = begins k xs in (b.0, ap (λ (rest : List Live). x ∷ rest) b.1)

front_of : (k : ℕ) (p : Live → Bool) (xs : List Live) → Front k p xs
front_of k p xs =
    let a = begins (prefix_len p xs) xs in
    let b = begins k (take (prefix_len p xs) xs) in
    record { back = b.0 ++ a.0; whole = a.1 ∙ ap (λ (ys : List Live). ys ++ a.0) b.1 ∙ append_assoc (take k (take (prefix_len p xs) xs)) b.0 a.0 }

one_input : (k : Kind) → has_one_group k ≡ false → most_inputs k ≡ 1
one_input Thread e = absurd (cc)
one_input (Coalescing most) e = absurd (cc)
one_input (Grid x y z) e = refl
one_input (GridField first parts x y z) e = refl

-- records of a unit with one group have the one group
each_origin : (shape : Shape) (u : ℕ) (xs : List Live) → has_one_group (kind_at shape u) ≡ true → EachFull shape xs → AllAt u xs → Each (λ (x : Live). x.groups ≡ origin ∷ []) xs
each_origin shape u [] one f a = tt
each_origin shape u (x ∷ xs) one f a = (f.0.whole (ap (λ (v : ℕ). has_one_group (kind_at shape v)) a.0 ∙ one), each_origin shape u xs one f.1 a.1)

each_while : (P : Live → Type 0) (k : ℕ) (p : Live → Bool) (xs : List Live) → Each P xs → Each P (take k (take_while p xs))
each_while P k p xs e = each_taken P k (take_while p xs) (each_taken P (prefix_len p xs) xs e)

-- what is taken from a front that is not empty
some_taken : (k : ℕ) (xs : List Live) → 1 ≤ k → 0 < length xs → 0 < length (take k xs)
some_taken zero xs h l = absurd (omega arith)
some_taken (suc k) [] h l = absurd (omega arith)
some_taken (suc k) (x ∷ xs) h l = omega arith

-- the records of a front leave, where each has but the one group
fronts_leave : (all : List Live) (lo end : ℕ) (front back : List Live) → Rises lo (front ++ back) end → 0 < length front → Each (λ (x : Live). x.groups ≡ origin ∷ []) front → IsLeftOf all (front ++ back) → IsLeftOf all (left_after (numbers_of (map record_of front)) origin None (front ++ back))
fronts_leave all lo end [] back r some one l = absurd (omega arith)
fronts_leave all lo end (x ∷ front) back r some one l =
    let nums = numbers_of (map record_of (x ∷ front)) in
    let gone = all_leave nums origin (x ∷ front) back (all_in nums origin (x ∷ front) (among_own (x ∷ front)) one) (none_behind lo end (x ∷ front) back r) in
    subst (IsLeftOf all) (sym gone) (dropped all x front back l)

-- the first group of a record leaves
group_leaves : (all : List Live) (lo end : ℕ) (y : Live) (g : List ℕ) (gs : List (List ℕ)) (back : List Live) → Rises lo (y ∷ back) end → y.groups ≡ g ∷ gs → IsLeftOf all (y ∷ back) → IsLeftOf all (left_after (y.number ∷ []) g None (y ∷ back))
group_leaves all lo end y g gs back r q l =
    let self : has_number (y.number ∷ []) y.number ≡ true = (let e : (y.number == y.number) ≡ true = grind (arith, nat_tests) in rw e refl) in
    let others = none_leaves (y.number ∷ []) g back (none_behind lo end (y ∷ []) back r) in
    let same : (if same_group g g then gs else g ∷ without_group g gs) ≡ gs = rw (same_self g) refl in
    let less : without_group g y.groups ≡ gs = ap (without_group g) q ∙ same in
    let after : left_after (y.number ∷ []) g None (y ∷ back) ≡ kept (record y { groups = gs }) ++ back =
    ap (λ (b : Bool). (if b then kept (after_group g None y) else y ∷ []) ++ left_after (y.number ∷ []) g None back) self
    ∙ ap (λ (hs : List (List ℕ)). kept (record y { groups = hs }) ++ left_after (y.number ∷ []) g None back) less
    ∙ ap (λ (xs : List Live). kept (record y { groups = gs }) ++ xs) others in
    subst (IsLeftOf all) (sym after) (rest gs q)
  where
    rest : (hs : List (List ℕ)) → y.groups ≡ g ∷ hs → IsLeftOf all (kept (record y { groups = hs }) ++ back)
    rest [] e = dropped all y [] back l
    rest (h ∷ hs) e = opened_more all y g (h ∷ hs) back e l

first_taken : (m : ℕ) (y : Live) (ys : List Live) → 0 < length (take m (y ∷ ys)) → (take 1 (take m (y ∷ ys)) ≡ y ∷ []) × (first_group (take m (y ∷ ys)) ≡ unwrap_or (slice_get y.groups 0) [])
first_taken zero y ys some = absurd (omega arith)
first_taken (suc m) y ys some = (refl, refl)

-- a launch of the front of some entries of one unit
entries_leave : (shape : Shape) (all : List Live) (ticket end u : ℕ) (xs : List Live) → IsGoodShape shape → Rises 0 xs end → EachFull shape xs → 0 < length (take_while (λ (x : Live). x.unit == u) xs) → IsLeftOf all xs
    → (let o = pending_from ticket shape u (take_while (λ (x : Live). x.unit == u) xs) in IsLeftOf all (left_after o.inputs o.at None xs))
entries_leave shape all ticket end u xs good r full some l = choice (has_one_group (kind_at shape u)) refl
  where
    mine : List Live
    mine = take_while (λ (x : Live). x.unit == u) xs

    choice : (b : Bool) → has_one_group (kind_at shape u) ≡ b → (let o = pending_from ticket shape u mine in IsLeftOf all (left_after o.inputs o.at None xs))
    choice true one =
        let k = most_inputs (kind_at shape u) in
        let f = front_of k (λ (x : Live). x.unit == u) xs in
        let own = each_origin shape u mine one (each_taken (IsFull shape) (prefix_len (λ (x : Live). x.unit == u) xs) xs full) (prefix_at u xs) in
        let at : first_group mine ≡ origin = first_origin mine some own in
        let front = take k mine in
        subst (λ (g : List ℕ). IsLeftOf all (left_after (numbers_of (map record_of front)) g None xs)) (sym at)
        (subst (λ (ys : List Live). IsLeftOf all (left_after (numbers_of (map record_of front)) origin None ys)) (sym f.whole)
        (fronts_leave all 0 end front f.back (subst (λ (ys : List Live). Rises 0 ys end) f.whole r) (some_taken k mine (takes_some shape good u) some) (each_taken (λ (x : Live). x.groups ≡ origin ∷ []) k mine own) (subst (IsLeftOf all) f.whole l)))
      where
        first_origin : (ys : List Live) → 0 < length ys → Each (λ (x : Live). x.groups ≡ origin ∷ []) ys → first_group ys ≡ origin
        first_origin [] h e = absurd (omega arith)
        first_origin (y ∷ ys) h e = ap (λ (gs : List (List ℕ)). unwrap_or (slice_get gs 0) []) e.0
    choice false one = several xs r full some l
      where
        several : (ys : List Live) → Rises 0 ys end → EachFull shape ys → 0 < length (take_while (λ (x : Live). x.unit == u) ys) → IsLeftOf all ys → (let o = pending_from ticket shape u (take_while (λ (x : Live). x.unit == u) ys) in IsLeftOf all (left_after o.inputs o.at None ys))
        several [] r full some l = absurd (omega arith)
        several (y ∷ ys) r full some l =
            let m = prefix_len (λ (x : Live). x.unit == u) (y ∷ ys) in
            let k = one_input (kind_at shape u) one in
            let at = first_taken m y ys some in
            subst (λ (n : ℕ). IsLeftOf all (left_after (numbers_of (map record_of (take n (take m (y ∷ ys))))) (first_group (take m (y ∷ ys))) None (y ∷ ys))) (sym k)
            (subst (λ (zs : List Live). IsLeftOf all (left_after (numbers_of (map record_of zs)) (first_group (take m (y ∷ ys))) None (y ∷ ys))) (sym at.0)
            (subst (λ (g : List ℕ). IsLeftOf all (left_after (y.number ∷ []) g None (y ∷ ys))) (sym at.1) (groups y.groups refl)))
          where
            groups : (gs : List (List ℕ)) → y.groups ≡ gs → IsLeftOf all (left_after (y.number ∷ []) (unwrap_or (slice_get y.groups 0) []) None (y ∷ ys))
            groups [] e = let h = full.0.some in let z = ap (λ (gs : List (List ℕ)). length gs) e in absurd (omega (arith, h, z))
            groups (g ∷ gs) e = subst (λ (a : List ℕ). IsLeftOf all (left_after (y.number ∷ []) a None (y ∷ ys))) (sym (ap (λ (hs : List (List ℕ)). unwrap_or (slice_get hs 0) []) e)) (group_leaves all 0 end y g gs ys r e l)

-- what is left of the entries once the chosen launch is opened
pub left_opened : (core : CoreView) (o : Pending) (all : List Live) → IsGoodShape core.shape → IsPlaced core core.bag → IsChoice core o → IsLeftOf all core.entries → IsLeftOf all (left_after o.inputs o.at None core.entries)
left_opened core o all good p (from_slots u pick) l =
    let ready = unopened core.outs core.bag in
    let waits = waiting_is core u p pick.within in
    let high = subst (Each (λ (x : Live). core.handed ≤ x.number)) (sym waits) (high_slots core.handed u ready) in
    let low = subst (Each (λ (x : Live). x.number < core.handed)) (sym p.entries) (low_entries core.handed ready) in
    let front = front_for core.shape u (waiting_at core u) in
    let none = none_high core.handed front core.entries (each_taken (λ (x : Live). core.handed ≤ x.number) (most_inputs (kind_at core.shape u)) (waiting_at core u) high) low in
    subst (IsLeftOf all) (sym (none_leaves (numbers_of (map record_of front)) (first_group (waiting_at core u)) core.entries none)) l
left_opened core o all good p (from_entries unpicked enters) l =
    let ready = unopened core.outs core.bag in
    let rises = subst (λ (xs : List Live). Rises 0 xs core.next) (sym p.entries) (rises_those (is_entry_record core.handed) 0 core.next ready (rises_unopened 0 core.next core.outs core.bag p.rises)) in
    let full = subst (EachFull core.shape) (sym p.entries) (sub_full core.shape (filter (is_entry_record core.handed) ready) ready (sub_filter (is_entry_record core.handed) ready) (full_unopened core.shape core.outs core.bag p.full)) in
    entries_leave core.shape all core.tickets core.next (first_unit core.entries) core.entries good rises full (prefix_some core.entries enters.some) l
