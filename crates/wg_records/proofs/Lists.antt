-- Records by number in a bag whose numbers rise.
use Rattle.std.proofs.Common.{◌≡◌, ℕ, ◌+◌, ◌<◌, ◌≤◌, Bool, true, false, List, [], ◌∷◌, ◌++◌, Some, None, Option, unwrap_or, refl, ap, sym, ◌∙◌, arith, append_assoc, append-nil}
use Rattle.std.specs.Prelude.{if◌then◌else◌, ◌==◌, ◌||◌}
use Rattle.std.proofs.lemmas.Bool.Decides.{nat_tests, Decides-eqb}
use Rattle.wg_machine.specs.declared.launch.Live.{Live}
use Rattle.wg_machine.specs.Grids.{without_group}
use Rattle.wg_machine.specs.State.{kept}
use Rattle.wg_machine.specs.Step.{after_group, has_number, left_after}
use Rattle.wg_records.specs.Bags.{live_at, Rises}
use Rattle.wg_records.specs.Named.{NumbersRise}

abbrev pub live_with : ℕ → ℕ → List ℕ → List ℕ → List (List ℕ) → Live
live_with number unit words grid groups = record { number = number; unit = unit; words = words; grid = grid; groups = groups }

abbrev pub or_live : Option Live → Option Live → Option Live
or_live None other = other
or_live (Some r) other = Some r

abbrev pub first_live : List Live → Option Live
first_live [] = None
first_live (r ∷ bag) = Some r

-- what a record leaves in the bag after a group
abbrev pub live_left : List ℕ → Option (List ℕ) → Option Live → Option Live
live_left at new None = None
live_left at new (Some r) = first_live (kept (after_group at new r))

or_none : (o : Option Live) → or_live o None ≡ o
or_none None = refl
or_none (Some r) = refl

-- numbers that rise

pub rises_end : (n end : ℕ) (xs : List Live) → Rises n xs end → n ≤ end
rises_end n end [] r = r
rises_end n end (x ∷ xs) r = let a = r.0 in let b = rises_end (x.number + 1) end xs r.1 in omega (arith, a, b)

pub rises_weaker : (m n end : ℕ) (xs : List Live) → m ≤ n → Rises n xs end → Rises m xs end
rises_weaker m n end [] h r = omega arith
rises_weaker m n end (x ∷ xs) h r = let f = r.0 in (omega arith, r.1)

pub rises_append : (n mid end : ℕ) (xs ys : List Live) → Rises n xs mid → Rises mid ys end → Rises n (xs ++ ys) end
rises_append n mid end [] ys r s = rises_weaker n mid end ys r s
rises_append n mid end (x ∷ xs) ys r s = (r.0, rises_append (x.number + 1) mid end xs ys r.1 s)

pub rises_kept : (n end number unit : ℕ) (words grid : List ℕ) (gs : List (List ℕ)) (rest : List Live) → n ≤ number → Rises (number + 1) rest end → Rises n (kept (live_with number unit words grid gs) ++ rest) end
rises_kept n end number unit words grid [] rest h r = rises_weaker n (number + 1) end rest (omega arith) r
rises_kept n end number unit words grid (g ∷ gs) rest h r = (h, r)

pub rises_left : (n end : ℕ) (ns at : List ℕ) (new : Option (List ℕ)) (bag : List Live) → Rises n bag end → Rises n (left_after ns at new bag) end
rises_left n end ns at new [] r = r
rises_left n end ns at new (x ∷ bag) r = choice (has_number ns x.number) (rises_left (x.number + 1) end ns at new bag r.1)
  where
    choice : (b : Bool) → Rises (x.number + 1) (left_after ns at new bag) end → Rises n ((if b then kept (after_group at new x) else x ∷ []) ++ left_after ns at new bag) end
    choice true s = rises_kept n end x.number x.unit (unwrap_or new x.words) x.grid (without_group at x.groups) (left_after ns at new bag) r.0 s
    choice false s = (r.0, s)

-- no record below or above

pub none_below : (q n end : ℕ) (xs : List Live) → Rises n xs end → q < n → live_at q xs ≡ None
none_below q n end [] r h = refl
none_below q n end (x ∷ xs) r h =
    let f = r.0 in
    let e : (x.number == q) ≡ false = grind (arith, nat_tests) in
    rw e (none_below q (x.number + 1) end xs r.1 (omega arith))

pub none_above : (q n end : ℕ) (xs : List Live) → Rises n xs end → end ≤ q → live_at q xs ≡ None
none_above q n end [] r h = refl
none_above q n end (x ∷ xs) r h =
    let f = rises_end (x.number + 1) end xs r.1 in
    let e : (x.number == q) ≡ false = grind (arith, nat_tests) in
    rw e (none_above q (x.number + 1) end xs r.1 h)

pub live_append : (q : ℕ) (xs ys : List Live) → live_at q (xs ++ ys) ≡ or_live (live_at q xs) (live_at q ys)
live_append q [] ys = refl
live_append q (x ∷ xs) ys = choice (x.number == q) (live_append q xs ys)
  where
    choice : (b : Bool) → live_at q (xs ++ ys) ≡ or_live (live_at q xs) (live_at q ys) → (if b then Some x else live_at q (xs ++ ys)) ≡ or_live (if b then Some x else live_at q xs) (live_at q ys)
    choice true ih = refl
    choice false ih = ih

kept_live : (q number unit : ℕ) (words grid : List ℕ) (gs : List (List ℕ)) (rest : List Live) (b : Bool) → (number == q) ≡ b
    → live_at q (kept (live_with number unit words grid gs) ++ rest) ≡ (if b then or_live (first_live (kept (live_with number unit words grid gs))) (live_at q rest) else live_at q rest)
kept_live q number unit words grid [] rest true e = refl
kept_live q number unit words grid [] rest false e = refl
kept_live q number unit words grid (g ∷ gs) rest true e = rw e refl
kept_live q number unit words grid (g ∷ gs) rest false e = rw e refl

-- what one record leaves

or_false : (b : Bool) → (b || false) ≡ b
or_false true = refl
or_false false = refl

pub has_one : (n m : ℕ) → has_number (n ∷ []) m ≡ (n == m)
has_one n m = or_false (n == m)

eq_sym : (a b : ℕ) → (a == b) ≡ (b == a)
eq_sym a b = grind (arith, nat_tests)

-- a record that is not there leaves all as it was
pub untouched : (n : ℕ) (at : List ℕ) (new : Option (List ℕ)) (xs : List Live) → live_at n xs ≡ None → left_after (n ∷ []) at new xs ≡ xs
untouched n at new [] h = refl
untouched n at new (x ∷ xs) h = choice (x.number == n) refl (λ k. untouched n at new xs k) h
  where
    choice : (b : Bool) → (x.number == n) ≡ b → (live_at n xs ≡ None → left_after (n ∷ []) at new xs ≡ xs) → (if b then Some x else live_at n xs) ≡ None → left_after (n ∷ []) at new (x ∷ xs) ≡ x ∷ xs
    choice true e ih h = absurd (cc)
    choice false e ih h =
        ap (λ (b : Bool). (if b then kept (after_group at new x) else x ∷ []) ++ left_after (n ∷ []) at new xs) (has_one n x.number ∙ eq_sym n x.number ∙ e)
        ∙ ap (λ (l : List Live). x ∷ l) (ih h)

pub live_after : (q n low end : ℕ) (at : List ℕ) (new : Option (List ℕ)) (bag : List Live) → Rises low bag end
    → live_at q (left_after (n ∷ []) at new bag) ≡ (if n == q then live_left at new (live_at n bag) else live_at q bag)
live_after q n low end at new [] r = choice (n == q)
  where
    choice : (b : Bool) → (let o : Option Live = None in o) ≡ (if b then None else None)
    choice true = refl
    choice false = refl
live_after q n low end at new (x ∷ bag) r = choice (x.number == n) refl (live_after q n (x.number + 1) end at new bag r.1)
  where
    first : List Live
    first = kept (after_group at new x)

    there : (t : Bool) → (n == q) ≡ t → (x.number == n) ≡ true → live_at q (first ++ bag) ≡ (if t then first_live first else (if x.number == q then Some x else live_at q bag))
    there t f e =
        let same : x.number ≡ n = (Decides-eqb x.number n).0 e in
        let g : (x.number == q) ≡ t = ap (λ (k : ℕ). k == q) same ∙ f in
        kept_live q x.number x.unit (unwrap_or new x.words) x.grid (without_group at x.groups) bag t g ∙ ends t f g
      where
        ends : (t : Bool) → (n == q) ≡ t → (x.number == q) ≡ t → (if t then or_live (first_live first) (live_at q bag) else live_at q bag) ≡ (if t then first_live first else (if x.number == q then Some x else live_at q bag))
        ends true f g =
            let same : x.number ≡ q = (Decides-eqb x.number q).0 g in
            ap (λ (o : Option Live). or_live (first_live first) o) (none_below q (x.number + 1) end bag r.1 (omega (arith, same))) ∙ or_none (first_live first)
        ends false f g = sym (ap (λ (b : Bool). if b then Some x else live_at q bag) g)

    apart : (t : Bool) → (n == q) ≡ t → (x.number == n) ≡ false → live_at q (left_after (n ∷ []) at new bag) ≡ (if t then live_left at new (live_at n bag) else live_at q bag)
        → (if x.number == q then Some x else live_at q (left_after (n ∷ []) at new bag)) ≡ (if t then live_left at new (live_at n bag) else (if x.number == q then Some x else live_at q bag))
    apart true f e ih =
        let same : n ≡ q = (Decides-eqb n q).0 f in
        let g : (x.number == q) ≡ false = ap (λ (k : ℕ). x.number == k) (sym same) ∙ e in
        ap (λ (b : Bool). if b then Some x else live_at q (left_after (n ∷ []) at new bag)) g ∙ ih
    apart false f e ih = ap (λ (o : Option Live). if x.number == q then Some x else o) ih

    choice : (b : Bool) → (x.number == n) ≡ b → live_at q (left_after (n ∷ []) at new bag) ≡ (if n == q then live_left at new (live_at n bag) else live_at q bag)
        → live_at q (left_after (n ∷ []) at new (x ∷ bag)) ≡ (if n == q then live_left at new (live_at n (x ∷ bag)) else live_at q (x ∷ bag))
    choice true e ih =
        let same : x.number ≡ n = (Decides-eqb x.number n).0 e in
        ap (λ (b : Bool). live_at q ((if b then first else x ∷ []) ++ left_after (n ∷ []) at new bag)) (has_one n x.number ∙ eq_sym n x.number ∙ e)
        ∙ ap (λ (l : List Live). live_at q (first ++ l)) (untouched n at new bag (none_below n (x.number + 1) end bag r.1 (omega (arith, same))))
        ∙ there (n == q) refl e
        ∙ sym (ap (λ (b : Bool). if n == q then live_left at new (if b then Some x else live_at n bag) else live_at q (x ∷ bag)) e)
    choice false e ih =
        ap (λ (b : Bool). live_at q ((if b then first else x ∷ []) ++ left_after (n ∷ []) at new bag)) (has_one n x.number ∙ eq_sym n x.number ∙ e)
        ∙ apart (n == q) refl e ih
        ∙ sym (ap (λ (b : Bool). if n == q then live_left at new (if b then Some x else live_at n bag) else live_at q (x ∷ bag)) e)

-- records one after another

left_append : (ns at : List ℕ) (new : Option (List ℕ)) (xs ys : List Live) → left_after ns at new (xs ++ ys) ≡ left_after ns at new xs ++ left_after ns at new ys
left_append ns at new [] ys = refl
left_append ns at new (x ∷ xs) ys =
    ap (λ (rest : List Live). (if has_number ns x.number then kept (after_group at new x) else x ∷ []) ++ rest) (left_append ns at new xs ys)
    ∙ sym (append_assoc (if has_number ns x.number then kept (after_group at new x) else x ∷ []) (left_after ns at new xs) (left_after ns at new ys))

has_append : (ms ns : List ℕ) (n : ℕ) → has_number (ms ++ ns) n ≡ (has_number ms n || has_number ns n)
has_append [] ns n = refl
has_append (m ∷ ms) ns n = choice (m == n) (has_append ms ns n)
  where
    choice : (b : Bool) → has_number (ms ++ ns) n ≡ (has_number ms n || has_number ns n) → (b || has_number (ms ++ ns) n) ≡ ((b || has_number ms n) || has_number ns n)
    choice true ih = refl
    choice false ih = ih

left_kept_not : (n : ℕ) (at : List ℕ) (new : Option (List ℕ)) (number unit : ℕ) (words grid : List ℕ) (gs : List (List ℕ)) → (n == number) ≡ false
    → left_after (n ∷ []) at new (kept (live_with number unit words grid gs)) ≡ kept (live_with number unit words grid gs)
left_kept_not n at new number unit words grid [] e = refl
left_kept_not n at new number unit words grid (g ∷ gs) e = ap (λ (b : Bool). (if b || false then kept (after_group at new (live_with number unit words grid (g ∷ gs))) else live_with number unit words grid (g ∷ gs) ∷ []) ++ []) e

apart_from : (ns : List ℕ) (n m : ℕ) → has_number ns n ≡ false → has_number ns m ≡ true → (n == m) ≡ false
apart_from ns n m a b = choice (n == m) refl
  where
    choice : (t : Bool) → (n == m) ≡ t → t ≡ false
    choice true e = let same : n ≡ m = (Decides-eqb n m).0 e in let c = ap (has_number ns) same in absurd (cc)
    choice false e = refl

pub left_more : (ns at : List ℕ) (n : ℕ) (new : Option (List ℕ)) (bag : List Live) → has_number ns n ≡ false
    → left_after (n ∷ []) at new (left_after ns at new bag) ≡ left_after (ns ++ n ∷ []) at new bag
left_more ns at n new [] h = refl
left_more ns at n new (x ∷ bag) h = choice (has_number ns x.number) refl (left_more ns at n new bag h)
  where
    part : Bool → List Live
    part b = if b then kept (after_group at new x) else x ∷ []

    rest : List Live
    rest = left_after (ns ++ n ∷ []) at new bag

    choice : (b : Bool) → has_number ns x.number ≡ b → left_after (n ∷ []) at new (left_after ns at new bag) ≡ rest → left_after (n ∷ []) at new (part (has_number ns x.number) ++ left_after ns at new bag) ≡ part (has_number (ns ++ n ∷ []) x.number) ++ rest
    choice true e ih =
        ap (λ (b : Bool). left_after (n ∷ []) at new (part b ++ left_after ns at new bag)) e
        ∙ left_append (n ∷ []) at new (part true) (left_after ns at new bag)
        ∙ ap (λ (l : List Live). l ++ left_after (n ∷ []) at new (left_after ns at new bag)) (left_kept_not n at new x.number x.unit (unwrap_or new x.words) x.grid (without_group at x.groups) (apart_from ns n x.number h e))
        ∙ ap (λ (l : List Live). part true ++ l) ih
        ∙ sym (ap (λ (b : Bool). part b ++ rest) (has_append ns (n ∷ []) x.number ∙ ap (λ (b : Bool). b || has_number (n ∷ []) x.number) e))
    choice false e ih =
        ap (λ (b : Bool). left_after (n ∷ []) at new (part b ++ left_after ns at new bag)) e
        ∙ left_append (n ∷ []) at new (x ∷ []) (left_after ns at new bag)
        ∙ ap (λ (l : List Live). l ++ left_after (n ∷ []) at new (left_after ns at new bag)) (append-nil (part (has_number (n ∷ []) x.number)))
        ∙ ap (λ (l : List Live). part (has_number (n ∷ []) x.number) ++ l) ih
        ∙ sym (ap (λ (b : Bool). part b ++ rest) (has_append ns (n ∷ []) x.number ∙ ap (λ (b : Bool). b || has_number (n ∷ []) x.number) e))

-- a record that ran no group stays
pub live_others : (ns at : List ℕ) (n : ℕ) (new : Option (List ℕ)) (bag : List Live) → has_number ns n ≡ false → live_at n (left_after ns at new bag) ≡ live_at n bag
live_others ns at n new [] h = refl
live_others ns at n new (x ∷ bag) h = choice (has_number ns x.number) refl (live_others ns at n new bag h)
  where
    flip : (a b : ℕ) → (a == b) ≡ false → (b == a) ≡ false
    flip a b e = eq_sym b a ∙ e

    choice : (b : Bool) → has_number ns x.number ≡ b → live_at n (left_after ns at new bag) ≡ live_at n bag
        → live_at n ((if b then kept (after_group at new x) else x ∷ []) ++ left_after ns at new bag) ≡ live_at n (x ∷ bag)
    choice true e ih =
        let f : (x.number == n) ≡ false = flip n x.number (apart_from ns n x.number h e) in
        kept_live n x.number x.unit (unwrap_or new x.words) x.grid (without_group at x.groups) (left_after ns at new bag) false f ∙ ih
        ∙ sym (ap (λ (b : Bool). if b then Some x else live_at n bag) f)
    choice false e ih = ap (λ (o : Option Live). if x.number == n then Some x else o) ih

-- numbers below all are not among them
pub not_among : (n m : ℕ) (ns : List ℕ) → NumbersRise m ns → n < m → has_number ns n ≡ false
not_among n m [] r h = refl
not_among n m (k ∷ ns) r h =
    let f = r.0 in
    let e : (k == n) ≡ false = grind (arith, nat_tests) in
    rw (e, not_among n (k + 1) ns r.1 (omega arith)) refl
