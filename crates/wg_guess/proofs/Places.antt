-- What is known of words in a list and in a map.
use Rattle.std.proofs.Common.{◌≡◌, ℕ, zero, suc, ◌<◌, ◌≤◌, Bool, true, false, cond, ◌&&◌, get_or, [], ◌∷◌, ◌++◌, length, refl, ap, sym, ◌∙◌, arith}
use Rattle.std.specs.Prelude.{if◌then◌else◌, ◌==◌, slice_set, nat_lt, Option, Some, None, unwrap_or}
use Rattle.std.specs.List.{position, position_or_len}
use Rattle.std.specs.Map.{lookup}
use Rattle.std.specs.Option.{option_or}
use Rattle.std.proofs.lemmas.Bool.{and_parts}
use Rattle.std.proofs.lemmas.List.Quantifiers.{position-Some}
use Rattle.std.proofs.lemmas.List.Sums.{fails_before_first}
use Rattle.std.proofs.lemmas.Bool.Decides.{nat_tests, Decides-eqb}
use Rattle.wg_guess.specs.declared.touched.WordPlace.{WordPlace}
use Rattle.wg_guess.specs.declared.touched.WordNow.{WordNow}
use Rattle.wg_guess.specs.declared.touched.WordNow.TheVariants.{Added}
use Rattle.wg_guess.specs.Knowing.{is_place, now_of, Noted}

pub same_place : (p q : WordPlace) → is_place p q ≡ true → p ≡ q
same_place p q h =
    let both = and_parts (p.buffer == q.buffer) (p.word == q.word) h in
    let made : ℕ → ℕ → WordPlace = λ b w. record { buffer = b; word = w } in
    ap (λ b. made b p.word) ((Decides-eqb p.buffer q.buffer).0 both.0) ∙ ap (λ w. made q.buffer w) ((Decides-eqb p.word q.word).0 both.1)

eq_sym : (a b : ℕ) → (a == b) ≡ (b == a)
eq_sym a b = grind (arith, nat_tests)

pub place_sym : (p q : WordPlace) → is_place p q ≡ is_place q p
place_sym p q = ap (λ d. d && (p.word == q.word)) (eq_sym p.buffer q.buffer) ∙ ap (λ d. (q.buffer == p.buffer) && d) (eq_sym p.word q.word)

lookup_append : (t : WordPlace → Bool) (xs ys : Noted) → lookup t (xs ++ ys) ≡ option_or (lookup t xs) (lookup t ys)
lookup_append t [] ys = refl
lookup_append t (x ∷ xs) ys = choice (t x.0) (lookup_append t xs ys)
  where
    choice : (d : Bool) → lookup t (xs ++ ys) ≡ option_or (lookup t xs) (lookup t ys) → cond d (Some x.1) (lookup t (xs ++ ys)) ≡ option_or (cond d (Some x.1) (lookup t xs)) (lookup t ys)
    choice true h = refl
    choice false h = h

-- the first item of a place has what is known of it
pub looked_up : (p : WordPlace) (xs : Noted) (i : ℕ) (x : WordPlace × WordNow) → i < length xs → is_place p (get_or xs i x).0 ≡ true → ((k : ℕ) → k < i → is_place p (get_or xs k x).0 ≡ false)
    → lookup (is_place p) xs ≡ Some (get_or xs i x).1
looked_up p [] i x within at before = absurd (omega arith)
looked_up p (y ∷ xs) zero x within at before = ap (λ d. cond d (Some y.1) (lookup (is_place p) xs)) at
looked_up p (y ∷ xs) (suc i) x within at before =
    ap (λ d. cond d (Some y.1) (lookup (is_place p) xs)) (before 0 (omega arith))
    ∙ looked_up p xs i x (omega arith) at (λ k l. before (suc k) (omega arith))

-- what is known of it can be replaced there
pub replaced : (p : WordPlace) (now : WordNow) (q : WordPlace) (xs : Noted) (i : ℕ) (x : WordPlace × WordNow) → i < length xs → is_place p (get_or xs i x).0 ≡ true → ((k : ℕ) → k < i → is_place p (get_or xs k x).0 ≡ false)
    → lookup (is_place q) (slice_set xs i ((get_or xs i x).0, now)) ≡ (if is_place p q then Some now else lookup (is_place q) xs)
replaced p now q [] i x within at before = absurd (omega arith)
replaced p now q (y ∷ xs) zero x within at before = choice (is_place p q) refl
  where
    rest : Option WordNow
    rest = lookup (is_place q) xs

    choice : (d : Bool) → is_place p q ≡ d → cond (is_place q y.0) (Some now) rest ≡ (if d then Some now else cond (is_place q y.0) (Some y.1) rest)
    choice true e = ap (λ d. cond d (Some now) rest) (ap (λ r. is_place r y.0) (sym (same_place p q e)) ∙ at)
    choice false e =
        let apart : is_place q y.0 ≡ false = ap (λ r. is_place q r) (sym (same_place p y.0 at)) ∙ place_sym q p ∙ e in
        ap (λ d. cond d (Some now) rest) apart ∙ sym (ap (λ d. cond d (Some y.1) rest) apart)
replaced p now q (y ∷ xs) (suc i) x within at before = choice (is_place p q) refl (replaced p now q xs i x (omega arith) at (λ k l. before (suc k) (omega arith)))
  where
    after : Option WordNow
    after = lookup (is_place q) (slice_set xs i ((get_or xs i x).0, now))

    choice : (d : Bool) → is_place p q ≡ d → after ≡ (if is_place p q then Some now else lookup (is_place q) xs) → cond (is_place q y.0) (Some y.1) after ≡ (if d then Some now else cond (is_place q y.0) (Some y.1) (lookup (is_place q) xs))
    choice true e h =
        let apart : is_place q y.0 ≡ false = ap (λ r. is_place r y.0) (sym (same_place p q e)) ∙ before 0 (omega arith) in
        ap (λ d. cond d (Some y.1) after) apart ∙ h ∙ ap (λ d. if d then Some now else lookup (is_place q) xs) e
    choice false e h = ap (λ o. cond (is_place q y.0) (Some y.1) o) (h ∙ ap (λ d. if d then Some now else lookup (is_place q) xs) e)

-- a place that no item has
pub not_found : (p : WordPlace) (xs : Noted) (x : WordPlace × WordNow) → ((k : ℕ) → k < length xs → is_place p (get_or xs k x).0 ≡ false) → lookup (is_place p) xs ≡ None
not_found p [] x none = refl
not_found p (y ∷ xs) x none = ap (λ d. cond d (Some y.1) (lookup (is_place p) xs)) (none 0 (omega arith)) ∙ not_found p xs x (λ k l. none (suc k) (omega arith))

-- what is known where the list has the place
pub now_first : (p : WordPlace) (first more : Noted) (now : WordNow) → lookup (is_place p) first ≡ Some now → now_of (first ++ more) p ≡ now
now_first p first more now e = ap (λ o. unwrap_or o (Added 0)) (lookup_append (is_place p) first more ∙ ap (λ o. option_or o (lookup (is_place p) more)) e)

-- what is known where it has not
pub now_more : (p : WordPlace) (first more : Noted) → lookup (is_place p) first ≡ None → now_of (first ++ more) p ≡ unwrap_or (lookup (is_place p) more) (Added 0)
now_more p first more e = ap (λ o. unwrap_or o (Added 0)) (lookup_append (is_place p) first more ∙ ap (λ o. option_or o (lookup (is_place p) more)) e)

abbrev known : Option WordNow → Option WordNow → WordNow
known a b = unwrap_or (option_or a b) (Added 0)

known_is : (q : WordPlace) (first more : Noted) → now_of (first ++ more) q ≡ known (lookup (is_place q) first) (lookup (is_place q) more)
known_is q first more = ap (λ o. unwrap_or o (Added 0)) (lookup_append (is_place q) first more)

pub set_first : (p q : WordPlace) (now : WordNow) (first new more : Noted) → lookup (is_place q) new ≡ (if is_place p q then Some now else lookup (is_place q) first)
    → now_of (new ++ more) q ≡ (if is_place p q then now else now_of (first ++ more) q)
set_first p q now first new more h = choice (is_place p q) h
  where
    choice : (d : Bool) → lookup (is_place q) new ≡ (if d then Some now else lookup (is_place q) first) → now_of (new ++ more) q ≡ (if d then now else now_of (first ++ more) q)
    choice true e = known_is q new more ∙ ap (λ o. known o (lookup (is_place q) more)) e
    choice false e = known_is q new more ∙ ap (λ o. known o (lookup (is_place q) more)) e ∙ sym (known_is q first more)

or_none : (o : Option WordNow) → option_or o None ≡ o
or_none None = refl
or_none (Some x) = refl

pub set_pushed : (p q : WordPlace) (now : WordNow) (first new more : Noted) → lookup (is_place p) first ≡ None → new ≡ first ++ (p, now) ∷ [] → now_of (new ++ more) q ≡ (if is_place p q then now else now_of (first ++ more) q)
set_pushed p q now first new more none e =
    set_first p q now first new more (ap (λ (xs : Noted). lookup (is_place q) xs) e ∙ lookup_append (is_place q) first ((p, now) ∷ []) ∙ choice (is_place p q) refl)
  where
    choice : (d : Bool) → is_place p q ≡ d → option_or (lookup (is_place q) first) (cond (is_place q p) (Some now) None) ≡ (if d then Some now else lookup (is_place q) first)
    choice true f =
        let same = sym (same_place p q f) in
        ap (λ r. option_or (lookup (is_place r) first) (cond (is_place q p) (Some now) None)) same
        ∙ ap (λ o. option_or o (cond (is_place q p) (Some now) None)) none
        ∙ ap (λ d. cond d (Some now) None) (place_sym q p ∙ f)
    choice false f = ap (λ d. option_or (lookup (is_place q) first) (cond d (Some now) None)) (place_sym q p ∙ f) ∙ or_none (lookup (is_place q) first)

pub set_more : (p q : WordPlace) (now : WordNow) (first more new : Noted) → lookup (is_place p) first ≡ None → lookup (is_place q) new ≡ cond (is_place p q) (Some now) (lookup (is_place q) more)
    → now_of (first ++ new) q ≡ (if is_place p q then now else now_of (first ++ more) q)
set_more p q now first more new none h = choice (is_place p q) refl h
  where
    choice : (d : Bool) → is_place p q ≡ d → lookup (is_place q) new ≡ cond d (Some now) (lookup (is_place q) more) → now_of (first ++ new) q ≡ (if d then now else now_of (first ++ more) q)
    choice true f e =
        known_is q first new ∙ ap (λ o. known (lookup (is_place q) first) o) e
        ∙ ap (λ o. known o (Some now)) (ap (λ r. lookup (is_place r) first) (sym (same_place p q f)) ∙ none)
    choice false f e = known_is q first new ∙ ap (λ o. known (lookup (is_place q) first) o) e ∙ sym (known_is q first more)

abbrev pub has_place : WordPlace → WordPlace × WordNow → Bool
has_place p x = is_place p x.0

-- what a search for a place tells
pub place_missing : (p : WordPlace) (xs : Noted) → position (has_place p) xs ≡ None → lookup (is_place p) xs ≡ None
place_missing p xs h = choice (nat_lt (position_or_len (has_place p) xs) (length xs)) refl h
  where
    choice : (d : Bool) → nat_lt (position_or_len (has_place p) xs) (length xs) ≡ d → cond d (Some (position_or_len (has_place p) xs)) None ≡ None → lookup (is_place p) xs ≡ None
    choice true t h = absurd (cc)
    choice false t h =
        let most : length xs ≤ position_or_len (has_place p) xs = grind (arith, nat_tests) in
        not_found p xs (p, Added 0) (λ k l. fails_before_first (has_place p) xs k (p, Added 0) (omega arith))

pub place_found : (p : WordPlace) (xs : Noted) (i : ℕ) (x : WordPlace × WordNow) → position (has_place p) xs ≡ Some i → x ≡ get_or xs i x → lookup (is_place p) xs ≡ Some x.1
place_found p xs i x h e = let there = position-Some (has_place p) xs i x h in looked_up p xs i x there.0 there.1 there.2 ∙ ap (λ (y : WordPlace × WordNow). Some y.1) (sym e)

pub place_replaced : (p : WordPlace) (now : WordNow) (q : WordPlace) (xs : Noted) (i : ℕ) (x : WordPlace × WordNow) → position (has_place p) xs ≡ Some i → x ≡ get_or xs i x
    → lookup (is_place q) (slice_set xs i (x.0, now)) ≡ (if is_place p q then Some now else lookup (is_place q) xs)
place_replaced p now q xs i x h e =
    let there = position-Some (has_place p) xs i x h in
    ap (λ (y : WordPlace × WordNow). lookup (is_place q) (slice_set xs i (y.0, now))) e ∙ replaced p now q xs i x there.0 there.1 there.2
