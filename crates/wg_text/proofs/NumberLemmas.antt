-- Numbers as std reads them, and as they are printed.
use Rattle.std.proofs.Common.{◌≡◌, ◌≢◌, ℕ, zero, suc, ◌^◌, ◌<◌, ◌≤◌, Bool, true, false, List, [], ◌∷◌, length, get_or, Option, Some, None, Result, Ok, Err, refl, sym, ap, subst, ◌∙◌, arith, lit<}
use Rattle.std.specs.Prelude.{◌&&◌, nat_lt, if◌then◌else◌}
use Rattle.std.specs.Char.{digit_value, is_digit}
use Rattle.std.specs.List.{list_all, starts_with}
use Rattle.std.specs.Fmt.{decimal}
use Rattle.std.specs.Result.{OkIff, result_ok}
use Rattle.std.specs.Str.{IsAscii, IsUtf8, bytes_eq}
use Rattle.std.specs.Str.Parse.{AllDigits, IsNumeral, digits_value, ParsesUnsigned}
use Rattle.std.proofs.lemmas.Bool.Decides.{nat_tests}
use Rattle.std.proofs.lemmas.Str.{IsUtf8-from_ascii}
use Rattle.std.proofs.lemmas.Str.Parse.{without_leading_plus_none, IsNumeralModel, numerals_by_value, tells_digits}
use Rattle.std.proofs.lemmas.Fmt.{decimal_digit, first_decimal, decimal-digits_value}
use Rattle.std.proofs.lemmas.Slice.Eq.{bytes_eq-Decides}
use Rattle.wg_words.specs.Maybe.{◌>>=◌}
use lib.Dec.{eqb}
use Rattle.wg_text.specs.Numbers.{number_below, printed_number}

both : (a b : Bool) → (a && b) ≡ true → (a ≡ true) × (b ≡ true)
both true b e = (refl, e)
both false b e = absurd cc

pub digits_all : (base : ℕ) (text : List ℕ) → list_all (λ d. is_digit d base) text ≡ true → AllDigits base text
digits_all base [] e = tt
digits_all base (c ∷ text) e =
    let p = both (is_digit c base) (list_all (λ d. is_digit d base) text) e in
    (below (digit_value c) p.0, digits_all base text p.1)
  where
    below : (v : ℕ) → nat_lt v base ≡ true → v < base
    below v h = grind (arith, nat_tests)

pub all_digits : (base : ℕ) (text : List ℕ) → AllDigits base text → list_all (λ d. is_digit d base) text ≡ true
all_digits base [] h = refl
all_digits base (c ∷ text) h =
    let test : is_digit c base ≡ true = tested (digit_value c) h.0 in
    rw test (all_digits base text h.1)
  where
    tested : (v : ℕ) → v < base → nat_lt v base ≡ true
    tested v lt = grind (arith, nat_tests)

ascii_digits : (base : ℕ) (text : List ℕ) → base ≤ 36 → AllDigits base text → IsAscii text
ascii_digits base [] low h i = omega arith
ascii_digits base (c ∷ text) low h zero = let d = h.0 in small c (omega arith)
  where
    small : (b : ℕ) → digit_value b < 36 → b < 128
    small b lt = grind (arith, nat_tests)
ascii_digits base (c ∷ text) low h (suc i) = ascii_digits base text low h.1 i

-- ---- what std parses

of_digits : (bound base : ℕ) (text : List ℕ) → IsNumeral base text → digits_value base text < bound → number_below bound base text ≡ Some (digits_value base text)
of_digits bound base [] h lt = absurd (omega (arith, h.0))
of_digits bound base (c ∷ text) h lt =
    let test : list_all (λ d. is_digit d base) (c ∷ text) ≡ true = all_digits base (c ∷ text) h.1 in
    let small : nat_lt (digits_value base (c ∷ text)) bound ≡ true = tested (digits_value base (c ∷ text)) lt in
    rw (test, small) refl
  where
    tested : (v : ℕ) → v < bound → nat_lt v bound ≡ true
    tested v lt = grind (arith, nat_tests)

pub record IsNumber (bound base : ℕ) (text : List ℕ) (n : ℕ) : Type 0 where
  pub numeral : IsNumeral base text
  pub value : digits_value base text ≡ n
  pub below : n < bound

pub number_is : (bound base : ℕ) (text : List ℕ) (n : ℕ) → number_below bound base text ≡ Some n → IsNumber bound base text n
number_is bound base [] n e = absurd cc
number_is bound base (c ∷ text) n e = choice (list_all (λ d. is_digit d base) (c ∷ text)) refl (nat_lt (digits_value base (c ∷ text)) bound) refl e
  where
    some_is : (x y : ℕ) → Some x ≡ Some y → x ≡ y
    some_is x y h = cc

    under : (v : ℕ) → nat_lt v bound ≡ true → v < bound
    under v h = grind (arith, nat_tests)

    choice : (a : Bool) → list_all (λ d. is_digit d base) (c ∷ text) ≡ a → (b : Bool) → nat_lt (digits_value base (c ∷ text)) bound ≡ b
        → (if a && b then Some (digits_value base (c ∷ text)) else None) ≡ Some n → IsNumber bound base (c ∷ text) n
    choice true p true q h =
        let same = some_is (digits_value base (c ∷ text)) n h in
        record { numeral = (omega arith, digits_all base (c ∷ text) p); value = same; below = subst (λ (m : ℕ). m < bound) same (under (digits_value base (c ∷ text)) q) }
    choice true p false q h = absurd cc
    choice false p b q h = absurd cc

pub not_number : (bound base : ℕ) (text : List ℕ) → ¬ (IsNumeral base text × (digits_value base text < bound)) → number_below bound base text ≡ None
not_number bound base text h = choice (number_below bound base text) refl
  where
    choice : (o : Option ℕ) → number_below bound base text ≡ o → o ≡ None
    choice None e = refl
    choice (Some n) e = let is = number_is bound base text n e in absurd (h (is.numeral, subst (λ (m : ℕ). m < bound) (sym is.value) is.below))

no_plus : (text : List ℕ) → starts_with eqb text (43 ∷ []) ≡ false → get_or text 0 0 ≢ 43
no_plus [] f e = absurd (omega arith)
no_plus (c ∷ text) f e = let y : starts_with eqb (c ∷ text) (43 ∷ []) ≡ true = rw e refl in cc

pub parsed_is : {E : Type 0} (base : ℕ) (text parsed : List ℕ) (r : Result ℕ E) → starts_with eqb text (43 ∷ []) ≡ false → parsed ≡ text → ParsesUnsigned 64 base parsed r → result_ok r ≡ number_below (2 ^ 64) base text
parsed_is {E = E} base text parsed r f e h = choice r (subst (λ (t : List ℕ). OkIff r (IsNumeral base t × (digits_value base t < 2 ^ 64)) (digits_value base t)) (without_leading_plus_none parsed (no_plus parsed (rw e f)) ∙ e) h)
  where
    choice : (s : Result ℕ E) → OkIff s (IsNumeral base text × (digits_value base text < 2 ^ 64)) (digits_value base text) → result_ok s ≡ number_below (2 ^ 64) base text
    choice (Ok x) p = ap (λ (v : ℕ). Some v) p.1 ∙ sym (of_digits (2 ^ 64) base text p.0.0 p.0.1)
    choice (Err x) p = sym (not_number (2 ^ 64) base text p)

pub not_text : (base : ℕ) (text : List ℕ) → base ≤ 36 → ¬ (IsUtf8 text) → None ≡ number_below (2 ^ 64) base text
not_text base text low h = sym (not_number (2 ^ 64) base text (λ p. h (IsUtf8-from_ascii text (ascii_digits base text low p.0.1))))

-- ---- what is printed

pub printed_led : (text : List ℕ) → 1 < length text → get_or text 0 0 ≡ 48 → None ≡ printed_number text
printed_led text some led = choice (number_below (2 ^ 64) 10 text) refl
  where
    zero_or_more : (n : ℕ) → n < 2 ^ 64 → decimal n ≡ text → ⊥
    zero_or_more zero lt e = let l = ap (λ (t : List ℕ). length t) (sym (decimal_digit 0 (lit< tt)) ∙ e) in omega arith
    zero_or_more (suc n) lt e = let f = first_decimal (suc n) (omega arith) lt in let g = ap (λ (t : List ℕ). get_or t 0 0) e in omega arith

    other : (n : ℕ) → n < 2 ^ 64 → (b : Bool) → bytes_eq (decimal n) text ≡ b → None ≡ (if b then Some n else None)
    other n lt true e = absurd (zero_or_more n lt ((bytes_eq-Decides (decimal n) text).0 e))
    other n lt false e = refl

    choice : (o : Option ℕ) → number_below (2 ^ 64) 10 text ≡ o → None ≡ (o >>= λ n. if bytes_eq (decimal n) text then Some n else None)
    choice None e = refl
    choice (Some n) e = let is = number_is (2 ^ 64) 10 text n e in other n is.below (bytes_eq (decimal n) text) refl

own : IsNumeralModel (AllDigits 10) (digits_value 10)
own = numerals_by_value (AllDigits 10) tells_digits

pub printed_plain : (text : List ℕ) → (get_or text 0 0 ≡ 48 → length text ≡ 1) → number_below (2 ^ 64) 10 text ≡ printed_number text
printed_plain text short = choice (number_below (2 ^ 64) 10 text) refl
  where
    choice : (o : Option ℕ) → number_below (2 ^ 64) 10 text ≡ o → o ≡ (o >>= λ n. if bytes_eq (decimal n) text then Some n else None)
    choice None e = refl
    choice (Some n) e =
        let is = number_is (2 ^ 64) 10 text n e in
        let small : digits_value 10 text < 2 ^ 64 = subst (λ (m : ℕ). m < 2 ^ 64) (sym is.value) is.below in
        let text_is : decimal n ≡ text = ap decimal (sym is.value) ∙ decimal-digits_value own text is.numeral.1 is.numeral.0 short small in
        let test : bytes_eq (decimal n) text ≡ true = (bytes_eq-Decides (decimal n) text).1 text_is in
        rw test refl

pub one_digit : (text : List ℕ) → length text ≤ 1 → get_or text 0 0 ≡ 48 → length text ≡ 1
one_digit [] few e = absurd (omega arith)
one_digit (c ∷ text) few e = omega arith
