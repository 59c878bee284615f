-- A field is a number exactly where it is its decimal text.
use Rattle.std.proofs.Common.{◌≡◌, ℕ, ◌+◌, ◌%◌, ◌^◌, ◌≤◌, ◌<◌, Bool, true, false, List, [], ◌∷◌, ◌++◌, Option, Some, None, refl, sym, ap, subst, ◌∙◌, arith}
use Rattle.std.specs.Prelude.{◌&&◌, nat_lt, if◌then◌else◌}
use Rattle.std.specs.Char.{digit_value, is_digit}
use Rattle.std.specs.Fmt.{decimal}
use Rattle.std.specs.List.{list_all}
use Rattle.std.specs.Str.{bytes_eq}
use Rattle.std.specs.Str.Parse.{AllDigits, IsNumeral, digits_value}
use Rattle.std.proofs.lemmas.Bool.Decides.{nat_tests}
use Rattle.std.proofs.lemmas.Fmt.{decimal_by_steps, decimal_is_IsNumeral}
use Rattle.std.proofs.lemmas.Slice.Eq.{bytes_eq-Decides}
use Rattle.wg_words.specs.Each.{Each}
use Rattle.wg_words.specs.Maybe.{◌>>=◌}
use Rattle.wg_text.specs.Numbers.{number_below, printed_number}
use Rattle.wg_journal.proofs.FieldLemmas.{some_is}

below : (b : Bool) (v m : ℕ) → (b && nat_lt v (2 ^ 64)) ≡ true → v ≡ m → m < 2 ^ 64
below true v m t e = subst (λ (k : ℕ). k < 2 ^ 64) e (under v t)
  where
    under : (k : ℕ) → nat_lt k (2 ^ 64) ≡ true → k < 2 ^ 64
    under k h = grind (arith, nat_tests)
below false v m t e = absurd cc

if_some : {X : Type 0} (b : Bool) (x y : X) → (if b then Some x else None) ≡ Some y → (b ≡ true) × (x ≡ y)
if_some true x y e = (refl, some_is x y e)
if_some false x y e = absurd cc

number_fits : (text : List ℕ) (n : ℕ) → number_below (2 ^ 64) 10 text ≡ Some n → n < 2 ^ 64
number_fits [] n e = absurd cc
number_fits (c ∷ text) n e =
    let all = list_all (λ d. is_digit d 10) (c ∷ text) in
    let v = digits_value 10 (c ∷ text) in
    let t = if_some (all && nat_lt v (2 ^ 64)) v n e in
    below all v n t.0 t.1

pub number_takes : (text : List ℕ) (m : ℕ) → printed_number text ≡ Some m → (text ≡ decimal m) × (m < 2 ^ 64)
number_takes text m e = choice (number_below (2 ^ 64) 10 text) refl e
  where
    choice : (o : Option ℕ) → number_below (2 ^ 64) 10 text ≡ o → (o >>= λ n. if bytes_eq (decimal n) text then Some n else None) ≡ Some m → (text ≡ decimal m) × (m < 2 ^ 64)
    choice None i h = absurd cc
    choice (Some n) i h =
        let t = if_some (bytes_eq (decimal n) text) n m h in
        (sym ((bytes_eq-Decides (decimal n) text).0 t.0) ∙ ap decimal t.1, subst (λ (k : ℕ). k < 2 ^ 64) t.1 (number_fits text n i))

digits_all : (text : List ℕ) → AllDigits 10 text → list_all (λ d. is_digit d 10) text ≡ true
digits_all [] h = refl
digits_all (c ∷ text) h =
    let test : is_digit c 10 ≡ true = tested (digit_value c) h.0 in
    rw test (digits_all text h.1)
  where
    tested : (v : ℕ) → v < 10 → nat_lt v 10 ≡ true
    tested v lt = grind (arith, nat_tests)

of_digits : (text : List ℕ) (n : ℕ) → IsNumeral 10 text → digits_value 10 text ≡ n → n < 2 ^ 64 → number_below (2 ^ 64) 10 text ≡ Some n
of_digits [] n h e fits = absurd (omega (arith, h.0))
of_digits (c ∷ text) n h e fits =
    let test : list_all (λ d. is_digit d 10) (c ∷ text) ≡ true = digits_all (c ∷ text) h.1 in
    let small : nat_lt (digits_value 10 (c ∷ text)) (2 ^ 64) ≡ true = tested (digits_value 10 (c ∷ text)) (subst (λ (k : ℕ). k < 2 ^ 64) (sym e) fits) in
    rw (test, small) (ap (λ (k : ℕ). Some k) e)
  where
    tested : (v : ℕ) → v < 2 ^ 64 → nat_lt v (2 ^ 64) ≡ true
    tested v lt = grind (arith, nat_tests)

pub number_again : (n : ℕ) → n < 2 ^ 64 → printed_number (decimal n) ≡ Some n
number_again n fits =
    let numeral = decimal_is_IsNumeral n fits in
    let read : number_below (2 ^ 64) 10 (decimal n) ≡ Some n = of_digits (decimal n) n numeral.0 numeral.1 fits in
    let same : bytes_eq (decimal n) (decimal n) ≡ true = (bytes_eq-Decides (decimal n) (decimal n)).1 refl in
    ap (λ (o : Option ℕ). o >>= λ k. if bytes_eq (decimal k) (decimal n) then Some k else None) read ∙ ap (λ (b : Bool). if b then Some n else None) same

-- ---- the bytes of a field: none is a space or a line feed

abbrev pub Visible : List ℕ → Type 0
Visible text = Each (λ b. 33 ≤ b) text

pub visible_append : (a b : List ℕ) → Visible a → Visible b → Visible (a ++ b)
visible_append [] b p q = q
visible_append (c ∷ a) b p q = (p.0, visible_append a b p.1 q)

IsShown : ℕ → List ℕ → Type 0
IsShown n ds = Visible ds

pub visible_decimal : (n : ℕ) → n < 2 ^ 64 → Visible (decimal n)
unfolding IsShown
visible_decimal n fits = decimal_by_steps IsShown (λ n h. (omega arith, tt)) (λ n ds h p. visible_append ds ((48 + n % 10) ∷ []) p (omega arith, tt)) n fits
