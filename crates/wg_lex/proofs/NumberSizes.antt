-- The longest number at the front of a text.
use Rattle.std.proofs.Common.{◌≡◌, ℕ, zero, suc, ◌+◌, ◌-◌, ◌*◌, ◌^◌, ◌<◌, ◌≤◌, ◌==◌, Bool, true, false, ◌&&◌, List, [], ◌∷◌, length, take, drop, get_or, Option, Some, None, IfSome, IfNone, refl, sym, ◌∙◌, ap, subst, arith, codes, fold}
use Rattle.std.specs.List.{prefix_len}
use Rattle.std.proofs.lemmas.Bool.Decides.{nat_tests}
use Rattle.std.proofs.lemmas.List.{length-drop}
use Rattle.std.proofs.Math.Seq.{drop-cons}
use Rattle.wg_words.specs.Characters.{is_letter, is_digit}
use Rattle.wg_tokens.specs.Characters.{is_one_of, is_blank, is_hex_digit, digit_value}
use Rattle.wg_tokens.specs.declared.token.TokenKind.TheVariants.{Number}
use Rattle.wg_tokens.specs.Spelling.{Matter, token, worth, with_suffix, number_in, goes_on_hexadecimal, matter_of}
use Rattle.wg_tokens.specs.Cut.{IsLongest}
use Rattle.wg_lex.specs.declared.numbers.Suffix.{Suffix}
use Rattle.wg_lex.specs.declared.numbers.Numeral.{Numeral}
use Rattle.wg_lex.specs.Numerals.{IsLongestSuffix, IsSuffixed, IsNumeral, begins_hexadecimal}
use Rattle.wg_lex.proofs.Runs.{run_within, run_of_front, take_of_take, drop_of_take}

-- ---- the worth of digits

abbrev one_more : ℕ → ℕ → ℕ → ℕ
one_more base value b = value * base + digit_value b

grows : (base v : ℕ) (digits : List ℕ) → 0 < base → v ≤ fold (one_more base) v digits
grows base v [] h = omega arith
grows base v (b ∷ bs) h = let ih = grows base (v * base + digit_value b) bs h in let e : v ≤ v * base = times v base h in omega arith
  where
    times : (v base : ℕ) → 0 < base → v ≤ v * base
    times v base h = grind arith

splits : (base v : ℕ) (digits : List ℕ) (i : ℕ) → fold (one_more base) v digits ≡ fold (one_more base) (fold (one_more base) v (take i digits)) (drop i digits)
splits base v [] zero = refl
splits base v [] (suc i) = refl
splits base v (b ∷ bs) zero = refl
splits base v (b ∷ bs) (suc i) = splits base (v * base + digit_value b) bs i

pub wide_worth : (base : ℕ) (digits : List ℕ) (i v : ℕ) → 0 < base → i < length digits → v ≡ worth base (take i digits) → 2 ^ 64 ≤ v * base + digit_value (get_or digits i 0) → 2 ^ 64 ≤ worth base digits
wide_worth base digits i v positive inside is wide =
    let at : worth base digits ≡ fold (one_more base) (worth base (take i digits)) (drop i digits) = splits base 0 digits i in
    let next : worth base digits ≡ fold (one_more base) (v * base + digit_value (get_or digits i 0)) (drop (suc i) digits) =
    at ∙ ap (λ z. fold (one_more base) z (drop i digits)) (sym is) ∙ ap (λ z. fold (one_more base) v z) (drop-cons digits i 0 inside) in
    let more = grows base (v * base + digit_value (get_or digits i 0)) (drop (suc i) digits) positive in
    omega arith

-- ---- digits and suffix

-- these many bytes spell the matter, and plain more of them spell any
pub record IsLongestBy (spells : List ℕ → Option Matter) (text : List ℕ) (matter : Matter) (size : ℕ) : Type 0 where
  pub inside : size ≤ length text
  pub is : spells (take size text) ≡ Some matter
  pub longest : (m : ℕ) → size < m → m ≤ length text → spells (take m text) ≡ None

suffix_is : (value : ℕ) (text : List ℕ) (suffix : Suffix) → IsLongestSuffix text suffix → IsLongestBy (with_suffix value) text (token (Number value suffix.unsigned suffix.long)) suffix.size
suffix_is value text suffix h = record {
  inside = h.inside;
  is = let is = h.is in let u = h.unsigned in let l = h.long in rw (is, u, l) refl;
  longest = λ m above within. let none = h.longest m above within in rw none refl;
}

number_cut : (p : ℕ → Bool) (base : ℕ) (text : List ℕ) (m : ℕ) → prefix_len p text ≤ m
    → number_in p base (take m text) ≡ with_suffix (worth base (take (prefix_len p text) text)) (take (m - prefix_len p text) (drop (prefix_len p text) text))
number_cut p base text m h = rw (run_of_front p text m h, take_of_take text (prefix_len p text) m h, drop_of_take text (prefix_len p text) m h) refl

pub number_in_is : (p : ℕ → Bool) (base r : ℕ) (text : List ℕ) (suffix : Suffix) → r ≡ prefix_len p text → IsLongestSuffix (drop r text) suffix
    → IsLongestBy (number_in p base) text (token (Number (worth base (take r text)) suffix.unsigned suffix.long)) (r + suffix.size)
number_in_is p base r text suffix run h =
    subst (λ z. IsLongestBy (number_in p base) text (token (Number (worth base (take z text)) suffix.unsigned suffix.long)) (z + suffix.size)) (sym run)
    (whole (suffix_is (worth base (take (prefix_len p text) text)) (drop (prefix_len p text) text) suffix (subst (λ z. IsLongestSuffix (drop z text) suffix) run h)))
  where
    whole : IsLongestBy (with_suffix (worth base (take (prefix_len p text) text))) (drop (prefix_len p text) text) (token (Number (worth base (take (prefix_len p text) text)) suffix.unsigned suffix.long)) suffix.size
        → IsLongestBy (number_in p base) text (token (Number (worth base (take (prefix_len p text) text)) suffix.unsigned suffix.long)) (prefix_len p text + suffix.size)
    whole t = let w = run_within p text in let d = length-drop (prefix_len p text) text in let i = t.inside in record {
      inside = omega arith;
      is = let back : prefix_len p text + suffix.size - prefix_len p text ≡ suffix.size = omega arith in
          number_cut p base text (prefix_len p text + suffix.size) (omega arith)
          ∙ ap (λ k. with_suffix (worth base (take (prefix_len p text) text)) (take k (drop (prefix_len p text) text))) back ∙ t.is;
      longest = λ m h k. number_cut p base text m (omega arith) ∙ t.longest (m - prefix_len p text) (omega arith) (omega arith);
    }

-- ---- the two kinds of numbers

pub hexadecimal_test : (text : List ℕ) → begins_hexadecimal text ≡ ((get_or text 0 0 == 48) && is_one_of (codes "xX") (get_or text 1 0) && is_hex_digit (get_or text 2 0))
hexadecimal_test [] = refl
hexadecimal_test (b ∷ []) = short (b == 48)
  where
    short : (v : Bool) → (v && false) ≡ (v && false && false)
    short true = refl
    short false = refl
hexadecimal_test (b ∷ x ∷ []) = short (b == 48) (is_one_of (codes "xX") x)
  where
    short : (v w : Bool) → (v && (w && false)) ≡ (v && w && false)
    short true true = refl
    short true false = refl
    short false w = refl
hexadecimal_test (b ∷ x ∷ d ∷ ds) = whole (b == 48) (is_one_of (codes "xX") x) (is_hex_digit d)
  where
    whole : (v w z : Bool) → (v && (w && z)) ≡ (v && w && z)
    whole true w z = refl
    whole false w z = refl

pub digit_is_no_blank : (b : ℕ) → is_digit b ≡ true → is_blank b ≡ false
digit_is_no_blank b h = grind (arith, nat_tests)

pub digit_is_no_letter : (b : ℕ) → is_digit b ≡ true → is_letter b ≡ false
digit_is_no_letter b h = grind (arith, nat_tests)

-- a front that goes on as a hexadecimal number is one of a text that does
no_hexadecimal : (b : ℕ) (bs : List ℕ) (k : ℕ) → ((b == 48) && goes_on_hexadecimal bs) ≡ false → ((b == 48) && goes_on_hexadecimal (take k bs)) ≡ false
no_hexadecimal b bs zero h = none (b == 48)
  where
    none : (v : Bool) → (v && false) ≡ false
    none true = refl
    none false = refl
no_hexadecimal b [] (suc k) h = h
no_hexadecimal b (x ∷ []) (suc zero) h = h
no_hexadecimal b (x ∷ []) (suc (suc k)) h = h
no_hexadecimal b (x ∷ d ∷ ds) (suc zero) h = none (b == 48) (is_one_of (codes "xX") x)
  where
    none : (v w : Bool) → (v && (w && false)) ≡ false
    none true true = refl
    none true false = refl
    none false w = refl
no_hexadecimal b (x ∷ d ∷ ds) (suc (suc k)) h = h

decimal_matter : (b : ℕ) (bs : List ℕ) (m : ℕ) → 0 < m → is_digit b ≡ true → ((b == 48) && goes_on_hexadecimal bs) ≡ false → matter_of (take m (b ∷ bs)) ≡ number_in is_digit 10 (take m (b ∷ bs))
decimal_matter b bs zero h digit plain = absurd (omega arith)
decimal_matter b bs (suc k) h digit plain = rw (digit_is_no_blank b digit, digit_is_no_letter b digit, digit, no_hexadecimal b bs k plain) refl

run_of_digit : (p : ℕ → Bool) (b : ℕ) (bs : List ℕ) → p b ≡ true → 0 < prefix_len p (b ∷ bs)
run_of_digit p b bs e = rw e (omega arith)

pub decimal_is : (text : List ℕ) (suffix : Suffix) (r : ℕ) → is_digit (get_or text 0 0) ≡ true → begins_hexadecimal text ≡ false → r ≡ prefix_len is_digit text → IsLongestSuffix (drop r text) suffix
    → IsLongest text (record { matter = token (Number (worth 10 (take r text)) suffix.unsigned suffix.long); size = r + suffix.size })
decimal_is [] suffix r digit plain run e = absurd (cc)
decimal_is (b ∷ bs) suffix r digit plain run e =
    let t = number_in_is is_digit 10 r (b ∷ bs) suffix run e in
    let some : 0 < r = subst (λ z. 0 < z) (sym run) (run_of_digit is_digit b bs digit) in
    record {
      inside = t.inside;
      is = decimal_matter b bs (r + suffix.size) (omega arith) digit plain ∙ t.is;
      longest = λ m h k. decimal_matter b bs m (omega arith) digit plain ∙ t.longest m h k;
    }

hex_matter : (b x d : ℕ) (ds : List ℕ) (m : ℕ) → 0 < m → is_digit b ≡ true → ((b == 48) && (is_one_of (codes "xX") x && is_hex_digit d)) ≡ true
    → matter_of (take (suc (suc m)) (b ∷ x ∷ d ∷ ds)) ≡ number_in is_hex_digit 16 (take m (d ∷ ds))
hex_matter b x d ds zero h digit begins = absurd (omega arith)
hex_matter b x d ds (suc m) h digit begins = rw (digit_is_no_blank b digit, digit_is_no_letter b digit, digit, begins) refl

hex_opens : (v w z : Bool) → (v && (w && z)) ≡ true → z ≡ true
hex_opens true true z h = h
hex_opens true false z h = absurd (cc)
hex_opens false w z h = absurd (cc)

pub hexadecimal_is : (text : List ℕ) (suffix : Suffix) (r : ℕ) → is_digit (get_or text 0 0) ≡ true → begins_hexadecimal text ≡ true → r ≡ prefix_len is_hex_digit (drop 2 text) → IsLongestSuffix (drop r (drop 2 text)) suffix
    → IsLongest text (record { matter = token (Number (worth 16 (take r (drop 2 text))) suffix.unsigned suffix.long); size = r + suffix.size + 2 })
hexadecimal_is [] suffix r digit begins run e = absurd (cc)
hexadecimal_is (b ∷ []) suffix r digit begins run e = let n = none (b == 48) in absurd (cc)
  where
    none : (v : Bool) → (v && false) ≡ false
    none true = refl
    none false = refl
hexadecimal_is (b ∷ x ∷ []) suffix r digit begins run e = let n = none (b == 48) (is_one_of (codes "xX") x) in absurd (cc)
  where
    none : (v w : Bool) → (v && (w && false)) ≡ false
    none true true = refl
    none true false = refl
    none false w = refl
hexadecimal_is (b ∷ x ∷ d ∷ ds) suffix r digit begins run e =
    let t = number_in_is is_hex_digit 16 r (d ∷ ds) suffix run e in
    let hex = hex_opens (b == 48) (is_one_of (codes "xX") x) (is_hex_digit d) begins in
    let some : 0 < r = subst (λ z. 0 < z) (sym run) (run_of_digit is_hex_digit d ds hex) in
    two_more (r + suffix.size) (omega arith) t
  where
    past : (n : ℕ) → 0 < n → IsLongestBy (number_in is_hex_digit 16) (d ∷ ds) (token (Number (worth 16 (take r (d ∷ ds))) suffix.unsigned suffix.long)) n
        → (m : ℕ) → suc (suc n) < m → m ≤ length (b ∷ x ∷ d ∷ ds) → matter_of (take m (b ∷ x ∷ d ∷ ds)) ≡ None
    past n some t zero h k = absurd (omega arith)
    past n some t (suc zero) h k = absurd (omega arith)
    past n some t (suc (suc m)) h k = hex_matter b x d ds m (omega arith) digit begins ∙ t.longest m (omega arith) (omega arith)

    two_more : (n : ℕ) → 0 < n → IsLongestBy (number_in is_hex_digit 16) (d ∷ ds) (token (Number (worth 16 (take r (d ∷ ds))) suffix.unsigned suffix.long)) n
        → IsLongest (b ∷ x ∷ d ∷ ds) (record { matter = token (Number (worth 16 (take r (d ∷ ds))) suffix.unsigned suffix.long); size = n + 2 })
    two_more n some t =
        let two : n + 2 ≡ suc (suc n) = omega arith in
        subst (λ z. IsLongest (b ∷ x ∷ d ∷ ds) (record { matter = token (Number (worth 16 (take r (d ∷ ds))) suffix.unsigned suffix.long); size = z })) (sym two)
        (record {
          inside = let i = t.inside in omega arith;
          is = hex_matter b x d ds n some digit begins ∙ t.is;
          longest = past n some t;
        })

-- ---- the answers of the code

numeral_of : (text : List ℕ) (value : Option ℕ) (suffix : Suffix) (size n worth : ℕ) → IsLongest text (record { matter = token (Number worth suffix.unsigned suffix.long); size = n }) → size ≡ n
    → IfSome value (λ v. v ≡ worth) → IfNone value (2 ^ 64 ≤ worth) → IsNumeral text (record { value = value; suffix = suffix; size = size })
numeral_of text (Some v) suffix size n worth is same value wide = record {
  value = subst (λ z. IsLongest text (record { matter = token (Number z suffix.unsigned suffix.long); size = size })) (sym value) (subst (λ z. IsLongest text (record { matter = token (Number worth suffix.unsigned suffix.long); size = z })) (sym same) is);
  wide = tt;
}
numeral_of text None suffix size n worth is same value wide = record {
  value = tt;
  wide = (worth, wide, subst (λ z. IsLongest text (record { matter = token (Number worth suffix.unsigned suffix.long); size = z })) (sym same) is);
}

pub decimal_numeral : (text : List ℕ) (count : ℕ) (numeral : Numeral) → is_digit (get_or text 0 0) ≡ true → begins_hexadecimal text ≡ false → count ≡ prefix_len is_digit text
    → IsSuffixed text count 10 numeral → IsNumeral text numeral
decimal_numeral text count numeral digit plain run h =
    numeral_of text numeral.value numeral.suffix numeral.size (count + numeral.suffix.size) (worth 10 (take count text))
    (decimal_is text numeral.suffix count digit plain run h.suffix) h.size h.value h.wide

pub hexadecimal_numeral : (text rest : List ℕ) (count : ℕ) (numeral : Numeral) → is_digit (get_or text 0 0) ≡ true → begins_hexadecimal text ≡ true → rest ≡ drop 2 text → count ≡ prefix_len is_hex_digit rest
    → IsSuffixed rest count 16 numeral → IsNumeral text (record { value = numeral.value; suffix = numeral.suffix; size = numeral.size + 2 })
hexadecimal_numeral text rest count numeral digit begins after run h =
    numeral_of text numeral.value numeral.suffix (numeral.size + 2) (count + numeral.suffix.size + 2) (worth 16 (take count (drop 2 text)))
    (hexadecimal_is text numeral.suffix count digit begins (run ∙ ap (prefix_len is_hex_digit) after) (subst (λ z. IsLongestSuffix (drop count z) numeral.suffix) after h.suffix)) (ap (λ z. z + 2) h.size)
    (subst (λ z. IfSome numeral.value (λ v. v ≡ worth 16 (take count z))) after h.value)
    (subst (λ z. IfNone numeral.value (2 ^ 64 ≤ worth 16 (take count z))) after h.wide)

-- an answer of no value, where the digits are worth too much
pub none_if_wide : (o : Option ℕ) (P : Type 0) → P → IfNone o P
none_if_wide (Some v) P h = tt
none_if_wide None P h = h
