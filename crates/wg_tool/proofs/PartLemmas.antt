-- Names and words at the front of a text.
use Rattle.std.proofs.Common.{◌≡◌, ◌≢◌, ℕ, ◌+◌, ◌-◌, ◌*◌, ◌/◌, ◌%◌, ◌^◌, ◌<◌, ◌≤◌, Bool, true, false, List, [], ◌∷◌, ◌++◌, length, take, drop, Option, Some, None, refl, ap, sym, ◌∙◌, arith, append_assoc}
use Rattle.std.proofs.Math.Numerals.{one-add}
use Rattle.std.specs.Prelude.{MatchOption, IfSome, IfNone, IsTrue, ◌&&◌, nat_lt, if◌then◌else◌}
use Rattle.std.specs.List.{list_all}
use Rattle.std.specs.Char.{is_ascii_digit, is_ascii_lowercase, is_ascii_uppercase}
use Rattle.std.specs.Fmt.{decimal}
use Rattle.std.proofs.lemmas.Bool.Decides.{nat_tests}
use Rattle.std.proofs.lemmas.Fmt.{decimal_by_steps}
use Rattle.std.proofs.lemmas.List.{append_cancel_left, length-take, take-append-drop}
use Rattle.wg_tool.specs.Parts.{is_name, ends_name, ends_number, lower_length, value_from}

pub some_of : {X : Type 0} (o : Option X) (P : Type 0) (Q : X → Type 0) → MatchOption o P Q → IfSome o Q
some_of None P Q m = tt
some_of (Some x) P Q m = m

pub none_of : {X : Type 0} (o : Option X) (P : Type 0) (Q : X → Type 0) → MatchOption o P Q → IfNone o P
none_of None P Q m = m
none_of (Some x) P Q m = tt

-- the number that the digits of n begin is n
begins : ℕ → List ℕ → Type 0
begins n ds = n < 2 ^ 32 → (more : List ℕ) → value_from 0 (ds ++ more) ≡ value_from n more

is_digit : (d : ℕ) → d < 10 → is_ascii_digit (48 + d) ≡ true
is_digit d h = grind (arith, nat_tests)

one_digit : (n : ℕ) → n < 10 → begins n ((48 + n) ∷ [])
unfolding begins
one_digit n h = λ f more. let d = is_digit n h in let z : 0 * 10 + (48 + n - 48) ≡ n = omega arith in rw (d, z) refl

step_digit : (n : ℕ) (more : List ℕ) → 10 ≤ n → n < 2 ^ 32 → value_from (n / 10) ((48 + n % 10) ∷ more) ≡ value_from n more
step_digit n more h f =
    let t : nat_lt (n / 10) (2 ^ 32) ≡ true = grind (arith, nat_tests) in
    let d = is_digit (n % 10) (omega arith) in
    let v : n / 10 * 10 + (48 + n % 10 - 48) ≡ n = omega arith in
    rw (d, t, v) refl

more_digits : (n : ℕ) (ds : List ℕ) → 10 ≤ n → begins (n / 10) ds → begins n (ds ++ ((48 + n % 10) ∷ []))
unfolding begins
more_digits n ds h b = λ f more.
    let e : value_from 0 (ds ++ (48 + n % 10) ∷ more) ≡ value_from (n / 10) ((48 + n % 10) ∷ more) = b (omega arith) ((48 + n % 10) ∷ more) in
    rw append_assoc (e ∙ step_digit n more h f)

ended : (n : ℕ) (more : List ℕ) → IsTrue (ends_number more) → value_from n more ≡ n
ended n [] h = refl
ended n (c ∷ more) h = choice (is_ascii_digit c) refl
  where
    choice : (b : Bool) → is_ascii_digit c ≡ b → value_from n (c ∷ more) ≡ n
    choice true e = let no : false ≡ true = rw e at h in absurd (cc)
    choice false e = rw e refl

-- a word that a text begins is its value
pub value_decimal : (n : ℕ) → n < 2 ^ 32 → (more : List ℕ) → IsTrue (ends_number more) → value_from 0 (decimal n ++ more) ≡ n
unfolding begins
value_decimal n h more e = decimal_by_steps begins one_digit more_digits n (omega arith) h more ∙ ended n more e

-- the letters that come first, and what follows them
lower_front : (cs : List ℕ) → IsTrue (list_all is_ascii_lowercase (take (lower_length cs) cs)) × IsTrue (ends_name (drop (lower_length cs) cs))
lower_front [] = (refl, refl)
lower_front (c ∷ cs) = choice (lower_front cs) (is_ascii_lowercase c) refl
  where
    choice : IsTrue (list_all is_ascii_lowercase (take (lower_length cs) cs)) × IsTrue (ends_name (drop (lower_length cs) cs)) → (b : Bool) → is_ascii_lowercase c ≡ b
        → IsTrue (list_all is_ascii_lowercase (take (if b then 1 + lower_length cs else 0) (c ∷ cs))) × IsTrue (ends_name (drop (if b then 1 + lower_length cs else 0) (c ∷ cs)))
    choice h true e = rw (one-add, e) h
    choice h false e = (refl, rw e refl)

lower_is : (a b : List ℕ) → IsTrue (list_all is_ascii_lowercase a) → IsTrue (ends_name b) → lower_length (a ++ b) ≡ length a
lower_is [] [] p q = refl
lower_is [] (c ∷ b) p q = choice (is_ascii_lowercase c) refl
  where
    choice : (t : Bool) → is_ascii_lowercase c ≡ t → lower_length (c ∷ b) ≡ 0
    choice true e = let no : false ≡ true = rw e at q in absurd (cc)
    choice false e = rw e refl
lower_is (c ∷ a) b p q = choice (is_ascii_lowercase c) refl (lower_is a b)
  where
    choice : (t : Bool) → is_ascii_lowercase c ≡ t → (IsTrue (list_all is_ascii_lowercase a) → IsTrue (ends_name b) → lower_length (a ++ b) ≡ length a) → lower_length (c ∷ (a ++ b)) ≡ length (c ∷ a)
    choice true e h = let rest : IsTrue (list_all is_ascii_lowercase a) = rw e at p in rw e (omega (arith, h rest q))
    choice false e h = let no : false ≡ true = rw e at p in absurd (cc)

pub and_both : (a b : Bool) → IsTrue (a && b) → IsTrue a × IsTrue b
and_both true b h = (refl, h)
and_both false b h = absurd (cc)

pub both_and : (a b : Bool) → IsTrue a → IsTrue b → IsTrue (a && b)
both_and true b p q = q
both_and false b p q = absurd (cc)

name_made : (c : ℕ) (cs : List ℕ) → 0 < length cs → IsTrue (is_ascii_uppercase c) → IsTrue (list_all is_ascii_lowercase cs) → IsTrue (is_name (c ∷ cs))
name_made c [] h p q = absurd (omega arith)
name_made c (d ∷ cs) h p q = both_and (is_ascii_uppercase c) (list_all is_ascii_lowercase (d ∷ cs)) p q

lower_within : (cs : List ℕ) → lower_length cs ≤ length cs
lower_within [] = omega arith
lower_within (c ∷ cs) = choice (is_ascii_lowercase c) (lower_within cs)
  where
    choice : (b : Bool) → lower_length cs ≤ length cs → (if b then 1 + lower_length cs else 0) ≤ length (c ∷ cs)
    choice true h = omega arith
    choice false h = omega arith

-- what reads a name has found one
pub name_found : (bytes rest name more : List ℕ) (first k : ℕ) → bytes ≡ first ∷ rest → IsTrue (is_ascii_uppercase first) → k ≡ lower_length rest → k ≢ 0 → name ≡ take (1 + k) bytes → more ≡ drop (1 + k) bytes → IsTrue (is_name name) × (bytes ≡ name ++ more) × IsTrue (ends_name more)
name_found bytes rest name more first k e u l z n m =
    let front = lower_front rest in
    let within = lower_within rest in
    let named : name ≡ first ∷ take (lower_length rest) rest = rw (n, e, l, one-add) refl in
    let after : more ≡ drop (lower_length rest) rest = rw (m, e, l, one-add) refl in
    let some : 0 < length (take (lower_length rest) rest) = omega (arith, length-take (lower_length rest) rest) in
    let whole : bytes ≡ name ++ more = rw (named, after) (e ∙ ap (λ (t : List ℕ). first ∷ t) (sym (take-append-drop (lower_length rest) rest))) in
    (rw named (name_made first (take (lower_length rest) rest) some u front.0), whole, rw after front.1)

-- a text that a name begins has an upper-case letter first, and then lower-case ones
pub named_front : (rest name more : List ℕ) (first : ℕ) → IsTrue (is_name name) → IsTrue (ends_name more) → first ∷ rest ≡ name ++ more → IsTrue (is_ascii_uppercase first) × (lower_length rest ≢ 0)
named_front rest [] more first is ends e = absurd (cc)
named_front rest (c ∷ []) more first is ends e = absurd (cc)
named_front rest (c ∷ d ∷ cs) more first is ends e =
    let parts = and_both (is_ascii_uppercase c) (list_all is_ascii_lowercase (d ∷ cs)) is in
    let same : first ≡ c = cc in
    let tail : rest ≡ (d ∷ cs) ++ more = cc in
    let l : lower_length ((d ∷ cs) ++ more) ≡ length (d ∷ cs) = lower_is (d ∷ cs) more parts.1 ends in
    (rw same parts.0, λ z. let zero_is : length (d ∷ cs) ≡ 0 = sym l ∙ (ap lower_length (sym tail) ∙ z) in omega arith)

front_is : {A : Type 0} → (a b x y : List A) → length a ≡ length b → a ++ x ≡ b ++ y → (a ≡ b) × (x ≡ y)
front_is [] [] x y l e = (refl, e)
front_is [] (d ∷ b) x y l e = absurd (omega arith)
front_is (c ∷ a) [] x y l e = absurd (omega arith)
front_is (c ∷ a) (d ∷ b) x y l e =
    let rest : a ++ x ≡ b ++ y = cc in
    let same : c ≡ d = cc in
    let h = front_is a b x y (omega arith) rest in
    (rw (same, h.0) refl, h.1)

-- a text begins with one name
pub name_once : (m n a b : List ℕ) → IsTrue (is_name m) → IsTrue (is_name n) → IsTrue (ends_name a) → IsTrue (ends_name b) → m ++ a ≡ n ++ b → (m ≡ n) × (a ≡ b)
name_once [] n a b p q r s e = absurd (cc)
name_once (c ∷ []) n a b p q r s e = absurd (cc)
name_once (c ∷ d ∷ cs) [] a b p q r s e = absurd (cc)
name_once (c ∷ d ∷ cs) (u ∷ []) a b p q r s e = absurd (cc)
name_once (c ∷ d ∷ cs) (u ∷ v ∷ us) a b p q r s e =
    let first = and_both (is_ascii_uppercase c) (list_all is_ascii_lowercase (d ∷ cs)) p in
    let second = and_both (is_ascii_uppercase u) (list_all is_ascii_lowercase (v ∷ us)) q in
    let tails : (d ∷ cs) ++ a ≡ (v ∷ us) ++ b = cc in
    let l : length (d ∷ cs) ≡ length (v ∷ us) = sym (lower_is (d ∷ cs) a first.1 r) ∙ (ap lower_length tails ∙ lower_is (v ∷ us) b second.1 s) in
    let long : length (c ∷ d ∷ cs) ≡ length (u ∷ v ∷ us) = omega arith in
    front_is (c ∷ d ∷ cs) (u ∷ v ∷ us) a b long e

-- a text begins with one word
pub word_once : (m n : ℕ) (a b : List ℕ) → m < 2 ^ 32 → n < 2 ^ 32 → IsTrue (ends_number a) → IsTrue (ends_number b) → decimal m ++ a ≡ decimal n ++ b → (m ≡ n) × (a ≡ b)
word_once m n a b p q r s e =
    let same : m ≡ n = sym (value_decimal m p a r) ∙ (ap (λ (t : List ℕ). value_from 0 t) e ∙ value_decimal n q b s) in
    let rest : decimal m ++ a ≡ decimal m ++ b = e ∙ ap (λ (k : ℕ). decimal k ++ b) (sym same) in
    (same, append_cancel_left (decimal m) a b rest)
