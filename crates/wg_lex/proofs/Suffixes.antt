-- The longest suffix of a number.
use mir.Val.{bool_byte}
use Rattle.std.proofs.Common.{◌≡◌, ℕ, zero, suc, ◌+◌, ◌<◌, ◌≤◌, Bool, true, false, ◌&&◌, ◌||◌, List, [], ◌∷◌, length, take, get_or, refl, sym, ◌∙◌, ap, subst, arith}
use Rattle.std.proofs.lemmas.Bool.Decides.{nat_tests}
use Rattle.wg_tokens.specs.Spelling.{is_unsigned_letter, is_long_letter, is_suffix}
use Rattle.wg_lex.specs.declared.numbers.Suffix.{Suffix}
use Rattle.wg_lex.specs.Numerals.{IsLongestSuffix}

abbrev one : Bool → ℕ
one v = bool_byte v

abbrev letters : Bool → Bool → Suffix
letters u l = record { unsigned = u; long = l; size = one u + one l }

not_both : (b : ℕ) → is_unsigned_letter b ≡ true → is_long_letter b ≡ true → ⊥
not_both b u l = grind (arith, nat_tests)

three : (a b : ℕ) (rest : List ℕ) (m : ℕ) → suc (suc (suc m)) ≤ length (a ∷ b ∷ rest) → is_suffix (take (suc (suc (suc m))) (a ∷ b ∷ rest)) ≡ false
three a b [] m h = absurd (omega arith)
three a b (c ∷ rest) m h = refl

-- the last byte of a text, by whether it is one of the letters
at_end : (a : ℕ) (u l : Bool) → is_unsigned_letter a ≡ u → is_long_letter a ≡ l → IsLongestSuffix (a ∷ []) (letters u l)
at_end a true true p q = absurd (not_both a p q)
at_end a true false p q = record { inside = omega arith; is = rw p refl; unsigned = rw p refl; long = rw q refl; longest = λ m h k. absurd (omega arith) }
at_end a false true p q = record { inside = omega arith; is = rw (p, q) refl; unsigned = rw p refl; long = rw q refl; longest = λ m h k. absurd (omega arith) }
at_end a false false p q = record { inside = omega arith; is = refl; unsigned = refl; long = refl; longest = past }
  where
    past : (m : ℕ) → 0 < m → m ≤ length (a ∷ []) → is_suffix (take m (a ∷ [])) ≡ false
    past zero h k = absurd (omega arith)
    past (suc zero) h k = rw (p, q) refl
    past (suc (suc m)) h k = absurd (omega arith)

-- no letter at the front
none_is : (a b : ℕ) (rest : List ℕ) → is_unsigned_letter a ≡ false → is_long_letter a ≡ false → (m : ℕ) → 0 < m → m ≤ length (a ∷ b ∷ rest) → is_suffix (take m (a ∷ b ∷ rest)) ≡ false
none_is a b rest p q zero h k = absurd (omega arith)
none_is a b rest p q (suc zero) h k = rw (p, q) refl
none_is a b rest p q (suc (suc zero)) h k = rw (p, q) refl
none_is a b rest p q (suc (suc (suc m))) h k = three a b rest m k

-- two bytes that are no suffix, so that the first letter is all
one_is : (a b : ℕ) (rest : List ℕ) → is_suffix (a ∷ b ∷ []) ≡ false → (m : ℕ) → 1 < m → m ≤ length (a ∷ b ∷ rest) → is_suffix (take m (a ∷ b ∷ rest)) ≡ false
one_is a b rest e zero h k = absurd (omega arith)
one_is a b rest e (suc zero) h k = absurd (omega arith)
one_is a b rest e (suc (suc zero)) h k = e
one_is a b rest e (suc (suc (suc m))) h k = three a b rest m k

both_are : (a b : ℕ) (rest : List ℕ) → (m : ℕ) → 2 < m → m ≤ length (a ∷ b ∷ rest) → is_suffix (take m (a ∷ b ∷ rest)) ≡ false
both_are a b rest zero h k = absurd (omega arith)
both_are a b rest (suc zero) h k = absurd (omega arith)
both_are a b rest (suc (suc zero)) h k = absurd (omega arith)
both_are a b rest (suc (suc (suc m))) h k = three a b rest m k

-- two bytes, by whether each is one of the letters
at_two : (a b : ℕ) (rest : List ℕ) (u l v k : Bool) → is_unsigned_letter a ≡ u → is_long_letter a ≡ l → is_unsigned_letter b ≡ v → is_long_letter b ≡ k
    → IsLongestSuffix (a ∷ b ∷ rest) (letters (u || (l && v)) (l || (u && k)))
at_two a b rest true true v k p q r s = absurd (not_both a p q)
at_two a b rest true false v true p q r s = record { inside = omega arith; is = rw (p, s) refl; unsigned = rw p refl; long = rw (q, s) refl; longest = both_are a b rest }
at_two a b rest true false v false p q r s = record { inside = omega arith; is = rw p refl; unsigned = rw p refl; long = rw q refl; longest = one_is a b rest (rw (p, q, s) refl) }
at_two a b rest false true true k p q r s = record { inside = omega arith; is = rw (p, q, r) refl; unsigned = rw (p, r) refl; long = rw q refl; longest = both_are a b rest }
at_two a b rest false true false k p q r s = record { inside = omega arith; is = rw (p, q) refl; unsigned = rw p refl; long = rw q refl; longest = one_is a b rest (rw (p, q, r) refl) }
at_two a b rest false false v k p q r s = record { inside = omega arith; is = refl; unsigned = refl; long = refl; longest = none_is a b rest p q }

by_text : (text : List ℕ) (u l v k : Bool) → is_unsigned_letter (get_or text 0 0) ≡ u → is_long_letter (get_or text 0 0) ≡ l → is_unsigned_letter (get_or text 1 0) ≡ v → is_long_letter (get_or text 1 0) ≡ k
    → IsLongestSuffix text (letters (u || (l && v)) (l || (u && k)))
by_text [] u l v k p q r s = rw (sym p, sym q) record { inside = omega arith; is = refl; unsigned = refl; long = refl; longest = λ m h k. absurd (omega arith) }
by_text (a ∷ []) u l v k p q r s = rw (sym r, sym s) (shorter u l (at_end a u l p q))
  where
    shorter : (u l : Bool) → IsLongestSuffix (a ∷ []) (letters u l) → IsLongestSuffix (a ∷ []) (letters (u || (l && false)) (l || (u && false)))
    shorter true true h = h
    shorter true false h = h
    shorter false true h = h
    shorter false false h = h
by_text (a ∷ b ∷ rest) u l v k p q r s = at_two a b rest u l v k p q r s

pub longest_suffix : (text : List ℕ) (suffix : Suffix) → suffix.unsigned ≡ (is_unsigned_letter (get_or text 0 0) || (is_long_letter (get_or text 0 0) && is_unsigned_letter (get_or text 1 0)))
    → suffix.long ≡ (is_long_letter (get_or text 0 0) || (is_unsigned_letter (get_or text 0 0) && is_long_letter (get_or text 1 0))) → suffix.size ≡ one suffix.unsigned + one suffix.long → IsLongestSuffix text suffix
longest_suffix text suffix u l n =
    let t = by_text text _ _ _ _ refl refl refl refl in
    let same : suffix ≡ letters (is_unsigned_letter (get_or text 0 0) || (is_long_letter (get_or text 0 0) && is_unsigned_letter (get_or text 1 0))) (is_long_letter (get_or text 0 0) || (is_unsigned_letter (get_or text 0 0) && is_long_letter (get_or text 1 0))) =
    ap (λ z. record { unsigned = suffix.unsigned; long = suffix.long; size = z }) n ∙ ap (λ z. letters z suffix.long) u ∙ ap (λ z. letters (is_unsigned_letter (get_or text 0 0) || (is_long_letter (get_or text 0 0) && is_unsigned_letter (get_or text 1 0))) z) l in
    subst (λ z. IsLongestSuffix text z) (sym same) t

-- a letter at the front, or behind the other letter
pub by_tests : {u u' l l' v v' : Bool} → u ≡ u' → l ≡ l' → v ≡ v' → (u || (l && v)) ≡ (u' || (l' && v'))
by_tests {u} {u'} {l} {l'} {v} {v'} p q r = ap (λ z. z || (l && v)) p ∙ ap (λ z. u' || (z && v)) q ∙ ap (λ z. u' || (l' && z)) r
