-- What is known of things, each made from what is known of the things before.
use Rattle.std.proofs.Common.{◌≡◌, ℕ, zero, suc, ◌+◌, ◌<◌, ◌≤◌, refl, sym, ap, ◌∙◌, List, [], ◌∷◌, ◌++◌, length, take, get_or, arith, length-append, ⊎_elim, Some, None}
use Rattle.std.specs.Prelude.{slice_get, unwrap_or}
use Rattle.std.proofs.Math.Seq.{take-suc, take-length, take-append_seam, get_or-append_seam}
use Rattle.std.proofs.lemmas.Bool.{cases_lt}
use Rattle.std.proofs.lemmas.List.{get_or_append_left, length-take, take_all}
use Rattle.std.proofs.lemmas.Option.{unwrap_or-slice_get, slice_get_past, get_or_from_slice_get, slice_get_within}
use Rattle.wg_typed.specs.Earlier.{each_after}

past : {X : Type 0} (xs : List X) (g : ℕ) → None ≡ slice_get xs g → length xs ≤ g
past [] g none = omega arith
past (x ∷ xs) zero none = absurd cc
past (x ∷ xs) (suc g) none = let h = past xs g none in omega (arith, h)

shorter : {A : Type 0} (n m : ℕ) (xs : List A) → n ≤ m → take n (take m xs) ≡ take n xs
shorter zero m xs le = refl
shorter (suc n) zero xs le = absurd (omega (arith, le))
shorter (suc n) (suc m) [] le = refl
shorter (suc n) (suc m) (x ∷ xs) le = ap (λ l. x ∷ l) (shorter n m xs (omega arith))

module _ {X Y : Type 0} (number : List Y → X → Y) (none : Y) where
  -- what is known of the thing of that number
  abbrev pub found : List Y → ℕ → Y
  found earlier g = unwrap_or (slice_get earlier g) none

  length_after : (earlier : List Y) (xs : List X) → length (each_after number earlier xs) ≡ length earlier + length xs
  length_after earlier [] = omega arith
  length_after earlier (x ∷ rest) = let h = length_after (earlier ++ number earlier x ∷ []) rest in let e = length-append earlier (number earlier x ∷ []) in omega (arith, h, e)

  one_after : (earlier : List Y) (xs : List X) (x : X) → each_after number earlier (xs ++ x ∷ []) ≡ each_after number earlier xs ++ number (each_after number earlier xs) x ∷ []
  one_after earlier [] x = refl
  one_after earlier (y ∷ rest) x = one_after (earlier ++ number earlier y ∷ []) rest x

  before_length : (xs : List X) (n : ℕ) → length (each_after number [] (take n xs)) ≤ n
  before_length xs n = let a = length_after [] (take n xs) in let b = length-take n xs in omega (arith, a, b)

  within_length : (xs : List X) (n : ℕ) → length (each_after number [] (take n xs)) ≤ length xs
  within_length xs n = let a = length_after [] (take n xs) in let b = length-take n xs in omega (arith, a, b)

  exact_length : (xs : List X) (n : ℕ) → n ≤ length xs → length (each_after number [] (take n xs)) ≡ n
  exact_length xs n le = let a = length_after [] (take n xs) in let b = length-take n xs in omega (arith, a, b)

  absent : (xs : List X) (n g : ℕ) → length (each_after number [] (take n xs)) ≤ g → found (each_after number [] (take n xs)) g ≡ none
  absent xs n g le = ap (λ o. unwrap_or o none) (slice_get_past (each_after number [] (take n xs)) g le)

  -- a thing that is not before has no number
  pub none_before : (xs : List X) (n g : ℕ) → n ≤ g → found (each_after number [] (take n xs)) g ≡ none
  none_before xs n g le = let h = before_length xs n in absent xs n g (omega (arith, h))

  pub none_past : (xs : List X) (n g : ℕ) → None ≡ slice_get xs g → found (each_after number [] (take n xs)) g ≡ none
  none_past xs n g absent_there = let h = within_length xs n in let le = past xs g absent_there in absent xs n g (omega (arith, h, le))

  at_end : (xs : List X) (m g : ℕ) (x : X) → m < length xs → g < suc m → x ≡ get_or xs g x
      → (g < m → found (each_after number [] (take m xs)) g ≡ number (each_after number [] (take g xs)) x)
      → found (each_after number [] (take (suc m) xs)) g ≡ number (each_after number [] (take g xs)) x
  at_end xs m g x within lt at below =
      unwrap_or-slice_get (each_after number [] (take (suc m) xs)) g none
      ∙ ap (λ l. get_or l g none) (ap (each_after number []) (take-suc xs m x within) ∙ one_after [] (take m xs) (get_or xs m x))
      ∙ ⊎_elim inside here (cases_lt g m)
    where
      so_far : List Y
      so_far = each_after number [] (take m xs)

      last : List Y
      last = number so_far (get_or xs m x) ∷ []

      long : length so_far ≡ m
      long = exact_length xs m (omega (arith, within))

      inside : g < m → get_or (so_far ++ last) g none ≡ number (each_after number [] (take g xs)) x
      inside h = get_or_append_left so_far last none g (omega (arith, h, long)) ∙ sym (unwrap_or-slice_get so_far g none) ∙ below h

      here : m ≤ g → get_or (so_far ++ last) g none ≡ number (each_after number [] (take g xs)) x
      here le =
          let same : g ≡ m = omega (arith, le, lt) in
          ap (λ k. get_or (so_far ++ last) k none) (same ∙ sym long) ∙ get_or-append_seam so_far (number so_far (get_or xs m x)) [] none
          ∙ ap (λ k. number (each_after number [] (take k xs)) (get_or xs k x)) (sym same) ∙ ap (number (each_after number [] (take g xs))) (sym at)

  -- the number of a thing before is made from those before it
  called_before : (xs : List X) (n g : ℕ) (x : X) → g < n → g < length xs → x ≡ get_or xs g x → found (each_after number [] (take n xs)) g ≡ number (each_after number [] (take g xs)) x
  called_before xs zero g x lt within at = absurd (omega (arith, lt))
  called_before xs (suc m) g x lt within at = ⊎_elim (λ h. at_end xs m g x h lt at (λ l. called_before xs m g x l within at)) (λ le. past_end le (called_before xs m g x (omega (arith, le, within)) within at)) (cases_lt m (length xs))
    where
      past_end : length xs ≤ m → found (each_after number [] (take m xs)) g ≡ number (each_after number [] (take g xs)) x → found (each_after number [] (take (suc m) xs)) g ≡ number (each_after number [] (take g xs)) x
      past_end le h = ap (λ l. found (each_after number [] l) g) (take_all (suc m) xs (omega (arith, le)) ∙ sym (take_all m xs le)) ∙ h

  pub one_before : (xs : List X) (n g : ℕ) (x : X) → g < n → Some x ≡ slice_get xs g → found (each_after number [] (take n xs)) g ≡ number (each_after number [] (take g xs)) x
  one_before xs n g x lt some = called_before xs n g x lt (slice_get_within xs g x (sym some)) (sym (get_or_from_slice_get xs g x x (sym some)))

  pub one_of_all : (xs : List X) (g : ℕ) (x : X) → g < length xs → x ≡ get_or xs g x → found (each_after number [] xs) g ≡ number (each_after number [] (take g xs)) x
  one_of_all xs g x lt at = ap (λ l. found (each_after number [] l) g) (sym (take_all (length xs) xs (omega arith))) ∙ called_before xs (length xs) g x lt lt at

  begins : (earlier : List Y) (xs : List X) → take (length earlier) (each_after number earlier xs) ≡ earlier
  begins earlier [] = take-length earlier
  begins earlier (x ∷ rest) =
      let more = begins (earlier ++ number earlier x ∷ []) rest in
      let long = length-append earlier (number earlier x ∷ []) in
      sym (shorter (length earlier) (length (earlier ++ number earlier x ∷ [])) (each_after number earlier (x ∷ rest)) (omega (arith, long)))
      ∙ ap (take (length earlier)) more ∙ take-append_seam earlier (number earlier x ∷ [])

  firsts : (earlier : List Y) (xs : List X) (n : ℕ) → take (length earlier + n) (each_after number earlier xs) ≡ each_after number earlier (take n xs)
  firsts earlier [] zero = let zero_more : length earlier + 0 ≡ length earlier = omega arith in ap (λ k. take k earlier) zero_more ∙ take-length earlier
  firsts earlier [] (suc n) = take_all (length earlier + suc n) earlier (omega arith)
  firsts earlier (x ∷ rest) zero = let zero_more : length earlier + 0 ≡ length earlier = omega arith in ap (λ k. take k (each_after number earlier (x ∷ rest))) zero_more ∙ begins earlier (x ∷ rest)
  firsts earlier (x ∷ rest) (suc n) =
      let long = length-append earlier (number earlier x ∷ []) in
      let next : length earlier + suc n ≡ length (earlier ++ number earlier x ∷ []) + n = omega (arith, long) in
      ap (λ k. take k (each_after number (earlier ++ number earlier x ∷ []) rest)) next ∙ firsts (earlier ++ number earlier x ∷ []) rest n

  -- the first numbers are those of the first things
  pub first_numbers : (xs : List X) (n : ℕ) → take n (each_after number [] xs) ≡ each_after number [] (take n xs)
  first_numbers xs n = let zero_more : 0 + n ≡ n = omega arith in ap (λ k. take k (each_after number [] xs)) (sym zero_more) ∙ firsts [] xs n

  pub one_more : (xs : List X) (n : ℕ) (x : X) → n < length xs → x ≡ get_or xs n x → each_after number [] (take (n + 1) xs) ≡ each_after number [] (take n xs) ++ number (each_after number [] (take n xs)) x ∷ []
  one_more xs n x lt at =
      let next : n + 1 ≡ suc n = omega arith in
      ap (each_after number []) (ap (λ k. take k xs) next ∙ take-suc xs n x lt) ∙ one_after [] (take n xs) (get_or xs n x) ∙ ap (λ y. each_after number [] (take n xs) ++ number (each_after number [] (take n xs)) y ∷ []) (sym at)
