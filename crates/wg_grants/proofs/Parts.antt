-- The items of spans, as the list grows and as one of its items is set.
use Rattle.std.proofs.Common.{◌≡◌, ℕ, zero, suc, ◌+◌, ◌-◌, ◌<◌, ◌≤◌, Bool, true, false, List, [], ◌∷◌, ◌++◌, length, map, take, drop, replicate, refl, sym, ap, ◌∙◌, subst, arith, length-append}
use Rattle.std.specs.Prelude.{slice_get, slice_index, slice_set, nat_lt, if◌then◌else◌, option_map, unwrap_or, Option, Some, None}
use Rattle.std.proofs.lemmas.Bool.Decides.{nat_tests}
use Rattle.std.proofs.lemmas.List.{drop-append-le, take-append-le, length-drop, length-take, drop-set-lt, drop-set-add, take-set-le, get_or-take, get_or-drop, get_or_past, map-append}
use Rattle.std.proofs.lemmas.Option.{slice_get-map}
use Rattle.std.proofs.Math.Seq.{take-set-lt, drop-append_seam, take-length}
use Rattle.wg_machine.specs.Buffers.{word_at, with_word}
use Rattle.wg_grants.specs.Spans.{part_of, parts_of, LieFrom}
use Rattle.wg_grants.specs.declared.spans.Span.{Span}

-- ---- where spans lie

pub lie_end : (spans : List Span) (at end : ℕ) → LieFrom at spans end → at ≤ end
lie_end [] at end l = l
lie_end (s ∷ spans) at end l = (let a = l.0 in let b = lie_end spans (s.first + s.count) end l.1 in omega (arith, a, b))

pub lie_longer : (spans : List Span) (at end more : ℕ) → end ≤ more → LieFrom at spans end → LieFrom at spans more
lie_longer [] at end more le l = omega (arith, le, l)
lie_longer (s ∷ spans) at end more le l = (l.0, lie_longer spans (s.first + s.count) end more le l.1)

pub lie_pushed : (spans : List Span) (s : Span) (at end : ℕ) → LieFrom at spans end → s.first ≡ end → LieFrom at (spans ++ s ∷ []) (end + s.count)
lie_pushed [] s at end l e = (omega (arith, l, e), omega (arith, e))
lie_pushed (x ∷ spans) s at end l e = (l.0, lie_pushed spans s (x.first + x.count) end l.1 e)

some_is : {A : Type 0} (x y : A) → Some x ≡ Some y → x ≡ y
some_is x y e = ap (λ o. unwrap_or o x) e

pub lie_within : (spans : List Span) (at end i : ℕ) (s : Span) → LieFrom at spans end → slice_get spans i ≡ Some s → (at ≤ s.first) × (s.first + s.count ≤ end)
lie_within [] at end i s l e = absurd (cc)
lie_within (x ∷ spans) at end zero s l e =
    subst (λ (y : Span). (at ≤ y.first) × (y.first + y.count ≤ end)) (some_is x s e) (l.0, lie_end spans (x.first + x.count) end l.1)
lie_within (x ∷ spans) at end (suc i) s l e =
    let rest = lie_within spans (x.first + x.count) end i s l.1 e in
    let a = l.0 in
    let b = rest.0 in
    (omega (arith, a, b), rest.1)

-- ---- one span

module _ {A : Type 0} where
  pub part_grown : (s : Span) (xs ys : List A) → s.first + s.count ≤ length xs → part_of s (xs ++ ys) ≡ part_of s xs
  part_grown s xs ys le =
      let e = length-drop s.first xs in
      ap (take s.count) (drop-append-le s.first xs ys (omega (arith, le))) ∙ take-append-le s.count (drop s.first xs) ys (omega (arith, le, e))

  pub part_new : (s : Span) (xs ys : List A) → s.first ≡ length xs → s.count ≡ length ys → part_of s (xs ++ ys) ≡ ys
  part_new s xs ys f c =
      ap (λ n. take n (drop s.first (xs ++ ys))) c ∙ (ap (λ n. take (length ys) (drop n (xs ++ ys))) f ∙ (ap (take (length ys)) (drop-append_seam xs ys) ∙ take-length ys))

  pub part_set : (s : Span) (xs : List A) (j : ℕ) (v : A) → j < s.count → part_of s (slice_set xs (s.first + j) v) ≡ slice_set (part_of s xs) j v
  part_set s xs j v lt = ap (take s.count) (drop-set-add s.first xs j v) ∙ take-set-lt s.count (drop s.first xs) j v lt

  pub part_before : (s : Span) (xs : List A) (i : ℕ) (v : A) → i < s.first → part_of s (slice_set xs i v) ≡ part_of s xs
  part_before s xs i v lt = ap (take s.count) (drop-set-lt s.first xs i v lt)

  pub part_behind : (s : Span) (xs : List A) (i : ℕ) (v : A) → s.first + s.count ≤ i → part_of s (slice_set xs i v) ≡ part_of s xs
  part_behind s xs i v le =
      let e : i ≡ s.first + (i - s.first) = omega (arith, le) in
      ap (λ k. part_of s (slice_set xs k v)) e
      ∙ (ap (take s.count) (drop-set-add s.first xs (i - s.first) v) ∙ take-set-le s.count (drop s.first xs) (i - s.first) v (omega (arith, le)))

-- ---- all spans, each shown with its items

module _ {R A G : Type 0} (span : R → Span) (mk : R → List A → G) where
  abbrev pub shown : List R → List A → List G
  shown rows xs = map (λ r. mk r (part_of (span r) xs)) rows

  pub shown_grown : (rows : List R) (at : ℕ) (xs ys : List A) → LieFrom at (map span rows) (length xs) → shown rows (xs ++ ys) ≡ shown rows xs
  shown_grown [] at xs ys l = refl
  shown_grown (r ∷ rows) at xs ys l =
      let le = lie_end (map span rows) ((span r).first + (span r).count) (length xs) l.1 in
      ap (λ p. mk r p ∷ shown rows (xs ++ ys)) (part_grown (span r) xs ys le)
      ∙ ap (λ t. mk r (part_of (span r) xs) ∷ t) (shown_grown rows ((span r).first + (span r).count) xs ys l.1)

  pub shown_before : (rows : List R) (at end : ℕ) (xs : List A) (i : ℕ) (v : A) → LieFrom at (map span rows) end → i < at → shown rows (slice_set xs i v) ≡ shown rows xs
  shown_before [] at end xs i v l lt = refl
  shown_before (r ∷ rows) at end xs i v l lt =
      let a = l.0 in
      ap (λ p. mk r p ∷ shown rows (slice_set xs i v)) (part_before (span r) xs i v (omega (arith, a, lt)))
      ∙ ap (λ t. mk r (part_of (span r) xs) ∷ t) (shown_before rows ((span r).first + (span r).count) end xs i v l.1 (omega (arith, a, lt)))

  pub shown_set : (rows : List R) (at end : ℕ) (xs : List A) (i : ℕ) (r : R) (j : ℕ) (v : A) → LieFrom at (map span rows) end → slice_get rows i ≡ Some r → j < (span r).count
      → shown rows (slice_set xs ((span r).first + j) v) ≡ slice_set (shown rows xs) i (mk r (slice_set (part_of (span r) xs) j v))
  shown_set [] at end xs i r j v l e lt = absurd (cc)
  shown_set (x ∷ rows) at end xs zero r j v l e lt =
      let same : x ≡ r = some_is x r e in
      let behind : LieFrom ((span r).first + (span r).count) (map span rows) end = subst (λ (y : R). LieFrom ((span y).first + (span y).count) (map span rows) end) same l.1 in
      ap (λ (y : R). mk y (part_of (span y) (slice_set xs ((span r).first + j) v)) ∷ shown rows (slice_set xs ((span r).first + j) v)) same
      ∙ (ap (λ p. mk r p ∷ shown rows (slice_set xs ((span r).first + j) v)) (part_set (span r) xs j v lt)
      ∙ ap (λ t. mk r (slice_set (part_of (span r) xs) j v) ∷ t) (shown_before rows ((span r).first + (span r).count) end xs ((span r).first + j) v behind (omega (arith, lt))))
  shown_set (x ∷ rows) at end xs (suc i) r j v l e lt =
      let there : slice_get (map span rows) i ≡ Some (span r) = slice_get-map span rows i ∙ ap (option_map span) e in
      let within = lie_within (map span rows) ((span x).first + (span x).count) end i (span r) l.1 there in
      let le = within.0 in
      ap (λ p. mk x p ∷ shown rows (slice_set xs ((span r).first + j) v)) (part_behind (span x) xs ((span r).first + j) v (omega (arith, le)))
      ∙ ap (λ t. mk x (part_of (span x) xs) ∷ t) (shown_set rows ((span x).first + (span x).count) end xs i r j v l.1 e lt)

-- ---- lists of words

map_itself : (spans : List Span) → map (λ (s : Span). s) spans ≡ spans
map_itself [] = refl
map_itself (s ∷ spans) = ap (λ l. s ∷ l) (map_itself spans)

lie_itself : (spans : List Span) (at end : ℕ) → LieFrom at spans end → LieFrom at (map (λ (s : Span). s) spans) end
lie_itself spans at end l = subst (λ (x : List Span). LieFrom at x end) (sym (map_itself spans)) l

pub lie_grown_by : {A : Type 0} (spans : List Span) (xs ys : List A) → LieFrom 0 spans (length xs) → LieFrom 0 spans (length (xs ++ ys))
lie_grown_by spans xs ys lie = (let e = length-append xs ys in lie_longer spans 0 (length xs) (length (xs ++ ys)) (omega (arith, e)) lie)

module _ {A : Type 0} (spans : List Span) (xs ys : List A) (lie : LieFrom 0 spans (length xs)) where
  pub parts_grown : parts_of spans (xs ++ ys) ≡ parts_of spans xs
  parts_grown = shown_grown (λ (s : Span). s) (λ (s : Span) (p : List A). p) spans 0 xs ys (lie_itself spans 0 (length xs) lie)

  pub parts_pushed : (s : Span) → s.first ≡ length xs → s.count ≡ length ys → parts_of (spans ++ s ∷ []) (xs ++ ys) ≡ parts_of spans xs ++ ys ∷ []
  parts_pushed s f c =
      map-append (λ (s : Span). part_of s (xs ++ ys)) spans (s ∷ [])
      ∙ (ap (λ l. l ++ part_of s (xs ++ ys) ∷ []) parts_grown
      ∙ ap (λ p. parts_of spans xs ++ p ∷ []) (part_new s xs ys f c))

  pub lie_new : (s : Span) → s.first ≡ length xs → s.count ≡ length ys → LieFrom 0 (spans ++ s ∷ []) (length (xs ++ ys))
  lie_new s f c =
      subst (λ n. LieFrom 0 (spans ++ s ∷ []) n) (ap (λ n. length xs + n) c ∙ sym (length-append xs ys)) (lie_pushed spans s 0 (length xs) lie f)

pub list_found : {A : Type 0} (spans : List Span) (xs : List A) (i : ℕ) (s : Span) → slice_get spans i ≡ Some s → unwrap_or (slice_get (parts_of spans xs) i) [] ≡ part_of s xs
list_found spans xs i s e = ap (λ o. unwrap_or o []) (slice_get-map (λ (s : Span). part_of s xs) spans i ∙ ap (option_map (λ (s : Span). part_of s xs)) e)

pub list_missing : {A : Type 0} (spans : List Span) (xs : List A) (i : ℕ) → slice_get spans i ≡ None → slice_get (parts_of spans xs) i ≡ None
list_missing spans xs i e = slice_get-map (λ (s : Span). part_of s xs) spans i ∙ ap (option_map (λ (s : Span). part_of s xs)) e

part_at : (s : Span) (xs : List ℕ) (j : ℕ) → slice_index (part_of s xs) j ≡ (if nat_lt j s.count then slice_index xs (s.first + j) else 0)
part_at s xs j = choice (nat_lt j s.count) refl
  where
    choice : (b : Bool) → nat_lt j s.count ≡ b → slice_index (part_of s xs) j ≡ (if b then slice_index xs (s.first + j) else 0)
    choice true e = get_or-take s.count (drop s.first xs) j 0 (grind (arith, nat_tests, e)) ∙ get_or-drop s.first xs j 0
    choice false e =
        let l = length-take s.count (drop s.first xs) in
        get_or_past (part_of s xs) j 0 (grind (arith, nat_tests, e, l))

pub word_found : (spans : List Span) (words : List ℕ) (i j : ℕ) (s : Span) → slice_get spans i ≡ Some s → word_at (parts_of spans words) i j ≡ (if nat_lt j s.count then slice_index words (s.first + j) else 0)
word_found spans words i j s e = ap (λ l. slice_index l j) (list_found spans words i s e) ∙ part_at s words j

pub word_missing : (spans : List Span) (words : List ℕ) (i j : ℕ) → slice_get spans i ≡ None → word_at (parts_of spans words) i j ≡ 0
word_missing spans words i j e = ap (λ (o : Option (List ℕ)). slice_index (unwrap_or o []) j) (list_missing spans words i e)

-- an item is set, or none where there is none
pub set_same : {A : Type 0} (xs : List A) (i : ℕ) (x : A) → slice_get xs i ≡ Some x → slice_set xs i x ≡ xs
set_same [] i x e = refl
set_same (y ∷ xs) zero x e = ap (λ z. z ∷ xs) (some_is x y (sym e))
set_same (y ∷ xs) (suc i) x e = ap (λ l. y ∷ l) (set_same xs i x e)

pub set_none : {A : Type 0} (xs : List A) (i : ℕ) (x : A) → slice_get xs i ≡ None → slice_set xs i x ≡ xs
set_none [] i x e = refl
set_none (y ∷ xs) zero x e = absurd (cc)
set_none (y ∷ xs) (suc i) x e = ap (λ l. y ∷ l) (set_none xs i x e)

pub set_past : {A : Type 0} (xs : List A) (i : ℕ) (x : A) → length xs ≤ i → slice_set xs i x ≡ xs
set_past [] i x le = refl
set_past (y ∷ xs) zero x le = absurd (omega (arith, le))
set_past (y ∷ xs) (suc i) x le = ap (λ l. y ∷ l) (set_past xs i x (omega (arith, le)))

pub put_found : (spans : List Span) (words : List ℕ) (i j v : ℕ) (s : Span) → LieFrom 0 spans (length words) → slice_get spans i ≡ Some s
    → parts_of spans (if nat_lt j s.count then slice_set words (s.first + j) v else words) ≡ with_word (parts_of spans words) i j v
put_found spans words i j v s lie e = choice (nat_lt j s.count) refl
  where
    there : slice_get (parts_of spans words) i ≡ Some (part_of s words)
    there = slice_get-map (λ (s : Span). part_of s words) spans i ∙ ap (option_map (λ (s : Span). part_of s words)) e

    whole : with_word (parts_of spans words) i j v ≡ slice_set (parts_of spans words) i (slice_set (part_of s words) j v)
    whole = ap (λ l. slice_set (parts_of spans words) i (slice_set l j v)) (list_found spans words i s e)

    choice : (b : Bool) → nat_lt j s.count ≡ b → parts_of spans (if b then slice_set words (s.first + j) v else words) ≡ with_word (parts_of spans words) i j v
    choice true h =
        shown_set (λ (s : Span). s) (λ (s : Span) (p : List ℕ). p) spans 0 (length words) words i s j v (lie_itself spans 0 (length words) lie) e (grind (arith, nat_tests, h)) ∙ sym whole
    choice false h =
        let l = length-take s.count (drop s.first words) in
        sym (whole ∙ (ap (slice_set (parts_of spans words) i) (set_past (part_of s words) j v (grind (arith, nat_tests, h, l))) ∙ set_same (parts_of spans words) i (part_of s words) there))

pub put_missing : (spans : List Span) (words : List ℕ) (i j v : ℕ) → slice_get spans i ≡ None → parts_of spans words ≡ with_word (parts_of spans words) i j v
put_missing spans words i j v e = sym (set_none (parts_of spans words) i (slice_set (unwrap_or (slice_get (parts_of spans words) i) []) j v) (list_missing spans words i e))

-- ---- a list more

resize_all : {A : Type 0} → (xs : List A) (n : ℕ) → take (length xs + n) xs ≡ xs
resize_all {A = A} [] n = none (length {A = A} [] + n)
  where
    none : (k : ℕ) → take {A = A} k [] ≡ []
    none zero = refl
    none (suc k) = refl
resize_all {A = A} (x ∷ xs) n = (let e : suc (length xs) + n ≡ suc (length xs + n) = omega arith in ap (λ k. take k (x ∷ xs)) e ∙ ap (λ l. x ∷ l) (resize_all xs n))

-- a list that was resized to a longer one
pub resized : (xs new : List ℕ) (end n : ℕ) → end ≡ length xs + n → new ≡ take end xs ++ replicate (end - length xs) 0 → new ≡ xs ++ replicate n 0
resized xs new end n e is =
    is ∙ (ap (λ k. take k xs ++ replicate (k - length xs) 0) e ∙ (ap (λ l. l ++ replicate (length xs + n - length xs) 0) (resize_all xs n)
    ∙ ap (λ k. xs ++ replicate k 0) (let d : length xs + n - length xs ≡ n = omega arith in d)))

module _ {A : Type 0} (spans later : List Span) (xs more ys : List A) (lie : LieFrom 0 spans (length xs)) (longer : more ≡ xs ++ ys) where
  pub same_lie : later ≡ spans → LieFrom 0 later (length more)
  same_lie e = subst (λ (l : List Span). LieFrom 0 l (length more)) (sym e) (subst (λ (l : List A). LieFrom 0 spans (length l)) (sym longer) (lie_grown_by spans xs ys lie))

  pub same_view : later ≡ spans → parts_of later more ≡ parts_of spans xs
  same_view e = ap (λ (l : List Span). parts_of l more) e ∙ (ap (parts_of spans) longer ∙ parts_grown spans xs ys lie)

  module _ (s : Span) (first : s.first ≡ length xs) (count : s.count ≡ length ys) where
    pub new_lie : later ≡ spans ++ s ∷ [] → LieFrom 0 later (length more)
    new_lie e = subst (λ (l : List Span). LieFrom 0 l (length more)) (sym e) (subst (λ (l : List A). LieFrom 0 (spans ++ s ∷ []) (length l)) (sym longer) (lie_new spans xs ys lie s first count))

    pub new_view : later ≡ spans ++ s ∷ [] → parts_of later more ≡ parts_of spans xs ++ ys ∷ []
    new_view e = ap (λ (l : List Span). parts_of l more) e ∙ (ap (parts_of (spans ++ s ∷ [])) longer ∙ parts_pushed spans xs ys lie s first count)
