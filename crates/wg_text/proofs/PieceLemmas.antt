-- The pieces of a text between the bytes that cut it.
use Rattle.std.proofs.Common.{◌≡◌, ◌≢◌, ℕ, Bool, true, false, cond, List, [], ◌∷◌, Option, Some, None, refl, sym, ap, ◌∙◌}
use Rattle.std.specs.Option.{option_map}
use Rattle.std.specs.List.{slice_split, onto_first}
use Rattle.std.specs.Prelude.{if◌then◌else◌, slice_get, IsTrue}
use Rattle.wg_text.specs.Cut.{cut}

some_is : {X : Type 0} (x y : X) → Some x ≡ Some y → x ≡ y
some_is x y e = cc

pieces_some : (at : ℕ → Bool) (text : List ℕ) → slice_split at text ≢ []
pieces_some at [] e = absurd cc
pieces_some at (c ∷ text) e = choice (at c) (slice_split at text) e
  where
    choice : (b : Bool) (pieces : List (List ℕ)) → cond b ([] ∷ pieces) (onto_first c pieces) ≡ [] → ⊥
    choice true pieces h = absurd cc
    choice false [] h = absurd cc
    choice false (f ∷ pieces) h = absurd cc

-- the first piece ends at the first cut
pieces_cut : (at : ℕ → Bool) (text piece rest : List ℕ) → cut at text ≡ Some (piece, rest) → slice_split at text ≡ piece ∷ slice_split at rest
pieces_cut at [] piece rest e = absurd cc
pieces_cut at (c ∷ text) piece rest e = choice (at c) (cut at text) (λ f r h. pieces_cut at text f r h) e
  where
    choice : (b : Bool) (o : Option (List ℕ × List ℕ)) → ((f r : List ℕ) → o ≡ Some (f, r) → slice_split at text ≡ f ∷ slice_split at r) → cond {A = Option (List ℕ × List ℕ)} b (Some ([], text)) (option_map (λ (p : List ℕ × List ℕ). (c ∷ p.0, p.1)) o) ≡ Some (piece, rest) → cond b ([] ∷ slice_split at text) (onto_first c (slice_split at text)) ≡ piece ∷ slice_split at rest
    choice true o ih h =
        let same = some_is ([], text) (piece, rest) h in
        ap (λ (r : List ℕ × List ℕ). r.0 ∷ slice_split at r.1) same
    choice false None ih h = absurd cc
    choice false (Some r) ih h =
        let same = some_is (c ∷ r.0, r.1) (piece, rest) h in
        ap (onto_first c) (ih r.0 r.1 refl) ∙ ap (λ (r : List ℕ × List ℕ). r.0 ∷ slice_split at r.1) same

-- a text without a cut is one piece
pieces_uncut : (at : ℕ → Bool) (text : List ℕ) → cut at text ≡ None → slice_split at text ≡ text ∷ []
pieces_uncut at [] e = refl
pieces_uncut at (c ∷ text) e = choice (at c) (cut at text) (λ h. pieces_uncut at text h) e
  where
    choice : (b : Bool) (o : Option (List ℕ × List ℕ)) → (o ≡ None → slice_split at text ≡ text ∷ []) → cond {A = Option (List ℕ × List ℕ)} b (Some ([], text)) (option_map (λ (p : List ℕ × List ℕ). (c ∷ p.0, p.1)) o) ≡ None → cond b ([] ∷ slice_split at text) (onto_first c (slice_split at text)) ≡ (c ∷ text) ∷ []
    choice true o ih h = absurd cc
    choice false None ih h = rw (ih refl) refl
    choice false (Some r) ih h = absurd cc

-- ---- the pieces that are left, none where they have ended

abbrev pub left_of : (ℕ → Bool) → Bool → List ℕ → List (List ℕ)
left_of at ended text = if ended then [] else slice_split at text

pub left_none : (at : ℕ → Bool) (ended : Bool) (text : List ℕ) → (IsTrue ended → left_of at ended text ≡ []) × (left_of at ended text ≡ [] → IsTrue ended)
left_none at true text = (λ h. refl, λ h. refl)
left_none at false text = (λ h. absurd cc, λ h. absurd (pieces_some at text h))

pub next_piece : (at : ℕ → Bool) (ended : Bool) (text piece rest : List ℕ) → ended ≡ false → Some (piece, rest) ≡ cut at text → left_of at ended text ≡ piece ∷ left_of at ended rest
next_piece at true text piece rest h e = absurd cc
next_piece at false text piece rest h e = pieces_cut at text piece rest (sym e)

pub last_piece : (at : ℕ → Bool) (ended : Bool) (text : List ℕ) → ended ≡ false → None ≡ cut at text → left_of at ended text ≡ text ∷ []
last_piece at true text h e = absurd cc
last_piece at false text h e = pieces_uncut at text (sym e)

pub peek_piece : (at : ℕ → Bool) (ended : Bool) (text piece rest : List ℕ) → ended ≡ false → Some (piece, rest) ≡ cut at text → Some piece ≡ slice_get (left_of at ended text) 0
peek_piece at ended text piece rest h e = sym (ap (λ (l : List (List ℕ)). slice_get l 0) (next_piece at ended text piece rest h e))

pub peek_last : (at : ℕ → Bool) (ended : Bool) (text : List ℕ) → ended ≡ false → None ≡ cut at text → Some text ≡ slice_get (left_of at ended text) 0
peek_last at ended text h e = sym (ap (λ (l : List (List ℕ)). slice_get l 0) (last_piece at ended text h e))
