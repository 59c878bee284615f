-- What is left of a loop over the marks of words.
use Rattle.std.proofs.Common.{◌≡◌, ℕ, zero, suc, ◌+◌, ◌<◌, List, [], ◌∷◌, ◌++◌, length, drop, refl, sym, ap, ◌∙◌, arith, add-one, append-nil, append_assoc, subst}
use Rattle.std.specs.Prelude.{slice_index}
use Rattle.wg_typed.specs.declared.types.WordMark.{WordMark}
use Rattle.wg_typed.specs.Marks.{repeated, cleaned_word, cleaned}
use Rattle.wg_values.specs.Pieces.{mark_at}

commutes : (marks : List WordMark) (i : ℕ) → marks ++ repeated i marks ≡ repeated i marks ++ marks
commutes marks zero = append-nil marks
commutes marks (suc i) = ap (λ l. marks ++ l) (commutes marks i) ∙ sym (append_assoc marks (repeated i marks) marks)

pub repeated_last : (marks : List WordMark) (i : ℕ) → repeated (i + 1) marks ≡ repeated i marks ++ marks
repeated_last marks i = rw (add-one i) (commutes marks i)

drop_none : {A : Type 0} (i : ℕ) → drop {A = A} i [] ≡ []
drop_none zero = refl
drop_none (suc i) = refl

cleaned_rest : (words : List ℕ) → cleaned [] words ≡ words
cleaned_rest [] = refl
cleaned_rest (word ∷ words) = refl

cleaned_at : (marks : List WordMark) (words : List ℕ) (i : ℕ) → i < length words → cleaned (drop i marks) (drop i words) ≡ cleaned_word (mark_at marks i) (slice_index words i) ∷ cleaned (drop (suc i) marks) (drop (suc i) words)
cleaned_at marks [] i lt = absurd (let h : ⊥ = omega (arith, lt) in h)
cleaned_at [] (w ∷ words) zero lt = ap (λ l. w ∷ l) (sym (cleaned_rest words))
cleaned_at (m ∷ marks) (w ∷ words) zero lt = refl
cleaned_at [] (w ∷ words) (suc i) lt = subst (λ l. cleaned l (drop i words) ≡ slice_index words i ∷ cleaned [] (drop (suc i) words)) (drop_none i) (cleaned_at [] words i (omega (arith, lt)))
cleaned_at (m ∷ marks) (w ∷ words) (suc i) lt = cleaned_at marks words i (omega (arith, lt))

pub cleaned_next : (marks : List WordMark) (words : List ℕ) (i : ℕ) → i < length words → cleaned (drop i marks) (drop i words) ≡ cleaned_word (mark_at marks i) (slice_index words i) ∷ cleaned (drop (i + 1) marks) (drop (i + 1) words)
cleaned_next marks words i lt = rw (add-one i) (cleaned_at marks words i lt)

pub cleaned_more : (done whole : List ℕ) (marks : List WordMark) (words : List ℕ) (i word : ℕ) → i < length words → word ≡ cleaned_word (mark_at marks i) (slice_index words i) → done ++ cleaned (drop i marks) (drop i words) ≡ whole → (done ++ word ∷ []) ++ cleaned (drop (i + 1) marks) (drop (i + 1) words) ≡ whole
cleaned_more done whole marks words i word lt e h =
    append_assoc done (word ∷ []) (cleaned (drop (i + 1) marks) (drop (i + 1) words))
    ∙ ap (λ w. done ++ (w ∷ cleaned (drop (i + 1) marks) (drop (i + 1) words))) e
    ∙ ap (λ l. done ++ l) (sym (cleaned_next marks words i lt))
    ∙ h
