-- Parts of a block.
use Rattle.std.proofs.Common.{◌≡◌, ℕ, zero, suc, ◌+◌, ◌-◌, ◌<◌, ◌≤◌, List, [], ◌∷◌, ◌++◌, length, take, drop, get_or, refl, sym, ap, subst, ◌∙◌, ⊎_elim, arith}
use Rattle.std.specs.Prelude.{slice_index}
use Rattle.std.proofs.lemmas.List.{length-append, length-drop, length-take-le, get_or-take, get_or-drop, get_or_append_left, get_or-append_right}
use Rattle.std.proofs.lemmas.Slice.{between-put_mid}
use borrow.Rule.Slice.PartMut.{put_mid}
use Rattle.wg_slots.specs.Kept.{part}
use Rattle.wg_slots.specs.Layout.{IsWritten}

drop_next : (xs : List ℕ) (at : ℕ) → at < length xs → drop at xs ≡ get_or xs at 0 ∷ drop (suc at) xs
drop_next [] at h = absurd (omega arith)
drop_next (x ∷ xs) zero h = refl
drop_next (x ∷ xs) (suc at) h = drop_next xs at (omega arith)

-- a part is a slice
pub part_is : (block : List ℕ) (at n : ℕ) → at + n ≤ length block → take n (drop at block) ≡ part block at n
part_is block at zero h = refl
part_is block at (suc n) h = ap (λ (l : List ℕ). take (suc n) l) (drop_next block at (omega arith))
    ∙ (ap (λ (k : ℕ). get_or block at 0 ∷ take n (drop k block)) next ∙ ap (λ (l : List ℕ). get_or block at 0 ∷ l) (part_is block (at + 1) n (omega arith)))
  where
    next : suc at ≡ at + 1
    next = omega arith

-- a part whose words are the same in two blocks
pub part_same : (a b : List ℕ) (at n : ℕ) → ((i : ℕ) → at ≤ i → i < at + n → slice_index a i ≡ slice_index b i) → part a at n ≡ part b at n
part_same a b at zero h = refl
part_same a b at (suc n) h =
    ap (λ (w : ℕ). w ∷ part a (at + 1) n) (h at (omega arith) (omega arith))
    ∙ ap (λ (l : List ℕ). slice_index b at ∷ l) (part_same a b (at + 1) n (λ i low high. h i (omega arith) (omega arith)))

pub length_part : (block : List ℕ) (at n : ℕ) → length (part block at n) ≡ n
length_part block at zero = refl
length_part block at (suc n) = ap suc (length_part block (at + 1) n)

-- a slice that was copied over
pub written : (old copied words : List ℕ) (at n : ℕ) → copied ≡ words → n ≡ length words → at + length words ≤ length old → IsWritten old (put_mid at n old copied) at words
written old copied words at n same len fits =
    subst (λ (l : List ℕ). IsWritten old (put_mid at n old l) at words) (sym same)
    (record {
      size = omega (arith, len, length-append (take at old) (words ++ drop n (drop at old)), length-append words (drop n (drop at old)), length-take-le at old (omega arith), length-drop n (drop at old), length-drop at old);
      there = sym (part_is new at (length words) (omega (arith, long))) ∙ (ap (λ (m : ℕ). take m (drop at new)) (omega arith) ∙ between-put_mid at n old words (at + length words) (omega arith) (omega arith));
      others = λ i where_is. ⊎_elim (below i) (above i) where_is;
    })
  where
    new : List ℕ
    new = put_mid at n old words

    long : length new ≡ length old
    long = omega (arith, len, length-append (take at old) (words ++ drop n (drop at old)), length-append words (drop n (drop at old)), length-take-le at old (omega arith), length-drop n (drop at old), length-drop at old)

    below : (i : ℕ) → i < at → slice_index new i ≡ slice_index old i
    below i h = get_or_append_left (take at old) (words ++ drop n (drop at old)) 0 i (omega (arith, length-take-le at old (omega arith))) ∙ get_or-take at old i 0 h

    above : (i : ℕ) → at + length words ≤ i → slice_index new i ≡ slice_index old i
    above i h =
        get_or-append_right (take at old) (words ++ drop n (drop at old)) at i 0 (length-take-le at old (omega arith)) (omega arith)
        ∙ (get_or-append_right words (drop n (drop at old)) n (i - at) 0 (sym len) (omega arith)
        ∙ (get_or-drop n (drop at old) (i - at - n) 0
        ∙ (get_or-drop at old (n + (i - at - n)) 0 ∙ ap (λ (m : ℕ). get_or old m 0) (omega arith))))
