-- What is left of a run of registers, and of operators on pairs of them.
use Rattle.std.proofs.Common.{◌≡◌, ℕ, zero, suc, ◌+◌, ◌-◌, ◌<◌, ◌≤◌, List, [], ◌∷◌, ◌++◌, length, drop, refl, sym, ap, ◌∙◌, arith, append_assoc, append-nil, drop-cons, add-one}
use Rattle.std.specs.Prelude.{min, slice_index}
use Rattle.wg_code.specs.declared.op.Op.{Op}
use Rattle.wg_lowered.specs.Where.{run, each_ops}
use Rattle.wg_lowered.specs.Exprs.{Form, zipped, pair_op, pair_ops, word_ops}

first_left : (at count i : ℕ) → i < count → run (at + i) (count - i) ≡ (at + i) ∷ run (at + (i + 1)) (count - (i + 1))
first_left at count i lt =
    let e : count - i ≡ suc (count - (i + 1)) = omega (arith, lt) in
    let n : suc (at + i) ≡ at + (i + 1) = omega arith in
    ap (run (at + i)) e ∙ ap (λ m. (at + i) ∷ run m (count - (i + 1))) n

pub run_goes_on : (list : List ℕ) (at count i : ℕ) → i < count → (list ++ (at + i) ∷ []) ++ run (at + (i + 1)) (count - (i + 1)) ≡ list ++ run (at + i) (count - i)
run_goes_on list at count i lt = rw (first_left at count i lt) (append_assoc list ((at + i) ∷ []) (run (at + (i + 1)) (count - (i + 1))))

-- ---- pairs

next_pair : (xs ys : List ℕ) (i : ℕ) → i < length xs → i < length ys → zipped (drop i xs) (drop i ys) ≡ (slice_index xs i, slice_index ys i) ∷ zipped (drop (i + 1) xs) (drop (i + 1) ys)
next_pair xs ys i lx ly = rw (drop-cons xs i 0 lx, drop-cons ys i 0 ly, add-one i) refl

no_second : (xs : List ℕ) → zipped xs [] ≡ []
no_second [] = refl
no_second (x ∷ xs) = refl

no_pair : (xs ys : List ℕ) (i : ℕ) → min (length xs) (length ys) ≤ i → zipped (drop i xs) (drop i ys) ≡ []
no_pair [] ys zero le = refl
no_pair [] ys (suc i) le = refl
no_pair (x ∷ xs) [] zero le = refl
no_pair (x ∷ xs) [] (suc i) le = no_second (drop i xs)
no_pair (x ∷ xs) (y ∷ ys) zero le = absurd (let h : ⊥ = omega (arith, le) in h)
no_pair (x ∷ xs) (y ∷ ys) (suc i) le = no_pair xs ys i (omega (arith, le))

next_ops : (f : Form) (xs ys : List ℕ) (d i : ℕ) → i < length xs → i < length ys → pair_ops f (drop i xs) (drop i ys) (d + i) ≡ word_ops f (d + i) (slice_index xs i) (slice_index ys i) ++ pair_ops f (drop (i + 1) xs) (drop (i + 1) ys) (d + (i + 1))
next_ops f xs ys d i lx ly =
    let n : suc (d + i) ≡ d + (i + 1) = omega arith in
    rw (next_pair xs ys i lx ly, sym n) refl

pub pairs_go_on : (ops : List Op) (f : Form) (xs ys : List ℕ) (d i : ℕ) → i < length xs → i < length ys
    → (ops ++ word_ops f (d + i) (slice_index xs i) (slice_index ys i)) ++ pair_ops f (drop (i + 1) xs) (drop (i + 1) ys) (d + (i + 1)) ≡ ops ++ pair_ops f (drop i xs) (drop i ys) (d + i)
pairs_go_on ops f xs ys d i lx ly =
    append_assoc ops (word_ops f (d + i) (slice_index xs i) (slice_index ys i)) (pair_ops f (drop (i + 1) xs) (drop (i + 1) ys) (d + (i + 1)))
    ∙ ap (λ l. ops ++ l) (sym (next_ops f xs ys d i lx ly))

pub pairs_end : (ops whole : List Op) (f : Form) (xs ys : List ℕ) (d i : ℕ) → min (length xs) (length ys) ≤ i → ops ++ pair_ops f (drop i xs) (drop i ys) (d + i) ≡ whole → ops ≡ whole
pairs_end ops whole f xs ys d i le h =
    sym (append-nil ops) ∙ ap (λ l. ops ++ each_ops (pair_op f) l (d + i)) (sym (no_pair xs ys i le)) ∙ h
