-- The longest punctuation, by the first three bytes.
use Rattle.std.proofs.Common.{◌≡◌, ℕ, zero, suc, ◌<◌, ◌≤◌, ◌==◌, Bool, true, false, ◌&&◌, List, [], ◌∷◌, length, take, get_or, Some, None, refl, sym, ◌∙◌, ap, arith}
use Rattle.std.proofs.lemmas.Bool.Decides.{nat_tests}
use Rattle.wg_tokens.specs.declared.mark.Mark.{Mark}
use Rattle.wg_tokens.specs.Spelled.{mark_named}
use Rattle.wg_lex.specs.Scanning.{IsLongestMark, IsNoMark}

and_no : (v : Bool) → (v && false) ≡ false
and_no true = refl
and_no false = refl

no_double : (b : ℕ) → mark_named (b ∷ 0 ∷ []) ≡ None
no_double b = simp and_no

no_triple : (b c : ℕ) → mark_named (b ∷ c ∷ 0 ∷ []) ≡ None
no_triple b c = simp and_no

abbrev pub first : List ℕ → ℕ
first text = get_or text 0 0

abbrev pub second : List ℕ → ℕ
second text = get_or text 1 0

abbrev pub third : List ℕ → ℕ
third text = get_or text 2 0

-- four bytes and more are none
four : (b c d e : ℕ) (es : List ℕ) → mark_named (b ∷ c ∷ d ∷ e ∷ es) ≡ None
four b c d e es = simp and_no

three_past : (b c d : ℕ) (ds : List ℕ) (m : ℕ) → 3 < m → m ≤ length (b ∷ c ∷ d ∷ ds) → mark_named (take m (b ∷ c ∷ d ∷ ds)) ≡ None
three_past b c d ds zero h k = absurd (omega arith)
three_past b c d ds (suc zero) h k = absurd (omega arith)
three_past b c d ds (suc (suc zero)) h k = absurd (omega arith)
three_past b c d ds (suc (suc (suc zero))) h k = absurd (omega arith)
three_past b c d [] (suc (suc (suc (suc m)))) h k = absurd (omega arith)
three_past b c d (e ∷ es) (suc (suc (suc (suc m)))) h k = four b c d e (take m es)

two_past : (b c : ℕ) (cs : List ℕ) (m : ℕ) → mark_named (b ∷ c ∷ get_or cs 0 0 ∷ []) ≡ None → 2 < m → m ≤ length (b ∷ c ∷ cs) → mark_named (take m (b ∷ c ∷ cs)) ≡ None
two_past b c [] m e h k = absurd (omega arith)
two_past b c (d ∷ ds) zero e h k = absurd (omega arith)
two_past b c (d ∷ ds) (suc zero) e h k = absurd (omega arith)
two_past b c (d ∷ ds) (suc (suc zero)) e h k = absurd (omega arith)
two_past b c (d ∷ ds) (suc (suc (suc zero))) e h k = e
two_past b c (d ∷ ds) (suc (suc (suc (suc m)))) e h k = three_past b c d ds (suc (suc (suc (suc m)))) (omega arith) k

one_past : (b : ℕ) (bs : List ℕ) (m : ℕ) → mark_named (b ∷ get_or bs 0 0 ∷ get_or bs 1 0 ∷ []) ≡ None → mark_named (b ∷ get_or bs 0 0 ∷ []) ≡ None → 1 < m → m ≤ length (b ∷ bs) → mark_named (take m (b ∷ bs)) ≡ None
one_past b [] m e f h k = absurd (omega arith)
one_past b (c ∷ cs) zero e f h k = absurd (omega arith)
one_past b (c ∷ cs) (suc zero) e f h k = absurd (omega arith)
one_past b (c ∷ cs) (suc (suc zero)) e f h k = f
one_past b (c ∷ cs) (suc (suc (suc m))) e f h k = two_past b c cs (suc (suc (suc m))) e (omega arith) k

pub triple : (text : List ℕ) (mark : Mark) → Some mark ≡ mark_named (first text ∷ second text ∷ third text ∷ []) → IsLongestMark text mark 3
triple [] mark e = let n = no_triple 0 0 in absurd (cc)
triple (b ∷ []) mark e = let n = no_triple b 0 in absurd (cc)
triple (b ∷ c ∷ []) mark e = let n = no_triple b c in absurd (cc)
triple (b ∷ c ∷ d ∷ ds) mark e = record { inside = omega arith; is = sym e; longest = three_past b c d ds }

pub double : (text : List ℕ) (mark : Mark) → None ≡ mark_named (first text ∷ second text ∷ third text ∷ []) → Some mark ≡ mark_named (first text ∷ second text ∷ []) → IsLongestMark text mark 2
double [] mark t e = let n = no_double 0 in absurd (cc)
double (b ∷ []) mark t e = let n = no_double b in absurd (cc)
double (b ∷ c ∷ cs) mark t e = record { inside = omega arith; is = sym e; longest = λ m. two_past b c cs m (sym t) }

pub single : (text : List ℕ) (mark : Mark) → None ≡ mark_named (first text ∷ second text ∷ third text ∷ []) → None ≡ mark_named (first text ∷ second text ∷ []) → Some mark ≡ mark_named (first text ∷ []) → IsLongestMark text mark 1
single [] mark t d e = absurd (cc)
single (b ∷ bs) mark t d e = record { inside = omega arith; is = sym e; longest = λ m. one_past b bs m (sym t) (sym d) }

pub no_mark : (text : List ℕ) → None ≡ mark_named (first text ∷ second text ∷ third text ∷ []) → None ≡ mark_named (first text ∷ second text ∷ []) → None ≡ mark_named (first text ∷ []) → IsNoMark text
no_mark text t d e zero k = refl
no_mark [] t d e (suc m) k = absurd (omega arith)
no_mark (b ∷ bs) t d e (suc zero) k = sym e
no_mark (b ∷ bs) t d e (suc (suc m)) k = one_past b bs (suc (suc m)) (sym t) (sym d) (omega arith) k

flip : (b c : ℕ) → (b == c) ≡ false → (c == b) ≡ false
flip b c h = grind (arith, nat_tests)

not_both : (k b c : ℕ) (v : Bool) → (c == b) ≡ false → ((k == b) && ((k == c) && v)) ≡ false
not_both k b c v h = go (k == b) (k == c) refl refl
  where
    go : (x y : Bool) → (k == b) ≡ x → (k == c) ≡ y → (x && (y && v)) ≡ false
    go false y p q = refl
    go true false p q = refl
    go true true p q = absurd (let e : (c == b) ≡ true = grind (arith, nat_tests) in cc)

pub no_other_double : (b c : ℕ) → (c == 61) ≡ false → (c == b) ≡ false → mark_named (b ∷ c ∷ []) ≡ None
no_other_double b c e f = let p = flip c 61 e in let q : (k : ℕ) → ((k == b) && ((k == c) && true)) ≡ false = λ k. not_both k b c true f in simp (and_no, p, q)

pub no_end_triple : (b c d : ℕ) → (d == 61) ≡ false → mark_named (b ∷ c ∷ d ∷ []) ≡ None
no_end_triple b c d e = let p = flip d 61 e in simp (and_no, p)

pub no_twice_triple : (b c d : ℕ) → (c == b) ≡ false → mark_named (b ∷ c ∷ d ∷ []) ≡ None
no_twice_triple b c d f = let q : (k : ℕ) (v : Bool) → ((k == b) && ((k == c) && v)) ≡ false = λ k v. not_both k b c v f in simp (and_no, q)

pub no_other_triple : (b c d : ℕ) → (b == 60) ≡ false → (b == 62) ≡ false → mark_named (b ∷ c ∷ d ∷ []) ≡ None
no_other_triple b c d e f = let p = flip b 60 e in let q = flip b 62 f in simp (and_no, p, q)

-- the same of bytes that are the first ones
pub ones : (text : List ℕ) (b : ℕ) → b ≡ first text → mark_named (b ∷ []) ≡ mark_named (first text ∷ [])
ones text b e = ap (λ z. mark_named (z ∷ [])) e

pub twos : (text : List ℕ) (b c : ℕ) → b ≡ first text → c ≡ second text → mark_named (b ∷ c ∷ []) ≡ mark_named (first text ∷ second text ∷ [])
twos text b c e f = ap (λ z. mark_named (z ∷ c ∷ [])) e ∙ ap (λ z. mark_named (first text ∷ z ∷ [])) f

pub threes : (text : List ℕ) (b c d : ℕ) → b ≡ first text → c ≡ second text → d ≡ third text → mark_named (b ∷ c ∷ d ∷ []) ≡ mark_named (first text ∷ second text ∷ third text ∷ [])
threes text b c d e f g = ap (λ z. mark_named (z ∷ c ∷ d ∷ [])) e ∙ ap (λ z. mark_named (first text ∷ z ∷ d ∷ [])) f ∙ ap (λ z. mark_named (first text ∷ second text ∷ z ∷ [])) g
