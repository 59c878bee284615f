-- Which rules the front of a text breaks.
use Rattle.std.proofs.Common.{◌≡◌, ℕ, ◌^◌, ◌<◌, ◌==◌, Bool, true, false, ◌&&◌, List, [], ◌∷◌, take, get_or, Some, refl, sym, ◌∙◌, ap, arith, codes, ◌⊎◌, inl, inr}
use Rattle.std.proofs.lemmas.Bool.Decides.{nat_tests}
use Rattle.wg_tokens.specs.declared.token.TokenKind.TheVariants.{Number}
use Rattle.wg_tokens.specs.Spelling.{Matter, token, matter_of}
use Rattle.wg_tokens.specs.Cut.{Piece, IsLongest}
use Rattle.wg_tokens.specs.LexicalRules.{IsWideLiteral, IsOpenComment}

order : (n m : ℕ) → (n < m) ⊎ ((m < n) ⊎ (n ≡ m))
order n m = grind arith

-- one piece is the longest
pub one_longest : (text : List ℕ) (p q : Piece) → IsLongest text p → IsLongest text q → p ≡ q
one_longest text p q a b = elim (order p.size q.size) [
  | inl h ↦ let c = a.longest q.size h b.inside in let d = b.is in absurd (cc)
  | inr (inl h) ↦ let c = b.longest p.size h a.inside in let d = a.is in absurd (cc)
  | inr (inr h) ↦ same h (some_same (sym a.is ∙ ap (λ z. matter_of (take z text)) h ∙ b.is))
]
  where
    some_same : {x y : Matter} → Some x ≡ Some y → x ≡ y
    some_same e = cc

    same : p.size ≡ q.size → p.matter ≡ q.matter → p ≡ q
    same h e = ap (λ z. record { matter = p.matter; size = z }) h ∙ ap (λ z. record { matter = z; size = q.size }) e

-- ---- no wide literal

pub not_wide : (text : List ℕ) (p : Piece) → IsLongest text p → ((value : ℕ) (unsigned long : Bool) → p.matter ≡ token (Number value unsigned long) → ⊥) → IsWideLiteral text → ⊥
not_wide text p h other (value, unsigned, long, size, number, wide) =
    other value unsigned long (ap (λ z. z.matter) (one_longest text p (record { matter = token (Number value unsigned long); size = size }) h number))

pub not_wide_number : (text : List ℕ) (value size : ℕ) (unsigned long : Bool) → IsLongest text (record { matter = token (Number value unsigned long); size = size }) → value < 2 ^ 64 → IsWideLiteral text → ⊥
not_wide_number text value size unsigned long h fits (value', unsigned', long', size', number, wide) =
    let same = one_longest text (record { matter = token (Number value unsigned long); size = size }) (record { matter = token (Number value' unsigned' long'); size = size' }) h number in
    let values : value ≡ value' = numbers (ap (λ z. z.matter) same) in
    omega arith
  where
    numbers : {v v' : ℕ} {u u' l l' : Bool} → token (Number v u l) ≡ token (Number v' u' l') → v ≡ v'
    numbers e = cc

-- ---- no open comment

pub first_open : (text : List ℕ) → take 2 text ≡ codes "/*" → (get_or text 0 0 ≡ 47) × (get_or text 1 0 ≡ 42)
first_open [] e = absurd (cc)
first_open (b ∷ []) e = absurd (cc)
first_open (b ∷ c ∷ cs) e = (cc, cc)

pub not_open : (text : List ℕ) → (get_or text 0 0 == 47 && get_or text 1 0 == 42) ≡ false → IsOpenComment text → ⊥
not_open text h opened = let f = first_open text opened.0 in let p = f.0 in let q = f.1 in
    let e : (get_or text 0 0 == 47 && get_or text 1 0 == 42) ≡ true = rw (p, q) refl in absurd (cc)

pub opens_comment : (text : List ℕ) → (get_or text 0 0 == 47 && get_or text 1 0 == 42) ≡ true → take 2 text ≡ codes "/*"
opens_comment [] h = absurd (cc)
opens_comment (b ∷ []) h = absurd (search (no_and (b == 47) h))
  where
    no_and : (v : Bool) → (v && false) ≡ true → ⊥
    no_and true e = cc
    no_and false e = cc
opens_comment (b ∷ c ∷ cs) h = let p : b ≡ 47 = grind (arith, nat_tests) in let q : c ≡ 42 = grind (arith, nat_tests) in ap (λ z. z ∷ c ∷ []) p ∙ ap (λ z. 47 ∷ z ∷ []) q
