-- A text is cut in one way, from its first piece on.
use Rattle.std.proofs.Common.{◌≡◌, ℕ, zero, suc, ◌+◌, ◌<◌, ◌≤◌, List, [], ◌∷◌, ◌++◌, length, take, drop, Some, refl, sym, ◌∙◌, ap, subst, arith, ◌⊎◌, inl, inr}
use Rattle.std.proofs.lemmas.List.{append-nil, length-drop}
use Rattle.wg_tokens.specs.declared.token.Token.{Token}
use Rattle.wg_tokens.specs.Spelling.{Matter, blank, comment, token, matter_of}
use Rattle.wg_tokens.specs.Cut.{Piece, IsLongest, BeginsWith, size_of, tokens_of, IsCutAt, Cuts, place_after}
use Rattle.wg_tokens.specs.LexicalRules.{LexicalRule, not_ascii, preprocessor, wide_literal, open_comment, stray_byte, IsBroken, Breaks, BreaksNone, BreaksFirst, rule_number}
use Rattle.wg_lex.proofs.FrontRules.{one_longest}

-- ---- pieces

positive : (text : List ℕ) (n : ℕ) (m : Matter) → matter_of (take n text) ≡ Some m → 0 < n
positive text zero m e = absurd (cc)
positive text (suc n) m e = omega arith

pub size_positive : (text : List ℕ) (p : Piece) → IsLongest text p → 0 < p.size
size_positive text p h = positive text p.size p.matter h.is

drop_none : (k : ℕ) → drop {A = ℕ} k [] ≡ []
drop_none zero = refl
drop_none (suc k) = refl

pub drop_add : (at n : ℕ) (text : List ℕ) → drop n (drop at text) ≡ drop (at + n) text
drop_add zero n text = let e : n ≡ 0 + n = omega arith in ap (λ z. drop z text) e
drop_add (suc at) n [] = drop_none n ∙ sym (drop_none (suc at + n))
drop_add (suc at) n (b ∷ bs) = let e : suc (at + n) ≡ suc at + n = omega arith in drop_add at n bs ∙ ap (λ z. drop z (b ∷ bs)) e

size_append : (ps qs : List Piece) → size_of (ps ++ qs) ≡ size_of ps + size_of qs
size_append [] qs = omega arith
size_append (p ∷ ps) qs = let ih = size_append ps qs in omega arith

begins_append : (text : List ℕ) (ps qs : List Piece) → BeginsWith text ps → BeginsWith (drop (size_of ps) text) qs → BeginsWith text (ps ++ qs)
begins_append text [] qs h k = k
begins_append text (p ∷ ps) qs h k = (h.0, begins_append (drop p.size text) ps qs h.1 (subst (λ z. BeginsWith z qs) (sym (drop_add p.size (size_of ps) text)) k))

cons_append : (text : List ℕ) (at : ℕ) (m : Matter) (n : ℕ) (ps qs : List Piece) (later : List Token) → tokens_of text (at + n) (ps ++ qs) ≡ tokens_of text (at + n) ps ++ later
    → tokens_of text at (record { matter = m; size = n } ∷ (ps ++ qs)) ≡ tokens_of text at (record { matter = m; size = n } ∷ ps) ++ later
cons_append text at blank n ps qs later h = h
cons_append text at comment n ps qs later h = h
cons_append text at (token kind) n ps qs later h = ap (λ z. record { kind = kind; place = place_after (take at text); from = at; to = at + n } ∷ z) h

tokens_append : (text : List ℕ) (at : ℕ) (ps qs : List Piece) → tokens_of text at (ps ++ qs) ≡ tokens_of text at ps ++ tokens_of text (at + size_of ps) qs
tokens_append text at [] qs = let e : at ≡ at + 0 = omega arith in ap (λ z. tokens_of text z qs) e
tokens_append text at (p ∷ ps) qs = cons_append text at p.matter p.size ps qs (tokens_of text (at + (p.size + size_of ps)) qs)
    (tokens_append text (at + p.size) ps qs ∙ (let e : at + p.size + size_of ps ≡ at + (p.size + size_of ps) = omega arith in ap (λ z. tokens_of text (at + p.size) ps ++ tokens_of text z qs) e))

-- of two lists of pieces the shorter begins the other
abbrev GoesOn : List ℕ → List Piece → List Piece → Type 0
GoesOn text ps qs = (more : List Piece) × (qs ≡ ps ++ more) × BeginsWith (drop (size_of ps) text) more

pub goes_on : (text : List ℕ) (ps qs : List Piece) → BeginsWith text ps → BeginsWith text qs → size_of ps ≤ size_of qs → GoesOn text ps qs
goes_on text [] qs h k l = (qs, refl, k)
goes_on text (p ∷ ps) [] h k l = let z = size_positive text p h.0 in absurd (omega arith)
goes_on text (p ∷ ps) (q ∷ qs) h k l =
    let same : p ≡ q = one_longest text p q h.0 k.0 in
    let sizes : p.size ≡ q.size = ap (λ z. z.size) same in
    let rest = goes_on (drop p.size text) ps qs h.1 (subst (λ z. BeginsWith (drop z text) qs) (sym sizes) k.1) (omega arith) in
    (rest.0, ap (λ z. z ∷ qs) (sym same) ∙ ap (λ z. p ∷ z) rest.1, subst (λ z. BeginsWith z rest.0) (drop_add p.size (size_of ps) text) rest.2)

none_of_size : (text : List ℕ) (ps : List Piece) → BeginsWith text ps → size_of ps ≡ 0 → ps ≡ []
none_of_size text [] h e = refl
none_of_size text (p ∷ ps) h e = let z = size_positive text p h.0 in absurd (omega arith)

-- ---- what is cut so far

pub record SoFar (text : List ℕ) (at : ℕ) (found : List Token) : Type 0 where
  pub pieces : List Piece
  pub begins : BeginsWith text pieces
  pub size : size_of pieces ≡ at
  pub tokens : found ≡ tokens_of text 0 pieces
  pub inside : at ≤ length text
  pub clean : (rule : LexicalRule) (there : ℕ) → there < at → Breaks text rule there → ⊥

pub begin : (text : List ℕ) → SoFar text 0 []
begin text = record { pieces = []; begins = tt; size = refl; tokens = refl; inside = omega arith; clean = λ rule there h b. absurd (omega arith) }

order : (n m : ℕ) → (n < m) ⊎ ((m < n) ⊎ (n ≡ m))
order n m = grind arith

-- no piece begins inside another
between : (text : List ℕ) (at there : ℕ) (p : Piece) (found : List Token) → SoFar text at found → IsLongest (drop at text) p → IsCutAt text there → at < there → there < at + p.size → ⊥
between text at there p found h l (qs, k, e) above below =
    let size = h.size in
    let rest = goes_on text h.pieces qs h.begins k (omega arith) in
    let whole : there ≡ at + size_of rest.0 = sym e ∙ ap size_of rest.1 ∙ size_append h.pieces rest.0 ∙ ap (λ z. z + size_of rest.0) size in
    inner rest.0 (subst (λ z. BeginsWith (drop z text) rest.0) size rest.2) (omega arith) (omega arith)
  where
    inner : (ps : List Piece) → BeginsWith (drop at text) ps → 0 < size_of ps → size_of ps < p.size → ⊥
    inner [] b some less = omega arith
    inner (q ∷ qs) b some less = let sizes : q.size ≡ p.size = ap (λ z. z.size) (one_longest (drop at text) q p b.0 l) in omega arith

pub step : (text : List ℕ) (at : ℕ) (p : Piece) (found : List Token) → IsLongest (drop at text) p → ((rule : LexicalRule) → IsBroken rule (take at text) (drop at text) → ⊥) → SoFar text at found
    → SoFar text (at + p.size) (found ++ tokens_of text at (p ∷ []))
step text at p found l unbroken h = record {
  pieces = h.pieces ++ p ∷ [];
  begins = begins_append text h.pieces (p ∷ []) h.begins (subst (λ z. IsLongest (drop z text) p) (sym h.size) l, tt);
  size = size_append h.pieces (p ∷ []) ∙ (let e = h.size in omega arith);
  tokens = (let e : 0 + size_of h.pieces ≡ at = (let s = h.size in omega arith) in
      ap (λ z. z ++ tokens_of text at (p ∷ [])) h.tokens ∙ ap (λ z. tokens_of text 0 h.pieces ++ tokens_of text z (p ∷ [])) (sym e) ∙ sym (tokens_append text 0 h.pieces (p ∷ [])));
  inside = (let i = l.inside in let j = h.inside in let d = length-drop at text in omega arith);
  clean = λ rule there below b. elim (order there at) [
    | inl less ↦ h.clean rule there less b
    | inr (inl more) ↦ between text at there p found h l b.0 more below
    | inr (inr same) ↦ unbroken rule (subst (λ z. IsBroken rule (take z text) (drop z text)) same b.1)
  ];
}

-- ---- the end

pub drop_all : (text : List ℕ) (at : ℕ) → length text ≤ at → drop at text ≡ []
drop_all [] zero h = refl
drop_all [] (suc at) h = refl
drop_all (b ∷ bs) zero h = absurd (omega arith)
drop_all (b ∷ bs) (suc at) h = drop_all bs at (omega arith)

pub end : (text : List ℕ) (at : ℕ) (found : List Token) → length text ≤ at → SoFar text at found → Cuts text found
end text at found e h = (h.pieces, h.begins, (let s = h.size in let i = h.inside in omega arith), h.tokens)

pub only : (text : List ℕ) (at : ℕ) (found others : List Token) → length text ≤ at → SoFar text at found → Cuts text others → others ≡ found
only text at found others e h (qs, k, size, same) =
    let s = h.size in let i = h.inside in
    let rest = goes_on text h.pieces qs h.begins k (omega arith) in
    let whole : length text ≡ at + size_of rest.0 = sym size ∙ ap size_of rest.1 ∙ size_append h.pieces rest.0 ∙ ap (λ z. z + size_of rest.0) s in
    let none : rest.0 ≡ [] = none_of_size (drop (size_of h.pieces) text) rest.0 rest.2 (omega arith) in
    same ∙ ap (tokens_of text 0) (rest.1 ∙ ap (λ z. h.pieces ++ z) none ∙ append-nil h.pieces) ∙ sym h.tokens

pub unbroken_end : (rule : LexicalRule) (before : List ℕ) → IsBroken rule before [] → ⊥
unbroken_end not_ascii before h = let e = h.1 in cc
unbroken_end preprocessor before h = let e = h.0 in cc
unbroken_end wide_literal before h = let s = size_positive [] _ h.4 in let i = h.4.inside in omega arith
unbroken_end open_comment before h = let e = h.0 in cc
unbroken_end stray_byte before h = let e = h.0 in omega arith

pub unbroken : (text : List ℕ) (at : ℕ) (found : List Token) → length text ≤ at → SoFar text at found → BreaksNone text
unbroken text at found e h rule there b = elim (order there at) [
  | inl less ↦ h.clean rule there less b
  | inr (inl more) ↦ unbroken_end rule (take there text) (subst (λ z. IsBroken rule (take there text) z) (drop_all text there (omega arith)) b.1)
  | inr (inr same) ↦ unbroken_end rule (take there text) (subst (λ z. IsBroken rule (take there text) z) (drop_all text there (omega arith)) b.1)
]

-- ---- a broken rule

pub fault : (text : List ℕ) (at : ℕ) (found : List Token) (rule : LexicalRule) → SoFar text at found → IsBroken rule (take at text) (drop at text)
    → ((other : LexicalRule) → IsBroken other (take at text) (drop at text) → rule_number rule ≤ rule_number other) → BreaksFirst text rule at
fault text at found rule h broken least = record {
  broken = ((h.pieces, h.begins, h.size), broken);
  first = λ other there b. elim (order there at) [
    | inl less ↦ absurd (h.clean other there less b)
    | inr (inl more) ↦ inl more
    | inr (inr same) ↦ inr (sym same, least other (subst (λ z. IsBroken other (take z text) (drop z text)) same b.1))
  ];
}
