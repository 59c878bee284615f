-- Which broken rule is the first at its place.
use Rattle.std.proofs.Common.{◌≡◌, ℕ, zero, suc, ◌<◌, ◌≤◌, ◌==◌, Bool, true, false, ◌&&◌, if◌then◌else◌, nat_lt, List, [], ◌∷◌, take, get_or, slice_get, Option, Some, None, refl, sym, ◌∙◌, ap, arith, codes, bytes_eq}
use Rattle.std.specs.List.{list_all}
use Rattle.std.proofs.lemmas.Bool.Decides.{nat_tests}
use Rattle.wg_tokens.specs.declared.token.TokenKind.TheVariants.{Number}
use Rattle.wg_tokens.specs.declared.mark.Mark.{Mark}
use Rattle.wg_words.specs.Characters.{is_letter, is_digit}
use Rattle.wg_tokens.specs.Characters.{is_blank}
use Rattle.wg_tokens.specs.Spelling.{Matter, comment, token, matter_of}
use Rattle.wg_tokens.specs.Spelled.{lookup, marks, mark_named}
use Rattle.wg_tokens.specs.Cut.{Piece, IsLongest}
use Rattle.wg_tokens.specs.LexicalRules.{LexicalRule, not_ascii, preprocessor, wide_literal, open_comment, stray_byte, rule_number, IsBroken, IsNotAscii, IsPreprocessor, IsWideLiteral, IsOpenComment, IsStray}
use Rattle.wg_lex.proofs.FrontRules.{not_wide, first_open}
use Rattle.wg_lex.proofs.Cutting.{size_positive}

-- ---- a byte of 128 or more, and a `#`, begin no piece

abbrev begins_below : List ℕ → Bool
begins_below [] = false
begins_below (c ∷ cs) = nat_lt c 128

below_differs : (c b : ℕ) → nat_lt c 128 ≡ true → 128 ≤ b → (c == b) ≡ false
below_differs c b e h = grind (arith, nat_tests)

entry_above : (spelled : List ℕ) (mark : Mark) (b : ℕ) (bs : List ℕ) (later : Option Mark) → begins_below spelled ≡ true → 128 ≤ b → (if bytes_eq spelled (b ∷ bs) then Some mark else later) ≡ later
entry_above [] mark b bs later e h = absurd (cc)
entry_above (c ∷ cs) mark b bs later e h = let differs = below_differs c b e h in rw differs refl

both_hold : (v w : Bool) → (v && w) ≡ true → (v ≡ true) × (w ≡ true)
both_hold true w e = (refl, e)
both_hold false w e = absurd (cc)

lookup_above : (table : List (List ℕ × Mark)) (b : ℕ) (bs : List ℕ) → list_all (λ e. begins_below e.0) table ≡ true → 128 ≤ b → lookup table (b ∷ bs) ≡ None
lookup_above [] b bs e h = refl
lookup_above (entry ∷ rest) b bs e h = let p = both_hold (begins_below entry.0) (list_all (λ e. begins_below e.0) rest) e in
    entry_above entry.0 entry.1 b bs (lookup rest (b ∷ bs)) p.0 h ∙ lookup_above rest b bs p.1 h

mark_above : (b : ℕ) (bs : List ℕ) → 128 ≤ b → mark_named (b ∷ bs) ≡ None
mark_above b bs h = lookup_above marks b bs refl h

matter_above : (b : ℕ) (bs : List ℕ) → 128 ≤ b → matter_of (b ∷ bs) ≡ None
matter_above b bs h =
    let p : is_blank b ≡ false = grind (arith, nat_tests) in
    let q : is_letter b ≡ false = grind (arith, nat_tests) in
    let r : is_digit b ≡ false = grind (arith, nat_tests) in
    let s : (b == 34) ≡ false = grind (arith, nat_tests) in
    let t : (b == 47) ≡ false = grind (arith, nat_tests) in
    let m = mark_above b bs h in
    rw (p, q, r, s, t, m) refl

matter_hash : (bs : List ℕ) → matter_of (35 ∷ bs) ≡ None
matter_hash bs = refl

front_none : (text : List ℕ) (b : ℕ) (p : Piece) → slice_get text 0 ≡ Some b → ((bs : List ℕ) → matter_of (b ∷ bs) ≡ None) → IsLongest text p → ⊥
front_none [] b p e h l = cc
front_none (c ∷ cs) b p e h l = taken p.size p.matter (size_positive (c ∷ cs) p l) l.is
  where
    taken : (n : ℕ) (m : Matter) → 0 < n → matter_of (take n (c ∷ cs)) ≡ Some m → ⊥
    taken zero m some e = omega arith
    taken (suc n) m some at = let same : c ≡ b = cc in let none : matter_of (c ∷ take n cs) ≡ None = ap (λ z. matter_of (z ∷ take n cs)) same ∙ h (take n cs) in cc

pub piece_is_ascii : (text : List ℕ) (p : Piece) → IsLongest text p → IsNotAscii text → ⊥
piece_is_ascii text p l (b, at, above) = front_none text b p at (λ bs. matter_above b bs above) l

pub piece_is_no_hash : (before text : List ℕ) (p : Piece) → IsLongest text p → IsPreprocessor before text → ⊥
piece_is_no_hash before text p l h = front_none text 35 p h.0 matter_hash l

pub piece_is_no_stray : (text : List ℕ) (p : Piece) → IsLongest text p → IsStray text → ⊥
piece_is_no_stray text p l h = let e = h.1 p.size l.inside in let f = l.is in cc

-- ---- where a piece stands that breaks no rule

pub piece_breaks_none : (before text : List ℕ) (p : Piece) → IsLongest text p → (IsWideLiteral text → ⊥) → (IsOpenComment text → ⊥) → (rule : LexicalRule) → IsBroken rule before text → ⊥
piece_breaks_none before text p l wide opened not_ascii b = piece_is_ascii text p l b
piece_breaks_none before text p l wide opened preprocessor b = piece_is_no_hash before text p l b
piece_breaks_none before text p l wide opened wide_literal b = wide b
piece_breaks_none before text p l wide opened open_comment b = opened b
piece_breaks_none before text p l wide opened stray_byte b = piece_is_no_stray text p l b

pub skipped_breaks_none : (before text : List ℕ) (p : Piece) → IsLongest text p → ((v : ℕ) (u l : Bool) → p.matter ≡ token (Number v u l) → ⊥) → (IsOpenComment text → ⊥) → (rule : LexicalRule) → IsBroken rule before text → ⊥
skipped_breaks_none before text p l other opened = piece_breaks_none before text p l (not_wide text p l other) opened

-- ---- the first broken rule at a place

pub wide_is_first : (before text : List ℕ) → IsWideLiteral text → (other : LexicalRule) → IsBroken other before text → rule_number wide_literal ≤ rule_number other
wide_is_first before text h not_ascii b = absurd (piece_is_ascii text _ h.4 b)
wide_is_first before text h preprocessor b = absurd (piece_is_no_hash before text _ h.4 b)
wide_is_first before text h wide_literal b = omega arith
wide_is_first before text h open_comment b = omega arith
wide_is_first before text h stray_byte b = omega arith

open_is_no_number : (text : List ℕ) (n v : ℕ) (u l : Bool) → take 2 text ≡ codes "/*" → matter_of (take n text) ≡ Some (token (Number v u l)) → ⊥
open_is_no_number text n v u l h e = at text n (first_open text h).0 (first_open text h).1 e
  where
    commented : (w : Bool) → (if w then Some comment else None) ≡ Some (token (Number v u l)) → ⊥
    commented true e = cc
    commented false e = cc

    slashed : (bs : List ℕ) → get_or bs 0 0 ≡ 42 → (n : ℕ) → matter_of (take n (47 ∷ bs)) ≡ Some (token (Number v u l)) → ⊥
    slashed bs f zero e = cc
    slashed bs f (suc zero) e = cc
    slashed [] f (suc (suc n)) e = cc
    slashed (c ∷ cs) f (suc (suc n)) e = commented _ (ap (λ z. matter_of (47 ∷ z ∷ take n cs)) (sym f) ∙ e)

    at : (text : List ℕ) (n : ℕ) → get_or text 0 0 ≡ 47 → get_or text 1 0 ≡ 42 → matter_of (take n text) ≡ Some (token (Number v u l)) → ⊥
    at [] zero f g e = cc
    at [] (suc n) f g e = cc
    at (b ∷ bs) n f g e = slashed bs g n (ap (λ z. matter_of (take n (z ∷ bs))) (sym f) ∙ e)

first_is : (text : List ℕ) (b : ℕ) → slice_get text 0 ≡ Some b → get_or text 0 0 ≡ b
first_is [] b e = cc
first_is (c ∷ cs) b e = cc

pub open_is_first : (before text : List ℕ) → IsOpenComment text → (other : LexicalRule) → IsBroken other before text → rule_number open_comment ≤ rule_number other
open_is_first before text h not_ascii b = let f = (first_open text h.0).0 in let g = first_is text b.0 b.1 in let a = b.2 in absurd (omega arith)
open_is_first before text h preprocessor b = let f = (first_open text h.0).0 in let g = first_is text 35 b.0 in absurd (omega arith)
open_is_first before text h wide_literal b = absurd (open_is_no_number text b.3 b.0 b.1 b.2 h.0 b.4.is)
open_is_first before text h open_comment b = omega arith
open_is_first before text h stray_byte b = omega arith

slash_is_no_stray : (text : List ℕ) → take 2 text ≡ codes "/*" → IsStray text → ⊥
slash_is_no_stray [] h s = let e = s.0 in omega arith
slash_is_no_stray (b ∷ bs) h s = let f = (first_open (b ∷ bs) h).0 in marked (ap (λ z. matter_of (z ∷ [])) (sym f) ∙ s.1 1 (omega arith))
  where
    marked : matter_of (47 ∷ []) ≡ None → ⊥
    marked e = cc

pub stray_is_first : (before text : List ℕ) → IsStray text → (IsNotAscii text → ⊥) → (IsPreprocessor before text → ⊥) → (other : LexicalRule) → IsBroken other before text → rule_number stray_byte ≤ rule_number other
stray_is_first before text h ascii plain not_ascii b = absurd (ascii b)
stray_is_first before text h ascii plain preprocessor b = absurd (plain b)
stray_is_first before text h ascii plain wide_literal b = absurd (piece_is_no_stray text _ b.4 h)
stray_is_first before text h ascii plain open_comment b = absurd (slash_is_no_stray text b.0 h)
stray_is_first before text h ascii plain stray_byte b = omega arith

pub not_ascii_is_first : (before text : List ℕ) (other : LexicalRule) → IsBroken other before text → rule_number not_ascii ≤ rule_number other
not_ascii_is_first before text not_ascii b = omega arith
not_ascii_is_first before text preprocessor b = omega arith
not_ascii_is_first before text wide_literal b = omega arith
not_ascii_is_first before text open_comment b = omega arith
not_ascii_is_first before text stray_byte b = omega arith

pub preprocessor_is_first : (before text : List ℕ) → IsPreprocessor before text → (other : LexicalRule) → IsBroken other before text → rule_number preprocessor ≤ rule_number other
preprocessor_is_first before text h not_ascii b = let f = first_is text 35 h.0 in let g = first_is text b.0 b.1 in let a = b.2 in absurd (omega arith)
preprocessor_is_first before text h preprocessor b = omega arith
preprocessor_is_first before text h wide_literal b = omega arith
preprocessor_is_first before text h open_comment b = omega arith
preprocessor_is_first before text h stray_byte b = omega arith
