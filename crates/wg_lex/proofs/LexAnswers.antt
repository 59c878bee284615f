-- The steps of `lex`.
use Rattle.std.proofs.Common.{◌≡◌, ℕ, zero, suc, ◌+◌, ◌^◌, ◌<◌, ◌≤◌, ◌==◌, Bool, true, false, ◌&&◌, if◌then◌else◌, nat_le, List, [], ◌∷◌, ◌++◌, length, take, drop, get_or, slice_get, Some, fold, refl, sym, ◌∙◌, ap, subst, arith, inl, inr}
use Rattle.std.proofs.lemmas.Bool.Decides.{nat_tests}
use Rattle.std.proofs.lemmas.List.{append-nil, length-drop, length-take}
use Rattle.wg_words.specs.declared.place.Place.{Place}
use Rattle.wg_tokens.specs.declared.token.Token.{Token}
use Rattle.wg_tokens.specs.declared.token.TokenKind.{TokenKind}
use Rattle.wg_tokens.specs.Spelling.{blank, comment, token}
use Rattle.wg_tokens.specs.Cut.{place_after}
use Rattle.wg_tokens.specs.LexicalRules.{not_ascii, preprocessor, wide_literal, open_comment, stray_byte, IsNotAscii, IsPreprocessor, IsStray, most_bytes}
use Rattle.wg_lex.specs.declared.fault.LexFault.{LexFault}
use Rattle.wg_lex.specs.declared.fault.LexFault.TheVariants as is
use Rattle.wg_lex.specs.declared.position.Position.{Position}
use Rattle.wg_lex.specs.declared.front.Front.TheVariants as front
use Rattle.wg_lex.specs.Faults.{IsFault}
use Rattle.wg_lex.specs.Fronts.{IsFront, stray_fault}
use Rattle.wg_lex.specs.Positions.{position_after, next_position}
use Rattle.wg_lex.proofs.Cutting.{SoFar, step, fault}
use Rattle.wg_lex.proofs.FirstFaults.{piece_breaks_none, skipped_breaks_none, wide_is_first, open_is_first, stray_is_first, not_ascii_is_first, preprocessor_is_first}
use Rattle.wg_lex.proofs.Places.{after_is, line_within, column_within}

-- ---- a step

pub skipped : (text rest : List ℕ) (at size : ℕ) (found : List Token) → rest ≡ drop at text → IsFront rest (front.Skipped size) → SoFar text at found → SoFar text (at + size) found
skipped text rest at size found after h so = elim f.0 [
  | inl l ↦ subst (λ z. SoFar text (at + size) z) (append-nil found) (step text at (record { matter = blank; size = size }) found l (skipped_breaks_none (take at text) (drop at text) (record { matter = blank; size = size }) l (λ v u l e. cc) f.1) so)
  | inr l ↦ subst (λ z. SoFar text (at + size) z) (append-nil found) (step text at (record { matter = comment; size = size }) found l (skipped_breaks_none (take at text) (drop at text) (record { matter = comment; size = size }) l (λ v u l e. cc) f.1) so)
]
  where
    f : IsFront (drop at text) (front.Skipped size)
    f = subst (λ z. IsFront z (front.Skipped size)) after h

pub taken : (text rest : List ℕ) (at size : ℕ) (kind : TokenKind) (place : Place) (found : List Token) → rest ≡ drop at text → place ≡ place_after (take at text) → IsFront rest (front.Token kind size) → SoFar text at found
    → SoFar text (at + size) (found ++ record { kind = kind; place = place; from = at; to = at + size } ∷ [])
taken text rest at size kind place found after same h so = subst (λ z. SoFar text (at + size) (found ++ record { kind = kind; place = z; from = at; to = at + size } ∷ [])) (sym same)
    (step text at (record { matter = token kind; size = size }) found f.0 (piece_breaks_none (take at text) (drop at text) (record { matter = token kind; size = size }) f.0 f.1 f.2) so)
  where
    f : IsFront (drop at text) (front.Token kind size)
    f = subst (λ z. IsFront z (front.Token kind size)) after h

-- the position after a piece
take_none : (k : ℕ) → take {A = ℕ} k [] ≡ []
take_none zero = refl
take_none (suc k) = refl

take_add : (text : List ℕ) (at n : ℕ) → take at text ++ take n (drop at text) ≡ take (at + n) text
take_add text zero n = let e : n ≡ 0 + n = omega arith in ap (λ z. take z text) e
take_add [] (suc at) n = take_none n ∙ sym (take_none (suc at + n))
take_add (b ∷ bs) (suc at) n = let e : suc (at + n) ≡ suc at + n = omega arith in ap (λ z. b ∷ z) (take_add bs at n) ∙ ap (λ z. take z (b ∷ bs)) e

pub moved : (text rest piece : List ℕ) (at size : ℕ) (position moved : Position) → rest ≡ drop at text → piece ≡ take size rest → position ≡ position_after (take at text) → moved ≡ fold next_position position piece
    → moved ≡ position_after (take (at + size) text)
moved text rest piece at size position m after front before e =
    e ∙ ap (λ z. fold next_position z piece) before ∙ after_is (take at text) piece
    ∙ ap (λ z. position_after (take at text ++ z)) (front ∙ ap (take size) after) ∙ ap position_after (take_add text at size)

-- ---- faults

place_of : (text : List ℕ) (at : ℕ) (position : Position) → position ≡ position_after (take at text) → position.place ≡ place_after (take at text)
place_of text at position e = ap (λ z. z.place) e

pub wide : (text rest : List ℕ) (at : ℕ) (position : Position) (found : List Token) → length text ≤ most_bytes → rest ≡ drop at text → position ≡ position_after (take at text) → IsFront rest front.WideLiteral → SoFar text at found
    → IsFault text (is.WideLiteral position.place)
wide text rest at position found short after place h so = let f = subst (λ z. IsFront z front.WideLiteral) after h in
    (short, (at, fault text at found wide_literal so f (wide_is_first (take at text) (drop at text) f), place_of text at position place))

pub opened : (text rest : List ℕ) (at : ℕ) (position : Position) (found : List Token) → length text ≤ most_bytes → rest ≡ drop at text → position ≡ position_after (take at text) → IsFront rest front.OpenComment → SoFar text at found
    → IsFault text (is.OpenComment position.place)
opened text rest at position found short after place h so = let f = subst (λ z. IsFront z front.OpenComment) after h in
    (short, (at, fault text at found open_comment so f (open_is_first (take at text) (drop at text) f), place_of text at position place))

first_some : (text : List ℕ) → 0 < length text → slice_get text 0 ≡ Some (get_or text 0 0)
first_some [] h = absurd (omega arith)
first_some (b ∷ bs) h = refl

by_tests : (text : List ℕ) (at b : ℕ) (position : Position) (found : List Token) (v w : Bool) → length text ≤ most_bytes → slice_get (drop at text) 0 ≡ Some b → position ≡ position_after (take at text) → IsStray (drop at text) → SoFar text at found
    → nat_le 128 b ≡ v → (b == 35 && position.only_blanks) ≡ w
    → IsFault text (if v then is.NotAscii position.place else (if w then is.Preprocessor position.place else is.StrayByte position.place))
by_tests text at b position found true w short first place h so e f =
    let above : 128 ≤ b = grind (arith, nat_tests) in
    (short, (at, fault text at found not_ascii so (b, first, above) (not_ascii_is_first (take at text) (drop at text)), place_of text at position place))
by_tests text at b position found false true short first place h so e f =
    let hash : b ≡ 35 = both (b == 35) position.only_blanks refl f in
    let only : position.only_blanks ≡ true = second (b == 35) position.only_blanks f in
    let p : IsPreprocessor (take at text) (drop at text) = (first ∙ ap Some hash, sym (ap (λ z. z.only_blanks) place) ∙ only) in
    (short, (at, fault text at found preprocessor so p (preprocessor_is_first (take at text) (drop at text) p), place_of text at position place))
  where
    both : (v w : Bool) → (b == 35) ≡ v → (v && w) ≡ true → b ≡ 35
    both true w e h = grind (arith, nat_tests)
    both false w e h = absurd (cc)

    second : (v w : Bool) → (v && w) ≡ true → w ≡ true
    second true w h = h
    second false w h = absurd (cc)
by_tests text at b position found false false short first place h so e f =
    (short, (at, fault text at found stray_byte so h (stray_is_first (take at text) (drop at text) h ascii plain), place_of text at position place))
  where
    ascii : IsNotAscii (drop at text) → ⊥
    ascii (c, there, above) = let same : c ≡ b = some_same (sym there ∙ first) in grind (arith, nat_tests)
      where
        some_same : {x y : ℕ} → Some x ≡ Some y → x ≡ y
        some_same e = cc

    plain : IsPreprocessor (take at text) (drop at text) → ⊥
    plain p = let same : b ≡ 35 = some_same (sym first ∙ p.0) in
        let only : position.only_blanks ≡ true = ap (λ z. z.only_blanks) place ∙ p.1 in
        let e : (b == 35 && position.only_blanks) ≡ true = rw (same, only) refl in cc
      where
        some_same : {x y : ℕ} → Some x ≡ Some y → x ≡ y
        some_same e = cc

pub strayed : (text rest : List ℕ) (at b : ℕ) (position : Position) (result : LexFault) (found : List Token) → length text ≤ most_bytes → rest ≡ drop at text → b ≡ get_or rest 0 0 → position ≡ position_after (take at text) → IsFront rest front.Stray → SoFar text at found
    → result ≡ stray_fault b position → IsFault text result
strayed text rest at b position result found short after first place h so e =
    let f = subst (λ z. IsFront z front.Stray) after h in
    let g : slice_get (drop at text) 0 ≡ Some b = first_some (drop at text) f.0 ∙ ap (λ z. Some (get_or z 0 0)) (sym after) ∙ ap Some (sym first) in
    subst (IsFault text) (sym e) (by_tests text at b position found (nat_le 128 b) (b == 35 && position.only_blanks) short g place f so refl refl)

-- lines and columns stay small
pub fits : (text rest piece : List ℕ) (at size : ℕ) (position : Position) → length text ≤ most_bytes → rest ≡ drop at text → piece ≡ take size rest → position ≡ position_after (take at text)
    → (position.place.line + length piece < 2 ^ 32) × (position.place.column + length piece < 2 ^ 32)
fits text rest piece at size position short after front place =
    let l : position.place.line ≤ length (take at text) + 1 = subst (λ z. z.place.line ≤ length (take at text) + 1) (sym place) (line_within (take at text)) in
    let k : position.place.column ≤ length (take at text) + 1 = subst (λ z. z.place.column ≤ length (take at text) + 1) (sym place) (column_within (take at text)) in
    let t = length-take at text in let p = length-take size rest in let q = ap length front in let d = length-drop at text in let a = ap length after in
    (omega arith, omega arith)
