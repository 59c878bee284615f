-- Places, byte by byte.
use Rattle.std.proofs.Common.{◌≡◌, ℕ, zero, suc, ◌+◌, ◌-◌, ◌≤◌, Bool, true, false, not, ◌&&◌, cond, if◌then◌else◌, List, [], ◌∷◌, ◌++◌, length, drop, fold, count_by, refl, sym, ◌∙◌, ap, arith, append_assoc, length-append}
use Rattle.std.specs.List.{list_all, after_last, suffix_len, prefix_len}
use Rattle.std.proofs.lemmas.List.{append-nil, reverse-append, drop-append-le}
use Rattle.std.proofs.lemmas.List.Sums.{suffix_len-le-length, count_by-le-length, sum_by-append}
use Rattle.std.proofs.lemmas.List.Folds.{list_all-append}
use Rattle.wg_words.specs.Characters.{is_line_feed}
use Rattle.wg_tokens.specs.Characters.{is_blank}
use Rattle.wg_tokens.specs.Cut.{place_after}
use Rattle.wg_lex.specs.declared.position.Position.{Position}
use Rattle.wg_lex.specs.Positions.{position_after, next_position}

abbrev stays : ℕ → Bool
stays b = not (is_line_feed b)

feeds_more : (before : List ℕ) (b : ℕ) → count_by is_line_feed (before ++ b ∷ []) ≡ count_by is_line_feed before + cond (is_line_feed b) 1 0
feeds_more before b = let e = sum_by-append (λ x. cond (is_line_feed x) 1 0) before (b ∷ []) in omega arith

suffix_more : (p : ℕ → Bool) (before : List ℕ) (b : ℕ) → suffix_len p (before ++ b ∷ []) ≡ cond (p b) (1 + suffix_len p before) 0
suffix_more p before b = ap (prefix_len p) (reverse-append before (b ∷ []))

drop_whole : (xs : List ℕ) (n : ℕ) → n ≡ length xs → drop n xs ≡ []
drop_whole [] zero e = refl
drop_whole [] (suc n) e = refl
drop_whole (x ∷ xs) zero e = absurd (omega arith)
drop_whole (x ∷ xs) (suc n) e = drop_whole xs n (omega arith)

line_ends : (before : List ℕ) (b : ℕ) → is_line_feed b ≡ true → after_last is_line_feed (before ++ b ∷ []) ≡ []
line_ends before b e =
    let s : suffix_len stays (before ++ b ∷ []) ≡ 0 = suffix_more stays before b ∙ ap (λ v. cond (not v) (1 + suffix_len stays before) 0) e in
    drop_whole (before ++ b ∷ []) (length (before ++ b ∷ []) - suffix_len stays (before ++ b ∷ [])) (omega arith)

line_goes_on : (before : List ℕ) (b : ℕ) → is_line_feed b ≡ false → after_last is_line_feed (before ++ b ∷ []) ≡ after_last is_line_feed before ++ b ∷ []
line_goes_on before b e =
    let s : suffix_len stays (before ++ b ∷ []) ≡ 1 + suffix_len stays before = suffix_more stays before b ∙ ap (λ v. cond (not v) (1 + suffix_len stays before) 0) e in
    let l = length-append before (b ∷ []) in
    let n : length (before ++ b ∷ []) - suffix_len stays (before ++ b ∷ []) ≡ length before - suffix_len stays before = omega arith in
    ap (λ z. drop z (before ++ b ∷ [])) n ∙ drop-append-le (length before - suffix_len stays before) before (b ∷ []) (omega arith)

abbrev position : ℕ → ℕ → Bool → Position
position line column only = record { place = record { line = line; column = column }; only_blanks = only }

same_position : (l l' k k' : ℕ) (o o' : Bool) → l ≡ l' → k ≡ k' → o ≡ o' → position l k o ≡ position l' k' o'
same_position l l' k k' o o' a b c = ap (λ z. position z k o) a ∙ ap (λ z. position l' z o) b ∙ ap (λ z. position l' k' z) c

blank_and : (v w : Bool) → (v && (w && true)) ≡ (v && w)
blank_and true true = refl
blank_and true false = refl
blank_and false w = refl

one_more : (before : List ℕ) (b : ℕ) (v : Bool) → is_line_feed b ≡ v
    → position_after (before ++ b ∷ []) ≡ (if v then position ((count_by is_line_feed before + 1) + 1) 1 true else position (count_by is_line_feed before + 1) ((suffix_len stays before + 1) + 1) (list_all is_blank (after_last is_line_feed before) && is_blank b))
one_more before b true e = same_position _ _ _ _ _ _
    (let f : count_by is_line_feed (before ++ b ∷ []) ≡ count_by is_line_feed before + 1 = feeds_more before b ∙ ap (λ v. count_by is_line_feed before + cond v 1 0) e in ap (λ z. z + 1) f)
    (let s : suffix_len stays (before ++ b ∷ []) ≡ 0 = suffix_more stays before b ∙ ap (λ v. cond (not v) (1 + suffix_len stays before) 0) e in ap (λ z. z + 1) s)
    (ap (list_all is_blank) (line_ends before b e))
one_more before b false e = same_position _ _ _ _ _ _
    (let f : count_by is_line_feed (before ++ b ∷ []) ≡ count_by is_line_feed before + 0 = feeds_more before b ∙ ap (λ v. count_by is_line_feed before + cond v 1 0) e in omega arith)
    (let s : suffix_len stays (before ++ b ∷ []) ≡ 1 + suffix_len stays before = suffix_more stays before b ∙ ap (λ v. cond (not v) (1 + suffix_len stays before) 0) e in omega arith)
    (ap (list_all is_blank) (line_goes_on before b e) ∙ list_all-append is_blank (after_last is_line_feed before) (b ∷ []) ∙ blank_and (list_all is_blank (after_last is_line_feed before)) (is_blank b))

pub next_is : (before : List ℕ) (b : ℕ) → next_position (position_after before) b ≡ position_after (before ++ b ∷ [])
next_is before b = sym (one_more before b (is_line_feed b) refl)

pub after_is : (before bytes : List ℕ) → fold next_position (position_after before) bytes ≡ position_after (before ++ bytes)
after_is before [] = ap position_after (sym (append-nil before))
after_is before (b ∷ bs) = ap (λ z. fold next_position z bs) (next_is before b) ∙ after_is (before ++ b ∷ []) bs ∙ ap position_after (append_assoc before (b ∷ []) bs)

pub line_within : (before : List ℕ) → (place_after before).line ≤ length before + 1
line_within before = let e = count_by-le-length is_line_feed before in omega arith

pub column_within : (before : List ℕ) → (place_after before).column ≤ length before + 1
column_within before = let e = suffix_len-le-length stays before in omega arith
