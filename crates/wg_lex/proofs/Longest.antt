-- The longest piece at the front of a text, by its first bytes.
use Rattle.std.proofs.Common.{◌≡◌, ℕ, zero, suc, ◌+◌, ◌-◌, ◌<◌, ◌≤◌, ◌==◌, Bool, true, false, not, ◌&&◌, List, [], ◌∷◌, length, take, drop, get_or, Some, None, if◌then◌else◌, refl, sym, ◌∙◌, ap, subst, arith, ◌⊎◌, inl, inr}
use Rattle.std.specs.List.{list_all, prefix_len}
use Rattle.std.proofs.lemmas.Bool.Decides.{nat_tests}
use Rattle.std.proofs.lemmas.List.{length-drop}
use Rattle.std.proofs.Math.Seq.{drop-cons}
use Rattle.wg_words.specs.Characters.{is_letter, is_word, is_line_feed}
use Rattle.wg_tokens.specs.Characters.{is_blank, is_text_byte}
use Rattle.wg_tokens.specs.declared.mark.Mark as Signs
use Rattle.wg_tokens.specs.declared.token.TokenKind.TheVariants.{Plain, Text, Mark}
use Rattle.wg_tokens.specs.Spelling.{blank, comment, token, is_quote, closes, matter_of, mark_of, text_of, slash_of}
use Rattle.wg_tokens.specs.Cut.{IsLongest}
use Rattle.wg_lex.specs.Scanning.{IsLongestMark, IsNoMark, BeginsNoOther, comment_end}
use Rattle.wg_lex.proofs.Runs.{run_within, all_run, all_past, run_of_front, run_of_run, take_of_take, drop_of_take}
use Rattle.wg_lex.proofs.CommentEnds.{Ends, comment_ends}

-- ---- a blank

pub blank_is : (text : List ℕ) → 0 < length text → is_blank (get_or text 0 0) ≡ true → IsLongest text (record { matter = blank; size = 1 })
blank_is [] h e = absurd (omega arith)
blank_is (b ∷ bs) h e = record { inside = omega arith; is = rw e refl; longest = past bs }
  where
    past : (bs : List ℕ) (m : ℕ) → 1 < m → m ≤ length (b ∷ bs) → matter_of (take m (b ∷ bs)) ≡ None
    past bs zero h k = absurd (omega arith)
    past bs (suc zero) h k = absurd (omega arith)
    past [] (suc (suc m)) h k = absurd (omega arith)
    past (c ∷ cs) (suc (suc m)) h k = rw e refl

-- ---- a name

letter_is_word : (b : ℕ) → is_letter b ≡ true → is_word b ≡ true
letter_is_word b e = rw e refl

name_by : (b : ℕ) (bs : List ℕ) (n : ℕ) → n ≡ suc (prefix_len is_word bs) → is_blank b ≡ false → is_letter b ≡ true → IsLongest (b ∷ bs) (record { matter = token (Plain (take n (b ∷ bs))); size = n })
name_by b bs n e plain letter = subst (λ z. IsLongest (b ∷ bs) (record { matter = token (Plain (take z (b ∷ bs))); size = z })) (sym e)
    (record { inside = let w = run_within is_word bs in omega arith; is = let h = all_run is_word bs in rw (plain, letter, h) refl; longest = past })
  where
    past : (m : ℕ) → suc (prefix_len is_word bs) < m → m ≤ length (b ∷ bs) → matter_of (take m (b ∷ bs)) ≡ None
    past zero h k = absurd (omega arith)
    past (suc m) h k = let e = all_past is_word bs m (omega arith) (omega arith) in rw (plain, letter, e) refl

letter_run : (b : ℕ) (bs : List ℕ) → is_letter b ≡ true → prefix_len is_word (b ∷ bs) ≡ suc (prefix_len is_word bs)
letter_run b bs letter = let e = letter_is_word b letter in rw e (omega arith)

pub name_is : (text : List ℕ) (n : ℕ) → n ≡ prefix_len is_word text → is_blank (get_or text 0 0) ≡ false → is_letter (get_or text 0 0) ≡ true
    → IsLongest text (record { matter = token (Plain (take n text)); size = n })
name_is [] n run plain letter = absurd (cc)
name_is (b ∷ bs) n run plain letter = name_by b bs n (run ∙ letter_run b bs letter) plain letter

-- ---- a string

text_front : (text : List ℕ) (m : ℕ) → prefix_len is_text_byte text ≤ m
    → text_of (take m text) ≡ (if is_quote (take (m - prefix_len is_text_byte text) (drop (prefix_len is_text_byte text) text)) then Some (token (Text (take (prefix_len is_text_byte text) text))) else None)
text_front text m h = rw (run_of_front is_text_byte text m h, take_of_take text (prefix_len is_text_byte text) m h, drop_of_take text (prefix_len is_text_byte text) m h) refl

text_within : (text : List ℕ) (m : ℕ) → m < prefix_len is_text_byte text → text_of (take m text) ≡ None
text_within text m h = let e = run_of_run is_text_byte text m h in rw e (rw (drop_of_take text m m (omega arith)) (none (drop m text)))
  where
    none : (rest : List ℕ) → (if is_quote (take (m - m) rest) then Some (token (Text (take m (take m text)))) else None) ≡ None
    none rest = let e : m - m ≡ 0 = omega arith in rw e refl

-- what is not a `"`, or more than one byte, is no `"`
quote_none : (c : ℕ) (cs : List ℕ) (k : ℕ) → (c == 34) ≡ false → is_quote (take k (c ∷ cs)) ≡ false
quote_none c cs zero e = refl
quote_none c cs (suc k) e = rw e refl

quote_past : (c : ℕ) (cs : List ℕ) (k : ℕ) → 1 < k → k ≤ length (c ∷ cs) → is_quote (take k (c ∷ cs)) ≡ false
quote_past c cs zero h l = absurd (omega arith)
quote_past c cs (suc zero) h l = absurd (omega arith)
quote_past c [] (suc (suc k)) h l = absurd (omega arith)
quote_past c (d ∷ ds) (suc (suc k)) h l = no_and (c == 34)
  where
    no_and : (v : Bool) → (v && false) ≡ false
    no_and true = refl
    no_and false = refl

text_past : (text : List ℕ) (m : ℕ) → prefix_len is_text_byte text + 1 < m → m ≤ length text → text_of (take m text) ≡ None
text_past text m h k = text_front text m (omega arith) ∙ (let inside : prefix_len is_text_byte text < length text = omega arith in
    let e : is_quote (take (m - prefix_len is_text_byte text) (drop (prefix_len is_text_byte text) text)) ≡ false =
    ap (λ z. is_quote (take (m - prefix_len is_text_byte text) z)) (drop-cons text (prefix_len is_text_byte text) 0 inside)
    ∙ quote_past (get_or text (prefix_len is_text_byte text) 0) (drop (suc (prefix_len is_text_byte text)) text) (m - prefix_len is_text_byte text) (omega arith) (let d = length-drop (suc (prefix_len is_text_byte text)) text in omega arith) in
    rw e refl)

text_closed : (text : List ℕ) → prefix_len is_text_byte text < length text → get_or text (prefix_len is_text_byte text) 0 ≡ 34
    → text_of (take (prefix_len is_text_byte text + 1) text) ≡ Some (token (Text (take (prefix_len is_text_byte text) text)))
text_closed text inside quote = text_front text (prefix_len is_text_byte text + 1) (omega arith) ∙
    (let one : prefix_len is_text_byte text + 1 - prefix_len is_text_byte text ≡ 1 = omega arith in
    let e : is_quote (take (prefix_len is_text_byte text + 1 - prefix_len is_text_byte text) (drop (prefix_len is_text_byte text) text)) ≡ true =
    ap (λ k. is_quote (take k (drop (prefix_len is_text_byte text) text))) one ∙ ap (λ z. is_quote (take 1 z)) (drop-cons text (prefix_len is_text_byte text) 0 inside)
    ∙ ap (λ z. (z == 34) && true) quote in
    rw e refl)

text_matter : (b : ℕ) (bs : List ℕ) (m : ℕ) → b ≡ 34 → matter_of (take (suc m) (b ∷ bs)) ≡ text_of (take m bs)
text_matter b bs m e = ap (λ z. matter_of (take (suc m) (z ∷ bs))) e

pub text_is : (text rest : List ℕ) (n : ℕ) → get_or text 0 0 ≡ 34 → rest ≡ drop 1 text → n ≡ prefix_len is_text_byte rest → get_or rest n 0 ≡ 34
    → IsLongest text (record { matter = token (Text (take n rest)); size = n + 2 })
text_is [] rest n first after run quote = absurd (omega (arith, first))
text_is (b ∷ bs) rest n first after run quote = subst (λ z. IsLongest (b ∷ bs) (record { matter = token (Text (take n z)); size = n + 2 })) (sym after)
    (subst (λ z. IsLongest (b ∷ bs) (record { matter = token (Text (take z bs)); size = z + 2 })) (sym (run ∙ ap (prefix_len is_text_byte) after)) whole)
  where
    quoted : get_or bs (prefix_len is_text_byte bs) 0 ≡ 34
    quoted = ap (λ z. get_or bs z 0) (sym (run ∙ ap (prefix_len is_text_byte) after)) ∙ ap (λ z. get_or z n 0) (sym after) ∙ quote

    inside : prefix_len is_text_byte bs < length bs
    inside = below bs (prefix_len is_text_byte bs) quoted
      where
        below : (xs : List ℕ) (i : ℕ) → get_or xs i 0 ≡ 34 → i < length xs
        below [] i e = absurd (omega (arith, e))
        below (x ∷ xs) zero e = omega arith
        below (x ∷ xs) (suc i) e = let h = below xs i e in omega arith

    past : (m : ℕ) → prefix_len is_text_byte bs + 2 < m → m ≤ length (b ∷ bs) → matter_of (take m (b ∷ bs)) ≡ None
    past zero h k = absurd (omega arith)
    past (suc m) h k = text_matter b bs m first ∙ text_past bs m (omega arith) (omega arith)

    whole : IsLongest (b ∷ bs) (record { matter = token (Text (take (prefix_len is_text_byte bs) bs)); size = prefix_len is_text_byte bs + 2 })
    whole = record {
      inside = let i = inside in omega arith;
      is = let e : prefix_len is_text_byte bs + 2 ≡ suc (prefix_len is_text_byte bs + 1) = omega arith in
          ap (λ z. matter_of (take z (b ∷ bs))) e ∙ text_matter b bs (prefix_len is_text_byte bs + 1) first ∙ text_closed bs inside quoted;
      longest = past;
    }

open_text : (text : List ℕ) (m : ℕ) → (get_or text (prefix_len is_text_byte text) 0 == 34) ≡ false → m ≤ length text → text_of (take m text) ≡ None
open_text text m h k = elim (order m (prefix_len is_text_byte text)) [
  | inl less ↦ text_within text m less
  | inr more ↦ text_front text m (omega arith) ∙ (let e = rest_none text m (prefix_len is_text_byte text) more h k in rw e refl)
]
  where
    order : (m r : ℕ) → (m < r) ⊎ (r ≤ m)
    order m r = grind arith

    rest_none : (text : List ℕ) (m r : ℕ) → r ≤ m → (get_or text r 0 == 34) ≡ false → m ≤ length text → is_quote (take (m - r) (drop r text)) ≡ false
    rest_none [] zero zero l h k = refl
    rest_none [] zero (suc r) l h k = absurd (omega arith)
    rest_none [] (suc m) r l h k = absurd (omega arith)
    rest_none (b ∷ bs) m zero l h k = quote_none b bs (m - 0) h
    rest_none (b ∷ bs) zero (suc r) l h k = absurd (omega arith)
    rest_none (b ∷ bs) (suc m) (suc r) l h k = let e : suc m - suc r ≡ m - r = omega arith in rw e (rest_none bs m r (omega arith) h (omega arith))

pub open_text_is : (text rest : List ℕ) (n : ℕ) → get_or text 0 0 ≡ 34 → rest ≡ drop 1 text → n ≡ prefix_len is_text_byte rest → (get_or rest n 0 == 34) ≡ false
    → (m : ℕ) → m ≤ length text → matter_of (take m text) ≡ None
open_text_is text rest n first after run quote zero k = refl
open_text_is [] rest n first after run quote (suc m) k = absurd (omega arith)
open_text_is (b ∷ bs) rest n first after run quote (suc m) k = text_matter b bs m first ∙ open_text bs m
    (ap (λ z. get_or bs z 0 == 34) (sym (run ∙ ap (prefix_len is_text_byte) after)) ∙ ap (λ z. get_or z n 0 == 34) (sym after) ∙ quote) (omega arith)

-- ---- comments

abbrev stays : ℕ → Bool
stays b = not (is_line_feed b)

slashes : (b c : ℕ) (cs : List ℕ) (m : ℕ) → b ≡ 47 → c ≡ 47 → matter_of (take (suc (suc m)) (b ∷ c ∷ cs)) ≡ (if list_all stays (take m cs) then Some comment else None)
slashes b c cs m e f = ap (λ z. matter_of (take (suc (suc m)) (z ∷ c ∷ cs))) e ∙ ap (λ z. matter_of (take (suc (suc m)) (47 ∷ z ∷ cs))) f

pub line_comment_is : (text rest : List ℕ) (n : ℕ) → get_or text 0 0 ≡ 47 → get_or text 1 0 ≡ 47 → rest ≡ drop 2 text → n ≡ prefix_len stays rest
    → IsLongest text (record { matter = comment; size = n + 2 })
line_comment_is [] rest n e f after run = absurd (omega (arith, e))
line_comment_is (b ∷ []) rest n e f after run = absurd (omega (arith, f))
line_comment_is (b ∷ c ∷ cs) rest n e f after run = subst (λ z. IsLongest (b ∷ c ∷ cs) (record { matter = comment; size = z })) size
    (record {
      inside = let w = run_within stays cs in omega arith;
      is = slashes b c cs (prefix_len stays cs) e f ∙ (let h = all_run stays cs in rw h refl);
      longest = past;
    })
  where
    size : suc (suc (prefix_len stays cs)) ≡ n + 2
    size = let h : n ≡ prefix_len stays cs = run ∙ ap (prefix_len stays) after in omega arith

    past : (m : ℕ) → suc (suc (prefix_len stays cs)) < m → m ≤ length (b ∷ c ∷ cs) → matter_of (take m (b ∷ c ∷ cs)) ≡ None
    past zero h k = absurd (omega arith)
    past (suc zero) h k = absurd (omega arith)
    past (suc (suc m)) h k = slashes b c cs m e f ∙ (let h = all_past stays cs m (omega arith) (omega arith) in rw h refl)

stars : (b c : ℕ) (cs : List ℕ) (m : ℕ) → b ≡ 47 → c ≡ 42 → matter_of (take (suc (suc m)) (b ∷ c ∷ cs)) ≡ (if closes (take m cs) then Some comment else None)
stars b c cs m e f = ap (λ z. matter_of (take (suc (suc m)) (z ∷ c ∷ cs))) e ∙ ap (λ z. matter_of (take (suc (suc m)) (47 ∷ z ∷ cs))) f

pub block_comment_is : (text rest : List ℕ) (n : ℕ) → get_or text 0 0 ≡ 47 → get_or text 1 0 ≡ 42 → rest ≡ drop 2 text → Some n ≡ comment_end false rest
    → IsLongest text (record { matter = comment; size = n + 2 })
block_comment_is [] rest n e f after at = absurd (omega (arith, e))
block_comment_is (b ∷ []) rest n e f after at = absurd (omega (arith, f))
block_comment_is (b ∷ c ∷ cs) rest n e f after at = subst (λ z. IsLongest (b ∷ c ∷ cs) (record { matter = comment; size = z })) size
    (record {
      inside = let w = ends.1 in omega arith;
      is = stars b c cs n e f ∙ (let h = ends.2 in rw h refl);
      longest = past;
    })
  where
    ends : Ends false cs (Some n)
    ends = subst (λ o. Ends false cs o) (sym (at ∙ ap (comment_end false) after)) (comment_ends false cs)

    size : suc (suc n) ≡ n + 2
    size = omega arith

    past : (m : ℕ) → suc (suc n) < m → m ≤ length (b ∷ c ∷ cs) → matter_of (take m (b ∷ c ∷ cs)) ≡ None
    past zero h k = absurd (omega arith)
    past (suc zero) h k = absurd (omega arith)
    past (suc (suc m)) h k = stars b c cs m e f ∙ (let h = ends.3 m (omega arith) (omega arith) in rw h refl)

-- without `*/` there is no comment, and the longest piece is the `/`
pub open_comment_is : (text rest : List ℕ) (m : ℕ) → get_or text 0 0 ≡ 47 → get_or text 1 0 ≡ 42 → rest ≡ drop 2 text → None ≡ comment_end false rest
    → 1 < m → m ≤ length text → matter_of (take m text) ≡ None
open_comment_is text rest zero e f after at h k = absurd (omega arith)
open_comment_is text rest (suc zero) e f after at h k = absurd (omega arith)
open_comment_is [] rest (suc (suc m)) e f after at h k = absurd (omega arith)
open_comment_is (b ∷ []) rest (suc (suc m)) e f after at h k = absurd (omega arith)
open_comment_is (b ∷ c ∷ cs) rest (suc (suc m)) e f after at h k = stars b c cs m e f ∙ (let h = ends m (omega arith) in rw h refl)
  where
    ends : Ends false cs None
    ends = subst (λ o. Ends false cs o) (sym (at ∙ ap (comment_end false) after)) (comment_ends false cs)

-- ---- punctuation

second_is_other : (v w : Bool) → (v && w) ≡ false → v ≡ true → w ≡ false
second_is_other v w h e = let k : (true && w) ≡ false = ap (λ z. z && w) (sym e) ∙ h in k

slash_or_mark : (b : ℕ) (bs : List ℕ) (v : Bool) → (b == 47) ≡ v → (v ≡ true → (get_or bs 0 0 == 47) ≡ false) → (v ≡ true → (get_or bs 0 0 == 42) ≡ false)
    → (if v then slash_of bs else mark_of (b ∷ bs)) ≡ mark_of (b ∷ bs)
slash_or_mark b bs false e f g = refl
slash_or_mark b [] true e f g = let is : b ≡ 47 = grind (arith, nat_tests) in ap (λ z. mark_of (z ∷ [])) (sym is)
slash_or_mark b (c ∷ cs) true e f g = let is : b ≡ 47 = grind (arith, nat_tests) in let p = f refl in let q = g refl in rw (p, q) (ap (λ z. mark_of (z ∷ c ∷ cs)) (sym is))

first_of_front : (bs : List ℕ) (k c : ℕ) → (get_or bs 0 0 == c) ≡ false → (0 == c) ≡ false → (get_or (take k bs) 0 0 == c) ≡ false
first_of_front bs zero c h z = z
first_of_front [] (suc k) c h z = z
first_of_front (b ∷ bs) (suc k) c h z = h

mark_matter : (text : List ℕ) (m : ℕ) → BeginsNoOther text → matter_of (take m text) ≡ mark_of (take m text)
mark_matter text zero h = refl
mark_matter [] (suc m) h = refl
mark_matter (b ∷ bs) (suc m) h = let p = h.blank in let q = h.letter in let r = h.digit in let s = h.quote in
    rw (p, q, r, s) (slash_or_mark b (take m bs) (b == 47) refl (λ e. first_of_front bs m 47 (second_is_other (b == 47) (get_or bs 0 0 == 47) h.line e) refl) (λ e. first_of_front bs m 42 (second_is_other (b == 47) (get_or bs 0 0 == 42) h.block e) refl))

pub mark_is : (text : List ℕ) (code : Signs.Mark) (n : ℕ) → BeginsNoOther text → IsLongestMark text code n → IsLongest text (record { matter = token (Mark code); size = n })
mark_is text code n h mark = record {
  inside = mark.inside;
  is = mark_matter text n h ∙ (let e = mark.is in rw e refl);
  longest = λ m l k. mark_matter text m h ∙ (let e = mark.longest m l k in rw e refl);
}

pub no_piece : (text : List ℕ) → BeginsNoOther text → IsNoMark text → (m : ℕ) → m ≤ length text → matter_of (take m text) ≡ None
no_piece text h none m k = mark_matter text m h ∙ (let e = none m k in rw e refl)
