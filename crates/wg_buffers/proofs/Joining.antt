-- Reads and writes of words in pages.
use Rattle.std.proofs.Common.{◌≡◌, ◌≢◌, ℕ, zero, suc, ◌+◌, ◌-◌, ◌*◌, ◌/◌, ◌%◌, ◌^◌, ◌<◌, ◌≤◌, min, All, List, [], ◌∷◌, length, take, get_or, set, replicate, refl, sym, ◌∙◌, ap, subst, arith, inl, inr, length-append}
use Rattle.std.proofs.lemmas.Bool.{cases_lt}
use Rattle.std.proofs.lemmas.Bool.Decides.{eqb_tells}
use Rattle.std.proofs.lemmas.List.{length-set, length-take, get_or-take, get_or_append_left, get_or-append_right, get_or-set_same, get_or-set_other, set_past, set-get_or, ext_get_or, length-replicate, get_or-replicate}
use Rattle.std.proofs.lemmas.List.Elements.{All-tail, All-set}
use Rattle.wg_buffers.proofs.Lists.{set_again, same_read}
use Rattle.wg_machine.specs.declared.memory.Write.{Write}
use Rattle.wg_machine.specs.declared.memory.Write.TheVariants.{Set, Add}
use Rattle.wg_buffers.specs.Pages.{joined, ArePages, word_written, target_word, buffer_written, page_written, IsOnPage}

abbrev pub IsWhole : List ℕ → Type 0
IsWhole page = length page ≡ 256

pub length-joined : (pages : List (List ℕ)) (n : ℕ) → All IsWhole pages → n ≤ 256 * length pages → length (joined pages n) ≡ n
length-joined [] n whole enough = omega (arith, enough)
length-joined (page ∷ pages) n whole enough =
    omega (arith, length-append (take n page) (joined pages (n - 256)), length-take n page, whole 0 [] (omega arith), length-joined pages (n - 256) (All-tail IsWhole page pages whole) (omega (arith, enough)))

at_place : (pages : List (List ℕ)) (n k j : ℕ) → All IsWhole pages → n ≤ 256 * length pages → j < 256 → 256 * k + j < n
    → get_or (joined pages n) (256 * k + j) 0 ≡ get_or (get_or pages k []) j 0
at_place [] n k j whole enough few below = absurd (omega (arith, enough, below))
at_place (page ∷ pages) n zero j whole enough few below =
    let shown : length (take n page) ≡ min n 256 = omega (arith, length-take n page, whole 0 [] (omega arith)) in
    let e : 256 * 0 + j ≡ j = omega arith in
    rw e (get_or_append_left (take n page) (joined pages (n - 256)) 0 j (omega (arith, shown, few, below)) ∙ get_or-take n page j 0 (omega (arith, below)))
at_place (page ∷ pages) n (suc k) j whole enough few below =
    let shown : length (take n page) ≡ 256 = omega (arith, length-take n page, whole 0 [] (omega arith), below) in
    let e : 256 * suc k + j - 256 ≡ 256 * k + j = omega arith in
    get_or-append_right (take n page) (joined pages (n - 256)) 256 (256 * suc k + j) 0 shown (omega arith)
    ∙ rw e (at_place pages (n - 256) k j (All-tail IsWhole page pages whole) (omega (arith, enough)) few (omega (arith, below)))

pub word_is : (pages : List (List ℕ)) (n w : ℕ) → ArePages pages n → w < n → get_or (joined pages n) w 0 ≡ get_or (get_or pages (w / 256) []) (w % 256) 0
word_is pages n w are below =
    let e : 256 * (w / 256) + w % 256 ≡ w = omega arith in
    let P : ℕ → Type 0 = λ x. get_or (joined pages n) x 0 ≡ get_or (get_or pages (w / 256) []) (w % 256) 0 in
    subst P e (at_place pages n (w / 256) (w % 256) are.whole are.enough (omega arith) (omega (arith, e, below)))

-- a page that has its words replaced by as many
pub still_pages : (pages : List (List ℕ)) (n k : ℕ) (page : List ℕ) → ArePages pages n → length page ≡ 256 → ArePages (set pages k page) n
still_pages pages n k page are e =
    record {
      whole = All-set IsWhole pages k page e are.whole;
      enough = omega (arith, length-set pages k page, are.enough);
      small = are.small;
    }

pub page_length : (pages : List (List ℕ)) (n k : ℕ) → ArePages pages n → k < length pages → length (get_or pages k []) ≡ 256
page_length pages n k are within = are.whole k [] within

-- the pages with a word set
abbrev pub with_set : List (List ℕ) → ℕ → ℕ → List (List ℕ)
with_set pages w v = set pages (w / 256) (set (get_or pages (w / 256) []) (w % 256) v)

set_pages : (pages : List (List ℕ)) (n w v : ℕ) → ArePages pages n → w / 256 < length pages → ArePages (with_set pages w v) n
set_pages pages n w v are within =
    let page = get_or pages (w / 256) [] in
    still_pages pages n (w / 256) (set page (w % 256) v) are (length-set page (w % 256) v ∙ page_length pages n (w / 256) are within)

same_word : (pages : List (List ℕ)) (n w v : ℕ) → ArePages pages n → w / 256 < length pages → w < n
    → get_or (get_or (with_set pages w v) (w / 256) []) (w % 256) 0 ≡ v
same_word pages n w v are within below =
    let page = get_or pages (w / 256) [] in
    rw (get_or-set_same pages (w / 256) (set page (w % 256) v) [] within)
    (get_or-set_same page (w % 256) v 0 (omega (arith, page_length pages n (w / 256) are within)))

other_word : (pages : List (List ℕ)) (n w v i : ℕ) → w / 256 < length pages → (i ≡ w → ⊥)
    → get_or (get_or (with_set pages w v) (i / 256) []) (i % 256) 0 ≡ get_or (get_or pages (i / 256) []) (i % 256) 0
other_word pages n w v i within differs =
    let page = get_or pages (w / 256) [] in
    elim (eqb_tells (i / 256) (w / 256)) [
      | inl same ↦
          let apart : i % 256 ≢ w % 256 = λ e. differs (omega (arith, e, same.1)) in
          rw (same.1, get_or-set_same pages (w / 256) (set page (w % 256) v) [] within)
          (get_or-set_other page (w % 256) (i % 256) v 0 apart)
      | inr other ↦ rw (get_or-set_other pages (w / 256) (i / 256) (set page (w % 256) v) [] other.1) refl
    ]

each_word : (pages : List (List ℕ)) (n w v i : ℕ) → ArePages pages n → w / 256 < length pages → i < n
    → get_or (joined (with_set pages w v) n) i 0 ≡ get_or (set (joined pages n) w v) i 0
each_word pages n w v i are within below =
    let read = word_is (with_set pages w v) n i (set_pages pages n w v are within) below in
    let size = length-joined pages n are.whole are.enough in
    elim (eqb_tells i w) [
      | inl same ↦
          let here : w < n = omega (arith, same.1, below) in
          let new : get_or (joined (with_set pages w v) n) w 0 ≡ v =
          word_is (with_set pages w v) n w (set_pages pages n w v are within) here ∙ same_word pages n w v are within here in
          rw same.1 (new ∙ sym (get_or-set_same (joined pages n) w v 0 (omega (arith, size, here))))
      | inr other ↦
          read ∙ other_word pages n w v i within other.1 ∙ sym (word_is pages n i are below)
          ∙ sym (get_or-set_other (joined pages n) w i v 0 other.1)
    ]

-- a word set on its page is set in the whole
pub word_set : (pages : List (List ℕ)) (n w v : ℕ) → ArePages pages n → w / 256 < length pages
    → joined (with_set pages w v) n ≡ set (joined pages n) w v
word_set pages n w v are within =
    let new = set_pages pages n w v are within in
    let size = length-joined (with_set pages w v) n new.whole new.enough in
    let old = length-joined pages n are.whole are.enough in
    ext_get_or 0 (joined (with_set pages w v) n) (set (joined pages n) w v) (omega (arith, size, old, length-set (joined pages n) w v))
    (λ i below. each_word pages n w v i are within (omega (arith, size, below)))

-- one write to a page
one_written : (pages : List (List ℕ)) (n k : ℕ) (w : Write) → ArePages pages n → k < length pages → IsOnPage k w
    → joined (set pages k (word_written (get_or pages k []) (target_word w % 256) w)) n ≡ word_written (joined pages n) (target_word w) w
one_written pages n k (Set b w v) are within on =
    let P : ℕ → Type 0 = λ x. joined (set pages x (set (get_or pages x []) (w % 256) v)) n ≡ set (joined pages n) w v in
    subst P on (word_set pages n w v are (omega (arith, on, within)))
one_written pages n k (Add b w v) are within on =
    elim (cases_lt w n) [
      | inl below ↦
          let x = (get_or (get_or pages (w / 256) []) (w % 256) 0 + v) % 2 ^ 32 in
          let P : ℕ → Type 0 = λ y. joined (set pages y (set (get_or pages y []) (w % 256) ((get_or (get_or pages y []) (w % 256) 0 + v) % 2 ^ 32))) n ≡ set (joined pages n) w ((get_or (joined pages n) w 0 + v) % 2 ^ 32) in
          subst P on (rw (word_is pages n w are below) (word_set pages n w x are (omega (arith, on, within))))
      | inr past ↦
          let x = (get_or (get_or pages (w / 256) []) (w % 256) 0 + v) % 2 ^ 32 in
          let size = length-joined pages n are.whole are.enough in
          let P : ℕ → Type 0 = λ y. joined (set pages y (set (get_or pages y []) (w % 256) ((get_or (get_or pages y []) (w % 256) 0 + v) % 2 ^ 32))) n ≡ set (joined pages n) w ((get_or (joined pages n) w 0 + v) % 2 ^ 32) in
          subst P on (word_set pages n w x are (omega (arith, on, within)) ∙ set_past (joined pages n) w x (omega (arith, size, past))
          ∙ sym (set_past (joined pages n) w ((get_or (joined pages n) w 0 + v) % 2 ^ 32) (omega (arith, size, past))))
    ]

word_length : (words : List ℕ) (at : ℕ) (w : Write) → length (word_written words at w) ≡ length words
word_length words at (Set b w v) = length-set words at v
word_length words at (Add b w v) = length-set words at ((get_or words at 0 + v) % 2 ^ 32)

pub page_keeps : (words : List ℕ) (ws : List Write) → length (page_written words ws) ≡ length words
page_keeps words [] = refl
page_keeps words (w ∷ ws) = page_keeps (word_written words (target_word w % 256) w) ws ∙ word_length words (target_word w % 256) w

-- all writes to a page
pub all_on_page : (ws : List Write) (pages : List (List ℕ)) (n k : ℕ) → ArePages pages n → k < length pages → All (IsOnPage k) ws
    → joined (set pages k (page_written (get_or pages k []) ws)) n ≡ buffer_written (joined pages n) ws
all_on_page [] pages n k are within on = ap (λ ps. joined ps n) (set-get_or pages k [])
all_on_page (w ∷ ws) pages n k are within on =
    let q = word_written (get_or pages k []) (target_word w % 256) w in
    let next = set pages k q in
    let first = one_written pages n k w are within (on 0 w (omega arith)) in
    let next_are = still_pages pages n k q are (word_length (get_or pages k []) (target_word w % 256) w ∙ page_length pages n k are within) in
    let rest = all_on_page ws next n k next_are (omega (arith, length-set pages k q, within)) (All-tail (IsOnPage k) w ws on) in
    let same : get_or next k [] ≡ q = get_or-set_same pages k q [] within in
    let again : set next k (page_written q ws) ≡ set pages k (page_written q ws) = set_again pages k q (page_written q ws) in
    sym (ap (λ ps. joined ps n) again) ∙ ap (λ p. joined (set next k (page_written p ws)) n) (sym same) ∙ rest ∙ ap (λ ws'. buffer_written ws' ws) first

-- writes past the end
pub all_past : (ws : List Write) (pages : List (List ℕ)) (n k : ℕ) → ArePages pages n → length pages ≤ k → All (IsOnPage k) ws
    → buffer_written (joined pages n) ws ≡ joined pages n
all_past [] pages n k are past on = refl
all_past (w ∷ ws) pages n k are past on =
    ap (λ words. buffer_written words ws) (nothing w (on 0 w (omega arith))) ∙ all_past ws pages n k are past (All-tail (IsOnPage k) w ws on)
  where
    nothing : (w : Write) → IsOnPage k w → word_written (joined pages n) (target_word w) w ≡ joined pages n
    nothing (Set b w v) e = set_past (joined pages n) w v (omega (arith, length-joined pages n are.whole are.enough, e, past, are.enough))
    nothing (Add b w v) e = set_past (joined pages n) w ((get_or (joined pages n) w 0 + v) % 2 ^ 32) (omega (arith, length-joined pages n are.whole are.enough, e, past, are.enough))

abbrev blank : List ℕ
blank = replicate 256 0

-- as many blank pages as hold a length
pub blank_pages : (count n : ℕ) → n ≤ 256 * count → n < 2 ^ 32 → ArePages (replicate count (replicate 256 0)) n
blank_pages count n enough small =
    record {
      whole = λ k d h. let e = get_or-replicate count k blank d (omega (arith, h, length-replicate count blank)) in rw e (length-replicate {A = ℕ} 256 0);
      enough = omega (arith, enough, length-replicate count blank);
      small = small;
    }

pub blank_words : (count n : ℕ) → n ≤ 256 * count → n < 2 ^ 32 → joined (replicate count (replicate 256 0)) n ≡ replicate n 0
blank_words count n enough small =
    let are = blank_pages count n enough small in
    let size = length-joined (replicate count blank) n are.whole are.enough in
    ext_get_or 0 (joined (replicate count blank) n) (replicate n 0) (omega (arith, size, length-replicate {A = ℕ} n 0))
    (λ i below. let within : i < n = omega (arith, size, below) in
    word_is (replicate count blank) n i are within
    ∙ rw (get_or-replicate count (i / 256) blank [] (omega (arith, enough, within))) (get_or-replicate {A = ℕ} 256 (i % 256) 0 0 (omega arith))
    ∙ sym (get_or-replicate {A = ℕ} n i 0 0 within))

pub page_is : (pages : List (List ℕ)) (k : ℕ) (page : List ℕ) → k < length pages → page ≡ get_or pages k page → page ≡ get_or pages k []
page_is pages k page within is = is ∙ same_read pages k page [] within

pub read_word : (pages : List (List ℕ)) (n w : ℕ) (page : List ℕ) → ArePages pages n → w < n → page ≡ get_or pages (w / 256) page
    → get_or page (w % 256) 0 ≡ get_or (joined pages n) w 0
read_word pages n w page are below is =
    ap (λ (p : List ℕ). get_or p (w % 256) 0) (page_is pages (w / 256) page (omega (arith, are.enough, below)) is) ∙ sym (word_is pages n w are below)

pub stored_word : (pages : List (List ℕ)) (n w v : ℕ) (old new : List ℕ) → ArePages pages n → w < n
    → old ≡ get_or pages (w / 256) old → new ≡ set old (w % 256) v → joined (set pages (w / 256) new) n ≡ set (joined pages n) w v
stored_word pages n w v old new are below is e =
    let within : w / 256 < length pages = omega (arith, are.enough, below) in
    let same = page_is pages (w / 256) old within is in
    ap (λ (p : List ℕ). joined (set pages (w / 256) p) n) (e ∙ ap (λ (p : List ℕ). set p (w % 256) v) same) ∙ word_set pages n w v are within

pub stored_page : (pages : List (List ℕ)) (n k : ℕ) (ws : List Write) (old new : List ℕ) → ArePages pages n → k < length pages → All (IsOnPage k) ws
    → old ≡ get_or pages k old → new ≡ page_written old ws → joined (set pages k new) n ≡ buffer_written (joined pages n) ws
stored_page pages n k ws old new are within on is e =
    let same = page_is pages k old within is in
    ap (λ (p : List ℕ). joined (set pages k p) n) (e ∙ ap (λ (p : List ℕ). page_written p ws) same) ∙ all_on_page ws pages n k are within on

pub stored_pages : (pages : List (List ℕ)) (n k : ℕ) (ws : List Write) (old new : List ℕ) → ArePages pages n → k < length pages
    → old ≡ get_or pages k old → new ≡ page_written old ws → ArePages (set pages k new) n
stored_pages pages n k ws old new are within is e =
    let same = page_is pages k old within is in
    still_pages pages n k new are (ap (λ (p : List ℕ). length p) e ∙ page_keeps old ws ∙ ap (λ (p : List ℕ). length p) same ∙ page_length pages n k are within)
