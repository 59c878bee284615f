-- What stays sound where a word is seen and where one is written.
use Rattle.std.proofs.Common.{◌≡◌, ℕ, ◌+◌, ◌%◌, ◌^◌, ◌<◌, ◌≤◌, Bool, true, false, cond, ◌&&◌, List, [], ◌∷◌, ◌++◌, length, refl, ap, sym, ◌∙◌, subst, arith}
use Rattle.std.specs.Prelude.{if◌then◌else◌, ◌==◌, nat_lt, slice_index, count_by, IsTrue, Result, Ok, Err, OnOk, OnErr}
use Rattle.std.specs.List.{list_all}
use Rattle.std.proofs.lemmas.Bool.{and_parts}
use Rattle.std.proofs.lemmas.Bool.Decides.{nat_tests, Decides-eqb}
use Rattle.std.proofs.lemmas.List.Folds.{list_all-append}
use Rattle.std.proofs.lemmas.List.Sums.{sum_by-append, sum_by-cons}
use Rattle.wg_machine.specs.declared.memory.Seen.{Seen}
use Rattle.wg_machine.specs.declared.memory.Write.{Write}
use Rattle.wg_machine.specs.declared.memory.Write.TheVariants.{Set, Add}
use Rattle.wg_machine.specs.Agreement.{Agrees, has_seen}
use Rattle.wg_machine.specs.Buffers.{Buffers, lengths_of, buffer_at, word_at, written, all_written}
use Rattle.wg_machine.specs.Effects.{Writes}
use Rattle.wg_guess.specs.declared.touched.WordPlace.{WordPlace}
use Rattle.wg_guess.specs.declared.touched.WordNow.{WordNow}
use Rattle.wg_guess.specs.declared.touched.WordNow.TheVariants.{Known, Added}
use Rattle.wg_guess.specs.Logs.{is_seen, is_inside, IsLoggedOnce}
use Rattle.wg_guess.specs.Knowing.{is_place, now_of, now_after, written_place, Noted, Holds, IsChangedAt, IsSound, IsWithin, trace_of}
use Rattle.wg_guess.proofs.Places.{same_place}
use Rattle.wg_guess.proofs.Words.{written_append, written_other, written_past, with_word_here, length_after, length_at}

all_front : (t : Seen → Bool) (log : List Seen) (s : Seen) → IsTrue (list_all t (log ++ s ∷ [])) → IsTrue (list_all t log)
all_front t log s h = (and_parts (list_all t log) (list_all t (s ∷ [])) (sym (list_all-append t log (s ∷ [])) ∙ h)).0

all_last : (t : Seen → Bool) (log : List Seen) (s : Seen) → IsTrue (list_all t (log ++ s ∷ [])) → t s ≡ true
all_last t log s h = (and_parts (t s) true ((and_parts (list_all t log) (list_all t (s ∷ [])) (sym (list_all-append t log (s ∷ [])) ∙ h)).1)).0

all_more : (t : Seen → Bool) (log : List Seen) (s : Seen) → IsTrue (list_all t log) → t s ≡ true → IsTrue (list_all t (log ++ s ∷ []))
all_more t log s h e = list_all-append t log (s ∷ []) ∙ ap (λ d. d && (t s && true)) h ∙ ap (λ d. d && true) e

count_more : (t : Seen → Bool) (log : List Seen) (s : Seen) → count_by t (log ++ s ∷ []) ≡ count_by t log + cond (t s) 1 0
count_more t log s =
    let a = sum_by-append (λ (x : Seen). cond (t x) 1 0) log (s ∷ []) in
    let c = sum_by-cons (λ (x : Seen). cond (t x) 1 0) s [] in
    omega (arith, a, c)

-- start buffers that agree with a longer log agree with its front, and have its last word
agrees_front : (sizes : List ℕ) (log : List Seen) (s : Seen) (start : Buffers) → Agrees sizes (log ++ s ∷ []) start → Agrees sizes log start
agrees_front sizes log s start agree = record { lengths = agree.lengths; log = all_front (has_seen start) log s agree.log }

last_seen : (sizes : List ℕ) (log : List Seen) (s : Seen) (start : Buffers) → Agrees sizes (log ++ s ∷ []) start → word_at start s.buffer s.word ≡ s.value
last_seen sizes log s start agree = (Decides-eqb (word_at start s.buffer s.word) s.value).0 (all_last (has_seen start) log s agree.log)

-- what is known of other words holds still
seen_elsewhere : (over : Buffers) (log : List Seen) (writes : List Write) (p q : WordPlace) (value : ℕ) (now : WordNow) → is_place p q ≡ false → Holds over log writes q now → Holds over (log ++ record { buffer = p.buffer; word = p.word; value = value } ∷ []) writes q now
seen_elsewhere over log writes p q value now apart h = record {
  known = λ v e start agree. h.known v e start (agrees_front (lengths_of over) log _ start agree);
  unlogged = λ sum e.
      (count_more (is_seen q.buffer q.word) log (record { buffer = p.buffer; word = p.word; value = value })
      ∙ ap (λ d. count_by (is_seen q.buffer q.word) log + cond d 1 0) apart ∙ omega (arith, h.unlogged sum e));
  added = h.added;
}

-- a word that was at most added to is known once it is seen
seen_here : (over : Buffers) (log : List Seen) (writes : List Write) (p : WordPlace) (value sum : ℕ) → value < 2 ^ 32 → Holds over log writes p (Added sum) → Holds over (log ++ record { buffer = p.buffer; word = p.word; value = value } ∷ []) writes p (Known ((value + sum) % 2 ^ 32))
seen_here over log writes p value sum small h = record {
  known = λ v e start agree.
      (let last : word_at start p.buffer p.word ≡ value = last_seen (lengths_of over) log (record { buffer = p.buffer; word = p.word; value = value }) start agree in
      h.added sum refl start agree.lengths (omega arith) ∙ ap (λ n. (n + sum) % 2 ^ 32) last ∙ same_known ((value + sum) % 2 ^ 32) v e);
  unlogged = λ s e. absurd (cc);
  added = λ s e. absurd (cc);
}
  where
    same_known : (a b : ℕ) → Known a ≡ Known b → a ≡ b
    same_known a b e = cc

-- a log's words are each logged at most once still
once_more : (log : List Seen) (p : WordPlace) (value : ℕ) → IsLoggedOnce log → count_by (is_seen p.buffer p.word) log ≡ 0 → IsLoggedOnce (log ++ record { buffer = p.buffer; word = p.word; value = value } ∷ [])
once_more log p value once none = λ b w. choice b w (is_seen b w s) refl
  where
    s : Seen
    s = record { buffer = p.buffer; word = p.word; value = value }

    choice : (b w : ℕ) (d : Bool) → is_seen b w s ≡ d → count_by (is_seen b w) (log ++ s ∷ []) ≤ 1
    choice b w true e =
        let both = and_parts (p.buffer == b) (p.word == w) e in
        let i = (Decides-eqb p.buffer b).0 both.0 in
        let j = (Decides-eqb p.word w).0 both.1 in
        let zero_now : count_by (is_seen b w) log ≡ 0 = subst (λ n. count_by (is_seen b n) log ≡ 0) j (subst (λ n. count_by (is_seen n p.word) log ≡ 0) i none) in
        let more : count_by (is_seen b w) (log ++ s ∷ []) ≡ count_by (is_seen b w) log + 1 = count_more (is_seen b w) log s ∙ ap (λ d. count_by (is_seen b w) log + cond d 1 0) e in
        omega (arith, more, zero_now)
    choice b w false e =
        let more : count_by (is_seen b w) (log ++ s ∷ []) ≡ count_by (is_seen b w) log + 0 = count_more (is_seen b w) log s ∙ ap (λ d. count_by (is_seen b w) log + cond d 1 0) e in
        omega (arith, more, once b w)

eqb_same : (n : ℕ) → (n == n) ≡ true
eqb_same n = grind (arith, nat_tests)

less : (a b : ℕ) → a < b → nat_lt a b ≡ true
less a b h = grind (arith, nat_tests)

-- what is known stays sound where a word that was at most added to is seen
pub seen_sound : (over : Buffers) (log more : List Seen) (writes : List Write) (words new : Noted) (p : WordPlace) (value sum : ℕ) → value < 2 ^ 32 → value ≡ word_at over p.buffer p.word
    → IsWithin over p → now_of words p ≡ Added sum → more ≡ log ++ record { buffer = p.buffer; word = p.word; value = value } ∷ [] → IsChangedAt p (Known ((value + sum) % 2 ^ 32)) words new
    → IsSound over log writes words → IsSound over more writes new
seen_sound over log more writes words new p value sum small is within was grown changed sound = subst (λ (l : List Seen). IsSound over l writes new) (sym grown) (record {
  logged = all_more (has_seen over) log s sound.logged (ap (λ n. n == value) (sym is) ∙ eqb_same value);
  inside = all_more (is_inside (lengths_of over)) log s sound.inside (less p.word (slice_index (lengths_of over) p.buffer) (subst (λ n. p.word < n) (length_at over p.buffer) within));
  once = once_more log p value sound.once ((sound.holds p).unlogged sum was);
  holds = λ q. choice q (is_place p q) refl (changed q);
})
  where
    s : Seen
    s = record { buffer = p.buffer; word = p.word; value = value }

    choice : (q : WordPlace) (d : Bool) → is_place p q ≡ d → now_of new q ≡ (if d then Known ((value + sum) % 2 ^ 32) else now_of words q) → Holds over (log ++ s ∷ []) writes q (now_of new q)
    choice q true e is_now =
        subst (λ (r : WordPlace). Holds over (log ++ s ∷ []) writes r (now_of new q)) (same_place p q e)
        (subst (λ (n : WordNow). Holds over (log ++ s ∷ []) writes p n) (sym is_now)
        (seen_here over log writes p value sum small (subst (λ (n : WordNow). Holds over log writes p n) was (sound.holds p))))
    choice q false e is_now =
        subst (λ (n : WordNow). Holds over (log ++ s ∷ []) writes q n) (sym is_now) (seen_elsewhere over log writes p q value (now_of words q) e (sound.holds q))

-- what is known of words that a write does not go to holds still
written_elsewhere : (over : Buffers) (log : List Seen) (writes : List Write) (x : Write) (q : WordPlace) (now : WordNow) → is_place (written_place x) q ≡ false → Holds over log writes q now → Holds over log (writes ++ x ∷ []) q now
written_elsewhere over log writes x q now apart h = record {
  known = λ v e start agree. same start ∙ h.known v e start agree;
  unlogged = h.unlogged;
  added = λ sum e start lengths small. same start ∙ h.added sum e start lengths small;
}
  where
    same : (start : Buffers) → word_at (all_written start (writes ++ x ∷ [])) q.buffer q.word ≡ word_at (all_written start writes) q.buffer q.word
    same start = ap (λ (m : Buffers). word_at m q.buffer q.word) (written_append start writes x) ∙ written_other (all_written start writes) x q apart

-- a word that a write goes to
set_here : (over start : Buffers) (writes : List Write) (b w v : ℕ) → lengths_of start ≡ lengths_of over → w < length (buffer_at over b) → word_at (all_written start (writes ++ Set b w v ∷ [])) b w ≡ v
set_here over start writes b w v lengths within =
    let n = length_after over start writes b lengths in
    ap (λ (m : Buffers). word_at m b w) (written_append start writes (Set b w v)) ∙ with_word_here (all_written start writes) b w v (omega arith)

add_here : (over start : Buffers) (writes : List Write) (b w v : ℕ) → lengths_of start ≡ lengths_of over → w < length (buffer_at over b) → word_at (all_written start (writes ++ Add b w v ∷ [])) b w ≡ (word_at (all_written start writes) b w + v) % 2 ^ 32
add_here over start writes b w v lengths within =
    let n = length_after over start writes b lengths in
    ap (λ (m : Buffers). word_at m b w) (written_append start writes (Add b w v))
    ∙ with_word_here (all_written start writes) b w ((word_at (all_written start writes) b w + v) % 2 ^ 32) (omega arith)

-- what is known of it afterwards
written_here : (over : Buffers) (log : List Seen) (writes : List Write) (x : Write) (now : WordNow) → IsWithin over (written_place x) → Holds over log writes (written_place x) now → Holds over log (writes ++ x ∷ []) (written_place x) (now_after x now)
written_here over log writes (Set b w v) now within h = record {
  known = λ u e start agree. set_here over start writes b w v agree.lengths within ∙ same_known v u e;
  unlogged = λ s e. absurd (cc);
  added = λ s e. absurd (cc);
}
  where
    same_known : (a b : ℕ) → Known a ≡ Known b → a ≡ b
    same_known a b e = cc
written_here over log writes (Add b w v) (Known old) within h = record {
  known = λ u e start agree.
      add_here over start writes b w v agree.lengths within ∙ ap (λ n. (n + v) % 2 ^ 32) (h.known old refl start agree) ∙ same_known ((old + v) % 2 ^ 32) u e;
  unlogged = λ s e. absurd (cc);
  added = λ s e. absurd (cc);
}
  where
    same_known : (a b : ℕ) → Known a ≡ Known b → a ≡ b
    same_known a b e = cc
written_here over log writes (Add b w v) (Added sum) within h = record {
  known = λ u e. absurd (cc);
  unlogged = λ s e. h.unlogged sum refl;
  added = λ s e start lengths small.
      add_here over start writes b w v lengths within ∙ ap (λ n. (n + v) % 2 ^ 32) (h.added sum refl start lengths small)
      ∙ sums (word_at start b w) sum v ∙ ap (λ n. (word_at start b w + n) % 2 ^ 32) (same_added ((sum + v) % 2 ^ 32) s e);
}
  where
    same_added : (a b : ℕ) → Added a ≡ Added b → a ≡ b
    same_added a b e = cc

    sums : (a s v : ℕ) → ((a + s) % 2 ^ 32 + v) % 2 ^ 32 ≡ (a + (s + v) % 2 ^ 32) % 2 ^ 32
    sums a s v = omega arith

-- what is known stays sound where a word is written
pub written_sound : (over : Buffers) (log : List Seen) (writes more : List Write) (words new : Noted) (x : Write) → IsWithin over (written_place x) → more ≡ writes ++ x ∷ []
    → IsChangedAt (written_place x) (now_after x (now_of words (written_place x))) words new → IsSound over log writes words → IsSound over log more new
written_sound over log writes more words new x within grown changed sound = subst (λ (ws : List Write). IsSound over log ws new) (sym grown) (record {
  logged = sound.logged;
  inside = sound.inside;
  once = sound.once;
  holds = λ q. choice q (is_place (written_place x) q) refl (changed q);
})
  where
    choice : (q : WordPlace) (d : Bool) → is_place (written_place x) q ≡ d → now_of new q ≡ (if d then now_after x (now_of words (written_place x)) else now_of words q) → Holds over log (writes ++ x ∷ []) q (now_of new q)
    choice q true e is_now =
        subst (λ (r : WordPlace). Holds over log (writes ++ x ∷ []) r (now_of new q)) (same_place (written_place x) q e)
        (subst (λ (n : WordNow). Holds over log (writes ++ x ∷ []) (written_place x) n) (sym is_now) (written_here over log writes x (now_of words (written_place x)) within (sound.holds (written_place x))))
    choice q false e is_now =
        subst (λ (n : WordNow). Holds over log (writes ++ x ∷ []) q n) (sym is_now) (written_elsewhere over log writes x q (now_of words q) e (sound.holds q))

-- a fact that holds where memory was wanting, and where it was not
pub either : {T E A B C D P : Type 0} (r : Result T E) → OnOk r A → OnOk r B → OnErr r C → OnErr r D → (A → B → P) → (C → D → P) → P
either (Ok t) a b c d f k = f a b
either (Err e) a b c d f k = k c d

-- what follows where memory was not wanting
pub on_ok : {T E A B : Type 0} (r : Result T E) → OnOk r A → (A → B) → OnOk r B
on_ok (Ok t) a f = f a
on_ok (Err e) a f = tt

pub same_sound : (over : Buffers) (log more : List Seen) (writes written : List Write) (words new : Noted) → more ≡ log → written ≡ writes → new ≡ words → IsSound over log writes words → IsSound over more written new
same_sound over log more writes written words new e f h sound =
    subst (λ (l : List Seen). IsSound over l written new) (sym e) (subst (λ (ws : List Write). IsSound over log ws new) (sym f) (subst (λ (n : Noted). IsSound over log writes n) (sym h) sound))

-- a write that is kept changes the buffers
pub wrote : (over : Buffers) (log : List Seen) (writes more : List Write) (x : Write) → more ≡ writes ++ x ∷ [] → Writes (trace_of over log writes) (trace_of over log more) x
wrote over log writes more x e = λ start agree. ap (all_written start) e ∙ written_append start writes x

-- one out of range does nothing
pub wrote_past : (over : Buffers) (log : List Seen) (writes : List Write) (x : Write) → length (buffer_at over (written_place x).buffer) ≤ (written_place x).word → Writes (trace_of over log writes) (trace_of over log writes) x
wrote_past over log writes x past = λ start agree.
    (let n = length_after over start writes (written_place x).buffer agree.lengths in sym (written_past (all_written start writes) x (omega arith)))
