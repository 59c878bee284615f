-- Words after writes.
use Rattle.std.proofs.Common.{◌≡◌, ℕ, zero, suc, ◌+◌, ◌%◌, ◌^◌, ◌<◌, ◌≤◌, Bool, true, false, ◌&&◌, List, [], ◌∷◌, ◌++◌, length, map, refl, ap, sym, ◌∙◌, subst, arith}
use Rattle.std.specs.Prelude.{if◌then◌else◌, ◌==◌, IsTrue, nat_lt, slice_index, slice_set}
use Rattle.std.specs.List.{list_all}
use Rattle.std.proofs.lemmas.Bool.{and_parts}
use Rattle.std.proofs.lemmas.Bool.Decides.{nat_tests, Decides-eqb}
use Rattle.std.proofs.lemmas.List.{length-set, get_or-set_same, get_or-set_other}
use Rattle.wg_machine.specs.declared.memory.Seen.{Seen}
use Rattle.wg_machine.specs.declared.memory.Write.{Write}
use Rattle.wg_machine.specs.declared.memory.Write.TheVariants.{Set, Add}
use Rattle.wg_machine.specs.Agreement.{Agrees, has_seen}
use Rattle.wg_machine.specs.Buffers.{Buffers, lengths_of, buffer_at, word_at, with_word, written, all_written}

-- the value of a word after one write
abbrev value_after : ℕ → ℕ → ℕ → Write → ℕ
value_after b w start (Set c x value) = if (c == b) && (x == w) then value else start
value_after b w start (Add c x value) = if (c == b) && (x == w) then (start + value) % 2 ^ 32 else start

-- the value of a word in range after writes
abbrev value_after_all : ℕ → ℕ → ℕ → List Write → ℕ
value_after_all b w start [] = start
value_after_all b w start (x ∷ xs) = value_after_all b w (value_after b w start x) xs

pub written_append : (m : Buffers) (ws : List Write) (w : Write) → all_written m (ws ++ w ∷ []) ≡ written (all_written m ws) w
written_append m [] w = refl
written_append m (x ∷ ws) w = written_append (written m x) ws w

index_past : (xs : List ℕ) (w : ℕ) → length xs ≤ w → slice_index xs w ≡ 0
index_past [] w h = refl
index_past (x ∷ xs) zero h = absurd (omega arith)
index_past (x ∷ xs) (suc w) h = index_past xs w (omega arith)

buffer_set_length : (m : Buffers) (c b : ℕ) (y : List ℕ) → length y ≡ length (buffer_at m c) → length (buffer_at (slice_set m c y) b) ≡ length (buffer_at m b)
buffer_set_length [] c b y h = refl
buffer_set_length (z ∷ m) zero zero y h = h
buffer_set_length (z ∷ m) zero (suc b) y h = refl
buffer_set_length (z ∷ m) (suc c) zero y h = refl
buffer_set_length (z ∷ m) (suc c) (suc b) y h = buffer_set_length m c b y h

buffer_set_same : (m : Buffers) (b w : ℕ) (y : List ℕ) → w < length (buffer_at m b) → buffer_at (slice_set m b y) b ≡ y
buffer_set_same [] b w y h = absurd (omega (arith, h))
buffer_set_same (z ∷ m) zero w y h = refl
buffer_set_same (z ∷ m) (suc b) w y h = buffer_set_same m b w y h

buffer_set_other : (m : Buffers) (c b : ℕ) (y : List ℕ) → (c == b) ≡ false → buffer_at (slice_set m c y) b ≡ buffer_at m b
buffer_set_other [] c b y h = refl
buffer_set_other (z ∷ m) zero zero y h = absurd (cc)
buffer_set_other (z ∷ m) zero (suc b) y h = refl
buffer_set_other (z ∷ m) (suc c) zero y h = refl
buffer_set_other (z ∷ m) (suc c) (suc b) y h = buffer_set_other m c b y (let e : (c == b) ≡ (suc c == suc b) = grind (arith, nat_tests) in e ∙ h)

with_word_length : (m : Buffers) (c x v b : ℕ) → length (buffer_at (with_word m c x v) b) ≡ length (buffer_at m b)
with_word_length m c x v b = buffer_set_length m c b (slice_set (buffer_at m c) x v) (length-set (buffer_at m c) x v)

-- one word written
with_word_at : (m : Buffers) (c x v b w : ℕ) → w < length (buffer_at m b) → word_at (with_word m c x v) b w ≡ (if (c == b) && (x == w) then v else word_at m b w)
with_word_at m c x v b w h = choice (c == b) refl
  where
    inner : (d : Bool) → (x == w) ≡ d → slice_index (slice_set (buffer_at m b) x v) w ≡ (if d then v else word_at m b w)
    inner true f = let e = (Decides-eqb x w).0 f in subst (λ (k : ℕ). slice_index (slice_set (buffer_at m b) k v) w ≡ v) (sym e) (get_or-set_same (buffer_at m b) w v 0 h)
    inner false f = get_or-set_other (buffer_at m b) x w v 0 (λ q. (let t = (Decides-eqb x w).1 (sym q) in absurd (cc)))

    choice : (d : Bool) → (c == b) ≡ d → word_at (with_word m c x v) b w ≡ (if d && (x == w) then v else word_at m b w)
    choice true f =
        let e = (Decides-eqb c b).0 f in
        subst (λ (k : ℕ). word_at (with_word m k x v) b w ≡ (if (x == w) then v else word_at m b w)) (sym e)
        (ap (λ (ws : List ℕ). slice_index ws w) (buffer_set_same m b w (slice_set (buffer_at m b) x v) h) ∙ inner (x == w) refl)
    choice false f = ap (λ (ws : List ℕ). slice_index ws w) (buffer_set_other m c b (slice_set (buffer_at m c) x v) f)

written_length : (m : Buffers) (x : Write) (b : ℕ) → length (buffer_at (written m x) b) ≡ length (buffer_at m b)
written_length m (Set c x v) b = with_word_length m c x v b
written_length m (Add c x v) b = with_word_length m c x ((word_at m c x + v) % 2 ^ 32) b

all_written_length : (m : Buffers) (ws : List Write) (b : ℕ) → length (buffer_at (all_written m ws) b) ≡ length (buffer_at m b)
all_written_length m [] b = refl
all_written_length m (x ∷ ws) b = all_written_length (written m x) ws b ∙ written_length m x b

written_at : (m : Buffers) (x : Write) (b w : ℕ) → w < length (buffer_at m b) → word_at (written m x) b w ≡ value_after b w (word_at m b w) x
written_at m (Set c x v) b w h = with_word_at m c x v b w h
written_at m (Add c x v) b w h = with_word_at m c x ((word_at m c x + v) % 2 ^ 32) b w h ∙ choice (c == b) (x == w) refl refl
  where
    choice : (d e : Bool) → (c == b) ≡ d → (x == w) ≡ e → (if d && e then (word_at m c x + v) % 2 ^ 32 else word_at m b w) ≡ (if d && e then (word_at m b w + v) % 2 ^ 32 else word_at m b w)
    choice true true p q = let i = (Decides-eqb c b).0 p in let j = (Decides-eqb x w).0 q in cc
    choice true false p q = refl
    choice false e p q = refl

-- a word in range, after writes
word_after_writes : (m : Buffers) (ws : List Write) (b w : ℕ) → w < length (buffer_at m b) → word_at (all_written m ws) b w ≡ value_after_all b w (word_at m b w) ws
word_after_writes m [] b w h = refl
word_after_writes m (x ∷ ws) b w h =
    let n = written_length m x b in
    word_after_writes (written m x) ws b w (omega arith) ∙ ap (λ (k : ℕ). value_after_all b w k ws) (written_at m x b w h)

-- a word out of range is 0
word_past : (m : Buffers) (ws : List Write) (b w : ℕ) → length (buffer_at m b) ≤ w → word_at (all_written m ws) b w ≡ 0
word_past m ws b w h = let n = all_written_length m ws b in index_past (buffer_at (all_written m ws) b) w (omega arith)

-- the words of a buffer are as many as its length says
pub length_at : (m : Buffers) (b : ℕ) → length (buffer_at m b) ≡ slice_index (map (λ (x : List ℕ). length x) m) b
length_at [] b = refl
length_at (x ∷ m) zero = refl
length_at (x ∷ m) (suc b) = length_at m b

-- the last logged word
last_logged : (m : Buffers) (log : List Seen) (s : Seen) → IsTrue (list_all (has_seen m) (log ++ s ∷ [])) → word_at m s.buffer s.word ≡ s.value
last_logged m [] s h = let e : (word_at m s.buffer s.word == s.value) ≡ true = grind (arith, nat_tests) in (Decides-eqb (word_at m s.buffer s.word) s.value).0 e
last_logged m (x ∷ log) s h = let p = and_parts (has_seen m x) (list_all (has_seen m) (log ++ s ∷ [])) h in last_logged m log s p.1

same_length : (v m : Buffers) (b : ℕ) → lengths_of m ≡ lengths_of v → length (buffer_at m b) ≡ length (buffer_at v b)
same_length v m b h = length_at m b ∙ ap (λ (ns : List ℕ). slice_index ns b) h ∙ sym (length_at v b)

-- a word that two starts of the same lengths share is shared after the same writes
same_after : (v m : Buffers) (ws : List Write) (b w : ℕ) → lengths_of m ≡ lengths_of v → word_at m b w ≡ word_at v b w → word_at (all_written v ws) b w ≡ word_at (all_written m ws) b w
same_after v m ws b w lengths word = choice (nat_lt w (length (buffer_at v b))) refl
  where
    choice : (d : Bool) → nat_lt w (length (buffer_at v b)) ≡ d → word_at (all_written v ws) b w ≡ word_at (all_written m ws) b w
    choice true t =
        let less : w < length (buffer_at v b) = grind (arith, nat_tests) in
        let n = same_length v m b lengths in
        word_after_writes v ws b w less ∙ ap (λ (k : ℕ). value_after_all b w k ws) (sym word) ∙ sym (word_after_writes m ws b w (omega arith))
    choice false t =
        let most : length (buffer_at v b) ≤ w = grind (arith, nat_tests) in
        let n = same_length v m b lengths in
        word_past v ws b w most ∙ sym (word_past m ws b w (omega arith))

-- a word that was logged as it was at the start reads as it is now, for each start that fits the log
pub read_is : (v m now : Buffers) (old new : List Seen) (ws : List Write) (b w value : ℕ) → now ≡ all_written v ws → value ≡ word_at now b w
    → new ≡ old ++ record { buffer = b; word = w; value = word_at v b w } ∷ [] → Agrees (lengths_of v) new m → value ≡ word_at (all_written m ws) b w
read_is v m now old new ws b w value is found log agree =
    let s : Seen = record { buffer = b; word = w; value = word_at v b w } in
    let fits = subst (λ (l : List Seen). IsTrue (list_all (has_seen m) l)) log agree.log in
    found ∙ ap (λ (k : Buffers). word_at k b w) is ∙ same_after v m ws b w agree.lengths (last_logged m old s fits)

-- one more word that was seen
pub seen_more : (v : Buffers) (log : List Seen) (b w : ℕ) → IsTrue (list_all (has_seen v) log) → IsTrue (list_all (has_seen v) (log ++ record { buffer = b; word = w; value = word_at v b w } ∷ []))
seen_more v [] b w h = let e : (word_at v b w == word_at v b w) ≡ true = grind (arith, nat_tests) in ap (λ (d : Bool). d && true) e
seen_more v (x ∷ log) b w h =
    let p = and_parts (has_seen v x) (list_all (has_seen v) log) h in
    ap (λ (d : Bool). d && list_all (has_seen v) (log ++ record { buffer = b; word = w; value = word_at v b w } ∷ [])) p.0 ∙ seen_more v log b w p.1
