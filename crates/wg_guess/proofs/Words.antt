-- Words of buffers after writes.
use Rattle.std.proofs.Common.{◌≡◌, ℕ, zero, suc, ◌+◌, ◌%◌, ◌^◌, ◌<◌, ◌≤◌, Bool, true, false, ◌&&◌, List, [], ◌∷◌, ◌++◌, length, map, refl, ap, sym, ◌∙◌, subst, arith}
use Rattle.std.specs.Prelude.{if◌then◌else◌, ◌==◌, nat_lt, slice_index, slice_set}
use Rattle.std.proofs.lemmas.Bool.Decides.{nat_tests, Decides-eqb}
use Rattle.std.proofs.lemmas.List.{length-set, get_or-set_same, get_or-set_other, set_past}
use Rattle.wg_machine.specs.declared.memory.Write.{Write}
use Rattle.wg_machine.specs.declared.memory.Write.TheVariants.{Set, Add}
use Rattle.wg_machine.specs.Buffers.{Buffers, lengths_of, buffer_at, word_at, with_word, written, all_written}
use Rattle.wg_guess.specs.declared.touched.WordPlace.{WordPlace}
use Rattle.wg_guess.specs.Knowing.{is_place, written_place}

pub written_append : (m : Buffers) (ws : List Write) (w : Write) → all_written m (ws ++ w ∷ []) ≡ written (all_written m ws) w
written_append m [] w = refl
written_append m (x ∷ ws) w = written_append (written m x) ws w

pub index_past : (xs : List ℕ) (w : ℕ) → length xs ≤ w → slice_index xs w ≡ 0
index_past [] w h = refl
index_past (x ∷ xs) zero h = absurd (omega arith)
index_past (x ∷ xs) (suc w) h = index_past xs w (omega arith)

buffer_set_length : (m : Buffers) (c b : ℕ) (y : List ℕ) → length y ≡ length (buffer_at m c) → length (buffer_at (slice_set m c y) b) ≡ length (buffer_at m b)
buffer_set_length [] c b y h = refl
buffer_set_length (z ∷ m) zero zero y h = h
buffer_set_length (z ∷ m) zero (suc b) y h = refl
buffer_set_length (z ∷ m) (suc c) zero y h = refl
buffer_set_length (z ∷ m) (suc c) (suc b) y h = buffer_set_length m c b y h

buffer_set_same : (m : Buffers) (b w : ℕ) (y : List ℕ) → w < length (buffer_at m b) → buffer_at (slice_set m b y) b ≡ y
buffer_set_same [] b w y h = absurd (omega (arith, h))
buffer_set_same (z ∷ m) zero w y h = refl
buffer_set_same (z ∷ m) (suc b) w y h = buffer_set_same m b w y h

buffer_set_other : (m : Buffers) (c b : ℕ) (y : List ℕ) → (c == b) ≡ false → buffer_at (slice_set m c y) b ≡ buffer_at m b
buffer_set_other [] c b y h = refl
buffer_set_other (z ∷ m) zero zero y h = absurd (cc)
buffer_set_other (z ∷ m) zero (suc b) y h = refl
buffer_set_other (z ∷ m) (suc c) zero y h = refl
buffer_set_other (z ∷ m) (suc c) (suc b) y h = buffer_set_other m c b y (let e : (c == b) ≡ (suc c == suc b) = grind (arith, nat_tests) in e ∙ h)

with_word_length : (m : Buffers) (c x v b : ℕ) → length (buffer_at (with_word m c x v) b) ≡ length (buffer_at m b)
with_word_length m c x v b = buffer_set_length m c b (slice_set (buffer_at m c) x v) (length-set (buffer_at m c) x v)

-- one word written
with_word_at : (m : Buffers) (c x v b w : ℕ) → w < length (buffer_at m b) → word_at (with_word m c x v) b w ≡ (if (c == b) && (x == w) then v else word_at m b w)
with_word_at m c x v b w h = choice (c == b) refl
  where
    inner : (d : Bool) → (x == w) ≡ d → slice_index (slice_set (buffer_at m b) x v) w ≡ (if d then v else word_at m b w)
    inner true f = let e = (Decides-eqb x w).0 f in subst (λ (k : ℕ). slice_index (slice_set (buffer_at m b) k v) w ≡ v) (sym e) (get_or-set_same (buffer_at m b) w v 0 h)
    inner false f = get_or-set_other (buffer_at m b) x w v 0 (λ q. (let t = (Decides-eqb x w).1 (sym q) in absurd (cc)))

    choice : (d : Bool) → (c == b) ≡ d → word_at (with_word m c x v) b w ≡ (if d && (x == w) then v else word_at m b w)
    choice true f =
        let e = (Decides-eqb c b).0 f in
        subst (λ (k : ℕ). word_at (with_word m k x v) b w ≡ (if (x == w) then v else word_at m b w)) (sym e)
        (ap (λ (ws : List ℕ). slice_index ws w) (buffer_set_same m b w (slice_set (buffer_at m b) x v) h) ∙ inner (x == w) refl)
    choice false f = ap (λ (ws : List ℕ). slice_index ws w) (buffer_set_other m c b (slice_set (buffer_at m c) x v) f)

written_length : (m : Buffers) (x : Write) (b : ℕ) → length (buffer_at (written m x) b) ≡ length (buffer_at m b)
written_length m (Set c x v) b = with_word_length m c x v b
written_length m (Add c x v) b = with_word_length m c x ((word_at m c x + v) % 2 ^ 32) b

all_written_length : (m : Buffers) (ws : List Write) (b : ℕ) → length (buffer_at (all_written m ws) b) ≡ length (buffer_at m b)
all_written_length m [] b = refl
all_written_length m (x ∷ ws) b = all_written_length (written m x) ws b ∙ written_length m x b

pub length_at : (m : Buffers) (b : ℕ) → length (buffer_at m b) ≡ slice_index (map (λ (x : List ℕ). length x) m) b
length_at [] b = refl
length_at (x ∷ m) zero = refl
length_at (x ∷ m) (suc b) = length_at m b

same_length : (v m : Buffers) (b : ℕ) → lengths_of m ≡ lengths_of v → length (buffer_at m b) ≡ length (buffer_at v b)
same_length v m b h = length_at m b ∙ ap (λ (ns : List ℕ). slice_index ns b) h ∙ sym (length_at v b)

-- a word that is not set stays
with_word_other : (m : Buffers) (c x v b w : ℕ) → ((c == b) && (x == w)) ≡ false → word_at (with_word m c x v) b w ≡ word_at m b w
with_word_other m c x v b w apart = choice (nat_lt w (length (buffer_at m b))) refl
  where
    choice : (d : Bool) → nat_lt w (length (buffer_at m b)) ≡ d → word_at (with_word m c x v) b w ≡ word_at m b w
    choice true t =
        let less : w < length (buffer_at m b) = grind (arith, nat_tests) in
        with_word_at m c x v b w less ∙ ap (λ (d : Bool). if d then v else word_at m b w) apart
    choice false t =
        let most : length (buffer_at m b) ≤ w = grind (arith, nat_tests) in
        let n = with_word_length m c x v b in
        index_past (buffer_at (with_word m c x v) b) w (omega arith) ∙ sym (index_past (buffer_at m b) w most)

pub written_other : (m : Buffers) (x : Write) (q : WordPlace) → is_place (written_place x) q ≡ false → word_at (written m x) q.buffer q.word ≡ word_at m q.buffer q.word
written_other m (Set c x v) q apart = with_word_other m c x v q.buffer q.word apart
written_other m (Add c x v) q apart = with_word_other m c x ((word_at m c x + v) % 2 ^ 32) q.buffer q.word apart

-- a word that is set has its value
pub with_word_here : (m : Buffers) (b w v : ℕ) → w < length (buffer_at m b) → word_at (with_word m b w v) b w ≡ v
with_word_here m b w v h =
    ap (λ (ws : List ℕ). slice_index ws w) (buffer_set_same m b w (slice_set (buffer_at m b) w v) h) ∙ get_or-set_same (buffer_at m b) w v 0 h

buffer_same : (m : Buffers) (b : ℕ) → slice_set m b (buffer_at m b) ≡ m
buffer_same [] b = refl
buffer_same (z ∷ m) zero = refl
buffer_same (z ∷ m) (suc b) = ap (λ (n : Buffers). z ∷ n) (buffer_same m b)

with_word_past : (m : Buffers) (b w v : ℕ) → length (buffer_at m b) ≤ w → with_word m b w v ≡ m
with_word_past m b w v h = ap (λ (ws : List ℕ). slice_set m b ws) (set_past (buffer_at m b) w v h) ∙ buffer_same m b

-- a write out of range does nothing
pub written_past : (m : Buffers) (x : Write) → length (buffer_at m (written_place x).buffer) ≤ (written_place x).word → written m x ≡ m
written_past m (Set b w v) h = with_word_past m b w v h
written_past m (Add b w v) h = with_word_past m b w ((word_at m b w + v) % 2 ^ 32) h

-- buffers of the same lengths, the one after writes
pub length_after : (over start : Buffers) (ws : List Write) (b : ℕ) → lengths_of start ≡ lengths_of over → length (buffer_at (all_written start ws) b) ≡ length (buffer_at over b)
length_after over start ws b h = all_written_length start ws b ∙ same_length over start b h

-- a word out of range is 0
pub word_past : (over start : Buffers) (ws : List Write) (p : WordPlace) → lengths_of start ≡ lengths_of over → length (buffer_at over p.buffer) ≤ p.word → word_at (all_written start ws) p.buffer p.word ≡ 0
word_past over start ws p same h = let n = length_after over start ws p.buffer same in index_past (buffer_at (all_written start ws) p.buffer) p.word (omega arith)

-- there is a length for each buffer
pub length_of_lengths : (m : Buffers) → length (lengths_of m) ≡ length m
length_of_lengths [] = refl
length_of_lengths (x ∷ m) = ap (λ (n : ℕ). suc n) (length_of_lengths m)
