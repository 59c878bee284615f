-- What a call does to one unit, as its records are seen.
use Rattle.std.proofs.Common.{◌≡◌, ◌≢◌, ℕ, ◌+◌, ◌<◌, ◌≤◌, Bool, true, false, List, [], ◌∷◌, ◌++◌, length, Option, Some, None, refl, sym, ap, subst, ◌∙◌, ⊎_elim, inl, inr, arith}
use Rattle.std.specs.Prelude.{◌⊎◌, ◌==◌, ◌||◌, IsSome, filter_map, slice_get}
use Rattle.std.specs.List.{cons_option}
use Rattle.std.proofs.lemmas.List.Elements.{filter_map-append}
use Rattle.std.proofs.lemmas.List.Folds.{list_any-append}
use Rattle.std.proofs.lemmas.Bool.{eqb-true, eq-eqb, cases_lt}
use Rattle.std.proofs.lemmas.Bool.Decides.{eqb_tells}
use Rattle.wg_machine.specs.declared.launch.Record.{Record}
use Rattle.wg_slots.specs.SlotsOf.{SlotsOf, record_at, waits_in, waiting_of, free_of, slot_words, Puts, HoldsFirst, Releases, Writes}
use Rattle.wg_slots.specs.Kept.{Kept, IsSound, AreApart, number_at, numbers_used, start_of, shown, part, KeepsNumber, DropsNumber}
use Rattle.wg_slots.specs.Layout.{IsWritten}
use Rattle.wg_slots.proofs.Apart.{few_wait, apart_more}
use Rattle.wg_slots.proofs.Blocks.{part_same}
use Rattle.wg_slots.proofs.Records.{some_of, there_is, not_none, with_words, record_is, words_same, used_same, or_left, or_right, filter_same, filter_length, filter_get, waits_apart}
use Rattle.wg_slots.proofs.Rows.{step, words_fit, with_queue}

-- ---- a unit's records

-- the words of a slot
abbrev pub words_in : List ℕ → Kept → ℕ → List ℕ
words_in block k slot = part block (start_of k slot) k.words

pub seen_at : (block : List ℕ) (k : Kept) (slot : ℕ) → record_at (shown block k) slot ≡ with_words (number_at k slot) (words_in block k slot)
seen_at block k slot = record_is (λ s. words_in block k s) k.numbers slot

some_words : (o : Option ℕ) (words : List ℕ) → IsSome o → IsSome (with_words o words)
some_words None words e = absurd cc
some_words (Some n) words e = refl

some_number : (o : Option ℕ) (words : List ℕ) → IsSome (with_words o words) → IsSome o
some_number None words e = absurd cc
some_number (Some n) words e = refl

pub record_there : (block : List ℕ) (k : Kept) (slot : ℕ) → IsSome (number_at k slot) → IsSome (record_at (shown block k) slot)
record_there block k slot e = subst IsSome (sym (seen_at block k slot)) (some_words (number_at k slot) (words_in block k slot) e)

pub number_there : (block : List ℕ) (k : Kept) (slot : ℕ) → IsSome (record_at (shown block k) slot) → IsSome (number_at k slot)
number_there block k slot e = some_number (number_at k slot) (words_in block k slot) (subst IsSome (seen_at block k slot) e)

pub waiting_length : (block : List ℕ) (k : Kept) → IsSound k → length (waiting_of (shown block k)) ≡ length k.waiting
waiting_length block k sound = filter_length (record_at (shown block k)) k.waiting (λ p w. record_there block k p (sound.there p w))

pub waiting_get : (block : List ℕ) (k : Kept) (i p : ℕ) → IsSound k → slice_get k.waiting i ≡ Some p → slice_get (waiting_of (shown block k)) i ≡ record_at (shown block k) p
waiting_get block k i p sound e = filter_get (record_at (shown block k)) k.waiting (λ q w. record_there block k q (sound.there q w)) i p e

pub free_is : (block : List ℕ) (k : Kept) (free : ℕ) → free + numbers_used k ≡ k.count → free ≡ free_of (shown block k)
free_is block k free e = let used = used_same (λ s. words_in block k s) 0 k.numbers in omega arith

pub free_some : (block : List ℕ) (k : Kept) → 0 < free_of (shown block k) → numbers_used k < k.count
free_some block k h = let used = used_same (λ s. words_in block k s) 0 k.numbers in omega arith

-- ---- fewer wait than there are records

pub sound_few : (k : Kept) → IsSound k → length k.waiting ≤ numbers_used k
sound_few k sound = few_wait k.waiting k.numbers sound.apart sound.there

-- ---- a write to a slot leaves the others of its unit

slots_apart : (a b words : List ℕ) (k : Kept) (slot other : ℕ) → IsWritten a b (start_of k slot) words → length words ≡ k.words → other ≢ slot → words_in b k other ≡ words_in a k other
slots_apart a b words k slot other w long ne = part_same b a (start_of k other) k.words (λ i low high. w.others i (side i low high (cases_lt other slot)))
  where
    side : (i : ℕ) → start_of k other ≤ i → i < start_of k other + k.words → (other < slot) ⊎ (slot ≤ other) → (i < start_of k slot) ⊎ (start_of k slot + length words ≤ i)
    side i low high (inl lt) = let s = step other slot (slot_words k.words) lt in let f = words_fit k.words in inl (omega arith)
    side i low high (inr le) = let lt : slot < other = omega (arith, ne) in let s = step slot other (slot_words k.words) lt in let f = words_fit k.words in inr (omega arith)

words_there : (a b words : List ℕ) (k : Kept) (slot : ℕ) → IsWritten a b (start_of k slot) words → length words ≡ k.words → words_in b k slot ≡ words
words_there a b words k slot w long = ap (λ (n : ℕ). part b (start_of k slot) n) (sym long) ∙ w.there

-- ---- put

-- a unit after a number came to a slot
abbrev pub put_kept : Kept → ℕ → List (Option ℕ) → Kept
put_kept k slot ns = with_queue k (k.waiting ++ slot ∷ []) ns

one_waits : (f : ℕ → Option Record) (ps : List ℕ) (slot : ℕ) (r : Record) → f slot ≡ Some r → filter_map f (ps ++ slot ∷ []) ≡ filter_map f ps ++ r ∷ []
one_waits f ps slot r e = filter_map-append f ps (slot ∷ []) ∙ ap (λ (o : Option Record). filter_map f ps ++ cons_option o []) e

pub puts : (a b : List ℕ) (k : Kept) (ns : List (Option ℕ)) (item : Record) (slot : ℕ) → IsSound k → KeepsNumber k (put_kept k slot ns) item.number slot → length item.words ≡ k.words → IsWritten a b (start_of k slot) item.words
    → Puts (shown a k) (shown b (put_kept k slot ns)) item
puts a b k ns item slot sound keeps long w =
    record {
      slot = slot;
      within = keeps.within;
      was_free = was_free;
      is_there = is_there;
      others = others;
      used = used_same (λ s. words_in b k s) 0 ns ∙ (keeps.used ∙ ap (λ (n : ℕ). n + 1) (sym (used_same (λ s. words_in a k s) 0 k.numbers)));
      places = refl;
      waiting = one_waits (record_at new) k.waiting slot item is_there ∙ ap (λ (l : List Record). l ++ item ∷ []) (filter_same (record_at new) (record_at old) k.waiting (λ p wait. others p (waiting_apart p wait)));
      same = refl;
    }
  where
    old : SlotsOf
    old = shown a k

    new : SlotsOf
    new = shown b (put_kept k slot ns)

    was_free : record_at (shown a k) slot ≡ None
    was_free = seen_at a k slot ∙ ap (λ (o : Option ℕ). with_words o (words_in a k slot)) keeps.was_free

    is_there : record_at (shown b (put_kept k slot ns)) slot ≡ Some item
    is_there =
        seen_at b (put_kept k slot ns) slot
        ∙ (ap (λ (o : Option ℕ). with_words o (words_in b k slot)) keeps.is_there
        ∙ ap (λ (l : List ℕ). with_words (Some item.number) l) (words_there a b item.words k slot w long))

    others : (other : ℕ) → other ≢ slot → record_at (shown b (put_kept k slot ns)) other ≡ record_at (shown a k) other
    others other ne =
        seen_at b (put_kept k slot ns) other
        ∙ (ap (λ (o : Option ℕ). with_words o (words_in b k other)) (keeps.others other ne)
        ∙ (words_same (number_at k other) (words_in b k other) (words_in a k other) (λ some. slots_apart a b item.words k slot other w long ne)
        ∙ sym (seen_at a k other)))

    waiting_apart : (p : ℕ) → waits_in k.waiting p ≡ true → p ≢ slot
    waiting_apart p wait e = not_none (number_at k slot) keeps.was_free (subst (λ (q : ℕ). IsSome (number_at k q)) e (sound.there p wait))

not_waiting : (k : Kept) (slot : ℕ) → IsSound k → number_at k slot ≡ None → waits_in k.waiting slot ≡ false
not_waiting k slot sound none = choice (waits_in k.waiting slot) refl
  where
    choice : (b : Bool) → waits_in k.waiting slot ≡ b → b ≡ false
    choice true e = absurd (not_none (number_at k slot) none (sound.there slot e))
    choice false e = refl

-- an answer for a slot and for the others
each_slot : (P : ℕ → Type 0) (slot : ℕ) → P slot → ((other : ℕ) → other ≢ slot → P other) → (s : ℕ) → P s
each_slot P slot here others s = ⊎_elim (λ (t : ((s == slot) ≡ true) × (s ≡ slot)). subst P (sym t.1) here) (λ (f : ((s == slot) ≡ false) × (s ≢ slot)). others s f.1) (eqb_tells s slot)

pub sound_put : (k : Kept) (ns : List (Option ℕ)) (number slot : ℕ) → IsSound k → KeepsNumber k (put_kept k slot ns) number slot → numbers_used k < k.count → IsSound (put_kept k slot ns)
sound_put k ns number slot sound keeps free =
    record {
      small = sound.small;
      used = let u = keeps.used in omega arith;
      within = each_slot (λ s. IsSome (number_at (put_kept k slot ns) s) → s < k.count) slot (λ some. keeps.within) (λ other ne some. sound.within other (subst IsSome (keeps.others other ne) some));
      there = each_slot (λ s. waits_in (k.waiting ++ slot ∷ []) s ≡ true → IsSome (number_at (put_kept k slot ns) s)) slot (λ wait. there_is (number_at (put_kept k slot ns) slot) number keeps.is_there)
          (λ other ne wait. subst IsSome (sym (keeps.others other ne)) (sound.there other (before other ne wait)));
      apart = apart_more k.waiting slot sound.apart (not_waiting k slot sound keeps.was_free);
    }
  where
    before : (other : ℕ) → other ≢ slot → waits_in (k.waiting ++ slot ∷ []) other ≡ true → waits_in k.waiting other ≡ true
    before other ne wait = choice (waits_in k.waiting other) (slot == other) refl (sym (list_any-append (λ (q : ℕ). q == other) k.waiting (slot ∷ [])) ∙ wait)
      where
        choice : (c d : Bool) → (slot == other) ≡ d → (c || (d || false)) ≡ true → c ≡ true
        choice true d is e = refl
        choice false true is e = absurd (ne (sym (eqb-true slot other is)))
        choice false false is e = absurd cc

-- ---- hold

pub holds : (block : List ℕ) (k : Kept) (ws : List ℕ) (slot : ℕ) → IsSound k → k.waiting ≡ slot ∷ ws → HoldsFirst (shown block k) (shown block (with_queue k ws k.numbers)) slot
holds block k ws slot sound e =
    let apart : AreApart (slot ∷ ws) = subst AreApart e sound.apart in
    let some = some_of (record_at (shown block k) slot) (record_there block k slot (sound.there slot wait)) in
    record {
      record_is = some.0;
      waited = ap (λ (ps : List ℕ). filter_map (record_at (shown block k)) ps) e ∙ ap (λ (o : Option Record). cons_option o (filter_map (record_at (shown block k)) ws)) some.1;
      places = e;
      within = sound.within slot (sound.there slot wait);
      is_there = some.1;
      waits = apart.0;
      same = refl;
    }
  where
    wait : waits_in k.waiting slot ≡ true
    wait = ap (λ (ps : List ℕ). waits_in ps slot) e ∙ or_left (slot == slot) (waits_in ws slot) (eq-eqb slot slot refl)

pub sound_hold : (k : Kept) (ws : List ℕ) (slot : ℕ) → IsSound k → k.waiting ≡ slot ∷ ws → IsSound (with_queue k ws k.numbers)
sound_hold k ws slot sound e =
    let apart : AreApart (slot ∷ ws) = subst AreApart e sound.apart in
    record {
      small = sound.small;
      used = sound.used;
      within = sound.within;
      there = λ p wait. sound.there p (ap (λ (ps : List ℕ). waits_in ps p) e ∙ or_right (slot == p) (waits_in ws p) wait);
      apart = apart.1;
    }

-- ---- release

pub releases : (block : List ℕ) (k : Kept) (ns : List (Option ℕ)) (slot : ℕ) → DropsNumber k (with_queue k k.waiting ns) slot → waits_in k.waiting slot ≡ false → Releases (shown block k) (shown block (with_queue k k.waiting ns)) slot
releases block k ns slot drops none =
    record {
      is_free = seen_at block (with_queue k k.waiting ns) slot ∙ ap (λ (o : Option ℕ). with_words o (words_in block k slot)) drops.is_free;
      others = others;
      used = ap (λ (n : ℕ). n + 1) (used_same (λ s. words_in block k s) 0 ns) ∙ (drops.used ∙ sym (used_same (λ s. words_in block k s) 0 k.numbers));
      waiting = filter_same (record_at (shown block (with_queue k k.waiting ns))) (record_at (shown block k)) k.waiting (λ p wait. others p (waits_apart k.waiting p slot wait none));
      same = refl;
    }
  where
    others : (other : ℕ) → other ≢ slot → record_at (shown block (with_queue k k.waiting ns)) other ≡ record_at (shown block k) other
    others other ne = seen_at block (with_queue k k.waiting ns) other ∙ (ap (λ (o : Option ℕ). with_words o (words_in block k other)) (drops.others other ne) ∙ sym (seen_at block k other))

pub sound_release : (k : Kept) (ns : List (Option ℕ)) (slot : ℕ) → IsSound k → DropsNumber k (with_queue k k.waiting ns) slot → waits_in k.waiting slot ≡ false → IsSound (with_queue k k.waiting ns)
sound_release k ns slot sound drops none =
    record {
      small = sound.small;
      used = let u = drops.used in let old = sound.used in omega arith;
      within = each_slot (λ s. IsSome (number_at (with_queue k k.waiting ns) s) → s < k.count) slot (λ some. absurd (not_none (number_at (with_queue k k.waiting ns) slot) drops.is_free some)) (λ other ne some. sound.within other (subst IsSome (drops.others other ne) some));
      there = λ p wait. subst IsSome (sym (drops.others p (waits_apart k.waiting p slot wait none))) (sound.there p wait);
      apart = sound.apart;
    }

-- ---- write

pub writes : (a b words : List ℕ) (k : Kept) (slot : ℕ) → IsSome (number_at k slot) → length words ≡ k.words → IsWritten a b (start_of k slot) words → Writes (shown a k) (shown b k) slot words
writes a b words k slot some long w =
    let number = some_of (number_at k slot) some in
    record {
      before = record { number = number.0; words = words_in a k slot };
      was_there = seen_at a k slot ∙ ap (λ (o : Option ℕ). with_words o (words_in a k slot)) number.1;
      is_there = seen_at b k slot ∙ (ap (λ (o : Option ℕ). with_words o (words_in b k slot)) number.1 ∙ ap (λ (l : List ℕ). with_words (Some number.0) l) (words_there a b words k slot w long));
      others = λ other ne. seen_at b k other ∙ (words_same (number_at k other) (words_in b k other) (words_in a k other) (λ there. slots_apart a b words k slot other w long ne) ∙ sym (seen_at a k other));
      used = used_same (λ s. words_in b k s) 0 k.numbers ∙ sym (used_same (λ s. words_in a k s) 0 k.numbers);
      same = refl;
    }
