-- What was added is fit for the machine.
use Rattle.std.proofs.Common.{◌≡◌, ℕ, zero, suc, ◌+◌, ◌<◌, ◌≤◌, Bool, true, false, List, [], ◌∷◌, ◌++◌, length, get_or, replicate, map, Option, Some, None, Result, Ok, Err, refl, sym, ap, subst, ◌∙◌, ⊎_elim, arith}
use Rattle.std.specs.Prelude.{⊤, ◌==◌, ◌&&◌, ◌||◌, not, nat_lt, nat_le, slice_get, slice_set, slice_index, unwrap_or, if◌then◌else◌, IsTrue}
use Rattle.std.specs.Option.{option_map}
use Rattle.std.specs.List.{sum_by}
use Rattle.std.proofs.lemmas.List.{length-append, get_or-set_same, get_or-set_other, get_or-replicate, length-replicate}
use Rattle.std.proofs.lemmas.List.Sums.{sum_by-cons, sum-map}
use Rattle.std.proofs.lemmas.List.Folds.{sum_by-replicate}
use Rattle.std.proofs.lemmas.Option.{slice_get-map, slice_get_past, slice_get_within, unwrap_or-slice_get}
use Rattle.std.proofs.lemmas.Bool.{cases_eq, cases_lt}
use Rattle.std.proofs.lemmas.Bool.Decides.{nat_tests}
use Rattle.wg_words.specs.Each.{Each}
use Rattle.wg_words.specs.declared.limits.TheConstants.{MOST_ENTRIES, MOST_BUFFER_WORDS, MOST_ALL_BUFFER_WORDS}
use Rattle.wg_machine.specs.declared.launch.Sent.{Sent}
use Rattle.wg_machine.specs.declared.shape.Shape.{Shape}
use Rattle.wg_machine.specs.declared.shape.Unit.{Unit}
use Rattle.wg_machine.specs.Buffers.{buffer_at}
use Rattle.wg_machine.specs.LaunchMeaning.{Arrives}
use Rattle.wg_script.specs.declared.draft.Given.{Given}
use Rattle.wg_script.specs.declared.lines.Line.{Line}
use Rattle.wg_script.specs.declared.lines.Line.TheVariants.{Nothing, Entry, Buffer}
use Rattle.wg_script.specs.declared.script.ScriptFault.{ScriptFault}
use Rattle.wg_script.specs.declared.script.ScriptFault.TheVariants as faults
use Rattle.wg_script.specs.Fit.{IsGoodRecord, IsFit}
use Rattle.wg_script.specs.Naming.{first_from, node_place, entry_at, place_among, is_entry_of}
use Rattle.wg_script.specs.Reading.{Sofar, record_fault, unless_broken, unit_checked, entry_checked, with_entry, slot_checked, place_checked, buffer_checked, with_buffer, added}
use Rattle.wg_script.specs.Rules.{grid_is_large, bool_is_bad}
use Rattle.wg_script.specs.Script.{count_given, words_given}
use Rattle.wg_script.proofs.PieceLemmas.{some_is}
use Rattle.wg_script.proofs.RuleLemmas.{ok_is}

abbrev pub IsGoodGiven : Option Given → Type 0
IsGoodGiven None = ⊤
IsGoodGiven (Some g) = (length g.words ≤ g.count) × (g.count ≤ MOST_BUFFER_WORDS)

pub record Holds (shape : Shape) (s : Sofar) : Type 0 where
  pub records : Each (IsGoodRecord shape) s.entries
  pub few : length s.entries ≤ MOST_ENTRIES
  pub given : (b : ℕ) → IsGoodGiven (get_or s.given b None)
  pub asked : s.asked ≤ MOST_ALL_BUFFER_WORDS
  pub all : sum_by count_given s.given ≡ s.asked

past_none : {A : Type 0} (xs : List A) (i : ℕ) (d : A) → length xs ≤ i → get_or xs i d ≡ d
past_none {A = A} xs i d h = sym (unwrap_or-slice_get xs i d) ∙ ap (λ (o : Option A). unwrap_or o d) (slice_get_past xs i h)

pub holds_first : (shape : Shape) (n : ℕ) → Holds shape (record { entries = []; given = replicate n None; asked = 0 })
holds_first shape n = record { records = tt; few = omega arith; given = λ b. none b; asked = omega arith; all = sum_by-replicate count_given n None ∙ omega arith }
  where
    none : (b : ℕ) → IsGoodGiven (get_or (replicate n None) b None)
    none b = subst IsGoodGiven (sym (⊎_elim (λ lt. get_or-replicate n b None None lt) (λ le. (let l = length-replicate {A = Option Given} n None in past_none (replicate n None) b None (omega arith))) (cases_lt b n))) tt

-- ---- a record

not_below : {A : Type 0} (passes : A → Bool) (k : ℕ) (xs : List A) (j : ℕ) → first_from passes k xs ≡ Some j → k ≤ j
not_below passes k [] j e = absurd cc
not_below passes k (x ∷ xs) j e = choice (passes x) (λ h. not_below passes (k + 1) xs j h) e
  where
    choice : (b : Bool) → (first_from passes (k + 1) xs ≡ Some j → k + 1 ≤ j) → (if b then Some k else first_from passes (k + 1) xs) ≡ Some j → k ≤ j
    choice true ih h = let same = some_is k j h in omega arith
    choice false ih h = let le = ih h in omega arith

-- the item at the place of the first that passes does
passes_at : {A : Type 0} (passes : A → Bool) (k : ℕ) (xs : List A) (i : ℕ) (x : A) → first_from passes k xs ≡ Some (k + i) → slice_get xs i ≡ Some x → passes x ≡ true
passes_at passes k [] i x e h = absurd cc
passes_at passes k (y ∷ xs) zero x e h = choice (passes y) refl e
  where
    choice : (b : Bool) → passes y ≡ b → (if b then Some k else first_from passes (k + 1) xs) ≡ Some (k + 0) → passes x ≡ true
    choice true t n = ap passes (sym (some_is y x h)) ∙ t
    choice false t n = let low = not_below passes (k + 1) xs (k + 0) n in absurd (omega arith)
passes_at passes k (y ∷ xs) (suc i) x e h = choice (passes y) (λ g. passes_at passes (k + 1) xs i x g h) e
  where
    choice : (b : Bool) → (first_from passes (k + 1) xs ≡ Some (k + 1 + i) → passes x ≡ true) → (if b then Some k else first_from passes (k + 1) xs) ≡ Some (k + suc i) → passes x ≡ true
    choice true ih n = let same = some_is k (k + suc i) n in absurd (omega arith)
    choice false ih n = let same : k + suc i ≡ k + 1 + i = omega arith in ih (n ∙ ap (λ (m : ℕ). Some m) same)

record IsPassed (unit : Unit) (words : List ℕ) (entries : ℕ) : Type 0 where
  as_many : length words ≡ unit.words
  grid : grid_is_large unit.kind words ≡ false
  bools : bool_is_bad unit.bools words ≡ false
  few : entries < MOST_ENTRIES

chain_none : (a b c d : Bool) (n w h : ℕ) → (if a then Some (faults.WordCount n w h) else if b then Some (faults.GridTooLarge n) else if c then Some (faults.BadBool n) else if d then Some (faults.TooMany n) else None) ≡ None → (a ≡ false) × (b ≡ false) × (c ≡ false) × (d ≡ false)
chain_none true b c d n w h e = absurd cc
chain_none false true c d n w h e = absurd cc
chain_none false false true d n w h e = absurd cc
chain_none false false false true n w h e = absurd cc
chain_none false false false false n w h e = (refl, refl, refl, refl)

passed : (unit : Unit) (words : List ℕ) (entries n : ℕ) → record_fault unit words entries n ≡ None → IsPassed unit words entries
passed unit words entries n e =
    let c = chain_none (not (length words == unit.words)) (grid_is_large unit.kind words) (bool_is_bad unit.bools words) (nat_le MOST_ENTRIES entries) n unit.words (length words) e in
    record { as_many = same (length words) unit.words c.0; grid = c.1; bools = c.2; few = below entries c.3 }
  where
    same : (a b : ℕ) → not (a == b) ≡ false → a ≡ b
    same a b h = ⊎_elim (λ e. e) (λ ne. (let t : (a == b) ≡ false = grind (arith, nat_tests) in absurd (clash (a == b) t h))) (cases_eq a b)
      where
        clash : (t : Bool) → t ≡ false → not t ≡ false → ⊥
        clash true f g = cc
        clash false f g = cc

    below : (a : ℕ) → nat_le MOST_ENTRIES a ≡ false → a < MOST_ENTRIES
    below a h = grind (arith, nat_tests)

unless_none : (k u : ℕ) (o : Option ScriptFault) → unless_broken k o ≡ Ok u → (k ≡ u) × (o ≡ None)
unless_none k u None e = (ok_is k u e, refl)
unless_none k u (Some f) e = absurd cc

record IsTaken (shape : Shape) (words : List ℕ) (entries u : ℕ) : Type 0 where
  good : IsGoodRecord shape (record { unit = u; words = words })
  few : entries < MOST_ENTRIES

entry_good : (shape : Shape) (words : List ℕ) (entries n u : ℕ) (node : Option ℕ) → entry_checked shape (option_map (entry_at shape) node) words entries n ≡ Ok u → IsTaken shape words entries u
entry_good shape words entries n u None e = absurd cc
entry_good shape words entries n u (Some node) e = choice (entry_at shape node) refl e
  where
    of_number : (k : ℕ) → entry_at shape node ≡ Some k → (o : Option Unit) → slice_get shape.units k ≡ o → unit_checked o k words entries n ≡ Ok u → IsTaken shape words entries u
    of_number k i None g h = absurd cc
    of_number k i (Some unit) g h =
        let is = unless_none k u (record_fault unit words entries n) h in
        let p = passed unit words entries n is.1 in
        let takes : is_entry_of node unit ≡ true = passes_at (is_entry_of node) 0 shape.units k unit (i ∙ ap (λ (m : ℕ). Some m) (omega arith)) g in
        record {
          good = record { unit = unit; there = subst (λ (m : ℕ). slice_get shape.units m ≡ Some unit) is.0 g; entry = first_part unit.entry (unit.node == node) takes; words = p.as_many; grid = p.grid; bools = p.bools };
          few = p.few;
        }
      where
        first_part : (a b : Bool) → (a && b) ≡ true → IsTrue a
        first_part true b t = refl
        first_part false b t = absurd cc

    choice : (o : Option ℕ) → entry_at shape node ≡ o → entry_checked shape (Some o) words entries n ≡ Ok u → IsTaken shape words entries u
    choice None i h = absurd cc
    choice (Some k) i h = of_number k i (slice_get shape.units k) refl h

each_more : {A : Type 0} (P : A → Type 0) (xs : List A) (x : A) → Each P xs → P x → Each P (xs ++ x ∷ [])
each_more P [] x e p = (p, tt)
each_more P (y ∷ xs) x e p = (e.0, each_more P xs x e.1 p)

-- ---- a buffer

sum_set : (xs : List (Option Given)) (b : ℕ) (g : Option Given) → b < length xs → get_or xs b None ≡ None → sum_by count_given (slice_set xs b g) ≡ sum_by count_given xs + count_given g
sum_set [] b g h e = absurd (omega arith)
sum_set (x ∷ xs) zero g h e =
    let a = sum_by-cons count_given g xs in
    let c = sum_by-cons count_given x xs in
    let z : count_given x ≡ 0 = ap count_given e in
    omega arith
sum_set (x ∷ xs) (suc b) g h e =
    let a = sum_by-cons count_given x (slice_set xs b g) in
    let c = sum_by-cons count_given x xs in
    let ih = sum_set xs b g (omega arith) e in
    omega arith

record IsRoom (slots : List (Option Given)) (count asked : ℕ) (words : List ℕ) (b : ℕ) : Type 0 where
  none : slice_get slots b ≡ Some None
  few : length words ≤ count
  small : count ≤ MOST_BUFFER_WORDS
  all : asked + count ≤ MOST_ALL_BUFFER_WORDS

buffer_good : (slots : List (Option Given)) (place : Option ℕ) (count : ℕ) (words : List ℕ) (asked n b : ℕ) → buffer_checked slots place count words asked n ≡ Ok b → IsRoom slots count asked words b
buffer_good slots place count words asked n b e = many (nat_lt count (length words)) refl e
  where
    limited : (p : ℕ) → slice_get slots p ≡ Some None → length words ≤ count → (t : Bool) → (nat_lt MOST_BUFFER_WORDS count || nat_lt MOST_ALL_BUFFER_WORDS (asked + count)) ≡ t → (if t then Err (faults.TooMany n) else Ok p) ≡ Ok b → IsRoom slots count asked words b
    limited p g w true t h = absurd cc
    limited p g w false t h = record { none = subst (λ (k : ℕ). slice_get slots k ≡ Some None) (ok_is p b h) g; few = w; small = grind (arith, nat_tests); all = grind (arith, nat_tests) }

    of_slot : (p : ℕ) (o : Option (Option Given)) → slice_get slots p ≡ o → length words ≤ count → slot_checked o p count asked n ≡ Ok b → IsRoom slots count asked words b
    of_slot p None g w h = absurd cc
    of_slot p (Some (Some x)) g w h = absurd cc
    of_slot p (Some None) g w h = limited p g w (nat_lt MOST_BUFFER_WORDS count || nat_lt MOST_ALL_BUFFER_WORDS (asked + count)) refl h

    of_place : (p : Option ℕ) → length words ≤ count → place_checked slots p count asked n ≡ Ok b → IsRoom slots count asked words b
    of_place None w h = absurd cc
    of_place (Some p) w h = of_slot p (slice_get slots p) refl w h

    many : (t : Bool) → nat_lt count (length words) ≡ t → (if t then Err (faults.WordCount n count (length words)) else place_checked slots place count asked n) ≡ Ok b → IsRoom slots count asked words b
    many true t h = absurd cc
    many false t h = of_place place (grind (arith, nat_tests)) h

-- ---- any line

pub holds_more : (shape : Shape) (n : ℕ) (s new : Sofar) (line : Line) → Holds shape s → added shape n s line ≡ Ok new → Holds shape new
holds_more shape n s new Nothing holds e = subst (Holds shape) (ok_is s new e) holds
holds_more shape n s new (Entry name index words) holds e = choice (entry_checked shape (option_map (entry_at shape) (node_place shape name index)) words (length s.entries) n) refl e
  where
    choice : (r : Result ℕ ScriptFault) → entry_checked shape (option_map (entry_at shape) (node_place shape name index)) words (length s.entries) n ≡ r → with_entry words s r ≡ Ok new → Holds shape new
    choice (Err f) is h = absurd cc
    choice (Ok unit) is h =
        let taken = entry_good shape words (length s.entries) n unit (node_place shape name index) is in
        let few = taken.few in
        subst (Holds shape) (ok_is (record s { entries = s.entries ++ (record { unit = unit; words = words }) ∷ [] }) new h)
        (record {
          records = each_more (IsGoodRecord shape) s.entries (record { unit = unit; words = words }) holds.records taken.good;
          few = omega (arith, length-append s.entries ((record { unit = unit; words = words }) ∷ []));
          given = holds.given;
          asked = holds.asked;
          all = holds.all;
        })
holds_more shape n s new (Buffer name count words) holds e = choice (buffer_checked s.given (place_among shape.buffers name) count words s.asked n) refl e
  where
    choice : (r : Result ℕ ScriptFault) → buffer_checked s.given (place_among shape.buffers name) count words s.asked n ≡ r → with_buffer count words s r ≡ Ok new → Holds shape new
    choice (Err f) is h = absurd cc
    choice (Ok b) is h =
        let room = buffer_good s.given (place_among shape.buffers name) count words s.asked n b is in
        let lt = slice_get_within s.given b None room.none in
        let g : Option Given = Some (record { count = count; words = words }) in
        let free : get_or s.given b None ≡ None = sym (unwrap_or-slice_get s.given b None) ∙ ap (λ (o : Option (Option Given)). unwrap_or o None) room.none in
        subst (Holds shape) (ok_is (record s { given = slice_set s.given b g; asked = s.asked + count }) new h)
        (record {
          records = holds.records;
          few = holds.few;
          given = λ k. ⊎_elim
              (λ i. subst IsGoodGiven (sym (ap (λ (j : ℕ). get_or (slice_set s.given b g) j None) (sym i) ∙ get_or-set_same s.given b g None lt)) (room.few, room.small))
              (λ ne. subst IsGoodGiven (sym (get_or-set_other s.given b k g None (λ i. ne (sym i)))) (holds.given k))
              (cases_eq b k);
          asked = room.all;
          all = sum_set s.given b g lt free ∙ ap (λ (a : ℕ). a + count) holds.all;
        })

-- ---- the script

arrive_all : (shape : Shape) (rs : List Sent) → Each (IsGoodRecord shape) rs → Each (Arrives shape) rs
arrive_all shape [] each = tt
arrive_all shape (r ∷ rs) each =
    (record { unit = slice_get_within shape.units r.unit each.0.unit each.0.there; words = each.0.words ∙ ap (λ (o : Option Unit). unwrap_or (option_map (λ (n : Unit). n.words) o) 0) (sym each.0.there) }, arrive_all shape rs each.1)

pub is_fit : (shape : Shape) (s : Sofar) → Holds shape s → IsFit shape (record { entries = s.entries; lengths = map count_given s.given; start = map words_given s.given })
is_fit shape s holds =
    record {
      records = holds.records;
      arrive = arrive_all shape s.entries holds.records;
      few = holds.few;
      fits = λ b. (let f = fit (get_or s.given b None) (holds.given b) in let c = count b in let w = ap (λ (l : List ℕ). length l) (words b) in omega arith);
      small = λ b. (let f = small (get_or s.given b None) (holds.given b) in let c = count b in omega arith);
      all = (let a = sum-map count_given s.given in let b = holds.all in let c = holds.asked in omega arith);
    }
  where
    count : (b : ℕ) → slice_index (map count_given s.given) b ≡ count_given (get_or s.given b None)
    count b = sym (unwrap_or-slice_get (map count_given s.given) b 0) ∙ (ap (λ (o : Option ℕ). unwrap_or o 0) (slice_get-map count_given s.given b) ∙ (count_said (slice_get s.given b) ∙ ap count_given (unwrap_or-slice_get s.given b None)))
      where
        count_said : (o : Option (Option Given)) → unwrap_or (option_map count_given o) 0 ≡ count_given (unwrap_or o None)
        count_said None = refl
        count_said (Some g) = refl

    words : (b : ℕ) → buffer_at (map words_given s.given) b ≡ words_given (get_or s.given b None)
    words b = ap (λ (o : Option (List ℕ)). unwrap_or o []) (slice_get-map words_given s.given b) ∙ (worded (slice_get s.given b) ∙ ap words_given (unwrap_or-slice_get s.given b None))
      where
        worded : (o : Option (Option Given)) → unwrap_or (option_map words_given o) [] ≡ words_given (unwrap_or o None)
        worded None = refl
        worded (Some g) = refl

    fit : (o : Option Given) → IsGoodGiven o → length (words_given o) ≤ count_given o
    fit None h = omega arith
    fit (Some g) h = h.0

    small : (o : Option Given) → IsGoodGiven o → count_given o ≤ MOST_BUFFER_WORDS
    small None h = omega arith
    small (Some g) h = h.1
