-- Reading a line answers the first rule that it breaks.
use Rattle.std.proofs.Common.{◌≡◌, ℕ, zero, suc, ◌+◌, ◌<◌, Bool, true, false, List, [], ◌∷◌, ◌++◌, length, Option, Some, None, Result, Ok, Err, refl, sym, ap, subst, ◌∙◌, arith}
use Rattle.std.specs.Prelude.{◌==◌, ◌||◌, not, nat_lt, nat_le, slice_get, slice_set, if◌then◌else◌, is_none, is_some}
use Rattle.std.specs.Option.{option_map}
use Rattle.std.proofs.lemmas.Option.{slice_get-get_or}
use Rattle.std.specs.Str.{bytes_eq}
use Rattle.wg_words.specs.declared.limits.TheConstants.{MOST_ENTRIES, MOST_BUFFER_WORDS, MOST_ALL_BUFFER_WORDS}
use Rattle.wg_machine.specs.declared.launch.Sent.{Sent}
use Rattle.wg_machine.specs.declared.shape.Shape.{Shape}
use Rattle.wg_machine.specs.declared.shape.Unit.{Unit}
use Rattle.wg_script.specs.declared.draft.Given.{Given}
use Rattle.wg_script.specs.declared.lines.Line.{Line}
use Rattle.wg_script.specs.declared.lines.Line.TheVariants.{Nothing, Entry, Buffer}
use Rattle.wg_script.specs.declared.script.ScriptFault.{ScriptFault}
use Rattle.wg_script.specs.declared.script.ScriptFault.TheVariants as faults
use Rattle.wg_words.specs.Maybe.{◌>>=◌}
use Rattle.wg_script.specs.Naming.{first_from, node_place, entry_at, place_among, is_entry_of}
use Rattle.wg_script.specs.Reading.{Sofar, record_fault, unless_broken, unit_checked, entry_checked, with_entry, slot_checked, place_checked, buffer_checked, with_buffer, added, line_added}
use Rattle.wg_script.specs.Rules.{ScriptRule, rules_on, rules_of, is_no_entry, of_unit, words_of_unit, grid_is_large, bool_is_bad}
use Rattle.wg_script.specs.Script.{entries_of, given_at, asked_of}
use Rattle.wg_script.proofs.PieceLemmas.{some_is}
use Rattle.wg_script.proofs.GivenLemmas.{Stands, stands_nothing, stands_entry, stands_buffer}
use Rattle.wg_script.proofs.GoodLemmas.{first_of}

abbrev pub fault_of : {X : Type 0} → Result X ScriptFault → Option ScriptFault
fault_of (Ok x) = None
fault_of (Err fault) = Some fault

pub within : {A : Type 0} (passes : A → Bool) (k : ℕ) (xs : List A) (j : ℕ) → first_from passes k xs ≡ Some j → j < k + length xs
within passes k [] j e = absurd cc
within passes k (x ∷ xs) j e = choice (passes x) (λ h. within passes (k + 1) xs j h) e
  where
    choice : (b : Bool) → (first_from passes (k + 1) xs ≡ Some j → j < k + 1 + length xs) → (if b then Some k else first_from passes (k + 1) xs) ≡ Some j → j < k + length (x ∷ xs)
    choice true ih h = let same = some_is k j h in omega arith
    choice false ih h = let lt = ih h in omega arith

some_item : {A : Type 0} (xs : List A) (i : ℕ) → i < length xs → (x : A) × (slice_get xs i ≡ Some x)
some_item [] i h = absurd (omega arith)
some_item (x ∷ xs) zero h = (x, refl)
some_item (x ∷ xs) (suc i) h = some_item xs i (omega arith)

-- ---- an entry line

-- the rules on a record of a unit
abbrev on_unit : ℕ → ℕ → List ℕ → Unit → List ScriptRule
on_unit n entries words unit =
    (faults.WordCount n unit.words (length words), not (length words == unit.words))
    ∷ (faults.GridTooLarge n, grid_is_large unit.kind words)
    ∷ (faults.NoBuffer n, false)
    ∷ (faults.TwiceBuffer n, false)
    ∷ (faults.BadBool n, bool_is_bad unit.bools words)
    ∷ (faults.TooMany n, nat_le MOST_ENTRIES entries)
    ∷ []

chain : (a b c d : Bool) (n w h : ℕ) → (if a then Some (faults.WordCount n w h) else if b then Some (faults.GridTooLarge n) else if c then Some (faults.BadBool n) else if d then Some (faults.TooMany n) else None) ≡ first_of ((faults.WordCount n w h, a) ∷ (faults.GridTooLarge n, b) ∷ (faults.NoBuffer n, false) ∷ (faults.TwiceBuffer n, false) ∷ (faults.BadBool n, c) ∷ (faults.TooMany n, d) ∷ [])
chain true b c d n w h = refl
chain false true c d n w h = refl
chain false false true d n w h = refl
chain false false false true n w h = refl
chain false false false false n w h = refl

unless_fault : {X : Type 0} (x : X) (o : Option ScriptFault) → fault_of (unless_broken x o) ≡ o
unless_fault x None = refl
unless_fault x (Some f) = refl

record_first : (unit : Unit) (words : List ℕ) (entries n number : ℕ) → fault_of (unless_broken number (record_fault unit words entries n)) ≡ first_of (on_unit n entries words unit)
record_first unit words entries n number =
    unless_fault number (record_fault unit words entries n) ∙ chain (not (length words == unit.words)) (grid_is_large unit.kind words) (bool_is_bad unit.bools words) (nat_le MOST_ENTRIES entries) n unit.words (length words)

-- the rules on an entry line of a node
abbrev on_entry : Shape → ℕ → ℕ → List ℕ → Option ℕ → List ScriptRule
on_entry shape n entries words node =
    (faults.NoNode n, is_none node)
    ∷ (faults.NotEntry n, is_no_entry shape node)
    ∷ (faults.WordCount n (words_of_unit ((node >>= entry_at shape) >>= slice_get shape.units)) (length words), of_unit (λ unit. not (length words == unit.words)) ((node >>= entry_at shape) >>= slice_get shape.units))
    ∷ (faults.GridTooLarge n, of_unit (λ unit. grid_is_large unit.kind words) ((node >>= entry_at shape) >>= slice_get shape.units))
    ∷ (faults.NoBuffer n, false)
    ∷ (faults.TwiceBuffer n, false)
    ∷ (faults.BadBool n, of_unit (λ unit. bool_is_bad unit.bools words) ((node >>= entry_at shape) >>= slice_get shape.units))
    ∷ (faults.TooMany n, nat_le MOST_ENTRIES entries)
    ∷ []

entry_first : (shape : Shape) (n entries : ℕ) (words : List ℕ) (node : Option ℕ) → fault_of (entry_checked shape (option_map (entry_at shape) node) words entries n) ≡ first_of (on_entry shape n entries words node)
entry_first shape n entries words None = refl
entry_first shape n entries words (Some node) = choice (entry_at shape node) (λ number e. within (is_entry_of node) 0 shape.units number e)
  where
    of_number : (number : ℕ) (o : Option Unit) → ((u : Unit) × (o ≡ Some u)) → fault_of (unit_checked o number words entries n) ≡ first_of ((faults.WordCount n (words_of_unit o) (length words), of_unit (λ unit. not (length words == unit.words)) o) ∷ (faults.GridTooLarge n, of_unit (λ unit. grid_is_large unit.kind words) o) ∷ (faults.NoBuffer n, false) ∷ (faults.TwiceBuffer n, false) ∷ (faults.BadBool n, of_unit (λ unit. bool_is_bad unit.bools words) o) ∷ (faults.TooMany n, nat_le MOST_ENTRIES entries) ∷ [])
    of_number number None u = absurd (cc u.1)
    of_number number (Some unit) u = record_first unit words entries n number

    choice : (e : Option ℕ) → ((number : ℕ) → e ≡ Some number → number < 0 + length shape.units)
        → fault_of (entry_checked shape (Some e) words entries n)
        ≡ first_of ((faults.NoNode n, false) ∷ (faults.NotEntry n, is_none e) ∷ (faults.WordCount n (words_of_unit (e >>= slice_get shape.units)) (length words), of_unit (λ unit. not (length words == unit.words)) (e >>= slice_get shape.units)) ∷ (faults.GridTooLarge n, of_unit (λ unit. grid_is_large unit.kind words) (e >>= slice_get shape.units)) ∷ (faults.NoBuffer n, false) ∷ (faults.TwiceBuffer n, false) ∷ (faults.BadBool n, of_unit (λ unit. bool_is_bad unit.bools words) (e >>= slice_get shape.units)) ∷ (faults.TooMany n, nat_le MOST_ENTRIES entries) ∷ [])
    choice None lt = refl
    choice (Some number) lt = of_number number (slice_get shape.units number) (some_item shape.units number (let l = lt number refl in omega arith))

with_record_fault : (words : List ℕ) (s : Sofar) (r : Result ℕ ScriptFault) → fault_of (with_entry words s r) ≡ fault_of r
with_record_fault words s (Ok unit) = refl
with_record_fault words s (Err f) = refl

-- ---- a buffer line

with_buffer_fault : (count : ℕ) (words : List ℕ) (s : Sofar) (r : Result ℕ ScriptFault) → fault_of (with_buffer count words s r) ≡ fault_of r
with_buffer_fault count words s (Ok place) = refl
with_buffer_fault count words s (Err f) = refl

-- the rules on a buffer line of a place
abbrev on_buffer : ℕ → ℕ → ℕ → Bool → Option ℕ → (ℕ → Option Given) → Bool → List ScriptRule
on_buffer n count have many place given limit =
    (faults.NoNode n, false)
    ∷ (faults.NotEntry n, false)
    ∷ (faults.WordCount n count have, many)
    ∷ (faults.GridTooLarge n, false)
    ∷ (faults.NoBuffer n, is_none place)
    ∷ (faults.TwiceBuffer n, is_some (place >>= given))
    ∷ (faults.BadBool n, false)
    ∷ (faults.TooMany n, limit)
    ∷ []

buffer_first : (slots : List (Option Given)) (given : ℕ → Option Given) (n count asked : ℕ) (words : List ℕ) (place : Option ℕ) → ((b : ℕ) → place ≡ Some b → slice_get slots b ≡ Some (given b))
    → fault_of (buffer_checked slots place count words asked n) ≡ first_of (on_buffer n count (length words) (nat_lt count (length words)) place given (nat_lt MOST_BUFFER_WORDS count || nat_lt MOST_ALL_BUFFER_WORDS (asked + count)))
buffer_first slots given n count asked words place there = many (nat_lt count (length words))
  where
    limited : (b : ℕ) (t : Bool) → fault_of (if t then Err (faults.TooMany n) else Ok b) ≡ (if t then Some (faults.TooMany n) else None)
    limited b true = refl
    limited b false = refl

    of_slot : (b : ℕ) (o : Option (Option Given)) (g : Option Given) → o ≡ Some g → fault_of (slot_checked o b count asked n) ≡ (if is_some g then Some (faults.TwiceBuffer n) else if nat_lt MOST_BUFFER_WORDS count || nat_lt MOST_ALL_BUFFER_WORDS (asked + count) then Some (faults.TooMany n) else None)
    of_slot b None g e = absurd cc
    of_slot b (Some (Some x)) None e = absurd cc
    of_slot b (Some (Some x)) (Some y) e = refl
    of_slot b (Some None) None e = limited b (nat_lt MOST_BUFFER_WORDS count || nat_lt MOST_ALL_BUFFER_WORDS (asked + count))
    of_slot b (Some None) (Some y) e = absurd cc

    of_place : (p : Option ℕ) → ((b : ℕ) → p ≡ Some b → slice_get slots b ≡ Some (given b)) → fault_of (place_checked slots p count asked n)
        ≡ (if is_none p then Some (faults.NoBuffer n) else if is_some (p >>= given) then Some (faults.TwiceBuffer n) else if nat_lt MOST_BUFFER_WORDS count || nat_lt MOST_ALL_BUFFER_WORDS (asked + count) then Some (faults.TooMany n) else None)
    of_place None h = refl
    of_place (Some b) h = of_slot b (slice_get slots b) (given b) (h b refl)

    many : (t : Bool) → fault_of (if t then Err (faults.WordCount n count (length words)) else place_checked slots place count asked n) ≡ first_of (on_buffer n count (length words) t place given (nat_lt MOST_BUFFER_WORDS count || nat_lt MOST_ALL_BUFFER_WORDS (asked + count)))
    many true = refl
    many false = of_place place there

-- ---- any line

slot_there : (shape : Shape) (s : Sofar) (said : List Line) (name : List ℕ) → Stands shape s said → (b : ℕ) → place_among shape.buffers name ≡ Some b → slice_get s.given b ≡ Some (given_at shape.buffers b said)
slot_there shape s said name stands b e =
    let slots = stands.slots in
    let lt = within (λ (m : List ℕ). bytes_eq m name) 0 shape.buffers b e in
    slice_get-get_or s.given b None (omega arith) ∙ ap (λ (o : Option Given). Some o) (stands.given b (omega arith))

same_fault : (shape : Shape) (n : ℕ) (s : Sofar) (said : List Line) (line : Line) → Stands shape s said → fault_of (added shape n s line) ≡ first_of (rules_on shape n said line)
same_fault shape n s said Nothing stands = refl
same_fault shape n s said (Entry name index words) stands =
    with_record_fault words s (entry_checked shape (option_map (entry_at shape) (node_place shape name index)) words (length s.entries) n)
    ∙ (ap (λ (l : List Sent). fault_of (entry_checked shape (option_map (entry_at shape) (node_place shape name index)) words (length l) n)) stands.entries
    ∙ entry_first shape n (length (entries_of shape said)) words (node_place shape name index))
same_fault shape n s said (Buffer name count words) stands =
    with_buffer_fault count words s (buffer_checked s.given (place_among shape.buffers name) count words s.asked n)
    ∙ (ap (λ (a : ℕ). fault_of (buffer_checked s.given (place_among shape.buffers name) count words a n)) stands.asked
    ∙ buffer_first s.given (λ b. given_at shape.buffers b said) n count (asked_of said) words (place_among shape.buffers name) (slot_there shape s said name stands))

-- the fault that reading a line answers is that of the first rule that the line breaks
pub line_fault : (shape : Shape) (n : ℕ) (s : Sofar) (said : List Line) (o : Option Line) → Stands shape s said → fault_of (line_added shape n s o) ≡ first_of (rules_of shape n said o)
line_fault shape n s said None stands = refl
line_fault shape n s said (Some line) stands = same_fault shape n s said line stands

-- ---- what a line adds

pub ok_is : {X : Type 0} (x y : X) → ◌≡◌ {A = Result X ScriptFault} (Ok x) (Ok y) → x ≡ y
ok_is x y e = cc

unless_ok : (k u : ℕ) (o : Option ScriptFault) → unless_broken k o ≡ Ok u → Some k ≡ Some u
unless_ok k u None e = ap (λ (m : ℕ). Some m) (ok_is k u e)
unless_ok k u (Some f) e = absurd cc

entry_ok : (shape : Shape) (words : List ℕ) (entries n u : ℕ) (node : Option ℕ) → entry_checked shape (option_map (entry_at shape) node) words entries n ≡ Ok u → (node >>= entry_at shape) ≡ Some u
entry_ok shape words entries n u None e = absurd cc
entry_ok shape words entries n u (Some node) e = choice (entry_at shape node) e
  where
    of_number : (k : ℕ) (o : Option Unit) → unit_checked o k words entries n ≡ Ok u → Some k ≡ Some u
    of_number k None h = absurd cc
    of_number k (Some unit) h = unless_ok k u (record_fault unit words entries n) h

    choice : (o : Option ℕ) → entry_checked shape (Some o) words entries n ≡ Ok u → o ≡ Some u
    choice None h = absurd cc
    choice (Some k) h = of_number k (slice_get shape.units k) h

record IsFree (slots : List (Option Given)) (place : Option ℕ) (b : ℕ) : Type 0 where
  is : place ≡ Some b
  none : slice_get slots b ≡ Some None

buffer_ok : (slots : List (Option Given)) (place : Option ℕ) (count : ℕ) (words : List ℕ) (asked n b : ℕ) → buffer_checked slots place count words asked n ≡ Ok b → IsFree slots place b
buffer_ok slots place count words asked n b e = many (nat_lt count (length words)) e
  where
    limited : (p : ℕ) → slice_get slots p ≡ Some None → (t : Bool) → (if t then Err (faults.TooMany n) else Ok p) ≡ Ok b → IsFree slots (Some p) b
    limited p g true h = absurd cc
    limited p g false h = let same = ok_is p b h in record { is = ap (λ (k : ℕ). Some k) same; none = subst (λ (k : ℕ). slice_get slots k ≡ Some None) same g }

    of_slot : (p : ℕ) (o : Option (Option Given)) → slice_get slots p ≡ o → slot_checked o p count asked n ≡ Ok b → IsFree slots (Some p) b
    of_slot p None g h = absurd cc
    of_slot p (Some (Some x)) g h = absurd cc
    of_slot p (Some None) g h = limited p g (nat_lt MOST_BUFFER_WORDS count || nat_lt MOST_ALL_BUFFER_WORDS (asked + count)) h

    of_place : (p : Option ℕ) → place_checked slots p count asked n ≡ Ok b → IsFree slots p b
    of_place None h = absurd cc
    of_place (Some p) h = of_slot p (slice_get slots p) refl h

    many : (t : Bool) → (if t then Err (faults.WordCount n count (length words)) else place_checked slots place count asked n) ≡ Ok b → IsFree slots place b
    many true h = absurd cc
    many false h = of_place place h

pub stands_more : (shape : Shape) (n : ℕ) (s new : Sofar) (said : List Line) (line : Line) → Stands shape s said → added shape n s line ≡ Ok new → Stands shape new (said ++ line ∷ [])
stands_more shape n s new said Nothing stands e = subst (λ (t : Sofar). Stands shape t (said ++ Nothing ∷ [])) (ok_is s new e) (stands_nothing shape s said stands)
stands_more shape n s new said (Entry name index words) stands e = choice (entry_checked shape (option_map (entry_at shape) (node_place shape name index)) words (length s.entries) n) refl e
  where
    choice : (r : Result ℕ ScriptFault) → entry_checked shape (option_map (entry_at shape) (node_place shape name index)) words (length s.entries) n ≡ r → with_entry words s r ≡ Ok new → Stands shape new (said ++ Entry name index words ∷ [])
    choice (Err f) is h = absurd cc
    choice (Ok unit) is h =
        subst (λ (t : Sofar). Stands shape t (said ++ Entry name index words ∷ [])) (ok_is (record s { entries = s.entries ++ (record { unit = unit; words = words }) ∷ [] }) new h)
        (stands_entry shape s said name index unit words stands (entry_ok shape words (length s.entries) n unit (node_place shape name index) is))
stands_more shape n s new said (Buffer name count words) stands e = choice (buffer_checked s.given (place_among shape.buffers name) count words s.asked n) refl e
  where
    choice : (r : Result ℕ ScriptFault) → buffer_checked s.given (place_among shape.buffers name) count words s.asked n ≡ r → with_buffer count words s r ≡ Ok new → Stands shape new (said ++ Buffer name count words ∷ [])
    choice (Err f) is h = absurd cc
    choice (Ok b) is h =
        let free = buffer_ok s.given (place_among shape.buffers name) count words s.asked n b is in
        let lt = within (λ (m : List ℕ). bytes_eq m name) 0 shape.buffers b free.is in
        let none = some_is (given_at shape.buffers b said) None (sym (slot_there shape s said name stands b free.is) ∙ free.none) in
        subst (λ (t : Sofar). Stands shape t (said ++ Buffer name count words ∷ [])) (ok_is (record s { given = slice_set s.given b (Some (record { count = count; words = words })); asked = s.asked + count }) new h)
        (stands_buffer shape s said name count words b stands free.is (omega arith) none)
