-- What the lines so far gave is what the definitions say of them.
use Rattle.std.proofs.Common.{◌≡◌, ℕ, ◌+◌, ◌<◌, Bool, true, false, List, [], ◌∷◌, ◌++◌, length, get_or, replicate, Option, Some, None, refl, sym, ap, subst, ◌∙◌, ⊎_elim, arith}
use Rattle.std.specs.Prelude.{◌==◌, slice_get, slice_set, unwrap_or, if◌then◌else◌, map, slice_index}
use Rattle.std.specs.Option.{option_map}
use Rattle.std.proofs.lemmas.List.{append-nil, get_or-set_same, get_or-set_other, length-set, get_or-replicate, length-replicate, length-map}
use Rattle.std.proofs.lemmas.List.Sums.{sum_by-append}
use Rattle.std.proofs.lemmas.Grind.{flat_map-append}
use Rattle.std.proofs.lemmas.Option.{slice_get-map, slice_get-get_or, unwrap_or-slice_get}
use Rattle.std.proofs.lemmas.Bool.Decides.{nat_tests}
use Rattle.std.proofs.lemmas.Bool.{cases_eq}
use Rattle.wg_machine.specs.declared.launch.Sent.{Sent}
use Rattle.wg_machine.specs.declared.shape.Shape.{Shape}
use Rattle.wg_machine.specs.Buffers.{buffer_at}
use Rattle.wg_script.specs.declared.draft.Given.{Given}
use Rattle.wg_script.specs.declared.lines.Line.{Line}
use Rattle.wg_script.specs.declared.lines.Line.TheVariants.{Nothing, Entry, Buffer}
use Rattle.wg_words.specs.Padding.{padded}
use Rattle.wg_script.specs.Naming.{entry_unit_at, place_among}
use Rattle.wg_script.specs.Reading.{Sofar}
use Rattle.wg_script.specs.Script.{handed, entries_of, is_place, given_by, or_else, given_at, asked_by, asked_of, count_given, words_given, whole_buffer, IsScript}

-- the parts of a draft are those of what was said
pub record Stands (shape : Shape) (s : Sofar) (said : List Line) : Type 0 where
  pub entries : s.entries ≡ entries_of shape said
  pub slots : length s.given ≡ length shape.buffers
  pub given : (b : ℕ) → b < length shape.buffers → get_or s.given b None ≡ given_at shape.buffers b said
  pub asked : s.asked ≡ asked_of said

pub stands_first : (shape : Shape) → Stands shape (record { entries = []; given = replicate (length shape.buffers) None; asked = 0 }) []
stands_first shape = record {
  entries = refl;
  slots = length-replicate (length shape.buffers) None;
  given = λ b h. get_or-replicate (length shape.buffers) b None None h;
  asked = refl;
}

-- ---- one more line

or_none : {A : Type 0} (o : Option A) → or_else o None ≡ o
or_none None = refl
or_none (Some x) = refl

or_later : {A : Type 0} (o p q : Option A) → or_else (or_else o p) q ≡ or_else o (or_else p q)
or_later None p q = refl
or_later (Some x) p q = refl

given_more : (names : List (List ℕ)) (b : ℕ) (said : List Line) (line : Line) → given_at names b (said ++ line ∷ []) ≡ or_else (given_at names b said) (given_by names b line)
given_more names b [] line = or_none (given_by names b line)
given_more names b (l ∷ said) line = ap (or_else (given_by names b l)) (given_more names b said line) ∙ sym (or_later (given_by names b l) (given_at names b said) (given_by names b line))

entries_more : (shape : Shape) (said : List Line) (line : Line) → entries_of shape (said ++ line ∷ []) ≡ entries_of shape said ++ handed shape line
entries_more shape said line = flat_map-append (handed shape) said (line ∷ []) ∙ ap (λ (l : List Sent). entries_of shape said ++ l) (append-nil (handed shape line))

asked_more : (said : List Line) (line : Line) → asked_of (said ++ line ∷ []) ≡ asked_of said + asked_by line
asked_more said line = sum_by-append asked_by said (line ∷ []) ∙ ap (λ (n : ℕ). asked_of said + n) (omega arith)

-- a line that says nothing of the buffers leaves their lines
given_same : (shape : Shape) (s : Sofar) (said : List Line) (line : Line) → Stands shape s said → ((b : ℕ) → given_by shape.buffers b line ≡ None) → (b : ℕ) → b < length shape.buffers → get_or s.given b None ≡ given_at shape.buffers b (said ++ line ∷ [])
given_same shape s said line stands none b h =
    stands.given b h ∙ (sym (or_none (given_at shape.buffers b said)) ∙ (ap (or_else (given_at shape.buffers b said)) (sym (none b)) ∙ sym (given_more shape.buffers b said line)))

pub stands_nothing : (shape : Shape) (s : Sofar) (said : List Line) → Stands shape s said → Stands shape s (said ++ Nothing ∷ [])
stands_nothing shape s said stands = record {
  entries = stands.entries ∙ (sym (append-nil (entries_of shape said)) ∙ sym (entries_more shape said Nothing));
  slots = stands.slots;
  given = given_same shape s said Nothing stands (λ b. refl);
  asked = stands.asked ∙ (omega arith ∙ sym (asked_more said Nothing));
}

pub stands_entry : (shape : Shape) (s : Sofar) (said : List Line) (name : List ℕ) (index unit : ℕ) (words : List ℕ) → Stands shape s said → entry_unit_at shape name index ≡ Some unit
    → Stands shape (record s { entries = s.entries ++ (record { unit = unit; words = words }) ∷ [] }) (said ++ Entry name index words ∷ [])
stands_entry shape s said name index unit words stands is =
    let line = Entry name index words in
    let hands : handed shape line ≡ (record { unit = unit; words = words }) ∷ [] = ap (λ (o : Option ℕ). (record { unit = unwrap_or o 0; words = words }) ∷ []) is in
    record {
      entries = ap (λ (l : List Sent). l ++ (record { unit = unit; words = words }) ∷ []) stands.entries ∙ (ap (λ (l : List Sent). entries_of shape said ++ l) (sym hands) ∙ sym (entries_more shape said line));
      slots = stands.slots;
      given = given_same shape s said line stands (λ b. refl);
      asked = stands.asked ∙ (omega arith ∙ sym (asked_more said line));
    }

pub stands_buffer : (shape : Shape) (s : Sofar) (said : List Line) (name : List ℕ) (count : ℕ) (words : List ℕ) (place : ℕ) → Stands shape s said → place_among shape.buffers name ≡ Some place → place < length shape.buffers → given_at shape.buffers place said ≡ None
    → Stands shape (record s { given = slice_set s.given place (Some (record { count = count; words = words })); asked = s.asked + count }) (said ++ Buffer name count words ∷ [])
stands_buffer shape s said name count words place stands is within none =
    let line = Buffer name count words in
    let slots = stands.slots in
    let g : Option Given = Some (record { count = count; words = words }) in
    let by : (b : ℕ) → given_by shape.buffers b line ≡ (if place == b then g else None) = λ b. ap (λ (o : Option ℕ). if is_place b o then g else None) is in
    record {
      entries = stands.entries ∙ (sym (append-nil (entries_of shape said)) ∙ sym (entries_more shape said line));
      slots = length-set s.given place g ∙ slots;
      given = λ b h. ⊎_elim
          (λ e. (
          let test : (place == b) ≡ true = grind (arith, nat_tests) in
          let here : given_at shape.buffers b (said ++ line ∷ []) ≡ g = given_more shape.buffers b said line ∙ (ap (λ (o : Option Given). or_else o (given_by shape.buffers b line)) (subst (λ (k : ℕ). given_at shape.buffers k said ≡ None) e none) ∙ (by b ∙ ap (λ (t : Bool). if t then g else None) test)) in
          ap (λ (k : ℕ). get_or (slice_set s.given place g) k None) (sym e) ∙ (get_or-set_same s.given place g None (omega arith) ∙ sym here)))
          (λ ne. (
          let test : (place == b) ≡ false = grind (arith, nat_tests) in
          let by_none : given_by shape.buffers b line ≡ None = by b ∙ ap (λ (t : Bool). if t then g else None) test in
          let there : given_at shape.buffers b (said ++ line ∷ []) ≡ given_at shape.buffers b said = given_more shape.buffers b said line ∙ (ap (or_else (given_at shape.buffers b said)) by_none ∙ or_none (given_at shape.buffers b said)) in
          get_or-set_other s.given place b g None (λ e. ne (sym e)) ∙ (stands.given b h ∙ sym there)))
          (cases_eq place b);
      asked = ap (λ (n : ℕ). n + count) stands.asked ∙ sym (asked_more said line);
    }

-- ---- the script

pub is_script : (shape : Shape) (s : Sofar) (said : List Line) → Stands shape s said → IsScript shape said (record { entries = s.entries; lengths = map count_given s.given; start = map words_given s.given })
is_script shape s said stands =
    record {
      entries = stands.entries;
      lengths = length-map s.given count_given ∙ stands.slots;
      starts = length-map s.given words_given ∙ stands.slots;
      count = count;
      given = given;
      zeros = λ b h. (ap (λ (l : List ℕ). padded l (slice_index (map count_given s.given) b)) (given b h) ∙ (ap (padded (words_given (given_at shape.buffers b said))) (count b h) ∙ filled (given_at shape.buffers b said)));
    }
  where
    slot : (b : ℕ) → b < length shape.buffers → slice_get s.given b ≡ Some (given_at shape.buffers b said)
    slot b h = let e = stands.slots in slice_get-get_or s.given b None (omega arith) ∙ ap (λ (o : Option Given). Some o) (stands.given b h)

    count : (b : ℕ) → b < length shape.buffers → slice_index (map count_given s.given) b ≡ count_given (given_at shape.buffers b said)
    count b h = sym (unwrap_or-slice_get (map count_given s.given) b 0) ∙ (ap (λ (o : Option ℕ). unwrap_or o 0) (slice_get-map count_given s.given b) ∙ ap (λ (o : Option (Option Given)). unwrap_or (option_map count_given o) 0) (slot b h))

    given : (b : ℕ) → b < length shape.buffers → buffer_at (map words_given s.given) b ≡ words_given (given_at shape.buffers b said)
    given b h = ap (λ (o : Option (List ℕ)). unwrap_or o []) (slice_get-map words_given s.given b) ∙ ap (λ (o : Option (Option Given)). unwrap_or (option_map words_given o) []) (slot b h)

    filled : (o : Option Given) → padded (words_given o) (count_given o) ≡ whole_buffer o
    filled None = refl
    filled (Some g) = refl
