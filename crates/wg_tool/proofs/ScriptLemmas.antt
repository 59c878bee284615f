-- A text is one script of the first form.
use Rattle.std.proofs.Common.{◌≡◌, ◌≢◌, ℕ, ◌^◌, ◌<◌, Bool, true, false, List, [], ◌∷◌, ◌++◌, length, Option, Some, None, refl, ap, sym, ◌∙◌, subst, arith, append_assoc, get_or}
use Rattle.std.specs.Prelude.{IsTrue, nat_lt, map, slice_get, slice_index, unwrap_or}
use Rattle.std.specs.Option.{option_map}
use Rattle.std.specs.List.{position, position_or_len}
use Rattle.std.specs.Fmt.{decimal}
use Rattle.std.proofs.lemmas.Bool.Decides.{nat_tests}
use Rattle.std.proofs.lemmas.List.{append_cancel_left, append-nil}
use Rattle.std.proofs.lemmas.List.Quantifiers.{position-Some}
use Rattle.std.proofs.lemmas.List.Sums.{position_or_len_is}
use Rattle.std.proofs.lemmas.Option.{slice_get-get_or, slice_get-map}
use Rattle.std.proofs.lemmas.Slice.Eq.{bytes_eq-Decides}
use Rattle.wg_words.specs.Each.{Each}
use Rattle.wg_machine.specs.declared.launch.Sent.{Sent}
use Rattle.wg_machine.specs.declared.shape.NodeName.{NodeName}
use Rattle.wg_tool.specs.declared.pair.Pair.{Pair}
use Rattle.wg_tool.specs.declared.script.TheConstants.{SCRIPT_LINE, ENTRY, BLANK, LINE_END}
use Rattle.wg_tool.specs.Parts.{is_name, ends_name}
use Rattle.wg_tool.specs.FirstForm.{IsGoodPair, IsFirstForm, is_named, names_differ}
use Rattle.wg_tool.specs.Script.{entry_line, pair_name_at, line_of, entry_lines, script_text, IsFormEntry}
use Rattle.wg_tool.specs.Wiring.{node_of, targets_of, is_free}
use Rattle.wg_tool.proofs.PartLemmas.{name_once, word_once}
use Rattle.wg_tool.proofs.FormLemmas.{all_regrouped, after_part}
use Rattle.wg_tool.proofs.GoodShapes.{nodes_differ, same_bytes, each_at}

pub line_joined : (bytes a b d f name rest : List ℕ) (word : ℕ) → bytes ≡ ENTRY.now ++ a → a ≡ name ++ b → b ≡ BLANK.now ++ d → d ≡ decimal word ++ f → f ≡ LINE_END.now ++ rest → bytes ≡ entry_line name word ++ rest
line_joined bytes a b d f name rest word p q r s t = rw (p, q, r, s, t) (sym (all_regrouped ENTRY.now name BLANK.now (decimal word) LINE_END.now rest))

-- what the name of a line and what follows it are
pub line_named : (bytes a b name other more : List ℕ) (word : ℕ) → bytes ≡ ENTRY.now ++ a → a ≡ name ++ b → IsTrue (is_name name) → IsTrue (ends_name b) → IsTrue (is_name other) → bytes ≡ entry_line other word ++ more → (name ≡ other) × (b ≡ BLANK.now ++ (decimal word ++ (LINE_END.now ++ more)))
line_named bytes a b name other more word p q is ends good e =
    let rest = after_part bytes ENTRY.now a (other ++ (BLANK.now ++ (decimal word ++ (LINE_END.now ++ more)))) p (e ∙ all_regrouped ENTRY.now other BLANK.now (decimal word) LINE_END.now more) in
    name_once name other b (BLANK.now ++ (decimal word ++ (LINE_END.now ++ more))) is good ends refl (sym q ∙ rest)

-- a text begins with one line
pub line_once : (m n a b : List ℕ) (v w : ℕ) → IsTrue (is_name m) → IsTrue (is_name n) → v < 2 ^ 32 → w < 2 ^ 32 → entry_line m v ++ a ≡ entry_line n w ++ b → (m ≡ n) × (v ≡ w) × (a ≡ b)
line_once m n a b v w p q f g e =
    let h = line_named (entry_line m v ++ a) (m ++ (BLANK.now ++ (decimal v ++ (LINE_END.now ++ a)))) (BLANK.now ++ (decimal v ++ (LINE_END.now ++ a))) m n b w (all_regrouped ENTRY.now m BLANK.now (decimal v) LINE_END.now a) refl p refl q e in
    let k = word_once v w (LINE_END.now ++ a) (LINE_END.now ++ b) f g refl refl (append_cancel_left BLANK.now _ _ h.1) in
    (h.0, k.0, append_cancel_left LINE_END.now a b k.1)

no_pair : Pair
no_pair = record { name = []; sends = None }

name_is : (pairs : List Pair) (u : ℕ) → u < length pairs → pair_name_at pairs u ≡ (get_or pairs u no_pair).name
name_is pairs u h = ap (λ (o : Option Pair). unwrap_or (option_map (λ (p : Pair). p.name) o) []) (slice_get-get_or pairs u no_pair h)

node_there : (pairs : List Pair) (u : ℕ) → u < length pairs → slice_get (map node_of pairs) u ≡ Some (node_of (get_or pairs u no_pair))
node_there pairs u h = slice_get-map node_of pairs u ∙ ap (λ (o : Option Pair). option_map node_of o) (slice_get-get_or pairs u no_pair h)

node_equal : (m n : List ℕ) → m ≡ n → let a : NodeName = record { name = m; index = 0 } in let b : NodeName = record { name = n; index = 0 } in a ≡ b
node_equal m n e = rw e refl

-- one pair has a name
pub name_place : (pairs : List Pair) (i j : ℕ) → IsTrue (names_differ pairs) → i < length pairs → j < length pairs → pair_name_at pairs i ≡ pair_name_at pairs j → i ≡ j
name_place pairs i j d p q e =
    let same : (get_or pairs i no_pair).name ≡ (get_or pairs j no_pair).name = sym (name_is pairs i p) ∙ (e ∙ name_is pairs j q) in
    let node = node_equal (get_or pairs i no_pair).name (get_or pairs j no_pair).name same in
    nodes_differ pairs i j (node_of (get_or pairs j no_pair)) d (node_there pairs i p ∙ ap (λ (n : NodeName). Some n) node) (node_there pairs j q)

named_true : (name : List ℕ) (p : Pair) → is_named name p ≡ true → p.name ≡ name
named_true name p e = (bytes_eq-Decides p.name name).0 e

-- the place of a pair's name is the pair's
pub place_is : (pairs : List Pair) (u : ℕ) → IsTrue (names_differ pairs) → u < length pairs → position (is_named (pair_name_at pairs u)) pairs ≡ Some u
place_is pairs u d h =
    let first : position_or_len (is_named (pair_name_at pairs u)) pairs ≡ u = position_or_len_is (is_named (pair_name_at pairs u)) pairs u no_pair (omega arith) (λ k less. before k less (is_named (pair_name_at pairs u) (get_or pairs k no_pair)) refl) (λ inside. same_bytes (get_or pairs u no_pair).name (pair_name_at pairs u) (sym (name_is pairs u h))) in
    let inside : nat_lt u (length pairs) ≡ true = grind (arith, nat_tests) in
    rw (first, inside) refl
  where
    before : (k : ℕ) → k < u → (b : Bool) → is_named (pair_name_at pairs u) (get_or pairs k no_pair) ≡ b → b ≡ false
    before k less false e = refl
    before k less true e =
        let in_k : k < length pairs = omega arith in
        let same = name_place pairs k u d in_k h (name_is pairs k in_k ∙ named_true (pair_name_at pairs u) (get_or pairs k no_pair) e) in
        absurd (omega arith)

-- what is found by a name has it
pub placed_name : (pairs : List Pair) (name : List ℕ) (u : ℕ) → position (is_named name) pairs ≡ Some u → (u < length pairs) × (pair_name_at pairs u ≡ name)
placed_name pairs name u e =
    let s = position-Some (is_named name) pairs u no_pair e in
    (s.0, name_is pairs u s.0 ∙ named_true name (get_or pairs u no_pair) s.1)

pub good_name : (pairs : List Pair) (u : ℕ) → Each IsGoodPair pairs → u < length pairs → IsTrue (is_name (pair_name_at pairs u))
good_name pairs u all h =
    let p = each_at IsGoodPair pairs u (get_or pairs u no_pair) all (slice_get-get_or pairs u no_pair h) in
    subst (λ (n : List ℕ). IsTrue (is_name n)) (sym (name_is pairs u h)) p.name

-- what a line that was read says of an entry record with that line
pub entry_read : (pairs : List Pair) (bytes name rest more : List ℕ) (word : ℕ) (s : Sent) → IsFirstForm pairs → IsTrue (is_name name) → word < 2 ^ 32 → bytes ≡ entry_line name word ++ rest → IsFormEntry pairs s → bytes ≡ line_of pairs s ++ more → (position (is_named name) pairs ≡ Some s.unit) × (word ≡ slice_index s.words 0) × (rest ≡ more)
entry_read pairs bytes name rest more word s form is few p good e =
    let h = line_once name (pair_name_at pairs s.unit) rest more word (slice_index s.words 0) is (good_name pairs s.unit form.each good.unit) few good.word (sym p ∙ e) in
    (subst (λ (n : List ℕ). position (is_named n) pairs ≡ Some s.unit) (sym h.0) (place_is pairs s.unit form.differ good.unit), h.1, h.2)

-- what reads an entry record has found it
pub entry_found : (pairs : List Pair) (bytes name rest words : List ℕ) (word u unit : ℕ) → bytes ≡ entry_line name word ++ rest → word < 2 ^ 32 → position (is_named name) pairs ≡ Some u → unit ≡ u → is_free (targets_of pairs) unit ≡ true → words ≡ word ∷ []
    → let s : Sent = record { unit = unit; words = words } in IsFormEntry pairs s × (bytes ≡ line_of pairs s ++ rest)
entry_found pairs bytes name rest words word u unit p few at e free w =
    let named = placed_name pairs name u at in
    rw (w, e) (record { unit = named.0; free = subst (λ (n : ℕ). is_free (targets_of pairs) n ≡ true) e free; one = refl; word = few }, p ∙ ap (λ (n : List ℕ). entry_line n word ++ rest) (sym named.1))

sent_equal : (u v w x : ℕ) → u ≡ v → w ≡ x → let s : Sent = record { unit = u; words = w ∷ [] } in let t : Sent = record { unit = v; words = x ∷ [] } in s ≡ t
sent_equal u v w x p q = rw (p, q) refl

one_word : (s : Sent) (w : ℕ) → s.words ≡ w ∷ [] → let t : Sent = record { unit = s.unit; words = w ∷ [] } in s ≡ t
one_word s w e = ap (λ (l : List ℕ). let t : Sent = record { unit = s.unit; words = l } in t) e

-- a text begins with one entry record
pub entry_once : (pairs : List Pair) (s t : Sent) (a b : List ℕ) → IsFirstForm pairs → IsFormEntry pairs s → IsFormEntry pairs t → line_of pairs s ++ a ≡ line_of pairs t ++ b → (s ≡ t) × (a ≡ b)
entry_once pairs s t a b form g h e =
    let k = line_once (pair_name_at pairs s.unit) (pair_name_at pairs t.unit) a b (slice_index s.words 0) (slice_index t.words 0) (good_name pairs s.unit form.each g.unit) (good_name pairs t.unit form.each h.unit) g.word h.word e in
    let unit = name_place pairs s.unit t.unit form.differ g.unit h.unit k.0 in
    (one_word s (slice_index s.words 0) g.one ∙ (sent_equal s.unit t.unit (slice_index s.words 0) (slice_index t.words 0) unit k.1 ∙ sym (one_word t (slice_index t.words 0) h.one)), k.2)

pub entry_lines_push : (pairs : List Pair) (entries : List Sent) (s : Sent) → entry_lines pairs (entries ++ s ∷ []) ≡ entry_lines pairs entries ++ line_of pairs s
entry_lines_push pairs [] s = append-nil (line_of pairs s)
entry_lines_push pairs (x ∷ entries) s = ap (λ (t : List ℕ). line_of pairs x ++ t) (entry_lines_push pairs entries s) ∙ sym (append_assoc (line_of pairs x) (entry_lines pairs entries) (line_of pairs s))

-- what is left of the entries of a text, after one more
pub entries_left : (pairs : List Pair) (rest after : List ℕ) (so_far es : List Sent) (s : Sent) → IsFirstForm pairs → IsFormEntry pairs s → rest ≢ [] → rest ≡ line_of pairs s ++ after → (tail : List Sent) → es ≡ so_far ++ tail → Each (IsFormEntry pairs) tail → rest ≡ entry_lines pairs tail → (more : List Sent) × (es ≡ (so_far ++ s ∷ []) ++ more) × Each (IsFormEntry pairs) more × (after ≡ entry_lines pairs more)
entries_left pairs rest after so_far es s form good some e [] h all q = absurd (some q)
entries_left pairs rest after so_far es s form good some e (x ∷ xs) h all q =
    let same = entry_once pairs x s (entry_lines pairs xs) after form all.0 good (sym q ∙ e) in
    (xs, h ∙ (ap (λ (y : Sent). so_far ++ y ∷ xs) same.0 ∙ sym (append_assoc so_far (s ∷ []) xs)), all.1, sym same.1)

-- a text that is left has a first entry record
pub first_entry : (pairs : List Pair) (rest : List ℕ) (tail : List Sent) → rest ≢ [] → Each (IsFormEntry pairs) tail → rest ≡ entry_lines pairs tail → (s : Sent) × (more : List ℕ) × IsFormEntry pairs s × (rest ≡ line_of pairs s ++ more)
first_entry pairs rest [] some all q = absurd (some q)
first_entry pairs rest (x ∷ xs) some all q = (x, entry_lines pairs xs, all.0, q)

entries_once : (pairs : List Pair) (es fs : List Sent) → IsFirstForm pairs → Each (IsFormEntry pairs) es → Each (IsFormEntry pairs) fs → entry_lines pairs es ≡ entry_lines pairs fs → es ≡ fs
entries_once pairs [] [] form p q e = refl
entries_once pairs [] (y ∷ fs) form p q e = absurd (cc)
entries_once pairs (x ∷ es) [] form p q e = absurd (cc)
entries_once pairs (x ∷ es) (y ∷ fs) form p q e =
    let h = entry_once pairs x y (entry_lines pairs es) (entry_lines pairs fs) form p.0 q.0 e in
    let t = entries_once pairs es fs form p.1 q.1 h.1 in
    rw (h.0, t) refl

-- one text has one list of entry records
pub script_once : (pairs : List Pair) (es fs : List Sent) → IsFirstForm pairs → Each (IsFormEntry pairs) es → Each (IsFormEntry pairs) fs → script_text pairs es ≡ script_text pairs fs → es ≡ fs
script_once pairs es fs form p q e = entries_once pairs es fs form p q (append_cancel_left SCRIPT_LINE.now _ _ e)
