-- The fields of a line of a report are read as that line, and none of their bytes is a space or a line feed.
use Rattle.std.proofs.Common.{◌≡◌, ◌≢◌, ℕ, zero, suc, ◌+◌, ◌^◌, ◌<◌, ◌≤◌, true, false, cond, List, [], ◌∷◌, ◌++◌, length, Option, Some, None, refl, sym, ap, ◌∙◌, arith, lit≤}
use Rattle.std.specs.Prelude.{◌==◌, ◌&&◌, nat_lt, IsTrue, codes}
use Rattle.std.specs.Option.{option_map}
use Rattle.std.specs.Fmt.{decimal}
use Rattle.std.specs.List.{range_with_len}
use Rattle.std.specs.Str.{bytes_eq}
use Rattle.std.proofs.lemmas.Bool.{false_from_ne_true}
use Rattle.std.proofs.lemmas.Bool.Decides.{nat_tests}
use Rattle.std.proofs.lemmas.Slice.Eq.{bytes_eq-Decides}
use Rattle.wg_words.specs.Each.{Each}
use Rattle.wg_machine.specs.declared.shape.Shape.{Shape}
use Rattle.wg_machine.specs.declared.launch.Entry.{Entry}
use Rattle.wg_words.specs.Characters.{is_identifier}
use Rattle.wg_machine.specs.GoodShape.{IsGoodShape}
use Rattle.wg_machine.specs.declared.journal.Done.{Done}
use Rattle.wg_machine.specs.declared.journal.BufferLine.{BufferLine}
use Rattle.wg_machine.specs.declared.journal.Stop.{Stop}
use Rattle.wg_machine.specs.declared.journal.Stop.TheVariants.{Turns, Launches}
use Rattle.wg_journal.specs.declared.lines.Line.{Line}
use Rattle.wg_journal.specs.declared.lines.Line.TheVariants as lines
use Rattle.wg_journal.specs.Names.{NamesUnits}
use Rattle.wg_words.specs.Maybe.{◌>>=◌}
use Rattle.wg_text.specs.Numbers.{printed_number}
use Rattle.wg_journal.specs.Reading.{number_field, if_word, word_field, keyword_field, named_field, name_field, unit_field, group_field, onto_numbers, number_fields, onto_words, word_fields, outs_from, outs_at, is_some_rising, taken_at, launch_at, done_at, buffer_line_at, turns_at, launches_at, line_at}
use Rattle.wg_journal.specs.Report.{is_rising, IsTaken, IsGoodEntry, IsGoodDone, IsGoodBuffer}
use Rattle.wg_journal.specs.Texts.{unit_label}
use Rattle.wg_journal.proofs.NumberLemmas.{number_again, Visible, visible_decimal}
use Rattle.wg_journal.proofs.UnitLemmas.{visible_unit, visible_named, identifier_named}
use Rattle.wg_journal.proofs.JoinLemmas.{decimals}
use Rattle.wg_journal.proofs.LineForms.{taken_fields, line_fields, IsGoodLine}

-- ---- single fields

number_at_again : (n : ℕ) (rest : List (List ℕ)) → n < 2 ^ 64 → number_field (decimal n ∷ rest) ≡ Some (n, rest)
number_at_again n rest fits = ap (λ (o : Option ℕ). option_map (λ (k : ℕ). (k, rest)) o) (number_again n fits)

if_word_again : (n : ℕ) → n < 2 ^ 32 → if_word (printed_number (decimal n)) ≡ Some n
if_word_again n fits =
    let test : nat_lt n (2 ^ 32) ≡ true = grind (arith, nat_tests) in
    rw (number_again n (omega arith), test) refl

word_at_again : (n : ℕ) (rest : List (List ℕ)) → n < 2 ^ 32 → word_field (decimal n ∷ rest) ≡ Some (n, rest)
word_at_again n rest fits = ap (λ (o : Option ℕ). option_map (λ (k : ℕ). (k, rest)) o) (if_word_again n fits)

same_bytes : (word : List ℕ) → bytes_eq word word ≡ true
same_bytes word = (bytes_eq-Decides word word).1 refl

keyword_again : (word : List ℕ) (rest : List (List ℕ)) → keyword_field word (word ∷ rest) ≡ Some (tt, rest)
keyword_again word rest = rw (same_bytes word) refl

named_again : (word : List ℕ) (n : ℕ) (rest : List (List ℕ)) → n < 2 ^ 64 → named_field word (word ∷ decimal n ∷ rest) ≡ Some (n, rest)
unfolding named_field
named_again word n rest fits = rw (same_bytes word) (number_at_again n rest fits)

name_again : (name : List ℕ) (rest : List (List ℕ)) → IsTrue (is_identifier name) → name_field (name ∷ rest) ≡ Some (name, rest)
name_again name rest h = rw h refl

unit_again : (shape : Shape) (names : List ℕ → Option ℕ) → NamesUnits shape names → (u : ℕ) (rest : List (List ℕ)) → u < length shape.units → unit_field names (unit_label shape u ∷ rest) ≡ Some (u, rest)
unit_again shape names is u rest h = ap (λ (o : Option ℕ). option_map (λ (k : ℕ). (k, rest)) o) (is.again u h)

-- ---- many fields

numbers_again : (ns : List ℕ) (rest : List (List ℕ)) → Each (λ n. n < 2 ^ 64) ns → number_fields rest ≡ ([], rest) → number_fields (decimals ns ++ rest) ≡ (ns, rest)
numbers_again [] rest fits e = e
numbers_again (n ∷ ns) rest fits e =
    ap (λ (o : Option ℕ). onto_numbers o (decimal n ∷ (decimals ns ++ rest)) (number_fields (decimals ns ++ rest))) (number_again n fits.0)
    ∙ ap (λ (r : List ℕ × List (List ℕ)). (n ∷ r.0, r.1)) (numbers_again ns rest fits.1 e)

words_again : (ws : List ℕ) → Each (λ n. n < 2 ^ 32) ws → word_fields (decimals ws) ≡ Some ws
words_again [] fits = refl
words_again (n ∷ ws) fits =
    ap (λ (o : Option ℕ). onto_words o (word_fields (decimals ws))) (if_word_again n fits.0)
    ∙ ap (λ (o : Option (List ℕ)). option_map (λ (l : List ℕ). n ∷ l) o) (words_again ws fits.1)

outs_from_again : (more first count : ℕ) → count + more < 2 ^ 32 → first + (count + more) ≤ 2 ^ 64 → outs_from first count (decimals (range_with_len (first + count) more)) ≡ Some (first, count + more)
outs_from_again zero first count few fits = let e : count ≡ count + 0 = omega arith in ap (λ (k : ℕ). Some (first, k)) e
outs_from_again (suc more) first count few fits =
    let n = first + count in
    let test : ((n == first + count) && nat_lt (count + 1) (2 ^ 32)) ≡ true = grind (arith, nat_tests) in
    let step : n + 1 ≡ first + (count + 1) = omega arith in
    let all : count + 1 + more ≡ count + suc more = omega arith in
    ap (λ (o : Option ℕ). o >>= λ k. cond ((k == first + count) && nat_lt (count + 1) (2 ^ 32)) (outs_from first (count + 1) (decimals (range_with_len (n + 1) more))) None) (number_again n (omega arith))
    ∙ rw (test, step, ← all) (outs_from_again more first (count + 1) (omega arith) (omega arith))

outs_again : (first count : ℕ) → count < 2 ^ 32 → first + count ≤ 2 ^ 64 → (count ≡ 0 → first ≡ 0) → outs_at (decimals (range_with_len first count)) ≡ Some (first, count)
outs_again first zero few fits none = let e : 0 ≡ first = sym (none refl) in ap (λ (k : ℕ). Some (k, 0)) e
outs_again first (suc count) few fits none =
    let all : 1 + count ≡ suc count = omega arith in
    ap (λ (o : Option ℕ). o >>= λ k. outs_from k 1 (decimals (range_with_len (first + 1) count))) (number_again first (omega arith))
    ∙ (outs_from_again count first 1 (omega arith) (omega arith) ∙ ap (λ (k : ℕ). Some (first, k)) all)

-- ---- lines

some_rising : (ns : List ℕ) → ns ≢ [] → IsTrue (is_rising ns) → is_some_rising ns ≡ true
some_rising [] some h = absurd (some refl)
some_rising (n ∷ ns) some h = h

group_again : (x y z : ℕ) (rest : List (List ℕ)) → x < 2 ^ 32 → y < 2 ^ 32 → z < 2 ^ 32 → group_field (codes "g" ∷ decimal x ∷ decimal y ∷ decimal z ∷ rest) ≡ Some (x ∷ y ∷ z ∷ [], rest)
unfolding group_field
group_again x y z rest p q r =
    rw (
      word_at_again x (decimal y ∷ decimal z ∷ rest) p,
      word_at_again y (decimal z ∷ rest) q,
      word_at_again z rest r,
    ) refl

taken_again : (shape : Shape) (names : List ℕ → Option ℕ) → NamesUnits shape names → (unit : ℕ) (group inputs : List ℕ) (rest : List (List ℕ)) → IsTaken shape unit group inputs → number_fields rest ≡ ([], rest)
    → taken_at names (taken_fields shape unit group inputs rest) ≡ Some (record { unit = unit; group = group; inputs = inputs }, rest)
unfolding taken_at
taken_again shape names is unit [] inputs rest good e = absurd (let h = good.three in omega arith)
taken_again shape names is unit (x ∷ []) inputs rest good e = absurd (let h = good.three in omega arith)
taken_again shape names is unit (x ∷ y ∷ []) inputs rest good e = absurd (let h = good.three in omega arith)
taken_again shape names is unit (x ∷ y ∷ z ∷ w ∷ group) inputs rest good e = absurd (let h = good.three in omega arith)
taken_again shape names is unit (x ∷ y ∷ z ∷ []) inputs rest good e =
    let fields = decimals inputs ++ rest in
    let ns = numbers_again inputs rest good.inputs_fit e in
    let rise = some_rising inputs good.some good.rising in
    rw (
      unit_again shape names is unit (codes "g" ∷ decimal x ∷ decimal y ∷ decimal z ∷ codes "in" ∷ fields) good.unit_there,
      group_again x y z (codes "in" ∷ fields) good.group_fits.0 good.group_fits.1.0 good.group_fits.1.1.0,
      ns,
      rise,
    ) refl

launch_again : (shape : Shape) (names : List ℕ → Option ℕ) → NamesUnits shape names → (k : ℕ) (e : Entry) → k < 2 ^ 64 → IsGoodEntry shape e
    → launch_at names k (decimal k) (taken_fields shape e.unit e.at e.inputs (codes "out" ∷ decimals (range_with_len e.first_out e.outs))) ≡ Some e
unfolding launch_at
launch_again shape names is k e fits good =
    let outs = decimals (range_with_len e.first_out e.outs) in
    let place : (k == k) ≡ true = grind (arith, nat_tests) in
    let t = taken_again shape names is e.unit e.at e.inputs (codes "out" ∷ outs) good.taken refl in
    let o = outs_again e.first_out e.outs good.outs_few good.outs_fit good.none in
    rw (number_again k fits, place, t, o) refl

bind_is : {A B : Type 0} (o : Option A) (x : A) (f : A → Option B) (y : Option B) → o ≡ Some x → f x ≡ y → (o >>= f) ≡ y
bind_is o x f y e h = ap (λ (p : Option _). p >>= f) e ∙ h

done_again : (d : Done) → IsGoodDone d
    → done_at (codes "launches" ∷ decimal d.launches ∷ codes "records" ∷ decimal d.records ∷ codes "denied" ∷ decimal d.denied ∷ codes "peak" ∷ decimal d.peak ∷ codes "of" ∷ decimal d.bytes ∷ []) ≡ Some d
unfolding done_at
done_again d good =
    bind_is _ _ _ _ (named_again (codes "launches") d.launches (codes "records" ∷ decimal d.records ∷ codes "denied" ∷ decimal d.denied ∷ codes "peak" ∷ decimal d.peak ∷ codes "of" ∷ decimal d.bytes ∷ []) good.launches_fit)
    (bind_is _ _ _ _ (named_again (codes "records") d.records (codes "denied" ∷ decimal d.denied ∷ codes "peak" ∷ decimal d.peak ∷ codes "of" ∷ decimal d.bytes ∷ []) good.records_fit)
    (bind_is _ _ _ _ (named_again (codes "denied") d.denied (codes "peak" ∷ decimal d.peak ∷ codes "of" ∷ decimal d.bytes ∷ []) good.denied_fit)
    (bind_is _ _ _ _ (named_again (codes "peak") d.peak (codes "of" ∷ decimal d.bytes ∷ []) good.peak_fits)
    (bind_is _ _ _ _ (named_again (codes "of") d.bytes [] good.bytes_fit) refl))))

buffer_again : (b : BufferLine) → IsGoodBuffer b → buffer_line_at (b.name ∷ decimal b.count ∷ decimals b.words) ≡ Some b
unfolding buffer_line_at
buffer_again b good =
    bind_is _ _ _ _ (name_again b.name (decimal b.count ∷ decimals b.words) good.named)
    (bind_is _ _ _ _ (number_at_again b.count (decimals b.words) good.count_fits)
    (bind_is _ _ _ _ (words_again b.words good.words_fit) refl))

turns_again : (shape : Shape) (names : List ℕ → Option ℕ) → NamesUnits shape names → (turns unit : ℕ) (group inputs : List ℕ) → turns < 2 ^ 64 → IsTaken shape unit group inputs
    → turns_at names (decimal turns ∷ taken_fields shape unit group inputs []) ≡ Some (Turns turns unit group inputs)
unfolding turns_at
turns_again shape names is turns unit group inputs fits good =
    bind_is _ _ _ _ (number_at_again turns (taken_fields shape unit group inputs []) fits)
    (bind_is _ _ _ _ (taken_again shape names is unit group inputs [] good refl) refl)

launches_again : (launches : ℕ) → launches < 2 ^ 64 → launches_at (decimal launches ∷ []) ≡ Some (Launches launches)
unfolding launches_at
launches_again launches fits = bind_is _ _ _ _ (number_at_again launches [] fits) refl

-- a number is no word
number_no_word : (k : ℕ) (word : List ℕ) → k < 2 ^ 64 → printed_number word ≡ None → bytes_eq (decimal k) word ≡ false
number_no_word k word fits none = false_from_ne_true (bytes_eq (decimal k) word) (λ t.
    let same = (bytes_eq-Decides (decimal k) word).0 t in
    let some : Some k ≡ None = sym (number_again k fits) ∙ (ap printed_number same ∙ none) in
    absurd (cc some))

-- the fields of a good line are read as the line
pub line_again : (shape : Shape) (names : List ℕ → Option ℕ) → NamesUnits shape names → (k : ℕ) (l : Line) → k < 2 ^ 64 → IsGoodLine shape l → line_at names k (line_fields shape k l) ≡ Some l
line_again shape names is k (lines.Launch e) fits good =
    rw (number_no_word k (codes "done") fits refl, number_no_word k (codes "buffer") fits refl, number_no_word k (codes "stopped") fits refl, launch_again shape names is k e fits good) refl
line_again shape names is k (lines.Done d) fits good = ap (λ (o : Option Done). option_map (λ (d : Done). lines.Done d) o) (done_again d good)
line_again shape names is k (lines.Buffer b) fits good = ap (λ (o : Option BufferLine). option_map (λ (b : BufferLine). lines.Buffer b) o) (buffer_again b good)
line_again shape names is k (lines.Stop (Turns turns unit group inputs)) fits good = ap (λ (o : Option Stop). option_map (λ (s : Stop). lines.Stop s) o) (turns_again shape names is turns unit group inputs good.0 good.1)
line_again shape names is k (lines.Stop (Launches launches)) fits good = ap (λ (o : Option Stop). option_map (λ (s : Stop). lines.Stop s) o) (launches_again launches good)

-- ---- the bytes of a good line's fields

visible_then : (a b : List (List ℕ)) → Each Visible a → Each Visible b → Each Visible (a ++ b)
visible_then [] b p q = q
visible_then (f ∷ a) b p q = (p.0, visible_then a b p.1 q)

visible_decimals : (ns : List ℕ) → Each (λ n. n < 2 ^ 64) ns → Each Visible (decimals ns)
visible_decimals [] fits = tt
visible_decimals (n ∷ ns) fits = (visible_decimal n fits.0, visible_decimals ns fits.1)

wider : (ns : List ℕ) → Each (λ n. n < 2 ^ 32) ns → Each (λ n. n < 2 ^ 64) ns
wider [] fits = tt
wider (n ∷ ns) fits = (let h = fits.0 in omega arith, wider ns fits.1)

range_fits : (first count : ℕ) → first + count ≤ 2 ^ 64 → Each (λ n. n < 2 ^ 64) (range_with_len first count)
range_fits first zero fits = tt
range_fits first (suc count) fits = (omega arith, range_fits (first + 1) count (omega arith))

visible_taken : (shape : Shape) (good : IsGoodShape shape) (names : List ℕ → Option ℕ) → NamesUnits shape names → (unit : ℕ) (group inputs : List ℕ) (rest : List (List ℕ)) → IsTaken shape unit group inputs → Each Visible rest → Each Visible (taken_fields shape unit group inputs rest)
visible_taken shape good names is unit group inputs rest taken h = (
  visible_unit shape good unit taken.unit_there (is.index unit taken.unit_there),
  (
    (lit≤ tt, tt),
    visible_then (decimals group) (codes "in" ∷ (decimals inputs ++ rest)) (visible_decimals group (wider group taken.group_fits))
        ((lit≤ tt, (lit≤ tt, tt)), visible_then (decimals inputs) rest (visible_decimals inputs taken.inputs_fit) h),
  ),
)

pub visible_line : (shape : Shape) (good : IsGoodShape shape) (names : List ℕ → Option ℕ) → NamesUnits shape names → (k : ℕ) (l : Line) → k < 2 ^ 64 → IsGoodLine shape l → Each Visible (line_fields shape k l)
visible_line shape good names is k (lines.Launch e) fits g =
    (visible_decimal k fits, visible_taken shape good names is e.unit e.at e.inputs (codes "out" ∷ decimals (range_with_len e.first_out e.outs)) g.taken ((lit≤ tt, (lit≤ tt, (lit≤ tt, tt))), visible_decimals (range_with_len e.first_out e.outs) (range_fits e.first_out e.outs g.outs_fit)))
visible_line shape good names is k (lines.Done d) fits g =
    ((lit≤ tt, (lit≤ tt, (lit≤ tt, (lit≤ tt, tt)))), ((lit≤ tt, (lit≤ tt, (lit≤ tt, (lit≤ tt, (lit≤ tt, (lit≤ tt, (lit≤ tt, (lit≤ tt, tt)))))))), (visible_decimal d.launches g.launches_fit, ((lit≤ tt, (lit≤ tt, (lit≤ tt, (lit≤ tt, (lit≤ tt, (lit≤ tt, (lit≤ tt, tt))))))), (visible_decimal d.records g.records_fit, ((lit≤ tt, (lit≤ tt, (lit≤ tt, (lit≤ tt, (lit≤ tt, (lit≤ tt, tt)))))), (visible_decimal d.denied g.denied_fit, ((lit≤ tt, (lit≤ tt, (lit≤ tt, (lit≤ tt, tt)))), (visible_decimal d.peak g.peak_fits, ((lit≤ tt, (lit≤ tt, tt)), (visible_decimal d.bytes g.bytes_fit, tt)))))))))))
visible_line shape good names is k (lines.Buffer b) fits g =
    ((lit≤ tt, (lit≤ tt, (lit≤ tt, (lit≤ tt, (lit≤ tt, (lit≤ tt, tt)))))), (visible_named b.name (identifier_named b.name g.named), (visible_decimal b.count g.count_fits, visible_decimals b.words (wider b.words g.words_fit))))
visible_line shape good names is k (lines.Stop (Turns turns unit group inputs)) fits g =
    ((lit≤ tt, (lit≤ tt, (lit≤ tt, (lit≤ tt, (lit≤ tt, (lit≤ tt, (lit≤ tt, tt))))))), ((lit≤ tt, (lit≤ tt, (lit≤ tt, (lit≤ tt, (lit≤ tt, tt))))), (visible_decimal turns g.0, visible_taken shape good names is unit group inputs [] g.1 tt)))
visible_line shape good names is k (lines.Stop (Launches launches)) fits g =
    ((lit≤ tt, (lit≤ tt, (lit≤ tt, (lit≤ tt, (lit≤ tt, (lit≤ tt, (lit≤ tt, tt))))))), ((lit≤ tt, (lit≤ tt, (lit≤ tt, (lit≤ tt, (lit≤ tt, (lit≤ tt, (lit≤ tt, (lit≤ tt, tt)))))))), (visible_decimal launches g, tt)))
