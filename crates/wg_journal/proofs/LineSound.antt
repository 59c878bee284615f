-- What is read of a line is a line of a report, and its fields are those of that line.
use Rattle.std.proofs.Common.{◌≡◌, ◌≢◌, ℕ, suc, ◌+◌, ◌^◌, ◌<◌, ◌≤◌, Bool, true, false, cond, List, [], ◌∷◌, ◌++◌, length, Option, Some, None, refl, sym, ap, subst, ◌∙◌, arith}
use Rattle.std.specs.Prelude.{◌==◌, ◌&&◌, nat_lt, IsTrue, codes}
use Rattle.std.specs.Option.{option_map}
use Rattle.std.specs.Fmt.{decimal}
use Rattle.std.specs.List.{range_with_len}
use Rattle.std.specs.Str.{bytes_eq}
use Rattle.std.proofs.lemmas.Bool.{eqb-true}
use Rattle.std.proofs.lemmas.Bool.Decides.{nat_tests}
use Rattle.std.proofs.lemmas.Slice.Eq.{bytes_eq-Decides}
use Rattle.wg_words.specs.Each.{Each}
use Rattle.wg_machine.specs.declared.shape.Shape.{Shape}
use Rattle.wg_machine.specs.declared.launch.Entry.{Entry}
use Rattle.wg_words.specs.Characters.{is_identifier}
use Rattle.wg_machine.specs.declared.journal.Done.{Done}
use Rattle.wg_machine.specs.declared.journal.BufferLine.{BufferLine}
use Rattle.wg_machine.specs.declared.journal.Stop.{Stop}
use Rattle.wg_machine.specs.declared.journal.Stop.TheVariants.{Turns, Launches}
use Rattle.wg_journal.specs.declared.lines.Taken.{Taken}
use Rattle.wg_journal.specs.declared.lines.Line.{Line}
use Rattle.wg_journal.specs.declared.lines.Line.TheVariants as lines
use Rattle.wg_journal.specs.Names.{NamesUnits}
use Rattle.wg_words.specs.Maybe.{◌>>=◌}
use Rattle.wg_text.specs.Numbers.{printed_number}
use Rattle.wg_journal.specs.Reading.{guard, number_field, if_word, word_field, keyword_field, named_field, name_field, unit_field, group_field, end_at, onto_numbers, number_fields, onto_words, word_fields, outs_from, outs_at, is_some_rising, taken_at, launch_at, done_at, buffer_line_at, turns_at, launches_at, stop_at, line_at}
use Rattle.wg_journal.specs.Report.{is_rising, IsTaken, IsGoodEntry, IsGoodDone, IsGoodBuffer, IsGoodStop}
use Rattle.wg_journal.specs.Texts.{unit_label}
use Rattle.wg_journal.proofs.FieldLemmas.{some_is}
use Rattle.wg_journal.proofs.NumberLemmas.{number_takes}
use Rattle.wg_journal.proofs.JoinLemmas.{decimals}
use Rattle.wg_journal.proofs.LineForms.{taken_fields, launch_fields, done_fields, buffer_fields, stop_fields, line_fields, IsGoodLine}

pub bind_some : {A B : Type 0} (o : Option A) (f : A → Option B) (y : B) → (o >>= f) ≡ Some y → (x : A) × (o ≡ Some x) × (f x ≡ Some y)
bind_some None f y e = absurd cc
bind_some (Some x) f y e = (x, refl, e)

pub map_some : {A B : Type 0} (o : Option A) (f : A → B) (y : B) → option_map f o ≡ Some y → (x : A) × (o ≡ Some x) × (f x ≡ y)
map_some None f y e = absurd cc
map_some (Some x) f y e = (x, refl, some_is (f x) y e)

if_some : {A : Type 0} (b : Bool) (x y : A) → cond b (Some x) None ≡ Some y → (b ≡ true) × (x ≡ y)
if_some true x y e = (refl, some_is x y e)
if_some false x y e = absurd cc

guard_some : (b : Bool) (u : Unit {0}) → guard b ≡ Some u → b ≡ true
guard_some true u e = refl
guard_some false u e = absurd cc

-- ---- single fields

pub number_at_sound : (fields : List (List ℕ)) (r : ℕ × List (List ℕ)) → number_field fields ≡ Some r → (fields ≡ decimal r.0 ∷ r.1) × (r.0 < 2 ^ 64)
number_at_sound [] r e = absurd cc
number_at_sound (f ∷ fields) r e =
    let m = map_some (printed_number f) (λ (n : ℕ). (n, fields)) r e in
    let t = number_takes f m.0 m.1 in
    subst (λ (q : ℕ × List (List ℕ)). (f ∷ fields ≡ decimal q.0 ∷ q.1) × (q.0 < 2 ^ 64)) m.2 (ap (λ (g : List ℕ). g ∷ fields) t.0, t.1)

pub word_sound : (f : List ℕ) (n : ℕ) → if_word (printed_number f) ≡ Some n → (f ≡ decimal n) × (n < 2 ^ 32)
word_sound f n e = choice (printed_number f) refl e
  where
    choice : (o : Option ℕ) → printed_number f ≡ o → if_word o ≡ Some n → (f ≡ decimal n) × (n < 2 ^ 32)
    choice None g h = absurd cc
    choice (Some m) g h =
        let b = if_some (nat_lt m (2 ^ 32)) m n h in
        let t = number_takes f m g in
        let small : m < 2 ^ 32 = grind (arith, nat_tests, b.0) in
        subst (λ (k : ℕ). (f ≡ decimal k) × (k < 2 ^ 32)) b.1 (t.0, small)

pub word_at_sound : (fields : List (List ℕ)) (r : ℕ × List (List ℕ)) → word_field fields ≡ Some r → (fields ≡ decimal r.0 ∷ r.1) × (r.0 < 2 ^ 32)
word_at_sound [] r e = absurd cc
word_at_sound (f ∷ fields) r e =
    let m = map_some (if_word (printed_number f)) (λ (n : ℕ). (n, fields)) r e in
    let t = word_sound f m.0 m.1 in
    subst (λ (q : ℕ × List (List ℕ)). (f ∷ fields ≡ decimal q.0 ∷ q.1) × (q.0 < 2 ^ 32)) m.2 (ap (λ (g : List ℕ). g ∷ fields) t.0, t.1)

pub keyword_sound : (word : List ℕ) (fields : List (List ℕ)) (r : Unit {0} × List (List ℕ)) → keyword_field word fields ≡ Some r → fields ≡ word ∷ r.1
keyword_sound word [] r e = absurd cc
keyword_sound word (f ∷ fields) r e =
    let s = if_some (bytes_eq f word) (tt, fields) r e in
    ap (λ (g : List ℕ). g ∷ fields) ((bytes_eq-Decides f word).0 s.0) ∙ ap (λ (q : Unit {0} × List (List ℕ)). word ∷ q.1) s.1

pub named_sound : (word : List ℕ) (fields : List (List ℕ)) (r : ℕ × List (List ℕ)) → named_field word fields ≡ Some r → (fields ≡ word ∷ decimal r.0 ∷ r.1) × (r.0 < 2 ^ 64)
unfolding named_field
named_sound word fields r e =
    let k = bind_some (keyword_field word fields) (λ k. number_field k.1) r e in
    let n = number_at_sound k.0.1 r k.2 in
    (keyword_sound word fields k.0 k.1 ∙ ap (λ (t : List (List ℕ)). word ∷ t) n.0, n.1)

pub end_sound : (fields : List (List ℕ)) (r : Unit {0} × List (List ℕ)) → end_at fields ≡ Some r → fields ≡ []
end_sound [] r e = refl
end_sound (f ∷ fields) r e = absurd cc

pub name_sound : (fields : List (List ℕ)) (r : List ℕ × List (List ℕ)) → name_field fields ≡ Some r → (fields ≡ r.0 ∷ r.1) × IsTrue (is_identifier r.0)
name_sound [] r e = absurd cc
name_sound (f ∷ fields) r e =
    let s = if_some (is_identifier f) (f, fields) r e in
    subst (λ (q : List ℕ × List (List ℕ)). (f ∷ fields ≡ q.0 ∷ q.1) × IsTrue (is_identifier q.0)) s.1 (refl, s.0)

pub unit_sound : (shape : Shape) (names : List ℕ → Option ℕ) → NamesUnits shape names → (fields : List (List ℕ)) (r : ℕ × List (List ℕ)) → unit_field names fields ≡ Some r → (fields ≡ unit_label shape r.0 ∷ r.1) × (r.0 < length shape.units)
unit_sound shape names is [] r e = absurd cc
unit_sound shape names is (f ∷ fields) r e =
    let m = map_some (names f) (λ (n : ℕ). (n, fields)) r e in
    let s = is.sound f m.0 m.1 in
    subst (λ (q : ℕ × List (List ℕ)). (f ∷ fields ≡ unit_label shape q.0 ∷ q.1) × (q.0 < length shape.units)) m.2 (ap (λ (g : List ℕ). g ∷ fields) s.1, s.0)

-- ---- many fields

pub numbers_sound : (fields : List (List ℕ)) → (fields ≡ decimals (number_fields fields).0 ++ (number_fields fields).1) × Each (λ n. n < 2 ^ 64) (number_fields fields).0
numbers_sound [] = (refl, tt)
numbers_sound (f ∷ fields) = choice (printed_number f) refl (numbers_sound fields)
  where
    choice : (o : Option ℕ) → printed_number f ≡ o → (fields ≡ decimals (number_fields fields).0 ++ (number_fields fields).1) × Each (λ n. n < 2 ^ 64) (number_fields fields).0
        → (f ∷ fields ≡ decimals (onto_numbers o (f ∷ fields) (number_fields fields)).0 ++ (onto_numbers o (f ∷ fields) (number_fields fields)).1) × Each (λ n. n < 2 ^ 64) (onto_numbers o (f ∷ fields) (number_fields fields)).0
    choice None g ih = (refl, tt)
    choice (Some n) g ih =
        let t = number_takes f n g in
        (ap (λ (h : List ℕ). h ∷ fields) t.0 ∙ ap (λ (r : List (List ℕ)). decimal n ∷ r) ih.0, (t.1, ih.1))

pub words_sound : (fields : List (List ℕ)) (ws : List ℕ) → word_fields fields ≡ Some ws → (fields ≡ decimals ws) × Each (λ n. n < 2 ^ 32) ws
words_sound [] ws e = subst (λ (l : List ℕ). ([] ≡ decimals l) × Each (λ n. n < 2 ^ 32) l) (some_is [] ws e) (refl, tt)
words_sound (f ∷ fields) ws e = choice (if_word (printed_number f)) refl (λ l h. words_sound fields l h) e
  where
    choice : (o : Option ℕ) → if_word (printed_number f) ≡ o → ((l : List ℕ) → word_fields fields ≡ Some l → (fields ≡ decimals l) × Each (λ n. n < 2 ^ 32) l) → onto_words o (word_fields fields) ≡ Some ws → (f ∷ fields ≡ decimals ws) × Each (λ n. n < 2 ^ 32) ws
    choice None g ih h = absurd cc
    choice (Some n) g ih h =
        let t = word_sound f n g in
        let m = map_some (word_fields fields) (λ (l : List ℕ). n ∷ l) ws h in
        let r = ih m.0 m.1 in
        subst (λ (l : List ℕ). (f ∷ fields ≡ decimals l) × Each (λ n. n < 2 ^ 32) l) m.2 (ap (λ (g : List ℕ). g ∷ fields) t.0 ∙ ap (λ (r : List (List ℕ)). decimal n ∷ r) r.0, (t.1, r.1))

-- numbers that go on from a first and a count
pub record GoesOn (fields : List (List ℕ)) (first count all : ℕ) : Type 0 where
  pub more : ℕ
  pub count_is : all ≡ count + more
  pub is : fields ≡ decimals (range_with_len (first + count) more)
  pub few : all < 2 ^ 32
  pub fits : first + all ≤ 2 ^ 64

outs_tests : (n first count : ℕ) → ((n == first + count) && nat_lt (count + 1) (2 ^ 32)) ≡ true → (n ≡ first + count) × (count + 1 < 2 ^ 32)
outs_tests n first count e = (grind (arith, nat_tests), grind (arith, nat_tests))

pub outs_from_sound : (fields : List (List ℕ)) (first count : ℕ) (r : ℕ × ℕ) → count < 2 ^ 32 → first + count ≤ 2 ^ 64 → outs_from first count fields ≡ Some r → (r.0 ≡ first) × GoesOn fields first count r.1
outs_from_sound [] first count r few fits e =
    subst (λ (q : ℕ × ℕ). (q.0 ≡ first) × GoesOn [] first count q.1) (some_is (first, count) r e) (refl, record { more = 0; count_is = omega arith; is = refl; few = few; fits = fits })
outs_from_sound (f ∷ fields) first count r few fits e =
    let b = bind_some (printed_number f) (λ n. cond ((n == first + count) && nat_lt (count + 1) (2 ^ 32)) (outs_from first (count + 1) fields) None) r e in
    let t = number_takes f b.0 b.1 in
    let s = tested ((b.0 == first + count) && nat_lt (count + 1) (2 ^ 32)) b.2 in
    let d = outs_tests b.0 first count s.0 in
    let below = t.1 in
    let same = d.0 in
    let ih = outs_from_sound fields first (count + 1) r d.1 (omega arith) s.1 in
    let g = ih.1 in
    let step : first + (count + 1) ≡ (first + count) + 1 = omega arith in (
      ih.0,
      record {
        more = suc g.more;
        count_is = omega (arith, g.count_is);
        is = ap (λ (h : List ℕ). h ∷ fields) (t.0 ∙ ap decimal same) ∙ ap (λ (h : List (List ℕ)). decimal (first + count) ∷ h) (g.is ∙ ap (λ (k : ℕ). decimals (range_with_len k g.more)) step);
        few = g.few;
        fits = g.fits;
      },
    )
  where
    tested : (c : Bool) → cond c (outs_from first (count + 1) fields) None ≡ Some r → (c ≡ true) × (outs_from first (count + 1) fields ≡ Some r)
    tested true h = (refl, h)
    tested false h = absurd cc

-- the numbers that a launch gives
pub record AreOuts (fields : List (List ℕ)) (first count : ℕ) : Type 0 where
  pub is : fields ≡ decimals (range_with_len first count)
  pub few : count < 2 ^ 32
  pub fits : first + count ≤ 2 ^ 64
  pub none : count ≡ 0 → first ≡ 0

pub outs_sound : (fields : List (List ℕ)) (r : ℕ × ℕ) → outs_at fields ≡ Some r → AreOuts fields r.0 r.1
outs_sound [] r e = subst (λ (q : ℕ × ℕ). AreOuts [] q.0 q.1) (some_is (0, 0) r e) (record { is = refl; few = omega arith; fits = omega arith; none = λ h. refl })
outs_sound (f ∷ fields) r e =
    let b = bind_some (printed_number f) (λ n. outs_from n 1 fields) r e in
    let t = number_takes f b.0 b.1 in
    let below = t.1 in
    let g = outs_from_sound fields b.0 1 r (omega arith) (omega arith) b.2 in
    let first = g.0 in
    let all = g.1 in
    let count : r.1 ≡ suc all.more = omega (arith, all.count_is) in
    record {
      is = ap (λ (h : List ℕ). h ∷ fields) t.0 ∙ (ap (λ (h : List (List ℕ)). decimal b.0 ∷ h) all.is ∙ ap (λ (q : ℕ × ℕ). decimals (range_with_len q.0 q.1)) (pair b.0 (suc all.more) r.0 r.1 (sym first) (sym count)));
      few = all.few;
      fits = omega (arith, first, all.fits);
      none = λ h. absurd (omega arith);
    }
  where
    pair : (a b c d : ℕ) → a ≡ c → b ≡ d → ◌≡◌ {A = ℕ × ℕ} (a, b) (c, d)
    pair a b c d p q = rw (p, q) refl

-- ---- lines

rising_some : (ns : List ℕ) → is_some_rising ns ≡ true → (ns ≢ []) × IsTrue (is_rising ns)
rising_some [] h = absurd cc
rising_some (n ∷ ns) h = (λ e. cc, h)

group_sound : (fields : List (List ℕ)) (r : List ℕ × List (List ℕ)) → group_field fields ≡ Some r → (fields ≡ codes "g" ∷ (decimals r.0 ++ r.1)) × (length r.0 ≡ 3) × Each (λ n. n < 2 ^ 32) r.0
unfolding group_field
group_sound fields r e =
    let g = bind_some (keyword_field (codes "g") fields) _ r e in
    let x = bind_some (word_field g.0.1) _ r g.2 in
    let y = bind_some (word_field x.0.1) _ r x.2 in
    let z = bind_some (word_field y.0.1) _ r y.2 in
    let made = some_is (x.0.0 ∷ y.0.0 ∷ z.0.0 ∷ [], z.0.1) r z.2 in
    let sg = keyword_sound (codes "g") fields g.0 g.1 in
    let sx = word_at_sound g.0.1 x.0 x.1 in
    let sy = word_at_sound x.0.1 y.0 y.1 in
    let sz = word_at_sound y.0.1 z.0 z.1 in
    subst (λ (q : List ℕ × List (List ℕ)). (fields ≡ codes "g" ∷ (decimals q.0 ++ q.1)) × (length q.0 ≡ 3) × Each (λ n. n < 2 ^ 32) q.0) made (
      sg ∙ ap (λ (a : List (List ℕ)). codes "g" ∷ a) (sx.0 ∙ ap (λ (a : List (List ℕ)). decimal x.0.0 ∷ a) (sy.0 ∙ ap (λ (a : List (List ℕ)). decimal y.0.0 ∷ a) sz.0)),
      refl,
      (sx.1, (sy.1, (sz.1, tt))),
    )

-- what a launch takes, and the fields after it
pub record TookFrom (shape : Shape) (fields : List (List ℕ)) (t : Taken) (rest : List (List ℕ)) : Type 0 where
  pub is : fields ≡ taken_fields shape t.unit t.group t.inputs rest
  pub good : IsTaken shape t.unit t.group t.inputs

pub taken_sound : (shape : Shape) (names : List ℕ → Option ℕ) → NamesUnits shape names → (fields : List (List ℕ)) (r : Taken × List (List ℕ)) → taken_at names fields ≡ Some r → TookFrom shape fields r.0 r.1
unfolding taken_at
taken_sound shape names is fields r e =
    let u = bind_some (unit_field names fields) _ r e in
    let g = bind_some (group_field u.0.1) _ r u.2 in
    let i = bind_some (keyword_field (codes "in") g.0.1) _ r g.2 in
    let ns = number_fields i.0.1 in
    let t = if_some (is_some_rising ns.0) (record { unit = u.0.0; group = g.0.0; inputs = ns.0 }, ns.1) r i.2 in
    let su = unit_sound shape names is fields u.0 u.1 in
    let sg = group_sound u.0.1 g.0 g.1 in
    let si = keyword_sound (codes "in") g.0.1 i.0 i.1 in
    let sn = numbers_sound i.0.1 in
    let rise = rising_some ns.0 t.0 in
    subst (λ (q : Taken × List (List ℕ)). TookFrom shape fields q.0 q.1) t.1
    (record {
      is = su.0 ∙ ap (λ (a : List (List ℕ)). unit_label shape u.0.0 ∷ a) (sg.0 ∙ ap (λ (a : List (List ℕ)). codes "g" ∷ (decimals g.0.0 ++ a)) (si ∙ ap (λ (a : List (List ℕ)). codes "in" ∷ a) sn.0));
      good = record { unit_there = su.1; three = sg.1; group_fits = sg.2; some = rise.0; rising = rise.1; inputs_fit = sn.1 };
    })

pub launch_sound : (shape : Shape) (names : List ℕ → Option ℕ) → NamesUnits shape names → (place : ℕ) (first : List ℕ) (fields : List (List ℕ)) (e : Entry) → launch_at names place first fields ≡ Some e → (first ∷ fields ≡ launch_fields shape place e) × IsGoodEntry shape e
unfolding launch_at
launch_sound shape names is place first fields e h =
    let n = bind_some (printed_number first) _ e h in
    let g = bind_some (guard (n.0 == place)) _ e n.2 in
    let t = bind_some (taken_at names fields) _ e g.2 in
    let o = bind_some (keyword_field (codes "out") t.0.1) _ e t.2 in
    let s = bind_some (outs_at o.0.1) _ e o.2 in
    let made = some_is (record { unit = t.0.0.unit; at = t.0.0.group; inputs = t.0.0.inputs; first_out = s.0.0; outs = s.0.1 }) e s.2 in
    let sn = number_takes first n.0 n.1 in
    let same = eqb-true n.0 place (guard_some (n.0 == place) g.0 g.1) in
    let st = taken_sound shape names is fields t.0 t.1 in
    let so = keyword_sound (codes "out") t.0.1 o.0 o.1 in
    let ss = outs_sound o.0.1 s.0 s.1 in
    subst (λ (q : Entry). (first ∷ fields ≡ launch_fields shape place q) × IsGoodEntry shape q) made (
      ap (λ (f : List ℕ). f ∷ fields) (sn.0 ∙ ap decimal same) ∙ ap (λ (a : List (List ℕ)). decimal place ∷ a) (st.is ∙ ap (λ (a : List (List ℕ)). taken_fields shape t.0.0.unit t.0.0.group t.0.0.inputs a) (so ∙ ap (λ (a : List (List ℕ)). codes "out" ∷ a) ss.is)),
      record { taken = st.good; outs_few = ss.few; outs_fit = ss.fits; none = ss.none },
    )

pub done_sound : (fields : List (List ℕ)) (d : Done) → done_at fields ≡ Some d → (codes "done" ∷ fields ≡ done_fields d) × IsGoodDone d
unfolding done_at
done_sound fields d h =
    let l = bind_some (named_field (codes "launches") fields) _ d h in
    let r = bind_some (named_field (codes "records") l.0.1) _ d l.2 in
    let n = bind_some (named_field (codes "denied") r.0.1) _ d r.2 in
    let p = bind_some (named_field (codes "peak") n.0.1) _ d n.2 in
    let b = bind_some (named_field (codes "of") p.0.1) _ d p.2 in
    let e = bind_some (end_at b.0.1) _ d b.2 in
    let made = some_is (record { launches = l.0.0; records = r.0.0; denied = n.0.0; peak = p.0.0; bytes = b.0.0 }) d e.2 in
    let sl = named_sound (codes "launches") fields l.0 l.1 in
    let sr = named_sound (codes "records") l.0.1 r.0 r.1 in
    let sn = named_sound (codes "denied") r.0.1 n.0 n.1 in
    let sp = named_sound (codes "peak") n.0.1 p.0 p.1 in
    let sb = named_sound (codes "of") p.0.1 b.0 b.1 in
    let se = end_sound b.0.1 e.0 e.1 in
    subst (λ (q : Done). (codes "done" ∷ fields ≡ done_fields q) × IsGoodDone q) made (
      ap (λ (a : List (List ℕ)). codes "done" ∷ a) (sl.0 ∙ ap (λ (a : List (List ℕ)). codes "launches" ∷ decimal l.0.0 ∷ a) (sr.0 ∙ ap (λ (a : List (List ℕ)). codes "records" ∷ decimal r.0.0 ∷ a) (sn.0 ∙ ap (λ (a : List (List ℕ)). codes "denied" ∷ decimal n.0.0 ∷ a) (sp.0 ∙ ap (λ (a : List (List ℕ)). codes "peak" ∷ decimal p.0.0 ∷ a) (sb.0 ∙ ap (λ (a : List (List ℕ)). codes "of" ∷ decimal b.0.0 ∷ a) se))))),
      record { launches_fit = sl.1; records_fit = sr.1; denied_fit = sn.1; peak_fits = sp.1; bytes_fit = sb.1 },
    )

pub buffer_sound : (fields : List (List ℕ)) (b : BufferLine) → buffer_line_at fields ≡ Some b → (codes "buffer" ∷ fields ≡ buffer_fields b) × IsGoodBuffer b
unfolding buffer_line_at
buffer_sound fields b h =
    let n = bind_some (name_field fields) _ b h in
    let c = bind_some (number_field n.0.1) _ b n.2 in
    let w = bind_some (word_fields c.0.1) _ b c.2 in
    let made = some_is (record { name = n.0.0; count = c.0.0; words = w.0 }) b w.2 in
    let sn = name_sound fields n.0 n.1 in
    let sc = number_at_sound n.0.1 c.0 c.1 in
    let sw = words_sound c.0.1 w.0 w.1 in
    subst (λ (q : BufferLine). (codes "buffer" ∷ fields ≡ buffer_fields q) × IsGoodBuffer q) made (
      ap (λ (a : List (List ℕ)). codes "buffer" ∷ a) (sn.0 ∙ ap (λ (a : List (List ℕ)). n.0.0 ∷ a) (sc.0 ∙ ap (λ (a : List (List ℕ)). decimal c.0.0 ∷ a) sw.0)),
      record { named = sn.1; count_fits = sc.1; words_fit = sw.1 },
    )

turns_sound : (shape : Shape) (names : List ℕ → Option ℕ) → NamesUnits shape names → (fields : List (List ℕ)) (s : Stop) → turns_at names fields ≡ Some s → (codes "stopped" ∷ codes "turns" ∷ fields ≡ stop_fields shape s) × IsGoodStop shape s
unfolding turns_at
turns_sound shape names is fields s h =
    let n = bind_some (number_field fields) _ s h in
    let t = bind_some (taken_at names n.0.1) _ s n.2 in
    let e = bind_some (end_at t.0.1) _ s t.2 in
    let made = some_is (Turns n.0.0 t.0.0.unit t.0.0.group t.0.0.inputs) s e.2 in
    let sn = number_at_sound fields n.0 n.1 in
    let st = taken_sound shape names is n.0.1 t.0 t.1 in
    let se = end_sound t.0.1 e.0 e.1 in
    subst (λ (q : Stop). (codes "stopped" ∷ codes "turns" ∷ fields ≡ stop_fields shape q) × IsGoodStop shape q) made (
      ap (λ (a : List (List ℕ)). codes "stopped" ∷ codes "turns" ∷ a) (sn.0 ∙ ap (λ (a : List (List ℕ)). decimal n.0.0 ∷ a) (st.is ∙ ap (λ (a : List (List ℕ)). taken_fields shape t.0.0.unit t.0.0.group t.0.0.inputs a) se)),
      (sn.1, st.good),
    )

launches_sound : (shape : Shape) (fields : List (List ℕ)) (s : Stop) → launches_at fields ≡ Some s → (codes "stopped" ∷ codes "launches" ∷ fields ≡ stop_fields shape s) × IsGoodStop shape s
unfolding launches_at
launches_sound shape fields s h =
    let n = bind_some (number_field fields) _ s h in
    let e = bind_some (end_at n.0.1) _ s n.2 in
    let made = some_is (Launches n.0.0) s e.2 in
    let sn = number_at_sound fields n.0 n.1 in
    let se = end_sound n.0.1 e.0 e.1 in
    subst (λ (q : Stop). (codes "stopped" ∷ codes "launches" ∷ fields ≡ stop_fields shape q) × IsGoodStop shape q) made
    (ap (λ (a : List (List ℕ)). codes "stopped" ∷ codes "launches" ∷ a) (sn.0 ∙ ap (λ (a : List (List ℕ)). decimal n.0.0 ∷ a) se), sn.1)

pub stop_sound : (shape : Shape) (names : List ℕ → Option ℕ) → NamesUnits shape names → (fields : List (List ℕ)) (s : Stop) → stop_at names fields ≡ Some s → (codes "stopped" ∷ fields ≡ stop_fields shape s) × IsGoodStop shape s
stop_sound shape names is [] s h = absurd cc
stop_sound shape names is (f ∷ fields) s h = first (bytes_eq f (codes "turns")) (bytes_eq f (codes "launches")) refl refl h
  where
    first : (a b : Bool) → bytes_eq f (codes "turns") ≡ a → bytes_eq f (codes "launches") ≡ b → cond a (turns_at names fields) (cond b (launches_at fields) None) ≡ Some s → (codes "stopped" ∷ f ∷ fields ≡ stop_fields shape s) × IsGoodStop shape s
    first true b p q e =
        let r = turns_sound shape names is fields s e in
        (ap (λ (g : List ℕ). codes "stopped" ∷ g ∷ fields) ((bytes_eq-Decides f (codes "turns")).0 p) ∙ r.0, r.1)
    first false true p q e =
        let r = launches_sound shape fields s e in
        (ap (λ (g : List ℕ). codes "stopped" ∷ g ∷ fields) ((bytes_eq-Decides f (codes "launches")).0 q) ∙ r.0, r.1)
    first false false p q e = absurd cc

-- what is read of a line's fields is a good line, with these fields
pub line_sound : (shape : Shape) (names : List ℕ → Option ℕ) → NamesUnits shape names → (place : ℕ) (fields : List (List ℕ)) (l : Line) → line_at names place fields ≡ Some l → (fields ≡ line_fields shape place l) × IsGoodLine shape l
line_sound shape names is place [] l h = absurd cc
line_sound shape names is place (f ∷ fields) l h = kind (bytes_eq f (codes "done")) (bytes_eq f (codes "buffer")) (bytes_eq f (codes "stopped")) refl refl refl h
  where
    kind : (a b c : Bool) → bytes_eq f (codes "done") ≡ a → bytes_eq f (codes "buffer") ≡ b → bytes_eq f (codes "stopped") ≡ c
        → cond a (option_map (λ (d : Done). lines.Done d) (done_at fields)) (cond b (option_map (λ (d : BufferLine). lines.Buffer d) (buffer_line_at fields)) (cond c (option_map (λ (s : Stop). lines.Stop s) (stop_at names fields)) (option_map (λ (e : Entry). lines.Launch e) (launch_at names place f fields)))) ≡ Some l
        → (f ∷ fields ≡ line_fields shape place l) × IsGoodLine shape l
    kind true b c p q r e =
        let m = map_some (done_at fields) (λ (d : Done). lines.Done d) l e in
        let s = done_sound fields m.0 m.1 in
        subst (λ (k : Line). (f ∷ fields ≡ line_fields shape place k) × IsGoodLine shape k) m.2 (ap (λ (g : List ℕ). g ∷ fields) ((bytes_eq-Decides f (codes "done")).0 p) ∙ s.0, s.1)
    kind false true c p q r e =
        let m = map_some (buffer_line_at fields) (λ (d : BufferLine). lines.Buffer d) l e in
        let s = buffer_sound fields m.0 m.1 in
        subst (λ (k : Line). (f ∷ fields ≡ line_fields shape place k) × IsGoodLine shape k) m.2 (ap (λ (g : List ℕ). g ∷ fields) ((bytes_eq-Decides f (codes "buffer")).0 q) ∙ s.0, s.1)
    kind false false true p q r e =
        let m = map_some (stop_at names fields) (λ (s : Stop). lines.Stop s) l e in
        let s = stop_sound shape names is fields m.0 m.1 in
        subst (λ (k : Line). (f ∷ fields ≡ line_fields shape place k) × IsGoodLine shape k) m.2 (ap (λ (g : List ℕ). g ∷ fields) ((bytes_eq-Decides f (codes "stopped")).0 r) ∙ s.0, s.1)
    kind false false false p q r e =
        let m = map_some (launch_at names place f fields) (λ (e : Entry). lines.Launch e) l e in
        let s = launch_sound shape names is place f fields m.0 m.1 in
        subst (λ (k : Line). (f ∷ fields ≡ line_fields shape place k) × IsGoodLine shape k) m.2 (s.0, s.1)
