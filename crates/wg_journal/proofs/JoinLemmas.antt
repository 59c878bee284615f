-- A line is its fields, each but the first after a space.
use Rattle.std.proofs.Common.{◌≡◌, ◌≢◌, ℕ, ◌≤◌, Bool, true, false, cond, List, [], ◌∷◌, ◌++◌, Option, Some, None, refl, sym, ap, ◌∙◌, append_assoc, arith}
use Rattle.std.specs.Prelude.{◌==◌}
use Rattle.std.specs.Option.{option_map}
use Rattle.std.specs.List.{onto_first}
use Rattle.std.specs.Fmt.{decimal}
use Rattle.std.proofs.lemmas.Bool.{eqb-true}
use Rattle.std.proofs.lemmas.Bool.Decides.{nat_tests}
use Rattle.std.proofs.lemmas.List.{append-nil}
use Rattle.wg_words.specs.Each.{Each}
use Rattle.wg_text.specs.Cut.{cut}
use Rattle.wg_journal.specs.Reading.{split_fields}
use Rattle.wg_journal.specs.Texts.{all_spaced}
use Rattle.wg_journal.proofs.FieldLemmas.{fields_some, some_is, with_front, front_none}
use Rattle.wg_journal.proofs.NumberLemmas.{Visible}

-- fields, each after a space
abbrev pub spread : List (List ℕ) → List ℕ
spread [] = []
spread (f ∷ fields) = 32 ∷ (f ++ spread fields)

abbrev pub joined : List (List ℕ) → List ℕ
joined [] = []
joined (f ∷ fields) = f ++ spread fields

spread_joined : (fields : List (List ℕ)) → fields ≢ [] → spread fields ≡ 32 ∷ joined fields
spread_joined [] some = absurd (some refl)
spread_joined (f ∷ fields) some = refl

joined_onto : (c : ℕ) (fields : List (List ℕ)) → fields ≢ [] → joined (onto_first c fields) ≡ c ∷ joined fields
joined_onto c [] some = absurd (some refl)
joined_onto c (f ∷ fields) some = refl

-- a line is its fields
pub joined_fields : (line : List ℕ) → joined (split_fields line) ≡ line
joined_fields [] = refl
joined_fields (c ∷ line) = choice (c == 32) refl (joined_fields line)
  where
    choice : (b : Bool) → (c == 32) ≡ b → joined (split_fields line) ≡ line → joined (cond b ([] ∷ split_fields line) (onto_first c (split_fields line))) ≡ c ∷ line
    choice true t ih = spread_joined (split_fields line) (fields_some line) ∙ (ap (λ (d : ℕ). d ∷ joined (split_fields line)) (sym (eqb-true c 32 t)) ∙ ap (λ (r : List ℕ). c ∷ r) ih)
    choice false t ih = joined_onto c (split_fields line) (fields_some line) ∙ ap (λ (r : List ℕ). c ∷ r) ih

field_then : (f rest : List ℕ) → Visible f → split_fields (f ++ 32 ∷ rest) ≡ f ∷ split_fields rest
field_then [] rest v = refl
field_then (c ∷ f) rest v =
    let low : 33 ≤ c = v.0 in
    let test : (c == 32) ≡ false = grind (arith, nat_tests) in
    rw (test, field_then f rest v.1) refl

field_last : (f : List ℕ) → Visible f → split_fields f ≡ f ∷ []
field_last [] v = refl
field_last (c ∷ f) v =
    let low : 33 ≤ c = v.0 in
    let test : (c == 32) ≡ false = grind (arith, nat_tests) in
    rw (test, field_last f v.1) refl

-- and fields without spaces are those of their line
pub fields_joined : (f : List ℕ) (fields : List (List ℕ)) → Visible f → Each Visible fields → split_fields (joined (f ∷ fields)) ≡ f ∷ fields
fields_joined f [] v vs = ap split_fields (append-nil f) ∙ field_last f v
fields_joined f (g ∷ fields) v vs = field_then f (g ++ spread fields) v ∙ ap (λ (r : List (List ℕ)). f ∷ r) (fields_joined g fields vs.0 vs.1)

cut_then : (f rest : List ℕ) → Visible f → cut (λ c. c == 10) (f ++ rest) ≡ with_front f (cut (λ c. c == 10) rest)
cut_then [] rest v = sym (front_none (cut (λ c. c == 10) rest))
cut_then (c ∷ f) rest v =
    let low : 33 ≤ c = v.0 in
    let test : (c == 10) ≡ false = grind (arith, nat_tests) in
    rw (test, cut_then f rest v.1) (onto (cut (λ c. c == 10) rest))
  where
    onto : (o : Option (List ℕ × List ℕ)) → option_map (λ (r : List ℕ × List ℕ). (c ∷ r.0, r.1)) (with_front f o) ≡ with_front (c ∷ f) o
    onto None = refl
    onto (Some r) = refl

cut_spread : (fields : List (List ℕ)) (more : List ℕ) → Each Visible fields → cut (λ c. c == 10) (spread fields ++ 10 ∷ more) ≡ Some (spread fields, more)
cut_spread [] more vs = refl
cut_spread (f ∷ fields) more vs =
    let t : cut (λ c. c == 10) ((f ++ spread fields) ++ 10 ∷ more) ≡ Some (f ++ spread fields, more) =
    ap (cut (λ c. c == 10)) (append_assoc f (spread fields) (10 ∷ more)) ∙ (cut_then f (spread fields ++ 10 ∷ more) vs.0 ∙ ap (with_front f) (cut_spread fields more vs.1)) in
    rw t refl

-- a line of such fields is cut at its line feed
pub cut_joined : (f : List ℕ) (fields : List (List ℕ)) (more : List ℕ) → Visible f → Each Visible fields → cut (λ c. c == 10) (joined (f ∷ fields) ++ 10 ∷ more) ≡ Some (joined (f ∷ fields), more)
cut_joined f fields more v vs =
    ap (cut (λ c. c == 10)) (append_assoc f (spread fields) (10 ∷ more))
    ∙ (cut_then f (spread fields ++ 10 ∷ more) v ∙ ap (with_front f) (cut_spread fields more vs))

pub cut_takes : (text line rest : List ℕ) → cut (λ c. c == 10) text ≡ Some (line, rest) → text ≡ line ++ 10 ∷ rest
cut_takes [] line rest e = absurd cc
cut_takes (c ∷ text) line rest e = choice (c == 10) refl (cut (λ c. c == 10) text) (λ l r h. cut_takes text l r h) e
  where
    choice : (b : Bool) → (c == 10) ≡ b → (o : Option (List ℕ × List ℕ)) → ((l r : List ℕ) → o ≡ Some (l, r) → text ≡ l ++ 10 ∷ r) → cond {A = Option (List ℕ × List ℕ)} b (Some ([], text)) (option_map (λ (p : List ℕ × List ℕ). (c ∷ p.0, p.1)) o) ≡ Some (line, rest) → c ∷ text ≡ line ++ 10 ∷ rest
    choice true t o ih h =
        let same = some_is ([], text) (line, rest) h in
        ap (λ (d : ℕ). d ∷ text) (eqb-true c 10 t) ∙ ap (λ (r : List ℕ × List ℕ). r.0 ++ 10 ∷ r.1) same
    choice false t None ih h = absurd cc
    choice false t (Some r) ih h =
        let same = some_is (c ∷ r.0, r.1) (line, rest) h in
        ap (λ (t : List ℕ). c ∷ t) (ih r.0 r.1 refl) ∙ ap (λ (r : List ℕ × List ℕ). r.0 ++ 10 ∷ r.1) same

-- ---- numbers as fields

abbrev pub decimals : List ℕ → List (List ℕ)
decimals [] = []
decimals (n ∷ ns) = decimal n ∷ decimals ns

pub spread_append : (a b : List (List ℕ)) → spread (a ++ b) ≡ spread a ++ spread b
spread_append [] b = refl
spread_append (f ∷ a) b = ap (λ (r : List ℕ). 32 ∷ r) (ap (λ (r : List ℕ). f ++ r) (spread_append a b) ∙ sym (append_assoc f (spread a) (spread b)))

pub spread_decimals : (ns : List ℕ) → spread (decimals ns) ≡ all_spaced ns
spread_decimals [] = refl
spread_decimals (n ∷ ns) = ap (λ (r : List ℕ). 32 ∷ (decimal n ++ r)) (spread_decimals ns)
