-- The units' numbers by their texts.
use Rattle.std.proofs.Common.{◌≡◌, ℕ, zero, suc, ◌+◌, ◌^◌, ◌<◌, Bool, true, false, cond, List, length, Option, Some, None, refl, sym, ap, subst, ◌∙◌, ⊎_elim, arith}
use Rattle.std.specs.Prelude.{if◌then◌else◌}
use Rattle.std.specs.Str.{bytes_eq}
use Rattle.std.proofs.lemmas.Bool.{cases_lt}
use Rattle.std.proofs.lemmas.Slice.Eq.{bytes_eq-Decides}
use Rattle.wg_machine.specs.declared.shape.Shape.{Shape}
use Rattle.wg_machine.specs.GoodShape.{IsGoodShape}
use Rattle.wg_text.specs.Names.{found_in}
use Rattle.wg_journal.specs.Names.{index_at, NamesUnits}
use Rattle.wg_journal.specs.Texts.{unit_label}
use Rattle.wg_journal.proofs.FieldLemmas.{some_is}
use Rattle.wg_journal.proofs.UnitLemmas.{one_unit}

-- the last unit below a number that has a text
pub last_below : Shape → ℕ → List ℕ → Option ℕ
last_below shape zero text = None
last_below shape (suc n) text = if bytes_eq (unit_label shape n) text then Some n else last_below shape n text

pub none_below : (shape : Shape) (text : List ℕ) → None ≡ last_below shape 0 text
unfolding last_below
none_below shape text = refl

pub one_below : (shape : Shape) (n : ℕ) (text found : List ℕ) (old : Option ℕ) → found ≡ unit_label shape n → old ≡ last_below shape n text → (if bytes_eq found text then Some n else old) ≡ last_below shape (n + 1) text
unfolding last_below
one_below shape n text found old e f =
    let s : n + 1 ≡ suc n = omega arith in
    rw (s, e, f) refl

last_sound : (shape : Shape) (n : ℕ) (text : List ℕ) (u : ℕ) → last_below shape n text ≡ Some u → (u < n) × (text ≡ unit_label shape u)
unfolding last_below
last_sound shape zero text u e = absurd cc
last_sound shape (suc n) text u e = choice (bytes_eq (unit_label shape n) text) refl (λ h. last_sound shape n text u h) e
  where
    choice : (b : Bool) → bytes_eq (unit_label shape n) text ≡ b → (last_below shape n text ≡ Some u → (u < n) × (text ≡ unit_label shape u)) → cond b (Some n) (last_below shape n text) ≡ Some u → (u < suc n) × (text ≡ unit_label shape u)
    choice true t ih h =
        let same : n ≡ u = some_is n u h in
        (omega arith, sym ((bytes_eq-Decides (unit_label shape n) text).0 t) ∙ ap (unit_label shape) same)
    choice false t ih h = let r = ih h in (omega (arith, r.0), r.1)

last_again : (shape : Shape) (n u : ℕ) → ((v : ℕ) → v < n → unit_label shape v ≡ unit_label shape u → v ≡ u) → u < n → last_below shape n (unit_label shape u) ≡ Some u
unfolding last_below
last_again shape zero u apart h = absurd (omega arith)
last_again shape (suc n) u apart h = choice (λ k. last_again shape n u (λ v g. apart v (omega arith)) k) (bytes_eq (unit_label shape n) (unit_label shape u)) refl
  where
    choice : (u < n → last_below shape n (unit_label shape u) ≡ Some u) → (b : Bool) → bytes_eq (unit_label shape n) (unit_label shape u) ≡ b → cond b (Some n) (last_below shape n (unit_label shape u)) ≡ Some u
    choice ih true t = ap (λ k. Some k) (apart n (omega arith) ((bytes_eq-Decides (unit_label shape n) (unit_label shape u)).0 t))
    choice ih false t =
        let ne : u ≡ n → ⊥ = λ e. (let y : bytes_eq (unit_label shape n) (unit_label shape u) ≡ true = (bytes_eq-Decides (unit_label shape n) (unit_label shape u)).1 (ap (unit_label shape) (sym e)) in cc) in
        ih (omega arith)

pub is_naming : (shape : Shape) (map : List (List ℕ × ℕ)) → IsGoodShape shape → ((text : List ℕ) → found_in map text ≡ last_below shape (length shape.units) text) → ((u : ℕ) → u < length shape.units → index_at shape u < 2 ^ 64) → NamesUnits shape (found_in map)
is_naming shape map good is small =
    record {
      sound = λ text u e. last_sound shape (length shape.units) text u (sym (is text) ∙ e);
      again = λ u h. is (unit_label shape u) ∙ last_again shape (length shape.units) u (λ v g e. one_unit shape good v u g h (small v g) (small u h) e) h;
      index = small;
    }

pub small_more : (f : ℕ → ℕ) (n : ℕ) → ((u : ℕ) → u < n → f u < 2 ^ 64) → f n < 2 ^ 64 → (u : ℕ) → u < n + 1 → f u < 2 ^ 64
small_more f n h here u lt = ⊎_elim (λ less. h u less) (λ le. (let e : n ≡ u = omega arith in subst (λ k. f k < 2 ^ 64) e here)) (cases_lt u n)
