-- Look-ups of names in a map.
use Rattle.std.proofs.Common.{◌≡◌, ℕ, Bool, true, false, cond, List, [], ◌∷◌, Option, Some, refl, sym, ap, subst, ◌∙◌, ⊎_elim}
use Rattle.std.specs.Prelude.{nat_eq, if◌then◌else◌}
use Rattle.std.specs.Global.{Vec}
use Rattle.std.specs.HashMap.{HashMap, UpdatesBy}
use Rattle.std.specs.Map.{lookup, IsKeyTest, AreApart, KeepsOthers}
use Rattle.std.specs.Cmp.Lexicographic.{pointwise, nat_list_eq_equiv}
use Rattle.std.specs.Str.{bytes_eq}
use Rattle.std.proofs.lemmas.Bool.{cases_Bool, cond-true, cond-false}
use Rattle.std.proofs.lemmas.Slice.Eq.{bytes_eq-Decides}
use Rattle.wg_text.specs.Names.{by_names, found_in}

-- what a map has for a name
abbrev pub look_up : {X : Type 0} → List (Vec ℕ × X) → List ℕ → Option X
look_up entries name = lookup (λ (k : Vec ℕ). bytes_eq name k.items) entries

pub found_lookup : {X : Type 0} (entries : List (Vec ℕ × X)) (name : List ℕ) → found_in (by_names entries) name ≡ look_up entries name
found_lookup [] name = refl
found_lookup (e ∷ entries) name = ap (λ r. if bytes_eq name e.0.items then Some e.1 else r) (found_lookup entries name)

other_entries : {K X : Type 0} (eq : K → K → Bool) (test : K → Bool) (old new : List (K × X)) → KeepsOthers eq test old new → (other : K → Bool) → IsKeyTest eq other → AreApart test other → lookup other new ≡ lookup other old
unfolding KeepsOthers
other_entries eq test old new h = h

-- a look-up after a change at a key
look_up_after : {X S : Type 0} (old new : HashMap (Vec ℕ) X S) (k : Vec ℕ) (x : X) → UpdatesBy (λ (a b : Vec ℕ). pointwise nat_eq a.items b.items) (λ (b : Vec ℕ). pointwise nat_eq k.items b.items) old new (Some x)
    → (name : List ℕ) → look_up new.entries name ≡ (if bytes_eq k.items name then Some x else look_up old.entries name)
look_up_after {X} old new k x h name = ⊎_elim here other (cases_Bool (bytes_eq k.items name))
  where
    here : bytes_eq k.items name ≡ true → look_up new.entries name ≡ cond (bytes_eq k.items name) (Some x) (look_up old.entries name)
    here y = subst (λ (l : List ℕ). look_up new.entries l ≡ Some x) ((bytes_eq-Decides k.items name).0 y) h.1 ∙ sym (cond-true (bytes_eq k.items name) (Some x) (look_up old.entries name) y)

    apart : bytes_eq k.items name ≡ false → (y : Vec ℕ) → bytes_eq k.items y.items ≡ true → bytes_eq name y.items ≡ false
    apart f y t = nat_list_eq_equiv.symm name y.items ∙ (sym (nat_list_eq_equiv.congr k.items y.items name t) ∙ f)

    other : bytes_eq k.items name ≡ false → look_up new.entries name ≡ cond (bytes_eq k.items name) (Some x) (look_up old.entries name)
    other f =
        other_entries (λ (a b : Vec ℕ). pointwise nat_eq a.items b.items) (λ (b : Vec ℕ). pointwise nat_eq k.items b.items) old.entries new.entries h.3 (λ (y : Vec ℕ). bytes_eq name y.items) (λ a b. nat_list_eq_equiv.congr name a.items b.items) (apart f)
        ∙ sym (cond-false (bytes_eq k.items name) (Some x) (look_up old.entries name) f)

pub found_after : {X S : Type 0} (old new : HashMap (Vec ℕ) X S) (k : Vec ℕ) (x : X) → UpdatesBy (λ (a b : Vec ℕ). pointwise nat_eq a.items b.items) (λ (b : Vec ℕ). pointwise nat_eq k.items b.items) old new (Some x)
    → (name : List ℕ) → found_in (by_names new.entries) name ≡ (if bytes_eq k.items name then Some x else found_in (by_names old.entries) name)
found_after {X} old new k x h name =
    found_lookup new.entries name ∙ (look_up_after old new k x h name ∙ sym (ap (λ (r : Option X). if bytes_eq k.items name then Some x else r) (found_lookup old.entries name)))
