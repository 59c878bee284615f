-- Look-ups of names in the map of constants.
use Rattle.std.proofs.Common.{◌≡◌, ℕ, Bool, true, false, cond, List, [], ◌∷◌, Option, Some, refl, sym, ap, subst, ◌∙◌, ⊎_elim}
use Rattle.std.specs.Prelude.{nat_eq, if◌then◌else◌}
use Rattle.std.specs.Global.{Vec}
use Rattle.std.specs.HashMap.{HashMap, UpdatesBy}
use Rattle.std.specs.Map.{lookup, IsKeyTest, AreApart, KeepsOthers}
use Rattle.std.specs.Cmp.Lexicographic.{pointwise, nat_list_eq_equiv}
use Rattle.std.specs.Str.{bytes_eq}
use Rattle.std.proofs.lemmas.Bool.{cases_Bool, cond-true, cond-false}
use Rattle.std.proofs.lemmas.Slice.Eq.{bytes_eq-Decides}
use Rattle.wg_typed.specs.declared.types.ConstValue.{ConstValue}
use Rattle.wg_typed.specs.Constants.{known_in, with_value, named_values}

pub known_lookup : (entries : List (Vec ℕ × ConstValue)) (name : List ℕ) → known_in (named_values entries) name ≡ lookup (λ (k : Vec ℕ). bytes_eq name k.items) entries
known_lookup [] name = refl
known_lookup (c ∷ rest) name = ap (λ r. if bytes_eq name c.0.items then Some c.1 else r) (known_lookup rest name)

other_entries : {K X : Type 0} (eq : K → K → Bool) (test : K → Bool) (old new : List (K × X)) → KeepsOthers eq test old new → (other : K → Bool) → IsKeyTest eq other → AreApart test other → lookup other new ≡ lookup other old
unfolding KeepsOthers
other_entries eq test old new h = h

-- a look-up by bytes after a change at a key
found_after : {S : Type 0} (old new : HashMap (Vec ℕ) ConstValue S) (k : Vec ℕ) (v : ConstValue) → UpdatesBy (λ (x y : Vec ℕ). pointwise nat_eq x.items y.items) (λ (y : Vec ℕ). pointwise nat_eq k.items y.items) old new (Some v)
    → (text : List ℕ) → lookup (λ (y : Vec ℕ). bytes_eq text y.items) new.entries ≡ (if bytes_eq k.items text then Some v else lookup (λ (y : Vec ℕ). bytes_eq text y.items) old.entries)
found_after old new k v h text = ⊎_elim here other (cases_Bool (bytes_eq k.items text))
  where
    found : List ℕ → Option ConstValue
    found l = lookup (λ (y : Vec ℕ). bytes_eq l y.items) new.entries

    here : bytes_eq k.items text ≡ true → found text ≡ cond (bytes_eq k.items text) (Some v) (lookup (λ (y : Vec ℕ). bytes_eq text y.items) old.entries)
    here t = subst (λ l. found l ≡ Some v) ((bytes_eq-Decides k.items text).0 t) h.1 ∙ sym (cond-true (bytes_eq k.items text) (Some v) _ t)

    apart : bytes_eq k.items text ≡ false → (y : Vec ℕ) → bytes_eq k.items y.items ≡ true → bytes_eq text y.items ≡ false
    apart f y t = nat_list_eq_equiv.symm text y.items ∙ (sym (nat_list_eq_equiv.congr k.items y.items text t) ∙ f)

    other : bytes_eq k.items text ≡ false → found text ≡ cond (bytes_eq k.items text) (Some v) (lookup (λ (y : Vec ℕ). bytes_eq text y.items) old.entries)
    other f =
        other_entries (λ (x y : Vec ℕ). pointwise nat_eq x.items y.items) (λ (y : Vec ℕ). pointwise nat_eq k.items y.items) old.entries new.entries h.3 (λ (y : Vec ℕ). bytes_eq text y.items) (λ x y. nat_list_eq_equiv.congr text x.items y.items) (apart f)
        ∙ sym (cond-false (bytes_eq k.items text) (Some v) _ f)

pub known_after : {S : Type 0} (old new : HashMap (Vec ℕ) ConstValue S) (k : Vec ℕ) (v : ConstValue) → UpdatesBy (λ (x y : Vec ℕ). pointwise nat_eq x.items y.items) (λ (y : Vec ℕ). pointwise nat_eq k.items y.items) old new (Some v)
    → (text : List ℕ) → known_in (named_values new.entries) text ≡ with_value (known_in (named_values old.entries)) k.items v text
known_after old new k v h text = known_lookup new.entries text ∙ (found_after old new k v h text ∙ sym (ap (λ r. if bytes_eq k.items text then Some v else r) (known_lookup old.entries text)))
