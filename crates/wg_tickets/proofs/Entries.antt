-- Entries of a map with rising keys.
use Rattle.std.proofs.Common.{◌≡◌, ℕ, ◌<◌, ◌≤◌, Bool, true, false, List, [], ◌∷◌, ◌++◌, refl, ap, sym, ◌∙◌, arith, Option, Some, None}
use Rattle.std.specs.Prelude.{◌==◌, ◌||◌, cond, is_some, slice_get, All}
use Rattle.std.specs.Map.{keys_of, lookup, remove_entry}
use Rattle.std.specs.Ordering.{nat_cmp, match_ordering}
use Rattle.std.specs.declared.cmp.Ordering.{Ordering}
use Rattle.std.specs.declared.cmp.Ordering.TheVariants.{Greater}
use Rattle.std.specs.BTreeMap.{insert_entry, is_at}
use Rattle.std.specs.BTreeMap.Range.{IsLeBy}
use Rattle.std.proofs.lemmas.Bool.Decides.{nat_tests}
use Rattle.std.proofs.lemmas.List.Elements.{All-cons, All-head, All-nil, All-tail}
use Rattle.wg_tickets.specs.Held.{AllBelow, IsHeldAt, IsLeast, Takes, has_ticket}

is_at_test : (t k : ℕ) → is_at (nat_cmp t) k ≡ (k == t)
is_at_test t k = grind (arith, nat_tests)

-- a look-up finds where there is a value with the ticket
pub looked_up : {T : Type 0} (t : ℕ) (es : List (ℕ × T)) → is_some (lookup (is_at (nat_cmp t)) es) ≡ has_ticket t es
looked_up t [] = refl
looked_up {T = T} t (e ∷ es) = rw (is_at_test t e.0) (go (e.0 == t) (looked_up t es))
  where
    go : (b : Bool) → is_some (lookup (is_at (nat_cmp t)) es) ≡ has_ticket t es → is_some (cond b (Some e.1) (lookup (is_at (nat_cmp t)) es)) ≡ (b || has_ticket t es)
    go true h = refl
    go false h = h

pub not_missing : {T : Type 0} (t : ℕ) (es : List (ℕ × T)) → has_ticket t es ≡ true → lookup (is_at (nat_cmp t)) es ≡ None → ⊥
not_missing t es has none = absurd (let e = sym (ap is_some none) ∙ looked_up t es ∙ has in cc)

same_some : {T : Type 0} (x y : T) → ◌≡◌ {A = Option T} (Some x) (Some y) → x ≡ y
same_some x y e = cc

same_key : (t k : ℕ) → (k == t) ≡ true → k ≡ t
same_key t k e = grind (arith, nat_tests)

-- the entry of a ticket, with its value, and what is left without it
pub taken : {T : Type 0} (t : ℕ) (es : List (ℕ × T)) (v : T) → lookup (is_at (nat_cmp t)) es ≡ Some v → Takes es (remove_entry (is_at (nat_cmp t)) es) t v
taken t [] v found = absurd (cc)
taken {T = T} t (e ∷ es) v found = go (is_at (nat_cmp t) e.0) (is_at_test t e.0) found (taken t es v)
  where
    go : (b : Bool) → b ≡ (e.0 == t) → cond b (Some e.1) (lookup (is_at (nat_cmp t)) es) ≡ Some v → (lookup (is_at (nat_cmp t)) es ≡ Some v → Takes es (remove_entry (is_at (nat_cmp t)) es) t v) → Takes (e ∷ es) (cond b es (e ∷ remove_entry (is_at (nat_cmp t)) es)) t v
    go true here f rest =
        let k : e.0 ≡ t = same_key t e.0 (sym here) in
        let w : e.1 ≡ v = same_some e.1 v f in
        record {
          before = [];
          later = es;
          was = ap (λ (key : ℕ). (key, e.1) ∷ es) k ∙ ap (λ (value : T). (t, value) ∷ es) w;
          left = refl;
        }
    go false here f rest =
        let s = rest f in
        record {
          before = e ∷ s.before;
          later = s.later;
          was = ap (λ (l : List (ℕ × T)). e ∷ l) s.was;
          left = ap (λ (l : List (ℕ × T)). e ∷ l) s.left;
        }

pub held : {T : Type 0} (t : ℕ) (es : List (ℕ × T)) (v : T) → lookup (is_at (nat_cmp t)) es ≡ Some v → IsHeldAt es t v
held t es v found = let s = taken t es v found in record { before = s.before; later = s.later; place = s.was }

above : (t k : ℕ) → k < t → nat_cmp t k ≡ Greater
above t k less = grind (arith, nat_tests)

-- a value under a ticket above all goes behind all
pub pushed : {T : Type 0} (t : ℕ) (es : List (ℕ × T)) (v : T) → AllBelow t es → insert_entry nat_cmp es t v ≡ es ++ (t, v) ∷ []
pushed t [] v below = refl
pushed {T = T} t (e ∷ es) v below =
    ap (λ (o : Ordering). match_ordering o ((t, v) ∷ e ∷ es) ((e.0, v) ∷ es) (e ∷ insert_entry nat_cmp es t v)) (above t e.0 (All-head (λ (x : ℕ × T). x.0 < t) e es below))
    ∙ ap (λ (l : List (ℕ × T)). e ∷ l) (pushed t es v (All-tail (λ (x : ℕ × T). x.0 < t) e es below))

no_greater : (t k : ℕ) → IsLeBy nat_cmp t k → t ≤ k
no_greater t k e = grind (arith, nat_tests)

all_from : {T : Type 0} (t : ℕ) (es : List (ℕ × T)) → All (IsLeBy nat_cmp t) (keys_of es) → All (λ (e : ℕ × T). t ≤ e.0) es
all_from {T = T} t [] h = All-nil (λ (e : ℕ × T). t ≤ e.0)
all_from {T = T} t (e ∷ es) h =
    All-cons (λ (x : ℕ × T). t ≤ x.0) e es (no_greater t e.0 (All-head (IsLeBy nat_cmp t) e.0 (keys_of es) h)) (all_from t es (All-tail (IsLeBy nat_cmp t) e.0 (keys_of es) h))

-- the first of entries
pub first_of : {T : Type 0} (es : List (ℕ × T)) (t : ℕ) (v : T) → slice_get es 0 ≡ Some (t, v) → All (IsLeBy nat_cmp t) (keys_of es) → IsLeast es t
first_of [] t v first least = absurd (cc)
first_of {T = T} (e ∷ es) t v first least =
    record { value = v; rest = es; first = ap (λ (x : ℕ × T). x ∷ es) (same_some e (t, v) first); least = all_from t (e ∷ es) least }
