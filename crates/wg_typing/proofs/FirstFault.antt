-- The first fault is one of the list, and leads all of it.
use Rattle.std.proofs.Common.{◌≡◌, ◌⊎◌, ◌<◌, ◌≤◌, ℕ, Bool, true, false, if◌then◌else◌, List, [], ◌∷◌, Some, None, inl, inr, refl, sym, subst, ◌∙◌}
use Rattle.std.proofs.Math.Nat.{lt_trans, le_trans, le_refl, le_of_lt, eq-or-lt_of_le}
use Rattle.std.proofs.lemmas.Bool.{cases_lt}
use Rattle.std.proofs.lemmas.Bool.Decides.{Decides-ltb, Decides-eqb, Decides-and, Decides-or, not_from_Decides}
use Rattle.std.specs.Prelude.{nat_lt, ◌==◌, ◌&&◌}
use Rattle.wg_typing.specs.Sites.{In}
use Rattle.std.proofs.lemmas.Option.{none-some, same_Some}
use Rattle.wg_words.specs.declared.place.Place.{Place}
use Rattle.wg_tree.specs.declared.item.Source.{Source}
use Rattle.wg_typed.specs.declared.typed.Typed.{Typed}
use Rattle.wg_typing.specs.Attributes.{attribute_number, BreaksAttributes, AreRight}
use Rattle.wg_typing.specs.Faults.{InOrder, Leads, IsFirst, is_before, same_place, is_earlier, least_from, first_of, faults, first_fault, attribute_faults, first_attribute_fault}
use Rattle.wg_typing.specs.Typing.{typing_number, Breaks, IsWellTyped}
use Rattle.wg_typing.proofs.Faults.{are_breaks, are_faults, none_broken, are_attribute_breaks, are_attribute_faults, none_wrong}
use Rattle.wg_typing.specs.declared.fault.AttributeRule.{AttributeRule}
use Rattle.wg_typing.specs.declared.fault.Fault.{Fault}
use Rattle.wg_typing.specs.declared.fault.TypingRule.{TypingRule}

-- ---- the order

in_order_on : (a b c : ℕ) {R S T : Type 0} → (R → S → T) → InOrder a b R → InOrder b c S → InOrder a c T
in_order_on a b c f (inl h) (inl k) = inl (lt_trans h k)
in_order_on a b c f (inl h) (inr k) = inl (subst (λ n. a < n) k.0 h)
in_order_on a b c f (inr h) (inl k) = inl (subst (λ n. n < c) (sym h.0) k)
in_order_on a b c f (inr h) (inr k) = inr (h.0 ∙ k.0, f h.1 k.1)

leads_itself : (a : Fault) → Leads a a
leads_itself a = inr (refl, inr (refl, le_refl a.rule))

leads_on : (a b c : Fault) → Leads a b → Leads b c → Leads a c
leads_on a b c =
    in_order_on a.place.line b.place.line c.place.line
    (in_order_on a.place.column b.place.column c.place.column (λ (h : a.rule ≤ b.rule) (k : b.rule ≤ c.rule). le_trans h k))

-- ---- what the test of the order tells

abbrev Earlier : Fault → Fault → Type 0
Earlier a b =
    ((a.place.line < b.place.line) ⊎ ((a.place.line ≡ b.place.line) × (a.place.column < b.place.column)))
    ⊎ (((a.place.line ≡ b.place.line) × (a.place.column ≡ b.place.column)) × (a.rule < b.rule))

decided : (a b : Fault) → ((is_earlier a b ≡ true → Earlier a b) × (Earlier a b → is_earlier a b ≡ true))
decided a b =
    let lines = Decides-eqb a.place.line b.place.line in
    Decides-or (is_before a.place b.place) (same_place a.place b.place && nat_lt a.rule b.rule)
    (Decides-or (nat_lt a.place.line b.place.line) (a.place.line == b.place.line && nat_lt a.place.column b.place.column)
    (Decides-ltb a.place.line b.place.line)
    (Decides-and (a.place.line == b.place.line) (nat_lt a.place.column b.place.column) lines (Decides-ltb a.place.column b.place.column)))
    (Decides-and (same_place a.place b.place) (nat_lt a.rule b.rule)
    (Decides-and (a.place.line == b.place.line) (a.place.column == b.place.column) lines (Decides-eqb a.place.column b.place.column))
    (Decides-ltb a.rule b.rule))

leads_if_earlier : (a b : Fault) → Earlier a b → Leads a b
leads_if_earlier a b (inl (inl h)) = inl h
leads_if_earlier a b (inl (inr h)) = inr (h.0, inl h.1)
leads_if_earlier a b (inr h) = inr (h.0.0, inr (h.0.1, le_of_lt h.1))

in_order_unless : (a b : ℕ) (R : Type 0) → (a < b → ⊥) → (a ≡ b → R) → InOrder b a R
in_order_unless a b R never same = from (cases_lt a b)
  where
    at_least : (b ≡ a) ⊎ (b < a) → InOrder b a R
    at_least (inl e) = inr (e, same (sym e))
    at_least (inr h) = inl h

    from : (a < b) ⊎ (b ≤ a) → InOrder b a R
    from (inl h) = absurd (never h)
    from (inr h) = at_least (eq-or-lt_of_le h)

at_least_unless : (a b : ℕ) → (a < b → ⊥) → b ≤ a
at_least_unless a b never = from (cases_lt a b)
  where
    from : (a < b) ⊎ (b ≤ a) → b ≤ a
    from (inl h) = absurd (never h)
    from (inr h) = h

leads_unless_earlier : (a b : Fault) → (Earlier a b → ⊥) → Leads b a
leads_unless_earlier a b never =
    in_order_unless a.place.line b.place.line _ (λ h. never (inl (inl h)))
    (λ e. in_order_unless a.place.column b.place.column _ (λ h. never (inl (inr (e, h))))
    (λ k. at_least_unless a.rule b.rule (λ h. never (inr ((e, k), h)))))

-- ---- the least of a list

least : (best : Fault) (all : List Fault) → IsFirst (best ∷ all) (least_from best all)
least best [] = record { listed = inl refl; leads = λ other h. alone other h }
  where
    alone : (other : Fault) → In (best ∷ []) other → Leads best other
    alone other (inl e) = subst (λ f. Leads best f) e (leads_itself best)
    alone other (inr h) = absurd h
least best (f ∷ rest) = step (λ g. least g rest) (is_earlier f best) refl
  where
    on_first : (m : Fault) → IsFirst (f ∷ rest) m → Leads f best → (other : Fault) → In (best ∷ f ∷ rest) other → Leads m other
    on_first m q h other (inl e) = subst (λ g. Leads m g) e (leads_on m f best (q.leads f (inl refl)) h)
    on_first m q h other (inr k) = q.leads other k

    on_best : (m : Fault) → IsFirst (best ∷ rest) m → Leads best f → (other : Fault) → In (best ∷ f ∷ rest) other → Leads m other
    on_best m q h other (inl e) = q.leads other (inl e)
    on_best m q h other (inr (inl e)) = subst (λ g. Leads m g) e (leads_on m best f (q.leads best (inl refl)) h)
    on_best m q h other (inr (inr k)) = q.leads other (inr k)

    past : (m : Fault) → In (best ∷ rest) m → In (best ∷ f ∷ rest) m
    past m (inl e) = inl e
    past m (inr k) = inr (inr k)

    step : ((g : Fault) → IsFirst (g ∷ rest) (least_from g rest)) → (t : Bool) → is_earlier f best ≡ t → IsFirst (best ∷ f ∷ rest) (least_from (if t then f else best) rest)
    step on true e =
        let q = on f in
        record { listed = inr q.listed; leads = on_first (least_from f rest) q (leads_if_earlier f best ((decided f best).0 e)) }
    step on false e =
        let q = on best in
        record { listed = past (least_from best rest) q.listed; leads = on_best (least_from best rest) q (leads_unless_earlier f best (not_from_Decides (is_earlier f best) (decided f best) e)) }

pub is_first : (all : List Fault) (f : Fault) → first_of all ≡ Some f → IsFirst all f
is_first [] f e = absurd (none-some f e)
is_first (g ∷ rest) f e = subst (λ m. IsFirst (g ∷ rest) m) (same_Some (least_from g rest) f e) (least g rest)

none_listed : (all : List Fault) → first_of all ≡ None → all ≡ []
none_listed [] e = refl
none_listed (g ∷ rest) e = absurd (none-some (least_from g rest) (sym e))

-- ---- types

pub first_is_break : (tree : Source) (f : Fault) → first_fault tree ≡ Some f → (rule : TypingRule) × (typing_number rule ≡ f.rule) × Breaks rule f.place tree
first_is_break tree f e = are_breaks tree f (is_first (faults tree) f e).listed

pub first_leads : (tree : Source) (f : Fault) → first_fault tree ≡ Some f → (rule : TypingRule) (p : Place) → Breaks rule p tree → Leads f (record { rule = typing_number rule; place = p })
first_leads tree f e rule p b = (is_first (faults tree) f e).leads _ (are_faults tree rule p b)

pub none_first : (tree : Source) → first_fault tree ≡ None → IsWellTyped tree
none_first tree e = none_broken tree (none_listed (faults tree) e)

-- ---- attributes

pub first_attribute_is_break : (t : Typed) (f : Fault) → first_attribute_fault t ≡ Some f → (rule : AttributeRule) × (attribute_number rule ≡ f.rule) × BreaksAttributes rule f.place t
first_attribute_is_break t f e = are_attribute_breaks t f (is_first (attribute_faults t) f e).listed

pub first_attribute_leads : (t : Typed) (f : Fault) → first_attribute_fault t ≡ Some f → (rule : AttributeRule) (p : Place) → BreaksAttributes rule p t → Leads f (record { rule = attribute_number rule; place = p })
first_attribute_leads t f e rule p b = (is_first (attribute_faults t) f e).leads _ (are_attribute_faults t rule p b)

pub none_first_attribute : (t : Typed) → first_attribute_fault t ≡ None → AreRight t
none_first_attribute t e = none_wrong t (none_listed (attribute_faults t) e)
