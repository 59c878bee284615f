-- Intrinsics and constructors on parts that have types.
use Rattle.std.proofs.Common.{◌≡◌, ℕ, suc, Bool, true, false, List, [], ◌∷◌, length, map, Option, Some, refl, sym, ap, ◌∙◌, subst, None}
use Rattle.std.specs.Prelude.{◌&&◌, ◌==◌}
use Rattle.wg_words.specs.declared.place.Place.{Place}
use Rattle.wg_typing.specs.Conversions.{numbers, type_of, size_fits, fits, is_number, truths, of_value_type, chosen_scalar, size_of}
use Rattle.wg_typing.specs.Layers.{typed_part, all_typed_parts, convert, fixed}
use Rattle.wg_words.specs.Maybe.{◌>>=◌}
use Rattle.wg_typing.specs.Maybe.{where_true}
use Rattle.wg_typing.specs.TypingConstructor.{component_count, components, constructed, makes, all_make}
use Rattle.wg_typing.specs.TypingIntrinsic.{Reckons, in_common, in_uint, to_one_truth, in_truths, choosing, reckons, arity_of, argument_suits, all_suit, size_of_all, chosen_of_size, signature, signature_on, all_numbers, convert_all, intrinsic_value, all_fit_size, joined_size_of}
use Rattle.wg_tree.specs.declared.expr.ValueType.{ValueType}
use Rattle.wg_tree.specs.declared.expr.ValueType.TheVariants as value_type
use Rattle.wg_typed.specs.declared.typed_expr.Intrinsic.{Intrinsic}
use Rattle.wg_typed.specs.declared.typed_expr.TypedKind.TheVariants as tree
use Rattle.wg_typing.proofs.Facts.{Has, both, has_is_none, has_then, has_through, is_false, some_value, then_some, through_where, and_left, and_right, where_same, where_passes}
use Rattle.wg_typing.proofs.Parts.{AllTyped, has_all_parts, has_convert, holds, site_is}
use Rattle.wg_typing.proofs.Types.{fits_sized, has_numbers, size_same}
use Rattle.wg_typed.specs.declared.types.TypeTree.{TypeTree}
use Rattle.wg_typed.specs.declared.types.TypeTree.TheVariants as type
use Rattle.wg_typing.specs.declared.numbers.Numbers.{Numbers}
use Rattle.wg_typing.specs.declared.part.Part.{Part}
use Rattle.wg_typing.specs.declared.part.TypedPart.{TypedPart}
use Rattle.wg_typing.specs.declared.numbers.Signature.{Signature}
use Rattle.wg_typing.specs.PartSites.{each_site, together_site, intrinsic_sites, components_site}
use Rattle.wg_typing.specs.Site.{Site, AtSuited, AtComponent}
use Rattle.wg_typing.proofs.Sites.{Clear, Well, well_left, well_only, well_right}
use Rattle.wg_typing.specs.declared.fault.TypingRule.TheVariants.{Mismatch, WrongArity}

-- ---- parts, their types and their numbers, in step

-- these are the parts with their types
abbrev pub Shown : List Part → List TypedPart → Type 0
Shown [] [] = Unit {0}
Shown [] (t ∷ ts) = ⊥
Shown (p ∷ parts) [] = ⊥
Shown (p ∷ parts) (t ∷ ts) = (typed_part p ≡ Some t) × Shown parts ts

pub shown : (parts : List Part) (ts : List TypedPart) → all_typed_parts parts ≡ Some ts → Shown parts ts
shown [] ts e = subst (Shown []) (some_value e) tt
shown (p ∷ parts) ts e =
    let a = then_some (typed_part p) _ ts e in
    let b = then_some (all_typed_parts parts) _ ts a.2 in
    subst (Shown (p ∷ parts)) (some_value b.2) (a.1, shown parts b.0 b.1)

shown_length : (parts : List Part) (ts : List TypedPart) → Shown parts ts → length ts ≡ length parts
shown_length [] [] h = refl
shown_length [] (t ∷ ts) h = absurd h
shown_length (p ∷ parts) [] h = absurd h
shown_length (p ∷ parts) (t ∷ ts) h = ap suc (shown_length parts ts h.1)

shown_suit : (r : Reckons) (parts : List Part) (ts : List TypedPart) → Shown parts ts → Well (each_site (AtSuited r) parts) → all_suit r ts ≡ true
shown_suit r [] [] h w = refl
shown_suit r [] (t ∷ ts) h w = absurd h
shown_suit r (p ∷ parts) [] h w = absurd h
shown_suit r (p ∷ parts) (t ∷ ts) h w = both (argument_suits r t.of) _
    (holds (argument_suits r t.of) t.place ((site_is (AtSuited r) (typed_part p) t h.0 (well_left w)).clear Mismatch))
    (shown_suit r parts ts h.1 (well_right w))

-- all are numbers
abbrev AllNumbers : List TypedPart → Type 0
AllNumbers [] = Unit {0}
AllNumbers (t ∷ ts) = (is_number t.of ≡ true) × AllNumbers ts

shown_numbers : (at : TypedPart → Site) (parts : List Part) (ts : List TypedPart) → ((t : TypedPart) → Clear (at t) → is_number t.of ≡ true) → Shown parts ts → Well (each_site at parts) → AllNumbers ts
shown_numbers at [] [] k h w = tt
shown_numbers at [] (t ∷ ts) k h w = absurd h
shown_numbers at (p ∷ parts) [] k h w = absurd h
shown_numbers at (p ∷ parts) (t ∷ ts) k h w = (k t (site_is at (typed_part p) t h.0 (well_left w)), shown_numbers at parts ts k h.1 (well_right w))

has_all_numbers : (ts : List TypedPart) → AllNumbers ts → Has (all_numbers ts)
has_all_numbers [] h = tt
has_all_numbers (t ∷ ts) h = has_then (numbers t.of) _ (has_numbers t.of h.0) (λ n e. has_then (all_numbers ts) _ (has_all_numbers ts h.1) (λ ns f. tt))

-- these are the numbers of the types
abbrev Numbered : List TypedPart → List Numbers → Type 0
Numbered [] [] = Unit {0}
Numbered [] (n ∷ ns) = ⊥
Numbered (t ∷ ts) [] = ⊥
Numbered (t ∷ ts) (n ∷ ns) = (numbers t.of ≡ Some n) × Numbered ts ns

numbered : (ts : List TypedPart) (ns : List Numbers) → all_numbers ts ≡ Some ns → Numbered ts ns
numbered [] ns e = subst (Numbered []) (some_value e) tt
numbered (t ∷ ts) ns e =
    let a = then_some (numbers t.of) _ ns e in
    let b = then_some (all_numbers ts) _ ns a.2 in
    subst (Numbered (t ∷ ts)) (some_value b.2) (a.1, numbered ts b.0 b.1)

-- ---- conversions to the types of a signature

-- each converts to its type, and there are as many
abbrev Converts : List Numbers → List TypedPart → Type 0
Converts [] [] = Unit {0}
Converts [] (t ∷ ts) = ⊥
Converts (m ∷ ms) [] = ⊥
Converts (m ∷ ms) (t ∷ ts) = (fits t.of (type_of m) ≡ true) × Converts ms ts

has_convert_all : (ms : List Numbers) (ts : List TypedPart) → Converts ms ts → Has (convert_all ms ts)
has_convert_all [] [] h = tt
has_convert_all [] (t ∷ ts) h = absurd h
has_convert_all (m ∷ ms) [] h = absurd h
has_convert_all (m ∷ ms) (t ∷ ts) h =
    has_then (convert (type_of m) t) _ (has_convert (type_of m) t h.0) (λ a e. has_then (convert_all ms ts) _ (has_convert_all ms ts h.1) (λ b f. tt))

-- each to its own, where no size changes or all sizes fit
converts_each : (to : Numbers → Numbers) (ts : List TypedPart) (ns : List Numbers) → ((n : Numbers) → size_fits n (to n).size ≡ true) → Numbered ts ns → Converts (map to ns) ts
converts_each to [] [] k h = tt
converts_each to [] (n ∷ ns) k h = absurd h
converts_each to (t ∷ ts) [] k h = absurd h
converts_each to (t ∷ ts) (n ∷ ns) k h = (fits_sized t.of n (to n) h.0 (k n), converts_each to ts ns k h.1)

abbrev AllSizes : List Numbers → Option ℕ → Type 0
AllSizes [] size = Unit {0}
AllSizes (n ∷ ns) size = (size_fits n size ≡ true) × AllSizes ns size

all_sizes : (ns : List Numbers) (size : Option ℕ) → all_fit_size ns size ≡ true → AllSizes ns size
all_sizes [] size e = tt
all_sizes (n ∷ ns) size e = (and_left (size_fits n size) _ e, all_sizes ns size (and_right (size_fits n size) _ e))

joined_sizes : (ns : List Numbers) (size : Option ℕ) → joined_size_of ns ≡ Some size → AllSizes ns size
joined_sizes ns size e =
    let r = then_some (size_of_all ns) _ size e in
    subst (AllSizes ns) (where_same (all_fit_size ns r.0) r.0 size r.2) (all_sizes ns r.0 (where_passes (all_fit_size ns r.0) r.0 size r.2))

converts_alike : (m : Numbers) (ts : List TypedPart) (ns : List Numbers) → AllSizes ns m.size → Numbered ts ns → Converts (map (λ a. m) ns) ts
converts_alike m [] [] k h = tt
converts_alike m [] (n ∷ ns) k h = absurd h
converts_alike m (t ∷ ts) [] k h = absurd h
converts_alike m (t ∷ ts) (n ∷ ns) k h = (fits_sized t.of n m h.0 k.0, converts_alike m ts ns k.1 h.1)

converts_choosing : (size : Option ℕ) (ts : List TypedPart) (ns : List Numbers) (s : Signature) → AllSizes ns size → Numbered ts ns → chosen_of_size ns size ≡ Some s → Converts s.arguments ts
converts_choosing size ts [] s k h e = absurd (cc)
converts_choosing size ts (a ∷ []) s k h e = absurd (cc)
converts_choosing size ts (a ∷ b ∷ []) s k h e = absurd (cc)
converts_choosing size ts (a ∷ b ∷ c ∷ d ∷ ns) s k h e = absurd (cc)
converts_choosing size [] (a ∷ b ∷ c ∷ []) s k h e = absurd h
converts_choosing size (x ∷ []) (a ∷ b ∷ c ∷ []) s k h e = absurd h.1
converts_choosing size (x ∷ y ∷ []) (a ∷ b ∷ c ∷ []) s k h e = absurd h.1.1
converts_choosing size (x ∷ y ∷ z ∷ w ∷ ts) (a ∷ b ∷ c ∷ []) s k h e = absurd h.1.1.1
converts_choosing size (x ∷ y ∷ z ∷ []) (a ∷ b ∷ c ∷ []) s k h e =
    subst (λ (s : Signature). Converts s.arguments (x ∷ y ∷ z ∷ [])) (some_value e)
    (fits_sized x.of a (truths size) h.0 k.0, (fits_sized y.of b chosen h.1.0 k.1.0, (fits_sized z.of c chosen h.1.1.0 k.1.1.0, tt)))
  where
    chosen : Numbers
    chosen = record { of = chosen_scalar b.of c.of; size = size }

-- the arguments of an intrinsic convert to what its signature wants
signature_converts : (r : Reckons) (ts : List TypedPart) (ns : List Numbers) (s : Signature) → Numbered ts ns → signature r ns ≡ Some s → Converts s.arguments ts
signature_converts in_common ts ns s h e =
    let a = then_some (joined_size_of ns) _ s e in
    subst (λ (s : Signature). Converts s.arguments ts) (some_value a.2) (converts_alike _ ts ns (joined_sizes ns a.0 a.1) h)
signature_converts in_uint ts ns s h e =
    let a = then_some (joined_size_of ns) _ s e in
    subst (λ (s : Signature). Converts s.arguments ts) (some_value a.2) (converts_alike _ ts ns (joined_sizes ns a.0 a.1) h)
signature_converts to_one_truth ts ns s h e = subst (λ (s : Signature). Converts s.arguments ts) (some_value e) (converts_each (λ n. truths n.size) ts ns size_same h)
signature_converts in_truths ts ns s h e =
    let a = then_some (joined_size_of ns) _ s e in
    subst (λ (s : Signature). Converts s.arguments ts) (some_value a.2) (converts_alike _ ts ns (joined_sizes ns a.0 a.1) h)
signature_converts choosing ts ns s h e =
    let a = then_some (joined_size_of ns) _ s e in
    converts_choosing a.0 ts ns s (joined_sizes ns a.0 a.1) h a.2

-- ---- intrinsics

together : (name : Place) (i : Intrinsic) (o : Option (List TypedPart)) (ts : List TypedPart) → o ≡ Some ts → all_suit (reckons i) ts ≡ true → Well (together_site name i o) → Has (signature_on i ts)
together name i o ts e s h = has_is_none (signature_on i ts) (alone (all_suit (reckons i) ts) _ s (is_false _ name ((well_only (subst (λ o. Well (together_site name i o)) e h)).clear Mismatch)))
  where
    alone : (a b : Bool) → a ≡ true → (a && b) ≡ false → b ≡ false
    alone true b e f = f
    alone false b e f = absurd (cc)

pub has_intrinsic : (name : Place) (i : Intrinsic) (parts : List Part) → AllTyped parts → (length parts == arity_of i) ≡ true → Well (intrinsic_sites name i parts) → Has (intrinsic_value name i parts)
has_intrinsic name i parts h l e = has_then (all_typed_parts parts) _ (has_all_parts parts h) typed
  where
    typed : (ts : List TypedPart) → all_typed_parts parts ≡ Some ts → Has (◌>>=◌ (◌>>=◌ (where_true ((length ts == arity_of i) && all_suit (reckons i) ts) ts) (signature_on i)) (λ s. ◌>>=◌ (convert_all s.arguments ts) (λ arguments. fixed name (type_of s.result) (tree.Intrinsic i arguments))))
    typed ts q =
        let s = shown parts ts q in
        let suit = shown_suit (reckons i) parts ts s (well_left e) in
        let counted = ap (λ (n : ℕ). n == arity_of i) (shown_length parts ts s) ∙ l in
        let whole = through_where ((length ts == arity_of i) && all_suit (reckons i) ts) ts (signature_on i) (both _ _ counted suit) in
        has_then (◌>>=◌ (where_true ((length ts == arity_of i) && all_suit (reckons i) ts) ts) (signature_on i)) _ (subst Has (sym whole) (together name i (all_typed_parts parts) ts q suit (well_right e)))
        (λ g p.
        let a = then_some (all_numbers ts) _ g (sym whole ∙ p) in
        has_then (convert_all g.arguments ts) _ (has_convert_all g.arguments ts (signature_converts (reckons i) ts a.0 g (numbered ts a.0 a.1) a.2)) (λ arguments f. tt))

-- ---- constructors

value_numbers : (of : ValueType) → Has (numbers (of_value_type of))
value_numbers (value_type.Scalar of) = tt
value_numbers (value_type.Vector of n) = tt

value_size : (of : ValueType) (n : Numbers) → numbers (of_value_type of) ≡ Some n → n.size ≡ size_of of
value_size (value_type.Scalar of) n e = ap (λ (m : Numbers). m.size) (some_value (sym e))
value_size (value_type.Vector of k) n e = ap (λ (m : Numbers). m.size) (some_value (sym e))

-- what makes a part of a constructor is a number
makes_number : (size : Option ℕ) (t : TypeTree) → makes size t ≡ true → is_number t ≡ true
makes_number size (type.Scalar of) e = refl
makes_number size (type.Vector of n) e = refl
makes_number None (type.Struct number) e = absurd (cc)
makes_number (Some k) (type.Struct number) e = absurd (cc)
makes_number None (type.Array of n) e = absurd (cc)
makes_number (Some k) (type.Array of n) e = absurd (cc)

shown_make : (size : Option ℕ) (parts : List Part) (ts : List TypedPart) → Shown parts ts → Well (each_site (AtComponent size) parts) → all_make size ts ≡ true
shown_make size [] [] h w = refl
shown_make size [] (t ∷ ts) h w = absurd h
shown_make size (p ∷ parts) [] h w = absurd h
shown_make size (p ∷ parts) (t ∷ ts) h w = both (makes size t.of) _
    (holds (makes size t.of) t.place ((site_is (AtComponent size) (typed_part p) t h.0 (well_left w)).clear Mismatch))
    (shown_make size parts ts h.1 (well_right w))

counted : (goal : Option Numbers) (n : Numbers) (o : Option (List TypedPart)) (ts : List TypedPart) (ns : List Numbers) (place : Place) → goal ≡ Some n → o ≡ Some ts → all_numbers ts ≡ Some ns → Well (components_site place goal (◌>>=◌ o all_numbers))
    → (component_count ns == components n.size) ≡ true
counted goal n o ts ns place g e f w = holds _ place
    ((well_only (subst (λ x. Well (components_site place (Some n) x)) f (subst (λ x. Well (components_site place (Some n) (◌>>=◌ x all_numbers))) e (subst (λ x. Well (components_site place x (◌>>=◌ o all_numbers))) g w)))).clear WrongArity)

pub has_constructed : (place : Place) (of : ValueType) (parts : List Part) → AllTyped parts → Well (each_site (AtComponent (size_of of)) parts) → Well (components_site place (numbers (of_value_type of)) (◌>>=◌ (all_typed_parts parts) all_numbers))
    → Has (◌>>=◌ (numbers (of_value_type of)) (λ goal. constructed place goal parts))
has_constructed place of parts h e m = has_then (numbers (of_value_type of)) _ (value_numbers of) (λ goal g. has_then (all_typed_parts parts) _ (has_all_parts parts h) (λ ts q.
    has_then (all_numbers ts) _ (has_all_numbers ts (shown_numbers (AtComponent (size_of of)) parts ts (λ t k. makes_number (size_of of) t.of (holds (makes (size_of of) t.of) t.place (k.clear Mismatch))) (shown parts ts q) e)) (λ ns p.
    let right = counted (numbers (of_value_type of)) goal (all_typed_parts parts) ts ns place g q p m in
    let made = subst (λ size. all_make size ts ≡ true) (sym (value_size of goal g)) (shown_make (size_of of) parts ts (shown parts ts q) e) in
    has_then (◌>>=◌ (where_true ((component_count ns == components goal.size) && all_make goal.size ts) ns) (λ ns. convert_all (map (λ n. record { of = goal.of; size = n.size }) ns) ts)) _
    (has_through ((component_count ns == components goal.size) && all_make goal.size ts) ns (λ ns. convert_all (map (λ n. record { of = goal.of; size = n.size }) ns) ts) (both _ _ right made)
    (has_convert_all _ ts (converts_each (λ n. record { of = goal.of; size = n.size }) ts ns size_same (numbered ts ns p))))
    (λ trees r. tt))))
