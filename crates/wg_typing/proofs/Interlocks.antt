-- Interlocked forms on parts that have types.
use Rattle.std.proofs.Common.{◌≡◌, ℕ, true, not, List, [], ◌∷◌, Option, Some, None, sym, ap, ◌∙◌, subst}
use Rattle.wg_words.specs.declared.place.Place.{Place}
use Rattle.wg_typing.specs.Conversions.{is_word, uint_type}
use Rattle.wg_typing.specs.Layers.{typed_part, fit}
use Rattle.wg_words.specs.Maybe.{◌>>=◌}
use Rattle.wg_typing.specs.Maybe.{where_true, if_there}
use Rattle.wg_typing.specs.RulesNotAssignable.{can_change, is_in_memory}
use Rattle.wg_typing.specs.TypingInterlocked.{maybe_old, with_old, compared, compared_with_old, operands, is_fixed, is_memory, word_place, memory_place, raw_type, interlocked, interlocked_at, interlocked_raw}
use Rattle.wg_typing.specs.TypingObjects.{raw_takes}
use Rattle.wg_typed.specs.declared.types.TypeTree.{TypeTree}
use Rattle.wg_typed.specs.declared.typed_stmt.InterlockedForm.{InterlockedForm}
use Rattle.wg_typed.specs.declared.typed_stmt.InterlockedForm.TheVariants as form
use Rattle.wg_typed.specs.declared.typed_stmt.Destination.{Destination}
use Rattle.wg_typed.specs.declared.typed_stmt.Destination.TheVariants as destination
use Rattle.wg_typing.proofs.Facts.{Has, has_is_some, has_then, has_through, has_where, some_of, some_value, through_where, where_is}
use Rattle.wg_typing.proofs.Parts.{AllTyped, IsTyped, has_fit, holds, site_is, well_if}
use Rattle.wg_typing.specs.declared.part.Part.{Part}
use Rattle.wg_typing.specs.declared.part.TypedPart.{TypedPart}
use Rattle.wg_typing.specs.declared.part.Operands.{Operands}
use Rattle.wg_typing.specs.PartSites.{part_site, maybe_site, operand_sites, word_sites, destination_sites, interlocked_sites, raw_word_sites, address_sites, raw_sites, takes_form}
use Rattle.wg_typing.specs.Site.{AtGoal, AtWord, AtAssigned, AtDestination}
use Rattle.wg_typing.proofs.Sites.{Well, well_left, well_right}
use Rattle.wg_typing.specs.declared.fault.TypingRule.TheVariants.{Mismatch, NotAssignable}

-- ---- operands

abbrev MaybeTyped : Option Part → Type 0
MaybeTyped None = Unit {0}
MaybeTyped (Some p) = IsTyped p

record AreTyped (o : Operands Part) : Type 0 where
  pub compare : MaybeTyped o.compare
  pub value : IsTyped o.value
  pub old : MaybeTyped o.old

maybe_old_typed : (parts : List Part) (o : Operands Part) → maybe_old parts ≡ Some o → AllTyped parts → AreTyped o
maybe_old_typed [] o e h = absurd (cc)
maybe_old_typed (v ∷ []) o e h = subst AreTyped (some_value e) (record { compare = tt; value = h.0; old = tt })
maybe_old_typed (v ∷ a ∷ []) o e h = subst AreTyped (some_value e) (record { compare = tt; value = h.0; old = h.1.0 })
maybe_old_typed (v ∷ a ∷ b ∷ rest) o e h = absurd (cc)

with_old_typed : (parts : List Part) (o : Operands Part) → with_old parts ≡ Some o → AllTyped parts → AreTyped o
with_old_typed [] o e h = absurd (cc)
with_old_typed (v ∷ []) o e h = absurd (cc)
with_old_typed (v ∷ a ∷ []) o e h = subst AreTyped (some_value e) (record { compare = tt; value = h.0; old = h.1.0 })
with_old_typed (v ∷ a ∷ b ∷ rest) o e h = absurd (cc)

compared_typed : (parts : List Part) (o : Operands Part) → compared parts ≡ Some o → AllTyped parts → AreTyped o
compared_typed [] o e h = absurd (cc)
compared_typed (v ∷ []) o e h = absurd (cc)
compared_typed (v ∷ a ∷ []) o e h = subst AreTyped (some_value e) (record { compare = h.0; value = h.1.0; old = tt })
compared_typed (v ∷ a ∷ b ∷ rest) o e h = absurd (cc)

compared_with_old_typed : (parts : List Part) (o : Operands Part) → compared_with_old parts ≡ Some o → AllTyped parts → AreTyped o
compared_with_old_typed [] o e h = absurd (cc)
compared_with_old_typed (v ∷ []) o e h = absurd (cc)
compared_with_old_typed (v ∷ a ∷ []) o e h = absurd (cc)
compared_with_old_typed (v ∷ a ∷ b ∷ []) o e h = subst AreTyped (some_value e) (record { compare = h.0; value = h.1.0; old = h.1.1.0 })
compared_with_old_typed (v ∷ a ∷ b ∷ c ∷ rest) o e h = absurd (cc)

operands_typed : (f : InterlockedForm) (parts : List Part) (o : Operands Part) → operands f parts ≡ Some o → AllTyped parts → AreTyped o
operands_typed form.Add parts = maybe_old_typed parts
operands_typed form.Min parts = maybe_old_typed parts
operands_typed form.Max parts = maybe_old_typed parts
operands_typed form.And parts = maybe_old_typed parts
operands_typed form.Or parts = maybe_old_typed parts
operands_typed form.Xor parts = maybe_old_typed parts
operands_typed form.Exchange parts = with_old_typed parts
operands_typed form.CompareExchange parts = compared_with_old_typed parts
operands_typed form.CompareStore parts = compared_typed parts

-- ---- places

has_word : (p : Part) → IsTyped p → Well (part_site AtWord p) → Well (part_site AtAssigned p) → Has (word_place p)
has_word p h w c = has_then (typed_part p) _ h (λ t e.
    has_through (is_word t.of) t _ (holds (is_word t.of) t.place ((site_is AtWord (typed_part p) t e w).clear Mismatch)) (has_where (not (is_fixed t.standing)) _ (holds (can_change t) t.place ((site_is AtAssigned (typed_part p) t e c).clear NotAssignable))))

memory_is : (p : Part) (t : TypedPart) → typed_part p ≡ Some t → is_word t.of ≡ true → is_memory t.standing ≡ true → memory_place p ≡ Some t
memory_is p t e w m =
    ap (λ o. ◌>>=◌ o (λ t. ◌>>=◌ (where_true (is_word t.of) t) (λ t. where_true (is_memory t.standing) t))) e
    ∙ through_where (is_word t.of) t _ w ∙ where_is (is_memory t.standing) t m

-- ---- forms

has_maybe_fit : (by : TypeTree) (o : Option Part) → MaybeTyped o → Well (maybe_site (AtGoal by) o) → Has (if_there (fit by) o)
has_maybe_fit by None h e = tt
has_maybe_fit by (Some p) h e = has_then (fit by p) _ (has_fit by p h e) (λ a q. tt)

has_maybe_word : (o : Option Part) → MaybeTyped o → Well (maybe_site AtWord o) → Well (maybe_site AtAssigned o) → Has (if_there word_place o)
has_maybe_word None h w c = tt
has_maybe_word (Some p) h w c = has_then (word_place p) _ (has_word p h w c) (λ a q. tt)

has_form : (name : Place) (f : InterlockedForm) (to : Destination) (by : TypeTree) (o : Operands Part) → AreTyped o → Well (operand_sites by o) → Well (maybe_site AtAssigned o.old) → Has (interlocked name f to by o)
has_form name f to by o h w c =
    has_then (if_there (fit by) o.compare) _ (has_maybe_fit by o.compare h.compare (well_left w)) (λ a q.
    has_then (fit by o.value) _ (has_fit by o.value h.value (well_left (well_right w))) (λ b r.
    has_then (if_there word_place o.old) _ (has_maybe_word o.old h.old (well_right (well_right w)) c) (λ d s. tt)))

pub has_interlocked : (name : Place) (f : InterlockedForm) (parts : List Part) → AllTyped parts → takes_form f parts ≡ true → Well (interlocked_sites f parts) → Has (interlocked_at name f parts)
has_interlocked name f [] h n w = absurd (cc)
has_interlocked name f (to ∷ parts) h n w = has_then (operands f parts) _ (has_is_some (operands f parts) n) (λ o q. has_then (memory_place to) _ (placed o q) (λ t r. formed o q t r))
  where
    here : (o : Operands Part) → operands f parts ≡ Some o → Well (destination_sites to (Some o))
    here o q = subst (λ x. Well (destination_sites to x)) q w

    word : (o : Operands Part) (t : TypedPart) → operands f parts ≡ Some o → typed_part to ≡ Some t → is_word t.of ≡ true
    word o t q r = holds (is_word t.of) t.place ((site_is AtDestination (typed_part to) t r (well_left (here o q))).clear Mismatch)

    words : (o : Operands Part) (t : TypedPart) → operands f parts ≡ Some o → typed_part to ≡ Some t → Well (operand_sites t.of o)
    words o t q r = well_if (is_word t.of) (operand_sites t.of o) (word o t q r) (subst (λ x. Well (word_sites x o)) r (well_left (well_right (here o q))))

    reached : (o : Operands Part) (t : TypedPart) → operands f parts ≡ Some o → typed_part to ≡ Some t → memory_place to ≡ Some t
    reached o t q r = memory_is to t r (word o t q r) (holds (is_in_memory t) t.place ((site_is AtDestination (typed_part to) t r (well_left (here o q))).clear NotAssignable))

    placed : (o : Operands Part) → operands f parts ≡ Some o → Has (memory_place to)
    placed o q = let t = some_of (typed_part to) h.0 in subst Has (sym (reached o t.0 q t.1)) tt

    formed : (o : Operands Part) → operands f parts ≡ Some o → (t : TypedPart) → memory_place to ≡ Some t → Has (interlocked name f (destination.Scalar t.tree) t.of o)
    formed o q t r =
        let u = some_of (typed_part to) h.0 in
        subst (λ (t : TypedPart). Has (interlocked name f (destination.Scalar t.tree) t.of o)) (some_value (sym (reached o u.0 q u.1) ∙ r))
        (has_form name f (destination.Scalar u.0.tree) u.0.of o (operands_typed f parts o q h.1) (words o u.0 q u.1) (well_right (well_right (here o q))))

pub has_raw : (name : Place) (f : InterlockedForm) (buffer : ℕ) (parts : List Part) → AllTyped parts → raw_takes f parts ≡ true → Well (raw_sites f parts) → Has (interlocked_raw name f buffer parts)
has_raw name f buffer [] h n w = absurd (cc)
has_raw name f buffer (to ∷ parts) h n w = has_then (operands f parts) _ (has_is_some (operands f parts) n) (λ o q.
    let here : Well (address_sites to (Some o)) = subst (λ x. Well (address_sites to x)) q w in
    let typed = operands_typed f parts o q h.1 in
    has_then (fit uint_type to) _ (has_fit uint_type to h.0 (well_left here)) (λ a r.
    has_then (typed_part o.value) _ typed.value (λ v s.
    has_form name f (destination.Raw buffer a) (raw_type v.of) o typed
    (subst (λ x. Well (raw_word_sites (◌>>=◌ x (λ t. Some t.of)) o)) s (well_left (well_right here))) (well_right (well_right here)))))
