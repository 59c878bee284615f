-- Interlocked forms are sound.
use Rattle.std.proofs.Common.{◌≡◌, ℕ, Bool, true, false, not, cond, List, [], ◌∷◌, Option, Some, None, refl, sym, subst}
use Rattle.std.specs.Prelude.{◌&&◌, ◌||◌}
use Rattle.wg_words.specs.declared.place.Place.{Place}
use Rattle.wg_typing.specs.Conversions.{same_type, is_word, truth_type, uint_type}
use Rattle.wg_typing.specs.Layers.{typed_part, fit}
use Rattle.wg_typing.specs.Maybe.{where_true, if_there}
use Rattle.wg_typing.specs.TypingHandle.{same_truth}
use Rattle.wg_typing.specs.TypingInterlocked.{a_value_alone, with_old, maybe_old, compared, compared_with_old, operands, is_fixed, is_memory, is_int, word_place, memory_place, raw_type, interlocked, interlocked_at, interlocked_raw}
use Rattle.wg_sound.specs.Room.{Room, is_writable_raw, buffer_type}
use Rattle.wg_sound.specs.SoundExpr.{shown}
use Rattle.wg_sound.specs.SoundStep.{is_word_place, sound_of, destination_type}
use Rattle.wg_facts.specs.Tests.{test, if_any}
use Rattle.wg_typed.specs.declared.types.TypeTree.{TypeTree}
use Rattle.wg_typed.specs.declared.types.TypeTree.TheVariants as type
use Rattle.wg_tree.specs.declared.expr.Scalar.TheVariants as scalar
use Rattle.wg_typed.specs.declared.typed_expr.TypedExpr.{TypedExpr}
use Rattle.wg_typed.specs.declared.typed_stmt.Destination.{Destination}
use Rattle.wg_typed.specs.declared.typed_stmt.Destination.TheVariants as destination
use Rattle.wg_typed.specs.declared.typed_stmt.InterlockedForm.{InterlockedForm}
use Rattle.wg_typed.specs.declared.typed_stmt.InterlockedForm.TheVariants as form
use Rattle.wg_typing.specs.declared.scope.Standing.{Standing}
use Rattle.wg_typing.specs.declared.scope.Standing.TheVariants as standing
use Rattle.wg_facts.proofs.Basics.{If, both, not_false, if_then, if_was, if_where, where_so, if_there_is}
use Rattle.wg_sound.proofs.Layered.{Is, is_typed}
use Rattle.wg_sound.proofs.Meanings.{ValueIs, PartIs, AllParts, TypedIs, typed_is, fit_is}
use Rattle.wg_typing.specs.declared.part.Operands.{Operands}
use Rattle.wg_typing.specs.declared.part.Part.{Part}
use Rattle.wg_typing.specs.declared.part.TypedPart.{TypedPart}

truth_self : (b : Bool) → same_truth b b ≡ true
truth_self true = refl
truth_self false = refl

memory_is_own : (s : Standing) → is_memory s ≡ true → is_fixed s ≡ false
memory_is_own standing.Fixed e = absurd (cc)
memory_is_own standing.Own e = refl
memory_is_own standing.Memory e = refl

raw_word : (t : TypeTree) → is_word (raw_type t) ≡ true
raw_word t = picked (is_int t || same_type t truth_type)
  where
    picked : (b : Bool) → is_word (cond b (type.Scalar scalar.Int) uint_type) ≡ true
    picked true = refl
    picked false = refl

module _ (room : Room) where
  pub record OperandsAre (o : Operands Part) : Type 0 where
    pub compare : If (PartIs room) o.compare
    pub value : PartIs room o.value
    pub old : If (PartIs room) o.old

  alone_are : (parts : List Part) → AllParts room parts → If OperandsAre (a_value_alone parts)
  alone_are (v ∷ []) h = record { compare = tt; value = h.0; old = tt }
  alone_are _ h = tt

  with_are : (parts : List Part) → AllParts room parts → If OperandsAre (with_old parts)
  with_are (v ∷ o ∷ []) h = record { compare = tt; value = h.0; old = h.1.0 }
  with_are _ h = tt

  maybe_are : (parts : List Part) → AllParts room parts → If OperandsAre (maybe_old parts)
  maybe_are (v ∷ []) h = alone_are (v ∷ []) h
  maybe_are [] h = tt
  maybe_are (v ∷ o ∷ rest) h = with_are (v ∷ o ∷ rest) h

  compared_are : (parts : List Part) → AllParts room parts → If OperandsAre (compared parts)
  compared_are (c ∷ v ∷ []) h = record { compare = h.0; value = h.1.0; old = tt }
  compared_are _ h = tt

  all_are : (parts : List Part) → AllParts room parts → If OperandsAre (compared_with_old parts)
  all_are (c ∷ v ∷ o ∷ []) h = record { compare = h.0; value = h.1.0; old = h.1.1.0 }
  all_are _ h = tt

  operands_are : (f : InterlockedForm) (parts : List Part) → AllParts room parts → If OperandsAre (operands f parts)
  operands_are form.Add parts h = maybe_are parts h
  operands_are form.Min parts h = maybe_are parts h
  operands_are form.Max parts h = maybe_are parts h
  operands_are form.And parts h = maybe_are parts h
  operands_are form.Or parts h = maybe_are parts h
  operands_are form.Xor parts h = maybe_are parts h
  operands_are form.Exchange parts h = with_are parts h
  operands_are form.CompareExchange parts h = all_are parts h
  operands_are form.CompareStore parts h = compared_are parts h

  word_place_is : (p : Part) → PartIs room p → If (λ e. is_word_place (shown room e) ≡ true) (word_place p)
  word_place_is p h = if_then (TypedIs room) (λ e. is_word_place (shown room e) ≡ true) (typed_part p) _ (typed_is room p h) (λ t k.
      if_was (λ e. is_word_place (shown room e) ≡ true) (where_true (is_word t.of) t) _ (λ u e.
      let w = where_so (is_word t.of) t u e in
      if_where (λ e. is_word_place (shown room e) ≡ true) (not (is_fixed u.standing)) u.tree (λ f.
      let i : TypedIs room u = subst (TypedIs room) w.1 k in
      let j : is_word u.of ≡ true = subst (λ (x : TypedPart). is_word x.of ≡ true) w.1 w.0 in
      both (both i.is.sound (subst (λ s. not (is_fixed s) ≡ true) (sym (i.stands (not_false (is_fixed u.standing) f))) f)) (subst (λ x. is_word x ≡ true) (sym i.is.of) j))))

  pub interlocked_is : (name : Place) (f : InterlockedForm) (to : Destination) (by : TypeTree) (o : Operands Part) → destination_type room to by ≡ true → OperandsAre o → If (ValueIs room) (interlocked name f to by o)
  interlocked_is name f to by o d h =
      if_then (λ c. if_any (sound_of room by) c ≡ true) (ValueIs room) (if_there (fit by) o.compare) _ (if_there_is (PartIs room) (λ c. if_any (sound_of room by) c ≡ true) (fit by) o.compare h.compare refl (λ p k. typed_if (fit by p) (fit_is room by p k))) (λ compare c.
      if_then (Is room by) (ValueIs room) (fit by o.value) _ (fit_is room by o.value h.value) (λ v i.
      if_then (λ x. if_any (λ e. is_word_place (shown room e)) x ≡ true) (ValueIs room) (if_there word_place o.old) _ (if_there_is (PartIs room) (λ x. if_any (λ e. is_word_place (shown room e)) x ≡ true) word_place o.old h.old refl word_place_is) (λ old l.
      subst (λ t. (destination_type room to t && ((shown room v).sound && (same_truth (is_int by) (is_int t) && (if_any (sound_of room t) compare && if_any (λ e. is_word_place (shown room e)) old)))) ≡ true) (sym i.of)
      (both d (both i.sound (both (truth_self (is_int by)) (both c l)))))))
    where
      typed_if : (o : Option TypedExpr) → If (Is room by) o → If (λ b. sound_of room by b ≡ true) o
      typed_if None k = tt
      typed_if (Some e) k = is_typed room by e k

  pub interlocked_at_is : (name : Place) (f : InterlockedForm) (parts : List Part) → AllParts room parts → If (ValueIs room) (interlocked_at name f parts)
  interlocked_at_is name f [] h = tt
  interlocked_at_is name f (to ∷ parts) h = if_then OperandsAre (ValueIs room) (operands f parts) _ (operands_are f parts h.1) (λ o k.
      if_then Stands (ValueIs room) (memory_place to) _ memory_is (λ u s. interlocked_is name f (destination.Scalar u.tree) u.of o s k))
    where
      Stands : TypedPart → Type 0
      Stands u = destination_type room (destination.Scalar u.tree) u.of ≡ true

      memory_is : If Stands (memory_place to)
      memory_is = if_then (TypedIs room) Stands (typed_part to) _ (typed_is room to h.0) (λ t i.
          if_was Stands (where_true (is_word t.of) t) _ (λ u e.
          let w = where_so (is_word t.of) t u e in
          if_where Stands (is_memory u.standing) u (λ m.
          let j : TypedIs room u = subst (TypedIs room) w.1 i in
          let l : is_word u.of ≡ true = subst (λ (x : TypedPart). is_word x.of ≡ true) w.1 w.0 in
          both l (both (is_typed room u.of u.tree j.is) (subst (λ s. is_memory s ≡ true) (sym (j.stands (memory_is_own u.standing m))) m)))))

  pub interlocked_raw_is : (name : Place) (f : InterlockedForm) (buffer : ℕ) (parts : List Part) → test is_writable_raw (buffer_type room buffer) ≡ true → AllParts room parts → If (ValueIs room) (interlocked_raw name f buffer parts)
  interlocked_raw_is name f buffer [] b h = tt
  interlocked_raw_is name f buffer (to ∷ parts) b h = if_then OperandsAre (ValueIs room) (operands f parts) _ (operands_are f parts h.1) (λ o k.
      if_then (Is room uint_type) (ValueIs room) (fit uint_type to) _ (fit_is room uint_type to h.0) (λ address i.
      if_was (ValueIs room) (typed_part o.value) _ (λ v e. interlocked_is name f (destination.Raw buffer address) (raw_type v.of) o (both (raw_word v.of) (both b (is_typed room uint_type address i))) k)))
