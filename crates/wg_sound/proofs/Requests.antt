-- Handles and their requests are sound.
use Rattle.std.proofs.Common.{◌≡◌, ℕ, Bool, true, false, [], ◌∷◌, map, length, Option, Some, None, refl, sym, ap, ◌∙◌, subst}
use Rattle.std.specs.Prelude.{◌&&◌, ◌==◌, slice_get}
use Rattle.wg_typing.specs.Maybe.{listed, all_of}
use Rattle.wg_typing.specs.Scope.{Context}
use Rattle.wg_typing.specs.TypingExpr.{part}
use Rattle.wg_typing.specs.TypingHandle.{RequestForm, same_truth, handle_word, handle_record, request_in, handle_request, handle_tree, with_handle, request_stmt}
use Rattle.wg_facts.specs.Tests.{test, if_any}
use Rattle.wg_sound.specs.Room.{Room, Output, output_at}
use Rattle.wg_sound.specs.Room.{handle_record as record_of_handle}
use Rattle.wg_sound.specs.Sound.{handle_stands}
use Rattle.wg_sound.specs.SoundStmt.{is_request_of, is_sent}
use Rattle.wg_tree.specs.declared.expr.Expr.{Expr}
use Rattle.wg_tree.specs.declared.expr.Named.{Named}
use Rattle.wg_tree.specs.declared.stmt.ObjectType.{ObjectType}
use Rattle.wg_typed.specs.declared.typed.TypedHandle.{TypedHandle}
use Rattle.wg_typed.specs.declared.typed_expr.TypedExpr.{TypedExpr}
use Rattle.wg_typed.specs.declared.typed_stmt.TypedStmt.TheVariants as t
use Rattle.wg_typing.specs.declared.scope.Act.TheVariants as act
use Rattle.wg_typing.specs.declared.scope.Meant.TheVariants as meant
use Rattle.wg_typing.specs.declared.scope.Object.TheVariants as object
use Rattle.wg_typing.specs.declared.scope.Value.{Value}
use Rattle.wg_typing.specs.declared.scope.Value.TheVariants as value
use Rattle.wg_facts.proofs.Basics.{and_then, If, and_right, both, some_value, if_was, if_where, if_so, same_count, same_self, test_some, every_more}
use Rattle.wg_sound.proofs.Meanings.{ValueIs, RequestIs}
use Rattle.wg_facts.proofs.Lists.{joined, at_end_of}
use Rattle.wg_sound.proofs.Growing.{Grows, grows_self, Ends}
use Rattle.wg_sound.proofs.Declarations.{Stands, fits_more}
use Rattle.wg_sound.proofs.Statements.{StmtIs, does, sound_Request}
use Rattle.wg_sound.proofs.Whole.{Fits, part_is}

module _ (room : Room) where
  pub record Asked (number : Option ℕ) (r : RequestForm) : Type 0 where
    pub at : (n : ℕ) × (number ≡ Some n) × RequestIs room r.output n r.element r.amount

  truth_same : (a b : Bool) → same_truth a b ≡ true → a ≡ b
  truth_same true true e = refl
  truth_same true false e = absurd (cc)
  truth_same false true e = absurd (cc)
  truth_same false false e = refl

  request_is : (group : Option Bool) (number : Option ℕ) (v : Option Value) → If (ValueIs room) v → If (Asked number) (request_in group number v)
  request_is (Some group) (Some number) (Some (value.Act name (act.Request of_group output record_type element amount))) h =
      if_where (Asked (Some number)) (same_truth of_group group && record_type == number) _ (λ b.
      record { at = (number, refl, subst (λ n. RequestIs room output n element amount) (same_count record_type number (and_right (same_truth of_group group) _ b)) h) })
  request_is group number v h = tt

  pub asked_is : (c : Context) (of : ObjectType) (e : Expr) → Fits room c → If (Asked (handle_record c of)) (handle_request c of e)
  asked_is c of e f = request_is (handle_word of.word) (handle_record c of) (part c e).value (part_is room c f e)

  pub handle_grows : (name : Named) (number : Option ℕ) (h : Option TypedHandle) (c : Context) → Grows c (with_handle name number h c)
  handle_grows name number h c = record { variables = (grows_self c).variables; handles = (map (λ n. h) (listed number), refl); structs = refl }

  -- the handle that stands at its number in the end
  pub handle_there : (name : Named) (number : ℕ) (o : Option TypedHandle) (c : Context) → Ends room (with_handle name (Some number) o c) → (h : TypedHandle) × (o ≡ Some h) × (slice_get room.function.handles (length c.handles) ≡ Some h)
  handle_there name number o c h = at_end_of c.handles o h.handles.0 room.function.handles (ap all_of (sym (joined c.handles (o ∷ []) h.handles.0)) ∙ h.handles.1)

  output_record : (output n : ℕ) (element : Option TypedExpr) (amount : TypedExpr) → RequestIs room output n element amount → test (is_sent true) (output_at room output) ≡ true
  output_record output n element amount r = test_some (is_sent true) (output_at room output) _ r.at refl

  pub handle_keeps : (name : Named) (number : Option ℕ) (r : Option RequestForm) (c : Context) → If (Asked number) r → Stands room c → Ends room (with_handle name number (handle_tree name r) c) → Stands room (with_handle name number (handle_tree name r) c)
  handle_keeps name None r c a s h = record { fits = fits_more room c (with_handle name None (handle_tree name r) c) name meant.Broken s.fits refl refl refl tt tt; gives = s.gives; variables = s.variables; handles = every_more (if_any (handle_stands room)) c.handles [] s.handles refl }
  handle_keeps name (Some number) None c a s h = let x = handle_there name number None c h in absurd (none_some x.1)
    where
      none_some : {A : Type 0} {a : A} → None ≡ Some a → ⊥
      none_some {A} {a} e = cc
  handle_keeps name (Some number) (Some r) c a s h =
      let x = handle_there name number (Some (record { name = name; group = r.group; output = r.output })) c h in
      let q : record { name = name; group = r.group; output = r.output } ≡ x.0 = some_value x.1 in
      let n : a.at.0 ≡ number = some_value (sym a.at.1) in
      let at = a.at.2.at in
      let o : output_at room x.0.output ≡ Some (record { array = a.at.2.array; record_type = Some number }) =
      ap (λ (y : TypedHandle). output_at room y.output) (sym q) ∙ at ∙ ap (λ m. Some (record { array = a.at.2.array; record_type = Some m })) n in
      let there : record_of_handle room (length c.handles) ≡ Some number =
      ap (λ y. and_then y (λ (h : TypedHandle). and_then (output_at room h.output) (λ (o : Output). o.record_type))) x.2 ∙ ap (λ y. and_then y (λ (o : Output). o.record_type)) o in
      record {
        fits = fits_more room c (with_handle name (Some number) (handle_tree name (Some r)) c) name (meant.Object (object.Handle (length c.handles) number)) s.fits refl refl refl there tt;
        gives = s.gives;
        variables = s.variables;
        handles = every_more (if_any (handle_stands room)) c.handles (Some (record { name = name; group = r.group; output = r.output }) ∷ []) s.handles (both (output_record r.output a.at.0 r.element r.amount a.at.2) refl);
      }

  pub request_stmt_is : (c : Context) (of : ObjectType) (name : Named) (e : Expr) → Stands room c → Ends room (with_handle name (handle_record c of) (handle_tree name (handle_request c of e)) c) → If (StmtIs room c.looped) (and_then (handle_request c of e) (λ r. Some (request_stmt c r)))
  request_stmt_is c of name e s h = if_was (StmtIs room c.looped) (handle_request c of e) _ (λ r q.
      let a = if_so (Asked (handle_record c of)) (handle_request c of e) r q (asked_is c of e s.fits) in
      let i : Ends room (with_handle name (Some a.at.0) (Some (record { name = name; group = r.group; output = r.output })) c) =
      subst (λ o. Ends room (with_handle name (Some a.at.0) o c)) (ap (handle_tree name) q) (subst (λ n. Ends room (with_handle name n (handle_tree name (handle_request c of e)) c)) a.at.1 h) in
      let x = handle_there name a.at.0 (Some (record { name = name; group = r.group; output = r.output })) c i in
      let y : is_request_of r.group r.output x.0 ≡ true = subst (λ (z : TypedHandle). is_request_of r.group r.output z ≡ true) (some_value x.1) (both (same_self_truth r.group) (same_self r.output)) in
      does room (t.Request (length c.handles) r.group r.output r.element r.amount) _ c.looped (sound_Request room (length c.handles) r.group r.output r.element r.amount)
      (both (test_some (is_request_of r.group r.output) (slice_get room.function.handles (length c.handles)) x.0 x.2 y) a.at.2.sends))
    where
      same_self_truth : (b : Bool) → same_truth b b ≡ true
      same_self_truth true = refl
      same_self_truth false = refl
