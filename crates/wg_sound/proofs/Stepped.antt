-- Steps are sound.
use Rattle.std.proofs.Common.{◌≡◌, true, not, List, [], ◌∷◌, Option, Some, None, refl, sym, subst}
use Rattle.std.specs.Prelude.{◌&&◌}
use Rattle.wg_typing.specs.Conversions.{type_of, fits, is_number}
use Rattle.wg_typing.specs.Layers.{typed_part, convert, fit}
use Rattle.wg_typing.specs.Maybe.{where_true}
use Rattle.wg_typing.specs.Scope.{Context}
use Rattle.wg_typing.specs.TypingExpr.{part}
use Rattle.wg_typing.specs.TypingInterlocked.{is_fixed}
use Rattle.wg_typing.specs.TypingOperators.{suited}
use Rattle.wg_typing.specs.TypingStep.{acted, evaluated, operator_of, assignable_target, updated, assigned, changed, step_did, act_in_header, did_in_header, header_trees}
use Rattle.wg_sound.specs.Room.{Room}
use Rattle.wg_sound.specs.SoundExpr.{shown}
use Rattle.wg_sound.specs.SoundForms.{is_a}
use Rattle.wg_sound.specs.SoundOperators.{operates, result_of}
use Rattle.wg_sound.specs.SoundStep.{is_target, updates, step_sound, steps_sound}
use Rattle.wg_tree.specs.declared.expr.BinaryOperator.{BinaryOperator}
use Rattle.wg_tree.specs.declared.stmt.Step.{Step}
use Rattle.wg_tree.specs.declared.stmt.Step.TheVariants as step
use Rattle.wg_tree.specs.declared.stmt.StepOperator.{StepOperator}
use Rattle.wg_typed.specs.declared.typed_stmt.TypedStep.{TypedStep}
use Rattle.wg_typing.specs.declared.scope.Act.{Act}
use Rattle.wg_typing.specs.declared.scope.Act.TheVariants as act
use Rattle.wg_typing.specs.declared.scope.Value.{Value}
use Rattle.wg_typing.specs.declared.scope.Value.TheVariants as value
use Rattle.wg_facts.proofs.Basics.{and_then, If, both, not_false, if_then, if_was, if_where, where_so, test_some, every_more}
use Rattle.wg_sound.proofs.Layered.{Is, is_typed}
use Rattle.wg_sound.proofs.Meanings.{ActIs, ValueIs, PartIs, TypedIs, typed_is, convert_is, fit_is}
use Rattle.wg_sound.proofs.Operated.{operation_is}
use Rattle.wg_sound.proofs.Whole.{Fits, part_is}
use Rattle.wg_typing.specs.declared.part.Did.TheVariants as did
use Rattle.wg_typing.specs.declared.part.Did.{Did}
use Rattle.wg_typing.specs.declared.part.Part.{Part}
use Rattle.wg_typing.specs.declared.part.TypedPart.{TypedPart}

module _ (room : Room) where
  abbrev pub DidIs : Did → Type 0
  DidIs (did.Step s) = step_sound room s ≡ true
  DidIs (did.Act a) = ActIs room a

  acted_is : (a : Act) → ActIs room a → DidIs (acted a)
  acted_is (act.Step s) h = h
  acted_is (act.Barrier syncs) h = h
  acted_is (act.Request group output number element amount) h = h
  acted_is (act.Increment group output element amount) h = h
  acted_is (act.Complete handle) h = h
  acted_is (act.Finished tracked) h = h

  evaluated_is : (v : Option Value) → If (ValueIs room) v → If DidIs (evaluated v)
  evaluated_is None h = tt
  evaluated_is (Some (value.Typed of s e)) h = h.is.sound
  evaluated_is (Some (value.Object o element)) h = tt
  evaluated_is (Some (value.Act name a)) h = acted_is a h
  evaluated_is (Some (value.Text bytes)) h = tt

  record TargetIs (t : TypedPart) : Type 0 where
    is : Is room t.of t.tree
    target : is_target (shown room t.tree) ≡ true

  target_is : (p : Part) → PartIs room p → If TargetIs (assignable_target p)
  target_is p h = if_then (TypedIs room) TargetIs (typed_part p) _ (typed_is room p h) (λ t k. if_where TargetIs (not (is_fixed t.standing)) t (λ f.
      record { is = k.is; target = both k.is.sound (subst (λ s. not (is_fixed s) ≡ true) (sym (k.stands (not_false (is_fixed t.standing) f))) f) }))

  updated_is : (operator : BinaryOperator) (target v : TypedPart) → TargetIs target → TypedIs room v → If DidIs (updated operator target v)
  updated_is operator target v h k = if_was DidIs (suited operator target.of v.of) _ (λ o e.
      if_was DidIs (where_true (fits (type_of o.result) target.of) (type_of o.left)) _ (λ by f.
      let w = where_so (fits (type_of o.result) target.of) (type_of o.left) by f in
      let g = operation_is operator target.of v.of o e in
      if_then (Is room (type_of o.right)) DidIs (convert (type_of o.right) v) _ (convert_is room (type_of o.right) v k) (λ x i.
      let whole : updates (shown room target.tree) operator (type_of o.left) (shown room x) ≡ true =
      both h.target (both i.sound (both (subst (λ t. fits t (type_of o.left) ≡ true) (sym h.is.of) g.left)
      (test_some (λ result. operates operator (type_of o.left) (shown room x).of result && fits result (shown room target.tree).of) (result_of operator (type_of o.left)) (type_of o.result) g.result
      (both (subst (λ t. operates operator (type_of o.left) t (type_of o.result) ≡ true) (sym i.of) g.operates) (subst (λ t. fits (type_of o.result) t ≡ true) (sym h.is.of) w.0))))) in
      subst (λ y. updates (shown room target.tree) operator y (shown room x) ≡ true) w.1 whole)))

  assigned_is : (operator : Option BinaryOperator) (target v : Part) → PartIs room target → PartIs room v → If DidIs (assigned operator target v)
  assigned_is None target v h k = if_then TargetIs DidIs (assignable_target target) _ (target_is target h) (λ to i.
      if_then (Is room to.of) DidIs (fit to.of v) _ (fit_is room to.of v k) (λ x j.
      both i.target (subst (λ t. is_a t (shown room x) ≡ true) (sym i.is.of) (is_typed room to.of x j))))
  assigned_is (Some operator) target v h k = if_then TargetIs DidIs (assignable_target target) _ (target_is target h) (λ to i.
      if_then (TypedIs room) DidIs (typed_part v) _ (typed_is room v k) (λ x j. updated_is operator to x i j))

  changed_is : (operator : StepOperator) (target : Part) → PartIs room target → If DidIs (changed operator target)
  changed_is operator target h = if_then TargetIs DidIs (assignable_target target) _ (target_is target h) (λ to i.
      if_where DidIs (is_number to.of) _ (λ n. both i.target (subst (λ t. is_number t ≡ true) (sym i.is.of) n)))

  pub did_is : (c : Context) (s : Step) → Fits room c → If DidIs (step_did c s)
  did_is c (step.Evaluate e) f = evaluated_is (part c e).value (part_is room c f e)
  did_is c (step.Assign target operator place v) f = assigned_is (operator_of operator) (part c target) (part c v) (part_is room c f target) (part_is room c f v)
  did_is c (step.Before place operator target) f = changed_is operator (part c target) (part_is room c f target)
  did_is c (step.After target operator place) f = changed_is operator (part c target) (part_is room c f target)

  -- ---- in the header of a `for`

  abbrev pub StepsAre : List TypedStep → Type 0
  StepsAre steps = steps_sound room steps ≡ true

  act_header_is : (a : Act) → ActIs room a → If StepsAre (act_in_header a)
  act_header_is (act.Step s) h = both h refl
  act_header_is (act.Barrier syncs) h = if_where StepsAre (not syncs) [] (λ e. refl)
  act_header_is (act.Request group output number element amount) h = tt
  act_header_is (act.Increment group output element amount) h = tt
  act_header_is (act.Complete handle) h = tt
  act_header_is (act.Finished tracked) h = tt

  did_header_is : (d : Did) → DidIs d → If StepsAre (did_in_header d)
  did_header_is (did.Step s) h = both h refl
  did_header_is (did.Act a) h = act_header_is a h

  pub header_is : (c : Context) (steps : List Step) → Fits room c → If StepsAre (header_trees c steps)
  header_is c [] f = refl
  header_is c (s ∷ rest) f = if_then StepsAre StepsAre (and_then (step_did c s) did_in_header) _ (if_then DidIs StepsAre (step_did c s) did_in_header (did_is c s f) did_header_is) (λ first h.
      if_then StepsAre StepsAre (header_trees c rest) _ (header_is c rest f) (λ others k. every_more (step_sound room) first others h k))
