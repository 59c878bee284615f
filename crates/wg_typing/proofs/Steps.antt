-- Steps in which no rule is broken have typed forms, as statements and in the header of a `for`.
use Rattle.std.proofs.Common.{◌≡◌, Bool, true, false, not, List, [], ◌∷◌, Option, Some, None, refl, sym, ap, ◌∙◌, subst}
use Rattle.wg_words.specs.declared.place.Place.{Place}
use Rattle.wg_typing.specs.Conversions.{type_of, fits, is_number}
use Rattle.wg_typing.specs.Layers.{typed_at, typed_part, convert, fit}
use Rattle.wg_words.specs.Maybe.{◌>>=◌}
use Rattle.wg_typing.specs.Maybe.{where_true}
use Rattle.wg_typing.specs.RulesMismatch.{unfit_back, both_suit, unfit_update, unfit_alone}
use Rattle.wg_typing.specs.RulesMismatchExpr.{clash_on}
use Rattle.wg_typing.specs.RulesNotAssignable.{fixed_target, fixed_part}
use Rattle.wg_typing.specs.RulesBadOutputCall.{stands}
use Rattle.wg_typing.specs.RulesShared.{output_used, sync_used}
use Rattle.wg_typing.specs.Scope.{Context}
use Rattle.wg_typing.specs.Sites.{at_if}
use Rattle.wg_typing.specs.TypingExpr.{part}
use Rattle.wg_typing.specs.TypingInterlocked.{is_fixed}
use Rattle.wg_typing.specs.TypingOperators.{suited}
use Rattle.wg_typing.specs.TypingStep.{evaluated, operator_of, assignable_target, updated, assigned, changed, step_did, step_sites, own_handle, step_stmt, did_in_header, header_trees, header_sites, target_sites, update_site, assigned_sites}
use Rattle.wg_tree.specs.declared.expr.BinaryOperator.{BinaryOperator}
use Rattle.wg_tree.specs.declared.stmt.Step.{Step}
use Rattle.wg_tree.specs.declared.stmt.Step.TheVariants as step
use Rattle.wg_tree.specs.declared.stmt.StepOperator.{StepOperator}
use Rattle.wg_typed.specs.declared.typed_stmt.TypedStep.{TypedStep}
use Rattle.wg_typing.specs.declared.scope.Act.TheVariants as act
use Rattle.wg_typing.specs.declared.scope.Value.{Value}
use Rattle.wg_typing.specs.declared.scope.Value.TheVariants as value
use Rattle.wg_typing.proofs.Exprs.{has_value, has_type_here}
use Rattle.wg_typing.proofs.Facts.{Empty, Has, both, empty_if, empty_left, empty_right, has_then, has_where, is_false, not_false, then_some, where_same}
use Rattle.wg_typing.proofs.Layers.{Sound}
use Rattle.wg_typing.proofs.Operations.{Together, has_suited, right_fits, suited_is, together}
use Rattle.wg_typing.proofs.Parts.{Whole, has_convert, has_fit, IsTyped, holds, site_is}
use Rattle.wg_typing.proofs.Sites.{Well, well_left, well_only, well_right}
use Rattle.wg_typing.specs.TypingActs.{call_in, called_at, is_sync, is_output}
use Rattle.wg_typing.specs.declared.numbers.Operation.{Operation}
use Rattle.wg_typing.specs.declared.part.Part.{Part}
use Rattle.wg_typing.specs.declared.part.TypedPart.{TypedPart}
use Rattle.wg_typing.specs.declared.part.Did.{Did}
use Rattle.wg_typing.specs.declared.part.NamedCall.{NamedCall}
use Rattle.wg_typing.specs.declared.part.Did.TheVariants as did
use Rattle.wg_typing.specs.declared.fault.TypingRule.TheVariants.{Mismatch, NotAssignable, BadBarrier, BadOutputCall}
use Rattle.wg_typing.specs.PartSites.{goal_if, part_site}
use Rattle.wg_typing.specs.Site.{AtNumber}
use Rattle.wg_tree.specs.declared.expr.Expr.{Expr}

-- ---- targets

target_has : (p : Place) (v : Option Value) (k : Option NamedCall) → Has v → Empty (fixed_target p v) → Empty (called_at is_output (call_in v k)) → Empty (called_at is_sync (call_in v k)) → Has (◌>>=◌ (typed_at p v) (λ t. where_true (not (is_fixed t.standing)) t))
target_has p None k h f o s = absurd h
target_has p (Some (value.Typed of standing tree)) k h f o s = has_where (not (is_fixed standing)) _ (changes (is_fixed standing) p f)
  where
    changes : (b : Bool) (p : Place) → Empty (at_if b p) → not b ≡ true
    changes true p h = absurd h
    changes false p h = refl
target_has p (Some (value.Object object element)) k h f o s = absurd f
target_has p (Some (value.Text bytes)) k h f o s = absurd f
target_has p (Some (value.Act name (act.Step x))) k h f o s = absurd f
target_has p (Some (value.Act name (act.Barrier true))) k h f o s = absurd s
target_has p (Some (value.Act name (act.Barrier false))) k h f o s = absurd f
target_has p (Some (value.Act name (act.Request group output number element amount))) k h f o s = absurd o
target_has p (Some (value.Act name (act.Increment group output element amount))) k h f o s = absurd o
target_has p (Some (value.Act name (act.Complete handle))) k h f o s = absurd o
target_has p (Some (value.Act name (act.Finished tracked))) k h f o s = absurd o

has_target : (p : Part) → Whole p → Empty (fixed_part p) → Empty (output_used p) → Empty (sync_used p) → Has (assignable_target p)
has_target p = target_has p.place p.value p.by_name

target_typed : (p : Part) (t : TypedPart) → assignable_target p ≡ Some t → typed_part p ≡ Some t
target_typed p t e =
    let a = then_some (typed_part p) _ t e in
    a.1 ∙ ap Some (where_same (not (is_fixed a.0.standing)) a.0 t a.2)

-- ---- what a step other than a call does: a typed step

abbrev Steps : Option Did → Type 0
Steps None = ⊥
Steps (Some (did.Step s)) = Unit {0}
Steps (Some (did.Act a)) = ⊥

then_steps : {A : Type 0} (o : Option A) (f : A → Option Did) → Has o → ((a : A) → o ≡ Some a → Steps (f a)) → Steps (◌>>=◌ o f)
then_steps None f h k = absurd h
then_steps (Some a) f h k = k a refl

assigned_steps : (target v : Part) → Has (assignable_target target) → IsTyped v → Well (assigned_sites None target v) → Steps (assigned None target v)
assigned_steps target v h k w = then_steps (assignable_target target) _ h (λ to q.
    then_steps (fit to.of v) _ (has_fit to.of v k (subst (λ x. Well (goal_if (◌>>=◌ x (λ t. Some t.of)) v)) (target_typed target to q) w)) (λ from i. tt))

updated_steps : (operator : BinaryOperator) (target v : TypedPart) → Empty (unfit_update operator target v) → Steps (updated operator target v)
updated_steps operator target v e = then_steps (suited operator target.of v.of) _ (has_suited operator target.of v.of fitting) (λ o q.
    then_steps (where_true (fits (type_of o.result) target.of) (type_of o.left)) _ (has_where (fits (type_of o.result) target.of) _ (back o q)) (λ by i.
    then_steps (convert (type_of o.right) v) _ (has_convert (type_of o.right) v (right_fits operator target.of v.of o fitting q)) (λ operand j. tt)))
  where
    fitting : Together operator target.of v.of
    fitting = together target.place operator target.place target.of v (empty_left (clash_on target.place operator target.place target.of v) _ e)

    back : (o : Operation) → suited operator target.of v.of ≡ Some o → fits (type_of o.result) target.of ≡ true
    back o q = not_false _ (is_false _ v.place (subst (λ x. Empty (unfit_back target v x)) (sym (suited_is operator target.of v.of fitting) ∙ q)
        (empty_if (both_suit operator target v) _ (both _ _ fitting.first fitting.second) (empty_right (clash_on target.place operator target.place target.of v) _ e))))

update_steps : (operator : BinaryOperator) (target v : Part) → Has (assignable_target target) → IsTyped v → Well (assigned_sites (Some operator) target v) → Steps (assigned (Some operator) target v)
update_steps operator target v h k w = then_steps (assignable_target target) _ h (λ to q.
    then_steps (typed_part v) _ k (λ from i.
    updated_steps operator to from ((well_only (subst (λ x. Well (update_site operator (Some to) x)) i (subst (λ x. Well (update_site operator x (typed_part v))) (target_typed target to q) w))).clear Mismatch)))

any_assigned : (operator : Option BinaryOperator) (target v : Part) → Has (assignable_target target) → IsTyped v → Well (assigned_sites operator target v) → Steps (assigned operator target v)
any_assigned None target v h k w = assigned_steps target v h k w
any_assigned (Some operator) target v h k w = update_steps operator target v h k w

changed_steps : (operator : StepOperator) (target : Part) → Has (assignable_target target) → Well (part_site AtNumber target) → Steps (changed operator target)
changed_steps operator target h w = then_steps (assignable_target target) _ h (λ to q. step_where (is_number to.of) _ (holds (is_number to.of) to.place ((site_is AtNumber (typed_part target) to (target_typed target to q) w).clear Mismatch)))
  where
    step_where : (b : Bool) (s : TypedStep) → b ≡ true → Steps (where_true b (did.Step s))
    step_where true s e = tt
    step_where false s e = absurd (cc)

target_here : (c : Context) (e : Expr) → Sound c → Well (target_sites c e) → Has (assignable_target (part c e))
target_here c e n h =
    let here = well_only (well_right h) in
    has_target (part c e) (has_value c n e (well_left h)) (here.clear NotAssignable) (here.clear BadOutputCall) (here.clear BadBarrier)

-- a step that is more than an expression
abbrev IsOther : Step → Type 0
IsOther (step.Evaluate e) = ⊥
IsOther (step.Assign target operator place v) = Unit {0}
IsOther (step.Before place operator target) = Unit {0}
IsOther (step.After target operator place) = Unit {0}

-- the parts of a step that is no call have values, and no rule is broken at it
other_steps : (c : Context) (header : Bool) (s : Step) → Sound c → Well (step_sites c header s) → IsOther s → Steps (step_did c s)
other_steps c header (step.Evaluate e) n h i = absurd i
other_steps c header (step.Assign target operator place v) n h i =
    any_assigned (operator_of operator) (part c target) (part c v) (target_here c target n (well_left h)) (has_type_here c n v (well_left (well_right h))) (well_right (well_right h))
other_steps c header (step.Before place operator target) n h i = changed_steps operator (part c target) (target_here c target n (well_left h)) (well_right h)
other_steps c header (step.After target operator place) n h i = changed_steps operator (part c target) (target_here c target n (well_left h)) (well_right h)

steps_stmt : (c : Context) (o : Option Did) → Steps o → Has (◌>>=◌ o (step_stmt c))
steps_stmt c None h = absurd h
steps_stmt c (Some (did.Step s)) h = tt
steps_stmt c (Some (did.Act a)) h = absurd h

steps_in_header : (o : Option Did) → Steps o → Has (◌>>=◌ o did_in_header)
steps_in_header None h = absurd h
steps_in_header (Some (did.Step s)) h = tt
steps_in_header (Some (did.Act a)) h = absurd h

-- ---- calls as statements

evaluated_stmt : (c : Context) (p : Place) (v : Option Value) (k : Option NamedCall) → Has v → Empty (unfit_alone p v) → Empty (called_at (λ k. not (stands c false k)) (call_in v k)) → Has (◌>>=◌ (evaluated v) (step_stmt c))
evaluated_stmt c p None k h e o = absurd h
evaluated_stmt c p (Some (value.Typed of standing tree)) k h e o = tt
evaluated_stmt c p (Some (value.Object object element)) k h e o = absurd e
evaluated_stmt c p (Some (value.Text bytes)) k h e o = absurd e
evaluated_stmt c p (Some (value.Act name (act.Step x))) k h e o = tt
evaluated_stmt c p (Some (value.Act name (act.Barrier true))) k h e o = tt
evaluated_stmt c p (Some (value.Act name (act.Barrier false))) k h e o = tt
evaluated_stmt c p (Some (value.Act name (act.Request group output number element amount))) k h e o = absurd o
evaluated_stmt c p (Some (value.Act name (act.Increment group output element amount))) k h e o = tt
evaluated_stmt c p (Some (value.Act name (act.Complete handle))) k h e o = has_where (own_handle c handle) _ (not_false (own_handle c handle) (is_false _ name o))
evaluated_stmt c p (Some (value.Act name (act.Finished tracked))) k h e o = absurd o

evaluated_in_header : (c : Context) (p : Place) (v : Option Value) (k : Option NamedCall) → Has v → Empty (unfit_alone p v) → Empty (called_at (λ k. not (stands c true k)) (call_in v k)) → Empty (called_at is_sync (call_in v k)) → Has (◌>>=◌ (evaluated v) did_in_header)
evaluated_in_header c p None k h e o s = absurd h
evaluated_in_header c p (Some (value.Typed of standing tree)) k h e o s = tt
evaluated_in_header c p (Some (value.Object object element)) k h e o s = absurd e
evaluated_in_header c p (Some (value.Text bytes)) k h e o s = absurd e
evaluated_in_header c p (Some (value.Act name (act.Step x))) k h e o s = tt
evaluated_in_header c p (Some (value.Act name (act.Barrier true))) k h e o s = absurd s
evaluated_in_header c p (Some (value.Act name (act.Barrier false))) k h e o s = tt
evaluated_in_header c p (Some (value.Act name (act.Request group output number element amount))) k h e o s = absurd o
evaluated_in_header c p (Some (value.Act name (act.Increment group output element amount))) k h e o s = absurd o
evaluated_in_header c p (Some (value.Act name (act.Complete handle))) k h e o s = absurd o
evaluated_in_header c p (Some (value.Act name (act.Finished tracked))) k h e o s = absurd o

-- ---- steps

pub has_step : (c : Context) (s : Step) → Sound c → Well (step_sites c false s) → Has (◌>>=◌ (step_did c s) (step_stmt c))
has_step c (step.Evaluate e) n h =
    let here = well_only (well_right h) in
    evaluated_stmt c (part c e).place (part c e).value (part c e).by_name (has_value c n e (well_left h)) (here.clear Mismatch) (here.clear BadOutputCall)
has_step c (step.Assign target operator place v) n h = steps_stmt c _ (other_steps c false (step.Assign target operator place v) n h tt)
has_step c (step.Before place operator target) n h = steps_stmt c _ (other_steps c false (step.Before place operator target) n h tt)
has_step c (step.After target operator place) n h = steps_stmt c _ (other_steps c false (step.After target operator place) n h tt)

step_in_header : (c : Context) (s : Step) → Sound c → Well (step_sites c true s) → Has (◌>>=◌ (step_did c s) did_in_header)
step_in_header c (step.Evaluate e) n h =
    let here = well_only (well_right h) in
    evaluated_in_header c (part c e).place (part c e).value (part c e).by_name (has_value c n e (well_left h)) (here.clear Mismatch) (here.clear BadOutputCall) (here.clear BadBarrier)
step_in_header c (step.Assign target operator place v) n h = steps_in_header _ (other_steps c true (step.Assign target operator place v) n h tt)
step_in_header c (step.Before place operator target) n h = steps_in_header _ (other_steps c true (step.Before place operator target) n h tt)
step_in_header c (step.After target operator place) n h = steps_in_header _ (other_steps c true (step.After target operator place) n h tt)

pub has_header : (c : Context) (steps : List Step) → Sound c → Well (header_sites c steps) → Has (header_trees c steps)
has_header c [] n h = tt
has_header c (s ∷ rest) n h = has_then (◌>>=◌ (step_did c s) did_in_header) _ (step_in_header c s n (well_left h)) (λ a q. has_then (header_trees c rest) _ (has_header c rest n (well_right h)) (λ b r. tt))
