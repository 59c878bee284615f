-- In a text that breaks no rule collective statements stand where they may, before marks.
use Rattle.std.proofs.Common.{◌≡◌, ℕ, Bool, true, false, not, List, [], ◌∷◌, ◌++◌, map, Option, Some, None, refl, sym, ap, ◌∙◌, subst}
use Rattle.std.specs.Prelude.{◌&&◌, ◌||◌, is_some}
use Rattle.wg_words.specs.declared.place.Place.{Place}
use Rattle.wg_typed.specs.Uniform.{UniformSetting, is_finished}
use Rattle.wg_typing.specs.Conversions.{same_type, truth_type, is_number, fits, type_of}
use Rattle.wg_typing.specs.Layers.{call_of, convert, fit, typed_at, typed_part}
use Rattle.wg_typing.specs.Maybe.{where_true, if_there}
use Rattle.wg_typing.specs.RulesCollective.{takes_collective, is_direct}
use Rattle.wg_typing.specs.Scope.{Context, enter, enter_loop}
use Rattle.wg_typing.specs.TypingActs.{named_call, act_kind}
use Rattle.wg_typing.specs.TypingDeclaration.{start_in, start_of, start_sites_of, declarator_after, declarator_sites, declarator_tree, declarators_sites, declarators_trees, all_declarators, declared_as, declaration_after, declaration_sites, declaration_trees}
use Rattle.wg_typing.specs.TypingDeclared.{declared_type, fit_in}
use Rattle.wg_typing.specs.TypingEvents.{collective_call, start_events, handle_declared}
use Rattle.wg_typing.specs.TypingExpr.{part}
use Rattle.wg_typing.specs.TypingHandle.{RequestForm, handle_word, handle_record, request_in, handle_request, handle_sites, request_stmt}
use Rattle.wg_typing.specs.TypingLoop.{start_after, start_sites, start_tree, in_header}
use Rattle.wg_typing.specs.TypingOperators.{suited}
use Rattle.wg_typing.specs.TypingStep.{acted, evaluated, operator_of, assignable_target, updated, assigned, changed, step_did, step_sites, own_handle, step_stmt, header_trees, all_steps, maybe_steps}
use Rattle.wg_typing.specs.TypingStmt.{Walk, block_after, block_sites, block_trees, branch_after, branches, else_after, else_is_block, else_sites, tree_in, returned_tree, stmt_walked, walked}
use Rattle.wg_typing.specs.TypingAttributes.{attributes_of}
use Rattle.wg_facts.specs.Tests.{if_any, every}
use Rattle.wg_sound.specs.Placement.{starts_last, declares_last, begins_last}
use Rattle.wg_sound.specs.Room.{Room}
use Rattle.wg_sound.specs.SoundForms.{Shown, Held, Form, access_step}
use Rattle.wg_sound.specs.SoundOperators.{link_step}
use Rattle.wg_sound.specs.SoundExpr.{kind_step, expr_step, shown, kind_held}
use Rattle.wg_tree.specs.declared.expr.BinaryOperator.{BinaryOperator}
use Rattle.wg_tree.specs.declared.expr.Expr.{Expr}
use Rattle.wg_tree.specs.declared.expr.Named.{Named}
use Rattle.wg_tree.specs.declared.stmt.ObjectType.{ObjectType}
use Rattle.wg_typing.specs.declared.event.Event.TheVariants as event
use Rattle.wg_tree.specs.declared.stmt.Declaration.{Declaration}
use Rattle.wg_tree.specs.declared.stmt.Declarator.{Declarator}
use Rattle.wg_tree.specs.declared.stmt.Start.{Start}
use Rattle.wg_tree.specs.declared.stmt.Start.TheVariants as start
use Rattle.wg_tree.specs.declared.stmt.Step.{Step}
use Rattle.wg_tree.specs.declared.stmt.Step.TheVariants as step
use Rattle.wg_tree.specs.declared.stmt.StepOperator.{StepOperator}
use Rattle.wg_tree.specs.declared.stmt.Stmt.{Stmt, roll-Stmt, fold-roll-Stmt, ind-Stmt, map-Stmt}
use Rattle.wg_tree.specs.declared.stmt.Stmt.TheOpen.{Stmt-F}
use Rattle.wg_typed.specs.declared.types.TypeTree.{TypeTree}
use Rattle.wg_typed.specs.declared.typed_expr.TypedExpr.{TypedExpr, roll-TypedExpr, fold-roll-TypedExpr, ind-TypedExpr}
use Rattle.wg_typed.specs.declared.typed_expr.TypedKind.{TypedKind}
use Rattle.wg_typed.specs.declared.typed_expr.TypedKind.{fold-roll-TypedKind}
use Rattle.wg_typed.specs.declared.typed_expr.TypedKind.TheVariants as tree
use Rattle.wg_typed.specs.declared.typed_expr.Access.TheOpen.{TypedKind-F}
use Rattle.wg_typed.specs.declared.typed_stmt.TypedDeclarator.{TypedDeclarator}
use Rattle.wg_typed.specs.declared.typed_stmt.TypedStart.{TypedStart}
use Rattle.wg_typed.specs.declared.typed_stmt.TypedStmt.{TypedStmt}
use Rattle.wg_typed.specs.declared.typed_stmt.TypedStmt.TheVariants as t
use Rattle.wg_typing.specs.declared.context.Around.{Around}
use Rattle.wg_typing.specs.declared.context.GivesBack.{GivesBack}
use Rattle.wg_typing.specs.declared.context.GivesBack.TheVariants as gives_back
use Rattle.wg_typing.specs.declared.event.Region.{Region}
use Rattle.wg_typing.specs.declared.event.Region.TheVariants as region
use Rattle.wg_typing.specs.declared.part.Did.{Did}
use Rattle.wg_typing.specs.declared.part.Did.TheVariants as did
use Rattle.wg_typing.specs.declared.part.NamedCall.{NamedCall}
use Rattle.wg_typing.specs.declared.part.Part.{Part}
use Rattle.wg_typing.specs.declared.scope.Act.{Act}
use Rattle.wg_typing.specs.declared.scope.Act.TheVariants as act
use Rattle.wg_typing.specs.declared.scope.Value.{Value}
use Rattle.wg_typing.specs.declared.scope.Value.TheVariants as value
use Rattle.wg_sound.proofs.Allowed.{Allowed, branch_of, Taken, taken_right, TakenIn, in_left, in_right, in_within, allowed, others_allowed, allowed_Block, allowed_Empty, allowed_Declare, allowed_Request, allowed_Increment, allowed_Complete, allowed_Barrier, allowed_Step, allowed_Break, allowed_Continue, allowed_Return, allowed_If, allowed_While, allowed_For, MayStand, may}
use Rattle.wg_facts.proofs.Basics.{and_then, If, both, if_then, if_was, if_where}
use Rattle.wg_sound.proofs.Declarations.{Stands, stands_enter, stands_loop, FitsAlong, declaration_are}
use Rattle.wg_sound.proofs.Growing.{Ends, ends_before, ends_inside, ends_same}
use Rattle.wg_sound.proofs.Layered.{Is}
use Rattle.wg_sound.proofs.Meanings.{ValueIs, fit_is}
use Rattle.wg_facts.proofs.Sited.{Well, well_left, well_right, well_within}
use Rattle.wg_sound.proofs.Walks.{WalkIs, AllWalks, block_grows, ElseIs, branch_keeps, else_grows, start_keeps, walk_is, branches_well}
use Rattle.wg_sound.proofs.Whole.{Fits, part_is}

-- ---- expressions that are sound are no `FinishedCrossGroupSharing()`

module _ (room : Room) where
  held_finished : kind_held room tree.Finished ≡ kind_step room TypedKind-F.Finished
  held_finished = ap (kind_held room) (sym tree.rolls-Finished) ∙ fold-roll-TypedKind Form (TypeTree → Held) Shown (TypeTree → Option TypeTree) (access_step room) (kind_step room) expr_step link_step TypedKind-F.Finished

  kind_unfinished : (k : TypedKind) (of : TypeTree) → (kind_held room k of).sound ≡ true → is_finished k ≡ false
  kind_unfinished tree.Finished of h = absurd (false_true (ap (λ (f : TypeTree → Held). (f of).sound) (sym held_finished) ∙ h))
    where
      false_true : false ≡ true → ⊥
      false_true e = cc
  kind_unfinished _ of h = refl

  abbrev Unfinished : TypedExpr → Type 0
  Unfinished e = (shown room e).sound ≡ true → is_finished e.kind ≡ false

  unfinished : (e : TypedExpr) → Unfinished e
  unfinished e = ind-TypedExpr (λ x. Unit {0}) (λ x. Unit {0}) Unfinished (λ x. Unit {0}) (λ x y eq. tt) (λ x y eq. tt)
      (λ x y eq. subst (λ l. Unfinished (roll-TypedExpr l)) eq (λ h. kind_unfinished y.kind.0 y.of (ap (λ (s : Shown). s.sound) (sym (fold-roll-TypedExpr Form (TypeTree → Held) Shown (TypeTree → Option TypeTree) (access_step room) (kind_step room) expr_step link_step _)) ∙ h)))
      (λ x y eq. tt) e

module _ (room : Room) (around : Around) (u : UniformSetting) where
  -- ---- start values

  abbrev LastAt : List Region → TypedExpr → Type 0
  LastAt path v = is_finished v.kind ≡ true → is_direct path ≡ true

  converted_last : (path : List Region) (goal : TypeTree) (place : Place) (v : Option Value) → If (ValueIs room) v → If (LastAt path) (and_then (typed_at place v) (convert goal))
  converted_last path goal place v h = by_value (and_then (typed_at place v) (convert goal)) (fit_is room goal (record { place = place; value = v; by_name = None; pieces = [] }) h)
    where
      true_false : true ≡ false → ⊥
      true_false e = cc

      by_value : (o : Option TypedExpr) → If (Is room goal) o → If (LastAt path) o
      by_value None k = tt
      by_value (Some e) k = λ f. absurd (true_false (sym f ∙ unfinished room e k.sound))

  start_last : (path : List Region) (goal : TypeTree) (p : Part) → If (ValueIs room) p.value → Taken around u (start_events path (call_of p)) → If (LastAt path) (start_in goal p.place p.value)
  start_last path goal p h k = by_value p.value h k
    where
      by_value : (v : Option Value) → If (ValueIs room) v → Taken around u (start_events path (call_of (record { place = p.place; value = v; by_name = p.by_name; pieces = p.pieces }))) → If (LastAt path) (start_in goal p.place v)
      by_value (Some (value.Act name (act.Finished true))) h k = if_where (LastAt path) (same_type goal truth_type) _ (λ b f. k.0)
      by_value (Some (value.Act name (act.Finished false))) h k = tt
      by_value v h k = converted_last path goal p.place v h

  -- ---- declarations

  abbrev LastsAt : List Region → List TypedDeclarator → Type 0
  LastsAt path ds = declares_last ds ≡ true → is_direct path ≡ true

  or_either : (a b : Bool) (p : Type 0) → (a || b) ≡ true → (a ≡ true → p) → (b ≡ true → p) → p
  or_either true b p e f g = f refl
  or_either false b p e f g = g e

  maybe_last : (path : List Region) (c : Context) (of : Option TypeTree) (goal : TypeTree) (e : Option Expr) → Fits room c → TakenIn around u path (start_sites_of c of e) → If (λ v. starts_last v ≡ true → is_direct path ≡ true) (if_there (start_of c goal) e)
  maybe_last path c of goal None f k = λ e. absurd (cc)
  maybe_last path c of goal (Some e) f k = if_then (LastAt path) (λ v. starts_last v ≡ true → is_direct path ≡ true) (start_of c goal e) _ (start_last path goal (part c e) (part_is room c f e) (in_left around u (in_right around u k)).taken) (λ v h. h)

  declarator_last : (path : List Region) (of : Option TypeTree) (d : Declarator) (c : Context) → Fits room c → TakenIn around u path (declarator_sites of d c) → If (λ (x : TypedDeclarator). starts_last x.value ≡ true → is_direct path ≡ true) (declarator_tree of d c)
  declarator_last path of d c f k = if_was (λ (x : TypedDeclarator). starts_last x.value ≡ true → is_direct path ≡ true) (declared_type c of d.size) _ (λ local e.
      if_then (λ v. starts_last v ≡ true → is_direct path ≡ true) (λ (x : TypedDeclarator). starts_last x.value ≡ true → is_direct path ≡ true) (if_there (start_of c local) d.value) _
      (maybe_last path c (declared_type c of d.size) local d.value f (in_right around u (in_right around u k))) (λ v h. h))

  declarators_last : (path : List Region) (constant : Bool) (of : Option TypeTree) (ds : List Declarator) (c : Context) → FitsAlong room constant of ds c → TakenIn around u path (declarators_sites constant of ds c) → If (LastsAt path) (declarators_trees constant of ds c)
  declarators_last path constant of [] c f k = λ e. absurd (false_true e)
    where
      false_true : false ≡ true → ⊥
      false_true e = cc
  declarators_last path constant of (d ∷ rest) c f k =
      if_then (λ (x : TypedDeclarator). starts_last x.value ≡ true → is_direct path ≡ true) (LastsAt path) (declarator_tree of d c) _ (declarator_last path of d c f.0 (in_left around u k)) (λ x h.
      if_then (LastsAt path) (LastsAt path) (declarators_trees constant of rest (declarator_after constant of d c)) _ (declarators_last path constant of rest (declarator_after constant of d c) f.1 (in_right around u k)) (λ xs l.
      λ e. or_either (starts_last x.value) (declares_last xs) (is_direct path ≡ true) e h l))

  declaration_last : (path : List Region) (d : Declaration) (c : Context) → Stands room c → Ends room (declaration_after d c) → Well (declaration_sites d c) → TakenIn around u path (declaration_sites d c) → If (LastsAt path) (declaration_trees d c)
  declaration_last path d c s h w k = declarators_last path (is_some d.constant) (declared_as d c) (all_declarators d) c (declaration_are room d c s h w).along (in_right around u k)

  implied : (a b : Bool) → (a ≡ true → b ≡ true) → (not a || b) ≡ true
  implied true b f = f refl
  implied false b f = refl

  not_direct : (path : List Region) (r : Region) → is_direct (path ++ r ∷ []) ≡ false
  not_direct [] r = refl
  not_direct (x ∷ path) r = refl

  never_last : (b : Bool) (path : List Region) (r : Region) → (b ≡ true → is_direct (path ++ r ∷ []) ≡ true) → not b ≡ true
  never_last true path r f = sym (not_direct path r) ∙ f refl
  never_last false path r f = refl

  -- ---- steps

  abbrev MaySit : List Region → TypedStmt → Type 0
  MaySit path s = MayStand around u path false s

  act_may : (c : Context) (name : Place) (a : Act) (path : List Region) → Taken around u (collective_call path (named_call name (act_kind a))) → If (MaySit path) (step_stmt c (acted a))
  act_may c name (act.Step s) path k = may around u (t.Step s) _ path (allowed_Step around u s) refl
  act_may c name (act.Barrier true) path k = may around u (t.Barrier true) _ path (allowed_Barrier around u true) k.0
  act_may c name (act.Barrier false) path k = may around u (t.Barrier false) _ path (allowed_Barrier around u false) refl
  act_may c name (act.Request group output number element amount) path k = tt
  act_may c name (act.Increment group output element amount) path k = may around u (t.Increment group output element amount) _ path (allowed_Increment around u group output element amount) k.0
  act_may c name (act.Complete handle) path k = if_where (MaySit path) (own_handle c handle) (t.Complete handle) (λ e. may around u (t.Complete handle) _ path (allowed_Complete around u handle) k.0)
  act_may c name (act.Finished tracked) path k = tt

  evaluated_may : (c : Context) (p : Part) (path : List Region) → Taken around u (collective_call path (call_of p)) → If (MaySit path) (and_then (evaluated p.value) (step_stmt c))
  evaluated_may c p path k = by_value p.value k
    where
      by_value : (v : Option Value) → Taken around u (collective_call path (call_of (record { place = p.place; value = v; by_name = p.by_name; pieces = p.pieces }))) → If (MaySit path) (and_then (evaluated v) (step_stmt c))
      by_value None k = tt
      by_value (Some (value.Typed of s e)) k = may around u _ _ path (allowed_Step around u _) refl
      by_value (Some (value.Object o element)) k = tt
      by_value (Some (value.Act name a)) k = act_may c name a path k
      by_value (Some (value.Text bytes)) k = tt

  abbrev IsStep : Did → Type 0
  IsStep (did.Step s) = Unit {0}
  IsStep (did.Act a) = ⊥

  updated_step : (operator : BinaryOperator) (target v : _) → If IsStep (updated operator target v)
  updated_step operator target v = if_was IsStep (suited operator target.of v.of) _ (λ o e. if_was IsStep (where_true (fits (type_of o.result) target.of) (type_of o.left)) _ (λ by f. if_was IsStep (convert (type_of o.right) v) _ (λ x g. tt)))

  assigned_step : (operator : Option BinaryOperator) (target v : Part) → If IsStep (assigned operator target v)
  assigned_step None target v = if_was IsStep (assignable_target target) _ (λ to e. if_was IsStep (fit to.of v) _ (λ x f. tt))
  assigned_step (Some operator) target v = if_was IsStep (assignable_target target) _ (λ to e. if_was IsStep (typed_part v) _ (λ x f. updated_step operator to x))

  changed_step : (operator : StepOperator) (target : Part) → If IsStep (changed operator target)
  changed_step operator target = if_was IsStep (assignable_target target) _ (λ to e. if_where IsStep (is_number to.of) _ (λ b. tt))

  step_may : (c : Context) (d : Did) (path : List Region) → IsStep d → If (MaySit path) (step_stmt c d)
  step_may c (did.Step s) path h = may around u (t.Step s) _ path (allowed_Step around u s) refl
  step_may c (did.Act a) path h = absurd h

  did_may : (c : Context) (s : Step) (path : List Region) → TakenIn around u path (step_sites c false s) → If (MaySit path) (and_then (step_did c s) (step_stmt c))
  did_may c (step.Evaluate e) path k = evaluated_may c (part c e) path (in_right around u k).taken
  did_may c (step.Assign target operator place v) path k = if_then IsStep (MaySit path) (step_did c (step.Assign target operator place v)) _ (assigned_step (operator_of operator) (part c target) (part c v)) (λ d h. step_may c d path h)
  did_may c (step.Before place operator target) path k = if_then IsStep (MaySit path) (step_did c (step.Before place operator target)) _ (changed_step operator (part c target)) (λ d h. step_may c d path h)
  did_may c (step.After target operator place) path k = if_then IsStep (MaySit path) (step_did c (step.After target operator place)) _ (changed_step operator (part c target)) (λ d h. step_may c d path h)

  -- ---- requests

  request_taken : (group : Option Bool) (number : Option ℕ) (p : Part) (path : List Region) (q : Option RequestForm) → request_in group number p.value ≡ q → Taken around u (collective_call path (call_of p)) → If (λ (r : RequestForm). takes_collective around u path ≡ true) q
  request_taken group number p path q e k = subst (If (λ (r : RequestForm). takes_collective around u path ≡ true)) e (by_value group number p.value k)
    where
      by_value : (group : Option Bool) (number : Option ℕ) (v : Option Value) → Taken around u (collective_call path (call_of (record { place = p.place; value = v; by_name = p.by_name; pieces = p.pieces }))) → If (λ (r : RequestForm). takes_collective around u path ≡ true) (request_in group number v)
      by_value (Some group) (Some number) (Some (value.Act name (act.Request of_group output record_type element amount))) k = if_where (λ (r : RequestForm). takes_collective around u path ≡ true) _ _ (λ b. k.0)
      by_value group number v k = tt

  call_taken : (o : Option NamedCall) (path : List Region) → Taken around u (event.Collective o path ∷ []) → Taken around u (collective_call path o)
  call_taken None path k = tt
  call_taken (Some call) path k = k

  request_may : (c : Context) (of : ObjectType) (name : Named) (e : Expr) (path : List Region) → TakenIn around u path (handle_sites of name e c) → If (MaySit path) (and_then (handle_request c of e) (λ r. Some (request_stmt c r)))
  request_may c of name e path k =
      let last = (in_right around u (in_right around u (in_right around u k))).taken in
      let called = call_taken (call_of (part c e)) path (taken_right around u (handle_declared c name (handle_record c of)) _ last) in
      if_then (λ (r : RequestForm). takes_collective around u path ≡ true) (MaySit path) (handle_request c of e) _ (request_taken (handle_word of.word) (handle_record c of) (part c e) path (handle_request c of e) refl called) (λ r h.
      may around u (request_stmt c r) _ path (allowed_Request around u _ _ _ _ _) h)

  -- ---- statements

  returned_may : (c : Context) (g : GivesBack) (e : Option Expr) (path : List Region) → If (MaySit path) (returned_tree c g e)
  returned_may c gives_back.Nothing None path = may around u (t.Return None) _ path (allowed_Return around u None) refl
  returned_may c gives_back.Nothing (Some e) path = tt
  returned_may c (gives_back.Value of) None path = tt
  returned_may c (gives_back.Value of) (Some e) path = if_was (MaySit path) (fit_in c of e) _ (λ v q. may around u (t.Return (Some v)) _ path (allowed_Return around u (Some v)) refl)
  returned_may c gives_back.Unsure e path = tt

  pub record PathIs (w : Walk) : Type 0 where
    pub walk : WalkIs room w
    pub may : (c : Context) (path : List Region) → Stands room c → Ends room (w c).after → Well (w c).sites → TakenIn around u path (w c).sites → If (MayStand around u path (w c).block) (w c).tree

  abbrev pub AllPaths : List Walk → Type 0
  AllPaths [] = Unit {0}
  AllPaths (w ∷ rest) = PathIs w × AllPaths rest

  abbrev pub AllMay : List Region → List TypedStmt → Type 0
  AllMay path ss = every (λ (a : Allowed). a.at path) (map (allowed around u) ss) ≡ true

  paths_walk : (ws : List Walk) → AllPaths ws → AllWalks room ws
  paths_walk [] h = tt
  paths_walk (w ∷ rest) h = (h.0.walk, paths_walk rest h.1)

  pub block_may : (ws : List Walk) (c : Context) (path : List Region) → AllPaths ws → Stands room c → Ends room (block_after ws c) → Well (block_sites ws c) → TakenIn around u path (block_sites ws c) → If (AllMay path) (block_trees ws c)
  block_may [] c path g s h w k = refl
  block_may (x ∷ rest) c path g s h w k =
      let here : Ends room (x c).after = ends_before room (x c).after _ (block_grows room rest (x c).after (paths_walk rest g.1)) h in
      if_then (MayStand around u path (x c).block) (AllMay path) (x c).tree _ (g.0.may c path s here (well_left w) (in_left around u k)) (λ y l.
      if_then (AllMay path) (AllMay path) (block_trees rest (x c).after) _ (block_may rest (x c).after path g.1 (g.0.walk.keeps c s here (well_left w)) h (well_right w) (in_right around u k)) (λ ys m. both l.fine m))

  abbrev ElsePath : Option Walk → Type 0
  ElsePath None = Unit {0}
  ElsePath (Some w) = PathIs w

  else_walk : (o : Option Walk) → ElsePath o → ElseIs room o
  else_walk None h = tt
  else_walk (Some w) h = h.walk

  record OthersMay (path : List Region) (block : Bool) (z : Option TypedStmt) : Type 0 where
    fine : if_any (λ (a : Allowed). a.at path) (others_allowed around u z) ≡ true
    same : if_any (λ (a : Allowed). a.block) (others_allowed around u z) ≡ block

  else_may : (o : Option Walk) (c : Context) (path : List Region) → ElsePath o → Stands room c → Ends room (else_after o c) → Well (else_sites o c) → TakenIn around u path (else_sites o c) → If (OthersMay path (else_is_block o c)) (if_there (tree_in (enter c)) o)
  else_may None c path g s h w k = record { fine = refl; same = refl }
  else_may (Some x) c path g s h w k = if_then (MayStand around u path (x (enter c)).block) (OthersMay path (x (enter c)).block) (x (enter c)).tree _ (g.may (enter c) path (stands_enter room c s) (ends_inside room c (x (enter c)).after h) w k) (λ y l. record { fine = l.fine; same = l.same })

  -- the start of a `for` tells no last group
  abbrev BeginsAt : Option TypedStart → Type 0
  BeginsAt o = if_any (λ s. not (begins_last s)) o ≡ true

  start_may : (path : List Region) (o : Option Start) (c : Context) → Stands room c → Ends room (start_after o c) → Well (start_sites o c) → TakenIn around u (path ++ region.Block ∷ []) (start_sites o c) → If BeginsAt (if_there (start_tree c) o)
  start_may path None c s h w k = refl
  start_may path (Some (start.Declare d)) c s h w k = if_then (λ x. not (begins_last x) ≡ true) BeginsAt (start_tree c (start.Declare d)) _
      (if_then (LastsAt (path ++ region.Block ∷ [])) (λ x. not (begins_last x) ≡ true) (declaration_trees d c) _ (declaration_last (path ++ region.Block ∷ []) d c s h w k) (λ x l. never_last (declares_last x) path region.Block l)) (λ x l. l)
  start_may path (Some (start.Steps x)) c s h w k = if_then (λ x. not (begins_last x) ≡ true) BeginsAt (start_tree c (start.Steps x)) _
      (if_was (λ x. not (begins_last x) ≡ true) (header_trees c (all_steps x)) _ (λ y e. refl)) (λ x l. l)

  -- ---- one layer

  abbrev LayerPath : Stmt-F Walk → Type 0
  LayerPath (Stmt-F.Block place body) = AllPaths body
  LayerPath (Stmt-F.Empty place) = Unit {0}
  LayerPath (Stmt-F.Declare d) = Unit {0}
  LayerPath (Stmt-F.Handle of name e) = Unit {0}
  LayerPath (Stmt-F.Step s) = Unit {0}
  LayerPath (Stmt-F.Break place) = Unit {0}
  LayerPath (Stmt-F.Continue place) = Unit {0}
  LayerPath (Stmt-F.Return place e) = Unit {0}
  LayerPath (Stmt-F.If attributes place test first other) = PathIs first × ElsePath other
  LayerPath (Stmt-F.While attributes place test body) = PathIs body
  LayerPath (Stmt-F.For attributes place h body) = PathIs body

  layer_may : (y : Stmt-F Walk) → LayerPath y → (c : Context) (path : List Region) → Stands room c → Ends room (stmt_walked y c).after → Well (stmt_walked y c).sites → TakenIn around u path (stmt_walked y c).sites → If (MayStand around u path (stmt_walked y c).block) (stmt_walked y c).tree
  layer_may (Stmt-F.Block place body) g c path s h w k =
      if_then (AllMay (path ++ region.Block ∷ [])) (MayStand around u path true) (block_trees body (enter c)) _ (block_may body (enter c) (path ++ region.Block ∷ []) g (stands_enter room c s) (ends_inside room c (block_after body (enter c)) h) (well_within w) (in_within around u k)) (λ x l.
      may around u (t.Block x) _ path (allowed_Block around u x) l)
  layer_may (Stmt-F.Empty place) g c path s h w k = may around u t.Empty _ path (allowed_Empty around u) refl
  layer_may (Stmt-F.Declare d) g c path s h w k = if_then (LastsAt path) (MaySit path) (declaration_trees d c) _ (declaration_last path d c s h w k) (λ x l. may around u (t.Declare x) _ path (allowed_Declare around u x) (implied (declares_last x) (is_direct path) l))
  layer_may (Stmt-F.Handle of name e) g c path s h w k = request_may c of name e path k
  layer_may (Stmt-F.Step x) g c path s h w k = did_may c x path k
  layer_may (Stmt-F.Break place) g c path s h w k = if_where (MaySit path) c.looped t.Break (λ e. may around u t.Break _ path (allowed_Break around u) refl)
  layer_may (Stmt-F.Continue place) g c path s h w k = if_where (MaySit path) c.looped t.Continue (λ e. may around u t.Continue _ path (allowed_Continue around u) refl)
  layer_may (Stmt-F.Return place e) g c path s h w k = returned_may c c.returns e path
  layer_may (Stmt-F.If attributes place test first other) g c path s h w k =
      let after = branch_after first c in
      let r = branches c test first other in
      let inside = path ++ r ∷ [] in
      let mid : Ends room after = ends_before room after _ (else_grows room other after (else_walk other g.1)) h in
      let two = in_within around u (in_right around u (in_right around u k)) in
      let stands : Stands room after = branch_keeps room first c g.0.walk s mid (well_left (branches_well w)) in
      if_was (MaySit path) (fit_in c truth_type test) _ (λ x e.
      if_then (MayStand around u inside (first (enter c)).block) (MaySit path) (first (enter c)).tree _ (g.0.may (enter c) inside (stands_enter room c s) (ends_inside room c (first (enter c)).after mid) (well_left (branches_well w)) (in_left around u two)) (λ y l.
      if_then (OthersMay inside (else_is_block other after)) (MaySit path) (if_there (tree_in (enter after)) other) _ (else_may other after inside g.1 stands h (well_right (branches_well w)) (in_right around u two)) (λ z m.
      let q : branch_of x (allowed around u y) (others_allowed around u z) ≡ r =
      ap (λ o. region.Branch o ((allowed around u y).block && if_any (λ (a : Allowed). a.block) (others_allowed around u z))) (sym e)
      ∙ ap (λ b. region.Branch (fit_in c truth_type test) (b && if_any (λ (a : Allowed). a.block) (others_allowed around u z))) l.same
      ∙ ap (λ b. region.Branch (fit_in c truth_type test) ((first (enter c)).block && b)) m.same in
      may around u (t.If (attributes_of c attributes) false x y z) _ path (allowed_If around u (attributes_of c attributes) false x y z)
      (subst (λ b. ((allowed around u y).at (path ++ b ∷ []) && if_any (λ (a : Allowed). a.at (path ++ b ∷ [])) (others_allowed around u z)) ≡ true) (sym q) (both l.fine m.fine)))))
  layer_may (Stmt-F.While attributes place test body) g c path s h w k =
      if_was (MaySit path) (fit_in c truth_type test) _ (λ x e.
      if_then (MayStand around u (path ++ region.Loop ∷ []) (body (enter_loop c)).block) (MaySit path) (body (enter_loop c)).tree _ (g.may (enter_loop c) (path ++ region.Loop ∷ []) (stands_loop room c s) (ends_inside room c (body (enter_loop c)).after h) (well_within (well_right (well_right w))) (in_within around u (in_right around u (in_right around u k)))) (λ y l.
      may around u (t.While (attributes_of c attributes) x y) _ path (allowed_While around u (attributes_of c attributes) x y) l.fine))
  layer_may (Stmt-F.For attributes place x body) g c path s h w k =
      let inner = in_header x c in
      let inside : Ends room (body (enter_loop inner)).after = ends_inside room c (body (enter_loop inner)).after h in
      let started : Ends room inner = ends_same room (enter_loop inner) inner refl refl (ends_before room (enter_loop inner) (body (enter_loop inner)).after (g.walk.grows (enter_loop inner)) inside) in
      let ws : Well (start_sites x.start (enter c)) = well_within (well_left (well_right w)) in
      let stands : Stands room inner = start_keeps room x.start (enter c) (stands_enter room c s) started ws in
      if_then BeginsAt (MaySit path) (if_there (start_tree (enter c)) x.start) _ (start_may path x.start (enter c) (stands_enter room c s) started ws (in_within around u (in_left around u (in_right around u k)))) (λ a l.
      if_was (MaySit path) (if_there (fit_in inner truth_type) x.test) _ (λ b e.
      if_was (MaySit path) (header_trees inner (maybe_steps x.steps)) _ (λ d f.
      if_then (MayStand around u (path ++ region.Loop ∷ []) (body (enter_loop inner)).block) (MaySit path) (body (enter_loop inner)).tree _ (g.may (enter_loop inner) (path ++ region.Loop ∷ []) (stands_loop room inner stands) inside (well_within (well_right (well_right (well_right (well_right w))))) (in_within around u (in_right around u (in_right around u (in_right around u (in_right around u k)))))) (λ y m.
      may around u (t.For (attributes_of c attributes) a b d y) _ path (allowed_For around u (attributes_of c attributes) a b d y) (both l m.fine)))))

  -- ---- all statements

  path_list : {B : Type 0} (p : B → Stmt) (holds : (b : B) → PathIs (walked (p b))) (bs : List B) → AllPaths (map walked (map p bs))
  path_list p holds [] = tt
  path_list p holds (b ∷ bs) = (holds b, path_list p holds bs)

  path_layer : {B : Type 0} (p : B → Stmt) (holds : (b : B) → PathIs (walked (p b))) (y : Stmt-F B) → LayerPath (map-Stmt Stmt Walk walked (map-Stmt B Stmt p y))
  path_layer p holds (Stmt-F.Block place body) = path_list p holds body
  path_layer p holds (Stmt-F.Empty place) = tt
  path_layer p holds (Stmt-F.Declare d) = tt
  path_layer p holds (Stmt-F.Handle of name e) = tt
  path_layer p holds (Stmt-F.Step s) = tt
  path_layer p holds (Stmt-F.Break place) = tt
  path_layer p holds (Stmt-F.Continue place) = tt
  path_layer p holds (Stmt-F.Return place e) = tt
  path_layer p holds (Stmt-F.If attributes place test first None) = (holds first, tt)
  path_layer p holds (Stmt-F.If attributes place test first (Some other)) = (holds first, holds other)
  path_layer p holds (Stmt-F.While attributes place test body) = holds body
  path_layer p holds (Stmt-F.For attributes place h body) = holds body

  path_is : (s : Stmt) → PathIs (walked s)
  path_is s = ind-Stmt (λ s. PathIs (walked s))
      (λ x y eq. subst (λ l. PathIs (walked (roll-Stmt l))) eq (record {
        walk = walk_is room (roll-Stmt (map-Stmt _ Stmt (λ b. b.0) y));
        may = subst (λ (w : Walk). (c : Context) (path : List Region) → Stands room c → Ends room (w c).after → Well (w c).sites → TakenIn around u path (w c).sites → If (MayStand around u path (w c).block) (w c).tree) (sym (fold-roll-Stmt Walk stmt_walked _)) (layer_may _ (path_layer (λ b. b.0) (λ b. b.1) y));
      }))
      s

  pub all_paths : (stmts : List Stmt) → AllPaths (map walked stmts)
  all_paths [] = tt
  all_paths (s ∷ rest) = (path_is s, all_paths rest)
