-- Measures below a bound: steps, declarations and headers.
use Rattle.std.proofs.Common.{◌≤◌, ℕ, Bool, true, false, cond, List, [], ◌∷◌, ◌++◌, map, Option, Some, None}
use Rattle.std.specs.Prelude.{nat_le, not, ◌&&◌, is_some}
use Rattle.wg_words.specs.declared.place.Place.{Place}
use Rattle.wg_typing.specs.Conversions.{fits, same_type, type_of, is_number, truth_type}
use Rattle.wg_typing.specs.Layers.{tree_of, typed_at, typed_part, convert, fit}
use Rattle.wg_typing.specs.Maybe.{where_true, if_there, listed}
use Rattle.wg_typing.specs.Named.{is_among}
use Rattle.wg_typing.specs.Scope.{Context, look, struct_if, named_type, own_names, once}
use Rattle.wg_typing.specs.TypingDeclaration.{start_in, start_of, start_there, start_sites_of, local_meant, local_form, with_local, declarator_after, declarator_tree, declarator_sites, declarators_after, declarators_sites, declarators_trees, all_declarators, declared_as, declaration_after, declaration_sites, declaration_trees}
use Rattle.wg_typing.specs.AttributeArguments.{is_positive}
use Rattle.wg_typing.specs.TypingDeclared.{type_limit, size_value, array_of, type_of_size, declared_type, fit_in}
use Rattle.wg_typed.specs.Layout.{words_of}
use Rattle.wg_typing.specs.TypingExpr.{expr_form, part}
use Rattle.wg_typing.specs.TypingInterlocked.{is_fixed}
use Rattle.wg_typing.specs.TypingLoop.{start_after, start_sites, start_tree, test_sites}
use Rattle.wg_typing.specs.TypingOperators.{suited}
use Rattle.wg_typing.specs.TypingStep.{acted, evaluated, operator_of, assignable_target, updated, assigned, changed, step_did, step_sites, act_in_header, did_in_header, header_trees, header_sites, all_steps}
use Rattle.wg_tree.specs.declared.expr.BinaryOperator.{BinaryOperator}
use Rattle.wg_tree.specs.declared.expr.Expr.{Expr}
use Rattle.wg_tree.specs.declared.expr.Named.{Named}
use Rattle.wg_tree.specs.declared.expr.TypeName.{TypeName}
use Rattle.wg_tree.specs.declared.expr.TypeName.TheVariants as type_name
use Rattle.wg_tree.specs.declared.stmt.Declaration.{Declaration}
use Rattle.wg_tree.specs.declared.stmt.Declarator.{Declarator}
use Rattle.wg_tree.specs.declared.stmt.Start.{Start}
use Rattle.wg_tree.specs.declared.stmt.Start.TheVariants as start
use Rattle.wg_tree.specs.declared.stmt.Step.{Step}
use Rattle.wg_tree.specs.declared.stmt.Step.TheVariants as step
use Rattle.wg_tree.specs.declared.stmt.StepOperator.{StepOperator}
use Rattle.wg_typed.specs.declared.types.ConstValue.{ConstValue}
use Rattle.wg_typed.specs.declared.types.TypeTree.{TypeTree}
use Rattle.wg_typed.specs.declared.types.TypeTree.TheVariants as type
use Rattle.wg_typed.specs.declared.typed_expr.Access.TheOpen.{TypedKind-F}
use Rattle.wg_typed.specs.declared.typed_expr.TypedExpr.{TypedExpr}
use Rattle.wg_typed.specs.declared.typed_expr.TypedKind.TheVariants as tree
use Rattle.wg_typed.specs.declared.typed_stmt.TypedDeclarator.{TypedDeclarator}
use Rattle.wg_typed.specs.declared.typed_stmt.TypedStart.{TypedStart}
use Rattle.wg_typed.specs.declared.typed_stmt.TypedStep.{TypedStep}
use Rattle.wg_typing.specs.declared.part.Did.{Did}
use Rattle.wg_typing.specs.declared.part.Did.TheVariants as did
use Rattle.wg_typing.specs.declared.part.Part.{Part}
use Rattle.wg_typing.specs.declared.part.TypedPart.{TypedPart}
use Rattle.wg_typing.specs.declared.scope.Act.{Act}
use Rattle.wg_typing.specs.declared.scope.Act.TheVariants as act
use Rattle.wg_typing.specs.declared.scope.Declared.{Declared}
use Rattle.wg_typing.specs.declared.scope.Meant.{Meant}
use Rattle.wg_typing.specs.declared.scope.Meant.TheVariants as meant
use Rattle.wg_typing.specs.declared.scope.Value.{Value}
use Rattle.wg_typing.specs.declared.scope.Value.TheVariants as value
use Rattle.wg_facts.proofs.Basics.{and_then, If, if_then, if_was, if_where}
use Rattle.wg_limits.specs.Branches.{expr_branches, maybe_branches, step_branches, steps_branches, declared_branches, start_branches}
use Rattle.wg_limits.specs.Vectors.{type_written, expr_written, maybe_written, step_written, steps_written, declarators_written, declaration_written, start_written}
use Rattle.wg_limits.specs.Measure.{of_expr, of_maybe, of_step, of_steps, of_declared, of_start}
use Rattle.wg_limits.proofs.Parts.{Bound, ExprBelow, Fine, made, ActBelow, ValueBelow, PartBelow, TypedBelow, typed_at_below, typed_below, convert_below, fit_below, NameBelow}
use Rattle.wg_limits.proofs.Operators.{OperationFine, suited_fine}
use Rattle.wg_limits.proofs.Exprs.{first_most, second_most, AllKnown, names_push, AllVariables, more_variables, Stands, value_fine, part_below}

module _ (k : Bound) where
  abbrev pub StepBelow : ℕ → TypedStep → Type 0
  StepBelow b s = k.Below (of_step k.measure s) b

  abbrev pub DidBelow : ℕ → Did → Type 0
  DidBelow b (did.Step s) = StepBelow b s
  DidBelow b (did.Act a) = ActBelow k b a

  -- ---- steps

  acted_below : (b : ℕ) (a : Act) → ActBelow k b a → DidBelow b (acted a)
  acted_below b (act.Step s) h = h
  acted_below b (act.Barrier syncs) h = h
  acted_below b (act.Request group output number element amount) h = h
  acted_below b (act.Increment group output element amount) h = h
  acted_below b (act.Complete handle) h = h
  acted_below b (act.Finished tracked) h = h

  evaluated_below : (b : ℕ) (v : Option Value) → If (ValueBelow k b) v → If (DidBelow b) (evaluated v)
  evaluated_below b None h = tt
  evaluated_below b (Some (value.Typed of s e)) h = h.0
  evaluated_below b (Some (value.Object o element)) h = tt
  evaluated_below b (Some (value.Act name a)) h = acted_below b a h
  evaluated_below b (Some (value.Text bytes)) h = tt

  target_below : (b : ℕ) (p : Part) → PartBelow k b p → If (TypedBelow k b) (assignable_target p)
  target_below b p h = if_then (TypedBelow k b) (TypedBelow k b) (typed_part p) _ (typed_below k b p h) (λ t i. if_where (TypedBelow k b) (not (is_fixed t.standing)) t (λ e. i))

  updated_below : (b : ℕ) (operator : BinaryOperator) (target v : TypedPart) → TypedBelow k b target → TypedBelow k b v → If (DidBelow b) (updated operator target v)
  updated_below b operator target v h i = if_then (OperationFine k) (DidBelow b) (suited operator target.of v.of) _ (suited_fine k operator target.of v.of h.1 i.1) (λ o e.
      if_then (Fine k) (DidBelow b) (where_true (fits (type_of o.result) target.of) (type_of o.left)) _ (if_where (Fine k) (fits (type_of o.result) target.of) (type_of o.left) (λ f. e.left)) (λ by f.
      if_then (ExprBelow k b) (DidBelow b) (convert (type_of o.right) v) _ (convert_below k b (type_of o.right) v e.right i) (λ x j.
      k.join (k.measure.of by) _ b (k.of by b f) (k.join (of_expr k.measure target.tree) (of_expr k.measure x) b h.0 j))))

  assigned_below : (b : ℕ) (operator : Option BinaryOperator) (target v : Part) → PartBelow k b target → PartBelow k b v → If (DidBelow b) (assigned operator target v)
  assigned_below b None target v h i = if_then (TypedBelow k b) (DidBelow b) (assignable_target target) _ (target_below b target h) (λ to j.
      if_then (ExprBelow k b) (DidBelow b) (fit to.of v) _ (fit_below k b to.of v j.1 i) (λ x l. k.join (of_expr k.measure to.tree) (of_expr k.measure x) b j.0 l))
  assigned_below b (Some operator) target v h i = if_then (TypedBelow k b) (DidBelow b) (assignable_target target) _ (target_below b target h) (λ to j.
      if_then (TypedBelow k b) (DidBelow b) (typed_part v) _ (typed_below k b v i) (λ x l. updated_below b operator to x j l))

  changed_below : (b : ℕ) (operator : StepOperator) (target : Part) → PartBelow k b target → If (DidBelow b) (changed operator target)
  changed_below b operator target h = if_then (TypedBelow k b) (DidBelow b) (assignable_target target) _ (target_below b target h) (λ to i. if_where (DidBelow b) (is_number to.of) _ (λ e. i.0))

  pub did_below : (c : Context) (header : Bool) (s : Step) (b : ℕ) → Stands k c → step_branches s ≤ b → k.Wrote (step_written s) → AllKnown k (step_sites c header s) → If (DidBelow b) (step_did c s)
  did_below c header (step.Evaluate e) b g h o w = evaluated_below b (part c e).value (part_below k c g e b h o w.0)
  did_below c header (step.Assign target operator place v) b g h o w =
      assigned_below b (operator_of operator) (part c target) (part c v) (part_below k c g target b (first_most (expr_branches target) (expr_branches v) b h) (k.first (expr_written target) (expr_written v) o) w.0.0)
      (part_below k c g v b (second_most (expr_branches target) (expr_branches v) b h) (k.second (expr_written target) (expr_written v) o) w.1.0.0)
  did_below c header (step.Before place operator target) b g h o w = changed_below b operator (part c target) (part_below k c g target b h o w.0.0)
  did_below c header (step.After target operator place) b g h o w = changed_below b operator (part c target) (part_below k c g target b h o w.0.0)

  -- ---- in the header of a `for`

  abbrev AllSteps : ℕ → List TypedStep → Type 0
  AllSteps b [] = Unit {0}
  AllSteps b (s ∷ rest) = StepBelow b s × AllSteps b rest

  steps_below : (b : ℕ) (steps : List TypedStep) → AllSteps b steps → k.Below (of_steps k.measure steps) b
  steps_below b [] h = k.none b
  steps_below b (s ∷ rest) h = k.join (of_step k.measure s) _ b h.0 (steps_below b rest h.1)

  more_steps : (b : ℕ) (xs ys : List TypedStep) → AllSteps b xs → AllSteps b ys → AllSteps b (xs ++ ys)
  more_steps b [] ys h i = i
  more_steps b (x ∷ xs) ys h i = (h.0, more_steps b xs ys h.1 i)

  act_header_below : (b : ℕ) (a : Act) → ActBelow k b a → If (AllSteps b) (act_in_header a)
  act_header_below b (act.Step s) h = (h, tt)
  act_header_below b (act.Barrier syncs) h = if_where (AllSteps b) (not syncs) [] (λ e. tt)
  act_header_below b (act.Request group output number element amount) h = tt
  act_header_below b (act.Increment group output element amount) h = tt
  act_header_below b (act.Complete handle) h = tt
  act_header_below b (act.Finished tracked) h = tt

  did_header_below : (b : ℕ) (d : Did) → DidBelow b d → If (AllSteps b) (did_in_header d)
  did_header_below b (did.Step s) h = (h, tt)
  did_header_below b (did.Act a) h = act_header_below b a h

  each_header_below : (c : Context) (steps : List Step) (b : ℕ) → Stands k c → steps_branches steps ≤ b → k.Wrote (steps_written steps) → AllKnown k (header_sites c steps) → If (AllSteps b) (header_trees c steps)
  each_header_below c [] b g h o w = tt
  each_header_below c (s ∷ rest) b g h o w = if_then (AllSteps b) (AllSteps b) (and_then (step_did c s) did_in_header) _
      (if_then (DidBelow b) (AllSteps b) (step_did c s) did_in_header (did_below c true s b g (first_most (step_branches s) _ b h) (k.first (step_written s) _ o) w.0) (did_header_below b)) (λ first i.
      if_then (AllSteps b) (AllSteps b) (header_trees c rest) _ (each_header_below c rest b g (second_most (step_branches s) _ b h) (k.second (step_written s) _ o) w.1) (λ others j. more_steps b first others i j))

  abbrev pub StepsBelow : ℕ → List TypedStep → Type 0
  StepsBelow b steps = k.Below (of_steps k.measure steps) b

  pub header_below : (c : Context) (steps : List Step) (b : ℕ) → Stands k c → steps_branches steps ≤ b → k.Wrote (steps_written steps) → AllKnown k (header_sites c steps) → If (StepsBelow b) (header_trees c steps)
  header_below c steps b g h o w = all_there (header_trees c steps) (each_header_below c steps b g h o w)
    where
      all_there : (o : Option (List TypedStep)) → If (AllSteps b) o → If (StepsBelow b) o
      all_there None i = tt
      all_there (Some xs) i = steps_below b xs i

  -- ---- types that are written

  struct_fine : (n : Option Meant) → If (Fine k) (struct_if n)
  struct_fine (Some (meant.Struct number)) = tt
  struct_fine (Some (meant.Constant of words known)) = tt
  struct_fine (Some (meant.Shared variable of)) = tt
  struct_fine (Some (meant.Variable variable of constant)) = tt
  struct_fine (Some (meant.Object object)) = tt
  struct_fine (Some (meant.Function number is_entry result parameters chain)) = tt
  struct_fine (Some meant.Itself) = tt
  struct_fine (Some meant.Broken) = tt
  struct_fine None = tt

  pub named_fine : (names : List Declared) (of : TypeName) → k.Wrote (type_written of) → If (Fine k) (named_type names of)
  named_fine names (type_name.Value place of) o = value_fine k of o
  named_fine names (type_name.Struct name) o = struct_fine (look name.name names)

  array_fine : (t : TypeTree) (v : ConstValue) → Fine k t → If (Fine k) (array_of t v)
  array_fine (type.Scalar of) v f = if_where (Fine k) (is_positive v) _ (λ e. tt)
  array_fine (type.Vector of n) v f = if_where (Fine k) (is_positive v) _ (λ e. f)
  array_fine (type.Struct number) v f = if_where (Fine k) (is_positive v) _ (λ e. tt)
  array_fine (type.Array of n) v f = tt

  pub declared_fine : (c : Context) (of : Option TypeTree) (size : Option Expr) → If (Fine k) of → If (Fine k) (declared_type c of size)
  declared_fine c of size f = if_then (Fine k) (Fine k) (type_of_size c of size) _ (sized_fine size) (λ t g. if_where (Fine k) (nat_le (words_of c.structs t) type_limit) t (λ e. g))
    where
      sized_fine : (size : Option Expr) → If (Fine k) (type_of_size c of size)
      sized_fine None = f
      sized_fine (Some e) = if_then (Fine k) (Fine k) of _ f (λ t g. if_was (Fine k) (size_value c e) _ (λ v i. array_fine t v g))

  -- ---- names that are declared

  pub once_stands : (name : Named) (c d : Context) → Stands k c → Stands k d → Stands k (once name c d)
  once_stands name c d h i = by_test (is_among (own_names c) name.name)
    where
      by_test : (b : Bool) → Stands k (cond b c d)
      by_test true = h
      by_test false = i

  local_below : (number : ℕ) (constant : Bool) (o : Option TypeTree) → If (Fine k) o → NameBelow k (local_meant number constant o)
  local_below number constant None f = tt
  local_below number constant (Some of) f = f

  local_variables : (constant : Bool) (v : Option TypedExpr) (o : Option TypeTree) → If (Fine k) o → AllVariables k (map (local_form constant v) (listed o))
  local_variables constant v None f = tt
  local_variables constant v (Some of) f = (f, tt)

  declarator_stands : (constant : Bool) (of : Option TypeTree) (d : Declarator) (c : Context) → If (Fine k) of → Stands k c → Stands k (declarator_after constant of d c)
  declarator_stands constant of d c f h = once_stands d.name c (with_local d.name constant (declared_type c of d.size) (start_there c (declared_type c of d.size) d.value) c) h (record {
    names = names_push k c.names _ h.names (local_below _ constant (declared_type c of d.size) (declared_fine c of d.size f));
    structs = h.structs;
    variables = more_variables k c.variables _ h.variables (local_variables constant (start_there c (declared_type c of d.size) d.value) (declared_type c of d.size) (declared_fine c of d.size f));
    gives = h.gives;
  })

  pub declarators_stand : (constant : Bool) (of : Option TypeTree) (ds : List Declarator) (c : Context) → If (Fine k) of → Stands k c → Stands k (declarators_after constant of ds c)
  declarators_stand constant of [] c f h = h
  declarators_stand constant of (d ∷ rest) c f h = declarators_stand constant of rest (declarator_after constant of d c) f (declarator_stands constant of d c f h)

  -- ---- declarations

  converted_below : (b : ℕ) (goal : TypeTree) (place : Place) (v : Option Value) → Fine k goal → If (ValueBelow k b) v → If (ExprBelow k b) (and_then (typed_at place v) (convert goal))
  converted_below b goal place v f h = if_then (TypedBelow k b) (ExprBelow k b) (typed_at place v) _ (typed_at_below k b place v h) (λ t i. convert_below k b goal t f i)

  start_in_below : (b : ℕ) (goal : TypeTree) (place : Place) (v : Option Value) → Fine k goal → If (ValueBelow k b) v → If (ExprBelow k b) (start_in goal place v)
  start_in_below b goal place (Some (value.Act name (act.Finished tracked))) f h =
      if_where (ExprBelow k b) (tracked && same_type goal truth_type) (tree_of place goal tree.Finished) (λ e. made k place goal b TypedKind-F.Finished tree.Finished tree.rolls-Finished f (k.none b))
  start_in_below b goal place v f h = converted_below b goal place v f h

  abbrev pub MaybeBelow : ℕ → Option TypedExpr → Type 0
  MaybeBelow b o = k.Below (of_maybe k.measure o) b

  abbrev DeclaratorBelow : ℕ → TypedDeclarator → Type 0
  DeclaratorBelow b d = k.Below (k.measure.join (k.measure.of d.of) (of_maybe k.measure d.value)) b

  abbrev pub DeclaredBelow : ℕ → List TypedDeclarator → Type 0
  DeclaredBelow b ds = k.Below (of_declared k.measure ds) b

  declarator_below : (of : Option TypeTree) (d : Declarator) (c : Context) (b : ℕ) → If (Fine k) of → Stands k c → maybe_branches d.value ≤ b → k.Wrote (maybe_written d.value) → AllKnown k (declarator_sites of d c) → If (DeclaratorBelow b) (declarator_tree of d c)
  declarator_below of d c b f g h o w = if_then (Fine k) (DeclaratorBelow b) (declared_type c of d.size) _ (declared_fine c of d.size f) (λ local e.
      if_then (MaybeBelow b) (DeclaratorBelow b) (if_there (start_of c local) d.value) _ (by_value local e d.value h o w.1.1) (λ v i. k.join (k.measure.of local) (of_maybe k.measure v) b (k.of local b e) i))
    where
      by_value : (local : TypeTree) → Fine k local → (e : Option Expr) → maybe_branches e ≤ b → k.Wrote (maybe_written e) → AllKnown k (start_sites_of c (declared_type c of d.size) e) → If (MaybeBelow b) (if_there (start_of c local) e)
      by_value local f None h o w = k.none b
      by_value local f (Some e) h o w = if_then (ExprBelow k b) (MaybeBelow b) (start_of c local e) _ (start_in_below b local (part c e).place (part c e).value f (part_below k c g e b h o w.0)) (λ x i. i)

  declarators_below : (constant : Bool) (of : Option TypeTree) (ds : List Declarator) (c : Context) (b : ℕ) → If (Fine k) of → Stands k c → declared_branches ds ≤ b → k.Wrote (declarators_written ds) → AllKnown k (declarators_sites constant of ds c) → If (DeclaredBelow b) (declarators_trees constant of ds c)
  declarators_below constant of [] c b f g h o w = k.none b
  declarators_below constant of (d ∷ rest) c b f g h o w = if_then (DeclaratorBelow b) (DeclaredBelow b) (declarator_tree of d c) _ (declarator_below of d c b f g (first_most (maybe_branches d.value) _ b h) (k.first (maybe_written d.value) _ o) w.0) (λ x i.
      if_then (DeclaredBelow b) (DeclaredBelow b) (declarators_trees constant of rest (declarator_after constant of d c)) _
      (declarators_below constant of rest (declarator_after constant of d c) b f (declarator_stands constant of d c f g) (second_most (maybe_branches d.value) _ b h) (k.second (maybe_written d.value) _ o) w.1) (λ xs j. k.join _ _ b i j))

  pub declaration_below : (d : Declaration) (c : Context) (b : ℕ) → Stands k c → declared_branches (all_declarators d) ≤ b → k.Wrote (declaration_written d) → AllKnown k (declaration_sites d c) → If (DeclaredBelow b) (declaration_trees d c)
  declaration_below d c b g h o w = declarators_below (is_some d.constant) (declared_as d c) (all_declarators d) c b (named_fine c.names d.of (k.first (type_written d.of) _ o)) g h (k.second (type_written d.of) _ o) w.1

  pub declaration_stands : (d : Declaration) (c : Context) → k.Wrote (declaration_written d) → Stands k c → Stands k (declaration_after d c)
  declaration_stands d c o h = declarators_stand (is_some d.constant) (declared_as d c) (all_declarators d) c (named_fine c.names d.of (k.first (type_written d.of) _ o)) h

  -- ---- what a `for` begins with, and conditions

  abbrev pub StartBelow : ℕ → Option TypedStart → Type 0
  StartBelow b o = k.Below (of_start k.measure o) b

  pub start_stands : (x : Option Start) (c : Context) → k.Wrote (start_written x) → Stands k c → Stands k (start_after x c)
  start_stands None c o h = h
  start_stands (Some (start.Declare d)) c o h = declaration_stands d c o h
  start_stands (Some (start.Steps s)) c o h = h

  abbrev OneStart : ℕ → TypedStart → Type 0
  OneStart b x = StartBelow b (Some x)

  pub start_below : (x : Option Start) (c : Context) (b : ℕ) → Stands k c → start_branches x ≤ b → k.Wrote (start_written x) → AllKnown k (start_sites x c) → If (StartBelow b) (if_there (start_tree c) x)
  start_below None c b g h o w = k.none b
  start_below (Some (start.Declare d)) c b g h o w = if_then (OneStart b) (StartBelow b) (start_tree c (start.Declare d)) _ (if_then (DeclaredBelow b) (OneStart b) (declaration_trees d c) _ (declaration_below d c b g h o w) (λ x i. i)) (λ x i. i)
  start_below (Some (start.Steps s)) c b g h o w = if_then (OneStart b) (StartBelow b) (start_tree c (start.Steps s)) _ (if_then (StepsBelow b) (OneStart b) (header_trees c (all_steps s)) _ (header_below c (all_steps s) b g h o w) (λ x i. i)) (λ x i. i)

  pub fit_in_below : (c : Context) (goal : TypeTree) (e : Expr) (b : ℕ) → Fine k goal → Stands k c → expr_branches e ≤ b → k.Wrote (expr_written e) → AllKnown k (expr_form c e).sites → If (ExprBelow k b) (fit_in c goal e)
  fit_in_below c goal e b f g h o w = fit_below k b goal (part c e) f (part_below k c g e b h o w)

  pub maybe_fit_below : (c : Context) (goal : TypeTree) (x : Option Expr) (b : ℕ) → Fine k goal → Stands k c → maybe_branches x ≤ b → k.Wrote (maybe_written x) → AllKnown k (test_sites c x) → If (MaybeBelow b) (if_there (fit_in c goal) x)
  maybe_fit_below c goal None b f g h o w = k.none b
  maybe_fit_below c goal (Some e) b f g h o w = if_then (ExprBelow k b) (MaybeBelow b) (fit_in c goal e) _ (fit_in_below c goal e b f g h o w.0.0) (λ x i. i)
