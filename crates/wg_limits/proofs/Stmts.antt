-- Measures below a bound: all statements.
use Rattle.std.proofs.Common.{◌≡◌, ◌≤◌, ℕ, Bool, false, List, [], ◌∷◌, map, max, Option, Some, None, sym, ap, ◌∙◌, subst}
use Rattle.wg_typing.specs.Conversions.{truth_type}
use Rattle.wg_typing.specs.Maybe.{if_there}
use Rattle.wg_typing.specs.Scope.{Context, enter, enter_loop, leave}
use Rattle.wg_typing.specs.TypingAttributes.{attributes_of}
use Rattle.wg_typing.specs.TypingDeclaration.{declaration_trees}
use Rattle.wg_typing.specs.TypingDeclared.{fit_in}
use Rattle.wg_typing.specs.TypingExpr.{part}
use Rattle.wg_typing.specs.TypingHandle.{RequestForm, handle_word, handle_record, request_in, handle_request, handle_tree, handle_meant, with_handle, request_stmt}
use Rattle.wg_typing.specs.TypingLoop.{start_tree, in_header}
use Rattle.wg_typing.specs.TypingStep.{step_did, own_handle, act_stmt, step_stmt, header_trees, maybe_steps}
use Rattle.wg_typing.specs.TypingStmt.{Walk, block_after, block_sites, block_trees, branch_after, else_after, else_sites, tree_in, returned_tree, returned_sites, stmt_walked, walked}
use Rattle.std.specs.Prelude.{◌&&◌}
use Rattle.wg_tree.specs.declared.expr.Expr.{Expr}
use Rattle.wg_tree.specs.declared.stmt.Attribute.{Attribute}
use Rattle.wg_tree.specs.declared.stmt.Header.{Header}
use Rattle.wg_tree.specs.declared.stmt.ObjectType.{ObjectType}
use Rattle.wg_tree.specs.declared.stmt.Stmt.{Stmt, roll-Stmt, fold-roll-Stmt, ind-Stmt, map-Stmt}
use Rattle.wg_tree.specs.declared.stmt.Stmt.TheOpen.{Stmt-F}
use Rattle.wg_words.specs.declared.place.Place.{Place}
use Rattle.wg_typed.specs.declared.typed_expr.TypedExpr.{TypedExpr}
use Rattle.wg_typed.specs.declared.typed_stmt.TypedAttribute.{TypedAttribute}
use Rattle.wg_typed.specs.declared.typed_stmt.TypedStmt.{TypedStmt, roll-TypedStmt, fold-roll-TypedStmt, map-TypedStmt}
use Rattle.wg_typed.specs.declared.typed_stmt.TypedStmt.TheVariants as t
use Rattle.wg_typed.specs.declared.typed_stmt.TypedStmt.TheOpen.{TypedStmt-F}
use Rattle.wg_typing.specs.declared.context.GivesBack.{GivesBack}
use Rattle.wg_typing.specs.declared.context.GivesBack.TheVariants as gives_back
use Rattle.wg_typing.specs.declared.part.Did.{Did}
use Rattle.wg_typing.specs.declared.part.Did.TheVariants as did
use Rattle.wg_typing.specs.declared.scope.Act.{Act}
use Rattle.wg_typing.specs.declared.scope.Act.TheVariants as act
use Rattle.wg_typing.specs.declared.scope.Value.{Value}
use Rattle.wg_typing.specs.declared.scope.Value.TheVariants as value
use Rattle.wg_facts.proofs.Basics.{and_then, If, if_then, if_where}
use Rattle.wg_limits.specs.Branches.{most, maybe, expr_branches, maybe_branches, start_branches, steps_branches, stmt_step, stmt_branches}
use Rattle.wg_limits.specs.Vectors.{all_true, if_true, expr_written, maybe_written, steps_written, start_written, stmt_written_step, stmt_written}
use Rattle.wg_limits.specs.Measure.{stmt_gives, of_expr, of_maybe, of_start, of_steps, of_stmt, of_body}
use Rattle.wg_limits.proofs.Parts.{Bound, ExprBelow, ActBelow, ValueBelow, PartBelow, maybe_below, NameBelow}
use Rattle.wg_limits.proofs.Exprs.{first_most, second_most, AllKnown, names_push, FineGiven, Stands, part_below}
use Rattle.wg_limits.proofs.Steps.{DidBelow, did_below, StepsBelow, header_below, once_stands, DeclaredBelow, declaration_below, declaration_stands, MaybeBelow, StartBelow, start_stands, start_below, fit_in_below, maybe_fit_below}

module _ (k : Bound) where
  abbrev pub StmtBelow : ℕ → TypedStmt → Type 0
  StmtBelow b s = k.Below (of_stmt k.measure s) b

  abbrev pub BodyBelow : ℕ → List TypedStmt → Type 0
  BodyBelow b ss = k.Below (of_body k.measure ss) b

  -- a statement of a kind
  does : (b : ℕ) (z : TypedStmt-F TypedStmt) (s : TypedStmt) → roll-TypedStmt z ≡ s → k.Below (stmt_gives k.measure (map-TypedStmt TypedStmt k.carrier (of_stmt k.measure) z)) b → StmtBelow b s
  does b z s e h = subst (λ x. k.Below x b) (sym (ap (of_stmt k.measure) (sym e) ∙ fold-roll-TypedStmt k.carrier (stmt_gives k.measure) z)) h

  -- ---- steps, handles, returns

  sends_below : (b : ℕ) (element : Option TypedExpr) (amount : TypedExpr) → If (ExprBelow k b) element → ExprBelow k b amount → k.Below (k.measure.join (of_maybe k.measure element) (of_expr k.measure amount)) b
  sends_below b element amount h i = k.join (of_maybe k.measure element) (of_expr k.measure amount) b (maybe_below k b element h) i

  act_below : (b : ℕ) (c : Context) (a : Act) → ActBelow k b a → If (StmtBelow b) (act_stmt c a)
  act_below b c (act.Step s) h = does b (TypedStmt-F.Step s) (t.Step s) (t.rolls-Step s) h
  act_below b c (act.Barrier syncs) h = does b (TypedStmt-F.Barrier syncs) (t.Barrier syncs) (t.rolls-Barrier syncs) (k.none b)
  act_below b c (act.Request group output number element amount) h = tt
  act_below b c (act.Increment group output element amount) h = does b (TypedStmt-F.Increment group output element amount) (t.Increment group output element amount) (t.rolls-Increment group output element amount) (sends_below b element amount h.0 h.1)
  act_below b c (act.Complete handle) h = if_where (StmtBelow b) (own_handle c handle) (t.Complete handle) (λ e. does b (TypedStmt-F.Complete handle) (t.Complete handle) (t.rolls-Complete handle) (k.none b))
  act_below b c (act.Finished tracked) h = tt

  did_stmt_below : (b : ℕ) (c : Context) (d : Did) → DidBelow k b d → If (StmtBelow b) (step_stmt c d)
  did_stmt_below b c (did.Step s) h = does b (TypedStmt-F.Step s) (t.Step s) (t.rolls-Step s) h
  did_stmt_below b c (did.Act a) h = act_below b c a h

  request_below : (b : ℕ) (group : Option Bool) (number : Option ℕ) (v : Option Value) → If (ValueBelow k b) v → If (λ (r : RequestForm). If (ExprBelow k b) r.element × ExprBelow k b r.amount) (request_in group number v)
  request_below b (Some group) (Some number) (Some (value.Act name (act.Request of_group output record_type element amount))) h = if_where (λ (r : RequestForm). If (ExprBelow k b) r.element × ExprBelow k b r.amount) _ _ (λ e. h)
  request_below b group number v h = tt

  handle_stmt_below : (c : Context) (of : ObjectType) (e : Expr) (b : ℕ) → PartBelow k b (part c e) → If (StmtBelow b) (and_then (handle_request c of e) (λ r. Some (request_stmt c r)))
  handle_stmt_below c of e b h = if_then (λ (r : RequestForm). If (ExprBelow k b) r.element × ExprBelow k b r.amount) (StmtBelow b) (handle_request c of e) _ (request_below b (handle_word of.word) (handle_record c of) (part c e).value h) (λ r i.
      does b (TypedStmt-F.Request _ r.group r.output r.element r.amount) (request_stmt c r) (t.rolls-Request _ r.group r.output r.element r.amount) (sends_below b r.element r.amount i.0 i.1))

  returned_below : (c : Context) (g : GivesBack) (place : Place) (e : Option Expr) (b : ℕ) → FineGiven k g → Stands k c → maybe_branches e ≤ b → k.Wrote (maybe_written e) → AllKnown k (returned_sites c place e) → If (StmtBelow b) (returned_tree c g e)
  returned_below c gives_back.Nothing place None b f g h o w = does b (TypedStmt-F.Return None) (t.Return None) (t.rolls-Return None) (k.none b)
  returned_below c gives_back.Nothing place (Some e) b f g h o w = tt
  returned_below c (gives_back.Value of) place None b f g h o w = tt
  returned_below c (gives_back.Value of) place (Some e) b f g h o w = if_then (ExprBelow k b) (StmtBelow b) (fit_in c of e) _ (fit_in_below k c of e b f g h o w.0.0.0) (λ x i.
      does b (TypedStmt-F.Return (Some x)) (t.Return (Some x)) (t.rolls-Return (Some x)) i)
  returned_below c gives_back.Unsure place e b f g h o w = tt

  -- ---- what a statement leaves

  pub record WalkBelow (n : ℕ) (v : Bool) (w : Walk) : Type 0 where
    pub stands : (c : Context) → k.Wrote v → Stands k c → Stands k (w c).after
    pub below : (c : Context) (b : ℕ) → Stands k c → n ≤ b → k.Wrote v → AllKnown k (w c).sites → If (StmtBelow b) (w c).tree

  abbrev pub AllWalks : List ℕ → List Bool → List Walk → Type 0
  AllWalks [] [] [] = Unit {0}
  AllWalks (n ∷ ns) (v ∷ vs) (w ∷ ws) = WalkBelow n v w × AllWalks ns vs ws
  AllWalks _ _ _ = ⊥

  pub block_below : (ns : List ℕ) (vs : List Bool) (ws : List Walk) (c : Context) (b : ℕ) → AllWalks ns vs ws → Stands k c → most ns ≤ b → k.Wrote (all_true vs) → AllKnown k (block_sites ws c) → If (BodyBelow b) (block_trees ws c)
  block_below [] [] [] c b g s h o w = k.none b
  block_below (n ∷ ns) (v ∷ vs) (x ∷ ws) c b g s h o w = if_then (StmtBelow b) (BodyBelow b) (x c).tree _ (g.0.below c b s (first_most n (most ns) b h) (k.first v _ o) w.0) (λ y i.
      if_then (BodyBelow b) (BodyBelow b) (block_trees ws (x c).after) _ (block_below ns vs ws (x c).after b g.1 (g.0.stands c (k.first v _ o) s) (second_most n (most ns) b h) (k.second v _ o) w.1) (λ ys j.
      k.join (of_stmt k.measure y) _ b i j))
  block_below [] [] (x ∷ ws) c b g s h o w = absurd g
  block_below [] (v ∷ vs) ws c b g s h o w = absurd g
  block_below (n ∷ ns) [] ws c b g s h o w = absurd g
  block_below (n ∷ ns) (v ∷ vs) [] c b g s h o w = absurd g

  pub block_stands : (ns : List ℕ) (vs : List Bool) (ws : List Walk) (c : Context) → AllWalks ns vs ws → k.Wrote (all_true vs) → Stands k c → Stands k (block_after ws c)
  block_stands [] [] [] c g o s = s
  block_stands (n ∷ ns) (v ∷ vs) (x ∷ ws) c g o s = block_stands ns vs ws (x c).after g.1 (k.second v _ o) (g.0.stands c (k.first v _ o) s)
  block_stands [] [] (x ∷ ws) c g o s = absurd g
  block_stands [] (v ∷ vs) ws c g o s = absurd g
  block_stands (n ∷ ns) [] ws c g o s = absurd g
  block_stands (n ∷ ns) (v ∷ vs) [] c g o s = absurd g

  enter_stands : (c : Context) → Stands k c → Stands k (enter c)
  enter_stands c s = record { names = s.names; structs = s.structs; variables = s.variables; gives = s.gives }

  loop_stands : (c : Context) → Stands k c → Stands k (enter_loop c)
  loop_stands c s = record { names = s.names; structs = s.structs; variables = s.variables; gives = s.gives }

  leave_stands : (outer inner : Context) → Stands k outer → Stands k inner → Stands k (leave outer inner)
  leave_stands outer inner s i = record { names = s.names; structs = s.structs; variables = i.variables; gives = s.gives }

  -- ---- branches

  abbrev MaybeStmt : ℕ → Option TypedStmt → Type 0
  MaybeStmt b None = k.Below k.measure.none b
  MaybeStmt b (Some s) = StmtBelow b s

  abbrev MaybeWalk : Option ℕ → Option Bool → Option Walk → Type 0
  MaybeWalk None None None = Unit {0}
  MaybeWalk (Some n) (Some v) (Some w) = WalkBelow n v w
  MaybeWalk _ _ _ = ⊥

  else_stands : (c : Context) (n : Option ℕ) (v : Option Bool) (x : Option Walk) → MaybeWalk n v x → k.Wrote (if_true v) → Stands k c → Stands k (else_after x c)
  else_stands c None None None g o s = s
  else_stands c (Some n) (Some v) (Some w) g o s = leave_stands c (w (enter c)).after s (g.stands (enter c) o (enter_stands c s))
  else_stands c None None (Some w) g o s = absurd g
  else_stands c None (Some v) x g o s = absurd g
  else_stands c (Some n) None x g o s = absurd g
  else_stands c (Some n) (Some v) None g o s = absurd g

  else_below : (c : Context) (n : Option ℕ) (v : Option Bool) (x : Option Walk) (b : ℕ) → MaybeWalk n v x → Stands k c → maybe n ≤ b → k.Wrote (if_true v) → AllKnown k (else_sites x c) → If (MaybeStmt b) (if_there (tree_in (enter c)) x)
  else_below c None None None b g s h o w = k.none b
  else_below c (Some n) (Some v) (Some x) b g s h o w = if_then (StmtBelow b) (MaybeStmt b) (x (enter c)).tree _ (g.below (enter c) b (enter_stands c s) h o w) (λ s i. i)
  else_below c None None (Some x) b g s h o w = absurd g
  else_below c None (Some v) x b g s h o w = absurd g
  else_below c (Some n) None x b g s h o w = absurd g
  else_below c (Some n) (Some v) None b g s h o w = absurd g

  if_does : (b : ℕ) (attributes : List TypedAttribute) (test : TypedExpr) (first : TypedStmt) (other : Option TypedStmt) → ExprBelow k b test → StmtBelow b first → MaybeStmt b other → StmtBelow b (t.If attributes false test first other)
  if_does b attributes test first None h i j = does b (TypedStmt-F.If attributes false test first None) (t.If attributes false test first None) (t.rolls-If attributes false test first None) (k.join (of_expr k.measure test) _ b h (k.join (of_stmt k.measure first) _ b i j))
  if_does b attributes test first (Some other) h i j = does b (TypedStmt-F.If attributes false test first (Some other)) (t.If attributes false test first (Some other)) (t.rolls-If attributes false test first (Some other)) (k.join (of_expr k.measure test) _ b h (k.join (of_stmt k.measure first) _ b i j))

  if_walk : (attributes : List Attribute) (place : Place) (test : Expr) (n : ℕ) (v : Bool) (first : Walk) (m : Option ℕ) (u : Option Bool) (other : Option Walk) → WalkBelow n v first → MaybeWalk m u other
      → WalkBelow (max (expr_branches test) (max n (maybe m))) (expr_written test && (v && if_true u)) (stmt_walked (Stmt-F.If attributes place test first other))
  if_walk attributes place test n v first m u other g i = record {
    stands = λ c o s.
        let more = k.second (expr_written test) (v && if_true u) o in
        else_stands (branch_after first c) m u other i (k.second v (if_true u) more) (leave_stands c (first (enter c)).after s (g.stands (enter c) (k.first v (if_true u) more) (enter_stands c s)));
    below = λ c b s h o w.
        let rest = second_most (expr_branches test) (max n (maybe m)) b h in
        let more = k.second (expr_written test) (v && if_true u) o in
        if_then (ExprBelow k b) (StmtBelow b) (fit_in c truth_type test) _ (fit_in_below k c truth_type test b tt s (first_most (expr_branches test) (max n (maybe m)) b h) (k.first (expr_written test) (v && if_true u) o) w.1.0.0.0) (λ x j.
        if_then (StmtBelow b) (StmtBelow b) (first (enter c)).tree _ (g.below (enter c) b (enter_stands c s) (first_most n (maybe m) b rest) (k.first v (if_true u) more) w.1.1.0) (λ y l.
        if_then (MaybeStmt b) (StmtBelow b) (if_there (tree_in (enter (branch_after first c))) other) _ (else_below (branch_after first c) m u other b i (leave_stands c (first (enter c)).after s (g.stands (enter c) (k.first v (if_true u) more) (enter_stands c s))) (second_most n (maybe m) b rest) (k.second v (if_true u) more) w.1.1.1) (λ z p.
        if_does b (attributes_of c attributes) x y z j l p)));
  }

  while_walk : (attributes : List Attribute) (place : Place) (test : Expr) (n : ℕ) (v : Bool) (body : Walk) → WalkBelow n v body → WalkBelow (max (expr_branches test) n) (expr_written test && v) (stmt_walked (Stmt-F.While attributes place test body))
  while_walk attributes place test n v body g = record {
    stands = λ c o s. leave_stands c (body (enter_loop c)).after s (g.stands (enter_loop c) (k.second (expr_written test) v o) (loop_stands c s));
    below = λ c b s h o w.
        if_then (ExprBelow k b) (StmtBelow b) (fit_in c truth_type test) _ (fit_in_below k c truth_type test b tt s (first_most (expr_branches test) n b h) (k.first (expr_written test) v o) w.1.0.0.0) (λ x j.
        if_then (StmtBelow b) (StmtBelow b) (body (enter_loop c)).tree _ (g.below (enter_loop c) b (loop_stands c s) (second_most (expr_branches test) n b h) (k.second (expr_written test) v o) w.1.1) (λ y l.
        does b (TypedStmt-F.While (attributes_of c attributes) x y) (t.While (attributes_of c attributes) x y) (t.rolls-While (attributes_of c attributes) x y) (k.join (of_expr k.measure x) (of_stmt k.measure y) b j l)));
  }

  for_walk : (attributes : List Attribute) (place : Place) (header : Header) (n : ℕ) (v : Bool) (body : Walk) → WalkBelow n v body
      → WalkBelow (max (start_branches header.start) (max (maybe_branches header.test) (max (steps_branches (maybe_steps header.steps)) n)))
      (start_written header.start && (maybe_written header.test && (steps_written (maybe_steps header.steps) && v))) (stmt_walked (Stmt-F.For attributes place header body))
  for_walk attributes place header n v body g = record {
    stands = λ c o s.
        let inner : Stands k (in_header header c) = start_stands k header.start (enter c) (k.first (start_written header.start) _ o) (enter_stands c s) in
        let last = k.second (steps_written (maybe_steps header.steps)) v (k.second (maybe_written header.test) _ (k.second (start_written header.start) _ o)) in
        leave_stands c (body (enter_loop (in_header header c))).after s (g.stands (enter_loop (in_header header c)) last (loop_stands (in_header header c) inner));
    below = λ c b s h o w.
        let p1 = k.first (start_written header.start) _ o in
        let o2 = k.second (start_written header.start) _ o in
        let o3 = k.second (maybe_written header.test) _ o2 in
        let inner : Stands k (in_header header c) = start_stands k header.start (enter c) p1 (enter_stands c s) in
        let two = second_most (start_branches header.start) (max (maybe_branches header.test) (max (steps_branches (maybe_steps header.steps)) n)) b h in
        let three = second_most (maybe_branches header.test) (max (steps_branches (maybe_steps header.steps)) n) b two in
        if_then (StartBelow k b) (StmtBelow b) (if_there (start_tree (enter c)) header.start) _ (start_below k header.start (enter c) b (enter_stands c s) (first_most (start_branches header.start) _ b h) p1 w.1.0) (λ x j.
        if_then (MaybeBelow k b) (StmtBelow b) (if_there (fit_in (in_header header c) truth_type) header.test) _ (maybe_fit_below k (in_header header c) truth_type header.test b tt inner (first_most (maybe_branches header.test) _ b two) (k.first (maybe_written header.test) _ o2) w.1.1.0) (λ y l.
        if_then (StepsBelow k b) (StmtBelow b) (header_trees (in_header header c) (maybe_steps header.steps)) _ (header_below k (in_header header c) (maybe_steps header.steps) b inner (first_most (steps_branches (maybe_steps header.steps)) n b three) (k.first (steps_written (maybe_steps header.steps)) v o3) w.1.1.1.0) (λ z q.
        if_then (StmtBelow b) (StmtBelow b) (body (enter_loop (in_header header c))).tree _ (g.below (enter_loop (in_header header c)) b (loop_stands (in_header header c) inner) (second_most (steps_branches (maybe_steps header.steps)) n b three) (k.second (steps_written (maybe_steps header.steps)) v o3) w.1.1.1.1) (λ x2 p.
        does b (TypedStmt-F.For (attributes_of c attributes) x y z x2) (t.For (attributes_of c attributes) x y z x2) (t.rolls-For (attributes_of c attributes) x y z x2)
        (k.join (of_start k.measure x) _ b j (k.join (of_maybe k.measure y) _ b l (k.join (of_steps k.measure z) (of_stmt k.measure x2) b q p)))))));
  }

  -- ---- one layer

  abbrev StmtIs : Stmt → Type 0
  StmtIs s = WalkBelow (stmt_branches s) (stmt_written s) (walked s)

  walk_list : {B : Type 0} (p : B → Stmt) (holds : (x : B) → StmtIs (p x)) (xs : List B) → AllWalks (map stmt_branches (map p xs)) (map stmt_written (map p xs)) (map walked (map p xs))
  walk_list p holds [] = tt
  walk_list p holds (x ∷ xs) = (holds x, walk_list p holds xs)

  handle_name : (n : ℕ) (o : Option ℕ) → NameBelow k (handle_meant n o)
  handle_name n None = tt
  handle_name n (Some number) = tt

  layer_walk : {B : Type 0} (p : B → Stmt) (holds : (x : B) → StmtIs (p x)) (y : Stmt-F B)
      → WalkBelow (stmt_step (map-Stmt Stmt ℕ stmt_branches (map-Stmt B Stmt p y))) (stmt_written_step (map-Stmt Stmt Bool stmt_written (map-Stmt B Stmt p y))) (stmt_walked (map-Stmt Stmt Walk walked (map-Stmt B Stmt p y)))
  layer_walk p holds (Stmt-F.Block place body) = record {
    stands = λ c o s. leave_stands c (block_after (map walked (map p body)) (enter c)) s (block_stands _ _ (map walked (map p body)) (enter c) (walk_list p holds body) o (enter_stands c s));
    below = λ c b s h o w. if_then (BodyBelow b) (StmtBelow b) (block_trees (map walked (map p body)) (enter c)) _ (block_below _ _ (map walked (map p body)) (enter c) b (walk_list p holds body) (enter_stands c s) h o w) (λ ss i.
        does b (TypedStmt-F.Block ss) (t.Block ss) (t.rolls-Block ss) i);
  }
  layer_walk p holds (Stmt-F.Empty place) = record { stands = λ c o s. s; below = λ c b s h o w. does b TypedStmt-F.Empty t.Empty t.rolls-Empty (k.none b) }
  layer_walk p holds (Stmt-F.Declare d) = record {
    stands = λ c o s. declaration_stands k d c o s;
    below = λ c b s h o w. if_then (DeclaredBelow k b) (StmtBelow b) (declaration_trees d c) _ (declaration_below k d c b s h o w) (λ ds i. does b (TypedStmt-F.Declare ds) (t.Declare ds) (t.rolls-Declare ds) i);
  }
  layer_walk p holds (Stmt-F.Handle of name e) = record {
    stands = λ c o s. once_stands k name c (with_handle name (handle_record c of) (handle_tree name (handle_request c of e)) c) s (record { names = names_push k c.names _ s.names (handle_name _ (handle_record c of)); structs = s.structs; variables = s.variables; gives = s.gives });
    below = λ c b s h o w. handle_stmt_below c of e b (part_below k c s e b h o w.0);
  }
  layer_walk p holds (Stmt-F.Step x) = record {
    stands = λ c o s. s;
    below = λ c b s h o w. if_then (DidBelow k b) (StmtBelow b) (step_did c x) _ (did_below k c false x b s h o w) (λ d i. did_stmt_below b c d i);
  }
  layer_walk p holds (Stmt-F.Break place) = record { stands = λ c o s. s; below = λ c b s h o w. if_where (StmtBelow b) c.looped t.Break (λ e. does b TypedStmt-F.Break t.Break t.rolls-Break (k.none b)) }
  layer_walk p holds (Stmt-F.Continue place) = record { stands = λ c o s. s; below = λ c b s h o w. if_where (StmtBelow b) c.looped t.Continue (λ e. does b TypedStmt-F.Continue t.Continue t.rolls-Continue (k.none b)) }
  layer_walk p holds (Stmt-F.Return place e) = record { stands = λ c o s. s; below = λ c b s h o w. returned_below c c.returns place e b s.gives s h o w }
  layer_walk p holds (Stmt-F.If attributes place test first None) = if_walk attributes place test (stmt_branches (p first)) (stmt_written (p first)) (walked (p first)) None None None (holds first) tt
  layer_walk p holds (Stmt-F.If attributes place test first (Some other)) =
      if_walk attributes place test (stmt_branches (p first)) (stmt_written (p first)) (walked (p first)) (Some (stmt_branches (p other))) (Some (stmt_written (p other))) (Some (walked (p other))) (holds first) (holds other)
  layer_walk p holds (Stmt-F.While attributes place test body) = while_walk attributes place test (stmt_branches (p body)) (stmt_written (p body)) (walked (p body)) (holds body)
  layer_walk p holds (Stmt-F.For attributes place header body) = for_walk attributes place header (stmt_branches (p body)) (stmt_written (p body)) (walked (p body)) (holds body)

  -- ---- all statements

  rolled_walk : (z : Stmt-F Stmt) → WalkBelow (stmt_step (map-Stmt Stmt ℕ stmt_branches z)) (stmt_written_step (map-Stmt Stmt Bool stmt_written z)) (stmt_walked (map-Stmt Stmt Walk walked z)) → StmtIs (roll-Stmt z)
  rolled_walk z h = subst (λ n. WalkBelow n (stmt_written (roll-Stmt z)) (walked (roll-Stmt z))) (sym (fold-roll-Stmt ℕ stmt_step z))
      (subst (λ v. WalkBelow (stmt_step (map-Stmt Stmt ℕ stmt_branches z)) v (walked (roll-Stmt z))) (sym (fold-roll-Stmt Bool stmt_written_step z))
      (subst (WalkBelow (stmt_step (map-Stmt Stmt ℕ stmt_branches z)) (stmt_written_step (map-Stmt Stmt Bool stmt_written z))) (sym (fold-roll-Stmt Walk stmt_walked z)) h))

  pub stmt_walk : (s : Stmt) → StmtIs s
  stmt_walk s = ind-Stmt StmtIs (λ x y eq. subst (λ l. StmtIs (roll-Stmt l)) eq (rolled_walk (map-Stmt _ Stmt (λ b. b.0) y) (layer_walk (λ b. b.0) (λ b. b.1) y))) s

  pub all_walks : (ss : List Stmt) → AllWalks (map stmt_branches ss) (map stmt_written ss) (map walked ss)
  all_walks [] = tt
  all_walks (s ∷ rest) = (stmt_walk s, all_walks rest)
