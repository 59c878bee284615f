-- What begins as a declaration or as a step is read exactly.
use Rattle.std.proofs.Common.{◌≡◌, ℕ, suc, ◌≤◌, ◌==◌, ◌||◌, ◌&&◌, Bool, true, false, List, [], ◌∷◌, refl, sym, ◌∙◌, ap, subst, if◌then◌else◌, inl, inr, arith, None, Option}
use Rattle.wg_tokens.specs.declared.mark.Mark.TheVariants as sign
use Rattle.wg_tokens.specs.declared.token.Token.{Token}
use Rattle.wg_tree.specs.declared.expr.Expr.{Expr}
use Rattle.wg_tree.specs.declared.expr.Named.{Named}
use Rattle.wg_tree.specs.declared.expr.TypeName.{TypeName}
use Rattle.wg_tree.specs.declared.expr.Expr.TheVariants as e
use Rattle.wg_tree.specs.declared.stmt.Declaration.{Declaration}
use Rattle.wg_tree.specs.declared.stmt.Declarator.{Declarator}
use Rattle.wg_tree.specs.declared.stmt.Step.{Step}
use Rattle.wg_tree.specs.declared.stmt.Step.TheVariants as step
use Rattle.wg_tree.specs.declared.stmt.Steps.{Steps}
use Rattle.wg_tree.specs.declared.stmt.Start.{Start}
use Rattle.wg_tree.specs.declared.stmt.Start.TheVariants as start
use Rattle.wg_tree.specs.declared.stmt.Stmt.{Stmt}
use Rattle.wg_tree.specs.declared.stmt.Stmt.TheVariants as s
use Rattle.wg_grammar.specs.Spans.{Span, ◌or◌}
use Rattle.wg_grammar.specs.Reading.{Reading, Got, Wrong, Reader, sees, begins_with, look}
use Rattle.wg_grammar.specs.Depths.{plain}
use Rattle.wg_grammar.specs.TakesTokens.{TakesTokens, matched}
use Rattle.wg_grammar.specs.Productions.{Production, list, sub, member, of, reads, spells, first, stops, nullable, decides, ◌<$>◌, ◌<*>◌, ◌*>◌}
use Rattle.wg_grammar.proofs.Kept.{Persists}
use Rattle.wg_grammar.proofs.Look.{persists_look}
use Rattle.wg_grammar.proofs.Far.{Far, far_part, far_token, far_give, far_apply, left_read, none_matched, far_takes}
use Rattle.wg_grammar.proofs.Sets.{both_true, covered_sees, covered_true, apart_sees, sees_none}
use Rattle.wg_grammar.proofs.PartKept.{Grows, part_persists}
use Rattle.wg_grammar.proofs.PartFull.{begun}
use Rattle.wg_grammar.proofs.Exact.{Exact, exact_part, exact_for, exact_look}
use Rattle.wg_grammar.proofs.Inverse.{inv_apply, inv_give, inv_two, inv_token, begins_more, begins_not}
use Rattle.wg_tokens.specs.Classes.{of_mark, NAME, class}
use Rattle.wg_tree.specs.Depths.{Depth}
use Rattle.wg_tree.specs.GrammarExpr.{full, constant, by_code, classes, value_types, name, placed_name, one_of, mark, optional}
use Rattle.wg_tree.specs.GrammarStmt.{type_classes, type_of, a_type, declarator, declaration, size_of, step_rest, a_step, steps, step_operators, step_operator_of, Values, value, const, Value, values_rules, declared_stmt, stepped_stmt, declared_start, stepped_start}
use Rattle.wg_tree.specs.GrammarItem.{outermost}
use Rattle.wg_tree.specs.ReadsExpr.{starts, expr_stops, expr_read_at, inside_at}
use Rattle.wg_tree.specs.ReadsStmt.{values_edges, declares, step_starts, opening_stops, starting_stops, values_readers}
use Rattle.wg_tree.proofs.Examples.{example}
use Rattle.wg_tree.proofs.ExprPaths.{only}
use Rattle.wg_tree.proofs.ExprExact.{known, exact_expr_at, named_read, expr_wrong, unary_type_wrong, expr_more, first_taken}
use Rattle.wg_tree.proofs.StmtDecides.{declared_stmt_decides, stepped_stmt_decides, declared_start_decides, stepped_start_decides}

wrong_got : (x : Expr) (b c : List Token) → ◌≡◌ {A = Reading Token Expr} (Wrong b) (Got x c) → ⊥
wrong_got x b c q = cc

same_rest : (x y : Expr) (b c : List Token) → ◌≡◌ {A = Reading Token Expr} (Got x b) (Got y c) → b ≡ c
same_rest x y b c q = cc

module _ (room : ℕ) (d : Depth) where
  pub exact_value : (n : Values) → Exact class (values_edges.first n) (values_edges.stops n) ((values_readers room).read n) ((values_rules room d).rule n)
  exact_value value = exact_expr_at full room (known full room) d
  exact_value const = exact_expr_at constant room (known constant room) d

-- ---- a declaration and a step take the type that they begin with

module _ (room : ℕ) where
  pub values_self : Grows (values_readers room) (values_readers room)
  values_self = record { room = λ e. e; kept = λ n. (exact_value room outermost n).self; eats = λ n. (exact_value room outermost n).eats }

  abbrev pub Read : {X : Type 0} → Production Token Values Value X → Reader Token X
  Read p = reads class values_edges (values_readers room) p

  declaration_far : (n : Token) (ts : List Token) → of class type_classes n ≡ true → Far 1 (n ∷ ts) (Read (declaration (sub value) (sub const)) (n ∷ ts))
  declaration_far n ts e =
      let make : TypeName → Declarator → List Declarator → Declaration = λ of first rest. record { constant = None; of = of; first = first; rest = rest } in
      far_apply class values_edges example (values_readers room) values_self (make <$> a_type <*> declarator (sub value) (sub const)) (list (mark sign.Comma *> declarator (sub value) (sub const))) 1 (n ∷ ts) refl
      (far_apply class values_edges example (values_readers room) values_self (make <$> a_type) (declarator (sub value) (sub const)) 1 (n ∷ ts) refl
      (far_give class values_edges example (values_readers room) values_self make a_type 1 (n ∷ ts) (far_token class values_edges example (values_readers room) values_self type_classes type_of n ts e)))

  abbrev from_value : Production Token Values Value Step
  from_value = (λ x rest. rest x) <$> sub value <*> step_rest (sub value)

  abbrev before_value : Production Token Values Value Step
  before_value = (λ t target. step.Before t.place (step_operator_of t) target) <$> one_of (classes step_operators) <*> sub value

  step_far : (n : Token) (ts : List Token) → of class type_classes n ≡ true → Far 1 (n ∷ ts) (Read (a_step (sub value)) (n ∷ ts))
  step_far n ts e =
      subst (λ o. Far 1 (n ∷ ts) o) (sym (left_read class values_edges example (values_readers room) values_self from_value before_value (n ∷ ts) (covered_true class type_classes (starts full) (n ∷ ts) refl e)))
      (far_apply class values_edges example (values_readers room) values_self ((λ x rest. rest x) <$> sub value) (step_rest (sub value)) 1 (n ∷ ts) refl
      (far_give class values_edges example (values_readers room) values_self (λ x rest. rest x) (sub value) 1 (n ∷ ts) (first_taken room n ts e)))

  steps_far : (n : Token) (ts : List Token) → of class type_classes n ≡ true → Far 1 (n ∷ ts) (Read (steps (sub value)) (n ∷ ts))
  steps_far n ts e =
      let make : Step → List Step → Steps = λ first rest. record { first = first; rest = rest } in
      far_apply class values_edges example (values_readers room) values_self (make <$> a_step (sub value)) (list (mark sign.Comma *> a_step (sub value))) 1 (n ∷ ts) refl
      (far_give class values_edges example (values_readers room) values_self make (a_step (sub value)) 1 (n ∷ ts) (step_far n ts e))

  -- so what tells them apart stands before a token that is too deep
  pub declared_far : {X : Type 0} (p : Production Token Values Value X) → ((n : Token) (ts : List Token) → of class type_classes n ≡ true → Far 1 (n ∷ ts) (Read p (n ∷ ts))) → (ts : List Token) → begins_with declares ts ≡ true → (n : ℕ) → 2 ≡ suc n → Far n ts (Read p ts)
  declared_far p h [] b n l = absurd (cc)
  declared_far p h (t ∷ ts) b n l = let one : 1 ≡ n = omega arith in subst (λ m. Far m (t ∷ ts) (Read p (t ∷ ts))) one (h t ts (both_true (of class type_classes t) _ b).0)

  pub stepped_far : {X : Type 0} (p : Production Token Values Value X) → decides class values_edges example p ≡ true → ((n : Token) (ts : List Token) → of class type_classes n ≡ true → Far 1 (n ∷ ts) (Read p (n ∷ ts))) → (ts : List Token) → begins_with declares ts ≡ false → Far (matched declares ts) ts (Read p ts)
  stepped_far p d h [] b = far_part class values_edges example (values_readers room) values_self p d []
  stepped_far p d h (t ∷ ts) b = go (of class type_classes t) refl b
    where
      go : (v : Bool) → of class type_classes t ≡ v → (v && begins_with (of class (NAME ∷ []) ∷ []) ts) ≡ false → Far (if v then suc (matched (of class (NAME ∷ []) ∷ []) ts) else 0) (t ∷ ts) (Read p (t ∷ ts))
      go true e b = subst (λ k. Far (suc k) (t ∷ ts) (Read p (t ∷ ts))) (sym (none_matched (of class (NAME ∷ [])) ts b)) (h t ts e)
      go false e b = far_part class values_edges example (values_readers room) values_self p d (t ∷ ts)

  pub declared_stmt_far : (n : Token) (ts : List Token) → of class type_classes n ≡ true → Far 1 (n ∷ ts) (Read declared_stmt (n ∷ ts))
  declared_stmt_far n ts e = far_give class values_edges example (values_readers room) values_self (λ d. s.Declare d) (declaration (sub value) (sub const)) 1 (n ∷ ts) (declaration_far n ts e)

  pub stepped_stmt_far : (n : Token) (ts : List Token) → of class type_classes n ≡ true → Far 1 (n ∷ ts) (Read stepped_stmt (n ∷ ts))
  stepped_stmt_far n ts e = far_give class values_edges example (values_readers room) values_self (λ x. s.Step x) (a_step (sub value)) 1 (n ∷ ts) (step_far n ts e)

  pub declared_start_far : (n : Token) (ts : List Token) → of class type_classes n ≡ true → Far 1 (n ∷ ts) (Read declared_start (n ∷ ts))
  declared_start_far n ts e = far_give class values_edges example (values_readers room) values_self (λ d. start.Declare d) (declaration (sub value) (sub const)) 1 (n ∷ ts) (declaration_far n ts e)

  pub stepped_start_far : (n : Token) (ts : List Token) → of class type_classes n ≡ true → Far 1 (n ∷ ts) (Read stepped_start (n ∷ ts))
  stepped_start_far n ts e = far_give class values_edges example (values_readers room) values_self (λ x. start.Steps x) (steps (sub value)) 1 (n ∷ ts) (steps_far n ts e)

-- ---- told apart

module _ (room : ℕ) (d : Depth) where
  exact_of : {X : Type 0} (p : Production Token Values Value X) → decides class values_edges example p ≡ true → nullable p ≡ false → Exact class (first values_edges p) (stops values_edges p) (reads class values_edges (values_readers room) p) (spells class (values_rules room d) p)
  exact_of p g n = exact_part class values_edges example (values_readers room) (values_rules room d) refl (exact_value room d) p g n

  abbrev pub Cells : Type 0
  Cells = List (Token × Depth)

  abbrev pub Spells : {X : Type 0} → Production Token Values Value X → X → Span (Token × Depth)
  Spells p = spells class (values_rules room d) p

  -- a declaration begins with a type and a name
  declaration_passes : (x : Declaration) (i r : Cells) → Spells (declaration (sub value) (sub const)) x i r → begins_with declares (plain i) ≡ true
  declaration_passes x i r h =
      let make : TypeName → Declarator → List Declarator → Declaration = λ of first rest. record { constant = None; of = of; first = first; rest = rest } in
      let named_with : Named → Option Expr → Option Expr → Declarator = λ nm sz v. record { name = nm; size = sz; value = v } in
      let a = inv_apply class (values_rules room d) (make <$> a_type <*> declarator (sub value) (sub const)) (list (mark sign.Comma *> declarator (sub value) (sub const))) x i r h in
      let b = inv_two class (values_rules room d) make a_type (declarator (sub value) (sub const)) a.0 i a.2 a.3 in
      let c = inv_apply class (values_rules room d) (named_with <$> name <*> size_of (sub const)) (optional (mark sign.Assign *> sub value)) b.1 b.2 a.2 b.4 in
      let g = inv_two class (values_rules room d) named_with name (size_of (sub const)) c.0 b.2 c.2 c.3 in
      begins_more (of class type_classes) (of class (NAME ∷ []) ∷ []) i b.2 (inv_token class (values_rules room d) false type_classes type_of b.0 i b.2 b.3)
      (begins_more (of class (NAME ∷ [])) [] b.2 g.2 (inv_token class (values_rules room d) false (NAME ∷ []) placed_name g.0 b.2 g.2 g.3) (refl {a = true}))

  two_tokens : (ts : List Token) → begins_with declares ts ≡ true → (t n : Token) × (rest : List Token) × (ts ≡ t ∷ n ∷ rest) × (of class type_classes t ≡ true) × (class n ≡ NAME)
  two_tokens [] h = absurd (cc)
  two_tokens (t ∷ []) h = absurd (let k = (both_true (of class type_classes t) false h).1 in cc)
  two_tokens (t ∷ n ∷ ts) h =
      let a = both_true (of class type_classes t) _ h in
      let b = both_true (of class (NAME ∷ []) n) true a.1 in
      (t, n, ts, refl, a.0, only (class n) NAME b.0)

  by_type : {A : Type 0} (t : Token) → of class type_classes t ≡ true → (class t ≡ NAME → A) → (of class (classes (by_code value_types)) t ≡ true → A) → A
  by_type {A = A} t h f g = go (class t == NAME) refl h
    where
      go : (v : Bool) → (class t == NAME) ≡ v → (v || of class (classes (by_code value_types)) t) ≡ true → A
      go true q h = f (only (class t) NAME (ap (λ z. z || false) q))
      go false q h = g h

  sees_name : (n : Token) (ts : List Token) → class n ≡ NAME → sees (of class (NAME ∷ [])) (n ∷ ts) ≡ true
  sees_name n ts c = ap (λ z. member z (NAME ∷ [])) c

  abbrev After : List ℕ
  After = NAME ∷ expr_stops full

  -- an expression that begins with a type and a name ends before the name
  ends_at_name : (x : Expr) (t n : Token) (ts m : List Token) → of class type_classes t ≡ true → class n ≡ NAME → expr_read_at full room (t ∷ n ∷ ts) ≡ Got x m → sees (of class (NAME ∷ [])) m ≡ true
  ends_at_name x t n ts m h c g = by_type t h
      (λ q. subst (λ z. sees (of class (NAME ∷ [])) z ≡ true) (same_rest (e.Name (placed_name t)) x (n ∷ ts) m (sym (named_read room (known full room) t n ts q (apart_sees class (NAME ∷ []) (expr_stops full) (n ∷ ts) refl (sees_name n ts c))) ∙ g)) (sees_name n ts c))
      (λ w. absurd (wrong_got x (n ∷ ts) m (sym (expr_wrong full (inside_at full room) (t ∷ n ∷ ts) (n ∷ ts) (unary_type_wrong (inside_at full room) t n ts w (ap (λ z. member z (of_mark sign.LeftParen ∷ [])) c))) ∙ g)))

  step_not_declared : (x : Step) (i r : Cells) → Spells (a_step (sub value)) x i r → sees (of class After) (plain r) ≡ false → begins_with declares (plain i) ≡ true → ⊥
  step_not_declared x i r (inl h) f k =
      let a = inv_two class (values_rules room d) (λ (x : Expr) (rest : Expr → Step). rest x) (sub value) (step_rest (sub value)) x i r h in
      let t = two_tokens (plain i) k in
      let n = sees_none class (NAME ∷ []) (expr_stops full) (plain r) f in
      let g = begun class values_edges example (values_rules room d) (λ n. (exact_value room d n).begins_with) (step_rest (sub value)) refl a.1 a.2 r a.4 in
      let follow : sees (of class (expr_stops full)) (plain a.2) ≡ false = elim g [ inl q ↦ ap (λ z. sees (of class (expr_stops full)) (plain z)) q.1 ∙ n.1 | inr q ↦ apart_sees class (first {Of = Value} values_edges (step_rest (sub value))) (expr_stops full) (plain a.2) refl q ] in
      let no_name : sees (of class (NAME ∷ [])) (plain a.2) ≡ false = elim g [ inl q ↦ ap (λ z. sees (of class (NAME ∷ [])) (plain z)) q.1 ∙ n.0 | inr q ↦ apart_sees class (first {Of = Value} values_edges (step_rest (sub value))) (NAME ∷ []) (plain a.2) refl q ] in
      let read = subst (λ z. expr_read_at full room z ≡ Got a.0 (plain a.2)) t.3 ((exact_value room d value).full.reads a.0 i a.2 a.3 follow) in
      let name = ends_at_name a.0 t.0 t.1 t.2 (plain a.2) t.4 t.5 read in
      both_ways (sees (of class (NAME ∷ [])) (plain a.2)) name no_name
    where
      both_ways : (v : Bool) → v ≡ true → v ≡ false → ⊥
      both_ways true a b = cc
      both_ways false a b = cc
  step_not_declared x i r (inr h) f k =
      let a = inv_two class (values_rules room d) (λ (t : Token) (target : Expr). step.Before t.place (step_operator_of t) target) (one_of (classes step_operators)) (sub value) x i r h in
      let l = inv_token class (values_rules room d) false (classes step_operators) (λ t. t) a.0 i a.2 a.3 in
      let s : sees (of class (classes step_operators)) (plain i) ≡ true = ap (λ z. sees (of class (classes step_operators)) (plain z)) l.3 ∙ l.2 in
      let n = begins_not (of class type_classes) (of class (NAME ∷ []) ∷ []) (plain i) (apart_sees class (classes step_operators) type_classes (plain i) refl s) in
      both_ways (begins_with declares (plain i)) k n
    where
      both_ways : (v : Bool) → v ≡ true → v ≡ false → ⊥
      both_ways true a b = cc
      both_ways false a b = cc

  never : (v : Bool) → (v ≡ true → ⊥) → v ≡ false
  never true h = absurd (h refl)
  never false h = refl

  pub stmt_not_declared : (x : Stmt) (i r : Cells) → Spells stepped_stmt x i r → sees (of class opening_stops) (plain r) ≡ false → begins_with declares (plain i) ≡ false
  stmt_not_declared x i r h f = let a = inv_give class (values_rules room d) (λ (x : Step). s.Step x) (a_step (sub value)) x i r h in
      never (begins_with declares (plain i)) (step_not_declared a.0 i r a.1 (covered_sees class After opening_stops (plain r) refl f))

  pub start_not_declared : (x : Start) (i r : Cells) → Spells stepped_start x i r → sees (of class starting_stops) (plain r) ≡ false → begins_with declares (plain i) ≡ false
  start_not_declared x i r h f =
      let a = inv_give class (values_rules room d) (λ (x : Steps). start.Steps x) (steps (sub value)) x i r h in
      let make_steps : Step → List Step → Steps = λ first rest. record { first = first; rest = rest } in
      let b = inv_two class (values_rules room d) make_steps (a_step (sub value)) (list (mark sign.Comma *> a_step (sub value))) a.0 i r a.1 in
      let g = begun class values_edges example (values_rules room d) (λ n. (exact_value room d n).begins_with) (list (mark sign.Comma *> a_step (sub value))) refl b.1 b.2 r b.4 in
      let follow : sees (of class After) (plain b.2) ≡ false = elim g [ inl q ↦ ap (λ z. sees (of class After) (plain z)) q.1 ∙ covered_sees class After starting_stops (plain r) refl f | inr q ↦ apart_sees class (of_mark sign.Comma ∷ []) After (plain b.2) refl q ] in
      never (begins_with declares (plain i)) (step_not_declared b.0 i b.2 b.3 follow)

  pub stmt_declared : (x : Stmt) (i r : Cells) → Spells declared_stmt x i r → begins_with declares (plain i) ≡ true
  stmt_declared x i r h = let a = inv_give class (values_rules room d) (λ (x : Declaration). s.Declare x) (declaration (sub value) (sub const)) x i r h in declaration_passes a.0 i r a.1

  pub start_declared : (x : Start) (i r : Cells) → Spells declared_start x i r → begins_with declares (plain i) ≡ true
  start_declared x i r h = let a = inv_give class (values_rules room d) (λ (x : Declaration). start.Declare x) (declaration (sub value) (sub const)) x i r h in declaration_passes a.0 i r a.1

  -- two tokens tell them apart
  declared_taken : {X : Type 0} (p : Production Token Values Value X) → ((n : Token) (ts : List Token) → of class type_classes n ≡ true → Far 1 (n ∷ ts) (Read room p (n ∷ ts))) → (ts : List Token) → begins_with declares ts ≡ true → (n : ℕ) → 2 ≡ suc n → TakesTokens n ts (Read room p ts)
  declared_taken p h ts b n l = far_takes n ts (Read room p ts) (declared_far room p h ts b n l)

  stepped_taken : {X : Type 0} (p : Production Token Values Value X) → decides class values_edges example p ≡ true → ((n : Token) (ts : List Token) → of class type_classes n ≡ true → Far 1 (n ∷ ts) (Read room p (n ∷ ts))) → (ts : List Token) → begins_with declares ts ≡ false → TakesTokens (matched declares ts) ts (Read room p ts)
  stepped_taken p d h ts b = far_takes (matched declares ts) ts (Read room p ts) (stepped_far room p d h ts b)

  declared_stmt_exact : Exact class type_classes opening_stops (reads class values_edges (values_readers room) declared_stmt) (Spells declared_stmt)
  declared_stmt_exact = exact_for class type_classes (stops values_edges declared_stmt) opening_stops refl (exact_of declared_stmt declared_stmt_decides refl)

  stepped_stmt_exact : Exact class step_starts opening_stops (reads class values_edges (values_readers room) stepped_stmt) (Spells stepped_stmt)
  stepped_stmt_exact = exact_for class step_starts (stops values_edges stepped_stmt) opening_stops refl (exact_of stepped_stmt stepped_stmt_decides refl)

  declared_start_exact : Exact class type_classes starting_stops (reads class values_edges (values_readers room) declared_start) (Spells declared_start)
  declared_start_exact = exact_for class type_classes (stops values_edges declared_start) starting_stops refl (exact_of declared_start declared_start_decides refl)

  stepped_start_exact : Exact class step_starts starting_stops (reads class values_edges (values_readers room) stepped_start) (Spells stepped_start)
  stepped_start_exact = exact_for class step_starts (stops values_edges stepped_start) starting_stops refl (exact_of stepped_start stepped_start_decides refl)

  pub exact_opening : Exact class step_starts opening_stops (look declares (reads class values_edges (values_readers room) declared_stmt) (reads class values_edges (values_readers room) stepped_stmt)) (Spells declared_stmt or Spells stepped_stmt)
  exact_opening = exact_look class type_classes type_classes step_starts opening_stops (of class (NAME ∷ []) ∷ []) refl refl declared_stmt_exact stepped_stmt_exact
      (declared_taken declared_stmt (declared_stmt_far room)) (stepped_taken stepped_stmt stepped_stmt_decides (stepped_stmt_far room)) stmt_declared stmt_not_declared

  pub exact_starting : Exact class step_starts starting_stops (look declares (reads class values_edges (values_readers room) declared_start) (reads class values_edges (values_readers room) stepped_start)) (Spells declared_start or Spells stepped_start)
  exact_starting = exact_look class type_classes type_classes step_starts starting_stops (of class (NAME ∷ []) ∷ []) refl refl declared_start_exact stepped_start_exact
      (declared_taken declared_start (declared_start_far room)) (stepped_taken stepped_start stepped_start_decides (stepped_start_far room)) start_declared start_not_declared

  -- with more room
  module _ (more : ℕ) (l : room ≤ more) where
    pub values_more : Grows (values_readers room) (values_readers more)
    values_more = record { room = λ q. refl; kept = kept; eats = λ n. (exact_value room d n).eats }
      where
        kept : (n : Values) → Persists ((values_readers room).read n) ((values_readers more).read n)
        kept value = expr_more full room more l
        kept const = expr_more constant room more l

    pub opening_more : Persists (look declares (reads class values_edges (values_readers room) declared_stmt) (reads class values_edges (values_readers room) stepped_stmt)) (look declares (reads class values_edges (values_readers more) declared_stmt) (reads class values_edges (values_readers more) stepped_stmt))
    opening_more = persists_look declares (part_persists class values_edges example (values_readers room) (values_readers more) values_more declared_stmt declared_stmt_decides) (part_persists class values_edges example (values_readers room) (values_readers more) values_more stepped_stmt stepped_stmt_decides)
        (declared_taken declared_stmt (declared_stmt_far room)) (stepped_taken stepped_stmt stepped_stmt_decides (stepped_stmt_far room))

    pub starting_more : Persists (look declares (reads class values_edges (values_readers room) declared_start) (reads class values_edges (values_readers room) stepped_start)) (look declares (reads class values_edges (values_readers more) declared_start) (reads class values_edges (values_readers more) stepped_start))
    starting_more = persists_look declares (part_persists class values_edges example (values_readers room) (values_readers more) values_more declared_start declared_start_decides) (part_persists class values_edges example (values_readers room) (values_readers more) values_more stepped_start stepped_start_decides)
        (declared_taken declared_start (declared_start_far room)) (stepped_taken stepped_start stepped_start_decides (stepped_start_far room))
