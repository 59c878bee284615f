-- Statements that are spelled are written with vectors of 2 to 4 components and numbers below 2 ^ 64.
use Rattle.std.proofs.Common.{◌≡◌, ℕ, zero, suc, Bool, true, false, cond, List, [], ◌∷◌, ◌++◌, Option, Some, None, inl, inr, refl, sym, ap, ◌∙◌, subst}
use Rattle.std.specs.Prelude.{◌&&◌, ◌==◌}
use Rattle.wg_facts.proofs.Basics.{both}
use Rattle.wg_grammar.specs.Spans.{Seq, None_of, Leaf, ◌or◌}
use Rattle.wg_grammar.specs.Productions.{Production, give, list, sub, ◌<*>◌, ◌<$>◌, ◌<*◌, ◌*>◌, ◌<|>◌, Rules, of, spells}
use Rattle.wg_limits.specs.Vectors.{type_written, maybe_written, step_written, steps_written, declarators_written, declaration_written, start_written, stmt_written_step, stmt_written, body_written}
use Rattle.wg_spelled.specs.Numbers.{AllFit}
use Rattle.wg_spelled.proofs.Yields.{Yields, Any, or_yields, leaf_yields, Y, y_token, y_give, y_either, y_list, RulesYield, y_any, y_map, y_skip, y_keep, y_two, y_three, y_four, Maybe, y_optional}
use Rattle.wg_spelled.proofs.Exprs.{W, type_token, expr_is}
use Rattle.wg_tokens.specs.Classes.{NAME, of_word, class}
use Rattle.wg_tokens.specs.declared.keyword.Keyword.TheVariants as k
use Rattle.wg_tokens.specs.declared.mark.Mark.TheVariants as sign
use Rattle.wg_tokens.specs.declared.token.Token.{Token}
use Rattle.wg_words.specs.declared.place.Place.{Place}
use Rattle.wg_typing.specs.TypingStep.{all_steps, maybe_steps}
use Rattle.wg_tree.specs.Depths.{Depth, in_statement}
use Rattle.wg_tree.specs.GrammarExpr.{full, constant, argument, value_type_of, placed_name, mark, word, name, one_of, classes, Phrase}
use Rattle.wg_tree.specs.GrammarStmt.{type_classes, type_of, type_argument, a_type, size_of, attribute, start_value, declarator, next_declarator, declaration, const_declaration, assign_operators, assign_operator, step_operators, step_operator_of, step_rest, a_step, next_step, steps, Values, value, const, Value, declared_stmt, stepped_stmt, declared_start, stepped_start, StmtHole, a_value, a_const, an_argument, opening, starting, HoleTree, Head, if_head, while_head, for_head, value_part, const_part, some_value, empty_stmt, const_stmt, object, record_objects, handle_objects, handle_stmt, break_stmt, continue_stmt, return_stmt, unended, ended_stmt, basic, condition, first_start, some_steps, header, if_head_part, while_head_part, for_head_part, head, is_open, finish, values_rules, hole_rules, unbraced, Inside, statement, Insides, as_block, Deeper, stmt, block, body, deeper_at}
use Rattle.wg_tree.specs.declared.expr.Expr.{Expr}
use Rattle.wg_tree.specs.declared.expr.TypeName.{TypeName}
use Rattle.wg_tree.specs.declared.expr.TypeName.TheVariants as type_name
use Rattle.wg_tree.specs.declared.stmt.Attribute.{Attribute}
use Rattle.wg_tree.specs.declared.stmt.Declaration.{Declaration}
use Rattle.wg_tree.specs.declared.stmt.Declarator.{Declarator}
use Rattle.wg_tree.specs.declared.stmt.Header.{Header}
use Rattle.wg_tree.specs.declared.stmt.Start.{Start}
use Rattle.wg_tree.specs.declared.stmt.Start.TheVariants as start
use Rattle.wg_tree.specs.declared.stmt.Step.{Step}
use Rattle.wg_tree.specs.declared.stmt.Step.TheVariants as step
use Rattle.wg_tree.specs.declared.stmt.Steps.{Steps}
use Rattle.wg_tree.specs.declared.stmt.Stmt.{Stmt, roll-Stmt, fold-roll-Stmt, map-Stmt}
use Rattle.wg_tree.specs.declared.stmt.Stmt.TheVariants as s
use Rattle.wg_tree.specs.declared.stmt.Stmt.TheOpen.{Stmt-F}

-- ---- what holds of parts

abbrev pub WT : TypeName → Type 0
WT of = type_written of ≡ true

abbrev WD : Declarator → Type 0
WD d = maybe_written d.value ≡ true

abbrev AllD : List Declarator → Type 0
AllD ds = declarators_written ds ≡ true

abbrev WDeclared : Declaration → Type 0
WDeclared d = declaration_written d ≡ true

abbrev WStep : Step → Type 0
WStep x = step_written x ≡ true

abbrev AllSteps : List Step → Type 0
AllSteps xs = steps_written xs ≡ true

abbrev WSteps : Steps → Type 0
WSteps x = steps_written (all_steps x) ≡ true

abbrev WStart : Start → Type 0
WStart x = start_written (Some x) ≡ true

abbrev WS : Stmt → Type 0
WS x = stmt_written x ≡ true

abbrev AllS : List Stmt → Type 0
AllS xs = body_written xs ≡ true

abbrev pub WB : Place × List Stmt → Type 0
WB p = AllS p.1

abbrev WHeader : Header → Type 0
WHeader h = (start_written h.start && (maybe_written h.test && steps_written (maybe_steps h.steps))) ≡ true

abbrev WHead : Head → Type 0
WHead (if_head attributes place test) = W test
WHead (while_head attributes place test) = W test
WHead (for_head attributes place h) = WHeader h

type_is : (t : Token) → WT (type_of t)
type_is t = by_name (class t == NAME)
  where
    by_name : (b : Bool) → WT (cond b (type_name.Struct (placed_name t)) (type_name.Value t.place (value_type_of t)))
    by_name true = refl
    by_name false = type_token t

of_layer : (z : Stmt-F Stmt) (x : Stmt) → roll-Stmt z ≡ x → stmt_written_step (map-Stmt Stmt Bool stmt_written z) ≡ true → WS x
of_layer z x e h = ap stmt_written (sym e) ∙ fold-roll-Stmt Bool stmt_written_step z ∙ h

-- ---- parts that hold expressions

module _ {N : Type 0} {Of : N → Type 0} (R : Rules Token Depth N Of) (S : (n : N) → Of n → Type 0) (rules : RulesYield R S) where
  any : {X : Type 0} (p : Production Token N Of X) → Y R p Any
  any p = y_any R S rules p

  pub y_type : Y R a_type WT
  y_type = y_token R false type_classes type_of WT (λ t h. type_is t)

  pub y_type_argument : Y R type_argument WT
  y_type_argument = y_keep R WT (mark sign.Less *> a_type) (mark sign.Greater) (y_skip R WT (mark sign.Less) a_type (any (mark sign.Less)) y_type) (any (mark sign.Greater))

  there : (o : Option Expr) → Maybe R W o → maybe_written o ≡ true
  there None h = refl
  there (Some x) h = h

  module _ (v c : Production Token N Of Expr) (yv : Y R v W) where
    y_declarator : Y R (declarator v c) WD
    y_declarator = y_three R Any Any (Maybe R W) WD (λ name size value. record { name = name; size = size; value = value }) name (size_of c) (start_value v c) (λ n u z w o h. there o h) (any name) (any (size_of c))
        (y_optional R W (mark sign.Assign *> v) (y_skip R W (mark sign.Assign) v (any (mark sign.Assign)) yv))

    y_rest : Y R (list (next_declarator v c)) AllD
    y_rest = y_list R WD AllD (next_declarator v c) (y_skip R WD (mark sign.Comma) (declarator v c) (any (mark sign.Comma)) y_declarator) refl (λ x xs h i. both h i)

    pub y_declaration : Y R (declaration v c) WDeclared
    y_declaration = y_three R WT WD AllD WDeclared (λ of first rest. record { constant = None; of = of; first = first; rest = rest }) a_type (declarator v c) (list (next_declarator v c)) (λ of h d i ds j. both h (both i j)) y_type y_declarator y_rest

    pub y_const : Y R (const_declaration v c) WDeclared
    y_const = y_four R Any WT WD AllD WDeclared (λ place of first rest. record { constant = Some place; of = of; first = first; rest = rest }) (word k.Const) a_type (declarator v c) (list (next_declarator v c)) (λ p u of h d i ds j. both h (both i j)) (any (word k.Const)) y_type y_declarator y_rest

  module _ (v : Production Token N Of Expr) (yv : Y R v W) where
    abbrev WR : (Expr → Step) → Type 0
    WR g = (x : Expr) → W x → WStep (g x)

    y_step_rest : Y R (step_rest v) WR
    y_step_rest = y_either R WR ((λ t value target. step.Assign target (assign_operator t) t.place value) <$> one_of (classes assign_operators) <*> v)
        (((λ t target. step.After target (step_operator_of t) t.place) <$> one_of (classes step_operators)) <|> give (λ value. step.Evaluate value))
        (y_two R Any W WR (λ t value target. step.Assign target (assign_operator t) t.place value) (one_of (classes assign_operators)) v (λ t u x h y i. both i h) (any (one_of (classes assign_operators))) yv)
        (y_either R WR ((λ t target. step.After target (step_operator_of t) t.place) <$> one_of (classes step_operators)) (give (λ value. step.Evaluate value))
        (y_map R Any WR (λ t target. step.After target (step_operator_of t) t.place) (one_of (classes step_operators)) (λ t u x h. h) (any (one_of (classes step_operators)))) (y_give R (λ value. step.Evaluate value) WR (λ x h. h)))

    pub y_step : Y R (a_step v) WStep
    y_step = y_either R WStep ((λ x rest. rest x) <$> v <*> step_rest v) ((λ t target. step.Before t.place (step_operator_of t) target) <$> one_of (classes step_operators) <*> v)
        (y_two R W WR WStep (λ x rest. rest x) v (step_rest v) (λ x h g i. i x h) yv y_step_rest)
        (y_two R Any W WStep (λ t target. step.Before t.place (step_operator_of t) target) (one_of (classes step_operators)) v (λ t u x h. h) (any (one_of (classes step_operators))) yv)

    pub y_steps : Y R (steps v) WSteps
    y_steps = y_two R WStep AllSteps WSteps (λ first rest. record { first = first; rest = rest }) (a_step v) (list (next_step v)) (λ x h xs i. both h i) y_step
        (y_list R WStep AllSteps (next_step v) (y_skip R WStep (mark sign.Comma) (a_step v) (any (mark sign.Comma)) y_step) refl (λ x xs h i. both h i))

-- ---- statements up to their bodies

module _ (room : ℕ) (d : Depth) where
  abbrev V : Rules Token Depth Values Value
  V = values_rules room d

  value_rules : RulesYield V (λ n x. W x)
  value_rules value = expr_is full room d
  value_rules const = expr_is constant room d

  abbrev HoleIs : (n : StmtHole) → HoleTree n → Type 0
  HoleIs a_value x = W x
  HoleIs a_const x = W x
  HoleIs an_argument x = W x
  HoleIs opening x = WS x
  HoleIs starting x = WStart x

  declared_is : (x : Declaration) → WDeclared x → WS (s.Declare x)
  declared_is x h = of_layer (Stmt-F.Declare x) (s.Declare x) (s.rolls-Declare x) h

  abbrev H : Rules Token Depth StmtHole HoleTree
  H = hole_rules room d

  holes : RulesYield H HoleIs
  holes a_value = expr_is full room d
  holes a_const = expr_is constant room d
  holes an_argument = expr_is argument room d
  holes opening = or_yields (spells class V declared_stmt) (spells class V stepped_stmt) WS
      (y_map V WDeclared WS (λ x. s.Declare x) (declaration (sub value) (sub const)) declared_is (y_declaration V (λ n x. W x) value_rules (sub value) (sub const) (value_rules value)))
      (y_map V WStep WS (λ x. s.Step x) (a_step (sub value)) (λ x h. of_layer (Stmt-F.Step x) (s.Step x) (s.rolls-Step x) h) (y_step V (λ n x. W x) value_rules (sub value) (value_rules value)))
  holes starting = or_yields (spells class V declared_start) (spells class V stepped_start) WStart
      (y_map V WDeclared WStart (λ x. start.Declare x) (declaration (sub value) (sub const)) (λ x h. h) (y_declaration V (λ n x. W x) value_rules (sub value) (sub const) (value_rules value)))
      (y_map V WSteps WStart (λ x. start.Steps x) (steps (sub value)) (λ x h. h) (y_steps V (λ n x. W x) value_rules (sub value) (value_rules value)))

  all_any : {X : Type 0} (p : Production Token StmtHole HoleTree X) → Y H p Any
  all_any p = y_any H HoleIs holes p

  y_const_declaration : Y H (const_declaration value_part const_part) WDeclared
  y_const_declaration = y_const H HoleIs holes value_part const_part (holes a_value)

  y_handle : Y H handle_stmt WS
  y_handle = y_three H Any Any W WS (λ of name value. s.Handle of name value) (object (record_objects ++ handle_objects)) name (mark sign.Assign *> value_part)
      (λ of u n v x h. of_layer (Stmt-F.Handle of n x) (s.Handle of n x) (s.rolls-Handle of n x) h) (all_any (object (record_objects ++ handle_objects))) (all_any name) (y_skip H W (mark sign.Assign) value_part (all_any (mark sign.Assign)) (holes a_value))

  y_some_value : Y H some_value (Maybe H W)
  y_some_value = y_optional H W value_part (holes a_value)

  returned_is : (place : Place) (o : Option Expr) → Maybe H W o → WS (s.Return place o)
  returned_is place o h = of_layer (Stmt-F.Return place o) (s.Return place o) (s.rolls-Return place o) (there H HoleIs holes o h)

  y_basic : Y H basic WS
  y_basic = y_either H WS empty_stmt ended_stmt (y_map H Any WS (λ place. s.Empty place) (mark sign.Semicolon) (λ p u. of_layer (Stmt-F.Empty p) (s.Empty p) (s.rolls-Empty p) refl) (all_any (mark sign.Semicolon)))
      (y_keep H WS unended (mark sign.Semicolon)
      (y_either H WS const_stmt (sub opening <|> handle_stmt <|> break_stmt <|> continue_stmt <|> return_stmt) (y_map H WDeclared WS (λ x. s.Declare x) (const_declaration value_part const_part) declared_is y_const_declaration)
      (y_either H WS (sub opening) (handle_stmt <|> break_stmt <|> continue_stmt <|> return_stmt) (holes opening)
      (y_either H WS handle_stmt (break_stmt <|> continue_stmt <|> return_stmt) y_handle
      (y_either H WS break_stmt (continue_stmt <|> return_stmt) (y_map H Any WS (λ place. s.Break place) (word k.Break) (λ p u. of_layer (Stmt-F.Break p) (s.Break p) (s.rolls-Break p) refl) (all_any (word k.Break)))
      (y_either H WS continue_stmt return_stmt (y_map H Any WS (λ place. s.Continue place) (word k.Continue) (λ p u. of_layer (Stmt-F.Continue p) (s.Continue p) (s.rolls-Continue p) refl) (all_any (word k.Continue)))
      (y_two H Any (Maybe H W) WS (λ place value. s.Return place value) (word k.Return) some_value (λ p u o h. returned_is p o h) (all_any (word k.Return)) y_some_value))))))
      (all_any (mark sign.Semicolon)))

  y_condition : Y H condition W
  y_condition = y_keep H W (mark sign.LeftParen *> value_part) (mark sign.RightParen) (y_skip H W (mark sign.LeftParen) value_part (all_any (mark sign.LeftParen)) (holes a_value)) (all_any (mark sign.RightParen))

  y_first : Y H first_start (Maybe H WStart)
  y_first = y_optional H WStart (((λ x. start.Declare x) <$> const_declaration value_part const_part) <|> sub starting)
      (y_either H WStart ((λ x. start.Declare x) <$> const_declaration value_part const_part) (sub starting) (y_map H WDeclared WStart (λ x. start.Declare x) (const_declaration value_part const_part) (λ x h. h) y_const_declaration) (holes starting))

  start_there : (o : Option Start) → Maybe H WStart o → start_written o ≡ true
  start_there None h = refl
  start_there (Some x) h = h

  steps_there : (o : Option Steps) → Maybe H WSteps o → steps_written (maybe_steps o) ≡ true
  steps_there None h = refl
  steps_there (Some x) h = h

  y_header : Y H header WHeader
  y_header = y_three H (Maybe H WStart) (Maybe H W) (Maybe H WSteps) WHeader (λ start test steps. record { start = start; test = test; steps = steps })
      (mark sign.LeftParen *> first_start) (mark sign.Semicolon *> some_value) (mark sign.Semicolon *> some_steps <* mark sign.RightParen)
      (λ a h b i c j. both (start_there a h) (both (there H HoleIs holes b i) (steps_there c j)))
      (y_skip H (Maybe H WStart) (mark sign.LeftParen) first_start (all_any (mark sign.LeftParen)) y_first)
      (y_skip H (Maybe H W) (mark sign.Semicolon) some_value (all_any (mark sign.Semicolon)) y_some_value)
      (y_keep H (Maybe H WSteps) (mark sign.Semicolon *> some_steps) (mark sign.RightParen) (y_skip H (Maybe H WSteps) (mark sign.Semicolon) some_steps (all_any (mark sign.Semicolon)) (y_optional H WSteps (steps value_part) (y_steps H HoleIs holes value_part (holes a_value)))) (all_any (mark sign.RightParen)))

  abbrev WMake : (List Attribute → Head) → Type 0
  WMake g = (attributes : List Attribute) → WHead (g attributes)

  y_head : Y H head WHead
  y_head = y_two H Any WMake WHead (λ (attributes : List Attribute) (make : List Attribute → Head). make attributes) (list (attribute (sub an_argument))) (if_head_part <|> while_head_part <|> for_head_part) (λ attributes u make h. h attributes) (all_any (list (attribute (sub an_argument))))
      (y_either H WMake if_head_part (while_head_part <|> for_head_part) (y_two H Any W WMake (λ place test attributes. if_head attributes place test) (word k.If) condition (λ p u x h attributes. h) (all_any (word k.If)) y_condition)
      (y_either H WMake while_head_part for_head_part (y_two H Any W WMake (λ place test attributes. while_head attributes place test) (word k.While) condition (λ p u x h attributes. h) (all_any (word k.While)) y_condition)
      (y_two H Any WHeader WMake (λ place h attributes. for_head attributes place h) (word k.For) header (λ p u x h attributes. h) (all_any (word k.For)) y_header)))

  -- ---- bodies

  header_apart : (a b c v : Bool) → (a && (b && c)) ≡ true → v ≡ true → (a && (b && (c && v))) ≡ true
  header_apart true true true v h i = i
  header_apart true true false v h i = absurd (cc)
  header_apart true false c v h i = absurd (cc)
  header_apart false b c v h i = absurd (cc)

  finish_yields : (b : Phrase Stmt) → Yields b WS → (at : Depth) (h : Head) → WHead h → Yields (finish b at h) WS
  finish_yields b yb at (if_head attributes place test) h x i r f a = by_else (yb a.0 i a.1 f a.2) a.3
    where
      by_else : WS a.0 × AllFit a.1 → ((None_of (s.If attributes place test a.0 None))
          or (λ x i r. (is_open a.0 ≡ false) × Seq (Leaf (of class (of_word k.Else ∷ [])) (λ t. t.place) at) (λ p. Seq b (λ other. None_of (s.If attributes place test a.0 (Some other)))) x i r)) x a.1 r → WS x × AllFit r
      by_else c (inl e) = (subst WS (sym e.0) (of_layer (Stmt-F.If attributes place test a.0 None) (s.If attributes place test a.0 None) (s.rolls-If attributes place test a.0 None) (both h (both c.0 refl))), subst AllFit e.1 c.1)
      by_else c (inr e) =
          let l = leaf_yields (of class (of_word k.Else ∷ [])) (λ t. t.place) at Any (λ t u. tt) e.1.0 a.1 e.1.1 c.1 e.1.2 in
          let o = yb e.1.3.0 e.1.1 e.1.3.1 l.1 e.1.3.2 in
          (subst WS (sym e.1.3.3.0) (of_layer (Stmt-F.If attributes place test a.0 (Some e.1.3.0)) (s.If attributes place test a.0 (Some e.1.3.0)) (s.rolls-If attributes place test a.0 (Some e.1.3.0)) (both h (both c.0 o.0))), subst AllFit e.1.3.3.1 o.1)
  finish_yields b yb at (while_head attributes place test) h x i r f a =
      let c = yb a.0 i a.1 f a.2 in
      (subst WS (sym a.3.0) (of_layer (Stmt-F.While attributes place test a.0) (s.While attributes place test a.0) (s.rolls-While attributes place test a.0) (both h c.0)), subst AllFit a.3.1 c.1)
  finish_yields b yb at (for_head attributes place g) h x i r f a =
      let c = yb a.0 i a.1 f a.2 in
      (subst WS (sym a.3.0) (of_layer (Stmt-F.For attributes place g a.0) (s.For attributes place g a.0) (s.rolls-For attributes place g a.0) (header_apart (start_written g.start) (maybe_written g.test) (steps_written (maybe_steps g.steps)) (stmt_written a.0) h c.0)), subst AllFit a.3.1 c.1)

  unbraced_yields : (b : Phrase Stmt) → Yields b WS → Yields (unbraced room d b) WS
  unbraced_yields b yb x i r f (inl a) = let c = y_head a.0 i a.1 f a.2 in finish_yields b yb d a.0 c.0 x a.1 r c.1 a.3
  unbraced_yields b yb x i r f (inr a) = y_basic x i r f a

-- ---- at a depth

block_yields : (P : Phrase (Place × List Stmt)) → Yields P WB → Yields (as_block P) WS
block_yields P h x i r f a =
    let c = h a.0 i a.1 f a.2 in
    (subst WS (sym a.3.0) (of_layer (Stmt-F.Block a.0.0 a.0.1) (s.Block a.0.0 a.0.1) (s.rolls-Block a.0.0 a.0.1) c.0), subst AllFit a.3.1 c.1)

pub record DeeperYields (inner : Deeper) : Type 0 where
  pub block : Yields inner.block WB
  pub body : Yields inner.body WS

module _ (room : ℕ) (d : Depth) (inner : Deeper) (h : DeeperYields inner) where
  stmt_yields : Yields (stmt room d inner) WS
  stmt_yields = or_yields (as_block inner.block) (unbraced room d inner.body) WS (block_yields inner.block h.block) (unbraced_yields room d inner.body h.body)

  abbrev I : Rules Token Depth Inside Insides
  I = record { room = true; here = d; below = d; rule = λ n. stmt room d inner }

  insides : RulesYield I (λ n x. WS x)
  insides n = stmt_yields

  own_block : Yields (block room d inner) WB
  own_block = y_keep I WB ((λ place body. (place, body)) <$> mark sign.LeftBrace <*> list (sub statement)) (mark sign.RightBrace)
      (y_two I Any AllS WB (λ place body. (place, body)) (mark sign.LeftBrace) (list (sub statement)) (λ p u xs h. h) (y_any I (λ n x. WS x) insides (mark sign.LeftBrace)) (y_list I WS AllS (sub statement) (insides statement) refl (λ x xs h i. both h i)))
      (y_any I (λ n x. WS x) insides (mark sign.RightBrace))

  own_body : Yields (body room d inner) WS
  own_body = or_yields (as_block (block room d inner)) (unbraced room d inner.body) WS (block_yields (block room d inner) own_block) (unbraced_yields room d inner.body h.body)

pub deeper_yields : (room depth : ℕ) (d : Depth) → DeeperYields (deeper_at room depth d)
deeper_yields room zero d = record { block = λ x i r f a. absurd a; body = λ x i r f a. absurd a }
deeper_yields room (suc depth) d =
    let inner = deeper_yields room depth (in_statement d) in
    record { block = own_block room (in_statement d) (deeper_at room depth (in_statement d)) inner; body = own_body room (in_statement d) (deeper_at room depth (in_statement d)) inner }
