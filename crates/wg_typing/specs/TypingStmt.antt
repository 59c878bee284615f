-- The typed form of a statement, its sites, and the context after it: a fold over one layer of the tree (HLSL Shader Model 6.8, statements).
use Rattle.std.specs.Prelude.{false, List, [], ◌∷◌, Option, Some, None, Bool, true, ◌&&◌}
use Rattle.wg_words.specs.declared.place.Place.{Place}
use Rattle.wg_words.specs.Maybe.{◌>>=◌}
use Rattle.wg_typing.specs.Maybe.{where_true, if_there}
use Rattle.wg_typing.specs.Conversions.{truth_type}
use Rattle.wg_typing.specs.Scope.{Context, enter, enter_loop, leave}
use Rattle.wg_typing.specs.TypingExpr.{part}
use Rattle.wg_typed.specs.declared.types.TypeTree.{TypeTree}
use Rattle.wg_typing.specs.TypingAttributes.{attributes_of, attribute_sites}
use Rattle.wg_typing.specs.Sites.{Sites, nowhere, only, ◌&◌, within}
use Rattle.wg_typing.specs.Site.{Site, AtReturn, AtJump}
use Rattle.wg_typing.specs.TypingDeclared.{fit_in, condition_sites, wanted_sites}
use Rattle.wg_typing.specs.TypingStep.{step_did, step_sites, step_stmt, header_trees, header_sites, maybe_steps}
use Rattle.wg_typing.specs.TypingDeclaration.{declaration_after, declaration_sites, declaration_trees}
use Rattle.wg_typing.specs.TypingHandle.{handle_request, handle_sites, request_stmt, handle_after}
use Rattle.wg_typing.specs.TypingLoop.{start_sites, start_tree, test_sites, in_header}
use Rattle.wg_tree.specs.declared.expr.Expr.{Expr}
use Rattle.wg_tree.specs.declared.stmt.Attribute.{Attribute}
use Rattle.wg_tree.specs.declared.stmt.Header.{Header}
use Rattle.wg_tree.specs.declared.stmt.Stmt.{Stmt, fold-Stmt}
use Rattle.wg_tree.specs.declared.stmt.Stmt.TheOpen.{Stmt-F}
use Rattle.wg_typed.specs.declared.typed_stmt.TypedStmt.{TypedStmt}
use Rattle.wg_typed.specs.declared.typed_stmt.TypedStmt.TheVariants as t
use Rattle.wg_typing.specs.declared.context.GivesBack.{GivesBack}
use Rattle.wg_typing.specs.declared.event.Region.{Region}
use Rattle.wg_typing.specs.declared.context.GivesBack.TheVariants as gives_back
use Rattle.wg_typing.specs.declared.event.Region.TheVariants as region

-- what a statement does in its context: whether it is a block, the context after it, its sites, and its typed form if it has one
pub record Walked : Type 0 where
  pub block : Bool
  pub after : Context
  pub sites : Sites Site
  pub tree : Option TypedStmt

abbrev pub Walk : Type 0
Walk = Context → Walked

abbrev pub block_after : List Walk → Context → Context
block_after [] c = c
block_after (w ∷ rest) c = block_after rest (w c).after

abbrev pub block_sites : List Walk → Context → Sites Site
block_sites [] c = nowhere
block_sites (w ∷ rest) c = (w c).sites & block_sites rest (w c).after

abbrev pub block_trees : List Walk → Context → Option (List TypedStmt)
block_trees [] c = Some []
block_trees (w ∷ rest) c = do
  first ← (w c).tree
  others ← block_trees rest (w c).after
  Some (first ∷ others)

-- a branch in a scope of its own, and the context after it
abbrev pub branch_after : Walk → Context → Context
branch_after w c = leave c (w (enter c)).after

abbrev pub else_after : Option Walk → Context → Context
else_after None c = c
else_after (Some w) c = branch_after w c

abbrev pub else_sites : Option Walk → Context → Sites Site
else_sites None c = nowhere
else_sites (Some w) c = (w (enter c)).sites

abbrev pub tree_in : Context → Walk → Option TypedStmt
tree_in c w = (w c).tree

abbrev pub stmt_after : Stmt-F Walk → Context → Context
stmt_after (Stmt-F.Block place body) c = leave c (block_after body (enter c))
stmt_after (Stmt-F.Empty place) c = c
stmt_after (Stmt-F.Declare d) c = declaration_after d c
stmt_after (Stmt-F.Handle of name e) c = handle_after of name e c
stmt_after (Stmt-F.Step s) c = c
stmt_after (Stmt-F.Break place) c = c
stmt_after (Stmt-F.Continue place) c = c
stmt_after (Stmt-F.Return place e) c = c
stmt_after (Stmt-F.If attributes place test first other) c = else_after other (branch_after first c)
stmt_after (Stmt-F.While attributes place test body) c = leave c (body (enter_loop c)).after
stmt_after (Stmt-F.For attributes place h body) c = leave c (body (enter_loop (in_header h c))).after

abbrev pub given_type : GivesBack → Option TypeTree
given_type gives_back.Nothing = None
given_type (gives_back.Value of) = Some of
given_type gives_back.Unsure = None

abbrev pub returned_sites : Context → Place → Option Expr → Sites Site
returned_sites c place None = only (AtReturn c.returns place None)
returned_sites c place (Some e) = wanted_sites c (given_type c.returns) e & only (AtReturn c.returns place (Some (part c e)))

abbrev pub is_block : Stmt-F Walk → Bool
is_block (Stmt-F.Block place body) = true
is_block (Stmt-F.Empty place) = false
is_block (Stmt-F.Declare d) = false
is_block (Stmt-F.Handle of name e) = false
is_block (Stmt-F.Step s) = false
is_block (Stmt-F.Break place) = false
is_block (Stmt-F.Continue place) = false
is_block (Stmt-F.Return place e) = false
is_block (Stmt-F.If attributes place test first other) = false
is_block (Stmt-F.While attributes place test body) = false
is_block (Stmt-F.For attributes place h body) = false

abbrev pub else_is_block : Option Walk → Context → Bool
else_is_block None c = true
else_is_block (Some w) c = (w (enter c)).block

-- the branches of an `if`
abbrev pub branches : Context → Expr → Walk → Option Walk → Region
branches c test first other = region.Branch (fit_in c truth_type test) ((first (enter c)).block && else_is_block other (branch_after first c))

abbrev pub stmt_sites : Stmt-F Walk → Context → Sites Site
stmt_sites (Stmt-F.Block place body) c = within region.Block (block_sites body (enter c))
stmt_sites (Stmt-F.Empty place) c = nowhere
stmt_sites (Stmt-F.Declare d) c = declaration_sites d c
stmt_sites (Stmt-F.Handle of name e) c = handle_sites of name e c
stmt_sites (Stmt-F.Step s) c = step_sites c false s
stmt_sites (Stmt-F.Break place) c = only (AtJump c.looped place)
stmt_sites (Stmt-F.Continue place) c = only (AtJump c.looped place)
stmt_sites (Stmt-F.Return place e) c = returned_sites c place e
stmt_sites (Stmt-F.If attributes place test first other) c =
    attribute_sites c attributes & condition_sites c test & within (branches c test first other) ((first (enter c)).sites & else_sites other (branch_after first c))
stmt_sites (Stmt-F.While attributes place test body) c =
    attribute_sites c attributes & condition_sites c test & within region.Loop (body (enter_loop c)).sites
stmt_sites (Stmt-F.For attributes place h body) c =
    attribute_sites c attributes & within region.Block (start_sites h.start (enter c)) & test_sites (in_header h c) h.test
    & header_sites (in_header h c) (maybe_steps h.steps) & within region.Loop (body (enter_loop (in_header h c))).sites

-- the value that a function gives back
abbrev pub returned_tree : Context → GivesBack → Option Expr → Option TypedStmt
returned_tree c gives_back.Nothing None = Some (t.Return None)
returned_tree c gives_back.Nothing (Some e) = None
returned_tree c (gives_back.Value of) None = None
returned_tree c (gives_back.Value of) (Some e) = fit_in c of e >>= (λ v. Some (t.Return (Some v)))
returned_tree c gives_back.Unsure e = None

abbrev pub if_tree : Context → List Attribute → Expr → Walk → Option Walk → Option TypedStmt
if_tree c attributes test first other = do
  condition ← fit_in c truth_type test
  then_tree ← tree_in (enter c) first
  else_tree ← if_there (tree_in (enter (branch_after first c))) other
  Some (t.If (attributes_of c attributes) false condition then_tree else_tree)

abbrev pub while_tree : Context → List Attribute → Expr → Walk → Option TypedStmt
while_tree c attributes test body = do
  condition ← fit_in c truth_type test
  inner ← tree_in (enter_loop c) body
  Some (t.While (attributes_of c attributes) condition inner)

abbrev pub for_tree : Context → List Attribute → Header → Walk → Option TypedStmt
for_tree c attributes h body = do
  begin ← if_there (start_tree (enter c)) h.start
  condition ← if_there (fit_in (in_header h c) truth_type) h.test
  steps ← header_trees (in_header h c) (maybe_steps h.steps)
  inner ← tree_in (enter_loop (in_header h c)) body
  Some (t.For (attributes_of c attributes) begin condition steps inner)

-- The typed form of a statement whose parts have these; none where a part has none or a rule is broken.
abbrev pub stmt_tree : Stmt-F Walk → Context → Option TypedStmt
stmt_tree (Stmt-F.Block place body) c = block_trees body (enter c) >>= (λ body. Some (t.Block body))
stmt_tree (Stmt-F.Empty place) c = Some t.Empty
stmt_tree (Stmt-F.Declare d) c = declaration_trees d c >>= (λ d. Some (t.Declare d))
stmt_tree (Stmt-F.Handle of name e) c = handle_request c of e >>= (λ r. Some (request_stmt c r))
stmt_tree (Stmt-F.Step s) c = step_did c s >>= step_stmt c
stmt_tree (Stmt-F.Break place) c = where_true c.looped t.Break
stmt_tree (Stmt-F.Continue place) c = where_true c.looped t.Continue
stmt_tree (Stmt-F.Return place e) c = returned_tree c c.returns e
stmt_tree (Stmt-F.If attributes place test first other) c = if_tree c attributes test first other
stmt_tree (Stmt-F.While attributes place test body) c = while_tree c attributes test body
stmt_tree (Stmt-F.For attributes place h body) c = for_tree c attributes h body

abbrev pub stmt_walked : Stmt-F Walk → Walk
stmt_walked layer c = record { block = is_block layer; after = stmt_after layer c; sites = stmt_sites layer c; tree = stmt_tree layer c }

abbrev pub walked : Stmt → Walk
walked = fold-Stmt Walk stmt_walked
