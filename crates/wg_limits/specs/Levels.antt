-- How deep statements stand in one another, in a typed text and in its source: each block counts, and each body of an `if`, an `else` or a loop; a block
-- that is such a body counts once. Own.
use Rattle.std.specs.Prelude.{ℕ, suc, Bool, true, false, if◌then◌else◌, List, [], ◌∷◌, map}
use Rattle.wg_typing.specs.Maybe.{listed}
use Rattle.wg_limits.specs.Branches.{most}
use Rattle.wg_tree.specs.declared.item.Item.{Item}
use Rattle.wg_tree.specs.declared.item.Item.TheVariants as item
use Rattle.wg_tree.specs.declared.item.Source.{Source}
use Rattle.wg_tree.specs.declared.stmt.Stmt.{Stmt, fold-Stmt}
use Rattle.wg_tree.specs.declared.stmt.Stmt.TheOpen.{Stmt-F}
use Rattle.wg_typed.specs.declared.typed.Typed.{Typed}
use Rattle.wg_typed.specs.declared.typed.TypedFunction.{TypedFunction}
use Rattle.wg_typed.specs.declared.typed_stmt.TypedStmt.{TypedStmt}
use Rattle.wg_typed.specs.declared.typed_stmt.TypedStmt.TheFolds.{fold-TypedStmt}
use Rattle.wg_typed.specs.declared.typed_stmt.TypedStmt.TheOpen.{TypedStmt-F}

-- a statement: whether it is a block, and how deep the statements in it stand
pub record Level : Type 0 where
  pub block : Bool
  pub depth : ℕ

abbrev pub leaf : Level
leaf = record { block = false; depth = 0 }

abbrev pub depth_of : Level → ℕ
depth_of s = s.depth

-- as a body
abbrev pub body_depth : Level → ℕ
body_depth s = if s.block then s.depth else suc s.depth

abbrev pub block_of : List Level → Level
block_of body = record { block = true; depth = suc (most (map depth_of body)) }

-- a statement with these bodies
abbrev pub around : List Level → Level
around bodies = record { block = false; depth = most (map body_depth bodies) }

-- ---- the typed text

abbrev pub typed_step : TypedStmt-F Level → Level
typed_step (TypedStmt-F.Block body) = block_of body
typed_step TypedStmt-F.Empty = leaf
typed_step (TypedStmt-F.Declare declared) = leaf
typed_step (TypedStmt-F.Request handle group output element amount) = leaf
typed_step (TypedStmt-F.Increment group output element amount) = leaf
typed_step (TypedStmt-F.Complete handle) = leaf
typed_step (TypedStmt-F.Barrier syncs) = leaf
typed_step (TypedStmt-F.Step s) = leaf
typed_step TypedStmt-F.Break = leaf
typed_step TypedStmt-F.Continue = leaf
typed_step (TypedStmt-F.Return value) = leaf
typed_step (TypedStmt-F.If attributes collective test first other) = around (first ∷ listed other)
typed_step (TypedStmt-F.While attributes test body) = around (body ∷ [])
typed_step (TypedStmt-F.For attributes begin test steps body) = around (body ∷ [])

abbrev pub typed_level : TypedStmt → Level
typed_level = fold-TypedStmt Level typed_step

abbrev pub typed_depth : List TypedStmt → ℕ
typed_depth body = most (map depth_of (map typed_level body))

abbrev pub text_depth : Typed → ℕ
text_depth text = most (map (λ (f : TypedFunction). typed_depth f.body) text.functions)

-- ---- its source

abbrev pub source_step : Stmt-F Level → Level
source_step (Stmt-F.Block place body) = block_of body
source_step (Stmt-F.Empty place) = leaf
source_step (Stmt-F.Declare d) = leaf
source_step (Stmt-F.Handle of name e) = leaf
source_step (Stmt-F.Step s) = leaf
source_step (Stmt-F.Break place) = leaf
source_step (Stmt-F.Continue place) = leaf
source_step (Stmt-F.Return place e) = leaf
source_step (Stmt-F.If attributes place test first other) = around (first ∷ listed other)
source_step (Stmt-F.While attributes place test body) = around (body ∷ [])
source_step (Stmt-F.For attributes place h body) = around (body ∷ [])

abbrev pub source_level : Stmt → Level
source_level = fold-Stmt Level source_step

abbrev pub body_levels : List Stmt → ℕ
body_levels body = most (map depth_of (map source_level body))

abbrev pub item_depth : Item → ℕ
item_depth (item.Struct place attributes name fields) = 0
item_depth (item.Buffer coherent of name registers) = 0
item_depth (item.Shared place of name size) = 0
item_depth (item.Constant place of name e) = 0
item_depth (item.Function attributes result name parameters place body) = body_levels body

abbrev pub source_depth : Source → ℕ
source_depth tree = most (map item_depth tree.items)
