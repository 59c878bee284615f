-- What one layer of a typed statement is to where it stands.
use Rattle.std.proofs.Common.{◌≡◌, ℕ, Bool, List, map, Option, Some, None, sym, ap, ◌∙◌}
use Rattle.wg_typed.specs.Uniform.{UniformSetting}
use Rattle.wg_sound.specs.Placement.{Placed, stmt_placed, placed}
use Rattle.wg_typed.specs.declared.typed.TypedEntry.{TypedEntry}
use Rattle.wg_typed.specs.declared.typed_expr.TypedExpr.{TypedExpr}
use Rattle.wg_typed.specs.declared.typed_stmt.TypedAttribute.{TypedAttribute}
use Rattle.wg_typed.specs.declared.typed_stmt.TypedDeclarator.{TypedDeclarator}
use Rattle.wg_typed.specs.declared.typed_stmt.TypedStart.{TypedStart}
use Rattle.wg_typed.specs.declared.typed_stmt.TypedStep.{TypedStep}
use Rattle.wg_typed.specs.declared.typed_stmt.TypedStmt.{TypedStmt, fold-roll-TypedStmt}
use Rattle.wg_typed.specs.declared.typed_stmt.TypedStmt.TheVariants as t
use Rattle.wg_typed.specs.declared.typed_stmt.TypedStmt.TheOpen.{TypedStmt-F}

module _ (entry : Option TypedEntry) (u : UniformSetting) where
  abbrev pub others_placed : Option TypedStmt → Option Placed
  others_placed None = None
  others_placed (Some s) = Some (placed entry u s)

  pub placed_Block : (body : List TypedStmt) → placed entry u (t.Block body) ≡ stmt_placed entry u (TypedStmt-F.Block (map (placed entry u) body))
  placed_Block body = ap (placed entry u) (sym (t.rolls-Block body)) ∙ fold-roll-TypedStmt Placed (stmt_placed entry u) (TypedStmt-F.Block body)

  pub placed_Empty : placed entry u t.Empty ≡ stmt_placed entry u TypedStmt-F.Empty
  placed_Empty = ap (placed entry u) (sym t.rolls-Empty) ∙ fold-roll-TypedStmt Placed (stmt_placed entry u) TypedStmt-F.Empty

  pub placed_Declare : (ds : List TypedDeclarator) → placed entry u (t.Declare ds) ≡ stmt_placed entry u (TypedStmt-F.Declare ds)
  placed_Declare ds = ap (placed entry u) (sym (t.rolls-Declare ds)) ∙ fold-roll-TypedStmt Placed (stmt_placed entry u) (TypedStmt-F.Declare ds)

  pub placed_Request : (handle : ℕ) (group : Bool) (output : ℕ) (element : Option TypedExpr) (amount : TypedExpr) → placed entry u (t.Request handle group output element amount) ≡ stmt_placed entry u (TypedStmt-F.Request handle group output element amount)
  placed_Request handle group output element amount = ap (placed entry u) (sym (t.rolls-Request handle group output element amount)) ∙ fold-roll-TypedStmt Placed (stmt_placed entry u) (TypedStmt-F.Request handle group output element amount)

  pub placed_Increment : (group : Bool) (output : ℕ) (element : Option TypedExpr) (amount : TypedExpr) → placed entry u (t.Increment group output element amount) ≡ stmt_placed entry u (TypedStmt-F.Increment group output element amount)
  placed_Increment group output element amount = ap (placed entry u) (sym (t.rolls-Increment group output element amount)) ∙ fold-roll-TypedStmt Placed (stmt_placed entry u) (TypedStmt-F.Increment group output element amount)

  pub placed_Complete : (handle : ℕ) → placed entry u (t.Complete handle) ≡ stmt_placed entry u (TypedStmt-F.Complete handle)
  placed_Complete handle = ap (placed entry u) (sym (t.rolls-Complete handle)) ∙ fold-roll-TypedStmt Placed (stmt_placed entry u) (TypedStmt-F.Complete handle)

  pub placed_Barrier : (syncs : Bool) → placed entry u (t.Barrier syncs) ≡ stmt_placed entry u (TypedStmt-F.Barrier syncs)
  placed_Barrier syncs = ap (placed entry u) (sym (t.rolls-Barrier syncs)) ∙ fold-roll-TypedStmt Placed (stmt_placed entry u) (TypedStmt-F.Barrier syncs)

  pub placed_Step : (s : TypedStep) → placed entry u (t.Step s) ≡ stmt_placed entry u (TypedStmt-F.Step s)
  placed_Step s = ap (placed entry u) (sym (t.rolls-Step s)) ∙ fold-roll-TypedStmt Placed (stmt_placed entry u) (TypedStmt-F.Step s)

  pub placed_Break : placed entry u t.Break ≡ stmt_placed entry u TypedStmt-F.Break
  placed_Break = ap (placed entry u) (sym t.rolls-Break) ∙ fold-roll-TypedStmt Placed (stmt_placed entry u) TypedStmt-F.Break

  pub placed_Continue : placed entry u t.Continue ≡ stmt_placed entry u TypedStmt-F.Continue
  placed_Continue = ap (placed entry u) (sym t.rolls-Continue) ∙ fold-roll-TypedStmt Placed (stmt_placed entry u) TypedStmt-F.Continue

  pub placed_Return : (v : Option TypedExpr) → placed entry u (t.Return v) ≡ stmt_placed entry u (TypedStmt-F.Return v)
  placed_Return v = ap (placed entry u) (sym (t.rolls-Return v)) ∙ fold-roll-TypedStmt Placed (stmt_placed entry u) (TypedStmt-F.Return v)

  pub placed_If : (attributes : List TypedAttribute) (marked : Bool) (c : TypedExpr) (first : TypedStmt) (other : Option TypedStmt) → placed entry u (t.If attributes marked c first other) ≡ stmt_placed entry u (TypedStmt-F.If attributes marked c (placed entry u first) (others_placed other))
  placed_If attributes marked c first None = ap (placed entry u) (sym (t.rolls-If attributes marked c first None)) ∙ fold-roll-TypedStmt Placed (stmt_placed entry u) (TypedStmt-F.If attributes marked c first None)
  placed_If attributes marked c first (Some other) = ap (placed entry u) (sym (t.rolls-If attributes marked c first (Some other))) ∙ fold-roll-TypedStmt Placed (stmt_placed entry u) (TypedStmt-F.If attributes marked c first (Some other))

  pub placed_While : (attributes : List TypedAttribute) (c : TypedExpr) (body : TypedStmt) → placed entry u (t.While attributes c body) ≡ stmt_placed entry u (TypedStmt-F.While attributes c (placed entry u body))
  placed_While attributes c body = ap (placed entry u) (sym (t.rolls-While attributes c body)) ∙ fold-roll-TypedStmt Placed (stmt_placed entry u) (TypedStmt-F.While attributes c body)

  pub placed_For : (attributes : List TypedAttribute) (begin : Option TypedStart) (c : Option TypedExpr) (steps : List TypedStep) (body : TypedStmt) → placed entry u (t.For attributes begin c steps body) ≡ stmt_placed entry u (TypedStmt-F.For attributes begin c steps (placed entry u body))
  placed_For attributes begin c steps body = ap (placed entry u) (sym (t.rolls-For attributes begin c steps body)) ∙ fold-roll-TypedStmt Placed (stmt_placed entry u) (TypedStmt-F.For attributes begin c steps body)
