-- What one layer of a typed statement shows.
use Rattle.std.proofs.Common.{◌≡◌, ℕ, Bool, true, List, map, Option, Some, None, sym, ap, ◌∙◌}
use Rattle.wg_sound.specs.Room.{Room}
use Rattle.wg_sound.specs.SoundStmt.{stmt_step, stmt_sound}
use Rattle.wg_typed.specs.declared.typed_expr.TypedExpr.{TypedExpr}
use Rattle.wg_typed.specs.declared.typed_stmt.TypedAttribute.{TypedAttribute}
use Rattle.wg_typed.specs.declared.typed_stmt.TypedDeclarator.{TypedDeclarator}
use Rattle.wg_typed.specs.declared.typed_stmt.TypedStart.{TypedStart}
use Rattle.wg_typed.specs.declared.typed_stmt.TypedStep.{TypedStep}
use Rattle.wg_typed.specs.declared.typed_stmt.TypedStmt.{TypedStmt, fold-roll-TypedStmt}
use Rattle.wg_typed.specs.declared.typed_stmt.TypedStmt.TheVariants as t
use Rattle.wg_typed.specs.declared.typed_stmt.TypedStmt.TheOpen.{TypedStmt-F}

module _ (room : Room) where
  -- sound in a loop or not
  abbrev pub StmtIs : Bool → TypedStmt → Type 0
  StmtIs looped s = stmt_sound room s looped ≡ true

  pub does : (s : TypedStmt) (h : Bool → Bool) (looped : Bool) → stmt_sound room s ≡ h → h looped ≡ true → StmtIs looped s
  does s h looped e k = ap (λ (f : Bool → Bool). f looped) e ∙ k

  pub sound_Block : (body : List TypedStmt) → stmt_sound room (t.Block body) ≡ stmt_step room (TypedStmt-F.Block (map (stmt_sound room) body))
  sound_Block body = ap (stmt_sound room) (sym (t.rolls-Block body)) ∙ fold-roll-TypedStmt (Bool → Bool) (stmt_step room) (TypedStmt-F.Block body)

  pub sound_Empty : stmt_sound room (t.Empty) ≡ stmt_step room (TypedStmt-F.Empty)
  sound_Empty = ap (stmt_sound room) (sym (t.rolls-Empty)) ∙ fold-roll-TypedStmt (Bool → Bool) (stmt_step room) (TypedStmt-F.Empty)

  pub sound_Declare : (ds : List TypedDeclarator) → stmt_sound room (t.Declare ds) ≡ stmt_step room (TypedStmt-F.Declare ds)
  sound_Declare ds = ap (stmt_sound room) (sym (t.rolls-Declare ds)) ∙ fold-roll-TypedStmt (Bool → Bool) (stmt_step room) (TypedStmt-F.Declare ds)

  pub sound_Request : (handle : ℕ) (group : Bool) (output : ℕ) (element : Option TypedExpr) (amount : TypedExpr) → stmt_sound room (t.Request handle group output element amount) ≡ stmt_step room (TypedStmt-F.Request handle group output element amount)
  sound_Request handle group output element amount = ap (stmt_sound room) (sym (t.rolls-Request handle group output element amount)) ∙ fold-roll-TypedStmt (Bool → Bool) (stmt_step room) (TypedStmt-F.Request handle group output element amount)

  pub sound_Increment : (group : Bool) (output : ℕ) (element : Option TypedExpr) (amount : TypedExpr) → stmt_sound room (t.Increment group output element amount) ≡ stmt_step room (TypedStmt-F.Increment group output element amount)
  sound_Increment group output element amount = ap (stmt_sound room) (sym (t.rolls-Increment group output element amount)) ∙ fold-roll-TypedStmt (Bool → Bool) (stmt_step room) (TypedStmt-F.Increment group output element amount)

  pub sound_Complete : (handle : ℕ) → stmt_sound room (t.Complete handle) ≡ stmt_step room (TypedStmt-F.Complete handle)
  sound_Complete handle = ap (stmt_sound room) (sym (t.rolls-Complete handle)) ∙ fold-roll-TypedStmt (Bool → Bool) (stmt_step room) (TypedStmt-F.Complete handle)

  pub sound_Barrier : (syncs : Bool) → stmt_sound room (t.Barrier syncs) ≡ stmt_step room (TypedStmt-F.Barrier syncs)
  sound_Barrier syncs = ap (stmt_sound room) (sym (t.rolls-Barrier syncs)) ∙ fold-roll-TypedStmt (Bool → Bool) (stmt_step room) (TypedStmt-F.Barrier syncs)

  pub sound_Step : (s : TypedStep) → stmt_sound room (t.Step s) ≡ stmt_step room (TypedStmt-F.Step s)
  sound_Step s = ap (stmt_sound room) (sym (t.rolls-Step s)) ∙ fold-roll-TypedStmt (Bool → Bool) (stmt_step room) (TypedStmt-F.Step s)

  pub sound_Break : stmt_sound room (t.Break) ≡ stmt_step room (TypedStmt-F.Break)
  sound_Break = ap (stmt_sound room) (sym (t.rolls-Break)) ∙ fold-roll-TypedStmt (Bool → Bool) (stmt_step room) (TypedStmt-F.Break)

  pub sound_Continue : stmt_sound room (t.Continue) ≡ stmt_step room (TypedStmt-F.Continue)
  sound_Continue = ap (stmt_sound room) (sym (t.rolls-Continue)) ∙ fold-roll-TypedStmt (Bool → Bool) (stmt_step room) (TypedStmt-F.Continue)

  pub sound_Return : (v : Option TypedExpr) → stmt_sound room (t.Return v) ≡ stmt_step room (TypedStmt-F.Return v)
  sound_Return v = ap (stmt_sound room) (sym (t.rolls-Return v)) ∙ fold-roll-TypedStmt (Bool → Bool) (stmt_step room) (TypedStmt-F.Return v)

  pub sound_While : (attributes : List TypedAttribute) (test : TypedExpr) (body : TypedStmt) → stmt_sound room (t.While attributes test body) ≡ stmt_step room (TypedStmt-F.While attributes test (stmt_sound room body))
  sound_While attributes test body = ap (stmt_sound room) (sym (t.rolls-While attributes test body)) ∙ fold-roll-TypedStmt (Bool → Bool) (stmt_step room) (TypedStmt-F.While attributes test body)

  pub sound_For : (attributes : List TypedAttribute) (begin : Option TypedStart) (test : Option TypedExpr) (steps : List TypedStep) (body : TypedStmt) → stmt_sound room (t.For attributes begin test steps body) ≡ stmt_step room (TypedStmt-F.For attributes begin test steps (stmt_sound room body))
  sound_For attributes begin test steps body = ap (stmt_sound room) (sym (t.rolls-For attributes begin test steps body)) ∙ fold-roll-TypedStmt (Bool → Bool) (stmt_step room) (TypedStmt-F.For attributes begin test steps body)

  abbrev pub others_sound : Option TypedStmt → Option (Bool → Bool)
  others_sound None = None
  others_sound (Some s) = Some (stmt_sound room s)

  pub sound_If : (attributes : List TypedAttribute) (collective : Bool) (condition : TypedExpr) (first : TypedStmt) (other : Option TypedStmt) → stmt_sound room (t.If attributes collective condition first other) ≡ stmt_step room (TypedStmt-F.If attributes collective condition (stmt_sound room first) (others_sound other))
  sound_If attributes collective condition first None = ap (stmt_sound room) (sym (t.rolls-If attributes collective condition first None)) ∙ fold-roll-TypedStmt (Bool → Bool) (stmt_step room) (TypedStmt-F.If attributes collective condition first None)
  sound_If attributes collective condition first (Some other) = ap (stmt_sound room) (sym (t.rolls-If attributes collective condition first (Some other))) ∙ fold-roll-TypedStmt (Bool → Bool) (stmt_step room) (TypedStmt-F.If attributes collective condition first (Some other))
