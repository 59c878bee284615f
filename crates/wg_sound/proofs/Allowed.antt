-- Typed statements without marks, whose collective statements stand where the rules let them.
use Rattle.std.proofs.Common.{◌≡◌, ℕ, Bool, true, false, not, List, [], ◌∷◌, ◌++◌, map, Option, Some, None, sym, ap, ◌∙◌}
use Rattle.std.specs.Prelude.{◌&&◌, ◌||◌}
use Rattle.wg_typed.specs.Uniform.{UniformSetting}
use Rattle.wg_typing.specs.RulesCollective.{takes_collective, is_direct, takes_call}
use Rattle.wg_typing.specs.Sites.{Sites, ◌&◌, within}
use Rattle.wg_typing.specs.Site.{Site}
use Rattle.wg_typing.specs.TypingEvents.{events_in}
use Rattle.wg_facts.specs.Tests.{if_any, every}
use Rattle.wg_sound.specs.Placement.{declares_last, begins_last}
use Rattle.wg_typed.specs.declared.typed_expr.TypedExpr.{TypedExpr}
use Rattle.wg_typed.specs.declared.typed_stmt.TypedAttribute.{TypedAttribute}
use Rattle.wg_typed.specs.declared.typed_stmt.TypedDeclarator.{TypedDeclarator}
use Rattle.wg_typed.specs.declared.typed_stmt.TypedStart.{TypedStart}
use Rattle.wg_typed.specs.declared.typed_stmt.TypedStep.{TypedStep}
use Rattle.wg_typed.specs.declared.typed_stmt.TypedStmt.{TypedStmt, fold-TypedStmt, fold-roll-TypedStmt}
use Rattle.wg_typed.specs.declared.typed_stmt.TypedStmt.TheVariants as t
use Rattle.wg_typed.specs.declared.typed_stmt.TypedStmt.TheOpen.{TypedStmt-F}
use Rattle.wg_typing.specs.declared.context.Around.{Around}
use Rattle.wg_typing.specs.declared.event.Event.{Event}
use Rattle.wg_typing.specs.declared.event.Event.TheVariants as event
use Rattle.wg_typing.specs.declared.event.Region.{Region}
use Rattle.wg_typing.specs.declared.event.Region.TheVariants as region

-- a statement: whether it is a block, and whether it has no marks and may stand in these parts of the body
pub record Allowed : Type 0 where
  pub block : Bool
  pub at : List Region → Bool

abbrev pub alone : (List Region → Bool) → Allowed
alone at = record { block = false; at = at }

abbrev pub branch_of : TypedExpr → Allowed → Option Allowed → Region
branch_of c first other = region.Branch (Some c) (first.block && if_any (λ (s : Allowed). s.block) other)

module _ (around : Around) (u : UniformSetting) where
  -- ---- events

  -- each collective statement stands where it may
  abbrev pub Taken : List Event → Type 0
  Taken [] = Unit {0}
  Taken (event.Declares name words ∷ rest) = Taken rest
  Taken (event.Requested name handle ∷ rest) = Taken rest
  Taken (event.Completed handle ∷ rest) = Taken rest
  Taken (event.Collective None path ∷ rest) = Taken rest
  Taken (event.Collective (Some call) path ∷ rest) = (takes_call around u path call.kind ≡ true) × Taken rest
  Taken (event.Returns place ∷ rest) = Taken rest
  Taken (event.Calls chain ∷ rest) = Taken rest
  Taken (event.Changes variable ∷ rest) = Taken rest

  pub taken_left : (xs ys : List Event) → Taken (xs ++ ys) → Taken xs
  taken_left [] ys h = tt
  taken_left (event.Declares name words ∷ rest) ys h = taken_left rest ys h
  taken_left (event.Requested name handle ∷ rest) ys h = taken_left rest ys h
  taken_left (event.Completed handle ∷ rest) ys h = taken_left rest ys h
  taken_left (event.Collective None path ∷ rest) ys h = taken_left rest ys h
  taken_left (event.Collective (Some call) path ∷ rest) ys h = (h.0, taken_left rest ys h.1)
  taken_left (event.Returns place ∷ rest) ys h = taken_left rest ys h
  taken_left (event.Calls chain ∷ rest) ys h = taken_left rest ys h
  taken_left (event.Changes variable ∷ rest) ys h = taken_left rest ys h

  pub taken_right : (xs ys : List Event) → Taken (xs ++ ys) → Taken ys
  taken_right [] ys h = h
  taken_right (event.Declares name words ∷ rest) ys h = taken_right rest ys h
  taken_right (event.Requested name handle ∷ rest) ys h = taken_right rest ys h
  taken_right (event.Completed handle ∷ rest) ys h = taken_right rest ys h
  taken_right (event.Collective None path ∷ rest) ys h = taken_right rest ys h
  taken_right (event.Collective (Some call) path ∷ rest) ys h = taken_right rest ys h.1
  taken_right (event.Returns place ∷ rest) ys h = taken_right rest ys h
  taken_right (event.Calls chain ∷ rest) ys h = taken_right rest ys h
  taken_right (event.Changes variable ∷ rest) ys h = taken_right rest ys h

  -- at these sites, which are in these parts of the body
  pub record TakenIn (path : List Region) (all : Sites Site) : Type 0 where
    pub taken : Taken (events_in path all)

  pub in_left : {path : List Region} {a b : Sites Site} → TakenIn path (a & b) → TakenIn path a
  in_left {path} {a} {b} h = record { taken = taken_left (events_in path a) (events_in path b) h.taken }

  pub in_right : {path : List Region} {a b : Sites Site} → TakenIn path (a & b) → TakenIn path b
  in_right {path} {a} {b} h = record { taken = taken_right (events_in path a) (events_in path b) h.taken }

  pub in_within : {path : List Region} {r : Region} {a : Sites Site} → TakenIn path (within r a) → TakenIn (path ++ r ∷ []) a
  in_within h = record { taken = h.taken }

  -- ---- statements

  abbrev pub allowed_step : TypedStmt-F Allowed → Allowed
  allowed_step (TypedStmt-F.Block body) = record { block = true; at = λ path. every (λ (s : Allowed). s.at (path ++ region.Block ∷ [])) body }
  allowed_step TypedStmt-F.Empty = alone (λ path. true)
  allowed_step (TypedStmt-F.Declare declared) = alone (λ path. not (declares_last declared) || is_direct path)
  allowed_step (TypedStmt-F.Request handle group output element amount) = alone (takes_collective around u)
  allowed_step (TypedStmt-F.Increment group output element amount) = alone (takes_collective around u)
  allowed_step (TypedStmt-F.Complete handle) = alone (takes_collective around u)
  allowed_step (TypedStmt-F.Barrier syncs) = alone (λ path. not syncs || takes_collective around u path)
  allowed_step (TypedStmt-F.Step s) = alone (λ path. true)
  allowed_step TypedStmt-F.Break = alone (λ path. true)
  allowed_step TypedStmt-F.Continue = alone (λ path. true)
  allowed_step (TypedStmt-F.Return value) = alone (λ path. true)
  allowed_step (TypedStmt-F.If attributes marked c first other) = alone (λ path. not marked &&
      (first.at (path ++ branch_of c first other ∷ []) && if_any (λ (s : Allowed). s.at (path ++ branch_of c first other ∷ [])) other))
  allowed_step (TypedStmt-F.While attributes c body) = alone (λ path. body.at (path ++ region.Loop ∷ []))
  allowed_step (TypedStmt-F.For attributes begin c steps body) = alone (λ path. if_any (λ s. not (begins_last s)) begin && body.at (path ++ region.Loop ∷ []))

  abbrev pub allowed : TypedStmt → Allowed
  allowed = fold-TypedStmt Allowed allowed_step

  abbrev pub others_allowed : Option TypedStmt → Option Allowed
  others_allowed None = None
  others_allowed (Some s) = Some (allowed s)

  pub allowed_Block : (body : List TypedStmt) → allowed (t.Block body) ≡ allowed_step (TypedStmt-F.Block (map allowed body))
  allowed_Block body = ap allowed (sym (t.rolls-Block body)) ∙ fold-roll-TypedStmt Allowed allowed_step (TypedStmt-F.Block body)

  pub allowed_Empty : allowed t.Empty ≡ allowed_step TypedStmt-F.Empty
  allowed_Empty = ap allowed (sym t.rolls-Empty) ∙ fold-roll-TypedStmt Allowed allowed_step TypedStmt-F.Empty

  pub allowed_Declare : (ds : List TypedDeclarator) → allowed (t.Declare ds) ≡ allowed_step (TypedStmt-F.Declare ds)
  allowed_Declare ds = ap allowed (sym (t.rolls-Declare ds)) ∙ fold-roll-TypedStmt Allowed allowed_step (TypedStmt-F.Declare ds)

  pub allowed_Request : (handle : ℕ) (group : Bool) (output : ℕ) (element : Option TypedExpr) (amount : TypedExpr) → allowed (t.Request handle group output element amount) ≡ allowed_step (TypedStmt-F.Request handle group output element amount)
  allowed_Request handle group output element amount = ap allowed (sym (t.rolls-Request handle group output element amount)) ∙ fold-roll-TypedStmt Allowed allowed_step (TypedStmt-F.Request handle group output element amount)

  pub allowed_Increment : (group : Bool) (output : ℕ) (element : Option TypedExpr) (amount : TypedExpr) → allowed (t.Increment group output element amount) ≡ allowed_step (TypedStmt-F.Increment group output element amount)
  allowed_Increment group output element amount = ap allowed (sym (t.rolls-Increment group output element amount)) ∙ fold-roll-TypedStmt Allowed allowed_step (TypedStmt-F.Increment group output element amount)

  pub allowed_Complete : (handle : ℕ) → allowed (t.Complete handle) ≡ allowed_step (TypedStmt-F.Complete handle)
  allowed_Complete handle = ap allowed (sym (t.rolls-Complete handle)) ∙ fold-roll-TypedStmt Allowed allowed_step (TypedStmt-F.Complete handle)

  pub allowed_Barrier : (syncs : Bool) → allowed (t.Barrier syncs) ≡ allowed_step (TypedStmt-F.Barrier syncs)
  allowed_Barrier syncs = ap allowed (sym (t.rolls-Barrier syncs)) ∙ fold-roll-TypedStmt Allowed allowed_step (TypedStmt-F.Barrier syncs)

  pub allowed_Step : (s : TypedStep) → allowed (t.Step s) ≡ allowed_step (TypedStmt-F.Step s)
  allowed_Step s = ap allowed (sym (t.rolls-Step s)) ∙ fold-roll-TypedStmt Allowed allowed_step (TypedStmt-F.Step s)

  pub allowed_Break : allowed t.Break ≡ allowed_step TypedStmt-F.Break
  allowed_Break = ap allowed (sym t.rolls-Break) ∙ fold-roll-TypedStmt Allowed allowed_step TypedStmt-F.Break

  pub allowed_Continue : allowed t.Continue ≡ allowed_step TypedStmt-F.Continue
  allowed_Continue = ap allowed (sym t.rolls-Continue) ∙ fold-roll-TypedStmt Allowed allowed_step TypedStmt-F.Continue

  pub allowed_Return : (v : Option TypedExpr) → allowed (t.Return v) ≡ allowed_step (TypedStmt-F.Return v)
  allowed_Return v = ap allowed (sym (t.rolls-Return v)) ∙ fold-roll-TypedStmt Allowed allowed_step (TypedStmt-F.Return v)

  pub allowed_If : (attributes : List TypedAttribute) (marked : Bool) (c : TypedExpr) (first : TypedStmt) (other : Option TypedStmt) → allowed (t.If attributes marked c first other) ≡ allowed_step (TypedStmt-F.If attributes marked c (allowed first) (others_allowed other))
  allowed_If attributes marked c first None = ap allowed (sym (t.rolls-If attributes marked c first None)) ∙ fold-roll-TypedStmt Allowed allowed_step (TypedStmt-F.If attributes marked c first None)
  allowed_If attributes marked c first (Some other) = ap allowed (sym (t.rolls-If attributes marked c first (Some other))) ∙ fold-roll-TypedStmt Allowed allowed_step (TypedStmt-F.If attributes marked c first (Some other))

  pub allowed_While : (attributes : List TypedAttribute) (c : TypedExpr) (body : TypedStmt) → allowed (t.While attributes c body) ≡ allowed_step (TypedStmt-F.While attributes c (allowed body))
  allowed_While attributes c body = ap allowed (sym (t.rolls-While attributes c body)) ∙ fold-roll-TypedStmt Allowed allowed_step (TypedStmt-F.While attributes c body)

  pub allowed_For : (attributes : List TypedAttribute) (begin : Option TypedStart) (c : Option TypedExpr) (steps : List TypedStep) (body : TypedStmt) → allowed (t.For attributes begin c steps body) ≡ allowed_step (TypedStmt-F.For attributes begin c steps (allowed body))
  allowed_For attributes begin c steps body = ap allowed (sym (t.rolls-For attributes begin c steps body)) ∙ fold-roll-TypedStmt Allowed allowed_step (TypedStmt-F.For attributes begin c steps body)

  -- a statement that may stand in these parts, and is a block or not
  pub record MayStand (path : List Region) (block : Bool) (s : TypedStmt) : Type 0 where
    pub fine : (allowed s).at path ≡ true
    pub same : (allowed s).block ≡ block

  pub may : (s : TypedStmt) (a : Allowed) (path : List Region) → allowed s ≡ a → a.at path ≡ true → MayStand path a.block s
  may s a path e h = record { fine = ap (λ (x : Allowed). x.at path) e ∙ h; same = ap (λ (x : Allowed). x.block) e }
