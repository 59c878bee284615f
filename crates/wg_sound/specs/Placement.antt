-- Where in the body of a function collective statements stand: a fold over one layer of a typed statement.
use Rattle.std.specs.Prelude.{nat_lt, Bool, true, false, not, ◌&&◌, ◌||◌, if◌then◌else◌, List, [], ◌∷◌, map, Option, Some, None}
use Rattle.wg_typed.specs.Uniform.{UniformSetting, is_uniform, is_finished, setting_in}
use Rattle.wg_facts.specs.Tests.{test, if_any, every}
use Rattle.wg_typed.specs.declared.typed.TypedEntry.{TypedEntry}
use Rattle.wg_typed.specs.declared.typed.TypedFunction.{TypedFunction}
use Rattle.wg_typed.specs.declared.typed_expr.TypedExpr.{TypedExpr}
use Rattle.wg_typed.specs.declared.typed_stmt.TypedDeclarator.{TypedDeclarator}
use Rattle.wg_typed.specs.declared.typed_stmt.TypedStart.{TypedStart}
use Rattle.wg_typed.specs.declared.typed_stmt.TypedStart.TheVariants as start
use Rattle.wg_typed.specs.declared.typed_stmt.TypedStmt.{TypedStmt}
use Rattle.wg_typed.specs.declared.typed_stmt.TypedStmt.TheFolds.{fold-TypedStmt}
use Rattle.wg_typed.specs.declared.typed_stmt.TypedStmt.TheOpen.{TypedStmt-F}

-- where a statement stands: directly in the body; in the body or in a block of a collective `if`, where all lanes come together; as a
-- branch of a collective `if`; in a loop
pub record Where : Type 0 where
  pub direct : Bool
  pub together : Bool
  pub chosen : Bool
  pub looped : Bool

abbrev pub in_body : Where
in_body = record { direct = true; together = true; chosen = false; looped = false }

abbrev pub in_block : Where → Where
in_block w = record { direct = false; together = w.chosen; chosen = false; looped = w.looped }

abbrev pub in_branch : Bool → Where → Where
in_branch collective w = record { direct = false; together = false; chosen = collective; looped = w.looped }

abbrev pub in_loop : Where
in_loop = record { direct = false; together = false; chosen = false; looped = true }

abbrev pub has_lanes : Option TypedEntry → Bool
has_lanes entry = test (λ (e : TypedEntry). nat_lt 1 e.lanes) entry

-- a node of several lanes takes collective statements where all lanes come together, one of one lane outside loops, and a plain function none
abbrev pub takes : Option TypedEntry → Where → Bool
takes None w = false
takes (Some e) w = if nat_lt 1 e.lanes then w.together else not w.looped

abbrev pub starts_last : Option TypedExpr → Bool
starts_last value = test (λ (e : TypedExpr). is_finished e.kind) value

-- a declaration that starts with `FinishedCrossGroupSharing()`
abbrev pub declares_last : List TypedDeclarator → Bool
declares_last [] = false
declares_last (d ∷ rest) = starts_last d.value || declares_last rest

abbrev pub begins_last : TypedStart → Bool
begins_last (start.Declare declared) = declares_last declared
begins_last (start.Steps steps) = false

-- a statement: whether it is a block, and whether it and its parts stand where they may
pub record Placed : Type 0 where
  pub block : Bool
  pub stands : Where → Bool

abbrev pub plain : (Where → Bool) → Placed
plain stands = record { block = false; stands = stands }

abbrev pub else_block : Option Placed → Bool
else_block other = if_any (λ (s : Placed). s.block) other

-- a collective `if` stands where all lanes come together, its condition is uniform, and its branches are blocks
abbrev pub is_chosen : Option TypedEntry → UniformSetting → TypedExpr → Placed → Option Placed → Where → Bool
is_chosen entry u c first other w = has_lanes entry && (w.together && (is_uniform u c && (first.block && else_block other)))

abbrev pub stmt_placed : Option TypedEntry → UniformSetting → TypedStmt-F Placed → Placed
stmt_placed entry u (TypedStmt-F.Block body) = record { block = true; stands = λ w. every (λ (s : Placed). s.stands (in_block w)) body }
stmt_placed entry u TypedStmt-F.Empty = plain (λ w. true)
stmt_placed entry u (TypedStmt-F.Declare declared) = plain (λ w. not (declares_last declared) || w.direct)
stmt_placed entry u (TypedStmt-F.Request handle group output element amount) = plain (takes entry)
stmt_placed entry u (TypedStmt-F.Increment group output element amount) = plain (takes entry)
stmt_placed entry u (TypedStmt-F.Complete handle) = plain (takes entry)
stmt_placed entry u (TypedStmt-F.Barrier syncs) = plain (λ w. not syncs || takes entry w)
stmt_placed entry u (TypedStmt-F.Step s) = plain (λ w. true)
stmt_placed entry u TypedStmt-F.Break = plain (λ w. true)
stmt_placed entry u TypedStmt-F.Continue = plain (λ w. true)
stmt_placed entry u (TypedStmt-F.Return value) = plain (λ w. true)
stmt_placed entry u (TypedStmt-F.If attributes collective c first other) = plain (λ w.
    (not collective || is_chosen entry u c first other w) && (first.stands (in_branch collective w) && if_any (λ (s : Placed). s.stands (in_branch collective w)) other))
stmt_placed entry u (TypedStmt-F.While attributes c body) = plain (λ w. body.stands in_loop)
stmt_placed entry u (TypedStmt-F.For attributes begin c steps body) = plain (λ w. if_any (λ s. not (begins_last s)) begin && body.stands in_loop)

abbrev pub placed : Option TypedEntry → UniformSetting → TypedStmt → Placed
placed entry u = fold-TypedStmt Placed (stmt_placed entry u)

abbrev pub body_placed : TypedFunction → Bool
body_placed f = every (λ (s : Placed). s.stands in_body) (map (placed f.entry (setting_in f)) f.body)
