-- What the marks in a typed text say. Own.
use Rattle.std.specs.Prelude.{ℕ, suc, ◌≡◌, true, false, List, [], ◌∷◌, Some}
use Rattle.wg_typing.specs.Scope.{Context}
use Rattle.wg_typing.specs.TypingEvents.{events}
use Rattle.wg_typing.specs.TypingFunction.{body_sites}
use Rattle.wg_typing.specs.TypingMarks.{is_changed, is_group_id, setting_of}
use Rattle.wg_typing.specs.TypingStmt.{block_after, walked}
use Rattle.std.specs.Prelude.{map}
use Rattle.wg_tree.specs.declared.stmt.Stmt.{Stmt}
use Rattle.wg_typed.specs.declared.typed.SystemValue.{SystemValue}
use Rattle.wg_typed.specs.declared.typed.TypedFunction.{TypedFunction}
use Rattle.wg_typed.specs.declared.typed.TypedVariable.{TypedVariable}
use Rattle.wg_typing.specs.declared.event.Event.{Event}

-- the parameter of a number, which takes a system value: uniform only where that is `SV_GroupID` and nothing changes it
pub record IsLeftAlone (happens : List Event) (number : ℕ) (s : SystemValue) : Type 0 where
  pub group_id : is_group_id s ≡ true
  pub unchanged : is_changed number happens ≡ false

abbrev pub MarkedRightly : List Event → ℕ → TypedVariable → Type 0
MarkedRightly happens number v = v.uniform ≡ true → (s : SystemValue) → v.system ≡ Some s → IsLeftAlone happens number s

-- the variables from a number on
abbrev pub AllMarkedRightly : List Event → ℕ → List TypedVariable → Type 0
AllMarkedRightly happens number [] = Unit {0}
AllMarkedRightly happens number (v ∷ rest) = MarkedRightly happens number v × AllMarkedRightly happens (suc number) rest

-- the variables of a typed function are marked by what happens in its finished body
pub record IsMarked (f : TypedFunction) : Type 0 where
  pub context : Context
  pub body : List Stmt
  pub marks : f.variables ≡ (setting_of f.parameters (events (body_sites context body)) (block_after (map walked body) context).variables).variables
  pub rightly : AllMarkedRightly (events (body_sites context body)) 0 f.variables
