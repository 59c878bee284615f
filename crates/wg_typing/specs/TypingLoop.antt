-- The header of a `for`: a scope with what it begins with (HLSL Shader Model 6.8, statements).
use Rattle.std.specs.Prelude.{Option, Some, None}
use Rattle.wg_words.specs.Maybe.{◌>>=◌}
use Rattle.wg_typing.specs.Scope.{Context, enter}
use Rattle.wg_typing.specs.Sites.{Sites, nowhere}
use Rattle.wg_typing.specs.Site.{Site}
use Rattle.wg_typing.specs.TypingDeclared.{condition_sites}
use Rattle.wg_typing.specs.TypingStep.{header_trees, header_sites, all_steps}
use Rattle.wg_typing.specs.TypingDeclaration.{declaration_after, declaration_sites, declaration_trees}
use Rattle.wg_tree.specs.declared.expr.Expr.{Expr}
use Rattle.wg_tree.specs.declared.stmt.Header.{Header}
use Rattle.wg_tree.specs.declared.stmt.Start.{Start}
use Rattle.wg_tree.specs.declared.stmt.Start.TheVariants as start
use Rattle.wg_typed.specs.declared.typed_stmt.TypedStart.{TypedStart}
use Rattle.wg_typed.specs.declared.typed_stmt.TypedStart.TheVariants as typed_start

-- what a `for` begins with
abbrev pub start_after : Option Start → Context → Context
start_after None c = c
start_after (Some (start.Declare d)) c = declaration_after d c
start_after (Some (start.Steps s)) c = c

abbrev pub start_sites : Option Start → Context → Sites Site
start_sites None c = nowhere
start_sites (Some (start.Declare d)) c = declaration_sites d c
start_sites (Some (start.Steps s)) c = header_sites c (all_steps s)

abbrev pub start_tree : Context → Start → Option TypedStart
start_tree c (start.Declare d) = declaration_trees d c >>= (λ d. Some (typed_start.Declare d))
start_tree c (start.Steps s) = header_trees c (all_steps s) >>= (λ s. Some (typed_start.Steps s))

abbrev pub test_sites : Context → Option Expr → Sites Site
test_sites c None = nowhere
test_sites c (Some e) = condition_sites c e

-- the scope of a header: its start value's names
abbrev pub in_header : Header → Context → Context
in_header h c = start_after h.start (enter c)
