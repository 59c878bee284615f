-- Variables in `groupshared` memory (HLSL Shader Model 6.8; the limit on their words is own).
use Rattle.std.specs.Prelude.{ℕ, ◌+◌, List, [], ◌∷◌, Option, Some, None}
use Rattle.wg_words.specs.Maybe.{◌>>=◌}
use Rattle.wg_typed.specs.Layout.{words_of}
use Rattle.wg_typing.specs.Scope.{named_type}
use Rattle.wg_typing.specs.TypingDeclared.{declared_type}
use Rattle.wg_typing.specs.Sites.{Sites, nowhere, only}
use Rattle.wg_typing.specs.Site.{Site, AtLimit}
use Rattle.wg_typing.specs.TypingSoFar.{Text, outside}
use Rattle.wg_tree.specs.declared.expr.Expr.{Expr}
use Rattle.wg_tree.specs.declared.expr.Named.{Named}
use Rattle.wg_tree.specs.declared.expr.TypeName.{TypeName}
use Rattle.wg_typed.specs.declared.types.TypeTree.{TypeTree}
use Rattle.wg_typed.specs.declared.typed.TypedStruct.{TypedStruct}
use Rattle.wg_typed.specs.declared.typed.TypedShared.{TypedShared}
use Rattle.wg_typing.specs.declared.scope.Meant.{Meant}
use Rattle.wg_typing.specs.declared.scope.Meant.TheVariants as meant

abbrev pub shared_limit : ℕ
shared_limit = 8192

abbrev pub shared_size : List TypedStruct → Option TypedShared → ℕ
shared_size structs None = 0
shared_size structs (Some s) = words_of structs s.of

-- the words of all
abbrev pub shared_words : List TypedStruct → List (Option TypedShared) → ℕ
shared_words structs [] = 0
shared_words structs (s ∷ rest) = shared_size structs s + shared_words structs rest

abbrev pub shared_type : Text → TypeName → Option Expr → Option TypeTree
shared_type x of size = declared_type (outside x) (named_type x.names of) size

abbrev pub shared_tree : Named → Option TypeTree → Option TypedShared
shared_tree name of = of >>= (λ of. Some (record { name = name; of = of }))

abbrev pub shared_meant : ℕ → Option TypeTree → Meant
shared_meant number None = meant.Broken
shared_meant number (Some of) = meant.Shared number of

abbrev pub shared_total : Text → Named → Option TypeTree → Sites Site
shared_total x name None = nowhere
shared_total x name (Some of) = only (AtLimit name (shared_words x.structs x.shared + words_of x.structs of) shared_limit)
