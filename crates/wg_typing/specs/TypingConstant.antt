-- Static constants (HLSL Shader Model 6.8; that their values are constants of the text is own).
use Rattle.std.specs.Prelude.{replicate, Option, Some, None, unwrap_or}
use Rattle.wg_words.specs.Maybe.{◌>>=◌}
use Rattle.wg_typed.specs.Constants.{const_value, const_as, const_words, number_as}
use Rattle.wg_typing.specs.Scope.{Context, as_const, known_names, named_type}
use Rattle.wg_typing.specs.Layers.{fit}
use Rattle.wg_typing.specs.TypingExpr.{part}
use Rattle.wg_typing.specs.TypingDeclared.{const_sites}
use Rattle.wg_typing.specs.Sites.{Sites, only, ◌&◌}
use Rattle.wg_typing.specs.Site.{Site, AtType}
use Rattle.wg_tree.specs.declared.expr.Expr.{Expr}
use Rattle.wg_tree.specs.declared.expr.TypeName.{TypeName}
use Rattle.wg_typed.specs.declared.types.ConstValue.{ConstValue}
use Rattle.wg_typed.specs.declared.types.TypeTree.{TypeTree}
use Rattle.wg_typed.specs.declared.types.TypeTree.TheVariants as type
use Rattle.wg_typing.specs.declared.scope.Meant.{Meant}
use Rattle.wg_typing.specs.declared.scope.Meant.TheVariants as meant

-- a scalar has a value, that of its type, a vector is filled
abbrev pub constant_of : TypeTree → ConstValue → Option Meant
constant_of (type.Scalar of) v = Some (meant.Constant (type.Scalar of) (const_words of v) (Some (const_as of v)))
constant_of (type.Vector of n) v = Some (meant.Constant (type.Vector of n) (replicate n (number_as of v)) None)
constant_of (type.Struct number) v = None
constant_of (type.Array of n) v = None

abbrev pub constant_type : Context → TypeName → Expr → Option Meant
constant_type c of e = do
  goal ← named_type c.names of
  tree ← fit goal (part (as_const c) e)
  v ← const_value (known_names c.names) e
  constant_of goal v

abbrev pub constant_meant : Context → TypeName → Expr → Meant
constant_meant c of e = unwrap_or (constant_type c of e) meant.Broken

abbrev pub constant_sites : Context → TypeName → Expr → Sites Site
constant_sites c of e = only (AtType c of) & const_sites c (named_type c.names of) e
