-- Which typed expressions are lowered: their types fit, each fact in numbers of words; no type that is reckoned in is wide; and they read no
-- input, record or buffer and call nothing. Own.
use Rattle.std.specs.Prelude.{ℕ, ◌+◌, ◌*◌, ◌-◌, Bool, true, false, not, ◌&&◌, nat_lt, nat_le, nat_eq, List, [], ◌∷◌, length, slice_index, Option, Some, None}
use Rattle.std.specs.List.{list_all}
use Rattle.wg_tree.specs.declared.expr.BinaryOperator.{BinaryOperator}
use Rattle.wg_tree.specs.declared.expr.BinaryOperator.TheVariants as binary
use Rattle.wg_typed.specs.Layout.{Range, field_range}
use Rattle.wg_typed.specs.Operators.{scalar_of, is_wide}
use Rattle.wg_typed.specs.declared.types.TypeTree.{TypeTree}
use Rattle.wg_typed.specs.declared.types.TypeTree.TheVariants as type
use Rattle.wg_typed.specs.declared.typed_expr.Access.TheFolds.{fold-TypedExpr, fold-TypedKind, fold-Access, fold-TypedLink}
use Rattle.wg_typed.specs.declared.typed_expr.Access.TheOpen.{TypedExpr-F, TypedKind-F, Access-F, TypedLink-F}
use Rattle.wg_typed.specs.declared.typed_expr.Access.{Access}
use Rattle.wg_typed.specs.declared.typed_expr.TypedExpr.{TypedExpr}
use Rattle.wg_typed.specs.declared.typed_expr.TypedKind.{TypedKind}
use Rattle.wg_typed.specs.declared.typed_expr.TypedLink.{TypedLink}
use Rattle.wg_semantics.specs.Places.{array_size}
use Rattle.wg_lowered.specs.Where.{Names, size}

-- an expression: its type, and whether it is lowered
pub record Typing : Type 0 where
  pub of : TypeTree
  pub fits : Bool

-- a form or an operator after a value of a type
pub record Fitting : Type 0 where
  pub of : TypeTree
  pub fits : TypeTree → Bool

-- a type whose scalar has 32 bits
abbrev pub is_narrow : TypeTree → Bool
is_narrow t = not (is_wide (scalar_of t))

abbrev pub is_part : Range → ℕ → ℕ → Bool
is_part r whole part = nat_le r.to whole && nat_eq (r.from + part) r.to

abbrev pub access_fits : Names → Access-F Fitting (TypeTree → Bool) Typing Fitting → TypeTree → Bool
access_fits k (Access-F.Field field of) t = is_part (field_range k.structs t field) (size k t) (size k of)
access_fits k (Access-F.Components components of) t = nat_eq (length components) (size k of) && list_all (λ c. nat_lt c (size k t)) components
access_fits k (Access-F.Index index of) t =
    (index.fits && nat_eq (size k index.of) 1) && (nat_eq (size k t) (array_size t * size k of) && (nat_lt 0 (array_size t) && nat_le (size k t) 8192))

abbrev pub access_of : Access-F Fitting (TypeTree → Bool) Typing Fitting → TypeTree
access_of (Access-F.Field field of) = of
access_of (Access-F.Components components of) = of
access_of (Access-F.Index index of) = of

abbrev pub access_step : Names → Access-F Fitting (TypeTree → Bool) Typing Fitting → Fitting
access_step k a = record { of = access_of a; fits = access_fits k a }

-- a scalar fills a vector; else the numbers of words are equal
abbrev pub fills : Names → TypeTree → ℕ → Bool
fills k (type.Scalar of) n = nat_lt 0 n
fills k t n = nat_eq (size k t) n

abbrev pub converts : Names → TypeTree → TypeTree → Bool
converts k from (type.Scalar of) = (is_narrow from && is_narrow (type.Scalar of)) && nat_eq (size k from) 1
converts k from (type.Vector of n) = (is_narrow from && is_narrow (type.Vector of n)) && fills k from n
converts k from to = nat_eq (size k from) (size k to)

-- the left side may be of another type, to which it is converted first
abbrev pub joins : Names → TypeTree → Option TypeTree → ℕ → Bool
joins k t None n = is_narrow t && nat_eq (size k t) n
joins k t (Some by) n = converts k t by && (is_narrow by && nat_eq (size k by) n)

-- `&&` and `||` stand between single words
abbrev pub single : BinaryOperator → ℕ → Bool
single binary.And n = nat_eq n 1
single binary.Or n = nat_eq n 1
single _ n = true

abbrev pub link_step : Names → TypedLink-F Fitting (TypeTree → Bool) Typing Fitting → Fitting
link_step k l = record {
  of = l.of;
  fits = λ t. (l.operand.fits && nat_eq (size k l.of) (size k l.operand.of)) && (joins k t l.before (size k l.operand.of) && single l.operator (size k l.operand.of));
}

abbrev pub expr_step : TypedExpr-F Fitting (TypeTree → Bool) Typing Fitting → Typing
expr_step e = record { of = e.of; fits = e.kind e.of }

-- forms or operators, one after another
abbrev pub all_fit : Names → List Fitting → TypeTree → TypeTree → Bool
all_fit k [] t to = nat_eq (size k t) (size k to)
all_fit k (f ∷ rest) t to = f.fits t && all_fit k rest f.of to

abbrev pub all_parts : Names → List Typing → ℕ → Bool
all_parts k [] n = nat_eq n 0
all_parts k (e ∷ rest) n = e.fits && (nat_le (size k e.of) n && all_parts k rest (n - size k e.of))

-- an index that may be left out
abbrev pub index_fits : Names → Option Typing → Bool
index_fits k None = true
index_fits k (Some e) = e.fits && nat_eq (size k e.of) 1

abbrev pub variable_fits : List ℕ → ℕ → ℕ → Bool
variable_fits sizes variable words = nat_lt variable (length sizes) && nat_eq (slice_index sizes variable) words

abbrev pub kind_step : Names → TypedKind-F Fitting (TypeTree → Bool) Typing Fitting → TypeTree → Bool
kind_step k (TypedKind-F.Literal words) t = nat_eq (length words) (size k t)
kind_step k (TypedKind-F.Variable variable) t = variable_fits k.variables variable (size k t)
kind_step k (TypedKind-F.Shared variable) t = variable_fits k.shared variable (size k t) && nat_le (size k t) 8192
kind_step k TypedKind-F.Count t = nat_eq (size k t) 1
kind_step k TypedKind-F.Finished t = nat_eq (size k t) 1
kind_step k (TypedKind-F.IsValid output element) t = index_fits k element && nat_eq (size k t) 1
kind_step k TypedKind-F.Levels t = nat_eq (size k t) 1
kind_step k TypedKind-F.Zeros t = true
kind_step k (TypedKind-F.Access base forms) t = base.fits && all_fit k forms base.of t
kind_step k (TypedKind-F.Prefix operator operand) t = (operand.fits && is_narrow t) && nat_eq (size k operand.of) (size k t)
kind_step k (TypedKind-F.Convert operand) t = operand.fits && converts k operand.of t
kind_step k (TypedKind-F.Chain first rest) t = first.fits && all_fit k rest first.of t
kind_step k (TypedKind-F.Choice test a b) t =
    (test.fits && nat_eq (size k test.of) 1) && ((a.fits && nat_eq (size k a.of) (size k t)) && (b.fits && nat_eq (size k b.of) (size k t)))
kind_step k (TypedKind-F.Construct parts) t = all_parts k parts (size k t)
kind_step k _ t = false

abbrev pub typing : Names → TypedExpr → Typing
typing k = fold-TypedExpr Fitting (TypeTree → Bool) Typing Fitting (access_step k) (kind_step k) expr_step (link_step k)

abbrev pub kind_fits : Names → TypedKind → TypeTree → Bool
kind_fits k = fold-TypedKind Fitting (TypeTree → Bool) Typing Fitting (access_step k) (kind_step k) expr_step (link_step k)

abbrev pub access_typing : Names → Access → Fitting
access_typing k = fold-Access Fitting (TypeTree → Bool) Typing Fitting (access_step k) (kind_step k) expr_step (link_step k)

abbrev pub link_typing : Names → TypedLink → Fitting
link_typing k = fold-TypedLink Fitting (TypeTree → Bool) Typing Fitting (access_step k) (kind_step k) expr_step (link_step k)

-- whether the code of an expression is made
abbrev pub is_lowered : Names → TypedExpr → Bool
is_lowered k e = (typing k e).fits
