-- Which expressions of an entry function have one value on all lanes of a launch, so far as this language knows it (own; HLSL asks for
-- uniform flow at a barrier with group sync and at the calls of outputs).
use Rattle.std.specs.Prelude.{Bool, true, false, ◌&&◌, ◌||◌, List, [], ◌∷◌, Option, Some, None, slice_get}
use Rattle.wg_typed.specs.declared.typed.TypedVariable.{TypedVariable}
use Rattle.wg_typed.specs.declared.typed.TypedParameter.{TypedParameter}
use Rattle.wg_typed.specs.declared.typed.TypedParameterType.{TypedParameterType}
use Rattle.wg_typed.specs.declared.typed.TypedParameterType.TheVariants as parameter
use Rattle.wg_typed.specs.declared.typed.TypedFunction.{TypedFunction}
use Rattle.wg_tree.specs.declared.stmt.ObjectWord.{ObjectWord}
use Rattle.wg_tree.specs.declared.stmt.ObjectWord.TheVariants as word
use Rattle.wg_typed.specs.declared.typed_expr.TypedExpr.{TypedExpr}
use Rattle.wg_typed.specs.declared.typed_expr.TypedKind.{TypedKind}
use Rattle.wg_typed.specs.declared.typed_expr.TypedKind.TheVariants as kind
use Rattle.wg_typed.specs.declared.typed_expr.Access.{Access}
use Rattle.wg_typed.specs.declared.typed_expr.TypedLink.{TypedLink}
use Rattle.wg_typed.specs.declared.typed_expr.Access.TheFolds.{fold-TypedExpr, fold-Access, fold-TypedLink}
use Rattle.wg_typed.specs.declared.typed_expr.Access.TheOpen.{TypedExpr-F, TypedKind-F, Access-F, TypedLink-F}

-- what is known of the function: its variables with their marks, and whether its input is a dispatch or a group input that is only read
pub record UniformSetting : Type 0 where
  pub variables : List TypedVariable
  pub reads_input : Bool

-- whether an expression is uniform, and whether a field of it is: of a record of the input only a field is
pub record Spread : Type 0 where
  pub whole : Bool
  pub field : Bool

-- a form after a value
pub data Taken : Type 0 where
  a_field : Taken
  components : Taken
  an_element : Taken

-- the same of the whole and of its fields
abbrev pub evenly : Bool → Spread
evenly b = record { whole = b; field = b }

-- an element of an array is not uniform
abbrev pub taken : Spread → Taken → Bool
taken s a_field = s.field
taken s components = s.whole
taken s an_element = false

abbrev pub all_taken : Spread → List Taken → Spread
all_taken s [] = s
all_taken s (f ∷ rest) = all_taken (evenly (taken s f)) rest

abbrev pub all_uniform : List Spread → Bool
all_uniform [] = true
all_uniform (s ∷ rest) = s.whole && all_uniform rest

-- an index that is not written is 0
abbrev pub index_uniform : Option Spread → Bool
index_uniform None = true
index_uniform (Some s) = s.whole

abbrev pub is_marked : Option TypedVariable → Bool
is_marked None = false
is_marked (Some v) = v.uniform

abbrev pub access_taken : Access-F Taken Spread Spread Spread → Taken
access_taken (Access-F.Field field of) = a_field
access_taken (Access-F.Components chosen of) = components
access_taken (Access-F.Index index of) = an_element

-- Reads of groupshared words, of buffers and of writable inputs and the records of handles are not uniform, nor are calls of functions.
abbrev pub kind_spread : UniformSetting → TypedKind-F Taken Spread Spread Spread → Spread
kind_spread u (TypedKind-F.Literal words) = evenly true
kind_spread u (TypedKind-F.Variable variable) = evenly (is_marked (slice_get u.variables variable))
kind_spread u (TypedKind-F.Shared variable) = evenly false
kind_spread u (TypedKind-F.Element buffer index) = evenly false
kind_spread u (TypedKind-F.Load buffer address) = evenly false
kind_spread u (TypedKind-F.Input index) = record { whole = false; field = u.reads_input && index_uniform index }
kind_spread u TypedKind-F.Count = evenly true
kind_spread u TypedKind-F.Finished = evenly false
kind_spread u (TypedKind-F.Handle handle index) = evenly false
kind_spread u (TypedKind-F.IsValid output element) = evenly (index_uniform element)
kind_spread u TypedKind-F.Levels = evenly true
kind_spread u TypedKind-F.Zeros = evenly true
kind_spread u (TypedKind-F.Access base forms) = all_taken base forms
kind_spread u (TypedKind-F.Prefix operator operand) = evenly operand.whole
kind_spread u (TypedKind-F.Convert operand) = evenly operand.whole
kind_spread u (TypedKind-F.Chain first rest) = evenly (first.whole && all_uniform rest)
kind_spread u (TypedKind-F.Choice test first other) = evenly (test.whole && first.whole && other.whole)
kind_spread u (TypedKind-F.Construct parts) = evenly (all_uniform parts)
kind_spread u (TypedKind-F.Call function arguments) = evenly false
kind_spread u (TypedKind-F.Intrinsic c arguments) = evenly (all_uniform arguments)

abbrev pub expr_spread : TypedExpr-F Taken Spread Spread Spread → Spread
expr_spread e = e.kind

abbrev pub link_spread : TypedLink-F Taken Spread Spread Spread → Spread
link_spread l = l.operand

abbrev pub spread_of : UniformSetting → TypedExpr → Spread
spread_of u = fold-TypedExpr Taken Spread Spread Spread access_taken (kind_spread u) expr_spread link_spread

abbrev pub form_taken : UniformSetting → Access → Taken
form_taken u = fold-Access Taken Spread Spread Spread access_taken (kind_spread u) expr_spread link_spread

abbrev pub operand_spread : UniformSetting → TypedLink → Spread
operand_spread u = fold-TypedLink Taken Spread Spread Spread access_taken (kind_spread u) expr_spread link_spread

-- whether the expression is uniform
abbrev pub is_uniform : UniformSetting → TypedExpr → Bool
is_uniform u e = (spread_of u e).whole

-- `FinishedCrossGroupSharing()` by itself
abbrev pub is_finished : TypedKind → Bool
is_finished kind.Finished = true
is_finished _ = false

-- whether a `const` local with this start value is uniform: it may also be whether the launch is the record's last
abbrev pub is_uniform_start : UniformSetting → TypedExpr → Bool
is_uniform_start u e = is_finished e.kind || is_uniform u e

-- ---- what a typed function says of itself

-- a dispatch or a group input that is only read
abbrev pub is_read_word : ObjectWord → Bool
is_read_word word.DispatchNodeInputRecord = true
is_read_word word.RwDispatchNodeInputRecord = false
is_read_word word.GroupNodeInputRecords = true
is_read_word word.RwGroupNodeInputRecords = false
is_read_word word.ThreadNodeInputRecord = false
is_read_word word.RwThreadNodeInputRecord = false
is_read_word word.EmptyNodeInput = false
is_read_word word.NodeOutput = false
is_read_word word.NodeOutputArray = false
is_read_word word.EmptyNodeOutput = false
is_read_word word.EmptyNodeOutputArray = false
is_read_word word.ThreadNodeOutputRecords = false
is_read_word word.GroupNodeOutputRecords = false

abbrev pub is_read_type : TypedParameterType → Bool
is_read_type (parameter.Value of) = false
is_read_type (parameter.Object place object record_type) = is_read_word object

abbrev pub any_read : List TypedParameter → Bool
any_read [] = false
any_read (p ∷ rest) = is_read_type p.of || any_read rest

-- the marks that stand in a typed function
abbrev pub setting_in : TypedFunction → UniformSetting
setting_in f = record { variables = f.variables; reads_input = any_read f.parameters }
