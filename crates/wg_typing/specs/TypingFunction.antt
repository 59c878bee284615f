-- The typed form of a function: its parameters, and its body in a scope of its own (HLSL Shader Model 6.8, functions).
use Rattle.std.specs.Prelude.{ℕ, Bool, true, false, if◌then◌else◌, List, [], length, map, Option, Some, None, unwrap_or}
use Rattle.wg_words.specs.Maybe.{◌>>=◌}
use Rattle.wg_typing.specs.Maybe.{all_of}
use Rattle.wg_typing.specs.Scope.{Context, declare, named_type, once}
use Rattle.wg_typing.specs.AttributeArguments.{is_entry, lanes_of}
use Rattle.wg_typing.specs.TypingAttributes.{attributes_of, attribute_sites}
use Rattle.wg_typing.specs.TypingStmt.{block_after, block_sites, block_trees, walked}
use Rattle.wg_typing.specs.Sites.{Sites, nowhere, only, ◌&◌}
use Rattle.wg_typing.specs.Site.{Site, AtType, AtName, AtFunction}
use Rattle.wg_typing.specs.TypingEvents.{events, chain_of}
use Rattle.wg_typing.specs.TypingSoFar.{Text, outside, text_names}
use Rattle.wg_typing.specs.TypingParameter.{Before, parameters_after, parameters_sites, parameters_trees, entry_of}
use Rattle.wg_tree.specs.declared.expr.Named.{Named}
use Rattle.wg_tree.specs.declared.stmt.Attribute.{Attribute}
use Rattle.wg_tree.specs.declared.stmt.Stmt.{Stmt}
use Rattle.wg_tree.specs.declared.item.Directed.{Directed}
use Rattle.wg_tree.specs.declared.item.Parameter.{Parameter}
use Rattle.wg_tree.specs.declared.item.ResultType.{ResultType}
use Rattle.wg_tree.specs.declared.item.ResultType.TheVariants as result_type
use Rattle.wg_typed.specs.declared.types.TypeTree.{TypeTree}
use Rattle.wg_typed.specs.declared.typed.TypedParameter.{TypedParameter}
use Rattle.wg_typed.specs.declared.typed.TypedParameterType.{TypedParameterType}
use Rattle.wg_typed.specs.declared.typed.TypedParameterType.TheVariants as typed_parameter
use Rattle.wg_typed.specs.declared.typed.TypedFunction.{TypedFunction}
use Rattle.wg_typing.specs.declared.so_far.FunctionHead.{FunctionHead}
use Rattle.wg_typing.specs.declared.scope.Meant.{Meant}
use Rattle.wg_typing.specs.declared.scope.Meant.TheVariants as meant
use Rattle.wg_typing.specs.declared.scope.FormalParameter.{FormalParameter}
use Rattle.wg_typing.specs.TypingMarks.{setting_of, marked_body}
use Rattle.wg_typed.specs.Uniform.{UniformSetting}
use Rattle.wg_typing.specs.declared.context.Around.{Around}
use Rattle.wg_typing.specs.declared.context.GivesBack.{GivesBack}
use Rattle.wg_typing.specs.declared.context.Around.TheVariants as surrounding
use Rattle.wg_typing.specs.declared.context.GivesBack.TheVariants as gives_back
use Rattle.wg_typed.specs.Directions.{direction_of}

abbrev pub parameter_names : List Parameter → List (List ℕ)
parameter_names parameters = map (λ (p : Parameter). p.name.name) parameters

abbrev pub around_of : Context → List Attribute → Around
around_of c attributes = if is_entry (attributes_of c attributes) then surrounding.Entry (lanes_of (attributes_of c attributes)) else surrounding.Plain

abbrev pub gives_if : Option TypeTree → GivesBack
gives_if (Some of) = gives_back.Value of
gives_if None = gives_back.Unsure

abbrev pub gives : Context → ResultType → GivesBack
gives c (result_type.Void place) = gives_back.Nothing
gives c (result_type.Value of) = gives_if (named_type c.names of)

abbrev pub result_sites : Context → ResultType → Sites Site
result_sites c (result_type.Void place) = nowhere
result_sites c (result_type.Value of) = only (AtType c of)

abbrev pub has_result : ResultType → Bool
has_result (result_type.Void place) = false
has_result (result_type.Value of) = true

-- the context of a function's attributes, in which its parameters may be named
abbrev pub head_context : Text → List Parameter → Context
head_context x parameters = record (outside x) { parameters = parameter_names parameters }

-- the same, after the function's own name
abbrev pub named_context : Text → Named → List Parameter → Context
named_context x name parameters = once name (head_context x parameters) (declare name meant.Itself (head_context x parameters))

-- the context of its parameters, a scope after its own name
abbrev pub parameter_context : Text → List Attribute → ResultType → Named → List Parameter → Context
parameter_context x attributes result name parameters =
    record (named_context x name parameters) {
      start = length (named_context x name parameters).names;
      around = around_of (head_context x parameters) attributes;
      returns = gives (outside x) result;
    }

abbrev pub first_before : Before
first_before = record { has_input = false; outputs = 0 }

-- the context of its body, a scope after its parameters
abbrev pub body_context : Context → List Parameter → Context
body_context c parameters = record (parameters_after first_before parameters c) {
  start = length (parameters_after first_before parameters c).names;
}

abbrev pub body_sites : Context → List Stmt → Sites Site
body_sites c body = block_sites (map walked body) c

-- the typed parameters, where no rule is broken in them
abbrev pub known_parameters : Context → List Parameter → List TypedParameter
known_parameters c parameters = unwrap_or (parameters_trees first_before parameters c) []

-- what is uniform in a function's finished body
abbrev pub function_setting : Context → List Parameter → List Stmt → UniformSetting
function_setting c parameters body =
    setting_of (known_parameters c parameters) (events (body_sites (body_context c parameters) body)) (block_after (map walked body) (body_context c parameters)).variables

abbrev pub function_sites : Text → List Attribute → ResultType → Named → List Parameter → List Stmt → Sites Site
function_sites x attributes result name parameters body =
    let c = parameter_context x attributes result name parameters in
    let inner = body_sites (body_context c parameters) body in
    attribute_sites (head_context x parameters) attributes & result_sites (outside x) result & only (AtName (text_names x) name)
    & parameters_sites first_before parameters c & inner & only (AtFunction name c.around (function_setting c parameters body) (has_result result) (events inner))

abbrev pub result_if : GivesBack → Option (Option TypeTree)
result_if gives_back.Nothing = Some None
result_if (gives_back.Value of) = Some (Some of)
result_if gives_back.Unsure = None

-- the result and the parameters, where no rule is broken in them
abbrev pub function_head : Context → List Parameter → Option FunctionHead
function_head c parameters = do
  result ← result_if c.returns
  typed_parameters ← parameters_trees first_before parameters c
  Some (record { result = result; parameters = typed_parameters })

-- the typed form without marks, and then the marks
abbrev pub function_tree : Context → Context → List Attribute → Named → List Parameter → List Stmt → Option TypedFunction
function_tree outer c attributes name parameters body = do
  head ← function_head c parameters
  statements ← block_trees (map walked body) (body_context c parameters)
  typed_handles ← all_of (block_after (map walked body) (body_context c parameters)).handles
  Some (record {
    entry = entry_of c.around head.parameters;
    attributes = attributes_of outer attributes;
    result = head.result;
    name = name;
    parameters = head.parameters;
    variables = (function_setting c parameters body).variables;
    handles = typed_handles;
    body = marked_body c.around (function_setting c parameters body) statements;
  })

-- a parameter of a plain function
abbrev pub passed_if : Option Directed → TypedParameterType → Option FormalParameter
passed_if d (typed_parameter.Value of) = Some (record { direction = direction_of d; of = of })
passed_if d (typed_parameter.Object place word number) = None

abbrev pub passed_of : List TypedParameter → Option (List FormalParameter)
passed_of parameters = all_of (map (λ (p : TypedParameter). passed_if p.direction p.of) parameters)

abbrev pub is_entry_around : Around → Bool
is_entry_around (surrounding.Entry lanes) = true
is_entry_around surrounding.Plain = false
is_entry_around surrounding.Const = false
is_entry_around (surrounding.Attribute allowed) = false

-- the parameters that a call has to give; an entry function is not called
abbrev pub passed_in : Around → List TypedParameter → Option (List FormalParameter)
passed_in (surrounding.Entry lanes) parameters = Some []
passed_in surrounding.Plain parameters = passed_of parameters
passed_in surrounding.Const parameters = None
passed_in (surrounding.Attribute allowed) parameters = None

abbrev pub function_if : ℕ → Context → ℕ → List Parameter → Option Meant
function_if number c chain parameters = do
  head ← function_head c parameters
  passed ← passed_in c.around head.parameters
  Some (meant.Function number (is_entry_around c.around) head.result passed chain)

abbrev pub function_meant : ℕ → Context → List Parameter → List Stmt → Meant
function_meant number c parameters body =
    unwrap_or (function_if number c (chain_of (events (body_sites (body_context c parameters) body))) parameters) meant.Broken
