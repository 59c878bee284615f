-- Where in a text the rules of types are looked at.
use Rattle.std.specs.Prelude.{ℕ, Bool, List, Option}
use Rattle.wg_words.specs.declared.place.Place.{Place}
use Rattle.wg_typing.specs.Scope.{Context}
use Rattle.wg_typing.specs.TypingIntrinsic.{Reckons}
use Rattle.wg_tree.specs.declared.expr.BinaryOperator.{BinaryOperator}
use Rattle.wg_tree.specs.declared.expr.Named.{Named}
use Rattle.wg_tree.specs.declared.expr.TypeName.{TypeName}
use Rattle.wg_tree.specs.declared.stmt.ObjectType.{ObjectType}
use Rattle.wg_tree.specs.declared.stmt.ObjectWord.{ObjectWord}
use Rattle.wg_typed.specs.Uniform.{UniformSetting}
use Rattle.wg_typed.specs.declared.types.ConstValue.{ConstValue}
use Rattle.wg_typed.specs.declared.types.TypeTree.{TypeTree}
use Rattle.wg_typed.specs.declared.typed_expr.Intrinsic.{Intrinsic}
use Rattle.wg_typing.specs.declared.called.CalledName.{CalledName}
use Rattle.wg_typing.specs.declared.context.Around.{Around}
use Rattle.wg_typing.specs.declared.context.GivesBack.{GivesBack}
use Rattle.wg_typing.specs.declared.event.Event.{Event}
use Rattle.wg_typing.specs.declared.part.Along.{Along}
use Rattle.wg_typing.specs.declared.part.FormLayer.{FormLayer}
use Rattle.wg_typing.specs.declared.part.NamedCall.{NamedCall}
use Rattle.wg_typing.specs.declared.part.Part.{Part}
use Rattle.wg_typing.specs.declared.part.TypedPart.{TypedPart}
use Rattle.wg_typing.specs.declared.scope.FormalParameter.{FormalParameter}
use Rattle.wg_typing.specs.declared.scope.Meant.{Meant}

-- Of an expression with a broken part the sites of names and of values alone are looked at: the others have parts with types.
pub data Site : Type 0 where
  -- a name as an expression, and what it means there
  AtNamed : Around → Named → Option Meant → Site
  -- a part of an expression that has to be a value, in what is around it
  AtValue : Around → Part → Site
  -- a called name, and what it is, with its arguments, whatever these are
  AtCall : Around → Place → CalledName → List Part → Site
  -- a called name or a constructor, and whether it has as many arguments or components as it takes
  AtCount : Place → Bool → Site
  -- an argument of a plain function, with its parameter
  AtArgument : FormalParameter → TypedPart → Site
  -- what has to be a number
  AtNumber : TypedPart → Site
  -- what has to convert to a type
  AtGoal : TypeTree → TypedPart → Site
  -- an argument of an intrinsic, with what that reckons in
  AtSuited : Reckons → TypedPart → Site
  -- all arguments of an intrinsic, as many as it takes, at its name
  AtTogether : Place → Intrinsic → List TypedPart → Site
  -- a part of a constructor of a scalar, or of a vector of a size
  AtComponent : Option ℕ → TypedPart → Site
  -- the two results of `?:`, and the first token of all
  AtResults : Place → TypedPart → TypedPart → Site
  -- what an interlocked form changes, where that is no word of a raw buffer
  AtDestination : TypedPart → Site
  -- what takes the old word of an interlocked form: as a word, and as what is assigned
  AtWord : TypedPart → Site
  AtAssigned : TypedPart → Site
  -- the arguments of `Barrier`, which has this name
  AtFlags : Context → Place → List Part → Site
  -- an output call or a barrier where neither may stand: in a barrier's arguments, or with a broken argument before a form
  AtUsed : Option NamedCall → Site
  -- a member, a method or an index after a value, with what stands before it and the first token of all
  AtForm : Context → Place → Along → FormLayer Part → Site
  -- an operator of a chain between the type of what stands before it and its operand, and the first token of all
  AtLink : Place → TypeTree → BinaryOperator → TypedPart → Site
  -- an expression where a `const` is wanted, and its value
  AtConst : Option ConstValue → Part → Site
  -- the start value of a local of a type, where that is known
  AtStart : Option TypeTree → Part → Site
  -- what is assigned to
  AtTarget : Part → Site
  -- `target op= value`
  AtUpdate : BinaryOperator → TypedPart → TypedPart → Site
  -- an expression by itself, in the header of a `for` or as a statement
  AtAlone : Context → Bool → Part → Site
  -- a handle, of which the record type has a number where it is not broken, and what it starts from
  AtHandle : Context → ObjectWord → Named → Option ℕ → Part → Site
  -- `return` where this is given back, with or without a value
  AtReturn : GivesBack → Place → Option Part → Site
  -- `break` or `continue`, in the body of a loop or not
  AtJump : Bool → Place → Site
  -- the words of a type
  AtType : Context → TypeName → Site
  -- a name that is declared among these names of its scope
  AtName : List (List ℕ) → Named → Site
  -- the size of an array, at the name that has it and at its own first token
  AtSize : Named → Place → Option ConstValue → Site
  -- a local of a function, of so many words
  AtLocal : Named → ℕ → Site
  -- an amount that has a limit, at the declaring name
  AtLimit : Named → ℕ → ℕ → Site
  -- an object that stands where it may not, or may, at its word; and what its record type means
  AtObject : Bool → ObjectType → Option TypeTree → Site
  -- a function: its name, what is around its statements, what is uniform in it, whether it has a result, and what happens in it
  AtFunction : Named → Around → UniformSetting → Bool → List Event → Site
