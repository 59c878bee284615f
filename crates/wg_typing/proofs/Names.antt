-- Names that are declared without a broken rule, and what they are as values, types and called names.
use Rattle.std.proofs.Common.{◌≡◌, ℕ, Bool, true, false, List, [], ◌∷◌, ◌++◌, Option, Some, None}
use Rattle.std.specs.Prelude.{unwrap_or}
use Rattle.std.specs.Option.{option_or}
use Rattle.std.specs.Str.{bytes_eq}
use Rattle.wg_words.specs.declared.place.Place.{Place}
use Rattle.wg_typing.specs.Conversions.{is_number}
use Rattle.wg_words.specs.Maybe.{◌>>=◌}
use Rattle.wg_typing.specs.Maybe.{where_true}
use Rattle.wg_typing.specs.RulesMismatchExpr.{unfit_name}
use Rattle.wg_typing.specs.RulesUnknownName.{is_no_value, unknown_value, is_no_struct, unknown_type}
use Rattle.wg_typing.specs.Scope.{Context, look, struct_if, named_type}
use Rattle.wg_typing.specs.Sites.{at_if}
use Rattle.wg_typing.specs.TypingCallee.{builtin_if, callee_of, callee}
use Rattle.wg_typing.specs.TypingName.{name_value, const_name, named_value}
use Rattle.wg_typing.specs.TypingOperators.{zeros_value}
use Rattle.wg_tree.specs.declared.expr.Named.{Named}
use Rattle.wg_tree.specs.declared.expr.TypeName.{TypeName}
use Rattle.wg_tree.specs.declared.expr.TypeName.TheVariants as type_name
use Rattle.wg_typing.specs.declared.scope.Declared.{Declared}
use Rattle.wg_typing.specs.declared.scope.Meant.{Meant}
use Rattle.wg_typing.specs.declared.scope.Meant.TheVariants as meant
use Rattle.wg_typing.proofs.Facts.{Empty, Has}
use Rattle.wg_typing.specs.declared.context.Around.{Around}
use Rattle.wg_typing.specs.declared.called.CalledName.{CalledName}
use Rattle.wg_typing.specs.declared.called.Builtin.{Builtin}
use Rattle.wg_typing.specs.declared.context.Around.TheVariants as surrounding
use Rattle.wg_typing.specs.declared.called.CalledName.TheVariants as called_name

-- ---- names that stand

-- no declaration is broken, and a constant that has a value is a number
abbrev pub Stands : Meant → Type 0
Stands (meant.Struct number) = Unit {0}
Stands (meant.Constant of words None) = Unit {0}
Stands (meant.Constant of words (Some v)) = is_number of ≡ true
Stands (meant.Shared variable of) = Unit {0}
Stands (meant.Variable variable of constant) = Unit {0}
Stands (meant.Object object) = Unit {0}
Stands (meant.Function number is_entry result parameters chain) = Unit {0}
Stands meant.Itself = Unit {0}
Stands meant.Broken = ⊥

abbrev pub AllStand : List Declared → Type 0
AllStand [] = Unit {0}
AllStand (d ∷ rest) = Stands d.meant × AllStand rest

abbrev pub StandsIf : Option Meant → Type 0
StandsIf None = Unit {0}
StandsIf (Some m) = Stands m

or_stands : (o p : Option Meant) → StandsIf o → StandsIf p → StandsIf (option_or o p)
or_stands None p a b = b
or_stands (Some m) p a b = a

where_stands : (b : Bool) (m : Meant) → Stands m → StandsIf (where_true b m)
where_stands true m h = h
where_stands false m h = tt

pub look_stands : (name : List ℕ) (names : List Declared) → AllStand names → StandsIf (look name names)
look_stands name [] h = tt
look_stands name (d ∷ rest) h = or_stands (look name rest) (where_true (bytes_eq d.name.name name) d.meant) (look_stands name rest h.1) (where_stands (bytes_eq d.name.name name) d.meant h.0)

pub stand_push : (names : List Declared) (d : Declared) → AllStand names → Stands d.meant → AllStand (names ++ d ∷ [])
stand_push [] d h k = (k, tt)
stand_push (x ∷ names) d h k = (h.0, stand_push names d h.1 k)

-- no name may stand without a value
abbrev pub NoneAllowed : Around → Type 0
NoneAllowed (surrounding.Entry lanes) = Unit {0}
NoneAllowed surrounding.Plain = Unit {0}
NoneAllowed surrounding.Const = Unit {0}
NoneAllowed (surrounding.Attribute allowed) = ⊥

-- ---- values

has_value : (place : Place) (m : Option Meant) → StandsIf m → Empty (at_if (is_no_value m) place) → Has (name_value place m)
has_value place None s h = absurd h
has_value place (Some (meant.Struct number)) s h = absurd h
has_value place (Some (meant.Constant of words known)) s h = tt
has_value place (Some (meant.Shared variable of)) s h = tt
has_value place (Some (meant.Variable variable of constant)) s h = tt
has_value place (Some (meant.Object object)) s h = tt
has_value place (Some (meant.Function number is_entry result parameters chain)) s h = absurd h
has_value place (Some meant.Itself) s h = absurd h
has_value place (Some meant.Broken) s h = absurd s

has_constant : (name : Named) (m : Option Meant) → StandsIf m → Empty (at_if (unknown_value surrounding.Const name.name m) name.place) → Empty (unfit_name surrounding.Const name m) → Has (const_name name.place m)
has_constant name None s h k = absurd h
has_constant name (Some (meant.Struct number)) s h k = absurd h
has_constant name (Some (meant.Constant of words None)) s h k = absurd k
has_constant name (Some (meant.Constant of words (Some v))) s h k = tt
has_constant name (Some (meant.Shared variable of)) s h k = absurd h
has_constant name (Some (meant.Variable variable of constant)) s h k = absurd h
has_constant name (Some (meant.Object object)) s h k = absurd h
has_constant name (Some (meant.Function number is_entry result parameters chain)) s h k = absurd h
has_constant name (Some meant.Itself) s h k = absurd h
has_constant name (Some meant.Broken) s h k = absurd s

pub has_named : (around : Around) (name : Named) (m : Option Meant) → NoneAllowed around → StandsIf m → Empty (at_if (unknown_value around name.name m) name.place) → Empty (unfit_name around name m) → Has (named_value around name m)
has_named (surrounding.Entry lanes) name m a s h k = has_value name.place m s h
has_named surrounding.Plain name m a s h k = has_value name.place m s h
has_named surrounding.Const name m a s h k = has_constant name m s h k
has_named (surrounding.Attribute allowed) name m a s h k = absurd a

-- ---- types

pub has_struct : (p : Place) (m : Option Meant) → StandsIf m → Empty (at_if (is_no_struct m) p) → Has (struct_if m)
has_struct p None s h = absurd h
has_struct p (Some (meant.Struct number)) s h = tt
has_struct p (Some (meant.Constant of words known)) s h = absurd h
has_struct p (Some (meant.Shared variable of)) s h = absurd h
has_struct p (Some (meant.Variable variable of constant)) s h = absurd h
has_struct p (Some (meant.Object object)) s h = absurd h
has_struct p (Some (meant.Function number is_entry result parameters chain)) s h = absurd h
has_struct p (Some meant.Itself) s h = absurd h
has_struct p (Some meant.Broken) s h = absurd s

zeros_of : (p : Place) (m : Option Meant) → Has (struct_if m) → Has (zeros_value p m)
zeros_of p None h = absurd h
zeros_of p (Some (meant.Struct number)) h = tt
zeros_of p (Some (meant.Constant of words known)) h = absurd h
zeros_of p (Some (meant.Shared variable of)) h = absurd h
zeros_of p (Some (meant.Variable variable of constant)) h = absurd h
zeros_of p (Some (meant.Object object)) h = absurd h
zeros_of p (Some (meant.Function number is_entry result parameters chain)) h = absurd h
zeros_of p (Some meant.Itself) h = absurd h
zeros_of p (Some meant.Broken) h = absurd h

pub has_zeros : (place p : Place) (m : Option Meant) → StandsIf m → Empty (at_if (is_no_struct m) p) → Has (zeros_value place m)
has_zeros place p m s h = zeros_of place m (has_struct p m s h)

pub has_type : (c : Context) (of : TypeName) → AllStand c.names → Empty (unknown_type c of) → Has (named_type c.names of)
has_type c (type_name.Value place of) s h = tt
has_type c (type_name.Struct name) s h = has_struct name.place (look name.name c.names) (look_stands name.name c.names s) h

-- ---- called names

abbrev pub Called : CalledName → Type 0
Called (called_name.Plain number result parameters chain) = Unit {0}
Called called_name.Entry = Unit {0}
Called called_name.Itself = Unit {0}
Called (called_name.Builtin b) = Unit {0}
Called called_name.Broken = ⊥
Called called_name.Unknown = Unit {0}

builtin_called : (b : Option Builtin) → Called (builtin_if b)
builtin_called None = tt
builtin_called (Some b) = tt

callee_called : (m : Option Meant) (b : Option Builtin) → StandsIf m → Called (callee_of m b)
callee_called None b s = builtin_called b
callee_called (Some (meant.Struct number)) b s = tt
callee_called (Some (meant.Constant of words known)) b s = tt
callee_called (Some (meant.Shared variable of)) b s = tt
callee_called (Some (meant.Variable variable of constant)) b s = tt
callee_called (Some (meant.Object object)) b s = tt
callee_called (Some (meant.Function number true result parameters chain)) b s = tt
callee_called (Some (meant.Function number false result parameters chain)) b s = tt
callee_called (Some meant.Itself) b s = tt
callee_called (Some meant.Broken) b s = absurd s

pub is_called : (c : Context) (name : Named) → AllStand c.names → Called (callee c name)
is_called c name s = callee_called (look name.name c.names) _ (look_stands name.name c.names s)

-- ---- what becomes a name's meaning

pub then_stands : {A : Type 0} (o : Option A) (f : A → Option Meant) → ((a : A) → StandsIf (f a)) → StandsIf (◌>>=◌ o f)
then_stands None f k = tt
then_stands (Some a) f k = k a

pub unwrap_stands : (o : Option Meant) → Has o → StandsIf o → Stands (unwrap_or o meant.Broken)
unwrap_stands None h s = absurd h
unwrap_stands (Some m) h s = s
