-- A text as far as it is declared: its names in order, and their typed forms.
use Rattle.std.specs.Prelude.{ℕ, false, List, [], ◌∷◌, ◌++◌, map}
use Rattle.wg_typing.specs.Scope.{Context, name_bytes}
use Rattle.wg_tree.specs.declared.expr.Named.{Named}
use Rattle.wg_typing.specs.declared.scope.Declared.{Declared}
use Rattle.wg_typing.specs.declared.scope.Meant.{Meant}
use Rattle.wg_typing.specs.declared.so_far.TextOf.{TextOf}
use Rattle.wg_typing.specs.declared.context.Around.TheVariants as surrounding
use Rattle.wg_typing.specs.declared.context.GivesBack.TheVariants as gives_back

-- The names declared, and what they stand for, in order. What is broken has no typed form.
abbrev pub Text : Type 0
Text = TextOf (List Declared)

-- a context outside functions
abbrev pub outside : Text → Context
outside x = record {
  names = x.names;
  start = 0;
  structs = x.structs;
  around = surrounding.Plain;
  parameters = [];
  returns = gives_back.Nothing;
  looped = false;
  variables = [];
  handles = [];
}

abbrev pub text_names : Text → List (List ℕ)
text_names x = map name_bytes x.names

abbrev pub with_name : Named → Meant → Text → Text
with_name name m x = record x { names = x.names ++ record { name = name; meant = m } ∷ [] }
