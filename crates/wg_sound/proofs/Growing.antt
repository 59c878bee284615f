-- Contexts that grow while a function is read, up to what the function has in the end.
use Rattle.std.proofs.Common.{◌≡◌, ℕ, zero, suc, Bool, true, false, cond, List, [], ◌∷◌, ◌++◌, map, length, Option, Some, refl, sym, ap, ◌∙◌}
use Rattle.std.specs.Prelude.{slice_get}
use Rattle.wg_typing.specs.Conversions.{same_type}
use Rattle.wg_typing.specs.Maybe.{all_of}
use Rattle.wg_typing.specs.Named.{is_among}
use Rattle.wg_typing.specs.Scope.{Context, own_names, once, leave}
use Rattle.wg_facts.specs.Tests.{test}
use Rattle.wg_sound.specs.Room.{Room, has_variable}
use Rattle.wg_tree.specs.declared.expr.Named.{Named}
use Rattle.wg_typed.specs.declared.types.TypeTree.{TypeTree}
use Rattle.wg_typed.specs.declared.typed.TypedHandle.{TypedHandle}
use Rattle.wg_typed.specs.declared.typed.TypedVariable.{TypedVariable}
use Rattle.wg_facts.proofs.Basics.{some_value, type_same}
use Rattle.wg_facts.proofs.Lists.{nothing_more, joined, at_end}
use Rattle.wg_typing.specs.declared.context.VariableForm.{VariableForm}

-- ---- growing

pub record Grows (c d : Context) : Type 0 where
  pub variables : (more : List VariableForm) × (d.variables ≡ c.variables ++ more)
  pub handles : (more : List (Option TypedHandle)) × (d.handles ≡ c.handles ++ more)
  pub structs : d.structs ≡ c.structs

pub grows_self : (c : Context) → Grows c c
grows_self c = record { variables = ([], nothing_more c.variables); handles = ([], nothing_more c.handles); structs = refl }

pub grows_then : (a b c : Context) → Grows a b → Grows b c → Grows a c
grows_then a b c g h = record {
  variables = (g.variables.0 ++ h.variables.0, h.variables.1 ∙ ap (λ xs. xs ++ h.variables.0) g.variables.1 ∙ joined a.variables g.variables.0 h.variables.0);
  handles = (g.handles.0 ++ h.handles.0, h.handles.1 ∙ ap (λ xs. xs ++ h.handles.0) g.handles.1 ∙ joined a.handles g.handles.0 h.handles.0);
  structs = h.structs ∙ g.structs;
}

pub once_grows : (name : Named) (c d : Context) → Grows c d → Grows c (once name c d)
once_grows name c d g = by_test (is_among (own_names c) name.name)
  where
    by_test : (b : Bool) → Grows c (cond b c d)
    by_test true = grows_self c
    by_test false = g

-- a new name is declared
pub once_new : (name : Named) (c d : Context) → is_among (own_names c) name.name ≡ false → once name c d ≡ d
once_new name c d e = ap (λ b. cond b c d) e

pub grows_leave : (outer c inner : Context) → outer.variables ≡ c.variables → outer.handles ≡ c.handles → Grows c inner → Grows outer (leave outer inner)
grows_leave outer c inner e f g = record {
  variables = (g.variables.0, g.variables.1 ∙ ap (λ xs. xs ++ g.variables.0) (sym e));
  handles = (g.handles.0, g.handles.1 ∙ ap (λ xs. xs ++ g.handles.0) (sym f));
  structs = refl;
}

pub grows_same : (c d e : Context) → c.variables ≡ d.variables → c.handles ≡ d.handles → c.structs ≡ d.structs → Grows d e → Grows c e
grows_same c d e x y z g = record {
  variables = (g.variables.0, g.variables.1 ∙ ap (λ xs. xs ++ g.variables.0) (sym x));
  handles = (g.handles.0, g.handles.1 ∙ ap (λ xs. xs ++ g.handles.0) (sym y));
  structs = g.structs ∙ sym z;
}

-- ---- types of locals

abbrev pub form_types : List VariableForm → List TypeTree
form_types ls = map (λ (l : VariableForm). l.of) ls

abbrev pub local_types : List TypedVariable → List TypeTree
local_types ls = map (λ (l : TypedVariable). l.of) ls

pub forms_joined : (xs ys : List VariableForm) → form_types (xs ++ ys) ≡ form_types xs ++ form_types ys
forms_joined [] ys = refl
forms_joined (x ∷ xs) ys = ap (λ ts. x.of ∷ ts) (forms_joined xs ys)

pub forms_count : (xs : List VariableForm) → length (form_types xs) ≡ length xs
forms_count [] = refl
forms_count (x ∷ xs) = ap suc (forms_count xs)

local_at : (ls : List TypedVariable) (n : ℕ) (t : TypeTree) → slice_get (local_types ls) n ≡ Some t → test (λ (l : TypedVariable). same_type l.of t) (slice_get ls n) ≡ true
local_at [] n t e = absurd (cc)
local_at (l ∷ ls) zero t e = type_same l.of t (some_value e)
local_at (l ∷ ls) (suc n) t e = local_at ls n t e

module _ (room : Room) where
  -- the function in the end has the locals and handles that stand in a context
  pub record Ends (c : Context) : Type 0 where
    pub variables : (more : List TypeTree) × (local_types room.function.variables ≡ form_types c.variables ++ more)
    pub handles : (more : List (Option TypedHandle)) × (all_of (c.handles ++ more) ≡ Some room.function.handles)

  pub ends_before : (c d : Context) → Grows c d → Ends d → Ends c
  ends_before c d g h = record {
    variables = (form_types g.variables.0 ++ h.variables.0, h.variables.1 ∙ ap (λ xs. form_types xs ++ h.variables.0) g.variables.1 ∙ ap (λ ts. ts ++ h.variables.0) (forms_joined c.variables g.variables.0) ∙ joined (form_types c.variables) (form_types g.variables.0) h.variables.0);
    handles = (g.handles.0 ++ h.handles.0, ap all_of (sym (joined c.handles g.handles.0 h.handles.0)) ∙ ap (λ xs. all_of (xs ++ h.handles.0)) (sym g.handles.1) ∙ h.handles.1);
  }

  pub ends_inside : (outer inner : Context) → Ends (leave outer inner) → Ends inner
  ends_inside outer inner h = record { variables = h.variables; handles = h.handles }

  pub ends_same : (c d : Context) → c.variables ≡ d.variables → c.handles ≡ d.handles → Ends c → Ends d
  ends_same c d e f h = record { variables = (h.variables.0, h.variables.1 ∙ ap (λ xs. form_types xs ++ h.variables.0) e); handles = (h.handles.0, ap (λ xs. all_of (xs ++ h.handles.0)) (sym f) ∙ h.handles.1) }

  -- the local that was declared after those of a context
  pub local_there : (before after : List VariableForm) (l : VariableForm) → (more : List TypeTree) × (local_types room.function.variables ≡ form_types (before ++ l ∷ after) ++ more) → has_variable room (length before) l.of ≡ true
  local_there before after l h =
      let e : local_types room.function.variables ≡ form_types before ++ l.of ∷ (form_types after ++ h.0) = h.1 ∙ ap (λ ts. ts ++ h.0) (forms_joined before (l ∷ after)) ∙ joined (form_types before) (form_types (l ∷ after)) h.0 in
      local_at room.function.variables (length before) l.of
      (ap (λ xs. slice_get xs (length before)) e ∙ ap (slice_get (form_types before ++ l.of ∷ (form_types after ++ h.0))) (sym (forms_count before)) ∙ at_end (form_types before) l.of (form_types after ++ h.0))
