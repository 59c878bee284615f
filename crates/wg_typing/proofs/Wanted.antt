-- Expressions that have to convert, values of a `const`, and types that are declared.
use Rattle.std.proofs.Common.{◌≡◌, ℕ, true, false, List, Option, Some, None, subst, arith}
use Rattle.std.specs.Prelude.{nat_lt, nat_le}
use Rattle.std.proofs.lemmas.Grind.{common_steps}
use Rattle.wg_typing.specs.AttributeArguments.{is_positive, is_narrow}
use Rattle.wg_typed.specs.Constants.{const_value}
use Rattle.wg_typing.specs.Conversions.{uint_type, element_of, of_value_type}
use Rattle.wg_typing.specs.Layers.{typed_part}
use Rattle.wg_typed.specs.Layout.{words_of}
use Rattle.wg_typing.specs.RulesLimitPassed.{size_below}
use Rattle.wg_typing.specs.RulesMismatch.{unfit_const, wide_size}
use Rattle.wg_typing.specs.Scope.{Context, as_const, known_names, look, struct_if, named_type}
use Rattle.wg_typing.specs.Site.{AtType}
use Rattle.wg_typing.specs.TypingDeclared.{type_limit, size_value, array_of, type_of_size, declared_type, limit_site, wanted_sites, fit_in, const_sites, size_sites, declared_sites}
use Rattle.wg_typing.specs.TypingExpr.{part}
use Rattle.wg_tree.specs.declared.expr.Expr.{Expr}
use Rattle.wg_tree.specs.declared.expr.Named.{Named}
use Rattle.wg_tree.specs.declared.expr.TypeName.{TypeName}
use Rattle.wg_tree.specs.declared.expr.TypeName.TheVariants as type_name
use Rattle.wg_tree.specs.declared.expr.ValueType.{ValueType}
use Rattle.wg_tree.specs.declared.expr.ValueType.TheVariants as value_type
use Rattle.wg_typed.specs.declared.types.ConstValue.{ConstValue}
use Rattle.wg_typed.specs.declared.types.TypeTree.{TypeTree}
use Rattle.wg_typing.specs.declared.scope.Meant.{Meant}
use Rattle.wg_typing.specs.declared.scope.Meant.TheVariants as meant
use Rattle.wg_typing.proofs.Exprs.{has_type_here}
use Rattle.wg_typing.proofs.Facts.{Empty, Has, has_then, has_where, holds_nowhere, is_false, is_some_has, not_false, implied}
use Rattle.wg_typing.proofs.Layers.{Sound}
use Rattle.wg_typing.proofs.Names.{AllStand, has_type}
use Rattle.wg_typing.proofs.Parts.{IsTyped, has_fit}
use Rattle.wg_typing.proofs.Sites.{Clear, Well, well_left, well_only, well_right}
use Rattle.wg_typing.specs.declared.part.Part.{Part}
use Rattle.wg_typing.specs.declared.fault.TypingRule.TheVariants.{UnknownName, Mismatch, LimitPassed}
use Rattle.wg_typing.specs.PartSites.{is_typed}

-- ---- expressions that have to convert

pub wanted_typed : (c : Context) (goal : Option TypeTree) (e : Expr) → Sound c → Well (wanted_sites c goal e) → IsTyped (part c e)
wanted_typed c goal e s h = has_type_here c s e (well_left h)

pub wanted_fits : (c : Context) (goal : TypeTree) (e : Expr) → Sound c → Well (wanted_sites c (Some goal) e) → Has (fit_in c goal e)
wanted_fits c goal e s h = has_fit goal (part c e) (wanted_typed c (Some goal) e s h) (well_right h)

-- ---- a `const`

pub sound_const : (c : Context) → AllStand c.names → Sound (as_const c)
sound_const c n = record { names = n; values = tt }

has_constant : (o : Option ConstValue) (p : Part) → IsTyped p → Empty (unfit_const o p) → Has o
has_constant None p t h = absurd (holds_nowhere (is_typed p) p.place (is_some_has (typed_part p) t) h)
has_constant (Some v) p t h = tt

pub has_const : (c : Context) (goal : Option TypeTree) (e : Expr) → AllStand c.names → Well (const_sites c goal e) → Has (const_value (known_names c.names) e)
has_const c goal e n h = has_constant (const_value (known_names c.names) e) (part (as_const c) e) (wanted_typed (as_const c) goal e (sound_const c n) (well_left h)) ((well_only (well_right h)).clear Mismatch)

-- ---- types that words name

-- a type that an array can be made of
abbrev pub Elemental : Option TypeTree → Type 0
Elemental None = ⊥
Elemental (Some t) = Has (element_of t)

elemental_value : (of : ValueType) → Has (element_of (of_value_type of))
elemental_value (value_type.Scalar of) = tt
elemental_value (value_type.Vector of n) = tt

elemental_struct : (m : Option Meant) → Has (struct_if m) → Elemental (struct_if m)
elemental_struct None h = h
elemental_struct (Some (meant.Struct number)) h = tt
elemental_struct (Some (meant.Constant of words known)) h = h
elemental_struct (Some (meant.Shared variable of)) h = h
elemental_struct (Some (meant.Variable variable of constant)) h = h
elemental_struct (Some (meant.Object object)) h = h
elemental_struct (Some (meant.Function number is_entry result parameters chain)) h = h
elemental_struct (Some meant.Itself) h = h
elemental_struct (Some meant.Broken) h = h

elemental_named : (c : Context) (of : TypeName) → Has (named_type c.names of) → Elemental (named_type c.names of)
elemental_named c (type_name.Value place of) h = elemental_value of
elemental_named c (type_name.Struct name) h = elemental_struct (look name.name c.names) h

pub named_clear : (c : Context) (of : TypeName) → AllStand c.names → Clear (AtType c of) → Has (named_type c.names of)
named_clear c of n h = has_type c of n (h.clear UnknownName)

pub elemental : (c : Context) (of : TypeName) → AllStand c.names → Clear (AtType c of) → Elemental (named_type c.names of)
elemental c of n h = elemental_named c of (named_clear c of n h)

-- ---- types with a size

array_has : (t : TypeTree) (v : ConstValue) → Has (element_of t) → is_positive v ≡ true → Has (array_of t v)
array_has t v h e = has_then (element_of t) _ h (λ of q. has_where (is_positive v) _ e)

has_size_value : (c : Context) (e : Expr) → AllStand c.names → Well (const_sites c (Some uint_type) e) → Has (size_value c e)
has_size_value c e n h = has_then (typed_part (part (as_const c) e)) _ (wanted_typed (as_const c) (Some uint_type) e (sound_const c n) (well_left h)) (λ t q. has_const c (Some uint_type) e n h)

has_sized : (c : Context) (of : Option TypeTree) (name : Named) (size : Option Expr) → AllStand c.names → Elemental of → Well (size_sites c name size) → Has (type_of_size c of size)
has_sized c None name size n e h = absurd e
has_sized c (Some t) name None n e h = tt
has_sized c (Some t) name (Some size) n e h = has_then (size_value c size) _ (has_size_value c size n (well_left h)) (λ v q.
    array_has t v e (implied (is_narrow v) (is_positive v)
    (not_false (is_narrow v) (is_false _ (part (as_const c) size).place (subst (λ x. Empty (wide_size (part (as_const c) size).place x)) q ((well_only (well_right h)).clear Mismatch))))
    (is_false _ name.place (subst (λ x. Empty (size_below name x)) q ((well_only (well_right h)).clear LimitPassed)))))

pub within : (amount limit : ℕ) → nat_lt limit amount ≡ false → nat_le amount limit ≡ true
within amount limit e = grind (arith, common_steps, e)

-- what is declared with a type and perhaps a size has a type
pub has_declared : (c : Context) (scope : List (List ℕ)) (of : Option TypeTree) (name : Named) (size : Option Expr) → AllStand c.names → Elemental of → Well (declared_sites c scope of name size) → Has (declared_type c of size)
has_declared c scope of name size n e h = has_then (type_of_size c of size) _ (has_sized c of name size n e (well_left h)) (λ t q.
    has_where (nat_le (words_of c.structs t) type_limit) t
    (within (words_of c.structs t) type_limit (is_false _ name.place ((well_only (subst (λ x. Well (limit_site c name x)) q (well_left (well_right h)))).clear LimitPassed))))
