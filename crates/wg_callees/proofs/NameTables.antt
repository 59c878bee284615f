-- What a table has for a name, by the tables that it is made of.
use Rattle.std.proofs.Common.{◌≡◌, ◌∙◌, Bool, true, false, cond, ℕ, List, [], ◌∷◌, ◌++◌, Option, Some, None, refl, ap, append-nil}
use Rattle.std.specs.Prelude.{codes, option_map}
use Rattle.std.specs.Option.{option_or}
use Rattle.std.specs.Str.{bytes_eq}
use Prim.Native.String.{String}
use Rattle.wg_typed.specs.declared.typed_stmt.InterlockedForm.{InterlockedForm}
use Rattle.wg_typing.specs.Named.{at_name}
use Rattle.wg_typing.specs.TypingInterlocked.{interlocked_names}
use Rattle.wg_typing.specs.TypingObjects.{loads, stores, interlocked_methods, raw_methods}
use Rattle.wg_typing.specs.TypingCallee.{intrinsics, barriers, as_builtins, everywhere}
use Rattle.wg_typing.specs.declared.called.Builtin.{Builtin}
use Rattle.wg_typing.specs.declared.called.Builtin.TheVariants as builtin
use Rattle.wg_typing.specs.declared.called.Method.{Method}
use Rattle.wg_typing.specs.declared.called.Method.TheVariants as method
use Rattle.wg_callees.specs.Methods.{writing}

at_both : {X : Type 0} (table others : List (String × X)) (name : List ℕ) → at_name (table ++ others) name ≡ option_or (at_name table name) (at_name others name)
at_both [] others name = refl
at_both {X} (x ∷ table) others name = picked (bytes_eq (codes x.0) name) (at_both table others name)
  where
    picked : (b : Bool) → at_name (table ++ others) name ≡ option_or (at_name table name) (at_name others name)
        → cond b (Some x.1) (at_name (table ++ others) name) ≡ option_or (cond b (Some x.1) (at_name table name)) (at_name others name)
    picked true ih = refl
    picked false ih = ih

at_forms : (table : List (String × InterlockedForm)) (name : List ℕ) → at_name (interlocked_methods table) name ≡ option_map method.Interlocked (at_name table name)
at_forms [] name = refl
at_forms (x ∷ table) name = picked (bytes_eq (codes x.0) name) (at_forms table name)
  where
    picked : (b : Bool) → at_name (interlocked_methods table) name ≡ option_map method.Interlocked (at_name table name)
        → cond b (Some (method.Interlocked x.1)) (at_name (interlocked_methods table) name) ≡ option_map method.Interlocked (cond b (Some x.1) (at_name table name))
    picked true ih = refl
    picked false ih = ih

pub writing_is : (name : List ℕ) → at_name writing name ≡ option_or (at_name stores name) (option_map method.Interlocked (at_name interlocked_names name))
writing_is name = at_both stores (interlocked_methods interlocked_names) name ∙ ap (λ (o : Option Method). option_or (at_name stores name) o) (at_forms interlocked_names name)

pub raw_is : (name : List ℕ) → at_name (raw_methods true) name ≡ option_or (at_name loads name) (at_name writing name)
raw_is name = at_both loads writing name

pub raw_reads : (name : List ℕ) → at_name (raw_methods false) name ≡ at_name loads name
raw_reads name = refl

first_of_both : {X : Type 0} (f : X → Builtin) (table : List (String × X)) (others : List (String × Builtin)) (name : List ℕ)
    → at_name (as_builtins f table ++ others) name ≡ option_or (option_map f (at_name table name)) (at_name others name)
first_of_both f [] others name = refl
first_of_both {X} f (x ∷ table) others name = picked (bytes_eq (codes x.0) name) (first_of_both f table others name)
  where
    picked : (b : Bool) → at_name (as_builtins f table ++ others) name ≡ option_or (option_map f (at_name table name)) (at_name others name)
        → cond b (Some (f x.1)) (at_name (as_builtins f table ++ others) name) ≡ option_or (option_map f (cond b (Some x.1) (at_name table name))) (at_name others name)
    picked true ih = refl
    picked false ih = ih

pub everywhere_is : (name : List ℕ) → at_name everywhere name
    ≡ option_or (option_map builtin.OnNumbers (at_name intrinsics name)) (option_or (option_map builtin.Interlocked (at_name interlocked_names name)) (at_name barriers name))
everywhere_is name = first_of_both builtin.OnNumbers intrinsics (as_builtins builtin.Interlocked interlocked_names ++ barriers) name
    ∙ ap (λ (o : Option Builtin). option_or (option_map builtin.OnNumbers (at_name intrinsics name)) o) (first_of_both builtin.Interlocked interlocked_names barriers name)
