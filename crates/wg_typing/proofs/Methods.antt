-- Methods and elements of objects, where the arguments have types.
use Rattle.std.proofs.Common.{◌≡◌, ◌≤◌, ℕ, suc, Bool, true, false, cond, List, [], ◌∷◌, length, Option, Some, None, refl, subst, arith}
use Rattle.std.specs.Prelude.{◌&&◌, ◌==◌, nat_le, codes}
use Rattle.std.specs.Str.{bytes_eq}
use Rattle.std.proofs.lemmas.Grind.{common_steps}
use Prim.Native.String.{String}
use Rattle.wg_words.specs.declared.place.Place.{Place}
use Rattle.wg_typing.specs.Conversions.{uint_type, uints}
use Rattle.wg_typing.specs.Layers.{fit, fit_all}
use Rattle.wg_words.specs.Maybe.{◌>>=◌}
use Rattle.wg_typing.specs.Named.{at_name}
use Rattle.wg_typing.specs.TypingObjects.{methods, method_of, takes, method_value, element_value, has_elements}
use Rattle.wg_typed.specs.declared.types.TypeTree.{TypeTree}
use Rattle.wg_typed.specs.declared.typed.TypedBufferType.TheVariants as buffer_type
use Rattle.wg_typed.specs.declared.typed_expr.TypedExpr.{TypedExpr}
use Rattle.wg_typing.specs.declared.scope.Object.{Object}
use Rattle.wg_typing.specs.declared.scope.Object.TheVariants as object
use Rattle.wg_typing.specs.declared.scope.Value.{Value}
use Rattle.wg_typing.proofs.Facts.{Has, and_left, and_right, some_value}
use Rattle.wg_typing.proofs.Interlocks.{has_raw}
use Rattle.wg_typing.proofs.Parts.{AllTyped, IsTyped, has_fit}
use Rattle.wg_typing.specs.declared.scope.Sharing.TheVariants as sharing
use Rattle.wg_typing.specs.declared.part.Part.{Part}
use Rattle.wg_typing.specs.declared.called.Method.{Method}
use Rattle.wg_typing.specs.declared.called.Method.TheVariants as method
use Rattle.wg_typing.specs.PartSites.{goal_sites, argument_sites}
use Rattle.wg_typing.proofs.Sites.{Well, well_left, well_right}

-- ---- the methods that an object has

abbrev holds_for : Object → Method → Bool
holds_for (object.Buffer buffer (buffer_type.Raw writable)) (method.Load n) = true
holds_for (object.Buffer buffer (buffer_type.Raw writable)) (method.Store n) = true
holds_for (object.Buffer buffer (buffer_type.Raw writable)) (method.Interlocked f) = true
holds_for (object.Input many (Some number) standing sharing) method.Get = true
holds_for (object.Input many record_type standing sharing) method.Count = true
holds_for (object.Input many record_type standing sharing) method.Finished = true
holds_for (object.Output output array (Some number)) (method.Request group) = true
holds_for (object.Output output array None) (method.Increment group) = true
holds_for (object.Output output array record_type) method.IsValid = true
holds_for (object.Handle handle number) method.Get = true
holds_for (object.Handle handle number) method.Complete = true
holds_for o m = false

abbrev every : (Method → Bool) → List (String × Method) → Bool
every test [] = true
every test (x ∷ rest) = test x.1 && every test rest

method_in : (test : Method → Bool) (table : List (String × Method)) (name : List ℕ) (m : Method) → every test table ≡ true → at_name table name ≡ Some m → test m ≡ true
method_in test [] name m e h = absurd (cc)
method_in test (x ∷ rest) name m e h = picked (bytes_eq (codes x.0) name) (method_in test rest name m (and_right (test x.1) _ e)) h
  where
    picked : (b : Bool) → (at_name rest name ≡ Some m → test m ≡ true) → cond b (Some x.1) (at_name rest name) ≡ Some m → test m ≡ true
    picked true later h = subst (λ m. test m ≡ true) (some_value h) (and_left (test x.1) _ e)
    picked false later h = later h

all_hold : (o : Object) → every (holds_for o) (methods o) ≡ true
all_hold (object.Buffer buffer (buffer_type.Raw true)) = refl
all_hold (object.Buffer buffer (buffer_type.Raw false)) = refl
all_hold (object.Buffer buffer (buffer_type.Structured writable of)) = refl
all_hold (object.Input true (Some number) standing sharing.Copied) = refl
all_hold (object.Input true (Some number) standing sharing.Shared) = refl
all_hold (object.Input true (Some number) standing sharing.Tracked) = refl
all_hold (object.Input false (Some number) standing sharing.Copied) = refl
all_hold (object.Input false (Some number) standing sharing.Shared) = refl
all_hold (object.Input false (Some number) standing sharing.Tracked) = refl
all_hold (object.Input many None standing sharing) = refl
all_hold (object.Output output true record_type) = refl
all_hold (object.Output output false (Some number)) = refl
all_hold (object.Output output false None) = refl
all_hold (object.Handle handle number) = refl

-- ---- one argument, and two

has_one : (t : TypeTree) (p : Part) (g : List TypedExpr → Option Value) → IsTyped p → Well (goal_sites (t ∷ []) (p ∷ [])) → ((x : TypedExpr) → Has (g (x ∷ []))) → Has (◌>>=◌ (fit_all (t ∷ []) (p ∷ [])) g)
has_one t p g h e k = from (fit t p) (has_fit t p h (well_left e))
  where
    from : (o : Option TypedExpr) → Has o → Has (◌>>=◌ (◌>>=◌ o (λ x. Some (x ∷ []))) g)
    from None h = absurd h
    from (Some x) h = k x

has_two : (t u : TypeTree) (p q : Part) (g : List TypedExpr → Option Value) → IsTyped p → IsTyped q → Well (goal_sites (t ∷ u ∷ []) (p ∷ q ∷ [])) → ((x y : TypedExpr) → Has (g (x ∷ y ∷ []))) → Has (◌>>=◌ (fit_all (t ∷ u ∷ []) (p ∷ q ∷ [])) g)
has_two t u p q g h i e k = from (fit t p) (fit u q) (has_fit t p h (well_left e)) (has_fit u q i (well_left (well_right e)))
  where
    from : (a b : Option TypedExpr) → Has a → Has b → Has (◌>>=◌ (◌>>=◌ a (λ x. ◌>>=◌ (◌>>=◌ b (λ y. Some (y ∷ []))) (λ others. Some (x ∷ others)))) g)
    from None b h i = absurd h
    from (Some x) None h i = absurd i
    from (Some x) (Some y) h i = k x y

-- ---- how many arguments

too_many : (n k : ℕ) → k ≤ 1 → (suc (suc n) == k) ≡ true → ⊥
too_many n k l e = grind (arith, common_steps, l, e)

pub some_for_none : (k : ℕ) → (suc k == 0) ≡ true → ⊥
some_for_none k e = grind (arith, common_steps, e)

pub three_for_two : (n : ℕ) → (suc (suc (suc n)) == 2) ≡ true → ⊥
three_for_two n e = grind (arith, common_steps, e)

past_one : (n : ℕ) → nat_le (suc (suc n)) 1 ≡ true → ⊥
past_one n e = grind (arith, common_steps, e)

at_most_one : (b : Bool) → cond b 1 0 ≤ 1
at_most_one true = omega arith
at_most_one false = omega arith

-- ---- values

-- what a method gives that the object has
has_held : (place name : Place) (o : Object) (element : Option TypedExpr) (m : Method) (parts : List Part) → holds_for o m ≡ true → takes o m parts ≡ true → AllTyped parts → Well (argument_sites m parts) → Has (method_value place name o element m parts)
has_held place name (object.Buffer buffer (buffer_type.Raw writable)) element (method.Load n) [] k t h e = absurd (cc)
has_held place name (object.Buffer buffer (buffer_type.Raw writable)) element (method.Load n) (p ∷ []) k t h e = has_one uint_type p _ h.0 e (λ x. tt)
has_held place name (object.Buffer buffer (buffer_type.Raw writable)) element (method.Load n) (p ∷ q ∷ rest) k t h e = absurd (too_many (length rest) 1 (omega arith) t)
has_held place name (object.Buffer buffer (buffer_type.Raw writable)) element (method.Store n) [] k t h e = absurd (cc)
has_held place name (object.Buffer buffer (buffer_type.Raw writable)) element (method.Store n) (p ∷ []) k t h e = absurd (cc)
has_held place name (object.Buffer buffer (buffer_type.Raw writable)) element (method.Store n) (p ∷ q ∷ []) k t h e = has_two uint_type (uints n) p q _ h.0 h.1.0 e (λ x y. tt)
has_held place name (object.Buffer buffer (buffer_type.Raw writable)) element (method.Store n) (p ∷ q ∷ r ∷ rest) k t h e = absurd (three_for_two (length rest) t)
has_held place name (object.Buffer buffer (buffer_type.Raw writable)) element (method.Interlocked g) parts k t h e = has_raw name g buffer parts h t e
has_held place name (object.Input many (Some number) standing sharing) element method.Get [] k t h e = tt
has_held place name (object.Input many (Some number) standing sharing) element method.Get (p ∷ []) k t h e = has_one uint_type p _ h.0 e (λ x. tt)
has_held place name (object.Input many (Some number) standing sharing) element method.Get (p ∷ q ∷ rest) k t h e = absurd (too_many (length rest) (cond many 1 0) (at_most_one many) t)
has_held place name (object.Input many (Some number) standing sharing) element method.Count [] k t h e = tt
has_held place name (object.Input many None standing sharing) element method.Count [] k t h e = tt
has_held place name (object.Input many record_type standing sharing) element method.Count (p ∷ rest) k t h e = absurd (some_for_none (length rest) t)
has_held place name (object.Input many (Some number) standing sharing) element method.Finished [] k t h e = tt
has_held place name (object.Input many None standing sharing) element method.Finished [] k t h e = tt
has_held place name (object.Input many record_type standing sharing) element method.Finished (p ∷ rest) k t h e = absurd (some_for_none (length rest) t)
has_held place name (object.Output output array (Some number)) element (method.Request group) [] k t h e = absurd (cc)
has_held place name (object.Output output array (Some number)) element (method.Request group) (p ∷ []) k t h e = has_one uint_type p _ h.0 e (λ x. tt)
has_held place name (object.Output output array (Some number)) element (method.Request group) (p ∷ q ∷ rest) k t h e = absurd (too_many (length rest) 1 (omega arith) t)
has_held place name (object.Output output array None) element (method.Increment group) [] k t h e = absurd (cc)
has_held place name (object.Output output array None) element (method.Increment group) (p ∷ []) k t h e = has_one uint_type p _ h.0 e (λ x. tt)
has_held place name (object.Output output array None) element (method.Increment group) (p ∷ q ∷ rest) k t h e = absurd (too_many (length rest) 1 (omega arith) t)
has_held place name (object.Output output array (Some number)) element method.IsValid [] k t h e = tt
has_held place name (object.Output output array None) element method.IsValid [] k t h e = tt
has_held place name (object.Output output array record_type) element method.IsValid (p ∷ rest) k t h e = absurd (some_for_none (length rest) t)
has_held place name (object.Handle handle number) element method.Get [] k t h e = tt
has_held place name (object.Handle handle number) element method.Get (p ∷ []) k t h e = has_one uint_type p _ h.0 e (λ x. tt)
has_held place name (object.Handle handle number) element method.Get (p ∷ q ∷ rest) k t h e = absurd (past_one (length rest) t)
has_held place name (object.Handle handle number) element method.Complete [] k t h e = tt
has_held place name (object.Handle handle number) element method.Complete (p ∷ rest) k t h e = absurd (some_for_none (length rest) t)
has_held place name o element m parts k t h e = absurd (cc)

pub has_method : (place name : Place) (o : Object) (element : Option TypedExpr) (m : Method) (parts : List Part) (word : List ℕ) → method_of o word ≡ Some m → takes o m parts ≡ true → AllTyped parts → Well (argument_sites m parts) → Has (method_value place name o element m parts)
has_method place name o element m parts word q = has_held place name o element m parts (method_in (holds_for o) (methods o) word m (all_hold o) q)

pub has_element : (place : Place) (o : Object) (i : TypedExpr) → has_elements o ≡ true → Has (element_value place o i)
has_element place (object.Buffer buffer (buffer_type.Raw writable)) i e = absurd (cc)
has_element place (object.Buffer buffer (buffer_type.Structured writable of)) i e = tt
has_element place (object.Input true (Some number) standing sharing) i e = tt
has_element place (object.Input false (Some number) standing sharing) i e = absurd (cc)
has_element place (object.Input true None standing sharing) i e = absurd (cc)
has_element place (object.Input false None standing sharing) i e = absurd (cc)
has_element place (object.Output output true record_type) i e = tt
has_element place (object.Output output false record_type) i e = absurd (cc)
has_element place (object.Handle handle number) i e = tt
