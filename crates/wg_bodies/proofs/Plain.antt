-- What is not in a sound plain function: an input, outputs, handles. And what its calls and lists of operands say of their parts.
use Rattle.std.proofs.Common.{◌≡◌, ℕ, Bool, true, false, not, List, [], ◌∷◌, ◌++◌, length, Option, Some, None, refl, sym, ap, ◌∙◌, subst, arith, ◌<◌}
use Rattle.std.proofs.lemmas.Grind.{common_steps}
use Rattle.std.specs.Prelude.{◌&&◌, nat_lt, slice_get}
use Rattle.wg_words.specs.Maybe.{◌>>=◌}
use Rattle.wg_typing.specs.Conversions.{numbers}
use Rattle.wg_typing.specs.TypingIntrinsic.{Reckons, in_common, in_uint, to_one_truth, in_truths, choosing}
use Rattle.wg_sound.specs.Room.{Room, Output, Input, is_node, output_at, input_in, handle_record, output_of, outputs_of, input_of, input_of_type}
use Rattle.wg_sound.specs.Sound.{parameter_stands, handle_stands, IsSoundFunction}
use Rattle.wg_sound.specs.SoundCalls.{passes, all_pass, same_result, gives, calls, are_of, all_are, is_uint_type, reckons_on, is_part, constructs}
use Rattle.wg_sound.specs.SoundForms.{Shown, is_a}
use Rattle.wg_sound.specs.SoundOperators.{is_counted, is_truths, truths_like}
use Rattle.wg_sound.specs.Room.{is_record, is_value_of}
use Rattle.wg_facts.specs.Tests.{test, every}
use Rattle.wg_typed.specs.declared.types.TypeTree.{TypeTree}
use Rattle.wg_typed.specs.declared.typed.Typed.{Typed}
use Rattle.wg_typed.specs.declared.typed.TypedFunction.{TypedFunction}
use Rattle.wg_typed.specs.declared.typed.TypedHandle.{TypedHandle}
use Rattle.wg_typed.specs.declared.typed.TypedParameter.{TypedParameter}
use Rattle.wg_typed.specs.declared.typed.TypedParameterType.{TypedParameterType}
use Rattle.wg_typed.specs.declared.typed.TypedParameterType.TheVariants as parameter
use Rattle.wg_typed.specs.declared.typed.TypedStruct.{TypedStruct}
use Rattle.wg_typing.specs.declared.numbers.Numbers.{Numbers}
use Rattle.wg_facts.proofs.Basics.{and_left, and_right, both, test_so}

-- ---- tests

test_none : {A : Type 0} (f : A → Bool) (o : Option A) → o ≡ None → test f o ≡ true → ⊥
test_none f None e h = cc
test_none f (Some a) e h = cc

pub never_both : (b : Bool) → b ≡ false → b ≡ true → ⊥
never_both true e h = cc
never_both false e h = cc

-- ---- lists of sound expressions

abbrev pub AllSound : List Shown → Type 0
AllSound es = every (λ (e : Shown). e.sound) es ≡ true

each_so : (f : Shown → Bool) → ((e : Shown) → f e ≡ true → e.sound ≡ true) → (es : List Shown) → every f es ≡ true → AllSound es
each_so f so [] h = refl
each_so f so (e ∷ es) h = both (so e (and_left (f e) _ h)) (each_so f so es (and_right (f e) _ h))

are_sound : (types : List TypeTree) (es : List Shown) → are_of types es ≡ true → AllSound es
are_sound [] [] h = refl
are_sound [] (e ∷ es) h = absurd (cc)
are_sound (t ∷ types) [] h = absurd (cc)
are_sound (t ∷ types) (e ∷ es) h = both (and_left e.sound _ (and_left (is_a t e) _ h)) (are_sound types es (and_right (is_a t e) _ h))

all_are_sound : (t : TypeTree) (es : List Shown) → all_are t es ≡ true → AllSound es
all_are_sound t es h = each_so (is_a t) (λ e k. and_left e.sound _ k) es h

pub reckoned_sound : (r : Reckons) (t : TypeTree) (es : List Shown) → reckons_on r t es ≡ true → AllSound es
reckoned_sound in_common t es h = all_are_sound t es (and_right (is_counted t) _ h)
reckoned_sound in_uint t es h = all_are_sound t es (and_right (is_uint_type t) _ h)
reckoned_sound to_one_truth t es h = each_so (λ (a : Shown). a.sound && is_truths a.of) (λ e k. and_left e.sound _ k) es (and_right _ _ h)
reckoned_sound in_truths t es h = all_are_sound t es (and_right (is_truths t) _ h)
reckoned_sound choosing t es h = let x = test_so (λ truth. are_of (truth ∷ t ∷ t ∷ []) es) (truths_like t) h in are_sound (x.0 ∷ t ∷ t ∷ []) es x.2

pub constructed_sound : (t : TypeTree) (es : List Shown) → constructs t es ≡ true → AllSound es
constructed_sound t es h =
    let x = test_so (λ (n : Numbers). every (is_part n.of) es) (numbers t) (and_left _ _ h) in
    each_so (is_part x.0.of) (λ e k. and_left e.sound _ k) es x.2

passed_sound : (ps : List TypedParameter) (es : List Shown) → all_pass ps es ≡ true → AllSound es
passed_sound [] [] h = refl
passed_sound [] (e ∷ es) h = absurd (cc)
passed_sound (p ∷ ps) [] h = absurd (cc)
passed_sound (p ∷ ps) (e ∷ es) h = both (and_left e.sound _ (and_right (is_value_of e.of p.of) _ (and_left (passes p e) _ h))) (passed_sound ps es (and_right (passes p e) _ h))

-- a call of a plain function before the own one
pub record CallsPlain (room : Room) (number : ℕ) (es : List Shown) : Type 0 where
  pub function : TypedFunction
  pub before : nat_lt number room.number ≡ true
  pub at : slice_get room.text.functions number ≡ Some function
  pub plain : is_node function ≡ false
  pub sound : AllSound es

not_so : (b : Bool) → not b ≡ true → b ≡ false
not_so true e = cc
not_so false e = refl

pub calls_plain : (room : Room) (number : ℕ) (result : Option TypeTree) (es : List Shown) → calls room number result es ≡ true → CallsPlain room number es
calls_plain room number result es h =
    let x = test_so (λ (f : TypedFunction). not (is_node f) && gives result es f) (slice_get room.text.functions number) (and_right (nat_lt number room.number) _ h) in
    record {
      function = x.0;
      before = and_left (nat_lt number room.number) _ h;
      at = x.1;
      plain = not_so (is_node x.0) (and_left (not (is_node x.0)) _ x.2);
      sound = passed_sound x.0.parameters es (and_right (same_result x.0.result result) _ (and_right (not (is_node x.0)) _ x.2));
    }

-- ---- a plain function has no objects

pub record IsPlain (room : Room) : Type 0 where
  pub node : is_node room.function ≡ false
  pub outputs : outputs_of room.function.parameters ≡ []
  pub input : input_of room.function.parameters ≡ None
  pub handles : room.function.handles ≡ []

no_outputs : (structs : List TypedStruct) (ps : List TypedParameter) → every (λ (p : TypedParameter). parameter_stands structs false p.of) ps ≡ true → outputs_of ps ≡ []
no_outputs structs [] h = refl
no_outputs structs (p ∷ ps) h = by_type p.of (and_left (parameter_stands structs false p.of) _ h) ∙ no_outputs structs ps (and_right (parameter_stands structs false p.of) _ h)
  where
    by_type : (of : TypedParameterType) → parameter_stands structs false of ≡ true → output_of of ++ outputs_of ps ≡ outputs_of ps
    by_type (parameter.Value of) k = refl
    by_type (parameter.Object place word None) k = absurd (cc)
    by_type (parameter.Object place word (Some number)) k = absurd (cc)

no_input : (structs : List TypedStruct) (ps : List TypedParameter) → every (λ (p : TypedParameter). parameter_stands structs false p.of) ps ≡ true → input_of ps ≡ None
no_input structs [] h = refl
no_input structs (p ∷ ps) h = by_type p.of (and_left (parameter_stands structs false p.of) _ h) ∙ no_input structs ps (and_right (parameter_stands structs false p.of) _ h)
  where
    by_type : (of : TypedParameterType) → parameter_stands structs false of ≡ true → input_of_type of (input_of ps) ≡ input_of ps
    by_type (parameter.Value of) k = refl
    by_type (parameter.Object place word None) k = absurd (cc)
    by_type (parameter.Object place word (Some number)) k = absurd (cc)

no_handles : (room : Room) (hs : List TypedHandle) → outputs_of room.function.parameters ≡ [] → every (handle_stands room) hs ≡ true → hs ≡ []
no_handles room [] e h = refl
no_handles room (x ∷ hs) e h = absurd (test_none _ (output_at room x.output) (ap (λ os. slice_get os x.output) e) (and_left (handle_stands room x) _ h))

pub plain_room : (text : Typed) (number : ℕ) (f : TypedFunction) → IsSoundFunction text number f → is_node f ≡ false → IsPlain (record { text = text; function = f; number = number })
plain_room text number f h e =
    let ps = subst (λ b. every (λ (p : TypedParameter). parameter_stands text.structs b p.of) f.parameters ≡ true) e h.parameters in
    let os = no_outputs text.structs f.parameters ps in
    record {
      node = e;
      outputs = os;
      input = no_input text.structs f.parameters ps;
      handles = no_handles (record { text = text; function = f; number = number }) f.handles os h.handles;
    }

module _ (room : Room) (plain : IsPlain room) where
  pub names_no_output : (f : Output → Bool) (output : ℕ) → test f (output_at room output) ≡ true → ⊥
  names_no_output f output h = test_none f (output_at room output) (ap (λ os. slice_get os output) plain.outputs) h

  pub names_no_record : (t : TypeTree) (handle : ℕ) → is_record t (handle_record room handle) ≡ true → ⊥
  names_no_record t handle h = never_both (is_record t (handle_record room handle)) (ap (λ hs. is_record t (slice_get hs handle >>= (λ (h : TypedHandle). output_at room h.output >>= (λ (o : Output). o.record_type)))) plain.handles) h

  pub names_no_handle : (handle : ℕ) → nat_lt handle (length room.function.handles) ≡ true → ⊥
  names_no_handle handle h = nothing_below handle (sym (ap (λ (hs : List TypedHandle). nat_lt handle (length hs)) plain.handles) ∙ h)
    where
      nothing_below : (n : ℕ) → nat_lt n 0 ≡ true → ⊥
      nothing_below n k = let l : n < 0 = grind (arith, common_steps, k) in omega (arith, l)

  pub names_no_input : (f : Input → Bool) → test f (input_in room) ≡ true → ⊥
  names_no_input f h = test_none f (input_in room) plain.input h
