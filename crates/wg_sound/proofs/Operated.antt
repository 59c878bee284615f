-- Numbers, names, operators and constructors are sound.
use Rattle.std.proofs.Common.{◌≡◌, ◌<◌, ℕ, zero, suc, ◌^◌, Bool, true, false, not, cond, List, [], ◌∷◌, map, Option, Some, None, refl, sym, ap, ◌∙◌, subst, arith}
use Rattle.std.specs.Prelude.{◌&&◌, ◌||◌, ◌==◌, nat_lt, replicate, ℤ, pos, negsuc}
use Rattle.std.proofs.lemmas.List.{length-replicate}
use Rattle.wg_words.specs.declared.place.Place.{Place}
use Rattle.wg_typing.specs.Conversions.{numbers, type_of, same_type, same_scalar, size_fits, fits, is_scalar, number_type, truth_type, common, joined_size, common_numbers, sizes_fit, Class, arithmetic, shift, comparison, logic, suits, class_of, operation, operation_on, truths}
use Rattle.wg_words.specs.Truth.{is_true, truth}
use Rattle.wg_words.specs.Words.{wrapped, signed}
use Rattle.wg_typed.specs.Operators.{width_of, is_signed, integer, counted, common_scalar, literal_scalar, words_for, whole_of, converted_number}
use Rattle.wg_typing.specs.Layers.{typed_part, convert, fit}
use Rattle.wg_typing.specs.Maybe.{where_true}
use Rattle.wg_typing.specs.Named.{is_among}
use Rattle.wg_typing.specs.TypingName.{number_value, truth_value, name_value, const_name, named_value}
use Rattle.wg_typing.specs.TypingOperators.{prefix_type, prefix_value, cast_value, zeros_value, choice_value, suited, if_other, run_on, run_type, chain_type, chain_links, chain_value}
use Rattle.wg_sound.specs.Room.{Room}
use Rattle.wg_sound.specs.SoundExpr.{shown, link_of}
use Rattle.wg_sound.specs.SoundOperators.{same_sizes, same_shape, operates, operates_in, result_in, result_of, before_type, chain_end, is_end, prefix_fits}
use Rattle.wg_sound.specs.StandingTypes.{fits_word, are_words}
use Rattle.wg_facts.specs.Tests.{test, every}
use Rattle.wg_tree.specs.declared.expr.Named.{Named}
use Rattle.wg_tree.specs.declared.expr.Scalar.{Scalar}
use Rattle.wg_tree.specs.declared.expr.Scalar.TheVariants as scalar
use Rattle.wg_tree.specs.declared.expr.BinaryOperator.{BinaryOperator}
use Rattle.wg_tree.specs.declared.expr.PrefixOperator.{PrefixOperator}
use Rattle.wg_tree.specs.declared.expr.PrefixOperator.TheVariants as prefix
use Rattle.wg_typed.specs.declared.types.TypeTree.{TypeTree}
use Rattle.wg_typed.specs.declared.types.TypeTree.TheVariants as type
use Rattle.wg_typed.specs.declared.typed_expr.TypedLink.{TypedLink}
use Rattle.wg_typed.specs.declared.typed_expr.TypedKind.TheVariants as tree
use Rattle.wg_typing.specs.declared.scope.Meant.{Meant}
use Rattle.wg_typing.specs.declared.scope.Meant.TheVariants as meant
use Rattle.wg_typing.specs.declared.scope.Standing.TheVariants as standing
use Rattle.wg_sound.proofs.Numbered.{numbers_type, is_number_type, fits_sized, joined_fits}
use Rattle.wg_facts.proofs.Basics.{and_then, If, and_left, both, some_value, if_then, if_was, if_so, then_some, where_so, where_is, type_is, type_self, same_self, less_so}
use Rattle.wg_sound.proofs.Layered.{Is, is_typed, made, made_fixed, held_Literal, held_Variable, held_Shared, held_Zeros, held_Prefix, held_Convert, held_Chain, held_Choice, link_rolled}
use Rattle.wg_sound.proofs.Meanings.{ValueIs, PartIs, TypedIs, Agrees, typed_is, convert_is, fit_is}
use Rattle.wg_typing.specs.declared.context.Around.TheVariants as surrounding
use Rattle.wg_typing.specs.declared.context.Around.{Around}
use Rattle.wg_typing.specs.declared.numbers.Numbers.{Numbers}
use Rattle.wg_typing.specs.declared.numbers.Operation.{Operation}
use Rattle.wg_typing.specs.declared.part.LinkLayer.{LinkLayer}
use Rattle.wg_typing.specs.declared.part.Part.{Part}

-- ---- numbers of a type

pub test_type : (f : Numbers → Bool) (n : Numbers) → f n ≡ true → test f (numbers (type_of n)) ≡ true
test_type f n h = ap (test f) (numbers_type n) ∙ h

-- no truth
abbrev Counts : Scalar → Type 0
Counts s = not (same_scalar s scalar.Bool) ≡ true

pub counted_counted : (a : Scalar) → not (same_scalar (counted a) scalar.Bool) ≡ true
counted_counted scalar.Bool = refl
counted_counted scalar.Int = refl
counted_counted scalar.Uint = refl
counted_counted scalar.Int16 = refl
counted_counted scalar.Uint16 = refl
counted_counted scalar.Int64 = refl
counted_counted scalar.Uint64 = refl

if_counted : (b : Bool) (s t : Scalar) → Counts s → Counts t → Counts (cond b s t)
if_counted true s t h k = h
if_counted false s t h k = k

integer_counted : (bits : ℕ) (signed : Bool) → Counts (integer bits signed)
integer_counted bits signed =
    if_counted (bits == 16) _ _ (if_counted signed scalar.Int16 scalar.Uint16 refl refl) (if_counted (bits == 64) _ _ (if_counted signed scalar.Int64 scalar.Uint64 refl refl) (if_counted signed scalar.Int scalar.Uint refl refl))

pub common_counted : (a b : Scalar) → not (same_scalar (common_scalar a b) scalar.Bool) ≡ true
common_counted a b = if_counted (nat_lt (width_of (counted a)) (width_of (counted b))) _ _ (counted_counted b) (if_counted (nat_lt (width_of (counted b)) (width_of (counted a))) _ _ (counted_counted a) (integer_counted (width_of (counted a)) (is_signed (counted a) && is_signed (counted b))))

pub sizes_self : (s : Option ℕ) → same_sizes s s ≡ true
sizes_self None = refl
sizes_self (Some m) = same_self m

pub shape_type : (m n : Numbers) → m.size ≡ n.size → same_shape (type_of m) (type_of n) ≡ true
shape_type m n e = test_type (λ (a : Numbers). test (λ (b : Numbers). same_sizes a.size b.size) (numbers (type_of n))) m (test_type (λ (b : Numbers). same_sizes m.size b.size) n (subst (λ s. same_sizes m.size s ≡ true) e (sizes_self m.size)))

-- ---- the words of numbers

below_32 : (z : ℤ) → nat_lt (wrapped 32 z) (2 ^ 32) ≡ true
below_32 z = less_so (wrapped 32 z) (2 ^ 32) (below z)
  where
    below : (z : ℤ) → wrapped 32 z < 2 ^ 32
    below (pos n) = omega arith
    below (negsuc n) = omega arith

below_16 : (z : ℤ) → nat_lt (wrapped 16 z) (2 ^ 32) ≡ true
below_16 z = less_so (wrapped 16 z) (2 ^ 32) (below z)
  where
    below : (z : ℤ) → wrapped 16 z < 2 ^ 32
    below (pos n) = omega arith
    below (negsuc n) = omega arith

truth_below : (b : Bool) → nat_lt (truth b) 2 ≡ true
truth_below true = refl
truth_below false = refl

abbrev OneFits : ℕ → Scalar → Type 0
OneFits n s = are_words (words_for s (n ∷ [])) (type.Scalar s) ≡ true

sized_words : (n : ℕ) (large x y : Bool) → (large ≡ false → nat_lt n (2 ^ 32) ≡ true) → OneFits n (cond large (integer 64 x) (integer 32 y))
sized_words n true true y h = refl
sized_words n true false y h = refl
sized_words n false x true h = both (h refl) refl
sized_words n false x false h = both (h refl) refl

small_so : (a b : Bool) → (a || not b) ≡ false → b ≡ true
small_so true b e = absurd (cc)
small_so false true e = refl
small_so false false e = absurd (cc)

-- those of a number that is written
number_words : (n : ℕ) (unsigned long : Bool) → OneFits n (literal_scalar n unsigned long)
number_words n unsigned long = sized_words n (long || not (nat_lt n (2 ^ 32))) _ _ (small_so long (nat_lt n (2 ^ 32)))

truth_words : (b : Bool) → are_words ((cond b 1 0) ∷ []) truth_type ≡ true
truth_words true = refl
truth_words false = refl

-- those of a constant of a scalar
pub converted_words : (from s : Scalar) (n : ℕ) → OneFits (converted_number from s n) s
converted_words from scalar.Bool n = both (truth_below (is_true n)) refl
converted_words from scalar.Int n = both (below_32 (whole_of from n)) refl
converted_words from scalar.Uint n = both (below_32 (whole_of from n)) refl
converted_words from scalar.Int16 n = both (below_32 (signed 16 (converted_number from scalar.Int16 n))) refl
converted_words from scalar.Uint16 n = both (below_16 (whole_of from n)) refl
converted_words from scalar.Int64 n = refl
converted_words from scalar.Uint64 n = refl

converted_fits : (from s : Scalar) (n : ℕ) → fits_word s (converted_number from s n) ≡ true
converted_fits from scalar.Bool n = truth_below (is_true n)
converted_fits from scalar.Int n = below_32 (whole_of from n)
converted_fits from scalar.Uint n = below_32 (whole_of from n)
converted_fits from scalar.Int16 n = below_16 (whole_of from n)
converted_fits from scalar.Uint16 n = below_16 (whole_of from n)
converted_fits from scalar.Int64 n = refl
converted_fits from scalar.Uint64 n = refl

repeated_fits : (s : Scalar) (m n : ℕ) → fits_word s m ≡ true → every (fits_word s) (replicate n m) ≡ true
repeated_fits s m zero h = refl
repeated_fits s m (suc n) h = both h (repeated_fits s m n h)

-- and of a vector
pub filled_words : (from s : Scalar) (n size : ℕ) → are_words (replicate size (converted_number from s n)) (type.Vector s size) ≡ true
filled_words from s n size = both (subst (λ k. (k == size) ≡ true) (sym (length-replicate size (converted_number from s n))) (same_self size)) (repeated_fits s (converted_number from s n) size (converted_fits from s n))

-- ---- two-sided operators

pub record OperationIs (operator : BinaryOperator) (a b : TypeTree) (o : Operation) : Type 0 where
  pub left : fits a (type_of o.left) ≡ true
  pub operates : operates operator (type_of o.left) (type_of o.right) (type_of o.result) ≡ true
  pub result : result_of operator (type_of o.left) ≡ Some (type_of o.result)

scalar_size : (t : TypeTree) (n : Numbers) → is_scalar t ≡ true → numbers t ≡ Some n → n.size ≡ None
scalar_size (type.Scalar of) n e f = let q : record { of = of; size = None } ≡ n = cc in ap (λ (m : Numbers). m.size) (sym q)
scalar_size (type.Vector of k) n e f = absurd (cc)
scalar_size (type.Struct number) n e f = absurd (cc)
scalar_size (type.Array of k) n e f = absurd (cc)

record InClass (k : Class) (t : TypeTree) (o : Operation) : Type 0 where
  left : fits t (type_of o.left) ≡ true
  operates : operates_in k (type_of o.left) (type_of o.right) (type_of o.result) ≡ true
  result : result_in k (type_of o.left) ≡ Some (type_of o.result)

in_class : (k : Class) (t : TypeTree) (a b : Numbers) (o : Operation) → numbers t ≡ Some a → suits k t ≡ true → operation k a b ≡ Some o → InClass k t o
in_class arithmetic t a b o e s h =
    let c = then_some (common a b) _ o h in
    let d = then_some (joined_size a b) _ c.0 c.1 in
    let q = some_value d.2 in
    let z : (x : Numbers) → record { of = common_scalar a.of b.of; size = d.0 } ≡ x → InClass arithmetic t (record { left = x; right = x; result = x }) = λ x r. record {
      left = fits_sized t a x e (subst (λ (n : Numbers). size_fits a n.size ≡ true) r (joined_fits a b d.0 d.1).0);
      operates = both (test_type (λ (n : Numbers). not (same_scalar n.of scalar.Bool)) x (subst (λ (n : Numbers). not (same_scalar n.of scalar.Bool) ≡ true) r (common_counted a.of b.of))) (both (type_self (type_of x)) (type_self (type_of x)));
      result = refl;
    } in
    subst (InClass arithmetic t) (some_value c.2) (z c.0 q)
in_class shift t a b o e s h =
    let d = then_some (joined_size a b) _ o h in
    let l : Numbers = record { of = counted a.of; size = d.0 } in
    let r : Numbers = record { of = counted b.of; size = d.0 } in
    let z : InClass shift t (record { left = l; right = r; result = l }) = record {
      left = fits_sized t a l e (joined_fits a b d.0 d.1).0;
      operates = both (test_type (λ (n : Numbers). not (same_scalar n.of scalar.Bool)) l (counted_counted a.of)) (both (test_type (λ (n : Numbers). not (same_scalar n.of scalar.Bool)) r (counted_counted b.of)) (both (shape_type l r refl) (type_self (type_of l))));
      result = refl;
    } in
    subst (InClass shift t) (some_value d.2) z
in_class comparison t a b o e s h =
    let c = then_some (common a b) _ o h in
    let d = then_some (joined_size a b) _ c.0 c.1 in
    let q = some_value d.2 in
    let z : (x : Numbers) → record { of = common_scalar a.of b.of; size = d.0 } ≡ x → InClass comparison t (record { left = x; right = x; result = truths x.size }) = λ x r. record {
      left = fits_sized t a x e (subst (λ (n : Numbers). size_fits a n.size ≡ true) r (joined_fits a b d.0 d.1).0);
      operates = both (test_type (λ (n : Numbers). not (same_scalar n.of scalar.Bool)) x (subst (λ (n : Numbers). not (same_scalar n.of scalar.Bool) ≡ true) r (common_counted a.of b.of))) (both (type_self (type_of x)) (both (test_type (λ (n : Numbers). same_scalar n.of scalar.Bool) (truths x.size) refl) (shape_type x (truths x.size) refl)));
      result = ap (λ o. and_then o (λ (n : Numbers). Some (type_of (truths n.size)))) (numbers_type x);
    } in
    subst (InClass comparison t) (some_value c.2) (z c.0 q)
in_class logic t a b o e s h =
    subst (InClass logic t) (some_value h) (record { left = fits_sized t a (truths None) e (ap (λ z. sizes_fit a.of z None) (scalar_size t a s e)); operates = refl; result = refl })

pub operation_is : (operator : BinaryOperator) (a b : TypeTree) (o : Operation) → suited operator a b ≡ Some o → OperationIs operator a b o
operation_is operator a b o h =
    let w = then_some (where_true (suits (class_of operator) a && suits (class_of operator) b) operator) (λ operator. operation_on operator a b) o h in
    let v = where_so (suits (class_of operator) a && suits (class_of operator) b) operator w.0 w.1 in
    let k : operation_on operator a b ≡ Some o = subst (λ x. operation_on x a b ≡ Some o) (sym v.1) w.2 in
    let m = then_some (numbers a) _ o k in
    let n = then_some (numbers b) _ o m.2 in
    let i = in_class (class_of operator) a m.0 n.0 o m.1 (and_left (suits (class_of operator) a) _ v.0) n.2 in
    record { left = i.left; operates = i.operates; result = i.result }

module _ (room : Room) where
  -- ---- numbers and names

  pub number_is : (place : Place) (n : ℕ) (unsigned long : Bool) → If (ValueIs room) (number_value place n unsigned long)
  number_is place n unsigned long =
      let s = literal_scalar n unsigned long in
      made_fixed room place (number_type n unsigned long) (tree.Literal (words_for s (n ∷ []))) _ (held_Literal room (words_for s (n ∷ []))) (number_words n unsigned long)

  pub truth_is : (place : Place) (b : Bool) → If (ValueIs room) (truth_value place b)
  truth_is place b = made_fixed room place truth_type (tree.Literal ((cond b 1 0) ∷ [])) _ (held_Literal room ((cond b 1 0) ∷ [])) (truth_words b)

  local_is : (place : Place) (constant : Bool) (local : ℕ) (of : TypeTree) → Agrees room (meant.Variable local of constant) → If (ValueIs room) (name_value place (Some (meant.Variable local of constant)))
  local_is place true local of h = made_fixed room place of (tree.Variable local) _ (held_Variable room local) h
  local_is place false local of h = made room place standing.Own of (tree.Variable local) _ (held_Variable room local) h (λ e. refl)

  pub name_is : (place : Place) (m : Option Meant) → If (Agrees room) m → If (ValueIs room) (name_value place m)
  name_is place None h = tt
  name_is place (Some (meant.Struct number)) h = tt
  name_is place (Some (meant.Constant of words known)) h = made_fixed room place of (tree.Literal words) _ (held_Literal room words) h
  name_is place (Some (meant.Shared variable of)) h = made room place standing.Memory of (tree.Shared variable) _ (held_Shared room variable) h (λ e. refl)
  name_is place (Some (meant.Variable variable of constant)) h = local_is place constant variable of h
  name_is place (Some (meant.Object object)) h = h
  name_is place (Some (meant.Function number is_entry result parameters chain)) h = tt
  name_is place (Some meant.Itself) h = tt
  name_is place (Some meant.Broken) h = tt

  pub constant_is : (place : Place) (m : Option Meant) → If (Agrees room) m → If (ValueIs room) (const_name place m)
  constant_is place None h = tt
  constant_is place (Some (meant.Struct number)) h = tt
  constant_is place (Some (meant.Constant of words None)) h = tt
  constant_is place (Some (meant.Constant of words (Some known))) h = made_fixed room place of (tree.Literal words) _ (held_Literal room words) h
  constant_is place (Some (meant.Shared variable of)) h = tt
  constant_is place (Some (meant.Variable variable of constant)) h = tt
  constant_is place (Some (meant.Object object)) h = tt
  constant_is place (Some (meant.Function number is_entry result parameters chain)) h = tt
  constant_is place (Some meant.Itself) h = tt
  constant_is place (Some meant.Broken) h = tt

  pub named_is : (around : Around) (name : Named) (m : Option Meant) → If (Agrees room) m → If (ValueIs room) (named_value around name m)
  named_is (surrounding.Entry lanes) name m h = name_is name.place m h
  named_is surrounding.Plain name m h = name_is name.place m h
  named_is surrounding.Const name m h = constant_is name.place m h
  named_is (surrounding.Attribute allowed) name m h = picked (is_among allowed name.name)
    where
      picked : (b : Bool) → If (ValueIs room) (cond b None (const_name name.place m))
      picked true = tt
      picked false = constant_is name.place m h

  pub zeros_is : (place : Place) (m : Option Meant) → If (Agrees room) m → If (ValueIs room) (zeros_value place m)
  zeros_is place None h = tt
  zeros_is place (Some (meant.Struct number)) h = made_fixed room place (type.Struct number) tree.Zeros _ (held_Zeros room) h
  zeros_is place (Some (meant.Constant of words known)) h = tt
  zeros_is place (Some (meant.Shared variable of)) h = tt
  zeros_is place (Some (meant.Variable variable of constant)) h = tt
  zeros_is place (Some (meant.Object object)) h = tt
  zeros_is place (Some (meant.Function number is_entry result parameters chain)) h = tt
  zeros_is place (Some meant.Itself) h = tt
  zeros_is place (Some meant.Broken) h = tt

  -- ---- prefix operators, casts, `?:`

  prefix_typed : (operator : PrefixOperator) (n : Numbers) → prefix_fits operator (type_of (prefix_type operator n)) ≡ true
  prefix_typed prefix.Minus n = test_type (λ (n : Numbers). not (same_scalar n.of scalar.Bool)) (record { of = counted n.of; size = n.size }) (counted_counted n.of)
  prefix_typed prefix.Plus n = test_type (λ (n : Numbers). not (same_scalar n.of scalar.Bool)) (record { of = counted n.of; size = n.size }) (counted_counted n.of)
  prefix_typed prefix.Not n = test_type (λ (n : Numbers). same_scalar n.of scalar.Bool) (truths n.size) refl
  prefix_typed prefix.Complement n = test_type (λ (n : Numbers). not (same_scalar n.of scalar.Bool)) (record { of = counted n.of; size = n.size }) (counted_counted n.of)

  pub prefix_is : (place : Place) (operator : PrefixOperator) (p : Part) → PartIs room p → If (ValueIs room) (prefix_value place operator p)
  prefix_is place operator p h = if_then (TypedIs room) (ValueIs room) (typed_part p) _ (typed_is room p h) (λ t k.
      if_was (ValueIs room) (numbers t.of) _ (λ n e.
      let goal = type_of (prefix_type operator n) in
      if_then (Is room goal) (ValueIs room) (convert goal t) _ (convert_is room goal t k) (λ x i.
      made_fixed room place goal (tree.Prefix operator x) _ (held_Prefix room operator x) (both (is_typed room goal x i) (prefix_typed operator n)))))

  pub cast_is : (place : Place) (goal : TypeTree) (p : Part) → PartIs room p → If (ValueIs room) (cast_value place goal p)
  cast_is place goal p h = if_then (TypedIs room) (ValueIs room) (typed_part p) _ (typed_is room p h) (λ t k.
      if_was (ValueIs room) (where_true (fits t.of goal) t.tree) _ (λ x e.
      let w = where_so (fits t.of goal) t.tree x e in
      let i : Is room t.of x = subst (Is room t.of) w.1 k.is in
      made_fixed room place goal (tree.Convert x) _ (held_Convert room x) (both i.sound (subst (λ y. fits y goal ≡ true) (sym i.of) w.0))))

  pub choice_is : (place : Place) (test first second : Part) → PartIs room test → PartIs room first → PartIs room second → If (ValueIs room) (choice_value place test first second)
  choice_is place test first second h i j = if_then (Is room truth_type) (ValueIs room) (fit truth_type test) _ (fit_is room truth_type test h) (λ x k.
      if_then (TypedIs room) (ValueIs room) (typed_part first) _ (typed_is room first i) (λ a l.
      if_then (TypedIs room) (ValueIs room) (typed_part second) _ (typed_is room second j) (λ b m.
      if_was (ValueIs room) (numbers a.of) _ (λ u e. if_was (ValueIs room) (numbers b.of) _ (λ v f. if_was (ValueIs room) (common_numbers u v) _ (λ c g.
      if_then (Is room (type_of c)) (ValueIs room) (convert (type_of c) a) _ (convert_is room (type_of c) a l) (λ y p.
      if_then (Is room (type_of c)) (ValueIs room) (convert (type_of c) b) _ (convert_is room (type_of c) b m) (λ z q.
      made_fixed room place (type_of c) (tree.Choice x y z) _ (held_Choice room x y z)
      (both (is_typed room truth_type x k) (both (is_number_type c) (both (is_typed room (type_of c) y p) (is_typed room (type_of c) z q))))))))))))

  -- ---- chains

  abbrev pub AllOperands : List (LinkLayer Part) → Type 0
  AllOperands [] = Unit {0}
  AllOperands (l ∷ rest) = PartIs room l.operand × AllOperands rest

  before_is : (from goal : TypeTree) → fits from goal ≡ true → before_type (if_other from goal) from ≡ Some goal
  before_is from goal f = picked (same_type from goal) refl
    where
      picked : (b : Bool) → same_type from goal ≡ b → before_type (cond b None (Some goal)) from ≡ Some goal
      picked true e = ap Some (type_is from goal e)
      picked false e = where_is (fits from goal) goal f

  abbrev LinkIs : TypeTree → LinkLayer Part → TypedLink → Type 0
  LinkIs from l x = link_of room x from ≡ run_type from l

  link_is : (from : TypeTree) (l : LinkLayer Part) → PartIs room l.operand → If (LinkIs from l) (run_on from l)
  link_is from l h = if_was (LinkIs from l) (typed_part l.operand) _ (λ t e. if_was (LinkIs from l) (suited l.operator from t.of) _ (λ o f.
      let k = if_so (TypedIs room) (typed_part l.operand) t e (typed_is room l.operand h) in
      let g = operation_is l.operator from t.of o f in
      if_then (Is room (type_of o.right)) (LinkIs from l) (convert (type_of o.right) t) _ (convert_is room (type_of o.right) t k) (λ x i.
      let w : (shown room x).sound && operates l.operator (type_of o.left) (shown room x).of (type_of o.result) ≡ true = both i.sound (subst (λ y. operates l.operator (type_of o.left) y (type_of o.result) ≡ true) (sym i.of) g.operates) in
      ap (λ (y : TypeTree → Option TypeTree). y from) (link_rolled room (record { operator = l.operator; before = if_other from (type_of o.left); operand = x; of = type_of o.result }))
      ∙ ap (λ y. and_then y (λ left. where_true ((shown room x).sound && operates l.operator left (shown room x).of (type_of o.result)) (type_of o.result))) (before_is from (type_of o.left) g.left)
      ∙ where_is _ (type_of o.result) w
      ∙ sym (ap (λ y. and_then y (λ t. and_then (suited l.operator from t.of) (λ o. Some (type_of o.result)))) e ∙ ap (λ y. and_then y (λ o. Some (type_of o.result))) f))))

  abbrev LinksAre : Option TypeTree → List (LinkLayer Part) → List TypedLink → Type 0
  LinksAre before rest links = and_then before (chain_end (map (link_of room) links)) ≡ chain_type before rest

  links_are : (before : Option TypeTree) (rest : List (LinkLayer Part)) → AllOperands rest → If (LinksAre before rest) (chain_links before rest)
  links_are None [] h = refl
  links_are None (l ∷ rest) h = tt
  links_are (Some from) [] h = refl
  links_are (Some from) (l ∷ rest) h = if_then (LinkIs from l) (LinksAre (Some from) (l ∷ rest)) (run_on from l) _ (link_is from l h.0) (λ x e.
      if_then (LinksAre (run_type from l) rest) (LinksAre (Some from) (l ∷ rest)) (chain_links (run_type from l) rest) _ (links_are (run_type from l) rest h.1) (λ xs f.
      ap (λ o. and_then o (chain_end (map (link_of room) xs))) e ∙ f))

  pub chain_is : (place : Place) (first : Part) (rest : List (LinkLayer Part)) → PartIs room first → AllOperands rest → If (ValueIs room) (chain_value place first rest)
  chain_is place first rest h k = if_then (TypedIs room) (ValueIs room) (typed_part first) _ (typed_is room first h) (λ t i.
      if_then (LinksAre (Some t.of) rest) (ValueIs room) (chain_links (Some t.of) rest) _ (links_are (Some t.of) rest k) (λ links e.
      if_was (ValueIs room) (chain_type (Some t.of) rest) _ (λ of f.
      made_fixed room place of (tree.Chain t.tree links) _ (held_Chain room t.tree links)
      (both i.is.sound (ap (λ x. is_end of (chain_end (map (link_of room) links) x)) i.is.of ∙ ap (is_end of) (e ∙ f) ∙ type_self of)))))
