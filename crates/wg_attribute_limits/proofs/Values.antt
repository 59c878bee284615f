-- What attributes say is within its range, whatever the text.
use Rattle.std.proofs.Common.{◌≤◌, ◌<◌, ◌*◌, ℕ, nat_le, nat_lt, List, [], ◌∷◌, Option, Some, None, unwrap_or, arith, IsTrue}
use Rattle.std.specs.Prelude.{◌&&◌}
use Rattle.std.proofs.lemmas.Bool.{leb-true}
use Rattle.wg_words.specs.Characters.{is_identifier}
use Rattle.wg_typing.specs.AttributeArguments.{first_named, first_called, is_narrow}
use Rattle.wg_typing.specs.AttributeRange.{groups_in}
use Rattle.wg_typed.specs.declared.types.ConstValue.{ConstValue}
use Rattle.wg_typed.specs.declared.typed_stmt.ArgumentValue.{ArgumentValue}
use Rattle.wg_typed.specs.declared.typed_stmt.ArgumentValue.TheVariants as argument
use Rattle.wg_typed.specs.declared.typed_stmt.TypedArgument.{TypedArgument}
use Rattle.wg_typed.specs.declared.typed_stmt.TypedAttribute.{TypedAttribute}
use Rattle.wg_machine.specs.GoodShape.{IsBetween, IsGoodGrid}
use Rattle.wg_facts.proofs.Basics.{If, if_then, if_was, if_where, and_left, and_right, so_less}
use Rattle.wg_node_attributes.specs.Axes.{few_groups, grid_in, grid_named, grid_said, one_each}
use Rattle.wg_node_attributes.specs.Ids.{first_name, id_index, id_name, index_said, name_in, name_said, second_number}
use Rattle.wg_node_attributes.specs.Numbers.{between, count_said, number_in, number_said, one_number}
use Rattle.wg_node_attributes.specs.declared.attributes.Axes.{Axes}

pub unwrapped : {A : Type 0} (p : A → Type 0) (o : Option A) (d : A) → If p o → p d → p (unwrap_or o d)
unwrapped p None d h k = k
unwrapped p (Some a) d h k = h

-- ---- numbers

between_is : (low high : ℕ) (v : ConstValue) → If (IsBetween low high) (between low high v)
between_is low high v =
    if_where (IsBetween low high) (is_narrow v && nat_le low v.value && nat_le v.value high) v.value (λ h.
    let front = and_left (is_narrow v && nat_le low v.value) (nat_le v.value high) h in
    record { low = leb-true low v.value (and_right (is_narrow v) (nat_le low v.value) front); high = leb-true v.value high (and_right (is_narrow v && nat_le low v.value) (nat_le v.value high) h) })

number_in_is : (low high : ℕ) (x : ArgumentValue) → If (IsBetween low high) (number_in low high x)
number_in_is low high (argument.Number v) = between_is low high v
number_in_is low high (argument.Text bytes) = tt
number_in_is low high (argument.Parameter number) = tt
number_in_is low high argument.Other = tt

one_number_is : (low high : ℕ) (xs : List TypedArgument) → If (IsBetween low high) (one_number low high xs)
one_number_is low high [] = tt
one_number_is low high (a ∷ []) = number_in_is low high a.value
one_number_is low high (a ∷ b ∷ rest) = tt

pub number_is : (low high : ℕ) (name : List ℕ) (attributes : List TypedAttribute) → If (IsBetween low high) (number_said low high name attributes)
number_is low high name attributes = if_was (IsBetween low high) (first_named name attributes) (λ a. one_number low high a.arguments) (λ a e. one_number_is low high a.arguments)

pub count_is : (high : ℕ) (name : List ℕ) (attributes : List TypedAttribute) → 1 ≤ high → IsBetween 1 high (count_said high name attributes)
count_is high name attributes h = unwrapped (IsBetween 1 high) (number_said 1 high name attributes) 1 (number_is 1 high name attributes) (record { low = omega arith; high = h })

-- ---- grids

abbrev pub IsGoodAxes : Axes → Type 0
IsGoodAxes a = IsGoodGrid a.x a.y a.z

groups_is : (x : ArgumentValue) → If (IsBetween 1 65535) (groups_in x)
groups_is (argument.Number v) = between_is 1 65535 v
groups_is (argument.Text bytes) = tt
groups_is (argument.Parameter number) = tt
groups_is argument.Other = tt

few_groups_is : (a b c : ℕ) → IsBetween 1 65535 a → IsBetween 1 65535 b → IsBetween 1 65535 c → If IsGoodAxes (few_groups a b c)
few_groups_is a b c p q r =
    if_where IsGoodAxes (nat_lt (a * b * c) 16777216) (record { x = a; y = b; z = c }) (λ h. record { x_fits = p; y_fits = q; z_fits = r; product = so_less (a * b * c) 16777216 h })

grid_in_is : (xs : List TypedArgument) → If IsGoodAxes (grid_in xs)
grid_in_is [] = tt
grid_in_is (x ∷ []) = tt
grid_in_is (x ∷ y ∷ []) = tt
grid_in_is (x ∷ y ∷ z ∷ []) =
    if_then (IsBetween 1 65535) IsGoodAxes (groups_in x.value) _ (groups_is x.value) (λ a p.
    if_then (IsBetween 1 65535) IsGoodAxes (groups_in y.value) _ (groups_is y.value) (λ b q.
    if_then (IsBetween 1 65535) IsGoodAxes (groups_in z.value) _ (groups_is z.value) (λ c r. few_groups_is a b c p q r)))
grid_in_is (x ∷ y ∷ z ∷ w ∷ rest) = tt

pub grid_is : (name : List ℕ) (attributes : List TypedAttribute) → IsGoodAxes (grid_said name attributes)
grid_is name attributes =
    unwrapped IsGoodAxes (grid_named name attributes) one_each (if_was IsGoodAxes (first_named name attributes) (λ a. grid_in a.arguments) (λ a e. grid_in_is a.arguments))
    (record { x_fits = record { low = omega arith; high = omega arith }; y_fits = record { low = omega arith; high = omega arith }; z_fits = record { low = omega arith; high = omega arith }; product = omega arith })

-- ---- names and indices

abbrev pub IsName : List ℕ → Type 0
IsName name = IsTrue (is_identifier name)

name_in_is : (x : ArgumentValue) → If IsName (name_in x)
name_in_is (argument.Number v) = tt
name_in_is (argument.Text bytes) = if_where IsName (is_identifier bytes) bytes (λ h. h)
name_in_is (argument.Parameter number) = tt
name_in_is argument.Other = tt

first_name_is : (xs : List TypedArgument) → If IsName (first_name xs)
first_name_is [] = tt
first_name_is (name ∷ []) = name_in_is name.value
first_name_is (name ∷ index ∷ []) = name_in_is name.value
first_name_is (name ∷ index ∷ x ∷ rest) = tt

pub name_is : (own : List ℕ) (attributes : List TypedAttribute) → IsName own → IsName (id_name own attributes)
name_is own attributes h = unwrapped IsName (name_said attributes) own (if_was IsName (first_called "NodeID" attributes) (λ a. first_name a.arguments) (λ a e. first_name_is a.arguments)) h

second_number_is : (xs : List TypedArgument) → If (IsBetween 0 255) (second_number xs)
second_number_is [] = tt
second_number_is (name ∷ []) = tt
second_number_is (name ∷ index ∷ []) = number_in_is 0 255 index.value
second_number_is (name ∷ index ∷ x ∷ rest) = tt

pub index_is : (attributes : List TypedAttribute) → id_index attributes < 256
index_is attributes =
    let within = unwrapped (IsBetween 0 255) (index_said attributes) 0 (if_was (IsBetween 0 255) (first_called "NodeID" attributes) (λ a. second_number a.arguments) (λ a e. second_number_is a.arguments)) (record { low = omega arith; high = omega arith }) in
    let high = within.high in
    omega (arith, high)
