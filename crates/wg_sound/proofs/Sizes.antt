-- The sizes of types stay when structs are added, and declared types stand in the text.
use Rattle.std.proofs.Common.{◌≡◌, ◌<◌, ℕ, ◌+◌, true, List, [], ◌∷◌, ◌++◌, length, Option, Some, None, refl, sym, ap, ◌∙◌, subst, arith}
use Rattle.std.specs.Prelude.{◌&&◌, nat_lt, nat_le}
use Rattle.std.specs.Option.{unwrap_or, option_or}
use Rattle.std.specs.Str.{bytes_eq}
use Rattle.std.proofs.lemmas.List.{length-append}
use Rattle.wg_typing.specs.AttributeArguments.{is_narrow, is_positive}
use Rattle.wg_typing.specs.Conversions.{element_of, of_value_type}
use Rattle.wg_typing.specs.Maybe.{where_true}
use Rattle.wg_typing.specs.Scope.{Context, look, struct_if, named_type}
use Rattle.wg_typing.specs.TypingDeclared.{type_limit, size_value, type_of_size, declared_type}
use Rattle.wg_typed.specs.Layout.{plain_extent, struct_extent, repeated_extent, fields_extent, field_types, extents_after, extents_of, extent_of, words_of}
use Rattle.wg_typed.specs.declared.types.Extent.{Extent}
use Rattle.wg_sound.specs.StandingTypes.{names_below, stands_in}
use Rattle.wg_tree.specs.declared.expr.Expr.{Expr}
use Rattle.wg_tree.specs.declared.expr.TypeName.{TypeName}
use Rattle.wg_tree.specs.declared.expr.TypeName.TheVariants as type_name
use Rattle.wg_tree.specs.declared.expr.ValueType.{ValueType}
use Rattle.wg_tree.specs.declared.expr.ValueType.TheVariants as value_type
use Rattle.wg_typed.specs.declared.types.ElementType.{ElementType}
use Rattle.wg_typed.specs.declared.types.ElementType.TheVariants as element
use Rattle.wg_typed.specs.declared.types.TypeTree.{TypeTree}
use Rattle.wg_typed.specs.declared.types.TypeTree.TheVariants as type
use Rattle.wg_typed.specs.declared.typed.TypedStruct.{TypedStruct}
use Rattle.wg_typing.specs.declared.scope.Declared.{Declared}
use Rattle.wg_typing.specs.declared.scope.Meant.{Meant}
use Rattle.wg_typing.specs.declared.scope.Meant.TheVariants as meant
use Rattle.wg_facts.proofs.Basics.{If, and_left, and_right, both, if_then, if_was, if_where, less_so, so_less}
use Rattle.wg_facts.proofs.Lists.{nothing_more, joined, front}

-- ---- names

abbrev pub All : (Meant → Type 0) → List Declared → Type 0
All p [] = Unit {0}
All p (d ∷ rest) = p d.meant × All p rest

pub all_push : (p : Meant → Type 0) (names : List Declared) (d : Declared) → All p names → p d.meant → All p (names ++ d ∷ [])
all_push p [] d h k = (k, tt)
all_push p (x ∷ names) d h k = (h.0, all_push p names d h.1 k)

pub all_so : (p q : Meant → Type 0) (names : List Declared) → ((m : Meant) → p m → q m) → All p names → All q names
all_so p q [] f h = tt
all_so p q (d ∷ rest) f h = (f d.meant h.0, all_so p q rest f h.1)

pub look_all : (p : Meant → Type 0) (name : List ℕ) (names : List Declared) → All p names → If p (look name names)
look_all p name [] h = tt
look_all p name (d ∷ rest) h = either (look name rest) (where_true (bytes_eq d.name.name name) d.meant) (look_all p name rest h.1) (if_where p (bytes_eq d.name.name name) d.meant (λ e. h.0))
  where
    either : (a b : Option Meant) → If p a → If p b → If p (option_or a b)
    either None b h k = k
    either (Some m) b h k = h

-- ---- numbers

pub less_longer : {A : Type 0} (n : ℕ) (xs ys : List A) → nat_lt n (length xs) ≡ true → nat_lt n (length (xs ++ ys)) ≡ true
less_longer n xs ys h =
    let l : n < length xs = so_less n (length xs) h in
    subst (λ m. nat_lt n m ≡ true) (sym (length-append xs ys)) (less_so n (length xs + length ys) (omega (arith, l)))

-- ---- sizes

-- what a struct takes after those before it
abbrev pub extent_after : List Extent → TypedStruct → Extent
extent_after extents s = fields_extent extents (field_types s)

pub extents_apart : (extents : List Extent) (xs ys : List TypedStruct) → extents_after extents (xs ++ ys) ≡ extents_after (extents_after extents xs) ys
extents_apart extents [] ys = refl
extents_apart extents (x ∷ xs) ys = extents_apart (extents ++ extent_after extents x ∷ []) xs ys

pub extents_more : (extents : List Extent) (ys : List TypedStruct) → (more : List Extent) × (extents_after extents ys ≡ extents ++ more)
extents_more extents [] = ([], nothing_more extents)
extents_more extents (y ∷ ys) =
    let r = extents_more (extents ++ extent_after extents y ∷ []) ys in
    (extent_after extents y ∷ r.0, r.1 ∙ joined extents (extent_after extents y ∷ []) r.0)

pub extents_count : (extents : List Extent) (xs : List TypedStruct) → length (extents_after extents xs) ≡ length extents + length xs
extents_count extents [] = omega arith
extents_count extents (x ∷ xs) =
    let a = extents_count (extents ++ extent_after extents x ∷ []) xs in
    let b = length-append extents (extent_after extents x ∷ []) in
    a ∙ ap (λ n. n + length xs) b ∙ omega arith

struct_same : (xs ys : List TypedStruct) (n : ℕ) → nat_lt n (length xs) ≡ true → struct_extent (extents_of (xs ++ ys)) n ≡ struct_extent (extents_of xs) n
struct_same xs ys n h =
    let m = extents_more (extents_of xs) ys in
    ap (λ extents. struct_extent extents n) (extents_apart [] xs ys ∙ m.1) ∙ ap (λ o. unwrap_or o (plain_extent 0)) (front (extents_of xs) m.0 n (subst (λ k. nat_lt n k ≡ true) (sym (extents_count [] xs ∙ omega arith)) h))

pub extent_same : (xs ys : List TypedStruct) (t : TypeTree) → names_below (length xs) t ≡ true → extent_of (xs ++ ys) t ≡ extent_of xs t
extent_same xs ys (type.Scalar of) h = refl
extent_same xs ys (type.Vector of size) h = refl
extent_same xs ys (type.Struct number) h = struct_same xs ys number h
extent_same xs ys (type.Array (element.Scalar of) size) h = refl
extent_same xs ys (type.Array (element.Vector of count) size) h = refl
extent_same xs ys (type.Array (element.Struct number) size) h = ap (repeated_extent size) (struct_same xs ys number h)

pub words_same : (xs ys : List TypedStruct) (t : TypeTree) → names_below (length xs) t ≡ true → words_of (xs ++ ys) t ≡ words_of xs t
words_same xs ys t h = ap (λ (x : Extent). x.words) (extent_same xs ys t h)

-- ---- types of names

abbrev pub Below : ℕ → TypeTree → Type 0
Below n t = names_below n t ≡ true

-- the struct that a name stands for is below
abbrev pub StructBelow : ℕ → Meant → Type 0
StructBelow n (meant.Struct number) = nat_lt number n ≡ true
StructBelow n (meant.Constant of words known) = Unit {0}
StructBelow n (meant.Shared variable of) = Unit {0}
StructBelow n (meant.Variable variable of constant) = Unit {0}
StructBelow n (meant.Object o) = Unit {0}
StructBelow n (meant.Function number is_entry result parameters chain) = Unit {0}
StructBelow n meant.Itself = Unit {0}
StructBelow n meant.Broken = Unit {0}

-- ---- the types of names in a text

pub record TypesStand (whole structs : List TypedStruct) (names : List Declared) : Type 0 where
  pub first : (more : List TypedStruct) × (whole ≡ structs ++ more)
  pub sizes : (n : ℕ) → nat_lt n (length structs) ≡ true → nat_le (words_of whole (type.Struct n)) type_limit ≡ true
  pub below : All (StructBelow (length structs)) names

pub types_push : (whole structs : List TypedStruct) (names : List Declared) (d : Declared) → TypesStand whole structs names → StructBelow (length structs) d.meant → TypesStand whole structs (names ++ d ∷ [])
types_push whole structs names d h k = record { first = h.first; sizes = h.sizes; below = all_push (StructBelow (length structs)) names d h.below k }

pub record TypeStands (whole structs : List TypedStruct) (t : TypeTree) : Type 0 where
  pub below : names_below (length structs) t ≡ true
  pub stands : stands_in whole t ≡ true

module _ (whole structs : List TypedStruct) (names : List Declared) (h : TypesStand whole structs names) where
  counted : (n : ℕ) → nat_lt n (length structs) ≡ true → nat_lt n (length whole) ≡ true
  counted n k = subst (λ (xs : List TypedStruct). nat_lt n (length xs) ≡ true) (sym h.first.1) (less_longer n structs h.first.0 k)

  below_longer : (t : TypeTree) → names_below (length structs) t ≡ true → names_below (length whole) t ≡ true
  below_longer (type.Scalar of) k = refl
  below_longer (type.Vector of size) k = refl
  below_longer (type.Struct number) k = counted number k
  below_longer (type.Array (element.Scalar of) size) k = refl
  below_longer (type.Array (element.Vector of count) size) k = refl
  below_longer (type.Array (element.Struct number) size) k = counted number k

  value_stands : (of : ValueType) → TypeStands whole structs (of_value_type of)
  value_stands (value_type.Scalar of) = record { below = refl; stands = refl }
  value_stands (value_type.Vector of size) = record { below = refl; stands = refl }

  struct_stands : (m : Option Meant) → If (StructBelow (length structs)) m → If (TypeStands whole structs) (struct_if m)
  struct_stands None k = tt
  struct_stands (Some (meant.Struct number)) k = record { below = k; stands = both (counted number k) (h.sizes number k) }
  struct_stands (Some (meant.Constant of words known)) k = tt
  struct_stands (Some (meant.Shared variable of)) k = tt
  struct_stands (Some (meant.Variable variable of constant)) k = tt
  struct_stands (Some (meant.Object o)) k = tt
  struct_stands (Some (meant.Function number is_entry result parameters chain)) k = tt
  struct_stands (Some meant.Itself) k = tt
  struct_stands (Some meant.Broken) k = tt

  pub named_stands : (of : TypeName) → If (TypeStands whole structs) (named_type names of)
  named_stands (type_name.Value place of) = value_stands of
  named_stands (type_name.Struct name) = struct_stands (look name.name names) (look_all (StructBelow (length structs)) name.name names h.below)

  array_below : (of : TypeTree) (size : ℕ) → Below (length structs) of → If (λ e. Below (length structs) (type.Array e size)) (element_of of)
  array_below (type.Scalar of) size k = refl
  array_below (type.Vector of count) size k = refl
  array_below (type.Struct number) size k = k
  array_below (type.Array of count) size k = tt

  -- a type with an array's size, before its words are counted
  abbrev Sized : TypeTree → Type 0
  Sized t = (names_below (length structs) t ≡ true) × (nat_le (words_of structs t) type_limit ≡ true → stands_in whole t ≡ true)

  array_sized : (e : ElementType) (size : ℕ) → Below (length structs) (type.Array e size) → nat_lt 0 size ≡ true → Sized (type.Array e size)
  array_sized e size b p = (b, λ l. both (below_longer (type.Array e size) b) (both p (subst (λ m. nat_le m type_limit ≡ true) (sym (ap (λ xs. words_of xs (type.Array e size)) h.first.1 ∙ words_same structs h.first.0 (type.Array e size) b)) l)))

  sized_is : (c : Context) (of : Option TypeTree) (size : Option Expr) → If (TypeStands whole structs) of → If Sized (type_of_size c of size)
  sized_is c of None k = simple of k
    where
      simple : (o : Option TypeTree) → If (TypeStands whole structs) o → If Sized o
      simple None k = tt
      simple (Some t) k = (k.below, λ l. k.stands)
  sized_is c of (Some size) k = if_then (TypeStands whole structs) Sized of _ k (λ t k. if_was Sized (size_value c size) _ (λ v e.
      if_then (λ e. Below (length structs) (type.Array e v.value)) Sized (element_of t) _ (array_below t v.value k.below) (λ x l. if_where Sized (is_positive v) (type.Array x v.value) (λ b.
      array_sized x v.value l (and_right (is_narrow v) _ (and_left (is_narrow v && nat_lt 0 v.value) _ b))))))

  pub declared_stands : (c : Context) → c.structs ≡ structs → (of : Option TypeTree) (size : Option Expr) → If (TypeStands whole structs) of → If (TypeStands whole structs) (declared_type c of size)
  declared_stands c q of size k = if_then Sized (TypeStands whole structs) (type_of_size c of size) _ (sized_is c of size k) (λ t s.
      if_where (TypeStands whole structs) (nat_le (words_of c.structs t) type_limit) t (λ l. record { below = s.0; stands = s.1 (subst (λ xs. nat_le (words_of xs t) type_limit ≡ true) q l) }))
