-- Measures below a bound: numbers, names, operators, constructors, and calls with values.
use Rattle.std.proofs.Common.{◌≡◌, ℕ, suc, Bool, true, false, cond, List, [], ◌∷◌, map, Option, Some, None, sym, subst, arith, refl}
use Rattle.std.specs.Prelude.{◌^◌, ◌%◌, not, nat_lt, ◌&&◌, ◌||◌, ◌==◌, length}
use Rattle.wg_words.specs.declared.place.Place.{Place}
use Rattle.wg_typing.specs.Conversions.{numbers, type_of, number_type, truth_type, truths, fits, same_type, suits, common, common_numbers, joined_size, operation, Class, arithmetic, shift, comparison, logic, class_of}
use Rattle.wg_typing.specs.Layers.{tree_of, typed_part, all_typed_parts, convert, fit}
use Rattle.wg_typing.specs.Maybe.{where_true}
use Rattle.wg_typing.specs.Named.{is_among}
use Rattle.wg_typing.specs.TypingConstructor.{components, component_count, all_make, constructed}
use Rattle.wg_typing.specs.TypingFunctionCall.{passed_place, passed_as, passed_all, chain_fits, plain_call, plain_value}
use Rattle.wg_typing.specs.TypingIntrinsic.{Reckons, in_common, in_uint, to_one_truth, in_truths, choosing, reckons, arity_of, all_suit, size_of_all, all_fit_size, joined_size_of, scalar_of_all, chosen_of_size, signature, all_numbers, convert_all, signature_on, intrinsic_value}
use Rattle.wg_typing.specs.TypingName.{number_value, truth_value, name_value, const_name, named_value}
use Rattle.wg_typing.specs.TypingOperators.{prefix_type, prefix_value, cast_value, zeros_value, choice_value, suited, if_other, run_on, run_type, type_after, chain_type, chain_links, chain_value}
use Rattle.wg_typed.specs.Operators.{integer, counted, literal_scalar, words_for}
use Rattle.wg_tree.specs.declared.expr.Named.{Named}
use Rattle.wg_tree.specs.declared.expr.BinaryOperator.{BinaryOperator}
use Rattle.wg_tree.specs.declared.expr.PrefixOperator.{PrefixOperator}
use Rattle.wg_tree.specs.declared.expr.PrefixOperator.TheVariants as prefix
use Rattle.wg_tree.specs.declared.expr.Scalar.{Scalar}
use Rattle.wg_tree.specs.declared.expr.Scalar.TheVariants as scalar
use Rattle.wg_tree.specs.declared.item.Direction.{Direction}
use Rattle.wg_tree.specs.declared.item.Direction.TheVariants as direction
use Rattle.wg_typed.specs.declared.types.TypeTree.{TypeTree}
use Rattle.wg_typed.specs.declared.types.TypeTree.TheVariants as type
use Rattle.wg_typed.specs.declared.typed_expr.Access.TheFolds.{fold-roll-TypedLink}
use Rattle.wg_typed.specs.declared.typed_expr.Access.TheOpen.{TypedKind-F, TypedLink-F}
use Rattle.wg_typed.specs.declared.typed_expr.Access.{Access}
use Rattle.wg_typed.specs.declared.typed_expr.Intrinsic.{Intrinsic}
use Rattle.wg_typed.specs.declared.typed_expr.TypedExpr.{TypedExpr}
use Rattle.wg_typed.specs.declared.typed_expr.TypedKind.{TypedKind}
use Rattle.wg_typed.specs.declared.typed_expr.TypedKind.TheVariants as tree
use Rattle.wg_typed.specs.declared.typed_expr.TypedLink.{TypedLink, roll-TypedLink}
use Rattle.wg_typing.specs.declared.context.Around.{Around}
use Rattle.wg_typing.specs.declared.context.Around.TheVariants as surrounding
use Rattle.wg_typing.specs.declared.numbers.Numbers.{Numbers}
use Rattle.wg_typing.specs.declared.numbers.Operation.{Operation}
use Rattle.wg_typing.specs.declared.numbers.Signature.{Signature}
use Rattle.wg_typing.specs.declared.part.LinkLayer.{LinkLayer}
use Rattle.wg_typing.specs.declared.part.Part.{Part}
use Rattle.wg_typing.specs.declared.part.TypedPart.{TypedPart}
use Rattle.wg_typing.specs.declared.scope.FormalParameter.{FormalParameter}
use Rattle.wg_typing.specs.declared.scope.Meant.{Meant}
use Rattle.wg_typing.specs.declared.scope.Meant.TheVariants as meant
use Rattle.wg_facts.proofs.Basics.{less_so, and_then, If, if_then, if_was, if_where, where_so}
use Rattle.wg_limits.specs.Measure.{is_logical, all_joined, access_gives, before_gives, kind_gives, expr_gives, link_gives, of_expr, of_link, of_exprs}
use Rattle.wg_limits.proofs.Parts.{FineSize, AllWords, Bound, numbers_fine, type_fine, common_size_fine, joined_fine, ExprBelow, Fine, made, AllExprs, exprs_below, ValueBelow, PartBelow, AllParts, TypedBelow, AllTyped, typed_below, all_typed_below, convert_below, fit_below, AllFormals, CallFine, NameBelow}

-- the low word of a number
pub low_word : (n : ℕ) → nat_lt (n % 2 ^ 32) (2 ^ 32) ≡ true
low_word n = less_so (n % 2 ^ 32) (2 ^ 32) (omega arith)

small_so : (a b : Bool) → (a || not b) ≡ false → b ≡ true
small_so true b e = absurd (cc)
small_so false true e = refl
small_so false false e = absurd (cc)

module _ (k : Bound) where
  -- ---- numbers and names

  literal_below : (b : ℕ) (place : Place) (t : TypeTree) (words : List ℕ) → Fine k t → AllWords k.Word words → ExprBelow k b (tree_of place t (tree.Literal words)) × Fine k t
  literal_below b place t words f w = (made k place t b (TypedKind-F.Literal words) (tree.Literal words) (tree.rolls-Literal words) f (k.literal words b w), f)

  sized_words : (n : ℕ) (large x y : Bool) → k.Wrote (nat_lt n (2 ^ 64)) → (large ≡ false → nat_lt n (2 ^ 32) ≡ true) → AllWords k.Word (words_for (cond large (integer 64 x) (integer 32 y)) (n ∷ []))
  sized_words n true true y o h = (k.word (n % 2 ^ 32) (low_word n), (k.high n o, tt))
  sized_words n true false y o h = (k.word (n % 2 ^ 32) (low_word n), (k.high n o, tt))
  sized_words n false x true o h = (k.word n (h refl), tt)
  sized_words n false x false o h = (k.word n (h refl), tt)

  pub number_below : (b : ℕ) (place : Place) (n : ℕ) (unsigned long : Bool) → k.Wrote (nat_lt n (2 ^ 64)) → If (ValueBelow k b) (number_value place n unsigned long)
  number_below b place n unsigned long o = literal_below b place (number_type n unsigned long) (words_for (literal_scalar n unsigned long) (n ∷ [])) tt
      (sized_words n (long || not (nat_lt n (2 ^ 32))) (not unsigned && nat_lt n (2 ^ 63)) (not unsigned && nat_lt n (2 ^ 31)) o (small_so long (nat_lt n (2 ^ 32))))

  pub truth_below : (b : ℕ) (place : Place) (v : Bool) → If (ValueBelow k b) (truth_value place v)
  truth_below b place true = literal_below b place truth_type (1 ∷ []) tt (k.word 1 refl, tt)
  truth_below b place false = literal_below b place truth_type (0 ∷ []) tt (k.word 0 refl, tt)

  name_below : (b : ℕ) (place : Place) (n : Option Meant) → If (NameBelow k) n → If (ValueBelow k b) (name_value place n)
  name_below b place None h = tt
  name_below b place (Some (meant.Struct number)) h = tt
  name_below b place (Some (meant.Constant of words known)) h = literal_below b place of words h.0 h.1
  name_below b place (Some (meant.Shared variable of)) h = (made k place of b (TypedKind-F.Shared variable) (tree.Shared variable) (tree.rolls-Shared variable) h (k.none b), h)
  name_below b place (Some (meant.Variable variable of constant)) h = (made k place of b (TypedKind-F.Variable variable) (tree.Variable variable) (tree.rolls-Variable variable) h (k.none b), h)
  name_below b place (Some (meant.Object object)) h = (h, tt)
  name_below b place (Some (meant.Function number is_entry result parameters chain)) h = tt
  name_below b place (Some meant.Itself) h = tt
  name_below b place (Some meant.Broken) h = tt

  constant_below : (b : ℕ) (place : Place) (n : Option Meant) → If (NameBelow k) n → If (ValueBelow k b) (const_name place n)
  constant_below b place None h = tt
  constant_below b place (Some (meant.Struct number)) h = tt
  constant_below b place (Some (meant.Constant of words None)) h = tt
  constant_below b place (Some (meant.Constant of words (Some known))) h = literal_below b place of words h.0 h.1
  constant_below b place (Some (meant.Shared variable of)) h = tt
  constant_below b place (Some (meant.Variable variable of constant)) h = tt
  constant_below b place (Some (meant.Object object)) h = tt
  constant_below b place (Some (meant.Function number is_entry result parameters chain)) h = tt
  constant_below b place (Some meant.Itself) h = tt
  constant_below b place (Some meant.Broken) h = tt

  pub named_below : (b : ℕ) (around : Around) (name : Named) (n : Option Meant) → If (NameBelow k) n → If (ValueBelow k b) (named_value around name n)
  named_below b (surrounding.Entry lanes) name n h = name_below b name.place n h
  named_below b surrounding.Plain name n h = name_below b name.place n h
  named_below b surrounding.Const name n h = constant_below b name.place n h
  named_below b (surrounding.Attribute allowed) name n h = picked (is_among allowed name.name)
    where
      picked : (hidden : Bool) → If (ValueBelow k b) (cond hidden None (const_name name.place n))
      picked true = tt
      picked false = constant_below b name.place n h

  pub zeros_below : (b : ℕ) (place : Place) (n : Option Meant) → If (ValueBelow k b) (zeros_value place n)
  zeros_below b place None = tt
  zeros_below b place (Some (meant.Struct number)) = (made k place (type.Struct number) b TypedKind-F.Zeros tree.Zeros tree.rolls-Zeros tt (k.none b), tt)
  zeros_below b place (Some (meant.Constant of words known)) = tt
  zeros_below b place (Some (meant.Shared variable of)) = tt
  zeros_below b place (Some (meant.Variable variable of constant)) = tt
  zeros_below b place (Some (meant.Object object)) = tt
  zeros_below b place (Some (meant.Function number is_entry result parameters chain)) = tt
  zeros_below b place (Some meant.Itself) = tt
  zeros_below b place (Some meant.Broken) = tt

  -- ---- prefix operators, casts, `?:`

  prefix_fine : (operator : PrefixOperator) (n : Numbers) → FineSize k.Sized n.size → Fine k (type_of (prefix_type operator n))
  prefix_fine prefix.Minus n h = type_fine k.Sized (prefix_type prefix.Minus n) h
  prefix_fine prefix.Plus n h = type_fine k.Sized (prefix_type prefix.Plus n) h
  prefix_fine prefix.Not n h = type_fine k.Sized (prefix_type prefix.Not n) h
  prefix_fine prefix.Complement n h = type_fine k.Sized (prefix_type prefix.Complement n) h

  abbrev SizeFine : Numbers → Type 0
  SizeFine n = FineSize k.Sized n.size

  pub prefix_below : (b : ℕ) (place : Place) (operator : PrefixOperator) (p : Part) → PartBelow k b p → If (ValueBelow k b) (prefix_value place operator p)
  prefix_below b place operator p h = if_then (TypedBelow k b) (ValueBelow k b) (typed_part p) _ (typed_below k b p h) (λ t i.
      if_then SizeFine (ValueBelow k b) (numbers t.of) _ (numbers_fine k.Sized t.of i.1) (λ n e.
      let goal = type_of (prefix_type operator n) in
      let f = prefix_fine operator n e in
      if_then (ExprBelow k b) (ValueBelow k b) (convert goal t) _ (convert_below k b goal t f i) (λ x j.
      (made k place goal b (TypedKind-F.Prefix operator x) (tree.Prefix operator x) (tree.rolls-Prefix operator x) f j, f))))

  pub cast_below : (b : ℕ) (place : Place) (goal : TypeTree) (p : Part) → Fine k goal → PartBelow k b p → If (ValueBelow k b) (cast_value place goal p)
  cast_below b place goal p f h = if_then (TypedBelow k b) (ValueBelow k b) (typed_part p) _ (typed_below k b p h) (λ t i.
      if_then (ExprBelow k b) (ValueBelow k b) (where_true (fits t.of goal) t.tree) _ (if_where (ExprBelow k b) (fits t.of goal) t.tree (λ e. i.0)) (λ x j.
      (made k place goal b (TypedKind-F.Convert x) (tree.Convert x) (tree.rolls-Convert x) f j, f)))

  common_fine : (a b : Numbers) → SizeFine a → SizeFine b → If SizeFine (common a b)
  common_fine a b h i = if_then (FineSize k.Sized) SizeFine (joined_size a b) _ (joined_fine k.Sized a b h i) (λ size j. j)

  common_numbers_fine : (a b : Numbers) → SizeFine a → SizeFine b → If SizeFine (common_numbers a b)
  common_numbers_fine a b h i = if_then (FineSize k.Sized) SizeFine (joined_size a b) _ (joined_fine k.Sized a b h i) (λ size j. j)

  -- the results stand one deeper
  pub choice_below : (b : ℕ) (place : Place) (test first second : Part) → PartBelow k (suc b) test → PartBelow k b first → PartBelow k b second → If (ValueBelow k (suc b)) (choice_value place test first second)
  choice_below b place test first second h i j = if_then (ExprBelow k (suc b)) (ValueBelow k (suc b)) (fit truth_type test) _ (fit_below k (suc b) truth_type test tt h) (λ x l.
      if_then (TypedBelow k b) (ValueBelow k (suc b)) (typed_part first) _ (typed_below k b first i) (λ a o.
      if_then (TypedBelow k b) (ValueBelow k (suc b)) (typed_part second) _ (typed_below k b second j) (λ c p.
      if_then SizeFine (ValueBelow k (suc b)) (numbers a.of) _ (numbers_fine k.Sized a.of o.1) (λ u e. if_then SizeFine (ValueBelow k (suc b)) (numbers c.of) _ (numbers_fine k.Sized c.of p.1) (λ v f.
      if_then SizeFine (ValueBelow k (suc b)) (common_numbers u v) _ (common_numbers_fine u v e f) (λ n g.
      let fine = type_fine k.Sized n g in
      if_then (ExprBelow k b) (ValueBelow k (suc b)) (convert (type_of n) a) _ (convert_below k b (type_of n) a fine o) (λ y q.
      if_then (ExprBelow k b) (ValueBelow k (suc b)) (convert (type_of n) c) _ (convert_below k b (type_of n) c fine p) (λ z r. (
        made k place (type_of n) (suc b) (TypedKind-F.Choice x y z) (tree.Choice x y z) (tree.rolls-Choice x y z) fine
            (k.join (of_expr k.measure x) _ (suc b) l (k.branch _ b (k.join (of_expr k.measure y) (of_expr k.measure z) b q r))),
        fine,
      )))))))))

  -- ---- the types on which operators reckon

  pub record OperationFine (o : Operation) : Type 0 where
    pub left : Fine k (type_of o.left)
    pub right : Fine k (type_of o.right)
    pub result : Fine k (type_of o.result)

  class_fine : (c : Class) (a b : Numbers) → SizeFine a → SizeFine b → If OperationFine (operation c a b)
  class_fine arithmetic a b h i = if_then SizeFine OperationFine (common a b) _ (common_fine a b h i) (λ c j. record { left = type_fine k.Sized c j; right = type_fine k.Sized c j; result = type_fine k.Sized c j })
  class_fine shift a b h i = if_then (FineSize k.Sized) OperationFine (joined_size a b) _ (joined_fine k.Sized a b h i) (λ size j. record {
    left = type_fine k.Sized (record { of = counted a.of; size = size }) j;
    right = type_fine k.Sized (record { of = counted b.of; size = size }) j;
    result = type_fine k.Sized (record { of = counted a.of; size = size }) j;
  })
  class_fine comparison a b h i = if_then SizeFine OperationFine (common a b) _ (common_fine a b h i) (λ c j. record { left = type_fine k.Sized c j; right = type_fine k.Sized c j; result = type_fine k.Sized (truths c.size) j })
  class_fine logic a b h i = record { left = tt; right = tt; result = tt }

  pub suited_fine : (operator : BinaryOperator) (a b : TypeTree) → Fine k a → Fine k b → If OperationFine (suited operator a b)
  suited_fine operator a b h i = if_was OperationFine (where_true (suits (class_of operator) a && suits (class_of operator) b) operator) _ (λ o e.
      if_then SizeFine OperationFine (numbers a) _ (numbers_fine k.Sized a h) (λ m f. if_then SizeFine OperationFine (numbers b) _ (numbers_fine k.Sized b i) (λ n g. class_fine (class_of o) m n f g)))

  -- ---- chains

  -- an operand of an operator: that of `&&` and `||` stands one deeper
  abbrev pub OperandBelow : Bool → ℕ → Part → Type 0
  OperandBelow true b p = (a : ℕ) × (suc a ≡ b) × PartBelow k a p
  OperandBelow false b p = PartBelow k b p

  abbrev pub AllOperands : ℕ → List (LinkLayer Part) → Type 0
  AllOperands b [] = Unit {0}
  AllOperands b (l ∷ rest) = OperandBelow (is_logical l.operator) b l.operand × AllOperands b rest

  abbrev LinkBelow : ℕ → TypedLink → Type 0
  LinkBelow b l = k.Below (of_link k.measure l) b

  abbrev AllLinks : ℕ → List TypedLink → Type 0
  AllLinks b links = k.Below (all_joined k.measure (map (of_link k.measure) links)) b

  link_rolled : (l : TypedLink-F Access TypedKind TypedExpr TypedLink) → of_link k.measure (roll-TypedLink l)
      ≡ k.measure.join (k.measure.join (k.measure.of l.of) (before_gives k.measure l.before)) (cond (is_logical l.operator) (k.measure.branch (of_expr k.measure l.operand)) (of_expr k.measure l.operand))
  link_rolled l = fold-roll-TypedLink k.carrier k.carrier k.carrier k.carrier (access_gives k.measure) (kind_gives k.measure) (expr_gives k.measure) (link_gives k.measure) l

  -- an operand with its type, one deeper or not
  record TypedOperand (logical : Bool) (b : ℕ) (t : TypedPart) : Type 0 where
    fine : Fine k t.of
    converts : (goal : TypeTree) → Fine k goal → If (λ x. k.Below (cond logical (k.measure.branch (of_expr k.measure x)) (of_expr k.measure x)) b) (convert goal t)

  operand_below : (logical : Bool) (b : ℕ) (p : Part) → OperandBelow logical b p → If (TypedOperand logical b) (typed_part p)
  operand_below true b p h = by_part (typed_part p) (typed_below k h.0 p h.2)
    where
      by_part : (o : Option TypedPart) → If (TypedBelow k h.0) o → If (TypedOperand true b) o
      by_part None i = tt
      by_part (Some t) i = record { fine = i.1; converts = λ goal f. by_value (convert goal t) (convert_below k h.0 goal t f i) }
        where
          by_value : (o : Option TypedExpr) → If (ExprBelow k h.0) o → If (λ x. k.Below (k.measure.branch (of_expr k.measure x)) b) o
          by_value None j = tt
          by_value (Some x) j = subst (λ n. k.Below (k.measure.branch (of_expr k.measure x)) n) h.1 (k.branch (of_expr k.measure x) h.0 j)
  operand_below false b p h = by_part (typed_part p) (typed_below k b p h)
    where
      by_part : (o : Option TypedPart) → If (TypedBelow k b) o → If (TypedOperand false b) o
      by_part None i = tt
      by_part (Some t) i = record { fine = i.1; converts = λ goal f. convert_below k b goal t f i }

  before_below : (b : ℕ) (from goal : TypeTree) → Fine k goal → k.Below (before_gives k.measure (if_other from goal)) b
  before_below b from goal f = picked (same_type from goal)
    where
      picked : (same : Bool) → k.Below (before_gives k.measure (cond same None (Some goal))) b
      picked true = k.none b
      picked false = k.of goal b f

  link_below : (b : ℕ) (from : TypeTree) (l : LinkLayer Part) → Fine k from → OperandBelow (is_logical l.operator) b l.operand → If (LinkBelow b) (run_on from l)
  link_below b from l f h = if_then (TypedOperand (is_logical l.operator) b) (LinkBelow b) (typed_part l.operand) _ (operand_below (is_logical l.operator) b l.operand h) (λ t e.
      if_then OperationFine (LinkBelow b) (suited l.operator from t.of) _ (suited_fine l.operator from t.of f e.fine) (λ o g.
      if_then (λ x. k.Below (cond (is_logical l.operator) (k.measure.branch (of_expr k.measure x)) (of_expr k.measure x)) b) (LinkBelow b) (convert (type_of o.right) t) _ (e.converts (type_of o.right) g.right) (λ x i.
      subst (λ y. k.Below y b) (sym (link_rolled (record { operator = l.operator; before = if_other from (type_of o.left); operand = x; of = type_of o.result })))
      (k.join _ _ b (k.join (k.measure.of (type_of o.result)) _ b (k.of (type_of o.result) b g.result) (before_below b from (type_of o.left) g.left)) i))))

  run_fine : (b : ℕ) (from : TypeTree) (l : LinkLayer Part) → Fine k from → OperandBelow (is_logical l.operator) b l.operand → If (Fine k) (run_type from l)
  run_fine b from l f h = if_then (TypedOperand (is_logical l.operator) b) (Fine k) (typed_part l.operand) _ (operand_below (is_logical l.operator) b l.operand h) (λ t e.
      if_then OperationFine (Fine k) (suited l.operator from t.of) _ (suited_fine l.operator from t.of f e.fine) (λ o g. g.result))

  chain_fine : (b : ℕ) (before : Option TypeTree) (rest : List (LinkLayer Part)) → If (Fine k) before → AllOperands b rest → If (Fine k) (chain_type before rest)
  chain_fine b before [] f h = f
  chain_fine b before (l ∷ rest) f h = chain_fine b (type_after before l) rest (if_then (Fine k) (Fine k) before _ f (λ from g. run_fine b from l g h.0)) h.1

  links_below : (b : ℕ) (before : Option TypeTree) (rest : List (LinkLayer Part)) → If (Fine k) before → AllOperands b rest → If (AllLinks b) (chain_links before rest)
  links_below b before [] f h = k.none b
  links_below b None (l ∷ rest) f h = tt
  links_below b (Some from) (l ∷ rest) f h = if_then (LinkBelow b) (AllLinks b) (run_on from l) _ (link_below b from l f h.0) (λ x i.
      if_then (AllLinks b) (AllLinks b) (chain_links (run_type from l) rest) _ (links_below b (run_type from l) rest (run_fine b from l f h.0) h.1) (λ xs j.
      k.join (of_link k.measure x) _ b i j))

  pub chain_below : (b : ℕ) (place : Place) (first : Part) (rest : List (LinkLayer Part)) → PartBelow k b first → AllOperands b rest → If (ValueBelow k b) (chain_value place first rest)
  chain_below b place first rest h i = if_then (TypedBelow k b) (ValueBelow k b) (typed_part first) _ (typed_below k b first h) (λ t j.
      if_then (AllLinks b) (ValueBelow k b) (chain_links (Some t.of) rest) _ (links_below b (Some t.of) rest j.1 i) (λ links l.
      if_then (Fine k) (ValueBelow k b) (chain_type (Some t.of) rest) _ (chain_fine b (Some t.of) rest j.1 i) (λ of f.
      (made k place of b (TypedKind-F.Chain t.tree links) (tree.Chain t.tree links) (tree.rolls-Chain t.tree links) f (k.join (of_expr k.measure t.tree) _ b j.0 l), f))))

  -- ---- constructors and intrinsics

  abbrev AllSizes : List Numbers → Type 0
  AllSizes [] = Unit {0}
  AllSizes (n ∷ rest) = SizeFine n × AllSizes rest

  converted_below : (b : ℕ) (ns : List Numbers) (ts : List TypedPart) → AllSizes ns → AllTyped k b ts → If (AllExprs k b) (convert_all ns ts)
  converted_below b [] [] f h = tt
  converted_below b [] (t ∷ ts) f h = tt
  converted_below b (n ∷ ns) [] f h = tt
  converted_below b (n ∷ ns) (t ∷ ts) f h = if_then (ExprBelow k b) (AllExprs k b) (convert (type_of n) t) _ (convert_below k b (type_of n) t (type_fine k.Sized n f.0) h.0) (λ e i.
      if_then (AllExprs k b) (AllExprs k b) (convert_all ns ts) _ (converted_below b ns ts f.1 h.1) (λ es j. (i, j)))

  all_sizes : (b : ℕ) (ts : List TypedPart) → AllTyped k b ts → If AllSizes (all_numbers ts)
  all_sizes b [] h = tt
  all_sizes b (t ∷ ts) h = if_then SizeFine AllSizes (numbers t.of) _ (numbers_fine k.Sized t.of h.0.1) (λ n i. if_then AllSizes AllSizes (all_numbers ts) _ (all_sizes b ts h.1) (λ ns j. (i, j)))

  sizes_as : (of : Scalar) (ns : List Numbers) → AllSizes ns → AllSizes (map (λ (n : Numbers). record { of = of; size = n.size }) ns)
  sizes_as of [] h = tt
  sizes_as of (n ∷ ns) h = (h.0, sizes_as of ns h.1)

  pub constructed_below : (b : ℕ) (place : Place) (goal : Numbers) (parts : List Part) → FineSize k.Sized goal.size → AllParts k b parts → If (ValueBelow k b) (constructed place goal parts)
  constructed_below b place goal parts f h = if_then (AllTyped k b) (ValueBelow k b) (all_typed_parts parts) _ (all_typed_below k b parts h) (λ ts i.
      if_then AllSizes (ValueBelow k b) (all_numbers ts) _ (all_sizes b ts i) (λ ns e.
      if_then (AllExprs k b) (ValueBelow k b) (and_then (where_true (component_count ns == components goal.size && all_make goal.size ts) ns) (λ ns. convert_all (map (λ (n : Numbers). record { of = goal.of; size = n.size }) ns) ts)) _
      (if_then AllSizes (AllExprs k b) (where_true (component_count ns == components goal.size && all_make goal.size ts) ns) _ (if_where AllSizes (component_count ns == components goal.size && all_make goal.size ts) ns (λ g. e))
      (λ ns e. converted_below b (map (λ (n : Numbers). record { of = goal.of; size = n.size }) ns) ts (sizes_as goal.of ns e) i)) (λ es j.
      (made k place (type_of goal) b (TypedKind-F.Construct es) (tree.Construct es) (tree.rolls-Construct es) (type_fine k.Sized goal f) (exprs_below k b es j), type_fine k.Sized goal f))))

  record SignatureFine (s : Signature) : Type 0 where
    arguments : AllSizes s.arguments
    result : SizeFine s.result

  each_alike : (n : Numbers) (all : List Numbers) → SizeFine n → AllSizes (map (λ (a : Numbers). n) all)
  each_alike n [] f = tt
  each_alike n (a ∷ all) f = (f, each_alike n all f)

  each_truth : (all : List Numbers) → AllSizes all → AllSizes (map (λ (n : Numbers). truths n.size) all)
  each_truth [] f = tt
  each_truth (a ∷ all) f = (f.0, each_truth all f.1)

  size_of_all_fine : (all : List Numbers) → AllSizes all → If (FineSize k.Sized) (size_of_all all)
  size_of_all_fine [] h = tt
  size_of_all_fine (n ∷ rest) h = if_then (FineSize k.Sized) (FineSize k.Sized) (size_of_all rest) _ (size_of_all_fine rest h.1) (λ size i. common_size_fine k.Sized n.size size h.0 i)

  joined_all_fine : (all : List Numbers) → AllSizes all → If (FineSize k.Sized) (joined_size_of all)
  joined_all_fine all h = if_then (FineSize k.Sized) (FineSize k.Sized) (size_of_all all) _ (size_of_all_fine all h) (λ size i. if_where (FineSize k.Sized) (all_fit_size all size) size (λ e. i))

  chosen_fine : (all : List Numbers) (size : Option ℕ) → FineSize k.Sized size → If SignatureFine (chosen_of_size all size)
  chosen_fine (test ∷ a ∷ b ∷ []) size f = record { arguments = (f, (f, (f, tt))); result = f }
  chosen_fine _ size f = tt

  signature_fine : (r : Reckons) (all : List Numbers) → AllSizes all → If SignatureFine (signature r all)
  signature_fine in_common all h = if_then (FineSize k.Sized) SignatureFine (joined_size_of all) _ (joined_all_fine all h) (λ size f. record { arguments = each_alike (record { of = scalar_of_all all; size = size }) all f; result = f })
  signature_fine in_uint all h = if_then (FineSize k.Sized) SignatureFine (joined_size_of all) _ (joined_all_fine all h) (λ size f. record { arguments = each_alike (record { of = scalar.Uint; size = size }) all f; result = f })
  signature_fine to_one_truth all h = record { arguments = each_truth all h; result = tt }
  signature_fine in_truths all h = if_then (FineSize k.Sized) SignatureFine (joined_size_of all) _ (joined_all_fine all h) (λ size f. record { arguments = each_alike (truths size) all f; result = f })
  signature_fine choosing all h = if_then (FineSize k.Sized) SignatureFine (joined_size_of all) _ (joined_all_fine all h) (λ size f. chosen_fine all size f)

  pub intrinsic_below : (b : ℕ) (name : Place) (i : Intrinsic) (parts : List Part) → AllParts k b parts → If (ValueBelow k b) (intrinsic_value name i parts)
  intrinsic_below b name i parts h = if_then (AllTyped k b) (ValueBelow k b) (all_typed_parts parts) _ (all_typed_below k b parts h) (λ ts l.
      if_then SignatureFine (ValueBelow k b) (and_then (where_true (length ts == arity_of i && all_suit (reckons i) ts) ts) (signature_on i)) _
      (if_then (AllTyped k b) SignatureFine (where_true (length ts == arity_of i && all_suit (reckons i) ts) ts) _ (if_where (AllTyped k b) (length ts == arity_of i && all_suit (reckons i) ts) ts (λ e. l))
      (λ us o. if_then AllSizes SignatureFine (all_numbers us) _ (all_sizes b us o) (λ ns p. signature_fine (reckons i) ns p))) (λ s f.
      if_then (AllExprs k b) (ValueBelow k b) (convert_all s.arguments ts) _ (converted_below b s.arguments ts f.arguments l) (λ es j.
      (made k name (type_of s.result) b (TypedKind-F.Intrinsic i es) (tree.Intrinsic i es) (tree.rolls-Intrinsic i es) (type_fine k.Sized s.result f.result) (exprs_below k b es j), type_fine k.Sized s.result f.result))))

  -- ---- calls of plain functions

  place_below : (b : ℕ) (of : TypeTree) (p : Part) → PartBelow k b p → If (ExprBelow k b) (passed_place of p)
  place_below b of p h = if_then (TypedBelow k b) (ExprBelow k b) (typed_part p) _ (typed_below k b p h) (λ t i. if_where (ExprBelow k b) _ t.tree (λ e. i.0))

  passed_below : (b : ℕ) (d : Direction) (of : TypeTree) (p : Part) → Fine k of → PartBelow k b p → If (ExprBelow k b) (passed_as d of p)
  passed_below b direction.In of p f h = fit_below k b of p f h
  passed_below b direction.Out of p f h = place_below b of p h
  passed_below b direction.InOut of p f h = place_below b of p h

  all_passed_below : (b : ℕ) (ps : List FormalParameter) (parts : List Part) → AllFormals k ps → AllParts k b parts → If (AllExprs k b) (passed_all ps parts)
  all_passed_below b [] [] f h = tt
  all_passed_below b [] (p ∷ parts) f h = tt
  all_passed_below b (a ∷ ps) [] f h = tt
  all_passed_below b (a ∷ ps) (p ∷ parts) f h = if_then (ExprBelow k b) (AllExprs k b) (passed_as a.direction a.of p) _ (passed_below b a.direction a.of p f.0 h.0) (λ e i.
      if_then (AllExprs k b) (AllExprs k b) (passed_all ps parts) _ (all_passed_below b ps parts f.1 h.1) (λ es j. (i, j)))

  called_below : (b : ℕ) (name : Place) (number : ℕ) (result : Option TypeTree) (es : List TypedExpr) → k.Below (k.measure.call number) b → If (Fine k) result → AllExprs k b es → If (ValueBelow k b) (plain_call name number result es)
  called_below b name number None es h f i = k.join (k.measure.call number) (of_exprs k.measure es) b h (exprs_below k b es i)
  called_below b name number (Some of) es h f i = (made k name of b (TypedKind-F.Call number es) (tree.Call number es) (tree.rolls-Call number es) f (k.join (k.measure.call number) _ b h (exprs_below k b es i)), f)

  pub plain_below : (b : ℕ) (name : Place) (number : ℕ) (result : Option TypeTree) (formals : List FormalParameter) (chain : ℕ) (parts : List Part) → CallFine k number result formals chain → k.Known chain → AllParts k b parts → If (ValueBelow k b) (plain_value name number result formals chain parts)
  plain_below b name number result formals chain parts f known h = if_then (AllExprs k b) (ValueBelow k b) (passed_all formals parts) _ (all_passed_below b formals parts f.parameters h) (λ es i.
      if_was (ValueBelow k b) (where_true (chain_fits chain) es) _ (λ xs e.
      let w = where_so (chain_fits chain) es xs e in
      called_below b name number result xs (f.callable known w.0 b) f.result (subst (AllExprs k b) w.1 i)))
