-- Measures below a bound: typed forms, what parts are, and conversions.
use Rattle.std.proofs.Common.{◌≡◌, ℕ, suc, Bool, true, false, List, [], ◌∷◌, Option, Some, None, sym, ap, ◌∙◌, subst}
use Rattle.wg_words.specs.declared.place.Place.{Place}
use Rattle.std.specs.Prelude.{◌&&◌, ◌==◌, ◌^◌, ◌/◌, nat_lt}
use Rattle.wg_typing.specs.Conversions.{numbers, sized, type_of, fits, same_type, common_size, joined_size, size_fits}
use Rattle.wg_typing.specs.TypingFunctionCall.{chain_fits}
use Rattle.wg_typing.specs.Layers.{tree_of, typed_at, typed_part, all_typed_parts, written, convert, fit, fit_all}
use Rattle.wg_facts.proofs.Basics.{If, if_then, if_where}
use Rattle.wg_limits.specs.Vectors.{is_size}
use Rattle.wg_limits.specs.Measure.{Measure, access_gives, kind_gives, expr_gives, link_gives, of_expr, of_kind, of_access, of_link, of_exprs, of_maybe, of_step}
use Rattle.wg_tree.specs.declared.expr.Scalar.{Scalar}
use Rattle.wg_typed.specs.declared.types.ElementType.TheVariants as element
use Rattle.wg_typed.specs.declared.types.TypeTree.{TypeTree}
use Rattle.wg_typed.specs.declared.types.TypeTree.TheVariants as type
use Rattle.wg_typed.specs.declared.typed.TypedBufferType.{TypedBufferType}
use Rattle.wg_typed.specs.declared.typed.TypedBufferType.TheVariants as buffer
use Rattle.wg_typed.specs.declared.typed_expr.Access.{Access}
use Rattle.wg_typed.specs.declared.typed_expr.Access.TheViews.{roll-TypedKind}
use Rattle.wg_typed.specs.declared.typed_expr.Access.TheFolds.{fold-roll-TypedKind, fold-roll-TypedExpr, map-TypedKind}
use Rattle.wg_typed.specs.declared.typed_expr.Access.TheOpen.{TypedKind-F}
use Rattle.wg_typed.specs.declared.typed_expr.TypedExpr.{TypedExpr}
use Rattle.wg_typed.specs.declared.typed_expr.TypedKind.{TypedKind}
use Rattle.wg_typed.specs.declared.typed_expr.TypedKind.TheVariants as tree
use Rattle.wg_typed.specs.declared.typed_expr.TypedLink.{TypedLink}
use Rattle.wg_typing.specs.declared.numbers.Numbers.{Numbers}
use Rattle.wg_typing.specs.declared.scope.FormalParameter.{FormalParameter}
use Rattle.wg_typing.specs.declared.scope.Meant.{Meant}
use Rattle.wg_typing.specs.declared.scope.Meant.TheVariants as meant
use Rattle.wg_typing.specs.declared.scope.Object.{Object}
use Rattle.wg_typing.specs.declared.scope.Object.TheVariants as object
use Rattle.wg_typing.specs.declared.part.Part.{Part}
use Rattle.wg_typing.specs.declared.part.TypedPart.{TypedPart}
use Rattle.wg_typing.specs.declared.scope.Act.{Act}
use Rattle.wg_typing.specs.declared.scope.Act.TheVariants as act
use Rattle.wg_typing.specs.declared.scope.Value.{Value}
use Rattle.wg_typing.specs.declared.scope.Value.TheVariants as value

-- a type whose vectors have sizes of these
abbrev pub FineType : (ℕ → Type 0) → TypeTree → Type 0
FineType p (type.Scalar of) = Unit {0}
FineType p (type.Vector of n) = p n
FineType p (type.Struct number) = Unit {0}
FineType p (type.Array (element.Scalar of) n) = Unit {0}
FineType p (type.Array (element.Vector of m) n) = p m
FineType p (type.Array (element.Struct number) n) = Unit {0}

abbrev pub FineSize : (ℕ → Type 0) → Option ℕ → Type 0
FineSize p None = Unit {0}
FineSize p (Some n) = p n

abbrev pub AllWords : (ℕ → Type 0) → List ℕ → Type 0
AllWords p [] = Unit {0}
AllWords p (w ∷ rest) = p w × AllWords p rest

-- a measure with what it means to be below a bound; which sizes vectors have, and which words literals; what is known of what is written; and what is known of the chain of
-- calls of each function that is called
pub record Bound : Type 1 where
  pub carrier : Type 0
  pub measure : Measure carrier
  pub Below : carrier → ℕ → Type 0
  pub none : (b : ℕ) → Below measure.none b
  pub join : (x y : carrier) (b : ℕ) → Below x b → Below y b → Below (measure.join x y) b
  pub branch : (x : carrier) (b : ℕ) → Below x b → Below (measure.branch x) (suc b)
  pub Sized : ℕ → Type 0
  pub two : Sized 2
  pub three : Sized 3
  pub four : Sized 4
  pub of : (t : TypeTree) (b : ℕ) → FineType Sized t → Below (measure.of t) b
  pub Wrote : Bool → Type 0
  pub first : (x y : Bool) → Wrote (x && y) → Wrote x
  pub second : (x y : Bool) → Wrote (x && y) → Wrote y
  pub written : (n : ℕ) → Wrote (is_size n) → Sized n
  pub Word : ℕ → Type 0
  pub word : (n : ℕ) → nat_lt n (2 ^ 32) ≡ true → Word n
  pub high : (n : ℕ) → Wrote (nat_lt n (2 ^ 64)) → Word (n / 2 ^ 32)
  pub literal : (words : List ℕ) (b : ℕ) → AllWords Word words → Below (measure.literal words) b
  pub Known : ℕ → Type 0

-- ---- sizes

pub numbers_fine : (p : ℕ → Type 0) (t : TypeTree) → FineType p t → If (λ (n : Numbers). FineSize p n.size) (numbers t)
numbers_fine p (type.Scalar of) h = tt
numbers_fine p (type.Vector of n) h = h
numbers_fine p (type.Struct number) h = tt
numbers_fine p (type.Array of n) h = tt

pub type_fine : (p : ℕ → Type 0) (n : Numbers) → FineSize p n.size → FineType p (type_of n)
type_fine p n h = by_size n.of n.size h
  where
    by_size : (of : Scalar) (size : Option ℕ) → FineSize p size → FineType p (sized of size)
    by_size of None h = tt
    by_size of (Some m) h = h

pub common_size_fine : (p : ℕ → Type 0) (m n : Option ℕ) → FineSize p m → FineSize p n → If (FineSize p) (common_size m n)
common_size_fine p None n h i = i
common_size_fine p (Some m) None h i = h
common_size_fine p (Some m) (Some n) h i = if_where (FineSize p) (m == n) (Some m) (λ e. h)

pub joined_fine : (p : ℕ → Type 0) (a b : Numbers) → FineSize p a.size → FineSize p b.size → If (FineSize p) (joined_size a b)
joined_fine p a b h i = if_then (FineSize p) (FineSize p) (common_size a.size b.size) _ (common_size_fine p a.size b.size h i) (λ size j. if_where (FineSize p) (size_fits a size && size_fits b size) size (λ e. j))

module _ (k : Bound) where
  abbrev pub m : Measure k.carrier
  m = k.measure

  abbrev pub ExprBelow : ℕ → TypedExpr → Type 0
  ExprBelow b e = k.Below (of_expr m e) b

  abbrev pub Fine : TypeTree → Type 0
  Fine t = FineType k.Sized t

  -- an expression of a kind
  pub made : (place : Place) (t : TypeTree) (b : ℕ) (z : TypedKind-F Access TypedKind TypedExpr TypedLink) (kind : TypedKind) → roll-TypedKind z ≡ kind → Fine t
      → k.Below (kind_gives m (map-TypedKind Access TypedKind TypedExpr TypedLink k.carrier k.carrier k.carrier k.carrier (of_access m) (of_kind m) (of_expr m) (of_link m) z)) b
      → ExprBelow b (tree_of place t kind)
  made place t b z kind e fine h = subst (λ x. k.Below x b) (sym whole) (k.join (m.of t) _ b (k.of t b fine) h)
    where
      whole : of_expr m (tree_of place t kind) ≡ m.join (m.of t) (kind_gives m (map-TypedKind Access TypedKind TypedExpr TypedLink k.carrier k.carrier k.carrier k.carrier (of_access m) (of_kind m) (of_expr m) (of_link m) z))
      whole = fold-roll-TypedExpr k.carrier k.carrier k.carrier k.carrier (access_gives m) (kind_gives m) (expr_gives m) (link_gives m) (record { kind = kind; of = t; place = place })
          ∙ ap (λ x. m.join (m.of t) x) (ap (of_kind m) (sym e) ∙ fold-roll-TypedKind k.carrier k.carrier k.carrier k.carrier (access_gives m) (kind_gives m) (expr_gives m) (link_gives m) z)

  -- ---- several

  abbrev pub AllExprs : ℕ → List TypedExpr → Type 0
  AllExprs b [] = Unit {0}
  AllExprs b (e ∷ rest) = ExprBelow b e × AllExprs b rest

  pub exprs_below : (b : ℕ) (es : List TypedExpr) → AllExprs b es → k.Below (of_exprs m es) b
  exprs_below b [] h = k.none b
  exprs_below b (e ∷ rest) h = k.join (of_expr m e) (of_exprs m rest) b h.0 (exprs_below b rest h.1)

  pub maybe_below : (b : ℕ) (o : Option TypedExpr) → If (ExprBelow b) o → k.Below (of_maybe m o) b
  maybe_below b None h = k.none b
  maybe_below b (Some e) h = h

  -- ---- values

  abbrev pub ActBelow : ℕ → Act → Type 0
  ActBelow b (act.Step s) = k.Below (of_step m s) b
  ActBelow b (act.Barrier syncs) = Unit {0}
  ActBelow b (act.Request group output number element amount) = If (ExprBelow b) element × ExprBelow b amount
  ActBelow b (act.Increment group output element amount) = If (ExprBelow b) element × ExprBelow b amount
  ActBelow b (act.Complete handle) = Unit {0}
  ActBelow b (act.Finished tracked) = Unit {0}

  abbrev pub FineBuffer : TypedBufferType → Type 0
  FineBuffer (buffer.Raw writable) = Unit {0}
  FineBuffer (buffer.Structured writable of) = Fine of

  abbrev pub FineObject : Object → Type 0
  FineObject (object.Buffer number of) = FineBuffer of
  FineObject (object.Input many record_type s sharing) = Unit {0}
  FineObject (object.Output output array record_type) = Unit {0}
  FineObject (object.Handle handle record_type) = Unit {0}

  abbrev pub ValueBelow : ℕ → Value → Type 0
  ValueBelow b (value.Typed of s e) = ExprBelow b e × Fine of
  ValueBelow b (value.Object o element) = FineObject o × If (ExprBelow b) element
  ValueBelow b (value.Act name a) = ActBelow b a
  ValueBelow b (value.Text bytes) = Unit {0}

  abbrev pub PartBelow : ℕ → Part → Type 0
  PartBelow b p = If (ValueBelow b) p.value

  abbrev pub AllParts : ℕ → List Part → Type 0
  AllParts b [] = Unit {0}
  AllParts b (p ∷ rest) = PartBelow b p × AllParts b rest

  abbrev pub TypedBelow : ℕ → TypedPart → Type 0
  TypedBelow b t = ExprBelow b t.tree × Fine t.of

  abbrev pub AllTyped : ℕ → List TypedPart → Type 0
  AllTyped b [] = Unit {0}
  AllTyped b (t ∷ rest) = TypedBelow b t × AllTyped b rest

  pub typed_at_below : (b : ℕ) (p : Place) (v : Option Value) → If (ValueBelow b) v → If (TypedBelow b) (typed_at p v)
  typed_at_below b p None h = tt
  typed_at_below b p (Some (value.Typed of s e)) h = h
  typed_at_below b p (Some (value.Object o element)) h = tt
  typed_at_below b p (Some (value.Act name a)) h = tt
  typed_at_below b p (Some (value.Text bytes)) h = tt

  pub typed_below : (b : ℕ) (p : Part) → PartBelow b p → If (TypedBelow b) (typed_part p)
  typed_below b p h = typed_at_below b p.place p.value h

  pub all_typed_below : (b : ℕ) (parts : List Part) → AllParts b parts → If (AllTyped b) (all_typed_parts parts)
  all_typed_below b [] h = tt
  all_typed_below b (p ∷ rest) h = if_then (TypedBelow b) (AllTyped b) (typed_part p) _ (typed_below b p h.0) (λ t i. if_then (AllTyped b) (AllTyped b) (all_typed_parts rest) _ (all_typed_below b rest h.1) (λ ts j. (i, j)))

  -- ---- conversions

  abbrev pub AllFine : List TypeTree → Type 0
  AllFine [] = Unit {0}
  AllFine (t ∷ rest) = Fine t × AllFine rest

  written_below : (b : ℕ) (goal : TypeTree) (t : TypedPart) (same : Bool) → Fine goal → TypedBelow b t → ExprBelow b (written same goal t)
  written_below b goal t true f h = h.0
  written_below b goal t false f h = made t.place goal b (TypedKind-F.Convert t.tree) (tree.Convert t.tree) (tree.rolls-Convert t.tree) f h.0

  pub convert_below : (b : ℕ) (goal : TypeTree) (t : TypedPart) → Fine goal → TypedBelow b t → If (ExprBelow b) (convert goal t)
  convert_below b goal t f h = if_where (ExprBelow b) (fits t.of goal) _ (λ e. written_below b goal t (same_type t.of goal) f h)

  pub fit_below : (b : ℕ) (goal : TypeTree) (p : Part) → Fine goal → PartBelow b p → If (ExprBelow b) (fit goal p)
  fit_below b goal p f h = if_then (TypedBelow b) (ExprBelow b) (typed_part p) _ (typed_below b p h) (λ t i. convert_below b goal t f i)

  pub fit_all_below : (b : ℕ) (types : List TypeTree) (parts : List Part) → AllFine types → AllParts b parts → If (AllExprs b) (fit_all types parts)
  fit_all_below b [] [] f h = tt
  fit_all_below b [] (p ∷ parts) f h = tt
  fit_all_below b (t ∷ types) [] f h = tt
  fit_all_below b (t ∷ types) (p ∷ parts) f h =
      if_then (ExprBelow b) (AllExprs b) (fit t p) _ (fit_below b t p f.0 h.0) (λ e i. if_then (AllExprs b) (AllExprs b) (fit_all types parts) _ (fit_all_below b types parts f.1 h.1) (λ es j. (i, j)))

  -- ---- names

  -- a function that may be called, where its chain of calls is known and fits
  abbrev pub Callable : ℕ → ℕ → Type 0
  Callable number chain = k.Known chain → chain_fits chain ≡ true → (b : ℕ) → k.Below (m.call number) b

  abbrev pub AllFormals : List FormalParameter → Type 0
  AllFormals [] = Unit {0}
  AllFormals (a ∷ rest) = Fine a.of × AllFormals rest

  pub record CallFine (number : ℕ) (gives : Option TypeTree) (formals : List FormalParameter) (chain : ℕ) : Type 0 where
    pub callable : Callable number chain
    pub result : If Fine gives
    pub parameters : AllFormals formals

  abbrev pub NameBelow : Meant → Type 0
  NameBelow (meant.Struct number) = Unit {0}
  NameBelow (meant.Constant of words known) = Fine of × AllWords k.Word words
  NameBelow (meant.Shared variable of) = Fine of
  NameBelow (meant.Variable variable of constant) = Fine of
  NameBelow (meant.Object o) = FineObject o
  NameBelow (meant.Function number true result parameters chain) = Unit {0}
  NameBelow (meant.Function number false result parameters chain) = CallFine number result parameters chain
  NameBelow meant.Itself = Unit {0}
  NameBelow meant.Broken = Unit {0}
