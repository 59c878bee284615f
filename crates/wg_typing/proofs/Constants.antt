-- What has a value as a `const` is a number, so a static constant has no struct type.
use Rattle.std.proofs.Common.{◌≡◌, true, List, [], ◌∷◌, map, Option, Some, None, refl, sym, subst}
use Rattle.wg_words.specs.declared.place.Place.{Place}
use Rattle.wg_words.specs.Maybe.{◌>>=◌}
use Rattle.wg_typing.specs.Conversions.{numbers, type_of, fits, is_number, truth_type, common_numbers}
use Rattle.wg_typed.specs.Constants.{Known, Right, expr_value, form_value, link_value, const_value, applied_value}
use Rattle.wg_typed.specs.Constants.{chain_value as const_chain}
use Rattle.wg_typing.specs.Scope.{Context, as_const, look, known_names, constant_if}
use Rattle.wg_typing.specs.Layers.{typed_at, typed_part, convert, fit}
use Rattle.wg_typing.specs.TypingName.{const_name}
use Rattle.wg_typing.specs.TypingOperators.{prefix_type, chain_value, suited, run_type, chain_type, chain_links, prefix_value, choice_value}
use Rattle.wg_typing.specs.TypingExpr.{ExprForm, expr_seen, form_seen, link_seen, part}
use Rattle.wg_tree.specs.declared.expr.BinaryOperator.{BinaryOperator}
use Rattle.wg_tree.specs.declared.expr.PrefixOperator.{PrefixOperator}
use Rattle.wg_tree.specs.declared.expr.Expr.{Expr, roll-Expr, fold-roll-Expr, ind-Expr, map-Expr}
use Rattle.wg_tree.specs.declared.expr.Expr.TheOpen.{Expr-F}
use Rattle.wg_tree.specs.declared.expr.Form.{Form, fold-Form}
use Rattle.wg_tree.specs.declared.expr.Link.{Link, fold-Link}
use Rattle.wg_typed.specs.declared.types.ConstValue.{ConstValue}
use Rattle.wg_typed.specs.declared.types.TypeTree.{TypeTree}
use Rattle.wg_typed.specs.declared.types.TypeTree.TheVariants as type
use Rattle.wg_typing.specs.declared.scope.Meant.{Meant}
use Rattle.wg_typing.specs.declared.scope.Meant.TheVariants as meant
use Rattle.wg_typing.specs.declared.scope.Value.{Value}
use Rattle.wg_typing.specs.declared.scope.Value.TheVariants as value
use Rattle.wg_typing.proofs.Exprs.{mapped}
use Rattle.wg_typing.proofs.Facts.{Has, some_value}
use Rattle.wg_typing.proofs.Names.{AllStand, StandsIf, look_stands}
use Rattle.wg_typing.proofs.Types.{is_number_type}
use Rattle.wg_typing.specs.declared.part.FormLayer.{FormLayer}
use Rattle.wg_typing.specs.declared.part.LinkLayer.{LinkLayer}
use Rattle.wg_typing.specs.declared.part.Part.{Part}
use Rattle.wg_typing.specs.declared.part.TypedPart.{TypedPart}

-- where it has a type, that is of numbers
abbrev IsNumber : Option Value → Type 0
IsNumber (Some (value.Typed of standing tree)) = is_number of ≡ true
IsNumber (Some (value.Object o element)) = Unit {0}
IsNumber (Some (value.Act name a)) = Unit {0}
IsNumber (Some (value.Text bytes)) = Unit {0}
IsNumber None = Unit {0}

then_number : {A : Type 0} (o : Option A) (f : A → Option Value) → ((a : A) → o ≡ Some a → IsNumber (f a)) → IsNumber (◌>>=◌ o f)
then_number None f k = tt
then_number (Some a) f k = k a refl

named_is : (place : Place) (m : Option Meant) → StandsIf m → Has (constant_if m) → IsNumber (const_name place m)
named_is place None s h = tt
named_is place (Some (meant.Struct number)) s h = tt
named_is place (Some (meant.Constant of words None)) s h = tt
named_is place (Some (meant.Constant of words (Some v))) s h = s
named_is place (Some (meant.Shared variable of)) s h = tt
named_is place (Some (meant.Variable variable of constant)) s h = tt
named_is place (Some (meant.Object object)) s h = tt
named_is place (Some (meant.Function number is_entry result parameters chain)) s h = tt
named_is place (Some meant.Itself) s h = tt
named_is place (Some meant.Broken) s h = tt

pub typed_number : (p : Place) (v : Option Value) (t : TypedPart) → typed_at p v ≡ Some t → IsNumber v → is_number t.of ≡ true
typed_number p None t e n = absurd (cc)
typed_number p (Some (value.Typed of standing tree)) t e n = subst (λ (t : TypedPart). is_number t.of ≡ true) (some_value e) n
typed_number p (Some (value.Object o element)) t e n = absurd (cc)
typed_number p (Some (value.Act name a)) t e n = absurd (cc)
typed_number p (Some (value.Text bytes)) t e n = absurd (cc)

-- ---- chains

applied_first : (operator : BinaryOperator) (a b : Option ConstValue) → Has (applied_value operator a b) → Has a
applied_first operator None b h = h
applied_first operator (Some a) b h = tt

chain_first : (a : Option ConstValue) (rest : List Right) → Has (const_chain a rest) → Has a
chain_first a [] h = h
chain_first a (r ∷ rest) h = applied_first r.0 a r.1 (chain_first (applied_value r.0 a r.1) rest h)

abbrev NumberIf : Option TypeTree → Type 0
NumberIf None = Unit {0}
NumberIf (Some t) = is_number t ≡ true

then_number_if : {A : Type 0} (o : Option A) (f : A → Option TypeTree) → ((a : A) → NumberIf (f a)) → NumberIf (◌>>=◌ o f)
then_number_if None f k = tt
then_number_if (Some a) f k = k a

chain_number : (a : Option TypeTree) (rest : List (LinkLayer Part)) → NumberIf a → NumberIf (chain_type a rest)
chain_number a [] n = n
chain_number a (l ∷ rest) n = chain_number (◌>>=◌ a (λ of. run_type of l)) rest
    (then_number_if a _ (λ of. then_number_if (typed_part l.operand) _ (λ t. then_number_if (suited l.operator of t.of) _ (λ o. is_number_type o.result))))

chain_is : (place : Place) (first : Part) (rest : List (LinkLayer Part)) → IsNumber first.value → IsNumber (chain_value place first rest)
chain_is place first rest n = then_number (typed_part first) _ (λ t e. then_number (chain_links (Some t.of) rest) _ (λ links f.
    then_number (chain_type (Some t.of) rest) _ (λ of g. subst NumberIf g (chain_number (Some t.of) rest (typed_number first.place first.value t e n)))))

-- ---- other operators

prefix_is : (place : Place) (operator : PrefixOperator) (p : Part) → IsNumber (prefix_value place operator p)
prefix_is place operator p = then_number (typed_part p) _ (λ t e. then_number (numbers t.of) _ (λ n f.
    then_number (convert (type_of (prefix_type operator n)) t) _ (λ x g. is_number_type (prefix_type operator n))))

choice_is : (place : Place) (test a b : Part) → IsNumber (choice_value place test a b)
choice_is place test a b = then_number (fit truth_type test) _ (λ x e. then_number (typed_part a) _ (λ s f. then_number (typed_part b) _ (λ t g.
    then_number (numbers s.of) _ (λ m h. then_number (numbers t.of) _ (λ n i. then_number (common_numbers m n) _ (λ c j.
    then_number (convert (type_of c) s) _ (λ k l. then_number (convert (type_of c) t) _ (λ u v. is_number_type c))))))))

-- ---- expressions

module _ (c : Context) (stand : AllStand c.names) where
  abbrev here : Context
  here = as_const c

  abbrev known : Known
  known = known_names c.names

  abbrev Claim : Expr → Type 0
  Claim e = Has (const_value known e) → IsNumber (part here e).value

  abbrev const_form : Form → Unit {0}
  const_form = fold-Form (Option ConstValue) (Unit {0}) Right (expr_value known) form_value link_value

  abbrev const_link : Link → Right
  const_link = fold-Link (Option ConstValue) (Unit {0}) Right (expr_value known) form_value link_value

  abbrev const_mapped : {B F L : Type 0} → (B → Expr) → (F → Form) → (L → Link) → Expr-F B F L → Expr-F (Option ConstValue) (Unit {0}) Right
  const_mapped {B} {F} {L} p q r y = map-Expr Expr Form Link (Option ConstValue) (Unit {0}) Right (const_value known) const_form const_link (map-Expr B F L Expr Form Link p q r y)

  level : {B F L : Type 0} (p : B → Expr) (q : F → Form) (r : L → Link) (holds : (b : B) → Claim (p b)) (y : Expr-F B F L) → Has (expr_value known (const_mapped p q r y)) → IsNumber (expr_seen here (mapped here p q r y)).part.value
  level p q r holds (Expr-F.Number at n unsigned long) h = refl
  level p q r holds (Expr-F.Text at bytes) h = tt
  level p q r holds (Expr-F.Truth at b) h = absurd h
  level p q r holds (Expr-F.Name name) h = named_is name.place (look name.name c.names) (look_stands name.name c.names stand) h
  level p q r holds (Expr-F.Call name arguments) h = absurd h
  level p q r holds (Expr-F.Construct at of arguments) h = absurd h
  level p q r holds (Expr-F.Bracket at inner) h = holds inner h
  level p q r holds (Expr-F.Prefix at operator operand) h = prefix_is at operator (part here (p operand))
  level p q r holds (Expr-F.Cast at to operand) h = absurd h
  level p q r holds (Expr-F.Zeros at of) h = absurd h
  level p q r holds (Expr-F.Postfix first forms) h = absurd h
  level p q r holds (Expr-F.Chain first rest) h = chain_is (part here (p first)).place (part here (p first)) _ (holds first (chain_first (const_value known (p first)) (map const_link (map r rest)) h))
  level p q r holds (Expr-F.Choice test a b) h = choice_is (part here (p test)).place (part here (p test)) (part here (p a)) (part here (p b))

  pub const_number : (e : Expr) → Claim e
  const_number e = ind-Expr Claim (λ f. Unit {0}) (λ l. Unit {0})
      (λ x y eq. subst (λ l. Claim (roll-Expr l)) eq (λ h.
      subst (λ (s : ExprForm). IsNumber s.part.value) (sym (fold-roll-Expr ExprForm (FormLayer ExprForm) (LinkLayer ExprForm) (expr_seen here) form_seen link_seen _))
      (level (λ b. b.0) (λ b. b.0) (λ b. b.0) (λ b. b.1) y (subst Has (fold-roll-Expr (Option ConstValue) (Unit {0}) Right (expr_value known) form_value link_value _) h))))
      (λ x y eq. tt)
      (λ x y eq. tt)
      e

-- ---- the type of a static constant

pub fits_number : (t goal : TypeTree) → is_number t ≡ true → fits t goal ≡ true → is_number goal ≡ true
fits_number t (type.Scalar of) n f = refl
fits_number t (type.Vector of k) n f = refl
fits_number (type.Scalar of) (type.Struct number) n f = f
fits_number (type.Vector of k) (type.Struct number) n f = f
fits_number (type.Struct m) (type.Struct number) n f = n
fits_number (type.Array of k) (type.Struct number) n f = n
fits_number (type.Scalar of) (type.Array o m) n f = f
fits_number (type.Vector of k) (type.Array o m) n f = f
fits_number (type.Struct m) (type.Array o l) n f = n
fits_number (type.Array of k) (type.Array o l) n f = n
