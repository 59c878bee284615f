-- Expressions that are spelled are written with vectors of 2 to 4 components and numbers below 2 ^ 64.
use Rattle.std.proofs.Common.{◌≡◌, ℕ, zero, suc, Bool, true, false, cond, List, [], ◌∷◌, map, Option, Some, None, refl, sym, ap, ◌∙◌}
use Rattle.std.specs.Prelude.{◌==◌}
use Rattle.wg_facts.specs.Tests.{every}
use Rattle.wg_facts.proofs.Basics.{and_left, and_right, both}
use Rattle.wg_grammar.specs.Productions.{Production, give, token, list, sub, ◌<*>◌, ◌<$>◌, ◌<*◌, ◌*>◌, ◌<|>◌, Rules, spells}
use Rattle.wg_limits.specs.Vectors.{value_written, all_true, expr_written_step, form_written_step, link_written_step, expr_written}
use Rattle.wg_spelled.specs.Numbers.{KindFits}
use Rattle.wg_spelled.proofs.Yields.{Yields, Any, or_yields, Y, y_token, y_give, y_apply, y_either, y_list, RulesYield, y_any, y_map, y_skip, y_keep, y_two, Maybe, y_optional}
use Rattle.wg_tokens.specs.Classes.{NAME, ZERO, NUMBER, TEXT, of_word, class}
use Rattle.wg_tokens.specs.declared.keyword.Keyword.TheVariants as k
use Rattle.wg_tokens.specs.declared.mark.Mark.TheVariants as sign
use Rattle.wg_tokens.specs.declared.token.Token.{Token}
use Rattle.wg_tokens.specs.declared.token.TokenKind.{TokenKind}
use Rattle.wg_tokens.specs.declared.token.TokenKind.TheVariants as kind
use Rattle.wg_words.specs.declared.place.Place.{Place}
use Rattle.wg_tree.specs.Depths.{Depth, deeper}
use Rattle.wg_tree.specs.GrammarExpr.{placed_name, numeral_of, numeral, text_bytes, value_types, at_class, by_code, value_type_of, prefix_operators, prefix_operator, operators, classes, mark, inner_mark, name, one_of, optional, ExprKind, full, constant, argument, Nested, whole, operand, Exprs, comma_expr, some_exprs, exprs, arguments, numbers, texts, truths, name_only, call_of, name_or_call, a_value_type, construct, bracket, prime, accessed, member_or_method, index, a_form, with_forms, postfix, prefixed, cast, zero_struct, unprefixed, plain_operand, unary, LevelBelow, lower, LowerExpr, link_of, chain, link, level, Sides, left, right, Side, choice_of, two_sides, sides, expr, inner_at, expr_at}
use Rattle.wg_tree.specs.declared.expr.Expr.{Expr, roll-Expr, fold-roll-Expr, map-Expr}
use Rattle.wg_tree.specs.declared.expr.Expr.TheVariants as e
use Rattle.wg_tree.specs.declared.expr.Expr.TheOpen.{Expr-F, Form-F}
use Rattle.wg_tree.specs.declared.expr.Form.{Form, fold-Form, roll-Form, fold-roll-Form, map-Form}
use Rattle.wg_tree.specs.declared.expr.Form.TheVariants as form
use Rattle.wg_tree.specs.declared.expr.Link.{Link, fold-Link, fold-roll-Link}
use Rattle.wg_tree.specs.declared.expr.Named.{Named}
use Rattle.wg_tree.specs.declared.expr.ValueType.{ValueType}
use Rattle.wg_tree.specs.declared.expr.ValueType.TheVariants as value_type
use Rattle.wg_tree.specs.declared.expr.Scalar.TheVariants as scalar

-- ---- layers of expressions

abbrev form_written : Form → Bool
form_written = fold-Form Bool Bool Bool expr_written_step form_written_step link_written_step

abbrev link_written : Link → Bool
link_written = fold-Link Bool Bool Bool expr_written_step form_written_step link_written_step

abbrev pub W : Expr → Type 0
W x = expr_written x ≡ true

abbrev WF : Form → Type 0
WF f = form_written f ≡ true

abbrev WL : Link → Type 0
WL l = link_written l ≡ true

abbrev pub AllW : List Expr → Type 0
AllW xs = all_true (map expr_written xs) ≡ true

abbrev AllWF : List Form → Type 0
AllWF fs = all_true (map form_written fs) ≡ true

abbrev AllWL : List Link → Type 0
AllWL ls = all_true (map link_written ls) ≡ true

-- an expression of a layer
of_layer : (z : Expr-F Expr Form Link) (x : Expr) → roll-Expr z ≡ x → expr_written_step (map-Expr Expr Form Link Bool Bool Bool expr_written form_written link_written z) ≡ true → W x
of_layer z x e h = ap expr_written (sym e) ∙ fold-roll-Expr Bool Bool Bool expr_written_step form_written_step link_written_step z ∙ h

of_form : (z : Form-F Expr Form Link) (f : Form) → roll-Form z ≡ f → form_written_step (map-Form Expr Form Link Bool Bool Bool expr_written form_written link_written z) ≡ true → WF f
of_form z f e h = ap form_written (sym e) ∙ fold-roll-Form Bool Bool Bool expr_written_step form_written_step link_written_step z ∙ h

-- ---- value types

one_written : (table : List (ℕ × ValueType)) (other : ValueType) (c : ℕ) → every (λ (p : ℕ × ValueType). value_written p.1) table ≡ true → value_written other ≡ true → value_written (at_class table other c) ≡ true
one_written [] other c h k = k
one_written (p ∷ rest) other c h k = by_class (c == p.0) (one_written rest other c (and_right (value_written p.1) _ h) k)
  where
    by_class : (b : Bool) → value_written (at_class rest other c) ≡ true → value_written (cond b p.1 (at_class rest other c)) ≡ true
    by_class true i = and_left (value_written p.1) _ h
    by_class false i = i

pub type_token : (t : Token) → value_written (value_type_of t) ≡ true
type_token t = one_written (by_code value_types) (value_type.Scalar scalar.Bool) (class t) refl refl

-- ---- numbers

number_written : (place : Place) (n : TokenKind) → KindFits n → W (numeral_of place n)
number_written place (kind.Number value unsigned long) h = of_layer (Expr-F.Number place value unsigned long) (e.Number place value unsigned long) (e.rolls-Number place value unsigned long) h
number_written place _ h = of_layer (Expr-F.Number place 0 false false) (e.Number place 0 false false) (e.rolls-Number place 0 false false) refl

-- ---- productions

module _ (R : Rules Token Depth Nested Exprs) (rules : RulesYield R (λ n x. W x)) where
  any : {X : Type 0} (p : Production Token Nested Exprs X) → Y R p Any
  any p = y_any R (λ n x. W x) rules p

  below : (n : Nested) → Y R (sub n) W
  below n = rules n

  y_comma : Y R comma_expr W
  y_comma = y_skip R W (inner_mark sign.Comma) (sub whole) (any (inner_mark sign.Comma)) (below whole)

  y_some : Y R some_exprs AllW
  y_some = y_two R W AllW AllW (λ x xs. x ∷ xs) (sub whole) (list comma_expr) (λ x h xs i. both h i) (below whole) (y_list R W AllW comma_expr y_comma refl (λ x xs h i. both h i))

  y_exprs : Y R exprs AllW
  y_exprs = y_either R AllW some_exprs (give []) y_some (y_give R [] AllW refl)

  y_arguments : Y R arguments AllW
  y_arguments = y_keep R AllW (inner_mark sign.LeftParen *> exprs) (inner_mark sign.RightParen) (y_skip R AllW (inner_mark sign.LeftParen) exprs (any (inner_mark sign.LeftParen)) y_exprs) (any (inner_mark sign.RightParen))

  y_numbers : Y R numbers W
  y_numbers = y_token R false (NUMBER ∷ ZERO ∷ []) numeral W (λ t h. number_written t.place t.kind h)

  y_texts : Y R texts W
  y_texts = y_token R false (TEXT ∷ []) _ W (λ t h. of_layer (Expr-F.Text t.place (text_bytes t.kind)) _ (e.rolls-Text t.place (text_bytes t.kind)) refl)

  y_truths : Y R truths W
  y_truths = y_token R false (of_word k.True ∷ of_word k.False ∷ []) _ W (λ t h. of_layer (Expr-F.Truth t.place (class t == of_word k.True)) _ (e.rolls-Truth t.place (class t == of_word k.True)) refl)

  named_written : (n : Named) → W (e.Name n)
  named_written n = of_layer (Expr-F.Name n) (e.Name n) (e.rolls-Name n) refl

  y_name : Y R name_only W
  y_name = y_map R Any W (λ n. e.Name n) name (λ n u. named_written n) (any name)

  called_written : (n : Named) (o : Option (List Expr)) → Maybe R AllW o → W (call_of n o)
  called_written n None h = named_written n
  called_written n (Some xs) h = of_layer (Expr-F.Call n xs) (e.Call n xs) (e.rolls-Call n xs) h

  y_call : Y R name_or_call W
  y_call = y_two R Any (Maybe R AllW) W call_of name (optional arguments) (λ n u o h. called_written n o h) (any name) (y_optional R AllW arguments y_arguments)

  y_construct : Y R construct W
  y_construct = y_two R Any AllW W (λ t xs. e.Construct t.place (value_type_of t) xs) a_value_type (inner_mark sign.LeftParen *> some_exprs <* inner_mark sign.RightParen)
      (λ t u xs h. of_layer (Expr-F.Construct t.place (value_type_of t) xs) (e.Construct t.place (value_type_of t) xs) (e.rolls-Construct t.place (value_type_of t) xs) (both (type_token t) h)) (any a_value_type)
      (y_keep R AllW (inner_mark sign.LeftParen *> some_exprs) (inner_mark sign.RightParen) (y_skip R AllW (inner_mark sign.LeftParen) some_exprs (any (inner_mark sign.LeftParen)) y_some) (any (inner_mark sign.RightParen)))

  y_bracket : Y R bracket W
  y_bracket = y_keep R W ((λ place x. e.Bracket place x) <$> inner_mark sign.LeftParen <*> sub whole) (inner_mark sign.RightParen)
      (y_two R Any W W (λ place x. e.Bracket place x) (inner_mark sign.LeftParen) (sub whole) (λ place u x h. of_layer (Expr-F.Bracket place x) (e.Bracket place x) (e.rolls-Bracket place x) h) (any (inner_mark sign.LeftParen)) (below whole)) (any (inner_mark sign.RightParen))

  y_prime : (c : ExprKind) → Y R (prime c) W
  y_prime full = y_either R W numbers (truths <|> name_or_call <|> construct <|> bracket) y_numbers (y_either R W truths (name_or_call <|> construct <|> bracket) y_truths (y_either R W name_or_call (construct <|> bracket) y_call (y_either R W construct bracket y_construct y_bracket)))
  y_prime constant = y_either R W numbers (name_only <|> bracket) y_numbers (y_either R W name_only bracket y_name y_bracket)
  y_prime argument = y_either R W numbers (texts <|> name_only <|> bracket) y_numbers (y_either R W texts (name_only <|> bracket) y_texts (y_either R W name_only bracket y_name y_bracket))

  accessed_written : (n : Named) (o : Option (List Expr)) → Maybe R AllW o → WF (accessed n o)
  accessed_written n None h = of_form (Form-F.Member n) (form.Member n) (form.rolls-Member n) refl
  accessed_written n (Some xs) h = of_form (Form-F.Method n xs) (form.Method n xs) (form.rolls-Method n xs) h

  y_form : Y R a_form WF
  y_form = y_either R WF member_or_method index
      (y_two R Any (Maybe R AllW) WF accessed (mark sign.Dot *> name) (optional arguments) (λ n u o h. accessed_written n o h) (any (mark sign.Dot *> name)) (y_optional R AllW arguments y_arguments))
      (y_keep R WF ((λ place x. form.Index place x) <$> inner_mark sign.LeftBracket <*> sub whole) (inner_mark sign.RightBracket)
      (y_two R Any W WF (λ place x. form.Index place x) (inner_mark sign.LeftBracket) (sub whole) (λ place u x h. of_form (Form-F.Index place x) (form.Index place x) (form.rolls-Index place x) h) (any (inner_mark sign.LeftBracket)) (below whole)) (any (inner_mark sign.RightBracket)))

  forms_written : (x : Expr) (fs : List Form) → W x → AllWF fs → W (with_forms x fs)
  forms_written x [] h i = h
  forms_written x (f ∷ fs) h i = of_layer (Expr-F.Postfix x (f ∷ fs)) (e.Postfix x (f ∷ fs)) (e.rolls-Postfix x (f ∷ fs)) (both h i)

  y_postfix : Y R postfix W
  y_postfix = y_two R W AllWF W with_forms (prime full) (list a_form) (λ x h fs i. forms_written x fs h i) (y_prime full) (y_list R WF AllWF a_form y_form refl (λ x xs h i. both h i))

  y_prefixed : Y R prefixed W
  y_prefixed = y_two R Any W W (λ t x. e.Prefix t.place (prefix_operator t) x) (one_of (classes prefix_operators)) (sub operand)
      (λ t u x h. of_layer (Expr-F.Prefix t.place (prefix_operator t) x) (e.Prefix t.place (prefix_operator t) x) (e.rolls-Prefix t.place (prefix_operator t) x) h) (any (one_of (classes prefix_operators))) (below operand)

  abbrev cast_head : Production Token Nested Exprs (Expr → Expr)
  cast_head = (λ place t x. e.Cast place (value_type_of t) x) <$> inner_mark sign.LeftParen <*> token true (classes (by_code value_types)) (λ t. t) <* inner_mark sign.RightParen

  y_cast : Y R cast W
  y_cast = y_apply R W W cast_head (sub operand)
      (y_keep R (λ f. (x : Expr) → W x → W (f x)) ((λ place t x. e.Cast place (value_type_of t) x) <$> inner_mark sign.LeftParen <*> token true (classes (by_code value_types)) (λ t. t)) (inner_mark sign.RightParen)
      (y_two R Any Any (λ f. (x : Expr) → W x → W (f x)) (λ place t x. e.Cast place (value_type_of t) x) (inner_mark sign.LeftParen) (token true (classes (by_code value_types)) (λ t. t))
      (λ place u t v x h. of_layer (Expr-F.Cast place (value_type_of t) x) (e.Cast place (value_type_of t) x) (e.rolls-Cast place (value_type_of t) x) (both (type_token t) h)) (any (inner_mark sign.LeftParen)) (any (token true (classes (by_code value_types)) (λ t. t)))) (any (inner_mark sign.RightParen))) (below operand)

  y_zeros : Y R zero_struct W
  y_zeros = λ x i r f a. y_keep R W ((λ place name. e.Zeros place name) <$> inner_mark sign.LeftParen <*> token true (NAME ∷ []) placed_name <* inner_mark sign.RightParen) (token true (ZERO ∷ []) (λ t. t.place))
      (y_keep R W ((λ place name. e.Zeros place name) <$> inner_mark sign.LeftParen <*> token true (NAME ∷ []) placed_name) (inner_mark sign.RightParen)
      (y_two R Any Any W (λ place name. e.Zeros place name) (inner_mark sign.LeftParen) (token true (NAME ∷ []) placed_name) (λ place u n v. of_layer (Expr-F.Zeros place n) (e.Zeros place n) (e.rolls-Zeros place n) refl) (any (inner_mark sign.LeftParen)) (any (token true (NAME ∷ []) placed_name))) (any (inner_mark sign.RightParen)))
      (any (token true (ZERO ∷ []) (λ t. t.place))) x i r f a

  y_unprefixed : (c : ExprKind) → Y R (unprefixed c) W
  y_unprefixed full = y_postfix
  y_unprefixed constant = y_prime constant
  y_unprefixed argument = y_prime argument

  y_plain : (c : ExprKind) → Y R (plain_operand c) W
  y_plain c = y_either R W prefixed (unprefixed c) y_prefixed (y_unprefixed c)

  pub y_unary : (c : ExprKind) → Yields (unary c R) W
  y_unary full = or_yields (spells class R cast) _ W y_cast (or_yields (spells class R zero_struct) (spells class R (plain_operand full)) W y_zeros (y_plain full))
  y_unary constant = y_plain constant
  y_unary argument = y_plain argument

  abbrev under : ExprKind → ℕ → Rules Token Depth LevelBelow LowerExpr
  under c j = record { room = R.room; here = R.here; below = R.below; rule = λ n. level c R j }

  link_is : (j : ℕ) (t : Token) (x : Expr) → W x → WL (link_of j t x)
  link_is j t x h = fold-roll-Link Bool Bool Bool expr_written_step form_written_step link_written_step _ ∙ h

  chain_is : (x : Expr) (ls : List Link) → W x → AllWL ls → W (chain x ls)
  chain_is x [] h i = h
  chain_is x (l ∷ ls) h i = of_layer (Expr-F.Chain x (l ∷ ls)) (e.Chain x (l ∷ ls)) (e.rolls-Chain x (l ∷ ls)) (both h i)

  pub y_level : (c : ExprKind) (j : ℕ) → Yields (level c R j) W
  y_level c zero = y_unary c
  y_level c (suc j) =
      let u = under c j in
      let s : RulesYield u (λ n x. W x) = λ n. y_level c j in
      y_two u W AllWL W chain (sub lower) (list (link (suc j))) (λ x h ls i. chain_is x ls h i) (s lower)
      (y_list u WL AllWL (link (suc j)) (y_two u Any W WL (link_of (suc j)) (one_of (classes (operators (suc j)))) (sub lower) (λ t v x h. link_is (suc j) t x h) (y_any u (λ n x. W x) s (one_of (classes (operators (suc j))))) (s lower)) refl (λ x xs h i. both h i))

  abbrev both_sides : ExprKind → Rules Token Depth Sides Side
  both_sides c = record { room = R.room; here = R.here; below = R.below; rule = sides (level c R 10) (R.rule whole) }

  abbrev WP : Expr × Expr → Type 0
  WP p = W p.0 × W p.1

  choice_is : (c : ExprKind) (x : Expr) (o : Option (Expr × Expr)) → W x → Maybe (both_sides c) WP o → W (choice_of x o)
  choice_is c x None h i = h
  choice_is c x (Some p) h i = of_layer (Expr-F.Choice x p.0 p.1) (e.Choice x p.0 p.1) (e.rolls-Choice x p.0 p.1) (both h (both i.0 i.1))

  side_rules : (c : ExprKind) → RulesYield (both_sides c) (λ n x. W x)
  side_rules c left = y_level c 10
  side_rules c right = below whole

  pub y_expr : (c : ExprKind) → Yields (expr c R) W
  y_expr c =
      let u = both_sides c in
      let s = side_rules c in
      let any2 = y_any u (λ n x. W x) s in
      y_two u W (Maybe u WP) W choice_of (sub left) (optional two_sides) (λ x h o i. choice_is c x o h i) (s left) (y_optional u WP two_sides
      (y_apply u W WP ((λ x y. (x, y)) <$> (mark sign.Question *> sub right) <* mark sign.Colon) (sub right)
      (y_keep u (λ g. (y : Expr) → W y → WP (g y)) ((λ x y. (x, y)) <$> (mark sign.Question *> sub right)) (mark sign.Colon)
      (y_map u W (λ g. (y : Expr) → W y → WP (g y)) (λ x y. (x, y)) (mark sign.Question *> sub right) (λ x h y i. (h, i)) (y_skip u W (mark sign.Question) (sub right) (any2 (mark sign.Question)) (s right))) (any2 (mark sign.Colon))) (s right)))

-- ---- at a depth

pub inner_rules : (c : ExprKind) (room : ℕ) (d : Depth) → RulesYield (inner_at c room d) (λ n x. W x)
inner_rules c zero d n = λ x i r f a. absurd a
inner_rules c (suc room) d whole = y_expr (inner_at c room (deeper d)) (inner_rules c room (deeper d)) c
inner_rules c (suc room) d operand = y_unary (inner_at c room (deeper d)) (inner_rules c room (deeper d)) c

pub expr_is : (c : ExprKind) (room : ℕ) (d : Depth) → Yields (expr_at c room d) W
expr_is c room d = y_expr (inner_at c room d) (inner_rules c room d) c
