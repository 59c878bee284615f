-- Operators on parts that have types.
use Rattle.std.proofs.Common.{◌≡◌, Bool, true, false, not, cond, List, [], ◌∷◌, ◌++◌, Option, Some, refl, sym, ◌∙◌, subst, map}
use Rattle.std.specs.Prelude.{◌&&◌, is_none}
use Rattle.wg_words.specs.declared.place.Place.{Place}
use Rattle.wg_typing.specs.Conversions.{numbers, type_of, size_fits, fits, is_number, truth_type, common_numbers, class_of, suits, operation_on}
use Rattle.wg_typing.specs.Layers.{typed_part, convert, fit, map_link}
use Rattle.wg_words.specs.Maybe.{◌>>=◌}
use Rattle.wg_typing.specs.Maybe.{where_true}
use Rattle.wg_typing.specs.RulesMismatchExpr.{clash, clash_on, choice_of, unfit_results}
use Rattle.wg_typing.specs.Sites.{at_if}
use Rattle.wg_typing.proofs.Sites.{Well, well_left, well_right, well_only}
use Rattle.wg_typing.specs.TypingOperators.{prefix_type, prefix_value, cast_value, choice_value, suited, run_on, run_type, chain_links, chain_type, chain_value, typed_of}
use Rattle.wg_tree.specs.declared.expr.BinaryOperator.{BinaryOperator}
use Rattle.wg_tree.specs.declared.expr.PrefixOperator.{PrefixOperator}
use Rattle.wg_tree.specs.declared.expr.PrefixOperator.TheVariants as prefix
use Rattle.wg_typed.specs.declared.types.TypeTree.{TypeTree}
use Rattle.wg_typing.proofs.Facts.{Empty, Has, both, has_is_none, has_then, has_where, is_false, some_of, through_where}
use Rattle.wg_typing.proofs.Parts.{IsTyped, has_convert, has_fit, holds, site_is, goal_fits}
use Rattle.wg_typing.proofs.Types.{chosen_fits, fits_sized, has_numbers, operation_on_fits, size_same}
use Rattle.wg_typing.specs.declared.numbers.Numbers.{Numbers}
use Rattle.wg_typing.specs.declared.numbers.Operation.{Operation}
use Rattle.wg_typing.specs.declared.part.LinkLayer.{LinkLayer}
use Rattle.wg_typing.specs.declared.part.Part.{Part}
use Rattle.wg_typing.specs.declared.part.TypedPart.{TypedPart}
use Rattle.wg_typing.specs.declared.fault.TypingRule.TheVariants.{Mismatch}
use Rattle.wg_typing.specs.PartSites.{part_site, goal_site, results_site, link_site}
use Rattle.wg_typing.specs.Site.{AtNumber}
use Rattle.wg_typing.specs.TypingExpr.{ExprForm, part_of, links_sites}
use Rattle.wg_typing.specs.declared.context.Around.{Around}

-- ---- prefix operators and casts

prefix_size : (operator : PrefixOperator) (n : Numbers) → size_fits n (prefix_type operator n).size ≡ true
prefix_size prefix.Minus n = size_same n
prefix_size prefix.Plus n = size_same n
prefix_size prefix.Not n = size_same n
prefix_size prefix.Complement n = size_same n

pub has_prefix : (place : Place) (operator : PrefixOperator) (p : Part) → IsTyped p → Well (part_site AtNumber p) → Has (prefix_value place operator p)
has_prefix place operator p h e = has_then (typed_part p) _ h (λ t q.
    has_then (numbers t.of) _ (has_numbers t.of (holds (is_number t.of) t.place ((site_is AtNumber (typed_part p) t q e).clear Mismatch))) (λ n r.
    has_then (convert (type_of (prefix_type operator n)) t) _ (has_convert (type_of (prefix_type operator n)) t (fits_sized t.of n (prefix_type operator n) r (prefix_size operator n))) (λ a s. tt)))

pub has_cast : (place : Place) (goal : TypeTree) (p : Part) → IsTyped p → Well (goal_site goal p) → Has (cast_value place goal p)
has_cast place goal p h e = has_then (typed_part p) _ h (λ t q.
    has_then (where_true (fits t.of goal) t.tree) _ (has_where (fits t.of goal) t.tree (goal_fits goal p t q e)) (λ a r. tt))

-- ---- `?:`

record Results (a b : TypedPart) : Type 0 where
  pub first : is_number a.of ≡ true
  pub second : is_number b.of ≡ true
  pub together : Has (choice_of (numbers a.of) (numbers b.of))

results : (whole : Place) (a b : TypedPart) → Empty (unfit_results whole a b) → Results a b
results whole a b h = by_tests (is_number a.of) (is_number b.of) refl refl h
  where
    by_tests : (x y : Bool) → is_number a.of ≡ x → is_number b.of ≡ y → Empty (cond (x && y) (at_if (is_none (choice_of (numbers a.of) (numbers b.of))) whole) (at_if (not x) a.place ++ at_if (not y) b.place)) → Results a b
    by_tests true true e f h = record { first = e; second = f; together = has_is_none _ (is_false _ whole h) }
    by_tests true false e f h = absurd h
    by_tests false true e f h = absurd h
    by_tests false false e f h = absurd h

pub has_choice : (place : Place) (test a b : Part) → IsTyped test → IsTyped a → IsTyped b → Well (goal_site truth_type test) → Well (results_site place (typed_part a) (typed_part b)) → Has (choice_value place test a b)
has_choice place test a b h k l e f = has_then (fit truth_type test) _ (has_fit truth_type test h e) (λ x q. has_then (typed_part a) _ k (λ s r. has_then (typed_part b) _ l (λ t u.
    let g = results place s t ((well_only (subst (λ z. Well (results_site place (Some s) z)) u (subst (λ z. Well (results_site place z (typed_part b))) r f))).clear Mismatch) in
    has_then (numbers s.of) _ (has_numbers s.of g.first) (λ m v. has_then (numbers t.of) _ (has_numbers t.of g.second) (λ n w.
    has_then (common_numbers m n) _ (chosen_has s t m n v w g.together) (λ c y.
    let d = chosen_fits m n c y in
    has_then (convert (type_of c) s) _ (has_convert (type_of c) s (fits_sized s.of m c v d.0)) (λ i j.
    has_then (convert (type_of c) t) _ (has_convert (type_of c) t (fits_sized t.of n c w d.1)) (λ o p. tt)))))))
    )
  where
    chosen_has : (s t : TypedPart) (m n : Numbers) → numbers s.of ≡ Some m → numbers t.of ≡ Some n → Has (choice_of (numbers s.of) (numbers t.of)) → Has (common_numbers m n)
    chosen_has s t m n v w h = subst (λ z. Has (choice_of (Some m) z)) w (subst (λ z. Has (choice_of z (numbers t.of))) v h)

-- ---- two-sided operators

-- two operands that suit an operator and fit together
pub record Together (operator : BinaryOperator) (a b : TypeTree) : Type 0 where
  pub first : suits (class_of operator) a ≡ true
  pub second : suits (class_of operator) b ≡ true
  pub fit : Has (operation_on operator a b)

pub together : (whole : Place) (operator : BinaryOperator) (left : Place) (a : TypeTree) (t : TypedPart) → Empty (clash_on whole operator left a t) → Together operator a t.of
together whole operator left a t h = by_tests (suits (class_of operator) a) (suits (class_of operator) t.of) refl refl h
  where
    by_tests : (x y : Bool) → suits (class_of operator) a ≡ x → suits (class_of operator) t.of ≡ y → Empty (clash whole x y left t.place (operation_on operator a t.of)) → Together operator a t.of
    by_tests true true e f h = record { first = e; second = f; fit = has_is_none _ (is_false _ whole h) }
    by_tests true false e f h = absurd h
    by_tests false true e f h = absurd h
    by_tests false false e f h = absurd h

pub suited_is : (operator : BinaryOperator) (a b : TypeTree) → Together operator a b → suited operator a b ≡ operation_on operator a b
suited_is operator a b g = through_where (suits (class_of operator) a && suits (class_of operator) b) operator (λ operator. operation_on operator a b) (both _ _ g.first g.second)

pub has_suited : (operator : BinaryOperator) (a b : TypeTree) → Together operator a b → Has (suited operator a b)
has_suited operator a b g = subst Has (sym (suited_is operator a b g)) g.fit

pub right_fits : (operator : BinaryOperator) (a b : TypeTree) (o : Operation) → Together operator a b → suited operator a b ≡ Some o → fits b (type_of o.right) ≡ true
right_fits operator a b o g e = operation_on_fits operator a b o g.second (sym (suited_is operator a b g) ∙ e)

-- ---- chains

record Runs (of : TypeTree) (l : LinkLayer Part) : Type 0 where
  pub link : Has (run_on of l)
  pub after : Has (run_type of l)

runs : (whole : Place) (of : TypeTree) (l : LinkLayer Part) → IsTyped l.operand → Well (link_site whole (Some of) l.operator (typed_part l.operand)) → Runs of l
runs whole of l h e = record {
  link = has_then (typed_part l.operand) _ h (λ t q.
      has_then (suited l.operator of t.of) _ (has_suited l.operator of t.of (fitting t q)) (λ o r.
      has_then (convert (type_of o.right) t) _ (has_convert (type_of o.right) t (right_fits l.operator of t.of o (fitting t q) r)) (λ a s. tt)));
  after = has_then (typed_part l.operand) _ h (λ t q. has_then (suited l.operator of t.of) _ (has_suited l.operator of t.of (fitting t q)) (λ o r. tt));
}
  where
    fitting : (t : TypedPart) → typed_part l.operand ≡ Some t → Together l.operator of t.of
    fitting t q = together whole l.operator whole of t ((well_only (subst (λ x. Well (link_site whole (Some of) l.operator x)) q e)).clear Mismatch)

record Chained (of : Option TypeTree) (rest : List (LinkLayer Part)) : Type 0 where
  pub links : Has (chain_links of rest)
  pub last : Has (chain_type of rest)

-- the operands have types
abbrev pub LinksTyped : List (LinkLayer ExprForm) → Type 0
LinksTyped [] = Unit {0}
LinksTyped (l ∷ rest) = IsTyped l.operand.part × LinksTyped rest

chained : (around : Around) (whole : Place) (of : TypeTree) (rest : List (LinkLayer ExprForm)) → LinksTyped rest → Well (links_sites around whole (Some of) rest) → Chained (Some of) (map (map_link part_of) rest)
chained around whole of [] h w = record { links = tt; last = tt }
chained around whole of (l ∷ rest) h w =
    let r = runs whole of (map_link part_of l) h.0 (well_left (well_right w)) in
    let next = some_of (run_type of (map_link part_of l)) r.after in
    let c = chained around whole next.0 rest h.1 (subst (λ x. Well (links_sites around whole x rest)) next.1 (well_right (well_right w))) in
    record {
      links = has_then (run_on of (map_link part_of l)) _ r.link (λ a q. has_then (chain_links (run_type of (map_link part_of l)) (map (map_link part_of) rest)) _ (subst (λ x. Has (chain_links x (map (map_link part_of) rest))) (sym next.1) c.links) (λ b s. tt));
      last = subst (λ x. Has (chain_type x (map (map_link part_of) rest))) (sym next.1) c.last;
    }

pub has_chain : (around : Around) (place : Place) (first : Part) (rest : List (LinkLayer ExprForm)) → IsTyped first → LinksTyped rest → Well (links_sites around place (typed_of first) rest) → Has (chain_value place first (map (map_link part_of) rest))
has_chain around place first rest h k w = has_then (typed_part first) _ h (λ t q.
    let c = chained around place t.of rest k (subst (λ x. Well (links_sites around place (◌>>=◌ x (λ t. Some t.of)) rest)) q w) in
    has_then (chain_links (Some t.of) (map (map_link part_of) rest)) _ c.links (λ a r. has_then (chain_type (Some t.of) (map (map_link part_of) rest)) _ c.last (λ b s. tt)))
