-- What is read as an expression is spelled so, and what was read before a fault can be completed.
use Rattle.std.proofs.Common.{◌≡◌, ℕ, zero, suc, ◌+◌, ◌≤◌, true, false, List, [], ◌∷◌, refl, inl, inr, arith}
use Rattle.wg_tokens.specs.declared.token.Token.{Token}
use Rattle.wg_tree.specs.declared.expr.Expr.{Expr}
use Rattle.wg_grammar.specs.Spans.{Span}
use Rattle.wg_grammar.specs.Reading.{begins_with}
use Rattle.wg_grammar.specs.Productions.{Production, Edges, member, of, spells, decides, covered, stops}
use Rattle.wg_grammar.proofs.Sets.{both_true}
use Rattle.wg_grammar.proofs.Fine as f
use Rattle.wg_grammar.proofs.Fine.{Opens}
use Rattle.wg_grammar.proofs.PartFine.{part_fine, part_starts}
use Rattle.wg_tokens.specs.Classes.{NUMBER, class}
use Rattle.wg_tree.specs.Depths.{Depth, deeper, Within}
use Rattle.wg_tree.specs.GrammarExpr.{ExprKind, full, constant, argument, Nested, whole, operand, Exprs, Inner, plain_operand, cast, zero_struct, numeral, unary, level, links, Sides, left, right, sides, choice, expr, inner_at, expr_at, with_forms}
use Rattle.wg_tree.specs.ReadsExpr.{starts, nested_edges, level_edges, side_edges, cast_tests, zeros_tests, read_part, read_unary, read_level, read_expr, inside_at, expr_read_at}
use Rattle.wg_tree.proofs.Examples.{example}
use Rattle.wg_tree.proofs.ExprDecides.{cast_decides, zeros_decides, plain_decides, levels_decide, all_levels, choice_decides}
use Rattle.wg_tree.proofs.ExprExact.{expr_alone}

abbrev Cells : Type 0
Cells = List (Token × Depth)

opens_as : (P Q : Expr → Span (Token × Depth)) (front : Cells) → ((x : Expr) (i r : Cells) → P x i r → Q x i r) → Opens P front → Opens Q front
opens_as P Q front h o = (o.0, o.1, λ s. h o.1 _ s (o.2 s))

-- a number alone
number_alone : (kind : ExprKind) (R : Inner) → Opens (unary kind R) []
number_alone full R = ((example NUMBER, R.here) ∷ [], numeral (example NUMBER), λ r. inr (inr (inr (with_forms (numeral (example NUMBER)), r, (with_forms, (example NUMBER, R.here) ∷ r, (refl, refl), (numeral (example NUMBER), r, inl (example NUMBER, refl, refl, refl), (refl, refl))), ([], r, refl, (refl, refl))))))
number_alone constant R = ((example NUMBER, R.here) ∷ [], numeral (example NUMBER), λ r. inr (inl (example NUMBER, refl, refl, refl)))
number_alone argument R = ((example NUMBER, R.here) ∷ [], numeral (example NUMBER), λ r. inr (inl (example NUMBER, refl, refl, refl)))

pub expr_opens : (kind : ExprKind) (room : ℕ) (d : Depth) → Opens (expr_at kind room d) []
expr_opens kind room d = opens_as (unary kind (inner_at kind room d)) (expr_at kind room d) [] (λ x i r. expr_alone kind (inner_at kind room d) x i r) (number_alone kind (inner_at kind room d))

inner_opens : (kind : ExprKind) (room : ℕ) (d : Depth) → 1 ≤ room → (n : Nested) → Opens ((inner_at kind room d).rule n) []
inner_opens kind zero d l n = absurd (omega arith)
inner_opens kind (suc room) d l whole = expr_opens kind room (deeper d)
inner_opens kind (suc room) d l operand = number_alone kind (inner_at kind room (deeper d))

inner_room : (kind : ExprKind) (room : ℕ) (d : Depth) → 1 ≤ room → (inner_at kind room d).room ≡ true
inner_room kind zero d l = absurd (omega arith)
inner_room kind (suc room) d l = refl

pub inner_here : (kind : ExprKind) (room : ℕ) (d : Depth) (P : Depth → Type 0) → P d → P (inner_at kind room d).here
inner_here kind zero d P h = h
inner_here kind (suc room) d P h = h

pub inner_below : (kind : ExprKind) (room : ℕ) (d : Depth) (P : Depth → Type 0) → P (deeper d) → P (inner_at kind room d).below
inner_below kind zero d P h = h
inner_below kind (suc room) d P h = h

abbrev blank : Edges Nested
blank = record { first = λ n. []; stops = λ n. [] }

blank_decides : (kind : ExprKind) → decides class blank example (plain_operand kind) ≡ true
blank_decides full = refl
blank_decides constant = refl
blank_decides argument = refl

plain_unary : (kind : ExprKind) (R : Inner) (x : Expr) (i r : Cells) → spells class R (plain_operand kind) x i r → unary kind R x i r
plain_unary full R x i r h = inr (inr h)
plain_unary constant R x i r h = h
plain_unary argument R x i r h = h

module _ (ok : Type 0) (limit : ℕ) where
  abbrev Beyond : Depth → Type 0
  Beyond d = Within limit d → ⊥

  abbrev Started : (Expr → Span (Token × Depth)) → Token → Type 0
  Started P t = (d : Depth) × Beyond d × (ok → Opens P ((t, d) ∷ []))

  -- a first token that is too deep can be completed
  unary_started : (kind : ExprKind) (room : ℕ) (d : Depth) → Beyond d → Beyond (deeper d) → (ok → 1 ≤ room) → (t : Token) → member (class t) (starts kind) ≡ true → Started (unary kind (inner_at kind room d)) t
  unary_started kind room d b c l t m =
      let k = part_starts ok class blank example (Within limit) (inner_at kind room d) (λ z. inner_room kind room d (l z)) (λ z. inner_opens kind room d (l z)) Beyond (inner_here kind room d Beyond b) (inner_below kind room d Beyond c) (λ n u q. absurd (none q)) (plain_operand kind) (blank_decides kind) t m in
      (k.0, k.1, λ z. opens_as (spells class (inner_at kind room d) (plain_operand kind)) (unary kind (inner_at kind room d)) ((t, k.0) ∷ []) (plain_unary kind (inner_at kind room d)) (k.2 z))
    where
      none : false ≡ true → ⊥
      none q = cc

  pub expr_started : (kind : ExprKind) (room : ℕ) (d : Depth) → Beyond d → Beyond (deeper d) → (ok → 1 ≤ room) → (t : Token) → member (class t) (starts kind) ≡ true → Started (expr_at kind room d) t
  expr_started kind room d b c l t m = let k = unary_started kind room d b c l t m in
      (k.0, k.1, λ z. opens_as (unary kind (inner_at kind room d)) (expr_at kind room d) ((t, k.0) ∷ []) (λ x i r. expr_alone kind (inner_at kind room d) x i r) (k.2 z))

  -- what is read with room n is spelled with room m
  pub record Near (kind : ExprKind) (n m : ℕ) (d : Depth) : Type 0 where
    pub roomy : ok → (inner_at kind m d).room ≡ true
    pub grows : (inside_at kind n).room ≡ true → (inner_at kind m d).room ≡ true
    pub here : Within limit (inner_at kind m d).here
    pub shallow : (inside_at kind n).room ≡ true → Within limit (inner_at kind m d).below
    pub deep : (inside_at kind n).room ≡ false → Within limit (inner_at kind m d).below → ⊥

  module _ (kind : ExprKind) (n m : ℕ) (d : Depth) (near : Near kind n m d) (fine : (k : Nested) → f.Fine ok (Within limit) ((inside_at kind n).read k) ((inner_at kind m d).rule k)) where
    part_is_fine : {X : Type 0} (p : Production Token Nested Exprs X) → decides class (nested_edges kind) example p ≡ true → f.Fine ok (Within limit) (read_part kind (inside_at kind n) p) (spells class (inner_at kind m d) p)
    part_is_fine p g = part_fine ok class (nested_edges kind) example (Within limit) (inner_at kind m d) (inside_at kind n) near.roomy near.grows near.here near.shallow near.deep fine p g

    module _ (operands : f.Fine ok (Within limit) (read_unary kind (inside_at kind n)) (unary kind (inner_at kind m d))) where
      fine_level : (j : ℕ) → levels_decide kind j ≡ true → f.Fine ok (Within limit) (read_level kind (inside_at kind n) j) (level kind (inner_at kind m d) j)
      fine_level zero g = operands
      fine_level (suc j) g =
          let a = both_true (decides class (level_edges kind j) example (links (suc j))) _ g in
          let b = both_true (covered (stops (level_edges kind j) (links (suc j))) _) (levels_decide kind j) a.1 in
          let below = fine_level j b.1 in
          part_fine ok class (level_edges kind j) example (Within limit) (record { room = (inner_at kind m d).room; here = (inner_at kind m d).here; below = (inner_at kind m d).below; rule = λ n. level kind (inner_at kind m d) j }) (record { room = (inside_at kind n).room; read = λ k. read_level kind (inside_at kind n) j })
          near.roomy near.grows near.here near.shallow near.deep (λ k. below) (links (suc j)) a.0

      fine_sides : (k : Sides) → f.Fine ok (Within limit) (sides (read_level kind (inside_at kind n) 10) ((inside_at kind n).read whole) k) (sides (level kind (inner_at kind m d) 10) ((inner_at kind m d).rule whole) k)
      fine_sides left = fine_level 10 (all_levels kind)
      fine_sides right = fine whole

      fine_expr : f.Fine ok (Within limit) (read_expr kind (inside_at kind n)) (expr kind (inner_at kind m d))
      fine_expr = part_fine ok class (side_edges kind) example (Within limit) (record { room = (inner_at kind m d).room; here = (inner_at kind m d).here; below = (inner_at kind m d).below; rule = sides (level kind (inner_at kind m d) 10) ((inner_at kind m d).rule whole) }) (record { room = (inside_at kind n).room; read = sides (read_level kind (inside_at kind n) 10) ((inside_at kind n).read whole) })
          near.roomy near.grows near.here near.shallow near.deep fine_sides choice (choice_decides kind)

  fine_unary : (kind : ExprKind) (n m : ℕ) (d : Depth) → Near kind n m d → ((k : Nested) → f.Fine ok (Within limit) ((inside_at kind n).read k) ((inner_at kind m d).rule k)) → f.Fine ok (Within limit) (read_unary kind (inside_at kind n)) (unary kind (inner_at kind m d))
  fine_unary full n m d near fine =
      let one = f.fine_as ok (Within limit) {P = spells class (inner_at full m d) cast} {Q = unary full (inner_at full m d)} (λ x i r. inl) (part_is_fine full n m d near fine cast cast_decides) in
      let two = f.fine_as ok (Within limit) {P = spells class (inner_at full m d) zero_struct} {Q = unary full (inner_at full m d)} (λ x i r h. inr (inl h)) (part_is_fine full n m d near fine zero_struct zeros_decides) in
      let three = f.fine_as ok (Within limit) {P = spells class (inner_at full m d) (plain_operand full)} {Q = unary full (inner_at full m d)} (λ x i r h. inr (inr h)) (part_is_fine full n m d near fine (plain_operand full) (plain_decides full)) in
      f.fine_if ok (Within limit) (begins_with cast_tests) one (f.fine_if ok (Within limit) (begins_with zeros_tests) two three)
  fine_unary constant n m d near fine = part_is_fine constant n m d near fine (plain_operand constant) (plain_decides constant)
  fine_unary argument n m d near fine = part_is_fine argument n m d near fine (plain_operand argument) (plain_decides argument)

  pub near_at : (kind : ExprKind) (n m : ℕ) (d : Depth) → d.statement ≤ limit → d.expression + n ≡ limit → n ≤ m → (ok → 1 ≤ m) → Near kind n m d
  near_at kind zero m d s e l o = record { roomy = λ z. inner_room kind m d (o z); grows = λ q. absurd (cc); here = inner_here kind m d (Within limit) (s, omega arith); shallow = λ q. absurd (cc); deep = λ q. inner_below kind m d (λ c. Within limit c → ⊥) (λ w. let k = w.1 in omega arith) }
  near_at kind (suc n) zero d s e l o = absurd (omega arith)
  near_at kind (suc n) (suc m) d s e l o = record { roomy = λ z. refl; grows = λ q. refl; here = (s, omega arith); shallow = λ q. (s, omega arith); deep = λ q. absurd (cc) }

  fine_at : (kind : ExprKind) (n m : ℕ) (d : Depth) → d.statement ≤ limit → d.expression + n ≡ limit → n ≤ m → (ok → n + 2 ≤ m) → (k : Nested) → f.Fine ok (Within limit) ((inside_at kind n).read k) ((inner_at kind m d).rule k)
  fine_at kind zero zero d s e l o k = f.fine_deep ok (Within limit) (of class (starts kind)) (λ z. absurd (let q = o z in omega arith)) (λ t q. (deeper d, (λ w. let u = w.1 in omega arith), λ z. absurd (let q = o z in omega arith)))
  fine_at kind zero (suc m) d s e l o whole = f.fine_deep ok (Within limit) (of class (starts kind)) (λ z. expr_opens kind m (deeper d)) (λ t q. expr_started kind m (deeper d) (λ w. let u = w.1 in omega arith) (λ w. let u = w.1 in omega arith) (λ z. let q = o z in omega arith) t q)
  fine_at kind zero (suc m) d s e l o operand = f.fine_deep ok (Within limit) (of class (starts kind)) (λ z. number_alone kind (inner_at kind m (deeper d))) (λ t q. unary_started kind m (deeper d) (λ w. let u = w.1 in omega arith) (λ w. let u = w.1 in omega arith) (λ z. let q = o z in omega arith) t q)
  fine_at kind (suc n) zero d s e l o k = absurd (omega arith)
  fine_at kind (suc n) (suc m) d s e l o k =
      let near = near_at kind n m (deeper d) s (omega arith) (omega arith) (λ z. let q = o z in omega arith) in
      let inner = fine_at kind n m (deeper d) s (omega arith) (omega arith) (λ z. let q = o z in omega arith) in
      let u = fine_unary kind n m (deeper d) near inner in
      pick k (fine_expr kind n m (deeper d) near inner u) u
    where
      pick : (k : Nested) → f.Fine ok (Within limit) (expr_read_at kind n) (expr_at kind m (deeper d)) → f.Fine ok (Within limit) (read_unary kind (inside_at kind n)) (unary kind (inner_at kind m (deeper d))) → f.Fine ok (Within limit) ((inside_at kind (suc n)).read k) ((inner_at kind (suc m) d).rule k)
      pick whole a b = a
      pick operand a b = b

  -- what is read as an expression with the room that is left is spelled so, and what was read can be completed
  pub expr_fine : (kind : ExprKind) (n m : ℕ) (d : Depth) → d.statement ≤ limit → d.expression + n ≡ limit → n ≤ m → (ok → n + 2 ≤ m) → f.Fine ok (Within limit) (expr_read_at kind n) (expr_at kind m d)
  expr_fine kind n m d s e l o =
      let near = near_at kind n m d s e l (λ z. let q = o z in omega arith) in
      let inner = fine_at kind n m d s e l o in
      fine_expr kind n m d near inner (fine_unary kind n m d near inner)
