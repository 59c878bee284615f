-- What is spelled as an expression, however deep, is read, or reading stops at the first token that is too deep.
use Rattle.std.proofs.Common.{◌≡◌, ℕ, zero, suc, ◌+◌, ◌≤◌, true, false, List, ◌∷◌, refl, sym, ◌∙◌, ap, inl, inr, arith}
use Rattle.wg_tokens.specs.declared.token.Token.{Token}
use Rattle.wg_tree.specs.declared.expr.Expr.{Expr}
use Rattle.wg_grammar.specs.Spans.{Span}
use Rattle.wg_grammar.specs.Reading.{Reader, sees}
use Rattle.wg_grammar.specs.Depths.{plain}
use Rattle.wg_grammar.specs.Productions.{Production, Readers, Rules, nullable, of, spells, decides, covered, stops}
use Rattle.wg_grammar.proofs.Sets.{both_true, covered_sees}
use Rattle.wg_grammar.proofs.Kept.{Persists, Eats}
use Rattle.wg_grammar.proofs.Limits.{Limits, limits_for, limits_look, limits_deep}
use Rattle.wg_grammar.proofs.PartLimits.{Ahead, part_ahead, part_limits}
use Rattle.wg_tokens.specs.Classes.{class}
use Rattle.wg_tree.specs.Depths.{Depth, deeper, Within}
use Rattle.wg_tree.specs.GrammarExpr.{ExprKind, full, constant, argument, Nested, whole, operand, Exprs, Inner, plain_operand, cast, zero_struct, unary, level, links, LevelBelow, LowerExpr, Sides, left, right, sides, Side, choice, expr, inner_at, expr_at}
use Rattle.wg_tree.specs.ReadsExpr.{NestedReaders, starts, operand_stops, level_stops, expr_stops, nested_edges, level_edges, side_edges, cast_tests, zeros_tests, read_part, read_unary, read_level, inside_at, expr_read_at}
use Rattle.wg_tree.proofs.Examples.{example}
use Rattle.wg_tree.proofs.ExprDecides.{cast_decides, zeros_decides, plain_decides, plain_covered, levels_decide, all_levels, choice_decides, choice_covered}
use Rattle.wg_tree.proofs.ExprUnary.{plain_no_zeros, zeros_tests_pass, cast_tests_pass, no_cast, zeros_on, zeros_off, cast_on, cast_off}
use Rattle.wg_tree.proofs.ExprExact.{nowhere, same_room, known, exact_level_at, inside_more}
use Rattle.wg_tree.proofs.ExprFine.{inner_here, inner_below, Near, near_at}

abbrev Cells : Type 0
Cells = List (Token × Depth)

abbrev level_rules : ExprKind → Inner → ℕ → Rules Token Depth LevelBelow LowerExpr
level_rules kind R j = record { room = R.room; here = R.here; below = R.below; rule = λ k. level kind R j }

abbrev side_rules : ExprKind → Inner → Rules Token Depth Sides Side
side_rules kind R = record { room = R.room; here = R.here; below = R.below; rule = sides (level kind R 10) (R.rule whole) }

abbrev level_readers : ExprKind → NestedReaders → ℕ → Readers Token LevelBelow LowerExpr
level_readers kind I j = record { room = I.room; read = λ k. read_level kind I j }

abbrev side_readers : ExprKind → NestedReaders → Readers Token Sides Side
side_readers kind I = record { room = I.room; read = sides (read_level kind I 10) (I.read whole) }

module _ (limit : ℕ) where
  abbrev pub Beyond : Depth → Type 0
  Beyond c = Within limit c → ⊥

  up : (c : Depth) → Beyond c → Beyond (deeper c)
  up c b w = let u = w.1 in b (w.0, omega arith)

  -- what is spelled where all is too deep begins too deep
  module _ (R : Inner) (here : Beyond R.here) (below : Beyond R.below) (heads : (k : Nested) (x : Expr) (i r : Cells) → R.rule k x i r → Ahead Beyond false i r) where
    part_is_ahead : (kind : ExprKind) (p : Production Token Nested Exprs Expr) → decides class (nested_edges kind) example p ≡ true → (x : Expr) (i r : Cells) → spells class R p x i r → Ahead Beyond (nullable p) i r
    part_is_ahead kind p g x i r h = part_ahead Beyond class (nested_edges kind) example R here below heads p g x i r h

    unary_ahead : (kind : ExprKind) (x : Expr) (i r : Cells) → unary kind R x i r → Ahead Beyond false i r
    unary_ahead full x i r (inl h) = part_is_ahead full cast cast_decides x i r h
    unary_ahead full x i r (inr (inl h)) = part_is_ahead full zero_struct zeros_decides x i r h
    unary_ahead full x i r (inr (inr h)) = part_is_ahead full (plain_operand full) (plain_decides full) x i r h
    unary_ahead constant x i r h = part_is_ahead constant (plain_operand constant) (plain_decides constant) x i r h
    unary_ahead argument x i r h = part_is_ahead argument (plain_operand argument) (plain_decides argument) x i r h

    level_ahead : (kind : ExprKind) (j : ℕ) → levels_decide kind j ≡ true → (x : Expr) (i r : Cells) → level kind R j x i r → Ahead Beyond false i r
    level_ahead kind zero g x i r h = unary_ahead kind x i r h
    level_ahead kind (suc j) g x i r h =
        let a = both_true (decides class (level_edges kind j) example (links (suc j))) _ g in
        let b = both_true (covered (stops (level_edges kind j) (links (suc j))) (level_stops kind (suc j))) (levels_decide kind j) a.1 in
        part_ahead Beyond class (level_edges kind j) example (level_rules kind R j) here below (λ k. level_ahead kind j b.1) (links (suc j)) a.0 x i r h

    sides_ahead : (kind : ExprKind) (k : Sides) (x : Expr) (i r : Cells) → (side_rules kind R).rule k x i r → Ahead Beyond false i r
    sides_ahead kind left x i r h = level_ahead kind 10 (all_levels kind) x i r h
    sides_ahead kind right x i r h = heads whole x i r h

    expr_ahead : (kind : ExprKind) (x : Expr) (i r : Cells) → expr kind R x i r → Ahead Beyond false i r
    expr_ahead kind x i r h = part_ahead Beyond class (side_edges kind) example (side_rules kind R) here below (sides_ahead kind) choice (choice_decides kind) x i r h

  inner_ahead : (kind : ExprKind) (m : ℕ) (d : Depth) → Beyond d → (k : Nested) (x : Expr) (i r : Cells) → (inner_at kind m d).rule k x i r → Ahead Beyond false i r
  inner_ahead kind zero d b k x i r h = absurd h
  inner_ahead kind (suc m) d b whole x i r h = let c = up d b in expr_ahead (inner_at kind m (deeper d)) (inner_here kind m (deeper d) Beyond c) (inner_below kind m (deeper d) Beyond (up (deeper d) c)) (inner_ahead kind m (deeper d) c) kind x i r h
  inner_ahead kind (suc m) d b operand x i r h = let c = up d b in unary_ahead (inner_at kind m (deeper d)) (inner_here kind m (deeper d) Beyond c) (inner_below kind m (deeper d) Beyond (up (deeper d) c)) (inner_ahead kind m (deeper d) c) kind x i r h

  pub expr_at_ahead : (kind : ExprKind) (m : ℕ) (d : Depth) → Beyond d → (x : Expr) (i r : Cells) → expr_at kind m d x i r → Ahead Beyond false i r
  expr_at_ahead kind m d b x i r h = expr_ahead (inner_at kind m d) (inner_here kind m d Beyond b) (inner_below kind m d Beyond (up d b)) (inner_ahead kind m d b) kind x i r h

  -- ---- reading with room n what is spelled with room m

  abbrev pub Limited : {X : Type 0} → Reader Token X → (X → Span (Token × Depth)) → List ℕ → Type 0
  Limited p P ends = Limits (Within limit) p P (λ _ ts. sees (of class ends) ts ≡ false)

  pub limited_for : {X : Type 0} {p : Reader Token X} {P : X → Span (Token × Depth)} (ends more : List ℕ) → covered ends more ≡ true → Limited p P ends → Limited p P more
  limited_for ends more c h = limits_for (Within limit) (λ x ts k. covered_sees class ends more ts c k) h

  module _ (kind : ExprKind) (n m : ℕ) (d : Depth) (near : Near ⊥ limit kind n m d) (parts : (k : Nested) → Limited ((inside_at kind n).read k) ((inner_at kind m d).rule k) ((nested_edges kind).stops k)) where
    part_is_limited : {X : Type 0} (p : Production Token Nested Exprs X) (ends : List ℕ) → decides class (nested_edges kind) example p ≡ true → covered (stops (nested_edges kind) p) ends ≡ true → Limited (read_part kind (inside_at kind n) p) (spells class (inner_at kind m d) p) ends
    part_is_limited p ends g c = limited_for (stops (nested_edges kind) p) ends c (part_limits (Within limit) class (nested_edges kind) example (inner_at kind m d) (λ k. ((known kind m).parts d k).begins_with) (inside_at kind n) near.here near.shallow near.deep (inside_more kind n n (omega arith)) parts p g)

    module _ (operands : Limited (read_unary kind (inside_at kind n)) (unary kind (inner_at kind m d)) (operand_stops kind)) where
      level_limits : (j : ℕ) → levels_decide kind j ≡ true → Limited (read_level kind (inside_at kind n) j) (level kind (inner_at kind m d) j) (level_stops kind j)
      level_limits zero g = operands
      level_limits (suc j) g =
          let a = both_true (decides class (level_edges kind j) example (links (suc j))) _ g in
          let b = both_true (covered (stops (level_edges kind j) (links (suc j))) (level_stops kind (suc j))) (levels_decide kind j) a.1 in
          let below = level_limits j b.1 in
          let self = exact_level_at kind n nowhere j b.1 in
          limited_for (stops (level_edges kind j) (links (suc j))) (level_stops kind (suc j)) b.0
          (part_limits (Within limit) class (level_edges kind j) example (level_rules kind (inner_at kind m d) j) (λ k. (exact_level_at kind m d j b.1).begins_with) (level_readers kind (inside_at kind n) j) near.here near.shallow near.deep
          (record { room = λ e. e; kept = λ k. self.self; eats = λ k. self.eats }) (λ k. below) (links (suc j)) a.0)

      sides_begin : (k : Sides) (x : Expr) (i r : Cells) → (side_rules kind (inner_at kind m d)).rule k x i r → sees (of class ((side_edges kind).first k)) (plain i) ≡ true
      sides_begin left x i r h = (exact_level_at kind m d 10 (all_levels kind)).begins_with x i r h
      sides_begin right x i r h = ((known kind m).parts d whole).begins_with x i r h

      sides_kept : (k : Sides) → Persists ((side_readers kind (inside_at kind n)).read k) ((side_readers kind (inside_at kind n)).read k)
      sides_kept left = (exact_level_at kind n nowhere 10 (all_levels kind)).self
      sides_kept right = (inside_more kind n n (omega arith)).kept whole

      sides_eat : (k : Sides) → Eats ((side_readers kind (inside_at kind n)).read k)
      sides_eat left = (exact_level_at kind n nowhere 10 (all_levels kind)).eats
      sides_eat right = (inside_more kind n n (omega arith)).eats whole

      sides_limited : (k : Sides) → Limited ((side_readers kind (inside_at kind n)).read k) ((side_rules kind (inner_at kind m d)).rule k) ((side_edges kind).stops k)
      sides_limited left = level_limits 10 (all_levels kind)
      sides_limited right = parts whole

      expr_limited : Limited (expr_read_at kind n) (expr_at kind m d) (expr_stops kind)
      expr_limited = limited_for (stops (side_edges kind) choice) (expr_stops kind) (choice_covered kind)
          (part_limits (Within limit) class (side_edges kind) example (side_rules kind (inner_at kind m d)) sides_begin (side_readers kind (inside_at kind n)) near.here near.shallow near.deep
          (record { room = λ e. e; kept = sides_kept; eats = sides_eat }) sides_limited choice (choice_decides kind))

  unary_limits : (kind : ExprKind) (n m : ℕ) (d : Depth) → Near ⊥ limit kind n m d → ((k : Nested) → Limited ((inside_at kind n).read k) ((inner_at kind m d).rule k) ((nested_edges kind).stops k)) → Limited (read_unary kind (inside_at kind n)) (unary kind (inner_at kind m d)) (operand_stops kind)
  unary_limits full n m d near parts =
      let I = inside_at full m in
      let R = inner_at full m d in
      let k = known full m in
      let same = same_room full m d in
      let J = inside_at full n in
      let S = inner_at full n nowhere in
      let q = known full n in
      let other = same_room full n nowhere in
      limits_look (Within limit) cast_tests (part_is_limited full n m d near parts cast (operand_stops full) cast_decides refl)
      (limits_look (Within limit) zeros_tests (part_is_limited full n m d near parts zero_struct (operand_stops full) zeros_decides refl) (part_is_limited full n m d near parts (plain_operand full) (operand_stops full) (plain_decides full) (plain_covered full))
      (zeros_tests_pass I R same (k.parts d) (k.tells refl)) (plain_no_zeros I R same (k.parts d) (k.tells refl)) (zeros_on J S other (q.parts nowhere) (q.tells refl)) (zeros_off J S other (q.parts nowhere) (q.tells refl)))
      (cast_tests_pass I R same (k.parts d) (k.tells refl)) (no_cast I R same (k.parts d) (k.tells refl)) (cast_on J S other (q.parts nowhere) (q.tells refl)) (cast_off J S other (q.parts nowhere) (q.tells refl))
  unary_limits constant n m d near parts = part_is_limited constant n m d near parts (plain_operand constant) (operand_stops constant) (plain_decides constant) (plain_covered constant)
  unary_limits argument n m d near parts = part_is_limited argument n m d near parts (plain_operand argument) (operand_stops argument) (plain_decides argument) (plain_covered argument)

  -- the first token of these classes, too deep
  pub too_deep_at : (set : List ℕ) (i r : Cells) → sees (of class set) (plain i) ≡ true → Ahead Beyond false i r → (t : Token) × (d : Depth) × (rest : Cells) × (i ≡ (t, d) ∷ rest) × (Within limit d → ⊥) × (of class set t ≡ true)
  too_deep_at set i r s (inl a) = absurd (let e = a.0 in cc)
  too_deep_at set i r s (inr a) = (a.0, a.1, a.2, a.3, a.4, ap (λ z. sees (of class set) (plain z)) (sym a.3) ∙ s)

  limits_at : (kind : ExprKind) (n m : ℕ) (d : Depth) → d.statement ≤ limit → d.expression + n ≡ limit → n ≤ m → (k : Nested) → Limited ((inside_at kind n).read k) ((inner_at kind m d).rule k) ((nested_edges kind).stops k)
  limits_at kind zero zero d s e l k = record { ends = λ x i r h f. absurd h }
  limits_at kind zero (suc m) d s e l k = limits_deep (Within limit) (of class (starts kind)) (λ x i r h. too_deep_at (starts kind) i r (((known kind (suc m)).parts d k).begins_with x i r h) (heads k x i r h))
    where
      c : Beyond (deeper d)
      c w = let u = w.1 in omega arith

      heads : (k : Nested) (x : Expr) (i r : Cells) → (inner_at kind (suc m) d).rule k x i r → Ahead Beyond false i r
      heads whole x i r h = expr_at_ahead kind m (deeper d) c x i r h
      heads operand x i r h = unary_ahead (inner_at kind m (deeper d)) (inner_here kind m (deeper d) Beyond c) (inner_below kind m (deeper d) Beyond (up (deeper d) c)) (inner_ahead kind m (deeper d) c) kind x i r h
  limits_at kind (suc n) zero d s e l k = absurd (omega arith)
  limits_at kind (suc n) (suc m) d s e l k =
      let near = near_at ⊥ limit kind n m (deeper d) s (omega arith) (omega arith) (λ z. absurd z) in
      let inner = limits_at kind n m (deeper d) s (omega arith) (omega arith) in
      let u = unary_limits kind n m (deeper d) near inner in
      pick k (expr_limited kind n m (deeper d) near inner u) u
    where
      pick : (k : Nested) → Limited (expr_read_at kind n) (expr_at kind m (deeper d)) (expr_stops kind) → Limited (read_unary kind (inside_at kind n)) (unary kind (inner_at kind m (deeper d))) (operand_stops kind) → Limited ((inside_at kind (suc n)).read k) ((inner_at kind (suc m) d).rule k) ((nested_edges kind).stops k)
      pick whole a b = a
      pick operand a b = b

  pub expr_limits : (kind : ExprKind) (n m : ℕ) (d : Depth) → d.statement ≤ limit → d.expression + n ≡ limit → n ≤ m → Limited (expr_read_at kind n) (expr_at kind m d) (expr_stops kind)
  expr_limits kind n m d s e l =
      let near = near_at ⊥ limit kind n m d s e l (λ z. absurd z) in
      let inner = limits_at kind n m d s e l in
      expr_limited kind n m d near inner (unary_limits kind n m d near inner)
