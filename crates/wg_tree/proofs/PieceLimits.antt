-- What is spelled up to the body of a statement, however deep, is read, or reading stops at the first token that is too deep.
use Rattle.std.proofs.Common.{◌≡◌, ℕ, ◌+◌, ◌≤◌, true, false, List, refl, inl, inr, arith}
use Rattle.wg_tokens.specs.declared.token.Token.{Token}
use Rattle.wg_tree.specs.declared.expr.Expr.{Expr}
use Rattle.wg_grammar.specs.Productions.{Production, nullable, reads, spells, decides, covered, stops}
use Rattle.wg_grammar.proofs.Far.{far_on, far_off}
use Rattle.wg_grammar.proofs.Limits.{limits_look}
use Rattle.wg_grammar.proofs.PartLimits.{Ahead, part_ahead, part_limits}
use Rattle.wg_tokens.specs.Classes.{class}
use Rattle.wg_tree.specs.Depths.{Depth, Within}
use Rattle.wg_tree.specs.GrammarExpr.{full, constant, argument}
use Rattle.wg_tree.specs.GrammarStmt.{Values, value, const, Value, declared_stmt, stepped_stmt, declared_start, stepped_start, StmtHole, HoleTree, a_value, a_const, an_argument, opening, starting, values_rules, hole_rules}
use Rattle.wg_tree.specs.ReadsStmt.{values_edges, declares, opening_stops, starting_stops, values_readers, hole_edges, hole_readers}
use Rattle.wg_tree.proofs.Examples.{example}
use Rattle.wg_tree.proofs.StmtDecides.{declared_stmt_decides, stepped_stmt_decides, declared_start_decides, stepped_start_decides}
use Rattle.wg_tree.proofs.StmtOpening.{exact_value, stmt_declared, stmt_not_declared, start_declared, start_not_declared, values_self, declared_far, stepped_far, declared_stmt_far, stepped_stmt_far, declared_start_far, stepped_start_far}
use Rattle.wg_tree.proofs.StmtExact.{exact_piece, pieces_more}
use Rattle.wg_tree.proofs.ExprLimits.{Beyond, Limited, limited_for, expr_at_ahead, expr_limits}

abbrev Cells : Type 0
Cells = List (Token × Depth)

-- ---- what is spelled where all is too deep begins too deep

module _ (limit m : ℕ) (d : Depth) (b : Beyond limit d) where
  value_ahead : (k : Values) (x : Expr) (i r : Cells) → (values_rules m d).rule k x i r → Ahead (Beyond limit) false i r
  value_ahead value x i r h = expr_at_ahead limit full m d b x i r h
  value_ahead const x i r h = expr_at_ahead limit constant m d b x i r h

  values_ahead : {X : Type 0} (p : Production Token Values Value X) → decides class values_edges example p ≡ true → (x : X) (i r : Cells) → spells class (values_rules m d) p x i r → Ahead (Beyond limit) (nullable p) i r
  values_ahead p g x i r h = part_ahead (Beyond limit) class values_edges example (values_rules m d) b b value_ahead p g x i r h

  piece_ahead : (k : StmtHole) (x : HoleTree k) (i r : Cells) → (hole_rules m d).rule k x i r → Ahead (Beyond limit) false i r
  piece_ahead a_value x i r h = expr_at_ahead limit full m d b x i r h
  piece_ahead a_const x i r h = expr_at_ahead limit constant m d b x i r h
  piece_ahead an_argument x i r h = expr_at_ahead limit argument m d b x i r h
  piece_ahead opening x i r (inl h) = values_ahead declared_stmt declared_stmt_decides x i r h
  piece_ahead opening x i r (inr h) = values_ahead stepped_stmt stepped_stmt_decides x i r h
  piece_ahead starting x i r (inl h) = values_ahead declared_start declared_start_decides x i r h
  piece_ahead starting x i r (inr h) = values_ahead stepped_start stepped_start_decides x i r h

  pub pieces_ahead : {X : Type 0} (p : Production Token StmtHole HoleTree X) → decides class hole_edges example p ≡ true → (x : X) (i r : Cells) → spells class (hole_rules m d) p x i r → Ahead (Beyond limit) (nullable p) i r
  pieces_ahead p g x i r h = part_ahead (Beyond limit) class hole_edges example (hole_rules m d) b b piece_ahead p g x i r h

-- ---- reading with room n what is spelled with room m

module _ (limit n m : ℕ) (d : Depth) (s : d.statement ≤ limit) (e : d.expression + n ≡ limit) (l : n ≤ m) where
  here : Within limit d
  here = (s, omega arith)

  value_limits : (k : Values) → Limited limit ((values_readers n).read k) ((values_rules m d).rule k) (values_edges.stops k)
  value_limits value = expr_limits limit full n m d s e l
  value_limits const = expr_limits limit constant n m d s e l

  values_limits : {X : Type 0} (p : Production Token Values Value X) (ends : List ℕ) → decides class values_edges example p ≡ true → covered (stops values_edges p) ends ≡ true → Limited limit (reads class values_edges (values_readers n) p) (spells class (values_rules m d) p) ends
  values_limits p ends g c = limited_for limit (stops values_edges p) ends c (part_limits (Within limit) class values_edges example (values_rules m d) (λ k. (exact_value m d k).begins_with) (values_readers n) here (λ q. here) (λ q. absurd (cc)) (values_self n) value_limits p g)

  piece_limits : (k : StmtHole) → Limited limit ((hole_readers n).read k) ((hole_rules m d).rule k) (hole_edges.stops k)
  piece_limits a_value = expr_limits limit full n m d s e l
  piece_limits a_const = expr_limits limit constant n m d s e l
  piece_limits an_argument = expr_limits limit argument n m d s e l
  piece_limits opening = limits_look (Within limit) declares (values_limits declared_stmt opening_stops declared_stmt_decides refl) (values_limits stepped_stmt opening_stops stepped_stmt_decides refl) (stmt_declared m d) (stmt_not_declared m d)
      (far_on declares (reads class values_edges (values_readers n) declared_stmt) (reads class values_edges (values_readers n) stepped_stmt) (declared_far n declared_stmt (declared_stmt_far n))) (far_off declares (reads class values_edges (values_readers n) declared_stmt) (reads class values_edges (values_readers n) stepped_stmt) (stepped_far n stepped_stmt stepped_stmt_decides (stepped_stmt_far n)))
  piece_limits starting = limits_look (Within limit) declares (values_limits declared_start starting_stops declared_start_decides refl) (values_limits stepped_start starting_stops stepped_start_decides refl) (start_declared m d) (start_not_declared m d)
      (far_on declares (reads class values_edges (values_readers n) declared_start) (reads class values_edges (values_readers n) stepped_start) (declared_far n declared_start (declared_start_far n))) (far_off declares (reads class values_edges (values_readers n) declared_start) (reads class values_edges (values_readers n) stepped_start) (stepped_far n stepped_start stepped_start_decides (stepped_start_far n)))

  pub pieces_limits : {X : Type 0} (p : Production Token StmtHole HoleTree X) (ends : List ℕ) → decides class hole_edges example p ≡ true → covered (stops hole_edges p) ends ≡ true → Limited limit (reads class hole_edges (hole_readers n) p) (spells class (hole_rules m d) p) ends
  pieces_limits p ends g c = limited_for limit (stops hole_edges p) ends c (part_limits (Within limit) class hole_edges example (hole_rules m d) (λ k. (exact_piece m d k).begins_with) (hole_readers n) here (λ q. here) (λ q. absurd (cc)) (pieces_more n n (omega arith)) piece_limits p g)
