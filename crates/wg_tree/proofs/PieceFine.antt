-- What is read up to the body of a statement is spelled so, and what was read before a fault can be completed.
use Rattle.std.proofs.Common.{◌≡◌, ℕ, ◌+◌, ◌≤◌, true, List, [], ◌∷◌, refl, inl, inr, arith}
use Rattle.wg_tokens.specs.declared.token.Token.{Token}
use Rattle.wg_grammar.specs.Spans.{Span}
use Rattle.wg_grammar.specs.Reading.{begins_with, look}
use Rattle.wg_grammar.specs.Productions.{Production, member, first, reads, spells, decides}
use Rattle.wg_grammar.proofs.Fine as f
use Rattle.wg_grammar.proofs.Fine.{Opens}
use Rattle.wg_grammar.proofs.PartFine.{part_opens, part_starts, part_fine, opens_as}
use Rattle.wg_tokens.specs.Classes.{class}
use Rattle.wg_tree.specs.Depths.{Depth, deeper, Within}
use Rattle.wg_tree.specs.GrammarExpr.{full, constant, argument}
use Rattle.wg_tree.specs.GrammarStmt.{Values, value, const, Value, declared_stmt, stepped_stmt, declared_start, stepped_start, StmtHole, HoleTree, a_value, a_const, an_argument, opening, starting, values_rules, hole_rule, hole_rules}
use Rattle.wg_tree.specs.ReadsStmt.{values_edges, declares, values_readers, hole_edges, hole_readers}
use Rattle.wg_tree.proofs.Examples.{example}
use Rattle.wg_tree.proofs.ExprFine.{expr_fine, expr_opens, expr_started}
use Rattle.wg_tree.proofs.StmtDecides.{declared_stmt_decides, stepped_stmt_decides, declared_start_decides, stepped_start_decides}

-- each part spells something
module _ (m : ℕ) (d : Depth) where
  value_opens : (k : Values) → Opens ((values_rules m d).rule k) []
  value_opens value = expr_opens full m d
  value_opens const = expr_opens constant m d

  values_open : {X : Type 0} (p : Production Token Values Value X) → decides class values_edges example p ≡ true → Opens (spells class (values_rules m d) p) []
  values_open p g = part_opens Unit class values_edges example (Within 0) (values_rules m d) (λ z. refl) (λ z k. value_opens k) tt p g

  pub piece_opens : (k : StmtHole) → Opens ((hole_rules m d).rule k) []
  piece_opens a_value = expr_opens full m d
  piece_opens a_const = expr_opens constant m d
  piece_opens an_argument = expr_opens argument m d
  piece_opens opening = opens_as (spells class (values_rules m d) stepped_stmt) (hole_rule m d opening) [] (λ x i r. inr) (values_open stepped_stmt stepped_stmt_decides)
  piece_opens starting = opens_as (spells class (values_rules m d) stepped_start) (hole_rule m d starting) [] (λ x i r. inr) (values_open stepped_start stepped_start_decides)

  pub pieces_open : {X : Type 0} (p : Production Token StmtHole HoleTree X) → decides class hole_edges example p ≡ true → Opens (spells class (hole_rules m d) p) []
  pieces_open p g = part_opens Unit class hole_edges example (Within 0) (hole_rules m d) (λ z. refl) (λ z k. piece_opens k) tt p g

  -- a first token that is too deep can be completed
  module _ (ok : Type 0) (limit : ℕ) (here : Within limit d → ⊥) (below : Within limit (deeper d) → ⊥) (o : ok → 1 ≤ m) where
    abbrev Beyond : Depth → Type 0
    Beyond c = Within limit c → ⊥

    abbrev Started : {X : Type 0} → (X → Span (Token × Depth)) → Token → Type 0
    Started P t = (c : Depth) × Beyond c × (ok → Opens P ((t, c) ∷ []))

    value_started : (k : Values) (t : Token) → member (class t) (values_edges.first k) ≡ true → Started ((values_rules m d).rule k) t
    value_started value t q = expr_started ok limit full m d here below o t q
    value_started const t q = expr_started ok limit constant m d here below o t q

    values_started : {X : Type 0} (p : Production Token Values Value X) (P : X → Span (Token × Depth)) → decides class values_edges example p ≡ true → ((x : X) (i r : List (Token × Depth)) → spells class (values_rules m d) p x i r → P x i r)
        → (t : Token) → member (class t) (first values_edges p) ≡ true → Started P t
    values_started p P g h t q =
        let k = part_starts ok class values_edges example (Within limit) (values_rules m d) (λ z. refl) (λ z k. value_opens k) Beyond here here value_started p g t q in
        (k.0, k.1, λ z. opens_as (spells class (values_rules m d) p) P ((t, k.0) ∷ []) h (k.2 z))

    piece_started : (k : StmtHole) (t : Token) → member (class t) (hole_edges.first k) ≡ true → Started ((hole_rules m d).rule k) t
    piece_started a_value t q = expr_started ok limit full m d here below o t q
    piece_started a_const t q = expr_started ok limit constant m d here below o t q
    piece_started an_argument t q = expr_started ok limit argument m d here below o t q
    piece_started opening t q = values_started stepped_stmt (hole_rule m d opening) stepped_stmt_decides (λ x i r. inr) t q
    piece_started starting t q = values_started stepped_start (hole_rule m d starting) stepped_start_decides (λ x i r. inr) t q

    pub pieces_started : {X : Type 0} (p : Production Token StmtHole HoleTree X) → decides class hole_edges example p ≡ true → (t : Token) → member (class t) (first hole_edges p) ≡ true → Started (spells class (hole_rules m d) p) t
    pieces_started p g t q = part_starts ok class hole_edges example (Within limit) (hole_rules m d) (λ z. refl) (λ z k. piece_opens k) Beyond here here piece_started p g t q

-- what is read with room n is spelled with room m
module _ (ok : Type 0) (limit n m : ℕ) (d : Depth) (s : d.statement ≤ limit) (e : d.expression + n ≡ limit) (l : n ≤ m) (o : ok → n + 2 ≤ m) where
  pub within_here : Within limit d
  within_here = (s, omega arith)

  value_fine : (k : Values) → f.Fine ok (Within limit) ((values_readers n).read k) ((values_rules m d).rule k)
  value_fine value = expr_fine ok limit full n m d s e l o
  value_fine const = expr_fine ok limit constant n m d s e l o

  values_fine : {X : Type 0} (p : Production Token Values Value X) → decides class values_edges example p ≡ true → f.Fine ok (Within limit) (reads class values_edges (values_readers n) p) (spells class (values_rules m d) p)
  values_fine p g = part_fine ok class values_edges example (Within limit) (values_rules m d) (values_readers n) (λ z. refl) (λ q. refl) within_here (λ q. within_here) (λ q. absurd (cc)) value_fine p g

  -- the one or the other, by two tokens
  declared_or_stepped : {X : Type 0} (p q : Production Token Values Value X) (R : X → Span (Token × Depth)) → decides class values_edges example p ≡ true → decides class values_edges example q ≡ true
      → ((x : X) (i r : List (Token × Depth)) → spells class (values_rules m d) p x i r → R x i r) → ((x : X) (i r : List (Token × Depth)) → spells class (values_rules m d) q x i r → R x i r)
      → f.Fine ok (Within limit) (look declares (reads class values_edges (values_readers n) p) (reads class values_edges (values_readers n) q)) R
  declared_or_stepped p q R a b g h = f.fine_if ok (Within limit) (begins_with declares) (f.fine_as ok (Within limit) {P = spells class (values_rules m d) p} g (values_fine p a)) (f.fine_as ok (Within limit) {P = spells class (values_rules m d) q} h (values_fine q b))

  piece_fine : (k : StmtHole) → f.Fine ok (Within limit) ((hole_readers n).read k) ((hole_rules m d).rule k)
  piece_fine a_value = expr_fine ok limit full n m d s e l o
  piece_fine a_const = expr_fine ok limit constant n m d s e l o
  piece_fine an_argument = expr_fine ok limit argument n m d s e l o
  piece_fine opening = declared_or_stepped declared_stmt stepped_stmt (hole_rule m d opening) declared_stmt_decides stepped_stmt_decides (λ x i r. inl) (λ x i r. inr)
  piece_fine starting = declared_or_stepped declared_start stepped_start (hole_rule m d starting) declared_start_decides stepped_start_decides (λ x i r. inl) (λ x i r. inr)

  pub pieces_fine : {X : Type 0} (p : Production Token StmtHole HoleTree X) → decides class hole_edges example p ≡ true → f.Fine ok (Within limit) (reads class hole_edges (hole_readers n) p) (spells class (hole_rules m d) p)
  pieces_fine p g = part_fine ok class hole_edges example (Within limit) (hole_rules m d) (hole_readers n) (λ z. refl) (λ q. refl) within_here (λ q. within_here) (λ q. absurd (cc)) piece_fine p g
