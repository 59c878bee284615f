-- What is spelled as a block or a body, however deep, is read, or reading stops at the first token that is too deep.
use Rattle.std.proofs.Common.{◌≡◌, ℕ, zero, suc, ◌+◌, ◌≤◌, true, false, List, [], ◌++◌, refl, sym, ◌∙◌, ap, inl, inr, arith, Some, None}
use Rattle.wg_tokens.specs.declared.mark.Mark.TheVariants as sign
use Rattle.wg_words.specs.declared.place.Place.{Place}
use Rattle.wg_tokens.specs.declared.token.Token.{Token}
use Rattle.wg_tree.specs.declared.expr.Expr.{Expr}
use Rattle.wg_tree.specs.declared.stmt.Attribute.{Attribute}
use Rattle.wg_tree.specs.declared.stmt.Stmt.{Stmt}
use Rattle.wg_tree.specs.declared.stmt.Stmt.TheVariants as s
use Rattle.wg_grammar.specs.Spans.{Seq, None_of, Leaf, ◌or◌}
use Rattle.wg_grammar.specs.Reading.{◌>>=◌, pure, sees, take_if, by_next}
use Rattle.wg_grammar.specs.Depths.{plain}
use Rattle.wg_grammar.specs.Productions.{Rules, Readers, of, list, sub, ◌<$>◌, ◌<*>◌}
use Rattle.wg_grammar.proofs.Kept.{Persists, persists_take_if}
use Rattle.wg_grammar.proofs.Sets.{apart_other}
use Rattle.wg_grammar.proofs.Exact.{none_seen}
use Rattle.wg_grammar.proofs.Inverse.{inv_left, inv_two}
use Rattle.wg_grammar.proofs.Limits.{Limits, limits_pure, limits_bind, limits_take, limits_deep, limits_for, limits_as, limits_next}
use Rattle.wg_grammar.proofs.PartLimits.{Ahead, part_limits}
use Rattle.wg_tokens.specs.Classes.{class}
use Rattle.wg_tree.specs.Depths.{Depth, in_statement, Within}
use Rattle.wg_tree.specs.GrammarExpr.{Phrase, mark}
use Rattle.wg_tree.specs.GrammarStmt.{Head, if_head, while_head, for_head, basic, head, is_open, finish, unbraced, Inside, Insides, statement, braces, block_of, as_block, Deeper, stmt, block, body, deeper_at}
use Rattle.wg_tree.specs.GrammarItem.{outermost}
use Rattle.wg_tree.specs.ReadsExpr.{TokenReader}
use Rattle.wg_tree.specs.ReadsStmt.{head_starts, basic_starts, brace, stmt_starts, inside_edges, read_finish, read_unbraced, Below, read_stmt, read_block, read_body, below_at}
use Rattle.wg_tree.proofs.Examples.{example}
use Rattle.wg_tree.proofs.StmtDecides.{basic_decides, head_decides, braces_decides, heads_apart, brace_apart}
use Rattle.wg_tree.proofs.StmtExact.{elses, NoElse, if_else, if_alone, while_body, for_body, exact_basic, exact_head, exact_stmt, exact_block, plain_exact, known_stmt}
use Rattle.wg_tree.proofs.ExprLimits.{Beyond, Limited, too_deep_at}
use Rattle.wg_tree.proofs.PieceLimits.{pieces_ahead, pieces_limits}

abbrev Cells : Type 0
Cells = List (Token × Depth)

-- ---- a body, and what goes before it

module _ (limit room : ℕ) (d : Depth) (within : Within limit d) (p : TokenReader Stmt) (P : Phrase Stmt) (self : Persists p p) (b : Limits (Within limit) p P NoElse) where
  abbrev Alone : List Attribute → Place → Expr → Stmt → Phrase Stmt
  Alone a place t x = None_of (s.If a place t x None)

  abbrev Other : List Attribute → Place → Expr → Stmt → Phrase Stmt
  Other a place t x y i r = (is_open x ≡ false) × Seq (Leaf (of class elses) (λ t. t.place) d) (λ _. Seq P (λ z. None_of (s.If a place t x (Some z)))) y i r

  -- what follows a body with which no statement ends
  no_else : (x y : Stmt) (m r : Cells) → m ≡ r → (is_open x ≡ true → is_open y ≡ true) → NoElse y (plain r) → NoElse x (plain m)
  no_else x y m r q h f o = ap (λ z. sees (of class elses) (plain z)) q ∙ f (h o)

  rest_limits : (a : List Attribute) (place : Place) (t : Expr) (x : Stmt) → Limits (Within limit) (by_next (of class elses) (take_if (of class elses) (λ t. t.place) >>= λ _. p >>= λ y. pure (s.If a place t x (Some y))) (pure (s.If a place t x None)))
      (Other a place t x or Alone a place t x) NoElse
  rest_limits a place t x = limits_next (Within limit) (of class elses)
      (limits_as (Within limit) {P = Seq (Leaf (of class elses) (λ t. t.place) d) (λ _. Seq P (λ z. None_of (s.If a place t x (Some z))))} (λ y i r h. h.1)
      (limits_bind (Within limit) {FP = λ _ ts. Unit {0}} (persists_take_if (of class elses) (λ t. t.place)) (limits_take (Within limit) (of class elses) (λ t. t.place) within)
      (λ _. limits_bind (Within limit) {Q = λ z. None_of (s.If a place t x (Some z))} self b (λ z. limits_pure (Within limit) (s.If a place t x (Some z))) (λ z y m r q f. no_else z y m r q.1 (λ o. ap is_open q.0 ∙ if_else a place t x z ∙ o) f))
      (λ _ y m r q f. tt)))
      (limits_pure (Within limit) (s.If a place t x None))
      (λ y i r h f. let l = h.1.2 in ap (λ z. sees (of class elses) (plain z)) l.3 ∙ l.1)
      (λ y i r h f. ap (λ z. sees (of class elses) (plain z)) h.1 ∙ f (ap is_open h.0 ∙ if_alone a place t x))

  finish_limits : (h : Head) → Limits (Within limit) (read_finish room p h) (finish P d h) NoElse
  finish_limits (if_head a place t) = limits_as (Within limit) {P = Seq P (λ x. Other a place t x or Alone a place t x)} turned
      (limits_bind (Within limit) self b (rest_limits a place t) follow)
    where
      turned : (y : Stmt) (i r : Cells) → finish P d (if_head a place t) y i r → Seq P (λ x. Other a place t x or Alone a place t x) y i r
      turned y i r h = (h.0, h.1, h.2, elim h.3 [ inl q ↦ inr q | inr q ↦ inl q ])

      follow : (x y : Stmt) (m r : Cells) → (Other a place t x or Alone a place t x) y m r → NoElse y (plain r) → NoElse x (plain m)
      follow x y m r (inl q) f o = absurd (let e : true ≡ false = sym o ∙ q.0 in cc)
      follow x y m r (inr q) f o = no_else x y m r q.1 (λ o. ap is_open q.0 ∙ if_alone a place t x) f o
  finish_limits (while_head a place t) = limits_bind (Within limit) {Q = λ x. None_of (s.While a place t x)} self b (λ x. limits_pure (Within limit) (s.While a place t x)) (λ x y m r q f. no_else x y m r q.1 (λ o. ap is_open q.0 ∙ while_body a place t x ∙ o) f)
  finish_limits (for_head a place g) = limits_bind (Within limit) {Q = λ x. None_of (s.For a place g x)} self b (λ x. limits_pure (Within limit) (s.For a place g x)) (λ x y m r q f. no_else x y m r q.1 (λ o. ap is_open q.0 ∙ for_body a place g x ∙ o) f)

-- ---- what is spelled where all is too deep begins too deep

module _ (limit m : ℕ) (d : Depth) (b : Beyond limit d) (L : Deeper) where
  onward : (i n r : Cells) → Ahead (Beyond limit) false i n → Ahead (Beyond limit) false i r
  onward i n r (inl a) = absurd (let e = a.0 in cc)
  onward i n r (inr a) = inr a

  block_ahead : (x : Place × List Stmt) (i r : Cells) → block m d L x i r → Ahead (Beyond limit) false i r
  block_ahead x i r h =
      let make : Place → List Stmt → Place × List Stmt = λ place body. (place, body) in
      let R : Rules Token Depth Inside Insides = record { room = true; here = d; below = d; rule = λ k. stmt m d L } in
      let a = inv_left class R (make <$> mark sign.LeftBrace <*> list (sub statement)) (mark sign.RightBrace) x i r h in
      let c = inv_two class R make (mark sign.LeftBrace) (list (sub statement)) x i a.1 a.2 in
      inr (c.3.0, d, c.2, c.3.3, b)

  unbraced_ahead : (x : Stmt) (i r : Cells) → unbraced m d L.body x i r → Ahead (Beyond limit) false i r
  unbraced_ahead x i r (inl h) = onward i h.1 r (pieces_ahead limit m d b head head_decides h.0 i h.1 h.2)
  unbraced_ahead x i r (inr h) = pieces_ahead limit m d b basic basic_decides x i r h

  body_ahead : (x : Stmt) (i r : Cells) → body m d L x i r → Ahead (Beyond limit) false i r
  body_ahead x i r (inl h) = onward i h.1 r (block_ahead h.0 i h.1 h.2)
  body_ahead x i r (inr h) = unbraced_ahead x i r h

-- ---- reading with room n for expressions and k for statements what is spelled with m and j

module _ (limit n m : ℕ) (l : n ≤ m) where
  pub record LimitsBelow (k j : ℕ) (d : Depth) : Type 0 where
    pub block : Limited limit (below_at n k).block (deeper_at m j d).block []
    pub body : Limits (Within limit) (below_at n k).body (deeper_at m j d).body NoElse

  module _ (k j : ℕ) (d : Depth) (s : d.statement ≤ limit) (e : d.expression + n ≡ limit) (inner : LimitsBelow k j d) where
    abbrev B : Below
    B = below_at n k

    abbrev L : Deeper
    L = deeper_at m j d

    abbrev here : Within limit d
    here = (s, omega arith)

    abbrev readers : Readers Token Inside Insides
    readers = record { room = true; read = λ k. read_stmt n B }

    unbraced_begins : (x : Stmt) (i r : Cells) → unbraced m d L.body x i r → sees (of class (head_starts ++ basic_starts)) (plain i) ≡ true
    unbraced_begins = (plain_exact m d (below_at m j) L ((known_stmt m j).block d) ((known_stmt m j).body d)).exact.begins_with

    unbraced_limits : Limits (Within limit) (read_unbraced n B.body) (unbraced m d L.body) NoElse
    unbraced_limits = limits_next (Within limit) (of class head_starts)
        (limits_bind (Within limit) {Q = finish L.body d} (exact_head n outermost).self (pieces_limits limit n m d s e l head [] head_decides refl) (finish_limits limit n d here B.body L.body ((known_stmt n k).body outermost).exact.self inner.body) (λ h y c r q f. none_seen class (plain c)))
        (limits_for (Within limit) (λ x ts f. none_seen class ts) (pieces_limits limit n m d s e l basic [] basic_decides refl))
        (λ x i r h f. (exact_head m d).begins_with h.0 i h.1 h.2)
        (λ x i r h f. apart_other class head_starts basic_starts (plain i) heads_apart ((exact_basic m d).begins_with x i r h))

    braced_limits : (p : TokenReader (Place × List Stmt)) (P : Phrase (Place × List Stmt)) → Persists p p → Limited limit p P [] → ((x : Place × List Stmt) (i r : Cells) → P x i r → sees (of class brace) (plain i) ≡ true)
        → Limits (Within limit) (by_next (of class brace) (p >>= λ p. pure (block_of p)) (read_unbraced n B.body)) (as_block P or unbraced m d L.body) NoElse
    braced_limits p P self h begins_with = limits_next (Within limit) (of class brace)
        (limits_bind (Within limit) {Q = λ p. None_of (block_of p)} self h (λ p. limits_pure (Within limit) (block_of p)) (λ x y c r q f. none_seen class (plain c)))
        unbraced_limits (λ x i r h f. begins_with h.0 i h.1 h.2) (λ x i r h f. apart_other class brace (head_starts ++ basic_starts) (plain i) brace_apart (unbraced_begins x i r h))

    stmt_limits : Limited limit (read_stmt n B) (stmt m d L) elses
    stmt_limits = limits_for (Within limit) (λ x ts f o. f) (braced_limits B.block L.block ((known_stmt n k).block outermost).self inner.block ((known_stmt m j).block d).begins_with)

    block_limits : Limited limit (read_block n B) (block m d L) []
    block_limits =
        let self = exact_stmt n outermost B (deeper_at n k outermost) ((known_stmt n k).block outermost) ((known_stmt n k).body outermost) in
        part_limits (Within limit) class inside_edges example (record { room = true; here = d; below = d; rule = λ k. stmt m d L })
        (λ k. (exact_stmt m d (below_at m j) L ((known_stmt m j).block d) ((known_stmt m j).body d)).begins_with) readers here (λ q. here) (λ q. absurd (cc)) (record { room = λ e. e; kept = λ k. self.self; eats = λ k. self.eats }) (λ k. stmt_limits) braces braces_decides

    body_limits : Limits (Within limit) (read_body n B) (body m d L) NoElse
    body_limits = braced_limits (read_block n B) (block m d L) (exact_block n outermost B (deeper_at n k outermost) ((known_stmt n k).block outermost) ((known_stmt n k).body outermost)).self block_limits
        (exact_block m d (below_at m j) L ((known_stmt m j).block d) ((known_stmt m j).body d)).begins_with

  pub limits_below : (k j : ℕ) (d : Depth) → d.statement + k ≡ limit → d.expression + n ≡ limit → k ≤ j → LimitsBelow k j d
  limits_below zero zero d s e g = record { block = record { ends = λ x i r h f. absurd h }; body = record { ends = λ x i r h f. absurd h } }
  limits_below zero (suc j) d s e g = record {
    block = limits_deep (Within limit) (of class brace) (λ x i r h. too_deep_at limit brace i r (((known_stmt m (suc j)).block d).begins_with x i r h) (block_ahead limit m (in_statement d) here (deeper_at m j (in_statement d)) x i r h));
    body = limits_deep (Within limit) (of class stmt_starts) (λ x i r h. too_deep_at limit stmt_starts i r (((known_stmt m (suc j)).body d).exact.begins_with x i r h) (body_ahead limit m (in_statement d) here (deeper_at m j (in_statement d)) x i r h));
  }
    where
      here : Beyond limit (in_statement d)
      here w = let u = w.0 in omega arith
  limits_below (suc k) zero d s e g = absurd (omega arith)
  limits_below (suc k) (suc j) d s e g =
      let c = in_statement d in
      let inner = limits_below k j c (omega arith) e (omega arith) in
      let w : c.statement ≤ limit = omega arith in
      record { block = block_limits k j c w e inner; body = body_limits k j c w e inner }
