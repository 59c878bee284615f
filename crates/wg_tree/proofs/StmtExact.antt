-- A statement is read exactly, whatever the room; an `else` goes to the nearest `if`.
use Rattle.std.proofs.Common.{◌≡◌, ℕ, zero, suc, ◌≤◌, Bool, true, false, List, [], ◌∷◌, ◌++◌, refl, sym, ◌∙◌, ap, if◌then◌else◌, inl, inr, arith, Some, None}
use Rattle.wg_words.specs.declared.place.Place.{Place}
use Rattle.wg_tokens.specs.declared.token.Token.{Token}
use Rattle.wg_tokens.specs.declared.keyword.Keyword.TheVariants as k
use Rattle.wg_tree.specs.declared.expr.Expr.{Expr}
use Rattle.wg_tree.specs.declared.stmt.Attribute.{Attribute}
use Rattle.wg_tree.specs.declared.stmt.Header.{Header}
use Rattle.wg_tree.specs.declared.stmt.Stmt.{Stmt}
use Rattle.wg_tree.specs.declared.stmt.Stmt.TheVariants as s
use Rattle.wg_tree.specs.declared.stmt.Stmt.TheOpen.{Stmt-F}
use Rattle.wg_tree.specs.declared.stmt.Stmt.TheFolds.{fold-roll-Stmt}
use Rattle.wg_grammar.specs.Spans.{Seq, Never}
use Rattle.wg_grammar.specs.Reading.{Got, Wrong, read_on, ◌>>=◌, pure, sees, take_if, by_next}
use Rattle.wg_grammar.specs.Depths.{plain}
use Rattle.wg_grammar.specs.Productions.{of, reads, spells, stops}
use Rattle.wg_grammar.proofs.Kept.{Persists, persists_pure, persists_bind, persists_next, persists_take_if, persists_deep, Eats, eats_first, falls}
use Rattle.wg_grammar.proofs.Full.{Full, full_pure, full_bind, full_for, full_next}
use Rattle.wg_grammar.proofs.Sets.{apart_other}
use Rattle.wg_grammar.proofs.PartKept.{Grows, part_persists}
use Rattle.wg_grammar.proofs.Exact.{Exact, exact_part, exact_for, exact_never, exact_next, exact_map, none_seen}
use Rattle.wg_tokens.specs.Classes.{of_word, class}
use Rattle.wg_tree.specs.Depths.{Depth, in_statement}
use Rattle.wg_tree.specs.GrammarExpr.{full, constant, argument, Phrase}
use Rattle.wg_tree.specs.GrammarStmt.{StmtHole, a_value, a_const, an_argument, opening, starting, Head, if_head, while_head, for_head, basic, head, open_step, is_open, finish, hole_rules, unbraced, braces, block_of, Deeper, stmt, block, body, deeper_at}
use Rattle.wg_tree.specs.ReadsExpr.{TokenReader}
use Rattle.wg_tree.specs.ReadsStmt.{hole_edges, hole_readers, read_finish, head_starts, basic_starts, brace, stmt_starts, inside_edges, read_unbraced, Below, read_stmt, read_block, read_body, below_at}
use Rattle.wg_tree.proofs.Examples.{example}
use Rattle.wg_tree.proofs.ExprExact.{known, exact_expr_at, expr_more, nowhere}
use Rattle.wg_tree.proofs.StmtDecides.{basic_decides, head_decides, braces_decides, heads_apart, brace_apart}
use Rattle.wg_tree.proofs.StmtOpening.{exact_opening, exact_starting, opening_more, starting_more}

-- ---- which statements are open

pub if_else : (a : List Attribute) (p : Place) (t : Expr) (x y : Stmt) → is_open (s.If a p t x (Some y)) ≡ is_open y
if_else a p t x y = ap is_open (sym (s.rolls-If a p t x (Some y))) ∙ fold-roll-Stmt Bool open_step (Stmt-F.If a p t x (Some y))

pub if_alone : (a : List Attribute) (p : Place) (t : Expr) (x : Stmt) → is_open (s.If a p t x None) ≡ true
if_alone a p t x = ap is_open (sym (s.rolls-If a p t x None)) ∙ fold-roll-Stmt Bool open_step (Stmt-F.If a p t x None)

pub while_body : (a : List Attribute) (p : Place) (t : Expr) (x : Stmt) → is_open (s.While a p t x) ≡ is_open x
while_body a p t x = ap is_open (sym (s.rolls-While a p t x)) ∙ fold-roll-Stmt Bool open_step (Stmt-F.While a p t x)

pub for_body : (a : List Attribute) (p : Place) (h : Header) (x : Stmt) → is_open (s.For a p h x) ≡ is_open x
for_body a p h x = ap is_open (sym (s.rolls-For a p h x)) ∙ fold-roll-Stmt Bool open_step (Stmt-F.For a p h x)

abbrev pub elses : List ℕ
elses = of_word k.Else ∷ []

abbrev pub NoElse : Stmt → List Token → Type 0
NoElse x ts = is_open x ≡ true → sees (of class elses) ts ≡ false

-- read exactly, where an `else` may follow what is not open
pub record ExactBody (p : TokenReader Stmt) (P : Phrase Stmt) (set : List ℕ) : Type 0 where
  pub exact : Exact class set elses p P
  pub whole : Full p P NoElse

-- a body, and what goes before it
module _ (room : ℕ) (d : Depth) (p : TokenReader Stmt) (P : Phrase Stmt) where
  finish_kept : (q : TokenReader Stmt) → Persists p q → (h : Head) → Persists (read_finish room p h) (read_finish room q h)
  finish_kept q b (if_head a place t) = persists_bind b (λ x. persists_next (of class elses) (persists_bind (persists_take_if (of class elses) (λ t. t.place)) (λ _. persists_bind b (λ y. persists_pure (s.If a place t x (Some y))))) (persists_pure (s.If a place t x None)))
  finish_kept q b (while_head a place t) = persists_bind b (λ x. persists_pure (s.While a place t x))
  finish_kept q b (for_head a place h) = persists_bind b (λ x. persists_pure (s.For a place h x))

  module _ (b : Full p P NoElse) where
    abbrev more : List Attribute → Place → Expr → Stmt → TokenReader Stmt
    more a place t x = by_next (of class elses) (take_if (of class elses) (λ t. t.place) >>= λ _. p >>= λ y. pure (s.If a place t x (Some y))) (pure (s.If a place t x None))

    if_read : (a : List Attribute) (place : Place) (t : Expr) (y : Stmt) (i r : List (Token × Depth)) → finish P d (if_head a place t) y i r → NoElse y (plain r) → read_finish room p (if_head a place t) (plain i) ≡ Got y (plain r)
    if_read a place t y i r h f = elim h.3 [
      | inl q ↦ let last : sees (of class elses) (plain r) ≡ false = f (ap is_open q.0 ∙ if_alone a place t h.0) in
          ap (λ o. read_on o (more a place t)) (b.reads h.0 i h.1 h.2 (λ _. ap (λ z. sees (of class elses) (plain z)) q.1 ∙ last))
          ∙ ap (λ z. more a place t h.0 (plain z)) q.1 ∙ stopped a place t h.0 (plain r) last ∙ ap (λ z. Got z (plain r)) (sym q.0)
      | inr q ↦ let l = q.1.2 in let w = q.1.3 in
          ap (λ o. read_on o (more a place t)) (b.reads h.0 i h.1 h.2 (λ o. absurd (let e : true ≡ false = sym o ∙ q.0 in cc)))
          ∙ ap (λ z. more a place t h.0 (plain z)) l.3 ∙ went_on a place t h.0 l.0 (plain q.1.1) l.1
          ∙ ap (λ o. read_on o (λ y. pure (s.If a place t h.0 (Some y)))) (b.reads w.0 q.1.1 w.1 w.2 (λ o. ap (λ z. sees (of class elses) (plain z)) w.3.1 ∙ f (ap is_open w.3.0 ∙ if_else a place t h.0 w.0 ∙ o)))
          ∙ ap (λ z. Got (s.If a place t h.0 (Some w.0)) (plain z)) w.3.1 ∙ ap (λ z. Got z (plain r)) (sym w.3.0)
    ]
      where
        stopped : (a : List Attribute) (place : Place) (t : Expr) (x : Stmt) (ts : List Token) → sees (of class elses) ts ≡ false → more a place t x ts ≡ Got (s.If a place t x None) ts
        stopped a place t x ts e = ap (λ z. if z then (take_if (of class elses) (λ t. t.place) >>= λ _. p >>= λ y. pure (s.If a place t x (Some y))) ts else Got (s.If a place t x None) ts) e

        went_on : (a : List Attribute) (place : Place) (t : Expr) (x : Stmt) (u : Token) (ts : List Token) → of class elses u ≡ true → more a place t x (u ∷ ts) ≡ read_on (p ts) (λ y. pure (s.If a place t x (Some y)))
        went_on a place t x u ts e =
            ap (λ z. if z then (take_if (of class elses) (λ t. t.place) >>= λ _. p >>= λ y. pure (s.If a place t x (Some y))) (u ∷ ts) else Got (s.If a place t x None) (u ∷ ts)) e
            ∙ ap (λ z. read_on {X = Place} (if z then Got u.place ts else Wrong (u ∷ ts)) (λ _. p >>= λ y. pure (s.If a place t x (Some y)))) e

    finish_full : (h : Head) → Full (read_finish room p h) (finish P d h) NoElse
    finish_full (if_head a place t) = record { reads = if_read a place t }
    finish_full (while_head a place t) = full_bind b (λ x. full_pure (s.While a place t x)) (λ x y m r q f o. ap (λ z. sees (of class elses) (plain z)) q.1 ∙ f (ap is_open q.0 ∙ while_body a place t x ∙ o))
    finish_full (for_head a place g) = full_bind b (λ x. full_pure (s.For a place g x)) (λ x y m r q f o. ap (λ z. sees (of class elses) (plain z)) q.1 ∙ f (ap is_open q.0 ∙ for_body a place g x ∙ o))

-- ---- statements without braces of their own

module _ (room : ℕ) (d : Depth) where
  pub exact_piece : (n : StmtHole) → Exact class (hole_edges.first n) (hole_edges.stops n) ((hole_readers room).read n) ((hole_rules room d).rule n)
  exact_piece a_value = exact_expr_at full room (known full room) d
  exact_piece a_const = exact_expr_at constant room (known constant room) d
  exact_piece an_argument = exact_expr_at argument room (known argument room) d
  exact_piece opening = exact_opening room d
  exact_piece starting = exact_starting room d

  pub exact_basic : Exact class basic_starts [] (reads class hole_edges (hole_readers room) basic) (spells class (hole_rules room d) basic)
  exact_basic = exact_for class basic_starts (stops hole_edges basic) [] refl (exact_part class hole_edges example (hole_readers room) (hole_rules room d) refl exact_piece basic basic_decides refl)

  pub exact_head : Exact class head_starts [] (reads class hole_edges (hole_readers room) head) (spells class (hole_rules room d) head)
  exact_head = exact_for class head_starts (stops hole_edges head) [] refl (exact_part class hole_edges example (hole_readers room) (hole_rules room d) refl exact_piece head head_decides refl)

  module _ (p : TokenReader Stmt) (P : Phrase Stmt) (set : List ℕ) (b : ExactBody p P set) where
    abbrev headed : TokenReader Stmt
    headed = reads class hole_edges (hole_readers room) head >>= read_finish room p

    pub finish_self : (h : Head) → Persists (read_finish room p h) (read_finish room p h)
    finish_self h = finish_kept room d p P p b.exact.self h

    headed_whole : Full headed (Seq (spells class (hole_rules room d) head) (finish P d)) NoElse
    headed_whole = full_bind exact_head.full (finish_full room d p P b.whole) (λ h y m r q f. none_seen class (plain m))

    headed_exact : Exact class head_starts elses headed (Seq (spells class (hole_rules room d) head) (finish P d))
    headed_exact = record {
      self = persists_bind exact_head.self finish_self;
      eats = eats_first exact_head.eats (λ h. falls (finish_self h));
      refuses = λ ts e. ap (λ z. read_on z (read_finish room p)) (exact_head.refuses ts e);
      begins_with = λ x i r h. exact_head.begins_with h.0 i h.1 h.2;
      full = full_for (λ x ts f o. f) headed_whole;
    }

    pub unbraced_exact : ExactBody (read_unbraced room p) (unbraced room d P) (head_starts ++ basic_starts)
    unbraced_exact = record {
      exact = exact_next class head_starts basic_starts elses heads_apart headed_exact (exact_for class basic_starts [] elses refl exact_basic);
      whole = full_next (of class head_starts) headed_whole (full_for (λ x ts f. none_seen class ts) exact_basic.full) headed_exact.begins_with (λ x i r h. apart_other class head_starts basic_starts (plain i) heads_apart (exact_basic.begins_with x i r h));
    }

  -- what is read with this block and this body one deeper
  module _ (B : Below) (L : Deeper) (blocks : Exact class brace [] B.block L.block) (bodies : ExactBody B.body L.body stmt_starts) where
    abbrev pub plain_exact : ExactBody (read_unbraced room B.body) (unbraced room d L.body) (head_starts ++ basic_starts)
    plain_exact = unbraced_exact B.body L.body stmt_starts bodies

    pub exact_stmt : Exact class stmt_starts elses (read_stmt room B) (stmt room d L)
    exact_stmt = exact_next class brace (head_starts ++ basic_starts) elses brace_apart (exact_for class brace [] elses refl (exact_map class brace [] block_of blocks)) plain_exact.exact

    pub exact_block : Exact class brace [] (read_block room B) (block room d L)
    exact_block = exact_for class brace (stops inside_edges braces) [] refl (exact_part class inside_edges example (record { room = true; read = λ n. read_stmt room B }) (record { room = true; here = d; below = d; rule = λ n. stmt room d L }) refl (λ n. exact_stmt) braces braces_decides refl)

    exact_body : ExactBody (read_body room B) (body room d L) stmt_starts
    exact_body = record {
      exact = exact_next class brace (head_starts ++ basic_starts) elses brace_apart (exact_for class brace [] elses refl (exact_map class brace [] block_of exact_block)) plain_exact.exact;
      whole = full_next (of class brace) (full_for (λ x ts f. none_seen class ts) (exact_map class brace [] block_of exact_block).full) plain_exact.whole (exact_map class brace [] block_of exact_block).begins_with (λ x i r h. apart_other class brace (head_starts ++ basic_starts) (plain i) brace_apart (plain_exact.exact.begins_with x i r h));
    }

-- ---- every room

pub record KnownStmt (room depth : ℕ) : Type 0 where
  pub block : (d : Depth) → Exact class brace [] (below_at room depth).block (deeper_at room depth d).block
  pub body : (d : Depth) → ExactBody (below_at room depth).body (deeper_at room depth d).body stmt_starts

pub known_stmt : (room depth : ℕ) → KnownStmt room depth
known_stmt room zero = record {
  block = λ d. exact_never class brace [];
  body = λ d. record { exact = exact_never class stmt_starts elses; whole = record { reads = λ x i r h f. absurd h } };
}
known_stmt room (suc depth) = let k = known_stmt room depth in record {
  block = λ d. exact_block room (in_statement d) (below_at room depth) (deeper_at room depth (in_statement d)) (k.block (in_statement d)) (k.body (in_statement d));
  body = λ d. exact_body room (in_statement d) (below_at room depth) (deeper_at room depth (in_statement d)) (k.block (in_statement d)) (k.body (in_statement d));
}

-- ---- more room

pub record MoreStmt (B C : Below) : Type 0 where
  pub block : Persists B.block C.block
  pub body : Persists B.body C.body

pub pieces_more : (room more : ℕ) → room ≤ more → Grows (hole_readers room) (hole_readers more)
pieces_more room more l = record { room = λ e. refl; kept = kept; eats = λ n. (exact_piece room nowhere n).eats }
  where
    kept : (n : StmtHole) → Persists ((hole_readers room).read n) ((hole_readers more).read n)
    kept a_value = expr_more full room more l
    kept a_const = expr_more constant room more l
    kept an_argument = expr_more argument room more l
    kept opening = opening_more room nowhere more l
    kept starting = starting_more room nowhere more l

unbraced_more : (room more : ℕ) → room ≤ more → (B C : Below) → MoreStmt B C → Persists (read_unbraced room B.body) (read_unbraced more C.body)
unbraced_more room more l B C h = persists_next (of class head_starts)
    (persists_bind (part_persists class hole_edges example (hole_readers room) (hole_readers more) (pieces_more room more l) head head_decides) (finish_kept room nowhere B.body Never C.body h.body))
    (part_persists class hole_edges example (hole_readers room) (hole_readers more) (pieces_more room more l) basic basic_decides)

stmt_more : (room more : ℕ) → room ≤ more → (B C : Below) → MoreStmt B C → Persists (read_stmt room B) (read_stmt more C)
stmt_more room more l B C h = persists_next (of class brace) (persists_bind h.block (λ p. persists_pure (block_of p))) (unbraced_more room more l B C h)

block_more : (room more : ℕ) → room ≤ more → (B C : Below) → MoreStmt B C → Eats (read_stmt room B) → Persists (read_block room B) (read_block more C)
block_more room more l B C h eats = part_persists class inside_edges example (record { room = true; read = λ n. read_stmt room B }) (record { room = true; read = λ n. read_stmt more C }) (record { room = λ e. e; kept = λ n. stmt_more room more l B C h; eats = λ n. eats }) braces braces_decides

pub below_more : (room more depth deep : ℕ) → room ≤ more → depth ≤ deep → MoreStmt (below_at room depth) (below_at more deep)
below_more room more zero deep l g = let k = known_stmt more deep in record {
  block = persists_deep (of class brace) ((k.block nowhere).refuses);
  body = persists_deep (of class stmt_starts) ((k.body nowhere).exact.refuses);
}
below_more room more (suc depth) zero l g = absurd (omega arith)
below_more room more (suc depth) (suc deep) l g =
    let h = below_more room more depth deep l (omega arith) in
    let k = known_stmt room depth in
    let b = block_more room more l (below_at room depth) (below_at more deep) h (exact_stmt room nowhere (below_at room depth) (deeper_at room depth nowhere) (k.block nowhere) (k.body nowhere)).eats in
    record { block = b; body = persists_next (of class brace) (persists_bind b (λ p. persists_pure (block_of p))) (unbraced_more room more l (below_at room depth) (below_at more deep) h) }
