-- What is read as a block or a body is spelled so, and what was read before a fault can be completed.
use Rattle.std.proofs.Common.{◌≡◌, ℕ, zero, suc, ◌+◌, ◌≤◌, true, List, [], ◌∷◌, ◌++◌, refl, inl, inr, arith, None}
use Rattle.wg_words.specs.declared.place.Place.{Place}
use Rattle.wg_tokens.specs.declared.token.Token.{Token}
use Rattle.wg_tree.specs.declared.stmt.Stmt.{Stmt}
use Rattle.wg_tree.specs.declared.stmt.Stmt.TheVariants as s
use Rattle.wg_grammar.specs.Spans.{Span, Seq, None_of, ◌or◌}
use Rattle.wg_grammar.specs.Reading.{◌>>=◌, pure, sees, by_next}
use Rattle.wg_grammar.specs.Productions.{Edges, Rules, of, member, spells, decides}
use Rattle.wg_grammar.proofs.Fine as f
use Rattle.wg_grammar.proofs.Fine.{Opens, opens_then}
use Rattle.wg_grammar.proofs.PartFine.{part_opens, part_starts, part_fine, opens_as, or_starts}
use Rattle.wg_tokens.specs.Classes.{class}
use Rattle.wg_tree.specs.Depths.{Depth, deeper, in_statement, Within}
use Rattle.wg_tree.specs.GrammarExpr.{Phrase}
use Rattle.wg_tree.specs.GrammarStmt.{Head, if_head, while_head, for_head, basic, head, finish, hole_rules, unbraced, Inside, Insides, braces, block_of, as_block, Deeper, stmt, block, body, deeper_at}
use Rattle.wg_tree.specs.ReadsExpr.{TokenReader}
use Rattle.wg_tree.specs.ReadsStmt.{head_starts, basic_starts, brace, stmt_starts, inside_edges, read_unbraced, Below, read_stmt, read_block, below_at}
use Rattle.wg_tree.proofs.Examples.{example}
use Rattle.wg_tree.proofs.StmtDecides.{basic_decides, head_decides, braces_decides}
use Rattle.wg_tree.proofs.StmtFine.{Greedy, finish_fine}
use Rattle.wg_tree.proofs.PieceFine.{pieces_open, pieces_started, within_here, pieces_fine}
use Rattle.wg_tree.proofs.StmtGreedy.{below_greedy}

abbrev Cells : Type 0
Cells = List (Token × Depth)

abbrev inside_rules : ℕ → Depth → Deeper → Rules Token Depth Inside Insides
inside_rules m d L = record { room = true; here = d; below = d; rule = λ k. stmt m d L }

-- ---- what can be completed

module _ (m : ℕ) (d : Depth) (L : Deeper) where
  unbraced_opens : Opens (unbraced m d L.body) []
  unbraced_opens = opens_as (spells class (hole_rules m d) basic) (unbraced m d L.body) [] (λ x i r. inr) (pieces_open m d basic basic_decides)

  stmt_opens : Opens (stmt m d L) []
  stmt_opens = opens_as (unbraced m d L.body) (stmt m d L) [] (λ x i r. inr) unbraced_opens

  block_opens : Opens (block m d L) []
  block_opens = part_opens Unit class inside_edges example (Within 0) (inside_rules m d L) (λ z. refl) (λ z k. stmt_opens) tt braces braces_decides

  body_opens : Opens (body m d L) []
  body_opens = opens_as (unbraced m d L.body) (body m d L) [] (λ x i r. inr) unbraced_opens

finish_opens : (P : Phrase Stmt) (d : Depth) → Opens P [] → (h : Head) → Opens (finish P d h) []
finish_opens P d o (if_head a place t) = (o.0, s.If a place t o.1 None, λ r. (o.1, r, o.2 r, inl (refl, refl)))
finish_opens P d o (while_head a place t) = (o.0, s.While a place t o.1, λ r. (o.1, r, o.2 r, (refl, refl)))
finish_opens P d o (for_head a place h) = (o.0, s.For a place h o.1, λ r. (o.1, r, o.2 r, (refl, refl)))

-- the brace alone
abbrev blank : Edges Inside
blank = record { first = λ n. []; stops = λ n. [] }

blank_decides : decides class blank example braces ≡ true
blank_decides = refl

-- a first token that is too deep
module _ (ok : Type 0) (limit m : ℕ) (d : Depth) (here : Within limit d → ⊥) (below : Within limit (deeper d) → ⊥) (o : ok → 1 ≤ m) (L : Deeper) where
  abbrev Beyond : Depth → Type 0
  Beyond c = Within limit c → ⊥

  abbrev Started : {X : Type 0} → (X → Span (Token × Depth)) → Token → Type 0
  Started P t = (c : Depth) × Beyond c × (ok → Opens P ((t, c) ∷ []))

  head_started : (ok → Opens L.body []) → (t : Token) → member (class t) head_starts ≡ true → Started (unbraced m d L.body) t
  head_started b t q =
      let k = pieces_started m d ok limit here below o head head_decides t q in
      (k.0, k.1, λ z. opens_as (Seq (spells class (hole_rules m d) head) (finish L.body d)) (unbraced m d L.body) ((t, k.0) ∷ []) (λ x i r. inl) (opens_then (spells class (hole_rules m d) head) (finish L.body d) ((t, k.0) ∷ []) (k.2 z) (finish_opens L.body d (b z))))

  basic_started : (t : Token) → member (class t) basic_starts ≡ true → Started (unbraced m d L.body) t
  basic_started t q =
      let k = pieces_started m d ok limit here below o basic basic_decides t q in
      (k.0, k.1, λ z. opens_as (spells class (hole_rules m d) basic) (unbraced m d L.body) ((t, k.0) ∷ []) (λ x i r. inr) (k.2 z))

  unbraced_started : (ok → Opens L.body []) → (t : Token) → member (class t) (head_starts ++ basic_starts) ≡ true → Started (unbraced m d L.body) t
  unbraced_started b t q = or_starts {A = Started (unbraced m d L.body) t} (class t) head_starts basic_starts q (head_started b t) (basic_started t)

  block_started : (t : Token) → member (class t) brace ≡ true → Started (block m d L) t
  block_started t q = part_starts ok class blank example (Within limit) (inside_rules m d L) (λ z. refl) (λ z k. stmt_opens m d L) Beyond here here (λ k t q. absurd (cc)) braces blank_decides t q

  body_started : (ok → Opens L.body []) → (t : Token) → member (class t) stmt_starts ≡ true → Started (body m d L) t
  body_started b t q = or_starts {A = Started (body m d L) t} (class t) brace (head_starts ++ basic_starts) q
      (λ q. let k = block_started t q in (k.0, k.1, λ z. opens_as (as_block (block m d L)) (body m d L) ((t, k.0) ∷ []) (λ x i r. inl) (opens_then (block m d L) (λ p. None_of (block_of p)) ((t, k.0) ∷ []) (k.2 z) (λ p. ([], block_of p, λ s. (refl, refl))))))
      (λ q. let k = unbraced_started b t q in (k.0, k.1, λ z. opens_as (unbraced m d L.body) (body m d L) ((t, k.0) ∷ []) (λ x i r. inr) (k.2 z)))

-- ---- what is read with room n for expressions and k for statements is spelled with m and j

module _ (ok : Type 0) (limit n m : ℕ) (l : n ≤ m) (o : ok → n + 2 ≤ m) where
  module _ (d : Depth) (s : d.statement ≤ limit) (e : d.expression + n ≡ limit) (B : Below) (L : Deeper) where
    abbrev here : Within limit d
    here = within_here ok limit n m d s e l o

    module _ (greedy : (ts : List Token) → Greedy (B.body ts)) (inner : f.Fine ok (Within limit) B.body L.body) where
      unbraced_fine : f.Fine ok (Within limit) (read_unbraced n B.body) (unbraced m d L.body)
      unbraced_fine = f.fine_if ok (Within limit) (sees (of class head_starts))
          (f.fine_as ok (Within limit) {P = Seq (spells class (hole_rules m d) head) (finish L.body d)} {Q = unbraced m d L.body} (λ x i r. inl) (f.fine_bind ok (Within limit) {Q = finish L.body d} (pieces_fine ok limit n m d s e l o head head_decides) (λ h. finish_fine n B.body greedy ok limit L.body d here inner h)))
          (f.fine_as ok (Within limit) {P = spells class (hole_rules m d) basic} {Q = unbraced m d L.body} (λ x i r. inr) (pieces_fine ok limit n m d s e l o basic basic_decides))

      as_block_fine : (p : TokenReader (Place × List Stmt)) (P : Phrase (Place × List Stmt)) → f.Fine ok (Within limit) p P → f.Fine ok (Within limit) (by_next (of class brace) (p >>= λ p. pure (block_of p)) (read_unbraced n B.body)) (as_block P or unbraced m d L.body)
      as_block_fine p P h = f.fine_if ok (Within limit) (sees (of class brace))
          (f.fine_as ok (Within limit) {P = as_block P} {Q = as_block P or unbraced m d L.body} (λ x i r. inl) (f.fine_bind ok (Within limit) {Q = λ p. None_of (block_of p)} h (λ p. f.fine_pure ok (Within limit) (block_of p))))
          (f.fine_as ok (Within limit) {P = unbraced m d L.body} {Q = as_block P or unbraced m d L.body} (λ x i r. inr) unbraced_fine)

      block_fine : f.Fine ok (Within limit) B.block L.block → f.Fine ok (Within limit) (read_block n B) (block m d L)
      block_fine h = part_fine ok class inside_edges example (Within limit) (inside_rules m d L) (record { room = true; read = λ k. read_stmt n B }) (λ z. refl) (λ q. refl) here (λ q. here) (λ q. absurd (cc)) (λ k. as_block_fine B.block L.block h) braces braces_decides

  pub record FineBelow (k j : ℕ) (d : Depth) : Type 0 where
    pub block : f.Fine ok (Within limit) (below_at n k).block (deeper_at m j d).block
    pub body : f.Fine ok (Within limit) (below_at n k).body (deeper_at m j d).body

  pub below_fine : (k j : ℕ) (d : Depth) → d.statement + k ≡ limit → d.expression + n ≡ limit → k ≤ j → (ok → k + 2 ≤ j) → FineBelow k j d
  below_fine zero j d s e g h = no_room j h
    where
      here : Within limit (in_statement d) → ⊥
      here w = let u = w.0 in omega arith

      below : Within limit (deeper (in_statement d)) → ⊥
      below w = let u = w.0 in omega arith

      roomy : ok → 1 ≤ m
      roomy z = let q = o z in omega arith

      no_room : (j : ℕ) → (ok → zero + 2 ≤ j) → FineBelow zero j d
      no_room zero h = record {
        block = f.fine_deep ok (Within limit) (of class brace) (λ z. absurd (let q = h z in omega arith)) (λ t q. (in_statement d, here, λ z. absurd (let q = h z in omega arith)));
        body = f.fine_deep ok (Within limit) (of class stmt_starts) (λ z. absurd (let q = h z in omega arith)) (λ t q. (in_statement d, here, λ z. absurd (let q = h z in omega arith)));
      }
      no_room (suc j) h = record {
        block = f.fine_deep ok (Within limit) (of class brace) (λ z. block_opens m (in_statement d) (deeper_at m j (in_statement d))) (λ t q. block_started ok limit m (in_statement d) here below roomy (deeper_at m j (in_statement d)) t q);
        body = f.fine_deep ok (Within limit) (of class stmt_starts) (λ z. body_opens m (in_statement d) (deeper_at m j (in_statement d))) (λ t q. body_started ok limit m (in_statement d) here below roomy (deeper_at m j (in_statement d)) (λ z. inside j (h z)) t q);
      }
        where
          inside : (j : ℕ) → zero + 2 ≤ suc j → Opens (deeper_at m j (in_statement d)).body []
          inside zero l = absurd (omega arith)
          inside (suc j) l = body_opens m (in_statement (in_statement d)) (deeper_at m j (in_statement (in_statement d)))
  below_fine (suc k) zero d s e g h = absurd (omega arith)
  below_fine (suc k) (suc j) d s e g h =
      let c = in_statement d in
      let inner = below_fine k j c (omega arith) e (omega arith) (λ z. let q = h z in omega arith) in
      let w : c.statement ≤ limit = omega arith in
      let b = block_fine c w e (below_at n k) (deeper_at m j c) (below_greedy n k) inner.body inner.block in
      record { block = b; body = as_block_fine c w e (below_at n k) (deeper_at m j c) (below_greedy n k) inner.body (read_block n (below_at n k)) (block m c (deeper_at m j c)) b }
