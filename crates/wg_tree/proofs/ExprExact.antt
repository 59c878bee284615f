-- An expression is read exactly, whatever the room.
use Rattle.std.proofs.Common.{◌≡◌, ℕ, zero, suc, ◌≤◌, true, false, List, [], ◌∷◌, refl, sym, ◌∙◌, ap, subst, if◌then◌else◌, inl, inr, arith, None, Option}
use Rattle.std.proofs.lemmas.List.{append-nil}
use Rattle.wg_tokens.specs.declared.mark.Mark.TheVariants as sign
use Rattle.wg_tokens.specs.declared.token.Token.{Token}
use Rattle.wg_tree.specs.declared.expr.Expr.{Expr}
use Rattle.wg_tree.specs.declared.expr.Expr.TheVariants as e
use Rattle.wg_tree.specs.declared.expr.Link.{Link}
use Rattle.wg_grammar.specs.Spans.{Span}
use Rattle.wg_grammar.specs.Reading.{Got, Wrong, Deep, Reader, read_on, ◌>>=◌, pure, sees, look}
use Rattle.wg_grammar.specs.Depths.{plain}
use Rattle.wg_grammar.specs.Productions.{Production, Readers, give, apply, list, member, of, covered, reads, spells, first, stops, decides, sub, ◌<$>◌, ◌<*>◌, ◌<*◌, ◌*>◌}
use Rattle.wg_grammar.proofs.Sets.{both_true, apart_sees, covered_true}
use Rattle.wg_grammar.proofs.Kept.{Persists, Eats, persists_deep, eats_deep}
use Rattle.wg_grammar.proofs.PartKept.{Grows, part_persists}
use Rattle.wg_grammar.proofs.Far.{Far, far_give, far_apply}
use Rattle.wg_grammar.proofs.Exact.{Exact, grows_self, exact_part, exact_for, exact_never}
use Rattle.wg_grammar.proofs.Inverse.{begins_not}
use Rattle.wg_tokens.specs.Classes.{of_mark, NAME, ZERO, class}
use Rattle.wg_tree.specs.Depths.{Depth, deeper}
use Rattle.wg_tree.specs.GrammarExpr.{ExprKind, full, constant, argument, Nested, whole, operand, nested, Inner, value_types, by_code, classes, operators, one_of, optional, mark, cast, zero_struct, link_of, plain_operand, placed_name, call_of, with_forms, unary, level, links, chain, LevelBelow, lower, LowerExpr, Sides, Side, left, right, sides, choice, choice_of, expr, inner_at, expr_at}
use Rattle.wg_tree.specs.ReadsExpr.{NestedReaders, starts, operand_stops, level_stops, expr_stops, nested_edges, level_edges, side_edges, zeros_tests, read_part, read_unary, read_level, read_expr, inside_at, expr_read_at}
use Rattle.wg_tree.proofs.Examples.{example}
use Rattle.wg_tree.proofs.ExprDecides.{plain_decides, plain_covered, levels_decide, all_levels, choice_decides, choice_covered}
use Rattle.wg_tree.specs.GrammarStmt.{type_classes}
use Rattle.wg_tree.proofs.ExprPaths.{type_wrong}
use Rattle.wg_tree.proofs.ExprFar.{unary_far}
use Rattle.wg_tree.proofs.ExprUnary.{TellsAnswer, exact_unary_full, unary_full_grows}

exact_from : {X : Type 0} (s s' ends : List ℕ) {p : Reader Token X} {P : X → Span (Token × Depth)} → s ≡ s' → Exact class s ends p P → Exact class s' ends p P
exact_from s s' ends {p = p} {P = P} q h = subst (λ z. Exact class z ends p P) q h

module _ (kind : ExprKind) (I : NestedReaders) (R : Inner) (room : I.room ≡ R.room) (parts : (n : Nested) → Exact class (starts kind) ((nested_edges kind).stops n) (I.read n) (R.rule n)) where
  module _ (operands : Exact class (starts kind) (operand_stops kind) (read_unary kind I) (unary kind R)) where
    pub exact_level : (j : ℕ) → levels_decide kind j ≡ true → Exact class (starts kind) (level_stops kind j) (read_level kind I j) (level kind R j)
    exact_level zero d = operands
    exact_level (suc j) d =
        let a = both_true (decides class (level_edges kind j) example (links (suc j))) _ d in
        let b = both_true (covered (stops (level_edges kind j) (links (suc j))) (level_stops kind (suc j))) (levels_decide kind j) a.1 in
        let below = exact_level j b.1 in
        exact_for class (starts kind) (stops (level_edges kind j) (links (suc j))) (level_stops kind (suc j)) b.0
        (exact_from (first (level_edges kind j) (links (suc j))) (starts kind) (stops (level_edges kind j) (links (suc j))) (append-nil (starts kind))
        (exact_part class (level_edges kind j) example (record { room = I.room; read = λ n. read_level kind I j }) (record { room = R.room; here = R.here; below = R.below; rule = λ n. level kind R j }) room (λ n. below) (links (suc j)) a.0 refl))

    both_sides : (n : Sides) → Exact class (starts kind) ((side_edges kind).stops n) (sides (read_level kind I 10) (I.read whole) n) (sides (level kind R 10) (R.rule whole) n)
    both_sides left = exact_level 10 (all_levels kind)
    both_sides right = parts whole

    pub exact_expr : Exact class (starts kind) (expr_stops kind) (read_expr kind I) (expr kind R)
    exact_expr = exact_for class (starts kind) (stops (side_edges kind) choice) (expr_stops kind) (choice_covered kind)
        (exact_from (first (side_edges kind) choice) (starts kind) (stops (side_edges kind) choice) (append-nil (starts kind))
        (exact_part class (side_edges kind) example (record { room = I.room; read = sides (read_level kind I 10) (I.read whole) }) (record { room = R.room; here = R.here; below = R.below; rule = sides (level kind R 10) (R.rule whole) }) room both_sides choice (choice_decides kind) refl))

-- an expression that begins with a name or a type takes it
module _ (I : NestedReaders) (R : Inner) (room : I.room ≡ R.room) (parts : (n : Nested) → Exact class (starts full) ((nested_edges full).stops n) (I.read n) (R.rule n)) (operands : Exact class (starts full) (operand_stops full) (read_unary full I) (unary full R)) where
  self : Grows I I
  self = grows_self class (nested_edges full) example I R room parts

  abbrev one : ℕ → Readers Token LevelBelow LowerExpr
  one j = record { room = I.room; read = λ k. read_level full I j }

  abbrev first_link : Production Token LevelBelow LowerExpr (List Link → Expr)
  first_link = apply (give chain) (sub lower)

  abbrev more_links : ℕ → Production Token LevelBelow LowerExpr (List Link)
  more_links j = list (link_of (suc j) <$> one_of (classes (operators (suc j))) <*> sub lower)

  level_far : (j : ℕ) → levels_decide full j ≡ true → (n : Token) (ts : List Token) → of class type_classes n ≡ true → Far 1 (n ∷ ts) (read_level full I j (n ∷ ts))
  level_far zero g n ts e = unary_far I self n ts e
  level_far (suc j) g n ts e =
      let a = both_true (decides class (level_edges full j) example (links (suc j))) _ g in
      let b = both_true (covered (stops (level_edges full j) (links (suc j))) (level_stops full (suc j))) (levels_decide full j) a.1 in
      let r = both_true (decides class (level_edges full j) example (more_links j)) _ (both_true (decides class (level_edges full j) example first_link) _ a.0).1 in
      let below = exact_level full I R room parts operands j b.1 in
      far_apply class (level_edges full j) example (one j) (record { room = λ e. e; kept = λ k. below.self; eats = λ k. below.eats }) first_link (more_links j) 1 (n ∷ ts) r.0
      (far_give class (level_edges full j) example (one j) (record { room = λ e. e; kept = λ k. below.self; eats = λ k. below.eats }) chain (sub lower) 1 (n ∷ ts) (level_far j b.1 n ts e))

  abbrev both : Readers Token Sides Side
  both = record { room = I.room; read = sides (read_level full I 10) (I.read whole) }

  abbrev chosen_first : Production Token Sides Side (Option (Expr × Expr) → Expr)
  chosen_first = apply (give choice_of) (sub left)

  abbrev chosen_rest : Production Token Sides Side (Option (Expr × Expr))
  chosen_rest = optional ((λ x y. (x, y)) <$> (mark sign.Question *> sub right) <* mark sign.Colon <*> sub right)

  both_self : Grows both both
  both_self = record { room = λ e. e; kept = kept; eats = eats }
    where
      kept : (k : Sides) → Persists (both.read k) (both.read k)
      kept left = (exact_level full I R room parts operands 10 (all_levels full)).self
      kept right = (parts whole).self

      eats : (k : Sides) → Eats (both.read k)
      eats left = (exact_level full I R room parts operands 10 (all_levels full)).eats
      eats right = (parts whole).eats

  expr_far : (n : Token) (ts : List Token) → of class type_classes n ≡ true → Far 1 (n ∷ ts) (read_expr full I (n ∷ ts))
  expr_far n ts e =
      let r = both_true (decides class (side_edges full) example chosen_rest) _ (both_true (decides class (side_edges full) example chosen_first) _ (choice_decides full)).1 in
      far_apply class (side_edges full) example both both_self chosen_first chosen_rest 1 (n ∷ ts) r.0
      (far_give class (side_edges full) example both both_self choice_of (sub left) 1 (n ∷ ts) (level_far 10 (all_levels full) n ts e))

-- with more room, an expression is read the same
module _ (kind : ExprKind) (I J : NestedReaders) (more : Grows I J) (operands : Persists (read_unary kind I) (read_unary kind J)) (levels : (j : ℕ) → levels_decide kind j ≡ true → Eats (read_level kind I j)) where
  level_grows : (j : ℕ) → levels_decide kind j ≡ true → Persists (read_level kind I j) (read_level kind J j)
  level_grows zero d = operands
  level_grows (suc j) d =
      let a = both_true (decides class (level_edges kind j) example (links (suc j))) _ d in
      let b = both_true (covered (stops (level_edges kind j) (links (suc j))) (level_stops kind (suc j))) (levels_decide kind j) a.1 in
      let below = level_grows j b.1 in
      part_persists class (level_edges kind j) example (record { room = I.room; read = λ n. read_level kind I j }) (record { room = J.room; read = λ n. read_level kind J j }) (record { room = more.room; kept = λ n. below; eats = λ n. levels j b.1 }) (links (suc j)) a.0

  pub expr_grows : Persists (read_expr kind I) (read_expr kind J)
  expr_grows = part_persists class (side_edges kind) example (record { room = I.room; read = sides (read_level kind I 10) (I.read whole) }) (record { room = J.room; read = sides (read_level kind J 10) (J.read whole) }) (record { room = more.room; kept = kept; eats = eats }) choice (choice_decides kind)
    where
      kept : (n : Sides) → Persists (sides (read_level kind I 10) (I.read whole) n) (sides (read_level kind J 10) (J.read whole) n)
      kept left = level_grows 10 (all_levels kind)
      kept right = more.kept whole

      eats : (n : Sides) → Eats (sides (read_level kind I 10) (I.read whole) n)
      eats left = levels 10 (all_levels kind)
      eats right = more.eats whole

-- ---- one token after another

pub annotated : Depth → List Token → List (Token × Depth)
annotated d [] = []
annotated d (t ∷ ts) = (t, d) ∷ annotated d ts

pub plain_annotated : (d : Depth) (ts : List Token) → plain (annotated d ts) ≡ ts
unfolding annotated
plain_annotated d [] = refl
plain_annotated d (t ∷ ts) = ap (λ z. t ∷ z) (plain_annotated d ts)

-- an operand alone is an expression
pub level_alone : (kind : ExprKind) (R : Inner) (j : ℕ) (x : Expr) (i r : List (Token × Depth)) → unary kind R x i r → level kind R j x i r
level_alone kind R zero x i r h = h
level_alone kind R (suc j) x i r h = (chain x, r, (chain, i, (refl, refl), (x, r, level_alone kind R j x i r h, (refl, refl))), ([], r, refl, (refl, refl)))

pub expr_alone : (kind : ExprKind) (R : Inner) (x : Expr) (i r : List (Token × Depth)) → unary kind R x i r → expr kind R x i r
expr_alone kind R x i r h = (choice_of x, r, (choice_of, i, (refl, refl), (x, r, level_alone kind R 10 x i r h, (refl, refl))), (None, r, inr (refl, refl), (refl, refl)))

pub name_alone : (R : Inner) (n : Token) (r : List (Token × Depth)) → class n ≡ NAME → unary full R (e.Name (placed_name n)) ((n, R.here) ∷ r) r
name_alone R n r c = inr (inr (inr (with_forms (e.Name (placed_name n)), r, (with_forms, (n, R.here) ∷ r, (refl, refl), (e.Name (placed_name n), r, inr (inr (inl (call_of (placed_name n), r, (call_of, (n, R.here) ∷ r, (refl, refl), (placed_name n, r, (n, ap (λ z. member z (NAME ∷ [])) c, refl, refl), (refl, refl))), (None, r, inr (refl, refl), (refl, refl))))), (refl, refl))), ([], r, refl, (refl, refl)))))

pub level_wrong : (kind : ExprKind) (I : NestedReaders) (ts b : List Token) (j : ℕ) → read_unary kind I ts ≡ Wrong b → read_level kind I j ts ≡ Wrong b
level_wrong kind I ts b zero h = h
level_wrong kind I ts b (suc j) h = ap (λ o. read_on (read_on {X = Expr} o (λ x. pure (chain x))) (λ g. reads class (level_edges kind j) (record { room = I.room; read = λ n. read_level kind I j }) (list (link_of (suc j) <$> one_of (classes (operators (suc j))) <*> sub lower)) >>= λ y. pure (g y))) (level_wrong kind I ts b j h)

pub expr_wrong : (kind : ExprKind) (I : NestedReaders) (ts b : List Token) → read_unary kind I ts ≡ Wrong b → read_expr kind I ts ≡ Wrong b
expr_wrong kind I ts b h = ap (λ o. read_on (read_on {X = Expr} o (λ x. pure (choice_of x))) (λ g. reads class (side_edges kind) (record { room = I.room; read = sides (read_level kind I 10) (I.read whole) }) (optional ((λ x y. (x, y)) <$> (mark sign.Question *> sub right) <* mark sign.Colon <*> sub right)) >>= λ y. pure (g y))) (level_wrong kind I ts b 10 h)

pub unary_type_wrong : (I : NestedReaders) (v u : Token) (ts : List Token) → of class (classes (by_code value_types)) v ≡ true → of class (of_mark sign.LeftParen ∷ []) u ≡ false → read_unary full I (v ∷ u ∷ ts) ≡ Wrong (u ∷ ts)
unary_type_wrong I v u ts w z =
    let no : of class (of_mark sign.LeftParen ∷ []) v ≡ false = apart_sees class (classes (by_code value_types)) (of_mark sign.LeftParen ∷ []) (v ∷ []) refl w in
    ap (λ b. if b then read_part full I cast (v ∷ u ∷ ts) else look zeros_tests (read_part full I zero_struct) (read_part full I (plain_operand full)) (v ∷ u ∷ ts)) (begins_not (of class (of_mark sign.LeftParen ∷ [])) (of class (classes (by_code value_types)) ∷ of class (of_mark sign.RightParen ∷ []) ∷ []) (v ∷ u ∷ ts) no)
    ∙ ap (λ b. if b then read_part full I zero_struct (v ∷ u ∷ ts) else read_part full I (plain_operand full) (v ∷ u ∷ ts)) (begins_not (of class (of_mark sign.LeftParen ∷ [])) (of class (NAME ∷ []) ∷ of class (of_mark sign.RightParen ∷ []) ∷ of class (ZERO ∷ []) ∷ []) (v ∷ u ∷ ts) no)
    ∙ type_wrong class (nested_edges full) I v u ts w z

-- ---- every room

exact_unary_const : (kind : ExprKind) (I : NestedReaders) (R : Inner) → I.room ≡ R.room → ((n : Nested) → Exact class (starts kind) ((nested_edges kind).stops n) (I.read n) (R.rule n))
    → (read_unary kind I ≡ read_part kind I (plain_operand kind)) → Exact class (starts kind) (operand_stops kind) (read_part kind I (plain_operand kind)) (spells class R (plain_operand kind))
exact_unary_const constant I R room parts q = exact_for class (starts constant) (stops (nested_edges constant) (plain_operand constant)) (operand_stops constant) (plain_covered constant) (exact_part class (nested_edges constant) example I R room parts (plain_operand constant) (plain_decides constant) refl)
exact_unary_const argument I R room parts q = exact_for class (starts argument) (stops (nested_edges argument) (plain_operand argument)) (operand_stops argument) (plain_covered argument) (exact_part class (nested_edges argument) example I R room parts (plain_operand argument) (plain_decides argument) refl)
exact_unary_const full I R room parts q = exact_for class (starts full) (stops (nested_edges full) (plain_operand full)) (operand_stops full) (plain_covered full) (exact_part class (nested_edges full) example I R room parts (plain_operand full) (plain_decides full) refl)

-- what is known at a room
pub record Known (kind : ExprKind) (room : ℕ) : Type 0 where
  pub parts : (d : Depth) (n : Nested) → Exact class (starts kind) ((nested_edges kind).stops n) ((inside_at kind room).read n) ((inner_at kind room d).rule n)
  pub tells : kind ≡ full → TellsAnswer (inside_at kind room)

pub same_room : (kind : ExprKind) (room : ℕ) (d : Depth) → (inside_at kind room).room ≡ (inner_at kind room d).room
same_room kind zero d = refl
same_room kind (suc room) d = refl

pub exact_unary : (kind : ExprKind) (room : ℕ) → Known kind room → (d : Depth) → Exact class (starts kind) (operand_stops kind) (read_unary kind (inside_at kind room)) (unary kind (inner_at kind room d))
exact_unary full room k d = exact_unary_full (inside_at full room) (inner_at full room d) (same_room full room d) (k.parts d) (k.tells refl)
exact_unary constant room k d = exact_unary_const constant (inside_at constant room) (inner_at constant room d) (same_room constant room d) (k.parts d) refl
exact_unary argument room k d = exact_unary_const argument (inside_at argument room) (inner_at argument room d) (same_room argument room d) (k.parts d) refl

pub exact_expr_at : (kind : ExprKind) (room : ℕ) → Known kind room → (d : Depth) → Exact class (starts kind) (expr_stops kind) (expr_read_at kind room) (expr_at kind room d)
exact_expr_at kind room k d = exact_expr kind (inside_at kind room) (inner_at kind room d) (same_room kind room d) (k.parts d) (exact_unary kind room k d)

no_room_tells : TellsAnswer (inside_at full 0)
no_room_tells = record {
  first = λ r. absurd (cc);
  name = λ n u ts c d. inr (refl, n ∷ u ∷ ts, ap (λ z. if member z (starts full) then Deep (n ∷ u ∷ ts) else Wrong (n ∷ u ∷ ts)) c);
  type = λ v u ts w d. inr (v ∷ u ∷ ts, ap (λ z. if z then Deep (v ∷ u ∷ ts) else Wrong (v ∷ u ∷ ts)) (covered_true class (classes (by_code value_types)) (starts full) (v ∷ u ∷ ts) refl w));
}

pub nowhere : Depth
nowhere = record { statement = 0; expression = 0 }

-- a name alone, whatever follows that an expression would not take
pub named_read : (room : ℕ) → Known full room → (n u : Token) (ts : List Token) → class n ≡ NAME → sees (of class (expr_stops full)) (u ∷ ts) ≡ false → expr_read_at full room (n ∷ u ∷ ts) ≡ Got (e.Name (placed_name n)) (u ∷ ts)
named_read room k n u ts c d =
    let r = annotated nowhere ts in
    let R = inner_at full room nowhere in
    subst (λ z. expr_read_at full room (n ∷ u ∷ z) ≡ Got (e.Name (placed_name n)) (u ∷ z)) (plain_annotated nowhere ts)
    ((exact_expr_at full room k nowhere).full.reads (e.Name (placed_name n)) ((n, R.here) ∷ (u, nowhere) ∷ r) ((u, nowhere) ∷ r) (expr_alone full R (e.Name (placed_name n)) ((n, R.here) ∷ (u, nowhere) ∷ r) ((u, nowhere) ∷ r) (name_alone R n ((u, nowhere) ∷ r) c)) d)

room_tells : (room : ℕ) → Known full room → TellsAnswer (inside_at full (suc room))
room_tells room k = record {
  first = λ r n ts e. expr_far (inside_at full room) (inner_at full room nowhere) (same_room full room nowhere) (k.parts nowhere) (exact_unary full room k nowhere) n ts e;
  name = λ n u ts c d. inl (named_read room k n u ts c (ap (λ z. member z (expr_stops full)) d));
  type = λ v u ts w d. inl (expr_wrong full (inside_at full room) (v ∷ u ∷ ts) (u ∷ ts) (unary_type_wrong (inside_at full room) v u ts w (ap (λ z. member z (of_mark sign.LeftParen ∷ [])) d)));
}

pub known : (kind : ExprKind) (room : ℕ) → Known kind room
known kind zero = record { parts = λ d n. exact_never class (starts kind) ((nested_edges kind).stops n); tells = λ q. subst (λ z. TellsAnswer (inside_at z 0)) (sym q) no_room_tells }
known kind (suc room) = let k = known kind room in
    record { parts = λ d n. pick n (deeper d) (exact_expr_at kind room k (deeper d)) (exact_unary kind room k (deeper d)); tells = λ q. subst (λ z. TellsAnswer (inside_at z (suc room))) (sym q) (room_tells room (subst (λ z. Known z room) q k)) }
  where
    pick : (n : Nested) (d : Depth) → Exact class (starts kind) (expr_stops kind) (expr_read_at kind room) (expr_at kind room d) → Exact class (starts kind) (operand_stops kind) (read_unary kind (inside_at kind room)) (unary kind (inner_at kind room d))
        → Exact class (starts kind) ((nested_edges kind).stops n) (nested (expr_read_at kind room) (read_unary kind (inside_at kind room)) n) (nested (expr kind (inner_at kind room d)) (unary kind (inner_at kind room d)) n)
    pick whole d a b = a
    pick operand d a b = b

-- ---- more room

pub exact_level_at : (kind : ExprKind) (room : ℕ) (d : Depth) (j : ℕ) → levels_decide kind j ≡ true → Exact class (starts kind) (level_stops kind j) (read_level kind (inside_at kind room) j) (level kind (inner_at kind room d) j)
exact_level_at kind room d j g = let k = known kind room in exact_level kind (inside_at kind room) (inner_at kind room d) (same_room kind room d) (k.parts d) (exact_unary kind room k d) j g

eats_levels : (kind : ExprKind) (room : ℕ) (j : ℕ) → levels_decide kind j ≡ true → Eats (read_level kind (inside_at kind room) j)
eats_levels kind room j d = (exact_level_at kind room nowhere j d).eats

unary_more : (kind : ExprKind) (n m : ℕ) → Grows (inside_at kind n) (inside_at kind m) → Persists (read_unary kind (inside_at kind n)) (read_unary kind (inside_at kind m))
unary_more full n m h = let k = known full n in unary_full_grows (inside_at full n) (inner_at full n nowhere) (same_room full n nowhere) (k.parts nowhere) (k.tells refl) (inside_at full m) h
unary_more constant n m h = part_persists class (nested_edges constant) example (inside_at constant n) (inside_at constant m) h (plain_operand constant) (plain_decides constant)
unary_more argument n m h = part_persists class (nested_edges argument) example (inside_at argument n) (inside_at argument m) h (plain_operand argument) (plain_decides argument)

pub inside_more : (kind : ExprKind) (n m : ℕ) → n ≤ m → Grows (inside_at kind n) (inside_at kind m)
inside_more kind zero m l = record { room = λ e. absurd (cc); kept = λ n. persists_deep (of class (starts kind)) (((known kind m).parts nowhere n).refuses); eats = λ n. eats_deep (of class (starts kind)) }
inside_more kind (suc n) zero l = absurd (omega arith)
inside_more kind (suc n) (suc m) l = let h = inside_more kind n m (omega arith) in
    record { room = λ e. refl; kept = both (unary_more kind n m h) (expr_grows kind (inside_at kind n) (inside_at kind m) h (unary_more kind n m h) (eats_levels kind n)); eats = λ k. ((known kind (suc n)).parts nowhere k).eats }
  where
    both : Persists (read_unary kind (inside_at kind n)) (read_unary kind (inside_at kind m)) → Persists (expr_read_at kind n) (expr_read_at kind m) → (k : Nested) → Persists ((inside_at kind (suc n)).read k) ((inside_at kind (suc m)).read k)
    both u x whole = x
    both u x operand = u

pub expr_more : (kind : ExprKind) (n m : ℕ) → n ≤ m → Persists (expr_read_at kind n) (expr_read_at kind m)
expr_more kind n m l = let h = inside_more kind n m l in expr_grows kind (inside_at kind n) (inside_at kind m) h (unary_more kind n m h) (eats_levels kind n)

-- ---- what is taken first

pub first_taken : (room : ℕ) (n : Token) (ts : List Token) → of class type_classes n ≡ true → Far 1 (n ∷ ts) (expr_read_at full room (n ∷ ts))
first_taken room n ts e = let k = known full room in expr_far (inside_at full room) (inner_at full room nowhere) (same_room full room nowhere) (k.parts nowhere) (exact_unary full room k nowhere) n ts e
