-- Marks change nothing that does not look at them.
use Rattle.std.proofs.Common.{◌≡◌, Bool, true, false, cond, List, [], ◌∷◌, map, Option, Some, None, refl, sym, ap, ◌∙◌, subst}
use Rattle.std.specs.Prelude.{◌&&◌}
use Rattle.wg_typed.specs.Uniform.{UniformSetting}
use Rattle.wg_typing.specs.TypingMarks.{MarkedStmt, all_here, plain_stmt, is_collective_if, mark_step, marked_stmt, marks_ifs, marked_body}
use Rattle.wg_typed.specs.declared.typed_expr.TypedExpr.{TypedExpr}
use Rattle.wg_typed.specs.declared.typed_stmt.TypedAttribute.{TypedAttribute}
use Rattle.wg_typed.specs.declared.typed_stmt.TypedStmt.{TypedStmt, roll-TypedStmt, fold-TypedStmt, fold-roll-TypedStmt, ind-TypedStmt, map-TypedStmt}
use Rattle.wg_typed.specs.declared.typed_stmt.TypedStmt.TheVariants as t
use Rattle.wg_typed.specs.declared.typed_stmt.TypedStmt.TheOpen.{TypedStmt-F}
use Rattle.wg_typing.specs.declared.context.Around.{Around}

-- a fold that does not look at marks
pub record Unmarked {A : Type 0} (step : TypedStmt-F A → A) : Type 0 where
  pub same : (attributes : List TypedAttribute) (marked : Bool) (test : TypedExpr) (first : A) (other : Option A) → step (TypedStmt-F.If attributes marked test first other) ≡ step (TypedStmt-F.If attributes false test first other)

module _ {A : Type 0} (step : TypedStmt-F A → A) (unmarked : Unmarked step) (u : UniformSetting) where
  abbrev of : TypedStmt → A
  of = fold-TypedStmt A step

  rolled : (z : TypedStmt-F TypedStmt) (s : TypedStmt) → roll-TypedStmt z ≡ s → of s ≡ step (map-TypedStmt TypedStmt A of z)
  rolled z s e = ap of (sym e) ∙ fold-roll-TypedStmt A step z

  -- a marked statement, wherever it stands
  record MarkedSame (a : A) (m : MarkedStmt) : Type 0 where
    here : (direct : Bool) → of (m.here direct) ≡ a
    branch : of m.branch ≡ a

  abbrev Same : TypedStmt → Type 0
  Same s = MarkedSame (of s) (marked_stmt u s)

  plain_same : (holds : Bool) (s : TypedStmt) → MarkedSame (of s) (plain_stmt holds s)
  plain_same holds s = record { here = λ direct. refl; branch = refl }

  all_same : {B : Type 0} (p : B → TypedStmt) (holds : (b : B) → Same (p b)) (direct : Bool) (bs : List B) → map of (all_here direct (map (marked_stmt u) (map p bs))) ≡ map of (map p bs)
  all_same p holds direct [] = refl
  all_same p holds direct (b ∷ bs) = ap (λ x. x ∷ map of (all_here direct (map (marked_stmt u) (map p bs)))) ((holds b).here direct) ∙ ap (λ xs. of (p b) ∷ xs) (all_same p holds direct bs)

  either_same : (a : A) (c : Bool) (m : MarkedStmt) → MarkedSame a m → of (cond c m.branch (m.here false)) ≡ a
  either_same a true m h = h.branch
  either_same a false m h = h.here false

  if_alone : (attributes : List TypedAttribute) (c marked : Bool) (test : TypedExpr) (a : A) (m : MarkedStmt) → MarkedSame a m → of (t.If attributes c test (cond c m.branch (m.here false)) None) ≡ step (TypedStmt-F.If attributes marked test a None)
  if_alone attributes c marked test a m h =
      rolled (TypedStmt-F.If attributes c test (cond c m.branch (m.here false)) None) (t.If attributes c test (cond c m.branch (m.here false)) None) (t.rolls-If attributes c test (cond c m.branch (m.here false)) None)
      ∙ unmarked.same attributes c test (of (cond c m.branch (m.here false))) None ∙ ap (λ x. step (TypedStmt-F.If attributes false test x None)) (either_same a c m h) ∙ sym (unmarked.same attributes marked test a None)

  if_both : (attributes : List TypedAttribute) (c marked : Bool) (test : TypedExpr) (a b : A) (m n : MarkedStmt) → MarkedSame a m → MarkedSame b n → of (t.If attributes c test (cond c m.branch (m.here false)) (Some (cond c n.branch (n.here false)))) ≡ step (TypedStmt-F.If attributes marked test a (Some b))
  if_both attributes c marked test a b m n h k =
      rolled (TypedStmt-F.If attributes c test (cond c m.branch (m.here false)) (Some (cond c n.branch (n.here false)))) (t.If attributes c test (cond c m.branch (m.here false)) (Some (cond c n.branch (n.here false)))) (t.rolls-If attributes c test (cond c m.branch (m.here false)) (Some (cond c n.branch (n.here false))))
      ∙ unmarked.same attributes c test (of (cond c m.branch (m.here false))) (Some (of (cond c n.branch (n.here false)))) ∙ ap (λ x. step (TypedStmt-F.If attributes false test x (Some (of (cond c n.branch (n.here false)))))) (either_same a c m h)
      ∙ ap (λ x. step (TypedStmt-F.If attributes false test a (Some x))) (either_same b c n k) ∙ sym (unmarked.same attributes marked test a (Some b))

  -- a statement that is kept as it is
  kept : (holds : Bool) (z : TypedStmt-F TypedStmt) (s : TypedStmt) → roll-TypedStmt z ≡ s → MarkedSame (step (map-TypedStmt TypedStmt A of z)) (plain_stmt holds s)
  kept holds z s e = record { here = λ direct. rolled z s e; branch = rolled z s e }

  layer_same : {B : Type 0} (p : B → TypedStmt) (holds : (b : B) → Same (p b)) (y : TypedStmt-F B)
      → MarkedSame (step (map-TypedStmt TypedStmt A of (map-TypedStmt B TypedStmt p y))) (mark_step u (map-TypedStmt TypedStmt MarkedStmt (marked_stmt u) (map-TypedStmt B TypedStmt p y)))
  layer_same p holds (TypedStmt-F.Block body) = record {
    here = λ direct. rolled (TypedStmt-F.Block (all_here false (map (marked_stmt u) (map p body)))) _ (t.rolls-Block (all_here false (map (marked_stmt u) (map p body)))) ∙ ap (λ xs. step (TypedStmt-F.Block xs)) (all_same p holds false body);
    branch = rolled (TypedStmt-F.Block (all_here true (map (marked_stmt u) (map p body)))) _ (t.rolls-Block (all_here true (map (marked_stmt u) (map p body)))) ∙ ap (λ xs. step (TypedStmt-F.Block xs)) (all_same p holds true body);
  }
  layer_same p holds TypedStmt-F.Empty = kept false TypedStmt-F.Empty t.Empty t.rolls-Empty
  layer_same p holds (TypedStmt-F.Declare d) = kept false (TypedStmt-F.Declare d) (t.Declare d) (t.rolls-Declare d)
  layer_same p holds (TypedStmt-F.Request handle group output element amount) = kept true (TypedStmt-F.Request handle group output element amount) (t.Request handle group output element amount) (t.rolls-Request handle group output element amount)
  layer_same p holds (TypedStmt-F.Increment group output element amount) = kept true (TypedStmt-F.Increment group output element amount) (t.Increment group output element amount) (t.rolls-Increment group output element amount)
  layer_same p holds (TypedStmt-F.Complete handle) = kept true (TypedStmt-F.Complete handle) (t.Complete handle) (t.rolls-Complete handle)
  layer_same p holds (TypedStmt-F.Barrier syncs) = kept syncs (TypedStmt-F.Barrier syncs) (t.Barrier syncs) (t.rolls-Barrier syncs)
  layer_same p holds (TypedStmt-F.Step s) = kept false (TypedStmt-F.Step s) (t.Step s) (t.rolls-Step s)
  layer_same p holds TypedStmt-F.Break = kept false TypedStmt-F.Break t.Break t.rolls-Break
  layer_same p holds TypedStmt-F.Continue = kept false TypedStmt-F.Continue t.Continue t.rolls-Continue
  layer_same p holds (TypedStmt-F.Return v) = kept false (TypedStmt-F.Return v) (t.Return v) (t.rolls-Return v)
  layer_same p holds (TypedStmt-F.If attributes marked test first None) = record {
    here = λ direct. if_alone attributes (direct && is_collective_if u test (marked_stmt u (p first)) None) marked test (of (p first)) (marked_stmt u (p first)) (holds first);
    branch = if_alone attributes false marked test (of (p first)) (marked_stmt u (p first)) (holds first);
  }
  layer_same p holds (TypedStmt-F.If attributes marked test first (Some other)) = record {
    here = λ direct. if_both attributes (direct && is_collective_if u test (marked_stmt u (p first)) (Some (marked_stmt u (p other)))) marked test (of (p first)) (of (p other)) (marked_stmt u (p first)) (marked_stmt u (p other)) (holds first) (holds other);
    branch = if_both attributes false marked test (of (p first)) (of (p other)) (marked_stmt u (p first)) (marked_stmt u (p other)) (holds first) (holds other);
  }
  layer_same p holds (TypedStmt-F.While attributes test body) =
      let s = rolled (TypedStmt-F.While attributes test ((marked_stmt u (p body)).here false)) _ (t.rolls-While attributes test ((marked_stmt u (p body)).here false)) ∙ ap (λ x. step (TypedStmt-F.While attributes test x)) ((holds body).here false) in
      record { here = λ direct. s; branch = s }
  layer_same p holds (TypedStmt-F.For attributes begin test steps body) =
      let s = rolled (TypedStmt-F.For attributes begin test steps ((marked_stmt u (p body)).here false)) _ (t.rolls-For attributes begin test steps ((marked_stmt u (p body)).here false)) ∙ ap (λ x. step (TypedStmt-F.For attributes begin test steps x)) ((holds body).here false) in
      record { here = λ direct. s; branch = s }

  rolled_same : (z : TypedStmt-F TypedStmt) → MarkedSame (step (map-TypedStmt TypedStmt A of z)) (mark_step u (map-TypedStmt TypedStmt MarkedStmt (marked_stmt u) z)) → Same (roll-TypedStmt z)
  rolled_same z h = subst (λ a. MarkedSame a (marked_stmt u (roll-TypedStmt z))) (sym (fold-roll-TypedStmt A step z)) (subst (MarkedSame (step (map-TypedStmt TypedStmt A of z))) (sym (fold-roll-TypedStmt MarkedStmt (mark_step u) z)) h)

  marked_same : (s : TypedStmt) → Same s
  marked_same s = ind-TypedStmt Same (λ x y eq. subst (λ l. Same (roll-TypedStmt l)) eq (rolled_same (map-TypedStmt _ TypedStmt (λ b. b.0) y) (layer_same (λ b. b.0) (λ b. b.1) y))) s

  marked_all : (ss : List TypedStmt) → map of (all_here true (map (marked_stmt u) ss)) ≡ map of ss
  marked_all [] = refl
  marked_all (s ∷ ss) = ap (λ x. x ∷ map of (all_here true (map (marked_stmt u) ss))) ((marked_same s).here true) ∙ ap (λ xs. of s ∷ xs) (marked_all ss)

  -- a body with its marks
  pub body_same : (around : Around) (ss : List TypedStmt) → map of (marked_body around u ss) ≡ map of ss
  body_same around ss = by_test (marks_ifs around)
    where
      by_test : (b : Bool) → map of (cond b (all_here true (map (marked_stmt u) ss)) ss) ≡ map of ss
      by_test true = marked_all ss
      by_test false = refl
