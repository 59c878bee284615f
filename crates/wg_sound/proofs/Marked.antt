-- Marks leave statements sound.
use Rattle.std.proofs.Common.{◌≡◌, Bool, true, false, cond, List, [], ◌∷◌, map, Option, Some, None, refl, sym, ap, ◌∙◌, subst}
use Rattle.std.specs.Prelude.{◌&&◌}
use Rattle.wg_typed.specs.Uniform.{UniformSetting}
use Rattle.wg_typing.specs.Conversions.{truth_type}
use Rattle.wg_typing.specs.TypingMarks.{MarkedStmt, all_here, plain_stmt, else_branch, is_collective_if, mark_step, marked_stmt, marks_ifs, marked_body}
use Rattle.wg_facts.specs.Tests.{if_any, every}
use Rattle.wg_sound.specs.Room.{Room}
use Rattle.wg_sound.specs.SoundStep.{sound_of, steps_sound, start_sound}
use Rattle.wg_sound.specs.SoundStmt.{stmt_step, stmt_sound, body_sound}
use Rattle.wg_typed.specs.declared.typed_expr.TypedExpr.{TypedExpr}
use Rattle.wg_typed.specs.declared.typed_stmt.TypedAttribute.{TypedAttribute}
use Rattle.wg_typed.specs.declared.typed_stmt.TypedStmt.{TypedStmt, roll-TypedStmt, fold-roll-TypedStmt, ind-TypedStmt, map-TypedStmt}
use Rattle.wg_typed.specs.declared.typed_stmt.TypedStmt.TheVariants as t
use Rattle.wg_typed.specs.declared.typed_stmt.TypedStmt.TheOpen.{TypedStmt-F}
use Rattle.wg_typing.specs.declared.context.Around.{Around}
use Rattle.wg_facts.proofs.Basics.{and_left, and_right, both}
use Rattle.wg_sound.proofs.Statements.{StmtIs, does, sound_Block, sound_Empty, sound_Declare, sound_Request, sound_Increment, sound_Complete, sound_Barrier, sound_Step, sound_Break, sound_Continue, sound_Return, sound_While, sound_For, others_sound, sound_If}

module _ (room : Room) (u : UniformSetting) where
  -- a marked statement, wherever it stands
  record MarkedIs (looped : Bool) (m : MarkedStmt) : Type 0 where
    here : (direct : Bool) → StmtIs room looped (m.here direct)
    branch : StmtIs room looped m.branch

  plain_is : (looped holds : Bool) (s : TypedStmt) → StmtIs room looped s → MarkedIs looped (plain_stmt holds s)
  plain_is looped holds s h = record { here = λ direct. h; branch = h }

  abbrev Keeps : TypedStmt → Type 0
  Keeps s = (looped : Bool) → StmtIs room looped s → MarkedIs looped (marked_stmt u s)

  abbrev all_sound : Bool → List TypedStmt → Bool
  all_sound looped ss = every (λ (s : Bool → Bool). s looped) (map (stmt_sound room) ss)

  list_here : {B : Type 0} (p : B → TypedStmt) (holds : (b : B) → Keeps (p b)) (looped direct : Bool) (bs : List B) → all_sound looped (map p bs) ≡ true → all_sound looped (all_here direct (map (marked_stmt u) (map p bs))) ≡ true
  list_here p holds looped direct [] h = refl
  list_here p holds looped direct (b ∷ bs) h = both ((holds b looped (and_left (stmt_sound room (p b) looped) _ h)).here direct) (list_here p holds looped direct bs (and_right (stmt_sound room (p b) looped) _ h))

  abbrev OtherKeeps : Bool → Option TypedStmt → Type 0
  OtherKeeps looped o = if_any (λ (s : Bool → Bool). s looped) (others_sound room o) ≡ true

  either_branch : (looped c : Bool) (m : MarkedStmt) → MarkedIs looped m → StmtIs room looped (cond c m.branch (m.here false))
  either_branch looped true m h = h.branch
  either_branch looped false m h = h.here false

  if_is : (looped c : Bool) (attributes : List TypedAttribute) (test : TypedExpr) (first : TypedStmt) (other : Option TypedStmt) → sound_of room truth_type test ≡ true → StmtIs room looped first → OtherKeeps looped other → StmtIs room looped (t.If attributes c test first other)
  if_is looped c attributes test first other h k l = does room (t.If attributes c test first other) _ looped (sound_If room attributes c test first other) (both h (both k l))

  layer_keeps : {B : Type 0} (p : B → TypedStmt) (holds : (b : B) → Keeps (p b)) (y : TypedStmt-F B) (looped : Bool)
      → stmt_step room (map-TypedStmt TypedStmt (Bool → Bool) (stmt_sound room) (map-TypedStmt B TypedStmt p y)) looped ≡ true → MarkedIs looped (mark_step u (map-TypedStmt TypedStmt MarkedStmt (marked_stmt u) (map-TypedStmt B TypedStmt p y)))
  layer_keeps p holds (TypedStmt-F.Block body) looped h = record {
    here = λ direct. does room (t.Block (all_here false (map (marked_stmt u) (map p body)))) _ looped (sound_Block room (all_here false (map (marked_stmt u) (map p body)))) (list_here p holds looped false body h);
    branch = does room (t.Block (all_here true (map (marked_stmt u) (map p body)))) _ looped (sound_Block room (all_here true (map (marked_stmt u) (map p body)))) (list_here p holds looped true body h);
  }
  layer_keeps p holds TypedStmt-F.Empty looped h = plain_is looped false t.Empty (does room t.Empty _ looped (sound_Empty room) h)
  layer_keeps p holds (TypedStmt-F.Declare d) looped h = plain_is looped false (t.Declare d) (does room (t.Declare d) _ looped (sound_Declare room d) h)
  layer_keeps p holds (TypedStmt-F.Request handle group output element amount) looped h = plain_is looped true (t.Request handle group output element amount) (does room (t.Request handle group output element amount) _ looped (sound_Request room handle group output element amount) h)
  layer_keeps p holds (TypedStmt-F.Increment group output element amount) looped h = plain_is looped true (t.Increment group output element amount) (does room (t.Increment group output element amount) _ looped (sound_Increment room group output element amount) h)
  layer_keeps p holds (TypedStmt-F.Complete handle) looped h = plain_is looped true (t.Complete handle) (does room (t.Complete handle) _ looped (sound_Complete room handle) h)
  layer_keeps p holds (TypedStmt-F.Barrier syncs) looped h = plain_is looped syncs (t.Barrier syncs) (does room (t.Barrier syncs) _ looped (sound_Barrier room syncs) h)
  layer_keeps p holds (TypedStmt-F.Step s) looped h = plain_is looped false (t.Step s) (does room (t.Step s) _ looped (sound_Step room s) h)
  layer_keeps p holds TypedStmt-F.Break looped h = plain_is looped false t.Break (does room t.Break _ looped (sound_Break room) h)
  layer_keeps p holds TypedStmt-F.Continue looped h = plain_is looped false t.Continue (does room t.Continue _ looped (sound_Continue room) h)
  layer_keeps p holds (TypedStmt-F.Return v) looped h = plain_is looped false (t.Return v) (does room (t.Return v) _ looped (sound_Return room v) h)
  layer_keeps p holds (TypedStmt-F.If attributes marked test first None) looped h =
      let k = and_right (sound_of room truth_type test) _ h in
      let m = holds first looped (and_left (stmt_sound room (p first) looped) _ k) in
      record {
        here = λ direct. by_mark (direct && is_collective_if u test (marked_stmt u (p first)) None) m;
        branch = by_mark false m;
      }
    where
      by_mark : (c : Bool) → MarkedIs looped (marked_stmt u (p first)) → StmtIs room looped (t.If attributes c test (cond c (marked_stmt u (p first)).branch ((marked_stmt u (p first)).here false)) (else_branch c None))
      by_mark c m = if_is looped c attributes test _ None (and_left (sound_of room truth_type test) _ h) (either_branch looped c _ m) refl
  layer_keeps p holds (TypedStmt-F.If attributes marked test first (Some other)) looped h =
      let k = and_right (sound_of room truth_type test) _ h in
      let m = holds first looped (and_left (stmt_sound room (p first) looped) _ k) in
      let n = holds other looped (and_right (stmt_sound room (p first) looped) _ k) in
      record {
        here = λ direct. by_mark (direct && is_collective_if u test (marked_stmt u (p first)) (Some (marked_stmt u (p other)))) m n;
        branch = by_mark false m n;
      }
    where
      by_mark : (c : Bool) → MarkedIs looped (marked_stmt u (p first)) → MarkedIs looped (marked_stmt u (p other)) → StmtIs room looped (t.If attributes c test (cond c (marked_stmt u (p first)).branch ((marked_stmt u (p first)).here false)) (else_branch c (Some (marked_stmt u (p other)))))
      by_mark c m n = if_is looped c attributes test _ (else_branch c (Some (marked_stmt u (p other)))) (and_left (sound_of room truth_type test) _ h) (either_branch looped c _ m) (either_branch looped c _ n)
  layer_keeps p holds (TypedStmt-F.While attributes test body) looped h =
      let b = (holds body true (and_right (sound_of room truth_type test) _ h)).here false in
      let s : StmtIs room looped (t.While attributes test ((marked_stmt u (p body)).here false)) = does room (t.While attributes test ((marked_stmt u (p body)).here false)) _ looped (sound_While room attributes test ((marked_stmt u (p body)).here false)) (both (and_left (sound_of room truth_type test) _ h) b) in
      record { here = λ direct. s; branch = s }
  layer_keeps p holds (TypedStmt-F.For attributes begin test steps body) looped h =
      let k = and_right (if_any (start_sound room) begin) _ h in
      let l = and_right (if_any (sound_of room truth_type) test) _ k in
      let b = (holds body true (and_right (steps_sound room steps) _ l)).here false in
      let s : StmtIs room looped (t.For attributes begin test steps ((marked_stmt u (p body)).here false)) = does room (t.For attributes begin test steps ((marked_stmt u (p body)).here false)) _ looped (sound_For room attributes begin test steps ((marked_stmt u (p body)).here false))
      (both (and_left (if_any (start_sound room) begin) _ h) (both (and_left (if_any (sound_of room truth_type) test) _ k) (both (and_left (steps_sound room steps) _ l) b))) in
      record { here = λ direct. s; branch = s }

  marked_is : (s : TypedStmt) → Keeps s
  marked_is s = ind-TypedStmt Keeps
      (λ x y eq. subst (λ l. Keeps (roll-TypedStmt l)) eq (λ looped h.
      subst (MarkedIs looped) (sym (fold-roll-TypedStmt MarkedStmt (mark_step u) _)) (layer_keeps (λ b. b.0) (λ b. b.1) y looped
      (ap (λ (f : Bool → Bool). f looped) (sym (fold-roll-TypedStmt (Bool → Bool) (stmt_step room) _)) ∙ h))))
      s

  marked_all : (ss : List TypedStmt) → body_sound room ss ≡ true → body_sound room (all_here true (map (marked_stmt u) ss)) ≡ true
  marked_all [] h = refl
  marked_all (s ∷ ss) h = both ((marked_is s false (and_left (stmt_sound room s false) _ h)).here true) (marked_all ss (and_right (stmt_sound room s false) _ h))

  pub body_is : (around : Around) (ss : List TypedStmt) → body_sound room ss ≡ true → body_sound room (marked_body around u ss) ≡ true
  body_is around ss h = by_test (marks_ifs around)
    where
      by_test : (b : Bool) → body_sound room (cond b (all_here true (map (marked_stmt u) ss)) ss) ≡ true
      by_test true = marked_all ss h
      by_test false = h
