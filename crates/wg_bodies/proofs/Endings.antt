-- How sound statements end outside loops: they go on, or return.
use Rattle.std.proofs.Common.{◌≡◌, ℕ, zero, suc, Bool, true, false, cond, List, [], ◌∷◌, map, Option, Some, None, sym, ap, ◌∙◌, subst}
use Rattle.wg_words.specs.Truth.{is_true}
use Rattle.wg_state.specs.Turns.{Ending, Spent, Done, Action, and_then, ◌>>=◌, ◌>>◌, pure, turn}
use Rattle.wg_semantics.specs.Places.{Setting}
use Rattle.wg_semantics.specs.Calls.{Callee, value_of}
use Rattle.wg_semantics.specs.ExprMeaning.{seen, word_of, when}
use Rattle.wg_semantics.specs.StmtMeaning.{then_go, block, on, after_body, loop_below, loop, test_of, maybe_else, returned, stmt_step, does}
use Rattle.wg_semantics.specs.StepMeaning.{steps_do, started}
use Rattle.wg_semantics.specs.declared.state.State.{State}
use Rattle.wg_semantics.specs.declared.state.Flow.{Flow}
use Rattle.wg_semantics.specs.declared.state.Flow.TheVariants as flow
use Rattle.wg_sound.specs.Room.{Room}
use Rattle.wg_sound.specs.SoundStmt.{stmt_sound}
use Rattle.wg_sound.specs.SoundStmt.{stmt_step as sound_step}
use Rattle.wg_sound.specs.SoundStep.{sound_of}
use Rattle.wg_facts.specs.Tests.{every}
use Rattle.wg_typing.specs.Conversions.{truth_type}
use Rattle.wg_typed.specs.declared.typed_expr.TypedExpr.{TypedExpr}
use Rattle.wg_typed.specs.declared.typed_stmt.TypedStmt.{TypedStmt, roll-TypedStmt, fold-roll-TypedStmt, ind-TypedStmt, map-TypedStmt}
use Rattle.wg_typed.specs.declared.typed_stmt.TypedStmt.TheOpen.{TypedStmt-F}
use Rattle.wg_facts.proofs.Basics.{and_left, and_right}

-- spent, or gone on, or returned
abbrev pub Fine : Ending State Flow → Type 0
Fine Spent = Unit {0}
Fine (Done flow.Next s t) = Unit {0}
Fine (Done flow.Broke s t) = ⊥
Fine (Done flow.Continued s t) = ⊥
Fine (Done (flow.Returned words) s t) = Unit {0}

abbrev pub Ends : Action State Flow → Type 0
Ends m = (s : State) (t : ℕ) → Fine (m s t)

ends_bind : {A : Type 0} (m : Action State A) (k : A → Action State Flow) → ((a : A) → Ends (k a)) → Ends (m >>= k)
ends_bind m k h s t = by_end (m s t)
  where
    by_end : (x : Ending State _) → Fine (and_then x k)
    by_end Spent = tt
    by_end (Done a s t) = h a s t

ends_next : Ends (pure flow.Next)
ends_next s t = tt

ends_on : (m : Action State (Unit {0})) → Ends (on m)
ends_on m = ends_bind m (λ _. pure flow.Next) (λ a. ends_next)

ends_when : (word : ℕ) (m n : Action State Flow) → Ends m → Ends n → Ends (when word m n)
ends_when word m n h k = by_test (is_true word)
  where
    by_test : (b : Bool) → Ends (cond b m n)
    by_test true = h
    by_test false = k

ends_after : (end : Flow) (again : Action State Flow) → Ends again → Ends (after_body end again)
ends_after flow.Next again h = h
ends_after flow.Continued again h = h
ends_after flow.Broke again h = ends_next
ends_after (flow.Returned words) again h = λ s t. tt

ends_below : (bound : ℕ) (test : Action State ℕ) (body : Action State Flow) (steps : Action State (Unit {0})) → Ends (loop_below bound test body steps)
ends_below zero test body steps = λ s t. tt
ends_below (suc bound) test body steps = ends_bind test _ (λ go.
    ends_when go _ (pure flow.Next) (ends_bind (turn >> body) _ (λ end. ends_after end _ (ends_bind steps _ (λ a. ends_below bound test body steps)))) ends_next)

ends_loop : (test : Action State ℕ) (body : Action State Flow) (steps : Action State (Unit {0})) → Ends (loop test body steps)
ends_loop test body steps s t = ends_below (suc t) test body steps s t

ends_go : (end : Flow) (n : Action State Flow) (s : State) (t : ℕ) → Fine (Done end s t) → Ends n → Fine (then_go end n s t)
ends_go flow.Next n s t h k = k s t
ends_go flow.Broke n s t h k = absurd h
ends_go flow.Continued n s t h k = absurd h
ends_go (flow.Returned words) n s t h k = tt

ends_first : (m n : Action State Flow) → Ends m → Ends n → Ends (m >>= (λ end. then_go end n))
ends_first m n h k s t = by_end (m s t) (h s t)
  where
    by_end : (x : Ending State Flow) → Fine x → Fine (and_then x (λ end. then_go end n))
    by_end Spent f = tt
    by_end (Done end s t) f = ends_go end n s t f k

module _ (setting : Setting) (callees : List Callee) (room : Room) where
  abbrev d : TypedStmt → Action State Flow
  d = does setting callees

  abbrev EndsWell : TypedStmt → Type 0
  EndsWell s = stmt_sound room s false ≡ true → Ends (d s)

  list_ends : {B : Type 0} (p : B → TypedStmt) (holds : (b : B) → EndsWell (p b)) (bs : List B) → every (λ (s : Bool → Bool). s false) (map (stmt_sound room) (map p bs)) ≡ true → Ends (block (map d (map p bs)))
  list_ends p holds [] h = ends_next
  list_ends p holds (b ∷ bs) h = ends_first (d (p b)) (block (map d (map p bs))) (holds b (and_left (stmt_sound room (p b) false) _ h)) (list_ends p holds bs (and_right (stmt_sound room (p b) false) _ h))

  returned_ends : (v : Option TypedExpr) → Ends (returned setting callees v)
  returned_ends None = λ s t. tt
  returned_ends (Some e) = ends_bind (value_of setting.structs (seen setting callees e)) _ (λ words s t. tt)

  layer_ends : {B : Type 0} (p : B → TypedStmt) (holds : (b : B) → EndsWell (p b)) (y : TypedStmt-F B)
      → sound_step room (map-TypedStmt TypedStmt (Bool → Bool) (stmt_sound room) (map-TypedStmt B TypedStmt p y)) false ≡ true → Ends (stmt_step setting callees (map-TypedStmt TypedStmt (Action State Flow) d (map-TypedStmt B TypedStmt p y)))
  layer_ends p holds (TypedStmt-F.Block body) h = list_ends p holds body h
  layer_ends p holds TypedStmt-F.Empty h = ends_next
  layer_ends p holds (TypedStmt-F.Declare ds) h = ends_on _
  layer_ends p holds (TypedStmt-F.Request handle group output element amount) h = ends_on _
  layer_ends p holds (TypedStmt-F.Increment group output element amount) h = ends_on _
  layer_ends p holds (TypedStmt-F.Complete handle) h = ends_on _
  layer_ends p holds (TypedStmt-F.Barrier syncs) h = ends_next
  layer_ends p holds (TypedStmt-F.Step s) h = ends_on _
  layer_ends p holds TypedStmt-F.Break h = absurd (cc)
  layer_ends p holds TypedStmt-F.Continue h = absurd (cc)
  layer_ends p holds (TypedStmt-F.Return v) h = returned_ends v
  layer_ends p holds (TypedStmt-F.If attributes marked c first None) h =
      let k = and_right (sound_of room truth_type c) _ h in
      ends_bind (word_of setting (seen setting callees c)) _ (λ word. ends_when word (d (p first)) (maybe_else None) (holds first (and_left (stmt_sound room (p first) false) _ k)) ends_next)
  layer_ends p holds (TypedStmt-F.If attributes marked c first (Some other)) h =
      let k = and_right (sound_of room truth_type c) _ h in
      ends_bind (word_of setting (seen setting callees c)) _ (λ word. ends_when word (d (p first)) (maybe_else (Some (d (p other)))) (holds first (and_left (stmt_sound room (p first) false) _ k)) (holds other (and_right (stmt_sound room (p first) false) _ k)))
  layer_ends p holds (TypedStmt-F.While attributes c body) h = ends_loop (word_of setting (seen setting callees c)) (d (p body)) (pure tt)
  layer_ends p holds (TypedStmt-F.For attributes begin c steps body) h = ends_bind (started setting callees begin) _ (λ a. ends_loop (test_of setting callees c) (d (p body)) (steps_do setting callees steps))

  rolled_ends : (z : TypedStmt-F TypedStmt) → (sound_step room (map-TypedStmt TypedStmt (Bool → Bool) (stmt_sound room) z) false ≡ true → Ends (stmt_step setting callees (map-TypedStmt TypedStmt (Action State Flow) d z))) → EndsWell (roll-TypedStmt z)
  rolled_ends z h k = subst Ends (sym (fold-roll-TypedStmt (Action State Flow) (stmt_step setting callees) z)) (h (ap (λ (f : Bool → Bool). f false) (sym (fold-roll-TypedStmt (Bool → Bool) (sound_step room) z)) ∙ k))

  -- a sound statement outside loops
  pub ends_well : (s : TypedStmt) → EndsWell s
  ends_well s = ind-TypedStmt EndsWell (λ x y eq. subst (λ l. EndsWell (roll-TypedStmt l)) eq (rolled_ends (map-TypedStmt _ TypedStmt (λ b. b.0) y) (layer_ends (λ b. b.0) (λ b. b.1) y))) s

  pub ends_all : (ss : List TypedStmt) → every (λ (s : Bool → Bool). s false) (map (stmt_sound room) ss) ≡ true → Ends (block (map d ss))
  ends_all [] h = ends_next
  ends_all (s ∷ ss) h = ends_first (d s) (block (map d ss)) (ends_well s (and_left (stmt_sound room s false) _ h)) (ends_all ss (and_right (stmt_sound room s false) _ h))
