-- Sound statements of a plain function do the same in two settings with the same structs.
use Rattle.std.proofs.Common.{◌≡◌, ℕ, Bool, true, false, List, [], ◌∷◌, map, Option, Some, None, refl, sym, ap, ◌∙◌, subst}
use Rattle.wg_state.specs.Turns.{Action, ◌>>=◌, ◌>>◌, pure, read}
use Rattle.wg_state.specs.WordLists.{zeros}
use Rattle.wg_tree.specs.declared.expr.BinaryOperator.{BinaryOperator}
use Rattle.wg_tree.specs.declared.stmt.StepOperator.{StepOperator}
use Rattle.wg_semantics.specs.declared.state.State.{State}
use Rattle.wg_semantics.specs.declared.state.Flow.{Flow}
use Rattle.wg_semantics.specs.declared.state.Flow.TheVariants as flow
use Rattle.wg_semantics.specs.declared.state.Store.TheVariants as store
use Rattle.wg_semantics.specs.declared.state.Spot.TheVariants as spot
use Rattle.wg_semantics.specs.Places.{Setting, fetched}
use Rattle.wg_semantics.specs.Calls.{Seen, Callee, callee_at, value_of, called}
use Rattle.wg_semantics.specs.ExprMeaning.{word_of, seen, when}
use Rattle.wg_semantics.specs.StepMeaning.{store_at, assigned, updated, changed, raw_word, raw_stored, destination_of, maybe_word, maybe_spot, interlocked, step_does, steps_do, start_value, declared_as, all_declared, started}
use Rattle.wg_semantics.specs.StmtMeaning.{then_go, block, on, loop, test_of, maybe_else, returned, stmt_step, does}
use Rattle.wg_sound.specs.Room.{Room, tells_last, buffer_type, is_writable_raw}
use Rattle.wg_sound.specs.SoundCalls.{calls}
use Rattle.wg_sound.specs.SoundExpr.{shown}
use Rattle.wg_sound.specs.SoundStep.{sound_of, is_target, destination_type, is_word_place, interlocks, step_sound, steps_sound, tells, starts, declares, start_sound}
use Rattle.wg_sound.specs.SoundStmt.{returns, stmt_sound}
use Rattle.wg_sound.specs.SoundStmt.{stmt_step as sound_step}
use Rattle.wg_facts.specs.Tests.{test, if_any, every}
use Rattle.wg_typing.specs.Conversions.{same_type, is_word, truth_type, uint_type}
use Rattle.wg_typed.specs.Uniform.{is_finished}
use Rattle.wg_typed.specs.Layout.{words_of}
use Rattle.wg_typed.specs.Operators.{converted, combined_words, stepped_words}
use Rattle.wg_typed.specs.declared.types.TypeTree.{TypeTree}
use Rattle.wg_typed.specs.declared.typed_expr.TypedExpr.{TypedExpr}
use Rattle.wg_typed.specs.declared.typed_stmt.Destination.{Destination}
use Rattle.wg_typed.specs.declared.typed_stmt.Destination.TheVariants as destination
use Rattle.wg_typed.specs.declared.typed_stmt.Interlocked.{Interlocked}
use Rattle.wg_typed.specs.declared.typed_stmt.TypedDeclarator.{TypedDeclarator}
use Rattle.wg_typed.specs.declared.typed_stmt.TypedStart.{TypedStart}
use Rattle.wg_typed.specs.declared.typed_stmt.TypedStart.TheVariants as start
use Rattle.wg_typed.specs.declared.typed_stmt.TypedStep.{TypedStep}
use Rattle.wg_typed.specs.declared.typed_stmt.TypedStep.TheVariants as step
use Rattle.wg_typed.specs.declared.typed_stmt.TypedStmt.{TypedStmt, roll-TypedStmt, fold-roll-TypedStmt, ind-TypedStmt, map-TypedStmt}
use Rattle.wg_typed.specs.declared.typed_stmt.TypedStmt.TheOpen.{TypedStmt-F}
use Rattle.wg_bodies.proofs.Doing.{Alike, alike_self, alike_bind, alike_first, alike_when, alike_go, alike_loop}
use Rattle.wg_bodies.proofs.Exprs.{SameCalls, with_structs, ExprGood, values_alike, words_alike, called_alike, right}
use Rattle.wg_bodies.proofs.Plain.{calls_plain, IsPlain, names_no_output, names_no_handle, names_no_input}
use Rattle.wg_facts.proofs.Basics.{and_left, and_right, either_so}

module _ (a other : Setting) (cs ds : List Callee) (room : Room) (plain : IsPlain room) (same : SameCalls room cs ds) where
  abbrev b : Setting
  b = with_structs a.structs other

  -- an expression in both settings
  abbrev x : TypedExpr → Seen
  x = seen a cs

  abbrev y : TypedExpr → Seen
  y = seen b ds

  good : (e : TypedExpr) → ExprGood a other cs ds room plain same (shown room e) (x e) (y e)
  good e = right a other cs ds room plain same e

  abbrev SoundExpr : TypedExpr → Type 0
  SoundExpr e = (shown room e).sound ≡ true

  spots : (e : TypedExpr) → SoundExpr e → Alike (x e).spot (y e).spot
  spots e h = (good e).spots h

  values : (e : TypedExpr) → SoundExpr e → Alike (value_of a.structs (x e)) (value_of a.structs (y e))
  values e h = values_alike a other cs ds room plain same (shown room e) (x e) (y e) (good e) h

  words : (e : TypedExpr) → SoundExpr e → Alike (word_of a (x e)) (word_of b (y e))
  words e h = words_alike a other cs ds room plain same (shown room e) (x e) (y e) (good e) h

  of_so : (t : TypeTree) (e : TypedExpr) → sound_of room t e ≡ true → SoundExpr e
  of_so t e h = and_left (shown room e).sound _ h

  target_so : (e : TypedExpr) → is_target (shown room e) ≡ true → SoundExpr e
  target_so e h = and_left (shown room e).sound _ h

  -- ---- steps

  assigned_alike : (target v : TypedExpr) → SoundExpr target → SoundExpr v → Alike (assigned a (x target) (x v)) (assigned b (y target) (y v))
  assigned_alike target v h k = alike_bind (x target).spot (y target).spot _ _ (spots target h) (λ p. alike_first (value_of a.structs (x v)) (value_of a.structs (y v)) (λ words. store_at p words) (values v k))

  updated_alike : (target : TypedExpr) (operator : BinaryOperator) (by : TypeTree) (v : TypedExpr) → SoundExpr target → SoundExpr v → Alike (updated a (x target) operator by (x v)) (updated b (y target) operator by (y v))
  updated_alike target operator by v h k = alike_bind (x target).spot (y target).spot _ _ (spots target h) (λ p.
      alike_bind (value_of a.structs (x v)) (value_of a.structs (y v)) _ _ (values v k) (λ right.
      record { same = λ s t. ap (λ of. (read (fetched a.structs of p) >>= (λ left. store_at p (converted by of (combined_words operator by (converted of by left) right)))) s t) (good target).of }))

  changed_alike : (target : TypedExpr) (operator : StepOperator) → SoundExpr target → Alike (changed a (x target) operator) (changed b (y target) operator)
  changed_alike target operator h = alike_bind (x target).spot (y target).spot _ _ (spots target h) (λ p.
      record { same = λ s t. ap (λ of. (read (fetched a.structs of p) >>= (λ words. store_at p (stepped_words operator of words))) s t) (good target).of })

  stored_alike : (number : ℕ) (address v : TypedExpr) → SoundExpr address → SoundExpr v → Alike (raw_stored a number (x address) (x v)) (raw_stored b number (y address) (y v))
  stored_alike number address v h k = alike_bind (word_of a (x address)) (word_of b (y address)) _ _ (words address h) (λ at.
      alike_first (value_of a.structs (x v)) (value_of a.structs (y v)) (λ words. store_at (raw_word number at) words) (values v k))

  destination_alike : (d : Destination) (t : TypeTree) → destination_type room d t ≡ true → Alike (destination_of a cs d) (destination_of b ds d)
  destination_alike (destination.Scalar target) t h = spots target (of_so t target (and_left _ _ (and_right (is_word t) _ h)))
  destination_alike (destination.Raw number address) t h =
      alike_first (word_of a (x address)) (word_of b (y address)) (λ at. pure (raw_word number at)) (words address (of_so uint_type address (and_right (test is_writable_raw (buffer_type room number)) _ (and_right (is_word t) _ h))))

  maybe_word_alike : (o : Option TypedExpr) (t : TypeTree) → if_any (sound_of room t) o ≡ true → Alike (maybe_word a cs o) (maybe_word b ds o)
  maybe_word_alike None t h = alike_self (pure 0)
  maybe_word_alike (Some e) t h = words e (of_so t e h)

  maybe_spot_alike : (o : Option TypedExpr) → if_any (λ e. is_word_place (shown room e)) o ≡ true → Alike (maybe_spot a cs o) (maybe_spot b ds o)
  maybe_spot_alike None h = alike_self (pure spot.Nowhere)
  maybe_spot_alike (Some e) h = spots e (target_so e (and_left (is_target (shown room e)) _ h))

  interlocked_alike : (i : Interlocked) → interlocks room i ≡ true → Alike (interlocked a cs i) (interlocked b ds i)
  interlocked_alike i h =
      let t = (shown room i.value).of in
      let k = and_right (destination_type room i.destination t) _ h in
      let l = and_right _ _ (and_right (shown room i.value).sound _ k) in
      alike_bind (destination_of a cs i.destination) (destination_of b ds i.destination) _ _ (destination_alike i.destination t (and_left (destination_type room i.destination t) _ h)) (λ p.
      alike_bind (maybe_word a cs i.compare) (maybe_word b ds i.compare) _ _ (maybe_word_alike i.compare t (and_left (if_any (sound_of room t) i.compare) _ l)) (λ compare.
      alike_bind (word_of a (x i.value)) (word_of b (y i.value)) _ _ (words i.value (and_left (shown room i.value).sound _ k)) (λ v.
      alike_first (maybe_spot a cs i.old) (maybe_spot b ds i.old) _ (maybe_spot_alike i.old (and_right (if_any (sound_of room t) i.compare) _ l)))))

  identity_map : (es : List TypedExpr) → map (λ (e : TypedExpr). e) es ≡ es
  identity_map [] = refl
  identity_map (e ∷ es) = ap (λ rest. e ∷ rest) (identity_map es)

  call_alike : (number : ℕ) (es : List TypedExpr) → calls room number None (map (shown room) es) ≡ true → Alike (called a.structs (callee_at cs number) (map x es)) (called a.structs (callee_at ds number) (map y es))
  call_alike number es h = subst (λ fs. Alike (called a.structs (callee_at cs number) (map x fs)) (called a.structs (callee_at ds number) (map y fs))) (identity_map es)
      (called_alike a other cs ds room plain same (λ e. e) x y good number es (calls_plain room number None (map (shown room) (map (λ (e : TypedExpr). e) es)) (subst (λ fs. calls room number None (map (shown room) fs) ≡ true) (sym (identity_map es)) h)))

  step_alike : (s : TypedStep) → step_sound room s ≡ true → Alike (step_does a cs s) (step_does b ds s)
  step_alike (step.Evaluate v) h = alike_first (value_of a.structs (x v)) (value_of a.structs (y v)) (λ _. pure tt) (values v h)
  step_alike (step.Call number es) h = alike_first (called a.structs (callee_at cs number) (map x es)) (called a.structs (callee_at ds number) (map y es)) (λ _. pure tt) (call_alike number es h)
  step_alike (step.Assign target v) h = assigned_alike target v (target_so target (and_left (is_target (shown room target)) _ h)) (and_left (shown room v).sound _ (and_right (is_target (shown room target)) _ h))
  step_alike (step.Update target operator by v) h = updated_alike target operator by v (target_so target (and_left (is_target (shown room target)) _ h)) (and_left (shown room v).sound _ (and_right (is_target (shown room target)) _ h))
  step_alike (step.Change target operator) h = changed_alike target operator (target_so target (and_left (is_target (shown room target)) _ h))
  step_alike (step.Store number address v) h =
      let k = and_right (test is_writable_raw (buffer_type room number)) _ h in
      stored_alike number address v (of_so uint_type address (and_left (sound_of room uint_type address) _ k)) (and_left (shown room v).sound _ (and_right (sound_of room uint_type address) _ k))
  step_alike (step.Interlocked i) h = interlocked_alike i h

  steps_alike : (ss : List TypedStep) → steps_sound room ss ≡ true → Alike (steps_do a cs ss) (steps_do b ds ss)
  steps_alike [] h = alike_self (pure tt)
  steps_alike (s ∷ ss) h = alike_bind (step_does a cs s) (step_does b ds s) (λ _. steps_do a cs ss) (λ _. steps_do b ds ss) (step_alike s (and_left (step_sound room s) _ h)) (λ u. steps_alike ss (and_right (step_sound room s) _ h))

  -- ---- declarations

  tells_nothing : (t : TypeTree) (e : TypedExpr) → tells room t e ≡ true → ⊥
  tells_nothing t e h = names_no_input room plain (tells_last room) (and_right _ _ (and_right (same_type t truth_type) _ (and_right (is_finished e.kind) _ h)))

  start_alike : (t : TypeTree) (v : Option TypedExpr) → if_any (starts room t) v ≡ true → Alike (start_value a cs t v) (start_value b ds t v)
  start_alike t None h = alike_self (pure (zeros (words_of a.structs t)))
  start_alike t (Some e) h = either_so (sound_of room t e) (tells room t e) (Alike (value_of a.structs (x e)) (value_of a.structs (y e))) h (λ k. values e (of_so t e k)) (λ k. absurd (tells_nothing t e k))

  declared_alike : (d : TypedDeclarator) → declares room d ≡ true → Alike (declared_as a cs d) (declared_as b ds d)
  declared_alike d h = alike_first (start_value a cs d.of d.value) (start_value b ds d.of d.value) (λ words. store_at (spot.At (store.Variable d.variable) 0) words) (start_alike d.of d.value (and_right _ _ h))

  all_declared_alike : (es : List TypedDeclarator) → every (declares room) es ≡ true → Alike (all_declared a cs es) (all_declared b ds es)
  all_declared_alike [] h = alike_self (pure tt)
  all_declared_alike (d ∷ es) h = alike_bind (declared_as a cs d) (declared_as b ds d) (λ _. all_declared a cs es) (λ _. all_declared b ds es) (declared_alike d (and_left (declares room d) _ h)) (λ u. all_declared_alike es (and_right (declares room d) _ h))

  started_alike : (o : Option TypedStart) → if_any (start_sound room) o ≡ true → Alike (started a cs o) (started b ds o)
  started_alike None h = alike_self (pure tt)
  started_alike (Some (start.Declare es)) h = all_declared_alike es h
  started_alike (Some (start.Steps ss)) h = steps_alike ss h

  -- ---- statements

  on_alike : (m n : Action State (Unit {0})) → Alike m n → Alike (on m) (on n)
  on_alike m n h = alike_first m n (λ _. pure flow.Next) h

  test_alike : (o : Option TypedExpr) → if_any (sound_of room truth_type) o ≡ true → Alike (test_of a cs o) (test_of b ds o)
  test_alike None h = alike_self (pure 1)
  test_alike (Some e) h = words e (of_so truth_type e h)

  returned_alike : (result : Option TypeTree) (v : Option TypedExpr) → returns room result v ≡ true → Alike (returned a cs v) (returned b ds v)
  returned_alike None None h = alike_self (pure (flow.Returned []))
  returned_alike (Some t) (Some e) h = alike_first (value_of a.structs (x e)) (value_of a.structs (y e)) (λ words. pure (flow.Returned words)) (values e (of_so t e h))
  returned_alike None (Some e) h = absurd (cc)
  returned_alike (Some t) None h = absurd (cc)

  abbrev StmtGood : TypedStmt → Type 0
  StmtGood s = (looped : Bool) → stmt_sound room s looped ≡ true → Alike (does a cs s) (does b ds s)

  list_alike : {B : Type 0} (p : B → TypedStmt) (holds : (c : B) → StmtGood (p c)) (bs : List B) (looped : Bool) → every (λ (s : Bool → Bool). s looped) (map (stmt_sound room) (map p bs)) ≡ true → Alike (block (map (does a cs) (map p bs))) (block (map (does b ds) (map p bs)))
  list_alike p holds [] looped h = alike_self (pure flow.Next)
  list_alike p holds (c ∷ bs) looped h =
      alike_bind (does a cs (p c)) (does b ds (p c)) (λ end. then_go end (block (map (does a cs) (map p bs)))) (λ end. then_go end (block (map (does b ds) (map p bs)))) (holds c looped (and_left (stmt_sound room (p c) looped) _ h)) (λ end.
      alike_go end _ _ (list_alike p holds bs looped (and_right (stmt_sound room (p c) looped) _ h)))

  if_alike : (c : TypedExpr) (m n k l : Action State Flow) → SoundExpr c → Alike m n → Alike k l → Alike (word_of a (x c) >>= (λ word. when word m k)) (word_of b (y c) >>= (λ word. when word n l))
  if_alike c m n k l h i j = alike_bind (word_of a (x c)) (word_of b (y c)) (λ word. when word m k) (λ word. when word n l) (words c h) (λ word. alike_when word m n k l i j)

  for_alike : (begin : Option TypedStart) (c : Option TypedExpr) (steps : List TypedStep) (m n : Action State Flow) → if_any (start_sound room) begin ≡ true → if_any (sound_of room truth_type) c ≡ true → steps_sound room steps ≡ true → Alike m n
      → Alike (started a cs begin >> loop (test_of a cs c) m (steps_do a cs steps)) (started b ds begin >> loop (test_of b ds c) n (steps_do b ds steps))
  for_alike begin c steps m n h i j k =
      alike_bind (started a cs begin) (started b ds begin) (λ _. loop (test_of a cs c) m (steps_do a cs steps)) (λ _. loop (test_of b ds c) n (steps_do b ds steps)) (started_alike begin h) (λ u.
      alike_loop (test_of a cs c) (test_of b ds c) m n (steps_do a cs steps) (steps_do b ds steps) (test_alike c i) k (steps_alike steps j))

  layer_alike : {B : Type 0} (p : B → TypedStmt) (holds : (c : B) → StmtGood (p c)) (z : TypedStmt-F B) (looped : Bool)
      → sound_step room (map-TypedStmt TypedStmt (Bool → Bool) (stmt_sound room) (map-TypedStmt B TypedStmt p z)) looped ≡ true
      → Alike (stmt_step a cs (map-TypedStmt TypedStmt (Action State Flow) (does a cs) (map-TypedStmt B TypedStmt p z))) (stmt_step b ds (map-TypedStmt TypedStmt (Action State Flow) (does b ds) (map-TypedStmt B TypedStmt p z)))
  layer_alike p holds (TypedStmt-F.Block body) looped h = list_alike p holds body looped h
  layer_alike p holds TypedStmt-F.Empty looped h = alike_self (pure flow.Next)
  layer_alike p holds (TypedStmt-F.Declare es) looped h = on_alike (all_declared a cs es) (all_declared b ds es) (all_declared_alike es h)
  layer_alike p holds (TypedStmt-F.Request handle group output element amount) looped h = absurd (names_no_output room plain _ output (and_left _ _ (and_right _ _ h)))
  layer_alike p holds (TypedStmt-F.Increment group output element amount) looped h = absurd (names_no_output room plain _ output (and_left _ _ h))
  layer_alike p holds (TypedStmt-F.Complete handle) looped h = absurd (names_no_handle room plain handle h)
  layer_alike p holds (TypedStmt-F.Barrier syncs) looped h = alike_self (pure flow.Next)
  layer_alike p holds (TypedStmt-F.Step s) looped h = on_alike (step_does a cs s) (step_does b ds s) (step_alike s h)
  layer_alike p holds TypedStmt-F.Break looped h = alike_self (pure flow.Broke)
  layer_alike p holds TypedStmt-F.Continue looped h = alike_self (pure flow.Continued)
  layer_alike p holds (TypedStmt-F.Return v) looped h = returned_alike room.function.result v h
  layer_alike p holds (TypedStmt-F.If attributes marked c first None) looped h =
      let k = and_right (sound_of room truth_type c) _ h in
      if_alike c (does a cs (p first)) (does b ds (p first)) (maybe_else None) (maybe_else None) (of_so truth_type c (and_left (sound_of room truth_type c) _ h)) (holds first looped (and_left (stmt_sound room (p first) looped) _ k)) (alike_self (pure flow.Next))
  layer_alike p holds (TypedStmt-F.If attributes marked c first (Some last)) looped h =
      let k = and_right (sound_of room truth_type c) _ h in
      if_alike c (does a cs (p first)) (does b ds (p first)) (maybe_else (Some (does a cs (p last)))) (maybe_else (Some (does b ds (p last)))) (of_so truth_type c (and_left (sound_of room truth_type c) _ h)) (holds first looped (and_left (stmt_sound room (p first) looped) _ k)) (holds last looped (and_right (stmt_sound room (p first) looped) _ k))
  layer_alike p holds (TypedStmt-F.While attributes c body) looped h =
      alike_loop (word_of a (x c)) (word_of b (y c)) (does a cs (p body)) (does b ds (p body)) (pure tt) (pure tt) (words c (of_so truth_type c (and_left (sound_of room truth_type c) _ h))) (holds body true (and_right (sound_of room truth_type c) _ h)) (alike_self (pure tt))
  layer_alike p holds (TypedStmt-F.For attributes begin c steps body) looped h =
      let k = and_right (if_any (start_sound room) begin) _ h in
      let l = and_right (if_any (sound_of room truth_type) c) _ k in
      for_alike begin c steps (does a cs (p body)) (does b ds (p body)) (and_left (if_any (start_sound room) begin) _ h) (and_left (if_any (sound_of room truth_type) c) _ k) (and_left (steps_sound room steps) _ l) (holds body true (and_right (steps_sound room steps) _ l))

  rolled_alike : (z : TypedStmt-F TypedStmt)
      → ((looped : Bool) → sound_step room (map-TypedStmt TypedStmt (Bool → Bool) (stmt_sound room) z) looped ≡ true → Alike (stmt_step a cs (map-TypedStmt TypedStmt (Action State Flow) (does a cs) z)) (stmt_step b ds (map-TypedStmt TypedStmt (Action State Flow) (does b ds) z)))
      → StmtGood (roll-TypedStmt z)
  rolled_alike z h looped k =
      let g = h looped (ap (λ (f : Bool → Bool). f looped) (sym (fold-roll-TypedStmt (Bool → Bool) (sound_step room) z)) ∙ k) in
      record { same = λ s t. ap (λ (m : Action State Flow). m s t) (fold-roll-TypedStmt (Action State Flow) (stmt_step a cs) z) ∙ g.same s t ∙ sym (ap (λ (m : Action State Flow). m s t) (fold-roll-TypedStmt (Action State Flow) (stmt_step b ds) z)) }

  stmt_alike : (s : TypedStmt) → StmtGood s
  stmt_alike s = ind-TypedStmt StmtGood (λ x y eq. subst (λ l. StmtGood (roll-TypedStmt l)) eq (rolled_alike (map-TypedStmt _ TypedStmt (λ c. c.0) y) (layer_alike (λ c. c.0) (λ c. c.1) y))) s

  -- the body of a sound function
  pub body_alike : (ss : List TypedStmt) → every (λ (s : Bool → Bool). s false) (map (stmt_sound room) ss) ≡ true → Alike (block (map (does a cs) ss)) (block (map (does b ds) ss))
  body_alike [] h = alike_self (pure flow.Next)
  body_alike (s ∷ ss) h =
      alike_bind (does a cs s) (does b ds s) (λ end. then_go end (block (map (does a cs) ss))) (λ end. then_go end (block (map (does b ds) ss))) (stmt_alike s false (and_left (stmt_sound room s false) _ h)) (λ end.
      alike_go end _ _ (body_alike ss (and_right (stmt_sound room s false) _ h)))
