-- Statements are sound.
use Rattle.std.proofs.Common.{◌≡◌, Bool, true, false, cond, List, [], ◌∷◌, map, Option, Some, None, refl, sym, ◌∙◌, subst}
use Rattle.std.specs.Prelude.{is_some}
use Rattle.wg_typing.specs.Conversions.{truth_type}
use Rattle.wg_typing.specs.Maybe.{if_there}
use Rattle.wg_typing.specs.Named.{is_among}
use Rattle.wg_typing.specs.Scope.{Context, enter, enter_loop, leave, own_names, once}
use Rattle.wg_typing.specs.Sites.{Sites, ◌&◌, within}
use Rattle.wg_typing.specs.Site.{Site}
use Rattle.wg_typing.specs.TypingAttributes.{attributes_of}
use Rattle.wg_typing.specs.TypingDeclaration.{start_there, with_local, declarator_after, declarators_after, all_declarators, declared_as, declaration_trees}
use Rattle.wg_typing.specs.TypingDeclared.{declared_type, fit_in}
use Rattle.wg_typing.specs.TypingFunction.{result_if}
use Rattle.wg_typing.specs.TypingHandle.{handle_record, handle_request, handle_tree, with_handle, handle_after, handle_sites}
use Rattle.wg_typing.specs.TypingLoop.{start_after, start_sites, start_tree, in_header}
use Rattle.wg_typing.specs.TypingStep.{step_did, own_handle, act_stmt, step_stmt, header_trees, all_steps, maybe_steps}
use Rattle.wg_typing.specs.TypingStmt.{Walk, block_after, block_sites, block_trees, branch_after, else_after, else_sites, tree_in, returned_tree, stmt_walked, walked}
use Rattle.wg_facts.specs.Tests.{if_any, every}
use Rattle.wg_sound.specs.Room.{Room}
use Rattle.wg_sound.specs.SoundStep.{sound_of, start_sound}
use Rattle.wg_sound.specs.SoundStmt.{returns, stmt_sound}
use Rattle.wg_tree.specs.declared.expr.Expr.{Expr}
use Rattle.wg_tree.specs.declared.expr.Named.{Named}
use Rattle.wg_tree.specs.declared.stmt.Declarator.{Declarator}
use Rattle.wg_tree.specs.declared.stmt.ObjectType.{ObjectType}
use Rattle.wg_tree.specs.declared.stmt.Start.{Start}
use Rattle.wg_tree.specs.declared.stmt.Start.TheVariants as start
use Rattle.wg_tree.specs.declared.stmt.Stmt.{Stmt, roll-Stmt, fold-roll-Stmt, ind-Stmt, map-Stmt}
use Rattle.wg_tree.specs.declared.stmt.Stmt.TheOpen.{Stmt-F}
use Rattle.wg_typed.specs.declared.types.TypeTree.{TypeTree}
use Rattle.wg_typed.specs.declared.typed_stmt.TypedStart.{TypedStart}
use Rattle.wg_typed.specs.declared.typed_stmt.TypedStmt.{TypedStmt}
use Rattle.wg_typed.specs.declared.typed_stmt.TypedStmt.TheVariants as t
use Rattle.wg_typing.specs.declared.scope.Act.{Act}
use Rattle.wg_typing.specs.declared.scope.Act.TheVariants as act
use Rattle.wg_facts.proofs.Basics.{If, both, some_value, if_then, if_where}
use Rattle.wg_sound.proofs.Meanings.{ActIs}
use Rattle.wg_sound.proofs.Growing.{Grows, grows_self, grows_then, once_grows, once_new, grows_leave, grows_same, Ends, ends_before, ends_inside, ends_same}
use Rattle.wg_sound.proofs.Declarations.{Stands, stands_enter, stands_loop, stands_leave, fit_in_is, maybe_fit_is, DeclaratorsAre, declarators_grow, declaration_are}
use Rattle.wg_sound.proofs.Requests.{asked_is, handle_grows, handle_keeps, request_stmt_is}
use Rattle.wg_facts.proofs.Sited.{Well, well_left, well_right, well_within, well_only, is_false}
use Rattle.wg_sound.proofs.Statements.{StmtIs, does, sound_Block, sound_Empty, sound_Declare, sound_Increment, sound_Complete, sound_Barrier, sound_Step, sound_Break, sound_Continue, sound_Return, sound_While, sound_For, others_sound, sound_If}
use Rattle.wg_sound.proofs.Stepped.{DidIs, did_is, StepsAre, header_is}
use Rattle.wg_typing.specs.declared.context.GivesBack.TheVariants as gives_back
use Rattle.wg_typing.specs.declared.context.GivesBack.{GivesBack}
use Rattle.wg_typing.specs.declared.event.Region.{Region}
use Rattle.wg_typing.specs.declared.fault.TypingRule.TheVariants.{Repeated}
use Rattle.wg_typing.specs.declared.part.Did.TheVariants as did
use Rattle.wg_typing.specs.declared.part.Did.{Did}

once_looped : (name : Named) (c d : Context) → d.looped ≡ c.looped → (once name c d).looped ≡ c.looped
once_looped name c d e = by_test (is_among (own_names c) name.name)
  where
    by_test : (b : Bool) → (cond b c d).looped ≡ c.looped
    by_test true = refl
    by_test false = e

declarators_looped : (constant : Bool) (of : Option TypeTree) (ds : List Declarator) (c : Context) → (declarators_after constant of ds c).looped ≡ c.looped
declarators_looped constant of [] c = refl
declarators_looped constant of (d ∷ rest) c = declarators_looped constant of rest (declarator_after constant of d c) ∙ once_looped d.name c (with_local d.name constant (declared_type c of d.size) (start_there c (declared_type c of d.size) d.value) c) refl

-- a handle of a name that is new in its scope
new_handle : (of : ObjectType) (name : Named) (e : Expr) (c : Context) → Well (handle_sites of name e c) → handle_after of name e c ≡ with_handle name (handle_record c of) (handle_tree name (handle_request c of e)) c
new_handle of name e c w = once_new name c _ (is_false (is_among (own_names c) name.name) name.place (well_only (well_left (well_right (well_right w))) Repeated))

-- the branches of an `if`
pub branches_well : {a b c d : Sites Site} {r : Region} → Well (a & b & within r (c & d)) → Well (c & d)
branches_well w = well_within (well_right (well_right w))

module _ (room : Room) where
  -- ---- steps, returns

  act_is : (c : Context) (a : Act) → Stands room c → ActIs room a → If (StmtIs room c.looped) (act_stmt c a)
  act_is c (act.Step x) s h = does room (t.Step x) _ c.looped (sound_Step room x) h
  act_is c (act.Barrier syncs) s h = does room (t.Barrier syncs) _ c.looped (sound_Barrier room syncs) h
  act_is c (act.Request group output number element amount) s h = tt
  act_is c (act.Increment group output element amount) s h = does room (t.Increment group output element amount) _ c.looped (sound_Increment room group output element amount) h
  act_is c (act.Complete handle) s h = if_where (StmtIs room c.looped) (own_handle c handle) (t.Complete handle) (λ e. does room (t.Complete handle) _ c.looped (sound_Complete room handle) h)
  act_is c (act.Finished tracked) s h = tt

  did_stmt_is : (c : Context) (d : Did) → Stands room c → DidIs room d → If (StmtIs room c.looped) (step_stmt c d)
  did_stmt_is c (did.Step x) s h = does room (t.Step x) _ c.looped (sound_Step room x) h
  did_stmt_is c (did.Act a) s h = act_is c a s h

  returned_is : (c : Context) (g : GivesBack) (e : Option Expr) → result_if g ≡ Some room.function.result → Stands room c → If (StmtIs room c.looped) (returned_tree c g e)
  returned_is c gives_back.Nothing None q s = does room (t.Return None) _ c.looped (sound_Return room None) (subst (λ r. returns room r None ≡ true) (some_value q) refl)
  returned_is c gives_back.Nothing (Some e) q s = tt
  returned_is c (gives_back.Value of) None q s = tt
  returned_is c (gives_back.Value of) (Some e) q s = if_then (λ x. sound_of room of x ≡ true) (StmtIs room c.looped) (fit_in c of e) _ (fit_in_is room c of e s.fits) (λ x h.
      does room (t.Return (Some x)) _ c.looped (sound_Return room (Some x)) (subst (λ r. returns room r (Some x) ≡ true) (some_value q) h))
  returned_is c gives_back.Unsure e q s = tt

  -- ---- what a statement leaves

  pub record WalkIs (w : Walk) : Type 0 where
    pub grows : (c : Context) → Grows c (w c).after
    pub place : (c : Context) → (w c).after.looped ≡ c.looped
    pub keeps : (c : Context) → Stands room c → Ends room (w c).after → Well (w c).sites → Stands room (w c).after
    pub sound : (c : Context) → Stands room c → Ends room (w c).after → Well (w c).sites → If (StmtIs room c.looped) (w c).tree

  abbrev pub AllWalks : List Walk → Type 0
  AllWalks [] = Unit {0}
  AllWalks (w ∷ rest) = WalkIs w × AllWalks rest

  abbrev pub BodyIs : Bool → List TypedStmt → Type 0
  BodyIs looped ss = every (λ (s : Bool → Bool). s looped) (map (stmt_sound room) ss) ≡ true

  pub block_grows : (ws : List Walk) (c : Context) → AllWalks ws → Grows c (block_after ws c)
  block_grows [] c g = grows_self c
  block_grows (w ∷ rest) c g = grows_then c (w c).after _ (g.0.grows c) (block_grows rest (w c).after g.1)

  pub record BlockIs (ws : List Walk) (c : Context) : Type 0 where
    pub keeps : Stands room (block_after ws c)
    pub sound : If (BodyIs c.looped) (block_trees ws c)

  pub block_is : (ws : List Walk) (c : Context) → AllWalks ws → Stands room c → Ends room (block_after ws c) → Well (block_sites ws c) → BlockIs ws c
  block_is [] c g s h w = record { keeps = s; sound = refl }
  block_is (w ∷ rest) c g s h u =
      let here : Ends room (w c).after = ends_before room (w c).after _ (block_grows rest (w c).after g.1) h in
      let r = block_is rest (w c).after g.1 (g.0.keeps c s here (well_left u)) h (well_right u) in
      record {
        keeps = r.keeps;
        sound = if_then (StmtIs room c.looped) (BodyIs c.looped) (w c).tree _ (g.0.sound c s here (well_left u)) (λ x k.
            if_then (BodyIs c.looped) (BodyIs c.looped) (block_trees rest (w c).after) _ (subst (λ p. If (BodyIs p) (block_trees rest (w c).after)) (g.0.place c) r.sound) (λ xs l. both k l));
      }

  -- ---- branches

  abbrev pub ElseIs : Option Walk → Type 0
  ElseIs None = Unit {0}
  ElseIs (Some w) = WalkIs w

  branch_grows : (w : Walk) (c : Context) → WalkIs w → Grows c (branch_after w c)
  branch_grows w c g = grows_leave c (enter c) (w (enter c)).after refl refl (g.grows (enter c))

  pub else_grows : (o : Option Walk) (c : Context) → ElseIs o → Grows c (else_after o c)
  else_grows None c g = grows_self c
  else_grows (Some w) c g = branch_grows w c g

  else_looped : (o : Option Walk) (c : Context) → (else_after o c).looped ≡ c.looped
  else_looped None c = refl
  else_looped (Some w) c = refl

  pub branch_keeps : (w : Walk) (c : Context) → WalkIs w → Stands room c → Ends room (branch_after w c) → Well (w (enter c)).sites → Stands room (branch_after w c)
  branch_keeps w c g s h u = stands_leave room c (w (enter c)).after s (g.keeps (enter c) (stands_enter room c s) (ends_inside room c (w (enter c)).after h) u)

  pub else_keeps : (o : Option Walk) (c : Context) → ElseIs o → Stands room c → Ends room (else_after o c) → Well (else_sites o c) → Stands room (else_after o c)
  else_keeps None c g s h u = s
  else_keeps (Some w) c g s h u = branch_keeps w c g s h u

  branch_sound : (w : Walk) (c : Context) → WalkIs w → Stands room c → Ends room (branch_after w c) → Well (w (enter c)).sites → If (StmtIs room c.looped) (w (enter c)).tree
  branch_sound w c g s h u = g.sound (enter c) (stands_enter room c s) (ends_inside room c (w (enter c)).after h) u

  abbrev OthersIs : Bool → Option TypedStmt → Type 0
  OthersIs looped o = if_any (λ (s : Bool → Bool). s looped) (others_sound room o) ≡ true

  else_sound : (o : Option Walk) (c : Context) → ElseIs o → Stands room c → Ends room (else_after o c) → Well (else_sites o c) → If (OthersIs c.looped) (if_there (tree_in (enter c)) o)
  else_sound None c g s h u = refl
  else_sound (Some w) c g s h u = if_then (StmtIs room c.looped) (OthersIs c.looped) (w (enter c)).tree _ (branch_sound w c g s h u) (λ x k. k)

  -- ---- headers

  abbrev StartIs : Option TypedStart → Type 0
  StartIs o = if_any (start_sound room) o ≡ true

  pub start_grows : (o : Option Start) (c : Context) → Grows c (start_after o c)
  start_grows None c = grows_self c
  start_grows (Some (start.Declare d)) c = declarators_grow room (is_some d.constant) (declared_as d c) (all_declarators d) c
  start_grows (Some (start.Steps x)) c = grows_self c

  pub start_keeps : (o : Option Start) (c : Context) → Stands room c → Ends room (start_after o c) → Well (start_sites o c) → Stands room (start_after o c)
  start_keeps None c s h u = s
  start_keeps (Some (start.Declare d)) c s h u = (declaration_are room d c s h u).keeps
  start_keeps (Some (start.Steps x)) c s h u = s

  start_is : (o : Option Start) (c : Context) → Stands room c → Ends room (start_after o c) → Well (start_sites o c) → If StartIs (if_there (start_tree c) o)
  start_is None c s h u = refl
  start_is (Some (start.Declare d)) c s h u = if_then (λ x. start_sound room x ≡ true) StartIs (start_tree c (start.Declare d)) _ (if_then (DeclaratorsAre room) (λ x. start_sound room x ≡ true) (declaration_trees d c) _ (declaration_are room d c s h u).sound (λ x k. k)) (λ x k. k)
  start_is (Some (start.Steps x)) c s h u = if_then (λ x. start_sound room x ≡ true) StartIs (start_tree c (start.Steps x)) _ (if_then (StepsAre room) (λ x. start_sound room x ≡ true) (header_trees c (all_steps x)) _ (header_is room c (all_steps x) s.fits) (λ x k. k)) (λ x k. k)

  -- ---- one layer

  abbrev LayerIs : Stmt-F Walk → Type 0
  LayerIs (Stmt-F.Block place body) = AllWalks body
  LayerIs (Stmt-F.Empty place) = Unit {0}
  LayerIs (Stmt-F.Declare d) = Unit {0}
  LayerIs (Stmt-F.Handle of name e) = Unit {0}
  LayerIs (Stmt-F.Step s) = Unit {0}
  LayerIs (Stmt-F.Break place) = Unit {0}
  LayerIs (Stmt-F.Continue place) = Unit {0}
  LayerIs (Stmt-F.Return place e) = Unit {0}
  LayerIs (Stmt-F.If attributes place test first other) = WalkIs first × ElseIs other
  LayerIs (Stmt-F.While attributes place test body) = WalkIs body
  LayerIs (Stmt-F.For attributes place h body) = WalkIs body

  layer_walk : (layer : Stmt-F Walk) → LayerIs layer → WalkIs (stmt_walked layer)
  layer_walk (Stmt-F.Block place body) g = record {
    grows = λ c. grows_leave c (enter c) (block_after body (enter c)) refl refl (block_grows body (enter c) g);
    place = λ c. refl;
    keeps = λ c s h u. stands_leave room c (block_after body (enter c)) s (block_is body (enter c) g (stands_enter room c s) (ends_inside room c (block_after body (enter c)) h) (well_within u)).keeps;
    sound = λ c s h u. if_then (BodyIs c.looped) (StmtIs room c.looped) (block_trees body (enter c)) _ (block_is body (enter c) g (stands_enter room c s) (ends_inside room c (block_after body (enter c)) h) (well_within u)).sound (λ x k. does room (t.Block x) _ c.looped (sound_Block room x) k);
  }
  layer_walk (Stmt-F.Empty place) g = record { grows = grows_self; place = λ c. refl; keeps = λ c s h u. s; sound = λ c s h u. does room t.Empty _ c.looped (sound_Empty room) refl }
  layer_walk (Stmt-F.Declare d) g = record {
    grows = λ c. declarators_grow room (is_some d.constant) (declared_as d c) (all_declarators d) c;
    place = λ c. declarators_looped (is_some d.constant) (declared_as d c) (all_declarators d) c;
    keeps = λ c s h u. (declaration_are room d c s h u).keeps;
    sound = λ c s h u. if_then (DeclaratorsAre room) (StmtIs room c.looped) (declaration_trees d c) _ (declaration_are room d c s h u).sound (λ x k. does room (t.Declare x) _ c.looped (sound_Declare room x) k);
  }
  layer_walk (Stmt-F.Handle of name e) g = record {
    grows = λ c. once_grows name c (with_handle name (handle_record c of) (handle_tree name (handle_request c of e)) c) (handle_grows room name (handle_record c of) (handle_tree name (handle_request c of e)) c);
    place = λ c. once_looped name c (with_handle name (handle_record c of) (handle_tree name (handle_request c of e)) c) refl;
    keeps = λ c s h u.
        let q = new_handle of name e c u in
        subst (Stands room) (sym q) (handle_keeps room name (handle_record c of) (handle_request c of e) c (asked_is room c of e s.fits) s (subst (Ends room) q h));
    sound = λ c s h u. request_stmt_is room c of name e s (subst (Ends room) (new_handle of name e c u) h);
  }
  layer_walk (Stmt-F.Step x) g = record {
    grows = grows_self;
    place = λ c. refl;
    keeps = λ c s h u. s;
    sound = λ c s h u. if_then (DidIs room) (StmtIs room c.looped) (step_did c x) _ (did_is room c x s.fits) (λ d k. did_stmt_is c d s k);
  }
  layer_walk (Stmt-F.Break place) g = record { grows = grows_self; place = λ c. refl; keeps = λ c s h u. s; sound = λ c s h u. if_where (StmtIs room c.looped) c.looped t.Break (λ e. does room t.Break _ c.looped (sound_Break room) e) }
  layer_walk (Stmt-F.Continue place) g = record { grows = grows_self; place = λ c. refl; keeps = λ c s h u. s; sound = λ c s h u. if_where (StmtIs room c.looped) c.looped t.Continue (λ e. does room t.Continue _ c.looped (sound_Continue room) e) }
  layer_walk (Stmt-F.Return place e) g = record { grows = grows_self; place = λ c. refl; keeps = λ c s h u. s; sound = λ c s h u. returned_is c c.returns e s.gives s }
  layer_walk (Stmt-F.If attributes place test first other) g =
      let middle : (c : Context) → Ends room (else_after other (branch_after first c)) → Ends room (branch_after first c) = λ c h. ends_before room (branch_after first c) _ (else_grows other (branch_after first c) g.1) h in
      record {
        grows = λ c. grows_then c (branch_after first c) _ (branch_grows first c g.0) (else_grows other (branch_after first c) g.1);
        place = λ c. else_looped other (branch_after first c);
        keeps = λ c s h u. else_keeps other (branch_after first c) g.1 (branch_keeps first c g.0 s (middle c h) (well_left (branches_well u))) h (well_right (branches_well u));
        sound = λ c s h u. if_then (λ x. sound_of room truth_type x ≡ true) (StmtIs room c.looped) (fit_in c truth_type test) _ (fit_in_is room c truth_type test s.fits) (λ x k.
            if_then (StmtIs room c.looped) (StmtIs room c.looped) (first (enter c)).tree _ (branch_sound first c g.0 s (middle c h) (well_left (branches_well u))) (λ y l.
            if_then (OthersIs c.looped) (StmtIs room c.looped) (if_there (tree_in (enter (branch_after first c))) other) _ (else_sound other (branch_after first c) g.1 (branch_keeps first c g.0 s (middle c h) (well_left (branches_well u))) h (well_right (branches_well u))) (λ z m.
            does room (t.If (attributes_of c attributes) false x y z) _ c.looped (sound_If room (attributes_of c attributes) false x y z) (both k (both l m)))));
      }
  layer_walk (Stmt-F.While attributes place test body) g = record {
    grows = λ c. grows_leave c (enter_loop c) (body (enter_loop c)).after refl refl (g.grows (enter_loop c));
    place = λ c. refl;
    keeps = λ c s h u. stands_leave room c (body (enter_loop c)).after s (g.keeps (enter_loop c) (stands_loop room c s) (ends_inside room c (body (enter_loop c)).after h) (well_within (well_right (well_right u))));
    sound = λ c s h u. if_then (λ x. sound_of room truth_type x ≡ true) (StmtIs room c.looped) (fit_in c truth_type test) _ (fit_in_is room c truth_type test s.fits) (λ x k.
        if_then (StmtIs room true) (StmtIs room c.looped) (body (enter_loop c)).tree _ (g.sound (enter_loop c) (stands_loop room c s) (ends_inside room c (body (enter_loop c)).after h) (well_within (well_right (well_right u)))) (λ y l.
        does room (t.While (attributes_of c attributes) x y) _ c.looped (sound_While room (attributes_of c attributes) x y) (both k l)));
  }
  layer_walk (Stmt-F.For attributes place h body) g =
      let inner : (c : Context) → Context = λ c. in_header h c in
      let started : (c : Context) → Ends room (leave c (body (enter_loop (inner c))).after) → Ends room (inner c) = λ c k.
      ends_same room (enter_loop (inner c)) (inner c) refl refl (ends_before room (enter_loop (inner c)) (body (enter_loop (inner c))).after (g.grows (enter_loop (inner c))) (ends_inside room c (body (enter_loop (inner c))).after k)) in
      let stands : (c : Context) → Stands room c → Ends room (leave c (body (enter_loop (inner c))).after) → Well (start_sites h.start (enter c)) → Stands room (inner c) = λ c s k u. start_keeps h.start (enter c) (stands_enter room c s) (started c k) u in
      record {
        grows = λ c. grows_leave c (enter c) (body (enter_loop (inner c))).after refl refl (grows_then (enter c) (inner c) _ (start_grows h.start (enter c)) (grows_same (inner c) (enter_loop (inner c)) _ refl refl refl (g.grows (enter_loop (inner c)))));
        place = λ c. refl;
        keeps = λ c s k u. stands_leave room c (body (enter_loop (inner c))).after s (g.keeps (enter_loop (inner c)) (stands_loop room (inner c) (stands c s k (well_within (well_left (well_right u))))) (ends_inside room c (body (enter_loop (inner c))).after k) (well_within (well_right (well_right (well_right (well_right u))))));
        sound = λ c s k u. if_then StartIs (StmtIs room c.looped) (if_there (start_tree (enter c)) h.start) _ (start_is h.start (enter c) (stands_enter room c s) (started c k) (well_within (well_left (well_right u)))) (λ x l.
            if_then (λ x. if_any (sound_of room truth_type) x ≡ true) (StmtIs room c.looped) (if_there (fit_in (inner c) truth_type) h.test) _ (maybe_fit_is room (inner c) truth_type h.test (stands c s k (well_within (well_left (well_right u)))).fits) (λ y m.
            if_then (StepsAre room) (StmtIs room c.looped) (header_trees (inner c) (maybe_steps h.steps)) _ (header_is room (inner c) (maybe_steps h.steps) (stands c s k (well_within (well_left (well_right u)))).fits) (λ z n.
            if_then (StmtIs room true) (StmtIs room c.looped) (body (enter_loop (inner c))).tree _ (g.sound (enter_loop (inner c)) (stands_loop room (inner c) (stands c s k (well_within (well_left (well_right u))))) (ends_inside room c (body (enter_loop (inner c))).after k) (well_within (well_right (well_right (well_right (well_right u)))))) (λ v o.
            does room (t.For (attributes_of c attributes) x y z v) _ c.looped (sound_For room (attributes_of c attributes) x y z v) (both l (both m (both n o)))))));
      }

  -- ---- all statements

  walk_list : {B : Type 0} (p : B → Stmt) (holds : (b : B) → WalkIs (walked (p b))) (bs : List B) → AllWalks (map walked (map p bs))
  walk_list p holds [] = tt
  walk_list p holds (b ∷ bs) = (holds b, walk_list p holds bs)

  walk_layer : {B : Type 0} (p : B → Stmt) (holds : (b : B) → WalkIs (walked (p b))) (y : Stmt-F B) → LayerIs (map-Stmt Stmt Walk walked (map-Stmt B Stmt p y))
  walk_layer p holds (Stmt-F.Block place body) = walk_list p holds body
  walk_layer p holds (Stmt-F.Empty place) = tt
  walk_layer p holds (Stmt-F.Declare d) = tt
  walk_layer p holds (Stmt-F.Handle of name e) = tt
  walk_layer p holds (Stmt-F.Step s) = tt
  walk_layer p holds (Stmt-F.Break place) = tt
  walk_layer p holds (Stmt-F.Continue place) = tt
  walk_layer p holds (Stmt-F.Return place e) = tt
  walk_layer p holds (Stmt-F.If attributes place test first None) = (holds first, tt)
  walk_layer p holds (Stmt-F.If attributes place test first (Some other)) = (holds first, holds other)
  walk_layer p holds (Stmt-F.While attributes place test body) = holds body
  walk_layer p holds (Stmt-F.For attributes place h body) = holds body

  pub walk_is : (s : Stmt) → WalkIs (walked s)
  walk_is s = ind-Stmt (λ s. WalkIs (walked s))
      (λ x y eq. subst (λ l. WalkIs (walked (roll-Stmt l))) eq (subst WalkIs (sym (fold-roll-Stmt Walk stmt_walked _)) (layer_walk _ (walk_layer (λ b. b.0) (λ b. b.1) y))))
      s

  pub all_walks : (stmts : List Stmt) → AllWalks (map walked stmts)
  all_walks [] = tt
  all_walks (s ∷ rest) = (walk_is s, all_walks rest)
