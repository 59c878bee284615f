-- Of one lane the phases of a launch are its body run as one block.
use Rattle.std.proofs.Common.{◌≡◌, ℕ, Bool, true, false, not, cond, List, [], ◌∷◌, ◌++◌, map, Option, Some, None, refl, sym, ap, ◌∙◌, subst}
use Rattle.std.specs.Prelude.{◌&&◌, ◌||◌, nat_lt}
use Rattle.wg_machine.specs.declared.shape.Unit.{Unit as Node}
use Rattle.wg_state.specs.Turns.{Ending, Spent, Done, Action, and_then, ◌>>=◌, pure}
use Rattle.wg_state.specs.declared.world.World.{World}
use Rattle.wg_semantics.specs.LaunchMeaning.{has_returned, lane_after, lanes_run, OnLanes, Doing, Part, after_run, phases_after, phases_run, Form, Plain, Collective, is_phase, form_runs, part_step, part_of, entry_setting, entry_callees, entry_does, entry_doing, body_runs, declares_last}
use Rattle.wg_semantics.specs.StmtMeaning.{then_go, block, does}
use Rattle.wg_semantics.specs.declared.state.State.{State}
use Rattle.wg_semantics.specs.declared.state.Lane.{Lane}
use Rattle.wg_semantics.specs.declared.state.Flow.{Flow}
use Rattle.wg_semantics.specs.declared.state.Flow.TheVariants as flow
use Rattle.wg_sound.specs.Placement.{in_body, has_lanes, Placed, stmt_placed, placed}
use Rattle.wg_sound.specs.Room.{Room}
use Rattle.wg_sound.specs.Sound.{IsSoundFunction}
use Rattle.wg_sound.specs.SoundStmt.{stmt_sound}
use Rattle.wg_facts.specs.Tests.{every}
use Rattle.wg_typed.specs.Uniform.{UniformSetting, setting_in}
use Rattle.wg_typed.specs.declared.typed.Typed.{Typed}
use Rattle.wg_typed.specs.declared.typed.TypedEntry.{TypedEntry}
use Rattle.wg_typed.specs.declared.typed.TypedFunction.{TypedFunction}
use Rattle.wg_typed.specs.declared.typed_stmt.TypedStmt.{TypedStmt, roll-TypedStmt, fold-roll-TypedStmt, ind-TypedStmt, map-TypedStmt}
use Rattle.wg_typed.specs.declared.typed_stmt.TypedStmt.TheOpen.{TypedStmt-F}
use Rattle.wg_bodies.proofs.Endings.{Fine, Ends, ends_all}
use Rattle.wg_facts.proofs.Basics.{and_left, and_right}
use Rattle.wg_facts.proofs.Lists.{joined, nothing_more}

-- ---- one lane

-- what statements do on one lane
abbrev once : Action State Flow → List Lane → Action World (List Lane)
once m = lanes_run (λ at. m) 0

abbrev alone : Ending State Flow → Ending World (List Lane)
alone x = and_then (lane_after x) (λ first. pure (first ∷ []))

block_joined : (xs ys : List (Action State Flow)) (s : State) (t : ℕ) → block (xs ++ ys) s t ≡ and_then (block xs s t) (λ end. then_go end (block ys))
block_joined [] ys s t = refl
block_joined (m ∷ xs) ys s t = by_end (λ s t. block_joined xs ys s t) (m s t)
  where
    by_end : ((s : State) (t : ℕ) → block (xs ++ ys) s t ≡ and_then (block xs s t) (λ end. then_go end (block ys))) → (x : Ending State Flow)
        → and_then x (λ end. then_go end (block (xs ++ ys))) ≡ and_then (and_then x (λ end. then_go end (block xs))) (λ end. then_go end (block ys))
    by_end h Spent = refl
    by_end h (Done flow.Next s t) = h s t
    by_end h (Done flow.Broke s t) = refl
    by_end h (Done flow.Continued s t) = refl
    by_end h (Done (flow.Returned words) s t) = refl

-- one after another on a lane, where the first goes on or returns
once_after : (m n : Action State Flow) (v : List (List ℕ)) (r : Bool) (w : World) (t : ℕ) → Ends m
    → once (m >>= (λ end. then_go end n)) (record { variables = v; returned = r } ∷ []) w t ≡ and_then (once m (record { variables = v; returned = r } ∷ []) w t) (once n)
once_after m n v true w t h = refl
once_after m n v false w t h = by_end (m (record { variables = v; world = w }) t) (h (record { variables = v; world = w }) t)
  where
    by_end : (x : Ending State Flow) → Fine x → alone (and_then x (λ end. then_go end n)) ≡ and_then (alone x) (once n)
    by_end Spent f = refl
    by_end (Done flow.Next s t) f = refl
    by_end (Done flow.Broke s t) f = absurd f
    by_end (Done flow.Continued s t) f = absurd f
    by_end (Done (flow.Returned words) s t) f = refl

-- after statements there is one lane
once_same : (m : Action State Flow) (j k : List Lane → Action World (List Lane)) (v : List (List ℕ)) (r : Bool) (w : World) (t : ℕ) → ((lane : Lane) (w : World) (t : ℕ) → j (lane ∷ []) w t ≡ k (lane ∷ []) w t)
    → and_then (once m (record { variables = v; returned = r } ∷ []) w t) j ≡ and_then (once m (record { variables = v; returned = r } ∷ []) w t) k
once_same m j k v true w t h = h (record { variables = v; returned = true }) w t
once_same m j k v false w t h = by_end (m (record { variables = v; world = w }) t)
  where
    by_end : (x : Ending State Flow) → and_then (and_then (lane_after x) (λ first. pure (first ∷ []))) j ≡ and_then (and_then (lane_after x) (λ first. pure (first ∷ []))) k
    by_end Spent = refl
    by_end (Done end s t) = h (record { variables = s.variables; returned = has_returned end }) s.world t

nothing_done : (v : List (List ℕ)) (r : Bool) (w : World) (t : ℕ) → once (block []) (record { variables = v; returned = r } ∷ []) w t ≡ Done (record { variables = v; returned = r } ∷ []) w t
nothing_done v true w t = refl
nothing_done v false w t = refl

maps_joined : (f : TypedStmt → Action State Flow) (xs ys : List TypedStmt) → map f (xs ++ ys) ≡ map f xs ++ map f ys
maps_joined f [] ys = refl
maps_joined f (x ∷ xs) ys = ap (λ zs. f x ∷ zs) (maps_joined f xs ys)

-- two blocks on a lane
blocks_once : (f : TypedStmt → Action State Flow) (xs ys : List TypedStmt) (lane : Lane) (w : World) (t : ℕ) → Ends (block (map f xs))
    → once (block (map f (xs ++ ys))) (lane ∷ []) w t ≡ and_then (once (block (map f xs)) (lane ∷ []) w t) (once (block (map f ys)))
blocks_once f xs ys lane w t h = by_returned lane.returned ∙ once_after (block (map f xs)) (block (map f ys)) lane.variables lane.returned w t h
  where
    by_returned : (r : Bool) → once (block (map f (xs ++ ys))) (record { variables = lane.variables; returned = r } ∷ []) w t ≡ once (block (map f xs) >>= (λ end. then_go end (block (map f ys)))) (record { variables = lane.variables; returned = r } ∷ []) w t
    by_returned true = refl
    by_returned false = ap (λ ms. alone (block ms (record { variables = lane.variables; world = w }) t)) (maps_joined f xs ys) ∙ ap alone (block_joined (map f xs) (map f ys) (record { variables = lane.variables; world = w }) t)

-- ---- the statement of a part

module _ (doing : Doing) where
  abbrev of : TypedStmt → Part
  of = part_of doing

  abbrev Same : TypedStmt → Type 0
  Same s = (of s).statement ≡ s

  list_same : {B : Type 0} (p : B → TypedStmt) (holds : (b : B) → Same (p b)) (bs : List B) → map (λ (x : Part). x.statement) (map of (map p bs)) ≡ map p bs
  list_same p holds [] = refl
  list_same p holds (b ∷ bs) = ap (λ s. s ∷ map (λ (x : Part). x.statement) (map of (map p bs))) (holds b) ∙ ap (λ ss. p b ∷ ss) (list_same p holds bs)

  layer_same : {B : Type 0} (p : B → TypedStmt) (holds : (b : B) → Same (p b)) (y : TypedStmt-F B) → map-TypedStmt Part TypedStmt (λ x. x.statement) (map-TypedStmt TypedStmt Part of (map-TypedStmt B TypedStmt p y)) ≡ map-TypedStmt B TypedStmt p y
  layer_same p holds (TypedStmt-F.Block body) = ap TypedStmt-F.Block (list_same p holds body)
  layer_same p holds TypedStmt-F.Empty = refl
  layer_same p holds (TypedStmt-F.Declare ds) = refl
  layer_same p holds (TypedStmt-F.Request handle group output element amount) = refl
  layer_same p holds (TypedStmt-F.Increment group output element amount) = refl
  layer_same p holds (TypedStmt-F.Complete handle) = refl
  layer_same p holds (TypedStmt-F.Barrier syncs) = refl
  layer_same p holds (TypedStmt-F.Step s) = refl
  layer_same p holds TypedStmt-F.Break = refl
  layer_same p holds TypedStmt-F.Continue = refl
  layer_same p holds (TypedStmt-F.Return v) = refl
  layer_same p holds (TypedStmt-F.If attributes marked c first None) = ap (λ s. TypedStmt-F.If attributes marked c s None) (holds first)
  layer_same p holds (TypedStmt-F.If attributes marked c first (Some other)) = ap (λ s. TypedStmt-F.If attributes marked c s (Some (of (p other)).statement)) (holds first) ∙ ap (λ s. TypedStmt-F.If attributes marked c (p first) (Some s)) (holds other)
  layer_same p holds (TypedStmt-F.While attributes c body) = ap (TypedStmt-F.While attributes c) (holds body)
  layer_same p holds (TypedStmt-F.For attributes begin c steps body) = ap (TypedStmt-F.For attributes begin c steps) (holds body)

  rolled_part : (z : TypedStmt-F TypedStmt) → of (roll-TypedStmt z) ≡ part_step doing (map-TypedStmt TypedStmt Part of z)
  rolled_part z = fold-roll-TypedStmt Part (part_step doing) z

  same : (s : TypedStmt) → Same s
  same s = ind-TypedStmt Same (λ x y eq. subst (λ l. Same (roll-TypedStmt l)) eq (ap (λ (x : Part). x.statement) (rolled_part (map-TypedStmt _ TypedStmt (λ b. b.0) y)) ∙ ap roll-TypedStmt (layer_same (λ b. b.0) (λ b. b.1) y))) s

  -- ---- phases

  -- what a phase of its own does
  abbrev RunsAlone : TypedStmt → Part → Type 0
  RunsAlone s x = x.phase ≡ true → x.runs ≡ lanes_run (doing.body (x.statement ∷ [])) 0

  module _ (entry : Option TypedEntry) (u : UniformSetting) (one : has_lanes entry ≡ false) where
    abbrev Placed_here : TypedStmt → Type 0
    Placed_here s = (placed entry u s).stands in_body ≡ true

    unmarked : (marked b c : Bool) → ((not marked || (has_lanes entry && b)) && c) ≡ true → marked ≡ false
    unmarked false b c e = refl
    unmarked true b c e = absurd (false_true (sym one ∙ and_left (has_lanes entry) b (and_left (has_lanes entry && b) c e)))
      where
        false_true : false ≡ true → ⊥
        false_true e = cc

    if_alone : (x : Form Part) (s : TypedStmt) (b : Bool) → b ≡ false → is_phase (cond b x Plain) ≡ true → form_runs doing s (cond b x Plain) ≡ lanes_run (doing.body (s ∷ [])) 0
    if_alone x s true q e = let z : true ≡ false = q in absurd (cc)
    if_alone x s false q e = refl

    collective_alone : (s : TypedStmt) (b : Bool) → is_phase (cond b Collective Plain) ≡ true → form_runs doing s (cond b Collective Plain) ≡ lanes_run (doing.body (s ∷ [])) 0
    collective_alone s true e = refl
    collective_alone s false e = refl

    layer_alone : (z : TypedStmt-F TypedStmt) → (stmt_placed entry u (map-TypedStmt TypedStmt Placed (placed entry u) z)).stands in_body ≡ true → RunsAlone (roll-TypedStmt z) (part_step doing (map-TypedStmt TypedStmt Part of z))
    layer_alone (TypedStmt-F.Block body) h e = absurd (cc)
    layer_alone TypedStmt-F.Empty h e = refl
    layer_alone (TypedStmt-F.Declare ds) h e = collective_alone _ (declares_last ds) e
    layer_alone (TypedStmt-F.Request handle group output element amount) h e = refl
    layer_alone (TypedStmt-F.Increment group output element amount) h e = refl
    layer_alone (TypedStmt-F.Complete handle) h e = refl
    layer_alone (TypedStmt-F.Barrier syncs) h e = collective_alone _ syncs e
    layer_alone (TypedStmt-F.Step s) h e = refl
    layer_alone TypedStmt-F.Break h e = refl
    layer_alone TypedStmt-F.Continue h e = refl
    layer_alone (TypedStmt-F.Return v) h e = refl
    layer_alone (TypedStmt-F.If attributes marked c first None) h e = if_alone _ _ marked (unmarked marked _ _ h) e
    layer_alone (TypedStmt-F.If attributes marked c first (Some other)) h e = if_alone _ _ marked (unmarked marked _ _ h) e
    layer_alone (TypedStmt-F.While attributes c body) h e = refl
    layer_alone (TypedStmt-F.For attributes begin c steps body) h e = refl

    rolled_alone : (z : TypedStmt-F TypedStmt) → Placed_here (roll-TypedStmt z) → RunsAlone (roll-TypedStmt z) (of (roll-TypedStmt z))
    rolled_alone z h = subst (RunsAlone (roll-TypedStmt z)) (sym (rolled_part z)) (layer_alone z (ap (λ (x : Placed). x.stands in_body) (sym (fold-roll-TypedStmt Placed (stmt_placed entry u) z)) ∙ h))

    pub runs_alone : (s : TypedStmt) → Placed_here s → (of s).phase ≡ true → (of s).runs ≡ lanes_run (doing.body (s ∷ [])) 0
    runs_alone s h e = (ind-TypedStmt (λ s. Placed_here s → RunsAlone s (of s)) (λ x y eq. subst (λ l. Placed_here (roll-TypedStmt l) → RunsAlone (roll-TypedStmt l) (of (roll-TypedStmt l))) eq (rolled_alone (map-TypedStmt _ TypedStmt (λ b. b.0) y))) s) h e
        ∙ ap (λ x. lanes_run (doing.body (x ∷ [])) 0) (same s)

-- ---- whole bodies

nothing_after : (x : Ending World (List Lane)) → and_then x (phases_run []) ≡ x
nothing_after Spent = refl
nothing_after (Done lanes w t) = refl

module _ (text : Typed) (number : ℕ) (f : TypedFunction) (unit : Node) (last : Bool) (one : has_lanes f.entry ≡ false) where
  abbrev room : Room
  room = record { text = text; function = f; number = number }

  abbrev doing : Doing
  doing = entry_doing text f unit last

  abbrev d : TypedStmt → Action State Flow
  d = does (entry_setting text f unit last 0) (entry_callees text f unit last 0)

  abbrev AllSound : List TypedStmt → Type 0
  AllSound ss = every (λ (s : Bool → Bool). s false) (map (stmt_sound room) ss) ≡ true

  abbrev AllPlaced : List TypedStmt → Type 0
  AllPlaced ss = every (λ (s : Placed). s.stands in_body) (map (placed f.entry (setting_in f)) ss) ≡ true

  sound_more : (xs : List TypedStmt) (s : TypedStmt) → AllSound xs → stmt_sound room s false ≡ true → AllSound (xs ++ s ∷ [])
  sound_more [] s h k = ap (λ b. b && true) k
  sound_more (x ∷ xs) s h k = ap (λ b. b && every (λ (s : Bool → Bool). s false) (map (stmt_sound room) (xs ++ s ∷ []))) (and_left (stmt_sound room x false) _ h) ∙ sound_more xs s (and_right (stmt_sound room x false) _ h) k

  run_first : (run : List TypedStmt) (phases : List OnLanes) (lane : Lane) (w : World) (t : ℕ) → phases_run (after_run doing run phases) (lane ∷ []) w t ≡ and_then (once (block (map d run)) (lane ∷ []) w t) (phases_run phases)
  run_first [] phases lane w t = ap (λ x. and_then x (phases_run phases)) (sym (nothing_done lane.variables lane.returned w t))
  run_first (s ∷ run) phases lane w t = refl

  run_alone : (run : List TypedStmt) (lane : Lane) (w : World) (t : ℕ) → phases_run (after_run doing run []) (lane ∷ []) w t ≡ once (block (map d (run ++ []))) (lane ∷ []) w t
  run_alone run lane w t = run_first run [] lane w t ∙ nothing_after (once (block (map d run)) (lane ∷ []) w t) ∙ ap (λ xs. once (block (map d xs)) (lane ∷ []) w t) (nothing_more run)

  phases_are : (ss run : List TypedStmt) → AllSound ss → AllSound run → AllPlaced ss → (lane : Lane) (w : World) (t : ℕ) → phases_run (phases_after doing run (map (part_of doing) ss)) (lane ∷ []) w t ≡ once (block (map d (run ++ ss))) (lane ∷ []) w t
  phases_are [] run h k p lane w t = run_alone run lane w t
  phases_are (s ∷ ss) run h k p lane w t = by_phase (part_of doing s).phase refl (phases_are ss [] hs refl ps) (phases_are ss (run ++ s ∷ []) hs (sound_more run s k hf) ps)
    where
      hf : stmt_sound room s false ≡ true
      hf = and_left (stmt_sound room s false) _ h

      hs : AllSound ss
      hs = and_right (stmt_sound room s false) _ h

      ps : AllPlaced ss
      ps = and_right ((placed f.entry (setting_in f) s).stands in_body) _ p

      by_phase : (b : Bool) → (part_of doing s).phase ≡ b → ((lane : Lane) (w : World) (t : ℕ) → phases_run (phases_after doing [] (map (part_of doing) ss)) (lane ∷ []) w t ≡ once (block (map d ss)) (lane ∷ []) w t)
          → ((lane : Lane) (w : World) (t : ℕ) → phases_run (phases_after doing (run ++ s ∷ []) (map (part_of doing) ss)) (lane ∷ []) w t ≡ once (block (map d ((run ++ s ∷ []) ++ ss))) (lane ∷ []) w t)
          → phases_run (cond b (after_run doing run ((part_of doing s).runs ∷ phases_after doing [] (map (part_of doing) ss))) (phases_after doing (run ++ (part_of doing s).statement ∷ []) (map (part_of doing) ss))) (lane ∷ []) w t ≡ once (block (map d (run ++ s ∷ ss))) (lane ∷ []) w t
      by_phase true q one_run more_run =
          run_first run ((part_of doing s).runs ∷ phases_after doing [] (map (part_of doing) ss)) lane w t
          ∙ once_same (block (map d run)) (phases_run ((part_of doing s).runs ∷ phases_after doing [] (map (part_of doing) ss))) (once (block (map d (s ∷ ss)))) lane.variables lane.returned w t (λ lane w t.
          ap (λ (r : OnLanes). and_then (r (lane ∷ []) w t) (phases_run (phases_after doing [] (map (part_of doing) ss)))) (runs_alone doing f.entry (setting_in f) one s (and_left ((placed f.entry (setting_in f) s).stands in_body) _ p) q)
          ∙ once_same (block (map d (s ∷ []))) (phases_run (phases_after doing [] (map (part_of doing) ss))) (once (block (map d ss))) lane.variables lane.returned w t one_run
          ∙ sym (blocks_once d (s ∷ []) ss lane w t (ends_all (entry_setting text f unit last 0) (entry_callees text f unit last 0) room (s ∷ []) (ap (λ b. b && true) hf))))
          ∙ sym (blocks_once d run (s ∷ ss) lane w t (ends_all (entry_setting text f unit last 0) (entry_callees text f unit last 0) room run k))
      by_phase false q one_run more_run =
          ap (λ x. phases_run (phases_after doing (run ++ x ∷ []) (map (part_of doing) ss)) (lane ∷ []) w t) (same doing s) ∙ more_run lane w t ∙ ap (λ xs. once (block (map d xs)) (lane ∷ []) w t) (joined run (s ∷ []) ss)

pub one_block : (text : Typed) (number : ℕ) (f : TypedFunction) (e : TypedEntry) (unit : Node) (last : Bool) (lane : Lane) (w : World) (t : ℕ) → IsSoundFunction text number f → f.entry ≡ Some e → e.lanes ≡ 1
    → body_runs (entry_doing text f unit last) f.body (lane ∷ []) w t ≡ lanes_run (entry_does text f unit last f.body) 0 (lane ∷ []) w t
one_block text number f e unit last lane w t h q k = phases_are text number f unit last (ap has_lanes q ∙ ap (nat_lt 1) k) f.body [] h.body refl h.placed lane w t
