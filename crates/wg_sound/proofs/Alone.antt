-- Without several lanes: collective statements stand outside loops, and in a plain function none stands.
use Rattle.std.proofs.Common.{◌≡◌, Bool, true, false, not, cond, List, [], ◌∷◌, ◌++◌, map, Option, Some, None, refl, sym, ap, ◌∙◌, subst}
use Rattle.std.specs.Prelude.{◌||◌, nat_lt}
use Rattle.wg_typed.specs.Uniform.{UniformSetting}
use Rattle.wg_typing.specs.RulesCollective.{in_collective_blocks, in_a_loop, takes_collective, is_direct}
use Rattle.wg_facts.specs.Tests.{if_any, every}
use Rattle.wg_sound.specs.Placement.{in_body, Where, in_block, in_branch, in_loop, has_lanes, takes, declares_last, begins_last, Placed, stmt_placed, placed}
use Rattle.wg_typed.specs.declared.typed.TypedEntry.{TypedEntry}
use Rattle.wg_typed.specs.declared.typed_stmt.TypedStmt.{TypedStmt, roll-TypedStmt, fold-roll-TypedStmt, ind-TypedStmt, map-TypedStmt}
use Rattle.wg_typed.specs.declared.typed_stmt.TypedStmt.TheOpen.{TypedStmt-F}
use Rattle.wg_typing.specs.declared.context.Around.{Around}
use Rattle.wg_typing.specs.declared.event.Region.{Region}
use Rattle.wg_typing.specs.declared.event.Region.TheVariants as region
use Rattle.wg_sound.proofs.Allowed.{Allowed, branch_of, allowed_step, allowed}
use Rattle.wg_facts.proofs.Basics.{and_left, and_right, both}
use Rattle.wg_sound.proofs.Whole.{entry_around}

loop_after : (path : List Region) (r : Region) → in_a_loop (path ++ r ∷ []) ≡ (in_a_loop path || in_a_loop (r ∷ []))
loop_after [] r = refl
loop_after (region.Loop ∷ path) r = refl
loop_after (region.Block ∷ path) r = loop_after path r
loop_after (region.Branch test blocks ∷ path) r = loop_after path r

or_true : (a : Bool) → (a || true) ≡ true
or_true true = refl
or_true false = refl

or_none : (a : Bool) → (a || false) ≡ a
or_none true = refl
or_none false = refl

direct_after : (path : List Region) (r : Region) → is_direct (path ++ r ∷ []) ≡ false
direct_after [] r = refl
direct_after (x ∷ path) r = refl

module _ (entry : Option TypedEntry) (u : UniformSetting) (one : has_lanes entry ≡ false) where
  abbrev around : Around
  around = entry_around entry

  abbrev al : TypedStmt → Allowed
  al = allowed around u

  abbrev p : TypedStmt → Placed
  p = placed entry u

  -- a statement in these parts of a body
  record At (path : List Region) (w : Where) : Type 0 where
    direct : is_direct path ≡ true → w.direct ≡ true
    looped : w.looped ≡ in_a_loop path

  taken_at : (path : List Region) (w : Where) → At path w → takes_collective around u path ≡ true → takes entry w ≡ true
  taken_at path w h k = by_entry entry one k
    where
      by_lanes : (b : Bool) (e : TypedEntry) → b ≡ false → cond b (in_collective_blocks u path) (not (in_a_loop path)) ≡ true → cond b w.together (not w.looped) ≡ true
      by_lanes true e q k = let z : true ≡ false = q in absurd (cc)
      by_lanes false e q k = ap not h.looped ∙ k

      by_entry : (o : Option TypedEntry) → has_lanes o ≡ false → takes_collective (entry_around o) u path ≡ true → takes o w ≡ true
      by_entry None q k = absurd (cc)
      by_entry (Some e) q k = by_lanes (nat_lt 1 e.lanes) e q k

  inside : (path : List Region) (w v : Where) (r : Region) → At path w → v.looped ≡ w.looped → in_a_loop (r ∷ []) ≡ false → At (path ++ r ∷ []) v
  inside path w v r h e f = record { direct = λ d. absurd (false_true (sym (direct_after path r) ∙ d)); looped = e ∙ h.looped ∙ sym (loop_after path r ∙ ap (λ b. in_a_loop path || b) f ∙ or_none (in_a_loop path)) }
    where
      false_true : false ≡ true → ⊥
      false_true e = cc

  in_a_body : (path : List Region) → At (path ++ region.Loop ∷ []) in_loop
  in_a_body path = record { direct = λ d. absurd (false_true (sym (direct_after path region.Loop) ∙ d)); looped = sym (loop_after path region.Loop ∙ or_true (in_a_loop path)) }
    where
      false_true : false ≡ true → ⊥
      false_true e = cc

  abbrev Stands : TypedStmt → Type 0
  Stands s = (path : List Region) (w : Where) → At path w → (al s).at path ≡ true → (p s).stands w ≡ true

  or_same : (a b c : Bool) → (a || b) ≡ true → (b ≡ true → c ≡ true) → (a || c) ≡ true
  or_same true b c h k = refl
  or_same false b c h k = k h

  list_stands : {B : Type 0} (q : B → TypedStmt) (holds : (b : B) → Stands (q b)) (bs : List B) (path : List Region) (w : Where) → At path w → every (λ (a : Allowed). a.at path) (map al (map q bs)) ≡ true → every (λ (x : Placed). x.stands w) (map p (map q bs)) ≡ true
  list_stands q holds [] path w h k = refl
  list_stands q holds (b ∷ bs) path w h k = both (holds b path w h (and_left ((al (q b)).at path) _ k)) (list_stands q holds bs path w h (and_right ((al (q b)).at path) _ k))

  layer_stands : {B : Type 0} (q : B → TypedStmt) (holds : (b : B) → Stands (q b)) (y : TypedStmt-F B) (path : List Region) (w : Where) → At path w
      → (allowed_step around u (map-TypedStmt TypedStmt Allowed al (map-TypedStmt B TypedStmt q y))).at path ≡ true → (stmt_placed entry u (map-TypedStmt TypedStmt Placed p (map-TypedStmt B TypedStmt q y))).stands w ≡ true
  layer_stands q holds (TypedStmt-F.Block body) path w h k = list_stands q holds body (path ++ region.Block ∷ []) (in_block w) (inside path w (in_block w) region.Block h refl refl) k
  layer_stands q holds TypedStmt-F.Empty path w h k = refl
  layer_stands q holds (TypedStmt-F.Declare ds) path w h k = or_same (not (declares_last ds)) (is_direct path) w.direct k h.direct
  layer_stands q holds (TypedStmt-F.Request handle group output element amount) path w h k = taken_at path w h k
  layer_stands q holds (TypedStmt-F.Increment group output element amount) path w h k = taken_at path w h k
  layer_stands q holds (TypedStmt-F.Complete handle) path w h k = taken_at path w h k
  layer_stands q holds (TypedStmt-F.Barrier syncs) path w h k = or_same (not syncs) (takes_collective around u path) (takes entry w) k (taken_at path w h)
  layer_stands q holds (TypedStmt-F.Step s) path w h k = refl
  layer_stands q holds TypedStmt-F.Break path w h k = refl
  layer_stands q holds TypedStmt-F.Continue path w h k = refl
  layer_stands q holds (TypedStmt-F.Return v) path w h k = refl
  layer_stands q holds (TypedStmt-F.If attributes true c first None) path w h k = absurd (cc)
  layer_stands q holds (TypedStmt-F.If attributes true c first (Some other)) path w h k = absurd (cc)
  layer_stands q holds (TypedStmt-F.If attributes false c first None) path w h k =
      both (holds first (path ++ branch_of c (al (q first)) None ∷ []) (in_branch false w) (inside path w (in_branch false w) (branch_of c (al (q first)) None) h refl refl) (and_left ((al (q first)).at (path ++ branch_of c (al (q first)) None ∷ [])) _ k)) refl
  layer_stands q holds (TypedStmt-F.If attributes false c first (Some other)) path w h k =
      let r = branch_of c (al (q first)) (Some (al (q other))) in
      both (holds first (path ++ r ∷ []) (in_branch false w) (inside path w (in_branch false w) r h refl refl) (and_left ((al (q first)).at (path ++ r ∷ [])) _ k))
      (holds other (path ++ r ∷ []) (in_branch false w) (inside path w (in_branch false w) r h refl refl) (and_right ((al (q first)).at (path ++ r ∷ [])) _ k))
  layer_stands q holds (TypedStmt-F.While attributes c body) path w h k = holds body (path ++ region.Loop ∷ []) in_loop (in_a_body path) k
  layer_stands q holds (TypedStmt-F.For attributes begin c steps body) path w h k =
      both (and_left (if_any (λ s. not (begins_last s)) begin) _ k) (holds body (path ++ region.Loop ∷ []) in_loop (in_a_body path) (and_right (if_any (λ s. not (begins_last s)) begin) _ k))

  rolled_stands : (z : TypedStmt-F TypedStmt) → ((path : List Region) (w : Where) → At path w → (allowed_step around u (map-TypedStmt TypedStmt Allowed al z)).at path ≡ true → (stmt_placed entry u (map-TypedStmt TypedStmt Placed p z)).stands w ≡ true) → Stands (roll-TypedStmt z)
  rolled_stands z h path w a k =
      ap (λ (x : Placed). x.stands w) (fold-roll-TypedStmt Placed (stmt_placed entry u) z) ∙ h path w a (ap (λ (x : Allowed). x.at path) (sym (fold-roll-TypedStmt Allowed (allowed_step around u) z)) ∙ k)

  stands : (s : TypedStmt) → Stands s
  stands s = ind-TypedStmt Stands (λ x y eq. subst (λ l. Stands (roll-TypedStmt l)) eq (rolled_stands (map-TypedStmt _ TypedStmt (λ b. b.0) y) (layer_stands (λ b. b.0) (λ b. b.1) y))) s

  pub body_alone : (ss : List TypedStmt) → every (λ (a : Allowed). a.at []) (map al ss) ≡ true → every (λ (x : Placed). x.stands in_body) (map p ss) ≡ true
  body_alone [] h = refl
  body_alone (s ∷ ss) h = both (stands s [] in_body (record { direct = λ d. refl; looped = refl }) (and_left ((al s).at []) _ h)) (body_alone ss (and_right ((al s).at []) _ h))
