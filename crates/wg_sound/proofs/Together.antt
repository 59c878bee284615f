-- Of several lanes: collective statements stand in the body itself or in blocks of collective `if`s.
use Rattle.std.proofs.Common.{◌≡◌, Bool, true, false, not, cond, List, [], ◌∷◌, ◌++◌, map, Option, Some, None, refl, sym, ap, ◌∙◌, subst}
use Rattle.std.specs.Prelude.{◌&&◌, ◌||◌, nat_lt}
use Rattle.wg_typed.specs.Uniform.{UniformSetting, is_uniform}
use Rattle.wg_typing.specs.RulesCollective.{in_collective_blocks, in_a_loop, takes_collective, is_direct}
use Rattle.wg_typing.specs.TypingMarks.{MarkedStmt, any_holds, all_here, plain_stmt, else_holds, else_block, else_branch, is_collective_if, mark_step, marked_stmt}
use Rattle.wg_facts.specs.Tests.{if_any, every}
use Rattle.wg_sound.specs.Placement.{in_body, Where, in_block, in_branch, in_loop, takes, declares_last, begins_last, Placed, plain, is_chosen, placed}
use Rattle.wg_typed.specs.declared.typed.TypedEntry.{TypedEntry}
use Rattle.wg_typed.specs.declared.typed_expr.TypedExpr.{TypedExpr}
use Rattle.wg_typed.specs.declared.typed_stmt.TypedAttribute.{TypedAttribute}
use Rattle.wg_typed.specs.declared.typed_stmt.TypedStmt.{TypedStmt, roll-TypedStmt, fold-roll-TypedStmt, ind-TypedStmt, map-TypedStmt}
use Rattle.wg_typed.specs.declared.typed_stmt.TypedStmt.TheVariants as t
use Rattle.wg_typed.specs.declared.typed_stmt.TypedStmt.TheOpen.{TypedStmt-F}
use Rattle.wg_typing.specs.declared.context.Around.TheVariants as surrounding
use Rattle.wg_typing.specs.declared.event.Region.{Region}
use Rattle.wg_typing.specs.declared.event.Region.TheVariants as region
use Rattle.wg_sound.proofs.Allowed.{Allowed, alone, branch_of, allowed_step, allowed}
use Rattle.wg_facts.proofs.Basics.{and_left, and_right, both, or_left}
use Rattle.wg_facts.proofs.Lists.{nothing_more, joined}
use Rattle.wg_sound.proofs.Placements.{others_placed, placed_Block, placed_Empty, placed_Declare, placed_Request, placed_Increment, placed_Complete, placed_Barrier, placed_Step, placed_Break, placed_Continue, placed_Return, placed_If, placed_While, placed_For}

not_direct : (path : List Region) (r : Region) → is_direct (path ++ r ∷ []) ≡ false
not_direct [] r = refl
not_direct (x ∷ path) r = refl

false_true : false ≡ true → ⊥
false_true e = cc

true_false : true ≡ false → ⊥
true_false e = cc

-- where a statement stands that is reached by these parts through collective blocks alone
abbrev at_path : List Region → Where
at_path path = record { direct = is_direct path; together = true; chosen = false; looped = false }

abbrev as_branch : Where
as_branch = record { direct = false; together = false; chosen = true; looped = false }

module _ (e : TypedEntry) (u : UniformSetting) (many : nat_lt 1 e.lanes ≡ true) where
  abbrev p : TypedStmt → Placed
  p = placed (Some e) u

  abbrev Closed : List Region → Type 0
  Closed path = (more : List Region) → in_collective_blocks u (path ++ more) ≡ false

  abbrev Open : List Region → Type 0
  Open path = (more : List Region) → in_collective_blocks u (path ++ more) ≡ in_collective_blocks u more

  taken_here : (path : List Region) → takes_collective (surrounding.Entry e.lanes) u path ≡ in_collective_blocks u path
  taken_here path = ap (λ b. cond b (in_collective_blocks u path) (not (in_a_loop path))) many

  never_taken : (path : List Region) → Closed path → takes_collective (surrounding.Entry e.lanes) u path ≡ true → ⊥
  never_taken path c h = false_true (sym (c []) ∙ ap (in_collective_blocks u) (sym (nothing_more path)) ∙ sym (taken_here path) ∙ h)

  takes_here : (w : Where) → w.together ≡ true → takes (Some e) w ≡ true
  takes_here w h = ap (λ b. cond b w.together (not w.looped)) many ∙ h

  closed_more : (path : List Region) (r : Region) → Closed path → Closed (path ++ r ∷ [])
  closed_more path r c more = ap (in_collective_blocks u) (joined path (r ∷ []) more) ∙ c (r ∷ more)

  closed_loop : (path : List Region) → Open path → Closed (path ++ region.Loop ∷ [])
  closed_loop path o more = ap (in_collective_blocks u) (joined path (region.Loop ∷ []) more) ∙ o (region.Loop ∷ more)

  closed_block : (path : List Region) → Open path → Closed (path ++ region.Block ∷ [])
  closed_block path o more = ap (in_collective_blocks u) (joined path (region.Block ∷ []) more) ∙ o (region.Block ∷ more)

  -- a statement of which no part is collective stands anywhere
  record Quiet (m : MarkedStmt) : Type 0 where
    here : (d : Bool) (w : Where) → (p (m.here d)).stands w ≡ true
    branch : (w : Where) → (p m.branch).stands w ≡ true

  record Claims (m : MarkedStmt) (a : Allowed) : Type 0 where
    block : m.block ≡ a.block
    branch_block : (p m.branch).block ≡ a.block
    shut : (path : List Region) → Closed path → a.at path ≡ true → m.holds ≡ false
    quiet : (path : List Region) → is_direct path ≡ false → a.at path ≡ true → m.holds ≡ false → Quiet m
    open_at : (path : List Region) → Open path → a.at path ≡ true → (p (m.here true)).stands (at_path path) ≡ true
    chosen : (path : List Region) → Open (path ++ region.Block ∷ []) → a.block ≡ true → a.at path ≡ true → (p m.branch).stands as_branch ≡ true

  stands_as : (s : TypedStmt) (x : Placed) (w : Where) → p s ≡ x → x.stands w ≡ true → (p s).stands w ≡ true
  stands_as s x w e h = ap (λ (y : Placed). y.stands w) e ∙ h

  -- a statement without parts
  leaf : (holds : Bool) (s : TypedStmt) (f : Where → Bool) (g : List Region → Bool) → p s ≡ plain f
      → ((path : List Region) → Closed path → g path ≡ true → holds ≡ false) → ((path : List Region) → is_direct path ≡ false → g path ≡ true → holds ≡ false → (w : Where) → f w ≡ true)
      → ((path : List Region) → Open path → g path ≡ true → f (at_path path) ≡ true) → Claims (plain_stmt holds s) (alone g)
  leaf holds s f g e shut quiet open_at = record {
    block = refl;
    branch_block = ap (λ (x : Placed). x.block) e;
    shut = shut;
    quiet = λ path d h k. record { here = λ d2 w. stands_as s (plain f) w e (quiet path d h k w); branch = λ w. stands_as s (plain f) w e (quiet path d h k w) };
    open_at = λ path o h. stands_as s (plain f) (at_path path) e (open_at path o h);
    chosen = λ path o b h. absurd (false_true b);
  }

  always : (s : TypedStmt) → p s ≡ plain (λ w. true) → Claims (plain_stmt false s) (alone (λ path. true))
  always s e = leaf false s (λ w. true) (λ path. true) e (λ path c h. refl) (λ path d h k w. refl) (λ path o h. refl)

  collective : (s : TypedStmt) → p s ≡ plain (takes (Some e)) → Claims (plain_stmt true s) (alone (takes_collective (surrounding.Entry e.lanes) u))
  collective s e = leaf true s _ _ e (λ path c h. absurd (never_taken path c h)) (λ path d h k w. absurd (true_false k)) (λ path o h. takes_here (at_path path) refl)

  barrier : (syncs : Bool) → Claims (plain_stmt syncs (t.Barrier syncs)) (alone (λ path. not syncs || takes_collective (surrounding.Entry e.lanes) u path))
  barrier true = leaf true (t.Barrier true) _ _ (placed_Barrier (Some e) u true) (λ path c h. absurd (never_taken path c h)) (λ path d h k w. absurd (true_false k)) (λ path o h. takes_here (at_path path) refl)
  barrier false = leaf false (t.Barrier false) _ _ (placed_Barrier (Some e) u false) (λ path c h. refl) (λ path d h k w. refl) (λ path o h. refl)

  or_not : (a b : Bool) → (a || b) ≡ true → b ≡ false → a ≡ true
  or_not true b h k = refl
  or_not false b h k = absurd (false_true (sym k ∙ h))

  declared : (ds : _) → Claims (plain_stmt false (t.Declare ds)) (alone (λ path. not (declares_last ds) || is_direct path))
  declared ds = leaf false (t.Declare ds) _ _ (placed_Declare (Some e) u ds) (λ path c h. refl) (λ path d h k w. or_left (not (declares_last ds)) w.direct (or_not (not (declares_last ds)) (is_direct path) h d)) (λ path o h. h)

  or_false : (a b : Bool) → (a || b) ≡ false → (a ≡ false) × (b ≡ false)
  or_false true b e = absurd (true_false e)
  or_false false b e = (refl, e)

  both_false : (a b : Bool) → a ≡ false → b ≡ false → (a || b) ≡ false
  both_false true b h k = absurd (true_false h)
  both_false false b h k = k

  -- ---- blocks

  module _ {B : Type 0} (q : B → TypedStmt) (holds : (b : B) → Claims (marked_stmt u (q b)) (allowed (surrounding.Entry e.lanes) u (q b))) where
    abbrev ms : List B → List MarkedStmt
    ms bs = map (marked_stmt u) (map q bs)

    abbrev all_at : List Region → List B → Bool
    all_at path bs = every (λ (a : Allowed). a.at path) (map (allowed (surrounding.Entry e.lanes) u) (map q bs))

    abbrev all_placed : Where → List TypedStmt → Bool
    all_placed w ss = every (λ (x : Placed). x.stands w) (map p ss)

    list_shut : (path : List Region) (bs : List B) → Closed path → all_at path bs ≡ true → any_holds (ms bs) ≡ false
    list_shut path [] c h = refl
    list_shut path (b ∷ bs) c h = both_false _ _ ((holds b).shut path c (and_left _ _ h)) (list_shut path bs c (and_right ((allowed (surrounding.Entry e.lanes) u (q b)).at path) _ h))

    list_quiet : (path : List Region) (bs : List B) (d : Bool) (w : Where) → is_direct path ≡ false → all_at path bs ≡ true → any_holds (ms bs) ≡ false → all_placed w (all_here d (ms bs)) ≡ true
    list_quiet path [] d w c h k = refl
    list_quiet path (b ∷ bs) d w c h k =
        let n = or_false (marked_stmt u (q b)).holds _ k in
        both (((holds b).quiet path c (and_left _ _ h) n.0).here d w) (list_quiet path bs d w c (and_right ((allowed (surrounding.Entry e.lanes) u (q b)).at path) _ h) n.1)

    list_open : (path : List Region) (bs : List B) → Open path → all_at path bs ≡ true → all_placed (at_path path) (all_here true (ms bs)) ≡ true
    list_open path [] o h = refl
    list_open path (b ∷ bs) o h = both ((holds b).open_at path o (and_left _ _ h)) (list_open path bs o (and_right ((allowed (surrounding.Entry e.lanes) u (q b)).at path) _ h))

    block_claims : (bs : List B) → Claims (mark_step u (TypedStmt-F.Block (ms bs))) (allowed_step (surrounding.Entry e.lanes) u (TypedStmt-F.Block (map (allowed (surrounding.Entry e.lanes) u) (map q bs))))
    block_claims bs =
        let inside : List Region → List Region = λ path. path ++ region.Block ∷ [] in
        let placed_as : (d : Bool) (w : Where) → all_placed (in_block w) (all_here d (ms bs)) ≡ true → (p (t.Block (all_here d (ms bs)))).stands w ≡ true = λ d w h. stands_as _ _ w (placed_Block (Some e) u (all_here d (ms bs))) h in
        record {
          block = refl;
          branch_block = ap (λ (x : Placed). x.block) (placed_Block (Some e) u (all_here true (ms bs)));
          shut = λ path c h. list_shut (inside path) bs (closed_more path region.Block c) h;
          quiet = λ path d h k. record {
            here = λ d2 w. placed_as false w (list_quiet (inside path) bs false (in_block w) (not_direct path region.Block) h k);
            branch = λ w. placed_as true w (list_quiet (inside path) bs true (in_block w) (not_direct path region.Block) h k);
          };
          open_at = λ path o h. placed_as false (at_path path) (list_quiet (inside path) bs false (in_block (at_path path)) (not_direct path region.Block) h (list_shut (inside path) bs (closed_block path o) h));
          chosen = λ path o b h. placed_as true as_branch (subst (λ (d : Bool). all_placed (record { direct = d; together = true; chosen = false; looped = false }) (all_here true (ms bs)) ≡ true) (not_direct path region.Block) (list_open (inside path) bs o h));
        }

  -- ---- branches

  abbrev ElseClaims : Option MarkedStmt → Option Allowed → Type 0
  ElseClaims None None = Unit {0}
  ElseClaims None (Some a) = ⊥
  ElseClaims (Some m) None = ⊥
  ElseClaims (Some m) (Some a) = Claims m a

  abbrev others_at : List Region → Option Allowed → Bool
  others_at path oa = if_any (λ (a : Allowed). a.at path) oa

  else_shut : (o : Option MarkedStmt) (oa : Option Allowed) (path : List Region) → ElseClaims o oa → Closed path → others_at path oa ≡ true → else_holds o ≡ false
  else_shut None None path g c h = refl
  else_shut None (Some a) path g c h = absurd g
  else_shut (Some m) None path g c h = absurd g
  else_shut (Some m) (Some a) path g c h = g.shut path c h

  abbrev others_stand : Where → Option TypedStmt → Bool
  others_stand w o = if_any (λ (x : Placed). x.stands w) (others_placed (Some e) u o)

  else_quiet : (o : Option MarkedStmt) (oa : Option Allowed) (path : List Region) (w : Where) → ElseClaims o oa → is_direct path ≡ false → others_at path oa ≡ true → else_holds o ≡ false → others_stand w (else_branch false o) ≡ true
  else_quiet None None path w g d h k = refl
  else_quiet None (Some a) path w g d h k = absurd g
  else_quiet (Some m) None path w g d h k = absurd g
  else_quiet (Some m) (Some a) path w g d h k = (g.quiet path d h k).here false w

  else_chosen : (o : Option MarkedStmt) (oa : Option Allowed) (path : List Region) → ElseClaims o oa → Open (path ++ region.Block ∷ []) → else_block o ≡ true → others_at path oa ≡ true → others_stand as_branch (else_branch true o) ≡ true
  else_chosen None None path g c b h = refl
  else_chosen None (Some a) path g c b h = absurd g
  else_chosen (Some m) None path g c b h = absurd g
  else_chosen (Some m) (Some a) path g c b h = g.chosen path c (sym g.block ∙ b) h

  else_blocks : (o : Option MarkedStmt) (oa : Option Allowed) → ElseClaims o oa → else_block o ≡ if_any (λ (a : Allowed). a.block) oa
  else_blocks None None g = refl
  else_blocks None (Some a) g = absurd g
  else_blocks (Some m) None g = absurd g
  else_blocks (Some m) (Some a) g = g.block

  else_placed : (o : Option MarkedStmt) (oa : Option Allowed) → ElseClaims o oa → else_block o ≡ true → if_any (λ (x : Placed). x.block) (others_placed (Some e) u (else_branch true o)) ≡ true
  else_placed None None g b = refl
  else_placed None (Some a) g b = absurd g
  else_placed (Some m) None g b = absurd g
  else_placed (Some m) (Some a) g b = g.branch_block ∙ sym g.block ∙ b

  -- ---- `if`

  module _ (attributes : List TypedAttribute) (c : TypedExpr) (m : MarkedStmt) (a : Allowed) (o : Option MarkedStmt) (oa : Option Allowed) (g : Claims m a) (k : ElseClaims o oa) where
    abbrev if_where : Bool → TypedStmt
    if_where marked = t.If attributes marked c (cond marked m.branch (m.here false)) (else_branch marked o)

    abbrev inner : List Region → List Region
    inner path = path ++ branch_of c a oa ∷ []

    placed_if : (marked : Bool) (w : Where) → (not marked || is_chosen (Some e) u c (p (cond marked m.branch (m.here false))) (others_placed (Some e) u (else_branch marked o)) w) ≡ true → (p (cond marked m.branch (m.here false))).stands (in_branch marked w) ≡ true
        → others_stand (in_branch marked w) (else_branch marked o) ≡ true → (p (if_where marked)).stands w ≡ true
    placed_if marked w x y z = stands_as (if_where marked) _ w (placed_If (Some e) u attributes marked c (cond marked m.branch (m.here false)) (else_branch marked o)) (both x (both y z))

    -- without marks, where no part is collective
    quiet_if : (path : List Region) (w : Where) → (a.at (inner path) && others_at (inner path) oa) ≡ true → m.holds ≡ false → else_holds o ≡ false → (p (if_where false)).stands w ≡ true
    quiet_if path w h x y = placed_if false w refl ((g.quiet (inner path) (not_direct path (branch_of c a oa)) (and_left (a.at (inner path)) _ h) x).here false (in_branch false w))
        (else_quiet o oa (inner path) (in_branch false w) k (not_direct path (branch_of c a oa)) (and_right (a.at (inner path)) _ h) y)

    if_shut : (path : List Region) → Closed path → (a.at (inner path) && others_at (inner path) oa) ≡ true → (m.holds || else_holds o) ≡ false
    if_shut path x h = both_false m.holds (else_holds o) (g.shut (inner path) (closed_more path (branch_of c a oa) x) (and_left (a.at (inner path)) _ h)) (else_shut o oa (inner path) k (closed_more path (branch_of c a oa) x) (and_right (a.at (inner path)) _ h))

    not_collective : (m.holds || else_holds o) ≡ false → is_collective_if u c m o ≡ false
    not_collective h = by_uniform (is_uniform u c) (m.holds || else_holds o) m.block (else_block o) h
      where
        by_uniform : (x y z v : Bool) → y ≡ false → (x && y && z && v) ≡ false
        by_uniform true true z v h = absurd (true_false h)
        by_uniform true false z v h = refl
        by_uniform false y z v h = refl

    -- the blocks of a collective `if`
    open_inner : (path : List Region) → Open path → is_uniform u c ≡ true → m.block ≡ true → else_block o ≡ true → Open (inner path ++ region.Block ∷ [])
    open_inner path x f b d more =
        ap (in_collective_blocks u) (joined (inner path) (region.Block ∷ []) more ∙ joined path (branch_of c a oa ∷ []) (region.Block ∷ more)) ∙ x (branch_of c a oa ∷ region.Block ∷ more)
        ∙ ap (λ y. y && (a.block && if_any (λ (a : Allowed). a.block) oa) && in_collective_blocks u more) f
        ∙ ap (λ y. (y && if_any (λ (a : Allowed). a.block) oa) && in_collective_blocks u more) (sym g.block ∙ b)
        ∙ ap (λ y. y && in_collective_blocks u more) (sym (else_blocks o oa k) ∙ d)

    closed_inner : (path : List Region) → Open path → (is_uniform u c && (a.block && if_any (λ (a : Allowed). a.block) oa)) ≡ false → Closed (inner path)
    closed_inner path x f more = ap (in_collective_blocks u) (joined path (branch_of c a oa ∷ []) more) ∙ x (branch_of c a oa ∷ more) ∙ by_more more
      where
        by_more : (more : List Region) → in_collective_blocks u (branch_of c a oa ∷ more) ≡ false
        by_more [] = refl
        by_more (region.Loop ∷ rest) = refl
        by_more (region.Branch test blocks ∷ rest) = refl
        by_more (region.Block ∷ rest) = ap (λ y. y && in_collective_blocks u rest) f

    open_if : (path : List Region) → Open path → (a.at (inner path) && others_at (inner path) oa) ≡ true → (p (if_where (is_collective_if u c m o))).stands (at_path path) ≡ true
    open_if path x h = by_mark (is_collective_if u c m o) refl
      where
        four : (x y z v : Bool) → (x && y && z && v) ≡ true → (x ≡ true) × (z ≡ true) × (v ≡ true)
        four true true true true h = (refl, refl, refl)
        four true true true false h = absurd (false_true h)
        four true true false v h = absurd (false_true h)
        four true false z v h = absurd (false_true h)
        four false y z v h = absurd (false_true h)

        unmarked : (x y z v b q : Bool) → z ≡ b → v ≡ q → (x && y && z && v) ≡ false → (x && (b && q)) ≡ true → y ≡ false
        unmarked true true true true b q e f h k = absurd (true_false h)
        unmarked true true true false b q e f h k = absurd (false_true (f ∙ and_right b q k))
        unmarked true true false v b q e f h k = absurd (false_true (e ∙ and_left b q k))
        unmarked true false z v b q e f h k = refl
        unmarked false y z v b q e f h k = absurd (false_true k)

        no_holds : is_collective_if u c m o ≡ false → (m.holds || else_holds o) ≡ false
        no_holds f = by_blocks (is_uniform u c && (a.block && if_any (λ (a : Allowed). a.block) oa)) refl
          where
            by_blocks : (b : Bool) → (is_uniform u c && (a.block && if_any (λ (a : Allowed). a.block) oa)) ≡ b → (m.holds || else_holds o) ≡ false
            by_blocks true q = unmarked (is_uniform u c) (m.holds || else_holds o) m.block (else_block o) a.block (if_any (λ (a : Allowed). a.block) oa) g.block (else_blocks o oa k) f q
            by_blocks false q = both_false m.holds (else_holds o) (g.shut (inner path) (closed_inner path x q) (and_left (a.at (inner path)) _ h)) (else_shut o oa (inner path) k (closed_inner path x q) (and_right (a.at (inner path)) _ h))

        by_mark : (b : Bool) → is_collective_if u c m o ≡ b → (p (if_where b)).stands (at_path path) ≡ true
        by_mark true f =
            let q = four (is_uniform u c) (m.holds || else_holds o) m.block (else_block o) f in
            let i = open_inner path x q.0 q.1 q.2 in
            placed_if true (at_path path) (both many (both refl (both q.0 (both (g.branch_block ∙ sym g.block ∙ q.1) (else_placed o oa k q.2)))))
            (g.chosen (inner path) i (sym g.block ∙ q.1) (and_left (a.at (inner path)) _ h)) (else_chosen o oa (inner path) k i q.2 (and_right (a.at (inner path)) _ h))
        by_mark false f =
            let n = or_false m.holds (else_holds o) (no_holds f) in
            quiet_if path (at_path path) h n.0 n.1

    abbrev if_marked : MarkedStmt
    if_marked = record { here = λ direct. if_where (direct && is_collective_if u c m o); branch = if_where false; holds = m.holds || else_holds o; block = false }

    if_claims : (marked : Bool) → Claims if_marked (alone (λ path. not marked && (a.at (inner path) && others_at (inner path) oa)))
    if_claims marked = record {
      block = refl;
      branch_block = ap (λ (x : Placed). x.block) (placed_If (Some e) u attributes false c (m.here false) (else_branch false o));
      shut = λ path x h. if_shut path x (and_right (not marked) _ h);
      quiet = λ path d h n.
          let l = or_false m.holds (else_holds o) n in
          let q = and_right (not marked) _ h in
          record { here = λ d2 w. subst (λ b. (p (if_where b)).stands w ≡ true) (sym (and_none d2 (is_collective_if u c m o) (not_collective n))) (quiet_if path w q l.0 l.1); branch = λ w. quiet_if path w q l.0 l.1 };
      open_at = λ path x h. open_if path x (and_right (not marked) _ h);
      chosen = λ path x b h. absurd (false_true b);
    }
      where
        and_none : (d b : Bool) → b ≡ false → (d && b) ≡ false
        and_none true b h = h
        and_none false b h = refl

  -- ---- loops

  while_claims : (attributes : List TypedAttribute) (c : TypedExpr) (m : MarkedStmt) (a : Allowed) → Claims m a
      → Claims (record { here = λ direct. t.While attributes c (m.here false); branch = t.While attributes c (m.here false); holds = m.holds; block = false }) (alone (λ path. a.at (path ++ region.Loop ∷ [])))
  while_claims attributes c m a g =
      let stands : (w : Where) → (p (m.here false)).stands in_loop ≡ true → (p (t.While attributes c (m.here false))).stands w ≡ true = λ w h. stands_as (t.While attributes c (m.here false)) _ w (placed_While (Some e) u attributes c (m.here false)) h in
      let quiet : (path : List Region) → a.at (path ++ region.Loop ∷ []) ≡ true → m.holds ≡ false → (w : Where) → (p (t.While attributes c (m.here false))).stands w ≡ true = λ path h n w. stands w ((g.quiet (path ++ region.Loop ∷ []) (not_direct path region.Loop) h n).here false in_loop) in
      record {
        block = refl;
        branch_block = ap (λ (x : Placed). x.block) (placed_While (Some e) u attributes c (m.here false));
        shut = λ path x h. g.shut (path ++ region.Loop ∷ []) (closed_more path region.Loop x) h;
        quiet = λ path d h n. record { here = λ d2 w. quiet path h n w; branch = λ w. quiet path h n w };
        open_at = λ path x h. quiet path h (g.shut (path ++ region.Loop ∷ []) (closed_loop path x) h) (at_path path);
        chosen = λ path x b h. absurd (false_true b);
      }

  for_claims : (attributes : List TypedAttribute) (begin : _) (c : Option TypedExpr) (steps : _) (m : MarkedStmt) (a : Allowed) → Claims m a
      → Claims (record { here = λ direct. t.For attributes begin c steps (m.here false); branch = t.For attributes begin c steps (m.here false); holds = m.holds; block = false }) (alone (λ path. if_any (λ s. not (begins_last s)) begin && a.at (path ++ region.Loop ∷ [])))
  for_claims attributes begin c steps m a g =
      let whole = t.For attributes begin c steps (m.here false) in
      let quiet : (path : List Region) → (if_any (λ s. not (begins_last s)) begin && a.at (path ++ region.Loop ∷ [])) ≡ true → m.holds ≡ false → (w : Where) → (p whole).stands w ≡ true = λ path h n w.
      stands_as whole _ w (placed_For (Some e) u attributes begin c steps (m.here false)) (both (and_left (if_any (λ s. not (begins_last s)) begin) _ h) ((g.quiet (path ++ region.Loop ∷ []) (not_direct path region.Loop) (and_right (if_any (λ s. not (begins_last s)) begin) _ h) n).here false in_loop)) in
      record {
        block = refl;
        branch_block = ap (λ (x : Placed). x.block) (placed_For (Some e) u attributes begin c steps (m.here false));
        shut = λ path x h. g.shut (path ++ region.Loop ∷ []) (closed_more path region.Loop x) (and_right (if_any (λ s. not (begins_last s)) begin) _ h);
        quiet = λ path d h n. record { here = λ d2 w. quiet path h n w; branch = λ w. quiet path h n w };
        open_at = λ path x h. quiet path h (g.shut (path ++ region.Loop ∷ []) (closed_loop path x) (and_right (if_any (λ s. not (begins_last s)) begin) _ h)) (at_path path);
        chosen = λ path x b h. absurd (false_true b);
      }

  -- ---- all statements

  abbrev al : TypedStmt → Allowed
  al = allowed (surrounding.Entry e.lanes) u

  layer_claims : {B : Type 0} (q : B → TypedStmt) (holds : (b : B) → Claims (marked_stmt u (q b)) (al (q b))) (y : TypedStmt-F B)
      → Claims (mark_step u (map-TypedStmt TypedStmt MarkedStmt (marked_stmt u) (map-TypedStmt B TypedStmt q y))) (allowed_step (surrounding.Entry e.lanes) u (map-TypedStmt TypedStmt Allowed al (map-TypedStmt B TypedStmt q y)))
  layer_claims q holds (TypedStmt-F.Block body) = block_claims q holds body
  layer_claims q holds TypedStmt-F.Empty = always t.Empty (placed_Empty (Some e) u)
  layer_claims q holds (TypedStmt-F.Declare ds) = declared ds
  layer_claims q holds (TypedStmt-F.Request handle group output element amount) = collective _ (placed_Request (Some e) u handle group output element amount)
  layer_claims q holds (TypedStmt-F.Increment group output element amount) = collective _ (placed_Increment (Some e) u group output element amount)
  layer_claims q holds (TypedStmt-F.Complete handle) = collective _ (placed_Complete (Some e) u handle)
  layer_claims q holds (TypedStmt-F.Barrier syncs) = barrier syncs
  layer_claims q holds (TypedStmt-F.Step s) = always _ (placed_Step (Some e) u s)
  layer_claims q holds TypedStmt-F.Break = always _ (placed_Break (Some e) u)
  layer_claims q holds TypedStmt-F.Continue = always _ (placed_Continue (Some e) u)
  layer_claims q holds (TypedStmt-F.Return v) = always _ (placed_Return (Some e) u v)
  layer_claims q holds (TypedStmt-F.If attributes marked c first None) = if_claims attributes c (marked_stmt u (q first)) (al (q first)) None None (holds first) tt marked
  layer_claims q holds (TypedStmt-F.If attributes marked c first (Some other)) = if_claims attributes c (marked_stmt u (q first)) (al (q first)) (Some (marked_stmt u (q other))) (Some (al (q other))) (holds first) (holds other) marked
  layer_claims q holds (TypedStmt-F.While attributes c body) = while_claims attributes c (marked_stmt u (q body)) (al (q body)) (holds body)
  layer_claims q holds (TypedStmt-F.For attributes begin c steps body) = for_claims attributes begin c steps (marked_stmt u (q body)) (al (q body)) (holds body)

  rolled_claims : (z : TypedStmt-F TypedStmt) → Claims (mark_step u (map-TypedStmt TypedStmt MarkedStmt (marked_stmt u) z)) (allowed_step (surrounding.Entry e.lanes) u (map-TypedStmt TypedStmt Allowed al z)) → Claims (marked_stmt u (roll-TypedStmt z)) (al (roll-TypedStmt z))
  rolled_claims z h =
      subst (λ m. Claims m (al (roll-TypedStmt z))) (sym (fold-roll-TypedStmt MarkedStmt (mark_step u) z))
      (subst (λ a. Claims (mark_step u (map-TypedStmt TypedStmt MarkedStmt (marked_stmt u) z)) a) (sym (fold-roll-TypedStmt Allowed (allowed_step (surrounding.Entry e.lanes) u) z)) h)

  claims : (s : TypedStmt) → Claims (marked_stmt u s) (al s)
  claims s = ind-TypedStmt (λ s. Claims (marked_stmt u s) (al s))
      (λ x y eq. subst (λ l. Claims (marked_stmt u (roll-TypedStmt l)) (al (roll-TypedStmt l))) eq (rolled_claims (map-TypedStmt _ TypedStmt (λ b. b.0) y) (layer_claims (λ b. b.0) (λ b. b.1) y)))
      s

  pub body_together : (ss : List TypedStmt) → every (λ (a : Allowed). a.at []) (map al ss) ≡ true → every (λ (x : Placed). x.stands in_body) (map p (all_here true (map (marked_stmt u) ss))) ≡ true
  body_together [] h = refl
  body_together (s ∷ ss) h = both ((claims s).open_at [] (λ more. refl) (and_left ((al s).at []) _ h)) (body_together ss (and_right ((al s).at []) _ h))
