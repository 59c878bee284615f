-- What a statement is to a launch, by its parts.
use Rattle.std.proofs.Common.{◌≡◌, ◌≢◌, ◌==◌, not, arith, ℕ, Bool, true, false, List, [], ◌∷◌, map, Option, refl, sym, ap, ◌∙◌, subst}
use Rattle.std.proofs.lemmas.Bool.Decides.{nat_tests}
use Rattle.std.specs.Prelude.{option_map, Some, None, if◌then◌else◌}
use Rattle.wg_typed.specs.declared.typed_expr.TypedExpr.{TypedExpr}
use Rattle.wg_typed.specs.declared.typed_stmt.TypedAttribute.{TypedAttribute}
use Rattle.wg_typed.specs.declared.typed_stmt.TypedStmt.{TypedStmt, roll-TypedStmt, ind-TypedStmt, map-TypedStmt}
use Rattle.wg_typed.specs.declared.typed_stmt.TypedStmt.TheVariants as stmt
use Rattle.wg_typed.specs.declared.typed_stmt.TypedStmt.TheFolds.{fold-roll-TypedStmt}
use Rattle.wg_typed.specs.declared.typed_stmt.TypedStmt.TheOpen.{TypedStmt-F}
use Rattle.wg_semantics.specs.LaunchMeaning.{OnLanes, Doing, Part, Plain, Collective, declares_last, part_step, part_of, statement_of, form_runs, form_of, body_runs, chosen, by_word, first_test, other_runs, lanes_run}
use Rattle.wg_semantics.specs.declared.state.Lane.{Lane}
use Rattle.wg_words.specs.Truth.{is_true}
use Rattle.wg_state.specs.declared.world.World.{World}
use Rattle.wg_state.specs.Turns.{Done, Action, and_then}
use Rattle.wg_machine.specs.declared.bodies.Halt.{Halt}
use Rattle.wg_machine.specs.declared.bodies.Halt.TheVariants as halt
use Rattle.wg_evaluation.specs.Says.{Stops}
use Rattle.wg_launch.specs.ByLanes.{by_lanes_step, goes_by_lanes}

is_true_at : (n : ℕ) → n ≢ 0 → is_true n ≡ true
is_true_at n m = let e : (n == 0) ≡ false = grind (arith, nat_tests) in ap not e

module _ (doing : Doing) where
  abbrev Kept : TypedStmt → Type 0
  Kept s = (part_of doing s).statement ≡ s

  module _ {C : Type 0} (p : C → TypedStmt) (all : (c : C) → Kept (p c)) where
    list_kept : (cs : List C) → map (λ (q : Part). q.statement) (map (part_of doing) (map p cs)) ≡ map p cs
    list_kept [] = refl
    list_kept (c ∷ cs) = ap (λ x. x ∷ map (λ (q : Part). q.statement) (map (part_of doing) (map p cs))) (all c) ∙ ap (λ l. p c ∷ l) (list_kept cs)

    layer_kept : (y : TypedStmt-F C) → map-TypedStmt Part TypedStmt (λ q. q.statement) (map-TypedStmt TypedStmt Part (part_of doing) (map-TypedStmt C TypedStmt p y)) ≡ map-TypedStmt C TypedStmt p y
    layer_kept (TypedStmt-F.Block body) = ap TypedStmt-F.Block (list_kept body)
    layer_kept TypedStmt-F.Empty = refl
    layer_kept (TypedStmt-F.Declare declared) = refl
    layer_kept (TypedStmt-F.Request handle group output element amount) = refl
    layer_kept (TypedStmt-F.Increment group output element amount) = refl
    layer_kept (TypedStmt-F.Complete handle) = refl
    layer_kept (TypedStmt-F.Barrier syncs) = refl
    layer_kept (TypedStmt-F.Step step) = refl
    layer_kept TypedStmt-F.Break = refl
    layer_kept TypedStmt-F.Continue = refl
    layer_kept (TypedStmt-F.Return value) = refl
    layer_kept (TypedStmt-F.If a c e x None) = ap (λ s. TypedStmt-F.If a c e s None) (all x)
    layer_kept (TypedStmt-F.If a c e x (Some z)) = ap (λ s. TypedStmt-F.If a c e s (Some (part_of doing (p z)).statement)) (all x) ∙ ap (λ s. TypedStmt-F.If a c e (p x) (Some s)) (all z)
    layer_kept (TypedStmt-F.While a e x) = ap (λ s. TypedStmt-F.While a e s) (all x)
    layer_kept (TypedStmt-F.For a b e l x) = ap (λ s. TypedStmt-F.For a b e l s) (all x)

  -- a statement that is seen as a part is kept as it is
  pub kept : (s : TypedStmt) → Kept s
  kept s = ind-TypedStmt Kept
      (λ x y eq. subst (λ l. Kept (roll-TypedStmt l)) eq
      (ap (λ (q : Part). q.statement) (fold-roll-TypedStmt Part (part_step doing) _) ∙ ap roll-TypedStmt (layer_kept (λ c. c.0) (λ c. c.1) y)))
      s

  rolled : (l : TypedStmt-F TypedStmt) → part_of doing (roll-TypedStmt l) ≡ part_step doing (map-TypedStmt TypedStmt Part (part_of doing) l)
  rolled l = fold-roll-TypedStmt Part (part_step doing) l

  -- a statement that is no block and no collective `if` is run lane by lane
  alone : (l : TypedStmt-F TypedStmt) → statement_of (map-TypedStmt TypedStmt Part (part_of doing) l) ≡ roll-TypedStmt l
  alone l = ap (λ (q : Part). q.statement) (sym (rolled l)) ∙ kept (roll-TypedStmt l)

  either_runs : (b : Bool) (s : TypedStmt) → form_runs doing s (if b then Collective else Plain) ≡ lanes_run (doing.body (s ∷ [])) 0
  either_runs true s = refl
  either_runs false s = refl

  abbrev ByLanes : TypedStmt → Type 0
  ByLanes s = goes_by_lanes s ≡ true → (part_of doing s).runs ≡ lanes_run (doing.body (s ∷ [])) 0

  -- where the layer's form is no block and no marked `if`
  in_layer : (l : TypedStmt-F TypedStmt) → form_runs doing (statement_of (map-TypedStmt TypedStmt Part (part_of doing) l)) (form_of (map-TypedStmt TypedStmt Part (part_of doing) l)) ≡ lanes_run (doing.body (statement_of (map-TypedStmt TypedStmt Part (part_of doing) l) ∷ [])) 0 → (part_of doing (roll-TypedStmt l)).runs ≡ lanes_run (doing.body (roll-TypedStmt l ∷ [])) 0
  in_layer l e = ap (λ (q : Part). q.runs) (rolled l) ∙ e ∙ ap (λ s. lanes_run (doing.body (s ∷ [])) 0) (alone l)

  stepped : (l : TypedStmt-F TypedStmt) → goes_by_lanes (roll-TypedStmt l) ≡ by_lanes_step (map-TypedStmt TypedStmt Bool goes_by_lanes l)
  stepped l = fold-roll-TypedStmt Bool by_lanes_step l

  layer_by_lanes : (l : TypedStmt-F TypedStmt) → ByLanes (roll-TypedStmt l)
  layer_by_lanes (TypedStmt-F.Block body) e = absurd (let h : false ≡ true = sym (stepped (TypedStmt-F.Block body)) ∙ e in cc)
  layer_by_lanes TypedStmt-F.Empty e = in_layer TypedStmt-F.Empty refl
  layer_by_lanes (TypedStmt-F.Declare declared) e = in_layer (TypedStmt-F.Declare declared) (either_runs (declares_last declared) _)
  layer_by_lanes (TypedStmt-F.Request handle group output element amount) e = in_layer (TypedStmt-F.Request handle group output element amount) refl
  layer_by_lanes (TypedStmt-F.Increment group output element amount) e = in_layer (TypedStmt-F.Increment group output element amount) refl
  layer_by_lanes (TypedStmt-F.Complete handle) e = in_layer (TypedStmt-F.Complete handle) refl
  layer_by_lanes (TypedStmt-F.Barrier syncs) e = in_layer (TypedStmt-F.Barrier syncs) (either_runs syncs _)
  layer_by_lanes (TypedStmt-F.Step step) e = in_layer (TypedStmt-F.Step step) refl
  layer_by_lanes TypedStmt-F.Break e = in_layer TypedStmt-F.Break refl
  layer_by_lanes TypedStmt-F.Continue e = in_layer TypedStmt-F.Continue refl
  layer_by_lanes (TypedStmt-F.Return value) e = in_layer (TypedStmt-F.Return value) refl
  layer_by_lanes (TypedStmt-F.If a true t x o) e = absurd (let h : false ≡ true = sym (stepped (TypedStmt-F.If a true t x o)) ∙ e in cc)
  layer_by_lanes (TypedStmt-F.If a false t x o) e = in_layer (TypedStmt-F.If a false t x o) refl
  layer_by_lanes (TypedStmt-F.While a t x) e = in_layer (TypedStmt-F.While a t x) refl
  layer_by_lanes (TypedStmt-F.For a b t l x) e = in_layer (TypedStmt-F.For a b t l x) refl

  pub by_lanes_is : (s : TypedStmt) → ByLanes s
  by_lanes_is s = ind-TypedStmt ByLanes (λ x y eq. subst (λ l. ByLanes (roll-TypedStmt l)) eq (layer_by_lanes _)) s

  pub block_is : (body : List TypedStmt) → (part_of doing (stmt.Block body)).runs ≡ body_runs doing body
  block_is body = ap (λ s. (part_of doing s).runs) (sym (stmt.rolls-Block body)) ∙ ap (λ (q : Part). q.runs) (rolled (TypedStmt-F.Block body))

  pub choice_is : (a : List TypedAttribute) (e : TypedExpr) (x : TypedStmt) (o : Option TypedStmt) → (part_of doing (stmt.If a true e x o)).runs ≡ chosen (doing.test e) (part_of doing x).runs (other_runs (option_map (part_of doing) o))
  choice_is a e x None = ap (λ s. (part_of doing s).runs) (sym (stmt.rolls-If a true e x None)) ∙ ap (λ (q : Part). q.runs) (rolled (TypedStmt-F.If a true e x None))
  choice_is a e x (Some z) = ap (λ s. (part_of doing s).runs) (sym (stmt.rolls-If a true e x (Some z))) ∙ ap (λ (q : Part). q.runs) (rolled (TypedStmt-F.If a true e x (Some z)))

  module _ (s : TypedStmt) (lanes : List Lane) (w : World) (t : ℕ) where
    pub runs_block : (body y : List TypedStmt) → y ≡ body → s ≡ stmt.Block body → body_runs doing y lanes w t ≡ (part_of doing s).runs lanes w t
    runs_block body y same is =
        ap (λ l. body_runs doing l lanes w t) same ∙ ap (λ (m : OnLanes). m lanes w t) (sym (block_is body)) ∙ ap (λ z. (part_of doing z).runs lanes w t) (sym is)

    module _ (a : List TypedAttribute) (c : Bool) (e : TypedExpr) (x : TypedStmt) (o : Option TypedStmt) (is : s ≡ stmt.If a c e x o) (yes : c ≡ true) where
      abbrev branches : ℕ × List Lane → Action World (List Lane)
      branches = by_word (part_of doing x).runs (other_runs (option_map (part_of doing) o))

      layer : (part_of doing s).runs lanes w t ≡ and_then (first_test (doing.test e) lanes w t) branches
      layer =
          ap (λ z. (part_of doing z).runs lanes w t) is
          ∙ ap (λ b. (part_of doing (stmt.If a b e x o)).runs lanes w t) yes
          ∙ ap (λ (m : OnLanes). m lanes w t) (choice_is a e x o)

      pub choice_stops : (h : Halt) → Stops (first_test (doing.test e) lanes w t) h → Stops ((part_of doing s).runs lanes w t) h
      choice_stops halt.Memory stops = tt
      choice_stops halt.Turns stops = layer ∙ ap (λ o. and_then o branches) stops

      module _ (word : ℕ) (l1 : List Lane) (w1 : World) (t1 : ℕ) (d : first_test (doing.test e) lanes w t ≡ Done (word, l1) w1 t1) where
        pub choice_first : (y : TypedStmt) → y ≡ x → word ≢ 0 → (part_of doing y).runs l1 w1 t1 ≡ (part_of doing s).runs lanes w t
        choice_first y same n =
            ap (λ z. (part_of doing z).runs l1 w1 t1) same
            ∙ sym (ap (λ b. (if b then (part_of doing x).runs l1 else other_runs (option_map (part_of doing) o) l1) w1 t1) (is_true_at word n))
            ∙ sym (ap (λ r. and_then r branches) d)
            ∙ sym layer

        pub choice_other : word ≡ 0 → other_runs (option_map (part_of doing) o) l1 w1 t1 ≡ (part_of doing s).runs lanes w t
        choice_other z =
            sym (ap (λ n. by_word (part_of doing x).runs (other_runs (option_map (part_of doing) o)) (n, l1) w1 t1) z)
            ∙ sym (ap (λ r. and_then r branches) d)
            ∙ sym layer
