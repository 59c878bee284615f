-- With nothing reserved the deepest unit with a live record has room.
use Rattle.std.proofs.Common.{◌≡◌, ◌≢◌, ℕ, zero, suc, ◌+◌, ◌*◌, ◌<◌, ◌≤◌, Bool, true, false, List, [], ◌∷◌, map, refl, ap, sym, ◌∙◌, subst, arith, Option, None, Some, unwrap_or}
use Rattle.std.specs.Prelude.{if◌then◌else◌, ◌==◌, ◌&&◌, nat_le, count_by, slice_get, Contains}
use Rattle.std.specs.Option.{option_map}
use Rattle.std.specs.List.{list_any}
use Rattle.std.proofs.lemmas.Bool.Decides.{nat_tests, Decides-eqb}
use Rattle.wg_words.specs.Each.{Each}
use Rattle.wg_machine.specs.declared.shape.Output.{Output}
use Rattle.wg_machine.specs.declared.shape.Shape.{Shape}
use Rattle.wg_machine.specs.declared.shape.Unit.{Unit}
use Rattle.wg_machine.specs.declared.launch.Live.{Live}
use Rattle.wg_machine.specs.Bytes.{used, KeepsSlots}
use Rattle.wg_machine.specs.Choice.{HasRoom, SomeHasRoom}
use Rattle.wg_machine.specs.GoodShape.{IsGoodShape, IsGoodOutput, IsGoodElement, IsGoodTarget}
use Rattle.wg_machine.specs.Need.{is_target, reaches, need_from, need_of, need, greatest, most}
use Rattle.wg_machine.specs.State.{State}
use Rattle.wg_machine.specs.Units.{depth_at}
use Rattle.wg_machine.proofs.Counts.{count_cons, any_passing}

need_within : (units : List Unit) (u v : ℕ) → unwrap_or (option_map (λ (n : Unit). need_of n v) (slice_get units u)) 0 ≤ greatest (map (λ (n : Unit). need_of n v) units)
need_within [] u v = omega arith
need_within (n ∷ units) zero v = omega arith
need_within (n ∷ units) (suc u) v = let h = need_within units u v in omega arith

-- what is needed of v is sent to it by some element
needs_reach : (outputs : List Output) (k : ℕ) (budgets : List ℕ) (v : ℕ) → 0 < need_from outputs k budgets v → (b : ℕ) × (reaches outputs b v ≡ true)
needs_reach outputs k [] v h = absurd (omega arith)
needs_reach outputs k (n ∷ budgets) v h = choice (λ l. needs_reach outputs (k + 1) budgets v l) (reaches outputs k v) refl h
  where
    choice : (0 < need_from outputs (k + 1) budgets v → (b : ℕ) × (reaches outputs b v ≡ true)) → (t : Bool) → reaches outputs k v ≡ t → 0 < (if t then n else 0) + need_from outputs (k + 1) budgets v → (b : ℕ) × (reaches outputs b v ≡ true)
    choice later true e l = (k, e)
    choice later false e l = later (omega arith)

second : (a b : Bool) → (a && b) ≡ true → b ≡ true
second true b h = h
second false b h = absurd (cc)

target_is : (v : ℕ) (t : Option ℕ) → is_target v t ≡ true → t ≡ Some v
target_is v None h = absurd (cc)
target_is v (Some t) h = ap (λ n. Some n) ((Decides-eqb t v).0 h)

-- a unit of which something is needed is deeper
needs_deeper : (shape : Shape) (u v : ℕ) → IsGoodShape shape → 0 < need shape u v → depth_at shape u < depth_at shape v
needs_deeper shape u v good h = go (slice_get shape.units u) refl h
  where
    deeper : (n : Unit) (o : Output) → IsGoodTarget shape n o v → n.depth < depth_at shape v
    deeper n o t = rw t.there t.deeper

    element : (n : Unit) (o : Output) (t : Option ℕ) → t ≡ Some v → IsGoodElement shape n o t → n.depth < depth_at shape v
    element n o t e has = deeper n o (subst (IsGoodElement shape n o) e has)

    output : (n : Unit) → Each (IsGoodOutput shape n) n.outputs → (b : ℕ) → reaches n.outputs b v ≡ true → n.depth < depth_at shape v
    output n each b r =
        let o = any_passing (λ (o : Output). (o.budget == b) && list_any (is_target v) o.elements) (IsGoodOutput shape n) n.outputs r each in
        let e = any_passing (is_target v) (IsGoodElement shape n o.element) o.element.elements (second (o.element.budget == b) (list_any (is_target v) o.element.elements) o.passes) o.has.elements in
        element n o.element e.element (target_is v e.element e.passes) e.has

    go : (n : Option Unit) → slice_get shape.units u ≡ n → 0 < unwrap_or (option_map (λ (n : Unit). need_of n v) n) 0 → unwrap_or (option_map (λ (n : Unit). n.depth) n) 0 < depth_at shape v
    go None e l = absurd (omega arith)
    go (Some n) e l =
        let r = needs_reach n.outputs 0 n.budgets v l in
        output n (good.units u n e).outputs r.0 r.1

-- a live record at the greatest depth
record Deepest (shape : Shape) (bag : List Live) : Type 0 where
  pub live : Live
  pub is_live : Contains bag live
  pub others : Each (λ (x : Live). depth_at shape x.unit ≤ depth_at shape live.unit) bag

all_above : (shape : Shape) (m n : ℕ) (bag : List Live) → m ≤ n → Each (λ (x : Live). depth_at shape x.unit ≤ m) bag → Each (λ (x : Live). depth_at shape x.unit ≤ n) bag
all_above shape m n [] h each = tt
all_above shape m n (x ∷ bag) h each = (let l = each.0 in omega arith, all_above shape m n bag h each.1)

deepest : (shape : Shape) (x : Live) (bag : List Live) → Deepest shape (x ∷ bag)
deepest shape x [] = record { live = x; is_live = (0, omega arith, refl); others = (omega arith, tt) }
deepest shape x (y ∷ bag) = choice (deepest shape y bag) (nat_le (depth_at shape y.unit) (depth_at shape x.unit)) refl
  where
    choice : (d : Deepest shape (y ∷ bag)) → (b : Bool) → nat_le (depth_at shape y.unit) (depth_at shape x.unit) ≡ b → Deepest shape (x ∷ y ∷ bag)
    choice d b e = pick (nat_le (depth_at shape d.live.unit) (depth_at shape x.unit)) refl
      where
        pick : (t : Bool) → nat_le (depth_at shape d.live.unit) (depth_at shape x.unit) ≡ t → Deepest shape (x ∷ y ∷ bag)
        pick true f =
            let l : depth_at shape d.live.unit ≤ depth_at shape x.unit = grind (arith, nat_tests) in
            record { live = x; is_live = (0, omega arith, refl); others = (omega arith, all_above shape _ _ (y ∷ bag) l d.others) }
        pick false f =
            let l : depth_at shape x.unit ≤ depth_at shape d.live.unit = grind (arith, nat_tests) in
            let c = d.is_live in
            record { live = d.live; is_live = (suc c.0, (let k = c.1 in omega arith), c.2); others = (l, d.others) }

-- no record is live at a unit that is deeper than all of them
none_used : (shape : Shape) (entries v d : ℕ) (bag : List Live) → Each (λ (x : Live). depth_at shape x.unit ≤ d) bag → d < depth_at shape v → count_by (λ (x : Live). (x.unit == v) && nat_le entries x.number) bag ≡ 0
none_used shape entries v d [] each h = refl
none_used shape entries v d (x ∷ bag) each h =
    let c = count_cons (λ (x : Live). (x.unit == v) && nat_le entries x.number) x bag in
    let ih = none_used shape entries v d bag each.1 h in
    choice (x.unit == v) refl (omega (arith, c, ih))
  where
    choice : (b : Bool) → (x.unit == v) ≡ b → count_by (λ (y : Live). (y.unit == v) && nat_le entries y.number) (x ∷ bag) ≡ (if (x.unit == v) && nat_le entries x.number then 1 else 0) → count_by (λ (y : Live). (y.unit == v) && nat_le entries y.number) (x ∷ bag) ≡ 0
    choice true e c =
        let q = ap (depth_at shape) ((Decides-eqb x.unit v).0 e) in
        let l = each.0 in
        absurd (omega (arith, q, l))
    choice false e c = c ∙ ap (λ b. if b && nat_le entries x.number then 1 else 0) e

times_one : (w m : ℕ) → 1 ≤ w → m ≤ w * m
times_one w m h = grind arith

pub has_room : (shape : Shape) (width entries : ℕ) (s : State) → IsGoodShape shape → 1 ≤ width → KeepsSlots shape width entries s → s.bag ≢ [] → SomeHasRoom shape width entries s
has_room shape width entries s good wide keeps some = start s.bag refl
  where
    room : (d : Deepest shape s.bag) → HasRoom shape width (used entries s) (λ v. 0) d.live.unit
    room d v = choice (need shape d.live.unit v) refl
      where
        choice : (n : ℕ) → need shape d.live.unit v ≡ n → used entries s v + 0 + need shape d.live.unit v ≤ width * most shape v
        choice zero e = let k = keeps v in omega (arith, e, k)
        choice (suc n) e =
            let l = needs_deeper shape d.live.unit v good (omega arith) in
            let u = none_used shape entries v (depth_at shape d.live.unit) s.bag d.others l in
            let w = need_within shape.units d.live.unit v in
            let t = times_one width (most shape v) wide in
            omega (arith, u, w, t)

    start : (bag : List Live) → s.bag ≡ bag → SomeHasRoom shape width entries s
    start [] e = absurd (some e)
    start (x ∷ bag) e =
        let d = subst (Deepest shape) (sym e) (deepest shape x bag) in
        record { live = d.live; is_live = d.is_live; room = room d }
