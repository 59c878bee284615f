-- What a good shape says of needs, depths and kinds.
use Rattle.std.proofs.Common.{◌≡◌, ℕ, zero, suc, ◌+◌, ◌<◌, ◌≤◌, Bool, true, false, ◌||◌, List, [], ◌∷◌, length, map, refl, ap, subst, arith, Option, None, Some, unwrap_or}
use Rattle.std.specs.Prelude.{if◌then◌else◌, ◌==◌, ◌&&◌, slice_get}
use Rattle.std.specs.Option.{option_map}
use Rattle.std.specs.List.{list_any}
use Rattle.std.proofs.lemmas.Bool.Decides.{Decides-eqb}
use Rattle.wg_words.specs.Each.{Each}
use Rattle.wg_machine.specs.declared.shape.Kind.{Kind}
use Rattle.wg_machine.specs.declared.shape.Kind.TheVariants.{Thread, Coalescing, Grid, GridField}
use Rattle.wg_machine.specs.declared.shape.Output.{Output}
use Rattle.wg_machine.specs.declared.shape.Shape.{Shape}
use Rattle.wg_machine.specs.declared.shape.Unit.{Unit as Node}
use Rattle.wg_machine.specs.GoodShape.{IsGoodShape, IsGoodKind, IsGoodOutput, IsGoodElement, IsGoodTarget}
use Rattle.wg_machine.specs.Need.{is_target, reaches, need_from, need_of, need, greatest, most}
use Rattle.wg_machine.specs.Units.{depth_at, kind_at, words_at, most_inputs}

-- some element passes, with what each has
record Passing {X : Type 0} (p : X → Bool) (P : X → Type 0) : Type 0 where
  pub element : X
  pub passes : p element ≡ true
  pub has : P element

any_passing : {X : Type 0} → (p : X → Bool) (P : X → Type 0) (xs : List X) → list_any p xs ≡ true → Each P xs → Passing p P
any_passing p P [] h each = absurd (cc)
any_passing p P (x ∷ xs) h each = choice (λ g. any_passing p P xs g each.1) (p x) refl h
  where
    choice : (list_any p xs ≡ true → Passing p P) → (b : Bool) → p x ≡ b → b || list_any p xs ≡ true → Passing p P
    choice rest true e g = record { element = x; passes = e; has = each.0 }
    choice rest false e g = rest g

-- what is needed of v is sent to it by some element
needs_reach : (outputs : List Output) (k : ℕ) (budgets : List ℕ) (v : ℕ) → 0 < need_from outputs k budgets v → (b : ℕ) × (reaches outputs b v ≡ true)
needs_reach outputs k [] v h = absurd (omega arith)
needs_reach outputs k (n ∷ budgets) v h = choice (λ l. needs_reach outputs (k + 1) budgets v l) (reaches outputs k v) refl h
  where
    choice : (0 < need_from outputs (k + 1) budgets v → (b : ℕ) × (reaches outputs b v ≡ true)) → (t : Bool) → reaches outputs k v ≡ t → 0 < (if t then n else 0) + need_from outputs (k + 1) budgets v → (b : ℕ) × (reaches outputs b v ≡ true)
    choice later true e l = (k, e)
    choice later false e l = later (omega arith)

second : (a b : Bool) → (a && b) ≡ true → b ≡ true
second true b h = h
second false b h = absurd (cc)

target_is : (v : ℕ) (t : Option ℕ) → is_target v t ≡ true → t ≡ Some v
target_is v None h = absurd (cc)
target_is v (Some t) h = ap (λ n. Some n) ((Decides-eqb t v).0 h)

-- the unit u of which something is needed at v, and v
record IsDeeper (shape : Shape) (u v : ℕ) : Type 0 where
  pub node : Node
  pub node_there : slice_get shape.units u ≡ Some node
  pub target : Node
  pub target_there : slice_get shape.units v ≡ Some target
  pub deeper : node.depth < target.depth

deeper_of : (shape : Shape) (u v : ℕ) → IsGoodShape shape → 0 < need shape u v → IsDeeper shape u v
deeper_of shape u v good h = go (slice_get shape.units u) refl h
  where
    element : (n : Node) → slice_get shape.units u ≡ Some n → (o : Output) (t : Option ℕ) → t ≡ Some v → IsGoodElement shape n o t → IsDeeper shape u v
    element n there o t e has =
        let good_target : IsGoodTarget shape n o v = subst (IsGoodElement shape n o) e has in
        record { node = n; node_there = there; target = good_target.target; target_there = good_target.there; deeper = good_target.deeper }

    output : (n : Node) → slice_get shape.units u ≡ Some n → Each (IsGoodOutput shape n) n.outputs → (b : ℕ) → reaches n.outputs b v ≡ true → IsDeeper shape u v
    output n there each b r =
        let o = any_passing (λ (o : Output). (o.budget == b) && list_any (is_target v) o.elements) (IsGoodOutput shape n) n.outputs r each in
        let e = any_passing (is_target v) (IsGoodElement shape n o.element) o.element.elements (second (o.element.budget == b) (list_any (is_target v) o.element.elements) o.passes) o.has.elements in
        element n there o.element e.element (target_is v e.element e.passes) e.has

    go : (n : Option Node) → slice_get shape.units u ≡ n → 0 < unwrap_or (option_map (λ (n : Node). need_of n v) n) 0 → IsDeeper shape u v
    go None e l = absurd (omega arith)
    go (Some n) e l =
        let r = needs_reach n.outputs 0 n.budgets v l in
        output n e (good.units u n e).outputs r.0 r.1

-- a unit of which something is needed is deeper
pub needs_deeper : (shape : Shape) (u v : ℕ) → IsGoodShape shape → 0 < need shape u v → depth_at shape u < depth_at shape v
needs_deeper shape u v good h = let d = deeper_of shape u v good h in rw (d.node_there, d.target_there) d.deeper

pub get_below : {X : Type 0} → (xs : List X) (i : ℕ) (x : X) → slice_get xs i ≡ Some x → i < length xs
get_below [] i x e = absurd (cc)
get_below (y ∷ xs) zero x e = omega arith
get_below (y ∷ xs) (suc i) x e = let h = get_below xs i x e in omega arith

-- what is needed is a unit
pub needed_within : (shape : Shape) (u v : ℕ) → IsGoodShape shape → 0 < need shape u v → v < length shape.units
needed_within shape u v good h = let d = deeper_of shape u v good h in get_below shape.units v d.target d.target_there

-- nothing is needed of what is no unit
pub need_none : (shape : Shape) (u v : ℕ) → IsGoodShape shape → length shape.units ≤ v → need shape u v ≡ 0
need_none shape u v good h = choice (need shape u v) refl
  where
    choice : (n : ℕ) → need shape u v ≡ n → n ≡ 0
    choice zero e = refl
    choice (suc n) e = let l = needed_within shape u v good (omega arith) in absurd (omega arith)

need_at : (units : List Node) (u v : ℕ) → unwrap_or (option_map (λ (n : Node). need_of n v) (slice_get units u)) 0 ≤ greatest (map (λ (n : Node). need_of n v) units)
need_at [] u v = omega arith
need_at (n ∷ units) zero v = omega arith
need_at (n ∷ units) (suc u) v = let h = need_at units u v in omega arith

-- no unit needs more of v than the most
pub needs_no_more : (shape : Shape) (u v : ℕ) → need shape u v ≤ most shape v
needs_no_more shape u v = need_at shape.units u v

-- the kind of what is no unit is good too
pub kind_good : (shape : Shape) (u : ℕ) → IsGoodShape shape → IsGoodKind (words_at shape u) (kind_at shape u)
kind_good shape u good = go (slice_get shape.units u) refl
  where
    go : (n : Option Node) → slice_get shape.units u ≡ n → IsGoodKind (unwrap_or (option_map (λ (n : Node). n.words) n) 0) (unwrap_or (option_map (λ (n : Node). n.kind) n) Thread)
    go None e = tt
    go (Some n) e = (good.units u n e).kind

some_inputs : (words : ℕ) (k : Kind) → IsGoodKind words k → 1 ≤ most_inputs k
some_inputs words Thread g = omega arith
some_inputs words (Coalescing m) g = g.low
some_inputs words (Grid x y z) g = omega arith
some_inputs words (GridField f n x y z) g = omega arith

-- each unit takes at least one record
pub takes_some : (shape : Shape) → IsGoodShape shape → (u : ℕ) → 1 ≤ most_inputs (kind_at shape u)
takes_some shape good u = some_inputs (words_at shape u) (kind_at shape u) (kind_good shape u good)
