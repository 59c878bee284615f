-- The launch of now of a launch that the bag of a keep allows.
use Rattle.std.proofs.Common.{◌≡◌, ◌≢◌, ℕ, suc, ◌+◌, ◌≤◌, Bool, true, false, List, [], ◌∷◌, length, map, refl, ap, sym, ◌∙◌, subst, arith, None, Option, Some, ◌⊎◌, inl, inr, unwrap_or}
use Rattle.std.specs.Prelude.{slice_get, IsTrue}
use Rattle.std.specs.Option.{option_map}
use Rattle.wg_words.specs.Each.{Each}
use Rattle.wg_machine.specs.declared.launch.Launch.{Launch}
use Rattle.wg_machine.specs.declared.launch.Live.{Live}
use Rattle.wg_machine.specs.declared.launch.Record.{Record}
use Rattle.wg_machine.specs.declared.shape.Kind.{Kind}
use Rattle.wg_machine.specs.declared.shape.Kind.TheVariants.{Thread, Coalescing, Grid, GridField}
use Rattle.wg_machine.specs.declared.shape.Shape.{Shape}
use Rattle.wg_machine.specs.declared.shape.Unit.{Unit as Node}
use Rattle.wg_machine.specs.GoodShape.{IsGoodShape}
use Rattle.wg_machine.specs.LaunchMeaning.{FitsShape}
use Rattle.wg_machine.specs.Step.{has_number, numbers_of, record_of, taken}
use Rattle.wg_machine.specs.Units.{is_broadcasting, kind_at, most_inputs, shared_at}
use Rattle.wg_standing.specs.declared.pending.Pending.{Pending}
use Rattle.wg_standing.specs.Outs.{IsAllowed, launch_now}
use Rattle.wg_store.specs.declared.item.Item.{Item}
use Rattle.wg_store.specs.Items.{AreIn, ItemsRise, item_in, lives}
use Rattle.wg_store.specs.Keep.{IsKept, IsTold, Kept, items_of, view_of}
use Rattle.wg_store.proofs.Found.{IsOf, each_filter, launch_is, lives_are}
use Rattle.wg_store.proofs.Taken.{rises_places}

pub all_rise : (k : Kept) → IsKept k → ItemsRise 0 (items_of k) k.next
all_rise k s = let z : 0 + length k.entries ≡ length k.entries = omega arith in rises_places 0 k.next k.entries k.slots s.places (subst (λ (m : ℕ). ItemsRise m k.slots k.next) (sym z) s.rises)

are_in : (outs : List Pending) (items : List Item) (ys : List Live) → Each (IsOf outs items 0) ys → AreIn (numbers_of (map record_of ys)) items
are_in outs items [] each = tt
are_in outs items (y ∷ ys) each = (some (item_in y.number items) each.0.item each.0.there, are_in outs items ys each.1)
  where
    some : (o : Option Item) (x : Item) → o ≡ Some x → o ≢ None
    some o x e f = absurd (cc)

-- a unit that shares its records takes one at a time
shared_single : (shape : Shape) (u : ℕ) → IsGoodShape shape → shared_at shape u ≡ true → most_inputs (kind_at shape u) ≡ 1
shared_single shape u good e = go (slice_get shape.units u) refl e
  where
    one : (kind : Kind) → IsTrue (is_broadcasting kind) → most_inputs kind ≡ 1
    one Thread t = refl
    one (Coalescing most) t = absurd (cc)
    one (Grid x y z) t = refl
    one (GridField f p x y z) t = refl

    go : (o : Option Node) → slice_get shape.units u ≡ o → unwrap_or (option_map (λ (n : Node). n.shared) o) false ≡ true → most_inputs (unwrap_or (option_map (λ (n : Node). n.kind) (slice_get shape.units u)) Thread) ≡ 1
    go None there f = absurd (cc)
    go (Some node) there f = ap (λ (o : Option Node). most_inputs (unwrap_or (option_map (λ (n : Node). n.kind) o) Thread)) there ∙ one node.kind ((good.units u node there).shared f)

either : (b : Bool) → (b ≡ true) ⊎ (b ≡ false)
either true = inl refl
either false = inr refl

pub told_is : (k : Kept) (o : Pending) → IsKept k → IsAllowed k.shape (view_of k).bag o → FitsShape k.shape (launch_now k.shape (view_of k).bag o) → IsTold k o
told_is k o s allowed fits =
    let items = items_of k in
    let ys = taken o.inputs (lives k.outs items) in
    let each = each_filter (IsOf k.outs items 0) (λ (r : Live). has_number o.inputs r.number) (lives k.outs items) (lives_are k.outs 0 k.next items (all_rise k s)) in
    let many : length (map record_of ys) ≡ length o.inputs = long (map record_of ys) ∙ ap (λ (ns : List ℕ). length ns) allowed.named in
    let least = fits.some in
    let most = fits.few in
    let some : 1 ≤ length o.inputs = omega (arith, many, least) in
    let single : (length o.inputs ≤ 1) ⊎ (shared_at k.shape o.unit ≡ false) = elim (either (shared_at k.shape o.unit)) [
      | inl e ↦ inl (let n = shared_single k.shape o.unit s.good e in omega (arith, n, many, most))
      | inr e ↦ inr e
    ] in
    let is = launch_is k.shape k.outs items 0 k.next o (all_rise k s) s.counted allowed.named single some in
    let group = fits.group in
    let few = fits.grid_few in
    let place = ap (λ (l : Launch). l.group) is in
    record {
      there = subst (λ (ns : List ℕ). AreIn ns items) allowed.named (are_in k.outs items ys each);
      some = some;
      group = omega (arith, group, few, place);
      is = is;
    }
  where
    long : (rs : List Record) → length rs ≡ length (numbers_of rs)
    long [] = refl
    long (r ∷ rs) = ap suc (long rs)
