-- The choice of a core is allowed.
use Rattle.std.proofs.Common.{◌≡◌, ℕ, zero, suc, ◌+◌, ◌<◌, Bool, true, false, List, [], ◌∷◌, length, refl, ap, sym, ◌∙◌, subst, arith, unwrap_or}
use Rattle.std.specs.Prelude.{if◌then◌else◌, ◌==◌, ◌&&◌, filter, slice_get, take, take_while, nat_le}
use Rattle.std.specs.List.{prefix_len}
use Rattle.std.proofs.lemmas.Bool.Decides.{nat_tests, Decides-eqb}
use Rattle.wg_standing.specs.declared.pending.Pending.{Pending}
use Rattle.wg_machine.specs.declared.launch.Live.{Live}
use Rattle.wg_machine.specs.declared.shape.Shape.{Shape}
use Rattle.wg_standing.specs.Outs.{unopened, after_one}
use Rattle.wg_standing.specs.Standing.{EachFull, IsPlaced, by_unit, in_slot, is_entry_record}
use Rattle.wg_standing.specs.Core.{CoreView}
use Rattle.wg_standing.specs.Choice.{CanOpen, IsChoice, from_slots, from_entries, waiting_at, next_entries, first_unit}
use Rattle.wg_standing.proofs.Shapes.{takes_some}
use Rattle.wg_machine.specs.GoodShape.{IsGoodShape}
use Rattle.wg_standing.proofs.Choice.{IsSub, AllAt, sub_filter, sub_while, allowed_from}
use Rattle.wg_standing.proofs.Rising.{rises_unopened}
use Rattle.wg_standing.proofs.Bytes.{full_left}
use Rattle.wg_standing.proofs.Blocks.{by_unit_at}

pub full_unopened : (shape : Shape) (outs : List Pending) (bag : List Live) → EachFull shape bag → EachFull shape (unopened outs bag)
full_unopened shape [] bag f = f
full_unopened shape (o ∷ outs) bag f = full_unopened shape outs (after_one o bag) (full_left shape o.inputs o.at bag f)

both_first : (a b : Bool) → (a && b) ≡ true → a ≡ true
both_first true b e = refl
both_first false b e = e

slots_at : (handed u : ℕ) (xs : List Live) → AllAt u (filter (in_slot handed u) xs)
slots_at handed u [] = tt
slots_at handed u (x ∷ xs) = choice (in_slot handed u x) refl (slots_at handed u xs)
  where
    choice : (b : Bool) → in_slot handed u x ≡ b → AllAt u (filter (in_slot handed u) xs) → AllAt u (if b then x ∷ filter (in_slot handed u) xs else filter (in_slot handed u) xs)
    choice true e a = ((Decides-eqb x.unit u).0 (both_first (x.unit == u) (nat_le handed x.number) e), a)
    choice false e a = a

pub prefix_at : (u : ℕ) (xs : List Live) → AllAt u (take_while (λ (x : Live). x.unit == u) xs)
prefix_at u [] = tt
prefix_at u (x ∷ xs) = choice (x.unit == u) refl (prefix_at u xs)
  where
    choice : (b : Bool) → (x.unit == u) ≡ b → AllAt u (take (prefix_len (λ (y : Live). y.unit == u) xs) xs) → AllAt u (take (if b then 1 + prefix_len (λ (y : Live). y.unit == u) xs else 0) (x ∷ xs))
    choice true e a =
        let k : 1 + prefix_len (λ (y : Live). y.unit == u) xs ≡ suc (prefix_len (λ (y : Live). y.unit == u) xs) = omega arith in
        subst (λ (m : ℕ). AllAt u (take m (x ∷ xs))) (sym k) ((Decides-eqb x.unit u).0 e, a)
    choice false e a = tt

self_eq : (n : ℕ) → (n == n) ≡ true
self_eq n = grind (arith, nat_tests)

pub prefix_some : (xs : List Live) → 0 < length xs → 0 < length (take_while (λ (x : Live). x.unit == first_unit xs) xs)
prefix_some [] h = absurd (omega arith)
prefix_some (x ∷ xs) h =
    let k : 1 + prefix_len (λ (y : Live). y.unit == x.unit) xs ≡ suc (prefix_len (λ (y : Live). y.unit == x.unit) xs) = omega arith in
    subst (λ (b : Bool). 0 < length (take (if b then 1 + prefix_len (λ (y : Live). y.unit == x.unit) xs else 0) (x ∷ xs))) (sym (self_eq x.unit)) (subst (λ (m : ℕ). 0 < length (take m (x ∷ xs))) (sym k) (omega arith))

length_by_unit : (handed v n : ℕ) (xs : List Live) → length (by_unit handed v n xs) ≡ n
length_by_unit handed v zero xs = refl
length_by_unit handed v (suc n) xs = ap suc (length_by_unit handed (v + 1) n xs)

-- what waits at a unit is what is in its slots of what is not opened
pub waiting_is : (core : CoreView) (u : ℕ) → IsPlaced core core.bag → u < length core.waits → waiting_at core u ≡ filter (in_slot core.handed u) (unopened core.outs core.bag)
waiting_is core u p h =
    let n = length core.shape.units in
    let ready = unopened core.outs core.bag in
    let within : u < n = let b = ap (λ (ws : List (List Live)). length ws) p.waits in let c = length_by_unit core.handed 0 n ready in omega (arith, h, b, c) in
    let z : 0 + u ≡ u = omega arith in
    ap (λ (ws : List (List Live)). unwrap_or (slice_get ws u) []) p.waits ∙ by_unit_at core.handed 0 n u ready within ∙ ap (λ (v : ℕ). filter (in_slot core.handed v) ready) z

pub choice_fine : (core : CoreView) (o : Pending) → IsGoodShape core.shape → IsPlaced core core.bag → IsChoice core o → CanOpen core o
choice_fine core o good p (from_slots u pick) =
    let ready = unopened core.outs core.bag in
    let waits = waiting_is core u p pick.within in
    record {
      allowed = allowed_from core.tickets core.shape u 0 core.next (waiting_at core u) ready (subst (λ (xs : List Live). IsSub xs ready) (sym waits) (sub_filter (in_slot core.handed u) ready)) (rises_unopened 0 core.next core.outs core.bag p.rises) (full_unopened core.shape core.outs core.bag p.full) (subst (AllAt u) (sym waits) (slots_at core.handed u ready)) pick.waits (takes_some core.shape good u);
      room = pick.room;
      ticket = refl;
    }
choice_fine core o good p (from_entries unpicked enters) =
    let ready = unopened core.outs core.bag in
    let u = first_unit core.entries in
    let sub : IsSub core.entries ready = subst (λ (xs : List Live). IsSub xs ready) (sym p.entries) (sub_filter (is_entry_record core.handed) ready) in
    record {
      allowed = allowed_from core.tickets core.shape u 0 core.next (next_entries core) ready (sub_while (λ (x : Live). x.unit == u) core.entries ready sub) (rises_unopened 0 core.next core.outs core.bag p.rises) (full_unopened core.shape core.outs core.bag p.full) (prefix_at u core.entries) (prefix_some core.entries enters.some) (takes_some core.shape good u);
      room = enters.room;
      ticket = refl;
    }
