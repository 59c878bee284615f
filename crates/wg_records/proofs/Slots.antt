-- The slot of a record, from its birth on.
use Rattle.std.proofs.Common.{◌≡◌, ℕ, ◌+◌, Bool, true, false, List, length, refl, ap, sym, ◌∙◌, arith}
use Rattle.std.specs.Prelude.{if◌then◌else◌, ◌&&◌, ◌||◌, not, is_some, Option, Some, unwrap_or}
use Rattle.std.specs.Map.{lookup}
use Rattle.std.proofs.lemmas.Bool.Decides.{nat_tests}
use Rattle.wg_machine.specs.declared.launch.Live.{Live}
use Rattle.wg_machine.specs.declared.launch.Sent.{Sent}
use Rattle.wg_machine.specs.declared.shape.Shape.{Shape}
use Rattle.wg_machine.specs.Grids.{groups_of, grid_of, has_group, same_group, without_group}
use Rattle.wg_machine.specs.Run.{times}
use Rattle.wg_machine.specs.State.{live_of}
use Rattle.wg_machine.specs.Step.{after_group}
use Rattle.wg_machine.specs.Units.{kind_at}
use Rattle.wg_records.specs.declared.slot.GroupPlace.{GroupPlace}
use Rattle.wg_records.specs.declared.slot.Slot.{Slot}
use Rattle.wg_records.specs.Bags.{IsSlotOf}
use Rattle.wg_records.specs.Slots.{group_place, has_ran, is_inside, is_place, IsBorn, RunsGroup}
use Rattle.wg_records.proofs.Groups.{pay, times_grid, length_grid, times_without, length_without}

and_true : (b : Bool) → (b && true) ≡ b
and_true true = refl
and_true false = refl

pub born_slot : (shape : Shape) (n : ℕ) (sent : Sent) (s : Slot) → IsBorn shape sent s → IsSlotOf s (live_of shape n sent)
born_slot shape n sent s b =
    let grid = grid_of (kind_at shape sent.unit) sent.words in
    record {
      unit = b.unit;
      words = b.words;
      grid = b.grid;
      left = b.left ∙ sym (length_grid s.grid) ∙ ap (λ (g : List ℕ). length (groups_of g)) b.grid;
      groups = λ at three.
          times_grid grid at three
          ∙ ap (λ (g : List ℕ). if is_inside g at then 1 else 0) (sym b.grid)
          ∙ ap (λ (t : Bool). if t then 1 else 0) (sym (and_true (is_inside s.grid at)))
          ∙ ap (λ (ran : List (GroupPlace × Unit {0})). if is_inside s.grid at && not (has_ran ran (group_place at)) then 1 else 0) (sym b.ran);
    }

-- groups of three coordinates are the same where these are
same_place : (a b : List ℕ) → length a ≡ 3 → length b ≡ 3 → is_place (group_place a) (group_place b) ≡ same_group a b
same_place a b p q = grind (arith, nat_tests)

after_one : (w v n : ℕ) (t i r : Bool) → w + pay t 1 ≡ v → v ≡ (if i && not r then 1 else 0) → w ≡ (if i && not (t || r) then 1 else 0)
after_one w v n false i r e f = (let z : w ≡ v = omega (arith, e) in z ∙ f)
after_one w v n true true true e f = absurd (omega (arith, e, f))
after_one w v n true true false e f = omega (arith, e, f)
after_one w v n true false r e f = absurd (omega (arith, e, f))

pub ran_slot : (at : List ℕ) (new : Option (List ℕ)) (s t : Slot) (r : Live) → length at ≡ 3 → IsSlotOf s r → RunsGroup at new s t → has_group r.groups at ≡ true → IsSlotOf t (after_group at new r)
ran_slot at new s t r three is runs has = record {
  unit = runs.unit ∙ is.unit;
  words = runs.words ∙ ap (λ (ws : List ℕ). unwrap_or new ws) is.words;
  grid = runs.grid ∙ is.grid;
  left = (let a = runs.left in let b = is.left in let c = length_without at r.groups has in omega (arith, a, b, c));
  groups = λ b len.
      after_one (times b (without_group at r.groups)) (times b r.groups) 0 (same_group at b) (is_inside s.grid b) (has_ran s.ran.entries (group_place b)) (times_without at b r.groups has) (is.groups b len)
      ∙ ap (λ (d : Bool). if is_inside s.grid b && not (d || has_ran s.ran.entries (group_place b)) then 1 else 0) (sym (same_place at b three len))
      ∙ ap (λ (d : Bool). if is_inside s.grid b && not d then 1 else 0) (sym (runs.ran (group_place b)))
      ∙ ap (λ (g : List ℕ). if is_inside g b && not (has_ran t.ran.entries (group_place b)) then 1 else 0) (sym runs.grid);
}

-- one more group among those that have run
pub ran_more : (q p : GroupPlace) (old new : List (GroupPlace × Unit {0})) → lookup (is_place p) new ≡ (if is_place q p then Some tt else lookup (is_place p) old) → has_ran new p ≡ (is_place q p || has_ran old p)
ran_more q p old new e = choice (is_place q p) e
  where
    choice : (b : Bool) → lookup (is_place p) new ≡ (if b then Some tt else lookup (is_place p) old) → is_some (lookup (is_place p) new) ≡ (b || is_some (lookup (is_place p) old))
    choice true e = ap (λ (o : Option (Unit {0})). is_some o) e
    choice false e = ap (λ (o : Option (Unit {0})). is_some o) e
