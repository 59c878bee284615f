-- A row with those that are gone among them tells what the others tell, since they do not wait.
use Rattle.std.proofs.Common.{◌≡◌, ℕ, Bool, true, false, List, [], ◌∷◌, refl, ap, sym, ◌∙◌, Option, Some, None}
use Rattle.std.specs.Prelude.{◌==◌, ◌&&◌, ◌||◌, cond, filter}
use Rattle.std.specs.List.{list_any}
use Rattle.wg_words.specs.Each.{Each}
use Rattle.wg_machine.specs.declared.shape.Shape.{Shape}
use Rattle.wg_room.specs.Counts.{Counts}
use Rattle.wg_store.specs.declared.item.Item.{Item}
use Rattle.wg_store.specs.Best.{CanTake, IsBestOf, IsNoLater}
use Rattle.wg_store.specs.Items.{fits_unit, has_left, waits_item}
use Rattle.wg_store.proofs.Found.{each_filter}
use Rattle.wg_hold.specs.RowsOf.{Ends}
use Rattle.wg_hold.proofs.Changes.{left_no, left_yes}

unit_yes : (u : ℕ) (x : Item) (xs : List Item) → ((x.unit == u) && waits_item x) ≡ true → fits_unit u (x ∷ xs) ≡ x ∷ fits_unit u xs
unit_yes u x xs e = ap (λ (b : Bool). cond b (x ∷ fits_unit u xs) (fits_unit u xs)) e

unit_no : (u : ℕ) (x : Item) (xs : List Item) → ((x.unit == u) && waits_item x) ≡ false → fits_unit u (x ∷ xs) ≡ fits_unit u xs
unit_no u x xs e = ap (λ (b : Bool). cond b (x ∷ fits_unit u xs) (fits_unit u xs)) e

-- one that is gone is not of those that wait
gone_no : (u : ℕ) (x : Item) → Ends x → has_left x ≡ false → ((x.unit == u) && waits_item x) ≡ false
gone_no u x e l = go (x.unit == u) (waits_item x) refl
  where
    go : (b w : Bool) → waits_item x ≡ w → (b && w) ≡ false
    go true true p = absurd (let t : true ≡ false = sym (e p) ∙ l in cc)
    go true false p = refl
    go false w p = refl

-- those of a unit that wait
pub fits_left : (u : ℕ) (xs : List Item) → Each Ends xs → fits_unit u (filter has_left xs) ≡ fits_unit u xs
fits_left u [] e = refl
fits_left u (x ∷ xs) e = go (has_left x) refl ((x.unit == u) && waits_item x) refl (fits_left u xs e.1)
  where
    go : (l : Bool) → has_left x ≡ l → (b : Bool) → ((x.unit == u) && waits_item x) ≡ b → fits_unit u (filter has_left xs) ≡ fits_unit u xs → fits_unit u (filter has_left (x ∷ xs)) ≡ fits_unit u (x ∷ xs)
    go true l true b ih = ap (fits_unit u) (left_yes x xs l) ∙ unit_yes u x (filter has_left xs) b ∙ ap (λ (ys : List Item). x ∷ ys) ih ∙ sym (unit_yes u x xs b)
    go true l false b ih = ap (fits_unit u) (left_yes x xs l) ∙ unit_no u x (filter has_left xs) b ∙ ih ∙ sym (unit_no u x xs b)
    go false l b p ih = ap (fits_unit u) (left_no x xs l) ∙ ih ∙ sym (unit_no u x xs (gone_no u x e.0 l))

any_left : (u : ℕ) (xs : List Item) → Each Ends xs → list_any (λ (x : Item). (x.unit == u) && waits_item x) (filter has_left xs) ≡ list_any (λ (x : Item). (x.unit == u) && waits_item x) xs
any_left u [] e = refl
any_left u (x ∷ xs) e = go (has_left x) refl (any_left u xs e.1)
  where
    go : (l : Bool) → has_left x ≡ l → list_any (λ (y : Item). (y.unit == u) && waits_item y) (filter has_left xs) ≡ list_any (λ (y : Item). (y.unit == u) && waits_item y) xs
        → list_any (λ (y : Item). (y.unit == u) && waits_item y) (filter has_left (x ∷ xs)) ≡ list_any (λ (y : Item). (y.unit == u) && waits_item y) (x ∷ xs)
    go true l ih = ap (list_any (λ (y : Item). (y.unit == u) && waits_item y)) (left_yes x xs l) ∙ ap (λ (t : Bool). ((x.unit == u) && waits_item x) || t) ih
    go false l ih =
        ap (list_any (λ (y : Item). (y.unit == u) && waits_item y)) (left_no x xs l)
        ∙ ih
        ∙ sym (ap (λ (t : Bool). t || list_any (λ (y : Item). (y.unit == u) && waits_item y) xs) (gone_no u x e.0 l))

-- the best unit
pub best_left : (shape : Shape) (c : Counts) (xs : List Item) (r : Option ℕ) → Each Ends xs → IsBestOf shape c xs r → IsBestOf shape c (filter has_left xs) r
best_left shape c xs None e best = each_filter (λ (x : Item). CanTake c x → ⊥) has_left xs best
best_left shape c xs (Some u) e best =
    record {
      waits = any_left u xs e ∙ best.waits;
      room = best.room;
      first = each_filter (λ (x : Item). CanTake c x → IsNoLater shape u x.unit) has_left xs best.first;
    }
