-- Records that are not consumed, in rising order of number. This project's own.
use Rattle.std.specs.Prelude.{◌≡◌, ⊤, ℕ, ◌+◌, ◌<◌, ◌≤◌, ◌==◌, true, false, filter, if◌then◌else◌, List, [], ◌∷◌, length, map, Option, None, Some}
use Rattle.wg_words.specs.Each.{Each}
use Rattle.wg_machine.specs.Step.{has_number}
use Rattle.wg_store.specs.declared.item.Item.{Item}
use Rattle.wg_store.specs.Items.{has_left, item_in, waits_item}

-- the records, how many there may be, and a number above their units
pub record RowsOf : Type 0 where
  pub items : List Item
  pub most : ℕ
  pub units : ℕ

-- numbers rise, from one on
abbrev pub AreRising : ℕ → List Item → Type 0
AreRising n [] = ⊤
AreRising n (x ∷ items) = (n ≤ x.number) × AreRising (x.number + 1) items

-- a record waits only as long as it has a group left
abbrev pub Ends : Item → Type 0
Ends x = waits_item x ≡ true → has_left x ≡ true

-- the record with the number does not wait when its last group settles
abbrev pub EndsWith : ℕ → Item → Type 0
EndsWith n x = has_number (n ∷ []) x.number ≡ true → x.opening.left ≡ 1 → waits_item x ≡ false

-- a record by a function, if it is not gone
abbrev pub if_left : (Item → Item) → Item → Item
if_left f x = if has_left x then f x else x

-- the record with the number by a function, if it is not gone
abbrev pub changed : ℕ → (Item → Item) → List Item → List Item
changed n f items = map (λ (x : Item). if has_number (n ∷ []) x.number then if_left f x else x) items

-- a record with other words
abbrev pub worded : List ℕ → Item → Item
worded words x = record x { words = words }

-- the record with the number, if it is not gone, with other words
abbrev pub changed_words : ℕ → List ℕ → List Item → List Item
changed_words n words items = changed n (worded words) items

-- the unit of a record with one group left
abbrev pub unit_of_last : Option Item → Option ℕ
unit_of_last None = None
unit_of_last (Some x) = if x.opening.left == 1 then Some x.unit else None

-- the unit of the record with the number, where that goes with its next group that settles
abbrev pub unit_gone : ℕ → List Item → Option ℕ
unit_gone n items = unit_of_last (item_in n items)

-- one, where a record of the unit went
abbrev pub gone_at : ℕ → Option ℕ → ℕ
gone_at v None = 0
gone_at v (Some u) = if u == v then 1 else 0

-- one, where a record went
abbrev pub gone_size : Option ℕ → ℕ
gone_size None = 0
gone_size (Some u) = 1

-- what holds of a row with those that are gone
pub record AreRows (items : List Item) (units live most capacity : ℕ) : Type 0 where
  pub rises : AreRising 0 items
  pub ends : Each Ends items
  pub within : Each (λ (x : Item). x.unit < units) items
  pub counted : live ≡ length (filter has_left items)
  pub room : most ≤ capacity

-- what holds of every row
pub record IsSoundRows (r : RowsOf) : Type 0 where
  pub rises : AreRising 0 r.items
  pub left : Each (λ (x : Item). has_left x ≡ true) r.items
