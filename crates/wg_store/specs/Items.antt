-- Records that are not consumed, as the machine's live records. This project's own.
use Rattle.std.specs.Prelude.{◌≡◌, ◌≢◌, ⊤, ℕ, ◌+◌, ◌-◌, ◌^◌, ◌<◌, ◌≤◌, ◌==◌, ◌&&◌, Bool, true, nat_lt, filter, take, take_while, slice_get, if◌then◌else◌, List, [], ◌∷◌, ◌++◌, length, map, Option, None, Some, unwrap_or}
use Rattle.std.specs.Option.{option_map}
use Rattle.std.specs.List.{flat_map}
use Rattle.wg_machine.specs.declared.launch.Live.{Live}
use Rattle.wg_machine.specs.declared.launch.Launch.{Launch}
use Rattle.wg_machine.specs.declared.launch.Record.{Record}
use Rattle.wg_machine.specs.declared.launch.Sent.{Sent}
use Rattle.wg_machine.specs.declared.shape.Shape.{Shape}
use Rattle.wg_machine.specs.Grids.{grid_of, groups_in, groups_of, place_of}
use Rattle.wg_machine.specs.State.{kept}
use Rattle.wg_machine.specs.Step.{has_number}
use Rattle.wg_machine.specs.Units.{kind_at, most_inputs, shared_at}
use Rattle.wg_words.specs.Each.{Each}
use Rattle.wg_keep.specs.declared.opening.Opening.{Opening}
use Rattle.wg_keep.specs.Opening.{begun, unopened_groups}
use Rattle.wg_standing.specs.declared.pending.Pending.{Pending}
use Rattle.wg_store.specs.declared.item.Item.{Item}

-- the groups of a record that launches out take, in the order of their tickets
abbrev pub out_groups : List Pending → ℕ → List (List ℕ)
out_groups [] n = []
out_groups (o ∷ outs) n = (if has_number o.inputs n then o.at ∷ [] else []) ++ out_groups outs n

-- the groups of a record that have not run
abbrev pub groups_left : List Pending → Item → List (List ℕ)
groups_left outs x = out_groups outs x.number ++ unopened_groups x.opening

-- a record as the machine has it while launches are out
abbrev pub live_item : List Pending → Item → Live
live_item outs x =
    record { number = x.number; unit = x.unit; words = x.words; grid = x.opening.grid; groups = groups_left outs x }

-- the records that have a group left
abbrev pub lives : List Pending → List Item → List Live
lives outs items = flat_map (λ (x : Item). kept (live_item outs x)) items

-- the record waits: a group of it is not opened
abbrev pub waits_item : Item → Bool
waits_item x = nat_lt x.opening.opened (groups_in x.opening.grid)

-- a record with one more group opened
abbrev pub with_opened : Item → Item
with_opened x = record x { opening = (let o : Opening = record x.opening { opened = x.opening.opened + 1 } in o) }

-- the records after one more group of those with these numbers is opened
abbrev pub all_opened : List ℕ → List Item → List Item
all_opened numbers items = map (λ (x : Item). if has_number numbers x.number then with_opened x else x) items

-- a record with one more group settled
abbrev pub with_counted : Item → Item
with_counted x = record x { opening = (let o : Opening = record x.opening { left = x.opening.left - 1 } in o) }

-- the records after one more group of those with these numbers has settled
abbrev pub all_counted : List ℕ → List Item → List Item
all_counted numbers items = map (λ (x : Item). if has_number numbers x.number then with_counted x else x) items

-- a group of the record has not settled
abbrev pub has_left : Item → Bool
has_left x = nat_lt 0 x.opening.left

-- a record with one of these numbers has a group to open
abbrev pub CanOpen : List ℕ → Item → Type 0
CanOpen numbers x = has_number numbers x.number ≡ true → x.opening.opened + 1 < 2 ^ 32

-- a record with one of these numbers has a group to settle
abbrev pub CanCount : List ℕ → Item → Type 0
CanCount numbers x = has_number numbers x.number ≡ true → 1 ≤ x.opening.left

-- the records with new words where they have these numbers
abbrev pub all_worded : List ℕ → Option (List ℕ) → List Item → List Item
all_worded numbers new items = map (λ (x : Item). if has_number numbers x.number then record x { words = unwrap_or new x.words } else x) items

-- a record that comes to be, of which nothing is opened
abbrev pub item_of : Shape → ℕ → Sent → Item
item_of shape number s = record { number = number; unit = s.unit; words = s.words; opening = begun (grid_of (kind_at shape s.unit) s.words) }

abbrev pub numbers_in : List Item → List ℕ
numbers_in items = map (λ (x : Item). x.number) items

-- the first of the records with a number
abbrev pub item_in : ℕ → List Item → Option Item
item_in n [] = None
item_in n (x ∷ items) = if x.number == n then Some x else item_in n items

-- each record has its place as its number, from a number on
abbrev pub AreAtPlaces : ℕ → List Item → Type 0
AreAtPlaces n [] = ⊤
AreAtPlaces n (x ∷ items) = (x.number ≡ n) × AreAtPlaces (n + 1) items

-- numbers rise, from n on, and stay below the end
abbrev pub ItemsRise : ℕ → List Item → ℕ → Type 0
ItemsRise n [] end = n ≤ end
ItemsRise n (x ∷ items) end = (n ≤ x.number) × ItemsRise (x.number + 1) items end

-- there is a record of each number
abbrev pub AreIn : List ℕ → List Item → Type 0
AreIn numbers items = Each (λ n. item_in n items ≢ None) numbers

abbrev pub words_in : List Item → ℕ → List ℕ
words_in items n = unwrap_or (option_map (λ (x : Item). x.words) (item_in n items)) []

abbrev pub grid_in : List Item → ℕ → List ℕ
grid_in items n = unwrap_or (option_map (λ (x : Item). x.opening.grid) (item_in n items)) []

-- how many groups of a record have not settled
abbrev pub left_in : List Item → ℕ → ℕ
left_in items n = unwrap_or (option_map (λ (x : Item). x.opening.left) (item_in n items)) 0

abbrev pub record_in : List Item → ℕ → Record
record_in items n = record { number = n; words = words_in items n }

abbrev pub first_of : List ℕ → ℕ
first_of [] = 0
first_of (n ∷ ns) = n

-- the launch of a launch out, by what the records are now
abbrev pub launch_by : Shape → List Item → Pending → Launch
launch_by shape items o =
    record {
      unit = o.unit;
      records = map (record_in items) o.inputs;
      group = place_of (grid_in items (first_of o.inputs)) o.at;
      grid = grid_in items (first_of o.inputs);
      last = shared_at shape o.unit && (left_in items (first_of o.inputs) == 1);
    }

-- the records with new words where they have the number
abbrev pub with_words : ℕ → List ℕ → List Item → List Item
with_words n new items = map (λ (x : Item). if x.number == n then record x { words = new } else x) items

-- at most one record has the number
abbrev pub IsOnce : ℕ → List Item → Type 0
IsOnce n [] = ⊤
IsOnce n (x ∷ items) = (x.number ≡ n → item_in n items ≡ None) × IsOnce n items

-- the records that a launch takes have its group next
abbrev pub OpensNext : Pending → Item → Type 0
OpensNext o x = has_number o.inputs x.number ≡ true → unopened_groups x.opening ≡ o.at ∷ unopened_groups (with_opened x).opening

-- how many groups of a record have not settled is counted
abbrev pub LeftIsCounted : List Pending → Item → Type 0
LeftIsCounted outs x = x.opening.left ≡ length (groups_left outs x)

-- The records after a launch with these inputs settled: a group more of each is counted, with the new words, and those
-- in slots that have none left are gone.
abbrev pub settled_items : List ℕ → Option (List ℕ) → List Item → List Item → List Item
settled_items numbers new entries slots =
    all_counted numbers (all_worded numbers new entries) ++ filter has_left (all_counted numbers (all_worded numbers new slots))

-- those of a unit that wait, in their order
abbrev pub fits_unit : ℕ → List Item → List Item
fits_unit unit items = filter (λ (x : Item). (x.unit == unit) && waits_item x) items

-- those that wait, as long as they are of a unit
abbrev pub fits_next : ℕ → List Item → List Item
fits_next unit items = take_while (λ (x : Item). x.unit == unit) (filter waits_item items)

-- the next group of the first record
abbrev pub first_at : List Item → List ℕ
first_at [] = []
first_at (x ∷ items) = unwrap_or (slice_get (groups_of x.opening.grid) x.opening.opened) []

-- the launch of a unit that takes from the front of its records that wait
abbrev pub pending_of : ℕ → Shape → ℕ → List Item → Pending
pending_of ticket shape u items =
    record {
      ticket = ticket;
      unit = u;
      at = first_at items;
      inputs = numbers_in (take (most_inputs (kind_at shape u)) items);
    }

-- a record that comes to be has a group
abbrev pub has_groups : Shape → Sent → Bool
has_groups shape s = nat_lt 0 (groups_in (grid_of (kind_at shape s.unit) s.words))

-- records that come to be, numbered on from a number; one without a group gets its number and is none
abbrev pub born_items : Shape → ℕ → List Sent → List Item
born_items shape n [] = []
born_items shape n (s ∷ sent) = if has_groups shape s then item_of shape n s ∷ born_items shape (n + 1) sent else born_items shape (n + 1) sent

-- the entries of a script, numbered on from a number
abbrev pub entry_items : Shape → ℕ → List Sent → List Item
entry_items shape n [] = []
entry_items shape n (s ∷ script) = item_of shape n s ∷ entry_items shape (n + 1) script
