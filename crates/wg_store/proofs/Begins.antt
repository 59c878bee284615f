-- A keep at the start of a script.
use Rattle.std.proofs.Common.{◌≡◌, ℕ, zero, suc, ◌+◌, ◌*◌, ◌<◌, ◌≤◌, List, [], ◌∷◌, ◌++◌, length, refl, ap, sym, ◌∙◌, subst, arith}
use Rattle.std.specs.Prelude.{replicate, slice_index}
use Rattle.std.specs.List.{flat_map}
use Rattle.wg_words.specs.Each.{Each}
use Rattle.wg_machine.specs.declared.launch.Limits.{Limits}
use Rattle.wg_machine.specs.declared.launch.Live.{Live}
use Rattle.wg_machine.specs.declared.launch.Sent.{Sent}
use Rattle.wg_machine.specs.declared.shape.Shape.{Shape}
use Rattle.wg_machine.specs.GoodShape.{IsGoodShape}
use Rattle.wg_machine.specs.Grids.{grid_of}
use Rattle.wg_machine.specs.LaunchMeaning.{Arrives}
use Rattle.wg_machine.specs.Need.{most, need}
use Rattle.wg_machine.specs.State.{born, kept, live_of}
use Rattle.wg_machine.specs.Units.{kind_at}
use Rattle.wg_keep.specs.Opening.{IsOpening}
use Rattle.wg_room.specs.Counts.{Counts, need_at}
use Rattle.wg_standing.specs.Core.{CoreView, core_begun}
use Rattle.wg_standing.specs.Laws.{BeginningsPlace}
use Rattle.wg_standing.specs.Standing.{IsPlaced}
use Rattle.wg_store.specs.declared.item.Item.{Item}
use Rattle.wg_store.specs.Items.{AreAtPlaces, LeftIsCounted, entry_items, item_of, lives}
use Rattle.wg_store.specs.Keep.{IsKept, IsRoomOf, kept_begun, seen, view_of}
use Rattle.wg_store.proofs.Choices.{GroupsAreCounted}
use Rattle.wg_store.proofs.Lives.{append_nil}
use Rattle.wg_store.proofs.Settles.{arrives_few}
use Rattle.wg_store.proofs.Sights.{seen_is}

lives_entries : (shape : Shape) (n : ℕ) (script : List Sent) → flat_map kept (born shape n script) ≡ lives [] (entry_items shape n script)
lives_entries shape n [] = refl
lives_entries shape n (s ∷ script) = ap (λ (rest : List Live). kept (live_of shape n s) ++ rest) (lives_entries shape (n + 1) script)

long_entries : (shape : Shape) (n : ℕ) (script : List Sent) → length (entry_items shape n script) ≡ length script
long_entries shape n [] = refl
long_entries shape n (s ∷ script) = ap suc (long_entries shape (n + 1) script)

places_entries : (shape : Shape) (n : ℕ) (script : List Sent) → AreAtPlaces n (entry_items shape n script)
places_entries shape n [] = tt
places_entries shape n (s ∷ script) = (refl, places_entries shape (n + 1) script)

each_entry : (P : Item → Type 0) (shape : Shape) (n : ℕ) (script : List Sent) → ((m : ℕ) (s : Sent) → Arrives shape s → P (item_of shape m s)) → Each (Arrives shape) script → Each P (entry_items shape n script)
each_entry P shape n [] f each = tt
each_entry P shape n (s ∷ script) f each = (f n s each.0, each_entry P shape (n + 1) script f each.1)

-- what is seen of it is a core at the start of the script
pub begun_view : BeginningsPlace → (shape : Shape) (width : ℕ) (limits : Limits) (script : List Sent) → Each (Arrives shape) script
    → core_begun shape width limits script [] ≡ view_of (kept_begun shape width limits script)
begun_view law shape width limits script arrive =
    let core = core_begun shape width limits script [] in
    let items = entry_items shape 0 script in
    seen_is core items (law shape width limits script [] arrive) (lives_entries shape 0 script)
    ∙ ap (λ (xs : List Item). seen shape width limits (length script) [] (length script) xs [] 0) (sym (append_nil items))
    ∙ ap (λ (n : ℕ). seen shape width limits n [] (length script) (items ++ []) [] 0) (sym (long_entries shape 0 script))

-- and it is a keep
pub begun_kept : GroupsAreCounted → BeginningsPlace → (shape : Shape) (width : ℕ) (limits : Limits) (script : List Sent) → IsGoodShape shape → Each (Arrives shape) script
    → IsKept (kept_begun shape width limits script)
begun_kept law begin shape width limits script good arrive =
    let items = entry_items shape 0 script in
    let all : (P : Item → Type 0) → Each P items → Each P (items ++ []) = λ P each. subst (Each P) (sym (append_nil items)) each in
    let long = long_entries shape 0 script in
    record {
      good = good;
      placed = subst (λ (c : CoreView). IsPlaced c c.bag) (begun_view begin shape width limits script arrive) (begin shape width limits script [] arrive);
      counted = all (LeftIsCounted []) (each_entry (LeftIsCounted []) shape 0 script (λ m s a. sym (law (grid_of (kind_at shape s.unit) s.words))) arrive);
      openings = all (λ (x : Item). IsOpening x.opening) (each_entry (λ (x : Item). IsOpening x.opening) shape 0 script (λ m s a. record { opened = omega arith; left = omega arith; few = arrives_few shape s good a }) arrive);
      places = places_entries shape 0 script;
      rises = omega (arith, long);
      units = all (λ (x : Item). x.unit < length shape.units) (each_entry (λ (x : Item). x.unit < length shape.units) shape 0 script (λ m s a. a.unit) arrive);
    }

none_at : (n v : ℕ) → slice_index (replicate n 0) v ≡ 0
none_at zero v = refl
none_at (suc n) zero = refl
none_at (suc n) (suc v) = none_at n v

-- an empty room of the slots of the plan is its room
pub begun_room : BeginningsPlace → (shape : Shape) (width : ℕ) (limits : Limits) (script : List Sent) (c : Counts) (slots : List ℕ) → Each (Arrives shape) script
    → length slots ≡ length shape.units → ((v : ℕ) → v < length shape.units → slice_index slots v ≡ width * most shape v)
    → c.bounds ≡ slots → c.used ≡ replicate (length slots) 0 → c.reserved ≡ replicate (length slots) 0
    → ((u v : ℕ) → v < length slots → need_at c u v ≡ need shape u v) → ((u v : ℕ) → 0 < need_at c u v → v < length slots)
    → IsRoomOf (kept_begun shape width limits script) c
begun_room law shape width limits script c slots arrive many planned bounds used reserved needs within =
    let view = begun_view law shape width limits script arrive in
    record {
      many = ap (λ (xs : List ℕ). length xs) bounds ∙ many;
      bounds = λ v h. ap (λ (xs : List ℕ). slice_index xs v) bounds ∙ planned v h;
      used = λ v. ap (λ (xs : List ℕ). slice_index xs v) used ∙ none_at (length slots) v ∙ sym (none_at (length shape.units) v) ∙ ap (λ (x : CoreView). slice_index x.used v) view;
      reserved = λ v. ap (λ (xs : List ℕ). slice_index xs v) reserved ∙ none_at (length slots) v;
      needs = λ u v h. needs u v (omega (arith, many, h));
      within = λ u v some. (let w = within u v some in omega (arith, many, w));
    }
