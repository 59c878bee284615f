-- Records of which a launch's groups are counted.
use Rattle.std.proofs.Common.{◌≡◌, ℕ, ◌+◌, ◌<◌, ◌≤◌, Bool, true, false, List, [], ◌∷◌, refl, ap, sym, ◌∙◌, subst, arith, Option, unwrap_or}
use Rattle.std.specs.Prelude.{if◌then◌else◌, ◌==◌, filter, slice_index}
use Rattle.wg_words.specs.Each.{Each}
use Rattle.wg_machine.specs.declared.launch.Sent.{Sent}
use Rattle.wg_machine.specs.declared.shape.Shape.{Shape}
use Rattle.wg_machine.specs.LaunchMeaning.{Arrives}
use Rattle.wg_machine.specs.Step.{has_number}
use Rattle.wg_room.specs.Counts.{Counts}
use Rattle.wg_store.specs.declared.item.Item.{Item}
use Rattle.wg_store.specs.Items.{all_counted, all_worded, has_left, with_counted}
use Rattle.wg_hold.specs.Held.{Held, count_of}
use Rattle.wg_kept.specs.Moves.{CanPut, HasFewGroups, ItemsBecome}
use Rattle.wg_kept.proofs.Putting.{count_cons}

-- what holds of each record holds with new words, where words do not matter
pub each_worded : (P : Item → Type 0) (ns : List ℕ) (shared : Option (List ℕ)) (xs : List Item) → ((x : Item) (w : List ℕ) → P x → P (record x { words = w })) → Each P xs → Each P (all_worded ns shared xs)
each_worded P ns shared [] f each = tt
each_worded P ns shared (x ∷ xs) f each = (go (has_number ns x.number), each_worded P ns shared xs f each.1)
  where
    go : (b : Bool) → P (if b then record x { words = unwrap_or shared x.words } else x)
    go true = f x (unwrap_or shared x.words) each.0
    go false = each.0

-- a record after it is counted, with its new words
abbrev counted_one : List ℕ → Option (List ℕ) → Item → Item
counted_one ns shared x =
    let y : Item = if has_number ns x.number then record x { words = unwrap_or shared x.words } else x in
    if has_number ns y.number then with_counted y else y

same_unit : (ns : List ℕ) (shared : Option (List ℕ)) (x : Item) → (counted_one ns shared x).unit ≡ x.unit
same_unit ns shared x = go (has_number ns x.number)
  where
    inner : (y : Item) (b : Bool) → (if b then with_counted y else y).unit ≡ y.unit
    inner y true = refl
    inner y false = refl

    go : (b : Bool) → (let y : Item = if b then record x { words = unwrap_or shared x.words } else x in if has_number ns y.number then with_counted y else y).unit ≡ x.unit
    go true = inner (record x { words = unwrap_or shared x.words }) (has_number ns x.number)
    go false = inner x (has_number ns x.number)

same_number : (ns : List ℕ) (shared : Option (List ℕ)) (x : Item) → (counted_one ns shared x).number ≡ x.number
same_number ns shared x = go (has_number ns x.number)
  where
    inner : (y : Item) (b : Bool) → (if b then with_counted y else y).number ≡ y.number
    inner y true = refl
    inner y false = refl

    go : (b : Bool) → (let y : Item = if b then record x { words = unwrap_or shared x.words } else x in if has_number ns y.number then with_counted y else y).number ≡ x.number
    go true = inner (record x { words = unwrap_or shared x.words }) (has_number ns x.number)
    go false = inner x (has_number ns x.number)

-- no more records of a unit are left
count_left : (v : ℕ) (ns : List ℕ) (shared : Option (List ℕ)) (xs : List Item) → count_of v (filter has_left (all_counted ns (all_worded ns shared xs))) ≤ count_of v xs
count_left v ns shared [] = omega arith
count_left v ns shared (x ∷ xs) = go (has_left (counted_one ns shared x)) (count_left v ns shared xs) (count_cons (λ (y : Item). y.unit == v) x xs)
  where
    rest : List Item
    rest = filter has_left (all_counted ns (all_worded ns shared xs))

    go : (b : Bool) → count_of v rest ≤ count_of v xs → count_of v (x ∷ xs) ≡ (if x.unit == v then 1 else 0) + count_of v xs → count_of v (if b then counted_one ns shared x ∷ rest else rest) ≤ count_of v (x ∷ xs)
    go true less all =
        let c = count_cons (λ (y : Item). y.unit == v) (counted_one ns shared x) rest in
        let u = ap {B = ℕ} (λ (m : ℕ). if m == v then 1 else 0) (same_unit ns shared x) in
        omega (arith, c, u, less, all)
    go false less all = omega (arith, less, all)

below_left : (next : ℕ) (ns : List ℕ) (shared : Option (List ℕ)) (xs : List Item) → Each (λ (x : Item). x.number < next) xs → Each (λ (x : Item). x.number < next) (filter has_left (all_counted ns (all_worded ns shared xs)))
below_left next ns shared [] each = tt
below_left next ns shared (x ∷ xs) each = go (has_left (counted_one ns shared x)) (below_left next ns shared xs each.1)
  where
    rest : List Item
    rest = filter has_left (all_counted ns (all_worded ns shared xs))

    go : (b : Bool) → Each (λ (y : Item). y.number < next) rest → Each (λ (y : Item). y.number < next) (if b then counted_one ns shared x ∷ rest else rest)
    go true more = (subst (λ (m : ℕ). m < next) (sym (same_number ns shared x)) each.0, more)
    go false more = more

-- records that may be put may be put after it
pub put_counted : (h m g : Held) (next : ℕ) (ns : List ℕ) (shared : Option (List ℕ)) (sent : List Sent) → CanPut h next sent → m ≡ record h { items = all_worded ns shared h.items } → ItemsBecome m g (filter has_left (all_counted ns m.items)) → CanPut g next sent
put_counted h m g next ns shared sent can words new =
    let items = new.items ∙ ap (λ (x : Held). filter has_left (all_counted ns x.items)) words in
    let shape = new.shape ∙ ap (λ (x : Held). x.shape) words in
    record {
      above = subst (Each (λ (x : Item). x.number < next)) (sym items) (below_left next ns shared h.items can.above);
      arrive = subst (λ (s : Shape). Each (Arrives s) sent) (sym shape) can.arrive;
      few = subst (λ (s : Shape). Each (HasFewGroups s) sent) (sym shape) can.few;
      free = λ v. (
          let a = ap (count_of v) items in
          let b = count_left v ns shared h.items in
          let d = can.free v in
          let e = ap (λ (c : Counts). slice_index c.bounds v) new.room in
          let f = ap (λ (x : Held). slice_index x.room.bounds v) words in
          omega (arith, a, b, d, e, f)
          );
      fits = can.fits;
    }
