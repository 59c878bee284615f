-- What a hold keeps of its parts after each call.
use Rattle.std.proofs.Common.{◌≡◌, ◌≢◌, ℕ, zero, suc, ◌+◌, ◌-◌, ◌<◌, ◌≤◌, ◌^◌, Bool, true, false, List, [], ◌∷◌, ◌++◌, length, map, refl, ap, sym, ◌∙◌, subst, arith, Some, ◌⊎◌, inl, inr}
use Rattle.std.specs.Prelude.{if◌then◌else◌, ◌==◌, filter, replicate, slice_index, slice_set}
use Rattle.std.proofs.lemmas.Bool.Decides.{nat_tests}
use Rattle.std.proofs.lemmas.List.Sums.{sum_by-cons}
use Rattle.wg_words.specs.Each.{Each}
use Rattle.wg_words.specs.declared.limits.TheConstants.{GRID_BOUND}
use Rattle.wg_machine.specs.declared.launch.Sent.{Sent}
use Rattle.wg_machine.specs.declared.shape.Shape.{Shape}
use Rattle.wg_machine.specs.GoodShape.{IsGoodShape}
use Rattle.wg_machine.specs.Grids.{grid_of, groups_in}
use Rattle.wg_machine.specs.Need.{need}
use Rattle.wg_machine.specs.Step.{has_number}
use Rattle.wg_machine.specs.Units.{kind_at, stride_at, words_at}
use Rattle.wg_room.specs.Counts.{Counts, need_at}
use Rattle.wg_keep.specs.Opening.{IsOpening}
use Rattle.wg_keep.proofs.Rows.{bytes_more, index_other, index_set, length_set}
use Rattle.wg_keep.proofs.Stocks.{same_or_not}
use Rattle.wg_standing.specs.Moves.{slot_bytes}
use Rattle.wg_store.specs.declared.item.Item.{Item}
use Rattle.wg_store.specs.Items.{ItemsRise, all_counted, all_opened, has_left, item_in, item_of, with_counted, with_opened, with_words}
use Rattle.wg_store.proofs.Found.{each_filter}
use Rattle.wg_hold.specs.RowsOf.{AreRising, RowsOf, gone_at}
use Rattle.wg_hold.specs.Held.{IsHeldSound, count_of}
use Rattle.wg_hold.specs.Parts.{IsHold, slots_in}
use Rattle.wg_hold.proofs.Changes.{each_map, each_push}
use Rattle.wg_hold.proofs.Bytes.{bytes_small, index_none, length_none, no_bytes, one_less, slots_below, slots_less}

-- ---- the records

-- of each record its unit and words fit the shape, and so does its opening
pub record Fits (shape : Shape) (items : List Item) : Type 0 where
  pub units : Each (λ (x : Item). x.unit < length shape.units) items
  pub openings : Each (λ (x : Item). IsOpening x.opening) items
  pub words : Each (λ (x : Item). length x.words ≡ words_at shape x.unit) items

pub fits_of : (shape : Shape) (rows : RowsOf) (room : Counts) (bytes : ℕ) → IsHold shape rows room bytes → Fits shape rows.items
fits_of shape rows room bytes h = record { units = h.units; openings = h.openings; words = h.words }

pub fits_opened : (shape : Shape) (ns : List ℕ) (items : List Item) → Each (λ (x : Item). IsOpening x.opening) (all_opened ns items) → Fits shape items → Fits shape (all_opened ns items)
fits_opened shape ns items openings f =
    record {
      units = each_map (λ (x : Item). x.unit < length shape.units) (λ (x : Item). if has_number ns x.number then with_opened x else x) items (λ x e. unit (has_number ns x.number) x e) f.units;
      openings = openings;
      words = each_map (λ (x : Item). length x.words ≡ words_at shape x.unit) (λ (x : Item). if has_number ns x.number then with_opened x else x) items (λ x e. words (has_number ns x.number) x e) f.words;
    }
  where
    unit : (b : Bool) (x : Item) → x.unit < length shape.units → (if b then with_opened x else x).unit < length shape.units
    unit true x e = e
    unit false x e = e

    words : (b : Bool) (x : Item) → length x.words ≡ words_at shape x.unit → length (if b then with_opened x else x).words ≡ words_at shape (if b then with_opened x else x).unit
    words true x e = e
    words false x e = e

pub fits_counted : (shape : Shape) (ns : List ℕ) (items : List Item) → Fits shape items → Fits shape (filter has_left (all_counted ns items))
fits_counted shape ns items f =
    record {
      units = each_filter (λ (x : Item). x.unit < length shape.units) has_left (all_counted ns items) (each_map (λ (x : Item). x.unit < length shape.units) (λ (x : Item). if has_number ns x.number then with_counted x else x) items (λ x e. unit (has_number ns x.number) x e) f.units);
      openings = each_filter (λ (x : Item). IsOpening x.opening) has_left (all_counted ns items) (each_map (λ (x : Item). IsOpening x.opening) (λ (x : Item). if has_number ns x.number then with_counted x else x) items (λ x e. opening (has_number ns x.number) x e) f.openings);
      words = each_filter (λ (x : Item). length x.words ≡ words_at shape x.unit) has_left (all_counted ns items) (each_map (λ (x : Item). length x.words ≡ words_at shape x.unit) (λ (x : Item). if has_number ns x.number then with_counted x else x) items (λ x e. words (has_number ns x.number) x e) f.words);
    }
  where
    unit : (b : Bool) (x : Item) → x.unit < length shape.units → (if b then with_counted x else x).unit < length shape.units
    unit true x e = e
    unit false x e = e

    words : (b : Bool) (x : Item) → length x.words ≡ words_at shape x.unit → length (if b then with_counted x else x).words ≡ words_at shape (if b then with_counted x else x).unit
    words true x e = e
    words false x e = e

    opening : (b : Bool) (x : Item) → IsOpening x.opening → IsOpening (if b then with_counted x else x).opening
    opening true x e = record { opened = e.opened; left = (let l = e.left in omega (arith, l)); few = e.few }
    opening false x e = e

missing_below : (n low : ℕ) (xs : List Item) (x : Item) → n < low → AreRising low xs → item_in n xs ≡ Some x → ⊥
missing_below n low [] x h r e = absurd (cc)
missing_below n low (y ∷ xs) x h r e =
    let a = r.0 in
    let q : (y.number == n) ≡ false = grind (arith, nat_tests) in
    missing_below n (y.number + 1) xs x (omega (arith, a, h)) r.1 (sym (ap (λ (b : Bool). if b then Some y else item_in n xs) q) ∙ e)

words_fit : (shape : Shape) (n : ℕ) (new : List ℕ) (low : ℕ) (xs : List Item) → AreRising low xs → ((x : Item) → item_in n xs ≡ Some x → length new ≡ words_at shape x.unit) → Each (λ (x : Item). length x.words ≡ words_at shape x.unit) xs → Each (λ (x : Item). length x.words ≡ words_at shape x.unit) (with_words n new xs)
words_fit shape n new low [] r fit e = tt
words_fit shape n new low (x ∷ xs) r fit e = go (x.number == n) refl (λ f. words_fit shape n new (x.number + 1) xs r.1 f e.1)
  where
    go : (b : Bool) → (x.number == n) ≡ b → (((y : Item) → item_in n xs ≡ Some y → length new ≡ words_at shape y.unit) → Each (λ (y : Item). length y.words ≡ words_at shape y.unit) (with_words n new xs))
        → Each (λ (y : Item). length y.words ≡ words_at shape y.unit) ((if b then record x { words = new } else x) ∷ with_words n new xs)
    go true q rest = (fit x (ap (λ (b : Bool). if b then Some x else item_in n xs) q), rest (λ y g. absurd (missing_below n (x.number + 1) xs y (let k : x.number ≡ n = grind (arith, nat_tests) in omega (arith, k)) r.1 g)))
    go false q rest = (e.0, rest (λ y g. fit y (ap (λ (b : Bool). if b then Some x else item_in n xs) q ∙ g)))

pub fits_worded : (shape : Shape) (n low : ℕ) (new : List ℕ) (items : List Item) → AreRising low items → ((x : Item) → item_in n items ≡ Some x → length new ≡ words_at shape x.unit) → Fits shape items → Fits shape (with_words n new items)
fits_worded shape n low new items r fit f =
    record {
      units = each_map (λ (x : Item). x.unit < length shape.units) (λ (x : Item). if x.number == n then record x { words = new } else x) items (λ x e. unit (x.number == n) x e) f.units;
      openings = each_map (λ (x : Item). IsOpening x.opening) (λ (x : Item). if x.number == n then record x { words = new } else x) items (λ x e. opening (x.number == n) x e) f.openings;
      words = words_fit shape n new low items r fit f.words;
    }
  where
    unit : (b : Bool) (x : Item) → x.unit < length shape.units → (if b then record x { words = new } else x).unit < length shape.units
    unit true x e = e
    unit false x e = e

    opening : (b : Bool) (x : Item) → IsOpening x.opening → IsOpening (if b then record x { words = new } else x).opening
    opening true x e = e
    opening false x e = e

-- ---- how many are of a unit

-- one, where two numbers are the same
abbrev one_if : ℕ → ℕ → ℕ
one_if u v = if u == v then 1 else 0

count_cons : (v : ℕ) (x : Item) (xs : List Item) → count_of v (x ∷ xs) ≡ one_if x.unit v + count_of v xs
count_cons v x xs = sum_by-cons (λ (y : Item). one_if y.unit v) x xs

count_map : (v : ℕ) (g : Item → Item) (xs : List Item) → ((x : Item) → (g x).unit ≡ x.unit) → count_of v (map g xs) ≡ count_of v xs
count_map v g [] h = refl
count_map v g (x ∷ xs) h =
    let a = count_cons v (g x) (map g xs) in
    let b = count_cons v x xs in
    let c = ap (λ (u : ℕ). one_if u v) (h x) in
    let ih = count_map v g xs h in
    omega (arith, a, b, c, ih)

pub count_opened : (v : ℕ) (ns : List ℕ) (xs : List Item) → count_of v (all_opened ns xs) ≡ count_of v xs
count_opened v ns xs = count_map v (λ (x : Item). if has_number ns x.number then with_opened x else x) xs (λ x. unit (has_number ns x.number) x)
  where
    unit : (b : Bool) (x : Item) → (if b then with_opened x else x).unit ≡ x.unit
    unit true x = refl
    unit false x = refl

pub count_worded : (v n : ℕ) (new : List ℕ) (xs : List Item) → count_of v (with_words n new xs) ≡ count_of v xs
count_worded v n new xs = count_map v (λ (x : Item). if x.number == n then record x { words = new } else x) xs (λ x. unit (x.number == n) x)
  where
    unit : (b : Bool) (x : Item) → (if b then record x { words = new } else x).unit ≡ x.unit
    unit true x = refl
    unit false x = refl

count_push : (v : ℕ) (xs : List Item) (x : Item) → count_of v (xs ++ x ∷ []) ≡ count_of v xs + one_if x.unit v
count_push v [] x = let a = count_cons v x [] in omega (arith, a)
count_push v (y ∷ xs) x =
    let a = count_cons v y (xs ++ x ∷ []) in
    let b = count_cons v y xs in
    let ih = count_push v xs x in
    omega (arith, a, b, ih)

-- no more records than slots in use
length_used : (items : List Item) (used : List ℕ) → Each (λ (x : Item). x.unit < length used) items → ((v : ℕ) → slice_index used v ≡ count_of v items) → length items ≤ slots_in used
length_used [] used e h = omega arith
length_used (x ∷ items) used e h =
    let u = x.unit in
    let a = count_cons u x items in
    let one : one_if u u ≡ 1 = (let q : (u == u) ≡ true = grind (arith, nat_tests) in ap {B = ℕ} (λ (b : Bool). if b then 1 else 0) q) in
    let here = h u in
    let some : 1 ≤ slice_index used u = omega (arith, a, one, here) in
    let less = slots_less used u e.0 some in
    let rest = length_used items (slice_set used u (slice_index used u - 1)) (many items e.1) (λ v. others v (same_or_not v u)) in
    omega (arith, less, rest)
  where
    many : (ys : List Item) → Each (λ (y : Item). y.unit < length used) ys → Each (λ (y : Item). y.unit < length (slice_set used x.unit (slice_index used x.unit - 1))) ys
    many [] t = tt
    many (y ∷ ys) t = (let l = length_set used x.unit (slice_index used x.unit - 1) in let k = t.0 in omega (arith, l, k), many ys t.1)

    others : (v : ℕ) → (v ≡ x.unit) ⊎ (v ≢ x.unit) → slice_index (slice_set used x.unit (slice_index used x.unit - 1)) v ≡ count_of v items
    others v (inl s) =
        subst (λ (w : ℕ). slice_index (slice_set used x.unit (slice_index used x.unit - 1)) w ≡ count_of w items) (sym s)
        (let i = index_set used x.unit (slice_index used x.unit - 1) e.0 in
        let a = count_cons x.unit x items in
        let one : one_if x.unit x.unit ≡ 1 = (let q : (x.unit == x.unit) ≡ true = grind (arith, nat_tests) in ap {B = ℕ} (λ (b : Bool). if b then 1 else 0) q) in
        let here = h x.unit in
        omega (arith, i, a, one, here))
    others v (inr d) =
        let i = index_other used x.unit v (slice_index used x.unit - 1) d in
        let a = count_cons v x items in
        let none : one_if x.unit v ≡ 0 = (let q : (x.unit == v) ≡ false = grind (arith, nat_tests) in ap {B = ℕ} (λ (b : Bool). if b then 1 else 0) q) in
        let here = h v in
        omega (arith, i, a, none, here)

-- ---- the parts

-- the records change, and as many are of each unit
pub same_hold : (shape : Shape) (rows new : RowsOf) (room : Counts) (bytes : ℕ) → IsHold shape rows room bytes → new.most ≡ rows.most → new.units ≡ rows.units → Fits shape new.items → ((v : ℕ) → count_of v new.items ≡ count_of v rows.items) → IsHold shape new room bytes
same_hold shape rows new room bytes h most units fits count =
    record {
      good = h.good;
      units = fits.units;
      openings = fits.openings;
      words = fits.words;
      many = h.many;
      counted = h.counted;
      used = λ v. h.used v ∙ sym (count v);
      within = h.within;
      small = h.small;
      needs = h.needs;
      reach = h.reach;
      sized = h.sized;
      places = (let a = h.places in omega (arith, a, most));
      below = units ∙ h.below;
    }

-- the unit of a record that goes has a slot in use
pub gone_some : (shape : Shape) (rows new : RowsOf) (room : Counts) (bytes u : ℕ) → IsHold shape rows room bytes → ((v : ℕ) → count_of v new.items + gone_at v (Some u) ≡ count_of v rows.items) → 1 ≤ slice_index room.used u
gone_some shape rows new room bytes u h count =
    let a = count u in
    let b = h.used u in
    let one : gone_at u (Some u) ≡ 1 = (let q : (u == u) ≡ true = grind (arith, nat_tests) in ap {B = ℕ} (λ (t : Bool). if t then 1 else 0) q) in
    omega (arith, a, b, one)

index_within : (xs : List ℕ) (u : ℕ) → 1 ≤ slice_index xs u → u < length xs
index_within [] u h = absurd (omega (arith, h))
index_within (x ∷ xs) zero h = omega arith
index_within (x ∷ xs) (suc u) h = let k = index_within xs u h in omega (arith, k)

pub gone_within : (shape : Shape) (rows new : RowsOf) (room : Counts) (bytes u : ℕ) → IsHold shape rows room bytes → ((v : ℕ) → count_of v new.items + gone_at v (Some u) ≡ count_of v rows.items) → u < length room.bounds
gone_within shape rows new room bytes u h count =
    let k = index_within room.used u (gone_some shape rows new room bytes u h count) in
    let a = h.many in
    let b = h.counted in
    omega (arith, k, a, b)

pub gone_bytes : (shape : Shape) (rows new : RowsOf) (room : Counts) (bytes u : ℕ) → IsHold shape rows room bytes → ((v : ℕ) → count_of v new.items + gone_at v (Some u) ≡ count_of v rows.items) → stride_at shape u ≤ bytes
gone_bytes shape rows new room bytes u h count =
    let some = gone_some shape rows new room bytes u h count in
    let less = one_less shape u room.used (index_within room.used u some) some in
    let was = h.sized in
    omega (arith, less, was)

used_less : (used : List ℕ) (u v : ℕ) → 1 ≤ slice_index used u → slice_index (slice_set used u (slice_index used u - 1)) v + gone_at v (Some u) ≡ slice_index used v
used_less used u v some = side (same_or_not v u)
  where
    side : (v ≡ u) ⊎ (v ≢ u) → slice_index (slice_set used u (slice_index used u - 1)) v + gone_at v (Some u) ≡ slice_index used v
    side (inl s) = subst (λ (w : ℕ). slice_index (slice_set used u (slice_index used u - 1)) w + gone_at w (Some u) ≡ slice_index used w) (sym s)
        (let i = index_set used u (slice_index used u - 1) (index_within used u some) in
        let one : gone_at u (Some u) ≡ 1 = (let q : (u == u) ≡ true = grind (arith, nat_tests) in ap {B = ℕ} (λ (t : Bool). if t then 1 else 0) q) in
        omega (arith, i, one, some))
    side (inr d) =
        let i = index_other used u v (slice_index used u - 1) d in
        let none : gone_at v (Some u) ≡ 0 = (let q : (u == v) ≡ false = grind (arith, nat_tests) in ap {B = ℕ} (λ (t : Bool). if t then 1 else 0) q) in
        omega (arith, i, none)

pub gone_hold : (shape : Shape) (rows new : RowsOf) (room : Counts) (bytes u less : ℕ) → IsHold shape rows room bytes → new.most ≡ rows.most → new.units ≡ rows.units → Fits shape new.items → ((v : ℕ) → count_of v new.items + gone_at v (Some u) ≡ count_of v rows.items) → less ≡ bytes - stride_at shape u
    → IsHold shape new (record room { used = slice_set room.used u (slice_index room.used u - 1) }) less
gone_hold shape rows new room bytes u less h most units fits count e =
    let some = gone_some shape rows new room bytes u h count in
    record {
      good = h.good;
      units = fits.units;
      openings = fits.openings;
      words = fits.words;
      many = h.many;
      counted = length_set room.used u (slice_index room.used u - 1) ∙ h.counted;
      used = λ v. (let a = used_less room.used u v some in let b = count v in let c = h.used v in omega (arith, a, b, c));
      within = λ v. (let a = used_less room.used u v some in let b = h.within v in omega (arith, a, b));
      small = h.small;
      needs = h.needs;
      reach = h.reach;
      sized = (let l = one_less shape u room.used (index_within room.used u some) some in let was = h.sized in omega (arith, l, was, e));
      places = (let a = h.places in omega (arith, a, most));
      below = units ∙ h.below;
    }

-- there is a place for a record where a slot is free
pub place_left : (shape : Shape) (rows : RowsOf) (room : Counts) (bytes u : ℕ) → IsHold shape rows room bytes → slice_index room.used u < slice_index room.bounds u → length rows.items < rows.most
place_left shape rows room bytes u h free =
    let a = length_used rows.items room.used (below rows.items h.units) h.used in
    let b = slots_below room.used room.bounds u (h.counted ∙ sym h.many) h.within free in
    let c = h.places in
    omega (arith, a, b, c)
  where
    below : (ys : List Item) → Each (λ (y : Item). y.unit < length shape.units) ys → Each (λ (y : Item). y.unit < length room.used) ys
    below [] t = tt
    below (y ∷ ys) t = (let l = h.counted in let k = t.0 in omega (arith, l, k), below ys t.1)

pub bytes_fit : (shape : Shape) (rows : RowsOf) (room : Counts) (bytes : ℕ) → IsHold shape rows room bytes → length shape.units ≤ 8192 → ((u : ℕ) → stride_at shape u ≤ 8192) → bytes ≤ 2 ^ 58
bytes_fit shape rows room bytes h few small =
    let most : (u : ℕ) → slice_index room.used u ≤ 2 ^ 32 = λ u. (let a = h.within u in let b = h.small u in omega (arith, a, b)) in
    let n = h.counted in
    let a = bytes_small shape room.used (omega (arith, n, few)) most small in
    let was = h.sized in
    omega (arith, a, was)

used_more : (used : List ℕ) (u v : ℕ) → u < length used → slice_index (slice_set used u (slice_index used u + 1)) v ≡ slice_index used v + one_if u v
used_more used u v within = side (same_or_not v u)
  where
    side : (v ≡ u) ⊎ (v ≢ u) → slice_index (slice_set used u (slice_index used u + 1)) v ≡ slice_index used v + one_if u v
    side (inl s) = subst (λ (w : ℕ). slice_index (slice_set used u (slice_index used u + 1)) w ≡ slice_index used w + one_if u w) (sym s)
        (let i = index_set used u (slice_index used u + 1) within in
        let one : one_if u u ≡ 1 = (let q : (u == u) ≡ true = grind (arith, nat_tests) in ap {B = ℕ} (λ (t : Bool). if t then 1 else 0) q) in
        omega (arith, i, one))
    side (inr d) =
        let i = index_other used u v (slice_index used u + 1) d in
        let none : one_if u v ≡ 0 = (let q : (u == v) ≡ false = grind (arith, nat_tests) in ap {B = ℕ} (λ (t : Bool). if t then 1 else 0) q) in
        omega (arith, i, none)

pub put_hold : (shape : Shape) (rows : RowsOf) (room : Counts) (bytes more number : ℕ) (s : Sent) → IsHold shape rows room bytes → s.unit < length shape.units → length s.words ≡ words_at shape s.unit → groups_in (grid_of (kind_at shape s.unit) s.words) < GRID_BOUND
    → slice_index room.used s.unit < slice_index room.bounds s.unit → more ≡ bytes + stride_at shape s.unit
    → IsHold shape (record rows { items = rows.items ++ item_of shape number s ∷ [] }) (record room { used = slice_set room.used s.unit (slice_index room.used s.unit + 1) }) more
put_hold shape rows room bytes more number s h unit words few free e =
    let x = item_of shape number s in
    let counted : s.unit < length room.used = (let l = h.counted in omega (arith, l, unit)) in
    record {
      good = h.good;
      units = each_push (λ (y : Item). y.unit < length shape.units) rows.items x h.units unit;
      openings = each_push (λ (y : Item). IsOpening y.opening) rows.items x h.openings (record { opened = omega arith; left = omega arith; few = few });
      words = each_push (λ (y : Item). length y.words ≡ words_at shape y.unit) rows.items x h.words words;
      many = h.many;
      counted = length_set room.used s.unit (slice_index room.used s.unit + 1) ∙ h.counted;
      used = λ v. (let a = used_more room.used s.unit v counted in let b = count_push v rows.items x in let c = h.used v in omega (arith, a, b, c));
      within = λ v. side v (same_or_not v s.unit);
      small = h.small;
      needs = h.needs;
      reach = h.reach;
      sized = (let m = bytes_more shape s.unit room.used counted in let was = h.sized in omega (arith, m, was, e));
      places = h.places;
      below = h.below;
    }
  where
    side : (v : ℕ) → (v ≡ s.unit) ⊎ (v ≢ s.unit) → slice_index (slice_set room.used s.unit (slice_index room.used s.unit + 1)) v ≤ slice_index room.bounds v
    side v (inl q) = subst (λ (w : ℕ). slice_index (slice_set room.used s.unit (slice_index room.used s.unit + 1)) w ≤ slice_index room.bounds w) (sym q)
        (let i = index_set room.used s.unit (slice_index room.used s.unit + 1) (let l = h.counted in omega (arith, l, unit)) in omega (arith, i, free))
    side v (inr d) = (let i = index_other room.used s.unit v (slice_index room.used s.unit + 1) d in let w = h.within v in omega (arith, i, w))

pub new_hold : (shape : Shape) (most units : ℕ) (room : Counts) → IsGoodShape shape → length room.bounds ≡ length shape.units → room.used ≡ replicate (length room.bounds) 0 → ((v : ℕ) → slice_index room.bounds v < 2 ^ 32)
    → ((u v : ℕ) → v < length room.bounds → need_at room u v ≡ need shape u v) → ((u v : ℕ) → 0 < need_at room u v → v < length room.bounds) → slots_in room.bounds ≤ most → units ≡ length shape.units
    → IsHold shape (record { items = []; most = most; units = units }) room 0
new_hold shape most units room good many none small needs reach places below =
    record {
      good = good;
      units = tt;
      openings = tt;
      words = tt;
      many = many;
      counted = ap (λ (l : List ℕ). length l) none ∙ length_none (length room.bounds) 0 ∙ many;
      used = λ v. zero_at v;
      within = λ v. (let z = zero_at v in omega (arith, z));
      small = small;
      needs = λ u v h. needs u v (omega (arith, h, many));
      reach = λ u v h. (let k = reach u v h in omega (arith, k, many));
      sized = sym (ap (slot_bytes shape 0) none ∙ no_bytes shape 0 (length room.bounds));
      places = places;
      below = below;
    }
  where
    zero_at : (v : ℕ) → slice_index room.used v ≡ 0
    zero_at v = ap (λ (l : List ℕ). slice_index l v) none ∙ index_none (length room.bounds) v

-- ---- what is told of every hold

rises_to : (n : ℕ) (xs : List Item) → AreRising n xs → (end : ℕ) × ItemsRise n xs end
rises_to n [] r = (n, omega arith)
rises_to n (x ∷ xs) r = let t = rises_to (x.number + 1) xs r.1 in (t.0, (r.0, t.1))

pub held_sound : (shape : Shape) (rows : RowsOf) (room : Counts) (bytes : ℕ) → IsHold shape rows room bytes → AreRising 0 rows.items → Each (λ (x : Item). has_left x ≡ true) rows.items → IsHeldSound (record { shape = shape; items = rows.items; room = room })
held_sound shape rows room bytes h rises left =
    record {
      good = h.good;
      rises = rises_to 0 rows.items rises;
      units = h.units;
      openings = h.openings;
      left = left;
      words = h.words;
      many = h.many;
      counted = h.counted;
      used = h.used;
      within = h.within;
      small = h.small;
      needs = h.needs;
      reach = h.reach;
    }
