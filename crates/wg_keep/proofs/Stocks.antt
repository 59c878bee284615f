-- A stock of which one unit changes.
use Rattle.std.proofs.Common.{◌≡◌, ◌≢◌, ℕ, zero, suc, ◌+◌, ◌-◌, ◌*◌, ◌<◌, ◌≤◌, ◌^◌, Bool, true, false, List, [], ◌∷◌, length, map, refl, ap, sym, ◌∙◌, subst, arith, Option, None, Some, unwrap_or, inl, inr, ◌⊎◌}
use Rattle.std.specs.List.{cons_option}
use Rattle.std.specs.Option.{option_map}
use Rattle.std.proofs.lemmas.List.{length_push}
use Rattle.std.specs.Prelude.{◌==◌, ◌↔◌, IfSome, filter_map, is_some, nat_lt, replicate, slice_get, slice_set, slice_index}
use Rattle.std.proofs.lemmas.Bool.Decides.{nat_tests}
use Rattle.wg_machine.specs.declared.shape.Shape.{Shape}
use Rattle.wg_machine.specs.declared.shape.Unit.{Unit as Node}
use Rattle.wg_machine.specs.GoodShape.{IsGoodShape}
use Rattle.wg_machine.specs.Need.{need}
use Rattle.wg_machine.specs.declared.launch.Record.{Record}
use Rattle.wg_machine.specs.Units.{depth_at, stride_at, words_at}
use Rattle.wg_pick.specs.Order.{IsBefore, IsWaiting, Precedes, Waiting, none_waits}
use Rattle.wg_room.specs.Counts.{Counts, HasSlotsLeft, need_at}
use Rattle.wg_slots.specs.SlotsOf.{HoldsFirst, Puts, Releases, SlotsOf, Writes, free_of, record_at, slots_at, used_of, waiting_of}
use Rattle.wg_standing.specs.Moves.{slot_bytes}
use Rattle.wg_keep.specs.declared.stock.Stock.{Stock}
use Rattle.wg_keep.specs.Stock.{IsEmptyStock, IsPickOf, IsStock, KeepsOthers, Waits}
use Rattle.wg_keep.proofs.Rows.{at_most, bytes_few, bytes_less, bytes_more, get_other, get_set, index_other, index_set, length_set, slots_length, slots_other}

pub same_or_not : (m n : ℕ) → (m ≡ n) ⊎ (m ≢ n)
same_or_not m n = choice (m == n) refl
  where
    choice : (b : Bool) → (m == n) ≡ b → (m ≡ n) ⊎ (m ≢ n)
    choice true e = inl (grind (arith, nat_tests))
    choice false e = inr (λ (q : m ≡ n). let d : m ≢ n = grind (arith, nat_tests) in d q)

-- what changed at a unit, and that nothing did elsewhere
pub record Changed (s t : Stock) (u : ℕ) (used : List ℕ) (flags : List Bool) : Type 0 where
  pub shape : t.shape ≡ s.shape
  pub slots : t.slots ≡ slice_set s.slots u (slots_at t.slots u)
  pub words : (slots_at t.slots u).words ≡ (slots_at s.slots u).words
  pub count : (slots_at t.slots u).slots ≡ (slots_at s.slots u).slots
  pub room : t.room ≡ record s.room { used = used }
  pub many : length used ≡ length s.room.used
  pub used_here : slice_index used u ≡ used_of (slots_at t.slots u)
  pub used_elsewhere : (v : ℕ) → v ≢ u → slice_index used v ≡ slice_index s.room.used v
  pub few : slice_index used u ≤ (slots_at s.slots u).slots
  pub picker : t.picker ≡ record s.picker { waits = flags }
  pub flags_many : length flags ≡ length s.picker.waits
  pub flags_here : (slice_get flags u ≡ Some true) ↔ Waits t u
  pub flags_elsewhere : (v : ℕ) → v ≢ u → slice_get flags v ≡ slice_get s.picker.waits v
  pub bytes : t.bytes ≡ slot_bytes s.shape 0 used

pub changed_stock : (s t : Stock) (u : ℕ) (used : List ℕ) (flags : List Bool) → IsStock s → u < length s.shape.units → Changed s t u used flags → IsStock t
changed_stock s t u used flags sound within c =
    let many : length t.slots ≡ length s.slots = slots_length s.slots t.slots u c.slots in
    let room_used = ap (λ (r : Counts). r.used) c.room in
    let room_bounds = ap (λ (r : Counts). r.bounds) c.room in
    let same_units = ap (λ (a : Shape). length a.units) c.shape in
    let picks = ap (λ (w : Waiting). w.waits) c.picker in
    record {
      good = subst IsGoodShape (sym c.shape) sound.good;
      units = many ∙ sound.units ∙ sym same_units;
      bounds = ap (λ (l : List ℕ). length l) room_bounds ∙ sound.bounds ∙ sym same_units;
      counted = ap (λ (l : List ℕ). length l) room_used ∙ c.many ∙ sound.counted ∙ sym same_units;
      flags = ap (λ (l : List Bool). length l) picks ∙ c.flags_many ∙ sound.flags ∙ sym same_units;
      depths = ap (λ (w : Waiting). w.depths) c.picker ∙ sound.depths ∙ sym (ap (λ (a : Shape). map (λ (n : Node). n.depth) a.units) c.shape);
      waiting = λ v h. elim (same_or_not v u) [
        | inl e ↦ subst (λ (w : ℕ). IsWaiting t.picker w ↔ Waits t w) (sym e) (subst (λ (fs : List Bool). (slice_get fs u ≡ Some true) ↔ Waits t u) (sym picks) c.flags_here)
        | inr d ↦ (
            let e : slots_at t.slots v ≡ slots_at s.slots v = slots_other s.slots t.slots u v c.slots d in
            let f : slice_get t.picker.waits v ≡ slice_get s.picker.waits v = ap (λ (fs : List Bool). slice_get fs v) picks ∙ c.flags_elsewhere v d in
            let old = sound.waiting v (subst (λ (n : ℕ). v < n) same_units h) in
            subst (λ (o : Option Bool). (o ≡ Some true) ↔ Waits t v) (sym f) (subst (λ (k : SlotsOf). (slice_get s.picker.waits v ≡ Some true) ↔ (0 < length (waiting_of k))) (sym e) old)
            )
      ];
      words = λ v h. elim (same_or_not v u) [
        | inl e ↦ subst (λ (w : ℕ). (slots_at t.slots w).words ≡ words_at t.shape w) (sym e) (c.words ∙ sound.words u within ∙ sym (ap (λ (a : Shape). words_at a u) c.shape))
        | inr d ↦ ap (λ (k : SlotsOf). k.words) (slots_other s.slots t.slots u v c.slots d) ∙ sound.words v (subst (λ (n : ℕ). v < n) same_units h) ∙ sym (ap (λ (a : Shape). words_at a v) c.shape)
      ];
      used = λ v h. elim (same_or_not v u) [
        | inl e ↦ subst (λ (w : ℕ). slice_index t.room.used w ≡ used_of (slots_at t.slots w)) (sym e) (ap (λ (l : List ℕ). slice_index l u) room_used ∙ c.used_here)
        | inr d ↦ ap (λ (l : List ℕ). slice_index l v) room_used ∙ c.used_elsewhere v d ∙ sound.used v (subst (λ (n : ℕ). v < n) same_units h) ∙ sym (ap used_of (slots_other s.slots t.slots u v c.slots d))
      ];
      slots = λ v h. elim (same_or_not v u) [
        | inl e ↦ subst (λ (w : ℕ). slice_index t.room.bounds w ≡ (slots_at t.slots w).slots) (sym e) (ap (λ (l : List ℕ). slice_index l u) room_bounds ∙ sound.slots u within ∙ sym c.count)
        | inr d ↦ ap (λ (l : List ℕ). slice_index l v) room_bounds ∙ sound.slots v (subst (λ (n : ℕ). v < n) same_units h) ∙ sym (ap (λ (k : SlotsOf). k.slots) (slots_other s.slots t.slots u v c.slots d))
      ];
      within = λ v. elim (same_or_not v u) [
        | inl e ↦ subst (λ (w : ℕ). slice_index t.room.used w ≤ slice_index t.room.bounds w) (sym e) (let a = ap (λ (l : List ℕ). slice_index l u) room_used in let b = ap (λ (l : List ℕ). slice_index l u) room_bounds in let k = sound.slots u within in let f = c.few in omega (arith, a, b, k, f))
        | inr d ↦ (let a = ap (λ (l : List ℕ). slice_index l v) room_used in let b = ap (λ (l : List ℕ). slice_index l v) room_bounds in let k = c.used_elsewhere v d in let f = sound.within v in omega (arith, a, b, k, f))
      ];
      small = λ v. (let b = ap (λ (l : List ℕ). slice_index l v) room_bounds in let k = sound.small v in omega (arith, b, k));
      needs = λ w v h. (
          ap (λ (r : Counts). need_at r w v) c.room
          ∙ sound.needs w v (subst (λ (n : ℕ). v < n) same_units h)
          ∙ sym (ap (λ (a : Shape). need a w v) c.shape)
          );
      bytes = c.bytes ∙ sym (ap (λ (a : Shape). slot_bytes a 0 used) c.shape) ∙ sym (ap (slot_bytes t.shape 0) room_used);
    }

pub others_of : (s t : Stock) (u : ℕ) (used : List ℕ) (flags : List Bool) → Changed s t u used flags → IsStock t → KeepsOthers s t u
others_of s t u used flags c sound =
    record {
      shape = c.shape;
      slots = c.slots;
      room = subst (λ (r : Counts). r ≡ record s.room { used = r.used }) (sym c.room) refl;
      used = λ v h. sound.used v (subst (λ (a : Shape). v < length a.units) (sym c.shape) h);
    }

-- a record was put at a unit
pub put_changes : (s t : Stock) (u : ℕ) (r : Record) → IsStock s → u < length s.shape.units → 0 < free_of (slots_at s.slots u) → Puts (slots_at s.slots u) (slots_at t.slots u) r → t.slots ≡ slice_set s.slots u (slots_at t.slots u)
    → t.shape ≡ s.shape → t.room ≡ record s.room { used = slice_set s.room.used u (slice_index s.room.used u + 1) } → t.picker ≡ record s.picker { waits = slice_set s.picker.waits u true }
    → t.bytes ≡ s.bytes + stride_at s.shape u → Changed s t u (slice_set s.room.used u (slice_index s.room.used u + 1)) (slice_set s.picker.waits u true)
put_changes s t u r sound within free puts slots shape room picker bytes =
    let old = slots_at s.slots u in
    let new = slots_at t.slots u in
    let counted : u < length s.room.used = let e = sound.counted in omega (arith, e, within) in
    let flagged : u < length s.picker.waits = let e = sound.flags in omega (arith, e, within) in
    let here = index_set s.room.used u (slice_index s.room.used u + 1) counted in
    let used = sound.used u within in
    let more = puts.used in
    let waiting = ap (λ (rs : List Record). length rs) puts.waiting in
    let longer = length_push (waiting_of old) r in
    let there = get_set s.picker.waits u true flagged in
    let more_bytes = bytes_more s.shape u s.room.used counted in
    let was = sound.bytes in
    record {
      shape = shape;
      slots = slots;
      words = ap (λ (k : SlotsOf). k.words) puts.same;
      count = ap (λ (k : SlotsOf). k.slots) puts.same;
      room = room;
      many = length_set s.room.used u (slice_index s.room.used u + 1);
      used_here = omega (arith, here, used, more);
      used_elsewhere = λ v d. index_other s.room.used u v (slice_index s.room.used u + 1) d;
      few = omega (arith, here, used, free);
      picker = picker;
      flags_many = length_set s.picker.waits u true;
      flags_here = (λ (e : slice_get (slice_set s.picker.waits u true) u ≡ Some true). omega (arith, waiting, longer), λ (h : Waits t u). there);
      flags_elsewhere = λ v d. get_other s.picker.waits u v true d;
      bytes = omega (arith, bytes, was, more_bytes);
    }

-- the first record that waited at a unit is held
pub hold_changes : (s t : Stock) (u slot : ℕ) → IsStock s → u < length s.shape.units → HoldsFirst (slots_at s.slots u) (slots_at t.slots u) slot → t.slots ≡ slice_set s.slots u (slots_at t.slots u)
    → t.shape ≡ s.shape → t.room ≡ s.room → t.picker ≡ record s.picker { waits = slice_set s.picker.waits u (nat_lt 0 (length (waiting_of (slots_at t.slots u)))) }
    → t.bytes ≡ s.bytes → Changed s t u s.room.used (slice_set s.picker.waits u (nat_lt 0 (length (waiting_of (slots_at t.slots u)))))
hold_changes s t u slot sound within holds slots shape room picker bytes =
    let new = slots_at t.slots u in
    let flag = nat_lt 0 (length (waiting_of new)) in
    let flagged : u < length s.picker.waits = let e = sound.flags in omega (arith, e, within) in
    let used = sound.used u within in
    let low = sound.within u in
    let most = sound.slots u within in
    record {
      shape = shape;
      slots = slots;
      words = ap (λ (k : SlotsOf). k.words) holds.same;
      count = ap (λ (k : SlotsOf). k.slots) holds.same;
      room = room;
      many = refl;
      used_here = used ∙ sym (ap used_of holds.same);
      used_elsewhere = λ v d. refl;
      few = omega (arith, low, most);
      picker = picker;
      flags_many = length_set s.picker.waits u flag;
      flags_here = rw (get_set s.picker.waits u flag flagged) (some_true (length (waiting_of new)));
      flags_elsewhere = λ v d. get_other s.picker.waits u v flag d;
      bytes = bytes ∙ sound.bytes;
    }
  where
    inside : (b : Bool) → (Some b ≡ Some true) → b ≡ true
    inside true e = refl
    inside false e = absurd (cc)

    some_true : (n : ℕ) → (Some (nat_lt 0 n) ≡ Some true) ↔ (0 < n)
    some_true n = (λ e. (let t = inside (nat_lt 0 n) e in grind (arith, nat_tests)), λ h. ap (λ (b : Bool). Some b) (let t : nat_lt 0 n ≡ true = grind (arith, nat_tests) in t))

-- a held slot of a unit was released
pub release_changes : (s t : Stock) (u slot : ℕ) → IsStock s → u < length s.shape.units → Releases (slots_at s.slots u) (slots_at t.slots u) slot → t.slots ≡ slice_set s.slots u (slots_at t.slots u)
    → t.shape ≡ s.shape → t.room ≡ record s.room { used = slice_set s.room.used u (slice_index s.room.used u - 1) } → t.picker ≡ s.picker
    → t.bytes ≡ s.bytes - stride_at s.shape u → Changed s t u (slice_set s.room.used u (slice_index s.room.used u - 1)) s.picker.waits
release_changes s t u slot sound within frees slots shape room picker bytes =
    let counted : u < length s.room.used = let e = sound.counted in omega (arith, e, within) in
    let n = slice_index s.room.used u - 1 in
    let here = index_set s.room.used u n counted in
    let used = sound.used u within in
    let less = frees.used in
    let low = sound.within u in
    let most = sound.slots u within in
    let was = sound.bytes in
    let fewer = bytes_less s.shape u n s.room.used counted (omega (arith, used, less)) in
    record {
      shape = shape;
      slots = slots;
      words = ap (λ (k : SlotsOf). k.words) frees.same;
      count = ap (λ (k : SlotsOf). k.slots) frees.same;
      room = room;
      many = length_set s.room.used u n;
      used_here = omega (arith, here, used, less);
      used_elsewhere = λ v d. index_other s.room.used u v n d;
      few = omega (arith, here, low, most);
      picker = picker;
      flags_many = refl;
      flags_here = subst (λ (rs : List Record). (slice_get s.picker.waits u ≡ Some true) ↔ (0 < length rs)) (sym frees.waiting) (sound.waiting u within);
      flags_elsewhere = λ v d. refl;
      bytes = omega (arith, bytes, was, fewer);
    }

-- the stride of a unit of which a slot is in use is within the bytes
pub stride_within : (s : Stock) (u n : ℕ) → IsStock s → u < length s.shape.units → slice_index s.room.used u ≡ n + 1 → stride_at s.shape u ≤ s.bytes
stride_within s u n sound within used =
    let counted : u < length s.room.used = let e = sound.counted in omega (arith, e, within) in
    let was = sound.bytes in
    let fewer = bytes_less s.shape u n s.room.used counted used in
    omega (arith, was, fewer)

-- the bytes of a stock are few
pub bytes_small : (s : Stock) → IsStock s → length s.shape.units ≤ 8192 → ((u : ℕ) → stride_at s.shape u ≤ 8192) → s.bytes ≤ 2 ^ 58
bytes_small s sound few small =
    let most : (u : ℕ) → slice_index s.room.used u ≤ 2 ^ 32 = λ u. (let a = sound.within u in let b = sound.small u in omega (arith, a, b)) in
    let a = bytes_few s.shape 0 (2 ^ 32) 8192 s.room.used most small in
    let n = sound.counted in
    let b = at_most (length s.room.used) 8192 (2 ^ 32 * 8192) (2 ^ 32 * 8192) (omega (arith, n, few)) (omega arith) in
    let was = sound.bytes in
    omega (arith, a, b, was)

index_none : (n v : ℕ) → slice_index (replicate n 0) v ≡ 0
index_none zero v = refl
index_none (suc n) zero = refl
index_none (suc n) (suc v) = index_none n v

length_none : {X : Type 0} (n : ℕ) (x : X) → length (replicate n x) ≡ n
length_none zero x = refl
length_none (suc n) x = ap suc (length_none n x)

no_flag : (n v : ℕ) → slice_get (replicate n false) v ≡ Some true → ⊥
no_flag zero v e = absurd (cc)
no_flag (suc n) zero e = other e
  where
    other : (Some false ≡ Some true) → ⊥
    other e = absurd (cc)
no_flag (suc n) (suc v) e = no_flag n v e

no_bytes : (shape : Shape) (v n : ℕ) → slot_bytes shape v (replicate n 0) ≡ 0
no_bytes shape v zero = refl
no_bytes shape v (suc n) = let z : 0 * stride_at shape v ≡ 0 = omega arith in let k = no_bytes shape (v + 1) n in omega (arith, z, k)

pub empty_sound : (s : Stock) (counts : List ℕ) → IsGoodShape s.shape → length s.slots ≡ length s.shape.units → length counts ≡ length s.shape.units → IsEmptyStock s counts → s.picker ≡ none_waits s.shape
    → ((v : ℕ) → slice_index counts v < 2 ^ 32) → ((u v : ℕ) → v < length counts → need_at s.room u v ≡ need s.shape u v) → s.bytes ≡ 0 → IsStock s
empty_sound s counts good units count e picker small needs bytes =
    let n = length s.shape.units in
    let waits = ap (λ (w : Waiting). w.waits) picker in
    record {
      good = good;
      units = units;
      bounds = ap (λ (l : List ℕ). length l) e.bounds ∙ count;
      counted = ap (λ (l : List ℕ). length l) e.used ∙ length_none (length counts) 0 ∙ count;
      flags = ap (λ (l : List Bool). length l) waits ∙ length_none n false;
      depths = ap (λ (w : Waiting). w.depths) picker;
      waiting = λ u h. (
          let bare = e.slots u h in (
            λ (i : slice_get s.picker.waits u ≡ Some true). absurd (no_flag n u (subst (λ (fs : List Bool). slice_get fs u ≡ Some true) waits i)),
            λ (w : Waits s u). (let z : 0 < 0 = subst (λ (k : SlotsOf). 0 < length (waiting_of k)) bare w in absurd (omega (arith, z))),
          )
          );
      words = λ u h. ap (λ (k : SlotsOf). k.words) (e.slots u h);
      used = λ u h. ap (λ (l : List ℕ). slice_index l u) e.used ∙ index_none (length counts) u ∙ sym (ap used_of (e.slots u h));
      slots = λ u h. ap (λ (l : List ℕ). slice_index l u) e.bounds ∙ sym (ap (λ (k : SlotsOf). k.slots) (e.slots u h));
      within = λ u. (let z = ap (λ (l : List ℕ). slice_index l u) e.used ∙ index_none (length counts) u in omega (arith, z));
      small = λ u. subst (λ (l : List ℕ). slice_index l u < 2 ^ 32) (sym e.bounds) (small u);
      needs = λ u v h. needs u v (omega (arith, h, count));
      bytes = bytes ∙ sym (ap (slot_bytes s.shape 0) e.used ∙ no_bytes s.shape 0 (length counts));
    }

pub words_index : (units : List Node) (u : ℕ) → slice_index (map (λ (n : Node). n.words) units) u ≡ unwrap_or (option_map (λ (n : Node). n.words) (slice_get units u)) 0
words_index [] u = refl
words_index (n ∷ units) zero = refl
words_index (n ∷ units) (suc u) = words_index units u

depth_index : (units : List Node) (u : ℕ) → slice_index (map (λ (n : Node). n.depth) units) u ≡ unwrap_or (option_map (λ (n : Node). n.depth) (slice_get units u)) 0
depth_index [] u = refl
depth_index (n ∷ units) zero = refl
depth_index (n ∷ units) (suc u) = depth_index units u

waits_within : (ws : List Bool) (u : ℕ) → slice_get ws u ≡ Some true → u < length ws
waits_within [] u e = absurd (cc)
waits_within (w ∷ ws) zero e = omega arith
waits_within (w ∷ ws) (suc u) e = let k = waits_within ws u e in omega arith

-- what is picked is the best
pub pick_is : (s : Stock) (r : Option ℕ) → IsStock s → IfSome r (IsWaiting s.picker) → IfSome r (HasSlotsLeft s.room) → ((v : ℕ) → IsWaiting s.picker v → Precedes s.picker v r → HasSlotsLeft s.room v → ⊥) → IfSome r (IsPickOf s)
pick_is s None sound waits room first = tt
pick_is s (Some u) sound waits room first =
    let flagged = waits_within s.picker.waits u waits in
    let within : u < length s.shape.units = let f = sound.flags in omega (arith, flagged, f) in
    record {
      within = within;
      waits = (sound.waiting u within).0 waits;
      room = room;
      best = λ v h w left. compare v (λ (b : IsBefore s.picker v u). first v ((sound.waiting v h).1 w) b left);
    }
  where
    depth : (v : ℕ) → slice_index s.picker.depths v ≡ depth_at s.shape v
    depth v = ap (λ (l : List ℕ). slice_index l v) sound.depths ∙ depth_index s.shape.units v

    compare : (v : ℕ) → (IsBefore s.picker v u → ⊥) → (depth_at s.shape v < depth_at s.shape u) ⊎ ((depth_at s.shape v ≡ depth_at s.shape u) × (u ≤ v))
    compare v not_before = go (nat_lt (depth_at s.shape v) (depth_at s.shape u)) refl (nat_lt (depth_at s.shape u) (depth_at s.shape v)) refl (nat_lt v u) refl
      where
        go : (a : Bool) → nat_lt (depth_at s.shape v) (depth_at s.shape u) ≡ a → (b : Bool) → nat_lt (depth_at s.shape u) (depth_at s.shape v) ≡ b → (d : Bool) → nat_lt v u ≡ d → (depth_at s.shape v < depth_at s.shape u) ⊎ ((depth_at s.shape v ≡ depth_at s.shape u) × (u ≤ v))
        go true p b q d r = inl (grind (arith, nat_tests))
        go false p true q d r = absurd (not_before (inl (let x = depth v in let y = depth u in let z : depth_at s.shape u < depth_at s.shape v = grind (arith, nat_tests) in omega (arith, x, y, z))))
        go false p false q true r =
            let lo : depth_at s.shape u ≤ depth_at s.shape v = grind (arith, nat_tests) in
            let hi : depth_at s.shape v ≤ depth_at s.shape u = grind (arith, nat_tests) in
            let less : v < u = grind (arith, nat_tests) in
            absurd (not_before (inr (let x = depth v in let y = depth u in (omega (arith, x, y, lo, hi), less))))
        go false p false q false r =
            let lo : depth_at s.shape u ≤ depth_at s.shape v = grind (arith, nat_tests) in
            let hi : depth_at s.shape v ≤ depth_at s.shape u = grind (arith, nat_tests) in
            inr (omega (arith, lo, hi), grind (arith, nat_tests))

-- as many are found where a test finds the same
found_alike : (f g : ℕ → Option Record) → ((p : ℕ) → is_some (f p) ≡ is_some (g p)) → (ps : List ℕ) → length (filter_map f ps) ≡ length (filter_map g ps)
found_alike f g h [] = refl
found_alike f g h (p ∷ ps) = both (f p) (g p) (h p) (found_alike f g h ps)
  where
    both : (a b : Option Record) → is_some a ≡ is_some b → length (filter_map f ps) ≡ length (filter_map g ps) → length (cons_option a (filter_map f ps)) ≡ length (cons_option b (filter_map g ps))
    both None None e ih = ih
    both (Some x) (Some y) e ih = ap suc ih
    both None (Some y) e ih = absurd (cc)
    both (Some x) None e ih = absurd (cc)

-- the record of a slot has other words
pub write_changes : (s t : Stock) (u slot : ℕ) (words : List ℕ) → IsStock s → u < length s.shape.units → Writes (slots_at s.slots u) (slots_at t.slots u) slot words → t.slots ≡ slice_set s.slots u (slots_at t.slots u)
    → t ≡ record s { slots = t.slots } → Changed s t u s.room.used s.picker.waits
write_changes s t u slot words sound within writes slots same =
    let old = slots_at s.slots u in
    let new = slots_at t.slots u in
    let used = sound.used u within in
    let low = sound.within u in
    let most = sound.slots u within in
    let places : new.places ≡ old.places = ap (λ (k : SlotsOf). k.places) writes.same in
    let alike : (p : ℕ) → is_some (record_at new p) ≡ is_some (record_at old p) = λ p. elim (same_or_not p slot) [
      | inl e ↦ ap (λ (q : ℕ). is_some (record_at new q)) e ∙ ap (λ (o : Option Record). is_some o) writes.is_there ∙ sym (ap (λ (o : Option Record). is_some o) writes.was_there) ∙ sym (ap (λ (q : ℕ). is_some (record_at old q)) e)
      | inr d ↦ ap (λ (o : Option Record). is_some o) (writes.others p d)
    ] in
    let many : length (waiting_of new) ≡ length (waiting_of old) = found_alike (record_at new) (record_at old) alike new.places ∙ ap (λ (ps : List ℕ). length (filter_map (record_at old) ps)) places in
    record {
      shape = ap (λ (x : Stock). x.shape) same;
      slots = slots;
      words = ap (λ (k : SlotsOf). k.words) writes.same;
      count = ap (λ (k : SlotsOf). k.slots) writes.same;
      room = ap (λ (x : Stock). x.room) same;
      many = refl;
      used_here = used ∙ sym writes.used;
      used_elsewhere = λ v d. refl;
      few = omega (arith, low, most);
      picker = ap (λ (x : Stock). x.picker) same;
      flags_many = refl;
      flags_here = subst (λ (n : ℕ). (slice_get s.picker.waits u ≡ Some true) ↔ (0 < n)) (sym many) (sound.waiting u within);
      flags_elsewhere = λ v d. refl;
      bytes = ap (λ (x : Stock). x.bytes) same ∙ sound.bytes;
    }
