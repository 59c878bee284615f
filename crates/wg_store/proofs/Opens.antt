-- A keep that opens a launch.
use Rattle.std.proofs.Common.{◌≡◌, ℕ, suc, ◌+◌, ◌<◌, ◌≤◌, Bool, true, false, List, [], ◌∷◌, ◌++◌, length, map, refl, ap, sym, ◌∙◌, subst, arith, ◌⊎◌, inl, inr}
use Rattle.std.specs.Prelude.{if◌then◌else◌, ◌==◌, slice_index, nat_lt, take_while}
use Rattle.std.proofs.lemmas.Bool.Decides.{nat_tests}
use Rattle.std.proofs.lemmas.List.Sums.{sum_by-cons}
use Rattle.wg_words.specs.Each.{Each}
use Rattle.wg_machine.specs.declared.launch.Live.{Live}
use Rattle.wg_machine.specs.declared.shape.Shape.{Shape}
use Rattle.wg_machine.specs.Grids.{groups_in, groups_of}
use Rattle.wg_machine.specs.Need.{need}
use Rattle.wg_machine.specs.Step.{has_number}
use Rattle.wg_keep.specs.Opening.{IsOpening, unopened_groups}
use Rattle.wg_room.specs.Counts.{Counts, Reserves, need_at}
use Rattle.wg_standing.specs.declared.pending.Pending.{Pending}
use Rattle.wg_standing.specs.Choice.{IsChoice, first_unit, next_entries, pending_from}
use Rattle.wg_standing.specs.Core.{CoreView}
use Rattle.wg_standing.specs.Laws.{OnlyUnitsAreNeeded, OpeningsPlace, UnopenedIsWhole}
use Rattle.wg_standing.specs.Moves.{with_out}
use Rattle.wg_standing.specs.Standing.{EachFull, IsPlaced, reserved}
use Rattle.wg_store.specs.declared.item.Item.{Item}
use Rattle.wg_store.specs.Items.{AreAtPlaces, CanOpen, ItemsRise, LeftIsCounted, OpensNext, all_opened, fits_next, fits_unit, live_item, lives, with_opened}
use Rattle.wg_store.specs.Keep.{IsKept, IsRoomOf, Kept, items_of, kept_with_out, seen, view_of}
use Rattle.wg_store.proofs.Choices.{GroupsAreCounted, next_map, pending_is}
use Rattle.wg_store.proofs.Found.{drop_all}
use Rattle.wg_store.proofs.Keeps.{left_is, long_by_unit, waiting_is}
use Rattle.wg_store.proofs.Lives.{lives_opened, opened_counted, unopened_waits}
use Rattle.wg_store.proofs.Sights.{seen_is}
use Rattle.wg_store.proofs.Taken.{IsFound, all_found, entries_taken, rises_places, slots_taken, taken_open}

opened_append : (ns : List ℕ) (xs ys : List Item) → all_opened ns (xs ++ ys) ≡ all_opened ns xs ++ all_opened ns ys
opened_append ns [] ys = refl
opened_append ns (x ∷ xs) ys = ap (λ (rest : List Item). (if has_number ns x.number then with_opened x else x) ∷ rest) (opened_append ns xs ys)

long_opened : (ns : List ℕ) (xs : List Item) → length (all_opened ns xs) ≡ length xs
long_opened ns [] = refl
long_opened ns (x ∷ xs) = ap suc (long_opened ns xs)

same_number : (b : Bool) (x : Item) → (if b then with_opened x else x).number ≡ x.number
same_number true x = refl
same_number false x = refl

same_unit : (b : Bool) (x : Item) → (if b then with_opened x else x).unit ≡ x.unit
same_unit true x = refl
same_unit false x = refl

opened_places : (ns : List ℕ) (n : ℕ) (xs : List Item) → AreAtPlaces n xs → AreAtPlaces n (all_opened ns xs)
opened_places ns n [] p = tt
opened_places ns n (x ∷ xs) p = (same_number (has_number ns x.number) x ∙ p.0, opened_places ns (n + 1) xs p.1)

opened_rises : (ns : List ℕ) (lo end : ℕ) (xs : List Item) → ItemsRise lo xs end → ItemsRise lo (all_opened ns xs) end
opened_rises ns lo end [] r = r
opened_rises ns lo end (x ∷ xs) r =
    let e = same_number (has_number ns x.number) x in
    (subst (λ (m : ℕ). lo ≤ m) (sym e) r.0, subst (λ (m : ℕ). ItemsRise (m + 1) (all_opened ns xs) end) (sym e) (opened_rises ns (x.number + 1) end xs r.1))

opened_units : (ns : List ℕ) (n : ℕ) (xs : List Item) → Each (λ (x : Item). x.unit < n) xs → Each (λ (x : Item). x.unit < n) (all_opened ns xs)
opened_units ns n [] each = tt
opened_units ns n (x ∷ xs) each = (subst (λ (m : ℕ). m < n) (sym (same_unit (has_number ns x.number) x)) each.0, opened_units ns n xs each.1)

-- a record that has a group next has one that is not opened
opens_some : GroupsAreCounted → (o : Pending) (x : Item) → OpensNext o x → has_number o.inputs x.number ≡ true → x.opening.opened < groups_in x.opening.grid
opens_some law o x opens has = elim (decide x.opening.opened (groups_in x.opening.grid)) [
  | inl h ↦ h
  | inr past ↦ (
      let many = law x.opening.grid in
      let none : unopened_groups x.opening ≡ [] = drop_all (groups_of x.opening.grid) x.opening.opened (omega (arith, many, past)) in
      absurd (cons_nil o.at (unopened_groups (with_opened x).opening) (sym (opens has) ∙ none))
      )
]
  where
    cons_nil : (g : List ℕ) (gs : List (List ℕ)) → g ∷ gs ≡ [] → ⊥
    cons_nil g gs e = absurd (cc)

    decide : (a b : ℕ) → (a < b) ⊎ (b ≤ a)
    decide a b = choice (nat_lt a b) refl
      where
        choice : (t : Bool) → nat_lt a b ≡ t → (a < b) ⊎ (b ≤ a)
        choice true e = inl (grind (arith, nat_tests))
        choice false e = inr (grind (arith, nat_tests))

opened_openings : GroupsAreCounted → (o : Pending) (xs : List Item) → Each (OpensNext o) xs → Each (λ (x : Item). IsOpening x.opening) xs → Each (λ (x : Item). IsOpening x.opening) (all_opened o.inputs xs)
opened_openings law o [] opens each = tt
opened_openings law o (x ∷ xs) opens each = (go (has_number o.inputs x.number) refl, opened_openings law o xs opens.1 each.1)
  where
    go : (b : Bool) → has_number o.inputs x.number ≡ b → IsOpening (if b then with_opened x else x).opening
    go true e =
        let some = opens_some law o x opens.0 e in
        let was = each.0 in
        record { opened = omega (arith, some); left = was.left; few = was.few }
    go false e = each.0

pub can_open : GroupsAreCounted → (o : Pending) (xs : List Item) → Each (OpensNext o) xs → Each (λ (x : Item). IsOpening x.opening) xs → Each (CanOpen o.inputs) xs
can_open law o [] opens each = tt
can_open law o (x ∷ xs) opens each = ((λ has. (let some = opens_some law o x opens.0 has in let few = each.0.few in omega (arith, some, few))), can_open law o xs opens.1 each.1)

-- what is live with nothing out is full
waiting_full : UnopenedIsWhole → (k : Kept) → IsKept k → EachFull k.shape (lives [] (items_of k))
waiting_full whole k s = subst (EachFull k.shape) (unopened_waits k.outs (items_of k)) (whole (view_of k) s.placed).full

-- the launch of the choice has its group next
pub choice_opens : GroupsAreCounted → UnopenedIsWhole → (k : Kept) (o : Pending) → IsKept k → IsChoice (view_of k) o → Each (OpensNext o) (items_of k)
choice_opens law whole k o s (IsChoice.from_slots u pick) =
    let n = length k.shape.units in
    let long = long_by_unit (length k.entries) 0 n (lives [] (items_of k)) in
    let w = pick.within in
    let same = ap (pending_from k.tickets k.shape u) (waiting_is law k u s (omega (arith, long, w))) ∙ pending_is k.tickets k.shape u (fits_unit u k.slots) in
    subst (λ (p : Pending). Each (OpensNext p) (items_of k)) (sym same) (taken_open law k.tickets k.shape u (items_of k) (fits_unit u k.slots) (found k s) (slots_taken law k.shape u k.next k.entries k.slots s.places s.rises (waiting_full whole k s)))
  where
    found : (k : Kept) → IsKept k → Each (λ (x : Item). IsFound (items_of k) x) (items_of k)
    found k s = let z : 0 + length k.entries ≡ length k.entries = omega arith in all_found 0 k.next (items_of k) (rises_places 0 k.next k.entries k.slots s.places (subst (λ (m : ℕ). ItemsRise m k.slots k.next) (sym z) s.rises))
choice_opens law whole k o s (IsChoice.from_entries unpicked enter) =
    let e = left_is law k s in
    let u = first_unit (view_of k).entries in
    let next : next_entries (view_of k) ≡ map (live_item []) (fits_next u k.entries) = ap (take_while (λ (y : Live). y.unit == u)) e ∙ next_map u k.entries in
    let same = ap (pending_from k.tickets k.shape u) next ∙ pending_is k.tickets k.shape u (fits_next u k.entries) in
    subst (λ (p : Pending). Each (OpensNext p) (items_of k)) (sym same) (taken_open law k.tickets k.shape u (items_of k) (fits_next u k.entries) (found k s) (entries_taken law k.shape u k.next k.entries k.slots s.places s.rises (waiting_full whole k s)))
  where
    found : (k : Kept) → IsKept k → Each (λ (x : Item). IsFound (items_of k) x) (items_of k)
    found k s = let z : 0 + length k.entries ≡ length k.entries = omega arith in all_found 0 k.next (items_of k) (rises_places 0 k.next k.entries k.slots s.places (subst (λ (m : ℕ). ItemsRise m k.slots k.next) (sym z) s.rises))

-- what is seen after the choice is opened
pub opened_view : GroupsAreCounted → UnopenedIsWhole → OpeningsPlace → (k : Kept) (o : Pending) → IsKept k → IsChoice (view_of k) o → length k.journal + length k.outs < k.limits.launches
    → with_out (view_of k) o ≡ view_of (kept_with_out k o)
opened_view law whole opening k o s choice few =
    let placed = opening (view_of k) o s.good few s.placed choice in
    let opens = choice_opens law whole k o s choice in
    let items = all_opened o.inputs (items_of k) in
    seen_is (with_out (view_of k) o) items placed (sym (lives_opened k.outs o (items_of k) opens))
    ∙ ap (λ (xs : List Item). seen k.shape k.width k.limits (length k.entries) k.journal k.next xs (k.outs ++ o ∷ []) (k.tickets + 1)) (opened_append o.inputs k.entries k.slots)
    ∙ ap (λ (n : ℕ). seen k.shape k.width k.limits n k.journal k.next (all_opened o.inputs k.entries ++ all_opened o.inputs k.slots) (k.outs ++ o ∷ []) (k.tickets + 1)) (sym (long_opened o.inputs k.entries))

-- and the keep is one
pub opened_kept : GroupsAreCounted → UnopenedIsWhole → OpeningsPlace → (k : Kept) (o : Pending) → IsKept k → IsChoice (view_of k) o → length k.journal + length k.outs < k.limits.launches
    → IsKept (kept_with_out k o)
opened_kept law whole opening k o s choice few =
    let opens = choice_opens law whole k o s choice in
    let view = opened_view law whole opening k o s choice few in
    let append = opened_append o.inputs k.entries k.slots in
    record {
      good = s.good;
      placed = subst (λ (c : CoreView). IsPlaced c c.bag) view (opening (view_of k) o s.good few s.placed choice);
      counted = subst (Each (LeftIsCounted (k.outs ++ o ∷ []))) append (opened_counted k.outs o (items_of k) opens s.counted);
      openings = subst (Each (λ (x : Item). IsOpening x.opening)) append (opened_openings law o (items_of k) opens s.openings);
      places = opened_places o.inputs 0 k.entries s.places;
      rises = subst (λ (n : ℕ). ItemsRise n (all_opened o.inputs k.slots) k.next) (sym (long_opened o.inputs k.entries)) (opened_rises o.inputs (length k.entries) k.next k.slots s.rises);
      units = subst (Each (λ (x : Item). x.unit < length k.shape.units)) append (opened_units o.inputs (length k.shape.units) (items_of k) s.units);
    }

reserved_more : (shape : Shape) (v : ℕ) (outs : List Pending) (o : Pending) → reserved shape (outs ++ o ∷ []) v ≡ reserved shape outs v + need shape o.unit v
reserved_more shape v [] o =
    let c = sum_by-cons (λ (p : Pending). need shape p.unit v) o [] in omega (arith, c)
reserved_more shape v (x ∷ outs) o =
    let c = sum_by-cons (λ (p : Pending). need shape p.unit v) x outs in
    let d = sum_by-cons (λ (p : Pending). need shape p.unit v) x (outs ++ o ∷ []) in
    let ih = reserved_more shape v outs o in omega (arith, c, d, ih)

-- and its room counts it
pub opened_room : OnlyUnitsAreNeeded → (k : Kept) (o : Pending) (c d : Counts) → IsKept k → IsRoomOf k c → Reserves c d o.unit → with_out (view_of k) o ≡ view_of (kept_with_out k o) → IsRoomOf (kept_with_out k o) d
opened_room only k o c d s r res view =
    record {
      many = ap (λ (x : Counts). length x.bounds) res.same ∙ r.many;
      bounds = λ v h. ap (λ (x : Counts). slice_index x.bounds v) res.same ∙ r.bounds v h;
      used = λ v. ap (λ (x : Counts). slice_index x.used v) res.same ∙ r.used v ∙ ap (λ (x : CoreView). slice_index x.used v) view;
      reserved = λ v. (
          let a = res.reserved v in
          let b = r.reserved v in
          let m = reserved_more k.shape v k.outs o in
          let n = needed v in
          omega (arith, a, b, m, n)
          );
      needs = λ u v h. ap (λ (x : Counts). need_at x u v) res.same ∙ r.needs u v h;
      within = λ u v some. r.within u v (subst (λ (x : Counts). 0 < need_at x u v) res.same some);
    }
  where
    decide : (a b : ℕ) → (a < b) ⊎ (b ≤ a)
    decide a b = choice (nat_lt a b) refl
      where
        choice : (t : Bool) → nat_lt a b ≡ t → (a < b) ⊎ (b ≤ a)
        choice true e = inl (grind (arith, nat_tests))
        choice false e = inr (grind (arith, nat_tests))

    needed : (v : ℕ) → need_at c o.unit v ≡ need k.shape o.unit v
    needed v = elim (decide v (length k.shape.units)) [
      | inl h ↦ r.needs o.unit v h
      | inr past ↦ (
          let none = only k.shape o.unit v s.good past in
          elim (decide 0 (need_at c o.unit v)) [
            | inl some ↦ (let h = r.within o.unit v some in absurd (omega (arith, h, past)))
            | inr zero_is ↦ omega (arith, none, zero_is)
          ]
          )
    ]
