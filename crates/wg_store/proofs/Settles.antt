-- A keep of which a launch settles.
use Rattle.std.proofs.Common.{◌≡◌, ℕ, suc, ◌+◌, ◌*◌, ◌<◌, ◌≤◌, Bool, true, false, List, [], ◌∷◌, ◌++◌, length, map, refl, ap, sym, ◌∙◌, subst, arith, None, Option, Some, unwrap_or}
use Rattle.std.specs.Prelude.{if◌then◌else◌, ◌==◌, filter, min, nat_lt, slice_get, slice_index}
use Rattle.std.specs.Option.{option_map}
use Rattle.std.specs.List.{flat_map}
use Rattle.std.proofs.lemmas.Bool.Decides.{nat_tests}
use Rattle.wg_words.specs.Each.{Each}
use Rattle.wg_words.specs.declared.limits.TheConstants.{GRID_BOUND}
use Rattle.wg_machine.specs.declared.launch.Live.{Live}
use Rattle.wg_machine.specs.declared.launch.Sent.{Sent}
use Rattle.wg_machine.specs.declared.shape.Kind.{Kind}
use Rattle.wg_machine.specs.declared.shape.Kind.TheVariants.{Thread, Coalescing, Grid, GridField}
use Rattle.wg_machine.specs.declared.shape.Shape.{Shape}
use Rattle.wg_machine.specs.declared.shape.Unit.{Unit as Node}
use Rattle.wg_machine.specs.GoodShape.{IsGoodKind, IsGoodShape}
use Rattle.wg_machine.specs.Grids.{clipped, grid_of, groups_in, groups_of}
use Rattle.wg_machine.specs.LaunchMeaning.{Arrives, KeepsLaws, Outcome}
use Rattle.wg_machine.specs.State.{born, kept, live_of}
use Rattle.wg_machine.specs.Step.{has_number, left_after, numbers_of, record_of, taken}
use Rattle.wg_machine.specs.Units.{kind_at}
use Rattle.wg_keep.specs.Opening.{IsOpening}
use Rattle.wg_standing.specs.declared.pending.Pending.{Pending}
use Rattle.wg_standing.specs.Core.{CoreView}
use Rattle.wg_standing.specs.Laws.{SettlingsPlace}
use Rattle.wg_standing.specs.Moves.{settled_of}
use Rattle.wg_standing.specs.Outs.{AllAllowed, AllApart, launch_now}
use Rattle.wg_standing.specs.Standing.{IsPlaced, Rises}
use Rattle.wg_store.specs.declared.item.Item.{Item}
use Rattle.wg_store.specs.Items.{AreAtPlaces, ItemsRise, LeftIsCounted, all_counted, all_worded, born_items, has_groups, has_left, item_of, lives, out_groups, settled_items, with_counted}
use Rattle.wg_store.specs.Keep.{IsKept, Kept, items_of, kept_part, kept_settled, seen, view_of}
use Rattle.wg_store.proofs.Choices.{GroupsAreCounted}
use Rattle.wg_store.proofs.Lives.{append_assoc, apart_before, each_append, live_with, lives_append, lives_settled, settled_counted}
use Rattle.wg_store.proofs.Found.{each_filter}
use Rattle.wg_store.proofs.Sights.{seen_is}

below_live : (lo end : ℕ) (xs : List Live) → Rises lo xs end → lo ≤ end
below_live lo end [] r = r
below_live lo end (x ∷ xs) r = let a = r.0 in let b = below_live (x.number + 1) end xs r.1 in omega (arith, a, b)

-- no live record has a number from the next one on
none_taken : (ns : List ℕ) (lo end n : ℕ) (xs : List Live) → Rises lo xs end → end ≤ n → has_number (numbers_of (map record_of (taken ns xs))) n ≡ false
none_taken ns lo end n [] r h = refl
none_taken ns lo end n (x ∷ xs) r h = go (has_number ns x.number) (none_taken ns (x.number + 1) end n xs r.1 h)
  where
    q : (x.number == n) ≡ false
    q = let b = below_live (x.number + 1) end xs r.1 in grind (arith, nat_tests)

    go : (b : Bool) → has_number (numbers_of (map record_of (taken ns xs))) n ≡ false → has_number (numbers_of (map record_of (if b then x ∷ taken ns xs else taken ns xs))) n ≡ false
    go true rest = rw q rest
    go false rest = rest

pub out_none : (shape : Shape) (bag : List Live) (outs : List Pending) (end n : ℕ) → AllAllowed shape bag outs → Rises 0 bag end → end ≤ n → out_groups outs n ≡ []
out_none shape bag [] end n all r h = refl
out_none shape bag (o ∷ outs) end n all r h =
    let e : has_number o.inputs n ≡ false = sym (ap (λ (ns : List ℕ). has_number ns n) all.0.named) ∙ none_taken o.inputs 0 end n bag r h in
    rw e (out_none shape bag outs end n all.1 r h)

-- records that come to be are live with all their groups
pub lives_born : GroupsAreCounted → (shape : Shape) (outs : List Pending) (n : ℕ) (sent : List Sent) → ((m : ℕ) → n ≤ m → out_groups outs m ≡ []) → lives outs (born_items shape n sent) ≡ flat_map kept (born shape n sent)
lives_born law shape outs n [] none = refl
lives_born law shape outs n (s ∷ sent) none = go (has_groups shape s) refl (lives_born law shape outs (n + 1) sent (λ m h. none m (omega (arith, h))))
  where
    live : List (List ℕ) → List Live
    live gs = kept (live_with n s.unit s.words (grid_of (kind_at shape s.unit) s.words) gs)

    go : (b : Bool) → has_groups shape s ≡ b → lives outs (born_items shape (n + 1) sent) ≡ flat_map kept (born shape (n + 1) sent)
        → lives outs (if b then item_of shape n s ∷ born_items shape (n + 1) sent else born_items shape (n + 1) sent) ≡ kept (live_of shape n s) ++ flat_map kept (born shape (n + 1) sent)
    go true e rest =
        ap (λ (gs : List (List ℕ)). live (gs ++ groups_of (grid_of (kind_at shape s.unit) s.words)) ++ lives outs (born_items shape (n + 1) sent)) (none n (omega arith))
        ∙ ap (λ (xs : List Live). kept (live_of shape n s) ++ xs) rest
    go false e rest =
        let many = law (grid_of (kind_at shape s.unit) s.words) in
        let zero_is : groups_in (grid_of (kind_at shape s.unit) s.words) ≡ 0 = grind (arith, nat_tests) in
        rest ∙ ap (λ (gs : List (List ℕ)). live gs ++ flat_map kept (born shape (n + 1) sent)) (sym (empty (groups_of (grid_of (kind_at shape s.unit) s.words)) (omega (arith, many, zero_is))))
      where
        empty : (gs : List (List ℕ)) → length gs ≡ 0 → gs ≡ []
        empty [] h = refl
        empty (g ∷ gs) h = absurd (omega (arith, h))

all_split : (shape : Shape) (bag : List Live) (before : List Pending) (o : Pending) (later : List Pending) → AllAllowed shape bag (before ++ o ∷ later) → AllAllowed shape bag (before ++ later)
all_split shape bag [] o later all = all.1
all_split shape bag (p ∷ before) o later all = (all.0, all_split shape bag before o later all.1)

-- the bag after a launch settled
pub settled_bag : GroupsAreCounted → (k : Kept) (before : List Pending) (o : Pending) (later : List Pending) (outcome : Outcome) → IsKept k → k.outs ≡ before ++ o ∷ later
    → (settled_of (view_of k) before o later outcome).bag ≡ lives (before ++ later) (settled_items o.inputs outcome.shared k.entries k.slots ++ born_items k.shape k.next outcome.sent)
settled_bag law k before o later outcome s out =
    let rest = before ++ later in
    let items = items_of k in
    let placed = s.placed in
    let bag = lives k.outs items in
    let apart = subst AllApart out placed.apart in
    let counted = subst (λ (os : List Pending). Each (LeftIsCounted os) items) out s.counted in
    let allowed = all_split k.shape bag before o later (subst (AllAllowed k.shape bag) out placed.allowed) in
    let none : (m : ℕ) → k.next ≤ m → out_groups rest m ≡ [] = λ m h. out_none k.shape bag rest k.next m allowed placed.rises h in
    ap (λ (os : List Pending). left_after o.inputs o.at outcome.shared (lives os items) ++ flat_map kept (born k.shape k.next outcome.sent)) out
    ∙ ap (λ (xs : List Live). xs ++ flat_map kept (born k.shape k.next outcome.sent)) (lives_settled before o later outcome.shared k.entries k.slots (apart_before before o later apart) counted)
    ∙ ap (λ (xs : List Live). lives rest (settled_items o.inputs outcome.shared k.entries k.slots) ++ xs) (sym (lives_born law k.shape rest k.next outcome.sent none))
    ∙ sym (lives_append rest (settled_items o.inputs outcome.shared k.entries k.slots) (born_items k.shape k.next outcome.sent))

long_settled : (ns : List ℕ) (new : Option (List ℕ)) (xs : List Item) → length (all_counted ns (all_worded ns new xs)) ≡ length xs
long_settled ns new [] = refl
long_settled ns new (x ∷ xs) = ap suc (long_settled ns new xs)

-- what is seen after it
pub settled_view : GroupsAreCounted → SettlingsPlace → (k : Kept) (before : List Pending) (o : Pending) (later : List Pending) (outcome : Outcome) → IsKept k → k.outs ≡ before ++ o ∷ later
    → KeepsLaws k.shape (launch_now k.shape (view_of k).bag o) [] k.limits.turns outcome
    → kept_part (settled_of (view_of k) before o later outcome) ≡ view_of (kept_settled k before o later outcome)
settled_view law settling k before o later outcome s out laws =
    let core = settled_of (view_of k) before o later outcome in
    let placed = settling (view_of k) before o later outcome s.good out laws s.placed in
    let es = all_counted o.inputs (all_worded o.inputs outcome.shared k.entries) in
    let ss = filter has_left (all_counted o.inputs (all_worded o.inputs outcome.shared k.slots)) in
    let fresh = born_items k.shape k.next outcome.sent in
    seen_is core (settled_items o.inputs outcome.shared k.entries k.slots ++ fresh) placed (settled_bag law k before o later outcome s out)
    ∙ ap (λ (xs : List Item). seen k.shape k.width k.limits (length k.entries) core.journal core.next xs (before ++ later) k.tickets) (append_assoc es ss fresh)
    ∙ ap (λ (n : ℕ). seen k.shape k.width k.limits n core.journal core.next (es ++ (ss ++ fresh)) (before ++ later) k.tickets) (sym (long_settled o.inputs outcome.shared k.entries))

times_more : (a b c : ℕ) → a ≤ b → a * c ≤ b * c
times_more a b c h = grind arith

-- a clipped grid has no more groups
clipped_few : (a b c x y z : ℕ) → a ≤ x → b ≤ y → c ≤ z → a * b * c ≤ x * y * z
clipped_few a b c x y z p q r =
    let one = times_more a x b p in
    let two = times_more b y x q in
    let left = times_more (a * b) (x * y) c (let s : b * x ≡ x * b = grind arith in let t : y * x ≡ x * y = grind arith in omega (arith, one, two, s, t)) in
    let three = times_more c z (x * y) r in
    let s : c * (x * y) ≡ x * y * c = grind arith in
    let t : z * (x * y) ≡ x * y * z = grind arith in
    omega (arith, left, three, s, t)

clipped_low : (first parts : ℕ) (words : List ℕ) (k most : ℕ) → 1 ≤ most → clipped first parts words k most ≤ most
clipped_low first parts words k most h = go (nat_lt k parts)
  where
    go : (b : Bool) → (if b then min most (slice_index words (first + k)) else 1) ≤ most
    go true = omega arith
    go false = h

few_groups : (words : ℕ) (kind : Kind) (ws : List ℕ) → IsGoodKind words kind → groups_in (grid_of kind ws) < GRID_BOUND
few_groups words Thread ws good = omega arith
few_groups words (Coalescing most) ws good = omega arith
few_groups words (Grid x y z) ws good = good.product
few_groups words (GridField f p x y z) ws good =
    let a = clipped_low f p ws 0 x good.grid.x_fits.low in
    let b = clipped_low f p ws 1 y good.grid.y_fits.low in
    let c = clipped_low f p ws 2 z good.grid.z_fits.low in
    let product = good.grid.product in
    let less = clipped_few (clipped f p ws 0 x) (clipped f p ws 1 y) (clipped f p ws 2 z) x y z a b c in
    omega (arith, product, less)

-- what arrives has few groups
pub arrives_few : (shape : Shape) (s : Sent) → IsGoodShape shape → Arrives shape s → groups_in (grid_of (kind_at shape s.unit) s.words) < GRID_BOUND
arrives_few shape s good arrives = go (slice_get shape.units s.unit) refl
  where
    go : (o : Option Node) → slice_get shape.units s.unit ≡ o → groups_in (grid_of (unwrap_or (option_map (λ (n : Node). n.kind) (slice_get shape.units s.unit)) Thread) s.words) < GRID_BOUND
    go None there = ap_few None there (omega arith)
      where
        ap_few : (o : Option Node) → slice_get shape.units s.unit ≡ o → groups_in (grid_of (unwrap_or (option_map (λ (n : Node). n.kind) o) Thread) s.words) < GRID_BOUND → groups_in (grid_of (unwrap_or (option_map (λ (n : Node). n.kind) (slice_get shape.units s.unit)) Thread) s.words) < GRID_BOUND
        ap_few o e h = subst (λ (p : Option Node). groups_in (grid_of (unwrap_or (option_map (λ (n : Node). n.kind) p) Thread) s.words) < GRID_BOUND) (sym e) h
    go (Some node) there = subst (λ (p : Option Node). groups_in (grid_of (unwrap_or (option_map (λ (n : Node). n.kind) p) Thread) s.words) < GRID_BOUND) (sym there) (few_groups node.words node.kind s.words (good.units s.unit node there).kind)

-- what holds of each record also holds after a settling, where counting and new words keep it
each_settled : (P : Item → Type 0) (ns : List ℕ) (new : Option (List ℕ)) (xs : List Item) → ((x : Item) → P x → P (with_counted (record x { words = unwrap_or new x.words }))) → Each P xs → Each P (all_counted ns (all_worded ns new xs))
each_settled P ns new [] f each = tt
each_settled P ns new (x ∷ xs) f each = (go (has_number ns x.number) refl, each_settled P ns new xs f each.1)
  where
    go : (b : Bool) → has_number ns x.number ≡ b → P (let y : Item = if b then record x { words = unwrap_or new x.words } else x in if has_number ns y.number then with_counted y else y)
    go true e = rw e (f x each.0)
    go false e = rw e each.0

settled_places : (ns : List ℕ) (new : Option (List ℕ)) (n : ℕ) (xs : List Item) → AreAtPlaces n xs → AreAtPlaces n (all_counted ns (all_worded ns new xs))
settled_places ns new n [] p = tt
settled_places ns new n (x ∷ xs) p = (settled_number ns new x ∙ p.0, settled_places ns new (n + 1) xs p.1)
  where
    settled_number : (ns : List ℕ) (new : Option (List ℕ)) (x : Item) → (let y : Item = if has_number ns x.number then record x { words = unwrap_or new x.words } else x in if has_number ns y.number then with_counted y else y).number ≡ x.number
    settled_number ns new x = go (has_number ns x.number) refl
      where
        go : (b : Bool) → has_number ns x.number ≡ b → (let y : Item = if b then record x { words = unwrap_or new x.words } else x in if has_number ns y.number then with_counted y else y).number ≡ x.number
        go true e = rw e refl
        go false e = rw e refl

settled_rises : (ns : List ℕ) (new : Option (List ℕ)) (lo end : ℕ) (xs : List Item) → ItemsRise lo xs end → ItemsRise lo (all_counted ns (all_worded ns new xs)) end
settled_rises ns new lo end [] r = r
settled_rises ns new lo end (x ∷ xs) r = go (has_number ns x.number) refl (settled_rises ns new (x.number + 1) end xs r.1)
  where
    go : (b : Bool) → has_number ns x.number ≡ b → ItemsRise (x.number + 1) (all_counted ns (all_worded ns new xs)) end → ItemsRise lo ((let y : Item = if b then record x { words = unwrap_or new x.words } else x in if has_number ns y.number then with_counted y else y) ∷ all_counted ns (all_worded ns new xs)) end
    go true e rest = rw e (r.0, rest)
    go false e rest = rw e (r.0, rest)

lower_rises : (a b end : ℕ) (xs : List Item) → a ≤ b → ItemsRise b xs end → ItemsRise a xs end
lower_rises a b end [] h r = omega (arith, h, r)
lower_rises a b end (x ∷ xs) h r = let f = r.0 in (omega (arith, h, f), r.1)

filter_rises : (p : Item → Bool) (lo end : ℕ) (xs : List Item) → ItemsRise lo xs end → ItemsRise lo (filter p xs) end
filter_rises p lo end [] r = r
filter_rises p lo end (x ∷ xs) r = go (p x) (filter_rises p (x.number + 1) end xs r.1)
  where
    go : (b : Bool) → ItemsRise (x.number + 1) (filter p xs) end → ItemsRise lo (if b then x ∷ filter p xs else filter p xs) end
    go true rest = (r.0, rest)
    go false rest = let f = r.0 in lower_rises lo (x.number + 1) end (filter p xs) (omega (arith, f)) rest

join_rises : (lo mid end : ℕ) (xs ys : List Item) → ItemsRise lo xs mid → ItemsRise mid ys end → ItemsRise lo (xs ++ ys) end
join_rises lo mid end [] ys r s = lower_rises lo mid end ys r s
join_rises lo mid end (x ∷ xs) ys r s = (r.0, join_rises (x.number + 1) mid end xs ys r.1 s)

born_rises : (shape : Shape) (n : ℕ) (sent : List Sent) → ItemsRise n (born_items shape n sent) (n + length sent)
born_rises shape n [] = omega arith
born_rises shape n (s ∷ sent) = go (has_groups shape s) (born_rises shape (n + 1) sent)
  where
    z : (n + 1) + length sent ≡ n + suc (length sent)
    z = omega arith

    go : (b : Bool) → ItemsRise (n + 1) (born_items shape (n + 1) sent) ((n + 1) + length sent) → ItemsRise n (if b then item_of shape n s ∷ born_items shape (n + 1) sent else born_items shape (n + 1) sent) (n + suc (length sent))
    go true rest = (omega arith, subst (ItemsRise (n + 1) (born_items shape (n + 1) sent)) z rest)
    go false rest = lower_rises n (n + 1) (n + suc (length sent)) (born_items shape (n + 1) sent) (omega arith) (subst (ItemsRise (n + 1) (born_items shape (n + 1) sent)) z rest)

each_born : (P : Item → Type 0) (shape : Shape) (n : ℕ) (sent : List Sent) → ((m : ℕ) (s : Sent) → n ≤ m → Arrives shape s → P (item_of shape m s)) → Each (Arrives shape) sent → Each P (born_items shape n sent)
each_born P shape n [] f each = tt
each_born P shape n (s ∷ sent) f each = go (has_groups shape s) (each_born P shape (n + 1) sent (λ m t h a. f m t (omega (arith, h)) a) each.1)
  where
    go : (b : Bool) → Each P (born_items shape (n + 1) sent) → Each P (if b then item_of shape n s ∷ born_items shape (n + 1) sent else born_items shape (n + 1) sent)
    go true rest = (f n s (omega arith) each.0, rest)
    go false rest = rest

each_join : (P : Item → Type 0) (xs ys : List Item) → Each P xs → Each P ys → Each P (xs ++ ys)
each_join P [] ys a b = b
each_join P (x ∷ xs) ys a b = (a.0, each_join P xs ys a.1 b)

-- the records after a settling hold what they held, and those that come to be hold it too
settled_hold : (P : Item → Type 0) (k : Kept) (o : Pending) (outcome : Outcome) → ((x : Item) → P x → P (with_counted (record x { words = unwrap_or outcome.shared x.words }))) → ((m : ℕ) (s : Sent) → k.next ≤ m → Arrives k.shape s → P (item_of k.shape m s)) → Each (Arrives k.shape) outcome.sent → Each P (items_of k)
    → Each P (all_counted o.inputs (all_worded o.inputs outcome.shared k.entries) ++ (filter has_left (all_counted o.inputs (all_worded o.inputs outcome.shared k.slots)) ++ born_items k.shape k.next outcome.sent))
settled_hold P k o outcome f g arrive each =
    let parts = each_append P k.entries k.slots each in
    let ss = all_counted o.inputs (all_worded o.inputs outcome.shared k.slots) in
    each_join P (all_counted o.inputs (all_worded o.inputs outcome.shared k.entries)) (filter has_left ss ++ born_items k.shape k.next outcome.sent)
    (each_settled P o.inputs outcome.shared k.entries f parts.0)
    (each_join P (filter has_left ss) (born_items k.shape k.next outcome.sent) (each_filter P has_left ss (each_settled P o.inputs outcome.shared k.slots f parts.1)) (each_born P k.shape k.next outcome.sent g arrive))

-- and the keep is one
pub settled_kept : GroupsAreCounted → SettlingsPlace → (k : Kept) (before : List Pending) (o : Pending) (later : List Pending) (outcome : Outcome) → IsKept k → k.outs ≡ before ++ o ∷ later
    → KeepsLaws k.shape (launch_now k.shape (view_of k).bag o) [] k.limits.turns outcome
    → IsKept (kept_settled k before o later outcome)
settled_kept law settling k before o later outcome s out laws =
    let core = settled_of (view_of k) before o later outcome in
    let rest = before ++ later in
    let items = items_of k in
    let es = all_counted o.inputs (all_worded o.inputs outcome.shared k.entries) in
    let ss = filter has_left (all_counted o.inputs (all_worded o.inputs outcome.shared k.slots)) in
    let fresh = born_items k.shape k.next outcome.sent in
    let counted = subst (λ (os : List Pending). Each (LeftIsCounted os) items) out s.counted in
    let allowed = all_split k.shape (lives k.outs items) before o later (subst (AllAllowed k.shape (lives k.outs items)) out s.placed.allowed) in
    let none : (m : ℕ) → k.next ≤ m → out_groups rest m ≡ [] = λ m h. out_none k.shape (lives k.outs items) rest k.next m allowed s.placed.rises h in
    let placed = settling (view_of k) before o later outcome s.good out laws s.placed in
    record {
      good = s.good;
      placed = subst (λ (c : CoreView). IsPlaced c c.bag) (settled_view law settling k before o later outcome s out laws) (kept_placed core placed);
      counted = subst (Each (LeftIsCounted rest)) (append_assoc es ss fresh)
          (each_join (LeftIsCounted rest) (settled_items o.inputs outcome.shared k.entries k.slots) fresh (settled_counted before o later outcome.shared k.entries k.slots counted)
          (each_born (LeftIsCounted rest) k.shape k.next outcome.sent (λ m t h a. sym (ap (λ (gs : List (List ℕ)). length (gs ++ groups_of (grid_of (kind_at k.shape t.unit) t.words))) (none m h) ∙ law (grid_of (kind_at k.shape t.unit) t.words))) laws.arrive));
      openings = settled_hold (λ (x : Item). IsOpening x.opening) k o outcome (λ x p. (let l = p.left in record { opened = p.opened; left = omega (arith, l); few = p.few })) (λ m t h a. record { opened = omega arith; left = omega arith; few = arrives_few k.shape t s.good a }) laws.arrive s.openings;
      places = settled_places o.inputs outcome.shared 0 k.entries s.places;
      rises = subst (λ (n : ℕ). ItemsRise n (ss ++ fresh) (k.next + length outcome.sent)) (sym (long_settled o.inputs outcome.shared k.entries))
          (join_rises (length k.entries) k.next (k.next + length outcome.sent) ss fresh (filter_rises has_left (length k.entries) k.next (all_counted o.inputs (all_worded o.inputs outcome.shared k.slots)) (settled_rises o.inputs outcome.shared (length k.entries) k.next k.slots s.rises)) (born_rises k.shape k.next outcome.sent));
      units = settled_hold (λ (x : Item). x.unit < length k.shape.units) k o outcome (λ x p. p) (λ m t h a. a.unit) laws.arrive s.units;
    }
  where
    kept_placed : (c : CoreView) → IsPlaced c c.bag → IsPlaced (kept_part c) (kept_part c).bag
    kept_placed c p = record { waits = p.waits; entries = p.entries; held = p.held; taken = p.taken; allowed = p.allowed; apart = p.apart; tickets_differ = p.tickets_differ; tickets_below = p.tickets_below; tickets = p.tickets; launches = p.launches; spare = p.spare; rises = p.rises; handed = p.handed; distinct = p.distinct; full = p.full; known = p.known; words = p.words; used = p.used; room = p.room }
