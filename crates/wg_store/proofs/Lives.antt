-- Live records by launches out: what opening and settling change of them.
use Rattle.std.proofs.Common.{◌≡◌, ℕ, ◌+◌, Bool, true, false, List, [], ◌∷◌, ◌++◌, length, refl, ap, sym, ◌∙◌, arith, None, Option, unwrap_or}
use Rattle.std.specs.Prelude.{if◌then◌else◌, ◌==◌, slice_index, filter}
use Rattle.std.proofs.lemmas.Bool.Decides.{nat_tests}
use Rattle.wg_words.specs.Each.{Each}
use Rattle.wg_machine.specs.declared.launch.Live.{Live}
use Rattle.wg_machine.specs.declared.launch.Sent.{Sent}
use Rattle.wg_machine.specs.declared.shape.Shape.{Shape}
use Rattle.wg_machine.specs.Grids.{grid_of, groups_of, same_group, without_group}
use Rattle.wg_machine.specs.State.{kept, live_of}
use Rattle.wg_machine.specs.Units.{kind_at}
use Rattle.wg_machine.specs.Step.{after_group, has_number, left_after}
use Rattle.wg_keep.specs.Opening.{unopened_groups}
use Rattle.wg_standing.specs.declared.pending.Pending.{Pending}
use Rattle.wg_standing.specs.Outs.{AllApart, ApartFromAll, IsApart, unopened}
use Rattle.wg_store.specs.declared.item.Item.{Item}
use Rattle.wg_store.specs.Items.{LeftIsCounted, OpensNext, all_counted, all_opened, all_worded, groups_left, has_left, item_of, live_item, lives, out_groups, settled_items, with_counted, with_opened}

abbrev pub live_with : ℕ → ℕ → List ℕ → List ℕ → List (List ℕ) → Live
live_with number unit words grid groups = record { number = number; unit = unit; words = words; grid = grid; groups = groups }

pub append_assoc : {X : Type 0} (xs ys zs : List X) → (xs ++ ys) ++ zs ≡ xs ++ (ys ++ zs)
append_assoc [] ys zs = refl
append_assoc (x ∷ xs) ys zs = ap (λ rest. x ∷ rest) (append_assoc xs ys zs)

pub append_nil : {X : Type 0} (xs : List X) → xs ++ [] ≡ xs
append_nil [] = refl
append_nil (x ∷ xs) = ap (λ rest. x ∷ rest) (append_nil xs)

-- a record after a group of it ran, where it did
abbrev pub ran : Bool → List ℕ → Option (List ℕ) → Live → List Live
ran b at new x = if b then kept (after_group at new x) else x ∷ []

pub left_append : (nums at : List ℕ) (new : Option (List ℕ)) (xs ys : List Live) → left_after nums at new (xs ++ ys) ≡ left_after nums at new xs ++ left_after nums at new ys
left_append nums at new [] ys = refl
left_append nums at new (x ∷ xs) ys =
    ap (λ (rest : List Live). ran (has_number nums x.number) at new x ++ rest) (left_append nums at new xs ys)
    ∙ sym (append_assoc (ran (has_number nums x.number) at new x) (left_after nums at new xs) (left_after nums at new ys))

self_eq : (n : ℕ) → (n == n) ≡ true
self_eq n = grind (arith, nat_tests)

pub same_self : (at : List ℕ) → same_group at at ≡ true
same_self at = rw (self_eq (length at), self_eq (slice_index at 0), self_eq (slice_index at 1), self_eq (slice_index at 2)) refl

-- the group is not among these
abbrev pub no_group : List ℕ → List (List ℕ) → Type 0
no_group at gs = Each (λ (g : List ℕ). same_group g at ≡ false) gs

-- the first that is the group is taken out
pub without_first : (at : List ℕ) (gs rest : List (List ℕ)) → no_group at gs → without_group at (gs ++ at ∷ rest) ≡ gs ++ rest
without_first at [] rest none = rw (same_self at) refl
without_first at (g ∷ gs) rest none = rw none.0 (ap (λ (more : List (List ℕ)). g ∷ more) (without_first at gs rest none.1))

pub out_append : (xs ys : List Pending) (n : ℕ) → out_groups (xs ++ ys) n ≡ out_groups xs n ++ out_groups ys n
out_append [] ys n = refl
out_append (o ∷ xs) ys n =
    ap (λ (rest : List (List ℕ)). (if has_number o.inputs n then o.at ∷ [] else []) ++ rest) (out_append xs ys n)
    ∙ sym (append_assoc (if has_number o.inputs n then o.at ∷ [] else []) (out_groups xs n) (out_groups ys n))

-- launches that take other groups of the record
pub apart_groups : (before : List Pending) (o : Pending) (n : ℕ) → has_number o.inputs n ≡ true → Each (λ (p : Pending). IsApart p o) before → no_group o.at (out_groups before n)
apart_groups [] o n has each = tt
apart_groups (p ∷ before) o n has each = go (has_number p.inputs n) refl (apart_groups before o n has each.1)
  where
    go : (b : Bool) → has_number p.inputs n ≡ b → no_group o.at (out_groups before n) → no_group o.at ((if b then p.at ∷ [] else []) ++ out_groups before n)
    go true e rest = (each.0 n e has, rest)
    go false e rest = rest

-- one record more ran its group
pub one_left : (before : List Pending) (o : Pending) (later : List Pending) (new : Option (List ℕ)) (x : Item)
    → Each (λ (p : Pending). IsApart p o) before
    → left_after o.inputs o.at new (kept (live_item (before ++ o ∷ later) x))
    ≡ kept (live_item (before ++ later) (if has_number o.inputs x.number then record x { words = unwrap_or new x.words } else x))
one_left before o later new x each = go (has_number o.inputs x.number) refl
  where
    A : List (List ℕ)
    A = out_groups before x.number

    B : List (List ℕ)
    B = out_groups later x.number ++ unopened_groups x.opening

    groups_now : (b : Bool) → has_number o.inputs x.number ≡ b → groups_left (before ++ o ∷ later) x ≡ A ++ ((if b then o.at ∷ [] else []) ++ B)
    groups_now b e =
        ap (λ (gs : List (List ℕ)). gs ++ unopened_groups x.opening) (out_append before (o ∷ later) x.number)
        ∙ append_assoc A (out_groups (o ∷ later) x.number) (unopened_groups x.opening)
        ∙ ap (λ (t : Bool). A ++ (((if t then o.at ∷ [] else []) ++ out_groups later x.number) ++ unopened_groups x.opening)) e
        ∙ ap (λ (gs : List (List ℕ)). A ++ gs) (append_assoc (if b then o.at ∷ [] else []) (out_groups later x.number) (unopened_groups x.opening))

    groups_then : groups_left (before ++ later) x ≡ A ++ B
    groups_then =
        ap (λ (gs : List (List ℕ)). gs ++ unopened_groups x.opening) (out_append before later x.number)
        ∙ append_assoc A (out_groups later x.number) (unopened_groups x.opening)

    taken_out : (gs rest : List (List ℕ)) → has_number o.inputs x.number ≡ true → no_group o.at gs → left_after o.inputs o.at new (kept (live_with x.number x.unit x.words x.opening.grid (gs ++ o.at ∷ rest))) ≡ kept (live_with x.number x.unit (unwrap_or new x.words) x.opening.grid (gs ++ rest))
    taken_out [] rest e none = rw e (append_nil (kept (live_with x.number x.unit (unwrap_or new x.words) x.opening.grid (without_group o.at (o.at ∷ rest)))) ∙ ap (λ (gs : List (List ℕ)). kept (live_with x.number x.unit (unwrap_or new x.words) x.opening.grid gs)) (without_first o.at [] rest tt))
    taken_out (g ∷ gs) rest e none = rw e (append_nil (kept (live_with x.number x.unit (unwrap_or new x.words) x.opening.grid (without_group o.at (g ∷ (gs ++ o.at ∷ rest))))) ∙ ap (λ (more : List (List ℕ)). kept (live_with x.number x.unit (unwrap_or new x.words) x.opening.grid more)) (without_first o.at (g ∷ gs) rest none))

    untouched : (gs : List (List ℕ)) → has_number o.inputs x.number ≡ false → left_after o.inputs o.at new (kept (live_with x.number x.unit x.words x.opening.grid gs)) ≡ kept (live_with x.number x.unit x.words x.opening.grid gs)
    untouched [] e = refl
    untouched (g ∷ gs) e = rw e refl

    go : (b : Bool) → has_number o.inputs x.number ≡ b → left_after o.inputs o.at new (kept (live_item (before ++ o ∷ later) x)) ≡ kept (live_item (before ++ later) (if b then record x { words = unwrap_or new x.words } else x))
    go true e =
        ap (λ (gs : List (List ℕ)). left_after o.inputs o.at new (kept (live_with x.number x.unit x.words x.opening.grid gs))) (groups_now true e)
        ∙ taken_out A B e (apart_groups before o x.number e each)
        ∙ ap (λ (gs : List (List ℕ)). kept (live_with x.number x.unit (unwrap_or new x.words) x.opening.grid gs)) (sym groups_then)
    go false e =
        ap (λ (gs : List (List ℕ)). left_after o.inputs o.at new (kept (live_with x.number x.unit x.words x.opening.grid gs))) (groups_now false e)
        ∙ untouched (A ++ B) e
        ∙ ap (λ (gs : List (List ℕ)). kept (live_with x.number x.unit x.words x.opening.grid gs)) (sym groups_then)

-- the records after a launch out ran its group
pub all_left : (before : List Pending) (o : Pending) (later : List Pending) (new : Option (List ℕ)) (items : List Item)
    → Each (λ (p : Pending). IsApart p o) before
    → left_after o.inputs o.at new (lives (before ++ o ∷ later) items) ≡ lives (before ++ later) (all_worded o.inputs new items)
all_left before o later new [] each = refl
all_left before o later new (x ∷ items) each =
    left_append o.inputs o.at new (kept (live_item (before ++ o ∷ later) x)) (lives (before ++ o ∷ later) items)
    ∙ ap (λ (first : List Live). first ++ left_after o.inputs o.at new (lives (before ++ o ∷ later) items)) (one_left before o later new x each)
    ∙ ap (λ (rest : List Live). kept (live_item (before ++ later) (if has_number o.inputs x.number then record x { words = unwrap_or new x.words } else x)) ++ rest) (all_left before o later new items each)

same_words : (numbers : List ℕ) (items : List Item) → all_worded numbers None items ≡ items
same_words numbers [] = refl
same_words numbers (x ∷ items) = ap (λ (rest : List Item). (if has_number numbers x.number then x else x) ∷ rest) (same_words numbers items) ∙ ap (λ (y : Item). y ∷ items) (either (has_number numbers x.number))
  where
    either : (b : Bool) → (if b then x else x) ≡ x
    either true = refl
    either false = refl

-- what the launches out leave unopened is what waits
pub unopened_waits : (outs : List Pending) (items : List Item) → unopened outs (lives outs items) ≡ lives [] items
unopened_waits [] items = refl
unopened_waits (o ∷ outs) items =
    ap (unopened outs) (all_left [] o outs None items tt ∙ ap (lives outs) (same_words o.inputs items))
    ∙ unopened_waits outs items

-- opening takes from what waits what the launch has then
pub one_opened : (outs : List Pending) (o : Pending) (x : Item)
    → (has_number o.inputs x.number ≡ true → unopened_groups x.opening ≡ o.at ∷ unopened_groups (with_opened x).opening)
    → live_item (outs ++ o ∷ []) (if has_number o.inputs x.number then with_opened x else x) ≡ live_item outs x
one_opened outs o x opens = go (has_number o.inputs x.number) refl
  where
    A : List (List ℕ)
    A = out_groups outs x.number

    groups_at : (b : Bool) → has_number o.inputs x.number ≡ b → out_groups (outs ++ o ∷ []) x.number ≡ A ++ (if b then o.at ∷ [] else [])
    groups_at b e =
        out_append outs (o ∷ []) x.number
        ∙ ap (λ (gs : List (List ℕ)). A ++ gs) (append_nil (if has_number o.inputs x.number then o.at ∷ [] else []))
        ∙ ap (λ (t : Bool). A ++ (if t then o.at ∷ [] else [])) e

    go : (b : Bool) → has_number o.inputs x.number ≡ b → live_item (outs ++ o ∷ []) (if b then with_opened x else x) ≡ live_item outs x
    go true e =
        ap (λ (gs : List (List ℕ)). live_with x.number x.unit x.words x.opening.grid (gs ++ unopened_groups (with_opened x).opening)) (groups_at true e)
        ∙ ap (live_with x.number x.unit x.words x.opening.grid) (append_assoc A (o.at ∷ []) (unopened_groups (with_opened x).opening) ∙ ap (λ (gs : List (List ℕ)). A ++ gs) (sym (opens e)))
    go false e =
        ap (λ (gs : List (List ℕ)). live_with x.number x.unit x.words x.opening.grid (gs ++ unopened_groups x.opening)) (groups_at false e ∙ append_nil A)

pub lives_opened : (outs : List Pending) (o : Pending) (items : List Item) → Each (OpensNext o) items → lives (outs ++ o ∷ []) (all_opened o.inputs items) ≡ lives outs items
lives_opened outs o [] each = refl
lives_opened outs o (x ∷ items) each =
    ap (λ (l : Live). kept l ++ lives (outs ++ o ∷ []) (all_opened o.inputs items)) (one_opened outs o x each.0)
    ∙ ap (λ (rest : List Live). kept (live_item outs x) ++ rest) (lives_opened outs o items each.1)

-- what has settled whole is no live record
pub lives_kept : (outs : List Pending) (items : List Item) → Each (LeftIsCounted outs) items → lives outs (filter has_left items) ≡ lives outs items
lives_kept outs [] each = refl
lives_kept outs (x ∷ items) each = go (has_left x) refl (groups_left outs x) refl (lives_kept outs items each.1)
  where
    live : List (List ℕ) → List Live
    live gs = kept (live_with x.number x.unit x.words x.opening.grid gs)

    go : (b : Bool) → has_left x ≡ b → (gs : List (List ℕ)) → groups_left outs x ≡ gs → lives outs (filter has_left items) ≡ lives outs items → lives outs (if b then x ∷ filter has_left items else filter has_left items) ≡ live gs ++ lives outs items
    go true e gs f rest = ap (λ (hs : List (List ℕ)). live hs ++ lives outs (filter has_left items)) f ∙ ap (λ (ys : List Live). live gs ++ ys) rest
    go false e [] f rest = rest
    go false e (g ∷ gs) f rest =
        let counted = each.0 in
        let many = ap (λ (hs : List (List ℕ)). length hs) f in
        let none : x.opening.left ≡ 0 = grind (arith, nat_tests) in
        absurd (omega (arith, counted, many, none))

-- counting settled groups changes no live record
pub lives_counted : (outs : List Pending) (numbers : List ℕ) (items : List Item) → lives outs (all_counted numbers items) ≡ lives outs items
lives_counted outs numbers [] = refl
lives_counted outs numbers (x ∷ items) =
    ap (λ (l : Live). kept l ++ lives outs (all_counted numbers items)) (same (has_number numbers x.number))
    ∙ ap (λ (rest : List Live). kept (live_item outs x) ++ rest) (lives_counted outs numbers items)
  where
    same : (b : Bool) → live_item outs (if b then with_counted x else x) ≡ live_item outs x
    same true = refl
    same false = refl

length_more : (xs : List (List ℕ)) (at : List ℕ) (ys : List (List ℕ)) → length (xs ++ at ∷ ys) ≡ length (xs ++ ys) + 1
length_more [] at ys = omega arith
length_more (x ∷ xs) at ys = let k = length_more xs at ys in omega (arith, k)

-- and keeps the count
pub counted_less : (before : List Pending) (o : Pending) (later : List Pending) (x : Item) → LeftIsCounted (before ++ o ∷ later) x → LeftIsCounted (before ++ later) (if has_number o.inputs x.number then with_counted x else x)
counted_less before o later x counted = go (has_number o.inputs x.number) refl
  where
    A : List (List ℕ)
    A = out_groups before x.number

    B : List (List ℕ)
    B = out_groups later x.number ++ unopened_groups x.opening

    now : (b : Bool) → has_number o.inputs x.number ≡ b → groups_left (before ++ o ∷ later) x ≡ A ++ ((if b then o.at ∷ [] else []) ++ B)
    now b e =
        ap (λ (gs : List (List ℕ)). gs ++ unopened_groups x.opening) (out_append before (o ∷ later) x.number)
        ∙ append_assoc A (out_groups (o ∷ later) x.number) (unopened_groups x.opening)
        ∙ ap (λ (t : Bool). A ++ (((if t then o.at ∷ [] else []) ++ out_groups later x.number) ++ unopened_groups x.opening)) e
        ∙ ap (λ (gs : List (List ℕ)). A ++ gs) (append_assoc (if b then o.at ∷ [] else []) (out_groups later x.number) (unopened_groups x.opening))

    then_is : groups_left (before ++ later) x ≡ A ++ B
    then_is =
        ap (λ (gs : List (List ℕ)). gs ++ unopened_groups x.opening) (out_append before later x.number)
        ∙ append_assoc A (out_groups later x.number) (unopened_groups x.opening)

    go : (b : Bool) → has_number o.inputs x.number ≡ b → LeftIsCounted (before ++ later) (if b then with_counted x else x)
    go true e =
        let was = ap (λ (gs : List (List ℕ)). length gs) (now true e) in
        let is = ap (λ (gs : List (List ℕ)). length gs) then_is in
        let more = length_more A o.at B in
        omega (arith, counted, was, is, more)
    go false e = counted ∙ ap (λ (gs : List (List ℕ)). length gs) (now false e ∙ sym then_is)

pub all_counted_less : (before : List Pending) (o : Pending) (later : List Pending) (items : List Item) → Each (LeftIsCounted (before ++ o ∷ later)) items → Each (LeftIsCounted (before ++ later)) (all_counted o.inputs items)
all_counted_less before o later [] each = tt
all_counted_less before o later (x ∷ items) each = (counted_less before o later x each.0, all_counted_less before o later items each.1)

-- a record that comes to be is live with all its groups
pub lives_more : (outs : List Pending) (items : List Item) (shape : Shape) (number : ℕ) (s : Sent) → out_groups outs number ≡ [] → lives outs (items ++ item_of shape number s ∷ []) ≡ lives outs items ++ kept (live_of shape number s)
lives_more outs [] shape number s none =
    append_nil (kept (live_item outs (item_of shape number s)))
    ∙ ap (λ (gs : List (List ℕ)). kept (live_with number s.unit s.words (grid_of (kind_at shape s.unit) s.words) (gs ++ groups_of (grid_of (kind_at shape s.unit) s.words)))) none
lives_more outs (x ∷ items) shape number s none =
    ap (λ (rest : List Live). kept (live_item outs x) ++ rest) (lives_more outs items shape number s none)
    ∙ sym (append_assoc (kept (live_item outs x)) (lives outs items) (kept (live_of shape number s)))

pub lives_append : (outs : List Pending) (xs ys : List Item) → lives outs (xs ++ ys) ≡ lives outs xs ++ lives outs ys
lives_append outs [] ys = refl
lives_append outs (x ∷ xs) ys =
    ap (λ (rest : List Live). kept (live_item outs x) ++ rest) (lives_append outs xs ys)
    ∙ sym (append_assoc (kept (live_item outs x)) (lives outs xs) (lives outs ys))

pub each_append : {X : Type 0} (P : X → Type 0) (xs ys : List X) → Each P (xs ++ ys) → Each P xs × Each P ys
each_append P [] ys each = (tt, each)
each_append P (x ∷ xs) ys each = let rest = each_append P xs ys each.1 in ((each.0, rest.0), rest.1)

worded_append : (ns : List ℕ) (new : Option (List ℕ)) (xs ys : List Item) → all_worded ns new (xs ++ ys) ≡ all_worded ns new xs ++ all_worded ns new ys
worded_append ns new [] ys = refl
worded_append ns new (x ∷ xs) ys = ap (λ (rest : List Item). (if has_number ns x.number then record x { words = unwrap_or new x.words } else x) ∷ rest) (worded_append ns new xs ys)

pub worded_counted : (outs : List Pending) (ns : List ℕ) (new : Option (List ℕ)) (items : List Item) → Each (LeftIsCounted outs) items → Each (LeftIsCounted outs) (all_worded ns new items)
worded_counted outs ns new [] each = tt
worded_counted outs ns new (x ∷ items) each = (go (has_number ns x.number), worded_counted outs ns new items each.1)
  where
    go : (b : Bool) → LeftIsCounted outs (if b then record x { words = unwrap_or new x.words } else x)
    go true = each.0
    go false = each.0

-- the records after a launch out settled
pub lives_settled : (before : List Pending) (o : Pending) (later : List Pending) (new : Option (List ℕ)) (entries slots : List Item)
    → Each (λ (p : Pending). IsApart p o) before → Each (LeftIsCounted (before ++ o ∷ later)) (entries ++ slots)
    → left_after o.inputs o.at new (lives (before ++ o ∷ later) (entries ++ slots)) ≡ lives (before ++ later) (settled_items o.inputs new entries slots)
lives_settled before o later new entries slots apart counted =
    let outs = before ++ later in
    let parts = each_append (LeftIsCounted (before ++ o ∷ later)) entries slots counted in
    let es = all_worded o.inputs new entries in
    let ss = all_worded o.inputs new slots in
    let left = all_counted_less before o later ss (worded_counted (before ++ o ∷ later) o.inputs new slots parts.1) in
    all_left before o later new (entries ++ slots) apart
    ∙ ap (lives outs) (worded_append o.inputs new entries slots)
    ∙ lives_append outs es ss
    ∙ ap (λ (xs : List Live). xs ++ lives outs ss) (sym (lives_counted outs o.inputs es))
    ∙ ap (λ (xs : List Live). lives outs (all_counted o.inputs es) ++ xs) (sym (lives_counted outs o.inputs ss) ∙ sym (lives_kept outs (all_counted o.inputs ss) left))
    ∙ sym (lives_append outs (all_counted o.inputs es) (filter has_left (all_counted o.inputs ss)))

-- what was counted stays so
pub settled_counted : (before : List Pending) (o : Pending) (later : List Pending) (new : Option (List ℕ)) (entries slots : List Item)
    → Each (LeftIsCounted (before ++ o ∷ later)) (entries ++ slots) → Each (LeftIsCounted (before ++ later)) (settled_items o.inputs new entries slots)
settled_counted before o later new entries slots counted =
    let outs = before ++ o ∷ later in
    let parts = each_append (LeftIsCounted outs) entries slots counted in
    each_join (LeftIsCounted (before ++ later)) (all_counted o.inputs (all_worded o.inputs new entries)) (filter has_left (all_counted o.inputs (all_worded o.inputs new slots)))
    (all_counted_less before o later (all_worded o.inputs new entries) (worded_counted outs o.inputs new entries parts.0))
    (each_kept (LeftIsCounted (before ++ later)) has_left (all_counted o.inputs (all_worded o.inputs new slots)) (all_counted_less before o later (all_worded o.inputs new slots) (worded_counted outs o.inputs new slots parts.1)))
  where
    each_join : (P : Item → Type 0) (xs ys : List Item) → Each P xs → Each P ys → Each P (xs ++ ys)
    each_join P [] ys a b = b
    each_join P (x ∷ xs) ys a b = (a.0, each_join P xs ys a.1 b)

    each_kept : (P : Item → Type 0) (p : Item → Bool) (xs : List Item) → Each P xs → Each P (filter p xs)
    each_kept P p [] each = tt
    each_kept P p (x ∷ xs) each = go (p x) (each_kept P p xs each.1)
      where
        go : (b : Bool) → Each P (filter p xs) → Each P (if b then x ∷ filter p xs else filter p xs)
        go true rest = (each.0, rest)
        go false rest = rest

-- a launch that opens its group keeps the count
pub opened_counted : (outs : List Pending) (o : Pending) (items : List Item) → Each (OpensNext o) items → Each (LeftIsCounted outs) items → Each (LeftIsCounted (outs ++ o ∷ [])) (all_opened o.inputs items)
opened_counted outs o [] opens counted = tt
opened_counted outs o (x ∷ items) opens counted =
    (counted_one, opened_counted outs o items opens.1 counted.1)
  where
    left_same : (b : Bool) → (if b then with_opened x else x).opening.left ≡ x.opening.left
    left_same true = refl
    left_same false = refl

    counted_one : LeftIsCounted (outs ++ o ∷ []) (if has_number o.inputs x.number then with_opened x else x)
    counted_one = left_same (has_number o.inputs x.number) ∙ counted.0 ∙ ap (λ (l : Live). length l.groups) (sym (one_opened outs o x opens.0))

-- the launches before one that is out take other groups
pub apart_before : (before : List Pending) (o : Pending) (later : List Pending) → AllApart (before ++ o ∷ later) → Each (λ (p : Pending). IsApart p o) before
apart_before [] o later all = tt
apart_before (p ∷ before) o later all = (first before all.0, apart_before before o later all.1)
  where
    first : (xs : List Pending) → ApartFromAll p (xs ++ o ∷ later) → IsApart p o
    first [] each = each.0
    first (x ∷ xs) each = first xs each.1
