-- Records that get new words: nothing changes but their words.
use Rattle.std.proofs.Common.{◌≡◌, ℕ, zero, suc, ◌+◌, ◌<◌, ◌≤◌, Bool, true, false, ◌||◌, List, [], ◌∷◌, ◌++◌, length, map, refl, ap, sym, ◌∙◌, subst, arith, Option, None, Some, unwrap_or}
use Rattle.std.specs.Prelude.{if◌then◌else◌, ◌==◌, ◌&&◌, filter, count_by, nat_le}
use Rattle.std.specs.List.{list_any}
use Rattle.wg_words.specs.Each.{Each}
use Rattle.wg_machine.specs.declared.launch.Live.{Live}
use Rattle.wg_machine.specs.declared.shape.Shape.{Shape}
use Rattle.wg_machine.specs.Grids.{without_group}
use Rattle.wg_machine.specs.LaunchMeaning.{HasNewWords}
use Rattle.wg_machine.specs.Run.{times}
use Rattle.wg_machine.specs.State.{kept}
use Rattle.wg_machine.specs.Step.{IsReady, after_group, first_grid, has_number, left_after, taken}
use Rattle.wg_machine.specs.Units.{words_at}
use Rattle.wg_standing.specs.declared.pending.Pending.{Pending}
use Rattle.wg_standing.specs.Moves.{is_still, with_words}
use Rattle.wg_standing.specs.Outs.{AllAllowed, after_one, unopened}
use Rattle.wg_standing.specs.Standing.{EachDistinct, EachFull, EachHasWords, EachKnown, IsFull, Rises, by_unit, counts, in_slot}
use Rattle.wg_standing.proofs.Counting.{count_cons, pay}
use Rattle.wg_standing.proofs.Lists.{Test, those}
use Rattle.wg_standing.proofs.Names.{Named, allowed_of, named_of}
use Rattle.wg_standing.proofs.Rising.{numbers}

-- the record with the new words, or as it is
abbrev pub worded : Bool → Option (List ℕ) → Live → Live
worded b new x = if b then record x { words = unwrap_or new x.words } else x

pub same_number : (b : Bool) (new : Option (List ℕ)) (x : Live) → (worded b new x).number ≡ x.number
same_number true new x = refl
same_number false new x = refl

pub same_unit : (b : Bool) (new : Option (List ℕ)) (x : Live) → (worded b new x).unit ≡ x.unit
same_unit true new x = refl
same_unit false new x = refl

pub same_grid : (b : Bool) (new : Option (List ℕ)) (x : Live) → (worded b new x).grid ≡ x.grid
same_grid true new x = refl
same_grid false new x = refl

pub same_groups : (b : Bool) (new : Option (List ℕ)) (x : Live) → (worded b new x).groups ≡ x.groups
same_groups true new x = refl
same_groups false new x = refl

pub numbers_worded : (nums : List ℕ) (new : Option (List ℕ)) (xs : List Live) → numbers (with_words nums new xs) ≡ numbers xs
numbers_worded nums new [] = refl
numbers_worded nums new (x ∷ xs) =
    ap (λ (n : ℕ). n ∷ numbers (with_words nums new xs)) (same_number (has_number nums x.number) new x) ∙ ap (λ (ns : List ℕ). x.number ∷ ns) (numbers_worded nums new xs)

-- the group leaves and the words come, in one step or in two
pub left_worded : (nums at : List ℕ) (new : Option (List ℕ)) (bag : List Live) → left_after nums at None (with_words nums new bag) ≡ left_after nums at new bag
left_worded nums at new [] = refl
left_worded nums at new (x ∷ bag) =
    ap (λ (first : List Live). first ++ left_after nums at None (with_words nums new bag)) (one (has_number nums x.number) refl)
    ∙ ap (λ (rest : List Live). (if has_number nums x.number then kept (after_group at new x) else x ∷ []) ++ rest) (left_worded nums at new bag)
  where
    one : (b : Bool) → has_number nums x.number ≡ b → (if has_number nums (worded b new x).number then kept (after_group at None (worded b new x)) else worded b new x ∷ []) ≡ (if b then kept (after_group at new x) else x ∷ [])
    one true e = rw e refl
    one false e = rw e refl

worded_append : (nums : List ℕ) (new : Option (List ℕ)) (xs ys : List Live) → with_words nums new (xs ++ ys) ≡ with_words nums new xs ++ with_words nums new ys
worded_append nums new [] ys = refl
worded_append nums new (x ∷ xs) ys = ap (λ (rest : List Live). worded (has_number nums x.number) new x ∷ rest) (worded_append nums new xs ys)

-- another launch takes its group from records with new words as from those before
pub worded_left : (ms at nums : List ℕ) (new : Option (List ℕ)) (bag : List Live) → left_after ms at None (with_words nums new bag) ≡ with_words nums new (left_after ms at None bag)
worded_left ms at nums new [] = refl
worded_left ms at nums new (x ∷ bag) =
    ap (λ (first : List Live). first ++ left_after ms at None (with_words nums new bag)) (one (has_number nums x.number) refl (has_number ms x.number) refl)
    ∙ ap (λ (rest : List Live). with_words nums new (if has_number ms x.number then kept (after_group at None x) else x ∷ []) ++ rest) (worded_left ms at nums new bag)
    ∙ sym (worded_append nums new (if has_number ms x.number then kept (after_group at None x) else x ∷ []) (left_after ms at None bag))
  where
    go : (b : Bool) → has_number nums x.number ≡ b → (gs : List (List ℕ)) → kept (let y = worded b new x in record y { groups = gs }) ≡ with_words nums new (kept (record x { groups = gs }))
    go true e [] = refl
    go false e [] = refl
    go true e (g ∷ gs) = rw e refl
    go false e (g ∷ gs) = rw e refl

    one : (b : Bool) → has_number nums x.number ≡ b → (t : Bool) → has_number ms x.number ≡ t → (if has_number ms (worded b new x).number then kept (after_group at None (worded b new x)) else worded b new x ∷ []) ≡ with_words nums new (if t then kept (after_group at None x) else x ∷ [])
    one true e true f = rw f (go true e (without_group at x.groups))
    one false e true f = rw f (go false e (without_group at x.groups))
    one true e false f = rw f (rw e refl)
    one false e false f = rw f (rw e refl)

pub worded_unopened : (nums : List ℕ) (new : Option (List ℕ)) (outs : List Pending) (bag : List Live) → unopened outs (with_words nums new bag) ≡ with_words nums new (unopened outs bag)
worded_unopened nums new [] bag = refl
worded_unopened nums new (o ∷ outs) bag = ap (unopened outs) (worded_left o.inputs o.at nums new bag) ∙ worded_unopened nums new outs (after_one o bag)

-- those that pass a test of unit and number, with new words
pub worded_those : (p : Test) (nums : List ℕ) (new : Option (List ℕ)) (xs : List Live) → those p (with_words nums new xs) ≡ with_words nums new (those p xs)
worded_those p nums new [] = refl
worded_those p nums new (x ∷ xs) = one (has_number nums x.number) refl (p x.unit x.number) refl (worded_those p nums new xs)
  where
    one : (b : Bool) → has_number nums x.number ≡ b → (t : Bool) → p x.unit x.number ≡ t → those p (with_words nums new xs) ≡ with_words nums new (those p xs) → (if p (worded b new x).unit (worded b new x).number then worded b new x ∷ those p (with_words nums new xs) else those p (with_words nums new xs)) ≡ with_words nums new (if t then x ∷ those p xs else those p xs)
    one true e true f ih = rw f (rw e (ap (λ (rest : List Live). worded true new x ∷ rest) ih))
    one false e true f ih = rw f (rw e (ap (λ (rest : List Live). x ∷ rest) ih))
    one true e false f ih = rw f ih
    one false e false f ih = rw f ih

pub worded_by_unit : (handed v n : ℕ) (nums : List ℕ) (new : Option (List ℕ)) (xs : List Live) → by_unit handed v n (with_words nums new xs) ≡ map (with_words nums new) (by_unit handed v n xs)
worded_by_unit handed v zero nums new xs = refl
worded_by_unit handed v (suc n) nums new xs =
    ap (λ (first : List Live). first ∷ by_unit handed (v + 1) n (with_words nums new xs)) (worded_those (λ u m. (u == v) && nat_le handed m) nums new xs)
    ∙ ap (λ (rest : List (List Live)). with_words nums new (filter (in_slot handed v) xs) ∷ rest) (worded_by_unit handed (v + 1) n nums new xs)

-- a fact that words do not change
pub each_worded : (P : Live → Type 0) (nums : List ℕ) (new : Option (List ℕ)) → ((b : Bool) (x : Live) → P x → P (worded b new x)) → (xs : List Live) → Each P xs → Each P (with_words nums new xs)
each_worded P nums new h [] e = tt
each_worded P nums new h (x ∷ xs) e = (h (has_number nums x.number) x e.0, each_worded P nums new h xs e.1)

pub rises_worded : (lo end : ℕ) (nums : List ℕ) (new : Option (List ℕ)) (xs : List Live) → Rises lo xs end → Rises lo (with_words nums new xs) end
rises_worded lo end nums new [] r = r
rises_worded lo end nums new (x ∷ xs) r =
    subst (λ (n : ℕ). (lo ≤ n) × Rises (n + 1) (with_words nums new xs) end) (sym (same_number (has_number nums x.number) new x)) (r.0, rises_worded (x.number + 1) end nums new xs r.1)

pub full_worded : (shape : Shape) (nums : List ℕ) (new : Option (List ℕ)) (xs : List Live) → EachFull shape xs → EachFull shape (with_words nums new xs)
full_worded shape nums new xs e = each_worded (IsFull shape) nums new one xs e
  where
    one : (b : Bool) (x : Live) → IsFull shape x → IsFull shape (worded b new x)
    one true x f = record { some = f.some; whole = f.whole; within = f.within; grid = f.grid }
    one false x f = f

pub known_worded : (n : ℕ) (nums : List ℕ) (new : Option (List ℕ)) (xs : List Live) → EachKnown n xs → EachKnown n (with_words nums new xs)
known_worded n nums new xs e = each_worded (λ (x : Live). x.unit < n) nums new one xs e
  where
    one : (b : Bool) (x : Live) → x.unit < n → (worded b new x).unit < n
    one true x h = h
    one false x h = h

pub distinct_worded : (nums : List ℕ) (new : Option (List ℕ)) (xs : List Live) → EachDistinct xs → EachDistinct (with_words nums new xs)
distinct_worded nums new [] e = tt
distinct_worded nums new (x ∷ xs) e = (one (has_number nums x.number), distinct_worded nums new xs e.1)
  where
    one : (b : Bool) → (at : List ℕ) → times at (worded b new x).groups ≤ 1
    one true = e.0
    one false = e.0

-- the new words are as many as the unit's
pub words_worded : (shape : Shape) (shared : Bool) (unit : ℕ) (at nums : List ℕ) (new : Option (List ℕ)) (xs : List Live) → HasNewWords shared (words_at shape unit) new → Each (IsReady unit at) (taken nums xs) → EachHasWords shape xs → EachHasWords shape (with_words nums new xs)
words_worded shape shared unit at nums new [] h ready e = tt
words_worded shape shared unit at nums new (x ∷ xs) h ready e = choice (λ r. words_worded shape shared unit at nums new xs h r e.1) (has_number nums x.number) ready
  where
    many : (s : Bool) (o : Option (List ℕ)) → HasNewWords s (words_at shape unit) o → x.unit ≡ unit → length (unwrap_or o x.words) ≡ words_at shape x.unit
    many true (Some ws) h u = h ∙ ap (words_at shape) (sym u)
    many true None h u = absurd h
    many false (Some ws) h u = absurd h
    many false None h u = e.0

    choice : (Each (IsReady unit at) (taken nums xs) → EachHasWords shape (with_words nums new xs)) → (b : Bool) → Each (IsReady unit at) (if b then x ∷ taken nums xs else taken nums xs) → EachHasWords shape (worded b new x ∷ with_words nums new xs)
    choice ih true r = (many shared new h r.0.unit_is, ih r.1)
    choice ih false r = (e.0, ih r)

counted_worded : (handed v : ℕ) (nums : List ℕ) (new : Option (List ℕ)) (xs : List Live) → count_by (in_slot handed v) (with_words nums new xs) ≡ count_by (in_slot handed v) xs
counted_worded handed v nums new [] = refl
counted_worded handed v nums new (x ∷ xs) =
    let a = count_cons (in_slot handed v) x xs in
    let b = count_cons (in_slot handed v) (worded (has_number nums x.number) new x) (with_words nums new xs) in
    let e = same (has_number nums x.number) in
    let ih = counted_worded handed v nums new xs in
    omega (arith, a, b, e, ih)
  where
    same : (b : Bool) → pay (in_slot handed v (worded b new x)) 1 ≡ pay (in_slot handed v x) 1
    same true = refl
    same false = refl

pub counts_worded : (handed v n : ℕ) (nums : List ℕ) (new : Option (List ℕ)) (xs : List Live) → counts handed v n (with_words nums new xs) ≡ counts handed v n xs
counts_worded handed v zero nums new xs = refl
counts_worded handed v (suc n) nums new xs =
    ap (λ (k : ℕ). k ∷ counts handed (v + 1) n (with_words nums new xs)) (counted_worded handed v nums new xs)
    ∙ ap (λ (rest : List ℕ). count_by (in_slot handed v) xs ∷ rest) (counts_worded handed (v + 1) n nums new xs)

has_worded : (n : ℕ) (nums : List ℕ) (new : Option (List ℕ)) (ws : List Live) → list_any (λ (x : Live). x.number == n) (with_words nums new ws) ≡ list_any (λ (x : Live). x.number == n) ws
has_worded n nums new [] = refl
has_worded n nums new (x ∷ ws) =
    ap (λ (m : ℕ). (m == n) || list_any (λ (y : Live). y.number == n) (with_words nums new ws)) (same_number (has_number nums x.number) new x)
    ∙ ap (λ (b : Bool). (x.number == n) || b) (has_worded n nums new ws)

waits_worded : (n : ℕ) (nums : List ℕ) (new : Option (List ℕ)) (waits : List (List Live)) → list_any (λ (ws : List Live). list_any (λ (x : Live). x.number == n) ws) (map (with_words nums new) waits) ≡ list_any (λ (ws : List Live). list_any (λ (x : Live). x.number == n) ws) waits
waits_worded n nums new [] = refl
waits_worded n nums new (ws ∷ waits) =
    ap (λ (b : Bool). b || list_any (λ (ws : List Live). list_any (λ (x : Live). x.number == n) ws) (map (with_words nums new) waits)) (has_worded n nums new ws)
    ∙ ap (λ (b : Bool). list_any (λ (x : Live). x.number == n) ws || b) (waits_worded n nums new waits)

pub still_worded : (nums : List ℕ) (new : Option (List ℕ)) (waits : List (List Live)) (outs : List Pending) (n : ℕ) → is_still (map (with_words nums new) waits) outs n ≡ is_still waits outs n
still_worded nums new waits outs n = ap (λ (b : Bool). b || list_any (λ (p : Pending). has_number p.inputs n) outs) (waits_worded n nums new waits)

first_worded : (nums : List ℕ) (new : Option (List ℕ)) (xs : List Live) → first_grid (with_words nums new xs) ≡ first_grid xs
first_worded nums new [] = refl
first_worded nums new (x ∷ xs) = same_grid (has_number nums x.number) new x

-- what a launch out takes is there with new words
named_worded : (shape : Shape) (o : Pending) (nums : List ℕ) (new : Option (List ℕ)) (mine : List Live) → Named shape o mine → Named shape o (with_words nums new mine)
named_worded shape o nums new mine n =
    record {
      named = numbers_worded nums new mine ∙ n.named;
      some = n.some;
      few = n.few;
      ready = each_worded (IsReady o.unit o.at) nums new ready mine n.ready;
      grid = subst (λ (g : List ℕ). Each (λ (r : Live). g ≡ r.grid) (with_words nums new mine)) (sym (first_worded nums new mine)) (each_worded (λ (r : Live). first_grid mine ≡ r.grid) nums new (λ b x e. e ∙ sym (same_grid b new x)) mine n.grid);
    }
  where
    ready : (b : Bool) (x : Live) → IsReady o.unit o.at x → IsReady o.unit o.at (worded b new x)
    ready true x r = record { unit_is = r.unit_is; group_is = r.group_is }
    ready false x r = r

pub allowed_worded : (shape : Shape) (nums : List ℕ) (new : Option (List ℕ)) (bag : List Live) (outs : List Pending) → AllAllowed shape bag outs → AllAllowed shape (with_words nums new bag) outs
allowed_worded shape nums new bag [] all = tt
allowed_worded shape nums new bag (o ∷ outs) all =
    let q : with_words nums new (taken o.inputs bag) ≡ taken o.inputs (with_words nums new bag) = sym (worded_those (λ u m. has_number o.inputs m) nums new bag) in (
      allowed_of shape (with_words nums new bag) o (subst (Named shape o) q (named_worded shape o nums new (taken o.inputs bag) (named_of shape bag o all.0))),
      allowed_worded shape nums new bag outs all.1,
    )
