-- A complete run takes each group of each record once.
use Rattle.std.proofs.Common.{Option, unwrap_or, ◌≡◌, ℕ, zero, suc, ◌+◌, ◌<◌, ◌≤◌, Bool, true, false, ◌&&◌, ◌||◌, cond, List, [], ◌∷◌, ◌++◌, length, map, refl, ap, sym, ◌∙◌, subst, arith}
use Rattle.std.specs.Prelude.{IsTrue, filter, if◌then◌else◌, ◌==◌}
use Rattle.std.specs.List.{flat_map}
use Rattle.std.proofs.lemmas.Bool.Decides.{nat_tests, Decides-eqb}
use Rattle.std.proofs.lemmas.List.Sums.{sum_by-cons}
use Rattle.wg_words.specs.Each.{Each}
use Rattle.wg_machine.specs.declared.shape.Shape.{Shape}
use Rattle.wg_machine.specs.declared.launch.Entry.{Entry}
use Rattle.wg_machine.specs.declared.launch.Live.{Live}
use Rattle.wg_machine.specs.declared.launch.Sent.{Sent}
use Rattle.wg_machine.specs.Buffers.{Buffers}
use Rattle.wg_machine.specs.Grids.{same_group, has_group, without_group}
use Rattle.wg_machine.specs.LaunchMeaning.{Meaning}
use Rattle.wg_machine.specs.Run.{IsRun, IsComplete, EachOnce, uses, all_born, groups_at, times}
use Rattle.wg_machine.specs.State.{State, start, kept, born, live_of}
use Rattle.wg_machine.specs.Step.{Passed, IsReady, has_number, numbers_of, record_of, taken, after_group, left_after, state_after}

-- how often a group of the record of a number is still to run
abbrev left : ℕ → List ℕ → List Live → ℕ
left r at [] = 0
left r at (x ∷ bag) = (if x.number == r then times at x.groups else 0) + left r at bag

abbrev occurs : ℕ → List Live → ℕ
occurs r [] = 0
occurs r (x ∷ bag) = (if x.number == r then 1 else 0) + occurs r bag

abbrev Rises : ℕ → List Live → ℕ → Type 0
Rises n [] end = n ≤ end
Rises n (x ∷ xs) end = (n ≤ x.number) × Rises (x.number + 1) xs end

times_cons : (at g : List ℕ) (gs : List (List ℕ)) → times at (g ∷ gs) ≡ (if same_group g at then 1 else 0) + times at gs
times_cons at g gs = sum_by-cons (λ (h : List ℕ). cond (same_group h at) 1 0) g gs

left_append : (r : ℕ) (at : List ℕ) (a b : List Live) → left r at (a ++ b) ≡ left r at a + left r at b
left_append r at [] b = omega arith
left_append r at (x ∷ a) b = rw (left_append r at a b) (omega arith)

-- records without groups count for nothing
left_kept_one : (r : ℕ) (at : List ℕ) (number unit : ℕ) (words grid : List ℕ) (gs : List (List ℕ)) → left r at (kept (record { number = number; unit = unit; words = words; grid = grid; groups = gs })) ≡ (if number == r then times at gs else 0)
left_kept_one r at number unit words grid [] = choice (number == r)
  where
    choice : (b : Bool) → 0 ≡ (if b then times at [] else 0)
    choice true = refl
    choice false = refl
left_kept_one r at number unit words grid (g ∷ gs) = omega arith

left_kept : (r : ℕ) (at : List ℕ) (xs : List Live) → left r at (flat_map kept xs) ≡ left r at xs
left_kept r at [] = refl
left_kept r at (x ∷ xs) =
    left_append r at (kept x) (flat_map kept xs)
    ∙ (ap (λ (n : ℕ). n + left r at (flat_map kept xs)) (left_kept_one r at x.number x.unit x.words x.grid x.groups)
    ∙ ap (λ (n : ℕ). (if x.number == r then times at x.groups else 0) + n) (left_kept r at xs))

born_append : (shape : Shape) (n : ℕ) (xs ys : List Sent) → born shape n (xs ++ ys) ≡ born shape n xs ++ born shape (n + length xs) ys
born_append shape n [] ys = let e : n + 0 ≡ n = omega arith in rw e refl
born_append shape n (x ∷ xs) ys =
    let e : n + 1 + length xs ≡ n + suc (length xs) = omega arith in
    ap (λ (rest : List Live). live_of shape n x ∷ rest) (born_append shape (n + 1) xs ys ∙ ap (λ (k : ℕ). born shape (n + 1) xs ++ born shape k ys) e)

-- two groups that are the same are the same as others
same_twice : (g h k : List ℕ) → same_group g h ≡ true → same_group g k ≡ same_group h k
same_twice g h k e = grind (arith, nat_tests)

same_self : (g : List ℕ) → same_group g g ≡ true
same_self g = grind (arith, nat_tests)

-- one group that stands in a list is taken out
times_without : (e at : List ℕ) (gs : List (List ℕ)) → IsTrue (has_group gs e) → times at gs ≡ (if same_group e at then 1 else 0) + times at (without_group e gs)
times_without e at [] h = absurd (cc)
times_without e at (g ∷ gs) h = choice (λ c. times_without e at gs c) (same_group g e) refl h
  where
    choice : (IsTrue (has_group gs e) → times at gs ≡ (if same_group e at then 1 else 0) + times at (without_group e gs)) → (b : Bool) → same_group g e ≡ b → IsTrue (b || has_group gs e) → times at (g ∷ gs) ≡ (if same_group e at then 1 else 0) + times at (if b then gs else g ∷ without_group e gs)
    choice ih true f h = times_cons at g gs ∙ ap (λ (b : Bool). (if b then 1 else 0) + times at gs) (same_twice g e at f)
    choice ih false f h =
        let c = times_cons at g gs in
        let d = times_cons at g (without_group e gs) in
        let r = ih h in
        rw (c, d, r) (omega arith)

step_true : (b s m : Bool) (t w l o k : ℕ) → t ≡ (if s then 1 else 0) + w → l ≡ (if s && m then o else 0) + k → (b ≡ true → m ≡ true) → (if b then t else 0) + l ≡ (if s && m then (if b then 1 else 0) + o else 0) + ((if b then w else 0) + k)
step_true true true true t w l o k p q h = omega arith
step_true true true false t w l o k p q h = let e = h refl in absurd (cc)
step_true true false true t w l o k p q h = omega arith
step_true true false false t w l o k p q h = omega arith
step_true false true true t w l o k p q h = omega arith
step_true false true false t w l o k p q h = omega arith
step_true false false true t w l o k p q h = omega arith
step_true false false false t w l o k p q h = omega arith

step_false : (b s m : Bool) (t l o k : ℕ) → l ≡ (if s && m then o else 0) + k → (b ≡ true → m ≡ false) → (if b then t else 0) + l ≡ (if s && m then (if b then 1 else 0) + o else 0) + ((if b then t else 0) + k)
step_false true true true t l o k q h = let e = h refl in absurd (cc)
step_false true true false t l o k q h = omega arith
step_false true false true t l o k q h = omega arith
step_false true false false t l o k q h = omega arith
step_false false true true t l o k q h = omega arith
step_false false true false t l o k q h = omega arith
step_false false false true t l o k q h = omega arith
step_false false false false t l o k q h = omega arith

-- what is left before a launch is left after it, or was taken by it
left_step : (r : ℕ) (at e : List ℕ) (unit : ℕ) (nums : List ℕ) (new : Option (List ℕ)) (bag : List Live) → Each (IsReady unit e) (taken nums bag) → left r at bag ≡ (if same_group e at && has_number nums r then occurs r bag else 0) + left r at (left_after nums e new bag)
left_step r at e unit nums new [] ready = zero_is (same_group e at && has_number nums r)
  where
    zero_is : (b : Bool) → 0 ≡ (if b then 0 else 0) + 0
    zero_is true = refl
    zero_is false = refl
left_step r at e unit nums new (x ∷ bag) ready = choice (λ h. left_step r at e unit nums new bag h) (has_number nums x.number) refl ready
  where
    choice : (Each (IsReady unit e) (taken nums bag) → left r at bag ≡ (if same_group e at && has_number nums r then occurs r bag else 0) + left r at (left_after nums e new bag)) → (b : Bool) → has_number nums x.number ≡ b → Each (IsReady unit e) (if b then x ∷ taken nums bag else taken nums bag) → left r at (x ∷ bag) ≡ (if same_group e at && has_number nums r then occurs r (x ∷ bag) else 0) + left r at ((if b then kept (after_group e new x) else x ∷ []) ++ left_after nums e new bag)
    choice hyp true f ready =
        let ih = hyp ready.1 in
        let k = left_kept_one r at x.number x.unit (unwrap_or new x.words) x.grid (without_group e x.groups) in
        let w = times_without e at x.groups ready.0.group_is in
        step_true (x.number == r) (same_group e at) (has_number nums r) _ _ _ _ _ w ih (λ q. subst (λ (n : ℕ). has_number nums n ≡ true) ((Decides-eqb x.number r).0 q) f)
        ∙ ap (λ (n : ℕ). (if same_group e at && has_number nums r then occurs r (x ∷ bag) else 0) + n) (sym (left_append r at (kept (after_group e new x)) (left_after nums e new bag) ∙ ap (λ (n : ℕ). n + left r at (left_after nums e new bag)) k))
    choice hyp false f ready =
        let ih = hyp ready in
        step_false (x.number == r) (same_group e at) (has_number nums r) _ _ _ _ ih (λ q. subst (λ (n : ℕ). has_number nums n ≡ false) ((Decides-eqb x.number r).0 q) f)

-- a number in the bag stands there once
occurs_none : (r n end : ℕ) (bag : List Live) → Rises n bag end → r < n → occurs r bag ≡ 0
occurs_none r n end [] h f = refl
occurs_none r n end (x ∷ bag) h f =
    let a = h.0 in
    let e : (x.number == r) ≡ false = grind (arith, nat_tests) in
    rw (e, occurs_none r (x.number + 1) end bag h.1 (omega arith)) refl

occurs_most : (r n end : ℕ) (bag : List Live) → Rises n bag end → occurs r bag ≤ 1
occurs_most r n end [] h = omega arith
occurs_most r n end (x ∷ bag) h = choice (occurs_most r (x.number + 1) end bag h.1) (x.number == r) refl
  where
    choice : occurs r bag ≤ 1 → (b : Bool) → (x.number == r) ≡ b → (if b then 1 else 0) + occurs r bag ≤ 1
    choice ih true f = let q = (Decides-eqb x.number r).0 f in rw (occurs_none r (x.number + 1) end bag h.1 (omega arith)) (omega arith)
    choice ih false f = omega arith

occurs_least : (r : ℕ) (t : Live → Bool) (bag : List Live) → has_number (map (λ (x : Live). x.number) (filter t bag)) r ≡ true → 1 ≤ occurs r bag
occurs_least r t [] h = absurd (cc)
occurs_least r t (x ∷ bag) h = choice (λ k. occurs_least r t bag k) (t x) (x.number == r) refl h
  where
    choice : (has_number (map (λ (y : Live). y.number) (filter t bag)) r ≡ true → 1 ≤ occurs r bag) → (b d : Bool) → (x.number == r) ≡ d → has_number (map (λ (y : Live). y.number) (if b then x ∷ filter t bag else filter t bag)) r ≡ true → 1 ≤ (if d then 1 else 0) + occurs r bag
    choice ih b true q h = omega arith
    choice ih true false q h = let k = ih (subst (λ (c : Bool). (c || has_number (map (λ (y : Live). y.number) (filter t bag)) r) ≡ true) q h) in omega arith
    choice ih false false q h = let k = ih h in omega arith

rises_weaker : (m n end : ℕ) (xs : List Live) → m ≤ n → Rises n xs end → Rises m xs end
rises_weaker m n end [] h r = omega arith
rises_weaker m n end (x ∷ xs) h r = let f = r.0 in (omega arith, r.1)

rises_append : (n mid end : ℕ) (xs ys : List Live) → Rises n xs mid → Rises mid ys end → Rises n (xs ++ ys) end
rises_append n mid end [] ys r s = rises_weaker n mid end ys r s
rises_append n mid end (x ∷ xs) ys r s = (r.0, rises_append (x.number + 1) mid end xs ys r.1 s)

rises_kept_one : (n end number unit : ℕ) (words grid : List ℕ) (gs : List (List ℕ)) (rest : List Live) → n ≤ number → Rises (number + 1) rest end → Rises n (kept (record { number = number; unit = unit; words = words; grid = grid; groups = gs }) ++ rest) end
rises_kept_one n end number unit words grid [] rest h r = rises_weaker n (number + 1) end rest (omega arith) r
rises_kept_one n end number unit words grid (g ∷ gs) rest h r = (h, r)

rises_kept : (n end : ℕ) (xs : List Live) → Rises n xs end → Rises n (flat_map kept xs) end
rises_kept n end [] r = r
rises_kept n end (x ∷ xs) r = rises_kept_one n end x.number x.unit x.words x.grid x.groups (flat_map kept xs) r.0 (rises_kept (x.number + 1) end xs r.1)

rises_left : (n end : ℕ) (nums e : List ℕ) (new : Option (List ℕ)) (bag : List Live) → Rises n bag end → Rises n (left_after nums e new bag) end
rises_left n end nums e new [] r = r
rises_left n end nums e new (x ∷ bag) r = choice (rises_left (x.number + 1) end nums e new bag r.1) (has_number nums x.number)
  where
    choice : Rises (x.number + 1) (left_after nums e new bag) end → (b : Bool) → Rises n ((if b then kept (after_group e new x) else x ∷ []) ++ left_after nums e new bag) end
    choice ih true = rises_kept_one n end x.number x.unit (unwrap_or new x.words) x.grid (without_group e x.groups) (left_after nums e new bag) r.0 ih
    choice ih false = (r.0, ih)

rises_born : (shape : Shape) (n : ℕ) (ss : List Sent) → Rises n (born shape n ss) (n + length ss)
rises_born shape n [] = omega arith
rises_born shape n (s ∷ ss) =
    (omega arith, let e : n + 1 + length ss ≡ n + suc (length ss) = omega arith in subst (λ (k : ℕ). Rises (n + 1) (born shape (n + 1) ss) k) e (rises_born shape (n + 1) ss))

sent_by : List Passed → List Sent
sent_by ps = flat_map (λ (p : Passed). p.outcome.sent) ps

-- one entry uses what its launch takes
uses_one : (same among : Bool) (o : ℕ) → (among ≡ true → o ≡ 1) → (if same && among then o else 0) ≡ cond (same && among) 1 0
uses_one true true o h = h refl
uses_one true false o h = refl
uses_one false true o h = refl
uses_one false false o h = refl

numbers_taken : (xs : List Live) → numbers_of (map record_of xs) ≡ map (λ (x : Live). x.number) xs
numbers_taken [] = refl
numbers_taken (x ∷ xs) = ap (λ (ns : List ℕ). x.number ∷ ns) (numbers_taken xs)

-- what is left, and what is still to be born, is what a run uses and leaves
conserve : (shape : Shape) (made : Meaning) (turns : ℕ) (s : State) (es : List Entry) (ps : List Passed) (t : State) (r : ℕ) (at : List ℕ) → IsRun shape made turns s es ps t → Rises 0 s.bag s.next → left r at s.bag + left r at (born shape s.next (sent_by ps)) ≡ uses r at es + left r at t.bag
unfolding sent_by
conserve shape made turns s [] [] t r at run rises = let e = ap (λ (u : State). left r at u.bag) run in omega arith
conserve shape made turns s [] (p ∷ ps) t r at run rises = absurd run
conserve shape made turns s (e ∷ es) [] t r at run rises = absurd run
conserve shape made turns s (e ∷ es) (p ∷ ps) t r at run rises =
    let step = run.0 in
    let nums = numbers_of p.launch.records in
    let sent = p.outcome.sent in
    let after = state_after shape s p.launch e.at p.outcome in
    let taken_is : nums ≡ map (λ (x : Live). x.number) (taken nums s.bag) = ap numbers_of step.allowed.records ∙ numbers_taken (taken nums s.bag) in
    let inputs : e.inputs ≡ nums = ap (λ (x : Entry). x.inputs) step.names in
    let among : has_number nums r ≡ true → occurs r s.bag ≡ 1 = λ h. (let l = occurs_least r (λ (x : Live). has_number nums x.number) s.bag (subst (λ (ns : List ℕ). has_number ns r ≡ true) taken_is h) in let m = occurs_most r 0 s.next s.bag rises in omega arith) in
    let here = left_step r at e.at p.launch.unit nums p.outcome.shared s.bag step.allowed.ready in
    let used : (if same_group e.at at && has_number nums r then occurs r s.bag else 0) ≡ cond (same_group e.at at && has_number e.inputs r) 1 0 =
    uses_one (same_group e.at at) (has_number nums r) (occurs r s.bag) among ∙ ap (λ (ns : List ℕ). cond (same_group e.at at && has_number ns r) 1 0) (sym inputs) in
    let count = sum_by-cons (λ (x : Entry). cond (same_group x.at at && has_number x.inputs r) 1 0) e es in
    let bag : left r at after.bag ≡ left r at (left_after nums e.at p.outcome.shared s.bag) + left r at (born shape s.next sent) =
    left_append r at (left_after nums e.at p.outcome.shared s.bag) (flat_map kept (born shape s.next sent)) ∙ ap (λ (n : ℕ). left r at (left_after nums e.at p.outcome.shared s.bag) + n) (left_kept r at (born shape s.next sent)) in
    let new : left r at (born shape s.next (sent ++ sent_by ps)) ≡ left r at (born shape s.next sent) + left r at (born shape (s.next + length sent) (sent_by ps)) =
    ap (left r at) (born_append shape s.next sent (sent_by ps)) ∙ left_append r at (born shape s.next sent) (born shape (s.next + length sent) (sent_by ps)) in
    let risen : Rises 0 after.bag after.next = rises_append 0 s.next after.next (left_after nums e.at p.outcome.shared s.bag) (flat_map kept (born shape s.next sent)) (rises_left 0 s.next nums e.at p.outcome.shared s.bag rises) (rises_kept s.next (s.next + length sent) (born shape s.next sent) (rises_born shape s.next sent)) in
    let later : left r at after.bag + left r at (born shape after.next (sent_by ps)) ≡ uses r at es + left r at t.bag =
    conserve shape made turns after es ps t r at (subst (λ (u : State). IsRun shape made turns u es ps t) step.becomes run.1) risen in
    omega (arith, here, used, count, bag, new, later)

-- in a list of new records each has its own groups left
left_below : (shape : Shape) (r : ℕ) (at : List ℕ) (k : ℕ) (ss : List Sent) → r < k → left r at (born shape k ss) ≡ 0
left_below shape r at k [] h = refl
left_below shape r at k (s ∷ ss) h =
    let e : (k == r) ≡ false = grind (arith, nat_tests) in rw (e, left_below shape r at (k + 1) ss (omega arith)) refl

left_at : (shape : Shape) (at : List ℕ) (k i : ℕ) (ss : List Sent) → left (k + i) at (born shape k ss) ≡ times at (groups_at (born shape k ss) i)
left_at shape at k i [] = refl
left_at shape at k zero (s ∷ ss) =
    let e : (k == k + 0) ≡ true = grind (arith, nat_tests) in
    let z = left_below shape (k + 0) at (k + 1) ss (omega arith) in
    rw (e, z) (omega arith)
left_at shape at k (suc i) (s ∷ ss) =
    let e : (k == k + suc i) ≡ false = grind (arith, nat_tests) in
    let m : k + suc i ≡ k + 1 + i = omega arith in
    rw e (let h = left_at shape at (k + 1) i ss in let j = ap (λ (n : ℕ). left n at (born shape (k + 1) ss)) m in omega arith)

-- in every run a group of a record was used, or is left, as often as it stands among the record's groups
counted : (shape : Shape) (made : Meaning) (turns : ℕ) (script : List Sent) (buffers : Buffers) (entries : List Entry) (trail : List Passed) (final : State) (r : ℕ) (at : List ℕ) → IsRun shape made turns (start shape script buffers) entries trail final
    → uses r at entries + left r at final.bag ≡ times at (groups_at (all_born shape script trail) r)
unfolding sent_by
counted shape made turns script buffers entries trail final r at run =
    let s = start shape script buffers in
    let rises : Rises 0 s.bag s.next = subst (λ (k : ℕ). Rises 0 (flat_map kept (born shape 0 script)) k) (let z : 0 + length script ≡ length script = omega arith in z) (rises_kept 0 (0 + length script) (born shape 0 script) (rises_born shape 0 script)) in
    let c = conserve shape made turns s entries trail final r at run rises in
    let all : left r at (born shape 0 (script ++ sent_by trail)) ≡ left r at (born shape 0 script) + left r at (born shape (length script) (sent_by trail)) =
    ap (left r at) (born_append shape 0 script (sent_by trail)) ∙ (left_append r at (born shape 0 script) (born shape (0 + length script) (sent_by trail)) ∙ ap (λ (k : ℕ). left r at (born shape 0 script) + left r at (born shape k (sent_by trail))) (let z : 0 + length script ≡ length script = omega arith in z)) in
    let first = left_kept r at (born shape 0 script) in
    let place = left_at shape at 0 r (script ++ sent_by trail) in
    let z : 0 + r ≡ r = omega arith in
    let place' = ap (λ (k : ℕ). left k at (born shape 0 (script ++ sent_by trail))) z in
    omega (arith, c, all, first, place, place')

pub at_most_once : (shape : Shape) (made : Meaning) (turns : ℕ) (script : List Sent) (buffers : Buffers) (entries : List Entry) (trail : List Passed) (final : State) → IsRun shape made turns (start shape script buffers) entries trail final
    → (r : ℕ) (at : List ℕ) → uses r at entries ≤ times at (groups_at (all_born shape script trail) r)
at_most_once shape made turns script buffers entries trail final run = λ r at.
    let c = counted shape made turns script buffers entries trail final r at run in
    omega (arith, c)

pub once : (shape : Shape) (made : Meaning) (turns : ℕ) (script : List Sent) (buffers : Buffers) (entries : List Entry) (trail : List Passed) (final : State) → IsRun shape made turns (start shape script buffers) entries trail final → IsComplete final → EachOnce (all_born shape script trail) entries
once shape made turns script buffers entries trail final run empty = λ r at.
    let c = counted shape made turns script buffers entries trail final r at run in
    let e = ap (left r at) empty in
    omega (arith, c, e)
