-- Additive bodies end every complete run with the same buffers.
use Rattle.std.proofs.Common.{unwrap_or, ◌≡◌, ℕ, zero, suc, ◌+◌, ◌-◌, ◌%◌, ◌^◌, ◌<◌, ◌≤◌, Bool, true, false, ◌||◌, ◌&&◌, List, [], ◌∷◌, ◌++◌, length, map, Option, Some, None, refl, ap, sym, ◌∙◌, subst, arith, inl, inr, ◌⊎◌}
use Rattle.std.specs.Prelude.{IsTrue, IfSome, slice_index, slice_get, sum_by, ⊤}
use Rattle.std.specs.List.{flat_map}
use Rattle.std.specs.Option.{option_map}
use Rattle.std.proofs.lemmas.Bool.{cases_lt}
use Rattle.std.proofs.lemmas.Bool.Decides.{nat_tests}
use Rattle.std.proofs.lemmas.List.Sums.{sum_by-cons}
use Rattle.wg_words.specs.Each.{Each}
use Rattle.wg_machine.specs.declared.shape.Kind.{Kind}
use Rattle.wg_machine.specs.declared.shape.Kind.TheVariants.{Thread, Coalescing, Grid, GridField}
use Rattle.wg_machine.specs.declared.shape.Shape.{Shape}
use Rattle.wg_machine.specs.declared.shape.Unit.{Unit}
use Rattle.wg_machine.specs.declared.launch.Entry.{Entry}
use Rattle.wg_machine.specs.declared.launch.Launch.{Launch}
use Rattle.wg_machine.specs.declared.launch.Live.{Live}
use Rattle.wg_machine.specs.declared.launch.Record.{Record}
use Rattle.wg_machine.specs.declared.launch.Sent.{Sent}
use Rattle.wg_machine.specs.Additive.{zero_buffers, unnumbered_launch, unnumbered_record, AreWords, IsAdded, OnlyAdds, DoesTheSame, IsAdditive, group_launch}
use Rattle.wg_machine.specs.Buffers.{Buffers, lengths_of, buffer_at, word_at}
use Rattle.wg_machine.specs.Fitting.{IsFitting, BagFits, StateFits, IsLawful}
use Rattle.wg_machine.specs.GoodShape.{IsGoodShape}
use Rattle.wg_machine.specs.Grids.{grid_of, groups_of, place_of, has_group, same_group}
use Rattle.wg_machine.specs.LaunchMeaning.{Meaning, Outcome, Arrives, FitsShape, KeepsLaws}
use Rattle.wg_machine.specs.Run.{IsRun, IsComplete}
use Rattle.wg_machine.specs.State.{State, kept, born, start}
use Rattle.wg_machine.specs.Step.{Passed, Step, Allows, IsReady, left_after, taken, record_of, numbers_of}
use Rattle.wg_machine.specs.Totals.{Question, added_by, group_adds, groups_add, total_within, total, total_of_entries, EndsWithTotals}
use Rattle.wg_machine.specs.Units.{kind_at, words_at, shared_at, is_coalescing, most_inputs, depth_at}
use Rattle.wg_machine.proofs.Deeper.{sent_deeper}
use Rattle.wg_machine.proofs.Fits.{allowed_fits, each_taken, step_keeps, born_fits, small_grid, good_kind, grid_kind}
use Rattle.wg_machine.proofs.Groups.{place_in_grid}
use Rattle.wg_machine.proofs.Pending.{Count, pending, running, Even, none_new, pending_append, pending_kept, pending_left, pending_born}

-- What the law is told of a graph: its shape is good, its bodies keep the laws and only add.
record Told (shape : Shape) (made : Meaning) : Type 0 where
  good : IsGoodShape shape
  lawful : IsLawful shape made
  additive : IsAdditive shape made

sum_same : {X : Type 0} (P : X → Type 0) (f g : X → ℕ) → ((x : X) → P x → f x ≡ g x) → (xs : List X) → Each P xs → sum_by f xs ≡ sum_by g xs
sum_same P f g h [] each = refl
sum_same P f g h (x ∷ xs) each =
    let a = sum_by-cons f x xs in
    let b = sum_by-cons g x xs in
    let c = h x each.0 in
    let d = sum_same P f g h xs each.1 in
    omega (arith, a, b, c, d)

-- totals do not depend on how many generations are allowed, where they are enough

-- a sent record goes to a deeper unit, with its words
record GoesDeeper (shape : Shape) (d : ℕ) (s : Sent) : Type 0 where
  arrives : Arrives shape s
  deeper : d < depth_at shape s.unit

abbrev AllDeeper : Shape → ℕ → List Sent → Type 0
AllDeeper shape d sent = Each (GoesDeeper shape d) sent

abbrev DeeperIfSome : Shape → ℕ → Option Outcome → Type 0
DeeperIfSome shape d None = ⊤
DeeperIfSome shape d (Some o) = AllDeeper shape d o.sent

both : (shape : Shape) (d : ℕ) (sent : List Sent) → Each (Arrives shape) sent → Each (λ (s : Sent). d < depth_at shape s.unit) sent → AllDeeper shape d sent
both shape d [] a b = tt
both shape d (s ∷ sent) a b = (record { arrives = a.0; deeper = b.0 }, both shape d sent a.1 b.1)

-- launches of a graph send deeper
sends : (shape : Shape) (made : Meaning) → Told shape made → (l : Launch) (m : Buffers) (turns : ℕ) → FitsShape shape l → DeeperIfSome shape (depth_at shape l.unit) (made l m turns)
sends shape made told l m turns fits = go (made l m turns) (told.lawful l m turns fits)
  where
    go : (o : Option Outcome) → IfSome o (KeepsLaws shape l m turns) → DeeperIfSome shape (depth_at shape l.unit) o
    go None laws = tt
    go (Some o) laws = both shape (depth_at shape l.unit) o.sent laws.arrive (sent_deeper shape l m turns o told.good fits laws)

chain : (shape : Shape) (u : ℕ) → IsGoodShape shape → depth_at shape u ≤ 32
chain shape u good = go (slice_get shape.units u) refl
  where
    go : (n : Option Unit) → slice_get shape.units u ≡ n → unwrap_or (option_map (λ (n : Unit). n.depth) n) 0 ≤ 32
    go None e = omega arith
    go (Some n) e = (good.units u n e).chain

-- a record of a unit, with its words
record IsOf (shape : Shape) (u : ℕ) (ws : List ℕ) : Type 0 where
  unit : u < length shape.units
  words : length ws ≡ words_at shape u

-- the group is one of the record's grid
abbrev InGrid : Shape → ℕ → List ℕ → List ℕ → Type 0
InGrid shape u ws at = IsTrue (has_group (groups_of (grid_of (kind_at shape u) ws)) at)

weaker : (g : List ℕ) (gs hs : List (List ℕ)) → Each (λ (at : List ℕ). IsTrue (has_group gs at)) hs → Each (λ (at : List ℕ). IsTrue (has_group (g ∷ gs) at)) hs
weaker g gs [] each = tt
weaker g gs (h ∷ hs) each = (or_right (same_group g h) (has_group gs h) each.0, weaker g gs hs each.1)
  where
    or_right : (a b : Bool) → b ≡ true → (a || b) ≡ true
    or_right true b e = refl
    or_right false b e = e

each_in : (gs : List (List ℕ)) → Each (λ (at : List ℕ). IsTrue (has_group gs at)) gs
each_in [] = tt
each_in (g ∷ gs) = (first (same_group g g) (grind (arith, nat_tests)), weaker g gs gs (each_in gs))
  where
    first : (b : Bool) → b ≡ true → (b || has_group gs g) ≡ true
    first true e = refl
    first false e = absurd (cc)

sent_same : (shape : Shape) (d : ℕ) (t k : ℕ → List ℕ → ℕ) (ss : List Sent) → AllDeeper shape d ss
    → ((v : ℕ) (ws : List ℕ) → IsOf shape v ws → d < depth_at shape v → t v ws ≡ k v ws)
    → sum_by (λ (s : Sent). t s.unit s.words) ss ≡ sum_by (λ (s : Sent). k s.unit s.words) ss
sent_same shape d t k ss h same =
    sum_same (GoesDeeper shape d) (λ (s : Sent). t s.unit s.words) (λ (s : Sent). k s.unit s.words)
    (λ s g. same s.unit s.words (record { unit = g.arrives.unit; words = g.arrives.words }) g.deeper) ss h

added_same : (q : Question) (d : ℕ) (t k : ℕ → List ℕ → ℕ) (o : Option Outcome) → DeeperIfSome q.shape d o
    → ((v : ℕ) (ws : List ℕ) → IsOf q.shape v ws → d < depth_at q.shape v → t v ws ≡ k v ws)
    → added_by q t o ≡ added_by q k o
added_same q d t k None h same = refl
added_same q d t k (Some o) h same = ap (λ (n : ℕ). word_at o.buffers q.buffer q.word + n) (sent_same q.shape d t k o.sent h same)

takes_single : (k : Kind) → is_coalescing k ≡ false → most_inputs k ≡ 1
takes_single Thread e = refl
takes_single (Coalescing most) e = absurd (cc)
takes_single (Grid x y z) e = refl
takes_single (GridField first parts x y z) e = refl

launch_fits : (shape : Shape) (made : Meaning) (u : ℕ) (ws at : List ℕ) → Told shape made → IsOf shape u ws → InGrid shape u ws at → FitsShape shape (group_launch shape u ws (place_of (grid_of (kind_at shape u) ws) at))
launch_fits shape made u ws at told of inside =
    let grid = grid_of (kind_at shape u) ws in
    let place = place_in_grid grid at inside in
    let one = takes_single (kind_at shape u) (told.additive.none_coalesces u) in
    record {
      unit = of.unit;
      some = omega arith;
      few = omega (arith, one);
      words = (of.words, tt);
      grid_some = omega (arith, place);
      grid_few = small_grid (words_at shape u) (kind_at shape u) ws (good_kind shape u told.good);
      group = place;
      grid = grid_kind (kind_at shape u) ws;
    }

groups_same : (q : Question) (t k : ℕ → List ℕ → ℕ) (u : ℕ) (ws : List ℕ) → Told q.shape q.made → IsOf q.shape u ws
    → ((v : ℕ) (vs : List ℕ) → IsOf q.shape v vs → depth_at q.shape u < depth_at q.shape v → t v vs ≡ k v vs)
    → groups_add q t u ws (groups_of (grid_of (kind_at q.shape u) ws)) ≡ groups_add q k u ws (groups_of (grid_of (kind_at q.shape u) ws))
groups_same q t k u ws told of same =
    let grid = grid_of (kind_at q.shape u) ws in
    sum_same (InGrid q.shape u ws) (λ (at : List ℕ). group_adds q t u ws (place_of grid at)) (λ (at : List ℕ). group_adds q k u ws (place_of grid at))
    (λ at inside. added_same q (depth_at q.shape u) t k (q.made (group_launch q.shape u ws (place_of grid at)) (zero_buffers q.lengths) q.turns)
    (sends q.shape q.made told (group_launch q.shape u ws (place_of grid at)) (zero_buffers q.lengths) q.turns (launch_fits q.shape q.made u ws at told of inside)) same)
    (groups_of grid) (each_in (groups_of grid))

within_same : (n k : ℕ) (q : Question) (u : ℕ) (ws : List ℕ) → Told q.shape q.made → IsOf q.shape u ws
    → 33 ≤ n + depth_at q.shape u → 33 ≤ k + depth_at q.shape u → total_within n q u ws ≡ total_within k q u ws
within_same zero k q u ws told of hn hk = let c = chain q.shape u told.good in absurd (omega arith)
within_same (suc n) zero q u ws told of hn hk = let c = chain q.shape u told.good in absurd (omega arith)
within_same (suc n) (suc k) q u ws told of hn hk =
    groups_same q (total_within n q) (total_within k q) u ws told of
    (λ v vs vof d. within_same n k q v vs told vof (omega arith) (omega arith))

-- a total is what all groups add
total_is : (q : Question) (u : ℕ) (ws : List ℕ) → Told q.shape q.made → IsOf q.shape u ws
    → total q u ws ≡ groups_add q (total q) u ws (groups_of (grid_of (kind_at q.shape u) ws))
total_is q u ws told of =
    let c = chain q.shape u told.good in
    let m = 32 - depth_at q.shape u in
    let e : 33 - depth_at q.shape u ≡ suc m = omega arith in
    ap (λ (n : ℕ). total_within n q u ws) e
    ∙ groups_same q (total_within m q) (total q) u ws told of
    (λ v vs vof d. let cv = chain q.shape v told.good in within_same m (33 - depth_at q.shape v) q v vs told vof (omega arith) (omega arith))

-- one launch

-- the launch takes one record, and is the launch of its group but for the number
record TakesOne (shape : Shape) (bag : List Live) (launch : Launch) (at : List ℕ) : Type 0 where
  live : Live
  taken_is : taken (numbers_of launch.records) bag ≡ live ∷ []
  plain_is : unnumbered_launch launch ≡ group_launch shape live.unit live.words (place_of (grid_of (kind_at shape live.unit) live.words) at)
  records_is : launch.records ≡ record_of live ∷ []
  unit_is : live.unit ≡ launch.unit

takes_one : (shape : Shape) (bag : List Live) (launch : Launch) (at : List ℕ) → BagFits shape bag → Allows shape bag launch at → most_inputs (kind_at shape launch.unit) ≡ 1 → shared_at shape launch.unit ≡ false → TakesOne shape bag launch at
takes_one shape bag launch at fits allowed one unshared = choice (taken (numbers_of launch.records) bag) refl
  where
    choice : (T : List Live) → taken (numbers_of launch.records) bag ≡ T → TakesOne shape bag launch at
    choice [] e = let a = ap (λ (rs : List Record). length rs) (allowed.records ∙ ap (map record_of) e) in let b = allowed.some in absurd (omega arith)
    choice (x ∷ y ∷ T) e = let a = ap (λ (rs : List Record). length rs) (allowed.records ∙ ap (map record_of) e) in let b = allowed.few in absurd (omega arith)
    choice (x ∷ []) e =
        let records : launch.records ≡ record_of x ∷ [] = allowed.records ∙ ap (map record_of) e in
        let ready : Each (IsReady launch.unit at) (x ∷ []) = subst (λ (T : List Live). Each (IsReady launch.unit at) T) e allowed.ready in
        let unit : x.unit ≡ launch.unit = ready.0.unit_is in
        let fit : IsFitting shape x = (subst (BagFits shape) e (each_taken (IsFitting shape) (numbers_of launch.records) bag fits)).0 in
        let same : fit.first_words ≡ x.words = fit.stays (ap (shared_at shape) unit ∙ unshared) in
        let grid : launch.grid ≡ grid_of (kind_at shape x.unit) x.words = (subst (Each (λ (r : Live). launch.grid ≡ r.grid)) e allowed.grid).0 ∙ fit.grid ∙ ap (grid_of (kind_at shape x.unit)) same in
        let group : launch.group ≡ place_of (grid_of (kind_at shape x.unit) x.words) at = allowed.group ∙ ap (λ (g : List ℕ). place_of g at) grid in
        record {
          live = x;
          taken_is = e;
          plain_is =
              ap (λ (u : ℕ). let l : Launch = record { unit = u; records = map unnumbered_record launch.records; group = launch.group; grid = launch.grid; last = false } in l) (sym unit)
              ∙ ap (λ (rs : List Record). let l : Launch = record { unit = x.unit; records = map unnumbered_record rs; group = launch.group; grid = launch.grid; last = false } in l) records
              ∙ ap (λ (g : ℕ). let l : Launch = record { unit = x.unit; records = record { number = 0; words = x.words } ∷ []; group = g; grid = launch.grid; last = false } in l) group
              ∙ ap (λ (g : List ℕ). let l : Launch = record { unit = x.unit; records = record { number = 0; words = x.words } ∷ []; group = place_of (grid_of (kind_at shape x.unit) x.words) at; grid = g; last = false } in l) grid;
          records_is = records;
          unit_is = unit;
        }

-- what a launch does, told from what it does on zeros
record Does (before : Buffers) (zero_outcome : Option Outcome) (o : Outcome) : Type 0 where
  on_zeros : Outcome
  is : zero_outcome ≡ Some on_zeros
  adds : OnlyAdds before on_zeros o

does : (before : Buffers) (z : Option Outcome) (o : Outcome) → DoesTheSame before z (Some o) → Does before z o
does before None o h = absurd h
does before (Some z) o h = record { on_zeros = z; is = refl; adds = h }

-- the words of a buffer are as many as its length says
length_at : (m : Buffers) (b : ℕ) → length (buffer_at m b) ≡ slice_index (lengths_of m) b
length_at [] b = refl
length_at (x ∷ m) zero = refl
length_at (x ∷ m) (suc b) = length_at m b

-- what one group of a record counts
count_of : Question → Count
count_of q u ws at = group_adds q (total q) u ws (place_of (grid_of (kind_at q.shape u) ws) at)

count_even : (q : Question) (u : ℕ) (ws : List ℕ) → Even (count_of q u ws)
unfolding count_of
count_even q u ws a b same =
    let grid = grid_of (kind_at q.shape u) ws in
    let e : place_of grid a ≡ place_of grid b = place_even grid a b same in
    ap (λ (place : ℕ). group_adds q (total q) u ws place) e
  where
    place_even : (grid a b : List ℕ) → same_group a b ≡ true → place_of grid a ≡ place_of grid b
    place_even grid a b same = grind (arith, nat_tests)

-- the sum that a run keeps, at a word below 2 ^ 32
record Keeps (q : Question) (start : ℕ) (s : State) : Type 0 where
  fits : StateFits q.shape q.lengths s
  are_words : AreWords s.buffers
  kept_sum : q.word < slice_index q.lengths q.buffer → (word_at s.buffers q.buffer q.word + pending (count_of q) s.bag) % 2 ^ 32 ≡ start

index_past : (xs : List ℕ) (w : ℕ) → length xs ≤ w → slice_index xs w ≡ 0
index_past [] w h = refl
index_past (x ∷ xs) zero h = absurd (omega arith)
index_past (x ∷ xs) (suc w) h = index_past xs w (omega arith)

added_words : (before change after : Buffers) → IsAdded before change after → AreWords after
added_words before change after added b w = choice (cases_lt w (length (buffer_at before b)))
  where
    choice : (w < length (buffer_at before b)) ⊎ (length (buffer_at before b) ≤ w) → word_at after b w < 2 ^ 32
    choice (inl h) = subst (λ (n : ℕ). n < 2 ^ 32) (sym (added.words b w h)) (omega arith)
    choice (inr h) =
        let n : length (buffer_at after b) ≡ length (buffer_at before b) = length_at after b ∙ ap (λ (ns : List ℕ). slice_index ns b) added.lengths ∙ sym (length_at before b) in
        let z = index_past (buffer_at after b) w (omega arith) in
        omega arith

sum_moves : (a d p l r s : ℕ) → p ≡ d + r + l → (a + p) % 2 ^ 32 ≡ s → ((a + d) % 2 ^ 32 + (l + r)) % 2 ^ 32 ≡ s
sum_moves a d p l r s e h = omega arith

total_sent : (q : Question) (d : ℕ) (ss : List Sent) → Told q.shape q.made → AllDeeper q.shape d ss
    → sum_by (λ (s : Sent). total q s.unit s.words) ss ≡ sum_by (λ (s : Sent). sum_by (count_of q s.unit s.words) (groups_of (grid_of (kind_at q.shape s.unit) s.words))) ss
unfolding count_of
total_sent q d ss told arrive =
    sent_same q.shape d (total q) (λ (u : ℕ) (ws : List ℕ). groups_add q (total q) u ws (groups_of (grid_of (kind_at q.shape u) ws))) ss arrive
    (λ v ws of deep. total_is q v ws told of)

not_last : (shared rest last : Bool) → last ≡ (shared && rest) → shared ≡ false → last ≡ false
not_last true rest last e f = absurd (cc)
not_last false rest last e f = e

-- a step keeps the sum
keeps_step : (q : Question) (sum : ℕ) (s : State) (e : Entry) (p : Passed) → Told q.shape q.made → Keeps q sum s → Step q.shape q.made q.turns s e p → Keeps q sum p.after
unfolding count_of
keeps_step q sum s e p told keeps step =
    let shape = q.shape in
    let nums = numbers_of p.launch.records in
    let unshared = told.additive.none_shared p.launch.unit in
    let one = takes_one shape s.bag p.launch e.at keeps.fits.bag step.allowed (takes_single (kind_at shape p.launch.unit) (told.additive.none_coalesces p.launch.unit)) unshared in
    let live = one.live in
    let fits = allowed_fits shape s.bag p.launch e.at told.good keeps.fits.bag step.allowed in
    let place = place_of (grid_of (kind_at shape live.unit) live.words) e.at in
    let same : DoesTheSame s.buffers (q.made (group_launch shape live.unit live.words place) (zero_buffers q.lengths) q.turns) (Some p.outcome) =
    subst (λ (o : Option Outcome). DoesTheSame s.buffers (q.made (group_launch shape live.unit live.words place) (zero_buffers q.lengths) q.turns) o) step.runs
    (subst (λ (ns : List ℕ). DoesTheSame s.buffers (q.made (group_launch shape live.unit live.words place) (zero_buffers ns) q.turns) (q.made p.launch s.buffers q.turns)) keeps.fits.buffers
    (subst (λ (l : Launch). DoesTheSame s.buffers (q.made l (zero_buffers (lengths_of s.buffers)) q.turns) (q.made p.launch s.buffers q.turns)) one.plain_is
    (told.additive.adds p.launch s.buffers q.turns fits (not_last (shared_at shape p.launch.unit) _ p.launch.last step.allowed.last unshared) keeps.are_words))) in
    let d = does s.buffers (q.made (group_launch shape live.unit live.words place) (zero_buffers q.lengths) q.turns) p.outcome same in
    let deep : AllDeeper shape (depth_at shape p.launch.unit) p.outcome.sent =
    subst (λ (o : Option Outcome). DeeperIfSome shape (depth_at shape p.launch.unit) o) step.runs (sends shape q.made told p.launch s.buffers q.turns fits) in
    let adds = d.adds in
    let range : q.word < slice_index q.lengths q.buffer → q.word < length (buffer_at s.buffers q.buffer) = λ within.
    subst (λ (n : ℕ). q.word < n) (sym (length_at s.buffers q.buffer ∙ ap (λ (ns : List ℕ). slice_index ns q.buffer) keeps.fits.buffers)) within in
    let group : count_of q live.unit live.words e.at ≡ word_at d.on_zeros.buffers q.buffer q.word + sum_by (λ (t : Sent). total q t.unit t.words) p.outcome.sent =
    ap (added_by q (total q)) d.is ∙ ap (λ (ss : List Sent). word_at d.on_zeros.buffers q.buffer q.word + sum_by (λ (t : Sent). total q t.unit t.words) ss) (sym adds.sent) in
    let laws = subst (λ (o : Option Outcome). IfSome o (KeepsLaws shape p.launch s.buffers q.turns)) step.runs (told.lawful p.launch s.buffers q.turns fits) in
    let none = none_new (words_at shape p.launch.unit) (shared_at shape p.launch.unit) p.outcome.shared unshared laws.shared in
    let before = pending_left (count_of q) e.at p.launch.unit nums p.outcome.shared s.bag none (count_even q) step.allowed.ready in
    let runs : running (count_of q) e.at (taken nums s.bag) ≡ count_of q live.unit live.words e.at + 0 = ap (running (count_of q) e.at) one.taken_is in
    let after = pending_append (count_of q) (left_after nums e.at p.outcome.shared s.bag) (flat_map kept (born shape s.next p.outcome.sent)) in
    let new = pending_kept (count_of q) (born shape s.next p.outcome.sent) in
    let new' = pending_born (count_of q) shape s.next p.outcome.sent in
    let sent = total_sent q (depth_at shape p.launch.unit) p.outcome.sent told deep in
    let stays = step_keeps shape q.made q.turns q.lengths s e p told.good told.lawful keeps.fits step in
    subst (Keeps q sum) (sym step.becomes) (record {
      fits = subst (StateFits shape q.lengths) step.becomes stays;
      are_words = added_words s.buffers d.on_zeros.buffers p.outcome.buffers adds.buffers;
      kept_sum = λ within.
          subst (λ (n : ℕ). (n + pending (count_of q) (left_after nums e.at p.outcome.shared s.bag ++ flat_map kept (born shape s.next p.outcome.sent))) % 2 ^ 32 ≡ sum) (sym (adds.buffers.words q.buffer q.word (range within)))
          (subst (λ (n : ℕ). ((word_at s.buffers q.buffer q.word + word_at d.on_zeros.buffers q.buffer q.word) % 2 ^ 32 + n) % 2 ^ 32 ≡ sum) (sym (after ∙ ap (λ (n : ℕ). pending (count_of q) (left_after nums e.at p.outcome.shared s.bag) + n) (new ∙ new' ∙ sym sent)))
          (sum_moves (word_at s.buffers q.buffer q.word) (word_at d.on_zeros.buffers q.buffer q.word) (pending (count_of q) s.bag) (pending (count_of q) (left_after nums e.at p.outcome.shared s.bag)) (sum_by (λ (t : Sent). total q t.unit t.words) p.outcome.sent) sum
          (before ∙ ap (λ (n : ℕ). n + pending (count_of q) (left_after nums e.at p.outcome.shared s.bag)) (runs ∙ ap (λ (n : ℕ). n + 0) group ∙ (let k : (a b : ℕ) → a + b + 0 ≡ a + b = λ a b. (omega arith) in k _ _)))
          (keeps.kept_sum within)));
    })

keeps_run : (q : Question) (sum : ℕ) (s : State) (entries : List Entry) (trail : List Passed) (final : State) → Told q.shape q.made → IsRun q.shape q.made q.turns s entries trail final → Keeps q sum s → Keeps q sum final
keeps_run q sum s [] [] final told run keeps = subst (λ (u : State). Keeps q sum u) (sym run) keeps
keeps_run q sum s [] (p ∷ trail) final told run keeps = absurd run
keeps_run q sum s (e ∷ entries) [] final told run keeps = absurd run
keeps_run q sum s (e ∷ entries) (p ∷ trail) final told run keeps =
    keeps_run q sum p.after entries trail final told run.1 (keeps_step q sum s e p told keeps run.0)

-- the totals of the entry records are what is to run at the start
total_entries : (q : Question) (n : ℕ) (script : List Sent) → Told q.shape q.made → Each (Arrives q.shape) script → total_of_entries q script ≡ pending (count_of q) (born q.shape n script)
unfolding count_of
total_entries q n [] told arrive = refl
total_entries q n (e ∷ script) told arrive =
    let a = sum_by-cons (λ (e : Sent). total q e.unit e.words) e script in
    let b = total_is q e.unit e.words told (record { unit = arrive.0.unit; words = arrive.0.words }) in
    let c = total_entries q (n + 1) script told arrive.1 in
    a ∙ (ap (λ (k : ℕ). k + total_of_entries q script) b ∙ ap (λ (k : ℕ). groups_add q (total q) e.unit e.words (groups_of (grid_of (kind_at q.shape e.unit) e.words)) + k) c)

pub ends : (shape : Shape) (made : Meaning) (turns : ℕ) (script : List Sent) (buffers : Buffers) (entries : List Entry) (trail : List Passed) (final : State) → IsGoodShape shape → IsLawful shape made → IsAdditive shape made → Each (Arrives shape) script → AreWords buffers
    → IsRun shape made turns (start shape script buffers) entries trail final → IsComplete final → EndsWithTotals shape made turns script buffers final.buffers
ends shape made turns script buffers entries trail final good lawful additive arrive words run empty =
    let told : Told shape made = record { good = good; lawful = lawful; additive = additive } in
    let born' = born shape 0 script in
    let fits : StateFits shape (lengths_of buffers) (start shape script buffers) = record { bag = born_fits shape 0 script arrive; buffers = refl } in
    let asked : ℕ → ℕ → Question = λ b w. record { shape = shape; made = made; turns = turns; lengths = lengths_of buffers; buffer = b; word = w } in
    let last : (b w : ℕ) → Keeps (asked b w) ((word_at buffers b w + pending (count_of (asked b w)) (flat_map kept born')) % 2 ^ 32) final =
    λ b w. keeps_run (asked b w) _ (start shape script buffers) entries trail final told run (record { fits = fits; are_words = words; kept_sum = λ h. refl }) in
    let first = last 0 0 in
    record {
      lengths = first.fits.buffers;
      words = λ b w within.
          (let q = asked b w in
          let within' : w < slice_index (lengths_of buffers) b = subst (λ (n : ℕ). w < n) (length_at buffers b) within in
          let kept_now = last b w in
          let none : pending (count_of q) final.bag ≡ 0 = ap (pending (count_of q)) empty in
          let small : word_at final.buffers b w < 2 ^ 32 = kept_now.are_words b w in
          let sum : (word_at final.buffers b w + pending (count_of q) final.bag) % 2 ^ 32 ≡ (word_at buffers b w + pending (count_of q) (flat_map kept born')) % 2 ^ 32 = kept_now.kept_sum within' in
          let totals : total_of_entries q script ≡ pending (count_of q) (flat_map kept born') = total_entries q 0 script told arrive ∙ sym (pending_kept (count_of q) born') in
          let m : (x n p r : ℕ) → n ≡ 0 → x < 2 ^ 32 → (x + n) % 2 ^ 32 ≡ (r + p) % 2 ^ 32 → x ≡ (r + p) % 2 ^ 32 = λ x n p r e l h. (omega arith) in
          m _ _ _ _ none small sum ∙ ap (λ (n : ℕ). (word_at buffers b w + n) % 2 ^ 32) (sym totals));
    }

words_equal : (a b : List ℕ) → length a ≡ length b → ((w : ℕ) → w < length a → slice_index a w ≡ slice_index b w) → a ≡ b
words_equal [] [] l h = refl
words_equal [] (y ∷ b) l h = absurd (omega (arith, l))
words_equal (x ∷ a) [] l h = absurd (omega (arith, l))
words_equal (x ∷ a) (y ∷ b) l h =
    let e : x ≡ y = h 0 (omega arith) in
    let r = words_equal a b (omega arith) (λ w k. h (suc w) (omega arith)) in
    cc

buffers_equal : (a b : Buffers) → lengths_of a ≡ lengths_of b → ((k w : ℕ) → w < length (buffer_at a k) → word_at a k w ≡ word_at b k w) → a ≡ b
buffers_equal [] [] l h = refl
buffers_equal [] (y ∷ b) l h = absurd (cc)
buffers_equal (x ∷ a) [] l h = absurd (cc)
buffers_equal (x ∷ a) (y ∷ b) l h =
    let n : length x ≡ length y = cc in
    let m : lengths_of a ≡ lengths_of b = cc in
    let e = words_equal x y n (λ w k. h 0 w k) in
    let r = buffers_equal a b m (λ k w j. h (suc k) w j) in
    cc

pub same_end : (shape : Shape) (made : Meaning) (turns : ℕ) (script : List Sent) (buffers : Buffers) (entries others : List Entry) (trail trail' : List Passed) (final final' : State) → IsGoodShape shape → IsLawful shape made → IsAdditive shape made → Each (Arrives shape) script
    → AreWords buffers
    → IsRun shape made turns (start shape script buffers) entries trail final → IsComplete final → IsRun shape made turns (start shape script buffers) others trail' final' → IsComplete final' → final.buffers ≡ final'.buffers
same_end shape made turns script buffers entries others trail trail' final final' good lawful additive arrive words run empty other bare =
    let a = ends shape made turns script buffers entries trail final good lawful additive arrive words run empty in
    let c = ends shape made turns script buffers others trail' final' good lawful additive arrive words other bare in
    buffers_equal final.buffers final'.buffers (a.lengths ∙ sym c.lengths)
    (λ b w within.
    (let within' : w < length (buffer_at buffers b) = subst (λ (n : ℕ). w < n) (length_at final.buffers b ∙ ap (λ (ns : List ℕ). slice_index ns b) a.lengths ∙ sym (length_at buffers b)) within in
    a.words b w within' ∙ sym (c.words b w within')))
