-- What is sent from the grants of a lawful world: where it goes, through which budget, and how much.
use Rattle.std.proofs.Common.{◌≡◌, ℕ, zero, suc, ◌+◌, ◌-◌, ◌*◌, ◌<◌, ◌≤◌, Bool, true, false, cond, List, [], ◌∷◌, ◌++◌, length, map, Option, Some, None, refl, sym, ap, ◌∙◌, subst, arith, Contains}
use Rattle.std.specs.Prelude.{◌==◌, ◌&&◌, if◌then◌else◌, nat_le, slice_get, replicate, count_by, unwrap_or}
use Rattle.std.specs.Option.{option_map}
use Rattle.std.proofs.lemmas.Bool.Decides.{nat_tests, Decides-eqb}
use Rattle.std.proofs.lemmas.List.{length-append}
use Rattle.std.proofs.lemmas.List.Sums.{sum_by-append, sum_by-cons}
use Rattle.std.proofs.lemmas.List.Folds.{sum_by-replicate}
use Rattle.wg_words.specs.Each.{Each}
use Rattle.wg_machine.specs.declared.launch.Sent.{Sent}
use Rattle.wg_machine.specs.declared.shape.Output.{Output}
use Rattle.wg_machine.specs.declared.shape.Shape.{Shape}
use Rattle.wg_machine.specs.declared.shape.Unit.{Unit as Node}
use Rattle.wg_machine.specs.GoodShape.{IsGoodElement, IsGoodOutput, IsGoodTarget}
use Rattle.wg_machine.specs.LaunchMeaning.{Arrives, GoesThrough, AllGoThrough}
use Rattle.wg_machine.specs.Units.{words_at}
use Rattle.wg_state.specs.Requests.{budget_of, record_words}
use Rattle.wg_state.specs.Sending.{is_of, sent_if, sent_to, sent_from, sent_through}
use Rattle.wg_state.specs.declared.world.Grant.{Grant}
use Rattle.wg_worlds.specs.Lawful.{counted_on, granted_on, HasOutputWords}
use Rattle.wg_worlds.specs.Lists.{each_append}

there : (units : List Node) (t : ℕ) (n : Node) → slice_get units t ≡ Some n → t < length units
there [] t n e = absurd (cc)
there (u ∷ units) zero n e = omega arith
there (u ∷ units) (suc t) n e = let h = there units t n e in omega arith

both_left : (a b : Bool) → (a && b) ≡ true → a ≡ true
both_left true b e = refl
both_left false b e = e

-- ---- the words of what is sent

module _ (shape : Shape) (unit : Node) where
  -- a record of an output with so many words, sent to a unit that takes as many
  arrives_by : (t n : ℕ) → t < length shape.units → words_at shape t ≡ n → (items : List (List ℕ)) → Each (λ (words : List ℕ). length words ≡ n) items
      → Each (Arrives shape) (map (λ words. record { unit = t; words = words }) items)
  arrives_by t n inside takes [] f = tt
  arrives_by t n inside takes (x ∷ items) f = (record { unit = inside; words = f.0 ∙ sym takes }, arrives_by t n inside takes items f.1)

  module _ (at : ℕ) (o : Output) (here : slice_get unit.outputs at ≡ Some o) where
    module _ (element t : ℕ) (good : IsGoodTarget shape unit o t) where
      takes : words_at shape t ≡ o.words
      takes = ap (λ (n : Option Node). unwrap_or (option_map (λ (n : Node). n.words) n) 0) good.there ∙ good.words

      one_arrives : (g : Grant) (mine : Bool) → is_of at element g ≡ mine → HasOutputWords unit.outputs g → Each (Arrives shape) (sent_if mine t g)
      one_arrives g false e h = tt
      one_arrives g true e h =
          let same : g.output ≡ at = (Decides-eqb g.output at).0 (both_left (g.output == at) (g.element == element) e) in
          let words = ap (λ (k : ℕ). record_words (slice_get unit.outputs k)) same ∙ ap record_words here in
          arrives_by t o.words (there shape.units t good.target good.there) takes g.items (subst (λ n. Each (λ (words : List ℕ). length words ≡ n) g.items) words h)

      to_arrives : (grants : List Grant) → Each (HasOutputWords unit.outputs) grants → Each (Arrives shape) (sent_to at element t grants)
      to_arrives [] h = tt
      to_arrives (g ∷ grants) h = each_append (Arrives shape) _ _ (one_arrives g (is_of at element g) refl h.0) (to_arrives grants h.1)

    from_arrives : (element : ℕ) (targets : List (Option ℕ)) (grants : List Grant) → Each (IsGoodElement shape unit o) targets → Each (HasOutputWords unit.outputs) grants
        → Each (Arrives shape) (sent_from at element targets grants)
    from_arrives element [] grants good h = tt
    from_arrives element (None ∷ targets) grants good h = from_arrives (suc element) targets grants good.1 h
    from_arrives element (Some t ∷ targets) grants good h =
        each_append (Arrives shape) _ _ (to_arrives element t good.0 grants h) (from_arrives (suc element) targets grants good.1 h)

  -- outputs from a number on
  abbrev pub From : ℕ → List Output → Type 0
  From at outputs = (i : ℕ) → slice_get outputs i ≡ slice_get unit.outputs (at + i)

  from_head : (at : ℕ) (o : Output) (rest : List Output) → From at (o ∷ rest) → slice_get unit.outputs at ≡ Some o
  from_head at o rest f = let z : at + 0 ≡ at = omega arith in sym (ap (λ k. slice_get unit.outputs k) z) ∙ sym (f 0)

  from_tail : (at : ℕ) (o : Output) (rest : List Output) → From at (o ∷ rest) → From (suc at) rest
  from_tail at o rest f = λ i. (let z : at + suc i ≡ suc at + i = omega arith in f (suc i) ∙ ap (λ k. slice_get unit.outputs k) z)

  through_arrives : (at : ℕ) (outputs : List Output) (grants : List Grant) → From at outputs → Each (IsGoodOutput shape unit) outputs → Each (HasOutputWords unit.outputs) grants
      → Each (Arrives shape) (sent_through at outputs grants)
  through_arrives at [] grants f good h = tt
  through_arrives at (o ∷ rest) grants f good h =
      each_append (Arrives shape) _ _
      (from_arrives at o (from_head at o rest f) 0 o.elements grants good.0.elements h)
      (through_arrives (suc at) rest grants (from_tail at o rest f) good.1 h)

  pub all_arrive : (grants : List Grant) → Each (IsGoodOutput shape unit) unit.outputs → Each (HasOutputWords unit.outputs) grants
      → Each (Arrives shape) (sent_through 0 unit.outputs grants)
  all_arrive grants good h = through_arrives 0 unit.outputs grants (λ i. (let z : 0 + i ≡ i = omega arith in sym (ap (λ k. slice_get unit.outputs k) z))) good h

-- ---- the budgets of what is sent

-- the budget of each sent record
abbrev pub budgets_from : ℕ → List Output → List Grant → List ℕ
budgets_from at [] grants = []
budgets_from at (o ∷ rest) grants = replicate (length (sent_from at 0 o.elements grants)) o.budget ++ budgets_from (suc at) rest grants

contains_later : {A : Type 0} (x y : A) (xs : List A) → Contains xs x → Contains (y ∷ xs) x
contains_later x y xs c = (suc c.0, omega (arith, c.1), c.2)

contains_first : {A : Type 0} (x : A) (xs : List A) → Contains (x ∷ xs) x
contains_first x xs = (0, omega arith, refl)

module _ (unit : Node) where
  through_append : (bs cs : List ℕ) (xs ys : List Sent) → AllGoThrough unit bs xs → AllGoThrough unit cs ys → AllGoThrough unit (bs ++ cs) (xs ++ ys)
  through_append [] cs [] ys f g = g
  through_append [] cs (x ∷ xs) ys f g = absurd f
  through_append (b ∷ bs) cs [] ys f g = absurd f
  through_append (b ∷ bs) cs (x ∷ xs) ys f g = (f.0, through_append bs cs xs ys f.1 g)

  all_through : (b : ℕ) (xs : List Sent) → Each (GoesThrough unit b) xs → AllGoThrough unit (replicate (length xs) b) xs
  all_through b [] f = tt
  all_through b (x ∷ xs) f = (f.0, all_through b xs f.1)

  module _ (o : Output) (has : Contains unit.outputs o) where
    goes_by : (t : ℕ) → Contains o.elements (Some t) → (items : List (List ℕ)) → Each (GoesThrough unit o.budget) (map (λ words. record { unit = t; words = words }) items)
    goes_by t c [] = tt
    goes_by t c (x ∷ items) = (record { output = o; has_output = has; on_budget = refl; targets = c }, goes_by t c items)

    goes_if : (t : ℕ) → Contains o.elements (Some t) → (mine : Bool) (g : Grant) → Each (GoesThrough unit o.budget) (sent_if mine t g)
    goes_if t c true g = goes_by t c g.items
    goes_if t c false g = tt

    goes_to : (at element t : ℕ) → Contains o.elements (Some t) → (grants : List Grant) → Each (GoesThrough unit o.budget) (sent_to at element t grants)
    goes_to at element t c [] = tt
    goes_to at element t c (g ∷ grants) = each_append (GoesThrough unit o.budget) _ _ (goes_if t c (is_of at element g) g) (goes_to at element t c grants)

    goes_from : (at element : ℕ) (targets : List (Option ℕ)) (grants : List Grant) → ((t : Option ℕ) → Contains targets t → Contains o.elements t)
        → Each (GoesThrough unit o.budget) (sent_from at element targets grants)
    goes_from at element [] grants inside = tt
    goes_from at element (None ∷ targets) grants inside = goes_from at (suc element) targets grants (λ t c. inside t (contains_later t None targets c))
    goes_from at element (Some t ∷ targets) grants inside =
        each_append (GoesThrough unit o.budget) _ _ (goes_to at element t (inside (Some t) (contains_first (Some t) targets)) grants)
        (goes_from at (suc element) targets grants (λ s c. inside s (contains_later s (Some t) targets c)))

  goes_through : (at : ℕ) (outputs : List Output) (grants : List Grant) → ((o : Output) → Contains outputs o → Contains unit.outputs o)
      → AllGoThrough unit (budgets_from at outputs grants) (sent_through at outputs grants)
  goes_through at [] grants inside = tt
  goes_through at (o ∷ rest) grants inside =
      through_append _ _ _ _
      (all_through o.budget (sent_from at 0 o.elements grants) (goes_from o (inside o (contains_first o rest)) at 0 o.elements grants (λ t c. c)))
      (goes_through (suc at) rest grants (λ p c. inside p (contains_later p o rest c)))

  pub all_go : (grants : List Grant) → AllGoThrough unit (budgets_from 0 unit.outputs grants) (sent_through 0 unit.outputs grants)
  all_go grants = goes_through 0 unit.outputs grants (λ o c. c)

-- ---- how much is sent through a budget

abbrev many : ℕ → ℕ → List (Option ℕ) → List Grant → ℕ
many at element targets grants = length (sent_from at element targets grants)

length-sent_if : (mine : Bool) (t : ℕ) (g : Grant) → length (sent_if mine t g) ≡ cond mine (length g.items) 0
length-sent_if true t g = all g.items
  where
    all : (items : List (List ℕ)) → length (map (λ (words : List ℕ). let s : Sent = record { unit = t; words = words } in s) items) ≡ length items
    all [] = refl
    all (x ∷ items) = ap suc (all items)
length-sent_if false t g = refl

-- what one more grant adds to an output's records from an element on
more_from : (at element : ℕ) (targets : List (Option ℕ)) (g : Grant) (grants : List Grant)
    → many at element targets (g ∷ grants) ≤ many at element targets grants + cond ((g.output == at) && nat_le element g.element) (length g.items) 0
more_from at element [] g grants = omega arith
more_from at element (None ∷ targets) g grants =
    let ih = more_from at (suc element) targets g grants in
    let less = cases (g.output == at) (nat_le (suc element) g.element) (nat_le element g.element) (λ e. grind (arith, nat_tests)) in
    omega (arith, ih, less)
  where
    cases : (here later now : Bool) → (later ≡ true → now ≡ true) → cond (here && later) (length g.items) 0 ≤ cond (here && now) (length g.items) 0
    cases false later now h = omega arith
    cases true false now h = omega arith
    cases true true true h = omega arith
    cases true true false h = absurd (let e = h refl in cc)
more_from at element (Some t ∷ targets) g grants =
    let ih = more_from at (suc element) targets g grants in
    let a = length-append (sent_to at element t (g ∷ grants)) (sent_from at (suc element) targets (g ∷ grants)) in
    let b = length-append (sent_to at element t grants) (sent_from at (suc element) targets grants) in
    let c = length-append (sent_if (is_of at element g) t g) (sent_to at element t grants) in
    let d = length-sent_if (is_of at element g) t g in
    let less = cases (g.output == at) (g.element == element) (nat_le (suc element) g.element) (nat_le element g.element) (λ e. grind (arith, nat_tests)) (λ e. grind (arith, nat_tests)) (λ e. grind (arith, nat_tests)) in
    omega (arith, ih, a, b, c, d, less)
  where
    cases : (here equal later now : Bool) → (later ≡ true → now ≡ true) → (equal ≡ true → now ≡ true) → (equal ≡ true → later ≡ false)
        → cond (here && equal) (length g.items) 0 + cond (here && later) (length g.items) 0 ≤ cond (here && now) (length g.items) 0
    cases false equal later now h k l = omega arith
    cases true false false now h k l = omega arith
    cases true false true true h k l = omega arith
    cases true false true false h k l = absurd (let e = h refl in cc)
    cases true true true now h k l = absurd (let e = l refl in cc)
    cases true true false true h k l = omega arith
    cases true true false false h k l = absurd (let e = k refl in cc)

module _ (b : ℕ) where
  abbrev through : ℕ → List Output → List Grant → ℕ
  through at outputs grants = count_by (λ c. c == b) (budgets_from at outputs grants)

  through_cons : (at : ℕ) (o : Output) (rest : List Output) (grants : List Grant)
      → through at (o ∷ rest) grants ≡ many at 0 o.elements grants * cond (o.budget == b) 1 0 + through (suc at) rest grants
  through_cons at o rest grants =
      sum_by-append (λ c. cond (c == b) 1 0) (replicate (many at 0 o.elements grants) o.budget) (budgets_from (suc at) rest grants)
      ∙ ap (λ n. n + through (suc at) rest grants) (sum_by-replicate (λ c. cond (c == b) 1 0) (many at 0 o.elements grants) o.budget)

  abbrev value : Grant → Option Output → ℕ
  value g o = if budget_of o == b then length g.items else 0

  more_through : (at : ℕ) (outputs : List Output) (g : Grant) (grants : List Grant)
      → through at outputs (g ∷ grants) ≤ through at outputs grants + cond (nat_le at g.output) (value g (slice_get outputs (g.output - at))) 0
  more_through at [] g grants = omega arith
  more_through at (o ∷ rest) g grants =
      let ih = more_through (suc at) rest g grants in
      let a = through_cons at o rest (g ∷ grants) in
      let c = through_cons at o rest grants in
      let m = more_from at 0 o.elements g grants in
      let first = paid (o.budget == b) (g.output == at) (nat_le 0 g.element) (many at 0 o.elements (g ∷ grants)) (many at 0 o.elements grants) m in
      let all = places (g.output == at) refl in
      omega (arith, ih, a, c, first, all)
    where
      -- on this budget the output's records count, on another none does
      paid : (on here now : Bool) (x y : ℕ) → x ≤ y + cond (here && now) (length g.items) 0 → x * cond on 1 0 ≤ y * cond on 1 0 + cond here (if on then length g.items else 0) 0
      paid true true true x y h = omega (arith, h)
      paid true true false x y h = omega (arith, h)
      paid true false now x y h = omega (arith, h)
      paid false true now x y h = omega arith
      paid false false now x y h = omega arith

      places : (here : Bool) → (g.output == at) ≡ here
          → cond here (if o.budget == b then length g.items else 0) 0 + cond (nat_le (suc at) g.output) (value g (slice_get rest (g.output - suc at))) 0
          ≤ cond (nat_le at g.output) (value g (slice_get (o ∷ rest) (g.output - at))) 0
      places true e =
          let same : g.output ≡ at = (Decides-eqb g.output at).0 e in
          let none : g.output - at ≡ 0 = omega (arith, same) in
          let past : nat_le (suc at) g.output ≡ false = grind (arith, nat_tests) in
          let now : nat_le at g.output ≡ true = grind (arith, nat_tests) in
          rw (none, past, now) (omega arith)
      places false e = later (nat_le (suc at) g.output) (nat_le at g.output) refl refl
        where
          later : (l n : Bool) → nat_le (suc at) g.output ≡ l → nat_le at g.output ≡ n
              → 0 + cond l (value g (slice_get rest (g.output - suc at))) 0 ≤ cond n (value g (slice_get (o ∷ rest) (g.output - at))) 0
          later false n p q = omega arith
          later true true p q =
              let next : g.output - at ≡ suc (g.output - suc at) = grind (arith, nat_tests) in
              rw next (omega arith)
          later true false p q = absurd (let z : nat_le at g.output ≡ true = grind (arith, nat_tests) in cc)

  none_from : (at element : ℕ) (targets : List (Option ℕ)) → sent_from at element targets [] ≡ []
  none_from at element [] = refl
  none_from at element (None ∷ targets) = none_from at (suc element) targets
  none_from at element (Some t ∷ targets) = none_from at (suc element) targets

  none_through : (at : ℕ) (outputs : List Output) → budgets_from at outputs [] ≡ []
  none_through at [] = refl
  none_through at (o ∷ rest) = ap (λ l. replicate (length l) o.budget ++ budgets_from (suc at) rest []) (none_from at 0 o.elements) ∙ none_through (suc at) rest

  -- no more is sent through a budget than was granted on it
  pub sent_within : (outputs : List Output) (grants : List Grant) → count_by (λ c. c == b) (budgets_from 0 outputs grants) ≤ granted_on outputs b grants
  sent_within outputs [] = let e = ap (λ l. count_by (λ c. c == b) l) (none_through 0 outputs) in omega (arith, e)
  sent_within outputs (g ∷ grants) =
      let ih = sent_within outputs grants in
      let m = more_through 0 outputs g grants in
      let whole : g.output - 0 ≡ g.output = omega arith in
      let now : nat_le 0 g.output ≡ true = grind (arith, nat_tests) in
      let v = ap (λ k. cond (nat_le 0 g.output) (value g (slice_get outputs k)) 0) whole ∙ ap (λ t. cond t (value g (slice_get outputs g.output)) 0) now in
      let s = sum_by-cons (counted_on outputs b) g grants in
      omega (arith, ih, m, v, s)
