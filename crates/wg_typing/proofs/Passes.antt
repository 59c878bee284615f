-- One pass over a function's events says what the rules say of them.
use Rattle.std.proofs.Common.{◌≡◌, ℕ, zero, suc, Bool, true, false, cond, List, [], ◌∷◌, refl, sym, ap, ◌∙◌, subst, arith}
use Rattle.std.specs.Prelude.{◌+◌, ◌<◌, ◌≤◌, ◌==◌, ◌||◌, max, nat_lt}
use Rattle.std.proofs.lemmas.Grind.{common_steps}
use Rattle.wg_typing.specs.Passes.{number_at, put, counted_with, counts_after, uncompleted_by, Lasts, no_lasts, last_with, lasts_after, lasts_of, early_returns, open_returns}
use Rattle.wg_typing.specs.RulesBadOutputCall.{any_collective, any_finish, is_finish_call, completions, any_completed, returns_of_many, returns_of_one}
use Rattle.wg_typing.specs.RulesNotCompleted.{uncompleted}
use Rattle.wg_typing.specs.declared.event.Event.{Event}
use Rattle.wg_typing.specs.declared.event.Event.TheVariants as event

-- ---- numbers by handle

same_test : (h g : ℕ) → (h == g) ≡ (suc h == suc g)
same_test h g = grind (arith, common_steps)

number_put : (g h n : ℕ) (xs : List ℕ) → number_at g (put h n xs) ≡ cond (h == g) n (number_at g xs)
number_put zero zero n [] = refl
number_put zero zero n (x ∷ xs) = refl
number_put zero (suc h) n [] = grind (arith, common_steps)
number_put zero (suc h) n (x ∷ xs) = grind (arith, common_steps)
number_put (suc g) zero n [] = grind (arith, common_steps)
number_put (suc g) zero n (x ∷ xs) = grind (arith, common_steps)
number_put (suc g) (suc h) n [] = number_put g h n [] ∙ ap (λ b. cond b n 0) (same_test h g)
number_put (suc g) (suc h) n (x ∷ xs) = number_put g h n xs ∙ ap (λ b. cond b n (number_at g xs)) (same_test h g)

-- ---- completions

count_with : (handle : ℕ) (counts : List ℕ) (e : Event) (rest : List Event) → number_at handle (counted_with counts e) + completions handle rest ≡ number_at handle counts + completions handle (e ∷ rest)
count_with handle counts (event.Declares name words) rest = refl
count_with handle counts (event.Requested name other) rest = refl
count_with handle counts (event.Completed other) rest = by_test (other == handle) refl
  where
    same : (other == handle) ≡ true → other ≡ handle
    same e = grind (arith, common_steps, e)

    by_test : (b : Bool) → (other == handle) ≡ b → number_at handle (put other (suc (number_at other counts)) counts) + completions handle rest ≡ number_at handle counts + cond (other == handle) (suc (completions handle rest)) (completions handle rest)
    by_test true e = rw (number_put handle other (suc (number_at other counts)) counts) (rw e (rw (same e) (omega arith)))
    by_test false e = rw (number_put handle other (suc (number_at other counts)) counts) (rw e refl)
count_with handle counts (event.Collective call path) rest = refl
count_with handle counts (event.Returns place) rest = refl
count_with handle counts (event.Calls chain) rest = refl
count_with handle counts (event.Changes variable) rest = refl

counted_all : (handle : ℕ) (counts : List ℕ) (events : List Event) → number_at handle (counts_after counts events) ≡ number_at handle counts + completions handle events
counted_all handle counts [] = omega arith
counted_all handle counts (e ∷ rest) = counted_all handle (counted_with counts e) rest ∙ count_with handle counts e rest

pub counts_are_completions : (handle : ℕ) (events : List Event) → number_at handle (counts_after [] events) ≡ completions handle events
counts_are_completions handle events = counted_all handle [] events ∙ none_before (completions handle events)
  where
    none_before : (n : ℕ) → 0 + n ≡ n
    none_before n = omega arith

pub uncompleted_is : (all events : List Event) → uncompleted_by (counts_after [] all) events ≡ uncompleted all events
uncompleted_is all [] = refl
uncompleted_is all (event.Declares name words ∷ rest) = uncompleted_is all rest
uncompleted_is all (event.Requested name handle ∷ rest) = rw (counts_are_completions handle all) (rw (uncompleted_is all rest) refl)
uncompleted_is all (event.Completed handle ∷ rest) = uncompleted_is all rest
uncompleted_is all (event.Collective call path ∷ rest) = uncompleted_is all rest
uncompleted_is all (event.Returns place ∷ rest) = uncompleted_is all rest
uncompleted_is all (event.Calls chain ∷ rest) = uncompleted_is all rest
uncompleted_is all (event.Changes variable ∷ rest) = uncompleted_is all rest

-- ---- the last of some events

-- a number that stands after so many events, where some follow, and else one from before
abbrev LastIs : Bool → ℕ → ℕ → ℕ → Type 0
LastIs true at before last = at < last
LastIs false at before last = last ≡ before

-- one event more in front, which is none of them
skipped : (b : Bool) (at before last : ℕ) → LastIs b (suc at) before last → LastIs b at before last
skipped true at before last h = omega (arith, h)
skipped false at before last h = h

-- or is one of them
taken : (b : Bool) (at before last : ℕ) → LastIs b (suc at) (suc at) last → LastIs true at before last
taken true at before last h = omega (arith, h)
taken false at before last h = omega (arith, h)

last_test : (b : Bool) (at before last : ℕ) → before ≤ at → LastIs b at before last → nat_lt at last ≡ b
last_test true at before last l h = grind (arith, common_steps, h)
last_test false at before last l h = grind (arith, common_steps, h, l)

last_collective : (at : ℕ) (l : Lasts) (events : List Event) → LastIs (any_collective events) at l.collective (lasts_after at l events).collective
last_collective at l [] = refl
last_collective at l (event.Declares name words ∷ rest) = skipped (any_collective rest) at _ _ (last_collective (suc at) l rest)
last_collective at l (event.Requested name handle ∷ rest) = skipped (any_collective rest) at _ _ (last_collective (suc at) l rest)
last_collective at l (event.Completed handle ∷ rest) = skipped (any_collective rest) at _ _ (last_collective (suc at) (last_with (suc at) l (event.Completed handle)) rest)
last_collective at l (event.Collective call path ∷ rest) = taken (any_collective rest) at l.collective _ (last_collective (suc at) (last_with (suc at) l (event.Collective call path)) rest)
last_collective at l (event.Returns place ∷ rest) = skipped (any_collective rest) at _ _ (last_collective (suc at) l rest)
last_collective at l (event.Calls chain ∷ rest) = skipped (any_collective rest) at _ _ (last_collective (suc at) l rest)
last_collective at l (event.Changes variable ∷ rest) = skipped (any_collective rest) at _ _ (last_collective (suc at) l rest)

one_finish : (f b : Bool) (at before last : ℕ) → LastIs b (suc at) (cond f (suc at) before) last → LastIs (f || b) at before last
one_finish true b at before last h = taken b at before last h
one_finish false b at before last h = skipped b at before last h

last_finish : (at : ℕ) (l : Lasts) (events : List Event) → LastIs (any_finish events) at l.finish (lasts_after at l events).finish
last_finish at l [] = refl
last_finish at l (event.Declares name words ∷ rest) = skipped (any_finish rest) at _ _ (last_finish (suc at) l rest)
last_finish at l (event.Requested name handle ∷ rest) = skipped (any_finish rest) at _ _ (last_finish (suc at) l rest)
last_finish at l (event.Completed handle ∷ rest) = skipped (any_finish rest) at _ _ (last_finish (suc at) (last_with (suc at) l (event.Completed handle)) rest)
last_finish at l (event.Collective call path ∷ rest) = one_finish (is_finish_call call) (any_finish rest) at l.finish _ (last_finish (suc at) (last_with (suc at) l (event.Collective call path)) rest)
last_finish at l (event.Returns place ∷ rest) = skipped (any_finish rest) at _ _ (last_finish (suc at) l rest)
last_finish at l (event.Calls chain ∷ rest) = skipped (any_finish rest) at _ _ (last_finish (suc at) l rest)
last_finish at l (event.Changes variable ∷ rest) = skipped (any_finish rest) at _ _ (last_finish (suc at) l rest)

some_more : (k : ℕ) → nat_lt 0 (suc k) ≡ true
some_more k = grind (arith, common_steps)

one_completion : (t : Bool) (k at before last : ℕ) → LastIs (nat_lt 0 k) (suc at) (cond t (suc at) before) last → LastIs (nat_lt 0 (cond t (suc k) k)) at before last
one_completion true k at before last h = subst (λ b. LastIs b at before last) (sym (some_more k)) (taken (nat_lt 0 k) at before last h)
one_completion false k at before last h = skipped (nat_lt 0 k) at before last h

last_completed : (handle at : ℕ) (l : Lasts) (events : List Event) → LastIs (nat_lt 0 (completions handle events)) at (number_at handle l.completed) (number_at handle (lasts_after at l events).completed)
last_completed handle at l [] = refl
last_completed handle at l (event.Declares name words ∷ rest) = skipped (nat_lt 0 (completions handle rest)) at _ _ (last_completed handle (suc at) l rest)
last_completed handle at l (event.Requested name other ∷ rest) = skipped (nat_lt 0 (completions handle rest)) at _ _ (last_completed handle (suc at) l rest)
last_completed handle at l (event.Completed other ∷ rest) =
    let next = last_with (suc at) l (event.Completed other) in
    one_completion (other == handle) (completions handle rest) at (number_at handle l.completed) _
    (subst (λ n. LastIs (nat_lt 0 (completions handle rest)) (suc at) n (number_at handle (lasts_after (suc at) next rest).completed)) (number_put handle other (suc at) l.completed) (last_completed handle (suc at) next rest))
last_completed handle at l (event.Collective call path ∷ rest) = skipped (nat_lt 0 (completions handle rest)) at _ _ (last_completed handle (suc at) (last_with (suc at) l (event.Collective call path)) rest)
last_completed handle at l (event.Returns place ∷ rest) = skipped (nat_lt 0 (completions handle rest)) at _ _ (last_completed handle (suc at) l rest)
last_completed handle at l (event.Calls chain ∷ rest) = skipped (nat_lt 0 (completions handle rest)) at _ _ (last_completed handle (suc at) l rest)
last_completed handle at l (event.Changes variable ∷ rest) = skipped (nat_lt 0 (completions handle rest)) at _ _ (last_completed handle (suc at) l rest)

-- ---- returns

-- what was last before so many events stands before them
record Before (at : ℕ) (l : Lasts) : Type 0 where
  pub collective : l.collective ≤ at
  pub finish : l.finish ≤ at
  pub completed : (handle : ℕ) → number_at handle l.completed ≤ at

at_most : (b : Bool) (at n : ℕ) → n ≤ at → cond b (suc at) n ≤ suc at
at_most true at n h = omega arith
at_most false at n h = omega (arith, h)

before_next : (at : ℕ) (l : Lasts) (e : Event) → Before at l → Before (suc at) (last_with (suc at) l e)
before_next at l (event.Declares name words) h = record { collective = omega (arith, h.collective); finish = omega (arith, h.finish); completed = λ g. omega (arith, h.completed g) }
before_next at l (event.Requested name handle) h = record { collective = omega (arith, h.collective); finish = omega (arith, h.finish); completed = λ g. omega (arith, h.completed g) }
before_next at l (event.Completed handle) h = record {
  collective = omega (arith, h.collective);
  finish = omega (arith, h.finish);
  completed = λ g. subst (λ n. n ≤ suc at) (sym (number_put g handle (suc at) l.completed)) (at_most (handle == g) at (number_at g l.completed) (h.completed g));
}
before_next at l (event.Collective call path) h = record { collective = omega arith; finish = at_most (is_finish_call call) at l.finish h.finish; completed = λ g. omega (arith, h.completed g) }
before_next at l (event.Returns place) h = record { collective = omega (arith, h.collective); finish = omega (arith, h.finish); completed = λ g. omega (arith, h.completed g) }
before_next at l (event.Calls chain) h = record { collective = omega (arith, h.collective); finish = omega (arith, h.finish); completed = λ g. omega (arith, h.completed g) }
before_next at l (event.Changes variable) h = record { collective = omega (arith, h.collective); finish = omega (arith, h.finish); completed = λ g. omega (arith, h.completed g) }

many_from : (at : ℕ) (l : Lasts) (events : List Event) → Before at l → early_returns at (lasts_after at l events) events ≡ returns_of_many events
many_from at l [] h = refl
many_from at l (event.Declares name words ∷ rest) h = many_from (suc at) l rest (before_next at l (event.Declares name words) h)
many_from at l (event.Requested name handle ∷ rest) h = many_from (suc at) l rest (before_next at l (event.Requested name handle) h)
many_from at l (event.Completed handle ∷ rest) h = many_from (suc at) _ rest (before_next at l (event.Completed handle) h)
many_from at l (event.Collective call path ∷ rest) h = many_from (suc at) _ rest (before_next at l (event.Collective call path) h)
many_from at l (event.Returns place ∷ rest) h =
    let next = before_next at l (event.Returns place) h in
    rw (last_test (any_collective rest) (suc at) l.collective (lasts_after (suc at) l rest).collective next.collective (last_collective (suc at) l rest)) (rw (many_from (suc at) l rest next) refl)
many_from at l (event.Calls chain ∷ rest) h = many_from (suc at) l rest (before_next at l (event.Calls chain) h)
many_from at l (event.Changes variable ∷ rest) h = many_from (suc at) l rest (before_next at l (event.Changes variable) h)

nothing_before : Before 0 no_lasts
nothing_before = record { collective = omega arith; finish = omega arith; completed = λ g. omega arith }

pub returns_of_many_is : (events : List Event) → early_returns 0 (lasts_of events) events ≡ returns_of_many events
returns_of_many_is events = many_from 0 no_lasts events nothing_before

-- the last completion of these handles
abbrev until : List ℕ → List ℕ → ℕ
until lasts [] = 0
until lasts (handle ∷ handles) = max (number_at handle lasts) (until lasts handles)

below_max : (m a b : ℕ) → nat_lt m (max a b) ≡ (nat_lt m a || nat_lt m b)
below_max m a b = grind (arith, common_steps)

until_test : (at : ℕ) (l : Lasts) (handles : List ℕ) (events : List Event) → Before at l → nat_lt at (until (lasts_after at l events).completed handles) ≡ any_completed handles events
until_test at l [] events h = grind (arith, common_steps)
until_test at l (handle ∷ handles) events h =
    rw (below_max at (number_at handle (lasts_after at l events).completed) (until (lasts_after at l events).completed handles))
    (rw (last_test (nat_lt 0 (completions handle events)) at (number_at handle l.completed) (number_at handle (lasts_after at l events).completed) (h.completed handle) (last_completed handle at l events))
    (rw (until_test at l handles events h) refl))

one_from : (at : ℕ) (l : Lasts) (handles : List ℕ) (events : List Event) → Before at l → open_returns at (lasts_after at l events) (until (lasts_after at l events).completed handles) events ≡ returns_of_one handles events
one_from at l handles [] h = refl
one_from at l handles (event.Declares name words ∷ rest) h = one_from (suc at) l handles rest (before_next at l (event.Declares name words) h)
one_from at l handles (event.Requested name handle ∷ rest) h = one_from (suc at) l (handle ∷ handles) rest (before_next at l (event.Requested name handle) h)
one_from at l handles (event.Completed handle ∷ rest) h = one_from (suc at) _ handles rest (before_next at l (event.Completed handle) h)
one_from at l handles (event.Collective call path ∷ rest) h = one_from (suc at) _ handles rest (before_next at l (event.Collective call path) h)
one_from at l handles (event.Returns place ∷ rest) h =
    let next = before_next at l (event.Returns place) h in
    rw (last_test (any_finish rest) (suc at) l.finish (lasts_after (suc at) l rest).finish next.finish (last_finish (suc at) l rest))
    (rw (until_test (suc at) l handles rest next) (rw (one_from (suc at) l handles rest next) refl))
one_from at l handles (event.Calls chain ∷ rest) h = one_from (suc at) l handles rest (before_next at l (event.Calls chain) h)
one_from at l handles (event.Changes variable ∷ rest) h = one_from (suc at) l handles rest (before_next at l (event.Changes variable) h)

pub returns_of_one_is : (events : List Event) → open_returns 0 (lasts_of events) 0 events ≡ returns_of_one [] events
returns_of_one_is events = one_from 0 no_lasts [] events nothing_before
