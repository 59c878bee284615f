-- A budget added to the units that outputs reach, output by output.
use Rattle.std.proofs.Common.{◌≡◌, ℕ, zero, suc, ◌+◌, ◌<◌, ◌≤◌, ◌==◌, ◌&&◌, ◌||◌, Bool, true, false, if◌then◌else◌, List, [], ◌∷◌, All, length, get_or, take, drop, refl, sym, ◌∙◌, ap, arith, inl, inr, ◌⊎◌}
use Rattle.std.proofs.lemmas.Bool.{cases_lt}
use Rattle.std.proofs.lemmas.Bool.Decides.{eqb_tells}
use Rattle.std.proofs.lemmas.Grind.{common_steps}
use Rattle.std.proofs.lemmas.List.{get_or-drop, length-drop, take-append-drop}
use Rattle.std.proofs.lemmas.List.Folds.{list_any_more, list_any_none, list_any-append}
use Rattle.std.specs.List.{list_any}
use Rattle.wg_machine.specs.declared.shape.Output.{Output}
use Rattle.wg_machine.specs.Need.{is_target, reaches}
use Rattle.wg_need.specs.declared.sums.Budget.{Budget}
use Rattle.wg_need.specs.declared.sums.Seen.{Seen}
use Rattle.wg_need.specs.declared.table.Need.{Need}
use Rattle.wg_need.specs.Rows.{need_in}
use Rattle.wg_need.specs.Scratch.{seen_at, is_on, owed, IsOpenRow, AreOrdered, IsCursor}

-- a row of budgets below a limit is one of budgets below the next
later_limit : (start limit : ℕ) (seen : List Seen) (needs : List Need) → IsOpenRow start limit seen needs → IsOpenRow start (limit + 1) seen needs
later_limit start limit seen needs row =
    record { begun = row.begun; low = row.low; own = row.own; last = λ v h. omega (arith, row.last v h); each = row.each }

-- no unit is on a budget that none was added of
not_on : (start limit : ℕ) (seen : List Seen) (needs : List Need) → IsOpenRow start limit seen needs → (v : ℕ) → is_on start limit seen v ≡ false
not_on start limit seen needs row v =
    elim (cases_lt start (seen_at seen v).place) [
      | inl later ↦ grind (arith, common_steps, row.last v later)
      | inr before ↦ grind (arith, common_steps, before)
    ]

-- a budget added to what some outputs reach
pub record AreAdded (b : Budget) (start count : ℕ) (done : List Output) (old : List Need) (seen : List Seen) (needs : List Need) : Type 0 where
  pub row : IsOpenRow start (b.number + 1) seen needs
  pub kept : take start needs ≡ take start old
  pub on : 0 < b.most → (v : ℕ) → v < count → is_on start b.number seen v ≡ reaches done b.number v
  pub sums : (v : ℕ) → v < count → need_in (drop start needs) v ≡ need_in (drop start old) v + (if reaches done b.number v then b.most else 0)

pub none_added : (b : Budget) (start count : ℕ) (done : List Output) (seen : List Seen) (needs : List Need) → IsOpenRow start b.number seen needs
    → ((v : ℕ) → reaches done b.number v ≡ false) → AreAdded b start count done needs seen needs
none_added b start count done seen needs row none =
    record {
      row = later_limit start b.number seen needs row;
      kept = refl;
      on = λ some v h. not_on start b.number seen needs row v ∙ sym (none v);
      sums = λ v h. rw (none v) (omega arith);
    }

-- one output more
reaches_more : (outputs : List Output) (i b v : ℕ) (o : Output) → i < length outputs → o ≡ get_or outputs i o
    → reaches (take (i + 1) outputs) b v ≡ (reaches (take i outputs) b v || ((o.budget == b) && list_any (is_target v) o.elements))
reaches_more outputs i b v o h is =
    list_any_more (λ (x : Output). (x.budget == b) && list_any (is_target v) x.elements) outputs i o h
    ∙ ap (λ (x : Output). reaches (take i outputs) b v || ((x.budget == b) && list_any (is_target v) x.elements)) (sym is)

chosen : Bool → ℕ → ℕ
chosen x n = if x then n else 0

-- what is added with the flags before and after
balanced : (most before after first : ℕ) (x y old new : Bool) → (0 < most → (old ≡ x) × (new ≡ y)) → before ≡ first + (if x then most else 0)
    → after + (if old then most else 0) ≡ before + (if new then most else 0) → after ≡ first + (if y then most else 0)
balanced most before after first x y old new flags was moved =
    elim (cases_lt 0 most) [
      | inl some ↦ omega (arith, was, rw ((flags some).0, (flags some).1) at moved)
      | inr none ↦ grind (arith, common_steps, was, moved, none)
    ]

pub one_added : (b : Budget) (start count : ℕ) (outputs : List Output) (i : ℕ) (o : Output) (first old new : List Need) (old_seen new_seen : List Seen)
    → i < length outputs → o ≡ get_or outputs i o → o.budget ≡ b.number
    → AreAdded b start count (take i outputs) first old_seen old
    → IsOpenRow start (b.number + 1) new_seen new → take start new ≡ take start old
    → (0 < b.most → (v : ℕ) → v < count → is_on start b.number new_seen v ≡ (is_on start b.number old_seen v || list_any (is_target v) o.elements))
    → ((v : ℕ) → v < count → need_in (drop start new) v + owed b start old_seen v ≡ need_in (drop start old) v + owed b start new_seen v)
    → AreAdded b start count (take (i + 1) outputs) first new_seen new
one_added b start count outputs i o first old new old_seen new_seen h is same are row kept on sums =
    record {
      row = row;
      kept = kept ∙ are.kept;
      on = λ some v below. flag some v below;
      sums = λ v below.
          balanced b.most (need_in (drop start old) v) (need_in (drop start new) v) (need_in (drop start first) v)
          (reaches (take i outputs) b.number v) (reaches (take (i + 1) outputs) b.number v) (is_on start b.number old_seen v) (is_on start b.number new_seen v)
          (λ some. (are.on some v below, flag some v below)) (are.sums v below) (sums v below);
    }
  where
    here : (v : ℕ) → reaches (take (i + 1) outputs) b.number v ≡ (reaches (take i outputs) b.number v || list_any (is_target v) o.elements)
    here v = elim (eqb_tells o.budget b.number) [
      | inl on_it ↦ reaches_more outputs i b.number v o h is ∙ rw on_it.0 refl
      | inr other ↦ absurd (other.1 same)
    ]

    flag : 0 < b.most → (v : ℕ) → v < count → is_on start b.number new_seen v ≡ reaches (take (i + 1) outputs) b.number v
    flag some v below = on some v below ∙ ap (λ (x : Bool). x || list_any (is_target v) o.elements) (are.on some v below) ∙ sym (here v)

or_false : (x : Bool) → (x || false) ≡ x
or_false true = refl
or_false false = refl

pub other_added : (b : Budget) (start count : ℕ) (outputs : List Output) (i : ℕ) (o : Output) (first old : List Need) (seen : List Seen)
    → i < length outputs → o ≡ get_or outputs i o → (o.budget ≡ b.number → ⊥)
    → AreAdded b start count (take i outputs) first seen old → AreAdded b start count (take (i + 1) outputs) first seen old
other_added b start count outputs i o first old seen h is apart are =
    record {
      row = are.row;
      kept = are.kept;
      on = λ some v below. are.on some v below ∙ sym (here v);
      sums = λ v below. rw (here v) (are.sums v below);
    }
  where
    here : (v : ℕ) → reaches (take (i + 1) outputs) b.number v ≡ reaches (take i outputs) b.number v
    here v = elim (eqb_tells o.budget b.number) [
      | inl on_it ↦ absurd (apart on_it.1)
      | inr other ↦ reaches_more outputs i b.number v o h is ∙ rw other.0 (or_false (reaches (take i outputs) b.number v))
    ]

-- outputs on other budgets reach nothing
none_reached : (outputs : List Output) (b v : ℕ) → ((k : ℕ) (d : Output) → k < length outputs → (get_or outputs k d).budget ≡ b → ⊥) → reaches outputs b v ≡ false
none_reached outputs b v none = list_any_none (λ (x : Output). (x.budget == b) && list_any (is_target v) x.elements) outputs each
  where
    each : All (λ (x : Output). ((x.budget == b) && list_any (is_target v) x.elements) ≡ false) outputs
    each k d h = elim (eqb_tells (get_or outputs k d).budget b) [
      | inl on_it ↦ absurd (none k d h on_it.1)
      | inr other ↦ rw other.0 refl
    ]

-- what the outputs behind a place don't reach
reached_before : (outputs : List Output) (at b v : ℕ) → ((k : ℕ) (d : Output) → at ≤ k → k < length outputs → (get_or outputs k d).budget ≡ b → ⊥)
    → reaches (take at outputs) b v ≡ reaches outputs b v
reached_before outputs at b v none =
    sym (or_false (reaches (take at outputs) b v))
    ∙ ap (λ (x : Bool). reaches (take at outputs) b v || x) (sym (none_reached (drop at outputs) b v behind))
    ∙ sym (list_any-append (λ (x : Output). (x.budget == b) && list_any (is_target v) x.elements) (take at outputs) (drop at outputs))
    ∙ ap (λ (xs : List Output). reaches xs b v) (take-append-drop at outputs)
  where
    behind : (k : ℕ) (d : Output) → k < length (drop at outputs) → (get_or (drop at outputs) k d).budget ≡ b → ⊥
    behind k d h e = none (at + k) d (omega arith) (omega (arith, h, length-drop at outputs)) (ap (λ (x : Output). x.budget) (sym (get_or-drop at outputs k d)) ∙ e)

pub record AllAdded (b : Budget) (start count : ℕ) (outputs : List Output) (old : List Need) (seen : List Seen) (needs : List Need) : Type 0 where
  pub row : IsOpenRow start (b.number + 1) seen needs
  pub kept : take start needs ≡ take start old
  pub sums : (v : ℕ) → v < count → need_in (drop start needs) v ≡ need_in (drop start old) v + (if reaches outputs b.number v then b.most else 0)

pub all_added : (b : Budget) (start count : ℕ) (outputs : List Output) (at : ℕ) (old : List Need) (seen : List Seen) (needs : List Need)
    → ((k : ℕ) (d : Output) → at ≤ k → k < length outputs → (get_or outputs k d).budget ≡ b.number → ⊥)
    → AreAdded b start count (take at outputs) old seen needs → AllAdded b start count outputs old seen needs
all_added b start count outputs at old seen needs none are =
    record { row = are.row; kept = are.kept; sums = λ v below. rw (← reached_before outputs at b.number v none) (are.sums v below) }

-- before a cursor no output is on its budget
pub none_before : (outputs : List Output) (b at : ℕ) → IsCursor outputs b at → (v : ℕ) → reaches (take at outputs) b v ≡ false
none_before outputs b at cursor v = none_reached (take at outputs) b v (λ k d h e. grind (arith, common_steps, cursor.before k d, h, e))

-- the budget of the output at a place
pub budget_at : (xs : List Output) (k : ℕ) (d e : Output) → k < length xs → e ≡ get_or xs k e → (get_or xs k d).budget ≡ e.budget
budget_at xs k d e within there = grind (arith, common_steps, within, there)

pub budget_read : (xs : List Output) (k : ℕ) (d e : Output) → k < length xs → (get_or xs k d).budget ≡ (get_or xs k e).budget
budget_read [] k d e h = absurd (omega (arith, h))
budget_read (x ∷ xs) zero d e h = refl
budget_read (x ∷ xs) (suc k) d e h = budget_read xs k d e (omega (arith, h))

-- the outputs of a run
pub record IsRun (outputs : List Output) (b from at : ℕ) : Type 0 where
  pub later : from ≤ at
  pub within : at ≤ length outputs ⊎ (at ≡ from)
  pub on_it : (k : ℕ) (d : Output) → from ≤ k → k < at → (get_or outputs k d).budget ≡ b

pub no_run : (outputs : List Output) (b from : ℕ) → IsRun outputs b from from
no_run outputs b from = record { later = omega arith; within = inr refl; on_it = λ k d h less. absurd (omega (arith, h, less)) }

pub run_more : (outputs : List Output) (b from at : ℕ) (o : Output) → at < length outputs → o ≡ get_or outputs at o → o.budget ≡ b → IsRun outputs b from at → IsRun outputs b from (at + 1)
run_more outputs b from at o h is same run =
    record {
      later = omega (arith, run.later);
      within = inl (omega (arith, h));
      on_it = λ k d begun less. elim (cases_lt k at) [
        | inl before ↦ run.on_it k d begun before
        | inr past ↦
            let e : k ≡ at = omega (arith, past, less) in
            rw e (budget_at outputs at d o h is ∙ same)
      ];
    }

-- behind a run the outputs are on later budgets
pub run_ends : (outputs : List Output) (b from at : ℕ) → AreOrdered outputs → IsCursor outputs b from → IsRun outputs b from at
    → (at < length outputs → (d : Output) → (get_or outputs at d).budget ≡ b → ⊥) → IsCursor outputs (b + 1) at
run_ends outputs b from at ordered cursor run ends =
    record {
      before = λ k d less h. elim (cases_lt k from) [
        | inl early ↦ omega (arith, cursor.before k d early h)
        | inr past ↦ omega (arith, run.on_it k d past less)
      ];
      from = λ k d past h.
          let there : at < length outputs = omega (arith, past, h) in
          let apart : ((get_or outputs at d).budget ≡ b → ⊥) = ends there d in
          elim (eqb_tells (get_or outputs at d).budget b) [
            | inl same ↦ absurd (apart same.1)
            | inr other ↦ omega (arith, other.1, cursor.from at d run.later there, ordered at k d d past h)
          ];
    }

pub past_cursor : (outputs : List Output) (b at : ℕ) → IsCursor outputs (b + 1) at → (k : ℕ) (d : Output) → at ≤ k → k < length outputs → (get_or outputs k d).budget ≡ b → ⊥
past_cursor outputs b at cursor k d past h e = absurd (omega (arith, cursor.from k d past h, e))

-- the outputs so far are ordered, up to a budget
pub record AreOrderedTo (outputs : List Output) (count least : ℕ) : Type 0 where
  pub high : (k : ℕ) (d : Output) → k < count → k < length outputs → (get_or outputs k d).budget ≤ least
  pub order : (i j : ℕ) (d e : Output) → i ≤ j → j < count → j < length outputs → (get_or outputs i d).budget ≤ (get_or outputs j e).budget
