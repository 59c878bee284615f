-- What is left of code that runs over the lanes of a group in steps, for each start that agrees with the memory so far.
use Rattle.std.proofs.Common.{◌≡◌, ◌≢◌, ℕ, zero, suc, ◌+◌, ◌-◌, ◌<◌, ◌≤◌, Bool, false, List, [], ◌∷◌, ◌++◌, Option, Some, None, refl, sym, ap, ◌∙◌, arith, append-nil}
use Rattle.std.specs.Prelude.{Result, Ok, Err}
use Rattle.std.proofs.lemmas.List.{append_assoc}
use Rattle.wg_machine.specs.Agreement.{Trace, AgreesWith, now_of}
use Rattle.wg_machine.specs.Buffers.{Buffers}
use Rattle.wg_machine.specs.Effects.{Grows}
use Rattle.wg_machine.specs.declared.bodies.Halt.{Halt}
use Rattle.wg_machine.specs.declared.bodies.Halt.TheVariants as halt
use Rattle.wg_state.specs.Turns.{Action, Ending, Spent, Done, and_then, pure}
use Rattle.wg_code.specs.Lane.{Site, Exit}
use Rattle.wg_code.specs.Flow.{Outside}
use Rattle.wg_code.specs.PartMeaning.{Lanes, LaneActions, Running, then_run, lane_left, lane_runs, put_first, lanes_run, first_runs, part_runs, parts_run}
use Rattle.wg_code.specs.declared.code.Part.{Part}
use Rattle.wg_code.specs.declared.op.Op.{Op}
use Rattle.wg_registers.specs.Given.{site_of}
use Rattle.wg_registers.specs.declared.outside.Outside.{Outside as Shared}
use Rattle.wg_operations.specs.Says.{exit_of}
use Rattle.wg_operations.specs.Says.{Runs as BodyRuns}
use Rattle.wg_operations.specs.declared.end.End.{End}
use Rattle.wg_operations.specs.declared.end.End.TheVariants as end
use Rattle.wg_group.specs.Running.{row_at, rows_from, outside_of, Runs, Kept}
use Rattle.wg_group.proofs.Growth.{back}
use Rattle.wg_group.proofs.Rows.{rows_push, rows_same}

-- ---- a body on a lane

module _ (m : Action Site Exit) (registers : List ℕ) (s : Shared) (old : Trace) (registers' : List ℕ) (s' : Shared) (new : Trace) where
  left : (e : End) (b : Buffers) → lane_left false (Done (exit_of e) (site_of registers' s' b) s'.turns) ≡ Done (Some registers') (outside_of s' b) s'.turns
  left end.Through b = refl
  left end.Out b = refl
  left end.Again b = refl

  module _ (T : Type 0) where
    pub lane_ends : (e : End) (ran : T) → BodyRuns m registers s old (Ok e) registers' s' new → Runs (lane_runs false m registers) s old (Ok ran) (Some registers') s' new
    lane_ends e ran d = λ start a. ap (lane_left false) (d start a) ∙ left e (now_of new start)

    pub lane_stops : (h : Halt) → BodyRuns m registers s old (Err h) registers' s' new → Runs {T = T} (lane_runs false m registers) s old (Err h) (Some registers') s' new
    lane_stops halt.Turns d = λ start a. ap (lane_left false) (d start a)
    lane_stops halt.Memory d = λ start a. tt

-- ---- what is left

-- what is left of n, which began before, is m
abbrev pub Rest : {A : Type 0} → Action Outside A → Shared → Trace → Action Outside A → Shared → Trace → Type 0
Rest n s0 old m s now = (start : Buffers) → AgreesWith now start
    → m (outside_of s (now_of now start)) s.turns ≡ n (outside_of s0 (now_of old start)) s0.turns

-- ---- a body on lanes

-- lanes that were run, before the others
abbrev pub put_before : Lanes → Ending Outside (Option Lanes) → Ending Outside (Option Lanes)
put_before front Spent = Spent
put_before front (Done None w t) = Done None w t
put_before front (Done (Some others) w t) = Done (Some (front ++ others)) w t

put_one : (front : Lanes) (y : List ℕ) (o : Ending Outside (Option Lanes)) → put_before front (and_then o (λ others. pure (put_first y others))) ≡ put_before (front ++ y ∷ []) o
put_one front y Spent = refl
put_one front y (Done None w t) = refl
put_one front y (Done (Some others) w t) = ap (λ l. Done (Some l) w t) (sym (append_assoc front (y ∷ []) others))

-- the rows that were run, and the others
abbrev pub Left : LaneActions → ℕ → ℕ → ℕ → List ℕ → Running Lanes
Left bodies lane count width xs = λ o t. put_before (rows_from 0 lane width xs) (lanes_run false bodies lane (rows_from lane (count - lane) width xs) o t)

none_before : (o : Ending Outside (Option Lanes)) → put_before [] o ≡ o
none_before Spent = refl
none_before (Done None w t) = refl
none_before (Done (Some others) w t) = refl

module _ (bodies : LaneActions) (count width : ℕ) where
  abbrev whole : List ℕ → Running Lanes
  whole xs = lanes_run false bodies 0 (rows_from 0 count width xs)

  pub lanes_begin : (xs : List ℕ) (s : Shared) (t : Trace) → Rest (whole xs) s t (Left bodies 0 count width xs) s t
  lanes_begin xs s t = λ start a.
      (let z : count - 0 ≡ count = omega arith in
      none_before (lanes_run false bodies 0 (rows_from 0 (count - 0) width xs) (outside_of s (now_of t start)) s.turns)
      ∙ ap (λ n. lanes_run false bodies 0 (rows_from 0 n width xs) (outside_of s (now_of t start)) s.turns) z)

  module _ (xs0 : List ℕ) (s0 : Shared) (old : Trace) where
    abbrev n : Running Lanes
    n = whole xs0

    pub lanes_end : (T : Type 0) (ran : T) (lane : ℕ) (xs : List ℕ) (s : Shared) (now : Trace) → count ≤ lane → lane ≤ count
        → Rest n s0 old (Left bodies lane count width xs) s now → Runs n s0 old (Ok ran) (Some (rows_from 0 count width xs)) s now
    lanes_end T ran lane xs s now le ge r = λ start a.
        (let z : count - lane ≡ 0 = omega (arith, le) in
        let e : lane ≡ count = omega (arith, le, ge) in
        sym (r start a)
        ∙ (ap (λ k. put_before (rows_from 0 lane width xs) (lanes_run false bodies lane (rows_from lane k width xs) (outside_of s (now_of now start)) s.turns)) z
        ∙ (ap (λ l. Done (Some l) (outside_of s (now_of now start)) s.turns) (append-nil (rows_from 0 lane width xs))
        ∙ ap (λ k. Done (Some (rows_from 0 k width xs)) (outside_of s (now_of now start)) s.turns) e)))

    module _ (lane : ℕ) (xs : List ℕ) (s : Shared) (now : Trace) (more : lane < count) (r : Rest n s0 old (Left bodies lane count width xs) s now) where
      abbrev rest_of : List ℕ → Lanes
      rest_of ys = rows_from (suc lane) (count - suc lane) width ys

      split : (ys : List ℕ) → rows_from lane (count - lane) width ys ≡ row_at width lane ys ∷ rest_of ys
      split ys = let e : count - lane ≡ suc (count - suc lane) = omega (arith, more) in ap (λ k. rows_from lane k width ys) e

      -- the lane that comes next, and the others
      abbrev one : Ending Outside (Option (List ℕ)) → Ending Outside (Option Lanes)
      one o = put_before (rows_from 0 lane width xs) (and_then o (λ ran. then_run ran (λ first. λ w t. and_then (lanes_run false bodies (suc lane) (rest_of xs) w t) (λ others. pure (put_first first others)))))

      next_is : (o : Outside) (t : ℕ) → Left bodies lane count width xs o t ≡ one (lane_runs false (bodies lane) (row_at width lane xs) o t)
      next_is o t = ap (λ l. put_before (rows_from 0 lane width xs) (lanes_run false bodies lane l o t)) (split xs)

      pub lanes_next : (T : Type 0) (ran : T) (ys : List ℕ) (s' : Shared) (new : Trace) → Grows now new → ((k : ℕ) → k ≢ lane → row_at width k ys ≡ row_at width k xs)
          → Runs (lane_runs false (bodies lane) (row_at width lane xs)) s now (Ok ran) (Some (row_at width lane ys)) s' new
          → Rest n s0 old (Left bodies (lane + 1) count width ys) s' new
      lanes_next T ran ys s' new g others d = λ start a.
          (let up : lane + 1 ≡ suc lane = omega arith in
          let before : rows_from 0 lane width xs ≡ rows_from 0 lane width ys = rows_same 0 lane width xs ys (λ k p q. sym (others k (λ e. (let h : k < 0 + lane = q in let c : ⊥ = omega (arith, h, e) in c)))) in
          let behind : rest_of ys ≡ rest_of xs = rows_same (suc lane) (count - suc lane) width ys xs (λ k p q. others k (λ e. (let h : suc lane ≤ k = p in let c : ⊥ = omega (arith, h, e) in c))) in
          let z : 0 + lane ≡ lane = omega arith in
          let pushed : rows_from 0 (suc lane) width ys ≡ rows_from 0 lane width xs ++ row_at width lane ys ∷ [] =
          rows_push 0 lane width ys ∙ (ap (λ k. rows_from 0 lane width ys ++ row_at width k ys ∷ []) z ∙ ap (λ l. l ++ row_at width lane ys ∷ []) (sym before)) in
          ap (λ k. Left bodies k count width ys (outside_of s' (now_of new start)) s'.turns) up
          ∙ (ap (λ l. put_before (rows_from 0 (suc lane) width ys) (lanes_run false bodies (suc lane) l (outside_of s' (now_of new start)) s'.turns)) behind
          ∙ (ap (λ l. put_before l (lanes_run false bodies (suc lane) (rest_of xs) (outside_of s' (now_of new start)) s'.turns)) pushed
          ∙ (sym (put_one (rows_from 0 lane width xs) (row_at width lane ys) (lanes_run false bodies (suc lane) (rest_of xs) (outside_of s' (now_of new start)) s'.turns))
          ∙ (sym (ap one (d start a))
          ∙ (sym (next_is (outside_of s (now_of now start)) s.turns) ∙ r start (back now new start g a)))))))

      pub lanes_stop : (T : Type 0) (q : Bool) (h : Halt) (a : Option (List ℕ)) (b : Option Lanes) (s' : Shared) (s'' : Shared) (new : Trace) → Kept {T = T} q now (Err h) new
          → Runs {T = T} (lane_runs false (bodies lane) (row_at width lane xs)) s now (Err h) a s' new
          → Runs {T = T} n s0 old (Err h) b s'' new
      lanes_stop T q halt.Turns x b s' s'' new g d = λ start a.
          sym (r start (back now new start g.grows a)) ∙ (next_is (outside_of s (now_of now start)) s.turns ∙ ap one (d start a))
      lanes_stop T q halt.Memory x b s' s'' new g d = λ start a. tt

-- ---- lane 0

pub first_is : (bodies : LaneActions) (count width : ℕ) (xs : List ℕ) (o : Outside) (t : ℕ) → count ≢ 0
    → first_runs false bodies (rows_from 0 count width xs) o t ≡ and_then (lane_runs false (bodies 0) (row_at width 0 xs) o t) (λ ran. then_run ran (λ first. pure (Some (first ∷ rows_from 1 (count - 1) width xs))))
first_is bodies zero width xs o t some = absurd (some refl)
first_is bodies (suc count) width xs o t some =
    let e : suc count - 1 ≡ count = omega arith in
    ap (λ k. and_then (lane_runs false (bodies 0) (row_at width 0 xs) o t) (λ ran. then_run ran (λ first. pure (Some (first ∷ rows_from 1 k width xs))))) (sym e)

rows_first : (count width : ℕ) (xs ys : List ℕ) → count ≢ 0 → ((k : ℕ) → k ≢ 0 → row_at width k ys ≡ row_at width k xs)
    → row_at width 0 ys ∷ rows_from 1 (count - 1) width xs ≡ rows_from 0 count width ys
rows_first zero width xs ys some others = absurd (some refl)
rows_first (suc count) width xs ys some others =
    let e : suc count - 1 ≡ count = omega arith in
    ap (λ k. row_at width 0 ys ∷ rows_from 1 k width xs) e
    ∙ ap (λ l. row_at width 0 ys ∷ l) (rows_same 1 count width xs ys (λ k p q. sym (others k (λ e. (let h : 1 ≤ k = p in let c : ⊥ = omega (arith, h, e) in c)))))

module _ (bodies : LaneActions) (count width : ℕ) (xs ys : List ℕ) (s : Shared) (old : Trace) (s' : Shared) (new : Trace) (T : Type 0) where
  pub first_none : (ran : T) → count ≡ 0 → Runs (first_runs false bodies (rows_from 0 count width xs)) s old (Ok ran) (Some (rows_from 0 count width xs)) s old
  first_none ran none = λ start a. rw none refl

  pub first_runs_on : (r : Result T Halt) → count ≢ 0 → ((k : ℕ) → k ≢ 0 → row_at width k ys ≡ row_at width k xs)
      → Runs (lane_runs false (bodies 0) (row_at width 0 xs)) s old r (Some (row_at width 0 ys)) s' new
      → Runs (first_runs false bodies (rows_from 0 count width xs)) s old r (Some (rows_from 0 count width ys)) s' new
  first_runs_on (Ok ran) some others d = λ start a.
      first_is bodies count width xs (outside_of s (now_of old start)) s.turns some
      ∙ (ap (λ o. and_then o (λ ran. then_run ran (λ first. pure (Some (first ∷ rows_from 1 (count - 1) width xs))))) (d start a)
      ∙ ap (λ l. Done (Some l) (outside_of s' (now_of new start)) s'.turns) (rows_first count width xs ys some others))
  first_runs_on (Err halt.Turns) some others d = λ start a.
      first_is bodies count width xs (outside_of s (now_of old start)) s.turns some
      ∙ ap (λ o. and_then o (λ ran. then_run ran (λ first. pure (Some (first ∷ rows_from 1 (count - 1) width xs))))) (d start a)
  first_runs_on (Err halt.Memory) some others d = λ start a. tt

-- ---- parts in order

module _ (n : Running Lanes) (s0 : Shared) (old : Trace) (bodies : List Op → LaneActions) (part : Part) (rest : List Part) (lanes : Lanes) (s : Shared) (now : Trace)
    (r : Rest n s0 old (parts_run false bodies (part ∷ rest) lanes) s now) (T : Type 0) (s' : Shared) (new : Trace) where
  pub parts_next : (ran : T) (lanes' : Lanes) → Grows now new → Runs (part_runs false bodies part lanes) s now (Ok ran) (Some lanes') s' new
      → Rest n s0 old (parts_run false bodies rest lanes') s' new
  parts_next ran lanes' g d = λ start a.
      sym (ap (λ (o : Ending Outside (Option Lanes)). and_then o (λ ran. then_run ran (parts_run false bodies rest))) (d start a)) ∙ r start (back now new start g a)

  pub parts_stop : (q : Bool) (h : Halt) (a b : Option Lanes) (s'' : Shared) → Kept {T = T} q now (Err h) new → Runs {T = T} (part_runs false bodies part lanes) s now (Err h) a s' new
      → Runs {T = T} n s0 old (Err h) b s'' new
  parts_stop q halt.Turns a b s'' k d = λ start e.
      sym (r start (back now new start k.grows e)) ∙ ap (λ (o : Ending Outside (Option Lanes)). and_then o (λ ran. then_run ran (parts_run false bodies rest))) (d start e)
  parts_stop q halt.Memory a b s'' k d = λ start e. tt
