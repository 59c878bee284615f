-- What is left of an action that runs in steps over a memory, for each start that agrees with the memory so far.
use Rattle.std.proofs.Common.{◌≡◌, ◌≢◌, ◌==◌, ℕ, zero, suc, ◌<◌, ◌≤◌, Bool, true, false, List, not, if◌then◌else◌, refl, sym, ap, ◌∙◌, subst, arith}
use Rattle.std.specs.Prelude.{slice_index, Result, Ok, Err}
use Rattle.std.proofs.lemmas.Bool.Decides.{nat_tests}
use Rattle.wg_words.specs.Truth.{is_true}
use Rattle.wg_machine.specs.Agreement.{Trace, AgreesWith, now_of}
use Rattle.wg_machine.specs.Buffers.{Buffers}
use Rattle.wg_machine.specs.Effects.{Grows}
use Rattle.wg_machine.specs.declared.bodies.Halt.{Halt}
use Rattle.wg_machine.specs.declared.bodies.Halt.TheVariants as halt
use Rattle.wg_state.specs.Turns.{Action, Ending, and_then, ◌>>=◌, ◌>>◌, pure, turn}
use Rattle.wg_code.specs.Flow.{through, goes_on, stepped, body_then_step, tested, one_turn, repeats, turns_below, loop}
use Rattle.wg_code.specs.Lane.{Site, Exit, Through, Again}
use Rattle.wg_registers.specs.Given.{site_of}
use Rattle.wg_registers.specs.declared.outside.Outside.{Outside}
use Rattle.wg_operations.specs.Says.{exit_of, Says, Runs, passes, goes_round}
use Rattle.wg_operations.specs.declared.end.End.{End}
use Rattle.wg_operations.specs.declared.end.End.TheVariants as end
use Rattle.wg_leaves.specs.Going.{Kept}
use Rattle.wg_control.specs.Loops.{comes_again}
use Rattle.wg_control.proofs.Growth.{back}

abbrev pub Act : Type 0
Act = Action Site Exit

-- what is left of n, which began before, is m
abbrev pub Rest : Act → List ℕ → Outside → Trace → Act → List ℕ → Outside → Trace → Type 0
Rest n registers0 s0 old m registers s now = (start : Buffers) → AgreesWith now start
    → m (site_of registers s (now_of now start)) s.turns ≡ n (site_of registers0 s0 (now_of old start)) s0.turns

pub begins : (n : Act) (registers : List ℕ) (s : Outside) (t : Trace) → Rest n registers s t n registers s t
begins n registers s t = λ start a. refl

-- ---- exits

pub through_on : (e : End) (k : Act) → passes e ≡ true → through (exit_of e) k ≡ k
through_on end.Through k p = refl
through_on end.Out k p = absurd (cc)
through_on end.Again k p = absurd (cc)

pub through_off : (e : End) (k : Act) → passes e ≡ false → through (exit_of e) k ≡ pure (exit_of e)
through_off end.Through k p = absurd (cc)
through_off end.Out k p = refl
through_off end.Again k p = refl

pub goes_on_on : (e : End) (k : Act) → goes_round e ≡ true → goes_on (exit_of e) k ≡ k
goes_on_on end.Through k p = refl
goes_on_on end.Out k p = absurd (cc)
goes_on_on end.Again k p = refl

pub goes_on_off : (e : End) (k : Act) → goes_round e ≡ false → goes_on (exit_of e) k ≡ pure Through
goes_on_off end.Through k p = absurd (cc)
goes_on_off end.Out k p = refl
goes_on_off end.Again k p = absurd (cc)

pub repeats_on : (e : End) (k : Act) → comes_again e ≡ true → repeats (exit_of e) k ≡ k
repeats_on end.Through k p = absurd (cc)
repeats_on end.Out k p = absurd (cc)
repeats_on end.Again k p = refl

pub repeats_off : (e : End) (k : Act) → comes_again e ≡ false → repeats (exit_of e) k ≡ pure Through
repeats_off end.Through k p = refl
repeats_off end.Out k p = refl
repeats_off end.Again k p = absurd (cc)

is_true_at : (n : ℕ) → n ≢ 0 → is_true n ≡ true
is_true_at n m = let e : (n == 0) ≡ false = grind (arith, nat_tests) in ap not e

-- ---- steps

module _ (n : Act) (registers0 : List ℕ) (s0 : Outside) (old : Trace) where
  abbrev From : Act → List ℕ → Outside → Trace → Type 0
  From m registers s now = Rest n registers0 s0 old m registers s now

  pub along : (m p : Act) (registers : List ℕ) (s : Outside) (now : Trace) → m ≡ p → From m registers s now → From p registers s now
  along m p registers s now e r = subst (λ (x : Act). From x registers s now) e r

  pub ends : (e : End) (registers : List ℕ) (s : Outside) (now : Trace) → From (pure (exit_of e)) registers s now → Runs n registers0 s0 old (Ok e) registers s now
  ends e registers s now r = λ start a. sym (r start a)

  pub goes : (m : Act) (k : Exit → Act) (registers : List ℕ) (s : Outside) (now : Trace) (e : End) (registers' : List ℕ) (s' : Outside) (new : Trace)
      → From (m >>= k) registers s now → Grows now new → Runs m registers s now (Ok e) registers' s' new → From (k (exit_of e)) registers' s' new
  goes m k registers s now e registers' s' new r g d = λ start a.
      sym (ap (λ (o : Ending Site Exit). and_then o k) (d start a)) ∙ r start (back now new start g a)

  -- an error of a step is the whole's
  pub stops : (m : Act) (k : Exit → Act) (registers : List ℕ) (s : Outside) (now : Trace) (q : Bool) (n0 n1 : ℕ) (h : Halt) (registers' : List ℕ) (s' : Outside) (new : Trace)
      → From (m >>= k) registers s now → Kept {A = End} q n0 n1 now (Err h) new → Runs m registers s now (Err h) registers' s' new → Runs n registers0 s0 old (Err h) registers' s' new
  stops m k registers s now q n0 n1 halt.Turns registers' s' new r g d = λ start a.
      sym (r start (back now new start g.grows a)) ∙ ap (λ (o : Ending Site Exit). and_then o k) (d start a)
  stops m k registers s now q n0 n1 halt.Memory registers' s' new r g d = λ start a. tt

  -- ---- turns

  pub spends : (k : Act) (registers : List ℕ) (s : Outside) (now : Trace) → From (turn >> k) registers s now → s.turns ≡ 0 → (registers' : List ℕ) (s' : Outside) → Runs n registers0 s0 old (Err halt.Turns) registers' s' now
  spends k registers s now r z registers' s' = λ start a.
      sym (r start a) ∙ ap (λ t. (turn >> k) (site_of registers s (now_of now start)) t) z

  pub takes : (k : Act) (registers : List ℕ) (s : Outside) (now : Trace) (left : ℕ) → From (turn >> k) registers s now → s.turns ≡ suc left → From k registers (record s { turns = left }) now
  takes k registers s now left r e = λ start a.
      sym (ap (λ t. (turn >> k) (site_of registers s (now_of now start)) t) e) ∙ r start a

-- ---- the same action in other words

pub same : (m p : Act) (registers : List ℕ) (s : Outside) (old : Trace) (r : Result End Halt) (registers' : List ℕ) (s' : Outside) (new : Trace)
    → ((b : Buffers) → m (site_of registers s b) s.turns ≡ p (site_of registers s b) s.turns) → Runs p registers s old r registers' s' new → Runs m registers s old r registers' s' new
same m p registers s old r registers' s' new e d = λ start a.
    subst (λ (o : Ending Site Exit). Says o r registers' s' (now_of new start)) (sym (e (now_of old start))) (d start a)

pub chosen_first : (a : ℕ) (x y : Act) (f : Site) (t : ℕ) → slice_index f.registers a ≢ 0 → (if is_true (slice_index f.registers a) then x else y) f t ≡ x f t
chosen_first a x y f t n = ap (λ b. (if b then x else y) f t) (is_true_at (slice_index f.registers a) n)

pub chosen_second : (a : ℕ) (x y : Act) (f : Site) (t : ℕ) → slice_index f.registers a ≡ 0 → (if is_true (slice_index f.registers a) then x else y) f t ≡ y f t
chosen_second a x y f t z = ap (λ w. (if is_true w then x else y) f t) z

-- ---- one turn of a loop

module _ (a : ℕ) (T B S : Act) (registers0 : List ℕ) (s0 : Outside) (old : Trace) where
  abbrev pub Turn : Act → List ℕ → Outside → Trace → Type 0
  Turn m registers s now = Rest (one_turn T a B S) registers0 s0 old m registers s now

  abbrev whole : Act
  whole = one_turn T a B S

  abbrev Ran : Act → List ℕ → Outside → Trace → End → List ℕ → Outside → Trace → Type 0
  Ran m registers s now e registers' s' new = Grows now new × Runs m registers s now (Ok e) registers' s' new

  module _ (e1 : End) (registers1 : List ℕ) (s1 : Outside) (now1 : Trace) (d1 : Ran T registers0 s0 old e1 registers1 s1 now1) where
    pub after_test : Turn (goes_on (exit_of e1) (tested a B S)) registers1 s1 now1
    after_test = goes whole registers0 s0 old T (λ e. goes_on e (tested a B S)) registers0 s0 old e1 registers1 s1 now1 (begins whole registers0 s0 old) d1.0 d1.1

    pub test_breaks : goes_round e1 ≡ false → Runs whole registers0 s0 old (Ok end.Through) registers1 s1 now1
    test_breaks p = ends whole registers0 s0 old end.Through registers1 s1 now1 (along whole registers0 s0 old _ _ registers1 s1 now1 (goes_on_off e1 (tested a B S) p) after_test)

    module _ (p1 : goes_round e1 ≡ true) where
      in_test : Turn (tested a B S) registers1 s1 now1
      in_test = along whole registers0 s0 old _ _ registers1 s1 now1 (goes_on_on e1 (tested a B S) p1) after_test

      pub test_ends : slice_index registers1 a ≡ 0 → Runs whole registers0 s0 old (Ok end.Through) registers1 s1 now1
      test_ends z = λ start g. sym (in_test start g) ∙ chosen_second a (turn >> body_then_step B S) (pure Through) (site_of registers1 s1 (now_of now1 start)) s1.turns z

      module _ (go : slice_index registers1 a ≢ 0) where
        in_turn : Turn (turn >> body_then_step B S) registers1 s1 now1
        in_turn = λ start g. sym (chosen_first a (turn >> body_then_step B S) (pure Through) (site_of registers1 s1 (now_of now1 start)) s1.turns go) ∙ in_test start g

        pub turns_spent : s1.turns ≡ 0 → (registers' : List ℕ) (s' : Outside) → Runs whole registers0 s0 old (Err halt.Turns) registers' s' now1
        turns_spent z registers' s' = spends whole registers0 s0 old (body_then_step B S) registers1 s1 now1 in_turn z registers' s'

        module _ (left : ℕ) (some : s1.turns ≡ suc left) where
          abbrev entered : Outside
          entered = record s1 { turns = left }

          pub in_body : Turn (body_then_step B S) registers1 entered now1
          in_body = takes whole registers0 s0 old (body_then_step B S) registers1 s1 now1 left in_turn some

          pub body_stops : (q : Bool) (n0 n1 : ℕ) (h : Halt) (registers' : List ℕ) (s' : Outside) (new : Trace) → Kept {A = End} q n0 n1 now1 (Err h) new → Runs B registers1 entered now1 (Err h) registers' s' new → Runs whole registers0 s0 old (Err h) registers' s' new
          body_stops q n0 n1 h registers' s' new k d = stops whole registers0 s0 old B (λ e. goes_on e (stepped S)) registers1 entered now1 q n0 n1 h registers' s' new in_body k d

          module _ (e2 : End) (registers2 : List ℕ) (s2 : Outside) (now2 : Trace) (d2 : Ran B registers1 entered now1 e2 registers2 s2 now2) where
            after_body : Turn (goes_on (exit_of e2) (stepped S)) registers2 s2 now2
            after_body = goes whole registers0 s0 old B (λ e. goes_on e (stepped S)) registers1 entered now1 e2 registers2 s2 now2 in_body d2.0 d2.1

            pub body_breaks : goes_round e2 ≡ false → Runs whole registers0 s0 old (Ok end.Through) registers2 s2 now2
            body_breaks p = ends whole registers0 s0 old end.Through registers2 s2 now2 (along whole registers0 s0 old _ _ registers2 s2 now2 (goes_on_off e2 (stepped S) p) after_body)

            module _ (p2 : goes_round e2 ≡ true) where
              in_step : Turn (stepped S) registers2 s2 now2
              in_step = along whole registers0 s0 old _ _ registers2 s2 now2 (goes_on_on e2 (stepped S) p2) after_body

              pub step_stops : (q : Bool) (n0 n1 : ℕ) (h : Halt) (registers' : List ℕ) (s' : Outside) (new : Trace) → Kept {A = End} q n0 n1 now2 (Err h) new → Runs S registers2 s2 now2 (Err h) registers' s' new → Runs whole registers0 s0 old (Err h) registers' s' new
              step_stops q n0 n1 h registers' s' new k d = stops whole registers0 s0 old S (λ e. goes_on e (pure Again)) registers2 s2 now2 q n0 n1 h registers' s' new in_step k d

              module _ (e3 : End) (registers3 : List ℕ) (s3 : Outside) (now3 : Trace) (d3 : Ran S registers2 s2 now2 e3 registers3 s3 now3) where
                after_step : Turn (goes_on (exit_of e3) (pure Again)) registers3 s3 now3
                after_step = goes whole registers0 s0 old S (λ e. goes_on e (pure Again)) registers2 s2 now2 e3 registers3 s3 now3 in_step d3.0 d3.1

                pub step_breaks : goes_round e3 ≡ false → Runs whole registers0 s0 old (Ok end.Through) registers3 s3 now3
                step_breaks p = ends whole registers0 s0 old end.Through registers3 s3 now3 (along whole registers0 s0 old _ _ registers3 s3 now3 (goes_on_off e3 (pure Again) p) after_step)

                pub step_ends : goes_round e3 ≡ true → Runs whole registers0 s0 old (Ok end.Again) registers3 s3 now3
                step_ends p = ends whole registers0 s0 old end.Again registers3 s3 now3 (along whole registers0 s0 old _ _ registers3 s3 now3 (goes_on_on e3 (pure Again) p) after_step)

-- ---- turn after turn: the bound is never met

pub record Turning (a : ℕ) (T B S : Act) (registers0 : List ℕ) (s0 : Outside) (old : Trace) (registers : List ℕ) (s : Outside) (now : Trace) : Type 0 where
  pub bound : ℕ
  pub enough : s.turns < bound
  pub rest : Rest (loop T a B S) registers0 s0 old (turns_below bound T a B S) registers s now

module _ (a : ℕ) (T B S : Act) (registers0 : List ℕ) (s0 : Outside) (old : Trace) where
  pub turns_begin : Turning a T B S registers0 s0 old registers0 s0 old
  turns_begin = record { bound = suc s0.turns; enough = omega arith; rest = λ start g. refl }

  module _ (registers : List ℕ) (s : Outside) (now : Trace) (g : Turning a T B S registers0 s0 old registers s now) where
    record Opened : Type 0 where
      pub less : ℕ
      pub enough : s.turns ≤ less
      pub opens : Rest (loop T a B S) registers0 s0 old (one_turn T a B S >>= (λ e. repeats e (turns_below less T a B S))) registers s now

    opened : Opened
    opened = by g.bound g.enough g.rest
      where
        by : (b : ℕ) → s.turns < b → Rest (loop T a B S) registers0 s0 old (turns_below b T a B S) registers s now → Opened
        by zero lt r = absurd (let h : ⊥ = omega (arith, lt) in h)
        by (suc b) lt r = record { less = b; enough = omega (arith, lt); opens = r }

    pub loop_stops : (q : Bool) (n0 n1 : ℕ) (h : Halt) (registers' : List ℕ) (s' : Outside) (new : Trace) → Kept {A = End} q n0 n1 now (Err h) new → Runs (one_turn T a B S) registers s now (Err h) registers' s' new → Runs (loop T a B S) registers0 s0 old (Err h) registers' s' new
    loop_stops q n0 n1 h registers' s' new k d = stops (loop T a B S) registers0 s0 old (one_turn T a B S) (λ e. repeats e (turns_below opened.less T a B S)) registers s now q n0 n1 h registers' s' new opened.opens k d

    module _ (e : End) (registers' : List ℕ) (s' : Outside) (new : Trace) (grown : Grows now new) (d : Runs (one_turn T a B S) registers s now (Ok e) registers' s' new) where
      after : Rest (loop T a B S) registers0 s0 old (repeats (exit_of e) (turns_below opened.less T a B S)) registers' s' new
      after = goes (loop T a B S) registers0 s0 old (one_turn T a B S) (λ x. repeats x (turns_below opened.less T a B S)) registers s now e registers' s' new opened.opens grown d

      pub loop_ends : comes_again e ≡ false → Runs (loop T a B S) registers0 s0 old (Ok end.Through) registers' s' new
      loop_ends p = ends (loop T a B S) registers0 s0 old end.Through registers' s' new (along (loop T a B S) registers0 s0 old _ _ registers' s' new (repeats_off e (turns_below opened.less T a B S) p) after)

      pub loop_repeats : comes_again e ≡ true → s'.turns < s.turns → Turning a T B S registers0 s0 old registers' s' new
      loop_repeats p lt = record {
        bound = opened.less;
        enough = (let le = opened.enough in omega (arith, lt, le));
        rest = along (loop T a B S) registers0 s0 old _ _ registers' s' new (repeats_on e (turns_below opened.less T a B S) p) after;
      }
