-- Operations one after another, loops and calls. Each loop body entered takes one turn. Own.
use Rattle.std.specs.Prelude.{ℕ, zero, suc, if◌then◌else◌, List, [], ◌∷◌, Option, Some, None}
use Rattle.wg_words.specs.Truth.{is_true}
use Rattle.wg_state.specs.Turns.{Action, Ending, Spent, Done, ◌>>=◌, ◌>>◌, pure, read, turn}
use Rattle.wg_state.specs.declared.world.World.{World}
use Rattle.wg_code.specs.Lane.{Site, Exit, Through, Out, Again, Wrong, get, get_all, set_all, changes}

abbrev pub if_set : {A : Type 0} → ℕ → Action Site A → Action Site A → Action Site A
if_set word first second = if is_true word then first else second

abbrev pub through : Exit → Action Site Exit → Action Site Exit
through Through rest = rest
through Out rest = pure Out
through Again rest = pure Again
through Wrong rest = pure Wrong

abbrev pub in_order : List (Action Site Exit) → Action Site Exit
in_order [] = pure Through
in_order (m ∷ rest) = m >>= (λ exit. through exit (in_order rest))

-- ---- loops: a `Break` or `Continue` in the test or in the step is the loop's own

abbrev pub goes_on : Exit → Action Site Exit → Action Site Exit
goes_on Through again = again
goes_on Again again = again
goes_on Out again = pure Through
goes_on Wrong again = pure Wrong

abbrev pub stepped : Action Site Exit → Action Site Exit
stepped step = step >>= (λ end. goes_on end (pure Again))

abbrev pub body_then_step : Action Site Exit → Action Site Exit → Action Site Exit
body_then_step body step = body >>= (λ end. goes_on end (stepped step))

abbrev pub tested : ℕ → Action Site Exit → Action Site Exit → Action Site Exit
tested a body step = get a >>= (λ go. if_set go (turn >> body_then_step body step) (pure Through))

-- a test and the turn after it, if one is taken; it ends `Again` where the loop goes on
abbrev pub one_turn : Action Site Exit → ℕ → Action Site Exit → Action Site Exit → Action Site Exit
one_turn test a body step = test >>= (λ end. goes_on end (tested a body step))

abbrev pub repeats : Exit → Action Site Exit → Action Site Exit
repeats Through more = pure Through
repeats Again more = more
repeats Out more = pure Through
repeats Wrong more = pure Wrong

abbrev pub turns_below : ℕ → Action Site Exit → ℕ → Action Site Exit → Action Site Exit → Action Site Exit
turns_below zero test a body step = λ f t. Spent
turns_below (suc bound) test a body step = one_turn test a body step >>= (λ end. repeats end (turns_below bound test a body step))

-- each body entered takes one of the turns left, so the bound is never met
abbrev pub loop : Action Site Exit → ℕ → Action Site Exit → Action Site Exit → Action Site Exit
loop test a body step = λ f t. turns_below (suc t) test a body step f t

-- ---- calls

-- the groupshared words, and the rest that lanes share
abbrev pub Outside : Type 0
Outside = List ℕ × World

-- what a function does with its arguments: its results, or none where it went wrong
abbrev pub Callee : Type 0
Callee = List ℕ → Action Outside (Option (List ℕ))

abbrev pub Callees : Type 0
Callees = ℕ → Callee

abbrev pub with_registers : {A : Type 0} → List ℕ → Ending Outside A → Ending Site A
with_registers registers Spent = Spent
with_registers registers (Done a w t) = Done a (record { registers = registers; shared = w.0; world = w.1 }) t

abbrev pub on_outside : {A : Type 0} → Action Outside A → Action Site A
on_outside m = λ f t. with_registers f.registers (m (f.shared, f.world) t)

abbrev pub give_back : List ℕ → Option (List ℕ) → Action Site Exit
give_back results None = pure Wrong
give_back results (Some words) = changes (λ f. record f { registers = set_all f.registers results words })

abbrev pub call : Callee → List ℕ → List ℕ → Action Site Exit
call callee args results = do
  values ← read (get_all args)
  back ← on_outside (callee values)
  give_back results back
