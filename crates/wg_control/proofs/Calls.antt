-- What a call does, by what the function's body does.
use Rattle.std.proofs.Common.{◌≡◌, ◌≢◌, ℕ, zero, suc, ◌-◌, false, List, [], ◌∷◌, ◌++◌, length, map, take, drop, Some, None, refl, sym, ap, ◌∙◌, arith}
use Rattle.std.specs.Prelude.{slice_index, slice_get, Ok, Err}
use Rattle.std.proofs.Math.Seq.{take-append_seam}
use Rattle.wg_machine.specs.Agreement.{Trace, now_of}
use Rattle.wg_machine.specs.Buffers.{Buffers}
use Rattle.wg_machine.specs.declared.bodies.Halt.{Halt}
use Rattle.wg_machine.specs.declared.bodies.Halt.TheVariants as halt
use Rattle.wg_state.specs.Turns.{Ending, Done, and_then}
use Rattle.wg_code.specs.Flow.{Callee, Callees, with_registers, give_back, call}
use Rattle.wg_code.specs.Functions.{results_from, first_registers, body_runs, missing, callees}
use Rattle.wg_code.specs.Lane.{Around, Site, Exit, Through, set_all}
use Rattle.wg_code.specs.OpMeaning.{ops_do}
use Rattle.wg_code.specs.declared.code.Function.{Function}
use Rattle.wg_code.specs.declared.op.Op.{Op}
use Rattle.wg_registers.specs.Given.{site_of}
use Rattle.wg_registers.specs.declared.outside.Outside.{Outside}
use Rattle.wg_operations.specs.Says.{exit_of, Runs}
use Rattle.wg_operations.specs.declared.end.End.{End}
use Rattle.wg_operations.specs.declared.end.End.TheVariants as end

set_nothing : (words registers : List ℕ) → set_all words registers [] ≡ words
set_nothing words [] = refl
set_nothing words (r ∷ rest) = refl

-- a function that is not there
module _ (callee : Callee) (none : callee ≡ missing false) (args results registers : List ℕ) (s : Outside) (old : Trace) where
  pub nothing_called : Runs (call callee args results) registers s old (Ok end.Through) registers s old
  nothing_called = λ start a.
      ap (λ (c : Callee). call c args results (site_of registers s (now_of old start)) s.turns) none
      ∙ ap (λ words. Done Through (site_of words s (now_of old start)) s.turns) (set_nothing registers results)

pub none_nested : (A : Around) (depth f : ℕ) → depth ≡ 0 → callees false A depth f ≡ missing false
none_nested A zero f e = refl
none_nested A (suc depth) f e = absurd (cc)

pub none_there : (A : Around) (depth f : ℕ) → slice_get A.functions f ≡ None → callees false A depth f ≡ missing false
none_there A zero f e = refl
none_there A (suc depth) f e = rw e refl

pub one_there : (A : Around) (depth f : ℕ) (c : Function) → depth ≢ 0 → slice_get A.functions f ≡ Some c → callees false A depth f ≡ body_runs false A (callees false A (depth - 1)) c
one_there A zero f c n e = absurd (n refl)
one_there A (suc depth) f c n e =
    let less : suc depth - 1 ≡ depth = omega arith in
    rw (e, less) refl

pub called_same : (one two : Callee) (args results registers : List ℕ) (s : Outside) (b : Buffers) → one ≡ two
    → call one args results (site_of registers s b) s.turns ≡ call two args results (site_of registers s b) s.turns
called_same one two args results registers s b e = ap (λ (c : Callee). call c args results (site_of registers s b) s.turns) e

-- the words of a list written back as a whole
pub whole_again : (n : ℕ) (words old : List ℕ) → length words ≡ n → take n (words ++ drop (length words) old) ≡ words
whole_again n words old e = ap (λ k. take k (words ++ drop (length words) old)) (sym e) ∙ take-append_seam words (drop (length words) old)

-- ---- a function that is there

module _ (A : Around) (C : Callees) (c : Function) (args results registers : List ℕ) (s : Outside) (old : Trace) where
  abbrev own : List ℕ
  own = first_registers c.registers (map (λ (r : ℕ). slice_index registers r) args)

  abbrev given : Ending Site Exit → Ending Site Exit
  given o = and_then (with_registers registers (results_from false (c.registers - c.results) o)) (give_back results)

  given_back : (e : End) (words : List ℕ) (s' : Outside) (b : Buffers)
      → given (Done (exit_of e) (site_of words s' b) s'.turns) ≡ Done Through (site_of (set_all registers results (drop (c.registers - c.results) words)) s' b) s'.turns
  given_back end.Through words s' b = refl
  given_back end.Out words s' b = refl
  given_back end.Again words s' b = refl

  module _ (first : List ℕ) (is_first : first ≡ own) (ops : List Op) (is_body : ops ≡ c.body) where
    inside : (b : Buffers) → call (body_runs false A C c) args results (site_of registers s b) s.turns ≡ given (ops_do false A C ops (site_of first s b) s.turns)
    inside b = sym (ap (λ words. given (ops_do false A C ops (site_of words s b) s.turns)) is_first ∙ ap (λ l. given (ops_do false A C l (site_of own s b) s.turns)) is_body)

    pub function_ends : (e : End) (words : List ℕ) (s' : Outside) (new : Trace) (back : List ℕ) → Runs (ops_do false A C ops) first s old (Ok e) words s' new
        → back ≡ set_all registers results (drop (c.registers - c.results) words) → Runs (call (body_runs false A C c) args results) registers s old (Ok end.Through) back s' new
    function_ends e words s' new back d is = λ start a.
        inside (now_of old start)
        ∙ (ap given (d start a)
        ∙ (given_back e words s' (now_of new start)
        ∙ ap (λ l. Done Through (site_of l s' (now_of new start)) s'.turns) (sym is)))

    pub function_stops : (h : Halt) (words : List ℕ) (s' : Outside) (new : Trace) (words' : List ℕ) → Runs (ops_do false A C ops) first s old (Err h) words s' new
        → Runs (call (body_runs false A C c) args results) registers s old (Err h) words' s' new
    function_stops halt.Turns words s' new words' d = λ start a. inside (now_of old start) ∙ ap given (d start a)
    function_stops halt.Memory words s' new words' d = λ start a. tt
