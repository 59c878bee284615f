-- Operations in front that only set registers, and those behind them.
use Rattle.std.proofs.Common.{◌≡◌, ℕ, zero, suc, ◌+◌, ◌-◌, ◌≤◌, ◌<◌, Bool, true, false, List, [], ◌∷◌, length, drop, take, get_or, refl, sym, ap, ◌∙◌, subst, arith}
use Rattle.std.specs.Prelude.{◌&&◌, Result}
use Rattle.std.proofs.lemmas.List.{take_rest}
use Rattle.wg_machine.specs.Agreement.{Trace, now_of}
use Rattle.wg_machine.specs.Buffers.{Buffers}
use Rattle.wg_machine.specs.declared.bodies.Halt.{Halt}
use Rattle.wg_state.specs.Turns.{Ending, Done, and_then}
use Rattle.wg_code.specs.Counts.{count_of}
use Rattle.wg_code.specs.Flow.{Callees, through}
use Rattle.wg_code.specs.Lane.{Around, Site, Exit, Through}
use Rattle.wg_code.specs.OpMeaning.{op_does, ops_do}
use Rattle.wg_code.specs.Quiet.{are_quiet}
use Rattle.wg_code.specs.declared.op.Op.{Op}
use Rattle.wg_registers.specs.Given.{site_of}
use Rattle.wg_registers.specs.declared.outside.Outside.{Outside}
use Rattle.wg_operations.specs.Says.{Says, Runs}
use Rattle.wg_operations.specs.declared.end.End.{End}
use Rattle.wg_leaves.specs.Going.{is_quiet_op}
use Rattle.wg_control.proofs.Growth.{both_right}
use Rattle.wg_control.proofs.Layers.{ops_at}
use Rattle.wg_control.proofs.Rest.{Act}

-- one operation more
pub set_next : (A : Around) (C : Callees) (ops : List Op) (i : ℕ) (op : Op) → op ≡ get_or ops i op → i < length ops → (registers registers' : List ℕ) (s : Outside) (b : Buffers) (t : ℕ)
    → op_does false A C op (site_of registers s b) t ≡ Done Through (site_of registers' s b) t → ops_do false A C (drop i ops) (site_of registers s b) t ≡ ops_do false A C (drop (i + 1) ops) (site_of registers' s b) t
set_next A C ops i op is lt registers registers' s b t e =
    ap (λ (m : Act). m (site_of registers s b) t) (ops_at A C ops i op is lt)
    ∙ ap (λ (o : Ending Site Exit). and_then o (λ x. through x (ops_do false A C (drop (i + 1) ops)))) e

-- what is run behind operations that only set registers
pub set_before : (m p : Act) (registers0 registers : List ℕ) (s : Outside) (old : Trace) (r : Result End Halt) (registers' : List ℕ) (s' : Outside) (new : Trace)
    → ((b : Buffers) → m (site_of registers0 s b) s.turns ≡ p (site_of registers s b) s.turns) → Runs p registers s old r registers' s' new → Runs m registers0 s old r registers' s' new
set_before m p registers0 registers s old r registers' s' new e d = λ start a.
    subst (λ (o : Ending Site Exit). Says o r registers' s' (now_of new start)) (sym (e (now_of old start))) (d start a)

quiet_dropped : (q : Bool) (ops : List Op) (n : ℕ) → (q && are_quiet ops) ≡ true → (q && are_quiet (drop n ops)) ≡ true
quiet_dropped true ops n e = by ops n e
  where
    by : (ops : List Op) (n : ℕ) → are_quiet ops ≡ true → are_quiet (drop n ops) ≡ true
    by ops zero e = e
    by [] (suc n) e = refl
    by (x ∷ xs) (suc n) e = by xs n (both_right (is_quiet_op x) (are_quiet xs) e)
quiet_dropped false ops n e = absurd (cc)

count_dropped : (ops : List Op) (n : ℕ) → count_of (drop n ops) ≤ count_of ops
count_dropped ops zero = omega arith
count_dropped [] (suc n) = omega arith
count_dropped (x ∷ xs) (suc n) = let h = count_dropped xs n in omega (arith, h)

-- a slice of the operations behind the first n
abbrev pub behind : List Op → ℕ → List Op
behind ops n = take (length ops - n) (drop n ops)

pub quiet_behind : (q : Bool) (ops : List Op) (n : ℕ) → (q && are_quiet ops) ≡ true → (q && are_quiet (behind ops n)) ≡ true
quiet_behind q ops n e = subst (λ (l : List Op). (q && are_quiet l) ≡ true) (sym (take_rest ops n)) (quiet_dropped q ops n e)

pub count_behind : (ops : List Op) (n : ℕ) → count_of (behind ops n) ≤ count_of ops
count_behind ops n = let e = ap count_of (take_rest ops n) in let h = count_dropped ops n in omega (arith, e, h)
