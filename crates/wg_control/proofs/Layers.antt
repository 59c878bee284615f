-- What operations do by their parts, and what is left of a list of operations.
use Rattle.std.proofs.Common.{◌≡◌, ◌≢◌, ℕ, zero, suc, ◌+◌, ◌-◌, ◌<◌, Bool, true, false, List, [], ◌∷◌, length, map, drop, get_or, Option, Some, refl, sym, ap, ◌∙◌, subst, drop-cons, add-one, arith}
use Rattle.std.specs.Prelude.{◌&&◌, slice_index, slice_get, unwrap_or, Result}
use Rattle.wg_machine.specs.Agreement.{Trace}
use Rattle.wg_machine.specs.Buffers.{Buffers}
use Rattle.wg_machine.specs.declared.bodies.Halt.{Halt}
use Rattle.wg_state.specs.Turns.{◌>>=◌}
use Rattle.wg_code.specs.Flow.{Callees, through, loop, call}
use Rattle.wg_code.specs.Functions.{in_function, callees}
use Rattle.wg_code.specs.Lane.{Around}
use Rattle.wg_code.specs.OpMeaning.{op_step, op_does, ops_do}
use Rattle.wg_code.specs.Quiet.{are_quiet}
use Rattle.wg_code.specs.declared.code.Function.{Function}
use Rattle.wg_code.specs.declared.op.Op.{Op, fold-roll-Op}
use Rattle.wg_code.specs.declared.op.Op.TheOpen.{Op-F}
use Rattle.wg_code.specs.declared.op.Op.TheVariants as o
use Rattle.wg_registers.specs.Given.{site_of}
use Rattle.wg_registers.specs.declared.outside.Outside.{Outside}
use Rattle.wg_operations.specs.Says.{Runs}
use Rattle.wg_operations.specs.declared.end.End.{End}
use Rattle.wg_leaves.specs.Going.{GoesOn, is_quiet_op}
use Rattle.wg_control.specs.Loops.{functions_quiet, loop_reads_nothing}
use Rattle.wg_control.specs.Silence.{reads_nothing}
use Rattle.wg_control.proofs.Growth.{both_left, both_right, fewer_turns, goes_then, goes_weaker}
use Rattle.wg_control.proofs.Rest.{Act, Rest, along, chosen_first, chosen_second}

module _ (A : Around) (C : Callees) where
  abbrev does_op : Op → Act
  does_op = op_does false A C

  op_If : (a : ℕ) (x y : List Op) → does_op (o.If a x y) ≡ op_step false A C (Op-F.If a (map (op_does false A C) x) (map (op_does false A C) y))
  op_If a x y = ap (op_does false A C) (sym (o.rolls-If a x y)) ∙ fold-roll-Op Act (op_step false A C) _

  op_Loop : (x : List Op) (a : ℕ) (y z : List Op) → does_op (o.Loop x a y z) ≡ op_step false A C (Op-F.Loop (map (op_does false A C) x) a (map (op_does false A C) y) (map (op_does false A C) z))
  op_Loop x a y z = ap (op_does false A C) (sym (o.rolls-Loop x a y z)) ∙ fold-roll-Op Act (op_step false A C) _

  op_Call : (f : ℕ) (args results : List ℕ) → does_op (o.Call f args results) ≡ op_step false A C (Op-F.Call f args results)
  op_Call f args results = ap (op_does false A C) (sym (o.rolls-Call f args results)) ∙ fold-roll-Op Act (op_step false A C) _

  module _ (op : Op) (registers : List ℕ) (s : Outside) (b : Buffers) where
    pub if_first : (a : ℕ) (x y xs : List Op) → op ≡ o.If a x y → xs ≡ x → slice_index registers a ≢ 0
        → op_does false A C op (site_of registers s b) s.turns ≡ ops_do false A C xs (site_of registers s b) s.turns
    if_first a x y xs is same go =
        ap (λ z. op_does false A C z (site_of registers s b) s.turns) is
        ∙ (ap (λ (m : Act). m (site_of registers s b) s.turns) (op_If a x y)
        ∙ (chosen_first a (ops_do false A C x) (ops_do false A C y) (site_of registers s b) s.turns go
        ∙ ap (λ l. ops_do false A C l (site_of registers s b) s.turns) (sym same)))

    pub if_second : (a : ℕ) (x y ys : List Op) → op ≡ o.If a x y → ys ≡ y → slice_index registers a ≡ 0
        → op_does false A C op (site_of registers s b) s.turns ≡ ops_do false A C ys (site_of registers s b) s.turns
    if_second a x y ys is same go =
        ap (λ z. op_does false A C z (site_of registers s b) s.turns) is
        ∙ (ap (λ (m : Act). m (site_of registers s b) s.turns) (op_If a x y)
        ∙ (chosen_second a (ops_do false A C x) (ops_do false A C y) (site_of registers s b) s.turns go
        ∙ ap (λ l. ops_do false A C l (site_of registers s b) s.turns) (sym same)))

    pub loop_is : (x : List Op) (a : ℕ) (y z xs ys zs : List Op) → op ≡ o.Loop x a y z → xs ≡ x → ys ≡ y → zs ≡ z
        → op_does false A C op (site_of registers s b) s.turns ≡ loop (ops_do false A C xs) a (ops_do false A C ys) (ops_do false A C zs) (site_of registers s b) s.turns
    loop_is x a y z xs ys zs is ex ey ez =
        rw (ex, ey, ez)
        (ap (λ v. op_does false A C v (site_of registers s b) s.turns) is ∙ ap (λ (m : Act). m (site_of registers s b) s.turns) (op_Loop x a y z))

    pub call_is : (f : ℕ) (args results xs ys : List ℕ) → op ≡ o.Call f args results → xs ≡ args → ys ≡ results
        → op_does false A C op (site_of registers s b) s.turns ≡ call (C f) xs ys (site_of registers s b) s.turns
    call_is f args results xs ys is ex ey =
        rw (ex, ey)
        (ap (λ v. op_does false A C v (site_of registers s b) s.turns) is ∙ ap (λ (m : Act). m (site_of registers s b) s.turns) (op_Call f args results))

  -- ---- operations one after another

  pub ops_at : (ops : List Op) (i : ℕ) (op : Op) → op ≡ get_or ops i op → i < length ops
      → ops_do false A C (drop i ops) ≡ (op_does false A C op >>= (λ e. through e (ops_do false A C (drop (i + 1) ops))))
  ops_at ops i op e lt =
      ap (ops_do false A C) (drop-cons ops i op lt)
      ∙ (ap (λ x. ops_do false A C (x ∷ drop (suc i) ops)) (sym e)
      ∙ ap (λ n. ops_do false A C (op ∷ drop n ops)) (sym (add-one i)))

  module _ (n : Act) (registers0 : List ℕ) (s0 : Outside) (old : Trace) (ops : List Op) (i : ℕ) (op : Op) (is : op ≡ get_or ops i op) (lt : i < length ops) (registers : List ℕ) (s : Outside) (now : Trace) (r : Rest n registers0 s0 old (ops_do false A C (drop i ops)) registers s now) where
    pub next_op : Rest n registers0 s0 old (op_does false A C op >>= (λ e. through e (ops_do false A C (drop (i + 1) ops)))) registers s now
    next_op = along n registers0 s0 old _ _ registers s now (ops_at ops i op is lt) r

-- ---- quiet operations

pub quiet_within : (q : Bool) (ops : List Op) (i : ℕ) (op : Op) → op ≡ get_or ops i op → i < length ops → (q && are_quiet ops) ≡ true → (q && is_quiet_op op) ≡ true
quiet_within true ops i op is lt e = by ops i op is lt e
  where
    by : (ops : List Op) (i : ℕ) (op : Op) → op ≡ get_or ops i op → i < length ops → are_quiet ops ≡ true → is_quiet_op op ≡ true
    by [] i op is lt e = absurd (let z : i < 0 = lt in omega (arith, z))
    by (x ∷ xs) zero op is lt e = ap is_quiet_op is ∙ both_left (is_quiet_op x) (are_quiet xs) e
    by (x ∷ xs) (suc i) op is lt e = by xs i op is (let z : suc i < suc (length xs) = lt in omega (arith, z)) (both_right (is_quiet_op x) (are_quiet xs) e)
quiet_within false ops i op is lt e = absurd (cc)

quiet_function : (fs : List Function) (i : ℕ) (c : Function) → slice_get fs i ≡ Some c → functions_quiet fs ≡ true → are_quiet c.body ≡ true
quiet_function [] i c e q = absurd (cc)
quiet_function (f ∷ fs) zero c e q = ap (λ (o : Option Function). are_quiet (unwrap_or o f).body) (sym e) ∙ both_left (are_quiet f.body) (functions_quiet fs) q
quiet_function (f ∷ fs) (suc i) c e q = quiet_function fs i c e (both_right (are_quiet f.body) (functions_quiet fs) q)

both : (a b : Bool) → a ≡ true → b ≡ true → (a && b) ≡ true
both true b e h = h
both false b e h = absurd (cc)

pub quiet_called : (fs : List Function) (i : ℕ) (c : Function) → slice_get fs i ≡ Some c → functions_quiet fs ≡ true → (functions_quiet fs && are_quiet c.body) ≡ true
quiet_called fs i c e q = both (functions_quiet fs) (are_quiet c.body) q (quiet_function fs i c e q)

pub quiet_test : (f t b s : Bool) → (f && (t && (b && s))) ≡ true → (f && t) ≡ true
quiet_test true true b s e = refl
quiet_test true false b s e = e
quiet_test false t b s e = e

pub quiet_body : (f t b s : Bool) → (f && (t && (b && s))) ≡ true → (f && b) ≡ true
quiet_body true true true s e = refl
quiet_body true true false s e = e
quiet_body true false b s e = absurd (cc)
quiet_body false t b s e = e

pub quiet_step_of : (f t b s : Bool) → (f && (t && (b && s))) ≡ true → (f && s) ≡ true
quiet_step_of true true true s e = e
quiet_step_of true true false s e = absurd (cc)
quiet_step_of true false b s e = absurd (cc)
quiet_step_of false t b s e = e

-- ---- a loop's turn that ran to its end

module _ (fs : List Function) (test body step : List Op) (n0 n1 n2 n3 : ℕ) (t0 t1 t2 t3 : Trace) where
  abbrev quiet : Bool
  quiet = loop_reads_nothing fs test body step

  pub turn_kept : GoesOn (reads_nothing fs test) n0 n1 t0 t1 → GoesOn (reads_nothing fs body) (n1 - 1) n2 t1 t2 → GoesOn (reads_nothing fs step) n2 n3 t2 t3 → GoesOn quiet n0 n3 t0 t3
  turn_kept g h k =
      goes_then quiet n0 n1 n3 t0 t1 t3 (goes_weaker quiet (reads_nothing fs test) (quiet_test (functions_quiet fs) (are_quiet test) (are_quiet body) (are_quiet step)) n0 n1 t0 t1 g)
      (goes_then quiet n1 (n1 - 1) n3 t1 t1 t3 (fewer_turns quiet n1 (n1 - 1) t1 (omega arith))
      (goes_then quiet (n1 - 1) n2 n3 t1 t2 t3 (goes_weaker quiet (reads_nothing fs body) (quiet_body (functions_quiet fs) (are_quiet test) (are_quiet body) (are_quiet step)) (n1 - 1) n2 t1 t2 h)
      (goes_weaker quiet (reads_nothing fs step) (quiet_step_of (functions_quiet fs) (are_quiet test) (are_quiet body) (are_quiet step)) n2 n3 t2 t3 k)))

-- ---- a function's own registers

pub inner_runs : (A B : Around) → B ≡ in_function A → (depth : ℕ) (ops : List Op) (registers : List ℕ) (s : Outside) (old : Trace) (r : Result End Halt) (registers' : List ℕ) (s' : Outside) (new : Trace)
    → Runs (ops_do false B (callees false (in_function B) depth) ops) registers s old r registers' s' new → Runs (ops_do false (in_function A) (callees false (in_function A) depth) ops) registers s old r registers' s' new
inner_runs A B e depth ops registers s old r registers' s' new d =
    subst (λ (X : Around). Runs (ops_do false X (callees false (in_function X) depth) ops) registers s old r registers' s' new) e d
