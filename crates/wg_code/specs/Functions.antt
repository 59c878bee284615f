-- What functions do when they are called. Own.
use Rattle.std.specs.Prelude.{ℕ, zero, suc, ◌-◌, ◌&&◌, not, nat_le, Bool, true, false, if◌then◌else◌, List, [], ◌++◌, drop, take, replicate, slice_get, Option, Some, None}
use Rattle.wg_state.specs.Turns.{Ending, Spent, Done, pure}
use Rattle.wg_code.specs.declared.code.Function.{Function}
use Rattle.wg_code.specs.Flow.{Outside, Callee, Callees}
use Rattle.wg_code.specs.Lane.{Around, Site, Exit, Through, Out, Again, Wrong}
use Rattle.wg_code.specs.OpMeaning.{ops_do}

-- whether a body went wrong; a `Break` or `Continue` outside a loop has no target
abbrev pub went_wrong : Bool → Exit → Bool
went_wrong strict Through = false
went_wrong strict Out = strict
went_wrong strict Again = strict
went_wrong strict Wrong = true

abbrev pub unless : {A : Type 0} → Bool → A → Option A
unless wrong a = if wrong then None else Some a

abbrev pub results_from : Bool → ℕ → Ending Site Exit → Ending Outside (Option (List ℕ))
results_from strict first Spent = Spent
results_from strict first (Done exit f t) = Done (unless (went_wrong strict exit) (drop first f.registers)) (f.shared, f.world) t

-- the arguments, then zeros
abbrev pub first_registers : ℕ → List ℕ → List ℕ
first_registers registers args = take registers (args ++ replicate registers 0)

abbrev pub has_room : Function → Bool
has_room c = nat_le c.params c.registers && nat_le c.results c.registers

-- a function names no output and no handle
abbrev pub in_function : Around → Around
in_function around = record around { handles = []; outputs = [] }

abbrev pub body_runs : Bool → Around → Callees → Function → Callee
body_runs strict around callees c args w t =
    results_from strict (c.registers - c.results) (ops_do strict around callees c.body (record { registers = first_registers c.registers args; shared = w.0; world = w.1 }) t)

-- a function that is not there, or that calls nest too deep for
abbrev pub missing : Bool → Callee
missing strict args = pure (unless strict [])

abbrev pub callee_at : Bool → Around → Callees → Option Function → Callee
callee_at strict around callees None = missing strict
callee_at strict around callees (Some c) = if strict && not (has_room c) then missing true else body_runs strict around callees c

-- the functions, where calls nest at most this deep
abbrev pub callees : Bool → Around → ℕ → Callees
callees strict around zero = λ f. missing strict
callees strict around (suc depth) = λ f. callee_at strict around (callees strict around depth) (slice_get around.functions f)
