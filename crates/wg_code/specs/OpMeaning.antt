-- What operations do. Where `strict`, one that names what is not there goes wrong; else it reads 0 there and writes nothing. Own.
use Rattle.std.specs.Prelude.{ℕ, ◌+◌, ◌%◌, ◌/◌, ◌^◌, ◌==◌, ◌&&◌, not, Bool, if◌then◌else◌, List, map, length, slice_index, slice_get, Some, None, is_some}
use Rattle.wg_words.specs.Truth.{truth}
use Rattle.wg_machine.specs.Buffers.{buffer_at, word_at, with_word, exchanged}
use Rattle.wg_machine.specs.declared.memory.Atomic.{Atomic}
use Rattle.wg_machine.specs.declared.memory.Atomic.TheVariants as atomic
use Rattle.wg_state.specs.Requests.{target_of, requested, closed}
use Rattle.wg_state.specs.Turns.{Action, Done, ◌>>=◌, ◌>>◌, pure, read, change}
use Rattle.wg_code.specs.declared.op.Op.{Op, fold-Op}
use Rattle.wg_code.specs.declared.op.Op.TheOpen.{Op-F}
use Rattle.wg_code.specs.Flow.{Callees, if_set, in_order, loop, call}
use Rattle.wg_code.specs.Lane.{Around, Site, Exit, Out, Again, Wrong, get, put, puts, changes, ranged, with_ranged}
use Rattle.wg_code.specs.Named.{Tables, names_there}
use Rattle.wg_code.specs.Operators.{unary, binary, half, is_comparison, paired}
use Rattle.wg_code.specs.Records.{in_world, with_buffers, with_input, output_in, grant_of, record_words, with_record}

-- the variant of `Atomic` by its place
abbrev pub atomic_of : ℕ → Atomic
atomic_of op =
    if op == 0 then atomic.Min else
    if op == 1 then atomic.MinSigned else
    if op == 2 then atomic.Max else
    if op == 3 then atomic.MaxSigned else
    if op == 4 then atomic.And else
    if op == 5 then atomic.Or else
    if op == 6 then atomic.Xor else
    if op == 7 then atomic.Add else
    if op == 8 then atomic.Exchange else
    atomic.CompareExchange

abbrev pub get_pair : ℕ → Action Site ℕ
get_pair r = get r >>= (λ low. get (r + 1) >>= (λ high. pure (paired low high)))

abbrev pub put_wide : ℕ → ℕ → ℕ → Action Site Exit
put_wide op d v = if is_comparison op then puts d v else put d (v % 2 ^ 32) >> puts (d + 1) (v / 2 ^ 32)

abbrev pub does : Around → Callees → Op-F (Action Site Exit) → Action Site Exit
does around callees (Op-F.Set d value) = puts d value
does around callees (Op-F.Copy d a) = get a >>= puts d
does around callees (Op-F.Unary op d a) = get a >>= (λ x. puts d (unary op x))
does around callees (Op-F.Binary op d a b) = do
  x ← get a
  y ← get b
  puts d (binary 32 op x y)
does around callees (Op-F.LocalGet d from to index) = do
  at ← get index
  v ← read (λ f. ranged f.registers from to at)
  puts d v
does around callees (Op-F.LocalPut from to index a) = do
  at ← get index
  v ← get a
  changes (λ f. record f { registers = with_ranged f.registers from to at v })
does around callees (Op-F.SharedGet d from to index) = do
  at ← get index
  v ← read (λ f. ranged f.shared from to at)
  puts d v
does around callees (Op-F.SharedPut from to index a) = do
  at ← get index
  v ← get a
  changes (λ f. record f { shared = with_ranged f.shared from to at v })
does around callees (Op-F.SharedAtomic op d from to index compare value) = do
  at ← get index
  c ← get compare
  v ← get value
  old ← read (λ f. ranged f.shared from to at)
  change (λ f. record f { shared = with_ranged f.shared from to at (exchanged (atomic_of op) old c v) })
  puts d old
does around callees (Op-F.InputGet d input word) = do
  i ← get input
  at ← get word
  v ← read (λ f. word_at f.world.inputs i at)
  puts d v
does around callees (Op-F.InputPut input word a) = do
  i ← get input
  at ← get word
  v ← get a
  changes (with_input i at v)
does around callees (Op-F.InputCount d) = read (λ f. length f.world.inputs) >>= puts d
does around callees (Op-F.Level d) = puts d around.level
does around callees (Op-F.System d which) = puts d (slice_index around.numbers which)
does around callees (Op-F.BufferGet d buffer word) = do
  at ← get word
  v ← read (λ f. word_at f.world.buffers buffer at)
  puts d v
does around callees (Op-F.BufferPut buffer word a) = do
  at ← get word
  v ← get a
  changes (with_buffers (λ b. with_word b buffer at v))
does around callees (Op-F.BufferAdd buffer word a) = do
  at ← get word
  v ← get a
  changes (with_buffers (λ b. with_word b buffer at ((word_at b buffer at + v) % 2 ^ 32)))
does around callees (Op-F.BufferAtomic op d buffer word compare value) = do
  at ← get word
  c ← get compare
  v ← get value
  old ← read (λ f. word_at f.world.buffers buffer at)
  change (with_buffers (λ b. with_word b buffer at (exchanged (atomic_of op) old c v)))
  puts d old
does around callees (Op-F.BufferLength d buffer) = read (λ f. length (buffer_at f.world.buffers buffer)) >>= puts d
does around callees (Op-F.Valid d output element) = do
  e ← get element
  puts d (truth (is_some (target_of around.outputs output e)))
does around callees (Op-F.Request handle element amount) = do
  e ← get element
  n ← get amount
  changes (in_world (requested around.outputs (record { handle = Some handle; lane = around.lane; output = output_in (slice_get around.handles handle); element = e; amount = n })))
does around callees (Op-F.Increment output element amount) = do
  e ← get element
  n ← get amount
  changes (in_world (requested around.outputs (record { handle = None; lane = around.lane; output = output; element = e; amount = n })))
does around callees (Op-F.RecordGet d handle index from to word) = do
  i ← get index
  at ← get word
  v ← read (λ f. ranged (record_words around handle i f) from to at)
  puts d v
does around callees (Op-F.RecordPut handle index from to word a) = do
  i ← get index
  at ← get word
  v ← get a
  changes (with_record around handle i (λ words. with_ranged words from to at v))
does around callees (Op-F.Complete handle) = changes (λ f. in_world (closed (grant_of around handle f)) f)
does around callees (Op-F.If a first second) = get a >>= (λ go. if_set go (in_order first) (in_order second))
does around callees (Op-F.Loop test a body step) = loop (in_order test) a (in_order body) (in_order step)
does around callees Op-F.Break = pure Out
does around callees Op-F.Continue = pure Again
does around callees (Op-F.Call function args results) = call (callees function) args results
does around callees (Op-F.Wide op d a b) = do
  x ← get_pair a
  y ← get_pair b
  put_wide op d (binary 64 op x y)
does around callees (Op-F.Half op d a b) = do
  x ← get a
  y ← get b
  puts d (half op x y)
does around callees (Op-F.Last d) = puts d (truth around.last)

-- the tables of a body with so many registers and groupshared words
abbrev pub tables_of : Around → ℕ → ℕ → Tables
tables_of around registers shared = record {
  registers = registers;
  shared = shared;
  buffers = around.buffers;
  outputs = length around.outputs;
  handles = around.handles;
  functions = around.functions;
}

abbrev pub op_step : Bool → Around → Callees → Op-F (Action Site Exit) → Action Site Exit
op_step strict around callees op = λ f t.
    if strict && not (names_there (tables_of around (length f.registers) (length f.shared)) op) then Done Wrong f t else does around callees op f t

abbrev pub op_does : Bool → Around → Callees → Op → Action Site Exit
op_does strict around callees = fold-Op (Action Site Exit) (op_step strict around callees)

abbrev pub ops_do : Bool → Around → Callees → List Op → Action Site Exit
ops_do strict around callees ops = in_order (map (op_does strict around callees) ops)
