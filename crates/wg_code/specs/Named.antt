-- Whether all that an operation names is there: registers, words of a frame, buffers, outputs, handles, functions, and numbers of operators.
use Rattle.std.specs.Prelude.{ℕ, ◌+◌, Bool, true, false, ◌&&◌, nat_lt, nat_le, if◌then◌else◌, ◌==◌, List, [], ◌∷◌, length, slice_get, Option, Some, None}
use Rattle.std.specs.List.{list_all}
use Rattle.wg_code.specs.declared.op.Op.TheOpen.{Op-F}
use Rattle.wg_code.specs.declared.code.Function.{Function}
use Rattle.wg_code.specs.declared.code.Handle.{Handle}
use Rattle.wg_code.specs.Operators.{is_comparison}

-- the tables of a body, by their sizes
pub record Tables : Type 0 where
  pub registers : ℕ
  pub shared : ℕ
  pub buffers : ℕ
  pub outputs : ℕ
  pub handles : List Handle
  pub functions : List Function

abbrev pub below : ℕ → List ℕ → Bool
below n registers = list_all (λ r. nat_lt r n) registers

abbrev pub is_range : ℕ → ℕ → ℕ → Bool
is_range n from to = nat_le from to && nat_le to n

abbrev pub is_handle : ℕ → Option Handle → Bool
is_handle outputs None = false
is_handle outputs (Some h) = nat_lt h.output outputs

-- as many registers as the function has parameters, and as many as it has results
abbrev pub takes : ℕ → ℕ → Option Function → Bool
takes args results None = false
takes args results (Some f) = (args == f.params) && (results == f.results)

-- the registers of a number of 64 bits
abbrev pub pair : ℕ → List ℕ
pair r = r ∷ (r + 1) ∷ []

abbrev pub wide_target : ℕ → ℕ → List ℕ
wide_target op d = if is_comparison op then d ∷ [] else pair d

abbrev pub names_there : {A : Type 0} → Tables → Op-F A → Bool
names_there k (Op-F.Set d value) = below k.registers (d ∷ [])
names_there k (Op-F.Copy d a) = below k.registers (d ∷ a ∷ [])
names_there k (Op-F.Unary op d a) = nat_lt op 5 && below k.registers (d ∷ a ∷ [])
names_there k (Op-F.Binary op d a b) = nat_lt op 16 && below k.registers (d ∷ a ∷ b ∷ [])
names_there k (Op-F.LocalGet d from to index) = is_range k.registers from to && below k.registers (d ∷ index ∷ [])
names_there k (Op-F.LocalPut from to index a) = is_range k.registers from to && below k.registers (index ∷ a ∷ [])
names_there k (Op-F.SharedGet d from to index) = is_range k.shared from to && below k.registers (d ∷ index ∷ [])
names_there k (Op-F.SharedPut from to index a) = is_range k.shared from to && below k.registers (index ∷ a ∷ [])
names_there k (Op-F.SharedAtomic op d from to index compare value) =
    nat_lt op 10 && (is_range k.shared from to && below k.registers (d ∷ index ∷ compare ∷ value ∷ []))
names_there k (Op-F.InputGet d input word) = below k.registers (d ∷ input ∷ word ∷ [])
names_there k (Op-F.InputPut input word a) = below k.registers (input ∷ word ∷ a ∷ [])
names_there k (Op-F.InputCount d) = below k.registers (d ∷ [])
names_there k (Op-F.Level d) = below k.registers (d ∷ [])
names_there k (Op-F.System d which) = nat_lt which 10 && below k.registers (d ∷ [])
names_there k (Op-F.BufferGet d buffer word) = nat_lt buffer k.buffers && below k.registers (d ∷ word ∷ [])
names_there k (Op-F.BufferPut buffer word a) = nat_lt buffer k.buffers && below k.registers (word ∷ a ∷ [])
names_there k (Op-F.BufferAdd buffer word a) = nat_lt buffer k.buffers && below k.registers (word ∷ a ∷ [])
names_there k (Op-F.BufferAtomic op d buffer word compare value) =
    nat_lt op 10 && (nat_lt buffer k.buffers && below k.registers (d ∷ word ∷ compare ∷ value ∷ []))
names_there k (Op-F.BufferLength d buffer) = nat_lt buffer k.buffers && below k.registers (d ∷ [])
names_there k (Op-F.Valid d output element) = nat_lt output k.outputs && below k.registers (d ∷ element ∷ [])
names_there k (Op-F.Request handle element amount) =
    is_handle k.outputs (slice_get k.handles handle) && below k.registers (element ∷ amount ∷ [])
names_there k (Op-F.Increment output element amount) = nat_lt output k.outputs && below k.registers (element ∷ amount ∷ [])
names_there k (Op-F.RecordGet d handle index from to word) =
    is_handle k.outputs (slice_get k.handles handle) && (nat_le from to && below k.registers (d ∷ index ∷ word ∷ []))
names_there k (Op-F.RecordPut handle index from to word a) =
    is_handle k.outputs (slice_get k.handles handle) && (nat_le from to && below k.registers (index ∷ word ∷ a ∷ []))
names_there k (Op-F.Complete handle) = is_handle k.outputs (slice_get k.handles handle)
names_there k (Op-F.If a first second) = below k.registers (a ∷ [])
names_there k (Op-F.Loop test a body step) = below k.registers (a ∷ [])
names_there k Op-F.Break = true
names_there k Op-F.Continue = true
names_there k (Op-F.Call function args results) =
    takes (length args) (length results) (slice_get k.functions function) && (below k.registers args && below k.registers results)
names_there k (Op-F.Wide op d a b) =
    nat_lt op 16 && (below k.registers (wide_target op d) && (below k.registers (pair a) && below k.registers (pair b)))
names_there k (Op-F.Half op d a b) = nat_lt op 16 && below k.registers (d ∷ a ∷ b ∷ [])
names_there k (Op-F.Last d) = below k.registers (d ∷ [])
