-- Which of the operations that hold no others are valid, and of those the ones that are left where a kind is done. Own.
use Rattle.std.specs.Prelude.{true}
use Rattle.wg_code.specs.Valid.{Scope, Judged, valid_step}
use Rattle.wg_code.specs.declared.op.Op.{Op, fold-Op}
use Rattle.wg_code.specs.declared.op.Op.TheOpen.{Op-F}

abbrev pub always : Judged
always in_loop = true

abbrev pub leaf_step : Scope → Op-F Judged → Judged
leaf_step k (Op-F.If a first second) = always
leaf_step k (Op-F.Loop test a body step) = always
leaf_step k Op-F.Break = always
leaf_step k Op-F.Continue = always
leaf_step k (Op-F.Call function args results) = always
leaf_step k op = valid_step k op

abbrev pub leaf_valid : Scope → Op → Judged
leaf_valid k = fold-Op Judged (leaf_step k)

-- without those on registers, input records and what stays the same
abbrev pub outer_step : Scope → Op-F Judged → Judged
outer_step k (Op-F.Set d value) = always
outer_step k (Op-F.Copy d a) = always
outer_step k (Op-F.Unary op d a) = always
outer_step k (Op-F.Binary op d a b) = always
outer_step k (Op-F.Half op d a b) = always
outer_step k (Op-F.Wide op d a b) = always
outer_step k (Op-F.LocalGet d from to index) = always
outer_step k (Op-F.LocalPut from to index a) = always
outer_step k (Op-F.InputGet d input word) = always
outer_step k (Op-F.InputPut input word a) = always
outer_step k (Op-F.InputCount d) = always
outer_step k (Op-F.Level d) = always
outer_step k (Op-F.Last d) = always
outer_step k (Op-F.System d which) = always
outer_step k op = leaf_step k op

abbrev pub outer_valid : Scope → Op → Judged
outer_valid k = fold-Op Judged (outer_step k)

-- and without those on groupshared words
abbrev pub buffers_step : Scope → Op-F Judged → Judged
buffers_step k (Op-F.SharedGet d from to index) = always
buffers_step k (Op-F.SharedPut from to index a) = always
buffers_step k (Op-F.SharedAtomic op d from to index compare value) = always
buffers_step k op = outer_step k op

abbrev pub buffers_valid : Scope → Op → Judged
buffers_valid k = fold-Op Judged (buffers_step k)

-- and without those on buffers
abbrev pub records_step : Scope → Op-F Judged → Judged
records_step k (Op-F.BufferGet d buffer word) = always
records_step k (Op-F.BufferPut buffer word a) = always
records_step k (Op-F.BufferAdd buffer word a) = always
records_step k (Op-F.BufferAtomic op d buffer word compare value) = always
records_step k (Op-F.BufferLength d buffer) = always
records_step k op = buffers_step k op

abbrev pub records_valid : Scope → Op → Judged
records_valid k = fold-Op Judged (records_step k)
