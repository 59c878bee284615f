-- What the operations do that hold no others and call no function, and of those the ones that are left where a kind is done. Own.
use Rattle.std.specs.Prelude.{false}
use Rattle.wg_state.specs.Turns.{Action, pure}
use Rattle.wg_code.specs.Functions.{missing}
use Rattle.wg_code.specs.Lane.{Around, Site, Exit, Through}
use Rattle.wg_code.specs.OpMeaning.{does}
use Rattle.wg_code.specs.declared.op.Op.{Op, fold-Op}
use Rattle.wg_code.specs.declared.op.Op.TheOpen.{Op-F}

abbrev pub leaf_step : Around → Op-F (Action Site Exit) → Action Site Exit
leaf_step around (Op-F.If a first second) = pure Through
leaf_step around (Op-F.Loop test a body step) = pure Through
leaf_step around Op-F.Break = pure Through
leaf_step around Op-F.Continue = pure Through
leaf_step around (Op-F.Call function args results) = pure Through
leaf_step around op = does around (λ f. missing false) op

abbrev pub leaf_does : Around → Op → Action Site Exit
leaf_does around = fold-Op (Action Site Exit) (leaf_step around)

-- without those of shared buffers
abbrev pub asked_step : Around → Op-F (Action Site Exit) → Action Site Exit
asked_step around (Op-F.BufferGet d buffer word) = pure Through
asked_step around (Op-F.BufferPut buffer word a) = pure Through
asked_step around (Op-F.BufferAdd buffer word a) = pure Through
asked_step around (Op-F.BufferAtomic op d buffer word compare value) = pure Through
asked_step around (Op-F.BufferLength d buffer) = pure Through
asked_step around op = leaf_step around op

abbrev pub asked_does : Around → Op → Action Site Exit
asked_does around = fold-Op (Action Site Exit) (asked_step around)

-- and without those that may want memory
abbrev pub sure_step : Around → Op-F (Action Site Exit) → Action Site Exit
sure_step around (Op-F.InputCount d) = pure Through
sure_step around (Op-F.Request handle element amount) = pure Through
sure_step around (Op-F.Increment output element amount) = pure Through
sure_step around op = asked_step around op

abbrev pub sure_does : Around → Op → Action Site Exit
sure_does around = fold-Op (Action Site Exit) (sure_step around)

-- and without those on registers alone
abbrev pub outer_step : Around → Op-F (Action Site Exit) → Action Site Exit
outer_step around (Op-F.Set d value) = pure Through
outer_step around (Op-F.Copy d a) = pure Through
outer_step around (Op-F.Unary op d a) = pure Through
outer_step around (Op-F.Binary op d a b) = pure Through
outer_step around (Op-F.Half op d a b) = pure Through
outer_step around (Op-F.Wide op d a b) = pure Through
outer_step around (Op-F.LocalGet d from to index) = pure Through
outer_step around (Op-F.LocalPut from to index a) = pure Through
outer_step around op = sure_step around op

abbrev pub outer_does : Around → Op → Action Site Exit
outer_does around = fold-Op (Action Site Exit) (outer_step around)

-- and without those on groupshared words and input records
abbrev pub records_step : Around → Op-F (Action Site Exit) → Action Site Exit
records_step around (Op-F.SharedGet d from to index) = pure Through
records_step around (Op-F.SharedPut from to index a) = pure Through
records_step around (Op-F.SharedAtomic op d from to index compare value) = pure Through
records_step around (Op-F.InputGet d input word) = pure Through
records_step around (Op-F.InputPut input word a) = pure Through
records_step around op = outer_step around op

abbrev pub records_does : Around → Op → Action Site Exit
records_does around = fold-Op (Action Site Exit) (records_step around)

-- and without those on new records
abbrev pub given_step : Around → Op-F (Action Site Exit) → Action Site Exit
given_step around (Op-F.RecordGet d handle index from to word) = pure Through
given_step around (Op-F.RecordPut handle index from to word a) = pure Through
given_step around (Op-F.Complete handle) = pure Through
given_step around op = records_step around op

abbrev pub given_does : Around → Op → Action Site Exit
given_does around = fold-Op (Action Site Exit) (given_step around)
