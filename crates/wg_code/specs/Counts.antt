-- How many operations and requests code has, and how deep its blocks nest.
use Rattle.std.specs.Prelude.{ℕ, ◌+◌, max, List, [], ◌∷◌, map}
use Rattle.wg_code.specs.declared.code.Part.{Part, fold-Part}
use Rattle.wg_code.specs.declared.code.Part.TheOpen.{Part-F}
use Rattle.wg_code.specs.declared.op.Op.{Op, fold-Op}
use Rattle.wg_code.specs.declared.op.Op.TheOpen.{Op-F}

abbrev pub total : List ℕ → ℕ
total [] = 0
total (n ∷ rest) = n + total rest

abbrev pub greatest : List ℕ → ℕ
greatest [] = 0
greatest (n ∷ rest) = max n (greatest rest)

-- ---- `Request` and `Increment` together

abbrev pub requests_step : Op-F ℕ → ℕ
requests_step (Op-F.Request handle element amount) = 1
requests_step (Op-F.Increment output element amount) = 1
requests_step (Op-F.If a first second) = total first + total second
requests_step (Op-F.Loop test a body step) = total test + (total body + total step)
requests_step _ = 0

abbrev pub requests_in : List Op → ℕ
requests_in ops = total (map (fold-Op ℕ requests_step) ops)

abbrev pub part_requests : Part-F ℕ → ℕ
part_requests (Part-F.Lanes body) = requests_in body
part_requests (Part-F.First body) = requests_in body
part_requests (Part-F.Choose a first second) = total first + total second

abbrev pub requests_in_parts : List Part → ℕ
requests_in_parts parts = total (map (fold-Part ℕ part_requests) parts)

-- ---- operations

abbrev pub count_step : Op-F ℕ → ℕ
count_step (Op-F.If a first second) = total first + total second + 1
count_step (Op-F.Loop test a body step) = total test + (total body + total step) + 1
count_step _ = 1

abbrev pub count_of : List Op → ℕ
count_of ops = total (map (fold-Op ℕ count_step) ops)

-- ---- blocks: the list itself is one, and an operation's blocks are one deeper than it

abbrev pub nesting_step : Op-F ℕ → ℕ
nesting_step (Op-F.If a first second) = max (greatest first) (greatest second) + 1
nesting_step (Op-F.Loop test a body step) = max (greatest test) (max (greatest body) (greatest step)) + 1
nesting_step _ = 0

abbrev pub nesting_of : List Op → ℕ
nesting_of ops = greatest (map (fold-Op ℕ nesting_step) ops) + 1
