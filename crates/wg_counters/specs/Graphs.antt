-- Two graphs that the counters run on. This project's own.
use Rattle.std.specs.Prelude.{ℕ, Bool, true, false, List, [], ◌∷◌, Option, Some, None, codes}
use Rattle.wg_machine.specs.declared.shape.Kind.TheVariants.{Thread, Coalescing, GridField}
use Rattle.wg_machine.specs.declared.shape.Output.{Output}
use Rattle.wg_machine.specs.declared.shape.Shape.{Shape}
use Rattle.wg_machine.specs.declared.shape.Unit.{Unit}

abbrev pub one_output : Option ℕ → ℕ → List Output
one_output target words = record { budget = 0; words = words; elements = target ∷ [] } ∷ []

-- a level of a thread node that sends at most two records to the level below
abbrev pub split_unit : ℕ → ℕ → Bool → Option ℕ → Unit
split_unit level depth entry target =
    record {
      node = 0;
      level = level;
      depth = depth;
      words = 1;
      stride = 4;
      kind = Thread;
      entry = entry;
      budgets = 2 ∷ [];
      outputs = one_output target 1;
      bools = [];
      shared = false;
    }

-- one thread node at the levels 2, 1 and 0, and no buffer
abbrev pub splits_shape : Shape
splits_shape =
    record {
      nodes = record { name = codes "Split"; index = 0 } ∷ [];
      units = split_unit 2 1 true (Some 1) ∷ split_unit 1 2 false (Some 2) ∷ split_unit 0 3 false None ∷ [];
      buffers = [];
    }

-- a broadcasting node whose groups share their record, which holds a grid of at most 4096 x 4095, and which sends one
-- record
abbrev pub sheet_unit : Unit
sheet_unit =
    record {
      node = 0;
      level = 0;
      depth = 1;
      words = 2;
      stride = 8;
      kind = GridField 0 2 4096 4095 1;
      entry = true;
      budgets = 1 ∷ [];
      outputs = one_output (Some 1) 2;
      bools = [];
      shared = true;
    }

-- a coalescing node of at most four records
abbrev pub bundle_unit : Unit
bundle_unit =
    record {
      node = 1;
      level = 0;
      depth = 2;
      words = 2;
      stride = 8;
      kind = Coalescing 4;
      entry = true;
      budgets = [];
      outputs = [];
      bools = [];
      shared = false;
    }

-- the broadcasting node, the coalescing node that it sends to, and two buffers
abbrev pub sheets_shape : Shape
sheets_shape =
    record {
      nodes = record { name = codes "Sheet"; index = 0 } ∷ record { name = codes "Bundle"; index = 0 } ∷ [];
      units = sheet_unit ∷ bundle_unit ∷ [];
      buffers = codes "Count" ∷ codes "Rest" ∷ [];
    }
