-- A graph of one thread node that the exchangers run on, and a launch of it. This project's own.
use Rattle.std.specs.Prelude.{ℕ, true, false, [], ◌∷◌, codes}
use Rattle.wg_machine.specs.declared.launch.Launch.{Launch}
use Rattle.wg_machine.specs.declared.shape.Kind.TheVariants.{Thread}
use Rattle.wg_machine.specs.declared.shape.Shape.{Shape}
use Rattle.wg_machine.specs.declared.shape.Unit.{Unit}

abbrev pub form_unit : Unit
form_unit =
    record {
      node = 0;
      level = 0;
      depth = 1;
      words = 1;
      stride = 4;
      kind = Thread;
      entry = true;
      budgets = [];
      outputs = [];
      bools = [];
      shared = false;
    }

-- one thread node, whose records have one word, and two buffers
abbrev pub forms_shape : Shape
forms_shape =
    record {
      nodes = record { name = codes "Form"; index = 0 } ∷ [];
      units = form_unit ∷ [];
      buffers = codes "Words" ∷ codes "Told" ∷ [];
    }

-- a launch of the node, with a record of this word
abbrev pub one_launch : ℕ → Launch
one_launch word =
    record {
      unit = 0;
      records = record { number = 0; words = word ∷ [] } ∷ [];
      group = 0;
      grid = 1 ∷ 1 ∷ 1 ∷ [];
      last = false;
    }
