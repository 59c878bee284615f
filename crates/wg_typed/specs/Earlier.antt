-- What is known of things in order, each of which is made from what is known of the things before it.
use Rattle.std.specs.Prelude.{List, [], ◌∷◌, ◌++◌}

abbrev pub each_after : {X Y : Type 0} → (List Y → X → Y) → List Y → List X → List Y
each_after make earlier [] = earlier
each_after make earlier (x ∷ rest) = each_after make (earlier ++ make earlier x ∷ []) rest
