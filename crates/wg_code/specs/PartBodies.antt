-- The bodies of a node's parts. Own.
use Rattle.std.specs.Prelude.{List, [], ◌∷◌, ◌++◌, map}
use Rattle.wg_code.specs.declared.code.Part.{Part, fold-Part}
use Rattle.wg_code.specs.declared.code.Part.TheOpen.{Part-F}
use Rattle.wg_code.specs.declared.op.Op.{Op}

abbrev pub joined : {A : Type 0} → List (List A) → List A
joined [] = []
joined (list ∷ rest) = list ++ joined rest

abbrev pub bodies_step : Part-F (List (List Op)) → List (List Op)
bodies_step (Part-F.Lanes body) = body ∷ []
bodies_step (Part-F.First body) = body ∷ []
bodies_step (Part-F.Choose a first second) = joined first ++ joined second

-- each body of parts, also of those within a `Choose`
abbrev pub bodies_in : List Part → List (List Op)
bodies_in parts = joined (map (fold-Part (List (List Op)) bodies_step) parts)
