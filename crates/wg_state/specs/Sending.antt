-- The records that a launch sends, from the grants that it ended with: by output, element, request and index; own.
use Rattle.std.specs.Prelude.{ℕ, suc, ◌==◌, ◌&&◌, Bool, if◌then◌else◌, List, [], ◌∷◌, ◌++◌, map, Option, Some, None}
use Rattle.std.specs.List.{flat_map}
use Rattle.wg_machine.specs.declared.launch.Sent.{Sent}
use Rattle.wg_machine.specs.declared.shape.Output.{Output}
use Rattle.wg_state.specs.declared.world.Grant.{Grant}

abbrev pub is_of : ℕ → ℕ → Grant → Bool
is_of output element g = (g.output == output) && (g.element == element)

abbrev pub sent_by : ℕ → Grant → List Sent
sent_by unit g = map (λ words. record { unit = unit; words = words }) g.items

abbrev pub sent_if : Bool → ℕ → Grant → List Sent
sent_if chosen unit g = if chosen then sent_by unit g else []

-- the records of an element
abbrev pub sent_to : ℕ → ℕ → ℕ → List Grant → List Sent
sent_to output element unit grants = flat_map (λ g. sent_if (is_of output element g) unit g) grants

-- an element without a target is granted nothing
abbrev pub sent_at : ℕ → ℕ → Option ℕ → List Grant → List Sent
sent_at output element None grants = []
sent_at output element (Some unit) grants = sent_to output element unit grants

abbrev pub sent_from : ℕ → ℕ → List (Option ℕ) → List Grant → List Sent
sent_from output element [] grants = []
sent_from output element (target ∷ rest) grants = sent_at output element target grants ++ sent_from output (suc element) rest grants

-- the records of the outputs from a number on
abbrev pub sent_through : ℕ → List Output → List Grant → List Sent
sent_through at [] grants = []
sent_through at (output ∷ rest) grants = sent_from at 0 output.elements grants ++ sent_through (suc at) rest grants
