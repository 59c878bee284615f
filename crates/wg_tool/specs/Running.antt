-- What a core keeps while one launch after another is opened and settled.
use Rattle.std.specs.Prelude.{◌≡◌, ℕ, ◌+◌, ◌<◌, List, [], ◌∷◌, length, None}
use Rattle.wg_machine.specs.declared.launch.Limits.{Limits}
use Rattle.wg_machine.specs.declared.launch.Sent.{Sent}
use Rattle.wg_machine.specs.declared.shape.Shape.{Shape}
use Rattle.wg_machine.specs.LaunchMeaning.{Meaning}
use Rattle.wg_standing.specs.declared.pending.Pending.{Pending}
use Rattle.wg_standing.specs.Core.{CoreView}
use Rattle.wg_standing.specs.Standing.{StandsFor}
use Rattle.wg_words.specs.declared.limits.TheConstants.{DEFAULT_LAUNCHES, DEFAULT_TURNS}
use Rattle.wg_tool.specs.declared.pair.Pair.{Pair}
use Rattle.wg_tool.specs.FirstForm.{IsFirstForm}
use Rattle.wg_tool.specs.Script.{IsFormScript}
use Rattle.wg_tool.specs.Wiring.{shape_of}

-- the graph, its plan and the limits stay
pub record KeepsPlan (old new : CoreView) : Type 0 where
  pub shape : new.shape ≡ old.shape
  pub width : new.width ≡ old.width
  pub limits : new.limits ≡ old.limits

-- no launch is out, and none was spent
pub record IsBetweenLaunches (core : CoreView) : Type 0 where
  pub outs : core.outs ≡ []
  pub free : core.stopped ≡ None

-- the launch of the ticket is the one that is out, and none was spent
pub record IsOnlyOut (core : CoreView) (ticket : ℕ) : Type 0 where
  pub pending : Pending
  pub out : core.outs ≡ pending ∷ []
  pub named : pending.ticket ≡ ticket
  pub free : core.stopped ≡ None

-- one more launch is in the journal
pub record RanOne (old new : CoreView) : Type 0 where
  pub ready : IsBetweenLaunches new
  pub longer : length new.journal ≡ length old.journal + 1

-- a core of the shape that stands for the script has fewer launches than a run may make
abbrev pub IsShort : Shape → Meaning → List Sent → Type 0
IsShort shape made script = (core : CoreView) → core.shape ≡ shape → StandsFor made script [] core → length core.journal < DEFAULT_LAUNCHES

-- the core stands for a script of which no run is longer than a run may be
pub record StandsShort (made : Meaning) (core : CoreView) : Type 0 where
  pub script : List Sent
  pub stands : StandsFor made script [] core
  pub short : IsShort core.shape made script

-- the limits of a run
abbrev pub default_limits : Limits
default_limits = record { turns = DEFAULT_TURNS; launches = DEFAULT_LAUNCHES }

-- the shape of a graph of the first form
abbrev pub IsFormShape : Shape → Type 0
IsFormShape shape = (pairs : List Pair) × IsFirstForm pairs × (shape ≡ shape_of pairs)

-- a graph of the first form with a script of its
pub record IsRunnable (shape : Shape) (script : List Sent) : Type 0 where
  pub pairs : List Pair
  pub form : IsFirstForm pairs
  pub is : shape ≡ shape_of pairs
  pub entries : IsFormScript pairs script
