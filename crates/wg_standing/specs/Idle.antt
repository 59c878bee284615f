-- Cores where nothing is left, and cores with a launch out. This project's own.
use Rattle.std.specs.Prelude.{◌≡◌, ℕ, ◌+◌, List, [], ◌∷◌, ◌++◌, length}
use Rattle.wg_words.specs.Each.{Each}
use Rattle.wg_machine.specs.declared.launch.Live.{Live}
use Rattle.wg_standing.specs.declared.pending.Pending.{Pending}
use Rattle.wg_standing.specs.Core.{CoreView}

-- nothing waits, nothing is left of the entries, and nothing is out
pub record IsIdle (core : CoreView) : Type 0 where
  pub waits : Each (λ (ws : List Live). ws ≡ []) core.waits
  pub entries : core.entries ≡ []
  pub outs : core.outs ≡ []

-- the journal and the launches out are as many as the limit
abbrev pub IsSpentUp : CoreView → Type 0
IsSpentUp core = length core.journal + length core.outs ≡ core.limits.launches

-- the launch with this ticket is out, and these are out beside it
pub record IsOut (core : CoreView) (ticket : ℕ) (before : List Pending) (o : Pending) (later : List Pending) : Type 0 where
  pub place : core.outs ≡ before ++ o ∷ later
  pub named : o.ticket ≡ ticket

abbrev pub SomeIsOut : CoreView → ℕ → Type 0
SomeIsOut core ticket = (before : List Pending) × (o : Pending) × (later : List Pending) × IsOut core ticket before o later
