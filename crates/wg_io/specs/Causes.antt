-- Counts that say why a call failed. This is the project's own rule.
use Rattle.std.specs.Prelude.{◌≡◌, ◌+◌, ◌≤◌, min, ℕ, List, ◌++◌, Option, Some, IfSome}
use Rattle.wg_io.specs.Counts.{last_count, raised}

-- the count rose by more than n, or stands at its last value
abbrev pub RoseBeyond : ℕ → ℕ → ℕ → Type 0
RoseBeyond n before now = min (before + n + 1) last_count ≤ now

-- the count rose, or stands at its last value
abbrev pub Rose : ℕ → ℕ → Type 0
Rose before now = RoseBeyond 0 before now

-- the count rose by one and no more, or stands at its last value
abbrev pub RoseOnce : ℕ → ℕ → Type 0
RoseOnce before now = now ≡ raised before 1

-- no count falls, whatever the name
abbrev pub NoneFalls : (List ℕ → ℕ) → (List ℕ → ℕ) → Type 0
NoneFalls before now = (name : List ℕ) → before name ≤ now name

-- what is known to be written grows by these bytes
abbrev pub Appends : Option (List ℕ) → Option (List ℕ) → List ℕ → Type 0
Appends old new bytes = IfSome old (λ (written : List ℕ). new ≡ Some (written ++ bytes))

-- What is known to be written grows by a front of these bytes.
abbrev pub AppendsFront : Option (List ℕ) → Option (List ℕ) → List ℕ → Type 0
AppendsFront old new bytes = (front rest : List ℕ) × (bytes ≡ front ++ rest) × Appends old new front
