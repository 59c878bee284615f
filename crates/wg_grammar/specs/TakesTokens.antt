-- How many tokens a reader took. Own.
use Rattle.std.specs.Prelude.{ℕ, suc, ◌+◌, ◌≤◌, if◌then◌else◌, Bool, List, [], ◌∷◌, length}
use Rattle.wg_grammar.specs.Reading.{Reading, Got, Wrong, Deep}

-- at least k tokens of ts, unless one is too deep
abbrev pub TakesTokens : {T X : Type 0} → ℕ → List T → Reading T X → Type 0
TakesTokens k ts (Got x b) = k + length b ≤ length ts
TakesTokens k ts (Wrong b) = k + length b ≤ length ts
TakesTokens k ts (Deep b) = Unit {0}

-- how many tokens in front pass these tests
abbrev pub matched : {T : Type 0} → List (T → Bool) → List T → ℕ
matched [] ts = 0
matched (test ∷ tests) [] = 0
matched (test ∷ tests) (t ∷ ts) = if test t then suc (matched tests ts) else 0
