use Rattle.std.proofs.Common.{◌≡◌, drop}
use Rattle.wg_script.specs.Rules.{bool_is_bad}
use Rattle.wg_script.proofs.checks.bool_is_bad.Given as goal

-- the places so far are good
abbrev pub invariant-loop-place : goal.invariant-loop-place
invariant-loop-place l = bool_is_bad (drop l.place-index l.places) l.words ≡ bool_is_bad l.places l.words
