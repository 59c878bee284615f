use Rattle.std.proofs.Common.{◌≡◌, Some, drop}
use Rattle.wg_typed.specs.Constants.{known_in, chain_value, rights_of}
use Rattle.wg_typed.proofs.evaluate.+value.Given as goal

-- what the operators from here on give
abbrev pub invariant-chain-loop-link : goal.invariant-chain-loop-link
invariant-chain-loop-link l = chain_value (Some l.before) (rights_of (known_in l.fn.known) (drop l.link-index l.link-items)) ≡ chain_value l.fn.first (rights_of (known_in l.fn.known) l.fn.rest)
