use Rattle.std.proofs.Common.{◌≡◌, ◌∙◌, ℕ, List, length, ap, arith}
use Rattle.wg_machine.specs.Buffers.{Buffers}
use Rattle.wg_verify.proofs.Beginning.{started_count}
use Rattle.wg_verify.proofs.verifying.begin.Goals as goal

pub start-requires-clause-many : goal.start-requires-clause-many
start-requires-clause-many c =
    let lengths = ap (λ (ns : List ℕ). length ns) c.as_slice.ensures in
    let starts = ap (λ (ws : List (List ℕ)). length ws) c.as_slice-2.ensures in
    let many : length c.as_slice-2.result.now ≡ length c.as_slice.result.now = omega (arith, c.requires.lengths, c.requires.starts) in
    let count = started_count c.as_slice.result.now c.as_slice-2.result.now many in
    ap (λ (b : Buffers). length b) c.in_ok-buffers.ensures ∙ count ∙ lengths ∙ c.requires.lengths
