use Rattle.std.proofs.Common.{◌≡◌, ℕ, ◌<◌, ◌^◌, List}
use Rattle.wg_text.specs.Names.{found_in}
use Rattle.wg_journal.specs.Names.{index_at}
use Rattle.wg_journal.proofs.NameLemmas.{last_below}
use Rattle.wg_journal.proofs.names.UnitNames.new.Given as goal

abbrev pub invariant-loop-number : goal.invariant-loop-number
invariant-loop-number l =
    record {
      named : (text : List ℕ) → found_in l.by_text text ≡ last_below l.shape l.number text;
      small : (u : ℕ) → u < l.number → index_at l.shape u < 2 ^ 64;
    }
