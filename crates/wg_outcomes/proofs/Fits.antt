-- A launch that passes the tests fits its shape.
use Rattle.std.proofs.Common.{◌≡◌, ℕ, ◌<◌, ◌≤◌, true, ◌&&◌, List, [], ◌∷◌, length, arith, subst}
use Rattle.std.specs.Prelude.{◌==◌}
use Rattle.std.specs.List.{list_all}
use Rattle.std.proofs.lemmas.Bool.{and_parts}
use Rattle.std.proofs.lemmas.Bool.Decides.{Decides-eqb}
use Rattle.wg_words.specs.Each.{Each}
use Rattle.wg_words.specs.declared.limits.TheConstants.{GRID_BOUND}
use Rattle.wg_machine.specs.declared.shape.Kind.{Kind}
use Rattle.wg_machine.specs.declared.shape.Shape.{Shape}
use Rattle.wg_machine.specs.declared.launch.Record.{Record}
use Rattle.wg_machine.specs.declared.launch.Launch.{Launch}
use Rattle.wg_machine.specs.Grids.{groups_in}
use Rattle.wg_machine.specs.LaunchMeaning.{FitsShape, HasGridOf}
use Rattle.wg_machine.specs.Units.{kind_at, most_inputs, words_at}

each_has : (words : ℕ) (records : List Record) → list_all (λ (r : Record). length r.words == words) records ≡ true → Each (λ (r : Record). length r.words ≡ words) records
each_has words [] h = tt
each_has words (r ∷ records) h =
    let p = and_parts (length r.words == words) (list_all (λ (r : Record). length r.words == words) records) h in
    ((Decides-eqb (length r.words) words).0 p.0, each_has words records p.1)

pub fits_from : (shape : Shape) (l : Launch) (kind : Kind) (words : ℕ) → kind ≡ kind_at shape l.unit → words ≡ words_at shape l.unit
    → l.unit < length shape.units → 1 ≤ length l.records → length l.records ≤ most_inputs kind
    → list_all (λ (r : Record). length r.words == words) l.records ≡ true
    → groups_in l.grid < GRID_BOUND → l.group < groups_in l.grid → HasGridOf kind l.grid → FitsShape shape l
fits_from shape l kind words kind_is words_is unit some few have grid_few group grid = record {
  unit = unit;
  some = some;
  few = subst (λ (k : Kind). length l.records ≤ most_inputs k) kind_is few;
  words = each_has (words_at shape l.unit) l.records (subst (λ (n : ℕ). list_all (λ (r : Record). length r.words == n) l.records ≡ true) words_is have);
  grid_some = omega (arith, group);
  grid_few = grid_few;
  group = group;
  grid = subst (λ (k : Kind). HasGridOf k l.grid) kind_is grid;
}
