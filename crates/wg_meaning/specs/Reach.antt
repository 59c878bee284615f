-- How many functions calls reach that may nest so deep: one more at each level, since a function calls only those before it.
use Rattle.std.specs.Prelude.{ℕ, zero, suc}
use Rattle.wg_meaning.specs.declared.depth.Depth.{Depth}
use Rattle.wg_meaning.specs.declared.depth.Depth.TheFolds.{fold-Depth}
use Rattle.wg_meaning.specs.declared.depth.Depth.TheOpen.{Depth-F}

abbrev pub reach_step : Depth-F ℕ → ℕ
reach_step Depth-F.None = zero
reach_step (Depth-F.Below depth) = suc depth

abbrev pub reach_of : Depth → ℕ
reach_of = fold-Depth ℕ reach_step
