use Rattle.std.proofs.Common.{◌≡◌, ◌++◌, List, ℕ, ◌∙◌, subst}
use Rattle.wg_io.specs.Causes.{Appends}
use Rattle.wg_journal.specs.Texts.{launch_line}
use Rattle.wg_tool.proofs.PrintLemmas.{lines_step, lines_front}
use Rattle.wg_tool.proofs.WriteLemmas.{appends_more}
use Rattle.wg_tool.proofs.print.print_lines.Goals as goal

pub returns-in_default-write_all-clause-front : goal.returns-in_default-write_all-clause-front
returns-in_default-write_all-clause-front g c =
    let k = c.loop-place.invariant.front in
    let line : c.as_slice.result.now ≡ launch_line c.args.shape.now c.loop-place.place c.index-entries-place.result = c.as_slice.ensures.value ∙ c.in-Ok.ensures in
    lines_front _ _ _ c.args.shape.now c.args.entries.now c.loop-place.place k.0 c.as_slice.result.now c.index-entries-place.result c.loop-place-test.true c.index-entries-place.is k.1 k.2 line c.in_default-write_all.ensures.front

pub loop-place-preserved : goal.loop-place-preserved
loop-place-preserved g c =
    let k = c.loop-place.invariant.front in
    let e = c.index-entries-place.result in
    let line : c.as_slice.result.now ≡ launch_line c.args.shape.now c.loop-place.place e = c.as_slice.ensures.value ∙ c.in-Ok.ensures in
    record {
      same = c.in-Ok-write_all.ensures.same ∙ c.loop-place.invariant.same;
      front = (
        k.0 ++ launch_line c.args.shape.now c.loop-place.place e,
        lines_step c.args.shape.now c.args.entries.now c.loop-place.place k.0 e c.loop-place-test.true c.index-entries-place.is k.1,
        appends_more _ _ _ k.0 (launch_line c.args.shape.now c.loop-place.place e) k.2 (subst (λ (t : List ℕ). Appends (g.S.Sink.written c.loop-place.out) (g.S.Sink.written c.write_all.new.out) t) line c.in-Ok-write_all.ensures.whole),
      );
    }
