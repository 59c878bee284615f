use Rattle.std.proofs.Common.{◌++◌, take, ◌∙◌}
use Rattle.wg_io.proofs.WriteLemmas.{appends_more, front_grows}
use Rattle.wg_io.proofs.sink.write_all.Goals as goal

pub loop-rest-preserved : goal.loop-rest-preserved
loop-rest-preserved g c =
    let k = c.loop-rest.invariant.front in
    let rest = c.loop-rest.rest.now in
    record {
      same = c.in_ok-taken.ensures.same ∙ c.loop-rest.invariant.same;
      front = (k.0 ++ take c.in_ok-taken.taken rest, front_grows c.args.bytes.now k.0 rest c.in_ok-taken.taken k.1, appends_more _ _ _ k.0 _ k.2 c.in_ok-taken.ensures.appends);
    }
