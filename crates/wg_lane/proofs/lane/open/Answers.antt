use Rattle.std.proofs.Common.{map, refl, ap, ◌∙◌}
use Rattle.wg_machine.specs.declared.launch.Record.{Record}
use Rattle.wg_lane.proofs.Frames.{shell_is, opened_site}
use Rattle.wg_lane.proofs.lane.open.Goals as goal

pub returns : goal.returns
returns c =
    let frame = c.args.frame in
    let inputs = c.in_ok-words_of.ensures ∙ ap (map (λ (r : Record). r.words)) c.as_slice.ensures in
    record {
      shell = shell_is frame c.new-3.result c.new-4.result c.new-5.result c.new-6.result c.new-3.ensures c.new-4.ensures c.new-5.ensures c.new-6.ensures;
      registers = c.into_vec-2.ensures;
      site = opened_site frame c.into_vec-2.result.items c.from_vec.result c.in_ok-words_of.field-0 c.in_ok-sharing_of.field-0 c.args.turns c.into_vec-2.ensures (c.from_vec.ensures ∙ c.into_vec.ensures) inputs c.in_ok-sharing_of.ensures;
      turns_are = refl;
    }
