use Rattle.std.proofs.Common.{◌∙◌, sym, ap, eq-eqb}
use Rattle.std.specs.Option.{option_copied}
use Rattle.wg_graph_rules.proofs.SameRecords.{own_struct}
use Rattle.wg_graph_rules.proofs.records.same_structs.Goals as goal

pub returns-then-sent-taken : goal.returns-then-sent-taken
returns-then-sent-taken c = own_struct c.args.structs.now c.args.sent c.args.taken c.in-Some.s.now (eq-eqb c.args.sent c.args.taken c.if-sent-taken.true) (sym c.get.ensures.value ∙ ap option_copied c.in-Some.is)
