use Rattle.wg_text.proofs.MapLemmas.{found_after}
use Rattle.wg_text.proofs.name_map.NameMap.insert.Goals as goal

pub returns-clause-ok : goal.returns-clause-ok
returns-clause-ok g c = λ other. rw (← c.self.view_is) (found_after c.self.inside.by_name c.insert.new.self c.args.name c.args.value c.in_ok-insert.ensures.updates other)
