use Rattle.std.proofs.Common.{sym}
use Rattle.wg_text.proofs.MapLemmas.{found_lookup}
use Rattle.wg_text.proofs.name_map.NameMap.get.Goals as goal

pub returns : goal.returns
returns g c = rw (c.copied.ensures, c.get.ensures.value, ← c.self.view_is) (sym (found_lookup c.self.inside.by_name.entries c.args.name.now))
