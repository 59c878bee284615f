use Rattle.std.proofs.lemmas.List.{map-append}
use Rattle.wg_io.specs.Named.{pair_of}
use Rattle.wg_io.proofs.named.NamedFiles.add.Goals as goal

pub returns-clause-ok : goal.returns-clause-ok
returns-clause-ok c = rw (c.in_ok-push.ensures.items, ← c.self.view_is) (map-append pair_of c.self.inside.files.items _)
