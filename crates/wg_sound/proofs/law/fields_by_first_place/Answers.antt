use Rattle.wg_sound.proofs.Totals.{field_found, field_absent, among_before}
use Rattle.wg_sound.proofs.law.fields_by_first_place.Goals as goal

pub returns-clause-found : goal.returns-clause-found
returns-clause-found c = field_found

pub returns-clause-absent : goal.returns-clause-absent
returns-clause-absent c = field_absent 0

pub returns-clause-before : goal.returns-clause-before
returns-clause-before c = among_before
