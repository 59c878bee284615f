use Rattle.std.proofs.Common.{◌≡◌, length, refl, ap, ◌∙◌}
use Rattle.std.specs.Prelude.{slice_get, Some}
use Rattle.std.proofs.lemmas.Option.{slice_get_read}
use Rattle.wg_grants.specs.Spans.{parts_of}
use Rattle.wg_grants.proofs.Parts.{lie_within, put_found}
use Rattle.wg_grants.proofs.lists.put_in.Goals as goal

pub put_word-requires : goal.put_word-requires
put_word-requires c =
    let spans = c.args.spans.now in
    let there : slice_get spans c.args.list ≡ Some c.in-Some.span.now = slice_get_read spans (length spans) c.args.list c.in-Some.span.now refl c.in-Some.ensures.lookup.3.0 c.in-Some.ensures.lookup.1 in
    (lie_within spans 0 (length c.args.words.now) c.args.list c.in-Some.span.now c.requires there).1

pub returns-in-Some-clause-lists : goal.returns-in-Some-clause-lists
returns-in-Some-clause-lists c =
    let spans = c.args.spans.now in
    let there : slice_get spans c.args.list ≡ Some c.in-Some.span.now = slice_get_read spans (length spans) c.args.list c.in-Some.span.now refl c.in-Some.ensures.lookup.3.0 c.in-Some.ensures.lookup.1 in
    ap (parts_of spans) c.put_word.ensures ∙ put_found spans c.args.words.now c.args.list c.args.at c.args.value c.in-Some.span.now c.requires there
