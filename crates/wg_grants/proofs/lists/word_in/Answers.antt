use Rattle.std.proofs.Common.{◌≡◌, length, refl, sym, ◌∙◌}
use Rattle.std.specs.Prelude.{slice_get, Some}
use Rattle.std.proofs.lemmas.Option.{slice_get_read, slice_get_past}
use Rattle.wg_grants.proofs.Parts.{lie_within, word_found, word_missing}
use Rattle.wg_grants.proofs.lists.word_in.Goals as goal

pub word_of-requires : goal.word_of-requires
word_of-requires c =
    let spans = c.args.spans.now in
    let there : slice_get spans c.args.list ≡ Some c.in-Some.span.now = slice_get_read spans (length spans) c.args.list c.in-Some.span.now refl c.in-Some.ensures.lookup.3.0 c.in-Some.ensures.lookup.1 in
    (lie_within spans 0 (length c.args.words.now) c.args.list c.in-Some.span.now c.requires there).1

pub returns-in-Some : goal.returns-in-Some
returns-in-Some c =
    let spans = c.args.spans.now in
    let there : slice_get spans c.args.list ≡ Some c.in-Some.span.now = slice_get_read spans (length spans) c.args.list c.in-Some.span.now refl c.in-Some.ensures.lookup.3.0 c.in-Some.ensures.lookup.1 in
    c.word_of.ensures ∙ sym (word_found spans c.args.words.now c.args.list c.args.at c.in-Some.span.now there)

pub returns-in-None : goal.returns-in-None
returns-in-None c = sym (word_missing c.args.spans.now c.args.words.now c.args.list c.args.at (slice_get_past c.args.spans.now c.args.list c.in-None.ensures.lookup.3))
