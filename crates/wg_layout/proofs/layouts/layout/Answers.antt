use Rattle.std.proofs.Common.{arith, ◌≡◌, ap, ◌∙◌}
use Rattle.wg_typed.specs.Layout.{type_extent, extents_of, words_of}
use Rattle.wg_layout.specs.Sizes.{capped}
use Rattle.wg_layout.proofs.Capping.{capped_type}
use Rattle.wg_layout.proofs.layouts.layout.Goals as goal

-- src/layouts.rt:13:1
pub returns : goal.returns
returns c =
    let e : c.words-words.result ≡ capped (words_of c.args.structs.now c.args.of.now) = c.words-words.ensures ∙ ap (λ l. capped (type_extent l c.args.of.now).words) c.requires.table ∙ capped_type (extents_of c.args.structs.now) c.args.of.now in
    record { words = omega (arith, e, c.requires.within); stride = omega (arith, e, c.requires.within, c.max.ensures); fields = c.in_ok-fields.ensures }
