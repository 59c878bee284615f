use Rattle.std.proofs.Common.{◌≡◌, refl, sym, ◌∙◌, [], ◌∷◌, string_bytes}
use Rattle.std.proofs.lemmas.Slice.Eq.{bytes_eq-Decides}
use Rattle.wg_tool.proofs.FileLemmas.{three}
use Rattle.wg_tool.proofs.call.names_of.Goals as goal

pub returns-then-eq-clause-some : goal.returns-then-eq-clause-some
returns-then-eq-clause-some c =
    let words : c.args.words.now ≡ c.first-item.result ∷ c.graph-item.result ∷ c.script-item.result ∷ [] = three c.args.words.now _ _ _ c.in-len3.len_at_least c.in-len3.len_below c.first-item.is c.graph-item.is c.script-item.is in
    let run : c.as_str.result.now ≡ 114 ∷ 117 ∷ 110 ∷ [] = (bytes_eq-Decides c.as_str.result.now (114 ∷ 117 ∷ 110 ∷ [])).0 (sym c.if-eq.ensures) in
    let first : string_bytes c.first-item.result ≡ 114 ∷ 117 ∷ 110 ∷ [] = sym c.as_str.ensures.value ∙ run in
    rw (words, first, c.as_str-then-eq.ensures.value, c.as_str-then-eq-2.ensures.value) refl
