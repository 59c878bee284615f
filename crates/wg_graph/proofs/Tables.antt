-- What the tables of a graph have for a node.
use Rattle.std.proofs.Common.{◌≡◌, ℕ, ◌<◌, ◌≤◌, min, List, length, refl, sym, ap, ◌∙◌, ⊎_elim, arith, Option, Some, None, slice_get, unwrap_or, option_map}
use Rattle.std.proofs.lemmas.Bool.{cases_lt}
use Rattle.std.proofs.lemmas.Option.{slice_get-get_or, slice_get-map}
use Rattle.wg_typed.specs.Layout.{extents_of, plain_extent, type_extent, words_of}
use Rattle.wg_typed.specs.declared.types.Extent.{Extent}
use Rattle.wg_typed.specs.declared.types.TypeTree.TheVariants.{Struct}
use Rattle.wg_typed.specs.declared.typed.TypedStruct.{TypedStruct}
use Rattle.wg_layout.specs.Sizes.{capped, capped_extent, table_of}
use Rattle.wg_node_attributes.specs.declared.attributes.NodeAttrs.{NodeAttrs}
use Rattle.wg_shapes.specs.ChainTooLong.{EndsLongChain}
use Rattle.wg_shapes.specs.Level.{top_level, top_levels}
use Rattle.wg_words.specs.Each.{Each}
use Rattle.wg_shapes.proofs.Booleans.{each_at}
use Rattle.wg_shapes.proofs.Depths.{top_at}
use Rattle.wg_chains.specs.Arrived.{AreReached}

pub top_there : (nodes : List NodeAttrs) (tops : List ℕ) (n : ℕ) → tops ≡ top_levels nodes → n < length nodes → unwrap_or (slice_get tops n) 0 ≡ top_level nodes n
top_there nodes tops n e lt = ap (λ l. unwrap_or (slice_get l n) 0) e ∙ ap (λ o. unwrap_or o 0) (top_at nodes n lt)

pub depth_there : (nodes : List NodeAttrs) (depths : List ℕ) (n : ℕ) → AreReached nodes 32 depths → n < length nodes → slice_get depths n ≡ Some (unwrap_or (slice_get depths n) 0)
depth_there nodes depths n r lt =
    let c = r.count in
    let there = slice_get-get_or depths n 0 (omega (arith, c, lt)) in
    there ∙ ap (λ o. Some (unwrap_or o 0)) (sym there)

-- a depth is within the limit where no chain is too long
pub depth_small : (nodes : List NodeAttrs) (depths : List ℕ) (n : ℕ) → AreReached nodes 32 depths → ((m : ℕ) → EndsLongChain nodes m → ⊥) → n < length nodes → unwrap_or (slice_get depths n) 0 ≤ 32
depth_small nodes depths n r none lt =
    let e = r.each n (unwrap_or (slice_get depths n) 0) (depth_there nodes depths n r lt) in
    ⊎_elim
    (λ (long : 32 < unwrap_or (slice_get depths n) 0). absurd (none n (record { level = top_level nodes n; units = unwrap_or (slice_get depths n) 0; long = long; chain = e.chain })))
    (λ (le : unwrap_or (slice_get depths n) 0 ≤ 32). le)
    (cases_lt 32 (unwrap_or (slice_get depths n) 0))

-- the words of a struct by the table of sizes
pub words_there : (structs : List TypedStruct) (table : List Extent) (number words : ℕ) → table ≡ table_of structs → words_of structs (Struct number) ≤ 2048 → words ≡ capped (type_extent table (Struct number)).words → words ≡ words_of structs (Struct number)
words_there structs table number words e few is =
    let t = ap (λ l. (type_extent l (Struct number)).words) e ∙ (ap (λ o. (unwrap_or o (plain_extent 0)).words) (slice_get-map capped_extent (extents_of structs) number) ∙ go (slice_get (extents_of structs) number)) in
    omega (arith, is, t, few)
  where
    go : (o : Option Extent) → (unwrap_or (option_map capped_extent o) (plain_extent 0)).words ≡ min 8193 (unwrap_or o (plain_extent 0)).words
    go None = refl
    go (Some x) = refl

pub top_low : (nodes : List NodeAttrs) (tops : List ℕ) (n : ℕ) → tops ≡ top_levels nodes → Each (λ top. top ≤ 31) tops → n < length nodes → top_level nodes n ≤ 31
top_low nodes tops n e low lt = each_at (λ top. top ≤ 31) tops n (top_level nodes n) low (ap (λ l. slice_get l n) e ∙ top_at nodes n lt)
