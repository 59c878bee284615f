-- One word is read the same whatever structs a text has.
use Rattle.std.proofs.Common.{◌≡◌, List, refl}
use Rattle.std.specs.Prelude.{slice_index}
use Rattle.wg_tree.specs.declared.expr.Scalar.TheVariants as scalar
use Rattle.wg_typed.specs.declared.types.TypeTree.TheVariants as type
use Rattle.wg_typed.specs.declared.typed.TypedStruct.{TypedStruct}
use Rattle.wg_semantics.specs.declared.state.State.{State}
use Rattle.wg_semantics.specs.declared.state.Spot.{Spot}
use Rattle.wg_semantics.specs.declared.state.Spot.TheVariants as spot
use Rattle.wg_semantics.specs.declared.state.Store.TheVariants as store
use Rattle.wg_semantics.specs.Places.{fetched}
use Rattle.wg_semantics.specs.StepMeaning.{word_at}

pub word_same : (structs : List TypedStruct) (p : Spot) (s : State) → slice_index (fetched structs (type.Scalar scalar.Uint) p s) 0 ≡ word_at p s
word_same structs (spot.Value words) s = refl
word_same structs (spot.At (store.Variable variable) from) s = refl
word_same structs (spot.At (store.Shared variable) from) s = refl
word_same structs (spot.At (store.Buffer buffer) from) s = refl
word_same structs (spot.At (store.Input number) from) s = refl
word_same structs (spot.At (store.Granted grant item) from) s = refl
word_same structs spot.Nowhere s = refl
