-- What a typed text keeps to beside being sound, as far as the limits of attributes stand on it: names of functions and buffers are spelled as
-- names, no two buffers have one name, a node has `Shader("node")`, and records are within their limit. Own.
use Rattle.std.specs.Prelude.{◌≡◌, ◌≤◌, ℕ, true, List, map, slice_get, Some, IsTrue}
use Rattle.wg_words.specs.Characters.{is_identifier}
use Rattle.wg_words.specs.Each.{Each}
use Rattle.wg_words.specs.declared.limits.TheConstants.{MOST_RECORD_WORDS}
use Rattle.wg_typing.specs.AttributeArguments.{is_entry}
use Rattle.wg_typed.specs.declared.typed.Typed.{Typed}
use Rattle.wg_typed.specs.declared.typed.TypedEntry.{TypedEntry}
use Rattle.wg_typed.specs.declared.typed.TypedFunction.{TypedFunction}
use Rattle.wg_typed.specs.declared.typed.TypedParameter.{TypedParameter}
use Rattle.wg_shapes.specs.Records.{record_in, record_words}
use Rattle.wg_shapes.specs.ShapeOf.{buffer_name}

pub record KeepsBeside (typed : Typed) : Type 0 where
  pub entries : (number : ℕ) (f : TypedFunction) (e : TypedEntry) → slice_get typed.functions number ≡ Some f → f.entry ≡ Some e → is_entry f.attributes ≡ true
  pub function_names : (number : ℕ) (f : TypedFunction) → slice_get typed.functions number ≡ Some f → IsTrue (is_identifier f.name.name)
  pub buffer_names : Each (λ name. IsTrue (is_identifier name)) (map buffer_name typed.buffers)
  pub buffers_differ : (i j : ℕ) (name : List ℕ) → slice_get (map buffer_name typed.buffers) i ≡ Some name → slice_get (map buffer_name typed.buffers) j ≡ Some name → i ≡ j
  pub records : (number k : ℕ) (f : TypedFunction) (p : TypedParameter) → slice_get typed.functions number ≡ Some f → slice_get f.parameters k ≡ Some p
      → record_words typed.structs (record_in (Some p)) ≤ MOST_RECORD_WORDS
