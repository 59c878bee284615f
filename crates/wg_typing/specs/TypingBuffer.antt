-- The typed form of a buffer (HLSL Shader Model 6.8, buffers; the limit on their number is own).
use Rattle.std.specs.Prelude.{ℕ, Option, Some, None}
use Rattle.wg_words.specs.Maybe.{◌>>=◌}
use Rattle.wg_typing.specs.Scope.{Context, named_type}
use Rattle.wg_typing.specs.Sites.{Sites, nowhere, only}
use Rattle.wg_typing.specs.Site.{Site, AtType}
use Rattle.wg_tree.specs.declared.expr.Named.{Named}
use Rattle.wg_tree.specs.declared.expr.TypeName.{TypeName}
use Rattle.wg_tree.specs.declared.item.BufferType.{BufferType}
use Rattle.wg_tree.specs.declared.item.BufferType.TheVariants as buffer_type
use Rattle.wg_typed.specs.declared.typed.TypedBuffer.{TypedBuffer}
use Rattle.wg_typed.specs.declared.typed.TypedBufferType.{TypedBufferType}
use Rattle.wg_typed.specs.declared.typed.TypedBufferType.TheVariants as typed_buffer
use Rattle.wg_typing.specs.declared.scope.Meant.{Meant}
use Rattle.wg_typing.specs.declared.scope.Meant.TheVariants as meant
use Rattle.wg_typing.specs.declared.scope.Object.TheVariants as object

abbrev pub buffer_limit : ℕ
buffer_limit = 64

abbrev pub element_type_name : BufferType → Option TypeName
element_type_name (buffer_type.Raw place writable) = None
element_type_name (buffer_type.Structured place writable of) = Some of

abbrev pub buffer_of : Context → BufferType → Option TypedBufferType
buffer_of c (buffer_type.Raw place writable) = Some (typed_buffer.Raw writable)
buffer_of c (buffer_type.Structured place writable of) = named_type c.names of >>= (λ of. Some (typed_buffer.Structured writable of))

abbrev pub buffer_meant : ℕ → Option TypedBufferType → Meant
buffer_meant number None = meant.Broken
buffer_meant number (Some of) = meant.Object (object.Buffer number of)

abbrev pub buffer_tree : Named → Option TypedBufferType → Option TypedBuffer
buffer_tree name of = of >>= (λ of. Some (record { name = name; of = of }))

abbrev pub element_sites : Context → BufferType → Sites Site
element_sites c (buffer_type.Raw place writable) = nowhere
element_sites c (buffer_type.Structured place writable of) = only (AtType c of)
