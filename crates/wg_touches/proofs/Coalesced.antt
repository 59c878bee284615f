-- Which nodes coalesce is what their attributes say.
use Rattle.std.proofs.Common.{◌≡◌, ◌&&◌, ◌+◌, ℕ, Bool, true, false, cond, not, List, [], ◌∷◌, codes, Option, Some, None, refl, ap₂, ◌++◌}
use Rattle.std.specs.Prelude.{slice_get}
use Rattle.std.specs.List.{list_all}
use Rattle.wg_typing.specs.AttributeArguments.{has, in_mode, is_coalescing, mode_of}
use Rattle.wg_typing.specs.AttributeSites.{fields_at}
use Rattle.wg_typing.specs.declared.attribute.Mode.{Mode}
use Rattle.wg_typing.specs.declared.attribute.Mode.TheVariants.{Broadcasting, Coalescing, Thread}
use Rattle.wg_typed.specs.declared.typed.Typed.{Typed}
use Rattle.wg_typed.specs.declared.typed.TypedEntry.{TypedEntry}
use Rattle.wg_typed.specs.declared.typed.TypedFunction.{TypedFunction}
use Rattle.wg_typed.specs.declared.typed.TypedParameter.{TypedParameter}
use Rattle.wg_typed.specs.declared.typed.TypedStruct.{TypedStruct}
use Rattle.wg_typed.specs.declared.typed_stmt.TypedAttribute.{TypedAttribute}
use Rattle.wg_node_attributes.specs.Axes.{grid_said}
use Rattle.wg_node_attributes.specs.Kinds.{field_grid, greatest_grid, grid_field_from, grid_kind, kind_in}
use Rattle.wg_node_attributes.specs.Nodes.{node_if, nodes_from, nodes_said}
use Rattle.wg_node_attributes.specs.declared.attributes.Axes.{Axes}
use Rattle.wg_node_attributes.specs.declared.attributes.GridField.{GridField}
use Rattle.wg_node_attributes.specs.declared.attributes.NodeAttrs.{NodeAttrs}
use Rattle.wg_touches.specs.Coalescing.{coalesces, is_coalescing_kind, node_coalesces}

either_not : {X : Type 0} (f : X → Bool) (b : Bool) (x y : X) → f x ≡ false → f y ≡ false → f (cond b x y) ≡ false
either_not f true x y p q = p
either_not f false x y p q = q

field_grid_not : (structs : List TypedStruct) (number : ℕ) (most : Axes) (g : Option GridField) → is_coalescing_kind (field_grid structs number most g) ≡ false
field_grid_not structs number most None = refl
field_grid_not structs number most (Some g) = refl

greatest_grid_not : (structs : List TypedStruct) (r : Option ℕ) (most : Axes) → is_coalescing_kind (greatest_grid structs r most) ≡ false
greatest_grid_not structs None most = refl
greatest_grid_not structs (Some number) most = field_grid_not structs number most (grid_field_from 0 (fields_at (slice_get structs number)))

grid_not : (structs : List TypedStruct) (r : Option ℕ) (attributes : List TypedAttribute) → is_coalescing_kind (grid_kind structs r attributes) ≡ false
grid_not structs r attributes = either_not is_coalescing_kind (has "NodeMaxDispatchGrid" attributes) _ _ (greatest_grid_not structs r (grid_said (codes "NodeMaxDispatchGrid") attributes)) refl

kind_says : (structs : List TypedStruct) (parameters : List TypedParameter) (input : Option ℕ) (attributes : List TypedAttribute) (mode : Option Mode)
    → is_coalescing_kind (kind_in structs parameters input attributes mode) ≡ in_mode is_coalescing mode
kind_says structs parameters input attributes None = refl
kind_says structs parameters input attributes (Some Broadcasting) = grid_not structs _ attributes
kind_says structs parameters input attributes (Some Coalescing) = refl
kind_says structs parameters input attributes (Some Thread) = refl

-- of one function, with the nodes after it
function_says : (structs : List TypedStruct) (number : ℕ) (f : TypedFunction) (e : Option TypedEntry) (rest : List NodeAttrs) (others : Bool)
    → f.entry ≡ e → list_all (λ (n : NodeAttrs). not (node_coalesces n)) rest ≡ others
    → list_all (λ (n : NodeAttrs). not (node_coalesces n)) (node_if structs number f e ++ rest) ≡ (not (coalesces f) && others)
function_says structs number f None rest others h k = rw (h) k
function_says structs number f (Some e) rest others h k =
    rw (h) (ap₂ (λ a b. not a && b) (kind_says structs f.parameters e.input f.attributes (mode_of f.attributes)) k)

functions_say : (structs : List TypedStruct) (number : ℕ) (functions : List TypedFunction)
    → list_all (λ (n : NodeAttrs). not (node_coalesces n)) (nodes_from structs number functions) ≡ list_all (λ (f : TypedFunction). not (coalesces f)) functions
functions_say structs number [] = refl
functions_say structs number (f ∷ rest) = function_says structs number f f.entry (nodes_from structs (number + 1) rest) _ refl (functions_say structs (number + 1) rest)

pub as_nodes_say : (typed : Typed) → list_all (λ (n : NodeAttrs). not (node_coalesces n)) (nodes_said typed) ≡ list_all (λ (f : TypedFunction). not (coalesces f)) typed.functions
as_nodes_say typed = functions_say typed.structs 0 typed.functions
