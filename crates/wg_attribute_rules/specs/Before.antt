-- What is kept of the attributes before one in a list: their names in small letters, and which bounds and grids stood.
use Rattle.std.specs.Prelude.{ℕ, ◌≡◌, Bool, false, is_some, List, map, Option, Some, None}
use Rattle.wg_text.specs.Names.{found_in}
use Rattle.wg_typing.specs.AttributeNames.{standing}
use Rattle.wg_typing.specs.AttributeSites.{Position}
use Rattle.wg_typing.specs.AttributeTwice.{any_rival, small_name}
use Rattle.wg_typing.specs.Named.{is_among}
use Rattle.wg_typed.specs.declared.typed_stmt.TypedAttribute.{TypedAttribute}
use Rattle.wg_typing.specs.declared.attribute.AttributeName.{AttributeName}
use Rattle.wg_typing.specs.declared.attribute.AttributeName.TheVariants.{DispatchGrid, MaxDispatchGrid, MaxRecords, MaxRecordsSharedWith}
use Rattle.wg_attribute_rules.specs.declared.before.Before.{Before}
use Rattle.wg_attribute_rules.specs.declared.before.Stood.{Stood}

-- whether a rival of the attribute stood
abbrev pub rival_stood : Stood → Option AttributeName → Bool
rival_stood s None = false
rival_stood s (Some DispatchGrid) = s.max_grid
rival_stood s (Some MaxDispatchGrid) = s.grid
rival_stood s (Some MaxRecords) = s.shared_bound
rival_stood s (Some MaxRecordsSharedWith) = s.bound
rival_stood s (Some _) = false

-- it keeps these attributes
pub record Keeps (position : Position) (before : List TypedAttribute) (b : Before) : Type 0 where
  pub names : (name : List ℕ) → is_some (found_in b.names name) ≡ is_among (map small_name before) name
  pub rivals : (name : Option AttributeName) → rival_stood b.stood name ≡ any_rival name (map (standing position) before)
