-- Where values stand, and how they are read and written there. Reading outside gives zeros, and writing there does nothing; own.
use Rattle.std.specs.Prelude.{ℕ, Bool, zero, suc, ◌+◌, ◌*◌, nat_lt, nat_le, if◌then◌else◌, List, [], ◌∷◌, length, slice_get, slice_index, slice_set, Option, Some, None}
use Rattle.wg_state.specs.declared.world.World.{World}
use Rattle.wg_semantics.specs.declared.state.State.{State}
use Rattle.wg_state.specs.declared.world.Grant.{Grant}
use Rattle.wg_machine.specs.declared.shape.Output.{Output}
use Rattle.wg_semantics.specs.declared.state.Store.{Store}
use Rattle.wg_semantics.specs.declared.state.Store.TheVariants as store
use Rattle.wg_semantics.specs.declared.state.Spot.{Spot}
use Rattle.wg_semantics.specs.declared.state.Spot.TheVariants as spot
use Rattle.wg_typed.specs.declared.types.TypeTree.{TypeTree}
use Rattle.wg_typed.specs.declared.types.TypeTree.TheVariants as type
use Rattle.wg_typed.specs.declared.typed.TypedStruct.{TypedStruct}
use Rattle.wg_typed.specs.declared.typed.TypedHandle.{TypedHandle}
use Rattle.wg_typed.specs.Layout.{Range, words_of, words_in}
use Rattle.wg_state.specs.Requests.{latest}
use Rattle.wg_state.specs.WordLists.{zeros, list_at}
use Rattle.wg_typed.specs.Marks.{marks_in, cleaned}

-- what stays the same while a lane runs: the text's structs, the entry function's handles, its unit's outputs and level, whether the launch
-- is the last of a shared record, and the lane's number
pub record Setting : Type 0 where
  pub structs : List TypedStruct
  pub handles : List TypedHandle
  pub outputs : List Output
  pub level : ℕ
  pub last : Bool
  pub lane : ℕ

-- ---- words

-- so many words from one on; 0 behind the end
abbrev pub words_from : List ℕ → ℕ → ℕ → List ℕ
words_from words from zero = []
words_from words from (suc n) = slice_index words from ∷ words_from words (suc from) n

-- the words with others written over them from one on; behind the end nothing is written
abbrev pub over_written : List ℕ → ℕ → List ℕ → List ℕ
over_written words from [] = words
over_written words from (v ∷ values) = over_written (slice_set words from v) (suc from) values

-- ---- stores

abbrev pub items_in : Option Grant → List (List ℕ)
items_in None = []
items_in (Some g) = g.items

abbrev pub with_item_in : Option Grant → ℕ → List ℕ → List Grant → ℕ → List Grant
with_item_in None item words grants at = grants
with_item_in (Some g) item words grants at = slice_set grants at (record g { items = slice_set g.items item words })

abbrev pub with_item : List Grant → ℕ → ℕ → List ℕ → List Grant
with_item grants at item words = with_item_in (slice_get grants at) item words grants at

abbrev pub stored : Store → State → List ℕ
stored (store.Variable variable) s = list_at s.variables variable
stored (store.Shared variable) s = list_at s.world.shared variable
stored (store.Buffer buffer) s = list_at s.world.buffers buffer
stored (store.Input number) s = list_at s.world.inputs number
stored (store.Granted grant item) s = list_at (items_in (slice_get s.world.grants grant)) item

abbrev pub in_variables : (List (List ℕ) → List (List ℕ)) → State → State
in_variables f s = record s { variables = f s.variables }

abbrev pub in_world : (World → World) → State → State
in_world f s = record s { world = f s.world }

-- the state where a store has these words
abbrev pub with_stored : Store → List ℕ → State → State
with_stored (store.Variable variable) words = in_variables (λ values. slice_set values variable words)
with_stored (store.Shared variable) words = in_world (λ w. record w { shared = slice_set w.shared variable words })
with_stored (store.Buffer buffer) words = in_world (λ w. record w { buffers = slice_set w.buffers buffer words })
with_stored (store.Input number) words = in_world (λ w. record w { inputs = slice_set w.inputs number words })
with_stored (store.Granted grant item) words = in_world (λ w. record w { grants = with_item w.grants grant item words })

-- ---- reading and writing

-- what a buffer or a record of the input holds is made a value of the type as it is read
abbrev pub as_read : Store → List TypedStruct → TypeTree → List ℕ → List ℕ
as_read (store.Variable variable) structs t words = words
as_read (store.Shared variable) structs t words = words
as_read (store.Buffer buffer) structs t words = cleaned (marks_in structs t) words
as_read (store.Input number) structs t words = cleaned (marks_in structs t) words
as_read (store.Granted grant item) structs t words = words

-- the words of a value of the type
abbrev pub fetched : List TypedStruct → TypeTree → Spot → State → List ℕ
fetched structs t (spot.Value words) s = words
fetched structs t (spot.At store from) s = as_read store structs t (words_from (stored store s) from (words_of structs t))
fetched structs t spot.Nowhere s = zeros (words_of structs t)

abbrev pub written : Spot → List ℕ → State → State
written (spot.Value words) values s = s
written (spot.At store from) values s = with_stored store (over_written (stored store s) from values) s
written spot.Nowhere values s = s

-- ---- parts

-- the part of a value that stands in a range of its words
abbrev pub part_at : Range → Spot → Spot
part_at r (spot.Value words) = spot.Value (words_in r words)
part_at r (spot.At store from) = spot.At store (from + r.from)
part_at r spot.Nowhere = spot.Nowhere

abbrev pub array_size : TypeTree → ℕ
array_size (type.Array of size) = size
array_size (type.Scalar of) = 0
array_size (type.Vector of size) = 0
array_size (type.Struct number) = 0

-- an element of an array; its type has so many words
abbrev pub element_at : ℕ → ℕ → ℕ → Spot → Spot
element_at size words at p = if nat_lt at size then part_at (record { from = at * words; to = (at + 1) * words }) p else spot.Nowhere

-- an element of a structured buffer is in range where all its words are
abbrev pub buffer_element : ℕ → ℕ → ℕ → State → Spot
buffer_element buffer words at s =
    if nat_le ((at + 1) * words) (length (list_at s.world.buffers buffer)) then spot.At (store.Buffer buffer) (at * words) else spot.Nowhere

abbrev pub input_record : ℕ → State → Spot
input_record at s = if nat_lt at (length s.world.inputs) then spot.At (store.Input at) 0 else spot.Nowhere

-- ---- the records of a handle

-- the lane whose requests a handle stands for: a group handle's is 0
abbrev pub owner_of : Option TypedHandle → ℕ → ℕ
owner_of None lane = lane
owner_of (Some h) lane = if h.group then 0 else lane

abbrev pub owner : Setting → ℕ → ℕ
owner setting handle = owner_of (slice_get setting.handles handle) setting.lane

-- the last grant of a handle, by its number
abbrev pub grant_of : Setting → ℕ → State → Option ℕ
grant_of setting handle s = latest handle (owner setting handle) 0 None s.world.grants

-- a record of an open grant; after its `OutputComplete` a handle has none
abbrev pub granted_record : ℕ → ℕ → Option Grant → Spot
granted_record grant at None = spot.Nowhere
granted_record grant at (Some g) =
    if g.complete then spot.Nowhere else if nat_lt at (length g.items) then spot.At (store.Granted grant at) 0 else spot.Nowhere

abbrev pub handle_record_in : Option ℕ → ℕ → State → Spot
handle_record_in None at s = spot.Nowhere
handle_record_in (Some grant) at s = granted_record grant at (slice_get s.world.grants grant)

abbrev pub handle_record : Setting → ℕ → ℕ → State → Spot
handle_record setting handle at s = handle_record_in (grant_of setting handle s) at s
