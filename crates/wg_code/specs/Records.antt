-- The new records of a lane's handles, and changes of what the lanes share. Own.
use Rattle.std.specs.Prelude.{ℕ, if◌then◌else◌, List, [], slice_get, slice_set, Option, Some, None}
use Rattle.wg_machine.specs.Buffers.{Buffers, with_word}
use Rattle.wg_state.specs.Requests.{latest}
use Rattle.wg_state.specs.WordLists.{list_at}
use Rattle.wg_state.specs.declared.world.Grant.{Grant}
use Rattle.wg_state.specs.declared.world.World.{World}
use Rattle.wg_code.specs.declared.code.Handle.{Handle}
use Rattle.wg_code.specs.Lane.{Around, Site}

abbrev pub in_world : (World → World) → Site → Site
in_world g f = record f { world = g f.world }

abbrev pub with_buffers : (Buffers → Buffers) → Site → Site
with_buffers g = in_world (λ w. record w { buffers = g w.buffers })

abbrev pub with_input : ℕ → ℕ → ℕ → Site → Site
with_input input at v = in_world (λ w. record w { inputs = with_word w.inputs input at v })

-- the lane whose requests a handle stands for: a group handle's is 0
abbrev pub owner_of : Option Handle → ℕ → ℕ
owner_of None lane = lane
owner_of (Some h) lane = if h.group then 0 else lane

abbrev pub output_in : Option Handle → ℕ
output_in None = 0
output_in (Some h) = h.output

-- the place of a handle's last grant among the grants
abbrev pub grant_of : Around → ℕ → Site → Option ℕ
grant_of around handle f = latest handle (owner_of (slice_get around.handles handle) around.lane) 0 None f.world.grants

-- the records of a grant; after its `OutputComplete` a handle has none
abbrev pub open_items : Option Grant → List (List ℕ)
open_items None = []
open_items (Some g) = if g.complete then [] else g.items

abbrev pub items_at : Option ℕ → List Grant → List (List ℕ)
items_at None grants = []
items_at (Some at) grants = open_items (slice_get grants at)

abbrev pub record_words : Around → ℕ → ℕ → Site → List ℕ
record_words around handle index f = list_at (items_at (grant_of around handle f) f.world.grants) index

abbrev pub grant_with : Option Grant → ℕ → (List ℕ → List ℕ) → ℕ → List Grant → List Grant
grant_with None index g at grants = grants
grant_with (Some r) index g at grants =
    if r.complete then grants else slice_set grants at (record r { items = slice_set r.items index (g (list_at r.items index)) })

abbrev pub grants_with : Option ℕ → ℕ → (List ℕ → List ℕ) → List Grant → List Grant
grants_with None index g grants = grants
grants_with (Some at) index g grants = grant_with (slice_get grants at) index g at grants

-- with a record of a handle changed
abbrev pub with_record : Around → ℕ → ℕ → (List ℕ → List ℕ) → Site → Site
with_record around handle index g f = in_world (λ w. record w { grants = grants_with (grant_of around handle f) index g w.grants }) f
