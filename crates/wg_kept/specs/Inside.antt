-- Inside a keep: its fields, and what every keep keeps. This project's own.
use Rattle.std.specs.Prelude.{◌≡◌, ℕ, ◌+◌, ◌*◌, ◌≤◌, List, length, map}
use Rattle.wg_words.specs.Each.{Each}
use Rattle.wg_words.specs.declared.limits.TheConstants.{MOST_ENTRIES, MOST_LAUNCHES, MOST_SENT}
use Rattle.wg_machine.specs.declared.launch.Entry.{Entry}
use Rattle.wg_machine.specs.declared.launch.Limits.{Limits}
use Rattle.wg_machine.specs.Bytes.{plan_bytes}
use Rattle.wg_standing.specs.declared.pending.Pending.{Pending}
use Rattle.wg_store.specs.Keep.{IsKept, IsRoomOf, Kept}
use Rattle.wg_kept.specs.declared.store.Store.{Store}

-- the launches out, without the tickets that they are found by
abbrev pub pendings : List (ℕ × Pending) → List Pending
pendings outs = map (λ (e : ℕ × Pending). e.1) outs

-- what contracts see
abbrev pub kept_of : Store → ℕ → Limits → List Entry → ℕ → List (ℕ × Pending) → ℕ → Kept
kept_of store width limits journal next outs tickets =
    record {
      shape = store.hold.shape;
      width = width;
      limits = limits;
      entries = store.entries;
      slots = store.hold.items;
      outs = pendings outs;
      journal = journal;
      next = next;
      tickets = tickets;
    }

-- each launch out is found by its own ticket
abbrev pub AreNamed : List (ℕ × Pending) → Type 0
AreNamed outs = Each (λ (e : ℕ × Pending). e.1.ticket ≡ e.0) outs

-- what every keep keeps
pub record IsSoundKeep (k : Kept) (store : Store) (outs : List (ℕ × Pending)) (places planned : ℕ) : Type 0 where
  pub kept : IsKept k
  pub room : IsRoomOf k store.hold.room
  pub named : AreNamed outs
  -- the journal has a place for each launch out
  pub spare : length k.journal + length k.outs ≤ places
  pub bytes : planned ≡ plan_bytes k.shape k.width
  -- bounds of the numbers
  pub few : k.limits.launches ≤ MOST_LAUNCHES
  pub next : k.next ≤ MOST_ENTRIES + MOST_SENT * length k.journal
