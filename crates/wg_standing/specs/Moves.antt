-- What a core becomes when it opens a launch or settles one. This project's own.
use Rattle.std.specs.Prelude.{◌≡◌, ◌||◌, ℕ, ◌+◌, ◌-◌, ◌*◌, ◌==◌, ◌&&◌, max, Bool, true, false, if◌then◌else◌, nat_le, List, [], ◌∷◌, ◌++◌, length, map, filter, Option, None, Some, count_by, unwrap_or}
use Rattle.std.specs.List.{list_any, flat_map}
use Rattle.wg_machine.specs.declared.shape.Shape.{Shape}
use Rattle.wg_machine.specs.declared.launch.Live.{Live}
use Rattle.wg_machine.specs.LaunchMeaning.{Meaning, Outcome}
use Rattle.wg_machine.specs.State.{born, kept}
use Rattle.wg_machine.specs.Step.{entry_of, has_number, left_after}
use Rattle.wg_machine.specs.Units.{stride_at}
use Rattle.wg_standing.specs.declared.pending.Pending.{Pending}
use Rattle.wg_standing.specs.Core.{CoreView}
use Rattle.wg_standing.specs.Outs.{launch_now, unopened}
use Rattle.wg_standing.specs.Standing.{by_unit, in_slot, is_entry_record, opened_of}

-- the core with one more launch out
abbrev pub with_out : CoreView → Pending → CoreView
with_out core o =
    let opened = opened_of (unopened (core.outs ++ o ∷ []) core.bag) core.bag in
    record core {
      waits = map (left_after o.inputs o.at None) core.waits;
      entries = left_after o.inputs o.at None core.entries;
      held = by_unit core.handed 0 (length core.shape.units) opened;
      taken = filter (is_entry_record core.handed) opened;
      outs = core.outs ++ o ∷ [];
      spare = core.spare + 1;
      tickets = core.tickets + 1;
    }

-- the records with new words where they have these numbers
abbrev pub with_words : List ℕ → Option (List ℕ) → List Live → List Live
with_words numbers new xs = map (λ (x : Live). if has_number numbers x.number then record x { words = unwrap_or new x.words } else x) xs

-- what waits at each unit, from v on, with new records at the ends
abbrev pub all_more : ℕ → ℕ → List Live → List (List Live) → List (List Live)
all_more handed v fresh [] = []
all_more handed v fresh (ws ∷ waits) = (ws ++ filter (in_slot handed v) fresh) ∷ all_more handed (v + 1) fresh waits

-- a record that waits, or of which a launch is out
abbrev pub is_still : List (List Live) → List Pending → ℕ → Bool
is_still waits outs n =
    list_any (λ (ws : List Live). list_any (λ (x : Live). x.number == n) ws) waits
    || list_any (λ (p : Pending). has_number p.inputs n) outs

-- how many slots the settling of a launch frees, where these stay out
abbrev pub freed : CoreView → Pending → List Pending → ℕ
freed core o outs = count_by (λ n. nat_le core.handed n && (if is_still core.waits outs n then false else true)) o.inputs

-- by unit, from v on, the slots in use where one unit gives back some, and new records come
abbrev pub used_more : ℕ → ℕ → ℕ → ℕ → List Live → List ℕ → List ℕ
used_more handed v unit gone fresh [] = []
used_more handed v unit gone fresh (n ∷ used) =
    ((n - (if v == unit then gone else 0)) + count_by (in_slot handed v) fresh) ∷ used_more handed (v + 1) unit gone fresh used

-- the bytes of slots, from a unit on
abbrev pub slot_bytes : Shape → ℕ → List ℕ → ℕ
slot_bytes shape v [] = 0
slot_bytes shape v (n ∷ used) = n * stride_at shape v + slot_bytes shape (v + 1) used

-- the core after a launch out made its step: `before` and `later` stay out
abbrev pub settled_of : CoreView → List Pending → Pending → List Pending → Outcome → CoreView
settled_of core before o later outcome =
    let fresh = flat_map kept (born core.shape core.next outcome.sent) in
    let used = used_more core.handed 0 o.unit (freed core o (before ++ later)) fresh core.used in
    let bag = left_after o.inputs o.at outcome.shared core.bag ++ fresh in
    let opened = opened_of (unopened (before ++ later) bag) bag in
    record core {
      journal = core.journal ++ entry_of (launch_now core.shape core.bag o) o.at core.next outcome ∷ [];
      next = core.next + length outcome.sent;
      buffers = outcome.buffers;
      bag = bag;
      waits = all_more core.handed 0 fresh (map (with_words o.inputs outcome.shared) core.waits);
      entries = with_words o.inputs outcome.shared core.entries;
      held = by_unit core.handed 0 (length core.shape.units) opened;
      taken = filter (is_entry_record core.handed) opened;
      used = used;
      outs = before ++ later;
      spare = core.spare - 1;
      denied = core.denied + outcome.denied;
      peak = max core.peak (slot_bytes core.shape 0 used);
    }

-- the core with one more guess kept
abbrev pub with_kept : CoreView → CoreView
with_kept core = record core { kept = core.kept + 1 }

-- one launch that was out has made its step, by what its launch of now made
pub record TakesStep (made : Meaning) (old new : CoreView) (ticket : ℕ) : Type 0 where
  pub before : List Pending
  pub pending : Pending
  pub later : List Pending
  pub was_out : old.outs ≡ before ++ pending ∷ later
  pub named : pending.ticket ≡ ticket
  pub outcome : Outcome
  pub runs : made (launch_now old.shape old.bag pending) old.buffers old.limits.turns ≡ Some outcome
  pub after : new ≡ settled_of old before pending later outcome
