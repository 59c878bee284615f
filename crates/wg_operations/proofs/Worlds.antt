-- The buffers stand apart from what else lanes share, and keep their lengths.
use Rattle.std.proofs.Common.{◌≡◌, ℕ, zero, suc, Bool, true, false, List, [], ◌∷◌, ◌++◌, length, map, Option, Some, None, refl, sym, ap, ◌∙◌, subst}
use Rattle.std.specs.Prelude.{if◌then◌else◌, slice_get, slice_set, unwrap_or}
use Rattle.std.proofs.lemmas.List.{length-set}
use Rattle.std.specs.List.{list_all}
use Rattle.wg_machine.specs.Agreement.{Trace, Agrees, AgreesWith, now_of}
use Rattle.wg_machine.specs.Buffers.{Buffers, lengths_of, buffer_at, with_word, written, all_written}
use Rattle.wg_machine.specs.declared.memory.Write.{Write}
use Rattle.wg_machine.specs.declared.memory.Write.TheVariants.{Set, Add}
use Rattle.wg_machine.specs.declared.shape.Output.{Output}
use Rattle.wg_state.specs.Requests.{requested, asked, whole_or_none, with_grant, budget_taken, budget_of, denied_once, is_granted, closed}
use Rattle.wg_state.specs.declared.world.Request.{Request}
use Rattle.wg_state.specs.declared.world.World.{World}

-- ---- requests and buffers

if_over : (c : Bool) (x y : World) (b : Buffers) → (if c then record x { buffers = b } else record y { buffers = b }) ≡ record (if c then x else y) { buffers = b }
if_over true x y b = refl
if_over false x y b = refl

asked_over : (outputs : List Output) (r : Request) (n : ℕ) (w : World) (b : Buffers) → asked outputs r n (record w { buffers = b }) ≡ record (asked outputs r n w) { buffers = b }
asked_over outputs r zero w b = refl
asked_over outputs r (suc n) w b = if_over (is_granted outputs r w) _ _ b

pub requested_over : (outputs : List Output) (r : Request) (w : World) (b : Buffers) → requested outputs r (record w { buffers = b }) ≡ record (requested outputs r w) { buffers = b }
requested_over outputs r w b = asked_over outputs r r.amount w b

pub closed_over : (grant : Option ℕ) (w : World) (b : Buffers) → closed grant (record w { buffers = b }) ≡ record (closed grant w) { buffers = b }
closed_over None w b = refl
closed_over (Some at) w b = refl

-- ---- lengths

length_at : (a b : Buffers) → lengths_of a ≡ lengths_of b → (i : ℕ) → length (buffer_at a i) ≡ length (buffer_at b i)
length_at a b e i = sym (by a i) ∙ (ap (λ (l : List ℕ). unwrap_or (slice_get l i) 0) e ∙ by b i)
  where
    by : (c : Buffers) (i : ℕ) → unwrap_or (slice_get (lengths_of c) i) 0 ≡ length (buffer_at c i)
    by [] i = refl
    by (x ∷ c) zero = refl
    by (x ∷ c) (suc i) = by c i

with_word_keeps : (b : Buffers) (i w v : ℕ) → lengths_of (with_word b i w v) ≡ lengths_of b
with_word_keeps [] i w v = refl
with_word_keeps (x ∷ b) zero w v = ap (λ n. n ∷ lengths_of b) (length-set x w v)
with_word_keeps (x ∷ b) (suc i) w v = ap (λ l. length x ∷ l) (with_word_keeps b i w v)

written_keeps : (b : Buffers) (w : Write) → lengths_of (written b w) ≡ lengths_of b
written_keeps b (Set i w v) = with_word_keeps b i w v
written_keeps b (Add i w v) = with_word_keeps b i w _

all_written_keeps : (b : Buffers) (ws : List Write) → lengths_of (all_written b ws) ≡ lengths_of b
all_written_keeps b [] = refl
all_written_keeps b (w ∷ ws) = all_written_keeps (written b w) ws ∙ written_keeps b w

-- a buffer now is as long as at the start
pub length_now : (trace : Trace) (start : Buffers) (buffer : ℕ) → AgreesWith trace start → length (buffer_at (now_of trace start) buffer) ≡ length (buffer_at trace.over buffer)
length_now trace start buffer agrees =
    length_at (now_of trace start) start (all_written_keeps start trace.writes) buffer ∙ length_at start trace.over agrees.lengths buffer
