-- The shared buffers and what is done to them (HLSL, raw buffers and interlocked forms).
use Rattle.std.specs.Prelude.{ℕ, ◌+◌, ◌%◌, ◌^◌, ◌==◌, min, max, nat_lt, bit_and, bit_or, bit_xor, if◌then◌else◌, List, [], ◌∷◌, length, map, slice_index, slice_get, slice_set, unwrap_or}
use Rattle.wg_machine.specs.declared.memory.Atomic.{Atomic}
use Rattle.wg_machine.specs.declared.memory.Atomic.TheVariants as atomic
use Rattle.wg_machine.specs.declared.memory.Write.{Write}
use Rattle.wg_machine.specs.declared.memory.Write.TheVariants.{Set, Add}

-- the buffers, each a list of words
abbrev pub Buffers : Type 0
Buffers = List (List ℕ)

abbrev pub lengths_of : Buffers → List ℕ
lengths_of buffers = map (λ (words : List ℕ). length words) buffers

-- the words of a buffer, none of an unknown one
abbrev pub buffer_at : Buffers → ℕ → List ℕ
buffer_at buffers b = unwrap_or (slice_get buffers b) []

-- a word, 0 outside its buffer
abbrev pub word_at : Buffers → ℕ → ℕ → ℕ
word_at buffers b w = slice_index (buffer_at buffers b) w

-- the buffers with a word set; outside the buffer nothing is
abbrev pub with_word : Buffers → ℕ → ℕ → ℕ → Buffers
with_word buffers b w value = slice_set buffers b (slice_set (buffer_at buffers b) w value)

abbrev pub written : Buffers → Write → Buffers
written buffers (Set b w value) = with_word buffers b w value
written buffers (Add b w value) = with_word buffers b w ((word_at buffers b w + value) % 2 ^ 32)

-- the buffers after writes, in their order
abbrev pub all_written : Buffers → List Write → Buffers
all_written buffers [] = buffers
all_written buffers (w ∷ ws) = all_written (written buffers w) ws

-- a word's rank among signed words of 32 bits
abbrev pub signed_rank : ℕ → ℕ
signed_rank a = (a + 2 ^ 31) % 2 ^ 32

-- what an interlocked form leaves in place of an old word
abbrev pub exchanged : Atomic → ℕ → ℕ → ℕ → ℕ
exchanged atomic.Min old compare value = min old value
exchanged atomic.MinSigned old compare value = if nat_lt (signed_rank value) (signed_rank old) then value else old
exchanged atomic.Max old compare value = max old value
exchanged atomic.MaxSigned old compare value = if nat_lt (signed_rank old) (signed_rank value) then value else old
exchanged atomic.And old compare value = bit_and old value
exchanged atomic.Or old compare value = bit_or old value
exchanged atomic.Xor old compare value = bit_xor old value
exchanged atomic.Add old compare value = (old + value) % 2 ^ 32
exchanged atomic.Exchange old compare value = value
exchanged atomic.CompareExchange old compare value = if old == compare then value else old
