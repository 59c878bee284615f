-- What a launch knows of the words of the buffers. This project's own.
use Rattle.std.specs.Prelude.{◌≡◌, ℕ, ◌+◌, ◌%◌, ◌^◌, ◌<◌, ◌==◌, ◌&&◌, Bool, IsTrue, List, ◌++◌, length, unwrap_or, count_by, if◌then◌else◌}
use Rattle.std.specs.List.{list_all}
use Rattle.std.specs.Map.{lookup}
use Rattle.wg_machine.specs.declared.memory.Seen.{Seen}
use Rattle.wg_machine.specs.declared.memory.Write.{Write}
use Rattle.wg_machine.specs.declared.memory.Write.TheVariants.{Set, Add}
use Rattle.wg_machine.specs.Agreement.{Agrees, Trace, has_seen}
use Rattle.wg_machine.specs.Buffers.{Buffers, lengths_of, buffer_at, word_at, all_written}
use Rattle.wg_guess.specs.declared.touched.Touched.{Touched}
use Rattle.wg_guess.specs.declared.touched.WordPlace.{WordPlace}
use Rattle.wg_guess.specs.declared.touched.WordNow.{WordNow}
use Rattle.wg_guess.specs.declared.touched.WordNow.TheVariants.{Known, Added}
use Rattle.wg_guess.specs.Logs.{is_seen, is_inside, IsLoggedOnce}

abbrev pub is_place : WordPlace → WordPlace → Bool
is_place p q = (p.buffer == q.buffer) && (p.word == q.word)

abbrev pub Noted : Type 0
Noted = List (WordPlace × WordNow)

-- what is known of a word among those that were touched: to others nothing was added
abbrev pub now_of : Noted → WordPlace → WordNow
now_of words p = unwrap_or (lookup (is_place p) words) (Added 0)

abbrev pub touched_words : Touched → Noted
touched_words t = t.first.items ++ t.more.entries

-- what is known changed at one word
abbrev pub IsChangedAt : WordPlace → WordNow → Noted → Noted → Type 0
IsChangedAt p now old new = (q : WordPlace) → now_of new q ≡ (if is_place p q then now else now_of old q)

abbrev pub IsWithin : Buffers → WordPlace → Type 0
IsWithin over p = p.word < length (buffer_at over p.buffer)

abbrev pub trace_of : Buffers → List Seen → List Write → Trace
trace_of over log writes = record { over = over; log = log; writes = writes }

-- What is known of a word holds: a known word has its value on each start that agrees with the log; one that was at
-- most added to is not in the log, and is its start's word with the sum added.
pub record Holds (over : Buffers) (log : List Seen) (writes : List Write) (p : WordPlace) (now : WordNow) : Type 0 where
  pub known : (value : ℕ) → now ≡ Known value → (start : Buffers) → Agrees (lengths_of over) log start → word_at (all_written start writes) p.buffer p.word ≡ value
  pub unlogged : (sum : ℕ) → now ≡ Added sum → count_by (is_seen p.buffer p.word) log ≡ 0
  pub added : (sum : ℕ) → now ≡ Added sum → (start : Buffers) → lengths_of start ≡ lengths_of over → word_at start p.buffer p.word < 2 ^ 32
      → word_at (all_written start writes) p.buffer p.word ≡ (word_at start p.buffer p.word + sum) % 2 ^ 32

-- What a launch keeps beside the buffers that it was begun over is sound.
pub record IsSound (over : Buffers) (log : List Seen) (writes : List Write) (words : Noted) : Type 0 where
  pub logged : IsTrue (list_all (has_seen over) log)
  pub inside : IsTrue (list_all (is_inside (lengths_of over)) log)
  pub once : IsLoggedOnce log
  pub holds : (p : WordPlace) → Holds over log writes p (now_of words p)

abbrev pub written_place : Write → WordPlace
written_place (Set b w value) = record { buffer = b; word = w }
written_place (Add b w value) = record { buffer = b; word = w }

-- what is known of a word that a write goes to, after the write
abbrev pub now_after : Write → WordNow → WordNow
now_after (Set b w value) now = Known value
now_after (Add b w value) (Known old) = Known ((old + value) % 2 ^ 32)
now_after (Add b w value) (Added sum) = Added ((sum + value) % 2 ^ 32)
