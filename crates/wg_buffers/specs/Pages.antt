-- Words kept in pages of 256, and what writes do to a page. This project's own.
use Rattle.std.specs.Prelude.{◌≡◌, ℕ, ◌+◌, ◌-◌, ◌*◌, ◌%◌, ◌/◌, ◌^◌, ◌<◌, ◌≤◌, All, List, [], ◌∷◌, ◌++◌, length, take, slice_index, slice_set}
use Rattle.wg_machine.specs.declared.memory.Write.{Write}
use Rattle.wg_machine.specs.declared.memory.Write.TheVariants.{Set, Add}

-- the words of pages, up to a length
abbrev pub joined : List (List ℕ) → ℕ → List ℕ
joined [] size = []
joined (page ∷ pages) size = take size page ++ joined pages (size - 256)

-- whole pages, enough for a length
pub record ArePages (pages : List (List ℕ)) (size : ℕ) : Type 0 where
  pub whole : All (λ page. length page ≡ 256) pages
  pub enough : size ≤ 256 * length pages
  pub small : size < 2 ^ 32

abbrev pub target_buffer : Write → ℕ
target_buffer (Set b w value) = b
target_buffer (Add b w value) = b

abbrev pub target_word : Write → ℕ
target_word (Set b w value) = w
target_word (Add b w value) = w

-- words with one of them written, outside of which nothing is
abbrev pub word_written : List ℕ → ℕ → Write → List ℕ
word_written words at (Set b w value) = slice_set words at value
word_written words at (Add b w value) = slice_set words at ((slice_index words at + value) % 2 ^ 32)

-- a buffer's words after writes to it
abbrev pub buffer_written : List ℕ → List Write → List ℕ
buffer_written words [] = words
buffer_written words (w ∷ ws) = buffer_written (word_written words (target_word w) w) ws

-- a page's words after writes to it
abbrev pub page_written : List ℕ → List Write → List ℕ
page_written words [] = words
page_written words (w ∷ ws) = page_written (word_written words (target_word w % 256) w) ws

-- a write's word is on a page of its buffer
abbrev pub IsOnPage : ℕ → Write → Type 0
IsOnPage page w = target_word w / 256 ≡ page
