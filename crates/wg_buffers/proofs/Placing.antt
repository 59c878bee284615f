-- Writes that all go to one buffer.
use Rattle.std.proofs.Common.{◌≡◌, ℕ, ◌<◌, ◌≤◌, All, List, [], ◌∷◌, length, get_or, set, refl, sym, ◌∙◌, ap, subst, arith}
use Rattle.std.proofs.lemmas.List.{length-set, get_or-set_same, set_past, set-get_or}
use Rattle.std.proofs.lemmas.List.Elements.{All-tail}
use Rattle.std.proofs.lemmas.Option.{unwrap_or-slice_get}
use Rattle.wg_buffers.proofs.Lists.{set_again, same_read}
use Rattle.wg_machine.specs.declared.memory.Write.{Write}
use Rattle.wg_machine.specs.declared.memory.Write.TheVariants.{Set, Add}
use Rattle.wg_machine.specs.Buffers.{Buffers, buffer_at, written, all_written}
use Rattle.wg_buffers.specs.declared.buffers.PagePlace.{PagePlace}
use Rattle.wg_buffers.specs.Pages.{target_buffer, target_word, word_written, buffer_written, IsOnPage}
use Rattle.wg_buffers.specs.Places.{page_place}

abbrev pub IsAt : PagePlace → Write → Type 0
IsAt place w = page_place w ≡ place

pub on_page : (place : PagePlace) (ws : List Write) → All (IsAt place) ws → All (IsOnPage place.page) ws
on_page place ws all = λ k d h. ap (λ p. p.page) (all k d h)

one : (buffers : Buffers) (b : ℕ) (w : Write) → target_buffer w ≡ b
    → written buffers w ≡ set buffers b (word_written (buffer_at buffers b) (target_word w) w)
one buffers b (Set c w v) e = let P : ℕ → Type 0 = λ x. written buffers (Set c w v) ≡ set buffers x (word_written (buffer_at buffers x) w (Set c w v)) in subst P e refl
one buffers b (Add c w v) e = let P : ℕ → Type 0 = λ x. written buffers (Add c w v) ≡ set buffers x (word_written (buffer_at buffers x) w (Add c w v)) in subst P e refl

found : (buffers : Buffers) (b : ℕ) (words : List ℕ) → b < length buffers → buffer_at (set buffers b words) b ≡ words
found buffers b words within = unwrap_or-slice_get (set buffers b words) b [] ∙ get_or-set_same buffers b words [] within

-- all writes to one buffer write that buffer's words
pub all_to_buffer : (ws : List Write) (buffers : Buffers) (place : PagePlace) → All (IsAt place) ws → place.buffer < length buffers
    → all_written buffers ws ≡ set buffers place.buffer (buffer_written (get_or buffers place.buffer []) ws)
all_to_buffer [] buffers place all within = sym (set-get_or buffers place.buffer [])
all_to_buffer (w ∷ ws) buffers place all within =
    let b = place.buffer in
    let words = word_written (buffer_at buffers b) (target_word w) w in
    let first : written buffers w ≡ set buffers b words = one buffers b w (ap (λ p. p.buffer) (all 0 w (omega arith))) in
    let next = set buffers b words in
    let rest = all_to_buffer ws next place (All-tail (IsAt place) w ws all) (omega (arith, length-set buffers b words, within)) in
    let here : get_or next b [] ≡ words = get_or-set_same buffers b words [] within in
    let start : buffer_at buffers b ≡ get_or buffers b [] = unwrap_or-slice_get buffers b [] in
    ap (λ bs. all_written bs ws) first ∙ rest ∙ ap (λ x. set next b (buffer_written x ws)) here ∙ set_again buffers b words (buffer_written words ws)
    ∙ ap (λ x. set buffers b (buffer_written (word_written x (target_word w) w) ws)) start

pub all_to_none : (ws : List Write) (buffers : Buffers) (place : PagePlace) → All (IsAt place) ws → length buffers ≤ place.buffer
    → all_written buffers ws ≡ buffers
all_to_none [] buffers place all past = refl
all_to_none (w ∷ ws) buffers place all past =
    let b = place.buffer in
    let words = word_written (buffer_at buffers b) (target_word w) w in
    let first : written buffers w ≡ set buffers b words = one buffers b w (ap (λ p. p.buffer) (all 0 w (omega arith))) in
    ap (λ bs. all_written bs ws) (first ∙ set_past buffers b words past) ∙ all_to_none ws buffers place (All-tail (IsAt place) w ws all) past

pub stored_buffer : (ws : List Write) (buffers : Buffers) (place : PagePlace) (old new : List ℕ) → All (IsAt place) ws → place.buffer < length buffers
    → old ≡ get_or buffers place.buffer old → new ≡ buffer_written old ws → set buffers place.buffer new ≡ all_written buffers ws
stored_buffer ws buffers place old new all within is e =
    ap (λ (x : List ℕ). set buffers place.buffer x) (e ∙ ap (λ (x : List ℕ). buffer_written x ws) (is ∙ same_read buffers place.buffer old [] within))
    ∙ sym (all_to_buffer ws buffers place all within)
