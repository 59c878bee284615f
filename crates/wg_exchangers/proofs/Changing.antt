-- What follows one another on a memory.
use Rattle.std.proofs.Common.{◌≡◌, ℕ, Bool, true, false, List, [], ◌∷◌, ◌++◌, refl, sym, ap, ◌∙◌, inl, inr}
use Rattle.std.specs.Prelude.{◌&&◌}
use Rattle.std.specs.List.{list_all}
use Rattle.std.proofs.lemmas.List.{append-nil, append_assoc}
use Rattle.std.proofs.lemmas.List.Folds.{list_all-append}
use Rattle.wg_machine.specs.declared.memory.Seen.{Seen}
use Rattle.wg_machine.specs.declared.memory.Write.{Write}
use Rattle.wg_machine.specs.declared.memory.Write.TheVariants.{Set, Add}
use Rattle.wg_machine.specs.Agreement.{Trace, AgreesWith, has_seen, now_of}
use Rattle.wg_machine.specs.Buffers.{Buffers, all_written, exchanged, lengths_of, with_word, word_at, written}
use Rattle.wg_machine.specs.Effects.{Exchanges, Grows, LogsAndWrites, LogsAtMost, OnlyLogs, OnlyWrites, Reads, Writes}
use Rattle.wg_exchangers.specs.Exchanging.{Changes, after, begun, exchanged_by, form_done, told}
use Rattle.wg_exchangers.specs.declared.form.Before.TheVariants as before
use Rattle.wg_exchangers.specs.declared.form.Form.{Form}

both_left : (a b : Bool) → (a && b) ≡ true → a ≡ true
both_left true b e = refl
both_left false b e = e

-- what agrees later agreed before
back : (old new : Trace) (start : Buffers) → Grows old new → AgreesWith new start → AgreesWith old start
back old new start g a = record {
  lengths = a.lengths ∙ ap lengths_of g.over;
  log =
      both_left (list_all (has_seen start) old.log) (list_all (has_seen start) g.log.0)
      (sym (list_all-append (has_seen start) old.log g.log.0) ∙ (sym (ap (λ (l : List Seen). list_all (has_seen start) l) g.log.1) ∙ a.log));
}

grows_on : (a b c : Trace) → Grows a b → Grows b c → Grows a c
grows_on a b c g h = record {
  over = h.over ∙ g.over;
  log = (g.log.0 ++ h.log.0, h.log.1 ∙ (ap (λ (l : List Seen). l ++ h.log.0) g.log.1 ∙ append_assoc a.log g.log.0 h.log.0));
  writes = (g.writes.0 ++ h.writes.0, h.writes.1 ∙ (ap (λ (l : List Write). l ++ h.writes.0) g.writes.1 ∙ append_assoc a.writes g.writes.0 h.writes.0));
}

logs_more : (b w : ℕ) (old new : List Seen) → LogsAtMost b w old new → (more : List Seen) × (new ≡ old ++ more)
logs_more b w old new (inl e) = ([], e ∙ sym (append-nil old))
logs_more b w old new (inr e) = (_, e.1)

logged_grows : (b w : ℕ) (old new : Trace) → LogsAndWrites b w old new → Grows old new
logged_grows b w old new l = record { over = l.over; log = logs_more b w old.log new.log l.log; writes = l.writes }

read_grows : (b w : ℕ) (old new : Trace) → OnlyLogs b w old new → Grows old new
read_grows b w old new l = record { over = l.over; log = logs_more b w old.log new.log l.log; writes = ([], l.writes ∙ sym (append-nil old.writes)) }

written_grows : (old new : Trace) → OnlyWrites old new → Grows old new
written_grows old new l = record { over = l.over; log = ([], l.log ∙ sym (append-nil old.log)); writes = l.writes }

pub same_trace : (w : ℕ) (t : Trace) → Changes (begun before.Nothing w) t t
same_trace w t = record {
  grows = record { over = refl; log = ([], sym (append-nil t.log)); writes = ([], sym (append-nil t.writes)) };
  now = λ start agrees. refl;
}

pub load_changes : (w : ℕ) (a b : Trace) → OnlyLogs 0 w a b → Changes (begun before.Load w) a b
load_changes w a b l = record {
  grows = read_grows 0 w a b l;
  now = λ start agrees. ap (λ (ws : List Write). all_written start ws) l.writes;
}

pub store_changes : (w value : ℕ) (a b : Trace) → OnlyWrites a b → Writes a b (Set 0 w value) → Changes (begun (before.Store value) w) a b
store_changes w value a b l is = record { grows = written_grows a b l; now = is }

pub add_changes : (w value : ℕ) (a b : Trace) → OnlyWrites a b → Writes a b (Add 0 w value) → Changes (begun (before.Add value) w) a b
add_changes w value a b l is = record { grows = written_grows a b l; now = is }

-- a change after another
pub changes_on : (f g : Buffers → Buffers) (a b c : Trace) → Changes f a b → Changes g b c → Changes (λ m. g (f m)) a c
changes_on f g a b c x y = record {
  grows = grows_on a b c x.grows y.grows;
  now = λ start agrees. y.now start agrees ∙ ap g (x.now start (back b c start y.grows agrees));
}

abbrev exchange_with : Form → Buffers → ℕ → Buffers
exchange_with f m old = with_word m 0 f.word (exchanged f.op old f.compare f.value)

-- the four calls of a form
pub form_changes : (f : Form) (a b c d e : Trace) (found left : ℕ) → LogsAndWrites 0 f.word a b → Exchanges a b f.op 0 f.word f.compare f.value found → OnlyLogs 0 f.word b c → Reads b c 0 f.word left
    → OnlyWrites c d → Writes c d (Set 1 0 found) → OnlyWrites d e → Writes d e (Set 1 1 left) → Changes (exchanged_by f) a e
form_changes f a b c d e found left ab exchange bc read cd first de second =
    let gb = logged_grows 0 f.word a b ab in
    let gc = read_grows 0 f.word b c bc in
    let gd = written_grows c d cd in
    let ge = written_grows d e de in
    let gce = grows_on c d e gd ge in
    let gbe = grows_on b c e gc gce in
    record {
      grows = grows_on a b e gb gbe;
      now = λ start agrees.
          let at_d = back d e start ge agrees in
          let at_c = back c e start gce agrees in
          let at_b = back b e start gbe agrees in
          let done : now_of b start ≡ form_done f (now_of a start) = exchange.leaves start at_b ∙ ap (λ (v : ℕ). exchange_with f (now_of a start) v) (exchange.found_is start at_b) in
          let same : now_of c start ≡ now_of b start = ap (λ (ws : List Write). all_written start ws) bc.writes in
          second start agrees
          ∙ ap (λ (m : Buffers). written m (Set 1 1 left)) (first start at_d)
          ∙ ap (λ (m : Buffers). told found left m) (same ∙ done)
          ∙ ap (λ (v : ℕ). told v left (form_done f (now_of a start))) (exchange.found_is start at_b)
          ∙ ap (λ (v : ℕ). told (word_at (now_of a start) 0 f.word) v (form_done f (now_of a start))) (read start at_c ∙ ap (λ (m : Buffers). word_at m 0 f.word) done);
    }

-- a form after what goes before it
pub after_changes : (f : Form) (a b c : Trace) → Changes (begun f.before f.word) a b → Changes (exchanged_by f) b c → Changes (after f) a c
after_changes f a b c x y = changes_on (begun f.before f.word) (exchanged_by f) a b c x y
