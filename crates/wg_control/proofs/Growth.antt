-- A memory that forgets nothing, from one moment to the next.
use Rattle.std.proofs.Common.{◌≡◌, ℕ, ◌≤◌, Bool, true, false, List, [], ◌++◌, refl, sym, ap, ◌∙◌, arith}
use Rattle.std.specs.Prelude.{IsTrue, ◌&&◌, Result, Ok, Err}
use Rattle.std.specs.List.{list_all}
use Rattle.std.proofs.lemmas.List.{append-nil, append_assoc}
use Rattle.std.proofs.lemmas.List.Folds.{list_all-append}
use Rattle.wg_machine.specs.Agreement.{Trace, AgreesWith, has_seen}
use Rattle.wg_machine.specs.Buffers.{Buffers, lengths_of}
use Rattle.wg_machine.specs.Effects.{Grows}
use Rattle.wg_machine.specs.declared.bodies.Halt.{Halt}
use Rattle.wg_machine.specs.declared.bodies.Halt.TheVariants as halt
use Rattle.wg_machine.specs.declared.memory.Seen.{Seen}
use Rattle.wg_machine.specs.declared.memory.Write.{Write}
use Rattle.wg_operations.specs.Says.{Keeps}
use Rattle.wg_operations.specs.declared.end.End.{End}
use Rattle.wg_leaves.specs.Going.{GoesOn, Kept}
use Rattle.wg_control.specs.Silence.{LogsNothing}

pub both_left : (a b : Bool) → (a && b) ≡ true → a ≡ true
both_left true b e = refl
both_left false b e = e

pub both_right : (a b : Bool) → (a && b) ≡ true → b ≡ true
both_right true b e = e
both_right false b e = absurd (cc)

-- what agrees later agreed before
pub back : (old new : Trace) (start : Buffers) → Grows old new → AgreesWith new start → AgreesWith old start
back old new start g a = record {
  lengths = a.lengths ∙ ap lengths_of g.over;
  log =
      both_left (list_all (has_seen start) old.log) (list_all (has_seen start) g.log.0)
      (sym (list_all-append (has_seen start) old.log g.log.0) ∙ (sym (ap (λ (l : List Seen). list_all (has_seen start) l) g.log.1) ∙ a.log));
}

grows_same : (t : Trace) → Grows t t
grows_same t = record { over = refl; log = ([], sym (append-nil t.log)); writes = ([], sym (append-nil t.writes)) }

grows_on : (a b c : Trace) → Grows a b → Grows b c → Grows a c
grows_on a b c g h = record {
  over = h.over ∙ g.over;
  log = (g.log.0 ++ h.log.0, h.log.1 ∙ (ap (λ (l : List Seen). l ++ h.log.0) g.log.1 ∙ append_assoc a.log g.log.0 h.log.0));
  writes = (g.writes.0 ++ h.writes.0, h.writes.1 ∙ (ap (λ (l : List Write). l ++ h.writes.0) g.writes.1 ∙ append_assoc a.writes g.writes.0 h.writes.0));
}

pub goes_same : (q : Bool) (n : ℕ) (t : Trace) → GoesOn q n n t t
goes_same q n t = record { turns_left = omega arith; grows = grows_same t; silent = λ e. refl }

pub fewer_turns : (q : Bool) (n m : ℕ) (t : Trace) → m ≤ n → GoesOn q n m t t
fewer_turns q n m t le = record { turns_left = le; grows = grows_same t; silent = λ e. refl }

pub goes_then : (q : Bool) (n m k : ℕ) (a b c : Trace) → GoesOn q n m a b → GoesOn q m k b c → GoesOn q n k a c
goes_then q n m k a b c g h = record {
  turns_left = (let x : m ≤ n = g.turns_left in let y : k ≤ m = h.turns_left in omega (arith, x, y));
  grows = grows_on a b c g.grows h.grows;
  silent = λ e. h.silent e ∙ g.silent e;
}

pub goes_weaker : (p q : Bool) → (IsTrue p → IsTrue q) → (n m : ℕ) (a b : Trace) → GoesOn q n m a b → GoesOn p n m a b
goes_weaker p q less n m a b g = record { turns_left = g.turns_left; grows = g.grows; silent = λ e. g.silent (less e) }

pub kept_weaker : (p q : Bool) → (IsTrue p → IsTrue q) → (n m : ℕ) (a : Trace) (r : Result End Halt) (b : Trace) → Kept q n m a r b → Kept p n m a r b
kept_weaker p q less n m a (Ok e) b g = goes_weaker p q less n m a b g
kept_weaker p q less n m a (Err halt.Turns) b g = goes_weaker p q less n m a b g
kept_weaker p q less n m a (Err halt.Memory) b g = tt

-- what is kept from a later moment on is kept from an earlier one
pub kept_then : (q : Bool) (n m k : ℕ) (a b : Trace) (r : Result End Halt) (c : Trace) → GoesOn q n m a b → Kept q m k b r c → Kept q n k a r c
kept_then q n m k a b (Ok e) c g h = goes_then q n m k a b c g h
kept_then q n m k a b (Err halt.Turns) c g h = goes_then q n m k a b c g h
kept_then q n m k a b (Err halt.Memory) c g h = tt

-- an error alone, whatever answer it stands for
pub kept_error : (q : Bool) (n m k : ℕ) (a b : Trace) (h : Halt) (c : Trace) → GoesOn q n m a b → Kept {A = End} q m k b (Err h) c → Kept {A = End} q n k a (Err h) c
kept_error q n m k a b halt.Turns c g e = goes_then q n m k a b c g e
kept_error q n m k a b halt.Memory c g e = tt

pub keeps_of : (q : Bool) (n m : ℕ) (a : Trace) (r : Result End Halt) (b : Trace) → Kept q n m a r b → Keeps r a b
keeps_of q n m a (Ok e) b g = g.grows
keeps_of q n m a (Err halt.Turns) b g = g.grows
keeps_of q n m a (Err halt.Memory) b g = tt

pub silence_of : (q : Bool) (n m : ℕ) (a : Trace) (r : Result End Halt) (b : Trace) → Kept q n m a r b → IsTrue q → LogsNothing r a b
silence_of q n m a (Ok e) b g t = g.silent t
silence_of q n m a (Err halt.Turns) b g t = g.silent t
silence_of q n m a (Err halt.Memory) b g t = tt
