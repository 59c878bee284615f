-- A memory that forgets nothing, from one moment to the next.
use Rattle.std.proofs.Common.{◌≡◌, Bool, true, false, List, [], ◌++◌, refl, sym, ap, ◌∙◌}
use Rattle.std.specs.Prelude.{IsTrue, ◌&&◌, Result, Ok, Err}
use Rattle.std.specs.List.{list_all}
use Rattle.std.proofs.lemmas.List.{append-nil, append_assoc}
use Rattle.std.proofs.lemmas.List.Folds.{list_all-append}
use Rattle.wg_machine.specs.Agreement.{Trace, AgreesWith, has_seen}
use Rattle.wg_machine.specs.Buffers.{Buffers, lengths_of}
use Rattle.wg_machine.specs.Effects.{Grows}
use Rattle.wg_machine.specs.declared.bodies.Halt.{Halt}
use Rattle.wg_machine.specs.declared.bodies.Halt.TheVariants as halt
use Rattle.wg_machine.specs.declared.memory.Seen.{Seen}
use Rattle.wg_machine.specs.declared.memory.Write.{Write}
use Rattle.wg_operations.specs.Says.{Keeps}
use Rattle.wg_operations.specs.declared.end.End.{End}
use Rattle.wg_control.specs.Silence.{LogsNothing}
use Rattle.wg_group.specs.Running.{Went, Kept}

pub both_left : (a b : Bool) → (a && b) ≡ true → a ≡ true
both_left true b e = refl
both_left false b e = e

pub both_right : (a b : Bool) → (a && b) ≡ true → b ≡ true
both_right true b e = e
both_right false b e = absurd (cc)

pub both : (a b : Bool) → a ≡ true → b ≡ true → (a && b) ≡ true
both true b e f = f
both false b e f = e

-- what agrees later agreed before
pub back : (old new : Trace) (start : Buffers) → Grows old new → AgreesWith new start → AgreesWith old start
back old new start g a = record {
  lengths = a.lengths ∙ ap lengths_of g.over;
  log =
      both_left (list_all (has_seen start) old.log) (list_all (has_seen start) g.log.0)
      (sym (list_all-append (has_seen start) old.log g.log.0) ∙ (sym (ap (λ (l : List Seen). list_all (has_seen start) l) g.log.1) ∙ a.log));
}

grows_on : (a b c : Trace) → Grows a b → Grows b c → Grows a c
grows_on a b c g h = record {
  over = h.over ∙ g.over;
  log = (g.log.0 ++ h.log.0, h.log.1 ∙ (ap (λ (l : List Seen). l ++ h.log.0) g.log.1 ∙ append_assoc a.log g.log.0 h.log.0));
  writes = (g.writes.0 ++ h.writes.0, h.writes.1 ∙ (ap (λ (l : List Write). l ++ h.writes.0) g.writes.1 ∙ append_assoc a.writes g.writes.0 h.writes.0));
}

pub went_same : (q : Bool) (t : Trace) → Went q t t
went_same q t = record { grows = record { over = refl; log = ([], sym (append-nil t.log)); writes = ([], sym (append-nil t.writes)) }; silent = λ e. refl }

pub went_then : (q : Bool) (a b c : Trace) → Went q a b → Went q b c → Went q a c
went_then q a b c g h = record { grows = grows_on a b c g.grows h.grows; silent = λ e. h.silent e ∙ g.silent e }

pub went_weaker : (p q : Bool) → (IsTrue p → IsTrue q) → (a b : Trace) → Went q a b → Went p a b
went_weaker p q less a b g = record { grows = g.grows; silent = λ e. g.silent (less e) }

module _ {T : Type 0} where
  pub kept_weaker : (p q : Bool) → (IsTrue p → IsTrue q) → (a : Trace) (r : Result T Halt) (b : Trace) → Kept q a r b → Kept p a r b
  kept_weaker p q less a (Ok e) b g = went_weaker p q less a b g
  kept_weaker p q less a (Err halt.Turns) b g = went_weaker p q less a b g
  kept_weaker p q less a (Err halt.Memory) b g = tt

-- an error alone, whatever answer it stands for
module _ (T U : Type 0) where
  pub kept_error : (q : Bool) (a b : Trace) (h : Halt) (c : Trace) → Went q a b → Kept {T = T} q b (Err h) c → Kept {T = U} q a (Err h) c
  kept_error q a b halt.Turns c g e = went_then q a b c g e
  kept_error q a b halt.Memory c g e = tt

  pub kept_failed : (q : Bool) (a : Trace) (h : Halt) (b : Trace) → Kept {T = T} q a (Err h) b → Kept {T = U} q a (Err h) b
  kept_failed q a halt.Turns b e = e
  kept_failed q a halt.Memory b e = tt

pub body_went : (q : Bool) (a : Trace) (e : End) (b : Trace) → Keeps {A = End} (Ok e) a b → (IsTrue q → LogsNothing {A = End} (Ok e) a b) → Went q a b
body_went q a e b g s = record { grows = g; silent = s }

module _ (T : Type 0) where
  pub body_failed : (q : Bool) (a : Trace) (h : Halt) (b : Trace) → Keeps {A = End} (Err h) a b → (IsTrue q → LogsNothing {A = End} (Err h) a b) → Kept {T = T} q a (Err h) b
  body_failed q a halt.Turns b g s = record { grows = g; silent = s }
  body_failed q a halt.Memory b g s = tt
