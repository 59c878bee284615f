-- Verdicts on a part of a journal are verdicts on the whole of it.
use Rattle.std.proofs.Common.{◌≡◌, ◌∙◌, ◌⊎◌, inl, inr, List, length, take, Option, Some, None, refl, ap, sym, subst}
use Rattle.std.specs.Prelude.{IfSome}
use Rattle.wg_machine.specs.declared.journal.BufferLine.{BufferLine}
use Rattle.wg_machine.specs.declared.journal.Done.{Done}
use Rattle.wg_machine.specs.declared.journal.Journal.{Journal}
use Rattle.wg_machine.specs.declared.journal.Stop.{Stop}
use Rattle.wg_machine.specs.declared.journal.Tail.{Tail}
use Rattle.wg_machine.specs.State.{State}
use Rattle.wg_machine.specs.Step.{Passed}
use Rattle.wg_replay.specs.Lines.{Terms}
use Rattle.wg_verify.specs.declared.verdict.Verdict.{Verdict}
use Rattle.wg_verify.specs.declared.verdict.Verdict.TheVariants as verdict
use Rattle.wg_verify.specs.Launches.{AreRight}
use Rattle.wg_verify.specs.Tails.{Outcome, buffer_lines_of, HasForm, IsRightDone, IsRightStop}
use Rattle.wg_verify.specs.Verdicts.{outcome, BuffersVerdict, IsLaunchVerdict, IsVerdict, StopVerdict, TailVerdict}

other_none : (t : Tail) (d : Done) → t.done ≡ Some d → (t.done ≡ None) ⊎ (t.stop ≡ None) → t.stop ≡ None
other_none t d there (inl none) = cc
other_none t d there (inr none) = none

pub buffers_to_tail : (t : Terms) (o : Outcome) (tail : Tail) (d : Done) (v : Verdict) → HasForm tail → tail.done ≡ Some d → IsRightDone t o d
    → BuffersVerdict o.launches tail.buffers (buffer_lines_of t o) v → TailVerdict t o tail v
buffers_to_tail t o tail d verdict.Complete form there right h =
    record { empty = right.empty; done = there ∙ ap (λ (x : Done). Some x) right.says; buffers = h; stop = other_none tail d there form.one }
buffers_to_tail t o tail d verdict.Prefix form there right h = record {
  right = record {
    done = subst (λ (x : Option Done). IfSome x (IsRightDone t o)) (sym there) right;
    buffers = h.0;
    stop = subst (λ (x : Option Stop). IfSome x (IsRightStop t o.launches o.final)) (sym (other_none tail d there form.one)) tt;
  };
  cut = λ whole. h.1 whole.buffers;
}
buffers_to_tail t o tail d (verdict.Wrong line) form there right h =
    inr (inl (record { done = subst (λ (x : Option Done). IfSome x (IsRightDone t o)) (sym there) right; place = h.0; number = h.1; differ = h.2 }))
buffers_to_tail t o tail d (verdict.OverBytes line) form there right h = h
buffers_to_tail t o tail d (verdict.TurnsSpent line) form there right h = h
buffers_to_tail t o tail d verdict.Memory form there right h = tt

no_done : (t : Tail) (d : Done) → t.done ≡ None → t.done ≡ Some d → ⊥
no_done t d none there = cc

pub stop_to_tail : (t : Terms) (o : Outcome) (tail : Tail) (s : Stop) (v : Verdict) → HasForm tail → tail.done ≡ None → tail.stop ≡ Some s
    → StopVerdict t o.launches o.final s v → TailVerdict t o tail v
stop_to_tail t o tail s verdict.Complete form none there h = absurd h
stop_to_tail t o tail s verdict.Prefix form none there h = record {
  right = record {
    done = subst (λ (x : Option Done). IfSome x (IsRightDone t o)) (sym none) tt;
    buffers = subst (λ (ls : List BufferLine). take (length ls) (buffer_lines_of t o) ≡ ls) (sym (form.buffers none)) refl;
    stop = subst (λ (x : Option Stop). IfSome x (IsRightStop t o.launches o.final)) (sym there) h;
  };
  cut = λ whole. no_done tail _ none whole.done;
}
stop_to_tail t o tail s (verdict.Wrong line) form none there h = inr (inr (record { stop = s; there = there; number = h.0; wrong = h.1 }))
stop_to_tail t o tail s (verdict.OverBytes line) form none there h = h
stop_to_tail t o tail s (verdict.TurnsSpent line) form none there h = h
stop_to_tail t o tail s verdict.Memory form none there h = tt

pub launch_verdict : (t : Terms) (first : State) (j : Journal) (v : Verdict) → IsLaunchVerdict t first j.entries v → IsVerdict t first j v
launch_verdict t first j verdict.Complete h = absurd h
launch_verdict t first j verdict.Prefix h = absurd h
launch_verdict t first j (verdict.Wrong line) h = inl h
launch_verdict t first j (verdict.OverBytes line) h = h
launch_verdict t first j (verdict.TurnsSpent line) h = h
launch_verdict t first j verdict.Memory h = tt

pub tail_to_verdict : (t : Terms) (first : State) (j : Journal) (trail : List Passed) (final : State) (v : Verdict) → AreRight t first j.entries trail final
    → TailVerdict t (outcome first (length j.entries) trail final) j.tail v → IsVerdict t first j v
tail_to_verdict t first j trail final verdict.Complete right h = record { trail = trail; final = final; right = right; says = h }
tail_to_verdict t first j trail final verdict.Prefix right h = record { trail = trail; final = final; right = right; says = h }
tail_to_verdict t first j trail final (verdict.Wrong line) right h = inr (record { trail = trail; final = final; right = right; says = h })
tail_to_verdict t first j trail final (verdict.OverBytes line) right h = absurd h
tail_to_verdict t first j trail final (verdict.TurnsSpent line) right h = absurd h
tail_to_verdict t first j trail final verdict.Memory right h = tt
