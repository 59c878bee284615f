-- A memory that forgets nothing, over one operation.
use Rattle.std.proofs.Common.{ℕ, ◌≤◌, Bool, [], refl, sym, arith}
use Rattle.std.proofs.lemmas.List.{append-nil}
use Rattle.wg_machine.specs.Agreement.{Trace}
use Rattle.wg_machine.specs.Effects.{Grows}
use Rattle.wg_leaves.specs.Going.{GoesOn}

grows_same : (t : Trace) → Grows t t
grows_same t = record { over = refl; log = ([], sym (append-nil t.log)); writes = ([], sym (append-nil t.writes)) }

pub goes_same : (q : Bool) (n : ℕ) (t : Trace) → GoesOn q n n t t
goes_same q n t = record { turns_left = omega arith; grows = grows_same t; silent = λ e. refl }

pub fewer_turns : (q : Bool) (n m : ℕ) (t : Trace) → m ≤ n → GoesOn q n m t t
fewer_turns q n m t le = record { turns_left = le; grows = grows_same t; silent = λ e. refl }
