-- Validity of operations with blocks.
use Rattle.std.proofs.Common.{◌≡◌, ℕ, ◌<◌, Bool, true, false, List, sym, ap, ◌∙◌, subst}
use Rattle.std.specs.Prelude.{◌&&◌, nat_lt}
use Rattle.std.proofs.lemmas.Bool.{lt-ltb}
use Rattle.wg_code.specs.Valid.{Scope, Judged, valid_step, is_valid, are_valid}
use Rattle.wg_code.specs.declared.op.Op.{Op, fold-roll-Op}
use Rattle.wg_code.specs.declared.op.Op.TheVariants as o

pub valid_If : (k : Scope) (s : Bool) (a : ℕ) (first second : List Op) → is_valid k (o.If a first second) s ≡ ((nat_lt a k.tables.registers && true) && (true && (are_valid k s first && are_valid k s second)))
valid_If k s a first second = ap (λ (j : Judged). j s) (ap (is_valid k) (sym (o.rolls-If a first second)) ∙ fold-roll-Op Judged (valid_step k) _)

pub valid_Loop : (k : Scope) (s : Bool) (test : List Op) (a : ℕ) (body step : List Op) → is_valid k (o.Loop test a body step) s ≡ ((nat_lt a k.tables.registers && true) && (true && (are_valid k true test && (are_valid k true body && are_valid k true step))))
valid_Loop k s test a body step = ap (λ (j : Judged). j s) (ap (is_valid k) (sym (o.rolls-Loop test a body step)) ∙ fold-roll-Op Judged (valid_step k) _)

pub fits_if : (k : Scope) (s : Bool) (op : Op) (a : ℕ) (first second xs ys : List Op) (r : Bool) → op ≡ o.If a first second → a < k.tables.registers → xs ≡ first → ys ≡ second → are_valid k s xs ≡ true → r ≡ are_valid k s ys → r ≡ is_valid k op s
fits_if k s op a first second xs ys r e lt x y fits rest =
    let below : nat_lt a k.tables.registers ≡ true = lt-ltb a k.tables.registers lt in
    let one : are_valid k s first ≡ true = subst (λ l. are_valid k s l ≡ true) x fits in
    let two : r ≡ are_valid k s second = subst (λ l. r ≡ are_valid k s l) y rest in
    rw (e, valid_If k s a first second, below, one) two

pub fits_loop : (k : Scope) (s : Bool) (op : Op) (test : List Op) (a : ℕ) (body step xs ys zs : List Op) (r : Bool) → op ≡ o.Loop test a body step → a < k.tables.registers → xs ≡ test → ys ≡ body → zs ≡ step → are_valid k true xs ≡ true → are_valid k true ys ≡ true → r ≡ are_valid k true zs → r ≡ is_valid k op s
fits_loop k s op test a body step xs ys zs r e lt x y z fits goes rest =
    let below : nat_lt a k.tables.registers ≡ true = lt-ltb a k.tables.registers lt in
    let one : are_valid k true test ≡ true = subst (λ l. are_valid k true l ≡ true) x fits in
    let two : are_valid k true body ≡ true = subst (λ l. are_valid k true l ≡ true) y goes in
    let three : r ≡ are_valid k true step = subst (λ l. r ≡ are_valid k true l) z rest in
    rw (e, valid_Loop k s test a body step, below, one, two) three

pub fits_no_loop : (k : Scope) (s : Bool) (op : Op) (test : List Op) (a : ℕ) (body step xs ys : List Op) (r : Bool) → op ≡ o.Loop test a body step → a < k.tables.registers → xs ≡ test → ys ≡ body → are_valid k true xs ≡ true → r ≡ are_valid k true ys → r ≡ false → r ≡ is_valid k op s
fits_no_loop k s op test a body step xs ys r e lt x y fits goes fails =
    let below : nat_lt a k.tables.registers ≡ true = lt-ltb a k.tables.registers lt in
    let one : are_valid k true test ≡ true = subst (λ l. are_valid k true l ≡ true) x fits in
    let two : are_valid k true body ≡ false = sym (subst (λ l. r ≡ are_valid k true l) y goes) ∙ fails in
    rw (e, valid_Loop k s test a body step, below, one, two) fails
