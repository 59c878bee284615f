-- Each ticket is that of a launch out or was settled.
use Rattle.std.proofs.Common.{◌≡◌, ◌≢◌, ℕ, ◌+◌, ◌<◌, Bool, true, false, ◌||◌, List, [], ◌∷◌, ◌++◌, refl, sym, ◌∙◌, subst, arith, inl, inr, ◌⊎◌}
use Rattle.std.specs.Prelude.{◌==◌}
use Rattle.std.proofs.lemmas.Bool.Decides.{nat_tests}
use Rattle.std.proofs.lemmas.List.{length_push}
use Rattle.wg_words.specs.Each.{Each}
use Rattle.wg_machine.specs.LaunchMeaning.{Outcome}
use Rattle.wg_machine.specs.Step.{entry_of, has_number}
use Rattle.wg_standing.specs.declared.pending.Pending.{Pending}
use Rattle.wg_standing.specs.Core.{CoreView}
use Rattle.wg_standing.specs.Moves.{settled_of, with_out}
use Rattle.wg_standing.specs.Outs.{launch_now}
use Rattle.wg_standing.specs.Standing.{IsNotOut, IsTicketed, TicketsBelow, TicketsDiffer}
use Rattle.wg_standing.proofs.OutLess.{not_out_without}
use Rattle.wg_standing.proofs.OutMore.{not_out_more}

each_below : (n : ℕ) (ts : List ℕ) → Each (λ t. t < n) ts → Each (λ t. t < n + 1) ts
each_below n [] b = tt
each_below n (t ∷ ts) b = let h = b.0 in (omega arith, each_below n ts b.1)

each_not_out : (outs : List Pending) (o : Pending) (n : ℕ) (ts : List ℕ) → o.ticket ≡ n → Each (λ t. t < n) ts → Each (λ t. IsNotOut t outs) ts → Each (λ t. IsNotOut t (outs ++ o ∷ [])) ts
each_not_out outs o n [] e b a = tt
each_not_out outs o n (t ∷ ts) e b a = (not_out_more t outs o a.0 (λ (same : o.ticket ≡ t). let h = b.0 in absurd (omega arith)), each_not_out outs o n ts e b.1 a.1)

not_out_less : (t : ℕ) (outs : List Pending) (o : Pending) → IsNotOut t (outs ++ o ∷ []) → IsNotOut t outs × (o.ticket ≢ t)
not_out_less t [] o a = (tt, a.0)
not_out_less t (p ∷ outs) o a = let k = not_out_less t outs o a.1 in ((a.0, k.0), k.1)

same_or_less : (t n : ℕ) → t < n + 1 → t ≢ n → t < n
same_or_less t n h d = omega arith

pub opened_ticketed : (core : CoreView) (o : Pending) → o.ticket ≡ core.tickets → IsTicketed core → IsTicketed (with_out core o)
opened_ticketed core o ticket s =
    record {
      settled = s.settled;
      one_each = s.one_each;
      below = each_below core.tickets s.settled s.below;
      none_out = each_not_out core.outs o core.tickets s.settled ticket s.below s.none_out;
      all = λ t h none. (let k = not_out_less t core.outs o none in s.all t (same_or_less t core.tickets h (λ (e : t ≡ core.tickets). k.1 (ticket ∙ sym e))) k.0);
    }

or_right : (a b : Bool) → b ≡ true → (a || b) ≡ true
or_right true b e = refl
or_right false b e = e

among_push : (ts : List ℕ) (n t : ℕ) → has_number ts t ≡ true → has_number (ts ++ n ∷ []) t ≡ true
among_push [] n t e = absurd (cc)
among_push (m ∷ ts) n t e = choice (among_push ts n t) (m == t) e
  where
    choice : (has_number ts t ≡ true → has_number (ts ++ n ∷ []) t ≡ true) → (b : Bool) → (b || has_number ts t) ≡ true → (b || has_number (ts ++ n ∷ []) t) ≡ true
    choice ih true e = refl
    choice ih false e = ih e

among_last : (ts : List ℕ) (t : ℕ) → has_number (ts ++ t ∷ []) t ≡ true
among_last [] t = let self : (t == t) ≡ true = grind (arith, nat_tests) in rw self refl
among_last (m ∷ ts) t = or_right (m == t) (has_number (ts ++ t ∷ []) t) (among_last ts t)

each_push : (P : ℕ → Type 0) (ts : List ℕ) (n : ℕ) → Each P ts → P n → Each P (ts ++ n ∷ [])
each_push P [] n e p = (p, tt)
each_push P (t ∷ ts) n e p = (e.0, each_push P ts n e.1 p)

each_without : (before : List Pending) (o : Pending) (later : List Pending) (ts : List ℕ) → Each (λ t. IsNotOut t (before ++ o ∷ later)) ts → Each (λ t. IsNotOut t (before ++ later)) ts
each_without before o later [] a = tt
each_without before o later (t ∷ ts) a = (not_out_without t before o later a.0, each_without before o later ts a.1)

-- the ticket of a launch out is that of no other
own_ticket : (before : List Pending) (o : Pending) (later : List Pending) → TicketsDiffer (before ++ o ∷ later) → IsNotOut o.ticket (before ++ later)
own_ticket [] o later d = d.0
own_ticket (p ∷ before) o later d = (λ (e : p.ticket ≡ o.ticket). other p.ticket before o later d.0 (sym e), own_ticket before o later d.1)
  where
    other : (t : ℕ) (before : List Pending) (o : Pending) (later : List Pending) → IsNotOut t (before ++ o ∷ later) → o.ticket ≢ t
    other t [] o later a = a.0
    other t (q ∷ before) o later a = other t before o later a.1

own_below : (n : ℕ) (before : List Pending) (o : Pending) (later : List Pending) → TicketsBelow n (before ++ o ∷ later) → o.ticket < n
own_below n [] o later b = b.0
own_below n (p ∷ before) o later b = own_below n before o later b.1

not_out_with : (t : ℕ) (before : List Pending) (o : Pending) (later : List Pending) → IsNotOut t (before ++ later) → o.ticket ≢ t → IsNotOut t (before ++ o ∷ later)
not_out_with t [] o later a d = (d, a)
not_out_with t (p ∷ before) o later a d = (a.0, not_out_with t before o later a.1 d)

same_or_not : (m n : ℕ) → (m ≡ n) ⊎ (m ≢ n)
same_or_not m n = choice (m == n) refl
  where
    choice : (b : Bool) → (m == n) ≡ b → (m ≡ n) ⊎ (m ≢ n)
    choice true e = inl (grind (arith, nat_tests))
    choice false e = inr (λ (q : m ≡ n). let d : m ≢ n = grind (arith, nat_tests) in d q)

pub settled_ticketed : (core : CoreView) (before : List Pending) (o : Pending) (later : List Pending) (outcome : Outcome) → core.outs ≡ before ++ o ∷ later → TicketsDiffer core.outs → TicketsBelow core.tickets core.outs → IsTicketed core → IsTicketed (settled_of core before o later outcome)
settled_ticketed core before o later outcome was_out differ below s =
    let differ' = subst TicketsDiffer was_out differ in
    let below' = subst (TicketsBelow core.tickets) was_out below in
    let old = subst (λ (os : List Pending). Each (λ t. IsNotOut t os) s.settled) was_out s.none_out in
    let longer = length_push s.settled o.ticket in
    let longer' = length_push core.journal (entry_of (launch_now core.shape core.bag o) o.at core.next outcome) in
    record {
      settled = s.settled ++ o.ticket ∷ [];
      one_each = let e = s.one_each in omega (arith, longer, longer', e);
      below = each_push (λ t. t < core.tickets) s.settled o.ticket s.below (own_below core.tickets before o later below');
      none_out = each_push (λ t. IsNotOut t (before ++ later)) s.settled o.ticket (each_without before o later s.settled old) (own_ticket before o later differ');
      all = λ t h none. elim (same_or_not o.ticket t) [
        | inl e ↦ subst (λ (k : ℕ). has_number (s.settled ++ o.ticket ∷ []) k ≡ true) e (among_last s.settled o.ticket)
        | inr d ↦ among_push s.settled o.ticket t (s.all t h (subst (IsNotOut t) (sym was_out) (not_out_with t before o later none d)))
      ];
    }
