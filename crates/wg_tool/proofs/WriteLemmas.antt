-- What a sink holds after writes.
use Rattle.std.proofs.Common.{◌≡◌, ℕ, List, ◌++◌, Option, Some, None, ap, sym, ◌∙◌, append_assoc}
use Rattle.wg_io.specs.Causes.{Appends, AppendsFront}

pub appends_more : (a b c : Option (List ℕ)) (x y : List ℕ) → Appends a b x → Appends b c y → Appends a c (x ++ y)
appends_more None b c x y p q = tt
appends_more (Some w) b c x y p q = let h : c ≡ Some ((w ++ x) ++ y) = rw p at q in h ∙ ap (λ (t : List ℕ). Some t) (append_assoc w x y)

-- a front after a whole text
pub front_after : (a b c : Option (List ℕ)) (x y : List ℕ) → Appends a b x → AppendsFront b c y → AppendsFront a c (x ++ y)
front_after a b c x y p q = (x ++ q.0, q.1, ap (λ (t : List ℕ). x ++ t) q.2 ∙ sym (append_assoc x q.0 q.1), appends_more a b c x q.0 p q.3)

-- a front of a text, with more text behind
pub front_of : (a b : Option (List ℕ)) (x y : List ℕ) → AppendsFront a b x → AppendsFront a b (x ++ y)
front_of a b x y p = (p.0, p.1 ++ y, ap (λ (t : List ℕ). t ++ y) p.2 ∙ append_assoc p.0 p.1 y, p.3)
