-- What a sink holds after writes.
use Rattle.std.proofs.Common.{◌≡◌, ℕ, ◌-◌, List, ◌++◌, length, take, drop, length-drop, Option, Some, None, ap, sym, ◌∙◌, append_assoc}
use Rattle.std.proofs.lemmas.List.{take-append-drop}
use Rattle.std.proofs.Math.Seq.{take-length}
use Rattle.wg_io.specs.Causes.{Appends}

pub appends_more : (a b c : Option (List ℕ)) (x y : List ℕ) → Appends a b x → Appends b c y → Appends a c (x ++ y)
appends_more None b c x y p q = tt
appends_more (Some w) b c x y p q = let h : c ≡ Some ((w ++ x) ++ y) = rw p at q in h ∙ ap (λ (t : List ℕ). Some t) (append_assoc w x y)

rest_is : (n : ℕ) (l : List ℕ) → take (length l - n) (drop n l) ≡ drop n l
rest_is n l = let e = length-drop n l in ap (λ (k : ℕ). take k (drop n l)) (sym e) ∙ take-length (drop n l)

-- a front grows by what was taken of the rest
pub front_grows : (bytes front rest : List ℕ) (n : ℕ) → bytes ≡ front ++ rest → bytes ≡ (front ++ take n rest) ++ take (length rest - n) (drop n rest)
front_grows bytes front rest n e =
    rw (rest_is n rest) (e ∙ (ap (λ (t : List ℕ). front ++ t) (sym (take-append-drop n rest)) ∙ sym (append_assoc front (take n rest) (drop n rest))))
