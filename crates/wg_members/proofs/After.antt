-- What is gathered one by one is all of it.
use Rattle.std.proofs.Common.{◌≡◌, List, [], ◌∷◌, ◌++◌, Option, Some, None, refl, ap, append_assoc, append-nil}
use Rattle.wg_words.specs.Maybe.{◌>>=◌}

-- those before and these, where these are there
abbrev pub after : {A : Type 0} → List A → Option (List A) → Option (List A)
after before rest = rest >>= (λ rest. Some (before ++ rest))

pub after_more : {A : Type 0} (before : List A) (a : A) (rest : Option (List A)) → after (before ++ a ∷ []) rest ≡ after before (rest >>= (λ rest. Some (a ∷ rest)))
after_more before a None = refl
after_more before a (Some rest) = ap (λ l. Some l) (append_assoc before (a ∷ []) rest)

pub after_end : {A : Type 0} (before : List A) → after before (Some []) ≡ Some before
after_end before = ap (λ l. Some l) (append-nil before)
