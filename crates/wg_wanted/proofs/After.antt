-- What is gathered one by one is all of it.
use Rattle.std.proofs.Common.{◌≡◌, ◌≤◌, ◌∙◌, ℕ, arith, drop, length, List, [], ◌∷◌, ◌++◌, Option, Some, None, refl, ap, append_assoc, append-nil}
use Rattle.std.proofs.lemmas.List.{at_drop_all}
use Rattle.wg_words.specs.Maybe.{◌>>=◌}
use Rattle.wg_typed.specs.declared.types.TypeTree.{TypeTree}
use Rattle.wg_typed.specs.declared.typed_expr.TypedExpr.{TypedExpr}
use Rattle.wg_typing.specs.Layers.{fit_all}
use Rattle.wg_typing.specs.PartSites.{goal_sites, passed_sites}
use Rattle.wg_typing.specs.Sites.{Sites, nowhere}
use Rattle.wg_typing.specs.Site.{Site}
use Rattle.wg_notes.specs.Notes.{noted}
use Rattle.wg_notes.specs.declared.notes.Note.{Note}
use Rattle.wg_typing.specs.TypingFunctionCall.{passed_all}
use Rattle.wg_typing.specs.declared.scope.FormalParameter.{FormalParameter}
use Rattle.wg_typing.specs.declared.part.Part.{Part}

-- those before and these, where these are there
abbrev pub after : {A : Type 0} → List A → Option (List A) → Option (List A)
after before rest = rest >>= (λ rest. Some (before ++ rest))

pub after_more : {A : Type 0} (before : List A) (a : A) (rest : Option (List A)) → after (before ++ a ∷ []) rest ≡ after before (rest >>= (λ rest. Some (a ∷ rest)))
after_more before a None = refl
after_more before a (Some rest) = ap (λ l. Some l) (append_assoc before (a ∷ []) rest)

pub after_end : {A : Type 0} (before : List A) → after before (Some []) ≡ Some before
after_end before = ap (λ l. Some l) (append-nil before)

pub fit_long : (types : List TypeTree) (p : Part) (parts : List Part) → length types ≡ 0 → fit_all types (p ∷ parts) ≡ None
fit_long [] p parts q = refl
fit_long (t ∷ types) p parts q = absurd (omega (arith, q))

pub fit_short : (types : List TypeTree) → length types ≡ 0 → fit_all types [] ≡ Some []
fit_short [] q = refl
fit_short (t ∷ types) q = absurd (omega (arith, q))

pub passed_long : (parameters : List FormalParameter) (p : Part) (parts : List Part) → length parameters ≡ 0 → passed_all parameters (p ∷ parts) ≡ None
passed_long [] p parts q = refl
passed_long (a ∷ parameters) p parts q = absurd (omega (arith, q))

pub passed_short : (parameters : List FormalParameter) → length parameters ≡ 0 → passed_all parameters [] ≡ Some []
passed_short [] q = refl
passed_short (a ∷ parameters) q = absurd (omega (arith, q))

goals_end : (types : List TypeTree) → goal_sites types [] ≡ nowhere
goals_end [] = refl
goals_end (t ∷ types) = refl

-- where no part is left, nothing is wanted
pub goals_over : (types : List TypeTree) (parts : List Part) (i : ℕ) (old : List Note) → length parts ≤ i → noted (goal_sites types (drop i parts)) old ≡ old
goals_over types parts i old q = at_drop_all (λ (l : List Part). noted (goal_sites types l) old) parts i q ∙ ap (λ (l : Sites Site). noted l old) (goals_end types)

passed_end : (parameters : List FormalParameter) → passed_sites parameters [] ≡ nowhere
passed_end [] = refl
passed_end (a ∷ parameters) = refl

pub passed_over : (parameters : List FormalParameter) (parts : List Part) (i : ℕ) (old : List Note) → length parts ≤ i → noted (passed_sites parameters (drop i parts)) old ≡ old
passed_over parameters parts i old q = at_drop_all (λ (l : List Part). noted (passed_sites parameters l) old) parts i q ∙ ap (λ (l : Sites Site). noted l old) (passed_end parameters)
