-- What is gathered one by one is all of it.
use Rattle.std.proofs.Common.{◌≡◌, arith, length, map, List, [], ◌∷◌, ◌++◌, Option, Some, None, refl, sym, ap, ◌∙◌, append_assoc, append-nil}
use Rattle.wg_words.specs.Maybe.{◌>>=◌}
use Rattle.wg_typed.specs.declared.typed_expr.TypedExpr.{TypedExpr}
use Rattle.wg_typing.specs.Conversions.{type_of, numbers}
use Rattle.wg_typing.specs.Layers.{convert}
use Rattle.wg_typing.specs.Maybe.{all_of}
use Rattle.wg_typing.specs.TypingIntrinsic.{convert_all, all_numbers}
use Rattle.wg_typing.specs.declared.numbers.Numbers.{Numbers}
use Rattle.wg_typing.specs.declared.part.TypedPart.{TypedPart}
use Rattle.wg_notes.specs.Notes.{more}
use Rattle.wg_arguments.specs.Arguments.{gathered, converted}

-- those before and these, where these are there
abbrev after : {A : Type 0} → List A → Option (List A) → Option (List A)
after done rest = rest >>= (λ rest. Some (done ++ rest))

after_none : {A : Type 0} (rest : Option (List A)) → after [] rest ≡ rest
after_none None = refl
after_none (Some rest) = refl

after_more : {A : Type 0} (done : List A) (a : A) (rest : Option (List A)) → after (done ++ a ∷ []) rest ≡ after done (rest >>= (λ rest. Some (a ∷ rest)))
after_more done a None = refl
after_more done a (Some rest) = ap (λ l. Some l) (append_assoc done (a ∷ []) rest)

gathered_none : {A : Type 0} (os : List (Option A)) → gathered None os ≡ None
gathered_none [] = refl
gathered_none (a ∷ os) = gathered_none os

gathered_after : {A : Type 0} (done : List A) (os : List (Option A)) → gathered (Some done) os ≡ after done (all_of os)
gathered_after done [] = ap (λ l. Some l) (sym (append-nil done))
gathered_after done (None ∷ os) = gathered_none os
gathered_after done (Some a ∷ os) = gathered_after (done ++ a ∷ []) os ∙ after_more done a (all_of os)

gathered_all : {A : Type 0} (os : List (Option A)) → gathered (Some []) os ≡ all_of os
gathered_all os = gathered_after [] os ∙ after_none (all_of os)

-- ---- conversions

converted_none : (ns : List Numbers) (ts : List TypedPart) → converted None ns ts ≡ None
converted_none [] [] = refl
converted_none [] (t ∷ ts) = refl
converted_none (n ∷ ns) [] = refl
converted_none (n ∷ ns) (t ∷ ts) = converted_none ns ts

converted_one : (done : List TypedExpr) (one : Option TypedExpr) (ns : List Numbers) (ts : List TypedPart)
    → ((done : List TypedExpr) → converted (Some done) ns ts ≡ after done (convert_all ns ts))
    → converted (more (Some done) one) ns ts ≡ after done (one >>= (λ first. convert_all ns ts >>= (λ others. Some (first ∷ others))))
converted_one done None ns ts ih = converted_none ns ts
converted_one done (Some a) ns ts ih = ih (done ++ a ∷ []) ∙ after_more done a (convert_all ns ts)

converted_after : (ns : List Numbers) (ts : List TypedPart) (done : List TypedExpr) → converted (Some done) ns ts ≡ after done (convert_all ns ts)
converted_after [] [] done = ap (λ l. Some l) (sym (append-nil done))
converted_after [] (t ∷ ts) done = refl
converted_after (n ∷ ns) [] done = refl
converted_after (n ∷ ns) (t ∷ ts) done = converted_one done (convert (type_of n) t) ns ts (converted_after ns ts)

pub converted_all : (ns : List Numbers) (ts : List TypedPart) → converted (Some []) ns ts ≡ convert_all ns ts
converted_all ns ts = converted_after ns ts [] ∙ after_none (convert_all ns ts)

pub converted_past : (those : Option (List TypedExpr)) (ns : List Numbers) (t : TypedPart) (ts : List TypedPart) → length ns ≡ 0 → converted those ns (t ∷ ts) ≡ None
converted_past those [] t ts q = refl
converted_past those (n ∷ ns) t ts q = absurd (omega (arith, q))

pub converted_done : (those : Option (List TypedExpr)) (ns : List Numbers) → length ns ≡ 0 → converted those ns [] ≡ those
converted_done those [] q = refl
converted_done those (n ∷ ns) q = absurd (omega (arith, q))

-- ---- of what is gathered here

pub numbers_gathered : (ts : List TypedPart) → gathered (Some []) (map (λ (t : TypedPart). numbers t.of) ts) ≡ all_numbers ts
numbers_gathered ts = gathered_all (map (λ (t : TypedPart). numbers t.of) ts)

pub typed_gathered : (parts : List (Option TypedPart)) → gathered (Some []) parts ≡ all_of parts
typed_gathered parts = gathered_all parts
