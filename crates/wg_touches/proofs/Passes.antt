-- What passes, part by part.
use Rattle.std.proofs.Common.{◌≡◌, ◌&&◌, ◌+◌, ◌<◌, ℕ, suc, zero, Bool, true, false, List, [], ◌∷◌, ◌++◌, length, map, drop, get_or, Option, Some, refl, sym, ap, ap₂, subst, arith, ◌∙◌}
use Rattle.std.specs.Prelude.{slice_get}
use Rattle.std.specs.List.{list_all}
use Rattle.std.proofs.lemmas.List.Folds.{list_all-append}
use Rattle.wg_additive.specs.Touch.{Touch, a_read, a_store, an_addition, an_exchange}
use Rattle.wg_additive.specs.Additive.{only_adds}
use Rattle.wg_additive.specs.Quiet.{reads_nothing}
use Rattle.std.proofs.lemmas.List.{drop_more}
use Rattle.wg_additive.specs.ExprTouches.{Touched, all_passed, parameters_in, touched}
use Rattle.wg_typed.specs.declared.typed.TypedFunction.{TypedFunction}
use Rattle.wg_typed.specs.declared.typed.TypedParameter.{TypedParameter}
use Rattle.wg_typed.specs.declared.typed_expr.TypedExpr.{TypedExpr}
use Rattle.wg_touches.specs.Passing.{allows, argument_touches, passes}

pub both_pass : (stores : Bool) (xs ys : List Touch) → list_all (allows stores) (xs ++ ys) ≡ (list_all (allows stores) xs && list_all (allows stores) ys)
both_pass stores xs ys = list_all-append (allows stores) xs ys

pub and_false : (b : Bool) → (b && false) ≡ false
and_false true = refl
and_false false = refl

pub and_true : (b : Bool) → (b && true) ≡ b
and_true true = refl
and_true false = refl

pub a_read_fails : (stores : Bool) (xs : List Touch) → list_all (allows stores) (xs ++ a_read ∷ []) ≡ false
a_read_fails stores xs = both_pass stores xs (a_read ∷ []) ∙ and_false (list_all (allows stores) xs)

pub one_passes : (stores : Bool) (t : Touch) → allows stores t ≡ list_all (allows stores) (t ∷ [])
one_passes stores t = sym (and_true (allows stores t))

pub and_one : (stores : Bool) (xs : List Touch) (t : Touch) → list_all (allows stores) (xs ++ t ∷ []) ≡ (list_all (allows stores) xs && allows stores t)
and_one stores xs t = both_pass stores xs (t ∷ []) ∙ ap (λ b. list_all (allows stores) xs && b) (and_true (allows stores t))

pub none_read : (stores : Bool) → false ≡ list_all (allows stores) (a_read ∷ a_store ∷ [])
none_read stores = refl

-- ---- the two tests

same_tests : (p q : Touch → Bool) → ((t : Touch) → p t ≡ q t) → (xs : List Touch) → list_all p xs ≡ list_all q xs
same_tests p q e [] = refl
same_tests p q e (t ∷ rest) = ap₂ (λ a b. a && b) (e t) (same_tests p q e rest)

quiet_test : (t : Touch) → allows true t ≡ reads_nothing t
quiet_test a_read = refl
quiet_test a_store = refl
quiet_test an_addition = refl
quiet_test an_exchange = refl

pub stores_are_quiet : (xs : List Touch) → list_all (allows true) xs ≡ list_all reads_nothing xs
stores_are_quiet xs = same_tests (allows true) reads_nothing quiet_test xs

adding_test : (t : Touch) → allows false t ≡ only_adds t
adding_test a_read = refl
adding_test a_store = refl
adding_test an_addition = refl
adding_test an_exchange = refl

pub additions_alone : (xs : List Touch) → list_all (allows false) xs ≡ list_all only_adds xs
additions_alone xs = same_tests (allows false) only_adds adding_test xs

-- ---- arguments

-- so many arguments in
pub argument_at : (stores : Bool) (parameters : List TypedParameter) (n : ℕ) (t : Touched) (rest : List Touched)
    → passes stores (all_passed (drop n parameters) (t ∷ rest)) ≡ (passes stores (argument_touches (slice_get parameters n) t) && passes stores (all_passed (drop (suc n) parameters) rest))
argument_at stores [] zero t rest = both_pass stores t.value (all_passed [] rest)
argument_at stores [] (suc n) t rest = both_pass stores t.value (all_passed [] rest)
argument_at stores (p ∷ parameters) zero t rest = both_pass stores (argument_touches (Some p) t) (all_passed parameters rest)
argument_at stores (p ∷ parameters) (suc n) t rest = argument_at stores parameters n t rest

-- what is left of a call's arguments, from one on
abbrev left_passes : Bool → List TypedFunction → ℕ → List TypedParameter → List TypedExpr → Bool
left_passes stores functions n parameters arguments = passes stores (all_passed (drop n parameters) (map (touched functions) (drop n arguments)))

one_more : (stores : Bool) (functions : List TypedFunction) (parameters : List TypedParameter) (arguments : List TypedExpr) (n : ℕ) (e : TypedExpr) (a : Option TypedParameter) (r : Bool)
    → e ≡ get_or arguments n e → n < length arguments → a ≡ slice_get parameters n → r ≡ passes stores (argument_touches a (touched functions e))
    → left_passes stores functions n parameters arguments ≡ (r && left_passes stores functions (n + 1) parameters arguments)
one_more stores functions parameters arguments n e a r here within there is =
    let next : suc n ≡ n + 1 = omega arith in
    let rest : List TypedExpr = drop (n + 1) arguments in
    ap (λ l. passes stores (all_passed (drop n parameters) (map (touched functions) l))) (drop_more arguments n e within ∙ ap (λ y. y ∷ rest) (sym here))
    ∙ (argument_at stores parameters n (touched functions e) (map (touched functions) rest)
    ∙ ap₂ (λ b k. b && passes stores (all_passed (drop k parameters) (map (touched functions) rest))) (ap (λ x. passes stores (argument_touches x (touched functions e))) (sym there) ∙ sym is) next)

abbrev pub left_of_call : Bool → List TypedFunction → ℕ → List TypedExpr → ℕ → Bool
left_of_call stores functions function arguments n = left_passes stores functions n (parameters_in (slice_get functions function)) arguments

pub call_step : (stores : Bool) (functions : List TypedFunction) (function : ℕ) (arguments items : List TypedExpr) (n : ℕ) (e : TypedExpr) (a : Option TypedParameter) (r : Bool)
    → items ≡ arguments → e ≡ get_or items n e → n < length items → a ≡ slice_get (parameters_in (slice_get functions function)) n → r ≡ passes stores (argument_touches a (touched functions e))
    → left_of_call stores functions function arguments n ≡ (r && left_of_call stores functions function arguments (n + 1))
call_step stores functions function arguments items n e a r q here within there is =
    subst (λ xs. left_of_call stores functions function xs n ≡ (r && left_of_call stores functions function xs (n + 1))) q
    (one_more stores functions (parameters_in (slice_get functions function)) items n e a r here within there is)

pub stopped : (r x y whole : Bool) → r ≡ false → x ≡ (r && y) → x ≡ whole → false ≡ whole
stopped r x y whole e step is = sym (step ∙ ap (λ b. b && y) e) ∙ is

pub went_on : (r x y whole : Bool) → r ≡ true → x ≡ (r && y) → x ≡ whole → y ≡ whole
went_on r x y whole e step is = sym (step ∙ ap (λ b. b && y) e) ∙ is

pub joined_pass : (stores : Bool) (xs ys : List Touch) (a b : Bool) → a ≡ passes stores xs → b ≡ passes stores ys → (a && b) ≡ passes stores (xs ++ ys)
joined_pass stores xs ys a b p q = ap₂ (λ x y. x && y) p q ∙ sym (both_pass stores xs ys)
