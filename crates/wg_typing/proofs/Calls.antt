-- Calls by a name, where no rule is broken at the call.
use Rattle.std.proofs.Common.{◌≡◌, ℕ, true, not, cond, List, [], ◌∷◌, length, Option, Some, None, arith, refl, suc, subst, Bool}
use Rattle.std.specs.Prelude.{◌&&◌, ◌==◌}
use Rattle.std.proofs.lemmas.Grind.{common_steps}
use Rattle.wg_words.specs.declared.place.Place.{Place}
use Rattle.wg_typing.specs.Conversions.{same_type, fits}
use Rattle.wg_typing.specs.Layers.{typed_part}
use Rattle.wg_typing.specs.Maybe.{where_true}
use Rattle.wg_typing.specs.RulesMismatchCall.{passes}
use Rattle.wg_typing.specs.RulesNotAssignable.{can_change}
use Rattle.wg_typing.specs.Scope.{Context}
use Rattle.wg_typing.specs.TypingBarrier.{plain_barrier}
use Rattle.wg_typing.specs.TypingCalls.{call_value}
use Rattle.wg_typing.specs.TypingFunctionCall.{passed_place, passed_as, passed_all, chain_fits, plain_call, plain_value, is_given_back}
use Rattle.wg_typing.specs.TypingInterlocked.{is_fixed}
use Rattle.wg_tree.specs.declared.item.Direction.{Direction}
use Rattle.wg_tree.specs.declared.item.Direction.TheVariants as direction
use Rattle.wg_typed.specs.declared.types.TypeTree.{TypeTree}
use Rattle.wg_typed.specs.declared.typed_expr.TypedExpr.{TypedExpr}
use Rattle.wg_typing.specs.declared.scope.FormalParameter.{FormalParameter}
use Rattle.wg_typing.proofs.Barriers.{AllFlags, barrier_stands, has_barrier_of}
use Rattle.wg_typing.proofs.Facts.{Empty, Has, both, empty_if, has_then, has_where}
use Rattle.wg_typing.proofs.Interlocks.{has_interlocked}
use Rattle.wg_typing.proofs.Methods.{some_for_none}
use Rattle.wg_typing.proofs.Names.{AllStand, Called}
use Rattle.wg_typing.proofs.Parts.{AllTyped, IsTyped, said, holds, site_is, well_if, has_convert}
use Rattle.wg_typing.proofs.Signatures.{has_intrinsic}
use Rattle.wg_typing.specs.declared.part.Part.{Part}
use Rattle.wg_typing.specs.declared.called.CalledName.{CalledName}
use Rattle.wg_typing.specs.declared.called.CalledName.TheVariants as called_name
use Rattle.wg_typing.specs.declared.called.Builtin.TheVariants as builtin
use Rattle.wg_typing.specs.PartSites.{part_site, passed_sites, call_sites, counted_sites, same_length, takes_form}
use Rattle.wg_typing.specs.Site.{Site, AtArgument, AtCall, AtCount}
use Rattle.wg_typing.specs.Sites.{Sites, at_if}
use Rattle.wg_typing.proofs.Sites.{Clear, Well, well_left, well_only, well_right}
use Rattle.wg_typing.specs.declared.fault.TypingRule.TheVariants.{UnknownName, Mismatch, NotAssignable, Recursion, LimitPassed, BadBarrier, WrongArity, OutOfProfile}
use Rattle.wg_typing.specs.declared.part.TypedPart.{TypedPart}
use Rattle.wg_typing.specs.TypingIntrinsic.{arity_of}

-- ---- plain functions

has_place : (of : TypeTree) (p : Part) → IsTyped p → ((t : TypedPart) → typed_part p ≡ Some t → (same_type t.of of ≡ true) × (not (is_fixed t.standing) ≡ true)) → Has (passed_place of p)
has_place of p h k = has_then (typed_part p) _ h (λ t q. has_where (same_type t.of of && not (is_fixed t.standing)) _ (both _ _ (k t q).0 (k t q).1))

has_passed : (a : FormalParameter) (p : Part) → IsTyped p → Well (part_site (AtArgument a) p) → Has (passed_as a.direction a.of p)
has_passed a p h w = passed a.direction refl
  where
    matches : (d : Direction) → a.direction ≡ d → (t : TypedPart) → typed_part p ≡ Some t → cond (is_given_back d) (same_type t.of a.of) (fits t.of a.of) ≡ true
    matches d e t q = subst (λ d. cond (is_given_back d) (same_type t.of a.of) (fits t.of a.of) ≡ true) e (holds (passes a t) t.place ((site_is (AtArgument a) (typed_part p) t q w).clear Mismatch))

    changes : (d : Direction) → a.direction ≡ d → is_given_back d ≡ true → (t : TypedPart) → typed_part p ≡ Some t → not (is_fixed t.standing) ≡ true
    changes d e g t q = holds (can_change t) t.place (empty_if (is_given_back d) _ g (subst (λ d. Empty (cond (is_given_back d) (at_if (not (can_change t)) t.place) [])) e ((site_is (AtArgument a) (typed_part p) t q w).clear NotAssignable)))

    passed : (d : Direction) → a.direction ≡ d → Has (passed_as d a.of p)
    passed direction.In e = has_then (typed_part p) _ h (λ t q. has_convert a.of t (matches direction.In e t q))
    passed direction.Out e = has_place a.of p h (λ t q. (matches direction.Out e t q, changes direction.Out e refl t q))
    passed direction.InOut e = has_place a.of p h (λ t q. (matches direction.InOut e t q, changes direction.InOut e refl t q))

has_all_passed : (parameters : List FormalParameter) (parts : List Part) → length parameters ≡ length parts → AllTyped parts → Well (passed_sites parameters parts) → Has (passed_all parameters parts)
has_all_passed [] [] l h w = tt
has_all_passed [] (p ∷ parts) l h w = absurd (omega (arith, l))
has_all_passed (a ∷ parameters) [] l h w = absurd (omega (arith, l))
has_all_passed (a ∷ parameters) (p ∷ parts) l h w =
    has_then (passed_as a.direction a.of p) _ (has_passed a p h.0 (well_left w)) (λ x q.
    has_then (passed_all parameters parts) _ (has_all_passed parameters parts (omega (arith, l)) h.1 (well_right w)) (λ y r. tt))

has_called : (name : Place) (number : ℕ) (result : Option TypeTree) (arguments : List TypedExpr) → Has (plain_call name number result arguments)
has_called name number None arguments = tt
has_called name number (Some of) arguments = tt

same_count : (a b : ℕ) → (a == b) ≡ true → a ≡ b
same_count a b e = grind (arith, common_steps, e)

has_plain : (name : Place) (number : ℕ) (result : Option TypeTree) (parameters : List FormalParameter) (chain : ℕ) (parts : List Part) → length parameters ≡ length parts → AllTyped parts → Well (passed_sites parameters parts) → chain_fits chain ≡ true → Has (plain_value name number result parameters chain parts)
has_plain name number result parameters chain parts l h w k = has_then (passed_all parameters parts) _ (has_all_passed parameters parts l h w) (λ x q.
    has_then (where_true (chain_fits chain) x) _ (has_where (chain_fits chain) x k) (λ y r. has_called name number result y))

-- ---- any call

-- what is given to a call: parts that have types, or flags
abbrev pub Given : CalledName → List Part → Type 0
Given (called_name.Builtin builtin.BarrierOf) parts = AllFlags parts
Given _ parts = AllTyped parts

-- a call at which no rule is broken
pub record ClearCall (c : Context) (name : Place) (k : CalledName) (parts : List Part) : Type 0 where
  pub call : Clear (AtCall c.around name k parts)
  pub arguments : Well (call_sites c name k parts)

pub counted : (name : Place) (right : Bool) (sites : Sites Site) → Well (counted_sites name right sites) → right ≡ true
counted name right sites w = holds right name ((well_only (well_left w)).clear WrongArity)

pub when_counted : (name : Place) (right : Bool) (sites : Sites Site) → Well (counted_sites name right sites) → Well sites
when_counted name right sites w = well_if right sites (counted name right sites w) (well_right w)

nothing_counted : (name : Place) (n : ℕ) → Clear (AtCount name (suc n == 0)) → ⊥
nothing_counted name n k = some_for_none n (holds _ name (k.clear WrongArity))

pub has_call : (c : Context) (name : Place) (k : CalledName) (parts : List Part) → AllStand c.names → Called k → Given k parts → ClearCall c name k parts → Has (call_value c name k parts)
has_call c name (called_name.Plain number result parameters chain) parts n d g h =
    let w = said parts _ g h.arguments in
    has_plain name number result parameters chain parts (same_count (length parameters) (length parts) (counted name (same_length parameters parts) _ w)) g (when_counted name (same_length parameters parts) _ w)
    (holds (chain_fits chain) name (h.call.clear LimitPassed))
has_call c name called_name.Entry parts n d g h = absurd (h.call.clear OutOfProfile)
has_call c name called_name.Itself parts n d g h = absurd (h.call.clear Recursion)
has_call c name (called_name.Builtin (builtin.OnNumbers i)) parts n d g h =
    let w = said parts _ g h.arguments in
    has_intrinsic name i parts g (counted name (length parts == arity_of i) _ w) (when_counted name (length parts == arity_of i) _ w)
has_call c name (called_name.Builtin (builtin.Interlocked f)) parts n d g h =
    let w = said parts _ g h.arguments in
    has_interlocked name f parts g (counted name (takes_form f parts) _ w) (when_counted name (takes_form f parts) _ w)
has_call c name (called_name.Builtin builtin.Levels) [] n d g h = tt
has_call c name (called_name.Builtin builtin.Levels) (p ∷ parts) n d g h = absurd (nothing_counted name (length parts) (well_only (said (p ∷ parts) _ g h.arguments)))
has_call c name (called_name.Builtin (builtin.Barrier syncs)) [] n d g h = barrier_stands c.around (name ∷ []) (plain_barrier name syncs []) tt (λ e. e) (h.call.clear BadBarrier)
has_call c name (called_name.Builtin (builtin.Barrier syncs)) (p ∷ parts) n d g h = absurd (nothing_counted name (length parts) (well_only (said (p ∷ parts) _ g h.arguments)))
has_call c name (called_name.Builtin builtin.BarrierOf) parts n d g h =
    let flags = well_only h.arguments in
    has_barrier_of c name parts n g (flags.clear UnknownName) (flags.clear Mismatch) (flags.clear WrongArity) (h.call.clear BadBarrier)
has_call c name called_name.Broken parts n d g h = absurd d
has_call c name called_name.Unknown parts n d g h = absurd (h.call.clear UnknownName)
