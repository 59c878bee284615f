-- The spot of a target is a place, not a value: from the source alone.
use Rattle.std.proofs.Common.{ℕ, ◌+◌, ◌*◌, List, [], ◌∷◌, map, Bool, true, false, subst}
use Rattle.std.proofs.lemmas.Bool.{false≢true}
use Rattle.std.specs.Prelude.{IsTrue, ◌&&◌, nat_lt, if◌then◌else◌}
use Rattle.wg_state.specs.Turns.{Ending, Spent, Done, Action, ◌>>=◌, and_then, pure}
use Rattle.wg_typed.specs.Layout.{Range, words_of, field_range}
use Rattle.wg_typed.specs.declared.types.TypeTree.{TypeTree}
use Rattle.wg_typed.specs.declared.typed_expr.Access.{Access, fold-Access, roll-Access, fold-roll-Access, map-Access}
use Rattle.wg_typed.specs.declared.typed_expr.TypedExpr.{TypedExpr, roll-TypedExpr, fold-roll-TypedExpr, ind-TypedExpr, map-TypedExpr}
use Rattle.wg_typed.specs.declared.typed_expr.TypedKind.{TypedKind, fold-TypedKind, roll-TypedKind, fold-roll-TypedKind, map-TypedKind}
use Rattle.wg_typed.specs.declared.typed_expr.TypedLink.{TypedLink, fold-TypedLink}
use Rattle.wg_typed.specs.declared.typed_expr.Access.TheOpen.{TypedExpr-F, TypedKind-F, Access-F}
use Rattle.wg_semantics.specs.declared.state.State.{State}
use Rattle.wg_semantics.specs.declared.state.Spot.{Spot}
use Rattle.wg_semantics.specs.declared.state.Spot.TheVariants as spot
use Rattle.wg_semantics.specs.Places.{Setting, part_at, array_size, element_at}
use Rattle.wg_semantics.specs.Calls.{Seen, Callee}
use Rattle.wg_semantics.specs.ExprMeaning.{Follows, Linked, word_of, indexed, followed, access_step, kind_step, expr_step, link_step, seen, kind_does, follows, links}
use Rattle.wg_lowered.proofs.Registers.{and_left, and_right}
use Rattle.wg_lowered_bodies.specs.StepsFit.{all_true, is_place}
use Rattle.wg_lowered_bodies.specs.StepsFit.{access_step as place_access}
use Rattle.wg_lowered_bodies.specs.StepsFit.{kind_step as place_kind}
use Rattle.wg_lowered_bodies.specs.StepsFit.{expr_step as place_expr}
use Rattle.wg_lowered_bodies.specs.StepsFit.{link_step as place_link}
use Rattle.wg_lowered_bodies.proofs.Stores.{IsPlace}

-- what holds of an answer, where there is one
abbrev pub Answers : {A : Type 0} → (A → Type 0) → Ending State A → Type 0
Answers P Spent = Unit {0}
Answers P (Done v s t) = P v

answers_then : {A B : Type 0} (P : A → Type 0) (Q : B → Type 0) (o : Ending State A) (k : A → Action State B) → Answers P o → ((v : A) (s : State) (t : ℕ) → P v → Answers Q (k v s t)) → Answers Q (and_then o k)
answers_then P Q Spent k h g = tt
answers_then P Q (Done v s t) k h g = g v s t h

any_answer : {A : Type 0} (o : Ending State A) → Answers (λ v. Unit {0}) o
any_answer Spent = tt
any_answer (Done v s t) = tt

part_place : (r : Range) (p : Spot) → IsPlace p → IsPlace (part_at r p)
part_place r (spot.Value words) i = i
part_place r (spot.At x from) i = tt
part_place r spot.Nowhere i = tt

element_place : (size at words : ℕ) (p : Spot) → IsPlace p → IsPlace (element_at size at words p)
element_place size words at p i = go (nat_lt at size)
  where
    go : (b : Bool) → IsPlace (if b then part_at (record { from = at * words; to = (at + 1) * words }) p else spot.Nowhere)
    go true = part_place (record { from = at * words; to = (at + 1) * words }) p i
    go false = tt

module _ (setting : Setting) (callees : List Callee) where
  abbrev ExprPlace : Seen → Bool → Type 0
  ExprPlace m b = IsTrue b → (s : State) (t : ℕ) → Answers IsPlace (m.spot s t)

  abbrev KindPlace : (TypeTree → Action State Spot) → Bool → Type 0
  KindPlace m b = IsTrue b → (of : TypeTree) (s : State) (t : ℕ) → Answers IsPlace (m of s t)

  abbrev FormPlace : Follows → Bool → Type 0
  FormPlace m b = IsTrue b → (of : TypeTree) (p : Spot) (s : State) (t : ℕ) → IsPlace p → Answers IsPlace (m.after of p s t)

  abbrev PlaceExpr : TypedExpr → Type 0
  PlaceExpr e = ExprPlace (seen setting callees e) (is_place e)

  abbrev kind_is : TypedKind → Bool
  kind_is = fold-TypedKind Bool Bool Bool Bool place_access place_kind place_expr place_link

  abbrev form_is : Access → Bool
  form_is = fold-Access Bool Bool Bool Bool place_access place_kind place_expr place_link

  abbrev link_is : TypedLink → Bool
  link_is = fold-TypedLink Bool Bool Bool Bool place_access place_kind place_expr place_link

  abbrev PlaceKind : TypedKind → Type 0
  PlaceKind e = KindPlace (kind_does setting callees e) (kind_is e)

  abbrev PlaceForm : Access → Type 0
  PlaceForm x = FormPlace (follows setting callees x) (form_is x)

  abbrev PlaceLink : TypedLink → Type 0
  PlaceLink x = Unit {0}

  forms_place : {F B : Type 0} (pr : B → F) (m : F → Follows) (c : F → Bool) (each : (x : B) → FormPlace (m (pr x)) (c (pr x))) (xs : List B) (of : TypeTree) (p : Spot) (s : State) (t : ℕ) → IsTrue (all_true (map c (map pr xs))) → IsPlace p → Answers IsPlace (followed (map m (map pr xs)) of p s t)
  forms_place pr m c each [] of p s t ok i = i
  forms_place pr m c each (x ∷ xs) of p s t ok i =
      answers_then IsPlace IsPlace ((m (pr x)).after of p s t) (followed (map m (map pr xs)) (m (pr x)).of) (each x (and_left (c (pr x)) _ ok) of p s t i) (λ q s1 t1 j. forms_place pr m c each xs (m (pr x)).of q s1 t1 (and_right (c (pr x)) _ ok) j)

  access_place : {F B : Type 0} (mb : Seen) (b : Bool) → ExprPlace mb b → (pr : B → F) (m : F → Follows) (c : F → Bool) (each : (x : B) → FormPlace (m (pr x)) (c (pr x))) (xs : List B) → KindPlace (λ of. mb.spot >>= followed (map m (map pr xs)) mb.of) (b && all_true (map c (map pr xs)))
  access_place mb b g pr m c each xs ok of s t =
      answers_then IsPlace IsPlace (mb.spot s t) (followed (map m (map pr xs)) mb.of) (g (and_left b _ ok) s t) (λ p s1 t1 i. forms_place pr m c each xs mb.of p s1 t1 (and_right b _ ok) i)

  index_place : (m : Seen) (of : TypeTree) → FormPlace (record { of = of; after = indexed setting m of }) true
  index_place m of ok t p s tu i =
      answers_then (λ v. Unit {0}) IsPlace (word_of setting m s tu) (λ at. pure (element_at (array_size t) (words_of setting.structs of) at p)) (any_answer (word_of setting m s tu)) (λ v s1 t1 u. element_place (array_size t) (words_of setting.structs of) v p i)

  module _ {BA BK BE BL : Type 0} (pa : BA → Access) (pk : BK → TypedKind) (pe : BE → TypedExpr) (pl : BL → TypedLink) (ha : (b : BA) → PlaceForm (pa b)) (hk : (b : BK) → PlaceKind (pk b)) (he : (b : BE) → PlaceExpr (pe b)) where
    access_level : (y : Access-F BA BK BE BL) → FormPlace
        (access_step setting (map-Access Access TypedKind TypedExpr TypedLink Follows (TypeTree → Action State Spot) Seen Linked (follows setting callees) (kind_does setting callees) (seen setting callees) (links setting callees) (map-Access BA BK BE BL Access TypedKind TypedExpr TypedLink pa pk pe pl y)))
        (place_access (map-Access Access TypedKind TypedExpr TypedLink Bool Bool Bool Bool form_is kind_is is_place link_is (map-Access BA BK BE BL Access TypedKind TypedExpr TypedLink pa pk pe pl y)))
    access_level (Access-F.Field field of) = λ ok t p s tu i. part_place (field_range setting.structs t field) p i
    access_level (Access-F.Components [] of) = λ ok. absurd (false≢true ok)
    access_level (Access-F.Components (c ∷ []) of) = λ ok t p s tu i. part_place (record { from = c; to = c + 1 }) p i
    access_level (Access-F.Components (c ∷ x ∷ components) of) = λ ok. absurd (false≢true ok)
    access_level (Access-F.Index index of) = index_place _ of

    kind_level : (y : TypedKind-F BA BK BE BL) → KindPlace
        (kind_step setting callees (map-TypedKind Access TypedKind TypedExpr TypedLink Follows (TypeTree → Action State Spot) Seen Linked (follows setting callees) (kind_does setting callees) (seen setting callees) (links setting callees) (map-TypedKind BA BK BE BL Access TypedKind TypedExpr TypedLink pa pk pe pl y)))
        (place_kind (map-TypedKind Access TypedKind TypedExpr TypedLink Bool Bool Bool Bool form_is kind_is is_place link_is (map-TypedKind BA BK BE BL Access TypedKind TypedExpr TypedLink pa pk pe pl y)))
    kind_level (TypedKind-F.Literal words) = λ ok. absurd (false≢true ok)
    kind_level (TypedKind-F.Variable variable) = λ ok of s t. tt
    kind_level (TypedKind-F.Shared variable) = λ ok of s t. tt
    kind_level (TypedKind-F.Element buffer index) = λ ok. absurd (false≢true ok)
    kind_level (TypedKind-F.Load buffer address) = λ ok. absurd (false≢true ok)
    kind_level (TypedKind-F.Input index) = λ ok. absurd (false≢true ok)
    kind_level TypedKind-F.Count = λ ok. absurd (false≢true ok)
    kind_level TypedKind-F.Finished = λ ok. absurd (false≢true ok)
    kind_level (TypedKind-F.Handle handle index) = λ ok. absurd (false≢true ok)
    kind_level (TypedKind-F.IsValid output element) = λ ok. absurd (false≢true ok)
    kind_level TypedKind-F.Levels = λ ok. absurd (false≢true ok)
    kind_level TypedKind-F.Zeros = λ ok. absurd (false≢true ok)
    kind_level (TypedKind-F.Access base forms) = access_place _ _ (he base) pa (follows setting callees) form_is ha forms
    kind_level (TypedKind-F.Prefix operator operand) = λ ok. absurd (false≢true ok)
    kind_level (TypedKind-F.Convert operand) = λ ok. absurd (false≢true ok)
    kind_level (TypedKind-F.Chain first rest) = λ ok. absurd (false≢true ok)
    kind_level (TypedKind-F.Choice test x y) = λ ok. absurd (false≢true ok)
    kind_level (TypedKind-F.Construct parts) = λ ok. absurd (false≢true ok)
    kind_level (TypedKind-F.Call function arguments) = λ ok. absurd (false≢true ok)
    kind_level (TypedKind-F.Intrinsic _ arguments) = λ ok. absurd (false≢true ok)

    expr_level : (y : TypedExpr-F BA BK BE BL) → ExprPlace
        (expr_step (map-TypedExpr Access TypedKind TypedExpr TypedLink Follows (TypeTree → Action State Spot) Seen Linked (follows setting callees) (kind_does setting callees) (seen setting callees) (links setting callees) (map-TypedExpr BA BK BE BL Access TypedKind TypedExpr TypedLink pa pk pe pl y)))
        (place_expr (map-TypedExpr Access TypedKind TypedExpr TypedLink Bool Bool Bool Bool form_is kind_is is_place link_is (map-TypedExpr BA BK BE BL Access TypedKind TypedExpr TypedLink pa pk pe pl y)))
    expr_level y = λ ok s t. hk y.kind ok y.of s t

  -- a target's spot is a place
  pub target_place : (e : TypedExpr) → PlaceExpr e
  target_place e = ind-TypedExpr PlaceForm PlaceKind PlaceExpr PlaceLink
      (λ x y eq. subst (λ l. PlaceForm (roll-Access l)) eq (rw (fold-roll-Access Follows (TypeTree → Action State Spot) Seen Linked (access_step setting) (kind_step setting callees) expr_step (link_step setting) _, fold-roll-Access Bool Bool Bool Bool place_access place_kind place_expr place_link _) (access_level (λ b. b.0) (λ b. b.0) (λ b. b.0) (λ b. b.0) (λ b. b.1) (λ b. b.1) (λ b. b.1) y)))
      (λ x y eq. subst (λ l. PlaceKind (roll-TypedKind l)) eq (rw (fold-roll-TypedKind Follows (TypeTree → Action State Spot) Seen Linked (access_step setting) (kind_step setting callees) expr_step (link_step setting) _, fold-roll-TypedKind Bool Bool Bool Bool place_access place_kind place_expr place_link _) (kind_level (λ b. b.0) (λ b. b.0) (λ b. b.0) (λ b. b.0) (λ b. b.1) (λ b. b.1) (λ b. b.1) y)))
      (λ x y eq. subst (λ l. PlaceExpr (roll-TypedExpr l)) eq (rw (fold-roll-TypedExpr Follows (TypeTree → Action State Spot) Seen Linked (access_step setting) (kind_step setting callees) expr_step (link_step setting) _, fold-roll-TypedExpr Bool Bool Bool Bool place_access place_kind place_expr place_link _) (expr_level (λ b. b.0) (λ b. b.0) (λ b. b.0) (λ b. b.0) (λ b. b.1) (λ b. b.1) (λ b. b.1) y)))
      (λ x y eq. tt)
      e
