-- What one layer of a typed expression shows, and expressions that are of a type.
use Rattle.std.proofs.Common.{◌≡◌, ℕ, true, false, List, map, Option, Some, None, sym, ap, ◌∙◌}
use Rattle.wg_words.specs.declared.place.Place.{Place}
use Rattle.wg_typing.specs.Layers.{tree_of}
use Rattle.wg_typing.specs.TypingInterlocked.{is_fixed}
use Rattle.wg_sound.specs.Room.{Room}
use Rattle.wg_sound.specs.SoundExpr.{kind_step, expr_step, shown, kind_held, shown_if, form_of, link_of}
use Rattle.wg_sound.specs.SoundForms.{Shown, Held, Form, is_a, access_step}
use Rattle.wg_sound.specs.SoundOperators.{link_step}
use Rattle.wg_tree.specs.declared.expr.PrefixOperator.{PrefixOperator}
use Rattle.wg_typed.specs.declared.types.TypeTree.{TypeTree}
use Rattle.wg_typed.specs.declared.typed_expr.Intrinsic.{Intrinsic}
use Rattle.wg_typed.specs.declared.typed_expr.Access.{Access, fold-roll-Access}
use Rattle.wg_typed.specs.declared.typed_expr.Access.TheVariants as access
use Rattle.wg_typed.specs.declared.typed_expr.Access.TheOpen.{TypedKind-F, Access-F, TypedLink-F}
use Rattle.wg_typed.specs.declared.typed_expr.TypedExpr.{TypedExpr, fold-roll-TypedExpr}
use Rattle.wg_typed.specs.declared.typed_expr.TypedKind.{TypedKind, fold-roll-TypedKind}
use Rattle.wg_typed.specs.declared.typed_expr.TypedKind.TheVariants as tree
use Rattle.wg_typed.specs.declared.typed_expr.TypedLink.{TypedLink, roll-TypedLink, fold-roll-TypedLink}
use Rattle.wg_typing.specs.declared.scope.Standing.{Standing}
use Rattle.wg_typing.specs.declared.scope.Standing.TheVariants as standing
use Rattle.wg_facts.proofs.Basics.{both, type_same}

-- ---- expressions that are of a type, and may be assigned as it is said

pub record Is (room : Room) (t : TypeTree) (e : TypedExpr) : Type 0 where
  pub of : (shown room e).of ≡ t
  pub sound : (shown room e).sound ≡ true

pub record Placed (room : Room) (t : TypeTree) (s : Standing) (e : TypedExpr) : Type 0 where
  pub is : Is room t e
  pub stands : is_fixed s ≡ false → (shown room e).standing ≡ s

pub is_typed : (room : Room) (t : TypeTree) (e : TypedExpr) → Is room t e → is_a t (shown room e) ≡ true
is_typed room t e h = both h.sound (type_same _ t h.of)

-- ---- one layer

module _ (room : Room) where
  pub rolled : (place : Place) (t : TypeTree) (k : TypedKind) → shown room (tree_of place t k) ≡ record { of = t; sound = (kind_held room k t).sound; standing = (kind_held room k t).standing }
  rolled place t k = fold-roll-TypedExpr Form (TypeTree → Held) Shown (TypeTree → Option TypeTree) (access_step room) (kind_step room) expr_step link_step (record { kind = k; of = t; place = place })

  pub made : (place : Place) (s : Standing) (t : TypeTree) (k : TypedKind) (h : TypeTree → Held) → kind_held room k ≡ h → (h t).sound ≡ true → (is_fixed s ≡ false → (h t).standing ≡ s) → Placed room t s (tree_of place t k)
  made place s t k h e sound stands = record {
    is = record { of = ap (λ (x : Shown). x.of) (rolled place t k); sound = ap (λ (x : Shown). x.sound) (rolled place t k) ∙ ap (λ (x : TypeTree → Held). (x t).sound) e ∙ sound };
    stands = λ f. ap (λ (x : Shown). x.standing) (rolled place t k) ∙ ap (λ (x : TypeTree → Held). (x t).standing) e ∙ stands f;
  }

  never : {A : Type 0} → true ≡ false → A
  never e = absurd (cc)

  -- one that cannot be assigned
  pub made_fixed : (place : Place) (t : TypeTree) (k : TypedKind) (h : TypeTree → Held) → kind_held room k ≡ h → (h t).sound ≡ true → Placed room t standing.Fixed (tree_of place t k)
  made_fixed place t k h e sound = made place standing.Fixed t k h e sound (λ f. never f)

  pub held_Literal : (words : List ℕ) → kind_held room (tree.Literal words) ≡ kind_step room (TypedKind-F.Literal words)
  held_Literal words = ap (kind_held room) (sym (tree.rolls-Literal words)) ∙ fold-roll-TypedKind Form (TypeTree → Held) Shown (TypeTree → Option TypeTree) (access_step room) (kind_step room) expr_step link_step (TypedKind-F.Literal words)

  pub held_Variable : (variable : ℕ) → kind_held room (tree.Variable variable) ≡ kind_step room (TypedKind-F.Variable variable)
  held_Variable variable = ap (kind_held room) (sym (tree.rolls-Variable variable)) ∙ fold-roll-TypedKind Form (TypeTree → Held) Shown (TypeTree → Option TypeTree) (access_step room) (kind_step room) expr_step link_step (TypedKind-F.Variable variable)

  pub held_Shared : (variable : ℕ) → kind_held room (tree.Shared variable) ≡ kind_step room (TypedKind-F.Shared variable)
  held_Shared variable = ap (kind_held room) (sym (tree.rolls-Shared variable)) ∙ fold-roll-TypedKind Form (TypeTree → Held) Shown (TypeTree → Option TypeTree) (access_step room) (kind_step room) expr_step link_step (TypedKind-F.Shared variable)

  pub held_Element : (number : ℕ) (index : TypedExpr) → kind_held room (tree.Element number index) ≡ kind_step room (TypedKind-F.Element number (shown room index))
  held_Element number index = ap (kind_held room) (sym (tree.rolls-Element number index)) ∙ fold-roll-TypedKind Form (TypeTree → Held) Shown (TypeTree → Option TypeTree) (access_step room) (kind_step room) expr_step link_step (TypedKind-F.Element number index)

  pub held_Load : (number : ℕ) (address : TypedExpr) → kind_held room (tree.Load number address) ≡ kind_step room (TypedKind-F.Load number (shown room address))
  held_Load number address = ap (kind_held room) (sym (tree.rolls-Load number address)) ∙ fold-roll-TypedKind Form (TypeTree → Held) Shown (TypeTree → Option TypeTree) (access_step room) (kind_step room) expr_step link_step (TypedKind-F.Load number address)

  pub held_Input : (index : Option TypedExpr) → kind_held room (tree.Input index) ≡ kind_step room (TypedKind-F.Input (shown_if room index))
  held_Input None = ap (kind_held room) (sym (tree.rolls-Input None)) ∙ fold-roll-TypedKind Form (TypeTree → Held) Shown (TypeTree → Option TypeTree) (access_step room) (kind_step room) expr_step link_step (TypedKind-F.Input None)
  held_Input (Some i) = ap (kind_held room) (sym (tree.rolls-Input (Some i))) ∙ fold-roll-TypedKind Form (TypeTree → Held) Shown (TypeTree → Option TypeTree) (access_step room) (kind_step room) expr_step link_step (TypedKind-F.Input (Some i))

  pub held_Count : kind_held room (tree.Count) ≡ kind_step room (TypedKind-F.Count)
  held_Count = ap (kind_held room) (sym (tree.rolls-Count)) ∙ fold-roll-TypedKind Form (TypeTree → Held) Shown (TypeTree → Option TypeTree) (access_step room) (kind_step room) expr_step link_step (TypedKind-F.Count)

  pub held_Handle : (handle : ℕ) (index : Option TypedExpr) → kind_held room (tree.Handle handle index) ≡ kind_step room (TypedKind-F.Handle handle (shown_if room index))
  held_Handle handle None = ap (kind_held room) (sym (tree.rolls-Handle handle None)) ∙ fold-roll-TypedKind Form (TypeTree → Held) Shown (TypeTree → Option TypeTree) (access_step room) (kind_step room) expr_step link_step (TypedKind-F.Handle handle None)
  held_Handle handle (Some i) = ap (kind_held room) (sym (tree.rolls-Handle handle (Some i))) ∙ fold-roll-TypedKind Form (TypeTree → Held) Shown (TypeTree → Option TypeTree) (access_step room) (kind_step room) expr_step link_step (TypedKind-F.Handle handle (Some i))

  pub held_IsValid : (output : ℕ) (index : Option TypedExpr) → kind_held room (tree.IsValid output index) ≡ kind_step room (TypedKind-F.IsValid output (shown_if room index))
  held_IsValid output None = ap (kind_held room) (sym (tree.rolls-IsValid output None)) ∙ fold-roll-TypedKind Form (TypeTree → Held) Shown (TypeTree → Option TypeTree) (access_step room) (kind_step room) expr_step link_step (TypedKind-F.IsValid output None)
  held_IsValid output (Some i) = ap (kind_held room) (sym (tree.rolls-IsValid output (Some i))) ∙ fold-roll-TypedKind Form (TypeTree → Held) Shown (TypeTree → Option TypeTree) (access_step room) (kind_step room) expr_step link_step (TypedKind-F.IsValid output (Some i))

  pub held_Levels : kind_held room (tree.Levels) ≡ kind_step room (TypedKind-F.Levels)
  held_Levels = ap (kind_held room) (sym (tree.rolls-Levels)) ∙ fold-roll-TypedKind Form (TypeTree → Held) Shown (TypeTree → Option TypeTree) (access_step room) (kind_step room) expr_step link_step (TypedKind-F.Levels)

  pub held_Zeros : kind_held room (tree.Zeros) ≡ kind_step room (TypedKind-F.Zeros)
  held_Zeros = ap (kind_held room) (sym (tree.rolls-Zeros)) ∙ fold-roll-TypedKind Form (TypeTree → Held) Shown (TypeTree → Option TypeTree) (access_step room) (kind_step room) expr_step link_step (TypedKind-F.Zeros)

  pub held_Access : (base : TypedExpr) (forms : List Access) → kind_held room (tree.Access base forms) ≡ kind_step room (TypedKind-F.Access (shown room base) (map (form_of room) forms))
  held_Access base forms = ap (kind_held room) (sym (tree.rolls-Access base forms)) ∙ fold-roll-TypedKind Form (TypeTree → Held) Shown (TypeTree → Option TypeTree) (access_step room) (kind_step room) expr_step link_step (TypedKind-F.Access base forms)

  pub held_Prefix : (operator : PrefixOperator) (operand : TypedExpr) → kind_held room (tree.Prefix operator operand) ≡ kind_step room (TypedKind-F.Prefix operator (shown room operand))
  held_Prefix operator operand = ap (kind_held room) (sym (tree.rolls-Prefix operator operand)) ∙ fold-roll-TypedKind Form (TypeTree → Held) Shown (TypeTree → Option TypeTree) (access_step room) (kind_step room) expr_step link_step (TypedKind-F.Prefix operator operand)

  pub held_Convert : (operand : TypedExpr) → kind_held room (tree.Convert operand) ≡ kind_step room (TypedKind-F.Convert (shown room operand))
  held_Convert operand = ap (kind_held room) (sym (tree.rolls-Convert operand)) ∙ fold-roll-TypedKind Form (TypeTree → Held) Shown (TypeTree → Option TypeTree) (access_step room) (kind_step room) expr_step link_step (TypedKind-F.Convert operand)

  pub held_Chain : (first : TypedExpr) (rest : List TypedLink) → kind_held room (tree.Chain first rest) ≡ kind_step room (TypedKind-F.Chain (shown room first) (map (link_of room) rest))
  held_Chain first rest = ap (kind_held room) (sym (tree.rolls-Chain first rest)) ∙ fold-roll-TypedKind Form (TypeTree → Held) Shown (TypeTree → Option TypeTree) (access_step room) (kind_step room) expr_step link_step (TypedKind-F.Chain first rest)

  pub held_Choice : (c a b : TypedExpr) → kind_held room (tree.Choice c a b) ≡ kind_step room (TypedKind-F.Choice (shown room c) (shown room a) (shown room b))
  held_Choice c a b = ap (kind_held room) (sym (tree.rolls-Choice c a b)) ∙ fold-roll-TypedKind Form (TypeTree → Held) Shown (TypeTree → Option TypeTree) (access_step room) (kind_step room) expr_step link_step (TypedKind-F.Choice c a b)

  pub held_Construct : (parts : List TypedExpr) → kind_held room (tree.Construct parts) ≡ kind_step room (TypedKind-F.Construct (map (shown room) parts))
  held_Construct parts = ap (kind_held room) (sym (tree.rolls-Construct parts)) ∙ fold-roll-TypedKind Form (TypeTree → Held) Shown (TypeTree → Option TypeTree) (access_step room) (kind_step room) expr_step link_step (TypedKind-F.Construct parts)

  pub held_Call : (function : ℕ) (arguments : List TypedExpr) → kind_held room (tree.Call function arguments) ≡ kind_step room (TypedKind-F.Call function (map (shown room) arguments))
  held_Call function arguments = ap (kind_held room) (sym (tree.rolls-Call function arguments)) ∙ fold-roll-TypedKind Form (TypeTree → Held) Shown (TypeTree → Option TypeTree) (access_step room) (kind_step room) expr_step link_step (TypedKind-F.Call function arguments)

  pub held_Intrinsic : (call : Intrinsic) (arguments : List TypedExpr) → kind_held room (tree.Intrinsic call arguments) ≡ kind_step room (TypedKind-F.Intrinsic call (map (shown room) arguments))
  held_Intrinsic call arguments = ap (kind_held room) (sym (tree.rolls-Intrinsic call arguments)) ∙ fold-roll-TypedKind Form (TypeTree → Held) Shown (TypeTree → Option TypeTree) (access_step room) (kind_step room) expr_step link_step (TypedKind-F.Intrinsic call arguments)

  pub form_Field : (field : ℕ) (of : TypeTree) → form_of room (access.Field field of) ≡ access_step room (Access-F.Field field of)
  form_Field field of = ap (form_of room) (sym (access.rolls-Field field of)) ∙ fold-roll-Access Form (TypeTree → Held) Shown (TypeTree → Option TypeTree) (access_step room) (kind_step room) expr_step link_step (Access-F.Field field of)

  pub form_Components : (components : List ℕ) (of : TypeTree) → form_of room (access.Components components of) ≡ access_step room (Access-F.Components components of)
  form_Components components of = ap (form_of room) (sym (access.rolls-Components components of)) ∙ fold-roll-Access Form (TypeTree → Held) Shown (TypeTree → Option TypeTree) (access_step room) (kind_step room) expr_step link_step (Access-F.Components components of)

  pub form_Index : (index : TypedExpr) (of : TypeTree) → form_of room (access.Index index of) ≡ access_step room (Access-F.Index (shown room index) of)
  form_Index index of = ap (form_of room) (sym (access.rolls-Index index of)) ∙ fold-roll-Access Form (TypeTree → Held) Shown (TypeTree → Option TypeTree) (access_step room) (kind_step room) expr_step link_step (Access-F.Index index of)

  pub link_rolled : (l : TypedLink-F Access TypedKind TypedExpr TypedLink) → link_of room (roll-TypedLink l) ≡ link_step (record { operator = l.operator; before = l.before; operand = shown room l.operand; of = l.of })
  link_rolled l = fold-roll-TypedLink Form (TypeTree → Held) Shown (TypeTree → Option TypeTree) (access_step room) (kind_step room) expr_step link_step l
