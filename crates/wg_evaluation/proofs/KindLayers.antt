-- What an expression of a kind does, by its parts.
use Rattle.std.proofs.Common.{◌≡◌, ◌≢◌, ◌==◌, ℕ, List, not, false, true, if◌then◌else◌, Result, Ok, Err, sym, ap, subst, ◌∙◌, arith}
use Rattle.std.proofs.lemmas.Bool.Decides.{nat_tests}
use Rattle.wg_words.specs.Truth.{is_true}
use Rattle.wg_machine.specs.declared.bodies.Halt.{Halt}
use Rattle.wg_state.specs.Turns.{Ending, Done, Action, and_then, pure}
use Rattle.wg_semantics.specs.declared.state.Spot.{Spot}
use Rattle.wg_semantics.specs.declared.state.Spot.TheVariants as spot
use Rattle.wg_semantics.specs.declared.state.State.{State}
use Rattle.wg_semantics.specs.Places.{Setting}
use Rattle.wg_semantics.specs.Calls.{Seen, Callee, value_of}
use Rattle.wg_semantics.specs.ExprMeaning.{Follows, Linked, word_of, when, valued, access_step, kind_step, expr_step, link_step, seen, kind_does}
use Rattle.wg_typed.specs.declared.types.TypeTree.{TypeTree}
use Rattle.wg_typed.specs.declared.typed_expr.TypedExpr.{TypedExpr}
use Rattle.wg_typed.specs.declared.typed_expr.TypedKind.{TypedKind}
use Rattle.wg_typed.specs.declared.typed_expr.TypedKind.TheVariants as kind
use Rattle.wg_typed.specs.declared.typed_expr.Access.TheFolds.{fold-roll-TypedKind}
use Rattle.wg_typed.specs.declared.typed_expr.Access.TheOpen.{TypedKind-F}
use Rattle.wg_evaluation.specs.Says.{Says, Stops, spot_result}
use Rattle.wg_evaluation.proofs.Sequences.{stops_next, stops_same}

is_true_at : (n : ℕ) → n ≢ 0 → is_true n ≡ true
is_true_at n m = let e : (n == 0) ≡ false = grind (arith, nat_tests) in ap not e

-- the value of words that an action gives
pub says_spot : (o : Ending State (List ℕ)) (r : Result (List ℕ) Halt) (p : Result Spot Halt) (s : State) (n : ℕ) → p ≡ spot_result r → Says o r s n → Says (and_then o (λ words. pure (spot.Value words))) p s n
says_spot o (Ok words) p s n e d = subst (λ q. Says (and_then o (λ words. pure (spot.Value words))) q s n) (sym e) (ap (λ x. and_then x (λ words. pure (spot.Value words))) d)
says_spot o (Err h) p s n e d = subst (λ q. Says (and_then o (λ words. pure (spot.Value words))) q s n) (sym e) (stops_next o (λ words. pure (spot.Value words)) h d)

module _ (setting : Setting) (callees : List Callee) (k : TypedKind) (t : TypeTree) where
  pub does_element : (buffer : ℕ) (index : TypedExpr) → k ≡ kind.Element buffer index → kind_does setting callees k t ≡ kind_step setting callees (TypedKind-F.Element buffer (seen setting callees index)) t
  does_element buffer index is =
      ap (λ z. kind_does setting callees z t) (is ∙ sym (kind.rolls-Element buffer index))
      ∙ ap (λ (f : TypeTree → Action State Spot). f t) (fold-roll-TypedKind Follows (TypeTree → Action State Spot) Seen Linked (access_step setting) (kind_step setting callees) expr_step (link_step setting) (TypedKind-F.Element buffer index))

  pub does_load : (buffer : ℕ) (address : TypedExpr) → k ≡ kind.Load buffer address → kind_does setting callees k t ≡ kind_step setting callees (TypedKind-F.Load buffer (seen setting callees address)) t
  does_load buffer address is =
      ap (λ z. kind_does setting callees z t) (is ∙ sym (kind.rolls-Load buffer address))
      ∙ ap (λ (f : TypeTree → Action State Spot). f t) (fold-roll-TypedKind Follows (TypeTree → Action State Spot) Seen Linked (access_step setting) (kind_step setting callees) expr_step (link_step setting) (TypedKind-F.Load buffer address))

  -- a choice, where its test is known by another name
  module _ (s : State) (n : ℕ) (test first other e : TypedExpr) (is : k ≡ kind.Choice test first other) (tested : e ≡ test) where
    abbrev value : TypedExpr → Action State (List ℕ)
    value x = value_of setting.structs (seen setting callees x)

    abbrev branches : ℕ → Action State Spot
    branches c = valued (when c (value first) (value other))

    choice_layer : kind_does setting callees k t s n ≡ and_then (word_of setting (seen setting callees e) s n) branches
    choice_layer =
        ap (λ z. kind_does setting callees z t s n) (is ∙ sym (kind.rolls-Choice test first other))
        ∙ ap (λ (f : TypeTree → Action State Spot). f t s n) (fold-roll-TypedKind Follows (TypeTree → Action State Spot) Seen Linked (access_step setting) (kind_step setting callees) expr_step (link_step setting) (TypedKind-F.Choice test first other))
        ∙ ap (λ x. and_then (word_of setting (seen setting callees x) s n) branches) (sym tested)

    pub choice_stops : (h : Halt) → Stops (word_of setting (seen setting callees e) s n) h → Stops (kind_does setting callees k t s n) h
    choice_stops h d = stops_same _ _ h (sym choice_layer) (stops_next (word_of setting (seen setting callees e) s n) branches h d)

    module _ (c : ℕ) (s1 : State) (n1 : ℕ) (d : word_of setting (seen setting callees e) s n ≡ Done c s1 n1) (x : TypedExpr) where
      pub choice_first : c ≢ 0 → x ≡ first → kind_does setting callees k t s n ≡ valued (value x) s1 n1
      choice_first m same =
          choice_layer ∙ ap (λ r. and_then r branches) d
          ∙ ap (λ b. valued (if b then value first else value other) s1 n1) (is_true_at c m)
          ∙ ap (λ y. valued (value y) s1 n1) (sym same)

      pub choice_other : c ≡ 0 → x ≡ other → kind_does setting callees k t s n ≡ valued (value x) s1 n1
      choice_other z same =
          choice_layer ∙ ap (λ r. and_then r branches) d
          ∙ ap (λ w. branches w s1 n1) z
          ∙ ap (λ y. valued (value y) s1 n1) (sym same)
