-- The code of one of two values, by its parts.
use Rattle.std.proofs.Common.{◌≡◌, ℕ, ◌+◌, ◌-◌, List, [], ◌∷◌, ◌++◌, Result, Ok, Err, OnOk, sym, ap, ◌∙◌, arith, append_assoc}
use Rattle.std.specs.Prelude.{slice_index}
use Rattle.wg_code.specs.declared.op.Op.{Op}
use Rattle.wg_code.specs.declared.op.Op.TheVariants as o
use Rattle.wg_typed.specs.declared.types.TypeTree.{TypeTree}
use Rattle.wg_typed.specs.declared.typed_expr.TypedExpr.{TypedExpr}
use Rattle.wg_typed.specs.declared.typed_expr.TypedKind.{TypedKind}
use Rattle.wg_typed.specs.declared.typed_expr.TypedKind.TheVariants as kind
use Rattle.wg_typed.specs.declared.typed_expr.Access.TheFolds.{fold-roll-TypedKind}
use Rattle.wg_typed.specs.declared.typed_expr.Access.TheOpen.{TypedKind-F}
use Rattle.wg_lowered.specs.Where.{Names, copies}
use Rattle.wg_lowered.specs.Exprs.{Coded, Formed, Joined, Kinded, coded, kind_code, access_step, kind_step, expr_step, link_step, value_code, value_need}

pub on_ok : {A E : Type 0} (r : Result A E) (P Q : Type 0) → (P → Q) → OnOk r P → OnOk r Q
on_ok (Ok a) P Q f h = f h
on_ok (Err e) P Q f h = h

-- code behind code
behind : (old mid new a b all : List Op) → mid ≡ old ++ a → new ≡ mid ++ b → a ++ b ≡ all → new ≡ old ++ all
behind old mid new a b all e f g = f ∙ ap (λ m. m ++ b) e ∙ append_assoc old a b ∙ ap (λ l. old ++ l) g

module _ (k : Names) (kd : TypedKind) (t : TypeTree) (d : ℕ) (test first other e1 e2 e3 : TypedExpr) (is : kd ≡ kind.Choice test first other) (s1 : e1 ≡ test) (s2 : e2 ≡ first) (s3 : e3 ≡ other) where
  choice_done : kind_code k kd t ≡ kind_step k (TypedKind-F.Choice (coded k test) (coded k first) (coded k other)) t
  choice_done =
      ap (λ z. kind_code k z t) (is ∙ sym (kind.rolls-Choice test first other))
      ∙ ap (λ (f : TypeTree → Kinded). f t) (fold-roll-TypedKind Formed (TypeTree → Kinded) Coded Joined (access_step k) (kind_step k) expr_step (link_step k) (TypedKind-F.Choice test first other))

  module _ (w1 : List ℕ) (n1 a : ℕ) (at1 : w1 ≡ (value_code k (coded k e1) d).at) (next1 : n1 ≡ d + value_need k (coded k e1)) (of_a : a ≡ slice_index w1 0)
      (o2 : List Op) (w2 : List ℕ) (n2 : ℕ) (ops2 : o2 ≡ (value_code k (coded k e2) n1).ops) (at2 : w2 ≡ (value_code k (coded k e2) n1).at) (next2 : n2 ≡ n1 + value_need k (coded k e2))
      (o3 : List Op) (w3 : List ℕ) (n3 : ℕ) (ops3 : o3 ≡ (value_code k (coded k e3) n1).ops) (at3 : w3 ≡ (value_code k (coded k e3) n1).at) (next3 : n3 ≡ n1 + value_need k (coded k e3)) where
    top_is : n3 + (n2 - n1) ≡ d + (value_need k (coded k e1) + (value_need k (coded k e2) + value_need k (coded k e3)))
    top_is = omega (arith, next1, next2, next3)

    abbrev chosen : ℕ → Op
    chosen top = o.If a (o2 ++ copies w2 top) (o3 ++ copies w3 top)

    all_of : (value_code k (coded k e1) d).ops ++ chosen (n3 + (n2 - n1)) ∷ [] ≡ ((kind_code k kd t).spot d).ops
    all_of =
        rw (top_is, of_a, at1, ops2, at2, ops3, at3, next1, s1, s2, s3)
        (ap (λ (z : Kinded). (z.spot d).ops) (sym choice_done))

    pub choice_code : (old mid new : List Op) → mid ≡ old ++ (value_code k (coded k e1) d).ops → new ≡ mid ++ chosen (n3 + (n2 - n1)) ∷ [] → new ≡ old ++ ((kind_code k kd t).spot d).ops
    choice_code old mid new e f = behind old mid new _ _ _ e f all_of
