-- Two runs that agree, and what each operation does where nothing is tested.
use Rattle.std.proofs.Common.{◌≡◌, ℕ, List, [], ◌∷◌, ◌++◌, map, refl, sym, ap, ◌∙◌, subst}
use Rattle.std.specs.Prelude.{false}
use Rattle.wg_state.specs.Turns.{Ending, Spent, Done, Action, and_then, pure}
use Rattle.wg_code.specs.Lane.{Around, Site, Exit, Through, Out, Again, Wrong}
use Rattle.wg_code.specs.Flow.{Callees, through}
use Rattle.wg_code.specs.OpMeaning.{op_does, ops_do, op_step}
use Rattle.wg_code.specs.declared.op.Op.{Op, fold-roll-Op}
use Rattle.wg_code.specs.declared.op.Op.TheOpen.{Op-F}
use Rattle.wg_code.specs.declared.op.Op.TheVariants as o
use Rattle.wg_lowered.specs.Holding.{Agree}

pub agree_then : {S A F B A' B' : Type 0} (Q : A → S → B → F → Type 0) (Q' : A' → S → B' → F → Type 0) (o : Ending S A) (p : Ending F B) (k : A → Action S A') (h : B → Action F B') → Agree Q o p → ((a : A) (s : S) (b : B) (f : F) (t : ℕ) → Q a s b f → Agree Q' (k a s t) (h b f t)) → Agree Q' (and_then o k) (and_then p h)
agree_then Q Q' Spent Spent k h r g = tt
agree_then Q Q' Spent (Done b f u) k h r g = absurd r
agree_then Q Q' (Done a s t) Spent k h r g = absurd r
agree_then Q Q' (Done a s t) (Done b f u) k h r g = subst (λ v. Agree Q' (k a s t) (h b f v)) r.0 (g a s b f t r.1)

-- a weaker relation
pub agree_so : {S A F B : Type 0} (Q Q' : A → S → B → F → Type 0) (o : Ending S A) (p : Ending F B) → Agree Q o p → ((a : A) (s : S) (b : B) (f : F) → Q a s b f → Q' a s b f) → Agree Q' o p
agree_so Q Q' Spent Spent r g = tt
agree_so Q Q' Spent (Done b f u) r g = absurd r
agree_so Q Q' (Done a s t) Spent r g = absurd r
agree_so Q Q' (Done a s t) (Done b f u) r g = (r.0, g a s b f r.1)

module _ (k : Around) (cs : Callees) where
  append_then : (o : Ending Site Exit) (m n l : Action Site Exit) → ((f : Site) (t : ℕ) → m f t ≡ and_then (n f t) (λ e. through e l)) → and_then o (λ e. through e m) ≡ and_then (and_then o (λ e. through e n)) (λ e. through e l)
  append_then Spent m n l h = refl
  append_then (Done Through f t) m n l h = h f t
  append_then (Done Out f t) m n l h = refl
  append_then (Done Again f t) m n l h = refl
  append_then (Done Wrong f t) m n l h = refl

  pub ops_append : (a b : List Op) (f : Site) (t : ℕ) → ops_do false k cs (a ++ b) f t ≡ and_then (ops_do false k cs a f t) (λ e. through e (ops_do false k cs b))
  ops_append [] b f t = refl
  ops_append (x ∷ a) b f t = append_then (op_does false k cs x f t) (ops_do false k cs (a ++ b)) (ops_do false k cs a) (ops_do false k cs b) (λ f' t'. ops_append a b f' t')

  pub does_Set : (d v : ℕ) → op_does false k cs (o.Set d v) ≡ op_step false k cs (Op-F.Set d v)
  does_Set d v = ap (op_does false k cs) (sym (o.rolls-Set d v)) ∙ fold-roll-Op (Action Site Exit) (op_step false k cs) (Op-F.Set d v)

  pub does_Copy : (d a : ℕ) → op_does false k cs (o.Copy d a) ≡ op_step false k cs (Op-F.Copy d a)
  does_Copy d a = ap (op_does false k cs) (sym (o.rolls-Copy d a)) ∙ fold-roll-Op (Action Site Exit) (op_step false k cs) (Op-F.Copy d a)

  pub does_Unary : (n d a : ℕ) → op_does false k cs (o.Unary n d a) ≡ op_step false k cs (Op-F.Unary n d a)
  does_Unary n d a = ap (op_does false k cs) (sym (o.rolls-Unary n d a)) ∙ fold-roll-Op (Action Site Exit) (op_step false k cs) (Op-F.Unary n d a)

  pub does_Binary : (n d a b : ℕ) → op_does false k cs (o.Binary n d a b) ≡ op_step false k cs (Op-F.Binary n d a b)
  does_Binary n d a b = ap (op_does false k cs) (sym (o.rolls-Binary n d a b)) ∙ fold-roll-Op (Action Site Exit) (op_step false k cs) (Op-F.Binary n d a b)

  pub does_LocalGet : (d from to index : ℕ) → op_does false k cs (o.LocalGet d from to index) ≡ op_step false k cs (Op-F.LocalGet d from to index)
  does_LocalGet d from to index = ap (op_does false k cs) (sym (o.rolls-LocalGet d from to index)) ∙ fold-roll-Op (Action Site Exit) (op_step false k cs) (Op-F.LocalGet d from to index)

  pub does_SharedGet : (d from to index : ℕ) → op_does false k cs (o.SharedGet d from to index) ≡ op_step false k cs (Op-F.SharedGet d from to index)
  does_SharedGet d from to index = ap (op_does false k cs) (sym (o.rolls-SharedGet d from to index)) ∙ fold-roll-Op (Action Site Exit) (op_step false k cs) (Op-F.SharedGet d from to index)

  pub does_InputCount : (d : ℕ) → op_does false k cs (o.InputCount d) ≡ op_step false k cs (Op-F.InputCount d)
  does_InputCount d = ap (op_does false k cs) (sym (o.rolls-InputCount d)) ∙ fold-roll-Op (Action Site Exit) (op_step false k cs) (Op-F.InputCount d)

  pub does_Level : (d : ℕ) → op_does false k cs (o.Level d) ≡ op_step false k cs (Op-F.Level d)
  does_Level d = ap (op_does false k cs) (sym (o.rolls-Level d)) ∙ fold-roll-Op (Action Site Exit) (op_step false k cs) (Op-F.Level d)

  pub does_Last : (d : ℕ) → op_does false k cs (o.Last d) ≡ op_step false k cs (Op-F.Last d)
  does_Last d = ap (op_does false k cs) (sym (o.rolls-Last d)) ∙ fold-roll-Op (Action Site Exit) (op_step false k cs) (Op-F.Last d)

  pub does_Valid : (d output element : ℕ) → op_does false k cs (o.Valid d output element) ≡ op_step false k cs (Op-F.Valid d output element)
  does_Valid d output element = ap (op_does false k cs) (sym (o.rolls-Valid d output element)) ∙ fold-roll-Op (Action Site Exit) (op_step false k cs) (Op-F.Valid d output element)

  pub does_If : (a : ℕ) (x y : List Op) → op_does false k cs (o.If a x y) ≡ op_step false k cs (Op-F.If a (map (op_does false k cs) x) (map (op_does false k cs) y))
  does_If a x y = ap (op_does false k cs) (sym (o.rolls-If a x y)) ∙ fold-roll-Op (Action Site Exit) (op_step false k cs) (Op-F.If a x y)

  pub through_end : (p : Ending Site Exit) → and_then p (λ e. through e (pure Through)) ≡ p
  through_end Spent = refl
  through_end (Done Through f t) = refl
  through_end (Done Out f t) = refl
  through_end (Done Again f t) = refl
  through_end (Done Wrong f t) = refl

  -- a list of one operation
  pub ops_one : (x : Op) (y : Action Site Exit) (f : Site) (t : ℕ) → op_does false k cs x ≡ y → ops_do false k cs (x ∷ []) f t ≡ y f t
  ops_one x y f t e = through_end (op_does false k cs x f t) ∙ ap (λ m. m f t) e
