-- Lanes of a launch begin alike, and stay so where a local is declared with a uniform start value.
use Rattle.std.proofs.Common.{◌≡◌, ℕ, zero, suc, Bool, true, false, List, [], ◌∷◌, map, Option, Some, None, refl, sym, ap, ◌∙◌, subst, ⊎_elim}
use Rattle.std.proofs.lemmas.Bool.{false≢true, cases_eq, or_cases}
use Rattle.std.proofs.lemmas.List.{length-set}
use Rattle.std.specs.Prelude.{slice_get, slice_set}
use Rattle.wg_state.specs.Turns.{Action, Done, and_then, pure}
use Rattle.wg_state.specs.WordLists.{list_at}
use Rattle.wg_state.specs.declared.world.World.{World}
use Rattle.wg_semantics.specs.declared.state.State.{State}
use Rattle.wg_semantics.specs.declared.state.Store.{Store}
use Rattle.wg_semantics.specs.declared.state.Store.TheVariants as store
use Rattle.wg_semantics.specs.declared.state.Spot.{Spot}
use Rattle.wg_semantics.specs.declared.state.Spot.TheVariants as spot
use Rattle.wg_semantics.specs.Places.{Setting, over_written, written}
use Rattle.wg_semantics.specs.Calls.{Seen, Callee, value_of}
use Rattle.wg_semantics.specs.ExprMeaning.{Follows, Linked, access_step, kind_step, expr_step, link_step, seen, kind_does}
use Rattle.wg_semantics.specs.StepMeaning.{declared_as, start_value, store_at}
use Rattle.wg_semantics.specs.LaunchMeaning.{begins_with, first_value, first_values}
use Rattle.wg_typed.specs.declared.types.TypeTree.{TypeTree}
use Rattle.wg_typed.specs.declared.typed.SystemValue.TheVariants as system
use Rattle.wg_typed.specs.declared.typed.SystemValue.{SystemValue}
use Rattle.wg_typed.specs.declared.typed.TypedFunction.{TypedFunction}
use Rattle.wg_typed.specs.declared.typed.TypedVariable.{TypedVariable}
use Rattle.wg_typed.specs.declared.typed.TypedStruct.{TypedStruct}
use Rattle.wg_typed.specs.declared.typed_expr.TypedExpr.{TypedExpr}
use Rattle.wg_typed.specs.declared.typed_expr.TypedKind.{TypedKind}
use Rattle.wg_typed.specs.declared.typed_expr.TypedKind.TheVariants as kind
use Rattle.wg_typed.specs.declared.typed_expr.Access.TheFolds.{fold_out-TypedExpr, fold-roll-TypedKind}
use Rattle.wg_typed.specs.declared.typed_expr.Access.TheOpen.{TypedKind-F}
use Rattle.wg_typed.specs.declared.typed_stmt.TypedDeclarator.{TypedDeclarator}
use Rattle.wg_typed.specs.Layout.{words_of}
use Rattle.wg_typed.specs.Uniform.{UniformSetting, is_marked, is_uniform, is_finished, is_uniform_start, setting_in}
use Rattle.wg_words.specs.Truth.{truth}
use Rattle.wg_uniform.specs.OneValue.{on_lane, words_on, IsStill, AreAlike, MarksGroupIds, StayAlike, is_read_alike}
use Rattle.wg_uniform.proofs.Alike.{one_value}

module _ (structs : List TypedStruct) (group threads : List ℕ) (lane other : ℕ) where
  same_begin : (words : ℕ) (system_value : Option SystemValue) → ((value : SystemValue) → system_value ≡ Some value → value ≡ system.GroupId) → begins_with group threads lane words system_value ≡ begins_with group threads other words system_value
  same_begin words None ids = refl
  same_begin words (Some value) ids =
      ap (λ v. begins_with group threads lane words (Some v)) (ids value refl) ∙ ap (λ v. begins_with group threads other words (Some v)) (sym (ids value refl))

  same_values : (vs : List TypedVariable) (n : ℕ) → MarksGroupIds vs → is_marked (slice_get vs n) ≡ true → list_at (map (first_value structs group threads lane) vs) n ≡ list_at (map (first_value structs group threads other) vs) n
  same_values [] n ids h = refl
  same_values (v ∷ vs) zero ids h = same_begin (words_of structs v.of) v.system (λ value e. ids 0 v value refl h e)
  same_values (v ∷ vs) (suc n) ids h = same_values vs n (λ k. ids (suc k)) h

  pub begin_alike : (f : TypedFunction) (w : World) → MarksGroupIds f.variables
      → AreAlike (setting_in f) (record { variables = first_values structs f group threads lane; world = w }) (record { variables = first_values structs f group threads other; world = w })
  begin_alike f w ids = record { variables = λ n h. same_values f.variables n ids h; count = refl; inputs = λ h. refl }

nothing_over : (from : ℕ) (words : List ℕ) → over_written [] from words ≡ []
nothing_over from [] = refl
nothing_over from (w ∷ words) = nothing_over (suc from) words

set_there : (xs : List (List ℕ)) (n : ℕ) (words : List ℕ) → list_at (slice_set xs n (over_written (list_at xs n) 0 words)) n ≡ over_written (list_at xs n) 0 words
set_there [] n words = sym (nothing_over 0 words)
set_there (x ∷ xs) zero words = refl
set_there (x ∷ xs) (suc n) words = set_there xs n words

elsewhere : (xs : List (List ℕ)) (n m : ℕ) (v : List ℕ) → (m ≡ n → ⊥) → list_at (slice_set xs n v) m ≡ list_at xs m
elsewhere [] n m v apart = refl
elsewhere (x ∷ xs) zero zero v apart = absurd (apart refl)
elsewhere (x ∷ xs) zero (suc m) v apart = refl
elsewhere (x ∷ xs) (suc n) zero v apart = refl
elsewhere (x ∷ xs) (suc n) (suc m) v apart = elsewhere xs n m v (λ e. apart (ap suc e))

-- lists that are the same at a number stay so where the same words are written into one of each
same_after : (xs ys : List (List ℕ)) (n m : ℕ) (words : List ℕ) → list_at xs m ≡ list_at ys m
    → list_at (slice_set xs n (over_written (list_at xs n) 0 words)) m ≡ list_at (slice_set ys n (over_written (list_at ys n) 0 words)) m
same_after xs ys n m words same = ⊎_elim (λ e. subst (λ k. list_at xs k ≡ list_at ys k → list_at (slice_set xs n (over_written (list_at xs n) 0 words)) k ≡ list_at (slice_set ys n (over_written (list_at ys n) 0 words)) k) (sym e) there same) (λ apart. elsewhere xs n m _ apart ∙ same ∙ sym (elsewhere ys n m _ apart)) (cases_eq m n)
  where
    there : list_at xs n ≡ list_at ys n → list_at (slice_set xs n (over_written (list_at xs n) 0 words)) n ≡ list_at (slice_set ys n (over_written (list_at ys n) 0 words)) n
    there e = set_there xs n words ∙ ap (λ old. over_written old 0 words) e ∙ sym (set_there ys n words)

declares : (setting : Setting) (callees : List Callee) (d : TypedDeclarator) (e : TypedExpr) (s : State) (words : List ℕ) → d.value ≡ Some e → IsStill (words_on setting callees e) s words
    → (t : ℕ) → declared_as setting callees d s t ≡ Done tt (written (spot.At (store.Variable d.variable) 0) words s) t
declares setting callees d e s words starts still t =
    ap (λ o. and_then (start_value setting callees d.of o s t) (store_at (spot.At (store.Variable d.variable) 0))) starts
    ∙ ap (λ x. and_then x (store_at (spot.At (store.Variable d.variable) 0))) (still t)

stay_alike : (u : UniformSetting) (setting : Setting) (lane other : ℕ) (callees others : List Callee) (d : TypedDeclarator) (e : TypedExpr) (s r : State) (words : List ℕ) → d.value ≡ Some e
    → IsStill (words_on (on_lane setting lane) callees e) s words → IsStill (words_on (on_lane setting other) others e) r words → AreAlike u s r
    → StayAlike u (declared_as (on_lane setting lane) callees d) (declared_as (on_lane setting other) others d) s r
stay_alike u setting lane other callees others d e s r words starts here there alike = record {
  after = written (spot.At (store.Variable d.variable) 0) words s;
  other_after = written (spot.At (store.Variable d.variable) 0) words r;
  runs = declares (on_lane setting lane) callees d e s words starts here;
  other_runs = declares (on_lane setting other) others d e r words starts there;
  alike = record {
    variables = λ n h. same_after s.variables r.variables d.variable n words (alike.variables n h);
    count = alike.count;
    inputs = λ h. alike.inputs h;
  };
}

-- ---- whether the launch is the record's last

module _ (setting : Setting) (callees : List Callee) where
  seen_kind : (e : TypedExpr) → seen setting callees e ≡ record { of = e.of; spot = kind_does setting callees e.kind e.of }
  seen_kind e = fold_out-TypedExpr Follows (TypeTree → Action State Spot) Seen Linked (access_step setting) (kind_step setting callees) expr_step (link_step setting) e

  finished_does : (k : TypedKind) (t : TypeTree) → is_finished k ≡ true → kind_does setting callees k t ≡ pure (spot.Value (truth setting.last ∷ []))
  finished_does kind.Finished t h = ap (λ k. kind_does setting callees k t) (sym kind.rolls-Finished) ∙ ap (λ (f : TypeTree → Action State Spot). f t) (fold-roll-TypedKind Follows (TypeTree → Action State Spot) Seen Linked (access_step setting) (kind_step setting callees) expr_step (link_step setting) TypedKind-F.Finished)
  finished_does _ t h = absurd (false≢true h)

  finished_still : (e : TypedExpr) (s : State) → is_finished e.kind ≡ true → IsStill (words_on setting callees e) s (truth setting.last ∷ [])
  finished_still e s h t =
      ap (λ x. value_of setting.structs x s t) (seen_kind e)
      ∙ ap (λ (m : Action State Spot). value_of setting.structs (record { of = e.of; spot = m }) s t) (finished_does e.kind e.of h)

pub start_alike : (u : UniformSetting) (setting : Setting) (lane other : ℕ) (callees others : List Callee) (d : TypedDeclarator) (e : TypedExpr) (s r : State) → d.value ≡ Some e → is_uniform_start u e ≡ true → AreAlike u s r
    → StayAlike u (declared_as (on_lane setting lane) callees d) (declared_as (on_lane setting other) others d) s r
start_alike u setting lane other callees others d e s r starts holds alike = ⊎_elim
    (λ h. stay_alike u setting lane other callees others d e s r (truth setting.last ∷ []) starts (finished_still (on_lane setting lane) callees e s h) (finished_still (on_lane setting other) others e r h) alike)
    (λ h. let found = one_value u e h setting lane other callees others s r alike in stay_alike u setting lane other callees others d e s r found.0 starts found.1.0 found.1.1 alike)
    (or_cases (is_finished e.kind) (is_uniform u e) holds)

-- ---- what is written elsewhere

apart : (f : ℕ → Bool) (m n : ℕ) → f m ≡ true → f n ≡ false → m ≡ n → ⊥
apart f m n yes_m no_n e = false≢true (sym no_n ∙ ap f (sym e) ∙ yes_m)

pub written_alike : (u : UniformSetting) (p : Store) (from : ℕ) (values : List ℕ) (s r : State) → is_read_alike u p ≡ false → AreAlike u s r → AreAlike u (written (spot.At p from) values s) r
written_alike u (store.Variable variable) from values s r unread alike = record {
  variables = λ n h. elsewhere s.variables variable n _ (apart (λ k. is_marked (slice_get u.variables k)) n variable h unread) ∙ alike.variables n h;
  count = alike.count;
  inputs = λ h. alike.inputs h;
}
written_alike u (store.Shared variable) from values s r unread alike = record { variables = λ n h. alike.variables n h; count = alike.count; inputs = λ h. alike.inputs h }
written_alike u (store.Buffer buffer) from values s r unread alike = record { variables = λ n h. alike.variables n h; count = alike.count; inputs = λ h. alike.inputs h }
written_alike u (store.Input number) from values s r unread alike = record {
  variables = λ n h. alike.variables n h;
  count = length-set s.world.inputs number _ ∙ alike.count;
  inputs = λ h. absurd (false≢true (sym unread ∙ h));
}
written_alike u (store.Granted grant item) from values s r unread alike = record { variables = λ n h. alike.variables n h; count = alike.count; inputs = λ h. alike.inputs h }
