-- The code of an expression does what it means: all of them.
use Rattle.std.proofs.Common.{◌≡◌, ℕ, ◌+◌, ◌<◌, ◌≤◌, List, [], ◌∷◌, map, length, Bool, true, false, refl, sym, ap, ◌∙◌, subst, arith}
use Rattle.std.proofs.lemmas.Bool.{false≢true, ltb-true, eqb-true}
use Rattle.std.specs.Prelude.{slice_index, IsTrue, ◌&&◌, nat_lt, nat_eq, Option, Some, None}
use Rattle.std.specs.List.{list_all}
use Rattle.wg_state.specs.Turns.{Done, Action}
use Rattle.wg_semantics.specs.Places.{Setting, part_at, fetched}
use Rattle.wg_semantics.specs.Calls.{Seen, Callee, value_of}
use Rattle.wg_semantics.specs.ExprMeaning.{Follows, Linked, components_of, linked}
use Rattle.wg_tree.specs.declared.expr.BinaryOperator.{BinaryOperator}
use Rattle.wg_semantics.specs.declared.state.State.{State}
use Rattle.wg_semantics.specs.declared.state.Spot.{Spot}
use Rattle.wg_semantics.specs.declared.state.Spot.TheVariants as spot
use Rattle.wg_typed.specs.declared.types.TypeTree.{TypeTree}
use Rattle.wg_code.specs.Lane.{Around, Site}
use Rattle.wg_code.specs.Flow.{Callees}
use Rattle.wg_code.specs.OpMeaning.{ops_do}
use Rattle.wg_lowered.specs.Where.{Names, size}
use Rattle.wg_lowered.specs.Fits.{Fitting, Typing}
use Rattle.wg_lowered.specs.declared.places.Where.{Where}
use Rattle.wg_lowered.specs.declared.places.Where.TheVariants as place
use Rattle.wg_lowered.specs.Where.{part_of}
use Rattle.wg_lowered.specs.Where.{total}
use Rattle.wg_lowered.specs.Exprs.{Coded, Formed, Joined, Kinded, value_code, value_need}
use Rattle.wg_lowered.specs.Holding.{Agree}
use Rattle.wg_lowered.proofs.Ops.{agree_so}
use Rattle.wg_lowered.specs.Fits.{joins, single}
use Rattle.wg_lowered.specs.Exprs.{linked_code, linked_need}
use Rattle.wg_lowered.proofs.Rights.{lies_more, K, ExprGood, FormGood, LinkGood, KindGood, part_value}
use Rattle.wg_lowered.proofs.Straight.{below_same}
use Rattle.wg_lowered.proofs.Registers.{and_left, and_right}
use Rattle.wg_lowered.specs.Where.{variables_end}
use Rattle.wg_lowered.specs.Holding.{Holds}
use Rattle.wg_lowered.proofs.Values.{holds_below, Stands, LiesBelow, Found, Given}
use Rattle.wg_lowered.proofs.Parts.{part_stands, part_lies}
use Rattle.wg_typed.specs.declared.typed_expr.TypedExpr.{TypedExpr, roll-TypedExpr, fold-roll-TypedExpr, ind-TypedExpr, map-TypedExpr}
use Rattle.wg_lowered.proofs.Rights.{field_good, index_good}
use Rattle.wg_typed.specs.declared.typed_expr.Access.{Access, roll-Access, fold-roll-Access, map-Access}
use Rattle.wg_typed.specs.declared.typed_expr.TypedKind.{TypedKind, roll-TypedKind, fold-roll-TypedKind, map-TypedKind}
use Rattle.wg_typed.specs.declared.typed_expr.TypedLink.{TypedLink, roll-TypedLink, fold-roll-TypedLink, map-TypedLink}
use Rattle.wg_semantics.specs.ExprMeaning.{access_step, kind_step, expr_step, link_step, seen, kind_does, follows, links}
use Rattle.wg_typed.specs.declared.typed_expr.Access.TheOpen.{TypedExpr-F, TypedKind-F, Access-F, TypedLink-F}
use Rattle.wg_lowered.specs.Fits.{typing, kind_fits, access_typing, link_typing}
use Rattle.wg_lowered.specs.Fits.{access_step as fit_access, kind_step as fit_kind, expr_step as fit_expr, link_step as fit_link}
use Rattle.wg_lowered.specs.Exprs.{coded, kind_code, formed, joined, components_code}
use Rattle.wg_lowered.specs.Exprs.{access_step as code_access, kind_step as code_kind, expr_step as code_expr, link_step as code_link}
use Rattle.wg_lowered.proofs.Wholes.{variable_good, shared_good, literal_good, zeros_good, access_good, link_good, chain_good, choice_good}
use Rattle.wg_lowered.proofs.Converted.{convert_good, by_good}
use Rattle.wg_lowered.specs.Exprs.{picked}
use Rattle.wg_lowered.proofs.Swizzles.{picks_leave, all_below}
use Rattle.wg_lowered.proofs.Rests.{prefix_good, construct_good}
use Rattle.wg_lowered.proofs.Numbers.{count_good, finished_good, levels_good, valid_good}
use Rattle.wg_lowered.specs.Holding.{Beside, Leaves}
use Rattle.wg_lowered.specs.Fits.{is_lowered}
use Rattle.wg_lowered.specs.Where.{variables_end, total}
use Rattle.wg_typed.specs.declared.typed.TypedStruct.{TypedStruct}

module _ (a : Around) (cs : Callees) (setting : Setting) (beside : Beside a setting) (callees : List Callee) (vs gs : List ℕ) (R : ℕ) where
  abbrev kx : Names
  kx = K a cs setting vs gs R

  abbrev pub RightExpr : TypedExpr → Type 0
  RightExpr e = ExprGood a cs setting vs gs R (seen setting callees e) (coded kx e) (typing kx e)

  abbrev pub RightKind : TypedKind → Type 0
  RightKind e = KindGood a cs setting vs gs R (kind_does setting callees e) ((kind_code kx) e) ((kind_fits kx) e)

  abbrev pub RightForm : Access → Type 0
  RightForm x = FormGood a cs setting vs gs R (follows setting callees x) (formed kx x) (access_typing kx x)

  abbrev pub RightLink : TypedLink → Type 0
  RightLink x = LinkGood a cs setting vs gs R (links setting callees x) (joined kx x) (link_typing kx x)

  several : (components : List ℕ) (of t : TypeTree) (d : ℕ) (p : Spot) (wh : Where) (s : State) (f : Site) (tu : ℕ) → IsTrue (nat_eq (length components) (size kx of) && list_all (λ c. nat_lt c (size kx t)) components) → variables_end kx ≤ d → d + length components < R → Holds kx R s f → Stands kx (size kx t) wh p f.registers → LiesBelow d (size kx t) wh → Agree (Found kx R d (d + length components) (size kx of) (place.Held (picked wh components d).at) f) (Done (spot.Value (map (slice_index (fetched setting.structs t p s)) components)) s tu) (ops_do false a cs (picked wh components d).ops f tu)
  several components of t d p wh s f tu w le room h st l =
      let e = eqb-true (length components) (size kx of) (and_left (nat_eq (length components) (size kx of)) _ w) in
      let x = picks_leave a cs kx R components t wh p d s f tu (all_below (size kx t) components (and_right (nat_eq (length components) (size kx of)) _ w)) room h l st in
      rw x.runs (
        refl,
        record {
          is_through = refl;
          holds = holds_below kx R d s f x.after le h x.below;
          below = x.below;
          stands = (x.holds.0, x.holds.1.1 ∙ e);
          lies = x.holds.1.0;
        },
      )

  component_good : (components : List ℕ) (of : TypeTree) → FormGood a cs setting vs gs R (record { of = of; after = components_of setting components }) (record { of = of; need = λ t. length components; after = λ t w d. components_code components w d }) (record { of = of; fits = λ t. nat_eq (length components) (size kx of) && list_all (λ c. nat_lt c (size kx t)) components })
  component_good [] of = record { c_of = refl; w_of = refl; claim = λ t d p wh s f tu w le room h st l. several [] of t d p wh s f tu w le room h st l }
  component_good (x ∷ y ∷ rest) of = record { c_of = refl; w_of = refl; claim = λ t d p wh s f tu w le room h st l. several (x ∷ y ∷ rest) of t d p wh s f tu w le room h st l }
  component_good (x ∷ []) of = record {
    c_of = refl;
    w_of = refl;
    claim = λ t d p wh s f tu w le room h st l.
        let one : 1 ≡ size kx of = eqb-true 1 (size kx of) (and_left (nat_eq 1 (size kx of)) _ w) in
        let i : x < size kx t = ltb-true x (size kx t) (and_left (nat_lt x (size kx t)) _ (and_right (nat_eq 1 (size kx of)) _ w)) in (
          refl,
          record {
            is_through = refl;
            holds = h;
            below = below_same d f.registers;
            stands = subst (λ n. Stands kx n (part_of (record { from = x; to = x + 1 }) wh) (part_at (record { from = x; to = x + 1 }) p) f.registers) one (part_stands kx (size kx t) 1 (record { from = x; to = x + 1 }) wh p f.registers refl (omega (arith, i)) st);
            lies = subst (λ n. LiesBelow (d + 1) n (part_of (record { from = x; to = x + 1 }) wh)) one (lies_more d (d + 1) 1 (part_of (record { from = x; to = x + 1 }) wh) (omega arith) (part_lies d (size kx t) 1 (record { from = x; to = x + 1 }) wh refl (omega (arith, i)) l));
          },
        );
  }

  link_any : (op : BinaryOperator) (before : Option TypeTree) (m : Seen) (c : Coded) (w : Typing) (of : TypeTree) → ExprGood a cs setting vs gs R m c w → LinkGood a cs setting vs gs R (record { of = of; next = linked setting op before m }) (record { of = of; need = λ t. linked_need kx before c; after = linked_code kx op before c }) (record { of = of; fits = λ t. (w.fits && nat_eq (size kx of) (size kx w.of)) && (joins kx t before (size kx w.of) && single op (size kx w.of)) })
  link_any op None m c w of g = link_good a cs setting vs gs R op m c w of g
  link_any op (Some by) m c w of g = by_good a cs setting vs gs R op by m c w of g

  module _ {BA BK BE BL : Type 0} (pa : BA → Access) (pk : BK → TypedKind) (pe : BE → TypedExpr) (pl : BL → TypedLink) (ha : (b : BA) → RightForm (pa b)) (hk : (b : BK) → RightKind (pk b)) (he : (b : BE) → RightExpr (pe b)) (hl : (b : BL) → RightLink (pl b)) where
    abbrev KindLevel : TypedKind-F BA BK BE BL → Type 0
    KindLevel y =
        let z = map-TypedKind BA BK BE BL Access TypedKind TypedExpr TypedLink pa pk pe pl y in
        KindGood a cs setting vs gs R
        (kind_step setting callees (map-TypedKind Access TypedKind TypedExpr TypedLink Follows (TypeTree → Action State Spot) Seen Linked (follows setting callees) (kind_does setting callees) (seen setting callees) (links setting callees) z))
        (code_kind kx (map-TypedKind Access TypedKind TypedExpr TypedLink Formed (TypeTree → Kinded) Coded Joined (formed kx) (kind_code kx) (coded kx) (joined kx) z))
        (fit_kind kx (map-TypedKind Access TypedKind TypedExpr TypedLink Fitting (TypeTree → Bool) Typing Fitting (access_typing kx) (kind_fits kx) (typing kx) (link_typing kx) z))

    kind_level : (y : TypedKind-F BA BK BE BL) → KindLevel y
    kind_level (TypedKind-F.Literal words) = literal_good a cs setting vs gs R words
    kind_level (TypedKind-F.Variable variable) = variable_good a cs setting vs gs R variable
    kind_level (TypedKind-F.Shared variable) = shared_good a cs setting vs gs R variable
    kind_level (TypedKind-F.Element buffer index) = λ t ok. absurd (false≢true ok)
    kind_level (TypedKind-F.Load buffer address) = λ t ok. absurd (false≢true ok)
    kind_level (TypedKind-F.Input index) = λ t ok. absurd (false≢true ok)
    kind_level TypedKind-F.Count = count_good a cs setting vs gs R
    kind_level TypedKind-F.Finished = finished_good a cs setting vs gs R beside
    kind_level (TypedKind-F.Handle handle index) = λ t ok. absurd (false≢true ok)
    kind_level (TypedKind-F.IsValid output None) = valid_good a cs setting vs gs R beside output None None None tt
    kind_level (TypedKind-F.IsValid output (Some e)) = valid_good a cs setting vs gs R beside output (Some _) (Some _) (Some _) (he e)
    kind_level TypedKind-F.Levels = levels_good a cs setting vs gs R beside
    kind_level TypedKind-F.Zeros = zeros_good a cs setting vs gs R
    kind_level (TypedKind-F.Access base forms) = access_good a cs setting vs gs R _ _ _ (he base) pa (follows setting callees) (formed kx) (access_typing kx) ha forms
    kind_level (TypedKind-F.Prefix operator operand) = prefix_good a cs setting vs gs R operator _ _ _ (he operand)
    kind_level (TypedKind-F.Convert operand) = convert_good a cs setting vs gs R _ _ _ (he operand)
    kind_level (TypedKind-F.Chain first rest) = chain_good a cs setting vs gs R _ _ _ (he first) pl (links setting callees) (joined kx) (link_typing kx) hl rest
    kind_level (TypedKind-F.Choice test x y) = choice_good a cs setting vs gs R _ _ _ _ _ _ _ _ _ (he test) (he x) (he y)
    kind_level (TypedKind-F.Construct parts) = construct_good a cs setting vs gs R pe (seen setting callees) (coded kx) (typing kx) he parts
    kind_level (TypedKind-F.Call function arguments) = λ t ok. absurd (false≢true ok)
    kind_level (TypedKind-F.Intrinsic call arguments) = λ t ok. absurd (false≢true ok)

    access_level : (y : Access-F BA BK BE BL) → FormGood a cs setting vs gs R
        (access_step setting (map-Access Access TypedKind TypedExpr TypedLink Follows (TypeTree → Action State Spot) Seen Linked (follows setting callees) (kind_does setting callees) (seen setting callees) (links setting callees) (map-Access BA BK BE BL Access TypedKind TypedExpr TypedLink pa pk pe pl y)))
        (code_access kx (map-Access Access TypedKind TypedExpr TypedLink Formed (TypeTree → Kinded) Coded Joined (formed kx) (kind_code kx) (coded kx) (joined kx) (map-Access BA BK BE BL Access TypedKind TypedExpr TypedLink pa pk pe pl y)))
        (fit_access kx (map-Access Access TypedKind TypedExpr TypedLink Fitting (TypeTree → Bool) Typing Fitting (access_typing kx) (kind_fits kx) (typing kx) (link_typing kx) (map-Access BA BK BE BL Access TypedKind TypedExpr TypedLink pa pk pe pl y)))
    access_level (Access-F.Field field of) = field_good a cs setting vs gs R field of
    access_level (Access-F.Components components of) = component_good components of
    access_level (Access-F.Index index of) = index_good a cs setting vs gs R _ _ _ of (he index)

    expr_level : (y : TypedExpr-F BA BK BE BL) → ExprGood a cs setting vs gs R
        (expr_step (map-TypedExpr Access TypedKind TypedExpr TypedLink Follows (TypeTree → Action State Spot) Seen Linked (follows setting callees) (kind_does setting callees) (seen setting callees) (links setting callees) (map-TypedExpr BA BK BE BL Access TypedKind TypedExpr TypedLink pa pk pe pl y)))
        (code_expr (map-TypedExpr Access TypedKind TypedExpr TypedLink Formed (TypeTree → Kinded) Coded Joined (formed kx) (kind_code kx) (coded kx) (joined kx) (map-TypedExpr BA BK BE BL Access TypedKind TypedExpr TypedLink pa pk pe pl y)))
        (fit_expr (map-TypedExpr Access TypedKind TypedExpr TypedLink Fitting (TypeTree → Bool) Typing Fitting (access_typing kx) (kind_fits kx) (typing kx) (link_typing kx) (map-TypedExpr BA BK BE BL Access TypedKind TypedExpr TypedLink pa pk pe pl y)))
    expr_level y = record { c_of = refl; w_of = refl; claim = λ ok. hk y.kind y.of ok }

    link_level : (y : TypedLink-F BA BK BE BL) → LinkGood a cs setting vs gs R
        (link_step setting (map-TypedLink Access TypedKind TypedExpr TypedLink Follows (TypeTree → Action State Spot) Seen Linked (follows setting callees) (kind_does setting callees) (seen setting callees) (links setting callees) (map-TypedLink BA BK BE BL Access TypedKind TypedExpr TypedLink pa pk pe pl y)))
        (code_link kx (map-TypedLink Access TypedKind TypedExpr TypedLink Formed (TypeTree → Kinded) Coded Joined (formed kx) (kind_code kx) (coded kx) (joined kx) (map-TypedLink BA BK BE BL Access TypedKind TypedExpr TypedLink pa pk pe pl y)))
        (fit_link kx (map-TypedLink Access TypedKind TypedExpr TypedLink Fitting (TypeTree → Bool) Typing Fitting (access_typing kx) (kind_fits kx) (typing kx) (link_typing kx) (map-TypedLink BA BK BE BL Access TypedKind TypedExpr TypedLink pa pk pe pl y)))
    link_level y = link_any y.operator y.before _ _ _ y.of (he y.operand)

  -- each expression's code does what the expression means
  pub right : (e : TypedExpr) → RightExpr e
  right e = ind-TypedExpr RightForm RightKind RightExpr RightLink
      (λ x y eq. subst (λ l. RightForm (roll-Access l)) eq (rw (fold-roll-Access Follows (TypeTree → Action State Spot) Seen Linked (access_step setting) (kind_step setting callees) expr_step (link_step setting) _, fold-roll-Access Formed (TypeTree → Kinded) Coded Joined (code_access kx) (code_kind kx) code_expr (code_link kx) _, fold-roll-Access Fitting (TypeTree → Bool) Typing Fitting (fit_access kx) (fit_kind kx) fit_expr (fit_link kx) _) (access_level (λ b. b.0) (λ b. b.0) (λ b. b.0) (λ b. b.0) (λ b. b.1) (λ b. b.1) (λ b. b.1) (λ b. b.1) y)))
      (λ x y eq. subst (λ l. RightKind (roll-TypedKind l)) eq (rw (fold-roll-TypedKind Follows (TypeTree → Action State Spot) Seen Linked (access_step setting) (kind_step setting callees) expr_step (link_step setting) _, fold-roll-TypedKind Formed (TypeTree → Kinded) Coded Joined (code_access kx) (code_kind kx) code_expr (code_link kx) _, fold-roll-TypedKind Fitting (TypeTree → Bool) Typing Fitting (fit_access kx) (fit_kind kx) fit_expr (fit_link kx) _) (kind_level (λ b. b.0) (λ b. b.0) (λ b. b.0) (λ b. b.0) (λ b. b.1) (λ b. b.1) (λ b. b.1) (λ b. b.1) y)))
      (λ x y eq. subst (λ l. RightExpr (roll-TypedExpr l)) eq (rw (fold-roll-TypedExpr Follows (TypeTree → Action State Spot) Seen Linked (access_step setting) (kind_step setting callees) expr_step (link_step setting) _, fold-roll-TypedExpr Formed (TypeTree → Kinded) Coded Joined (code_access kx) (code_kind kx) code_expr (code_link kx) _, fold-roll-TypedExpr Fitting (TypeTree → Bool) Typing Fitting (fit_access kx) (fit_kind kx) fit_expr (fit_link kx) _) (expr_level (λ b. b.0) (λ b. b.0) (λ b. b.0) (λ b. b.0) (λ b. b.1) (λ b. b.1) (λ b. b.1) (λ b. b.1) y)))
      (λ x y eq. subst (λ l. RightLink (roll-TypedLink l)) eq (rw (fold-roll-TypedLink Follows (TypeTree → Action State Spot) Seen Linked (access_step setting) (kind_step setting callees) expr_step (link_step setting) _, fold-roll-TypedLink Formed (TypeTree → Kinded) Coded Joined (code_access kx) (code_kind kx) code_expr (code_link kx) _, fold-roll-TypedLink Fitting (TypeTree → Bool) Typing Fitting (fit_access kx) (fit_kind kx) fit_expr (fit_link kx) _) (link_level (λ b. b.0) (λ b. b.0) (λ b. b.0) (λ b. b.0) (λ b. b.1) (λ b. b.1) (λ b. b.1) (λ b. b.1) y)))
      e

values_of : (a : Around) (cs : Callees) (setting : Setting) (callees : List Callee) (vs gs : List ℕ) (st : List TypedStruct) (e : TypedExpr) (R d : ℕ) (s : State) (f : Site) (t : ℕ) → Beside a setting → setting.structs ≡ st → is_lowered (record { structs = st; variables = vs; shared = gs }) e ≡ true → total vs ≤ d → d + value_need (record { structs = st; variables = vs; shared = gs }) (coded (record { structs = st; variables = vs; shared = gs }) e) < R → Holds (record { structs = st; variables = vs; shared = gs }) R s f → Agree (Leaves (record { structs = st; variables = vs; shared = gs }) R d (value_code (record { structs = st; variables = vs; shared = gs }) (coded (record { structs = st; variables = vs; shared = gs }) e) d).at f) (value_of setting.structs (seen setting callees e) s t) (ops_do false a cs (value_code (record { structs = st; variables = vs; shared = gs }) (coded (record { structs = st; variables = vs; shared = gs }) e) d).ops f t)
values_of a cs setting callees vs gs st e R d s f t beside same =
    subst (λ st. is_lowered (record { structs = st; variables = vs; shared = gs }) e ≡ true → total vs ≤ d → d + value_need (record { structs = st; variables = vs; shared = gs }) (coded (record { structs = st; variables = vs; shared = gs }) e) < R → Holds (record { structs = st; variables = vs; shared = gs }) R s f → Agree (Leaves (record { structs = st; variables = vs; shared = gs }) R d (value_code (record { structs = st; variables = vs; shared = gs }) (coded (record { structs = st; variables = vs; shared = gs }) e) d).at f) (value_of setting.structs (seen setting callees e) s t) (ops_do false a cs (value_code (record { structs = st; variables = vs; shared = gs }) (coded (record { structs = st; variables = vs; shared = gs }) e) d).ops f t)) same (λ ok le room h.
    let k : Names = K a cs setting vs gs R in
    let g = right a cs setting beside callees vs gs R e in
    let n : size k (coded k e).of ≡ size k (seen setting callees e).of = ap (size k) g.c_of in
    agree_so (Given k R d (d + value_need k (coded k e)) (size k (seen setting callees e).of) (value_code k (coded k e) d).at f) (Leaves k R d (value_code k (coded k e) d).at f) _ _ (part_value a cs setting vs gs R (seen setting callees e) (coded k e) (typing k e) g ok d s f t le room h) (λ ws s1 exit f1 q. record { is_through = q.is_through; holds = q.holds; below = q.below; value = q.value }))

-- the value of each expression, as the law says it
pub values_are_left : (around : Around) (functions : Callees) (setting : Setting) (callees : List Callee) (k : Names) (e : TypedExpr) (registers d : ℕ) (s : State) (f : Site) (turns : ℕ) → Beside around setting → k.structs ≡ setting.structs → is_lowered k e ≡ true → variables_end k ≤ d → d + value_need k (coded k e) < registers → Holds k registers s f → Agree (Leaves k registers d (value_code k (coded k e) d).at f) (value_of setting.structs (seen setting callees e) s turns) (ops_do false around functions (value_code k (coded k e) d).ops f turns)
values_are_left a cs setting callees k e R d s f t beside same = values_of a cs setting callees k.variables k.shared k.structs e R d s f t beside (sym same)
