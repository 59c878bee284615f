-- Statements of the typed form stand as deep as those of the source.
use Rattle.std.proofs.Common.{◌≡◌, false, List, [], ◌∷◌, map, Option, Some, None, refl, sym, ap, ◌∙◌, subst}
use Rattle.wg_typing.specs.Conversions.{truth_type}
use Rattle.wg_typing.specs.Maybe.{if_there, listed}
use Rattle.wg_typing.specs.Scope.{Context, enter, enter_loop}
use Rattle.wg_typing.specs.TypingAttributes.{attributes_of}
use Rattle.wg_typing.specs.TypingDeclaration.{declaration_trees}
use Rattle.wg_typing.specs.TypingDeclared.{fit_in}
use Rattle.wg_typing.specs.TypingHandle.{handle_request, request_stmt}
use Rattle.wg_typing.specs.TypingLoop.{start_tree, in_header}
use Rattle.wg_typing.specs.TypingStep.{step_did, own_handle, act_stmt, step_stmt, header_trees, maybe_steps}
use Rattle.wg_typing.specs.TypingStmt.{Walk, block_trees, branch_after, tree_in, returned_tree, stmt_walked, walked}
use Rattle.wg_words.specs.declared.place.Place.{Place}
use Rattle.wg_tree.specs.declared.expr.Expr.{Expr}
use Rattle.wg_tree.specs.declared.stmt.Attribute.{Attribute}
use Rattle.wg_tree.specs.declared.stmt.Stmt.{Stmt, roll-Stmt, fold-roll-Stmt, ind-Stmt, map-Stmt}
use Rattle.wg_tree.specs.declared.stmt.Stmt.TheOpen.{Stmt-F}
use Rattle.wg_typed.specs.declared.typed_expr.TypedExpr.{TypedExpr}
use Rattle.wg_typed.specs.declared.typed_stmt.TypedAttribute.{TypedAttribute}
use Rattle.wg_typed.specs.declared.typed_stmt.TypedStmt.{TypedStmt, roll-TypedStmt, fold-roll-TypedStmt, map-TypedStmt}
use Rattle.wg_typed.specs.declared.typed_stmt.TypedStmt.TheVariants as t
use Rattle.wg_typed.specs.declared.typed_stmt.TypedStmt.TheOpen.{TypedStmt-F}
use Rattle.wg_typing.specs.declared.context.GivesBack.{GivesBack}
use Rattle.wg_typing.specs.declared.context.GivesBack.TheVariants as gives_back
use Rattle.wg_typing.specs.declared.part.Did.{Did}
use Rattle.wg_typing.specs.declared.part.Did.TheVariants as did
use Rattle.wg_typing.specs.declared.scope.Act.{Act}
use Rattle.wg_typing.specs.declared.scope.Act.TheVariants as act
use Rattle.wg_facts.proofs.Basics.{If, if_then, if_was, if_where}
use Rattle.wg_limits.specs.Levels.{Level, leaf, block_of, around, typed_step, typed_level, source_step, source_level}

rolled : (z : TypedStmt-F TypedStmt) (s : TypedStmt) → roll-TypedStmt z ≡ s → typed_level s ≡ typed_step (map-TypedStmt TypedStmt Level typed_level z)
rolled z s e = ap typed_level (sym e) ∙ fold-roll-TypedStmt Level typed_step z

abbrev IsAt : Level → TypedStmt → Type 0
IsAt l s = typed_level s ≡ l

abbrev AreAt : List Level → List TypedStmt → Type 0
AreAt ls ss = map typed_level ss ≡ ls

-- what has no statement in it
act_leaf : (c : Context) (a : Act) → If (IsAt leaf) (act_stmt c a)
act_leaf c (act.Step s) = rolled (TypedStmt-F.Step s) (t.Step s) (t.rolls-Step s)
act_leaf c (act.Barrier syncs) = rolled (TypedStmt-F.Barrier syncs) (t.Barrier syncs) (t.rolls-Barrier syncs)
act_leaf c (act.Request group output number element amount) = tt
act_leaf c (act.Increment group output element amount) = rolled (TypedStmt-F.Increment group output element amount) (t.Increment group output element amount) (t.rolls-Increment group output element amount)
act_leaf c (act.Complete handle) = if_where (IsAt leaf) (own_handle c handle) (t.Complete handle) (λ e. rolled (TypedStmt-F.Complete handle) (t.Complete handle) (t.rolls-Complete handle))
act_leaf c (act.Finished tracked) = tt

did_leaf : (c : Context) (d : Did) → If (IsAt leaf) (step_stmt c d)
did_leaf c (did.Step s) = rolled (TypedStmt-F.Step s) (t.Step s) (t.rolls-Step s)
did_leaf c (did.Act a) = act_leaf c a

returned_leaf : (c : Context) (g : GivesBack) (e : Option Expr) → If (IsAt leaf) (returned_tree c g e)
returned_leaf c gives_back.Nothing None = rolled (TypedStmt-F.Return None) (t.Return None) (t.rolls-Return None)
returned_leaf c gives_back.Nothing (Some e) = tt
returned_leaf c (gives_back.Value of) None = tt
returned_leaf c (gives_back.Value of) (Some e) = if_was (IsAt leaf) (fit_in c of e) _ (λ x i. rolled (TypedStmt-F.Return (Some x)) (t.Return (Some x)) (t.rolls-Return (Some x)))
returned_leaf c gives_back.Unsure e = tt

-- ---- walks

abbrev WalkAt : Level → Walk → Type 0
WalkAt l w = (c : Context) → If (IsAt l) (w c).tree

abbrev pub AllAt : List Level → List Walk → Type 0
AllAt [] [] = Unit {0}
AllAt [] (w ∷ ws) = ⊥
AllAt (l ∷ ls) [] = ⊥
AllAt (l ∷ ls) (w ∷ ws) = WalkAt l w × AllAt ls ws

pub block_at : (ls : List Level) (ws : List Walk) (c : Context) → AllAt ls ws → If (AreAt ls) (block_trees ws c)
block_at [] [] c g = refl
block_at [] (w ∷ ws) c g = absurd g
block_at (l ∷ ls) [] c g = absurd g
block_at (l ∷ ls) (w ∷ ws) c g = if_then (IsAt l) (AreAt (l ∷ ls)) (w c).tree _ (g.0 c) (λ s i.
    if_then (AreAt ls) (AreAt (l ∷ ls)) (block_trees ws (w c).after) _ (block_at ls ws (w c).after g.1) (λ ss j. ap (λ x. x ∷ map typed_level ss) i ∙ ap (λ xs. l ∷ xs) j))

abbrev MaybeAt : Option Level → Option Walk → Type 0
MaybeAt None None = Unit {0}
MaybeAt None (Some w) = ⊥
MaybeAt (Some l) None = ⊥
MaybeAt (Some l) (Some w) = WalkAt l w

abbrev others : Option TypedStmt → Option Level
others None = None
others (Some s) = Some (typed_level s)

else_at : (c : Context) (l : Option Level) (o : Option Walk) → MaybeAt l o → If (λ s. others s ≡ l) (if_there (tree_in c) o)
else_at c None None g = refl
else_at c None (Some w) g = absurd g
else_at c (Some l) None g = absurd g
else_at c (Some l) (Some w) g = if_then (IsAt l) (λ s. others s ≡ Some l) (w c).tree _ (g c) (λ s i. ap Some i)

if_rolled : (attributes : List TypedAttribute) (test : TypedExpr) (first : TypedStmt) (other : Option TypedStmt) → typed_level (t.If attributes false test first other) ≡ around (typed_level first ∷ listed (others other))
if_rolled attributes test first None = rolled (TypedStmt-F.If attributes false test first None) (t.If attributes false test first None) (t.rolls-If attributes false test first None)
if_rolled attributes test first (Some other) = rolled (TypedStmt-F.If attributes false test first (Some other)) (t.If attributes false test first (Some other)) (t.rolls-If attributes false test first (Some other))

if_at : (attributes : List Attribute) (place : Place) (test : Expr) (l : Level) (first : Walk) (m : Option Level) (other : Option Walk) → WalkAt l first → MaybeAt m other → WalkAt (around (l ∷ listed m)) (stmt_walked (Stmt-F.If attributes place test first other))
if_at attributes place test l first m other g h c = if_was (IsAt (around (l ∷ listed m))) (fit_in c truth_type test) _ (λ x e.
    if_then (IsAt l) (IsAt (around (l ∷ listed m))) (first (enter c)).tree _ (g (enter c)) (λ y i.
    if_then (λ s. others s ≡ m) (IsAt (around (l ∷ listed m))) (if_there (tree_in (enter (branch_after first c))) other) _ (else_at (enter (branch_after first c)) m other h) (λ z j.
    if_rolled (attributes_of c attributes) x y z ∙ ap (λ a. around (a ∷ listed (others z))) i ∙ ap (λ o. around (l ∷ listed o)) j)))

-- ---- one layer

abbrev StmtAt : Stmt → Type 0
StmtAt s = WalkAt (source_level s) (walked s)

list_at : {B : Type 0} (p : B → Stmt) (holds : (x : B) → StmtAt (p x)) (xs : List B) → AllAt (map source_level (map p xs)) (map walked (map p xs))
list_at p holds [] = tt
list_at p holds (x ∷ xs) = (holds x, list_at p holds xs)

layer_at : {B : Type 0} (p : B → Stmt) (holds : (x : B) → StmtAt (p x)) (y : Stmt-F B) → WalkAt (source_step (map-Stmt Stmt Level source_level (map-Stmt B Stmt p y))) (stmt_walked (map-Stmt Stmt Walk walked (map-Stmt B Stmt p y)))
layer_at p holds (Stmt-F.Block place body) = λ c. if_then (AreAt (map source_level (map p body))) (IsAt (block_of (map source_level (map p body)))) (block_trees (map walked (map p body)) (enter c)) _ (block_at _ (map walked (map p body)) (enter c) (list_at p holds body)) (λ ss i.
    rolled (TypedStmt-F.Block ss) (t.Block ss) (t.rolls-Block ss) ∙ ap block_of i)
layer_at p holds (Stmt-F.Empty place) = λ c. rolled TypedStmt-F.Empty t.Empty t.rolls-Empty
layer_at p holds (Stmt-F.Declare d) = λ c. if_was (IsAt leaf) (declaration_trees d c) _ (λ ds e. rolled (TypedStmt-F.Declare ds) (t.Declare ds) (t.rolls-Declare ds))
layer_at p holds (Stmt-F.Handle of name e) = λ c. if_was (IsAt leaf) (handle_request c of e) _ (λ r i. rolled (TypedStmt-F.Request _ r.group r.output r.element r.amount) (request_stmt c r) (t.rolls-Request _ r.group r.output r.element r.amount))
layer_at p holds (Stmt-F.Step s) = λ c. if_was (IsAt leaf) (step_did c s) _ (λ d e. did_leaf c d)
layer_at p holds (Stmt-F.Break place) = λ c. if_where (IsAt leaf) c.looped t.Break (λ e. rolled TypedStmt-F.Break t.Break t.rolls-Break)
layer_at p holds (Stmt-F.Continue place) = λ c. if_where (IsAt leaf) c.looped t.Continue (λ e. rolled TypedStmt-F.Continue t.Continue t.rolls-Continue)
layer_at p holds (Stmt-F.Return place e) = λ c. returned_leaf c c.returns e
layer_at p holds (Stmt-F.If attributes place test first None) = if_at attributes place test (source_level (p first)) (walked (p first)) None None (holds first) tt
layer_at p holds (Stmt-F.If attributes place test first (Some other)) = if_at attributes place test (source_level (p first)) (walked (p first)) (Some (source_level (p other))) (Some (walked (p other))) (holds first) (holds other)
layer_at p holds (Stmt-F.While attributes place test body) = λ c. if_was (IsAt (around (source_level (p body) ∷ []))) (fit_in c truth_type test) _ (λ x e.
    if_then (IsAt (source_level (p body))) (IsAt (around (source_level (p body) ∷ []))) ((walked (p body)) (enter_loop c)).tree _ (holds body (enter_loop c)) (λ y i.
    rolled (TypedStmt-F.While (attributes_of c attributes) x y) (t.While (attributes_of c attributes) x y) (t.rolls-While (attributes_of c attributes) x y) ∙ ap (λ a. around (a ∷ [])) i))
layer_at p holds (Stmt-F.For attributes place header body) = λ c. if_was (IsAt (around (source_level (p body) ∷ []))) (if_there (start_tree (enter c)) header.start) _ (λ x e.
    if_was (IsAt (around (source_level (p body) ∷ []))) (if_there (fit_in (in_header header c) truth_type) header.test) _ (λ y f.
    if_was (IsAt (around (source_level (p body) ∷ []))) (header_trees (in_header header c) (maybe_steps header.steps)) _ (λ z g.
    if_then (IsAt (source_level (p body))) (IsAt (around (source_level (p body) ∷ []))) ((walked (p body)) (enter_loop (in_header header c))).tree _ (holds body (enter_loop (in_header header c))) (λ v i.
    rolled (TypedStmt-F.For (attributes_of c attributes) x y z v) (t.For (attributes_of c attributes) x y z v) (t.rolls-For (attributes_of c attributes) x y z v) ∙ ap (λ a. around (a ∷ [])) i))))

rolled_at : (z : Stmt-F Stmt) → WalkAt (source_step (map-Stmt Stmt Level source_level z)) (stmt_walked (map-Stmt Stmt Walk walked z)) → StmtAt (roll-Stmt z)
rolled_at z h = subst (λ l. WalkAt l (walked (roll-Stmt z))) (sym (fold-roll-Stmt Level source_step z)) (subst (WalkAt (source_step (map-Stmt Stmt Level source_level z))) (sym (fold-roll-Stmt Walk stmt_walked z)) h)

stmt_at : (s : Stmt) → StmtAt s
stmt_at s = ind-Stmt StmtAt (λ x y eq. subst (λ l. StmtAt (roll-Stmt l)) eq (rolled_at (map-Stmt _ Stmt (λ b. b.0) y) (layer_at (λ b. b.0) (λ b. b.1) y))) s

-- the statements of a body
pub all_at : (ss : List Stmt) → AllAt (map source_level ss) (map walked ss)
all_at [] = tt
all_at (s ∷ rest) = (stmt_at s, all_at rest)
