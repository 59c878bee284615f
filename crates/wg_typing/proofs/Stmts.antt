-- Statements in which no rule is broken have typed forms.
use Rattle.std.proofs.Common.{◌≡◌, true, List, [], ◌∷◌, map, Option, Some, None, sym, subst}
use Rattle.wg_words.specs.declared.place.Place.{Place}
use Rattle.wg_typing.specs.Conversions.{truth_type}
use Rattle.wg_typing.specs.Layers.{typed_part}
use Rattle.wg_typing.specs.Maybe.{if_there}
use Rattle.wg_typing.specs.Scope.{Context, enter, enter_loop, leave}
use Rattle.wg_typing.specs.Sites.{only, at_if}
use Rattle.wg_typing.specs.Site.{AtJump, AtReturn}
use Rattle.wg_typing.specs.TypingDeclaration.{declaration_trees}
use Rattle.wg_typing.specs.TypingDeclared.{fit_in}
use Rattle.wg_typing.specs.TypingExpr.{part}
use Rattle.wg_typing.specs.TypingLoop.{start_after, start_sites, start_tree, test_sites, in_header}
use Rattle.wg_typing.specs.TypingStep.{header_trees, all_steps, maybe_steps}
use Rattle.wg_typing.specs.TypingStmt.{Walked, Walk, block_after, block_sites, block_trees, branch_after, else_after, else_sites, tree_in, returned_sites, returned_tree, stmt_walked, walked, given_type}
use Rattle.wg_tree.specs.declared.expr.Expr.{Expr}
use Rattle.wg_tree.specs.declared.stmt.Start.{Start}
use Rattle.wg_tree.specs.declared.stmt.Start.TheVariants as start
use Rattle.wg_tree.specs.declared.stmt.Stmt.{Stmt, roll-Stmt, fold-roll-Stmt, ind-Stmt, map-Stmt}
use Rattle.wg_tree.specs.declared.stmt.Stmt.TheOpen.{Stmt-F}
use Rattle.wg_typing.proofs.Declarations.{Declares, Fine, IsSure, has_declaration, has_handle, sound}
use Rattle.wg_typing.proofs.Facts.{Empty, Has, has_then, has_where, holds_nowhere, is_false, is_some_has, not_false}
use Rattle.wg_typing.proofs.Parts.{IsTyped, Whole, has_fit}
use Rattle.wg_typing.proofs.Sites.{Well, well_left, well_only, well_right, well_within, Clear}
use Rattle.wg_typing.proofs.Steps.{has_header, has_step}
use Rattle.wg_typing.proofs.Wanted.{wanted_fits, wanted_typed}
use Rattle.wg_typing.specs.declared.part.Part.{Part}
use Rattle.wg_typing.specs.declared.context.GivesBack.{GivesBack}
use Rattle.wg_typing.specs.declared.context.GivesBack.TheVariants as gives_back
use Rattle.wg_typing.specs.declared.fault.TypingRule.TheVariants.{Mismatch, OutOfProfile}
use Rattle.wg_typing.specs.PartSites.{goal_if, is_typed}

-- ---- what a statement leaves

pub record Done (w : Walked) : Type 0 where
  pub tree : Has w.tree
  pub fine : Fine w.after

abbrev pub GoodWalk : Walk → Type 0
GoodWalk w = (c : Context) → Fine c → Well (w c).sites → Done (w c)

fine_enter : (c : Context) → Fine c → Fine (enter c)
fine_enter c f = record { names = f.names; values = f.values; gives = f.gives; handles = f.handles }

fine_loop : (c : Context) → Fine c → Fine (enter_loop c)
fine_loop c f = record { names = f.names; values = f.values; gives = f.gives; handles = f.handles }

fine_leave : (outer inner : Context) → Fine outer → Fine inner → Fine (leave outer inner)
fine_leave outer inner f g = record { names = f.names; values = f.values; gives = f.gives; handles = g.handles }

-- ---- blocks and branches

abbrev AllGoodWalks : List Walk → Type 0
AllGoodWalks [] = Unit {0}
AllGoodWalks (w ∷ rest) = GoodWalk w × AllGoodWalks rest

pub has_block : (ws : List Walk) (c : Context) → AllGoodWalks ws → Fine c → Well (block_sites ws c) → Declares (Has (block_trees ws c)) (block_after ws c)
has_block [] c g f h = record { form = tt; fine = f }
has_block (w ∷ rest) c g f h =
    let first = g.0 c f (well_left h) in
    let others = has_block rest (w c).after g.1 first.fine (well_right h) in
    record {
      form = has_then (w c).tree _ first.tree (λ a q. has_then (block_trees rest (w c).after) _ others.form (λ b r. tt));
      fine = others.fine;
    }

abbrev GoodElse : Option Walk → Type 0
GoodElse None = Unit {0}
GoodElse (Some w) = GoodWalk w

has_else : (other : Option Walk) (c : Context) → GoodElse other → Fine c → Well (else_sites other c) → Declares (Has (if_there (tree_in (enter c)) other)) (else_after other c)
has_else None c g f h = record { form = tt; fine = f }
has_else (Some w) c g f h =
    let d = g (enter c) (fine_enter c f) h in
    record { form = has_then (w (enter c)).tree _ d.tree (λ a q. tt); fine = fine_leave c (w (enter c)).after f d.fine }

-- ---- `return`

abbrev WholeIf : Context → Option Expr → Type 0
WholeIf c None = Unit {0}
WholeIf c (Some e) = Whole (part c e)

typed_nowhere : (p : Part) → IsTyped p → Empty (at_if (is_typed p) p.place) → ⊥
typed_nowhere p t h = holds_nowhere (is_typed p) p.place (is_some_has (typed_part p) t) h

-- `return` gives back what is wanted
has_return : (c : Context) (g : GivesBack) (place : Place) (e : Expr) → IsSure g → IsTyped (part c e) → Well (goal_if (given_type g) (part c e)) → Clear (AtReturn g place (Some (part c e))) → Has (returned_tree c g (Some e))
has_return c gives_back.Nothing place e s t w k = absurd (typed_nowhere (part c e) t (k.clear Mismatch))
has_return c (gives_back.Value of) place e s t w k = has_then (fit_in c of e) _ (has_fit of (part c e) t w) (λ v q. tt)
has_return c gives_back.Unsure place e s t w k = absurd s

returns_nothing : (c : Context) (g : GivesBack) (place : Place) → IsSure g → Clear (AtReturn g place None) → Has (returned_tree c g None)
returns_nothing c gives_back.Nothing place s k = tt
returns_nothing c (gives_back.Value of) place s k = absurd (k.clear Mismatch)
returns_nothing c gives_back.Unsure place s k = absurd s

returned : (c : Context) (place : Place) (e : Option Expr) → Fine c → Well (returned_sites c place e) → Has (returned_tree c c.returns e)
returned c place None f h = returns_nothing c c.returns place f.gives (well_only h)
returned c place (Some e) f h =
    let wanted = well_left h in
    has_return c c.returns place e f.gives (wanted_typed c (given_type c.returns) e (sound c f) wanted) (well_right wanted) (well_only (well_right h))

jumped : (c : Context) (place : Place) → Well (only (AtJump c.looped place)) → c.looped ≡ true
jumped c place h = not_false c.looped (is_false _ place ((well_only h).clear OutOfProfile))

-- ---- loops

has_start : (s : Option Start) (c : Context) → Fine c → Well (start_sites s c) → Declares (Has (if_there (start_tree c) s)) (start_after s c)
has_start None c f h = record { form = tt; fine = f }
has_start (Some (start.Declare d)) c f h =
    let r = has_declaration d c f h in
    record { form = has_then (start_tree c (start.Declare d)) _ (has_then (declaration_trees d c) _ r.form (λ a q. tt)) (λ a q. tt); fine = r.fine }
has_start (Some (start.Steps s)) c f h = record { form = has_then (start_tree c (start.Steps s)) _ (has_then (header_trees c (all_steps s)) _ (has_header c (all_steps s) (sound c f) h) (λ a q. tt)) (λ a q. tt); fine = f }

has_test : (e : Option Expr) (c : Context) → Fine c → Well (test_sites c e) → Has (if_there (fit_in c truth_type) e)
has_test None c f h = tt
has_test (Some e) c f h = has_then (fit_in c truth_type e) _ (wanted_fits c truth_type e (sound c f) h) (λ a q. tt)

-- ---- one layer

abbrev GoodLayer : Stmt-F Walk → Type 0
GoodLayer (Stmt-F.Block place body) = AllGoodWalks body
GoodLayer (Stmt-F.Empty place) = Unit {0}
GoodLayer (Stmt-F.Declare d) = Unit {0}
GoodLayer (Stmt-F.Handle of name e) = Unit {0}
GoodLayer (Stmt-F.Step s) = Unit {0}
GoodLayer (Stmt-F.Break place) = Unit {0}
GoodLayer (Stmt-F.Continue place) = Unit {0}
GoodLayer (Stmt-F.Return place e) = Unit {0}
GoodLayer (Stmt-F.If attributes place test first other) = GoodWalk first × GoodElse other
GoodLayer (Stmt-F.While attributes place test body) = GoodWalk body
GoodLayer (Stmt-F.For attributes place h body) = GoodWalk body

layer_done : (layer : Stmt-F Walk) → GoodLayer layer → GoodWalk (stmt_walked layer)
layer_done (Stmt-F.Block place body) g c f h =
    let r = has_block body (enter c) g (fine_enter c f) (well_within h) in
    record { tree = has_then (block_trees body (enter c)) _ r.form (λ a q. tt); fine = fine_leave c (block_after body (enter c)) f r.fine }
layer_done (Stmt-F.Empty place) g c f h = record { tree = tt; fine = f }
layer_done (Stmt-F.Declare d) g c f h =
    let r = has_declaration d c f h in
    record { tree = has_then (declaration_trees d c) _ r.form (λ a q. tt); fine = r.fine }
layer_done (Stmt-F.Handle of name e) g c f h =
    let r = has_handle of name e c f h in
    record { tree = r.form; fine = r.fine }
layer_done (Stmt-F.Step s) g c f h = record { tree = has_step c s (sound c f) h; fine = f }
layer_done (Stmt-F.Break place) g c f h = record { tree = has_where c.looped _ (jumped c place h); fine = f }
layer_done (Stmt-F.Continue place) g c f h = record { tree = has_where c.looped _ (jumped c place h); fine = f }
layer_done (Stmt-F.Return place e) g c f h = record { tree = returned c place e f h; fine = f }
layer_done (Stmt-F.If attributes place test first other) g c f h =
    let rest = well_within (well_right (well_right h)) in
    let a = g.0 (enter c) (fine_enter c f) (well_left rest) in
    let after = fine_leave c (first (enter c)).after f a.fine in
    let b = has_else other (branch_after first c) g.1 after (well_right rest) in
    record {
      tree = has_then (fit_in c truth_type test) _ (wanted_fits c truth_type test (sound c f) (well_left (well_right h))) (λ x q.
          has_then (first (enter c)).tree _ a.tree (λ y r. has_then (if_there (tree_in (enter (branch_after first c))) other) _ b.form (λ z s. tt)));
      fine = b.fine;
    }
layer_done (Stmt-F.While attributes place test body) g c f h =
    let a = g (enter_loop c) (fine_loop c f) (well_within (well_right (well_right h))) in
    record {
      tree = has_then (fit_in c truth_type test) _ (wanted_fits c truth_type test (sound c f) (well_left (well_right h))) (λ x q. has_then (body (enter_loop c)).tree _ a.tree (λ y r. tt));
      fine = fine_leave c (body (enter_loop c)).after f a.fine;
    }
layer_done (Stmt-F.For attributes place h body) g c f k =
    let parts = well_right k in
    let begin = has_start h.start (enter c) (fine_enter c f) (well_within (well_left parts)) in
    let later = well_right (well_right parts) in
    let inner = g (enter_loop (in_header h c)) (fine_loop (in_header h c) begin.fine) (well_within (well_right later)) in
    record {
      tree = has_then (if_there (start_tree (enter c)) h.start) _ begin.form (λ x q.
          has_then (if_there (fit_in (in_header h c) truth_type) h.test) _ (has_test h.test (in_header h c) begin.fine (well_left (well_right parts))) (λ y r.
          has_then (header_trees (in_header h c) (maybe_steps h.steps)) _ (has_header (in_header h c) (maybe_steps h.steps) (sound (in_header h c) begin.fine) (well_left later)) (λ z s.
          has_then (body (enter_loop (in_header h c))).tree _ inner.tree (λ w t. tt))));
      fine = fine_leave c (body (enter_loop (in_header h c))).after f inner.fine;
    }

-- ---- all statements

good_list : {B : Type 0} (p : B → Stmt) (holds : (b : B) → GoodWalk (walked (p b))) (bs : List B) → AllGoodWalks (map walked (map p bs))
good_list p holds [] = tt
good_list p holds (b ∷ bs) = (holds b, good_list p holds bs)

good_layer : {B : Type 0} (p : B → Stmt) (holds : (b : B) → GoodWalk (walked (p b))) (y : Stmt-F B) → GoodLayer (map-Stmt Stmt Walk walked (map-Stmt B Stmt p y))
good_layer p holds (Stmt-F.Block place body) = good_list p holds body
good_layer p holds (Stmt-F.Empty place) = tt
good_layer p holds (Stmt-F.Declare d) = tt
good_layer p holds (Stmt-F.Handle of name e) = tt
good_layer p holds (Stmt-F.Step s) = tt
good_layer p holds (Stmt-F.Break place) = tt
good_layer p holds (Stmt-F.Continue place) = tt
good_layer p holds (Stmt-F.Return place e) = tt
good_layer p holds (Stmt-F.If attributes place test first None) = (holds first, tt)
good_layer p holds (Stmt-F.If attributes place test first (Some other)) = (holds first, holds other)
good_layer p holds (Stmt-F.While attributes place test body) = holds body
good_layer p holds (Stmt-F.For attributes place h body) = holds body

pub good_stmt : (s : Stmt) → GoodWalk (walked s)
good_stmt s = ind-Stmt (λ s. GoodWalk (walked s))
    (λ x y eq. subst (λ l. GoodWalk (walked (roll-Stmt l))) eq (subst GoodWalk (sym (fold-roll-Stmt Walk stmt_walked _)) (layer_done _ (good_layer (λ b. b.0) (λ b. b.1) y))))
    s

-- the statements of a body in which no rule is broken have typed forms
pub has_body : (stmts : List Stmt) (c : Context) → Fine c → Well (block_sites (map walked stmts) c) → Declares (Has (block_trees (map walked stmts) c)) (block_after (map walked stmts) c)
has_body stmts c f h = has_block (map walked stmts) c (all_good stmts) f h
  where
    all_good : (stmts : List Stmt) → AllGoodWalks (map walked stmts)
    all_good [] = tt
    all_good (s ∷ rest) = (good_stmt s, all_good rest)
