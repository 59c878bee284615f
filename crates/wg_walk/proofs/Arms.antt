-- A chain that is walked over from left to right is the chain of the definitions.
use Rattle.std.proofs.Common.{◌≡◌, List, [], ◌∷◌, map, Result, Ok, Err, refl, sym, ap, subst, ◌∙◌}
use Rattle.std.specs.Prelude.{IfOk}
use Rattle.wg_tree.specs.declared.expr.Expr.{Expr, fold-roll-Expr}
use Rattle.wg_tree.specs.declared.expr.Expr.TheOpen.{Expr-F}
use Rattle.wg_tree.specs.declared.expr.Expr.TheVariants as expr
use Rattle.wg_tree.specs.declared.expr.Link.{Link, fold-Link, fold_out-Link}
use Rattle.wg_typing.specs.Layers.{map_link}
use Rattle.wg_typing.specs.Scope.{Context}
use Rattle.wg_typing.specs.TypingExpr.{ExprForm, part, part_of, sites_of, sites_of_value, value_sites, links_sites, expr_form, expr_seen, layer_part, form_seen}
use Rattle.wg_typing.specs.TypingExpr as t
use Rattle.wg_typing.specs.declared.part.FormLayer.{FormLayer}
use Rattle.wg_typing.specs.TypingOperators.{typed_of}
use Rattle.wg_typing.specs.declared.part.LinkLayer.{LinkLayer}
use Rattle.wg_typing.specs.declared.part.Part.{Part}
use Rattle.wg_notes.specs.Notes.{Gives, noted}
use Rattle.wg_notes.specs.declared.notes.Note.{Note}
use Rattle.wg_series.specs.Series.{series, series_begun, series_of}
use Rattle.wg_series.specs.declared.chains.Series.{Series}
use Rattle.wg_walk.specs.Walk.{link_seen, links_seen}

each_link : (c : Context) (rest : List Link) → map (fold-Link ExprForm (FormLayer ExprForm) (LinkLayer ExprForm) (expr_seen c) form_seen t.link_seen) rest ≡ links_seen c rest
each_link c [] = refl
each_link c (l ∷ rest) =
    ap (λ x. x ∷ map (fold-Link ExprForm (FormLayer ExprForm) (LinkLayer ExprForm) (expr_seen c) form_seen t.link_seen) rest) (fold_out-Link ExprForm (FormLayer ExprForm) (LinkLayer ExprForm) (expr_seen c) form_seen t.link_seen l)
    ∙ ap (λ xs. link_seen c l ∷ xs) (each_link c rest)

fold_chain : (c : Context) (first : Expr) (rest : List Link) → expr_form c (expr.Chain first rest) ≡ expr_seen c (Expr-F.Chain (expr_form c first) (links_seen c rest))
fold_chain c first rest =
    ap (expr_form c) (sym (expr.rolls-Chain first rest))
    ∙ fold-roll-Expr ExprForm (FormLayer ExprForm) (LinkLayer ExprForm) (expr_seen c) form_seen t.link_seen (Expr-F.Chain first rest)
    ∙ ap (λ ls. expr_seen c (Expr-F.Chain (expr_form c first) ls)) (each_link c rest)

abbrev links_of : Context → List Link → List (LinkLayer Part)
links_of c rest = map (map_link part_of) (links_seen c rest)

-- the notes with those of a first operand and of the operators after it
abbrev both : Context → Expr → List Link → List Note → List Note
both c first rest old = noted (links_sites c.around (part c first).place (typed_of (part c first)) (links_seen c rest)) (noted (sites_of_value c first) old)

chain_leaves : {E : Type 0} (c : Context) (first : Expr) (rest : List Link) (s : Series) (result : Result Part E) (old two : List Note)
    → s ≡ series_of (part c first) (links_of c rest) → two ≡ both c first rest old
    → IfOk result (λ r. (first : Part) (rest : List (LinkLayer Part)) → s ≡ series_of first rest → r ≡ layer_part c (Expr-F.Chain first rest))
    → Gives (part c (expr.Chain first rest)) (sites_of c (expr.Chain first rest)) result old two
chain_leaves c first rest s (Ok r) old two is notes h =
    (h (part c first) (links_of c rest) is ∙ sym (ap (λ (f : ExprForm). f.part) (fold_chain c first rest)), notes ∙ sym (ap (λ (f : ExprForm). noted f.sites old) (fold_chain c first rest)))
chain_leaves c first rest s (Err e) old two is notes h = tt

series_is : (c : Context) (first inner : Expr) (rest : List Link) (p : Part) (begun s : Series)
    → inner ≡ first → p ≡ part c inner → begun ≡ series_begun p → s ≡ series begun (links_of c rest) → s ≡ series_of (part c first) (links_of c rest)
series_is c first inner rest p begun s same is starts ends = ends ∙ ap (λ b. series b (links_of c rest)) (starts ∙ ap series_begun (is ∙ ap (part c) same))

notes_are : (c : Context) (first inner : Expr) (rest : List Link) (p : Part) (begun : Series) (old one two : List Note)
    → inner ≡ first → p ≡ part c inner → begun ≡ series_begun p → one ≡ noted (sites_of_value c inner) old
    → two ≡ noted (links_sites c.around begun.place begun.chained.of (links_seen c rest)) one → two ≡ both c first rest old
notes_are c first inner rest p begun old one two same is starts here there =
    there
    ∙ ap (λ (b : Series). noted (links_sites c.around b.place b.chained.of (links_seen c rest)) one) (starts ∙ ap series_begun (is ∙ ap (part c) same))
    ∙ ap (λ n. noted (links_sites c.around (part c first).place (typed_of (part c first)) (links_seen c rest)) n) (here ∙ ap (λ e. noted (sites_of_value c e) old) same)

pub chain_gives : {E : Type 0} (c : Context) (e first inner : Expr) (rest : List Link) (p : Part) (begun s : Series) (result : Result Part E) (old one two : List Note)
    → e ≡ expr.Chain first rest → inner ≡ first → (p ≡ part c inner) × (one ≡ noted (sites_of_value c inner) old) → begun ≡ series_begun p
    → (s ≡ series begun (links_of c rest)) × (two ≡ noted (links_sites c.around begun.place begun.chained.of (links_seen c rest)) one)
    → IfOk result (λ r. (first : Part) (rest : List (LinkLayer Part)) → s ≡ series_of first rest → r ≡ layer_part c (Expr-F.Chain first rest))
    → Gives (part c e) (sites_of c e) result old two
chain_gives c e first inner rest p begun s result old one two q same operand starts links h =
    subst (λ e. Gives (part c e) (sites_of c e) result old two) (sym q)
    (chain_leaves c first rest s result old two (series_is c first inner rest p begun s same operand.0 starts links.0) (notes_are c first inner rest p begun old one two same operand.0 starts operand.1 links.1) h)
