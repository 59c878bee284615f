-- A chain, operator by operator, is the chain of the definitions.
use Rattle.std.proofs.Common.{◌≡◌, Bool, true, false, ◌&&◌, ◌||◌, if◌then◌else◌, List, [], ◌∷◌, ◌++◌, Option, Some, None, refl, sym, ap, ◌∙◌, append_assoc, append-nil}
use Rattle.wg_words.specs.declared.place.Place.{Place}
use Rattle.wg_words.specs.Maybe.{◌>>=◌}
use Rattle.wg_tree.specs.declared.expr.Expr.TheOpen.{Expr-F}
use Rattle.wg_typed.specs.declared.types.TypeTree.{TypeTree}
use Rattle.wg_typed.specs.declared.typed_expr.TypedKind.TheVariants as tree
use Rattle.wg_typed.specs.declared.typed_expr.TypedLink.{TypedLink}
use Rattle.wg_typing.specs.Layers.{fixed, typed_part}
use Rattle.wg_typing.specs.Scope.{Context}
use Rattle.wg_typing.specs.TypingBarrier.{any_flag}
use Rattle.wg_typing.specs.TypingExpr.{layer_part}
use Rattle.wg_typing.specs.TypingFlags as f
use Rattle.wg_typing.specs.TypingOperators.{run_on, run_type, chain_type, chain_links, chain_value}
use Rattle.wg_typing.specs.declared.part.LinkLayer.{LinkLayer}
use Rattle.wg_typing.specs.declared.part.Part.{Part}
use Rattle.wg_typing.specs.declared.part.TypedPart.{TypedPart}
use Rattle.wg_typing.specs.declared.scope.Value.{Value}
use Rattle.wg_operators.specs.Operators.{begun, chained, linked, ended}
use Rattle.wg_operators.specs.declared.chains.Run.{Run}
use Rattle.wg_series.specs.Series.{series, series_begun, series_on, series_of, series_part, chain_pieces}
use Rattle.wg_series.specs.declared.chains.Series.{Series}

-- ---- what its operators give

-- these links after those that stand already
abbrev whole : Place → Run → Option (List TypedLink) → Option TypeTree → Option Value
whole place r links of = links >>= (λ links. of >>= (λ of. fixed place of (tree.Chain r.first (r.links ++ links))))

no_type : (rest : List (LinkLayer Part)) → chain_type None rest ≡ None
no_type [] = refl
no_type (l ∷ rest) = no_type rest

no_whole : (place : Place) (r : Run) (links : Option (List TypedLink)) → whole place r links None ≡ None
no_whole place r None = refl
no_whole place r (Some links) = refl

no_run : (place : Place) (rest : List (LinkLayer Part)) (of : Option TypeTree) → ended place (chained (record { of = of; run = None }) rest).run ≡ None
no_run place [] of = refl
no_run place (l ∷ rest) of = no_run place rest _

one_more : (place : Place) (r : Run) (k : TypedLink) (t : TypeTree) (links : Option (List TypedLink)) (of : Option TypeTree)
    → whole place (record { first = r.first; links = r.links ++ k ∷ []; of = t }) links of ≡ whole place r (links >>= (λ others. Some (k ∷ others))) of
one_more place r k t None of = refl
one_more place r k t (Some links) of = ap (λ l. of >>= (λ of. fixed place of (tree.Chain r.first l))) (append_assoc r.links (k ∷ []) links)

run_goes_on : (place : Place) (r : Run) (rest : List (LinkLayer Part)) (link : Option TypedLink) (of : Option TypeTree)
    → ((r : Run) → ended place (chained (record { of = Some r.of; run = Some r }) rest).run ≡ whole place r (chain_links (Some r.of) rest) (chain_type (Some r.of) rest))
    → ended place (chained (record { of = of; run = linked r link of }) rest).run ≡ whole place r (link >>= (λ first. chain_links of rest >>= (λ others. Some (first ∷ others)))) (chain_type of rest)
run_goes_on place r rest None of ih = no_run place rest of
run_goes_on place r rest (Some k) None ih = no_run place rest None ∙ sym (ap (λ o. whole place r (chain_links None rest >>= (λ others. Some (k ∷ others))) o) (no_type rest) ∙ no_whole place r _)
run_goes_on place r rest (Some k) (Some t) ih = ih (record { first = r.first; links = r.links ++ k ∷ []; of = t }) ∙ one_more place r k t (chain_links (Some t) rest) (chain_type (Some t) rest)

run_is : (place : Place) (rest : List (LinkLayer Part)) (r : Run) → ended place (chained (record { of = Some r.of; run = Some r }) rest).run ≡ whole place r (chain_links (Some r.of) rest) (chain_type (Some r.of) rest)
run_is place [] r = ap (λ l. fixed place r.of (tree.Chain r.first l)) (sym (append-nil r.links))
run_is place (l ∷ rest) r = run_goes_on place r rest (run_on r.of l) (run_type r.of l) (run_is place rest)

begun_value : (place : Place) (rest : List (LinkLayer Part)) (o : Option TypedPart)
    → ended place (chained (begun o) rest).run ≡ (o >>= (λ t. chain_links (Some t.of) rest >>= (λ links. chain_type (Some t.of) rest >>= (λ of. fixed place of (tree.Chain t.tree links)))))
begun_value place rest None = no_run place rest None
begun_value place rest (Some t) = run_is place rest (record { first = t.tree; links = []; of = t.of })

value_is : (place : Place) (first : Part) (rest : List (LinkLayer Part)) → ended place (chained (begun (typed_part first)) rest).run ≡ chain_value place first rest
value_is place first rest = begun_value place rest (typed_part first)

-- ---- the whole state

abbrev on_all : Series → List (LinkLayer Part) → Series
on_all s rest = record { place = s.place; chained = chained s.chained rest; pieces = s.pieces ++ f.linked_pieces rest; joined = s.joined && f.all_or rest }

and_assoc : (a b c : Bool) → (a && b) && c ≡ a && (b && c)
and_assoc true b c = refl
and_assoc false b c = refl

and_true : (a : Bool) → a ≡ a && true
and_true true = refl
and_true false = refl

series_is : (rest : List (LinkLayer Part)) (s : Series) → series s rest ≡ on_all s rest
series_is [] s = ap (λ l. record s { pieces = l }) (sym (append-nil s.pieces)) ∙ ap (λ b. record { place = s.place; chained = s.chained; pieces = s.pieces ++ []; joined = b }) (and_true s.joined)
series_is (l ∷ rest) s =
    series_is rest (series_on s l.operator l.operand)
    ∙ ap (λ p. record { place = s.place; chained = chained s.chained (l ∷ rest); pieces = p; joined = (s.joined && f.is_or l.operator) && f.all_or rest }) (append_assoc s.pieces l.operand.pieces (f.linked_pieces rest))
    ∙ ap (λ b. record { place = s.place; chained = chained s.chained (l ∷ rest); pieces = s.pieces ++ (l.operand.pieces ++ f.linked_pieces rest); joined = b }) (and_assoc s.joined (f.is_or l.operator) (f.all_or rest))

-- ---- what it is to a barrier

pieces_are : (c : Context) (v : Option Value) (first : Part) (rest : List (LinkLayer Part)) (joined flags : Bool)
    → (if joined then first.pieces ++ f.linked_pieces rest else (if flags then f.chain_pieces false first rest else f.another v)) ≡ (if joined || flags then f.chain_pieces joined first rest else f.another v)
pieces_are c v first rest true flags = refl
pieces_are c v first rest false true = refl
pieces_are c v first rest false false = refl

all_is : (c : Context) (first : Part) (rest : List (LinkLayer Part)) → series_part c (on_all (series_begun first) rest) ≡ layer_part c (Expr-F.Chain first rest)
all_is c first rest =
    ap (λ v. record { place = first.place; value = v; by_name = None; pieces = chain_pieces c v (f.all_or rest) (first.pieces ++ f.linked_pieces rest) }) (value_is first.place first rest)
    ∙ ap (λ p. record { place = first.place; value = chain_value first.place first rest; by_name = None; pieces = p }) (pieces_are c (chain_value first.place first rest) first rest (f.all_or rest) (any_flag c (first.pieces ++ f.linked_pieces rest)))

pub chain_is : (c : Context) (s : Series) (first : Part) (rest : List (LinkLayer Part)) → s ≡ series_of first rest → series_part c s ≡ layer_part c (Expr-F.Chain first rest)
chain_is c s first rest q = ap (series_part c) (q ∙ series_is rest (series_begun first)) ∙ all_is c first rest
