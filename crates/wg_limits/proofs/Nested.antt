-- The typed form of a text nests no deeper than the text.
use Rattle.std.proofs.Common.{◌≡◌, ◌≤◌, ℕ, List, [], ◌∷◌, map, Option, Some, refl, sym, ap, ◌∙◌, subst, arith}
use Rattle.std.proofs.Math.Nat.{max-le}
use Rattle.wg_typing.specs.Maybe.{all_of}
use Rattle.wg_typing.specs.Typing.{typed}
use Rattle.wg_typing.specs.TypingFunction.{body_context, body_sites, function_setting, head_context, parameter_context, function_head, function_tree}
use Rattle.wg_typing.specs.TypingStmt.{block_after, block_trees, walked}
use Rattle.wg_typing.specs.TypingText.{no_text, items_after}
use Rattle.wg_typing.specs.Scope.{Context}
use Rattle.wg_tree.specs.declared.expr.Named.{Named}
use Rattle.wg_tree.specs.declared.item.Parameter.{Parameter}
use Rattle.wg_tree.specs.declared.stmt.Attribute.{Attribute}
use Rattle.wg_tree.specs.declared.stmt.Stmt.{Stmt}
use Rattle.wg_tree.specs.declared.item.Item.{Item}
use Rattle.wg_tree.specs.declared.item.Item.TheVariants as item
use Rattle.wg_tree.specs.declared.item.Source.{Source}
use Rattle.wg_typed.specs.declared.typed.Typed.{Typed}
use Rattle.wg_typed.specs.declared.typed.TypedFunction.{TypedFunction}
use Rattle.wg_facts.proofs.Basics.{If, if_then, if_was, some_value, then_some, all_first}
use Rattle.wg_limits.specs.Branches.{most, branch_measure, item_branches, source_branches, text_branches}
use Rattle.wg_limits.specs.Levels.{depth_of, typed_step, typed_level, typed_depth, text_depth, source_level, body_levels, item_depth, source_depth}
use Rattle.wg_limits.specs.Measure.{of_body}
use Rattle.wg_limits.proofs.Parts.{Bound}
use Rattle.wg_limits.proofs.Exprs.{first_most, second_most}
use Rattle.wg_limits.proofs.Depths.{block_at, all_at}
use Rattle.wg_limits.proofs.Marks.{Unmarked, body_same}
use Rattle.wg_limits.proofs.Functions.{body_stands, structs_any, names_any, known_any, function_below, AllFunctions, FunctionHolds, AllHold, items_hold}

-- ---- typed functions

abbrev EachFunction : (TypedFunction → Type 0) → List TypedFunction → Type 0
EachFunction p [] = Unit {0}
EachFunction p (f ∷ rest) = p f × EachFunction p rest

each_there : (p : TypedFunction → Type 0) (os : List (Option TypedFunction)) (fs : List TypedFunction) → all_of os ≡ Some fs → AllFunctions p os → EachFunction p fs
each_there p [] fs e h = subst (EachFunction p) (some_value e) tt
each_there p (o ∷ os) fs e h =
    let f = all_first o os fs e in
    subst (EachFunction p) (sym f.2.2) (subst (If p) f.1 h.0, each_there p os f.2.0 f.2.1 h.1)

most_of : (n : TypedFunction → ℕ) (b : ℕ) (fs : List TypedFunction) → EachFunction (λ f. n f ≤ b) fs → most (map n fs) ≤ b
most_of n b [] h = omega arith
most_of n b (f ∷ fs) h = max-le h.0 (most_of n b fs h.1)

-- what is at most a bound in each function of a text
all_most : (n : TypedFunction → ℕ) (b : ℕ) (tree : Source) (t : Typed) → typed tree ≡ Some t → AllHold (λ f. n f ≤ b) tree.items → most (map n t.functions) ≤ b
all_most n b tree t e h =
    let x = items_after no_text tree.items in
    let p = then_some (all_of x.buffers) _ t e in
    let q = then_some (all_of x.shared) _ t p.2 in
    let r = then_some (all_of x.functions) _ t q.2 in
    let functions : all_of x.functions ≡ Some t.functions = r.1 ∙ ap (λ (y : Typed). Some y.functions) (some_value r.2) in
    most_of n b t.functions (each_there (λ f. n f ≤ b) x.functions t.functions functions (items_hold (λ f. n f ≤ b) tree.items no_text h tt))

-- ---- parts of expressions

abbrev branch_bound : Bound
branch_bound = record {
  carrier = ℕ;
  measure = branch_measure;
  Below = λ n b. n ≤ b;
  none = λ b. omega arith;
  join = λ x y b h i. max-le h i;
  branch = λ x b h. omega (arith, h);
  Sized = λ n. Unit {0};
  two = tt;
  three = tt;
  four = tt;
  of = λ t b f. omega arith;
  Wrote = λ v. Unit {0};
  first = λ x y o. tt;
  second = λ x y o. tt;
  written = λ n o. tt;
  Word = λ n. Unit {0};
  word = λ n e. tt;
  high = λ n o. tt;
  literal = λ words b h. omega arith;
  Known = λ chain. Unit {0};
}

abbrev BranchesWithin : ℕ → TypedFunction → Type 0
BranchesWithin b f = of_body branch_measure f.body ≤ b

branches_hold : (items : List Item) (b : ℕ) → most (map item_branches items) ≤ b → AllHold (BranchesWithin b) items
branches_hold [] b h = tt
branches_hold (i ∷ rest) b h = (by_item i (first_most (item_branches i) _ b h), branches_hold rest b (second_most (item_branches i) _ b h))
  where
    by_item : (i : Item) → item_branches i ≤ b → FunctionHolds (BranchesWithin b) i
    by_item (item.Struct place attributes name fields) h = tt
    by_item (item.Buffer coherent of name registers) h = tt
    by_item (item.Shared place of name size) h = tt
    by_item (item.Constant place of name e) h = tt
    by_item (item.Function attributes result name parameters place body) h = λ x.
        let c = parameter_context x attributes result name parameters in
        function_below branch_bound (head_context x parameters) c attributes name parameters body b
        (body_stands branch_bound x attributes result name parameters (names_any branch_bound (λ n. tt) (λ n. tt) (λ number chain known few n. omega arith) x.names) (structs_any branch_bound (λ n. tt) x.structs) tt tt)
        h tt (known_any branch_bound (λ n. tt) (body_sites (body_context c parameters) body))

pub branches_within : (tree : Source) (t : Typed) → typed tree ≡ Some t → text_branches t ≤ source_branches tree
branches_within tree t e = all_most (λ f. of_body branch_measure f.body) (source_branches tree) tree t e (branches_hold tree.items (source_branches tree) (omega arith))

-- ---- statements

levels_unmarked : Unmarked typed_step
levels_unmarked = record { same = λ attributes marked test first other. refl }

abbrev DepthWithin : ℕ → TypedFunction → Type 0
DepthWithin b f = typed_depth f.body ≤ b

function_depth : (outer c : Context) (attributes : List Attribute) (name : Named) (parameters : List Parameter) (body : List Stmt) (b : ℕ) → body_levels body ≤ b → If (DepthWithin b) (function_tree outer c attributes name parameters body)
function_depth outer c attributes name parameters body b h = if_was (DepthWithin b) (function_head c parameters) _ (λ head e.
    if_then (λ ss. map typed_level ss ≡ map source_level body) (DepthWithin b) (block_trees (map walked body) (body_context c parameters)) _ (block_at _ (map walked body) (body_context c parameters) (all_at body)) (λ ss i.
    if_was (DepthWithin b) (all_of (block_after (map walked body) (body_context c parameters)).handles) _ (λ hs g.
    subst (λ xs. most (map depth_of xs) ≤ b) (sym (body_same typed_step levels_unmarked (function_setting c parameters body) c.around ss ∙ i)) h)))

depths_hold : (items : List Item) (b : ℕ) → most (map item_depth items) ≤ b → AllHold (DepthWithin b) items
depths_hold [] b h = tt
depths_hold (i ∷ rest) b h = (by_item i (first_most (item_depth i) _ b h), depths_hold rest b (second_most (item_depth i) _ b h))
  where
    by_item : (i : Item) → item_depth i ≤ b → FunctionHolds (DepthWithin b) i
    by_item (item.Struct place attributes name fields) h = tt
    by_item (item.Buffer coherent of name registers) h = tt
    by_item (item.Shared place of name size) h = tt
    by_item (item.Constant place of name e) h = tt
    by_item (item.Function attributes result name parameters place body) h = λ x. function_depth (head_context x parameters) (parameter_context x attributes result name parameters) attributes name parameters body b h

pub depth_within : (tree : Source) (t : Typed) → typed tree ≡ Some t → text_depth t ≤ source_depth tree
depth_within tree t e = all_most (λ f. typed_depth f.body) (source_depth tree) tree t e (depths_hold tree.items (source_depth tree) (omega arith))
