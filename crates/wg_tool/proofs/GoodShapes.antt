-- The shape of a graph of the first form is a good one.
use Rattle.std.proofs.Common.{◌≡◌, ℕ, zero, suc, ◌+◌, ◌<◌, ◌≤◌, Bool, true, false, List, [], ◌∷◌, ◌++◌, length, Option, Some, None, refl, ap, sym, ◌∙◌, subst, arith, inr, get_or}
use Rattle.std.specs.Prelude.{IsTrue, ◌&&◌, ◌||◌, ◌==◌, nat_lt, map, slice_get, unwrap_or, if◌then◌else◌}
use Rattle.std.specs.Option.{option_map}
use Rattle.std.specs.List.{list_any, list_all, position}
use Rattle.std.specs.Char.{is_ascii_lowercase, is_ascii_uppercase}
use Rattle.std.specs.Str.{bytes_eq}
use Rattle.std.proofs.lemmas.Bool.Decides.{nat_tests}
use Rattle.std.proofs.lemmas.Slice.Eq.{bytes_eq-Decides}
use Rattle.std.proofs.lemmas.List.{length-map}
use Rattle.std.proofs.lemmas.List.Quantifiers.{position-Some}
use Rattle.std.proofs.lemmas.Option.{slice_get_within, none-some, slice_get-get_or}
use Rattle.wg_words.specs.Characters.{is_identifier, is_letter, is_word}
use Rattle.wg_words.specs.Each.{Each}
use Rattle.wg_machine.specs.declared.shape.NodeName.{NodeName}
use Rattle.wg_machine.specs.declared.shape.Output.{Output}
use Rattle.wg_machine.specs.declared.shape.Shape.{Shape}
use Rattle.wg_machine.specs.declared.shape.Unit.{Unit}
use Rattle.wg_machine.specs.GoodShape.{IsGoodShape, IsGoodUnit, IsGoodOutput, IsGoodTarget, IsBetween, IsAlike}
use Rattle.wg_machine.specs.Unrolling.{depth_of, node_at, IsFirst, node_and_level, unrolled}
use Rattle.wg_machine.specs.Units.{shared_at}
use Rattle.wg_tool.specs.declared.pair.Pair.{Pair}
use Rattle.wg_tool.specs.declared.pair.Sends.{Sends}
use Rattle.wg_tool.specs.Parts.{is_name}
use Rattle.wg_tool.specs.FirstForm.{IsGoodPair, IsFirstForm, is_named, names_differ}
use Rattle.wg_tool.specs.Wiring.{unit_of, later_units, units_of, goes_later, are_later, target_in, targets_from, targets_of, budgets_of, outputs_of, node_of, shape_of}
use Rattle.wg_tool.specs.Sending.{target_at}
use Rattle.wg_tool.specs.SenderLaws.{SendsTo, IsWired}
use Rattle.wg_tool.proofs.FormLemmas.{true_is_not_false}
use Rattle.wg_tool.proofs.PartLemmas.{and_both, both_and}
use Rattle.wg_tool.proofs.ShapeLemmas.{unit_sends, are_deep, deep_at, unit_at, length_units, deeper_than, later_at, shallow_units}

-- a shape of these units
abbrev pub wired : List NodeName → List (Option ℕ) → Shape
wired nodes ts = record { nodes = nodes; units = units_of ts; buffers = [] }

pub each_at : {A : Type 0} → (P : A → Type 0) (xs : List A) (i : ℕ) (x : A) → Each P xs → slice_get xs i ≡ Some x → P x
each_at P [] i x all e = absurd (none-some x e)
each_at P (y ∷ xs) zero x all e = let same : y ≡ x = cc in subst P same all.0
each_at P (y ∷ xs) (suc i) x all e = each_at P xs i x all.1 e

no_unit : Unit
no_unit = unit_of [] 0 0 None

-- the unit of each number
pub unit_there : (ts : List (Option ℕ)) (k : ℕ) → k < length ts → (u : Unit) × (slice_get (units_of ts) k ≡ Some u)
unit_there ts k h = let l = length_units ts [] 0 ts in (get_or (units_of ts) k no_unit, slice_get-get_or (units_of ts) k no_unit (omega arith))

node_is : (nodes : List NodeName) (ts : List (Option ℕ)) (k : ℕ) → k < length ts → node_at (wired nodes ts) k ≡ k
node_is nodes ts k h =
    let u = unit_there ts k h in
    let i = unit_at ts [] 0 k ts u.0 u.1 in
    let node : u.0.node ≡ 0 + k = ap (λ (x : Unit). x.node) i.is in
    let there : node_at (wired nodes ts) k ≡ u.0.node = ap (λ (o : Option Unit). unwrap_or (option_map (λ (n : Unit). n.node) o) 0) u.1 in
    omega arith

first_is : (nodes : List NodeName) (ts : List (Option ℕ)) (k : ℕ) → k < length ts → IsFirst (wired nodes ts) k
first_is nodes ts k h = λ v less e.
    let a = node_is nodes ts k h in
    let b = node_is nodes ts v (omega arith) in
    omega arith

same_number : (t : ℕ) → (t == t) ≡ true
same_number t = grind (arith, nat_tests)

good_target : (nodes : List NodeName) (ts : List (Option ℕ)) (k d t : ℕ) (o : Output) → IsTrue (are_later (length ts) 0 ts) → slice_get ts k ≡ Some (Some t) → o.words ≡ 1 → slice_get (units_of ts) k ≡ Some (unit_of ts k d (Some t)) → IsGoodTarget (wired nodes ts) (unit_of ts k d (Some t)) o t
good_target nodes ts k d t o later at words e =
    let u = unit_of ts k d (Some t) in
    let far = later_at (length ts) 0 k ts t later at in
    let low = far.0 in
    let high = far.1 in
    let v = unit_there ts t high in
    let i = unit_at ts [] 0 t ts v.0 v.1 in
    let depth : v.0.depth ≡ depth_of (units_of ts) (0 + t) = deep_at (units_of ts) 0 t (units_of ts) v.0 (are_deep (length ts) 0 ts [] ts later) v.1 in
    let deep : u.depth < depth_of (units_of ts) t = deeper_than (units_of ts) k t u e (unit_sends ts k d t (Some t) ∙ same_number t) in
    let z : 0 + t ≡ t = omega arith in
    let there : v.0.depth ≡ depth_of (units_of ts) t = depth ∙ ap (λ (n : ℕ). depth_of (units_of ts) n) z in
    let node : v.0.node ≡ 0 + t = ap (λ (x : Unit). x.node) i.is in
    let one : v.0.words ≡ 1 = ap (λ (x : Unit). x.words) i.is in
    record {
      target = v.0;
      there = v.1;
      deeper = omega arith;
      words = one ∙ sym words;
      place = inr ((λ same. omega arith), first_is nodes ts t high);
    }

good_outputs : (nodes : List NodeName) (ts : List (Option ℕ)) (k d : ℕ) (t : Option ℕ) → IsTrue (are_later (length ts) 0 ts) → slice_get ts k ≡ Some t → slice_get (units_of ts) k ≡ Some (unit_of ts k d t) → Each (IsGoodOutput (wired nodes ts) (unit_of ts k d t)) (outputs_of t)
good_outputs nodes ts k d None later at e = tt
good_outputs nodes ts k d (Some t) later at e = (
  record {
    budget = omega arith;
    words = omega arith;
    count = record { low = omega arith; high = omega arith };
    elements = (good_target nodes ts k d t (record { budget = 0; words = 1; elements = Some t ∷ [] }) later at refl e, tt);
  },
  tt,
)

good_budgets : (t : Option ℕ) → Each (IsBetween 1 256) (budgets_of t)
good_budgets None = tt
good_budgets (Some t) = (record { low = omega arith; high = omega arith }, tt)

few_outputs : (t : Option ℕ) → length (outputs_of t) ≤ 64
few_outputs None = omega arith
few_outputs (Some t) = omega arith

good_unit_of : (nodes : List NodeName) (ts : List (Option ℕ)) (k d : ℕ) (t : Option ℕ) → length ts ≤ 32 → IsTrue (are_later (length ts) 0 ts) → slice_get ts k ≡ Some t → slice_get (units_of ts) k ≡ Some (unit_of ts k d t) → IsGoodUnit (wired nodes ts) k (unit_of ts k d t)
good_unit_of nodes ts k d t few later at e =
    let u = unit_of ts k d t in
    let inside = slice_get_within ts k t at in
    let depth : u.depth ≡ depth_of (units_of ts) (0 + k) = deep_at (units_of ts) 0 k (units_of ts) u (are_deep (length ts) 0 ts [] ts later) e in
    let z : 0 + k ≡ k = omega arith in
    let shallow : u.depth ≤ 32 = each_at (λ (x : Unit). x.depth ≤ 32) (units_of ts) k u (shallow_units ts [] 0 32 ts tt (omega arith)) e in
    record {
      depth = depth ∙ ap (λ (n : ℕ). depth_of (units_of ts) n) z;
      chain = shallow;
      words = omega arith;
      stride = refl;
      kind = tt;
      entry = λ yes. first_is nodes ts k inside;
      budgets = good_budgets t;
      few_outputs = few_outputs t;
      outputs = good_outputs nodes ts k d t later at e;
      bools = tt;
      shared = λ yes. absurd (cc);
    }

good_unit : (nodes : List NodeName) (ts : List (Option ℕ)) → length ts ≤ 32 → IsTrue (are_later (length ts) 0 ts) → (k : ℕ) (u : Unit) → slice_get (units_of ts) k ≡ Some u → IsGoodUnit (wired nodes ts) k u
good_unit nodes ts few later k u e =
    let i = unit_at ts [] 0 k ts u e in
    let z : 0 + k ≡ k = omega arith in
    let is : u ≡ unit_of ts k i.depth i.target = i.is ∙ ap (λ (n : ℕ). unit_of ts n i.depth i.target) z in
    subst (λ (x : Unit). IsGoodUnit (wired nodes ts) k x) (sym is) (good_unit_of nodes ts k i.depth i.target few later i.at (e ∙ ap (λ (x : Unit). Some x) is))

alike_self : (a : Unit) → IsAlike a a
alike_self a = record { words = refl; kind = refl; budgets = refl; bools = refl; shared = refl; outputs = refl }

good_alike : (ts : List (Option ℕ)) (i j : ℕ) (a b : Unit) → slice_get (units_of ts) i ≡ Some a → slice_get (units_of ts) j ≡ Some b → a.node ≡ b.node → IsAlike a b
good_alike ts i j a b p q e =
    let x = unit_at ts [] 0 i ts a p in
    let y = unit_at ts [] 0 j ts b q in
    let first : a.node ≡ 0 + i = ap (λ (u : Unit). u.node) x.is in
    let second : b.node ≡ 0 + j = ap (λ (u : Unit). u.node) y.is in
    let same : j ≡ i = omega arith in
    let there : slice_get (units_of ts) i ≡ Some b = subst (λ (n : ℕ). slice_get (units_of ts) n ≡ Some b) same q in
    let one : a ≡ b = cc in
    subst (λ (u : Unit). IsAlike a u) one (alike_self a)

levels_are : (all : List (Option ℕ)) (built : List Unit) (k : ℕ) (ts : List (Option ℕ)) (pairs : List Pair) → length ts ≡ length pairs → map node_and_level (later_units all built k ts) ≡ unrolled k (map (λ (p : Pair). 0) pairs)
levels_are all built k [] [] h = refl
levels_are all built k [] (p ∷ pairs) h = absurd (omega arith)
levels_are all built k (t ∷ ts) [] h = absurd (omega arith)
levels_are all built k (t ∷ ts) (p ∷ pairs) h =
    ap (λ (l : List (ℕ × ℕ)). (k, 0) ∷ l) (levels_are all (built ++ unit_of all k (depth_of built k) t ∷ []) (k + 1) ts pairs (omega arith))

zeros_few : (pairs : List Pair) → Each (λ d. d ≤ 31) (map (λ (p : Pair). 0) pairs)
zeros_few [] = tt
zeros_few (p ∷ pairs) = (omega arith, zeros_few pairs)

pub length_targets : (k : ℕ) (pairs : List Pair) → length (targets_from k pairs) ≡ length pairs
length_targets k [] = refl
length_targets k (p ∷ pairs) = let h = length_targets (k + 1) pairs in omega (arith, h)

-- each target is a later pair
pub targets_later : (n k : ℕ) (pairs : List Pair) → k + length pairs ≡ n → IsTrue (are_later n k (targets_from k pairs))
targets_later n k [] e = refl
targets_later n k (p ∷ pairs) e =
    both_and (goes_later n k (target_in (k + 1) p.sends pairs)) (are_later n (k + 1) (targets_from (k + 1) pairs)) (goes p.sends) (targets_later n (k + 1) pairs (omega arith))
  where
    found : (name : List ℕ) (o : Option ℕ) → position (is_named name) pairs ≡ o → IsTrue (goes_later n k (option_map (λ i. k + 1 + i) o))
    found name None h = refl
    found name (Some i) h = let s = (position-Some (is_named name) pairs i p h).0 in both_and (nat_lt k (k + 1 + i)) (nat_lt (k + 1 + i) n) (grind (arith, nat_tests)) (grind (arith, nat_tests))

    goes : (s : Option Sends) → IsTrue (goes_later n k (target_in (k + 1) s pairs))
    goes None = refl
    goes (Some s) = found s.target (position (is_named s.target) pairs) refl

upper_letter : (c : ℕ) → IsTrue (is_ascii_uppercase c) → IsTrue (is_letter c)
upper_letter c h = grind (arith, nat_tests)

lower_letters : (cs : List ℕ) → IsTrue (list_all is_ascii_lowercase cs) → IsTrue (list_all is_word cs)
lower_letters [] h = refl
lower_letters (c ∷ cs) h =
    let parts = and_both (is_ascii_lowercase c) (list_all is_ascii_lowercase cs) h in
    let low = parts.0 in
    both_and (is_word c) (list_all is_word cs) (grind (arith, nat_tests)) (lower_letters cs parts.1)

name_identifier : (name : List ℕ) → IsTrue (is_name name) → IsTrue (is_identifier name)
name_identifier [] h = absurd (cc)
name_identifier (c ∷ []) h = absurd (cc)
name_identifier (c ∷ d ∷ cs) h =
    let parts = and_both (is_ascii_uppercase c) (list_all is_ascii_lowercase (d ∷ cs)) h in
    both_and (is_letter c) (list_all is_word (d ∷ cs)) (upper_letter c parts.0) (lower_letters (d ∷ cs) parts.1)

good_names : (pairs : List Pair) → Each IsGoodPair pairs → Each (λ (n : NodeName). IsTrue (is_identifier n.name)) (map node_of pairs)
good_names [] all = tt
good_names (p ∷ pairs) all = (name_identifier p.name all.0.name, good_names pairs all.1)

pub same_bytes : (a b : List ℕ) → a ≡ b → bytes_eq a b ≡ true
same_bytes a b e = (bytes_eq-Decides a b).1 e

named_in : (pairs : List Pair) (j : ℕ) (n : NodeName) → slice_get (map node_of pairs) j ≡ Some n → IsTrue (list_any (is_named n.name) pairs)
named_in [] j n e = absurd (none-some n e)
named_in (p ∷ pairs) zero n e =
    let same : node_of p ≡ n = cc in
    let name : p.name ≡ n.name = ap (λ (x : NodeName). x.name) same in
    rw (same_bytes p.name n.name name) refl
named_in (p ∷ pairs) (suc j) n e = either (is_named n.name p) (list_any (is_named n.name) pairs) (named_in pairs j n e)
  where
    either : (a b : Bool) → IsTrue b → IsTrue (a || b)
    either true b h = refl
    either false b h = h

differ_parts : (p : Pair) (pairs : List Pair) → IsTrue (names_differ (p ∷ pairs)) → (list_any (is_named p.name) pairs ≡ false) × IsTrue (names_differ pairs)
differ_parts p pairs h = choice (list_any (is_named p.name) pairs) (names_differ pairs) h
  where
    choice : (a b : Bool) → IsTrue ((if a then false else true) && b) → (a ≡ false) × IsTrue b
    choice true b h = absurd (true_is_not_false (sym h))
    choice false b h = (refl, h)

not_again : (p : Pair) (pairs : List Pair) (j : ℕ) (n : NodeName) → IsTrue (names_differ (p ∷ pairs)) → node_of p ≡ n → slice_get (map node_of pairs) j ≡ Some n → ⊥
not_again p pairs j n d here there =
    let name : n.name ≡ p.name = ap (λ (x : NodeName). x.name) (sym here) in
    let found : IsTrue (list_any (is_named p.name) pairs) = subst (λ (m : List ℕ). IsTrue (list_any (is_named m) pairs)) name (named_in pairs j n there) in
    true_is_not_false (sym found ∙ (differ_parts p pairs d).0)

pub nodes_differ : (pairs : List Pair) (i j : ℕ) (n : NodeName) → IsTrue (names_differ pairs) → slice_get (map node_of pairs) i ≡ Some n → slice_get (map node_of pairs) j ≡ Some n → i ≡ j
nodes_differ [] i j n d p q = absurd (none-some n p)
nodes_differ (x ∷ pairs) zero zero n d p q = refl
nodes_differ (x ∷ pairs) zero (suc j) n d p q = let here : node_of x ≡ n = cc in absurd (not_again x pairs j n d here q)
nodes_differ (x ∷ pairs) (suc i) zero n d p q = let here : node_of x ≡ n = cc in absurd (not_again x pairs i n d here p)
nodes_differ (x ∷ pairs) (suc i) (suc j) n d p q = ap suc (nodes_differ pairs i j n (differ_parts x pairs d).1 p q)

-- the shape of each graph of the first form is good
pub good_shape : (pairs : List Pair) → IsFirstForm pairs → IsGoodShape (shape_of pairs)
good_shape pairs form =
    let ts = targets_of pairs in
    let n = length_targets 0 pairs in
    let few = form.few in
    let small : length ts ≤ 32 = omega arith in
    let later : IsTrue (are_later (length ts) 0 ts) = targets_later (length ts) 0 pairs (omega arith) in
    let nodes = length-map pairs node_of in
    record {
      few_nodes = omega arith;
      node_names = good_names pairs form.each;
      nodes_differ = λ i j m p q. nodes_differ pairs i j m form.differ p q;
      unrolling = record { depths = map (λ (p : Pair). 0) pairs; count = length-map pairs (λ (p : Pair). 0) ∙ sym (length-map pairs node_of); few = zeros_few pairs; units = levels_are ts [] 0 ts pairs n };
      units = good_unit (map node_of pairs) ts small later;
      alike = good_alike ts;
      few_buffers = omega arith;
      buffer_names = tt;
      buffers_differ = λ i j m p q. absurd (none-some m p);
    }

target_there : (ts : List (Option ℕ)) (u t : ℕ) → target_at ts u ≡ Some t → slice_get ts u ≡ Some (Some t)
target_there ts u t e = choice (slice_get ts u) e
  where
    choice : (o : Option (Option ℕ)) → unwrap_or o None ≡ Some t → o ≡ Some (Some t)
    choice None h = absurd (cc)
    choice (Some x) h = ap (λ (y : Option ℕ). Some y) h

wired_at : (nodes : List NodeName) (ts : List (Option ℕ)) (u t : ℕ) → IsTrue (are_later (length ts) 0 ts) → slice_get ts u ≡ Some (Some t) → SendsTo (wired nodes ts) u t
wired_at nodes ts u t later at =
    let far = later_at (length ts) 0 u ts t later at in
    let high = far.1 in
    let inside = slice_get_within ts u (Some t) at in
    let l = length_units ts [] 0 ts in
    let v = unit_there ts t high in
    let i = unit_at ts [] 0 t ts v.0 v.1 in
    let w = unit_there ts u inside in
    let j = unit_at ts [] 0 u ts w.0 w.1 in
    let both : Some j.target ≡ Some (Some t) = sym j.at ∙ at in
    let target : j.target ≡ Some t = cc in
    let outs : w.0.outputs ≡ outputs_of (Some t) = ap (λ (x : Unit). x.outputs) j.is ∙ ap (λ (o : Option ℕ). outputs_of o) target in
    let budget : w.0.budgets ≡ budgets_of (Some t) = ap (λ (x : Unit). x.budgets) j.is ∙ ap (λ (o : Option ℕ). budgets_of o) target in
    record {
      within = omega arith;
      words = ap (λ (o : Option Unit). unwrap_or (option_map (λ (n : Unit). n.words) o) 0) v.1 ∙ ap (λ (x : Unit). x.words) i.is;
      outputs = ap (λ (o : Option Unit). unwrap_or (option_map (λ (n : Unit). n.outputs) o) []) w.1 ∙ outs;
      budgets = ap (λ (o : Option Unit). unwrap_or (option_map (λ (n : Unit). n.budgets) o) []) w.1 ∙ budget;
    }

none_share : (nodes : List NodeName) (ts : List (Option ℕ)) (u : ℕ) → shared_at (wired nodes ts) u ≡ false
none_share nodes ts u = by (slice_get (units_of ts) u) refl
  where
    by : (o : Option Unit) → slice_get (units_of ts) u ≡ o → unwrap_or (option_map (λ (n : Unit). n.shared) o) false ≡ false
    by None e = refl
    by (Some x) e = ap (λ (n : Unit). n.shared) (unit_at ts [] 0 u ts x e).is

-- the shape of a graph is wired to its targets
pub graph_wired : (pairs : List Pair) → IsWired (shape_of pairs) (targets_of pairs)
graph_wired pairs =
    let ts = targets_of pairs in
    let n = length_targets 0 pairs in
    record {
      sends = λ u t e. wired_at (map node_of pairs) ts u t (targets_later (length ts) 0 pairs (omega arith)) (target_there ts u t e);
      none_shared = none_share (map node_of pairs) ts;
    }
