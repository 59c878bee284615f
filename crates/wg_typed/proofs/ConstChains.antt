-- Chains of operators in a `const`.
use Rattle.std.proofs.Common.{◌≡◌, ℕ, ◌+◌, ◌<◌, refl, sym, ap, ◌∙◌, List, [], ◌∷◌, length, drop, Option, Some, None, get_or}
use Rattle.std.proofs.lemmas.List.{drop_more}
use Rattle.wg_typed.specs.declared.types.ConstValue.{ConstValue}
use Rattle.wg_tree.specs.declared.expr.Link.{Link}
use Rattle.wg_typed.specs.Constants.{Known, Right, applied, applied_value, chain_value, rights_of, const_value}

-- once a part has no value, the whole has none
pub no_chain : (rest : List Right) → None ≡ chain_value None rest
no_chain [] = refl
no_chain (r ∷ rest) = no_chain rest

-- the operators from one on are this one and those after it
chain_at : (known : Known) (before : Option ConstValue) (rest : List Link) (i : ℕ) (l : Link) (right : Option ConstValue) → l ≡ get_or rest i l → i < length rest → right ≡ const_value known l.operand
    → chain_value before (rights_of known (drop i rest)) ≡ chain_value (applied_value l.operator before right) (rights_of known (drop (i + 1) rest))
chain_at known before rest i l right at within value =
    ap (λ xs. chain_value before (rights_of known xs)) (drop_more rest i l within)
    ∙ ap (λ x. chain_value before (rights_of known (x ∷ drop (i + 1) rest))) (sym at)
    ∙ ap (λ r. chain_value (applied_value l.operator before r) (rights_of known (drop (i + 1) rest))) (sym value)

pub chain_stops : (known : Known) (before : ConstValue) (rest : List Link) (i : ℕ) (l : Link) (whole right : Option ConstValue) → l ≡ get_or rest i l → i < length rest → right ≡ const_value known l.operand → right ≡ None
    → chain_value (Some before) (rights_of known (drop i rest)) ≡ whole → None ≡ whole
chain_stops known before rest i l whole right at within value none says =
    no_chain (rights_of known (drop (i + 1) rest))
    ∙ ap (λ r. chain_value (applied_value l.operator (Some before) r) (rights_of known (drop (i + 1) rest))) (sym none)
    ∙ sym (chain_at known (Some before) rest i l right at within value) ∙ says

pub chain_goes_on : (known : Known) (before a after : ConstValue) (rest : List Link) (i : ℕ) (l : Link) (whole right : Option ConstValue) → l ≡ get_or rest i l → i < length rest → right ≡ const_value known l.operand → right ≡ Some a
    → after ≡ applied l.operator before a → chain_value (Some before) (rights_of known (drop i rest)) ≡ whole → chain_value (Some after) (rights_of known (drop (i + 1) rest)) ≡ whole
chain_goes_on known before a after rest i l whole right at within value some done says =
    ap (λ v. chain_value (Some v) (rights_of known (drop (i + 1) rest))) done
    ∙ ap (λ r. chain_value (applied_value l.operator (Some before) r) (rights_of known (drop (i + 1) rest))) (sym some)
    ∙ sym (chain_at known (Some before) rest i l right at within value) ∙ says
