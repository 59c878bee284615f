use Rattle.std.proofs.Common.{◌≡◌, ◌+◌, ◌++◌, map, drop}
use Rattle.wg_lowered.specs.Exprs.{coded, formed, joined, forms_code, forms_need, links_code, links_need, parts_code, parts_need}
use Rattle.wg_lower_expressions.proofs.expr.+expr.Given as goal

abbrev pub invariant-follow-loop-form : goal.invariant-follow-loop-form
invariant-follow-loop-form l =
    ((forms_code (map (formed l.names) (drop l.form-index l.form-items)) l.t l.x.place l.x.next).at ≡ (forms_code (map (formed l.names) l.form-items) l.initial.t l.initial.x.place l.initial.x.next).at)
    × (l.x.next + forms_need (map (formed l.names) (drop l.form-index l.form-items)) l.t ≡ l.initial.x.next + forms_need (map (formed l.names) l.form-items) l.initial.t)
    × (l.ops ++ (forms_code (map (formed l.names) (drop l.form-index l.form-items)) l.t l.x.place l.x.next).ops ≡ l.initial.ops ++ (forms_code (map (formed l.names) l.form-items) l.initial.t l.initial.x.place l.initial.x.next).ops)

abbrev pub invariant-chain-loop-link : goal.invariant-chain-loop-link
invariant-chain-loop-link l =
    ((links_code (map (joined l.names) (drop l.link-index l.link-items)) l.t l.x.at l.x.next).at ≡ (links_code (map (joined l.names) l.link-items) l.initial.t l.initial.x.at l.initial.x.next).at)
    × (l.x.next + links_need (map (joined l.names) (drop l.link-index l.link-items)) l.t ≡ l.initial.x.next + links_need (map (joined l.names) l.link-items) l.initial.t)
    × (l.ops ++ (links_code (map (joined l.names) (drop l.link-index l.link-items)) l.t l.x.at l.x.next).ops ≡ l.initial.ops ++ (links_code (map (joined l.names) l.link-items) l.initial.t l.initial.x.at l.initial.x.next).ops)

abbrev pub invariant-construct-loop-part : goal.invariant-construct-loop-part
invariant-construct-loop-part l =
    (l.at ++ (parts_code l.names (map (coded l.names) (drop l.part-index l.part-items)) l.next).at ≡ (parts_code l.names (map (coded l.names) l.part-items) l.initial.next).at)
    × (l.next + parts_need l.names (map (coded l.names) (drop l.part-index l.part-items)) ≡ l.initial.next + parts_need l.names (map (coded l.names) l.part-items))
    × (l.ops ++ (parts_code l.names (map (coded l.names) (drop l.part-index l.part-items)) l.next).ops ≡ l.initial.ops ++ (parts_code l.names (map (coded l.names) l.part-items) l.initial.next).ops)
