use Rattle.std.proofs.Common.{◌≡◌, None, Result, ℕ, IfOk, IfErr, rules, subst}
use Rattle.std.proofs.lemmas.List.Sorted.{answers_always}
use Rattle.wg_store.specs.declared.item.Item.{Item as ItemOf}
use Rattle.wg_store.specs.Items.{item_in}
use Rattle.wg_hold.proofs.Search.{Finds, searched}
use Rattle.wg_hold.proofs.places.place_of.Goals as goal

pub returns-in-Ok-clause-found : goal.returns-in-Ok-clause-found
returns-in-Ok-clause-found c =
    let by_key = c.binary_search_by_key.ensures.position (λ (x : ItemOf). x.number) (answers_always _ _ _ (λ f a r g called. search rules)) in
    let s = searched c.args.items.now c.args.number c.binary_search_by_key.result c.requires c.binary_search_by_key.ensures.bound by_key in
    (subst (λ (r : Result ℕ ℕ). IfOk r (Finds c.args.number c.args.items.now)) c.in-Ok.is s.0).found

pub returns-in-Err-clause-none : goal.returns-in-Err-clause-none
returns-in-Err-clause-none c =
    let by_key = c.binary_search_by_key.ensures.position (λ (x : ItemOf). x.number) (answers_always _ _ _ (λ f a r g called. search rules)) in
    let s = searched c.args.items.now c.args.number c.binary_search_by_key.result c.requires c.binary_search_by_key.ensures.bound by_key in
    subst (λ (r : Result ℕ ℕ). IfErr r (λ (_ : ℕ). item_in c.args.number c.args.items.now ≡ None)) c.in-Err.is s.1
