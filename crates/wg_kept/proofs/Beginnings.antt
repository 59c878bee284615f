-- A keep at the start of a script.
use Rattle.std.proofs.Common.{◌≡◌, ℕ, ◌≤◌, List, [], length, ap, sym, ◌∙◌, subst, arith}
use Rattle.wg_words.specs.Each.{Each}
use Rattle.wg_words.specs.declared.limits.TheConstants.{MOST_ENTRIES, MOST_LAUNCHES}
use Rattle.wg_machine.specs.declared.launch.Entry.{Entry}
use Rattle.wg_machine.specs.declared.launch.Limits.{Limits}
use Rattle.wg_machine.specs.declared.launch.Sent.{Sent}
use Rattle.wg_machine.specs.declared.shape.Shape.{Shape}
use Rattle.wg_machine.specs.Bytes.{plan_bytes}
use Rattle.wg_machine.specs.GoodShape.{IsGoodShape}
use Rattle.wg_machine.specs.LaunchMeaning.{Arrives}
use Rattle.wg_standing.specs.declared.pending.Pending.{Pending}
use Rattle.wg_engine.specs.Inside.{IsBegun}
use Rattle.wg_store.specs.declared.item.Item.{Item}
use Rattle.wg_store.specs.Items.{entry_items}
use Rattle.wg_store.specs.Keep.{IsKept, IsRoomOf, Kept, kept_begun, view_of}
use Rattle.wg_store.specs.Laws.{BeginningsAreSeen, BeginningsKeep}
use Rattle.wg_kept.specs.declared.store.Store.{Store}
use Rattle.wg_kept.specs.Inside.{AreNamed, IsSoundKeep, kept_of, pendings}

pub begun_is : (shape : Shape) (width : ℕ) (limits : Limits) (script : List Sent) (store : Store) (journal : List Entry) (next : ℕ) (outs : List (ℕ × Pending)) → store.hold.shape ≡ shape → store.hold.items ≡ [] → store.entries ≡ entry_items shape 0 script → journal ≡ [] → next ≡ length script → outs ≡ []
    → kept_of store width limits journal next outs 0 ≡ kept_begun shape width limits script
begun_is shape width limits script store journal next outs same none entries bare number empty =
    let make = λ (s : Shape) (es xs : List Item) (os : List Pending) (js : List Entry) (n : ℕ). (let l : Kept = record { shape = s; width = width; limits = limits; entries = es; slots = xs; outs = os; journal = js; next = n; tickets = 0 } in l) in
    ap (λ (s : Shape). make s store.entries store.hold.items (pendings outs) journal next) same
    ∙ ap (λ (es : List Item). make shape es store.hold.items (pendings outs) journal next) entries
    ∙ ap (λ (xs : List Item). make shape (entry_items shape 0 script) xs (pendings outs) journal next) none
    ∙ ap (λ (os : List (ℕ × Pending)). make shape (entry_items shape 0 script) [] (pendings os) journal next) empty
    ∙ ap (λ (js : List Entry). make shape (entry_items shape 0 script) [] [] js next) bare
    ∙ ap (λ (n : ℕ). make shape (entry_items shape 0 script) [] [] [] n) number

-- it is sound
pub sound_begun : BeginningsKeep → (l : Kept) (new : Store) (shape : Shape) (width : ℕ) (limits : Limits) (script : List Sent) (outs : List (ℕ × Pending)) (places planned : ℕ) → l ≡ kept_begun shape width limits script → IsGoodShape shape → Each (Arrives shape) script → length script ≤ MOST_ENTRIES → limits.launches ≤ MOST_LAUNCHES → planned ≡ plan_bytes shape width → outs ≡ []
    → IsRoomOf (kept_begun shape width limits script) new.hold.room → IsSoundKeep l new outs places planned
sound_begun keep l new shape width limits script outs places planned is good arrive few launches plan empty room =
    record {
      kept = subst IsKept (sym is) (keep shape width limits script good arrive);
      room = subst (λ (n : Kept). IsRoomOf n new.hold.room) (sym is) room;
      named = subst (λ (os : List (ℕ × Pending)). AreNamed os) (sym empty) tt;
      spare = (let a = ap (λ (n : Kept). length n.journal) is in let b = ap (λ (n : Kept). length n.outs) is in omega (arith, a, b));
      bytes = plan ∙ ap (λ (n : Kept). plan_bytes n.shape n.width) (sym is);
      few = subst (λ (n : Kept). n.limits.launches ≤ MOST_LAUNCHES) (sym is) launches;
      next = (let a = ap (λ (n : Kept). n.next) is in omega (arith, a, few));
    }

-- and seen as the core there
pub begun_core : BeginningsAreSeen → (l : Kept) (shape : Shape) (width : ℕ) (limits : Limits) (script : List Sent) → l ≡ kept_begun shape width limits script → IsGoodShape shape → 1 ≤ width → Each (Arrives shape) script → length script ≤ MOST_ENTRIES → limits.launches ≤ MOST_LAUNCHES → IsBegun (view_of l)
begun_core seen l shape width limits script is good wide arrive few launches =
    let begun : IsBegun (view_of (kept_begun shape width limits script)) = record { script = script; begun = sym (seen shape width limits script arrive); good = good; wide = wide; arrive = arrive; few = few; launches = launches } in
    subst (λ (n : Kept). IsBegun (view_of n)) (sym is) begun
