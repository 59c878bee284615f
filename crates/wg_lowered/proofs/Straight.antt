-- Code without turns that puts words into registers from one on, and keeps those below.
use Rattle.std.proofs.Common.{◌≡◌, ℕ, suc, ◌+◌, ◌<◌, ◌≤◌, ◌≢◌, List, [], ◌∷◌, ◌++◌, map, length, refl, ap, ◌∙◌, arith, get_or-set_other, get_or-set_same}
use Rattle.std.proofs.lemmas.List.{length-set}
use Rattle.std.specs.Prelude.{false, slice_index, slice_set}
use Rattle.wg_state.specs.Turns.{Done, and_then}
use Rattle.wg_code.specs.Lane.{Around, Site, Through, ranged}
use Rattle.wg_code.specs.Flow.{Callees, through}
use Rattle.wg_code.specs.OpMeaning.{ops_do}
use Rattle.wg_code.specs.Operators.{unary, binary}
use Rattle.wg_code.specs.declared.op.Op.{Op}
use Rattle.wg_code.specs.declared.op.Op.TheVariants as o
use Rattle.wg_lowered.specs.Where.{run, each_ops, get_op}
use Rattle.wg_lowered.specs.Holding.{Below}
use Rattle.wg_lowered.specs.declared.places.Space.{Space}
use Rattle.wg_lowered.specs.declared.places.Space.TheVariants as space
use Rattle.wg_lowered.proofs.Ops.{ops_append, ops_one, does_Set, does_Copy, does_Unary, does_Binary, does_LocalGet, does_SharedGet}

-- the words of a space
abbrev pub space_words : Space → Site → List ℕ
space_words space.Own f = f.registers
space_words space.Group f = f.shared

abbrev pub with : Site → List ℕ → Site
with f registers = record f { registers = registers }

abbrev pub Every : {A : Type 0} → (A → Type 0) → List A → Type 0
Every P [] = Unit {0}
Every P (x ∷ xs) = P x × Every P xs

pub below_same : (d : ℕ) (a : List ℕ) → Below d a a
below_same d a = record { kept = λ r lt. refl; count = refl }

pub below_then : (d e : ℕ) (a b c : List ℕ) → d ≤ e → Below d a b → Below e b c → Below d a c
below_then d e a b c le x y = record { kept = λ r lt. y.kept r (omega arith) ∙ x.kept r lt; count = y.count ∙ x.count }

pub below_set : (d e v : ℕ) (a b : List ℕ) → d ≤ e → Below d a b → Below d a (slice_set b e v)
below_set d e v a b le x = record {
  kept = λ r lt. let ne : r ≢ e = omega arith in get_or-set_other b e r v 0 ne ∙ x.kept r lt;
  count = length-set b e v ∙ x.count;
}

-- straight code: through, with no turn, and only registers from d on are changed
pub record Straight (k : Around) (cs : Callees) (ops : List Op) (d : ℕ) (f : Site) (t : ℕ) (P : List ℕ → Type 0) : Type 0 where
  pub after : List ℕ
  pub runs : ops_do false k cs ops f t ≡ Done Through (with f after) t
  pub below : Below d f.registers after
  pub holds : P after

module _ (k : Around) (cs : Callees) where
  -- one after another
  pub straight_then : (a b : List Op) (d e : ℕ) (f : Site) (t : ℕ) (P Q : List ℕ → Type 0) → d ≤ e → (x : Straight k cs a d f t P) → Straight k cs b e (with f x.after) t Q → Straight k cs (a ++ b) d f t Q
  straight_then a b d e f t P Q le x y = record {
    after = y.after;
    runs = ops_append k cs a b f t ∙ ap (λ p. and_then p (λ e. through e (ops_do false k cs b))) x.runs ∙ y.runs;
    below = below_then d e f.registers x.after y.after le x.below y.below;
    holds = y.holds;
  }

  -- one word into the register d
  abbrev pub Puts : List Op → ℕ → ℕ → Site → ℕ → Type 0
  Puts ops d v f t = Straight k cs ops d f t (λ after. slice_index after d ≡ v)

  -- words into the registers from d on
  abbrev pub PutsAll : List Op → ℕ → List ℕ → Site → ℕ → Type 0
  PutsAll ops d vs f t = Straight k cs ops d f t (λ after. map (slice_index after) (run d (length vs)) ≡ vs)

  -- for each of a list, where the registers below d0 are those of f0
  pub each_puts : {A : Type 0} (code : A → ℕ → List Op) (v : A → ℕ) (d0 R : ℕ) (old : List ℕ) (group : List ℕ) (Ok : A → Type 0) (one : (a : A) (d : ℕ) (f : Site) (t : ℕ) → Ok a → d0 ≤ d → d + 1 < R → length f.registers ≡ R → Below d0 old f.registers → f.shared ≡ group → Puts (code a d) d (v a) f t) → (as' : List A) (all : Every Ok as') (d : ℕ) (f : Site) (t : ℕ) → d0 ≤ d → d + length as' < R → length f.registers ≡ R → Below d0 old f.registers → f.shared ≡ group → PutsAll (each_ops code as' d) d (map v as') f t
  each_puts code v d0 R old group Ok one [] all d f t le lt n h e = record { after = f.registers; runs = refl; below = below_same d f.registers; holds = refl }
  each_puts code v d0 R old group Ok one (a ∷ as') all d f t le lt n h e =
      let x = one a d f t all.0 le (omega arith) n h e in
      let y = each_puts code v d0 R old group Ok one as' all.1 (suc d) (with f x.after) t (omega arith) (omega arith) (x.below.count ∙ n) (below_then d0 d old f.registers x.after le h x.below) e in
      record {
        after = y.after;
        runs = ops_append k cs (code a d) (each_ops code as' (suc d)) f t ∙ ap (λ p. and_then p (λ e. through e (ops_do false k cs (each_ops code as' (suc d))))) x.runs ∙ y.runs;
        below = below_then d (suc d) f.registers x.after y.after (omega arith) x.below y.below;
        holds = rw (y.below.kept d (omega arith), x.holds, y.holds) refl;
      }

  pub set_puts : (v d : ℕ) (f : Site) (t : ℕ) → d < length f.registers → Puts (o.Set d v ∷ []) d v f t
  set_puts v d f t lt = record {
    after = slice_set f.registers d v;
    runs = ops_one k cs _ _ f t (does_Set k cs d v);
    below = below_set d d v f.registers f.registers (omega arith) (below_same d f.registers);
    holds = get_or-set_same f.registers d v 0 lt;
  }

  pub copy_puts : (a d : ℕ) (f : Site) (t : ℕ) → d < length f.registers → Puts (o.Copy d a ∷ []) d (slice_index f.registers a) f t
  copy_puts a d f t lt = record {
    after = slice_set f.registers d (slice_index f.registers a);
    runs = ops_one k cs _ _ f t (does_Copy k cs d a);
    below = below_set d d (slice_index f.registers a) f.registers f.registers (omega arith) (below_same d f.registers);
    holds = get_or-set_same f.registers d (slice_index f.registers a) 0 lt;
  }

  pub unary_puts : (n a d : ℕ) (f : Site) (t : ℕ) → d < length f.registers → Puts (o.Unary n d a ∷ []) d (unary n (slice_index f.registers a)) f t
  unary_puts n a d f t lt =
      let v = unary n (slice_index f.registers a) in
      record {
        after = slice_set f.registers d v;
        runs = ops_one k cs _ _ f t (does_Unary k cs n d a);
        below = below_set d d v f.registers f.registers (omega arith) (below_same d f.registers);
        holds = get_or-set_same f.registers d v 0 lt;
      }

  pub binary_puts : (n a b d : ℕ) (f : Site) (t : ℕ) → d < length f.registers → Puts (o.Binary n d a b ∷ []) d (binary 32 n (slice_index f.registers a) (slice_index f.registers b)) f t
  binary_puts n a b d f t lt =
      let v = binary 32 n (slice_index f.registers a) (slice_index f.registers b) in
      record {
        after = slice_set f.registers d v;
        runs = ops_one k cs _ _ f t (does_Binary k cs n d a b);
        below = below_set d d v f.registers f.registers (omega arith) (below_same d f.registers);
        holds = get_or-set_same f.registers d v 0 lt;
      }

  local_puts : (from to index d : ℕ) (f : Site) (t : ℕ) → d < length f.registers → Puts (o.LocalGet d from to index ∷ []) d (ranged f.registers from to (slice_index f.registers index)) f t
  local_puts from to index d f t lt =
      let v = ranged f.registers from to (slice_index f.registers index) in
      record {
        after = slice_set f.registers d v;
        runs = ops_one k cs _ _ f t (does_LocalGet k cs d from to index);
        below = below_set d d v f.registers f.registers (omega arith) (below_same d f.registers);
        holds = get_or-set_same f.registers d v 0 lt;
      }

  shared_puts : (from to index d : ℕ) (f : Site) (t : ℕ) → d < length f.registers → Puts (o.SharedGet d from to index ∷ []) d (ranged f.shared from to (slice_index f.registers index)) f t
  shared_puts from to index d f t lt =
      let v = ranged f.shared from to (slice_index f.registers index) in
      record {
        after = slice_set f.registers d v;
        runs = ops_one k cs _ _ f t (does_SharedGet k cs d from to index);
        below = below_set d d v f.registers f.registers (omega arith) (below_same d f.registers);
        holds = get_or-set_same f.registers d v 0 lt;
      }

  pub get_puts : (sp : Space) (from to index c d : ℕ) (f : Site) (t : ℕ) → d < length f.registers → Puts (get_op sp from to index c d) d (ranged (space_words sp f) (from + c) to (slice_index f.registers index)) f t
  get_puts space.Own from to index c d f t lt = local_puts (from + c) to index d f t lt
  get_puts space.Group from to index c d f t lt = shared_puts (from + c) to index d f t lt
