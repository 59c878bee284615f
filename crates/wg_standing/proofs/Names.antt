-- Launches out that are allowed, by the names of their records alone.
use Rattle.std.proofs.Common.{◌≡◌, ℕ, suc, ◌≤◌, List, [], ◌∷◌, length, map, refl, ap, sym, ◌∙◌, subst, arith}
use Rattle.wg_words.specs.Each.{Each}
use Rattle.wg_machine.specs.declared.launch.Live.{Live}
use Rattle.wg_machine.specs.declared.shape.Shape.{Shape}
use Rattle.wg_machine.specs.Step.{IsReady, first_grid, is_last, numbers_of, record_of, taken}
use Rattle.wg_machine.specs.Units.{kind_at, most_inputs}
use Rattle.wg_standing.specs.declared.pending.Pending.{Pending}
use Rattle.wg_standing.specs.Outs.{IsAllowed, IsApart, after_one}
use Rattle.wg_standing.proofs.Allowed.{bare, stays}
use Rattle.wg_standing.proofs.Rising.{numbers}

pub numbers_taken : (xs : List Live) → numbers_of (map record_of xs) ≡ numbers xs
numbers_taken [] = refl
numbers_taken (x ∷ xs) = ap (λ (ns : List ℕ). x.number ∷ ns) (numbers_taken xs)

pub length_records : (xs : List Live) → length (map record_of xs) ≡ length (numbers xs)
length_records [] = refl
length_records (x ∷ xs) = ap suc (length_records xs)

-- what a launch out takes: the records that it names, of its unit, with its group to run, of one grid
pub record Named (shape : Shape) (o : Pending) (mine : List Live) : Type 0 where
  pub named : numbers mine ≡ o.inputs
  pub some : 1 ≤ length o.inputs
  pub few : length o.inputs ≤ most_inputs (kind_at shape o.unit)
  pub ready : Each (IsReady o.unit o.at) mine
  pub grid : Each (λ (r : Live). first_grid mine ≡ r.grid) mine

pub named_of : (shape : Shape) (bag : List Live) (o : Pending) → IsAllowed shape bag o → Named shape o (taken o.inputs bag)
named_of shape bag o a =
    let mine = taken o.inputs bag in
    let named : numbers mine ≡ o.inputs = sym (numbers_taken mine) ∙ a.named in
    let many : length (map record_of mine) ≡ length o.inputs = length_records mine ∙ ap (λ (ns : List ℕ). length ns) named in
    let some = a.allowed.some in
    let few = a.allowed.few in
    record {
      named = named;
      some = omega (arith, many, some);
      few = omega (arith, many, few);
      ready = subst (λ (ns : List ℕ). Each (IsReady o.unit o.at) (taken ns bag)) a.named a.allowed.ready;
      grid = subst (λ (ns : List ℕ). Each (λ (r : Live). first_grid mine ≡ r.grid) (taken ns bag)) a.named a.allowed.grid;
    }

pub allowed_of : (shape : Shape) (bag : List Live) (o : Pending) → Named shape o (taken o.inputs bag) → IsAllowed shape bag o
allowed_of shape bag o n =
    let mine = taken o.inputs bag in
    let named : numbers_of (map record_of mine) ≡ o.inputs = numbers_taken mine ∙ n.named in
    let many : length (map record_of mine) ≡ length o.inputs = length_records mine ∙ ap (λ (ns : List ℕ). length ns) n.named in
    let some = n.some in
    let few = n.few in
    record {
      allowed = record {
        records = ap (λ (ns : List ℕ). map record_of (taken ns bag)) (sym named);
        some = omega (arith, many, some);
        few = omega (arith, many, few);
        ready = subst (λ (ns : List ℕ). Each (IsReady o.unit o.at) (taken ns bag)) (sym named) n.ready;
        grid = subst (λ (ns : List ℕ). Each (λ (r : Live). first_grid mine ≡ r.grid) (taken ns bag)) (sym named) n.grid;
        group = refl;
        last = ap (λ (ns : List ℕ). is_last shape o.unit (taken ns bag)) (sym named);
      };
      named = named;
    }

bare_numbers : (xs : List Live) → numbers (map bare xs) ≡ numbers xs
bare_numbers [] = refl
bare_numbers (x ∷ xs) = ap (λ (ns : List ℕ). x.number ∷ ns) (bare_numbers xs)

bare_grid : (xs : List Live) → first_grid (map bare xs) ≡ first_grid xs
bare_grid [] = refl
bare_grid (x ∷ xs) = refl

grids_to : (g : List ℕ) (xs : List Live) → Each (λ (r : Live). g ≡ r.grid) xs → Each (λ (r : Live). g ≡ r.grid) (map bare xs)
grids_to g [] e = tt
grids_to g (x ∷ xs) e = (e.0, grids_to g xs e.1)

grids_from : (g : List ℕ) (xs : List Live) → Each (λ (r : Live). g ≡ r.grid) (map bare xs) → Each (λ (r : Live). g ≡ r.grid) xs
grids_from g [] e = tt
grids_from g (x ∷ xs) e = (e.0, grids_from g xs e.1)

-- records that are the same but for their groups are named as well
pub named_bare : (shape : Shape) (o : Pending) (old new : List Live) → map bare new ≡ map bare old → Each (IsReady o.unit o.at) new → Named shape o old → Named shape o new
named_bare shape o old new same ready n =
    let first : first_grid old ≡ first_grid new = sym (bare_grid old) ∙ ap first_grid (sym same) ∙ bare_grid new in
    record {
      named = sym (bare_numbers new) ∙ ap numbers same ∙ bare_numbers old ∙ n.named;
      some = n.some;
      few = n.few;
      ready = ready;
      grid = subst (λ (g : List ℕ). Each (λ (r : Live). g ≡ r.grid) new) first (grids_from (first_grid old) new (subst (λ (xs : List Live). Each (λ (r : Live). first_grid old ≡ r.grid) xs) (sym same) (grids_to (first_grid old) old n.grid)));
    }

-- a launch out stays allowed after another one took its group
pub stays_allowed : (shape : Shape) (bag : List Live) (o p : Pending) → IsApart o p → IsAllowed shape bag p → IsAllowed shape (after_one o bag) p
stays_allowed shape bag o p apart a =
    let n = named_of shape bag p a in
    let s = stays p.unit p.at p.inputs o.at o.inputs bag apart n.ready in
    allowed_of shape (after_one o bag) p (named_bare shape p (taken p.inputs bag) (taken p.inputs (after_one o bag)) s.records s.ready n)
