-- What parts do by their bodies and by the parts that they hold.
use Rattle.std.proofs.Common.{◌≡◌, ◌≢◌, ◌==◌, ℕ, zero, suc, ◌+◌, ◌<◌, Bool, true, false, not, List, [], ◌∷◌, length, drop, get_or, if◌then◌else◌, sym, ap, ◌∙◌, drop-cons, add-one, arith}
use Rattle.std.specs.Prelude.{◌&&◌, slice_index}
use Rattle.std.proofs.lemmas.Bool.Decides.{nat_tests}
use Rattle.wg_words.specs.Truth.{is_true}
use Rattle.wg_code.specs.PartMeaning.{Lanes, LaneActions, Running, first_lane, lanes_run, first_runs, part_step, part_runs, parts_run}
use Rattle.wg_code.specs.Quiet.{are_quiet, part_quiet, parts_quiet}
use Rattle.wg_code.specs.declared.code.Part.{Part, fold-roll-Part}
use Rattle.wg_code.specs.declared.code.Part.TheVariants as p
use Rattle.wg_code.specs.declared.op.Op.{Op}
use Rattle.wg_group.specs.Quieter.{is_quiet_part}
use Rattle.wg_group.proofs.Growth.{both_left, both_right}

abbrev Run : Type 0
Run = Lanes → Running Lanes

is_true_at : (n : ℕ) → n ≢ 0 → is_true n ≡ true
is_true_at n m = let e : (n == 0) ≡ false = grind (arith, nat_tests) in ap not e

module _ (bodies : List Op → LaneActions) (part : Part) where
  pub lanes_is : (body ops : List Op) → part ≡ p.Lanes body → ops ≡ body → lanes_run false (bodies ops) 0 ≡ part_runs false bodies part
  lanes_is body ops is same =
      sym (ap (part_runs false bodies) is ∙ (ap (part_runs false bodies) (sym (p.rolls-Lanes body)) ∙ fold-roll-Part Run (part_step false bodies) _) ∙ ap (λ l. lanes_run false (bodies l) 0) (sym same))

  pub first_is : (body ops : List Op) → part ≡ p.First body → ops ≡ body → first_runs false (bodies ops) ≡ part_runs false bodies part
  first_is body ops is same =
      sym (ap (part_runs false bodies) is ∙ (ap (part_runs false bodies) (sym (p.rolls-First body)) ∙ fold-roll-Part Run (part_step false bodies) _) ∙ ap (λ l. first_runs false (bodies l)) (sym same))

  module _ (a : ℕ) (first second : List Part) (is : part ≡ p.Choose a first second) (lanes : Lanes) where
    choose_is : part_runs false bodies part lanes ≡ (if is_true (slice_index (first_lane lanes) a) then parts_run false bodies first lanes else parts_run false bodies second lanes)
    choose_is = ap (λ (m : Run). m lanes) (ap (part_runs false bodies) is ∙ (ap (part_runs false bodies) (sym (p.rolls-Choose a first second)) ∙ fold-roll-Part Run (part_step false bodies) _))

    pub chosen_first : (parts : List Part) (word : ℕ) → parts ≡ first → word ≡ slice_index (first_lane lanes) a → word ≢ 0 → parts_run false bodies parts lanes ≡ part_runs false bodies part lanes
    chosen_first parts word same e some =
        sym (choose_is
        ∙ (ap (λ w. if is_true w then parts_run false bodies first lanes else parts_run false bodies second lanes) (sym e)
        ∙ (ap (λ b. if b then parts_run false bodies first lanes else parts_run false bodies second lanes) (is_true_at word some)
        ∙ ap (λ l. parts_run false bodies l lanes) (sym same))))

    pub chosen_second : (parts : List Part) (word : ℕ) → parts ≡ second → word ≡ slice_index (first_lane lanes) a → word ≡ 0 → parts_run false bodies parts lanes ≡ part_runs false bodies part lanes
    chosen_second parts word same e none =
        sym (choose_is
        ∙ (ap (λ w. if is_true w then parts_run false bodies first lanes else parts_run false bodies second lanes) (sym e ∙ none)
        ∙ ap (λ l. parts_run false bodies l lanes) (sym same)))

-- ---- which read no shared buffer

module _ (q : Bool) (part : Part) where
  pub quiet_lanes : (body ops : List Op) → part ≡ p.Lanes body → ops ≡ body → (q && is_quiet_part part) ≡ true → (q && are_quiet ops) ≡ true
  quiet_lanes body ops is same e =
      ap (λ l. q && are_quiet l) same
      ∙ (sym (ap (λ b. q && b) (ap is_quiet_part is ∙ (ap is_quiet_part (sym (p.rolls-Lanes body)) ∙ fold-roll-Part Bool part_quiet _))) ∙ e)

  pub quiet_first : (body ops : List Op) → part ≡ p.First body → ops ≡ body → (q && is_quiet_part part) ≡ true → (q && are_quiet ops) ≡ true
  quiet_first body ops is same e =
      ap (λ l. q && are_quiet l) same
      ∙ (sym (ap (λ b. q && b) (ap is_quiet_part is ∙ (ap is_quiet_part (sym (p.rolls-First body)) ∙ fold-roll-Part Bool part_quiet _))) ∙ e)

  module _ (a : ℕ) (first second : List Part) (is : part ≡ p.Choose a first second) where
    choose_quiet : is_quiet_part part ≡ (parts_quiet first && parts_quiet second)
    choose_quiet = ap is_quiet_part is ∙ (ap is_quiet_part (sym (p.rolls-Choose a first second)) ∙ fold-roll-Part Bool part_quiet _)

    one : (b x y : Bool) → (b && (x && y)) ≡ true → (b && x) ≡ true
    one true x y e = both_left x y e
    one false x y e = e

    other : (b x y : Bool) → (b && (x && y)) ≡ true → (b && y) ≡ true
    other true x y e = both_right x y e
    other false x y e = e

    pub quiet_chosen_first : (parts : List Part) → parts ≡ first → (q && is_quiet_part part) ≡ true → (q && parts_quiet parts) ≡ true
    quiet_chosen_first parts same e =
        ap (λ l. q && parts_quiet l) same ∙ one q (parts_quiet first) (parts_quiet second) (sym (ap (λ b. q && b) choose_quiet) ∙ e)

    pub quiet_chosen_second : (parts : List Part) → parts ≡ second → (q && is_quiet_part part) ≡ true → (q && parts_quiet parts) ≡ true
    quiet_chosen_second parts same e =
        ap (λ l. q && parts_quiet l) same ∙ other q (parts_quiet first) (parts_quiet second) (sym (ap (λ b. q && b) choose_quiet) ∙ e)

pub quiet_within : (q : Bool) (parts : List Part) (i : ℕ) (part : Part) → part ≡ get_or parts i part → i < length parts → (q && parts_quiet parts) ≡ true → (q && is_quiet_part part) ≡ true
quiet_within true parts i part is lt e = by parts i part is lt e
  where
    by : (parts : List Part) (i : ℕ) (part : Part) → part ≡ get_or parts i part → i < length parts → parts_quiet parts ≡ true → is_quiet_part part ≡ true
    by [] i part is lt e = absurd (let z : i < 0 = lt in omega (arith, z))
    by (x ∷ xs) zero part is lt e = ap is_quiet_part is ∙ both_left (is_quiet_part x) (parts_quiet xs) e
    by (x ∷ xs) (suc i) part is lt e = by xs i part is (let z : suc i < suc (length xs) = lt in omega (arith, z)) (both_right (is_quiet_part x) (parts_quiet xs) e)
quiet_within false parts i part is lt e = absurd (cc)

-- what is left of a list of parts
pub parts_at : (bodies : List Op → LaneActions) (parts : List Part) (i : ℕ) (part : Part) → part ≡ get_or parts i part → i < length parts
    → parts_run false bodies (drop i parts) ≡ parts_run false bodies (part ∷ drop (i + 1) parts)
parts_at bodies parts i part e lt =
    ap (parts_run false bodies) (drop-cons parts i part lt)
    ∙ (ap (λ x. parts_run false bodies (x ∷ drop (suc i) parts)) (sym e)
    ∙ ap (λ n. parts_run false bodies (part ∷ drop n parts)) (sym (add-one i)))
