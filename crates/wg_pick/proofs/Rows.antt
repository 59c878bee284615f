-- A picker's row, and what it says of the units.
use Rattle.std.proofs.Common.{◌≡◌, ◌≢◌, ℕ, ◌*◌, ◌/◌, ◌%◌, ◌^◌, ◌<◌, ◌≤◌, Bool, true, false, List, length, map, replicate, get_or, set, slice_index, slice_get, Some, None, refl, sym, ◌∙◌, ap, subst, arith, inl, inr}
use Rattle.std.specs.Prelude.{⊤}
use Rattle.std.proofs.lemmas.Bool.{cases_lt}
use Rattle.std.proofs.lemmas.Bool.Decides.{eqb_tells}
use Rattle.std.proofs.lemmas.List.{length-set, length-map, length-replicate, get_or-replicate, get_or_past, get_or-set_same, get_or-set_other, get_or-map, ext_get_or}
use Rattle.std.proofs.lemmas.Nat.Bits.{bit_at-zero}
use Rattle.std.proofs.lemmas.Option.{slice_get_read, slice_get_within, get_or_from_slice_get}
use Rattle.wg_pick.proofs.Flags.{same_read}
use Rattle.wg_pick.specs.Order.{Waiting, IsBefore}
use Rattle.wg_pick.specs.Row.{is_flagged, IsFlagSet, IsOrder, HasItsPlace, IsRow, ComesFirst, IsFirstFrom}

-- by unit, whether it waits
abbrev pub waits_of : List ℕ → List ℕ → List Bool
waits_of places flags = map (is_flagged flags) places

read : (places flags : List ℕ) (u : ℕ) → u < length places → get_or (waits_of places flags) u false ≡ is_flagged flags (slice_index places u)
read places flags u h = get_or-map (is_flagged flags) places u 0 false h

-- ---- a new row

zero_at : (n k : ℕ) → get_or (replicate {A = ℕ} n 0) k 0 ≡ 0
zero_at n k =
    elim (cases_lt k n) [
      | inl below ↦ get_or-replicate {A = ℕ} n k 0 0 below
      | inr past ↦ get_or_past (replicate {A = ℕ} n 0) k 0 (omega (arith, length-replicate {A = ℕ} n 0, past))
    ]

none_flagged : (n place : ℕ) → is_flagged (replicate {A = ℕ} n 0) place ≡ false
none_flagged n place = rw (zero_at n (place / 64), bit_at-zero (place % 64)) refl

pub new_row : (depths order places : List ℕ) (words : ℕ) → length depths < 2 ^ 32 → IsOrder depths order → length places ≡ length order
    → ((place : ℕ) → place < length order → HasItsPlace order places (slice_index order place)) → length depths ≤ 64 * words → words < 2 ^ 32
    → IsRow depths order places (replicate {A = ℕ} words 0)
new_row depths order places words few ordered count placed room short =
    record {
      few = few;
      ordered = ordered;
      count = count;
      placed = λ u h. let e = ordered.each u h in let P : ℕ → Type 0 = λ x. HasItsPlace order places x in subst P e.2 (placed e.0 e.1);
      room = omega (arith, room, ordered.count, length-replicate {A = ℕ} words 0);
      short = omega (arith, short, length-replicate {A = ℕ} words 0);
      flagged = λ place h. absurd (cc (none_flagged words place, h));
    }

pub new_waits : (places : List ℕ) (words n : ℕ) → length places ≡ n → waits_of places (replicate {A = ℕ} words 0) ≡ replicate n false
new_waits places words n e =
    ext_get_or false (waits_of places (replicate {A = ℕ} words 0)) (replicate n false)
    (omega (arith, length-map places (is_flagged (replicate {A = ℕ} words 0)), length-replicate n false, e))
    (λ i below. let h : i < length places = omega (arith, below, length-map places (is_flagged (replicate {A = ℕ} words 0))) in
    read places (replicate {A = ℕ} words 0) i h ∙ none_flagged words (slice_index places i) ∙ sym (get_or-replicate n i false false (omega (arith, h, e))))

-- ---- a flag set

pub set_row : (depths order places flags new : List ℕ) (u : ℕ) (b : Bool) → IsRow depths order places flags → u < length places
    → IsFlagSet flags new (slice_index places u) b → IsRow depths order places new
set_row depths order places flags new u b row within is =
    record {
      few = row.few;
      ordered = row.ordered;
      count = row.count;
      placed = row.placed;
      room = omega (arith, row.room, is.same_length);
      short = omega (arith, row.short, is.same_length);
      flagged = flagged;
    }
  where
    flagged : (place : ℕ) → is_flagged new place ≡ true → (place < length order) × (slice_index places (slice_index order place) ≡ place)
    flagged place h =
        elim (eqb_tells place (slice_index places u)) [
          | inl same ↦
              let own = row.placed u (omega (arith, within, row.count)) in
              rw same.1 (own.within, ap (λ (x : ℕ). slice_index places x) own.own)
          | inr other ↦ row.flagged place (sym (is.others place other.1) ∙ h)
        ]

pub set_waits : (depths order places flags new : List ℕ) (u : ℕ) (b : Bool) → IsRow depths order places flags → u < length places
    → IsFlagSet flags new (slice_index places u) b → waits_of places new ≡ set (waits_of places flags) u b
set_waits depths order places flags new u b row within is =
    ext_get_or false (waits_of places new) (set (waits_of places flags) u b)
    (omega (arith, length-map places (is_flagged new), length-map places (is_flagged flags), length-set (waits_of places flags) u b))
    (λ i below. each i (omega (arith, below, length-map places (is_flagged new))))
  where
    each : (i : ℕ) → i < length places → get_or (waits_of places new) i false ≡ get_or (set (waits_of places flags) u b) i false
    each i h =
        elim (eqb_tells i u) [
          | inl same ↦
              rw same.1 (read places new u within ∙ is.here
              ∙ sym (get_or-set_same (waits_of places flags) u b false (omega (arith, within, length-map places (is_flagged flags)))))
          | inr other ↦
              let mine = row.placed i (omega (arith, h, row.count)) in
              let its = row.placed u (omega (arith, within, row.count)) in
              let apart : slice_index places i ≢ slice_index places u = λ e. other.1 (sym mine.own ∙ ap (λ (x : ℕ). slice_index order x) e ∙ its.own) in
              read places new i h ∙ is.others (slice_index places i) apart ∙ sym (read places flags i h)
              ∙ sym (get_or-set_other (waits_of places flags) u i b false other.1)
        ]

-- ---- what is picked

pub waiting_place : (depths order places flags : List ℕ) (u : ℕ) → IsRow depths order places flags
    → slice_get (waits_of places flags) u ≡ Some true → (u < length order) × (is_flagged flags (slice_index places u) ≡ true)
waiting_place depths order places flags u row h =
    let inside : u < length places = omega (arith, slice_get_within (waits_of places flags) u true h, length-map places (is_flagged flags)) in
    (omega (arith, inside, row.count), sym (read places flags u inside) ∙ get_or_from_slice_get (waits_of places flags) u true false h)

pub place_waits : (depths order places flags : List ℕ) (place : ℕ) → IsRow depths order places flags → is_flagged flags place ≡ true
    → slice_get (waits_of places flags) (slice_index order place) ≡ Some true
place_waits depths order places flags place row h =
    let at = row.flagged place h in
    let u = slice_index order place in
    let inside : u < length places = omega (arith, row.ordered.within place at.0, row.count) in
    let long = length-map places (is_flagged flags) in
    slice_get_read (waits_of places flags) (length places) u true (sym long) inside
    (sym (get_or-map (is_flagged flags) places u 0 true inside ∙ ap (is_flagged flags) at.1 ∙ h))

pub before : (depths order places flags : List ℕ) (waits : List Bool) (u place : ℕ) → IsRow depths order places flags → u < length order → place < length order
    → IsBefore (record { depths = depths; waits = waits }) u (slice_index order place) → slice_index places u < place
before depths order places flags waits u place row known within first =
    let own = row.placed u known in
    elim (cases_lt (slice_index places u) place) [
      | inl less ↦ less
      | inr past ↦
          let sorted = row.ordered.sorted place (slice_index places u) past own.within in
          let P : ℕ → Type 0 = λ x. ComesFirst depths (slice_index order place) x in
          let other = subst P own.own sorted in
          elim first [
            | inl a ↦ elim other [ inl b ↦ absurd (omega (arith, a, b)) | inr b ↦ absurd (omega (arith, a, b.0)) ]
            | inr a ↦ elim other [ inl b ↦ absurd (omega (arith, a.0, b)) | inr b ↦ absurd (omega (arith, a.1, b.1)) ]
          ]
    ]

abbrev pub IsWaitingAt : List ℕ → List ℕ → ℕ → Type 0
IsWaitingAt places flags u = slice_get (waits_of places flags) u ≡ Some true

-- the unit of a flagged place waits
pub flagged_waits : (depths order places flags : List ℕ) (place unit : ℕ) → IsRow depths order places flags → is_flagged flags place ≡ true
    → unit ≡ get_or order place unit → (unit ≡ slice_index order place) × IsWaitingAt places flags unit
flagged_waits depths order places flags place unit row h is =
    let e : unit ≡ slice_index order place = is ∙ same_read order place unit 0 (row.flagged place h).0 in
    let P : ℕ → Type 0 = λ x. IsWaitingAt places flags x in
    (e, subst P (sym e) (place_waits depths order places flags place row h))

-- where all flagged places before one were asked, so was each unit that waits and has its place there
asked : (depths order places flags : List ℕ) (P : ℕ → Type 0) (from u : ℕ) → IsRow depths order places flags
    → ((place : ℕ) → place < from → is_flagged flags place ≡ true → P (slice_index order place))
    → u < length order → is_flagged flags (slice_index places u) ≡ true → slice_index places u < from → P u
asked depths order places flags P from u row all known flagged below =
    subst P (row.placed u known).own (all (slice_index places u) below flagged)

pub none_left : (depths order places flags : List ℕ) (P : ℕ → Type 0) (from : ℕ) → IsRow depths order places flags
    → ((place : ℕ) → place < from → is_flagged flags place ≡ true → P (slice_index order place))
    → IsFirstFrom (is_flagged flags) from (64 * length flags) None → (u : ℕ) → IsWaitingAt places flags u → ⊤ → P u
none_left depths order places flags P from row all none u h any =
    let waits = waiting_place depths order places flags u row h in
    let own = row.placed u waits.0 in
    elim (cases_lt (slice_index places u) from) [
      | inl below ↦ asked depths order places flags P from u row all waits.0 waits.1 below
      | inr past ↦ absurd (cc (none (slice_index places u) past (omega (arith, own.within, row.room)), waits.1))
    ]

pub before_left : (depths order places flags : List ℕ) (P : ℕ → Type 0) (from place unit : ℕ) → IsRow depths order places flags
    → ((other : ℕ) → other < from → is_flagged flags other ≡ true → P (slice_index order other))
    → IsFirstFrom (is_flagged flags) from (64 * length flags) (Some place) → unit ≡ get_or order place unit → (u : ℕ) → IsWaitingAt places flags u
    → IsBefore (record { depths = depths; waits = waits_of places flags }) u unit → P u
before_left depths order places flags P from place unit row all first is u h earlier =
    let waits = waiting_place depths order places flags u row h in
    let e = (flagged_waits depths order places flags place unit row first.2 is).0 in
    let Q : ℕ → Type 0 = λ x. IsBefore (record { depths = depths; waits = waits_of places flags }) u x in
    let less = before depths order places flags (waits_of places flags) u place row waits.0 (row.flagged place first.2).0 (subst Q e earlier) in
    elim (cases_lt (slice_index places u) from) [
      | inl below ↦ asked depths order places flags P from u row all waits.0 waits.1 below
      | inr past ↦ absurd (cc (first.3 (slice_index places u) past less, waits.1))
    ]

-- the flag of a unit's place, as it was read
pub own_flag : (places flags new : List ℕ) (u place : ℕ) (b : Bool) → u < length places → place ≡ get_or places u place
    → IsFlagSet flags new place b → IsFlagSet flags new (slice_index places u) b
own_flag places flags new u place b within is set =
    let P : ℕ → Type 0 = λ x. IsFlagSet flags new x b in subst P (is ∙ same_read places u place 0 within) set

pub same_waiting : (depths depths' : List ℕ) (waits waits' : List Bool) → depths ≡ depths' → waits ≡ waits'
    → let old : Waiting = record { depths = depths; waits = waits } in let new : Waiting = record { depths = depths'; waits = waits' } in old ≡ new
same_waiting depths depths' waits waits' e f = rw (e, f) refl
