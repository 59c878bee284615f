-- The needs of a unit, and when each of them is met.
use Rattle.std.proofs.Common.{◌≡◌, ℕ, Bool, suc, ◌+◌, ◌<◌, ◌≤◌, List, [], ◌∷◌, length, All, slice_index, slice_get, get_or, unwrap_or, refl, sym, arith, inl, inr, ◌⊎◌, true, false, IsTrue, ◌↔◌, ◌++◌, take, drop, ◌^◌}
use Rattle.std.proofs.lemmas.Grind.{common_steps}
use Rattle.std.specs.Prelude.{nat_lt}
use Rattle.std.proofs.lemmas.Bool.Decides.{eqb_tells, nat_tests}
use Rattle.std.proofs.lemmas.Option.{slice_get_past, unwrap_or-slice_get}
use Rattle.wg_need.specs.declared.table.Need.{Need}
use Rattle.wg_need.specs.Rows.{need_in, IsSoundRow}
use Rattle.wg_room.specs.Counts.{Counts, need_at, HasSlotsLeft, Reserves}
use Rattle.wg_room.specs.Sound.{IsMet, AreSound}

-- the row of a unit is sound
row_sound : (count : ℕ) (rows : List (List Need)) (u : ℕ) → All (IsSoundRow count) rows → u < length rows → IsSoundRow count (unwrap_or (slice_get rows u) [])
row_sound count rows u all h = rw (unwrap_or-slice_get rows u []) (all u [] h)

-- a unit with a need stands in the row
need_found : (needs : List Need) (v : ℕ) → 0 < need_in needs v → (k : ℕ) × (k < length needs) × ((d : Need) → (get_or needs k d).unit ≡ v)
need_found [] v some = absurd (omega arith)
need_found (n ∷ needs) v some =
    elim (eqb_tells n.unit v) [
      | inl same ↦ (0, omega arith, λ d. same.1)
      | inr other ↦
          let rest : 0 < need_in needs v = omega (arith, rw other.0 at some) in
          let found = need_found needs v rest in
          (suc found.0, omega (arith, found.1), λ d. found.2 d)
    ]

-- what is needed is of one of so many units
pub need_within : (count : ℕ) (rows : List (List Need)) (u v : ℕ) → All (IsSoundRow count) rows → 0 < need_in (unwrap_or (slice_get rows u) []) v → v < count
need_within count rows u v all some =
    let sound : IsSoundRow count (unwrap_or (slice_get rows u) []) = any rows u all in
    let found = need_found (unwrap_or (slice_get rows u) []) v some in
    let none : Need = record { unit = 0; records = 0 } in
    let is = found.2 none in
    let w = (sound found.0 none found.1).within in
    omega (arith, w, is)
  where
    nothing : IsSoundRow count []
    nothing k d h = absurd (omega (arith, h))

    either : (a b : ℕ) → (a < b) ⊎ (b ≤ a)
    either a b = choice (nat_lt a b) refl
      where
        choice : (t : Bool) → nat_lt a b ≡ t → (a < b) ⊎ (b ≤ a)
        choice true e = inl (grind (arith, nat_tests))
        choice false e = inr (grind (arith, nat_tests))

    any : (rows : List (List Need)) (u : ℕ) → All (IsSoundRow count) rows → IsSoundRow count (unwrap_or (slice_get rows u) [])
    any rows u all = elim (either u (length rows)) [
      | inl h ↦ row_sound count rows u all h
      | inr h ↦ rw (slice_get_past rows u h) nothing
    ]

pub met_has_room : (count : ℕ) (bounds used reserved : List ℕ) (needs : List Need) → IsSoundRow count needs → All (IsMet bounds used reserved) needs
    → (v : ℕ) → 0 < need_in needs v → slice_index used v + slice_index reserved v + need_in needs v ≤ slice_index bounds v
met_has_room count bounds used reserved needs sound met v some =
    let found = need_found needs v some in
    let none : Need = record { unit = 0; records = 0 } in
    let is = found.2 none in
    let whole = rw is at (sound found.0 none found.1).whole in
    let fits = rw is at (met found.0 none found.1) in
    omega (arith, whole, fits)

pub room_is_met : (count : ℕ) (bounds used reserved : List ℕ) (needs : List Need) → IsSoundRow count needs
    → ((v : ℕ) → 0 < need_in needs v → slice_index used v + slice_index reserved v + need_in needs v ≤ slice_index bounds v)
    → All (IsMet bounds used reserved) needs
room_is_met count bounds used reserved needs sound room k d h =
    let s = sound k d h in
    omega (arith, s.whole, room (get_or needs k d).unit (omega (arith, s.some, s.whole)))

-- the row of a unit of a sound room
pub record IsRow (c : Counts) (u : ℕ) (row : List Need) : Type 0 where
  pub sound : IsSoundRow (length c.bounds) row
  pub needs : (v : ℕ) → need_at c u v ≡ need_in row v

pub row_at : (c : Counts) (u : ℕ) (row : List Need) → AreSound c → u < length c.bounds → row ≡ unwrap_or (slice_get c.needs u) [] → IsRow c u row
row_at c u row sound h is =
    let within : u < length c.needs = omega (arith, h, sound.needs) in
    rw is (record { sound = row_sound (length c.bounds) c.needs u sound.rows within; needs = λ v. refl })

pub room_exact : (c : Counts) (u : ℕ) (row : List Need) (result : Bool) → IsRow c u row → (IsTrue result ↔ All (IsMet c.bounds c.used c.reserved) row) → IsTrue result ↔ HasSlotsLeft c u
room_exact c u row result r tells = (
  λ yes v some. rw (r.needs v) (met_has_room (length c.bounds) c.bounds c.used c.reserved row r.sound (tells.0 yes) v (rw (r.needs v) at some)),
  λ room. tells.1 (room_is_met (length c.bounds) c.bounds c.used c.reserved row r.sound (λ v some. rw (r.needs v) at (room v (rw (r.needs v) some)))),
)

whole : (items new : List ℕ) (len : ℕ) → len ≡ length items → length new ≡ length items → take len (new ++ drop (length new) items) ≡ new
whole items new len e n = grind (arith, common_steps)

pub reserves_exact : (c : Counts) (u : ℕ) (row : List Need) (new : List ℕ) (len : ℕ) → IsRow c u row → len ≡ length c.reserved → length new ≡ length c.reserved
    → ((v : ℕ) → slice_index new v ≡ slice_index c.reserved v + need_in row v)
    → Reserves c (record c { reserved = take len (new ++ drop (length new) c.reserved) }) u
reserves_exact c u row new len r e same adds =
    rw (whole c.reserved new len e same)
    (record { same = refl; count = same; reserved = λ v. rw (r.needs v) (adds v) })

pub releases_exact : (c : Counts) (u : ℕ) (row : List Need) (new : List ℕ) (len : ℕ) → IsRow c u row → len ≡ length c.reserved → length new ≡ length c.reserved
    → ((v : ℕ) → slice_index c.reserved v ≡ slice_index new v + need_in row v)
    → Reserves (record c { reserved = take len (new ++ drop (length new) c.reserved) }) c u
releases_exact c u row new len r e same adds =
    rw (whole c.reserved new len e same)
    (record { same = refl; count = sym same; reserved = λ v. rw (r.needs v) (adds v) })

pub room_fits : (c : Counts) (u : ℕ) (row : List Need) → AreSound c → IsRow c u row → HasSlotsLeft c u
    → (v : ℕ) → 0 < need_in row v → slice_index c.reserved v + need_in row v < 2 ^ 32
room_fits c u row sound r room v some = omega (arith, rw (r.needs v) at (room v (rw (r.needs v) some)), sound.fit v)
