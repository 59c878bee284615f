-- Grants as rows, and the table of the latest.
use Rattle.std.proofs.Common.{◌≡◌, ℕ, zero, suc, ◌+◌, ◌<◌, ◌≤◌, Bool, true, false, ◌&&◌, List, [], ◌∷◌, ◌++◌, length, take, drop, refl, sym, ap, ◌∙◌, subst, arith, length-append, get_or}
use Rattle.std.specs.Prelude.{slice_get, slice_index, slice_set, nat_le, ◌==◌, ◌||◌, if◌then◌else◌, option_map, unwrap_or, Option, Some, None}
use Rattle.std.specs.Map.{lookup}
use Rattle.std.proofs.lemmas.Bool.Decides.{nat_tests}
use Rattle.std.proofs.lemmas.List.{length-drop, length-take, get_or-take, get_or-drop, map-append, length-map}
use Rattle.std.proofs.lemmas.Option.{slice_get-map, slice_get_past, slice_get-get_or, unwrap_or-slice_get}
use Rattle.wg_machine.specs.Buffers.{word_at, with_word}
use Rattle.wg_state.specs.Requests.{is_numbered, latest, closed_in}
use Rattle.wg_state.specs.WordLists.{list_at}
use Rattle.wg_state.specs.declared.world.Grant.{Grant}
use Rattle.wg_code.specs.Records.{open_items, items_at, grants_with, grant_with}
use Rattle.wg_grants.specs.Spans.{part_of, LieFrom}
use Rattle.wg_grants.specs.Rows.{row_grant, grants_of, spans_of, is_key, key_of, AreFound, IsKept}
use Rattle.wg_grants.specs.declared.rows.LaneHandle.{LaneHandle}
use Rattle.wg_grants.specs.declared.rows.Row.{Row}
use Rattle.wg_grants.specs.declared.spans.Span.{Span}
use Rattle.wg_grants.proofs.Parts.{lie_within, lie_grown_by, lie_pushed, part_new, set_past, set_same, shown_grown, shown_set}

abbrev pub Records : Type 0
Records = List (List ℕ)

some_is : {A : Type 0} (x y : A) → Some x ≡ Some y → x ≡ y
some_is x y e = ap (λ o. unwrap_or o x) e

-- ---- the latest grant of a handle

-- it is told without the records
pub latest_without : (h l at : ℕ) (f : Option ℕ) (rows : List Row) (xs ys : Records) → latest h l at f (grants_of rows xs) ≡ latest h l at f (grants_of rows ys)
latest_without h l at f [] xs ys = refl
latest_without h l at f (r ∷ rows) xs ys = latest_without h l (suc at) (if is_numbered r.handle h && (r.lane == l) then Some at else f) rows xs ys

latest_pushed : (h l at : ℕ) (f : Option ℕ) (grants : List Grant) (g : Grant)
    → latest h l at f (grants ++ g ∷ []) ≡ (if is_numbered g.handle h && (g.lane == l) then Some (at + length grants) else latest h l at f grants)
latest_pushed h l at f [] g = (let e : at ≡ at + 0 = omega arith in ap (λ n. if is_numbered g.handle h && (g.lane == l) then Some n else f) e)
latest_pushed h l at f (x ∷ grants) g =
    let seen = if is_numbered x.handle h && (x.lane == l) then Some at else f in
    let e : suc at + length grants ≡ at + suc (length grants) = omega arith in
    latest_pushed h l (suc at) seen grants g ∙ ap (λ n. if is_numbered g.handle h && (g.lane == l) then Some n else latest h l (suc at) seen grants) e

abbrev pub Entries : Type 0
Entries = List (LaneHandle × ℕ)

pub found_pushed : (rows : List Row) (r : Row) (old new : Entries) → AreFound rows old
    → ((h l : ℕ) → lookup (is_key (key_of h l)) new ≡ (if is_numbered r.handle h && (r.lane == l) then Some (length rows) else lookup (is_key (key_of h l)) old)) → AreFound (rows ++ r ∷ []) new
found_pushed rows r old new found noted = λ h l.
    (let all = grants_of rows [] in
    let long : 0 + length all ≡ length rows = (let e = length-map rows (λ (x : Row). row_grant x (part_of x.span [])) in omega (arith, e)) in
    noted h l
    ∙ ap (λ o. if is_numbered r.handle h && (r.lane == l) then Some (length rows) else o) (found h l)
    ∙ ap (λ n. if is_numbered r.handle h && (r.lane == l) then Some n else latest h l 0 None all) (sym long)
    ∙ sym (latest_pushed h l 0 None all (row_grant r (part_of r.span [])))
    ∙ ap (latest h l 0 None) (sym (map-append (λ (x : Row). row_grant x (part_of x.span [])) rows (r ∷ []))))

pub found_same : (rows : List Row) (old new : Entries) → AreFound rows old → ((h l : ℕ) → lookup (is_key (key_of h l)) new ≡ lookup (is_key (key_of h l)) old) → AreFound rows new
found_same rows old new found same = λ h l. same h l ∙ found h l

pub found_by : (rows : List Row) (records : Records) (entries : Entries) → IsKept rows records entries → (h l : ℕ) → lookup (is_key (key_of h l)) entries ≡ latest h l 0 None (grants_of rows records)
found_by rows records entries k h l = k.found h l ∙ latest_without h l 0 None rows [] records

-- a row's records are there
pub span_within : (rows : List Row) (end i : ℕ) (r : Row) → LieFrom 0 (spans_of rows) end → slice_get rows i ≡ Some r → r.span.first + r.span.count ≤ end
span_within rows end i r lie e =
    (lie_within (spans_of rows) 0 end i r.span lie (slice_get-map (λ (x : Row). x.span) rows i ∙ ap (option_map (λ (x : Row). x.span)) e)).1

pub span_at : (rows : List Row) (end i : ℕ) (d : Row) → LieFrom 0 (spans_of rows) end → i < length rows → (get_or rows i d).span.first + (get_or rows i d).span.count ≤ end
span_at rows end i d lie lt = span_within rows end i (get_or rows i d) lie (slice_get-get_or rows i d lt)

-- ---- a row more

module _ (rows later : List Row) (old new more : Records) (before after : Entries) (kept : IsKept rows old before) (grown : new ≡ old ++ more) where
  grown_view : grants_of rows new ≡ grants_of rows old
  grown_view = ap (grants_of rows) grown ∙ shown_grown (λ (r : Row). r.span) row_grant rows 0 old more kept.lie

  pub kept_same : later ≡ rows → AreFound later after → IsKept later new after
  kept_same e found = record {
    lie = subst (λ (l : List Row). LieFrom 0 (spans_of l) (length new)) (sym e) (subst (λ (l : Records). LieFrom 0 (spans_of rows) (length l)) (sym grown) (lie_grown_by (spans_of rows) old more kept.lie));
    found = found;
  }

  pub view_same : later ≡ rows → grants_of later new ≡ grants_of rows old
  view_same e = ap (λ (l : List Row). grants_of l new) e ∙ grown_view

  module _ (row : Row) (first : row.span.first ≡ length old) (count : row.span.count ≡ length more) where
    longer : LieFrom 0 (spans_of (rows ++ row ∷ [])) (length new)
    longer =
        subst (λ (l : List Span). LieFrom 0 l (length new)) (sym (map-append (λ (x : Row). x.span) rows (row ∷ [])))
        (subst (λ n. LieFrom 0 (spans_of rows ++ row.span ∷ []) n) (ap (λ n. length old + n) count ∙ (sym (length-append old more) ∙ ap (λ (l : Records). length l) (sym grown)))
        (lie_pushed (spans_of rows) row.span 0 (length old) kept.lie first))

    pub kept_new : later ≡ rows ++ row ∷ [] → AreFound later after → IsKept later new after
    kept_new e found = record { lie = subst (λ (l : List Row). LieFrom 0 (spans_of l) (length new)) (sym e) longer; found = found }

    pub view_new : later ≡ rows ++ row ∷ [] → grants_of later new ≡ grants_of rows old ++ row_grant row more ∷ []
    view_new e =
        ap (λ (l : List Row). grants_of l new) e
        ∙ (map-append (λ (x : Row). row_grant x (part_of x.span new)) rows (row ∷ [])
        ∙ (ap (λ l. l ++ row_grant row (part_of row.span new) ∷ []) grown_view
        ∙ ap (λ p. grants_of rows old ++ row_grant row p ∷ []) (ap (part_of row.span) grown ∙ part_new row.span old more first count)))

-- ---- a row is closed

abbrev closed_row : Row → Row
closed_row r = record r { complete = true }

spans_closed : (rows : List Row) (i : ℕ) (r : Row) → slice_get rows i ≡ Some r → spans_of (slice_set rows i (closed_row r)) ≡ spans_of rows
spans_closed [] i r e = refl
spans_closed (x ∷ rows) zero r e = ap (λ (y : Row). y.span ∷ spans_of rows) (some_is r x (sym e))
spans_closed (x ∷ rows) (suc i) r e = ap (λ l. x.span ∷ l) (spans_closed rows i r e)

latest_closed : (h l at : ℕ) (f : Option ℕ) (rows : List Row) (i : ℕ) (r : Row) → slice_get rows i ≡ Some r → latest h l at f (grants_of (slice_set rows i (closed_row r)) []) ≡ latest h l at f (grants_of rows [])
latest_closed h l at f [] i r e = refl
latest_closed h l at f (x ∷ rows) zero r e =
    ap (λ (y : Row). latest h l (suc at) (if is_numbered y.handle h && (y.lane == l) then Some at else f) (grants_of rows [])) (some_is r x (sym e))
latest_closed h l at f (x ∷ rows) (suc i) r e = latest_closed h l (suc at) (if is_numbered x.handle h && (x.lane == l) then Some at else f) rows i r e

pub kept_closed : (rows : List Row) (records : Records) (entries : Entries) (i : ℕ) (r : Row) → slice_get rows i ≡ Some r → IsKept rows records entries → IsKept (slice_set rows i (closed_row r)) records entries
kept_closed rows records entries i r e k = record {
  lie = subst (λ (l : List Span). LieFrom 0 l (length records)) (sym (spans_closed rows i r e)) k.lie;
  found = λ h l. k.found h l ∙ sym (latest_closed h l 0 None rows i r e);
}

module _ (rows : List Row) (records : Records) (i : ℕ) where
  abbrev grants : List Grant
  grants = grants_of rows records

  pub grant_at : (r : Row) → slice_get rows i ≡ Some r → slice_get grants i ≡ Some (row_grant r (part_of r.span records))
  grant_at r e = slice_get-map (λ (x : Row). row_grant x (part_of x.span records)) rows i ∙ ap (option_map (λ (x : Row). row_grant x (part_of x.span records))) e

  pub grant_none : slice_get rows i ≡ None → slice_get grants i ≡ None
  grant_none e = slice_get-map (λ (x : Row). row_grant x (part_of x.span records)) rows i ∙ ap (option_map (λ (x : Row). row_grant x (part_of x.span records))) e

  pub view_unclosed : slice_get rows i ≡ None → grants ≡ closed_in (slice_get grants i) grants i
  view_unclosed e = sym (ap (λ (o : Option Grant). closed_in o grants i) (grant_none e))

  -- ---- a word of a record

  pub items_found : (r : Row) → slice_get rows i ≡ Some r → items_at (Some i) grants ≡ open_items (Some (row_grant r (part_of r.span records)))
  items_found r e = ap open_items (grant_at r e)

  pub items_none : slice_get rows i ≡ None → items_at (Some i) grants ≡ []
  items_none e = ap open_items (grant_none e)

pub view_closed : (rows : List Row) (records : Records) (i : ℕ) (r : Row) → slice_get rows i ≡ Some r
    → grants_of (slice_set rows i (closed_row r)) records ≡ closed_in (slice_get (grants_of rows records) i) (grants_of rows records) i
view_closed rows records i r e =
    by rows i e ∙ sym (ap (λ (o : Option Grant). closed_in o (grants_of rows records) i) (grant_at rows records i r e))
  where
    by : (rows : List Row) (i : ℕ) → slice_get rows i ≡ Some r → grants_of (slice_set rows i (closed_row r)) records ≡ slice_set (grants_of rows records) i (row_grant (closed_row r) (part_of r.span records))
    by [] i e = refl
    by (x ∷ rows) zero e = refl
    by (x ∷ rows) (suc i) e = ap (λ l. row_grant x (part_of x.span records) ∷ l) (by rows i e)

-- a record of a row is one of all
record_at : (s : Span) (records : Records) (index : ℕ) → index < s.count → list_at (part_of s records) index ≡ list_at records (s.first + index)
record_at s records index lt =
    unwrap_or-slice_get (part_of s records) index []
    ∙ (get_or-take s.count (drop s.first records) index [] lt
    ∙ (get_or-drop s.first records index [] ∙ sym (unwrap_or-slice_get records (s.first + index) [])))

no_record : (s : Span) (records : Records) (index : ℕ) → s.count ≤ index → list_at (part_of s records) index ≡ []
no_record s records index le =
    (let l = length-take s.count (drop s.first records) in
    ap (λ (o : Option (List ℕ)). unwrap_or o []) (slice_get_past (part_of s records) index (omega (arith, le, l))))

module _ (r : Row) (records : Records) (index at : ℕ) where
  abbrev pub of_row : Records
  of_row = open_items (Some (row_grant r (part_of r.span records)))

  pub read_closed : r.complete ≡ true → slice_index (list_at of_row index) at ≡ 0
  read_closed e = ap (λ (b : Bool). slice_index (list_at (if b then [] else part_of r.span records) index) at) e

  pub read_past : r.complete ≡ false → r.span.count ≤ index → slice_index (list_at of_row index) at ≡ 0
  read_past e le =
      ap (λ (b : Bool). slice_index (list_at (if b then [] else part_of r.span records) index) at) e
      ∙ ap (λ (l : List ℕ). slice_index l at) (no_record r.span records index le)

  pub read_within : r.complete ≡ false → index < r.span.count → slice_index (list_at of_row index) at ≡ word_at records (r.span.first + index) at
  read_within e lt =
      ap (λ (b : Bool). slice_index (list_at (if b then [] else part_of r.span records) index) at) e
      ∙ ap (λ (l : List ℕ). slice_index l at) (record_at r.span records index lt)

-- ---- a word of a record is set

module _ (rows : List Row) (records : Records) (i index at value : ℕ) (lie : LieFrom 0 (spans_of rows) (length records)) where
  abbrev all : List Grant
  all = grants_of rows records

  abbrev pub Put : Records → Type 0
  Put new = grants_of rows new ≡ grants_with (Some i) index (λ (words : List ℕ). slice_set words at value) all

  pub put_nowhere : slice_get rows i ≡ None → Put records
  put_nowhere e = sym (ap (λ (o : Option Grant). grant_with o index (λ (words : List ℕ). slice_set words at value) i all) (grant_none rows records i e))

  module _ (r : Row) (e : slice_get rows i ≡ Some r) where
    whole : grants_with (Some i) index (λ (words : List ℕ). slice_set words at value) all
        ≡ grant_with (Some (row_grant r (part_of r.span records))) index (λ (words : List ℕ). slice_set words at value) i all
    whole = ap (λ (o : Option Grant). grant_with o index (λ (words : List ℕ). slice_set words at value) i all) (grant_at rows records i r e)

    abbrev set_items : List Grant
    set_items = slice_set all i (row_grant r (slice_set (part_of r.span records) index (slice_set (list_at (part_of r.span records) index) at value)))

    closed_case : r.complete ≡ true → Put records
    closed_case c = sym (whole ∙ ap (λ (b : Bool). if b then all else slice_set all i (record (row_grant r (part_of r.span records)) { items = slice_set (part_of r.span records) index (slice_set (list_at (part_of r.span records) index) at value) })) c)

    open_case : r.complete ≡ false → grants_with (Some i) index (λ (words : List ℕ). slice_set words at value) all ≡ set_items
    open_case c = whole ∙ ap (λ (b : Bool). if b then all else slice_set all i (record (row_grant r (part_of r.span records)) { items = slice_set (part_of r.span records) index (slice_set (list_at (part_of r.span records) index) at value) })) c

    past_case : r.complete ≡ false → r.span.count ≤ index → Put records
    past_case c le =
        let l = length-take r.span.count (drop r.span.first records) in
        sym (open_case c
        ∙ ap (λ (items : Records). slice_set all i (row_grant r items)) (set_past (part_of r.span records) index (slice_set (list_at (part_of r.span records) index) at value) (omega (arith, le, l)))
        ∙ set_same all i (row_grant r (part_of r.span records)) (grant_at rows records i r e))

    within_case : r.complete ≡ false → index < r.span.count → Put (with_word records (r.span.first + index) at value)
    within_case c lt =
        shown_set (λ (x : Row). x.span) row_grant rows 0 (length records) records i r index (slice_set (list_at records (r.span.first + index)) at value) lie e lt
        ∙ ap (λ (l : List ℕ). slice_set all i (row_grant r (slice_set (part_of r.span records) index (slice_set l at value)))) (sym (record_at r.span records index lt))
        ∙ sym (open_case c)

    pub put_there : Put (if r.complete || nat_le r.span.count index then records else with_word records (r.span.first + index) at value)
    put_there = choice r.complete refl
      where
        inner : (b : Bool) → r.complete ≡ false → nat_le r.span.count index ≡ b → Put (if b then records else with_word records (r.span.first + index) at value)
        inner true c h = past_case c (grind (arith, nat_tests, h))
        inner false c h = within_case c (grind (arith, nat_tests, h))

        choice : (b : Bool) → r.complete ≡ b → Put (if b || nat_le r.span.count index then records else with_word records (r.span.first + index) at value)
        choice true c = closed_case c
        choice false c = inner (nat_le r.span.count index) c refl

-- the next record of a span
pub next_record : (s : Span) (records : Records) (i : ℕ) (list : Records) (words : List ℕ) → s.first + s.count ≤ length records → i < s.count
    → words ≡ list_at records (s.first + i) → list ≡ take i (drop s.first records) → list ++ words ∷ [] ≡ take (i + 1) (drop s.first records)
next_record s records i list words le lt is so_far =
    (let long = length-drop s.first records in
    ap (λ (l : Records). l ++ words ∷ []) so_far
    ∙ ap (λ (w : List ℕ). take i (drop s.first records) ++ w ∷ []) (is ∙ unwrap_or-slice_get records (s.first + i) [] ∙ sym (get_or-drop s.first records i []))
    ∙ by (drop s.first records) i (omega (arith, le, lt, long)))
  where
    by : (xs : Records) (i : ℕ) → i < length xs → take i xs ++ get_or xs i [] ∷ [] ≡ take (i + 1) xs
    by [] i lt = absurd (omega (arith, lt))
    by (x ∷ xs) zero lt = (let e : 0 + 1 ≡ suc 0 = omega arith in refl)
    by (x ∷ xs) (suc i) lt = ap (λ (l : Records). x ∷ l) (by xs i (omega (arith, lt))) ∙ (let e : suc (i + 1) ≡ suc i + 1 = omega arith in ap (λ k. take k (x ∷ xs)) e)
