-- A body of a part of valid code goes through on a lane that fits it.
use Rattle.std.proofs.Common.{◌≡◌, ◌≢◌, ℕ, Bool, true, false, List, [], ◌∷◌, length, map, Option, Some, None, refl, sym, ap, ◌∙◌, subst}
use Rattle.std.specs.Prelude.{◌&&◌, nat_lt, slice_get, Contains}
use Rattle.std.specs.List.{All}
use Rattle.std.proofs.lemmas.List.Elements.{All-nil, All-cons, All-append, All-contains}
use Rattle.wg_words.specs.Each.{Each}
use Rattle.wg_machine.specs.Buffers.{Buffers}
use Rattle.wg_machine.specs.GoodShape.{IsGoodShape}
use Rattle.wg_state.specs.Turns.{Ending, Spent, Done}
use Rattle.wg_code.specs.declared.code.Part.{Part, roll-Part, fold-Part, fold-roll-Part, ind-Part, map-Part}
use Rattle.wg_code.specs.declared.code.Part.TheOpen.{Part-F}
use Rattle.wg_code.specs.declared.code.RawCode.{RawCode}
use Rattle.wg_code.specs.declared.frame.Frame.{Frame}
use Rattle.wg_code.specs.declared.op.Op.{Op}
use Rattle.wg_code.specs.CodeMeaning.{node_does}
use Rattle.wg_code.specs.Flow.{Outside}
use Rattle.wg_code.specs.FrameMeaning.{launch_of, outside_of, LaneVerdict, LaneSpends, LaneGoesWrong, LaneMakes, lane_verdict_of, node_lane_verdict, unit_lane_verdict, lane_verdict, FrameFits}
use Rattle.wg_code.specs.PartBodies.{bodies_step, bodies_in}
use Rattle.wg_code.specs.PartMeaning.{lane_runs}
use Rattle.wg_code.specs.Valid.{Scope, are_valid, parts_valid, node_scope, valid}
use Rattle.wg_code.specs.Valid.{part_step as judged}
use Rattle.wg_code.proofs.Alike.{left, right}
use Rattle.wg_code.proofs.NeverWrong.{unit_valid, node_parts, bodies_alike}
use Rattle.wg_code.proofs.PartsAlike.{LaneFits, lane_alike}

-- ---- each body of valid parts is valid

module _ (k : Scope) where
  abbrev Fine : List Op → Type 0
  Fine body = are_valid k false body ≡ true

  abbrev Has : Part → Type 0
  Has part = fold-Part Bool (judged k) part ≡ true → All Fine (fold-Part (List (List Op)) bodies_step part)

  order_has : (parts : List Part) → Each Has parts → parts_valid k parts ≡ true → All Fine (bodies_in parts)
  order_has [] has v = All-nil Fine
  order_has (part ∷ parts) has v =
      All-append Fine (fold-Part (List (List Op)) bodies_step part) (bodies_in parts) (has.0 (left (fold-Part Bool (judged k) part) (parts_valid k parts) v)) (order_has parts has.1 (right (fold-Part Bool (judged k) part) (parts_valid k parts) v))

  all_have : {C : Type 0} (p : C → Part) → ((c : C) → Has (p c)) → (cs : List C) → Each Has (map p cs)
  all_have p has [] = tt
  all_have p has (c ∷ cs) = (has c, all_have p has cs)

  layer : {C : Type 0} (p : C → Part) → ((c : C) → Has (p c)) → (y : Part-F C)
      → judged k (map-Part Part Bool (fold-Part Bool (judged k)) (map-Part C Part p y)) ≡ true
      → All Fine (bodies_step (map-Part Part (List (List Op)) (fold-Part (List (List Op)) bodies_step) (map-Part C Part p y)))
  layer p has (Part-F.Lanes body) v = All-cons Fine body [] v (All-nil Fine)
  layer p has (Part-F.First body) v = All-cons Fine body [] v (All-nil Fine)
  layer {C} p has (Part-F.Choose a first second) v =
      let both = right (nat_lt a k.tables.registers) (parts_valid k (map p first) && parts_valid k (map p second)) v in
      All-append Fine (bodies_in (map p first)) (bodies_in (map p second))
      (order_has (map p first) (all_have p has first) (left (parts_valid k (map p first)) _ both))
      (order_has (map p second) (all_have p has second) (right (parts_valid k (map p first)) (parts_valid k (map p second)) both))

  part_has : (part : Part) → Has part
  part_has part = ind-Part Has
      (λ x y eq. subst (λ l. Has (roll-Part l)) eq (rw (fold-roll-Part Bool (judged k) _, fold-roll-Part (List (List Op)) bodies_step _) (layer (λ c. c.0) (λ c. c.1) y)))
      part

  each_has : (parts : List Part) → Each Has parts
  each_has [] = tt
  each_has (part ∷ parts) = (part_has part, each_has parts)

  body_valid : (parts : List Part) (body : List Op) → parts_valid k parts ≡ true → Contains (bodies_in parts) body → are_valid k false body ≡ true
  body_valid parts body v there = All-contains Fine (bodies_in parts) body (order_has parts (each_has parts) v) there

-- ---- a lane's end

abbrev pub IsRight : LaneVerdict → Type 0
IsRight LaneSpends = Unit {0}
IsRight LaneGoesWrong = ⊥
IsRight (LaneMakes after buffers) = Unit {0}

-- the frame that is made has so many registers and groupshared words, and is of the same unit
abbrev pub KeepsTo : ℕ → ℕ → ℕ → LaneVerdict → Type 0
KeepsTo unit r sh LaneSpends = Unit {0}
KeepsTo unit r sh LaneGoesWrong = Unit {0}
KeepsTo unit r sh (LaneMakes after buffers) = (after.unit ≡ unit) × (length after.registers ≡ r) × (length after.shared ≡ sh)

end_right : (frame : Frame) (turns r sh : ℕ) (o : Ending Outside (Option (List ℕ))) → LaneFits r sh o → IsRight (lane_verdict_of frame turns o) × KeepsTo frame.unit r sh (lane_verdict_of frame turns o)
end_right frame turns r sh Spent g = (tt, tt)
end_right frame turns r sh (Done None w t) g = absurd g
end_right frame turns r sh (Done (Some registers) w t) g = (tt, (refl, g.0, g.1))

module _ (code : RawCode) (body : List Op) (frame : Frame) (buffers : Buffers) (turns : ℕ) (checked : valid code ≡ true) (good : IsGoodShape code.shape) (fits : FrameFits code body frame) where
  strictly : (strict : Bool) → lane_verdict strict code body frame buffers turns
      ≡ lane_verdict_of frame turns (lane_runs strict (node_does strict code fits.node fits.unit (launch_of frame) body frame.lane) frame.registers (outside_of frame buffers) turns)
  strictly strict =
      ap (λ o. unit_lane_verdict strict code o body frame buffers turns) fits.is_unit ∙ ap (λ o. node_lane_verdict strict code o fits.unit body frame buffers turns) fits.is_node

  pub lane_right : (lane_verdict true code body frame buffers turns ≡ lane_verdict false code body frame buffers turns)
      × IsRight (lane_verdict true code body frame buffers turns)
      × KeepsTo frame.unit (length frame.registers) (length frame.shared) (lane_verdict true code body frame buffers turns)
  lane_right =
      let here = unit_valid code frame.unit fits.unit fits.node checked good fits.is_unit fits.is_node in
      let k : Scope = node_scope code fits.unit.node fits.node in
      let v = body_valid k fits.node.parts body (node_parts code fits.unit.node fits.node here.1) fits.is_body in
      let alike = bodies_alike code (launch_of frame) fits.unit fits.node here.0 here.2 body v frame.lane in
      let goes = lane_alike fits.node.registers code.shared (node_does true code fits.node fits.unit (launch_of frame) body frame.lane) (node_does false code fits.node fits.unit (launch_of frame) body frame.lane) alike frame.registers (outside_of frame buffers) turns fits.registers fits.shared in
      let same = strictly true ∙ (ap (lane_verdict_of frame turns) goes.0 ∙ sym (strictly false)) in
      let ends = end_right frame turns fits.node.registers code.shared (lane_runs false (node_does false code fits.node fits.unit (launch_of frame) body frame.lane) frame.registers (outside_of frame buffers) turns) goes.1 in
      let back = sym (same ∙ strictly false) in (
        same,
        subst IsRight back ends.0,
        subst (λ r. KeepsTo frame.unit r (length frame.shared) (lane_verdict true code body frame buffers turns)) (sym fits.registers)
            (subst (λ sh. KeepsTo frame.unit fits.node.registers sh (lane_verdict true code body frame buffers turns)) (sym fits.shared)
            (subst (KeepsTo frame.unit fits.node.registers code.shared) back ends.1)),
      )

  pub lane_never_wrong : lane_verdict true code body frame buffers turns ≢ LaneGoesWrong
  lane_never_wrong e = subst IsRight e lane_right.1

  pub lane_tests_nothing : lane_verdict true code body frame buffers turns ≡ lane_verdict false code body frame buffers turns
  lane_tests_nothing = lane_right.0

  -- the frame after it fits each body that the frame before it fits
  pub lane_fits : (after : Frame) (left : Buffers) (other : List Op) → lane_verdict true code body frame buffers turns ≡ LaneMakes after left → FrameFits code other frame → FrameFits code other after
  lane_fits after left other made others =
      let kept : KeepsTo frame.unit (length frame.registers) (length frame.shared) (LaneMakes after left) = subst (KeepsTo frame.unit (length frame.registers) (length frame.shared)) made lane_right.2 in
      record {
        unit = others.unit;
        node = others.node;
        is_unit = ap (λ n. slice_get code.shape.units n) kept.0 ∙ others.is_unit;
        is_node = others.is_node;
        is_body = others.is_body;
        registers = kept.1 ∙ others.registers;
        shared = kept.2 ∙ others.shared;
      }
