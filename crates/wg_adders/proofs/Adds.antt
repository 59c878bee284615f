-- The adders only add, and the doublers do not.
use Rattle.std.proofs.Common.{◌≡◌, false, ℕ, zero, suc, ◌+◌, ◌%◌, ◌^◌, ◌<◌, List, [], ◌∷◌, length, map, refl, ap, sym, ◌∙◌, arith}
use Rattle.std.specs.Prelude.{slice_index, replicate}
use Rattle.wg_machine.specs.declared.shape.Shape.{Shape}
use Rattle.wg_machine.specs.declared.launch.Launch.{Launch}
use Rattle.wg_machine.specs.declared.launch.Record.{Record}
use Rattle.wg_machine.specs.declared.memory.Write.TheVariants.{Add}
use Rattle.wg_machine.specs.Additive.{AreWords, IsAdditive, unnumbered_record, zero_buffers}
use Rattle.wg_machine.specs.Buffers.{Buffers, buffer_at, word_at, written, lengths_of}
use Rattle.wg_machine.specs.Fitting.{IsLawful}
use Rattle.wg_machine.specs.GoodShape.{IsGoodShape}
use Rattle.wg_machine.specs.LaunchMeaning.{FitsShape}
use Rattle.wg_machine.specs.Units.{kind_at, is_coalescing, shared_at}
use Rattle.wg_adders.specs.Adding.{first_word, adder_sends, adder_target, adder_made, adder_lawful, lengths_stay}
use Rattle.wg_adders.specs.Doubling.{doubler_made}

same_first : (rs : List Record) → first_word (map unnumbered_record rs) ≡ first_word rs
same_first [] = refl
same_first (r ∷ rs) = refl

-- words after the addition, on buffers and on zeros
sum_first : (x v : ℕ) → (x + v) % 2 ^ 32 ≡ (x + (0 + v) % 2 ^ 32) % 2 ^ 32
sum_first x v = omega arith

sum_other : (x : ℕ) → x < 2 ^ 32 → x ≡ (x + 0) % 2 ^ 32
sum_other x h = omega arith

zero_word : (n w : ℕ) → slice_index (replicate n 0) w ≡ 0
zero_word zero w = refl
zero_word (suc n) zero = refl
zero_word (suc n) (suc w) = zero_word n w

zeros_word : (m : Buffers) (b w : ℕ) → word_at (zero_buffers (lengths_of m)) b w ≡ 0
zeros_word [] b w = refl
zeros_word (x ∷ m) zero w = zero_word (length x) w
zeros_word (x ∷ m) (suc b) w = zeros_word m b w

added_at : (m : Buffers) (v b w : ℕ) → AreWords m → w < length (buffer_at m b) → word_at (written m (Add 0 0 v)) b w ≡ (word_at m b w + word_at (written (zero_buffers (lengths_of m)) (Add 0 0 v)) b w) % 2 ^ 32
added_at [] v b w small h = absurd (omega (arith, h))
added_at ([] ∷ m) v zero w small h = absurd (omega (arith, h))
added_at ((x ∷ xs) ∷ m) v zero zero small h = sum_first x v
added_at ((x ∷ xs) ∷ m) v zero (suc w) small h =
    sum_other (slice_index xs w) (small 0 (suc w)) ∙ ap (λ (k : ℕ). (slice_index xs w + k) % 2 ^ 32) (sym (zero_word (length xs) w))
added_at (x ∷ m) v (suc b) w small h =
    sum_other (word_at m b w) (small (suc b) w) ∙ ap (λ (k : ℕ). (word_at m b w + k) % 2 ^ 32) (sym (zeros_word m b w))

pub adders_additive : (shape : Shape) → ((u : ℕ) → is_coalescing (kind_at shape u) ≡ false) → ((u : ℕ) → shared_at shape u ≡ false) → IsAdditive shape (adder_made shape)
adders_additive shape single alone = record {
  none_coalesces = single;
  none_shared = alone;
  adds = λ l m turns fits not_last small. record {
    sent = ap (adder_sends shape (adder_target shape l.unit)) (sym (same_first l.records));
    denied = refl;
    turns = refl;
    buffers = record {
      lengths = lengths_stay m _;
      words = λ b w h. added_at m (first_word l.records) b w small h ∙ ap (λ (v : ℕ). (word_at m b w + word_at (written (zero_buffers (lengths_of m)) (Add 0 0 v)) b w) % 2 ^ 32) (sym (same_first l.records));
    };
  };
}

pub adders_lawful : (shape : Shape) → IsGoodShape shape → IsLawful shape (adder_made shape)
adders_lawful shape good = λ l m t fits. adder_lawful shape l m t good fits

one_buffer : Buffers
one_buffer = (1 ∷ []) ∷ []

small_one : AreWords one_buffer
unfolding one_buffer
small_one zero zero = omega arith
small_one zero (suc w) = omega arith
small_one (suc b) w = omega arith

-- on one word of 1 a doubler leaves 2, and on a word of 0 it leaves 0
pub doublers_not : (shape : Shape) (launch : Launch) → FitsShape shape launch → IsAdditive shape (doubler_made shape) → ⊥
unfolding one_buffer
doublers_not shape launch fits additive =
    let other : Launch = record launch { last = false } in
    let fits_too : FitsShape shape other = record { unit = fits.unit; some = fits.some; few = fits.few; words = fits.words; grid_some = fits.grid_some; grid_few = fits.grid_few; group = fits.group; grid = fits.grid } in
    let a = (additive.adds other one_buffer 0 fits_too refl small_one).buffers.words 0 0 (omega arith) in
    absurd (omega (arith, a))
