-- Sizes of operations and of functions, by which the running of a body ends.
use Rattle.std.proofs.Common.{◌≡◌, ◌≢◌, ℕ, zero, suc, ◌+◌, ◌-◌, ◌*◌, ◌<◌, ◌≤◌, List, [], ◌∷◌, length, map, get_or, Option, Some, refl, sym, ap, ◌∙◌, arith}
use Rattle.std.specs.Prelude.{slice_get, unwrap_or}
use Rattle.wg_code.specs.Counts.{total, count_step, count_of}
use Rattle.wg_code.specs.declared.code.Function.{Function}
use Rattle.wg_code.specs.declared.op.Op.{Op, fold-Op, fold-roll-Op}
use Rattle.wg_code.specs.declared.op.Op.TheVariants as o

abbrev pub op_size : Op → ℕ
op_size = fold-Op ℕ count_step

-- more than all the work inside the functions, one call deep
abbrev pub functions_size : List Function → ℕ
functions_size functions = total (map (λ (f : Function). count_of f.body + 1) functions)

at_most_total : {A : Type 0} (f : A → ℕ) (xs : List A) (i : ℕ) (d : A) → i < length xs → f (get_or xs i d) ≤ total (map f xs)
at_most_total f [] i d lt = absurd (let z : i < 0 = lt in omega (arith, z))
at_most_total f (x ∷ xs) zero d lt = omega arith
at_most_total f (x ∷ xs) (suc i) d lt = let h = at_most_total f xs i d (let z : suc i < suc (length xs) = lt in omega (arith, z)) in omega (arith, h)

pub op_within : (ops : List Op) (i : ℕ) (op : Op) → op ≡ get_or ops i op → i < length ops → op_size op ≤ count_of ops
op_within ops i op e lt = let h = at_most_total op_size ops i op lt in let g = ap op_size e in omega (arith, h, g)

size_If : (a : ℕ) (x y : List Op) → op_size (o.If a x y) ≡ count_of x + count_of y + 1
size_If a x y = ap op_size (sym (o.rolls-If a x y)) ∙ fold-roll-Op ℕ count_step _

size_Loop : (x : List Op) (a : ℕ) (y z : List Op) → op_size (o.Loop x a y z) ≡ count_of x + (count_of y + count_of z) + 1
size_Loop x a y z = ap op_size (sym (o.rolls-Loop x a y z)) ∙ fold-roll-Op ℕ count_step _

size_Call : (f : ℕ) (args results : List ℕ) → op_size (o.Call f args results) ≡ 1
size_Call f args results = ap op_size (sym (o.rolls-Call f args results)) ∙ fold-roll-Op ℕ count_step _

pub first_within : (op : Op) (a : ℕ) (x y xs : List Op) → op ≡ o.If a x y → xs ≡ x → count_of xs < op_size op
first_within op a x y xs is same = let g = ap op_size is ∙ size_If a x y in let h = ap count_of same in omega (arith, g, h)

pub second_within : (op : Op) (a : ℕ) (x y ys : List Op) → op ≡ o.If a x y → ys ≡ y → count_of ys < op_size op
second_within op a x y ys is same = let g = ap op_size is ∙ size_If a x y in let h = ap count_of same in omega (arith, g, h)

pub loop_within : (op : Op) (x : List Op) (a : ℕ) (y z xs ys zs : List Op) → op ≡ o.Loop x a y z → xs ≡ x → ys ≡ y → zs ≡ z → count_of xs + (count_of ys + count_of zs) < op_size op
loop_within op x a y z xs ys zs is ex ey ez =
    let g = ap op_size is ∙ size_Loop x a y z in
    let hx = ap count_of ex in
    let hy = ap count_of ey in
    let hz = ap count_of ez in
    omega (arith, g, hx, hy, hz)

pub call_size : (op : Op) (f : ℕ) (args results : List ℕ) → op ≡ o.Call f args results → op_size op ≡ 1
call_size op f args results is = ap op_size is ∙ size_Call f args results

pub function_within : (functions : List Function) (i : ℕ) (c : Function) → slice_get functions i ≡ Some c → count_of c.body + 1 ≤ functions_size functions
function_within [] i c e = absurd (cc)
function_within (f ∷ fs) zero c e =
    let g : count_of f.body ≡ count_of c.body = ap (λ (o : Option Function). count_of (unwrap_or o f).body) e in
    omega (arith, g)
function_within (f ∷ fs) (suc i) c e = let h = function_within fs i c e in omega (arith, h)

pub one_less : (d w : ℕ) → d ≢ 0 → (d - 1) * w + w ≡ d * w
one_less zero w n = absurd (n refl)
one_less (suc d) w n = let s : suc d - 1 ≡ d = omega arith in rw s (omega arith)
