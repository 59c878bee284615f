-- Where the code of an expression leaves its words, and the operations that read them there. Own.
use Rattle.std.specs.Prelude.{ℕ, zero, suc, ◌+◌, List, [], ◌∷◌, ◌++◌}
use Rattle.wg_typed.specs.Layout.{Range, words_in}
use Rattle.wg_typed.specs.declared.typed.TypedStruct.{TypedStruct}
use Rattle.wg_typed.specs.declared.types.TypeTree.{TypeTree}
use Rattle.wg_typed.specs.Layout.{words_of}
use Rattle.wg_code.specs.declared.op.Op.{Op}
use Rattle.wg_code.specs.declared.op.Op.TheVariants as o
use Rattle.wg_lowered.specs.declared.places.Space.{Space}
use Rattle.wg_lowered.specs.declared.places.Space.TheVariants as space
use Rattle.wg_lowered.specs.declared.places.Where.{Where}
use Rattle.wg_lowered.specs.declared.places.Where.TheVariants as place

-- the text's structs, and how many words each variable of the function and each groupshared variable has
pub record Names : Type 0 where
  pub structs : List TypedStruct
  pub variables : List ℕ
  pub shared : List ℕ

abbrev pub size : Names → TypeTree → ℕ
size k t = words_of k.structs t

-- where a variable begins, where all stand one after another
abbrev pub base_of : List ℕ → ℕ → ℕ
base_of [] n = 0
base_of (size ∷ rest) zero = 0
base_of (size ∷ rest) (suc n) = size + base_of rest n

abbrev pub total : List ℕ → ℕ
total [] = 0
total (n ∷ rest) = n + total rest

-- the first register that is no variable's
abbrev pub variables_end : Names → ℕ
variables_end k = total k.variables

-- code, and where it leaves the words
pub record Piece : Type 0 where
  pub ops : List Op
  pub at : Where

-- code, and the registers in which it leaves the words
pub record Words : Type 0 where
  pub ops : List Op
  pub at : List ℕ

-- so many registers one after another
abbrev pub run : ℕ → ℕ → List ℕ
run at zero = []
run at (suc n) = at ∷ run (suc at) n

-- the same for each of a list, into registers one after another
abbrev pub each_ops : {A : Type 0} → (A → ℕ → List Op) → List A → ℕ → List Op
each_ops code [] d = []
each_ops code (a ∷ rest) d = code a d ++ each_ops code rest (suc d)

abbrev pub copy_op : ℕ → ℕ → List Op
copy_op r d = o.Copy d r ∷ []

abbrev pub set_op : ℕ → ℕ → List Op
set_op v d = o.Set d v ∷ []

-- a word of a range, by an index
abbrev pub get_op : Space → ℕ → ℕ → ℕ → ℕ → ℕ → List Op
get_op space.Own from to index c d = o.LocalGet d (from + c) to index ∷ []
get_op space.Group from to index c d = o.SharedGet d (from + c) to index ∷ []

abbrev pub gets : Space → ℕ → ℕ → ℕ → ℕ → ℕ → List Op
gets sp from to index d n = each_ops (get_op sp from to index) (run 0 n) d

abbrev pub copies : List ℕ → ℕ → List Op
copies registers d = each_ops copy_op registers d

abbrev pub sets : List ℕ → ℕ → List Op
sets values d = each_ops set_op values d

-- the words of a place, where registers from one on are free
abbrev pub fetched_at : Where → ℕ → ℕ → Words
fetched_at (place.Fixed at) n d = record { ops = []; at = run at n }
fetched_at (place.Held registers) n d = record { ops = []; at = registers }
fetched_at (place.Ranged sp from to index) n d = record { ops = gets sp from to index d n; at = run d n }

abbrev pub words_piece : Piece → ℕ → ℕ → Words
words_piece p n d = record { ops = p.ops ++ (fetched_at p.at n d).ops; at = (fetched_at p.at n d).at }

-- a part of a place: no code
abbrev pub part_of : Range → Where → Where
part_of r (place.Fixed at) = place.Fixed (at + r.from)
part_of r (place.Held registers) = place.Held (words_in r registers)
part_of r (place.Ranged sp from to index) = place.Ranged sp (from + r.from) to index

-- an element by an index in register q: d gets where it stands, or a place outside the range
abbrev pub index_ops : List Op → ℕ → ℕ → ℕ → ℕ → ℕ → List Op
index_ops more size words outside q d =
    o.Set d size ∷ o.Binary 14 d q d ∷ o.If d (o.Set d words ∷ o.Binary 2 d q d ∷ more) (o.Set d outside ∷ []) ∷ []
