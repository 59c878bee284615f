-- Which names are declared in the own scope, by the last place of each.
use Rattle.std.proofs.Common.{◌≡◌, ℕ, zero, suc, Bool, true, false, List, [], ◌∷◌, map, drop, Option, Some, None, refl, sym, ap, ◌∙◌, arith}
use Rattle.std.proofs.lemmas.Bool.{le-leb}
use Rattle.std.proofs.Math.Dec.{leb-suc-suc, leb-suc-zero}
use Rattle.std.specs.Prelude.{option_map, nat_le, ◌||◌}
use Rattle.std.specs.Option.{option_or}
use Rattle.std.specs.Str.{bytes_eq}
use Rattle.wg_typing.specs.Maybe.{where_true}
use Rattle.wg_typing.specs.Named.{is_among}
use Rattle.wg_typing.specs.Scope.{name_bytes}
use Rattle.wg_typing.specs.declared.scope.Declared.{Declared}
use Rattle.wg_scope.specs.Latest.{last_at, declared_in, known_at, Agrees}
use Rattle.wg_scope.specs.declared.scope.Entry.{Entry}

abbrev pub at_least : ℕ → Option ℕ → Bool
at_least start None = false
at_least start (Some i) = nat_le start i

at_none : (start : ℕ) → false ≡ at_least start None
at_none start = refl

any_or : (b : Bool) (r : Option ℕ) → (b || at_least 0 r) ≡ at_least 0 (option_or (option_map suc r) (where_true b 0))
any_or true None = refl
any_or false None = refl
any_or true (Some i) = sym (le-leb 0 (suc i) (omega arith))
any_or false (Some i) = le-leb 0 i (omega arith) ∙ sym (le-leb 0 (suc i) (omega arith))

past_one : (start : ℕ) (b : Bool) (r : Option ℕ) → at_least start r ≡ at_least (suc start) (option_or (option_map suc r) (where_true b 0))
past_one start true None = sym (leb-suc-zero start)
past_one start false None = refl
past_one start true (Some i) = sym (leb-suc-suc start i)
past_one start false (Some i) = sym (leb-suc-suc start i)

pub declared_from : (start : ℕ) (name : List ℕ) (xs : List Declared) → is_among (map name_bytes (drop start xs)) name ≡ at_least start (last_at name xs)
declared_from zero name [] = refl
declared_from (suc start) name [] = refl
declared_from zero name (d ∷ rest) =
    ap (λ r. bytes_eq d.name.name name || r) (declared_from zero name rest) ∙ any_or (bytes_eq d.name.name name) (last_at name rest)
declared_from (suc start) name (d ∷ rest) = declared_from start name rest ∙ past_one start (bytes_eq d.name.name name) (last_at name rest)

pub declared_as : (start : ℕ) (name : List ℕ) (es : List Entry) (latest : List (List ℕ × Option ℕ)) (at : Option ℕ) → Agrees es latest → at ≡ known_at latest name
    → is_among (map name_bytes (drop start (declared_in es))) name ≡ at_least start at
declared_as start name es latest at a q = declared_from start name (declared_in es) ∙ ap (at_least start) (sym (q ∙ a.found name))
