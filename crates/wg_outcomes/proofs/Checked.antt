-- Checked code is the code that was checked.
use Rattle.std.proofs.Common.{◌≡◌, ap, Bool, true, false, Option, Some, None}
use Rattle.std.specs.Prelude.{if◌then◌else◌, unwrap_or}
use Rattle.wg_code.specs.declared.code.RawCode.{RawCode}

pub is_raw : (valid : Bool) (raw code : RawCode) → Some code ≡ (if valid then Some raw else None) → code ≡ raw
is_raw true raw code e = ap (λ (o : Option RawCode). unwrap_or o raw) e
is_raw false raw code e = absurd (cc)
