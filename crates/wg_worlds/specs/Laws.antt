-- The laws of worlds as terms, for the laws of an implementation of bodies, which call no function. Their contracts are in src/laws.rt.
use Rattle.std.specs.Prelude.{◌≡◌, ℕ, ◌+◌, ◌<◌, ◌^◌, List, Option, Some, length, slice_get, slice_set}
use Rattle.wg_machine.specs.declared.shape.Output.{Output}
use Rattle.wg_machine.specs.declared.shape.Shape.{Shape}
use Rattle.wg_machine.specs.declared.shape.Unit.{Unit}
use Rattle.wg_machine.specs.declared.launch.Launch.{Launch}
use Rattle.wg_machine.specs.Buffers.{Buffers, lengths_of, with_word}
use Rattle.wg_machine.specs.GoodShape.{IsGoodShape}
use Rattle.wg_machine.specs.LaunchMeaning.{FitsShape, KeepsLaws}
use Rattle.wg_state.specs.Launching.{record_words_of, world_before, outcome_with}
use Rattle.wg_state.specs.Requests.{requested, closed}
use Rattle.wg_state.specs.declared.world.Grant.{Grant}
use Rattle.wg_state.specs.declared.world.Request.{Request}
use Rattle.wg_state.specs.declared.world.World.{World}
use Rattle.wg_worlds.specs.Lawful.{IsLawfulWorld, IsRewritten}
use Rattle.wg_worlds.specs.Endings.{keeps_laws}
use Rattle.wg_worlds.specs.Kept.{begins, request_kept, one_grant, closed_kept, record_kept, inputs_kept, buffers_kept}
use Rattle.wg_worlds.specs.Lists.{lengths_written}

-- what lanes do leaves a world lawful
pub record WorldLaws : Type 0 where
  pub request : (unit : Unit) (inputs buffers : List ℕ) (w : World) (r : Request) → IsLawfulWorld unit inputs buffers w → IsLawfulWorld unit inputs buffers (requested unit.outputs r w)
  pub one_grant : (outputs : List Output) (r : Request) (w : World) → length (requested outputs r w).grants ≡ length w.grants + 1
  pub close : (unit : Unit) (inputs buffers : List ℕ) (w : World) (at : Option ℕ) → IsLawfulWorld unit inputs buffers w → IsLawfulWorld unit inputs buffers (closed at w)
  pub write_record : (unit : Unit) (inputs buffers : List ℕ) (w : World) (at : ℕ) (old new : Grant) → IsLawfulWorld unit inputs buffers w → slice_get w.grants at ≡ Some old → IsRewritten old new
      → IsLawfulWorld unit inputs buffers (record w { grants = slice_set w.grants at new })
  pub write_input : (unit : Unit) (inputs buffers : List ℕ) (w : World) (new : List (List ℕ)) → IsLawfulWorld unit inputs buffers w → lengths_of new ≡ lengths_of w.inputs → IsLawfulWorld unit inputs buffers (record w { inputs = new })
  pub write_buffer : (unit : Unit) (inputs buffers : List ℕ) (w : World) (new : Buffers) → IsLawfulWorld unit inputs buffers w → lengths_of new ≡ lengths_of w.buffers → IsLawfulWorld unit inputs buffers (record w { buffers = new })
  pub lengths : (lists : List (List ℕ)) (list at value : ℕ) → lengths_of (with_word lists list at value) ≡ lengths_of lists

-- a launch begins lawful, and one that ends so keeps to the laws of a launch
pub record LaunchLaws : Type 0 where
  pub begins : (shared : List (List ℕ)) (unit : Unit) (launch : Launch) (buffers : Buffers) → IsLawfulWorld unit (lengths_of (record_words_of launch)) (lengths_of buffers) (world_before shared unit launch buffers)
  pub keeps : (shape : Shape) (launch : Launch) (buffers : Buffers) (turns left : ℕ) (unit : Unit) (w : World) → IsGoodShape shape → FitsShape shape launch → slice_get shape.units launch.unit ≡ Some unit
      → IsLawfulWorld unit (lengths_of (record_words_of launch)) (lengths_of buffers) w → length w.grants < 2 ^ 32 → KeepsLaws shape launch buffers turns (outcome_with unit turns w left)

pub world_laws : WorldLaws
world_laws = record {
  request = λ unit inputs buffers w r l. request_kept unit inputs buffers r w l;
  one_grant = one_grant;
  close = closed_kept;
  write_record = record_kept;
  write_input = inputs_kept;
  write_buffer = buffers_kept;
  lengths = lengths_written;
}

pub launch_laws : LaunchLaws
launch_laws = record { begins = begins; keeps = keeps_laws }
