-- What a recovery answers and leaves (document 02, K5). Assumes nothing.
use Rattle.std.specs.Prelude.{◌≡◌, cond, ℕ, eqb}
use Rattle.laws.specs.Checks.{first_of}
use Rattle.model.specs.Geometry.{Geometry}
use Rattle.model.specs.Blocks.{Bytes}
use Rattle.recovery_model.specs.Recovery.{used_entries, map_checks, recovery_refusal, with_marks, without_bits}
use Rattle.recovery_model.specs.Recovery.{recovered}

-- a drive that 1 to 3 do not meet: 17, or its bitmap rebuilt
pub record MendedAs (g : Geometry) (disk after : Bytes) (answer : ℕ) : Type 0 where
  pub answered : answer ≡ first_of (map_checks g disk)
  pub stored :
      after ≡
      cond (eqb (first_of (map_checks g disk)) 0) (with_marks g (used_entries g disk) (without_bits g disk)) disk

-- any disk
pub record RecoveredAs (disk after : Bytes) (answer : ℕ) : Type 0 where
  pub answered : answer ≡ recovery_refusal disk
  pub stored : after ≡ recovered disk
