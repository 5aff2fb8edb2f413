-- The whole-tree check (document 02, K1): its answer is exact, it passes just the drives with the hidden
-- invariant, and on a drive that passes no later call meets damage. Assumes nothing.
use Rattle.std.specs.Prelude.{◌≡◌, ◌≢◌, List, ◌++◌, ℕ}
use Rattle.model.specs.Geometry.{Geometry}
use Rattle.model.specs.Blocks.{Bytes}
use Rattle.model.specs.Layout.{geometry_in}
use Rattle.model.specs.Refusals.{format_refusal, drive_refusal, public_read_refusal, hidden_read_refusal}
use Rattle.model.specs.Line.{Offer}
use Rattle.model.specs.Calls.{formatted, outcome_number, Offered, Written, written, line_read_refusal}
use Rattle.model.specs.Invariants.{HiddenInvariant}
use Rattle.model.specs.Conditions.{Answers, drive_conditions}
use Rattle.model.specs.Runs.{Call, disk_after_all}
use Rattle.model.specs.TreeCheck.{tree_refusal}
use Rattle.model.specs.TreeConditions.{tree_conditions}
use Rattle.model.specs.Promises.TreeFigures.{TreeFigures}

-- a write does not give 12, as an answer or as an outcome; the answer on no drive, as its chain has no 12
pub record Undamaged (result : Written) : Type 0 where
  pub answer : result.answer ≢ 12
  pub outcome : outcome_number result.outcome ≢ 12

-- neither read, also through a line, and no write, whatever it is given, gives 12; a public read on no drive,
-- as its chain has no 12, and nor have the refusals of the other calls
pub record NeverDamaged (disk : Bytes) : Type 0 where
  pub public_answer : (number : ℕ) (blank : Bytes) → public_read_refusal disk number blank ≢ 12
  pub hidden_answer : (number : ℕ) (blank : Bytes) → hidden_read_refusal disk number blank ≢ 12
  pub line_answer_lem :
      (number : ℕ) (blank blocks : Bytes) (line : List Offer) →
      line_read_refusal disk number blank blocks line ≢ 12
  pub writes :
      (number : ℕ) (content random : Bytes) (room : ℕ) (offer : Offered) →
      Undamaged (written disk number content random room offer)

pub record TreeCheck : Type 0 where
  -- drives worked out by hand
  pub figures : TreeFigures
  -- 1 to 3, then the first of 13 to 15 in the order of the check
  pub exact :
      (disk : Bytes) →
      Answers (drive_conditions disk ++ tree_conditions (geometry_in disk) disk) (tree_refusal disk)
  -- 0 exactly if refusals 1 to 3 do not meet and the hidden invariant holds
  pub passed_accepted : (disk : Bytes) → tree_refusal disk ≡ 0 → drive_refusal disk ≡ 0
  pub passed_sound : (disk : Bytes) → tree_refusal disk ≡ 0 → HiddenInvariant (geometry_in disk) disk
  pub sound_passes :
      (disk : Bytes) → drive_refusal disk ≡ 0 → HiddenInvariant (geometry_in disk) disk → tree_refusal disk ≡ 0
  -- a drive that passes still passes after every call of any list, and no call after them gives 12
  pub kept :
      (disk : Bytes) (calls : List Call) → tree_refusal disk ≡ 0 → tree_refusal (disk_after_all disk calls) ≡ 0
  pub never_damaged :
      (disk : Bytes) (calls : List Call) → tree_refusal disk ≡ 0 → NeverDamaged (disk_after_all disk calls)
  -- a fresh drive passes, and formatting keeps one that passes, refused or not
  pub fresh : (disk : Bytes) (g : Geometry) → format_refusal disk g ≡ 0 → tree_refusal (formatted disk g) ≡ 0
  pub format_kept : (disk : Bytes) (g : Geometry) → tree_refusal disk ≡ 0 → tree_refusal (formatted disk g) ≡ 0
