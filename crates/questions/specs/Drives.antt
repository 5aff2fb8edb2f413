-- What every caller asks: which drive a disk is, and how large a drive of a geometry is. Assumes nothing.
use Rattle.std.specs.Prelude.{cond, ℕ, eqb, Result, Ok, Err}
use Rattle.model.specs.Geometry.{Geometry, block_count, drive_size, is_geometry}
use Rattle.model.specs.Blocks.{Bytes}
use Rattle.model.specs.Layout.{geometry_in, head_in}
use Rattle.model.specs.Refusals.{drive_refusal}
use Rattle.layout.specs.declared.refusals.Refusal.{Refusal}
use Rattle.layout.specs.Geometries.{geometry_of}
use Rattle.layout.specs.Refusals.{refusal_number}
use Rattle.questions.specs.declared.drives.Identified.{Identified}
use Rattle.questions.specs.declared.drives.Size as declared

-- ---- which drive a disk is ----

-- the answer, and the numbers of the header
pub record Identity : Type 0 where
  pub answer : ℕ
  pub geometry : Geometry
  pub head : ℕ

-- the zeros of a disk that is no drive
abbrev pub no_geometry : Geometry
no_geometry = record { block_size = 0; height = 0; publics = 0; hidden = 0; slots = 0 }

abbrev pub refused_identity : (answer : ℕ) → Identity
refused_identity answer = record { answer = answer; geometry = no_geometry; head = 0 }

abbrev pub told_identity : Geometry → (head : ℕ) → Identity
told_identity g head = record { answer = 0; geometry = g; head = head }

-- what an answer says
abbrev pub identity_of : Result Identified Refusal → Identity
identity_of (Err refusal) = refused_identity (refusal_number refusal)
identity_of (Ok r) = told_identity (geometry_of r.geometry) r.head

-- 1 to 3 and zeros, or 0 and the six numbers of the header
unfoldable pub identity_in : (disk : Bytes) → Identity
identity_in disk =
    cond (eqb (drive_refusal disk) 0) (told_identity (geometry_in disk) (head_in disk))
    (refused_identity (drive_refusal disk))

-- ---- how large a drive is ----

-- the answer, and the drive's size in blocks and in bytes
pub record Size : Type 0 where
  pub answer : ℕ
  pub blocks : ℕ
  pub bytes : ℕ

-- the zeros of what is no geometry
abbrev pub refused_size : (answer : ℕ) → Size
refused_size answer = record { answer = answer; blocks = 0; bytes = 0 }

-- what an answer says
abbrev pub size_of : Result declared.Size Refusal → Size
size_of (Err refusal) = refused_size (refusal_number refusal)
size_of (Ok r) = record { answer = 0; blocks = r.blocks; bytes = r.bytes }

abbrev pub told_size : Geometry → Size
told_size g = record { answer = 0; blocks = block_count g; bytes = drive_size g }

-- 1 and zeros for a geometry outside the limits, or 0, T and T x B
unfoldable pub size_for : Geometry → Size
size_for g = cond (is_geometry g) (told_size g) (refused_size 1)
