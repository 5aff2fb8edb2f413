-- Which drive a disk is, and how large a drive is, as C is told. Assumes nothing.
use Rattle.questions.specs.Drives.{Identity, Size}
use Rattle.answers_c.specs.declared.drives.Identified.{Identified}
use Rattle.answers_c.specs.declared.drives.Size as declared

-- the mapper's numbers in the fields of the C structs
abbrev pub identity_said : Identity → Identified
identity_said identity =
    record {
      answer = identity.answer;
      block_size = identity.geometry.block_size;
      height = identity.geometry.height;
      publics = identity.geometry.publics;
      hidden = identity.geometry.hidden;
      slots = identity.geometry.slots;
      head = identity.head;
    }

abbrev pub size_said : Size → declared.Size
size_said size = record { answer = size.answer; blocks = size.blocks; bytes = size.bytes }
