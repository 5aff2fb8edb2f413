-- Lists of calls, the disk that each leaves, and what an inspector sees of them (document 01, "What demand 3
-- compares"). Assumes nothing.
use Rattle.std.specs.Prelude.{Bool, true, false, List, [], ◌∷◌, ◌++◌, ℕ, length, take}
use Rattle.model.specs.Blocks.{Bytes, DiskAddress}
use Rattle.model.specs.Refusals.{public_read_refusal}
use Rattle.model.specs.Line.{Offer}
use Rattle.model.specs.Calls.{public_read, Offered, nothing, Written, written, written_disk, written_list}
use Rattle.model.specs.View.{view_of}

-- ---- calls ----

-- what the owner asks of a drive and its line without a public half: a hidden read, one through a line, and
-- an offer that enters a lent line of this length (document 02, K3); none changes the drive
pub data HiddenCall : Type 0 where
  read_hidden : (number : ℕ) → (blank : Bytes) → HiddenCall
  read_waiting : (number : ℕ) → (blank blocks : Bytes) → (line : List Offer) → HiddenCall
  enter : Offer → (blocks : Bytes) → (line : List Offer) → (room : ℕ) → HiddenCall

pub data Call : Type 0 where
  read_public : (number : ℕ) → (blank : Bytes) → Call
  ask_hidden : HiddenCall → Call
  write : (number : ℕ) → (content random : Bytes) → (list : List DiskAddress) → Offered → Call

-- the disk that a call leaves
abbrev pub disk_after : (disk : Bytes) → Call → Bytes
disk_after disk (read_public number blank) = disk
disk_after disk (ask_hidden asked) = disk
disk_after disk (write number content random list offer) =
    written_disk (written disk number content random (length list) offer) disk

-- the disk that a list of calls leaves, each on the disk that the last one left
unfoldable pub disk_after_all : (disk : Bytes) → List Call → Bytes
disk_after_all disk [] = disk
disk_after_all disk (call ∷ calls) = disk_after_all (disk_after disk call) calls

-- ---- the public part of a call ----

-- what is the same in two lists with the same public calls: of a write's random bytes and list only the
-- lengths
pub record PublicCall : Type 0 where
  pub is_write : Bool
  pub number : ℕ
  pub content : Bytes
  pub random : ℕ
  pub room : ℕ

-- none for a hidden call
abbrev pub public_part : Call → List PublicCall
public_part (read_public number blank) =
    record { is_write = false; number = number; content = blank; random = 0; room = 0 } ∷ []
public_part (ask_hidden asked) = []
public_part (write number content random list offer) =
    record {
      is_write = true;
      number = number;
      content = content;
      random = length random;
      room = length list;
    } ∷ []

unfoldable pub public_parts : List Call → List PublicCall
public_parts [] = []
public_parts (call ∷ calls) = public_part call ++ public_parts calls

-- the same call with nothing offered, a hidden call taken out
abbrev pub bare_call : Call → List Call
bare_call (read_public number blank) = read_public number blank ∷ []
bare_call (ask_hidden asked) = []
bare_call (write number content random list offer) = write number content random list nothing ∷ []

unfoldable pub bare_calls : List Call → List Call
bare_calls [] = []
bare_calls (call ∷ calls) = bare_call call ++ bare_calls calls

-- ---- what an inspector sees ----

-- a public call's answer, the bytes that a read shows, a write's rounds, its stores' count and as many
-- entries from the front of its list, and the view afterwards
pub record Seen : Type 0 where
  pub answer : ℕ
  pub shown : Bytes
  pub rounds : ℕ
  pub stores : ℕ
  pub entries : List DiskAddress
  pub view : Bytes

abbrev pub seen_of_write : Written → (disk : Bytes) → (list : List DiskAddress) → Seen
seen_of_write result disk list =
    record {
      answer = result.answer;
      shown = [];
      rounds = result.rounds;
      stores = length result.trace;
      entries = take (length result.trace) (written_list result list);
      view = view_of (written_disk result disk);
    }

-- nothing is seen of a hidden call
abbrev pub seen_of : (disk : Bytes) → Call → List Seen
seen_of disk (read_public number blank) =
    record {
      answer = public_read_refusal disk number blank;
      shown = public_read disk number blank;
      rounds = 0;
      stores = 0;
      entries = [];
      view = view_of disk;
    } ∷ []
seen_of disk (ask_hidden asked) = []
seen_of disk (write number content random list offer) =
    seen_of_write (written disk number content random (length list) offer) disk list ∷ []

unfoldable pub seen_of_all : (disk : Bytes) → List Call → List Seen
seen_of_all disk [] = []
seen_of_all disk (call ∷ calls) = seen_of disk call ++ seen_of_all (disk_after disk call) calls
