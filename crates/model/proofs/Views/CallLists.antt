-- Lists of calls: what is seen of one is what the simulator tells, and what its public calls give with
-- nothing hidden in them, on any drive that shows the same. Assumes nothing.
use mathlib.Core.Path.{◌≡◌, refl, sym, ap, ap₂, ◌∙◌}
use mathlib.Core.Bool.{cond}
use mathlib.Core.List.{List, [], ◌∷◌}
use Rattle.model.specs.Calls.{nothing}
use Prim.Native.Nat.{ℕ}
use lib.ListN.{length, replicate, length-replicate}
use Rattle.model.specs.Blocks.{Bytes, DiskAddress}
use Rattle.model.specs.Refusals.{drive_refusal, public_read_refusal}
use Rattle.model.specs.Calls.{public_read, written, written_disk}
use Rattle.model.specs.View.{view_of}
use Rattle.model.specs.Runs.{Call, read_public, ask_hidden, write, disk_after_all, PublicCall, public_parts}
use Rattle.model.specs.Runs.{bare_calls, Seen, seen_of_write, seen_of_all}
use Rattle.model.specs.Simulator.{Simulator, lengths_of_all, Told, told_of, told, report_of, reports_of}
use Rattle.model.proofs.Views.Tracking.{tracker_of}
use Rattle.model.proofs.Views.Answers.{read_lengths, write_lengths, simulated_answer_read}
use Rattle.model.proofs.Views.Follows.{told_ext, told_of_refused, simulator_after_refused}
use Rattle.model.proofs.Views.Follows.{written_follows}
use Rattle.model.proofs.Views.Drives.{Twins, tracker_of_twins, view_of_twins, public_read_refusal_twins}
use Rattle.model.proofs.Views.Drives.{public_read_twins}
use Rattle.model.proofs.Views.SideWrites.{written_disk_twins}

-- ---- the simulator ----

-- what is seen of a public read
abbrev read_seen : (disk : Bytes) → (number : ℕ) → (blank : Bytes) → Seen
read_seen disk number blank =
    record {
      answer = public_read_refusal disk number blank;
      shown = public_read disk number blank;
      rounds = 0;
      stores = 0;
      entries = [];
      view = view_of disk;
    }

read_told :
    (disk : Bytes) → drive_refusal disk ≡ 0 → (number : ℕ) (blank : Bytes) →
    report_of (read_seen disk number blank) ≡ told_of (tracker_of disk) (read_lengths number (length blank))
read_told disk accepted number blank =
    told_ext (sym (simulated_answer_read disk accepted number blank)) refl refl refl
    ∙ sym (told_of_refused (tracker_of disk) (read_lengths number (length blank)) refl)

pub reports_of-seen_of_all :
    (calls : List Call) (disk : Bytes) → drive_refusal disk ≡ 0 →
    reports_of (seen_of_all disk calls) ≡ told (tracker_of disk) (lengths_of_all (public_parts calls))
unfolding reports_of seen_of_all told lengths_of_all public_parts
reports_of-seen_of_all [] disk accepted = refl
reports_of-seen_of_all (read_public number blank ∷ calls) disk accepted =
    ap₂ {C = List Told} (λ (x : Told) (xs : List Told). x ∷ xs) (read_told disk accepted number blank)
    (reports_of-seen_of_all calls disk accepted
    ∙ ap (λ (sim : Simulator). told sim (lengths_of_all (public_parts calls)))
    (sym (simulator_after_refused (tracker_of disk) (read_lengths number (length blank)) refl)))
reports_of-seen_of_all (ask_hidden asked ∷ calls) disk accepted = reports_of-seen_of_all calls disk accepted
reports_of-seen_of_all (write number content random list offer ∷ calls) disk accepted =
    let f = written_follows disk accepted number content random list offer in
    ap₂ {C = List Told} (λ (x : Told) (xs : List Told). x ∷ xs) f.told_same
    (reports_of-seen_of_all calls (written_disk (written disk number content random (length list) offer) disk)
    f.accepted_after
    ∙ ap (λ (sim : Simulator). told sim (lengths_of_all (public_parts calls))) f.tracker_after)

-- ---- nothing hidden ----

-- a public call with nothing hidden in it: no offer, zeros for random bytes and list
abbrev plain_call : PublicCall → Call
plain_call call =
    cond call.is_write
    (write call.number call.content (replicate call.random 0) (replicate call.room 0) nothing)
    (read_public call.number call.content)

unfoldable pub plain_calls : List PublicCall → List Call
plain_calls [] = []
plain_calls (call ∷ calls) = plain_call call ∷ plain_calls calls

seen_ext :
    {seen other : Seen} → report_of seen ≡ report_of other → seen.shown ≡ other.shown →
    seen.view ≡ other.view → seen ≡ other
seen_ext p q r = λ i.
    record {
      answer = (p i).answer;
      shown = q i;
      rounds = (p i).rounds;
      stores = (p i).stores;
      entries = (p i).entries;
      view = r i;
    }

-- what is seen of two lists on two drives, and the drives that they leave
pub record SeenSame (disk other : Bytes) (calls others : List Call) : Type 0 where
  pub seen_same : seen_of_all disk calls ≡ seen_of_all other others
  pub twins_after : Twins (disk_after_all disk calls) (disk_after_all other others)

pub plain_calls_same :
    (calls : List Call) (disk other : Bytes) → Twins disk other →
    SeenSame disk other calls (plain_calls (public_parts calls))
unfolding seen_of_all disk_after_all public_parts plain_calls
plain_calls_same [] disk other twins = record { seen_same = refl; twins_after = twins }
plain_calls_same (read_public number blank ∷ calls) disk other twins =
    let later = plain_calls_same calls disk other twins in
    record {
      seen_same = ap₂ {C = List Seen} (λ (x : Seen) (xs : List Seen). x ∷ xs) first later.seen_same;
      twins_after = later.twins_after;
    }
  where
    first : read_seen disk number blank ≡ read_seen other number blank
    first =
        seen_ext (told_ext (public_read_refusal_twins disk other twins number blank) refl refl refl)
        (public_read_twins disk other twins number blank) (view_of_twins disk other twins)
plain_calls_same (ask_hidden asked ∷ calls) disk other twins =
    let later = plain_calls_same calls disk other twins in
    record { seen_same = later.seen_same; twins_after = later.twins_after }
plain_calls_same (write number content random list offer ∷ calls) disk other twins =
    let later = plain_calls_same calls _ _ after in
    record {
      seen_same = ap₂ {C = List Seen} (λ (x : Seen) (xs : List Seen). x ∷ xs) first later.seen_same;
      twins_after = later.twins_after;
    }
  where
    zeros : Bytes
    zeros = replicate (length random) 0

    room : List DiskAddress
    room = replicate (length list) 0

    after : Twins (written_disk (written disk number content random (length list) offer) disk)
        (written_disk (written other number content zeros (length room) nothing) other)
    after =
        written_disk_twins disk other twins number content random zeros
        (sym (length-replicate (length random) 0)) list room
        (sym (length-replicate (length list) 0)) offer nothing

    first : seen_of_write (written disk number content random (length list) offer) disk list ≡
        seen_of_write (written other number content zeros (length room) nothing) other room
    first =
        seen_ext
        ((written_follows disk twins.accepted number content random list offer).told_same
        ∙ lengths (sym (length-replicate (length random) 0)) (sym (length-replicate (length list) 0))
        ∙ sym (written_follows other twins.other_accepted number content zeros room nothing).told_same)
        refl (view_of_twins _ _ after)
      where
        lengths : length random ≡ length zeros → length list ≡ length room →
            told_of (tracker_of disk) (write_lengths number (length content) (length random) (length list)) ≡
            told_of (tracker_of other) (write_lengths number (length content) (length zeros) (length room))
        lengths p q =
            ap (λ (sim : Simulator). told_of sim
            (write_lengths number (length content) (length random) (length list)))
            (tracker_of_twins disk other twins)
            ∙ ap₂ (λ (n m : ℕ). told_of (tracker_of other) (write_lengths number (length content) n m)) p q

-- a bare list has the same public calls
pub public_parts-bare_calls : (calls : List Call) → public_parts (bare_calls calls) ≡ public_parts calls
unfolding public_parts bare_calls
public_parts-bare_calls [] = refl
public_parts-bare_calls (read_public number blank ∷ calls) = rw (public_parts-bare_calls calls)
public_parts-bare_calls (ask_hidden asked ∷ calls) = public_parts-bare_calls calls
public_parts-bare_calls (write number content random list offer ∷ calls) = rw (public_parts-bare_calls calls)
