-- Demand 3: nothing hidden shows. Each list is compared with its public calls alone, with nothing hidden in
-- them, on the first drive. Assumes nothing.
use mathlib.Core.Path.{◌≡◌, refl, sym, ap, ◌∙◌}
use mathlib.Core.List.{List}
use Rattle.model.specs.Blocks.{Bytes}
use Rattle.model.specs.Refusals.{drive_refusal}
use Rattle.model.specs.View.{Alike}
use Rattle.model.specs.Runs.{Call, PublicCall, public_parts, bare_calls, seen_of_all}
use Rattle.model.specs.Simulator.{Simulator, lengths_of_all, told}
use Rattle.model.specs.Promises.Noninterference.{Simulated, Noninterference}
use Rattle.model.proofs.Laws.Refusals.{drive_of_refusal}
use Rattle.model.proofs.Views.Tracking.{simulator_of-view_of}
use Rattle.model.proofs.Views.Drives.{twins_of_alike, alike_of_twins}
use Rattle.model.proofs.Views.CallLists.{reports_of-seen_of_all, plain_calls, plain_calls_same}
use Rattle.model.proofs.Views.CallLists.{public_parts-bare_calls}

-- ---- alike ----

alike_refl : (disk : Bytes) → drive_refusal disk ≡ 0 → Alike disk disk
alike_refl disk e = record { same_length = refl; accepted = e; other_accepted = e; same_view = refl }

alike_sym : {disk other : Bytes} → Alike disk other → Alike other disk
alike_sym a =
    record {
      same_length = sym a.same_length;
      accepted = a.other_accepted;
      other_accepted = a.accepted;
      same_view = sym a.same_view;
    }

-- two disks that are each alike to one
alike_through : {disk other middle : Bytes} → Alike disk middle → Alike other middle → Alike disk other
alike_through a b =
    record {
      same_length = a.same_length ∙ sym b.same_length;
      accepted = a.accepted;
      other_accepted = b.accepted;
      same_view = a.same_view ∙ sym b.same_view;
    }

-- ---- one drive ----

simulated : (disk : Bytes) (calls : List Call) → drive_refusal disk ≡ 0 → Simulated disk calls
simulated disk calls e =
    let twins = twins_of_alike disk disk (alike_refl disk e) in
    record {
      by_simulator =
          reports_of-seen_of_all calls disk e
          ∙ ap (λ (sim : Simulator). told sim (lengths_of_all (public_parts calls)))
          (sym (simulator_of-view_of disk (drive_of_refusal disk e)));
      without_offers =
          (plain_calls_same calls disk disk twins).seen_same
          ∙ ap (λ (parts : List PublicCall). seen_of_all disk (plain_calls parts))
          (sym (public_parts-bare_calls calls))
          ∙ sym (plain_calls_same (bare_calls calls) disk disk twins).seen_same;
    }

-- ---- two drives ----

pub noninterference : Noninterference
noninterference disk other calls others alike parts =
    let here =
    plain_calls_same calls disk disk (twins_of_alike disk disk (alike_refl disk alike.accepted)) in
    let there = plain_calls_same others other disk (twins_of_alike other disk (alike_sym alike)) in
    record {
      same_seen =
          here.seen_same ∙ ap (λ (ps : List PublicCall). seen_of_all disk (plain_calls ps)) parts
          ∙ sym there.seen_same;
      here = simulated disk calls alike.accepted;
      there = simulated other others alike.other_accepted;
      alike_after =
          alike_through (alike_of_twins _ _ here.twins_after)
          (rw (← parts) at (alike_of_twins _ _ there.twins_after));
    }
