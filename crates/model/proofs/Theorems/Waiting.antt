-- How long an offer waits: the exact round, how it counts down, and the bounds for one offer and for a place
-- in the line. Assumes nothing.
use mathlib.Core.Path.{◌≡◌, refl, sym, ap, ◌∙◌}
use mathlib.Core.Logic.{◌≢◌, inl, inr}
use mathlib.Core.List.{List, [], ◌∷◌}
use Prim.Native.Nat.{ℕ, suc, ◌+◌, ◌*◌, ◌≤◌, ◌<◌}
use native.Mathlib.Nat.{suc-mul, mul-suc}
use native.Mathlib.Omega.{arith}
use lib.ListN.{length}
use Rattle.model.specs.Geometry.{Geometry, block_width}
use Rattle.model.specs.Blocks.{Bytes}
use Rattle.model.specs.Layout.{geometry_in, head_in}
use Rattle.model.specs.Stores.{apply}
use Rattle.model.specs.Refusals.{drive_refusal, round_count}
use Rattle.model.specs.Line.{Offer}
use Rattle.model.specs.Calls.{Offered, offered_writes, start_state}
use Rattle.model.specs.Waits.{wait_rounds, offers_before}
use Rattle.model.specs.TreeCheck.{tree_refusal}
use Rattle.model.specs.Promises.Waiting.{PublicHalf, half_refusal, half_written, half_disk, first_rounds}
use Rattle.model.specs.Promises.Waiting.{StillWaiting}
use Rattle.model.specs.Promises.Waiting.{ExactRound, Waiting}
use Rattle.model.proofs.Laws.Refusals.{accepted_of_refusal}
use Rattle.model.proofs.Waiting.Live.{Nearest, nearest, near_unique}
use Rattle.model.proofs.Waiting.Runs.{Waits}
use Rattle.model.proofs.Waiting.Writes.{Ahead, WriteWaits, when_placed, goes_on, first_rounds_wait}
use Rattle.model.proofs.Waiting.Writes.{write_waits}
use Rattle.model.proofs.Waiting.Calls.{still_offered, still_waiting}
use Rattle.model.proofs.Theorems.TreeCheck.{accepted_of_pass, sound_of_pass}
use Rattle.model.proofs.Theorems.WaitFigures.{wait_figures}
use Rattle.model.proofs.Theorems.WaitRows.{one_row, second_row}

positive : {A : Type 0} (xs : List A) → xs ≢ [] → 0 < length xs
positive [] ne = absurd (ne refl)
positive (x ∷ xs) ne = omega arith

-- on every drive
first_not_live : (disk : Bytes) → drive_refusal disk ≡ 0 → Nearest (geometry_in disk) disk (head_in disk)
first_not_live disk e =
    let drive = accepted_of_refusal disk e in
    nearest (geometry_in disk) drive.sized.fits disk (head_in disk) drive.head_inside

-- on one that passes the check
module _ (disk : Bytes) (pass : tree_refusal disk ≡ 0) where
  found : Nearest (geometry_in disk) disk (head_in disk)
  found = first_not_live disk (accepted_of_pass disk pass)

  ahead : Ahead disk found.index
  ahead =
      record { accepted = accepted_of_pass disk pass; sound = sound_of_pass disk pass; near = found.near }

  exact_round :
      (half : PublicHalf) (offer : Offered) (most : ℕ) → half_refusal half disk ≡ 0 →
      most ≤ round_count (geometry_in disk) disk → offered_writes (geometry_in disk) offer ≢ [] →
      ExactRound (first_rounds most half disk offer) (wait_rounds (geometry_in disk) disk)
  exact_round half offer most free some counts =
      by (first_rounds_wait half disk offer free found.index ahead most some 0
      (positive (offered_writes (geometry_in disk) offer) counts))
    where
      by : Waits (geometry_in disk)
          (apply (block_width (geometry_in disk)) (first_rounds most half disk offer).trace disk) (head_in disk)
          (start_state (offered_writes (geometry_in disk) offer)) (first_rounds most half disk offer)
          found.index 0 →
          ExactRound (first_rounds most half disk offer) (wait_rounds (geometry_in disk) disk)
      by (inl d) =
          record {
            waits_before = λ l. absurd (omega (arith, l, found.rounds_are, d.late));
            placed_from = λ l. omega (arith, d.placed);
          }
      by (inr m) =
          record {
            waits_before = λ l. omega (arith, m.front_is);
            placed_from = λ l. absurd (omega (arith, l, found.rounds_are, m.spent));
          }

  nearer_by_rounds :
      (half : PublicHalf) (offer : Offered) → offered_writes (geometry_in disk) offer ≢ [] →
      (half_written half disk offer).placed ≡ 0 →
      (half_written half disk offer).rounds + wait_rounds (geometry_in disk) (half_disk half disk offer) ≡
      wait_rounds (geometry_in disk) disk
  nearer_by_rounds half offer counts stays =
      by (write_waits half disk offer found.index ahead 0
      (positive (offered_writes (geometry_in disk) offer) counts))
    where
      by : WriteWaits disk (half_written half disk offer) found.index 0 →
          (half_written half disk offer).rounds + wait_rounds (geometry_in disk) (half_disk half disk offer) ≡
          wait_rounds (geometry_in disk) disk
      by (when_placed l) = absurd (omega (arith, l, stays))
      by (goes_on index_after front_after next same front_is spent no_sooner) =
          let after = half_disk half disk offer in
          let n = first_not_live after next.accepted in
          let e = near_unique (geometry_in after) after (head_in after) index_after n.index next.near
          n.near in
          let told = ap (λ (g : Geometry). wait_rounds g after) (sym same) ∙ n.rounds_are in
          omega (arith, told, e, found.rounds_are, spent, no_sooner, stays, front_is)

  line_left_lem :
      (asked : ℕ) (line : List Offer) (rounds : ℕ) → StillWaiting asked disk line rounds →
      rounds ≤ suc (offers_before asked line) * (geometry_in disk).hidden
  line_left_lem asked line rounds row =
      omega (
        arith,
        still_waiting asked disk line rounds found.index ahead row,
        found.near.few,
        suc-mul (offers_before asked line) (geometry_in disk).hidden,
      )

pub waiting : Waiting
waiting =
    record {
      figures = wait_figures;
      near = λ disk e.
          let n = first_not_live disk e in
          (omega (arith, n.rounds_are), omega (arith, n.rounds_are, n.near.few));
      exact = λ half disk offer most pass. exact_round disk pass half offer most;
      counts_down = λ half disk offer pass counts stays.
          omega (arith, nearer_by_rounds disk pass half offer counts stays);
      one_offer_lem = λ write disk rounds pass good row.
          let l = still_offered write disk rounds (found disk pass).index (ahead disk pass) good row in
          omega (arith, l, (found disk pass).near.few);
      one_reached = one_row;
      in_line_lem = λ asked disk line rounds pass row.
          omega (
            arith,
            line_left_lem disk pass asked line rounds row,
            mul-suc (suc (offers_before asked line)) (geometry_in disk).hidden,
          );
      in_line_most = λ asked disk line rounds pass row.
          omega (arith, line_left_lem disk pass asked line rounds row);
      line_reached = second_row;
    }
