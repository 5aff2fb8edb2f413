-- Demand 1: each call's answer by the laws of its chain, and what a refused call and a bad offer leave.
-- Assumes nothing.
use mathlib.Core.Path.{◌≡◌, refl, sym, ap, ◌∙◌}
use mathlib.Core.Logic.{◌≢◌}
use mathlib.Core.List.{List, []}
use Prim.Native.Nat.{ℕ, ◌+◌, ◌≤◌}
use native.Mathlib.Omega.{arith}
use lib.ListN.{length}
use Rattle.laws.proofs.Lists.{over_nil, length_over, get_d_over_after}
use Rattle.model.specs.Geometry.{block_width}
use Rattle.model.specs.Blocks.{Bytes, DiskAddress}
use Rattle.model.specs.Layout.{geometry_in}
use Rattle.model.specs.Stores.{apply, addresses}
use Rattle.model.specs.Rounds.{Run}
use Rattle.model.specs.Refusals.{write_refusal}
use Rattle.model.specs.Calls.{outcome_number, Offered, nothing, offered_writes, Written, refused_write}
use Rattle.model.specs.Calls.{written, written_disk, written_list}
use Rattle.model.specs.Promises.Refusals.{WriteRefusals, Refusals}
use Rattle.model.proofs.Laws.Stores.{apply_nil, length-addresses}
use Rattle.model.proofs.Laws.Formatting.{formatted_refused}
use Rattle.model.proofs.Laws.Calls.{answer_written, hidden_read_when_refused, public_read_when_refused}
use Rattle.model.proofs.Laws.Calls.{write_run_nothing, written_refused, written_same}
use Rattle.model.proofs.Laws.Accepted.{offered_writes_bad}
use Rattle.model.proofs.Laws.LineCalls.{line_read_when_refused, entered_refused, line_left_none}
use Rattle.model.proofs.Refusals.Calls.{answers_format, answers_public_read, answers_hidden_read}
use Rattle.model.proofs.Refusals.Calls.{answers_write}
use Rattle.model.proofs.Refusals.Offers.{answers_offer}
use Rattle.model.proofs.Refusals.Lines.{answers_enter, answers_line_read}
use Rattle.model.proofs.Refusals.Writes.{rounds_done, stores_done, stores_written_le}

module _ (disk : Bytes) (number : ℕ) (content random : Bytes) (list : List DiskAddress)
    (offer : Offered) where
  abbrev result : Written
  result = written disk number content random (length list) offer

  abbrev bare : Written
  bare = written disk number content random (length list) nothing

  -- nothing of a refused write is left open
  result_refused :
      result.answer ≢ 0 →
      result ≡ refused_write (write_refusal disk number content (length random) (length list))
  result_refused f =
      written_refused disk number content random (length list) offer
      (λ e. f (answer_written disk number content random (length list) offer ∙ e))

  -- the list holds the stores' addresses
  stores_fit : 0 + length (addresses result.trace) ≤ length list
  stores_fit =
      omega (
        arith,
        length-addresses result.trace,
        stores_written_le disk number content random (length list) offer,
      )

  -- what brings no hidden write leaves the disk of a write with nothing offered
  unbrought : offered_writes (geometry_in disk) offer ≡ [] → written_disk result disk ≡ written_disk bare disk
  unbrought none =
      written_same disk number content random (length list) offer nothing (λ w. written_disk w disk)
      (λ e. ap (λ (run : Run). apply (block_width (geometry_in disk)) run.trace disk)
      (write_run_nothing (geometry_in disk) disk number content random offer none))

  write_refusals : WriteRefusals disk number content random list offer result bare
  unfolding addresses
  write_refusals =
      record {
        exact =
            rw (answer_written disk number content random (length list) offer)
            (answers_write disk number content (length random) (length list));
        offer_answer =
            written_same disk number content random (length list) offer nothing (λ w. w.answer) (λ e. refl);
        offer_rounds =
            written_same disk number content random (length list) offer nothing (λ w. w.rounds)
            (λ e. rounds_done disk number content random (length list) offer e
            ∙ sym (rounds_done disk number content random (length list) nothing e));
        offer_stores =
            written_same disk number content random (length list) offer nothing (λ w. addresses w.trace)
            (λ e. stores_done disk number content random (length list) offer e
            ∙ sym (stores_done disk number content random (length list) nothing e));
        bad_offer = λ f. unbrought (offered_writes_bad (geometry_in disk) offer f);
        nothing_counts = unbrought;
        refused_rounds = λ f. ap (λ (w : Written). w.rounds) (result_refused f);
        refused_stores = λ f. ap (λ (w : Written). w.trace) (result_refused f);
        refused_outcome = λ f. ap (λ (w : Written). outcome_number w.outcome) (result_refused f);
        refused_placed = λ f. ap (λ (w : Written). w.placed) (result_refused f);
        refused_disk = λ f.
            ap (λ (w : Written). written_disk w disk) (result_refused f)
            ∙ apply_nil (block_width (geometry_in disk)) disk;
        refused_list = λ f.
            ap (λ (w : Written). written_list w list) (result_refused f) ∙ over_nil 0 list (omega arith);
        refused_line = λ f blocks line.
            line_left_none result disk blocks line (ap (λ (w : Written). w.placed) (result_refused f));
        list_length = length_over (addresses result.trace) list 0 stores_fit;
        list_rest = λ index h.
            get_d_over_after (addresses result.trace) list 0 stores_fit index 0
            (omega (arith, length-addresses result.trace));
      }

pub refusals : Refusals
refusals =
    record {
      format_exact = answers_format;
      format_refused = formatted_refused;
      public_read_exact = answers_public_read;
      public_read_refused = public_read_when_refused;
      hidden_read_exact = answers_hidden_read;
      hidden_read_refused = hidden_read_when_refused;
      line_offer_exact = answers_offer;
      enter_exact = answers_enter;
      enter_refused = entered_refused;
      line_read_exact = answers_line_read;
      line_read_refused = line_read_when_refused;
      reads_change_nothing = λ disk number blank asked. (refl, refl);
      writes = write_refusals;
    }
