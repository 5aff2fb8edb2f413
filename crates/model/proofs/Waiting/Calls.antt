-- Rows of calls on a drive whose hidden volume is sound: however many rounds in a row have not placed an
-- offer, they are fewer than are left to it, alone or behind others in a line. Assumes nothing.
use mathlib.Core.Path.{◌≡◌, sym, ap, subst, ◌∙◌}
use mathlib.Core.Logic.{◌≢◌, inl, inr, ⊎_elim}
use mathlib.Core.Bool.{true}
use mathlib.Core.List.{List, [], ◌∷◌}
use mathlib.Core.Option.{none}
use Prim.Native.Nat.{ℕ, ◌+◌, ◌*◌, ◌≤◌, ◌<◌}
use native.Mathlib.Nat.{mul-le-mul_right, add-mul}
use native.Mathlib.Omega.{arith}
use lib.ListN.{length, take}
use borrow.Author.Tests.{eq-eqb}
use Rattle.laws.proofs.Cases.{lt_cases, true_is_not_false, cond_true}
use Rattle.model.specs.Geometry.{Geometry, block_width}
use Rattle.model.specs.Blocks.{Bytes}
use Rattle.model.specs.Layout.{geometry_in, head_in}
use Rattle.model.specs.Stores.{apply}
use Rattle.model.specs.HiddenHalf.{HiddenWrite}
use Rattle.model.specs.Refusals.{hidden_write_refusal}
use Rattle.model.specs.Line.{Offer, turns, left_after, is_waiting_in, entered, waiting_for}
use Rattle.model.specs.Calls.{one, in_line, offered_writes, start_state, Written, written_disk, line_left}
use Rattle.model.specs.Waits.{offers_before}
use Rattle.model.specs.Promises.Waiting.{half_written, half_disk, first_rounds, StillOffered}
use Rattle.model.specs.Promises.Waiting.{offered_within, offered_then, StillWaiting, waits_within}
use Rattle.model.specs.Promises.Waiting.{waits_then, waits_entered}
use Rattle.model.proofs.Laws.Offers.{offered_writes_one, offered_writes-in_line}
use Rattle.model.proofs.Laws.LineTurns.{length-hidden_writes_of}
use Rattle.model.proofs.Laws.LineCalls.{line_left_is}
use Rattle.model.proofs.Waiting.Rounds.{rounds_left}
use Rattle.model.proofs.Waiting.Runs.{Waits}
use Rattle.model.proofs.Waiting.Writes.{Ahead, WriteWaits, when_placed, goes_on, first_rounds_wait}
use Rattle.model.proofs.Waiting.Writes.{write_waits}
use Rattle.model.proofs.Waiting.Lines.{has_turn, before_turns, before_left, before_entered}
use Rattle.model.proofs.Waiting.Lines.{gone_placed}

-- ---- one offer ----

module _ (write : HiddenWrite) where
  -- it is the one that counts
  one_waits :
      (g : Geometry) → hidden_write_refusal g write.number write.content ≡ 0 →
      0 < length (offered_writes g (one write))
  one_waits g good =
      let e = ap length
      (offered_writes_one g write
      ∙ cond_true (write ∷ []) [] (eq-eqb (hidden_write_refusal g write.number write.content) 0 good)) in
      omega (arith, e)

  pub still_offered :
      (disk : Bytes) (rounds index : ℕ) → Ahead disk index →
      hidden_write_refusal (geometry_in disk) write.number write.content ≡ 0 →
      StillOffered write disk rounds → rounds ≤ index
  still_offered disk rounds index ahead good (offered_within half _ most free some stays) =
      by (first_rounds_wait half disk (one write) free index ahead most some 0
      (one_waits (geometry_in disk) good))
    where
      by : Waits (geometry_in disk)
          (apply (block_width (geometry_in disk)) (first_rounds most half disk (one write)).trace disk)
          (head_in disk) (start_state (offered_writes (geometry_in disk) (one write)))
          (first_rounds most half disk (one write)) index 0 →
          (first_rounds most half disk (one write)).rounds ≤ index
      by (inl d) = absurd (omega (arith, d.placed, stays))
      by (inr m) = omega (arith, m.spent)
  still_offered disk rounds index ahead good (offered_then half _ later stays row) =
      by (write_waits half disk (one write) index ahead 0 (one_waits (geometry_in disk) good))
      (λ (index_after : ℕ) (next : Ahead (half_disk half disk (one write)) index_after)
      (same : geometry_in (half_disk half disk (one write)) ≡ geometry_in disk).
      still_offered (half_disk half disk (one write)) later index_after next
      (ap (λ (g : Geometry). hidden_write_refusal g write.number write.content) same ∙ good) row)
    where
      by : WriteWaits disk (half_written half disk (one write)) index 0 →
          ((index_after : ℕ) → Ahead (half_disk half disk (one write)) index_after →
          geometry_in (half_disk half disk (one write)) ≡ geometry_in disk →
          later ≤ index_after) → (half_written half disk (one write)).rounds + later ≤ index
      by (when_placed l) rest = absurd (omega (arith, l, stays))
      by (goes_on index_after front_after next same front_is spent no_sooner) rest =
          omega (arith, rest index_after next same, spent)

-- ---- a place in a line ----

-- rounds are spent by those in front in the line too, as each one placed from there leaves
spent_line :
    (g : Geometry) (rounds index front index_after front_after placed before left : ℕ) →
    placed + front_after ≡ front → placed + left ≤ before →
    rounds + rounds_left g index_after front_after ≤ rounds_left g index front →
    rounds + rounds_left g index_after left ≤ rounds_left g index before
spent_line g rounds index front index_after front_after placed before left front_is fewer spent =
    let p = ap (λ (n : ℕ). n * g.hidden) front_is in
    omega (
      arith,
      spent,
      p,
      add-mul placed front_after g.hidden,
      add-mul placed left g.hidden,
      mul-le-mul_right g.hidden fewer,
    )

module _ (asked : ℕ) where
  line_waits_lem :
      (g : Geometry) (blocks : Bytes) (line : List Offer) → waiting_for g blocks line asked ≢ none →
      offers_before asked (turns g blocks line) < length (offered_writes g (in_line blocks line))
  line_waits_lem g blocks line counts =
      let e = ap length (offered_writes-in_line g blocks line)
      ∙ length-hidden_writes_of g blocks (turns g blocks line) in
      omega (arith, e, has_turn g blocks asked line counts)

  -- while it waits, those in front of it alone were placed
  placed_front :
      (g : Geometry) (blocks : Bytes) (line : List Offer) (placed : ℕ) →
      waiting_for g blocks line asked ≢ none →
      is_waiting_in (left_after (take placed (turns g blocks line)) line) asked ≡ true →
      placed ≤ offers_before asked (turns g blocks line)
  placed_front g blocks line placed counts waits =
      ⊎_elim
      (λ l.
      true_is_not_false waits
      (gone_placed asked placed (turns g blocks line) line (has_turn g blocks asked line counts) l))
      (λ l. l) (lt_cases (offers_before asked (turns g blocks line)) placed)

  pub still_waiting :
      (disk : Bytes) (line : List Offer) (rounds index : ℕ) → Ahead disk index →
      StillWaiting asked disk line rounds →
      rounds < rounds_left (geometry_in disk) index (offers_before asked line)
  still_waiting disk line rounds index ahead (waits_within half _ blocks _ most free some counts waits) =
      by (first_rounds_wait half disk (in_line blocks line) free index ahead most some
      (offers_before asked (turns g blocks line)) (line_waits_lem g blocks line counts))
    where
      g : Geometry
      g = geometry_in disk

      by : Waits (geometry_in disk)
          (apply (block_width (geometry_in disk)) (first_rounds most half disk (in_line blocks line)).trace disk)
          (head_in disk) (start_state (offered_writes (geometry_in disk) (in_line blocks line)))
          (first_rounds most half disk (in_line blocks line)) index
          (offers_before asked (turns (geometry_in disk) blocks line)) →
          (first_rounds most half disk (in_line blocks line)).rounds <
          rounds_left (geometry_in disk) index (offers_before asked line)
      by (inl d) = absurd (omega (
        arith,
        d.placed,
        placed_front g blocks line (first_rounds most half disk (in_line blocks line)).state.placed counts
            waits,
      ))
      by (inr m) =
          omega (arith, m.spent, mul-le-mul_right g.hidden (before_turns g blocks asked line counts))
  still_waiting disk line rounds index ahead (waits_then half _ blocks _ later counts waits row) =
      by (write_waits half disk (in_line blocks line) index ahead
      (offers_before asked (turns (geometry_in disk) blocks line))
      (line_waits_lem (geometry_in disk) blocks line counts))
      (λ (index_after : ℕ)
      (next : Ahead (half_disk half disk (in_line blocks line)) index_after).
      still_waiting (half_disk half disk (in_line blocks line))
      (line_left (half_written half disk (in_line blocks line)) disk blocks line) later index_after next row)
    where
      result : Written
      result = half_written half disk (in_line blocks line)

      left : List Offer
      left = line_left (half_written half disk (in_line blocks line)) disk blocks line

      left_is : left ≡ left_after (take result.placed (turns (geometry_in disk) blocks line)) line
      left_is = line_left_is result disk blocks line

      placed_few : result.placed ≤ offers_before asked (turns (geometry_in disk) blocks line)
      placed_few =
          placed_front (geometry_in disk) blocks line result.placed counts
          (ap (λ (xs : List Offer). is_waiting_in xs asked) (sym left_is) ∙ waits)

      fewer : result.placed + offers_before asked left ≤ offers_before asked line
      fewer =
          let e = ap (offers_before asked) left_is in
          omega (arith, e, before_left (geometry_in disk) blocks asked result.placed line counts placed_few)

      by : WriteWaits disk result index (offers_before asked (turns (geometry_in disk) blocks line)) →
          ((index_after : ℕ) → Ahead (written_disk result disk) index_after →
          later < rounds_left (geometry_in (written_disk result disk)) index_after (offers_before asked left)) →
          result.rounds + later < rounds_left (geometry_in disk) index (offers_before asked line)
      by (when_placed l) rest = absurd (omega (arith, l, placed_few))
      by (goes_on index_after front_after next same front_is spent no_sooner) rest =
          let less : later < rounds_left (geometry_in disk) index_after (offers_before asked left) =
          subst (λ (h : Geometry). later < rounds_left h index_after (offers_before asked left)) same
          (rest index_after next) in
          let sooner = spent_line (geometry_in disk) result.rounds index
          (offers_before asked (turns (geometry_in disk) blocks line)) index_after front_after result.placed
          (offers_before asked line) (offers_before asked left) front_is fewer spent in
          omega (arith, less, sooner)
  still_waiting disk line rounds index ahead (waits_entered offer _ blocks _ room _ waits row) =
      subst (λ (before : ℕ). rounds < rounds_left (geometry_in disk) index before)
      (before_entered asked offer disk blocks line room waits)
      (still_waiting disk (entered disk offer blocks line room) rounds index ahead row)
