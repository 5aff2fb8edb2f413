-- Laws of the calls: what reads and writes are, refused or done, when a read is not refused, and what of a
-- write does not depend on its offer. Assumes nothing.
use mathlib.Core.Path.{◌≡◌, sym, ap, ap₂, ◌∙◌, refl}
use mathlib.Core.Logic.{◌≢◌, ⊎_elim}
use mathlib.Core.Bool.{false, cond}
use mathlib.Core.List.{[], ◌++◌}
use Prim.Native.Nat.{ℕ}
use lib.Dec.{eqb}
use lib.ListN.{length}
use borrow.Author.Tests.{eq-eqb, ne_eqb}
use Rattle.laws.specs.Checks.{first_of}
use Rattle.laws.proofs.Cases.{cond_false, cond_true, eq_cases}
use Rattle.laws.proofs.Checks.{zero_of_passed}
use Rattle.model.specs.Geometry.{Geometry, block_width}
use Rattle.model.specs.Blocks.{Bytes, DiskAddress, block_at}
use Rattle.model.specs.Layout.{geometry_in, head_in, map_entry}
use Rattle.model.specs.HiddenTree.{walk, is_damaged}
use Rattle.model.specs.Rounds.{run_from}
use Rattle.model.specs.Refusals.{drive_refusal, hidden_checks, hidden_read_refusal, place_checks}
use Rattle.model.specs.Refusals.{public_read_refusal, walk_checks, write_refusal}
use Rattle.model.specs.Calls.{public_read, shown_at, hidden_read, Offered, nothing, offer_refusal}
use Rattle.model.specs.Calls.{offered_writes, start_state, write_run, Written, refused_write, done_write}
use Rattle.model.specs.Calls.{written}
use Rattle.model.proofs.Laws.Refusals.{after_drive_pass}
use Rattle.model.proofs.Laws.Accepted.{AcceptedHidden, AcceptedNumber}
use Rattle.model.proofs.Laws.Accepted.{passed_of_accepted, passed_of_hidden}

-- ---- reads ----

-- what an entry shows: the caller's blank, or its block
abbrev pub entry_shown : Geometry → (disk blank : Bytes) → (entry : DiskAddress) → Bytes
entry_shown g disk blank entry = cond (eqb entry 0) blank (block_at (block_width g) disk entry)

module _ (disk : Bytes) (number : ℕ) (blank : Bytes) where
  pub public_read_done :
      public_read_refusal disk number blank ≡ 0 →
      public_read disk number blank ≡
      entry_shown (geometry_in disk) disk blank (map_entry (geometry_in disk) disk number)
  unfolding public_read
  public_read_done e = cond_true _ _ (eq-eqb (public_read_refusal disk number blank) 0 e)

  pub public_read_when_refused : public_read_refusal disk number blank ≢ 0 → public_read disk number blank ≡ []
  unfolding public_read
  public_read_when_refused f = cond_false _ _ (ne_eqb (public_read_refusal disk number blank) 0 f)

  pub hidden_read_done :
      hidden_read_refusal disk number blank ≡ 0 →
      hidden_read disk number blank ≡
      shown_at (geometry_in disk) disk blank (walk (geometry_in disk) disk number).end
  unfolding hidden_read
  hidden_read_done e = cond_true _ _ (eq-eqb (hidden_read_refusal disk number blank) 0 e)

  pub hidden_read_when_refused : hidden_read_refusal disk number blank ≢ 0 → hidden_read disk number blank ≡ []
  unfolding hidden_read
  hidden_read_when_refused f = cond_false _ _ (ne_eqb (hidden_read_refusal disk number blank) 0 f)

  -- when they are not refused, at a geometry that the drive states
  module _ (g : Geometry) (states : geometry_in disk ≡ g) (accepted : drive_refusal disk ≡ 0) where
    pub public_read_refusal_of_accepted :
        AcceptedNumber g disk number (length blank) → public_read_refusal disk number blank ≡ 0
    unfolding public_read_refusal
    public_read_refusal_of_accepted good =
        after_drive_pass disk (place_checks (geometry_in disk) disk number (length blank)) accepted
        ∙ ap (λ (stated : Geometry). first_of (place_checks stated disk number (length blank))) states
        ∙ zero_of_passed (place_checks g disk number (length blank))
        (passed_of_accepted g disk number (length blank) good)

    pub hidden_read_refusal_of_accepted :
        AcceptedHidden g number (length blank) → is_damaged (walk g disk number).end ≡ false →
        hidden_read_refusal disk number blank ≡ 0
    unfolding hidden_read_refusal
    hidden_read_refusal_of_accepted good e =
        after_drive_pass disk _ accepted
        ∙ ap (λ (stated : Geometry). first_of (hidden_checks stated number (length blank) ++
        walk_checks stated disk number)) states
        ∙ zero_of_passed (hidden_checks g number (length blank) ++ walk_checks g disk number)
        (passed_of_hidden g disk number (length blank) good e)

-- ---- the write ----

module _ (disk : Bytes) (number : ℕ) (content random : Bytes) (room : ℕ) where
  abbrev refusal : ℕ
  refusal = write_refusal disk number content (length random) room

  module _ (offer : Offered) where
    -- what a write with this offer gives where it is not refused
    abbrev pub done_with : Written
    done_with =
        done_write (offer_refusal (geometry_in disk) offer)
        (write_run (geometry_in disk) disk number content random offer)

    pub written_done : refusal ≡ 0 → written disk number content random room offer ≡ done_with
    unfolding written
    written_done e = cond_true _ _ (eq-eqb refusal 0 e)

    pub written_refused : refusal ≢ 0 → written disk number content random room offer ≡ refused_write refusal
    unfolding written
    written_refused f = cond_false _ _ (ne_eqb refusal 0 f)

    -- what holds of a write, refused or done
    pub written_cases :
        (P : Written → Type 0) → (refusal ≡ 0 → P done_with) → (refusal ≢ 0 → P (refused_write refusal)) →
        P (written disk number content random room offer)
    written_cases P done refused =
        ⊎_elim (λ e. rw (written_done e) (done e)) (λ f. rw (written_refused f) (refused f))
        (eq_cases refusal 0)

    -- the answer is the refusal, whatever is offered
    pub answer_written : (written disk number content random room offer).answer ≡ refusal
    answer_written = written_cases (λ (w : Written). w.answer ≡ refusal) (λ e. sym e) (λ f. refl)

  -- what is the same in done writes is the same in all
  pub written_same :
      {A : Type 0} (offer other : Offered) (part : Written → A) →
      (refusal ≡ 0 → part (done_with offer) ≡ part (done_with other)) →
      part (written disk number content random room offer) ≡
      part (written disk number content random room other)
  written_same offer other part same =
      written_cases offer (λ (w : Written). part w ≡ part (written disk number content random room other))
      (λ e. same e ∙ ap part (sym (written_done other e))) (λ f. ap part (sym (written_refused other f)))

-- ---- by the hidden writes that are brought ----

module _ (g : Geometry) (disk : Bytes) (number : ℕ) (content random : Bytes) where
  pub write_run_same :
      (offer other : Offered) → offered_writes g offer ≡ offered_writes g other →
      write_run g disk number content random offer ≡ write_run g disk number content random other
  unfolding write_run
  write_run_same offer other e =
      ap (λ writes. run_from g.slots g number content (head_in disk) random disk (start_state writes)) e

  -- what brings nothing is run as nothing is
  pub write_run_nothing :
      (offer : Offered) → offered_writes g offer ≡ [] →
      write_run g disk number content random offer ≡ write_run g disk number content random nothing
  unfolding offered_writes
  write_run_nothing offer e = write_run_same offer nothing e

-- two that are refused alike and bring the same are written alike
pub written_alike :
    (disk : Bytes) (number : ℕ) (content random : Bytes) (room : ℕ) (offer other : Offered) →
    offer_refusal (geometry_in disk) offer ≡ offer_refusal (geometry_in disk) other →
    offered_writes (geometry_in disk) offer ≡ offered_writes (geometry_in disk) other →
    written disk number content random room offer ≡ written disk number content random room other
written_alike disk number content random room offer other p q =
    written_same disk number content random room offer other (λ (made : Written). made)
    (λ e. ap₂ done_write p (write_run_same (geometry_in disk) disk number content random offer other q))
