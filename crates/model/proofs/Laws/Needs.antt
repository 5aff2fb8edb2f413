-- What a write takes now: its ways, and its refusal by that of a public read with a blank of one block.
-- Assumes nothing.
use mathlib.Core.Path.{◌≡◌, sym, ap, ◌∙◌}
use mathlib.Core.Logic.{◌≢◌}
use mathlib.Core.List.{List, [], ◌∷◌, ◌++◌, append_assoc}
use Prim.Native.Nat.{ℕ}
use lib.Dec.{eqb}
use lib.ListN.{length}
use borrow.Author.Tests.{eq-eqb, ne_eqb}
use Rattle.laws.specs.Checks.{Check, check, first_of}
use Rattle.laws.proofs.Cases.{cond_true, cond_false}
use Rattle.laws.proofs.Checks.{first_of_nil, first_of_stop, first_of_pass, first_of-append_stop}
use Rattle.laws.proofs.Checks.{first_of-append-zero}
use Rattle.model.specs.Blocks.{Bytes}
use Rattle.model.specs.Layout.{geometry_in}
use Rattle.model.specs.Refusals.{drive_checks, place_checks, round_count, public_read_refusal}
use Rattle.model.specs.Needs.{needs_refusal, refused_needs, needed_for, needs_of}
use Rattle.model.proofs.Laws.Accepted.{numbered_read}

-- ---- the ways to an answer ----

module _ (disk : Bytes) (number : ℕ) where
  pub needs_of_refused : (answer : ℕ) → answer ≡ needs_refusal disk number → answer ≢ 0 →
      refused_needs answer ≡ needs_of disk number
  unfolding needs_of
  needs_of_refused answer e f =
      ap refused_needs e ∙ sym (cond_false _ _ (ne_eqb (needs_refusal disk number) 0 (λ z. f (e ∙ z))))

  pub needs_of_good : needs_refusal disk number ≡ 0 →
      needed_for (geometry_in disk) disk number ≡ needs_of disk number
  unfolding needs_of
  needs_of_good e = sym (cond_true _ _ (eq-eqb (needs_refusal disk number) 0 e))

-- ---- the refusal of a read, then 7 ----

-- 7 alone
abbrev pub last_check : (disk : Bytes) → List Check
last_check disk = check (eqb (round_count (geometry_in disk) disk) 0) 7 ∷ []

module _ (disk : Bytes) (number : ℕ) (blank : Bytes) (whole : length blank ≡ (geometry_in disk).block_size) where
  -- 1 to 6 of a read
  abbrev front : List Check
  front = drive_checks disk ++ place_checks (geometry_in disk) disk number (length blank)

  joined : needs_refusal disk number ≡ first_of (front ++ last_check disk)
  unfolding needs_refusal
  joined =
      ap (λ (size : ℕ).
      first_of (drive_checks disk ++ (place_checks (geometry_in disk) disk number size ++ last_check disk)))
      (sym whole)
      ∙ ap first_of (sym (append_assoc (drive_checks disk)
      (place_checks (geometry_in disk) disk number (length blank)) (last_check disk)))

  pub needs_refusal_refused : public_read_refusal disk number blank ≢ 0 →
      public_read_refusal disk number blank ≡ needs_refusal disk number
  unfolding public_read_refusal
  needs_refusal_refused f = sym (joined ∙ first_of-append_stop front (last_check disk) f)

  module _ (good : public_read_refusal disk number blank ≡ 0) where
    passed : needs_refusal disk number ≡ first_of (last_check disk)
    unfolding public_read_refusal
    passed =
        joined
        ∙ first_of-append-zero front (last_check disk) (numbered_read disk number (length blank)) good

    pub needs_refusal_full : round_count (geometry_in disk) disk ≡ 0 → 7 ≡ needs_refusal disk number
    needs_refusal_full z = sym (passed ∙ first_of_stop 7 [] (eq-eqb (round_count (geometry_in disk) disk) 0 z))

    pub needs_refusal_good : round_count (geometry_in disk) disk ≢ 0 → needs_refusal disk number ≡ 0
    needs_refusal_good f =
        passed ∙ first_of_pass 7 [] (ne_eqb (round_count (geometry_in disk) disk) 0 f) ∙ first_of_nil
