-- The chains of the calls taken apart: which check a call's refusal is of, after the drive's, for the
-- geometry that was read from the header. Public read, hidden read, write, and what a write takes. Assumes
-- nothing.
use mathlib.Core.Path.{◌≡◌, refl, sym, ap, ◌∙◌}
use mathlib.Core.Logic.{◌≢◌, ⊎_elim}
use mathlib.Core.Bool.{true, false}
use mathlib.Core.List.{List, [], ◌++◌}
use Prim.Native.Nat.{ℕ, ◌*◌, ◌<◌}
use native.Mathlib.Omega.{arith}
use lib.ListN.{length}
use borrow.Author.Tests.{eq-eqb, ne_eqb}
use Rattle.laws.specs.Checks.{Check, first_of}
use Rattle.laws.proofs.Checks.{Passed, passed_of_zero, first_of_nil, first_of_stop, first_of_pass}
use Rattle.laws.proofs.Checks.{first_of-append_stop, first_of-append_pass}
use Rattle.model.specs.Geometry.{Geometry, block_count}
use Rattle.model.specs.Blocks.{Bytes}
use Rattle.model.specs.Layout.{geometry_in, map_entry}
use Rattle.model.specs.HiddenTree.{End, is_damaged, walk}
use Rattle.model.specs.Refusals.{drive_checks, drive_refusal, place_checks, hidden_checks, walk_checks}
use Rattle.model.specs.Refusals.{round_count, write_store_count, round_checks}
use Rattle.model.specs.Refusals.{public_read_refusal, hidden_read_refusal, write_refusal}
use Rattle.model.specs.Needs.{Needed, needs_refusal, refused_needs, needed_for, needs_of}
use Rattle.model.proofs.Laws.Places.{Placed, old_of_placed}
use Rattle.model.proofs.Laws.Refusals.{after_drive_stop, after_drive_pass, drive_refusal_of_chain}
use Rattle.model.proofs.Laws.Accepted.{AcceptedNumber, accepted_of_passed}
use Rattle.model.proofs.Laws.Needs.{last_check, needs_of_refused, needs_of_good}

-- ---- a public number's checks ----

passed_of_place :
    (g : Geometry) (disk : Bytes) (number size : ℕ) → first_of (place_checks g disk number size) ≡ 0 →
    Passed (place_checks g disk number size)
unfolding place_checks
passed_of_place g disk number size =
    passed_of_zero (place_checks g disk number size)
    (λ z. omega arith, ((λ z. omega arith), ((λ z. omega arith), tt)))

pub accepted_of_place :
    (g : Geometry) (disk : Bytes) (number size : ℕ) → first_of (place_checks g disk number size) ≡ 0 →
    AcceptedNumber g disk number size
accepted_of_place g disk number size e =
    accepted_of_passed g disk number size (passed_of_place g disk number size e)

-- an entry that is not 0 is on the drive
pub entry_inside :
    (g : Geometry) (disk : Bytes) (number : ℕ) → Placed g disk number → map_entry g disk number ≢ 0 →
    map_entry g disk number < block_count g
entry_inside g disk number placed some =
    ⊎_elim (λ z. absurd (some z)) (λ block. block.address_inside) (old_of_placed g disk number placed)

-- ---- the public read ----

module _ (disk : Bytes) (number : ℕ) (blank : Bytes) where
  pub public_read_refusal_drive :
      {fault : ℕ} → fault ≡ drive_refusal disk → fault ≢ 0 → fault ≡ public_read_refusal disk number blank
  unfolding public_read_refusal
  public_read_refusal_drive e f = e ∙ sym (after_drive_stop disk _ (λ z. f (e ∙ z)))

  pub public_read_refusal_place :
      drive_refusal disk ≡ 0 → (g : Geometry) → g ≡ geometry_in disk → {fault : ℕ} →
      fault ≡ first_of (place_checks g disk number (length blank)) →
      fault ≡ public_read_refusal disk number blank
  unfolding public_read_refusal
  public_read_refusal_place accepted g same e =
      e ∙ ap (λ (h : Geometry). first_of (place_checks h disk number (length blank))) same
      ∙ sym (after_drive_pass disk _ accepted)

  pub drive_refusal_of-public_read : public_read_refusal disk number blank ≡ 0 → drive_refusal disk ≡ 0
  unfolding public_read_refusal
  drive_refusal_of-public_read = drive_refusal_of_chain disk _

-- ---- the hidden read ----

module _ (disk : Bytes) (number : ℕ) (blank : Bytes) where
  pub hidden_read_refusal_drive :
      {fault : ℕ} → fault ≡ drive_refusal disk → fault ≢ 0 → fault ≡ hidden_read_refusal disk number blank
  unfolding hidden_read_refusal
  hidden_read_refusal_drive e f = e ∙ sym (after_drive_stop disk _ (λ z. f (e ∙ z)))

  pub drive_refusal_of-hidden_read : hidden_read_refusal disk number blank ≡ 0 → drive_refusal disk ≡ 0
  unfolding hidden_read_refusal
  drive_refusal_of-hidden_read = drive_refusal_of_chain disk _

  module _ (accepted : drive_refusal disk ≡ 0) (g : Geometry) (same : g ≡ geometry_in disk) {bad : ℕ}
      (e : bad ≡ first_of (hidden_checks g number (length blank))) where
    abbrev own : List Check
    own = hidden_checks (geometry_in disk) number (length blank)

    bad_is : bad ≡ first_of own
    bad_is = e ∙ ap (λ (h : Geometry). first_of (hidden_checks h number (length blank))) same

    pub hidden_read_refusal_number : bad ≢ 0 → bad ≡ hidden_read_refusal disk number blank
    unfolding hidden_read_refusal
    hidden_read_refusal_number f =
        bad_is ∙ sym (after_drive_pass disk _ accepted ∙ first_of-append_stop own _ (λ z. f (bad_is ∙ z)))

    module _ (good : bad ≡ 0) {end : End} (w : end ≡ (walk g disk number).end) where
      end_is : end ≡ (walk (geometry_in disk) disk number).end
      end_is = w ∙ ap (λ (h : Geometry). (walk h disk number).end) same

      -- the walk's check decides
      by_walk : hidden_read_refusal disk number blank ≡ first_of (walk_checks (geometry_in disk) disk number)
      unfolding hidden_read_refusal hidden_checks
      by_walk =
          after_drive_pass disk _ accepted
          ∙ first_of-append_pass own _
          (passed_of_zero own (λ z. omega arith, ((λ z. omega arith), tt)) (sym bad_is ∙ good))

      pub hidden_read_refusal_damaged : is_damaged end ≡ true → 12 ≡ hidden_read_refusal disk number blank
      unfolding walk_checks
      hidden_read_refusal_damaged p = sym (by_walk ∙ first_of_stop 12 [] (ap is_damaged (sym end_is) ∙ p))

      pub hidden_read_refusal_good : is_damaged end ≡ false → hidden_read_refusal disk number blank ≡ 0
      unfolding walk_checks
      hidden_read_refusal_good p = by_walk ∙ first_of_pass 12 [] (ap is_damaged (sym end_is) ∙ p) ∙ first_of_nil

-- ---- a public number between the drive and the rest ----

module _ (disk : Bytes) (number size : ℕ) (rest : List Check) where
  abbrev chain : ℕ
  chain = first_of (drive_checks disk ++ (place_checks (geometry_in disk) disk number size ++ rest))

  chain_drive : {fault : ℕ} → fault ≡ drive_refusal disk → fault ≢ 0 → fault ≡ chain
  chain_drive e f = e ∙ sym (after_drive_stop disk _ (λ z. f (e ∙ z)))

  module _ (accepted : drive_refusal disk ≡ 0) (g : Geometry) (same : g ≡ geometry_in disk) {fault : ℕ}
      (e : fault ≡ first_of (place_checks g disk number size)) where
    abbrev place : List Check
    place = place_checks (geometry_in disk) disk number size

    fault_is : fault ≡ first_of place
    fault_is = e ∙ ap (λ (h : Geometry). first_of (place_checks h disk number size)) same

    chain_place : fault ≢ 0 → fault ≡ chain
    chain_place f =
        fault_is
        ∙ sym (after_drive_pass disk (place ++ rest) accepted
        ∙ first_of-append_stop place rest (λ z. f (fault_is ∙ z)))

    chain_rest : fault ≡ 0 → first_of rest ≡ chain
    chain_rest z =
        sym (after_drive_pass disk (place ++ rest) accepted
        ∙ first_of-append_pass place rest
        (passed_of_place (geometry_in disk) disk number size (sym fault_is ∙ z)))

-- ---- the write ----

module _ (disk : Bytes) (number : ℕ) (content : Bytes) (random room : ℕ) where
  abbrev rounds : Geometry → List Check
  rounds g = round_checks g disk number random room

  chain_is :
      chain disk number (length content) (rounds (geometry_in disk)) ≡
      write_refusal disk number content random room
  unfolding write_refusal
  chain_is = refl

  pub write_refusal_drive :
      {fault : ℕ} → fault ≡ drive_refusal disk → fault ≢ 0 →
      fault ≡ write_refusal disk number content random room
  write_refusal_drive e f =
      chain_drive disk number (length content) (rounds (geometry_in disk)) e f ∙ chain_is

  module _ (accepted : drive_refusal disk ≡ 0) (g : Geometry) (same : g ≡ geometry_in disk) {misplaced : ℕ}
      (e : misplaced ≡ first_of (place_checks g disk number (length content))) where
    pub write_refusal_place : misplaced ≢ 0 → misplaced ≡ write_refusal disk number content random room
    write_refusal_place f =
        chain_place disk number (length content) (rounds (geometry_in disk)) accepted g same e f ∙ chain_is

    pub write_refusal_rounds :
        misplaced ≡ 0 → {fault : ℕ} → fault ≡ first_of (rounds g) →
        fault ≡ write_refusal disk number content random room
    write_refusal_rounds z told =
        told ∙ ap (λ (h : Geometry). first_of (rounds h)) same
        ∙ chain_rest disk number (length content) (rounds (geometry_in disk)) accepted g same e z ∙ chain_is

-- ---- what a write takes ----

module _ (disk : Bytes) (number : ℕ) where
  abbrev block_size : ℕ
  block_size = (geometry_in disk).block_size

  chain_needs : chain disk number block_size (last_check disk) ≡ needs_refusal disk number
  unfolding needs_refusal
  chain_needs = refl

  pub needs_of_drive :
      {fault : ℕ} → fault ≡ drive_refusal disk → fault ≢ 0 → refused_needs fault ≡ needs_of disk number
  needs_of_drive e f =
      needs_of_refused disk number _ (chain_drive disk number block_size (last_check disk) e f ∙ chain_needs) f

  module _ (accepted : drive_refusal disk ≡ 0) (g : Geometry) (same : g ≡ geometry_in disk) {misplaced : ℕ}
      (e : misplaced ≡ first_of (place_checks g disk number g.block_size)) where
    sized : misplaced ≡ first_of (place_checks g disk number block_size)
    sized = e ∙ ap (λ (h : Geometry). first_of (place_checks g disk number h.block_size)) same

    pub needs_of_place : misplaced ≢ 0 → refused_needs misplaced ≡ needs_of disk number
    needs_of_place f =
        needs_of_refused disk number _
        (chain_place disk number block_size (last_check disk) accepted g same sized f ∙ chain_needs) f

    module _ (placed : misplaced ≡ 0) where
      last_is : first_of (last_check disk) ≡ needs_refusal disk number
      last_is = chain_rest disk number block_size (last_check disk) accepted g same sized placed ∙ chain_needs

      count_is : round_count g disk ≡ round_count (geometry_in disk) disk
      count_is = ap (λ (h : Geometry). round_count h disk) same

      pub needs_of_full : round_count g disk ≡ 0 → refused_needs 7 ≡ needs_of disk number
      needs_of_full z =
          needs_of_refused disk number 7
          (sym (first_of_stop 7 [] (eq-eqb (round_count (geometry_in disk) disk) 0 (sym count_is ∙ z)))
          ∙ last_is) (λ p. omega arith)

      pub needs_of_some :
          {rounds stores : ℕ} → rounds ≡ round_count g disk → stores ≡ write_store_count g disk number →
          rounds ≢ 0 →
          ◌≡◌ {A = Needed}
          (record { answer = 0; rounds = rounds; stores = stores; random_blocks = rounds * g.height })
          (needs_of disk number)
      needs_of_some {rounds} {stores} counted stored f =
          let told : ◌≡◌ {A = Needed}
          (record { answer = 0; rounds = rounds; stores = stores; random_blocks = rounds * g.height })
          (needed_for g disk number) = cc in
          told ∙ ap (λ (h : Geometry). needed_for h disk number) same
          ∙ needs_of_good disk number (sym
          (sym (first_of_pass 7 [] (ne_eqb (round_count (geometry_in disk) disk) 0
          (λ z. f (counted ∙ count_is ∙ z))) ∙ first_of_nil)
          ∙ last_is))
