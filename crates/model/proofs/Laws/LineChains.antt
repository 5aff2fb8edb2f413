-- The chains of a line's calls taken apart: which check is the refusal of an offer that enters, and of a
-- hidden read through a line, after the drive's; and what waits under a number, one offer after another.
-- Assumes nothing.
use mathlib.Core.Path.{◌≡◌, refl, sym, ap, ◌∙◌}
use mathlib.Core.Logic.{◌≢◌}
use mathlib.Core.Bool.{cond}
use mathlib.Core.List.{List, [], ◌∷◌, ◌++◌}
use mathlib.Core.Option.{Option, none, some}
use Prim.Native.Nat.{ℕ}
use native.Mathlib.Omega.{arith}
use lib.Dec.{eqb}
use lib.ListN.{length}
use Rattle.laws.specs.Checks.{Check, first_of}
use Rattle.laws.proofs.Checks.{first_of_nil, first_of-append_stop, first_of-append-zero}
use Rattle.model.specs.Geometry.{Geometry}
use Rattle.model.specs.Blocks.{Bytes, block_at}
use Rattle.model.specs.Layout.{geometry_in}
use Rattle.model.specs.Refusals.{drive_checks, drive_refusal, hidden_checks, hidden_write_refusal}
use Rattle.model.specs.Line.{Offer, line_offer_refusal, room_checks, enter_refusal, good_block, waiting_for}
use Rattle.model.specs.Calls.{disk_checks, line_read_refusal}
use Rattle.model.proofs.Laws.Refusals.{after_drive_stop, after_drive_pass, drive_refusal_of_chain}

-- ---- a hidden number between the drive and the rest ----

module _ (disk : Bytes) (number size : ℕ) (rest : List Check) where
  abbrev chain : ℕ
  chain = first_of (drive_checks disk ++ (hidden_checks (geometry_in disk) number size ++ rest))

  chain_drive : {fault : ℕ} → fault ≡ drive_refusal disk → fault ≢ 0 → fault ≡ chain
  chain_drive e f = e ∙ sym (after_drive_stop disk _ (λ z. f (e ∙ z)))

  module _ (accepted : drive_refusal disk ≡ 0) {bad : ℕ}
      (e : bad ≡ first_of (hidden_checks (geometry_in disk) number size)) where
    abbrev own : List Check
    own = hidden_checks (geometry_in disk) number size

    chain_number : bad ≢ 0 → bad ≡ chain
    chain_number f =
        e ∙ sym (after_drive_pass disk (own ++ rest) accepted
        ∙ first_of-append_stop own rest (λ z. f (e ∙ z)))

    chain_rest : bad ≡ 0 → chain ≡ first_of rest
    unfolding hidden_checks
    chain_rest good =
        after_drive_pass disk (own ++ rest) accepted
        ∙ first_of-append-zero own rest (λ z. omega arith, ((λ z. omega arith), tt)) (sym e ∙ good)

-- ---- an offer that enters ----

module _ (disk : Bytes) (offer : Offer) (blocks : Bytes) (line : List Offer) (room : ℕ) where
  abbrev size : ℕ
  size = length (block_at (geometry_in disk).block_size blocks offer.place)

  abbrev last : List Check
  last = room_checks line offer.number room

  chain_enters : chain disk offer.number size last ≡ enter_refusal disk offer blocks line room
  unfolding enter_refusal
  chain_enters = refl

  pub enter_refusal_drive :
      {fault : ℕ} → fault ≡ drive_refusal disk → fault ≢ 0 → fault ≡ enter_refusal disk offer blocks line room
  enter_refusal_drive e f = chain_drive disk offer.number size last e f ∙ chain_enters

  module _ (accepted : drive_refusal disk ≡ 0) (g : Geometry) (same : g ≡ geometry_in disk) {bad : ℕ}
      (e : bad ≡ line_offer_refusal g blocks offer) where
    bad_is : bad ≡ first_of (hidden_checks (geometry_in disk) offer.number size)
    unfolding hidden_write_refusal
    bad_is = e ∙ ap (λ (h : Geometry). line_offer_refusal h blocks offer) same

    pub enter_refusal_offer : bad ≢ 0 → bad ≡ enter_refusal disk offer blocks line room
    enter_refusal_offer f = chain_number disk offer.number size last accepted bad_is f ∙ chain_enters

    pub enter_refusal_room :
        bad ≡ 0 → {full : ℕ} → full ≡ first_of (room_checks line offer.number room) →
        full ≡ enter_refusal disk offer blocks line room
    enter_refusal_room good told =
        told ∙ sym (chain_rest disk offer.number size last accepted bad_is good) ∙ chain_enters

-- ---- the hidden read through a line ----

module _ (disk : Bytes) (number : ℕ) (blank blocks : Bytes) (line : List Offer) where
  abbrev waits : Option Bytes
  waits = waiting_for (geometry_in disk) blocks line number

  abbrev after : List Check
  after = disk_checks waits (geometry_in disk) disk number

  chain_reads : chain disk number (length blank) after ≡ line_read_refusal disk number blank blocks line
  unfolding line_read_refusal
  chain_reads = refl

  pub line_read_refusal_drive :
      {fault : ℕ} → fault ≡ drive_refusal disk → fault ≢ 0 →
      fault ≡ line_read_refusal disk number blank blocks line
  line_read_refusal_drive e f = chain_drive disk number (length blank) after e f ∙ chain_reads

  pub drive_refusal_of-line_read : line_read_refusal disk number blank blocks line ≡ 0 → drive_refusal disk ≡ 0
  unfolding line_read_refusal
  drive_refusal_of-line_read = drive_refusal_of_chain disk _

  module _ (accepted : drive_refusal disk ≡ 0) (g : Geometry) (same : g ≡ geometry_in disk) {bad : ℕ}
      (e : bad ≡ first_of (hidden_checks g number (length blank))) where
    number_is : bad ≡ first_of (hidden_checks (geometry_in disk) number (length blank))
    number_is = e ∙ ap (λ (h : Geometry). first_of (hidden_checks h number (length blank))) same

    pub line_read_refusal_number : bad ≢ 0 → bad ≡ line_read_refusal disk number blank blocks line
    line_read_refusal_number f =
        chain_number disk number (length blank) after accepted number_is f ∙ chain_reads

    -- a block that waits leaves nothing to refuse
    pub line_read_refusal_some :
        bad ≡ 0 → {block : Bytes} → waiting_for g blocks line number ≡ some block →
        line_read_refusal disk number blank blocks line ≡ 0
    unfolding disk_checks
    line_read_refusal_some good {block} w =
        let waits_is : waits ≡ some block =
        ap (λ (h : Geometry). waiting_for h blocks line number) (sym same) ∙ w in
        sym chain_reads ∙ chain_rest disk number (length blank) after accepted number_is good
        ∙ ap (λ (waiting : Option Bytes). first_of (disk_checks waiting (geometry_in disk) disk number)) waits_is
        ∙ first_of_nil

-- ---- what waits under a number ----

module _ (g : Geometry) (blocks : Bytes) where
  pub waiting_for_nil : (number : ℕ) → waiting_for g blocks [] number ≡ none
  unfolding waiting_for
  waiting_for_nil number = refl

  pub waiting_for-cons :
      (offer : Offer) (later : List Offer) (number : ℕ) →
      waiting_for g blocks (offer ∷ later) number ≡
      cond (eqb offer.number number)
      (cond (eqb (line_offer_refusal g blocks offer) 0)
      (some (block_at g.block_size blocks offer.place)) none) (waiting_for g blocks later number)
  unfolding waiting_for good_block
  waiting_for-cons offer later number = refl
