-- What a call that is not refused gives as plain facts, refusals 4 to 11, and the other way round: a public
-- number, a write, a hidden number and the hidden write that a call offers. Assumes nothing.
use mathlib.Core.Path.{◌≡◌, ap, ◌∙◌, refl, subst}
use mathlib.Core.Logic.{◌≢◌, inl, inr, ⊎_elim}
use mathlib.Core.Bool.{true, false, not, ◌||◌}
use mathlib.Core.List.{List, [], ◌∷◌, ◌++◌, append-nil}
use Prim.Native.Nat.{ℕ, ◌*◌, ◌≤◌, ◌<◌}
use native.Mathlib.Omega.{arith}
use lib.Dec.{eqb}
use lib.ListN.{length}
use borrow.Author.Tests.{ltb-false, leb-false, eqb-true, eqb-false, not-false, lt-leb, eq-eqb, ne_eqb}
use Rattle.laws.specs.Checks.{Check, first_of}
use Rattle.laws.proofs.Cases.{cond_cases, cond_false, or_cases, or_left, or_right}
use Rattle.laws.proofs.Checks.{Numbered, numbered-append, Passed, passed_front, passed_of_zero, passed_rest}
use Rattle.laws.proofs.Checks.{passed_append, zero_of_passed}
use Rattle.laws.proofs.Members.{All}
use Rattle.model.specs.Geometry.{Geometry}
use Rattle.model.specs.Blocks.{Bytes, block_at}
use Rattle.model.specs.Layout.{geometry_in, is_place, map_entry}
use Rattle.model.specs.HiddenTree.{walk, is_damaged}
use Rattle.model.specs.HiddenHalf.{HiddenWrite}
use Rattle.model.specs.Refusals.{drive_checks, drive_refusal, hidden_checks, hidden_write_refusal}
use Rattle.model.specs.Refusals.{place_checks, public_read_refusal, round_checks, round_count}
use Rattle.model.specs.Refusals.{write_store_count, walk_checks, write_refusal}
use Rattle.model.specs.Line.{Offer, first_offers, line_offer_refusal, turns, hidden_writes_of}
use Rattle.model.specs.Calls.{Offered, nothing, one, in_line, offer_refusal, offered_writes}
use Rattle.model.proofs.Laws.Places.{Placed}
use Rattle.model.proofs.Laws.Lines.{good_offers_good}
use Rattle.model.proofs.Laws.Refusals.{numbered_drive, drive_refusal_of_chain, passed_after_drive}

-- ---- a public number, refusals 4 to 6 ----

pub record AcceptedNumber (g : Geometry) (disk : Bytes) (number size : ℕ) : Type 0 where
  pub number_inside : number < g.publics
  pub block_sized : size ≡ g.block_size
  pub in_place : Placed g disk number

pub accepted_of_passed :
    (g : Geometry) (disk : Bytes) (number size : ℕ) → Passed (place_checks g disk number size) →
    AcceptedNumber g disk number size
unfolding place_checks
accepted_of_passed g disk number size p =
    let entry = map_entry g disk number in
    record {
      number_inside = leb-false g.publics number p.0;
      block_sized = eqb-true size g.block_size (not-false (eqb size g.block_size) p.1.0);
      in_place =
          ⊎_elim (λ e. inl (eqb-true entry 0 e)) (λ e. inr e)
          (or_cases (eqb entry 0) (is_place g disk entry)
          (not-false (eqb entry 0 || is_place g disk entry) p.1.1.0));
    }

pub passed_of_accepted :
    (g : Geometry) (disk : Bytes) (number size : ℕ) → AcceptedNumber g disk number size →
    Passed (place_checks g disk number size)
unfolding place_checks
passed_of_accepted g disk number size good =
    let entry = map_entry g disk number in
    let there : (eqb entry 0 || is_place g disk entry) ≡ true =
    ⊎_elim (λ e. or_left (is_place g disk entry) (eq-eqb entry 0 e)) (or_right (eqb entry 0))
    good.in_place in
    let whole : eqb size g.block_size ≡ true = eq-eqb size g.block_size good.block_sized in
    (lt-leb g.publics number good.number_inside, (ap not whole, (ap not there, tt)))

numbered_place :
    (g : Geometry) (disk : Bytes) (number size : ℕ) (cs : List Check) → Numbered cs →
    Numbered (place_checks g disk number size ++ cs)
unfolding place_checks
numbered_place g disk number size cs n = (λ e. omega arith, ((λ e. omega arith), ((λ e. omega arith), n)))

-- 1 to 6 of a read
pub numbered_read :
    (disk : Bytes) (number size : ℕ) →
    Numbered (drive_checks disk ++ place_checks (geometry_in disk) disk number size)
numbered_read disk number size =
    let cs = place_checks (geometry_in disk) disk number size in
    subst (λ (ds : List Check). Numbered (drive_checks disk ++ ds)) (append-nil cs)
    (numbered-append (drive_checks disk) (cs ++ []) (numbered_drive disk)
    (numbered_place (geometry_in disk) disk number size [] tt))

pub accepted_of_read :
    (disk : Bytes) (number : ℕ) (blank : Bytes) → public_read_refusal disk number blank ≡ 0 →
    AcceptedNumber (geometry_in disk) disk number (length blank)
unfolding public_read_refusal
accepted_of_read disk number blank e =
    let g = geometry_in disk in
    let cs = place_checks g disk number (length blank) in
    accepted_of_passed g disk number (length blank)
    (passed_front cs []
    (passed_after_drive disk (cs ++ []) (numbered_place g disk number (length blank) [] tt)
    (ap (λ (ds : List Check). first_of (drive_checks disk ++ ds)) (append-nil cs) ∙ e)))

-- ---- a write, refusals 4 to 9 ----

pub record AcceptedWrite (g : Geometry) (disk : Bytes) (number size random room : ℕ) : Type 0 where
  pub accepted : AcceptedNumber g disk number size
  pub some_rounds : round_count g disk ≢ 0
  pub enough_random : round_count g disk * g.height * g.block_size ≤ random
  pub enough_room : write_store_count g disk number ≤ room

numbered_rounds :
    (g : Geometry) (disk : Bytes) (number random room : ℕ) → Numbered (round_checks g disk number random room)
unfolding round_checks
numbered_rounds g disk number random room = (λ e. omega arith, ((λ e. omega arith), ((λ e. omega arith), tt)))

accepted_of_passed_write :
    (g : Geometry) (disk : Bytes) (number size random room : ℕ) →
    Passed (place_checks g disk number size) → Passed (round_checks g disk number random room) →
    AcceptedWrite g disk number size random room
unfolding round_checks
accepted_of_passed_write g disk number size random room p q =
    record {
      accepted = accepted_of_passed g disk number size p;
      some_rounds = eqb-false (round_count g disk) 0 q.0;
      enough_random = ltb-false random (round_count g disk * g.height * g.block_size) q.1.0;
      enough_room = ltb-false room (write_store_count g disk number) q.1.1.0;
    }

pub accepted_of_write :
    (disk : Bytes) (number : ℕ) (content : Bytes) (random room : ℕ) →
    write_refusal disk number content random room ≡ 0 →
    AcceptedWrite (geometry_in disk) disk number (length content) random room
unfolding write_refusal
accepted_of_write disk number content random room e =
    let g = geometry_in disk in
    let place = place_checks g disk number (length content) in
    let rounds = round_checks g disk number random room in
    let p =
    passed_after_drive disk (place ++ rounds)
    (numbered_place g disk number (length content) rounds (numbered_rounds g disk number random room)) e in
    accepted_of_passed_write g disk number (length content) random room (passed_front place rounds p)
    (passed_rest place rounds p)

pub drive_refusal_of_write :
    (disk : Bytes) (number : ℕ) (content : Bytes) (random room : ℕ) →
    write_refusal disk number content random room ≡ 0 → drive_refusal disk ≡ 0
unfolding write_refusal
drive_refusal_of_write disk number content random room e = drive_refusal_of_chain disk _ e

-- ---- a hidden number, refusals 10 and 11 ----

pub record AcceptedHidden (g : Geometry) (number size : ℕ) : Type 0 where
  pub number_inside : number < g.hidden
  pub block_sized : size ≡ g.block_size

pub numbered_hidden : (g : Geometry) (number size : ℕ) → Numbered (hidden_checks g number size)
unfolding hidden_checks
numbered_hidden g number size = (λ e. omega arith, ((λ e. omega arith), tt))

pub accepted_of_hidden_write :
    (g : Geometry) (number : ℕ) (content : Bytes) → hidden_write_refusal g number content ≡ 0 →
    AcceptedHidden g number (length content)
unfolding hidden_write_refusal hidden_checks
accepted_of_hidden_write g number content e =
    let size = length content in
    let p = passed_of_zero (hidden_checks g number size) (numbered_hidden g number size) e in
    record {
      number_inside = leb-false g.hidden number p.0;
      block_sized = eqb-true size g.block_size (not-false (eqb size g.block_size) p.1.0);
    }

pub passed_of_hidden_checks :
    (g : Geometry) (number size : ℕ) → AcceptedHidden g number size → Passed (hidden_checks g number size)
unfolding hidden_checks
passed_of_hidden_checks g number size good = (
  lt-leb g.hidden number good.number_inside,
  (ap not (eq-eqb size g.block_size good.block_sized), tt),
)

pub hidden_write_refusal_of_accepted :
    (g : Geometry) (number : ℕ) (content : Bytes) → AcceptedHidden g number (length content) →
    hidden_write_refusal g number content ≡ 0
unfolding hidden_write_refusal
hidden_write_refusal_of_accepted g number content good =
    zero_of_passed (hidden_checks g number (length content))
    (passed_of_hidden_checks g number (length content) good)

-- a hidden write that is not refused
abbrev pub GoodWrite : Geometry → HiddenWrite → Type 0
GoodWrite g write = AcceptedHidden g write.number (length write.content)

hidden_writes_of_good :
    (g : Geometry) (blocks : Bytes) (xs : List Offer) →
    All (λ (offer : Offer). line_offer_refusal g blocks offer ≡ 0) xs →
    All (GoodWrite g) (hidden_writes_of g blocks xs)
unfolding hidden_writes_of
hidden_writes_of_good g blocks [] h = tt
hidden_writes_of_good g blocks (offer ∷ xs) h = (
  accepted_of_hidden_write g offer.number (block_at g.block_size blocks offer.place) h.0,
  hidden_writes_of_good g blocks xs h.1,
)

-- what a call brings to its rounds is good
pub offered_writes_good : (g : Geometry) (offer : Offered) → All (GoodWrite g) (offered_writes g offer)
unfolding offered_writes
offered_writes_good g nothing = tt
offered_writes_good g (in_line blocks line) =
    hidden_writes_of_good g blocks (turns g blocks line) (good_offers_good g blocks (first_offers line))
offered_writes_good g (one write) =
    let refusal = hidden_write_refusal g write.number write.content in
    cond_cases (All (GoodWrite g)) (eqb refusal 0)
    (λ e. (accepted_of_hidden_write g write.number write.content (eqb-true refusal 0 e), tt)) (λ e. tt)

-- a bad one is left out
pub offered_writes_bad :
    (g : Geometry) (offer : Offered) → offer_refusal g offer ≢ 0 → offered_writes g offer ≡ []
unfolding offer_refusal offered_writes
offered_writes_bad g nothing f = absurd (f refl)
offered_writes_bad g (in_line blocks line) f = absurd (f refl)
offered_writes_bad g (one write) f =
    cond_false _ _ (ne_eqb (hidden_write_refusal g write.number write.content) 0 f)

pub passed_of_hidden :
    (g : Geometry) (disk : Bytes) (number size : ℕ) → AcceptedHidden g number size →
    is_damaged (walk g disk number).end ≡ false →
    Passed (hidden_checks g number size ++ walk_checks g disk number)
unfolding walk_checks
passed_of_hidden g disk number size good e =
    passed_append (hidden_checks g number size) (walk_checks g disk number)
    (passed_of_hidden_checks g number size good) (e, tt)
