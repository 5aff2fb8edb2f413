-- Laws of the hidden write that a call may offer: its refusal, its turn, and the hidden write of that turn.
-- Assumes nothing.
use mathlib.Core.Path.{◌≡◌, refl, sym, ap, ap₂, ◌∙◌}
use mathlib.Core.Bool.{Bool, true, false, cond}
use mathlib.Core.List.{List, [], ◌∷◌}
use Prim.Native.Nat.{ℕ, zero, suc, ◌≤◌}
use native.Mathlib.Omega.{arith}
use lib.Dec.{eqb}
use lib.ListN.{length, take}
use Rattle.std.specs.Prelude.{Option, None, Some}
use borrow.Author.Tests.{eqb-true}
use Rattle.laws.specs.Checks.{first_of}
use Rattle.laws.proofs.Cases.{cond_cases}
use Rattle.model.specs.Geometry.{Geometry}
use Rattle.model.specs.Blocks.{Bytes}
use Rattle.model.specs.HiddenHalf.{HiddenWrite}
use Rattle.model.specs.Refusals.{hidden_checks, hidden_write_refusal}
use Rattle.model.specs.Line.{Offer, hidden_writes_of}
use Rattle.model.specs.Calls.{offer_refusal, offered_writes}
use Rattle.model.proofs.Laws.Accepted.{accepted_of_hidden_write}
use Rattle.model.proofs.Laws.Offers.{offer_refusal_nothing, offer_refusal_one, offer_refusal_checks}
use Rattle.model.proofs.Laws.Offers.{offered_writes_nothing, offered_writes_one}
use Rattle.model.proofs.Laws.HiddenWrites.{hidden_writes_of_nil, hidden_writes_of-cons}
use Rattle.model.proofs.Laws.LentBlocks.{block_at_alone}
use Rattle.line.specs.Offers.{offers_of}
use Rattle.line.proofs.Laws.Runs.{offers_of_nil, offers_of-cons}
use Rattle.mapper.specs.declared.offers.HiddenOffer as declared
use Rattle.mapper.specs.Writes.{brought_by, offer_count, OfferLent}

-- ---- its refusal ----

pub refusal_none : (g : Geometry) → 0 ≡ offer_refusal g (brought_by None)
refusal_none g = sym (offer_refusal_nothing g)

pub refusal_some :
    (g : Geometry) (write : declared.HiddenOffer) →
    first_of (hidden_checks g write.number.0 (length write.content.now)) ≡
    offer_refusal g (brought_by (Some write))
refusal_some g write =
    sym (offer_refusal_checks g (record { number = write.number.0; content = write.content.now }))

-- ---- its turn ----

-- so many turns of a number whose data is the first of the lent blocks
abbrev pub one_turn : (number count : ℕ) → List Offer
one_turn number count =
    offers_of (take count (record { number = record { 0 = number }; place = 0 } ∷ []))

turn_none : (number : ℕ) → one_turn number 0 ≡ []
turn_none number = offers_of_nil

turn_one : (number : ℕ) → one_turn number 1 ≡ record { number = number; place = 0 } ∷ []
turn_one number =
    offers_of-cons (record { number = record { 0 = number }; place = 0 }) []
    ∙ ap (λ (later : List Offer). record { number = number; place = 0 } ∷ later) offers_of_nil

pub count_one :
    (offer : Option declared.HiddenOffer) (bad count : ℕ) → count ≡ offer_count offer bad → count ≤ 1
count_one None bad count e = omega (arith, e)
count_one (Some write) bad count e =
    let few : offer_count (Some write) bad ≤ 1 =
    cond_cases (λ (n : ℕ). n ≤ 1) (eqb bad 0) (λ e. omega arith) (λ e. omega arith) in
    omega (arith, few, e)

pub length_turn : (number count : ℕ) → count ≤ 1 → length (one_turn number count) ≡ count
length_turn number zero low = ap length (turn_none number)
length_turn number (suc zero) low = ap length (turn_one number)
length_turn number (suc (suc count)) low = absurd (omega arith)

-- its hidden write is what the call brings
writes_by :
    (g : Geometry) (offer : Option declared.HiddenOffer) (number : ℕ) (content : Bytes) →
    OfferLent offer number content →
    (bad : ℕ) → bad ≡ offer_refusal g (brought_by offer) →
    hidden_writes_of g content (one_turn number (offer_count offer bad)) ≡ offered_writes g (brought_by offer)
writes_by g None number content lent bad judged =
    ap (hidden_writes_of g content) (turn_none number) ∙ hidden_writes_of_nil g content
    ∙ sym (offered_writes_nothing g)
writes_by g (Some offered) number content lent bad judged =
    ap₂ (λ (asked : ℕ) (block : Bytes).
    hidden_writes_of g block (one_turn asked (cond (eqb bad 0) 1 0))) lent.0 lent.1
    ∙ ap (λ (n : ℕ). hidden_writes_of g write.content (one_turn write.number (cond (eqb n 0) 1 0))) bad_is
    ∙ by (eqb (hidden_write_refusal g write.number write.content) 0) refl ∙ sym (offered_writes_one g write)
  where
    write : HiddenWrite
    write = record { number = offered.number.0; content = offered.content.now }

    bad_is : bad ≡ hidden_write_refusal g write.number write.content
    bad_is = judged ∙ offer_refusal_one g write

    by : (good : Bool) → eqb (hidden_write_refusal g write.number write.content) 0 ≡ good →
        hidden_writes_of g write.content (one_turn write.number (cond good 1 0)) ≡ cond good (write ∷ []) []
    by true e =
        ap (hidden_writes_of g write.content) (turn_one write.number)
        ∙ hidden_writes_of-cons g write.content (record { number = write.number; place = 0 }) []
        ∙ ap₂ (λ (block : Bytes) (later : List HiddenWrite).
        record { number = write.number; content = block } ∷ later)
        (block_at_alone g.block_size write.content
        (accepted_of_hidden_write g write.number write.content (eqb-true _ 0 e)).block_sized)
        (hidden_writes_of_nil g write.content)
    by false e =
        ap (hidden_writes_of g write.content) (turn_none write.number)
        ∙ hidden_writes_of_nil g write.content

pub writes_offered :
    (g : Geometry) (offer : Option declared.HiddenOffer) (number : ℕ) (content : Bytes) →
    OfferLent offer number content →
    (bad : ℕ) → bad ≡ offer_refusal g (brought_by offer) → (count : ℕ) → count ≡ offer_count offer bad →
    hidden_writes_of g content (one_turn number count) ≡ offered_writes g (brought_by offer)
writes_offered g offer number content lent bad judged count counted =
    ap (λ (n : ℕ). hidden_writes_of g content (one_turn number n)) counted
    ∙ writes_by g offer number content lent bad judged
