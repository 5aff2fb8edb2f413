-- Rows of writes that reach the bounds of waiting: that an offer waits is computed for all writes of a row at
-- once. Assumes nothing.
use mathlib.Core.Path.{◌≡◌, refl, ap, subst}
use mathlib.Core.Logic.{◌≢◌}
use mathlib.Core.Bool.{Bool, true, false, ◌&&◌}
use mathlib.Core.List.{List}
use mathlib.Core.Option.{Option, none, some}
use Prim.Native.Nat.{ℕ, zero, suc}
use native.Mathlib.Omega.{arith}
use lib.Dec.{eqb}
use lib.ListN.{replicate}
use borrow.Author.Tests.{eqb-true}
use Rattle.laws.proofs.Cases.{and_left, and_right, true_is_not_false}
use Rattle.model.specs.Blocks.{Bytes}
use Rattle.model.specs.Layout.{geometry_in}
use Rattle.model.specs.Rounds.{run_from}
use Rattle.model.specs.Line.{Offer, left_after, is_waiting_in, waiting_for}
use Rattle.model.specs.Calls.{Written, one, in_line, line_left}
use Rattle.model.specs.Promises.Figures.{filled}
use Rattle.model.specs.Promises.LineFigures.{three_blocks}
use Rattle.model.specs.Promises.WaitFigures.{nines, seven_live, six_five}
use Rattle.model.specs.Promises.Waiting.{PublicHalf, half_refusal, half_written, half_disk, StillOffered}
use Rattle.model.specs.Promises.Waiting.{offered_within, offered_then, StillWaiting, waits_within}
use Rattle.model.specs.Promises.Waiting.{waits_then}
use Rattle.model.proofs.Theorems.Computing.{computing}
use Rattle.model.proofs.Theorems.WaitDrive.{seven_bytes, on_seven_live}

-- the writes of the figures
abbrev half : PublicHalf
half = record { number = 0; content = filled 7; random = replicate 64 165; room = 8 }

-- ---- hidden 3 with each write ----

abbrev offer_written : (disk : Bytes) → Written
offer_written disk = half_written half disk (one (nines 3))

unfoldable offer_waits : (times : ℕ) → (disk : Bytes) → Bool
offer_waits zero disk = eqb (half_refusal half disk) 0
offer_waits (suc times) disk =
    eqb (offer_written disk).placed 0 &&
    (eqb (offer_written disk).rounds 1 && offer_waits times (half_disk half disk (one (nines 3))))

offer_row : (times : ℕ) (disk : Bytes) → offer_waits times disk ≡ true → StillOffered (nines 3) disk times
unfolding offer_waits run_from
offer_row zero disk e = offered_within half disk 0 (eqb-true (half_refusal half disk) 0 e) (omega arith) refl
offer_row (suc times) disk e =
    let rest = and_right (eqb (offer_written disk).placed 0) _ e in
    let one-round = eqb-true (offer_written disk).rounds 1 (and_left _ _ rest) in
    subst (StillOffered (nines 3) disk) (omega (arith, one-round))
    (offered_then half disk times (eqb-true (offer_written disk).placed 0 (and_left _ _ e))
    (offer_row times (half_disk half disk (one (nines 3)))
    (and_right (eqb (offer_written disk).rounds 1) _ rest)))

pub one_row : StillOffered (nines 3) seven_live 7
unfolding computing offer_waits
one_row = on_seven_live (λ disk. StillOffered (nines 3) disk 7) (offer_row 7 seven_bytes refl)

-- ---- hidden 5 in the line with each write ----

abbrev is_there : Option Bytes → Bool
is_there none = false
is_there (some block) = true

abbrev line_written : (line : List Offer) → (disk : Bytes) → Written
line_written line disk = half_written half disk (in_line three_blocks line)

abbrev left_over : (line : List Offer) → (disk : Bytes) → List Offer
left_over line disk = line_left (line_written line disk) disk three_blocks line

unfoldable line_waits : (times : ℕ) → (line : List Offer) → (disk : Bytes) → Bool
line_waits zero line disk =
    is_there (waiting_for (geometry_in disk) three_blocks line 5) &&
    (eqb (half_refusal half disk) 0 && is_waiting_in line 5)
line_waits (suc times) line disk =
    is_there (waiting_for (geometry_in disk) three_blocks line 5) &&
    (is_waiting_in (left_over line disk) 5 &&
    (eqb (line_written line disk).rounds 1 &&
    line_waits times (left_over line disk) (half_disk half disk (in_line three_blocks line))))

counts_of : (waits : Option Bytes) → is_there waits ≡ true → waits ≢ none
counts_of waits e gone = true_is_not_false e (ap is_there gone)

line_row :
    (times : ℕ) (line : List Offer) (disk : Bytes) → line_waits times line disk ≡ true →
    StillWaiting 5 disk line times
unfolding line_waits run_from left_after
line_row zero line disk e =
    let rest = and_right (is_there (waiting_for (geometry_in disk) three_blocks line 5)) _ e in
    waits_within half disk three_blocks line 0 (eqb-true (half_refusal half disk) 0 (and_left _ _ rest))
    (omega arith) (counts_of (waiting_for (geometry_in disk) three_blocks line 5) (and_left _ _ e))
    (and_right (eqb (half_refusal half disk) 0) _ rest)
line_row (suc times) line disk e =
    let rest = and_right (is_there (waiting_for (geometry_in disk) three_blocks line 5)) _ e in
    let last = and_right (is_waiting_in (left_over line disk) 5) _ rest in
    let one-round = eqb-true (line_written line disk).rounds 1 (and_left _ _ last) in
    subst (StillWaiting 5 disk line) (omega (arith, one-round))
    (waits_then half disk three_blocks line times
    (counts_of (waiting_for (geometry_in disk) three_blocks line 5) (and_left _ _ e)) (and_left _ _ rest)
    (line_row times (left_over line disk) (half_disk half disk (in_line three_blocks line))
    (and_right (eqb (line_written line disk).rounds 1) _ last)))

pub second_row : StillWaiting 5 seven_live six_five 14
unfolding computing line_waits
second_row = on_seven_live (λ disk. StillWaiting 5 disk six_five 14) (line_row 14 six_five seven_bytes refl)
