-- A line does not grow by a write: what is left of it is no longer than it was. Assumes nothing.
use mathlib.Core.Bool.{cond}
use mathlib.Core.List.{List, [], ◌∷◌}
use Prim.Native.Nat.{ℕ, ◌≤◌}
use native.Mathlib.Omega.{arith}
use lib.Dec.{eqb}
use lib.ListN.{length, take, length-append}
use Rattle.laws.proofs.Cases.{cond_cases}
use Rattle.model.specs.Blocks.{Bytes}
use Rattle.model.specs.Layout.{geometry_in}
use Rattle.model.specs.Line.{Offer, without, left_after, turns}
use Rattle.model.specs.Calls.{Written, line_left}

length_without : (number : ℕ) (line : List Offer) → length (without number line) ≤ length line
unfolding without
length_without number [] = omega arith
length_without number (offer ∷ later) =
    let kept : List Offer = cond (eqb offer.number number) [] (offer ∷ []) in
    let few : length kept ≤ 1 =
    cond_cases (λ (xs : List Offer). length xs ≤ 1) (eqb offer.number number) (λ _. omega arith)
    (λ _. omega arith) in
    omega (arith, few, length-append kept (without number later), length_without number later)

length-left_after : (placed line : List Offer) → length (left_after placed line) ≤ length line
unfolding left_after
length-left_after [] line = omega arith
length-left_after (offer ∷ later) line =
    omega (arith, length-left_after later (without offer.number line), length_without offer.number line)

pub line_left_le :
    (result : Written) (disk blocks : Bytes) (line : List Offer) →
    length (line_left result disk blocks line) ≤ length line
unfolding line_left
line_left_le result disk blocks line =
    length-left_after (take result.placed (turns (geometry_in disk) blocks line)) line
