-- The drive of the figures of waiting, byte by byte: worked out once, so that each figure is computed from it
-- and not from the writes that make it. Assumes nothing.
use mathlib.Core.Path.{◌≡◌, refl, sym, ap, subst, ◌∙◌}
use mathlib.Core.List.{◌∷◌, ◌++◌}
use Prim.Native.Nat.{ℕ}
use lib.ListN.{replicate}
use Rattle.laws.proofs.Lists.{same_of_is_same}
use Rattle.model.specs.Blocks.{Bytes}
use Rattle.model.specs.Promises.Figures.{filled}
use Rattle.model.specs.Promises.Limits.{small4}
use Rattle.model.specs.Promises.WaitFigures.{offered_from, seven_live}
use Rattle.model.proofs.Theorems.Computing.{computing}

-- a slot with hidden data 9: its leaf leads to those of the slots before it and to its own
abbrev slot_with : (leaf : Bytes) → (owner : ℕ) → Bytes
slot_with leaf owner = filled 7 ++ leaf ++ small4 owner ++ filled 9

-- slot j is blocks 4 + 3j to 6 + 3j; the root leads to the leaf of slot 6, and the public number is in slot 7
abbrev pub seven_bytes : Bytes
seven_bytes =
    small4 32 ++ small4 2 ++ small4 1 ++ small4 7 ++ small4 8 ++ small4 0 ++ replicate 8 0 ++
    small4 25 ++ replicate 28 0 ++ 0 ∷ 0 ∷ 32 ∷ replicate 29 0 ++ small4 23 ++ replicate 28 0 ++
    slot_with (small4 6 ++ replicate 24 0) 0 ++
    slot_with (small4 6 ++ small4 9 ++ replicate 20 0) 1 ++
    slot_with (small4 6 ++ small4 9 ++ small4 12 ++ replicate 16 0) 2 ++
    slot_with (small4 6 ++ small4 9 ++ small4 12 ++ small4 15 ++ replicate 12 0) 3 ++
    slot_with (small4 6 ++ small4 9 ++ small4 12 ++ small4 15 ++ small4 18 ++ replicate 8 0) 4 ++
    slot_with (small4 6 ++ small4 9 ++ small4 12 ++ small4 15 ++ small4 18 ++ small4 21 ++ small4 0) 5 ++
    slot_with (small4 6 ++ small4 9 ++ small4 12 ++ small4 15 ++ small4 18 ++ small4 21 ++ small4 24) 6 ++
    filled 7 ++ filled 165 ++ filled 165

seven_live_is : seven_live ≡ seven_bytes
unfolding computing offered_from
seven_live_is = same_of_is_same seven_live seven_bytes refl

-- what holds of these bytes holds of the drive
pub on_seven_live : (P : Bytes → Type 0) → P seven_bytes → P seven_live
on_seven_live P h = subst P (sym seven_live_is) h

-- so does what is told of them
pub told-seven_live :
    {A : Type 0} (told : Bytes → A) {value : A} → told seven_bytes ≡ value → told seven_live ≡ value
told-seven_live told h = ap told seven_live_is ∙ h
