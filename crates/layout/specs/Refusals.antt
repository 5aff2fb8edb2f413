-- The documents' numbers of the refusals, and of what a call answers that may be refused. Assumes nothing.
use Rattle.std.specs.Prelude.{ℕ, Result, Ok, Err}
use Rattle.layout.specs.declared.refusals.Refusal.{Refusal}
use Rattle.layout.specs.declared.refusals.Refusal.TheVariants as refusal

abbrev pub refusal_number : Refusal → ℕ
refusal_number refusal.Geometry = 1
refusal_number refusal.Length = 2
refusal_number refusal.Head = 3
refusal_number refusal.PublicNumber = 4
refusal_number refusal.PublicSize = 5
refusal_number refusal.MapEntry = 6
refusal_number refusal.NoFreeSlot = 7
refusal_number refusal.RandomBytes = 8
refusal_number refusal.ListRoom = 9
refusal_number refusal.HiddenNumber = 10
refusal_number refusal.HiddenSize = 11
refusal_number refusal.DamagedWalk = 12
refusal_number refusal.IllFormed = 13
refusal_number refusal.PastHidden = 14
refusal_number refusal.WrongOwner = 15
refusal_number refusal.LineFull = 16
refusal_number refusal.MapEntries = 17

-- 0, or the number of the refusal
abbrev pub answer_number : {T : Type 0} → Result T Refusal → ℕ
answer_number (Ok _) = 0
answer_number (Err refused) = refusal_number refused
