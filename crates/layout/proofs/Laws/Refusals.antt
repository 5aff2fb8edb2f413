-- Laws of refusals: none has the number 0, and `?` hands each on as it is. Assumes nothing.
use mathlib.Core.Path.{◌≡◌, ap, ◌∙◌}
use native.Mathlib.Omega.{arith}
use Rattle.std.specs.Prelude.{◌≢◌, Result, Err, IsErrAnd}
use Rattle.std.proofs.lemmas.Result.{err_from_is_err_and}
use Rattle.layout.specs.declared.refusals.Refusal.{Refusal}
use Rattle.layout.specs.declared.refusals.Refusal.TheVariants as refusal
use Rattle.layout.specs.Refusals.{refusal_number}

-- no refusal is 0, which is no refusal
pub refusal-some : (refused : Refusal) → refusal_number refused ≢ 0
refusal-some refusal.Geometry z = omega arith
refusal-some refusal.Length z = omega arith
refusal-some refusal.Head z = omega arith
refusal-some refusal.PublicNumber z = omega arith
refusal-some refusal.PublicSize z = omega arith
refusal-some refusal.MapEntry z = omega arith
refusal-some refusal.NoFreeSlot z = omega arith
refusal-some refusal.RandomBytes z = omega arith
refusal-some refusal.ListRoom z = omega arith
refusal-some refusal.HiddenNumber z = omega arith
refusal-some refusal.HiddenSize z = omega arith
refusal-some refusal.DamagedWalk z = omega arith
refusal-some refusal.IllFormed z = omega arith
refusal-some refusal.PastHidden z = omega arith
refusal-some refusal.WrongOwner z = omega arith
refusal-some refusal.LineFull z = omega arith
refusal-some refusal.MapEntries z = omega arith

-- ---- a refusal that `?` hands on ----

pub handed_on : {T : Type 0} {told : Result T Refusal} {fault : Refusal} →
    IsErrAnd told (λ e. e ≡ fault) → told ≡ Err fault
handed_on {told = told} h =
    let error = err_from_is_err_and told h in
    error.1 ∙ ap Err error.2
