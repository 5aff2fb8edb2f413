-- Laws of a counted round: what is found is the count, and there is one. Assumes nothing.
use mathlib.Core.Path.{◌≡◌, refl, sym, ap, ◌∙◌}
use mathlib.Core.Logic.{◌≢◌}
use Prim.Native.Nat.{ℕ, zero, suc}
use native.Mathlib.Omega.{arith}
use Rattle.std.specs.Prelude.{Option, Some, Result, Ok, Err, ok_or}
use Rattle.checks.specs.Counts.{found_round}

pub found_round-some : (rounds : ℕ) → rounds ≢ 0 → Some rounds ≡ found_round rounds
found_round-some zero f = absurd (f refl)
found_round-some (suc rounds) f = refl

-- ---- a round that is found, or a refusal ----

-- the round is the count, and there is one
pub record FoundAs (count rounds : ℕ) : Type 0 where
  pub counted : rounds ≡ count
  pub some_rounds : rounds ≢ 0

found_ok :
    {E : Type 0} (count : ℕ) (refusal : E) {rounds : ℕ} → ok_or (found_round count) refusal ≡ Ok rounds →
    FoundAs count rounds
found_ok zero refusal e = absurd cc
found_ok (suc count) refusal {rounds} e =
    let same : suc count ≡ rounds = cc in record { counted = sym same; some_rounds = λ z. omega arith }

found_err :
    {E : Type 0} (count : ℕ) (refusal : E) {fault : E} → ok_or (found_round count) refusal ≡ Err fault →
    (count ≡ 0) × (fault ≡ refusal)
found_err zero refusal e = (refl, cc)
found_err (suc count) refusal e = absurd cc

module _ {E : Type 0} {count : ℕ} {found : Option ℕ} (told : found ≡ found_round count)
    (refusal : E) {answer : Result ℕ E} (told_as : answer ≡ ok_or found refusal) where
  pub round_is_found : {rounds : ℕ} → answer ≡ Ok rounds → FoundAs count rounds
  round_is_found e = found_ok count refusal (ap (λ o. ok_or o refusal) (sym told) ∙ sym told_as ∙ e)

  pub no_round_found : {fault : E} → answer ≡ Err fault → (count ≡ 0) × (fault ≡ refusal)
  no_round_found e = found_err count refusal (ap (λ o. ok_or o refusal) (sym told) ∙ sym told_as ∙ e)
