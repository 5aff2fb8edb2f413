-- A walk's answer that is not `Found` is no found end. Assumes nothing.
use Rattle.std.proofs.Common.{◌≡◌, refl, false}
use Rattle.layout.specs.declared.numbers.DiskAddress.{DiskAddress}
use Rattle.hidden_map.specs.declared.walks.Reached.{Reached}
use Rattle.hidden_map.specs.declared.walks.Reached.TheVariants.{Found, Unmapped, Damaged}
use Rattle.hidden_map.specs.Ends.{end_of}
use Rattle.hidden_map.proofs.Laws.Steps.{is_found}

pub is_found-end_of : (answer : Reached) → ((address : DiskAddress) → answer ≡ Found address → ⊥) →
    is_found (end_of answer) ≡ false
is_found-end_of (Found address) h = absurd (h address refl)
is_found-end_of Unmapped h = refl
is_found-end_of Damaged h = refl
