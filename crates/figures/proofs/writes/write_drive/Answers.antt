-- A drive that is moved takes 9760 zeros, and any other 512.
use Rattle.std.proofs.Common.{◌≡◌, ◌≢◌, ℕ, take, replicate, refl, sym, ap, ◌∙◌}
use Rattle.model.specs.Blocks.{Bytes}
use Rattle.figures.specs.declared.drives.Made.{Made}
use Rattle.figures.specs.declared.drives.Made.TheVariants.{Fresh, Slot, Three, Five, Written, Moved}
use Rattle.figures.specs.Drives.{drive_on}
use Rattle.figures.specs.Writes.{agrees_on, zeros_for}
use Rattle.figures.proofs.writes.write_drive.Goals as goal

zeros_small : (made : Made) → ((times : ℕ) → made ≢ Moved times) → replicate 512 0 ≡ zeros_for made
zeros_small Fresh other = refl
zeros_small Slot other = refl
zeros_small Three other = refl
zeros_small Five other = refl
zeros_small (Written times) other = refl
zeros_small (Moved times) other = absurd (other times refl)

pub returns-in-Moved : goal.returns-in-Moved
returns-in-Moved c =
    let a = c.args in
    c.write_sized.ensures
    ∙ ap (λ (zeros : Bytes). agrees_on a.room a.write a.said a.stored (take a.bytes (drive_on a.drive zeros)))
    (sym (ap zeros_for c.in-Moved.is))

pub returns-in_default : goal.returns-in_default
returns-in_default c =
    let a = c.args in
    c.write_sized-in_default.ensures
    ∙ ap (λ (zeros : Bytes). agrees_on a.room a.write a.said a.stored (take a.bytes (drive_on a.drive zeros)))
    (zeros_small a.drive.made c.in_default.not-Moved)
