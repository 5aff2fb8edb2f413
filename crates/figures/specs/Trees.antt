-- When a row of a drive's hidden tree agrees with the model. Assumes nothing.
use Rattle.std.specs.Prelude.{Bool, true, false, cond, ℕ, eqb, Option, Some, None}
use Rattle.std.proofs.Math.Option as model
use Rattle.model.specs.Blocks.{Bytes, DiskAddress}
use Rattle.model.specs.Layout.{geometry_in}
use Rattle.model.specs.Refusals.{drive_refusal}
use Rattle.model.specs.TreeCheck.{tree_refusal}
use Rattle.hidden_map.specs.Nodes.{read_at}
use Rattle.figure_lines.specs.Counts.{entry_or}
use Rattle.figures.specs.Drives.{lent_of}
use Rattle.figures.specs.declared.drives.Drive.{Drive}
use Rattle.figures.specs.declared.trees.TreeRow.{TreeRow}
use Rattle.figures.specs.declared.trees.Asked.{Asked}
use Rattle.figures.specs.declared.trees.Asked.TheVariants.{Entry, Check, Walk}

-- an address or none, as the code tells it
abbrev pub address_told : model.Option DiskAddress → Option ℕ
address_told model.none = None
address_told (model.some address) = Some address

-- where the walk for a number reads the node of a level; none on a disk that refusals 1 to 3 meet
unfoldable pub node_on : (disk : Bytes) → (number level : ℕ) → Option ℕ
node_on disk number level =
    cond (eqb (drive_refusal disk) 0) (address_told (read_at (geometry_in disk) disk number level)) None

-- an entry, the check's answer, or a node's address
abbrev pub told_by : (disk : Bytes) → Asked → Option ℕ
told_by disk (Entry index) = Some (entry_or index disk)
told_by disk Check = Some (tree_refusal disk)
told_by disk (Walk number level) = node_on disk number level

-- whether two answers are the same
abbrev pub same_told : Option ℕ → Option ℕ → Bool
same_told None None = true
same_told None (Some got) = false
same_told (Some said) None = false
same_told (Some said) (Some got) = eqb said got

abbrev pub tree_drive : TreeRow → Drive
tree_drive row = record { made = row.0; put = row.1; later = row.2 }

unfoldable pub tree_agrees : TreeRow → Bool
tree_agrees row = same_told row.5 (told_by (lent_of (tree_drive row) row.3) row.4)
