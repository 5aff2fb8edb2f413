-- What a walk's answer says, and where one step of a walk leads. Assumes nothing.
use Rattle.std.specs.Prelude.{cond, ℕ, eqb}
use Rattle.model.specs.Geometry.{Geometry}
use Rattle.model.specs.Blocks.{Bytes, entry_at}
use Rattle.model.specs.Layout.{is_well_formed}
use Rattle.model.specs.HiddenTree.{branch_at, End, found, unmapped, damaged}
use Rattle.hidden_map.specs.declared.walks.Reached.{Reached}
use Rattle.hidden_map.specs.declared.walks.Reached.TheVariants.{Found, Unmapped, Damaged}

abbrev pub end_of : Reached → End
end_of (Found address) = found address.0
end_of Unmapped = unmapped
end_of Damaged = damaged

-- where a number's entry of a level leads that stands in a node
unfoldable pub step_of : Geometry → (number level : ℕ) → (node : Bytes) → End
step_of g number level node =
    let entry = entry_at (branch_at g number level) node in
    cond (eqb entry 0) unmapped (cond (is_well_formed g level entry) (found entry) damaged)
