-- What is asked is the first so many bytes of the row's drive.
use Rattle.std.proofs.Common.{◌≡◌, ℕ, eqb, Option, Some, None, refl, ap, ◌∙◌}
use Rattle.std.specs.Option.{option_eq}
use Rattle.model.specs.Blocks.{Bytes}
use Rattle.figures.specs.Trees.{told_by, same_told, tree_agrees}
use Rattle.figures.proofs.Laws.Drives.{lent_is}
use Rattle.figures.proofs.trees.TreeRowRow.run.Goals as goal

same_is : (said got : Option ℕ) → option_eq eqb said got ≡ same_told said got
same_is None None = refl
same_is None (Some got) = refl
same_is (Some said) None = refl
same_is (Some said) (Some got) = refl

pub returns : goal.returns
unfolding tree_agrees
returns c =
    let row = c.args.self in
    c.eq.ensures ∙ same_is row.5 _ ∙ ap (same_told row.5)
    (c.told_by-told.ensures
    ∙ ap (λ (disk : Bytes). told_by disk row.4)
    (lent_is row.3 c.part_of.ensures c.small_drive-disk.ensures refl))
