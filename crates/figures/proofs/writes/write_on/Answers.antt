-- The list and what is said to be stored are cut as the model cuts them.
use Rattle.std.proofs.Common.{◌≡◌, List, length, take, replicate, refl, ◌∙◌, rules}
use Rattle.model.specs.Blocks.{DiskAddress}
use Rattle.model.specs.Calls.{written_disk}
use Rattle.figures.specs.Writes.{result_agrees, result_of, agrees_on}
use Rattle.figure_lines.proofs.Laws.Counts.{cut_lent}
use Rattle.figures.proofs.writes.write_on.Goals as goal

pub returns : goal.returns
unfolding agrees_on
returns c =
    let a = c.args in
    let made = c.write_listed.ensures in
    let list : List DiskAddress = replicate 23 99 in
    let whole : length a.stored ≡ 17 = search rules in
    record {
      agrees_is =
          made.agrees_is
          ∙ cut_lent (λ (said : List DiskAddress). result_agrees a.said said a.disk.now
          (take c.min-count.result list) a.write
          (result_of a.disk.now (take c.min-count.result list) a.write))
          a.said.stores 17 a.stored c.min-stores.ensures whole refl
          ∙ cut_lent (λ (part : List DiskAddress). result_agrees a.said (take a.said.stores a.stored)
          a.disk.now part a.write (result_of a.disk.now part a.write))
          a.room 23 list c.min-count.ensures refl refl;
      disk_is =
          made.disk_is ∙
          cut_lent (λ (part : List DiskAddress). written_disk (result_of a.disk.now part a.write) a.disk.now)
          a.room 23 list c.min-count.ensures refl refl;
    }
