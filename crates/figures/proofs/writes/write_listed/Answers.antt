-- The refusal is asked before the write, and the list is compared after it.
use Rattle.std.proofs.Common.{◌≡◌, Bool, ◌&&◌, List, Result}
use Rattle.model.specs.Blocks.{Bytes, DiskAddress}
use Rattle.model.specs.Calls as model
use Rattle.layout.specs.declared.refusals.Refusal.{Refusal}
use Rattle.mapper.specs.Writes.{WriteAnswered, told_by_write}
use Rattle.mapper.specs.declared.write.Written.{Written}
use Rattle.answers_c.specs.declared.writes.Written.{Written as Flat}
use Rattle.answers_c.specs.Writes.{written_said}
use Rattle.figure_lines.specs.Counts.{is_listed}
use Rattle.figures.specs.declared.writes.Write.{Write}
use Rattle.figures.specs.declared.writes.Said.{Said}
use Rattle.figures.specs.Writes.{fault_agrees, said_agrees, result_agrees}
use Rattle.figures.proofs.writes.write_listed.Goals as goal

-- three comparisons
all_three :
    {disk after : Bytes} {list list_after : List DiskAddress} {made : Result Written Refusal} {flat : Flat}
    {refused told listed : Bool} (said : Said) (stored : List DiskAddress) (write : Write)
    (result : model.Written) → WriteAnswered result disk list after list_after made →
    refused ≡ fault_agrees disk list write said.answer → flat ≡ written_said (told_by_write made) →
    told ≡ said_agrees said flat.answer flat.rounds flat.stores flat.outcome →
    listed ≡ is_listed stored list_after →
    (refused && told && listed) ≡ result_agrees said stored disk list write result
all_three said stored write result good refused_is flat_is told_is listed_is =
    rw (
      refused_is,
      told_is,
      listed_is,
      flat_is,
      good.answered,
      good.rounds_are,
      good.stores_are,
      good.outcome_is,
      good.listed,
    )

pub returns : goal.returns
returns c =
    let a = c.args in
    let made = c.do_write-made.ensures in
    record {
      agrees_is =
          all_three a.said a.stored.now a.write _ made c.ask_fault-refused.ensures c.from.ensures
          c.print_written-told.ensures c.print_list-listed.ensures;
      disk_is = made.stored;
      list_is = made.listed;
    }
