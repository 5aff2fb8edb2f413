-- The parts that are lent are those of the write.
use Rattle.std.proofs.Common.{◌≡◌, List, length, replicate, Result}
use Rattle.model.specs.Blocks.{Bytes, DiskAddress}
use Rattle.model.specs.Calls.{Offered, written}
use Rattle.layout.specs.declared.refusals.Refusal.{Refusal}
use Rattle.mapper.specs.Writes.{WriteAnswered}
use Rattle.mapper.specs.declared.write.Written.{Written}
use Rattle.figures.specs.declared.writes.Write.{Write}
use Rattle.figures.specs.Writes.{offer_from, content_of, random_of, result_of}
use Rattle.figures.proofs.writes.do_write.Goals as goal

-- a write of the same parts
same_write :
    {content random disk_after : Bytes} {list list_after : List DiskAddress} {offer : Offered}
    {answer : Result Written Refusal} (disk : Bytes) (write : Write) →
    content ≡ content_of write → random ≡ random_of write →
    offer ≡ offer_from write.offer (replicate 33 9) →
    WriteAnswered (written disk write.number content random (length list) offer) disk list disk_after
    list_after answer →
    WriteAnswered (result_of disk list write) disk list disk_after list_after answer
unfolding result_of
same_write disk write content_is random_is offer_is made = rw (content_is, random_is, offer_is) at made

pub returns : goal.returns
returns c =
    same_write _ _ c.part_of.ensures c.part_of-2.ensures c.offer_of.ensures c.write_block.ensures
