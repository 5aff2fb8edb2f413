-- Laws of the whole write: it is the write up to a bound that leaves no store out. Assumes nothing.
use mathlib.Core.Path.{◌≡◌, ap, ◌∙◌}
use mathlib.Core.Bool.{false}
use mathlib.Core.List.{List}
use Prim.Native.Nat.{ℕ, ◌≤◌}
use lib.ListN.{length}
use Rattle.std.specs.Prelude.{Result}
use lib.Seq.{take_all}
use borrow.Author.Tests.{le-ltb}
use Rattle.laws.specs.Lists.{over}
use Rattle.laws.proofs.Cases.{cond_false}
use Rattle.model.specs.Geometry.{block_width}
use Rattle.model.specs.Blocks.{Bytes, DiskAddress}
use Rattle.model.specs.Layout.{geometry_in}
use Rattle.model.specs.Stores.{Trace, apply, addresses}
use Rattle.model.specs.Calls as model
use Rattle.recovery_model.specs.Cuts.{cut_trace, is_cut, cut_disk, cut_list}
use Rattle.layout.specs.declared.refusals.Refusal.{Refusal}
use Rattle.line.specs.declared.offers.Line.{Line}
use Rattle.line.specs.Offers.{line_of}
use Rattle.mapper.specs.declared.write.Written.{Written}
use Rattle.mapper.specs.declared.write.LineWritten.{LineWritten}
use Rattle.mapper.specs.Writes.{WriteTold, told_by_write, WriteAnswered}
use Rattle.mapper.specs.Writes.{LineTold, told_by_line_write, LineAnswered}
use Rattle.mapper.specs.Within.{BoundedTold, BoundedAnswered, LineBoundedTold, LineBoundedAnswered}

-- what is told of a line, without what is told of the cut
abbrev whole_line : LineBoundedTold → LineTold
whole_line bounded = record { told = bounded.bounded.told; placed = bounded.placed; line = bounded.line }

module _ (result : model.Written) (bound : ℕ) (fits : length result.trace ≤ bound) where
  uncut : is_cut bound result ≡ false
  uncut = le-ltb bound (length result.trace) fits

  all_made : cut_trace bound result ≡ result.trace
  all_made = take_all bound result.trace fits

  all_stored : (disk : Bytes) {disk_after : Bytes} → disk_after ≡ cut_disk bound result disk →
      disk_after ≡ model.written_disk result disk
  all_stored disk stored =
      stored ∙ ap (λ (xs : Trace). apply (block_width (geometry_in disk)) xs disk) all_made

  all_listed : (list : List DiskAddress) {listAfter : List DiskAddress} →
      listAfter ≡ cut_list bound result list →
      listAfter ≡ model.written_list result list
  all_listed list listed = listed ∙ ap (λ (xs : Trace). over 0 (addresses xs) list) all_made

  pub block_uncut :
      {disk : Bytes} {list : List DiskAddress} {disk_after : Bytes} {listAfter : List DiskAddress}
      (bounded : BoundedTold) → BoundedAnswered result bound disk list disk_after listAfter bounded →
      (answer : Result Written Refusal) → told_by_write answer ≡ bounded.told →
      WriteAnswered result disk list disk_after listAfter answer
  block_uncut bounded said answer same =
      record {
        answered = ap (λ (told : WriteTold). told.answer) same ∙ said.answered;
        rounds_are = ap (λ (told : WriteTold). told.rounds) same ∙ said.rounds_are ∙ cond_false _ _ uncut;
        stores_are = ap (λ (told : WriteTold). told.stores) same ∙ said.stores_are ∙ ap length all_made;
        outcome_is = ap (λ (told : WriteTold). told.outcome) same ∙ said.outcome_is ∙ cond_false _ _ uncut;
        stored = all_stored _ said.stored;
        listed = all_listed _ said.listed;
      }

  pub line_uncut :
      {disk : Bytes} {list : List DiskAddress} {blocks : Bytes} {line : Line} {disk_after : Bytes}
      {listAfter : List DiskAddress} (bounded : LineBoundedTold) →
      LineBoundedAnswered result bound disk list blocks line disk_after listAfter bounded →
      (answer : Result LineWritten Refusal) → told_by_line_write line answer ≡ whole_line bounded →
      LineAnswered result disk list blocks line disk_after listAfter answer
  line_uncut bounded said answer same =
      let uncut_told = said.told in
      record {
        answered = ap (λ (told : LineTold). told.told.answer) same ∙ uncut_told.answered;
        rounds_are =
            ap (λ (told : LineTold). told.told.rounds) same ∙ uncut_told.rounds_are ∙ cond_false _ _ uncut;
        stores_are =
            ap (λ (told : LineTold). told.told.stores) same ∙ uncut_told.stores_are ∙ ap length all_made;
        outcome_is =
            ap (λ (told : LineTold). told.told.outcome) same ∙ uncut_told.outcome_is ∙ cond_false _ _ uncut;
        placed_are = ap (λ (told : LineTold). told.placed) same ∙ said.placed_are ∙ cond_false _ _ uncut;
        line_left_lem =
            ap (λ (told : LineTold). line_of told.line) same ∙ said.line_left_lem ∙ cond_false _ _ uncut;
        stored = all_stored _ uncut_told.stored;
        listed = all_listed _ uncut_told.listed;
      }
