-- One name that opens every definition that the figures and limits compute with. Assumes nothing.
use Rattle.laws.proofs.Computing.{computing_bytes}
use Rattle.model.specs.Geometry.{is_geometry}
use Rattle.model.specs.Blocks.{block_at, set_block, entry_at, set_entry, packed}
use Rattle.model.specs.Layout.{is_slot_block, is_allocated, bitmap_with, map_entry, is_place}
use Rattle.model.specs.HiddenTree.{owner_of, branch_at, walk_from}
use Rattle.model.specs.Stores.{apply, addresses}
use Rattle.model.specs.Table.{table, row_at}
use Rattle.model.specs.Paths.{linked_node, node_stores, path_stores, kept_blocks, random_blocks}
use Rattle.model.specs.HiddenHalf.{is_live, is_owner_damaged, is_next_damaged, hidden_by, hidden_half}
use Rattle.model.specs.Rounds.{public_store, moved_stores, bit_stores, map_stores, round_trace, run_from}
use Rattle.model.specs.Refusals.{size_checks, size_refusal, drive_checks, place_checks, rounds_to}
use Rattle.model.specs.Refusals.{round_checks, hidden_checks, walk_checks, drive_refusal, public_read_refusal}
use Rattle.model.specs.Refusals.{write_refusal, hidden_read_refusal, hidden_write_refusal}
use Rattle.model.specs.Line.{without, first_offers, good_offers, hidden_writes_of, left_after, is_waiting_in}
use Rattle.model.specs.Line.{enter_refusal, with_offer, entered, good_block, waiting_for}
use Rattle.model.specs.Calls.{header_block, fresh_front, formatted, public_read, hidden_read, offer_outcome}
use Rattle.model.specs.Calls.{offer_refusal, offered_writes, write_run, written, line_left, disk_checks}
use Rattle.model.specs.Calls.{line_read_refusal, line_read}

-- to unfold it is to unfold all that its own line names
unfoldable pub computing : Type 0
unfolding computing_bytes is_geometry block_at set_block entry_at set_entry packed is_slot_block is_allocated
    bitmap_with map_entry is_place branch_at walk_from apply addresses table row_at owner_of is_live is_owner_damaged
    is_next_damaged linked_node node_stores path_stores kept_blocks random_blocks hidden_by hidden_half public_store
    moved_stores bit_stores map_stores round_trace run_from size_checks size_refusal drive_checks place_checks
    rounds_to round_checks hidden_checks walk_checks drive_refusal public_read_refusal write_refusal
    hidden_read_refusal hidden_write_refusal header_block fresh_front formatted public_read hidden_read offer_outcome
    offer_refusal offered_writes write_run written without first_offers good_offers hidden_writes_of left_after
    is_waiting_in enter_refusal with_offer entered good_block waiting_for line_left disk_checks line_read_refusal
    line_read
computing = Unit {0}
