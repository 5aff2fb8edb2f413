-- Where the stores of a slot go, whatever the plan: A to A + k in order, then the root. Assumes nothing.
use mathlib.Core.Path.{◌≡◌, ap, ◌∙◌}
use mathlib.Core.List.{List, ◌∷◌}
use Prim.Native.Nat.{ℕ, ◌*◌, ◌-◌, ◌≤◌, ◌<◌}
use native.Mathlib.Numerals.{add-one}
use native.Mathlib.Omega.{arith}
use lib.ListN.{length}
use Rattle.model.specs.Geometry.{Geometry, root_address}
use Rattle.model.specs.Blocks.{Bytes}
use Rattle.model.specs.Layout.{Drive, slot_start, level_address}
use Rattle.model.specs.Stores.{addresses}
use Rattle.model.specs.Rounds.{public_store}
use Rattle.model.specs.Simulator.{slot_addresses}
use Rattle.model.proofs.Laws.Geometry.{slot_block_lt}
use Rattle.model.proofs.Laws.Paths.{Hides, addresses_from_suc, block_at_whole}
use Rattle.model.proofs.Laws.Paths.{written_back_hides, dummy_stores_hides, path_stores_hides}
use Rattle.model.proofs.Laws.RoundStores.{public_store_address}
use Rattle.model.proofs.Laws.Traces.{addresses-cons}
use Rattle.hidden_map.specs.Nodes.{address_at, path_blocks}
use Rattle.hidden_map.proofs.Laws.Nodes.{length-node_blocks, node_blocks_whole}
use Rattle.plans.specs.declared.hidden_plans.Data.{Data}
use Rattle.plans.specs.declared.hidden_plans.Data.TheVariants.{Own, Offered}
use Rattle.plans.specs.declared.hidden_plans.HiddenPlan.{HiddenPlan}
use Rattle.plans.specs.declared.hidden_plans.HiddenPlan.TheVariants.{Back, Path, Fill}
use Rattle.plans.specs.declared.public_plans.PublicPlan.{PublicPlan}
use Rattle.plans.specs.HiddenPlans.{data_of, hidden_trace, offered_in, offered_by, BlockLent, PathPlaced}
use Rattle.plans.specs.PublicPlans.{choice_of}
use Rattle.stores.proofs.Laws.Descriptors.{length-lent_block}
use Rattle.slot_stores.specs.Slots.{slot_trace}

module _ (g : Geometry) (disk : Bytes) (drive : Drive g disk) (slot : ℕ) (inside : slot < g.slots)
    (blocks random : Bytes) (enough : g.height * g.block_size ≤ length random) where
  length-data_of : (which : Data) → BlockLent g blocks (offered_in which) →
      length (data_of which g disk slot blocks) ≡ g.block_size
  length-data_of Own lent =
      block_at_whole g drive.fits disk drive.whole (level_address g slot 0)
      (slot_block_lt g slot g.height inside (omega arith))
  length-data_of (Offered place) lent = length-lent_block g blocks place lent

  hidden_trace_hides :
      (plan : HiddenPlan) → PathPlaced g plan → BlockLent g blocks (offered_by plan) →
      Hides g slot (hidden_trace plan g disk slot blocks random)
  hidden_trace_hides Back placed lent = written_back_hides g drive.fits disk drive.whole slot inside
  hidden_trace_hides (Path number nodes which) placed lent =
      let f = drive.fits in
      let at = address_at nodes in
      path_stores_hides g f disk drive.whole slot inside number.0 (data_of which g disk slot blocks)
      (path_blocks g disk at) (length-data_of which lent)
      (record {
        counted = omega (arith, length-node_blocks g disk at (g.height - 1), f.height_low);
        whole = (
          block_at_whole g f disk drive.whole (root_address g) (omega arith),
          node_blocks_whole g disk drive at placed (g.height - 1),
        );
      })
  hidden_trace_hides Fill placed lent =
      dummy_stores_hides g drive.fits disk drive.whole slot inside random enough

  pub addresses-slot_trace :
      (content : Bytes) (public : PublicPlan) (hidden : HiddenPlan) → PathPlaced g hidden →
      BlockLent g blocks (offered_by hidden) →
      addresses (slot_trace public hidden g disk slot content blocks random) ≡ slot_addresses g slot
  addresses-slot_trace content public hidden placed lent =
      addresses-cons (public_store (choice_of public) g disk slot content) _
      ∙ ap (λ (xs : List ℕ). (public_store (choice_of public) g disk slot content).address ∷ xs)
      (hidden_trace_hides hidden placed lent).runs
      ∙ rw (
        public_store_address (choice_of public) g disk slot content,
        addresses_from_suc,
        add-one (slot_start g slot),
      )
