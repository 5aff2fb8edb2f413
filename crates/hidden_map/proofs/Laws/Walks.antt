-- Laws of what a walk hands back, one for each way through it: at the leaf, where the walk stops and where it
-- goes on; and that the nodes handed back are those of the model's walk. Assumes nothing.
use mathlib.Core.Path.{◌≡◌, sym, ap, ◌∙◌}
use mathlib.Core.Logic.{◌≢◌}
use mathlib.Core.Bool.{false}
use mathlib.Core.Option.{Option, none}
use Prim.Native.Nat.{ℕ, ◌-◌}
use native.Mathlib.Omega.{arith}
use Rattle.model.specs.Geometry.{Geometry, root_address, block_width}
use Rattle.model.specs.Blocks.{Bytes, DiskAddress, block_at}
use Rattle.model.specs.HiddenTree.{Walk, walk, found}
use Rattle.hidden_map.specs.declared.nodes.Nodes.{Nodes}
use Rattle.hidden_map.specs.declared.walks.Reached.{Reached}
use Rattle.hidden_map.specs.declared.walks.Trail.{Trail}
use Rattle.hidden_map.specs.Ends.{end_of, step_of}
use Rattle.hidden_map.specs.Nodes.{address_at, with_address, read_over, read_from, read_at, path_blocks}
use Rattle.hidden_map.specs.Nodes.{StandsByLevel}
use Rattle.hidden_map.specs.Walks.{WalkedFrom, Walked}
use Rattle.hidden_map.proofs.Laws.Levels.{read_over_with, read_over_none}
use Rattle.hidden_map.proofs.Laws.Steps.{is_found, walk_from_leaf, walk_from_stop, walk_from_goes}
use Rattle.hidden_map.proofs.Laws.Nodes.{read_from_leaf, read_from_stop, read_from_goes, read_from_above}
use Rattle.hidden_map.proofs.Laws.Nodes.{placed_walk, placed_same, path_blocks_same, path_blocks-walk}

module _ (g : Geometry) (disk : Bytes) (number level : ℕ) (node : Bytes) where
  module _ (end : Reached) (nodes : Nodes) (told : end_of end ≡ step_of g number level node) where
    pub walked_leaf : level ≡ 0 → WalkedFrom g disk number level node end nodes nodes
    walked_leaf z =
        record {
          end_is = told ∙ sym (ap (λ (path : Walk). path.end) (walk_from_leaf g disk number node level z));
          nodes_are = λ wanted.
              sym (ap (λ (read : Option DiskAddress). read_over read (address_at nodes wanted))
              (read_from_leaf g disk number node wanted level z));
        }

    pub walked_stop :
        is_found (end_of end) ≡ false → WalkedFrom g disk number level node end nodes nodes
    walked_stop f =
        let stops : is_found (step_of g number level node) ≡ false = ap is_found (sym told) ∙ f in
        record {
          end_is =
              told ∙ sym (ap (λ (path : Walk). path.end) (walk_from_stop g disk number node level stops));
          nodes_are = λ wanted.
              sym (ap (λ (read : Option DiskAddress). read_over read (address_at nodes wanted))
              (read_from_stop g disk number node wanted level stops));
        }

  pub walked_on :
      (address : DiskAddress) (end : Reached) (before set after : Nodes) → level ≢ 0 →
      found address ≡ step_of g number level node →
      ((wanted : ℕ) → address_at set wanted ≡ with_address (address_at before) level address wanted) →
      WalkedFrom g disk number (level - 1) (block_at (block_width g) disk address) end set after →
      WalkedFrom g disk number level node end before after
  walked_on address end before set after ne told added below =
      let block = block_at (block_width g) disk address in
      let read = read_from g disk number (level - 1) block in
      record {
        end_is =
            below.end_is
            ∙ sym (ap (λ (path : Walk). path.end)
            (walk_from_goes g disk number node level address ne told).goes_on);
        nodes_are = λ wanted.
            below.nodes_are wanted ∙ ap (read_over (read wanted)) (added wanted)
            ∙ read_over_with read level address (address_at before)
            (read_from_above g disk number (level - 1) block level (omega arith)) wanted
            ∙ sym (ap (λ (read : Option DiskAddress). read_over read (address_at before wanted))
            (read_from_goes g disk number node wanted level address ne told));
      }

-- from the root, over no nodes
pub walked_root :
    (g : Geometry) (disk : Bytes) (number root : ℕ) (end : Reached) (before after : Nodes) →
    root ≡ root_address g → ((level : ℕ) → address_at before level ≡ none) →
    WalkedFrom g disk number (g.height - 1) (block_at (block_width g) disk root) end before after →
    Walked g disk number (record { end = end; nodes = after })
walked_root g disk number root end before after e unread from =
    let w : WalkedFrom g disk number (g.height - 1) (block_at (block_width g) disk (root_address g))
    end before after =
    rw e at from in
    record {
      end_is = w.end_is;
      nodes_are = λ level.
          w.nodes_are level ∙ ap (read_over (read_at g disk number level)) (unread level)
          ∙ read_over_none (read_at g disk number level);
    }

-- ---- the nodes that are handed back ----

-- the blocks of the nodes that a walk handed back are the nodes of the model's walk
pub blocks_walked :
    (g : Geometry) (disk : Bytes) (number : ℕ) (trail : Trail) → Walked g disk number trail →
    path_blocks g disk (address_at trail.nodes) ≡ (walk g disk number).nodes
blocks_walked g disk number trail walked =
    path_blocks_same g disk (address_at trail.nodes) (read_at g disk number) walked.nodes_are
    ∙ path_blocks-walk g disk number

pub placed_walked :
    (g : Geometry) (disk : Bytes) (number : ℕ) (trail : Trail) → Walked g disk number trail →
    StandsByLevel g (address_at trail.nodes)
placed_walked g disk number trail walked =
    placed_same g (address_at trail.nodes) (read_at g disk number) walked.nodes_are
    (placed_walk g disk number)
