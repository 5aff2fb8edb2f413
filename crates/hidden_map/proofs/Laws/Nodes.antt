-- Laws of the nodes that a walk reads: what is read by the walk's first step, that every node stands where
-- one of its level can, and that the blocks of the nodes are those of the model's walk. Assumes nothing.
use mathlib.Core.Path.{◌≡◌, refl, sym, ap, ap₂, ◌∙◌}
use mathlib.Core.Logic.{◌≢◌, ◌⊎◌, inl, inr}
use mathlib.Core.Bool.{true, false}
use mathlib.Core.List.{List, ◌∷◌}
use mathlib.Core.Option.{Option, none, some}
use Prim.Native.Nat.{ℕ, zero, suc, ◌-◌, ◌≤◌, ◌<◌}
use native.Mathlib.Omega.{arith}
use lib.ListN.{length, replicate, length-replicate}
use Rattle.laws.proofs.Cases.{eq_cases, true_is_not_false, none_is_not_some, some_inj}
use Rattle.model.specs.Geometry.{Geometry, root_address, block_count, block_width}
use Rattle.model.specs.Blocks.{Bytes, DiskAddress, block_at, zero_block}
use Rattle.model.specs.Layout.{Drive, level_place, is_well_formed}
use Rattle.model.specs.HiddenTree.{walk_from, walk, Walk, End, found, unmapped, damaged}
use Rattle.model.proofs.Laws.Stores.{All}
use Rattle.model.proofs.Laws.Blocks.{length-block_at}
use Rattle.model.proofs.Laws.Slots.{slot_block_of}
use Rattle.model.proofs.Laws.Paths.{WholeBlock}
use Rattle.hidden_map.specs.Ends.{step_of}
use Rattle.hidden_map.specs.Nodes.{with_address, read_on, read_from, read_at, node_blocks, block_of_node}
use Rattle.hidden_map.specs.Nodes.{path_blocks, StandsByLevel}
use Rattle.hidden_map.proofs.Laws.Steps.{is_found, walk_from_leaf, walk_from_stop, walk_from_goes}
use Rattle.hidden_map.proofs.Laws.Steps.{step_of_formed}
use Rattle.hidden_map.proofs.Laws.Levels.{with_address_here, with_address_other}

-- ---- what is read, by the first step ----

module _ (g : Geometry) (disk : Bytes) (number : ℕ) (node : Bytes) (wanted : ℕ) where
  pub read_from_leaf : (level : ℕ) → level ≡ 0 → read_from g disk number level node wanted ≡ none
  unfolding read_from
  read_from_leaf level z = rw z

  pub read_from_stop :
      (level : ℕ) → is_found (step_of g number level node) ≡ false →
      read_from g disk number level node wanted ≡ none
  unfolding read_from
  read_from_stop zero h = refl
  read_from_stop (suc level) h = stops (step_of g number (suc level) node) _ h
    where
      stops : (end : End) (read : DiskAddress → Option DiskAddress) → is_found end ≡ false →
          read_on end read ≡ none
      stops (found address) read h = true_is_not_false refl h
      stops unmapped read h = refl
      stops damaged read h = refl

  pub read_from_goes :
      (level : ℕ) (address : DiskAddress) → level ≢ 0 → found address ≡ step_of g number level node →
      read_from g disk number level node wanted ≡
      with_address (read_from g disk number (level - 1) (block_at (block_width g) disk address)) level address
      wanted
  unfolding read_from
  read_from_goes zero address ne h = absurd (ne refl)
  read_from_goes (suc level) address ne h =
      let less : suc level - 1 ≡ level = omega arith in rw (← h, less)

-- nothing is read above the level that the walk begins on
pub read_from_above :
    (g : Geometry) (disk : Bytes) (number level : ℕ) (node : Bytes) (wanted : ℕ) → level < wanted →
    read_from g disk number level node wanted ≡ none
unfolding read_from
read_from_above g disk number zero node wanted h = refl
read_from_above g disk number (suc level) node wanted h =
    by (step_of g number (suc level) node)
    (λ block. read_from_above g disk number level block wanted (omega arith))
  where
    by : (end : End) → ((block : Bytes) → read_from g disk number level block wanted ≡ none) →
        read_on end (λ (address : DiskAddress).
        with_address (read_from g disk number level (block_at (block_width g) disk address)) (suc level)
        address wanted) ≡ none
    by (found address) below =
        let block = block_at (block_width g) disk address in
        with_address_other (read_from g disk number level block) (suc level) address wanted
        (λ z. omega arith)
        ∙ below block
    by unmapped below = refl
    by damaged below = refl

-- ---- where a node stands ----

module _ (g : Geometry) (disk : Bytes) (number : ℕ) where
  -- what is read from the node on that a step leads to
  abbrev reading_below : (level : ℕ) → DiskAddress → (wanted : ℕ) → Option DiskAddress
  reading_below level reached = read_from g disk number level (block_at (block_width g) disk reached)

  formed_from :
      (level : ℕ) (node : Bytes) (wanted : ℕ) (address : DiskAddress) →
      read_from g disk number level node wanted ≡ some address → is_well_formed g wanted address ≡ true
  unfolding read_from
  formed_from zero node wanted address e = none_is_not_some address e
  formed_from (suc level) node wanted address e =
      by (step_of g number (suc level) node)
      (λ reached h. formed_from level (block_at (block_width g) disk reached) wanted address h) refl e
    where
      at_step : (reached : DiskAddress) → is_well_formed g (suc level) reached ≡ true →
          (reading_below level reached wanted ≡ some address → is_well_formed g wanted address ≡ true) →
          (wanted ≡ suc level) ⊎ (wanted ≢ suc level) →
          with_address (reading_below level reached) (suc level) reached wanted ≡ some address →
          is_well_formed g wanted address ≡ true
      at_step reached formed later (inl same) e =
          let here : some reached ≡ some address =
          sym (with_address_here (reading_below level reached) (suc level) reached)
          ∙ ap (with_address (reading_below level reached) (suc level) reached) (sym same) ∙ e in
          let there : reached ≡ address = some_inj reached address here in
          rw (same, ← there) formed
      at_step reached formed later (inr other) e =
          later (sym (with_address_other (reading_below level reached) (suc level) reached wanted other) ∙ e)

      by : (end : End) →
          ((reached : DiskAddress) → reading_below level reached wanted ≡ some address →
          is_well_formed g wanted address ≡ true) →
          end ≡ step_of g number (suc level) node →
          read_on end (λ (reached : DiskAddress).
          with_address (reading_below level reached) (suc level) reached wanted) ≡ some address →
          is_well_formed g wanted address ≡ true
      by (found reached) later h e =
          at_step reached (step_of_formed g number (suc level) node reached h) (later reached)
          (eq_cases wanted (suc level)) e
      by unmapped later h e = none_is_not_some address e
      by damaged later h e = none_is_not_some address e

  -- a node of each level that a walk reads stands where one of that level can
  pub placed_walk : StandsByLevel g (read_at g disk number)
  placed_walk =
      record {
        well_formed = λ level address e.
            formed_from (g.height - 1) (block_at (block_width g) disk (root_address g)) level address e;
      }

-- and so on the drive
placed_inside :
    (g : Geometry) (at : ℕ → Option DiskAddress) → StandsByLevel g at → (level : ℕ) (address : DiskAddress) →
    at level ≡ some address → address < block_count g
placed_inside g at placed level address e =
    (slot_block_of g (level_place g level) address (placed.well_formed level address e)).address_inside

pub placed_same :
    (g : Geometry) (at other : ℕ → Option DiskAddress) → ((level : ℕ) → at level ≡ other level) →
    StandsByLevel g other → StandsByLevel g at
placed_same g at other same placed =
    record { well_formed = λ level address e. placed.well_formed level address (sym (same level) ∙ e) }

-- ---- the blocks of nodes ----

module _ (g : Geometry) (disk : Bytes) (at other : ℕ → Option DiskAddress) where
  node_blocks_same :
      (level : ℕ) → ((wanted : ℕ) → wanted ≤ level → at wanted ≡ other wanted) →
      node_blocks g disk at level ≡ node_blocks g disk other level
  unfolding node_blocks
  node_blocks_same zero same = refl
  node_blocks_same (suc level) same =
      ap₂ {C = List Bytes}
      (λ (node : Option DiskAddress) (below : List Bytes). block_of_node g disk node ∷ below)
      (same (suc level) (omega arith)) (node_blocks_same level (λ wanted h. same wanted (omega arith)))

  pub path_blocks_same :
      ((level : ℕ) → at level ≡ other level) → path_blocks g disk at ≡ path_blocks g disk other
  path_blocks_same same =
      ap {B = List Bytes} (λ (below : List Bytes). block_at (block_width g) disk (root_address g) ∷ below)
      (node_blocks_same (g.height - 1) (λ wanted h. same wanted))

pub node_blocks_suc :
    (g : Geometry) (disk : Bytes) (at : ℕ → Option DiskAddress) (level : ℕ) →
    node_blocks g disk at (suc level) ≡ block_of_node g disk (at (suc level)) ∷ node_blocks g disk at level
unfolding node_blocks
node_blocks_suc g disk at level = refl

pub length-node_blocks :
    (g : Geometry) (disk : Bytes) (at : ℕ → Option DiskAddress) (level : ℕ) →
    length (node_blocks g disk at level) ≡ level
unfolding node_blocks
length-node_blocks g disk at zero = refl
length-node_blocks g disk at (suc level) = ap suc (length-node_blocks g disk at level)

module _ (g : Geometry) (disk : Bytes) (drive : Drive g disk) (at : ℕ → Option DiskAddress)
    (placed : StandsByLevel g at) where
  length-node_block :
      (level : ℕ) (node : Option DiskAddress) → at level ≡ node →
      length (block_of_node g disk node) ≡ g.block_size
  length-node_block level none e = length-replicate g.block_size 0
  length-node_block level (some address) e =
      length-block_at (block_width g) disk (block_count g) drive.whole address
      (placed_inside g at placed level address e)

  pub node_blocks_whole : (level : ℕ) → All (WholeBlock g) (node_blocks g disk at level)
  unfolding node_blocks
  node_blocks_whole zero = tt
  node_blocks_whole (suc level) =
      (length-node_block (suc level) (at (suc level)) refl, node_blocks_whole level)

-- nodes that were not reached
node_blocks_none :
    (g : Geometry) (disk : Bytes) (at : ℕ → Option DiskAddress) (level : ℕ) →
    ((wanted : ℕ) → at wanted ≡ none) →
    node_blocks g disk at level ≡ replicate level (zero_block g.block_size)
unfolding node_blocks
node_blocks_none g disk at zero h = refl
node_blocks_none g disk at (suc level) h =
    ap₂ {C = List Bytes}
    (λ (node : Option DiskAddress) (below : List Bytes). block_of_node g disk node ∷ below)
    (h (suc level)) (node_blocks_none g disk at level h)

module _ (g : Geometry) (disk : Bytes) (number : ℕ) where
  -- the nodes of the model's walk are the blocks of the nodes that are read
  nodes_from_lem :
      (level : ℕ) (node : Bytes) →
      (walk_from g disk number level node).nodes ≡
      node ∷ node_blocks g disk (read_from g disk number level node) level
  unfolding node_blocks
  nodes_from_lem zero node =
      ap (λ (path : Walk). path.nodes) (walk_from_leaf g disk number node 0 refl)
      ∙ ap {B = List Bytes} (λ (below : List Bytes). node ∷ below)
      (sym (node_blocks_none g disk (read_from g disk number 0 node) 0
      (λ wanted. read_from_leaf g disk number node wanted 0 refl)))
  nodes_from_lem (suc level) node = by (step_of g number (suc level) node) (nodes_from_lem level) refl
    where
      stops :
          is_found (step_of g number (suc level) node) ≡ false →
          (walk_from g disk number (suc level) node).nodes ≡
          node ∷ node_blocks g disk (read_from g disk number (suc level) node) (suc level)
      stops h =
          ap (λ (path : Walk). path.nodes) (walk_from_stop g disk number node (suc level) h)
          ∙ ap {B = List Bytes} (λ (below : List Bytes). node ∷ below)
          (sym (node_blocks_none g disk (read_from g disk number (suc level) node) (suc level)
          (λ wanted. read_from_stop g disk number node wanted (suc level) h)))

      by : (end : End) →
          ((block : Bytes) → (walk_from g disk number level block).nodes ≡
          block ∷ node_blocks g disk (read_from g disk number level block) level) →
          end ≡ step_of g number (suc level) node →
          (walk_from g disk number (suc level) node).nodes ≡
          node ∷ node_blocks g disk (read_from g disk number (suc level) node) (suc level)
      by (found address) later h =
          let ne : suc level ≢ 0 = λ z. omega arith in
          let less : suc level - 1 ≡ level = omega arith in
          let block = block_at (block_width g) disk address in
          let below = read_from g disk number level block in
          let at = read_from g disk number (suc level) node in
          let goes : (wanted : ℕ) → at wanted ≡ with_address below (suc level) address wanted =
          λ wanted.
          read_from_goes g disk number node wanted (suc level) address ne h
          ∙ ap (λ (n : ℕ). with_address (read_from g disk number n block) (suc level) address wanted) less in
          ap (λ (path : Walk). path.nodes)
          (walk_from_goes g disk number node (suc level) address ne h).goes_on
          ∙ ap {B = List Bytes} (λ (n : ℕ). node ∷ (walk_from g disk number n block).nodes) less
          ∙ ap {B = List Bytes} (λ (below : List Bytes). node ∷ below)
          (later block
          ∙ ap₂ {C = List Bytes}
          (λ (first : Option DiskAddress) (rest : List Bytes). block_of_node g disk first ∷ rest)
          (sym (goes (suc level) ∙ with_address_here below (suc level) address))
          (node_blocks_same g disk below at level
          (λ wanted l. sym (goes wanted
          ∙ with_address_other below (suc level) address wanted (λ z. omega arith)))))
      by unmapped later h = stops (ap is_found (sym h))
      by damaged later h = stops (ap is_found (sym h))

  pub path_blocks-walk : path_blocks g disk (read_at g disk number) ≡ (walk g disk number).nodes
  path_blocks-walk = sym (nodes_from_lem (g.height - 1) (block_at (block_width g) disk (root_address g)))
