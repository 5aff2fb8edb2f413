-- A hidden half that is cut before its root (document 02, K5): the new disk has a ghost tree again, and no
-- number shows anything else. A slot that the tree does not use may hold anything; a live one gets its
-- owner's path anew, which is planted up to the greatest level that the slot holds of it among those stored.
-- Assumes nothing.
use mathlib.Core.Path.{◌≡◌, refl, sym, ap, ◌∙◌, subst}
use mathlib.Core.Logic.{◌≢◌, inr, ⊎_elim}
use mathlib.Core.Bool.{true, false}
use mathlib.Core.Option.{Option, some}
use Prim.Native.Nat.{ℕ, zero, suc, ◌+◌, ◌*◌, ◌-◌, ◌≤◌, ◌<◌}
use native.Mathlib.Omega.{arith}
use lib.ListN.{length, take}
use Rattle.laws.proofs.Cases.{bool_cases, eq_cases, lt_cases, cond_true}
use Rattle.laws.proofs.Members.{All}
use Rattle.model.specs.Geometry.{Geometry, Fits, fanout, root_address, block_count, tree_capacity, block_width}
use Rattle.model.specs.Blocks.{Bytes, block_at, entry_at}
use Rattle.model.specs.Layout.{slot_start, level_address}
use Rattle.model.specs.Stores.{Trace}
use Rattle.model.specs.Paths.{linked_node, path_stores, current_path}
use Rattle.model.specs.HiddenTree.{owner_of}
use Rattle.model.specs.HiddenHalf.{HiddenState, HiddenHalf, is_live, hidden_half, hidden_by}
use Rattle.model.specs.Table.{HiddenChoice}
use Rattle.model.proofs.Laws.Stores.{last_at}
use Rattle.model.proofs.Laws.Paths.{Hides}
use Rattle.model.proofs.Laws.Accepted.{GoodWrite}
use Rattle.model.proofs.Laws.HiddenHalf.{row_of_hidden}
use Rattle.model.proofs.Laws.Owners.{owner_of_is, hidden_half_free, hidden_by_keep}
use Rattle.model.proofs.Tree.Keys.{key_of, key_of-zero, lt_tree_capacity}
use Rattle.model.proofs.Tree.Ghost.{Tree, slot_at, node_at, nodes_from, length-node_at, Ghost, block_in, value_of}
use Rattle.model.proofs.Tree.Ghost.{block_in_same}
use Rattle.model.proofs.Tree.Walks.{walk_nodes}
use Rattle.model.proofs.Tree.Live.{holds_of_is_live, owner_lt_of_is_live, unused_of_not_is_live}
use Rattle.model.proofs.Tree.Live.{is_blocked_false}
use Rattle.model.proofs.Tree.Nodes.{entry_at-linked_node_owner}
use Rattle.model.proofs.Tree.Planted.{planted, Planted, planted_same, planted_other}
use Rattle.model.proofs.Tree.Stored.{StoredBy, path_node, path_data}
use Rattle.model.proofs.Tree.Planting.{ghost_planted}
use Rattle.model.proofs.Tree.Unused.{ghost_unused, value_of_unused}
use Rattle.model.proofs.Tree.Turns.{Turned, still}
use Rattle.recovery_model.proofs.Laws.CutHalves.{cut-half_root, cut-half_later, cut-half_earlier}
use Rattle.recovery_model.proofs.Tree.Topmost.{Topmost, topmost}

module _ (g : Geometry) (f : Fits g) (disk after : Bytes) (tree : Tree)
    (whole : length disk ≡ block_count g * g.block_size) (ghost : Ghost g disk tree) (slot : ℕ)
    (here : slot < g.slots) (trace : Trace) (hides : Hides g slot trace) (count : ℕ)
    (short : count ≤ g.height) (stored : StoredBy g slot disk after (take count trace))
    (state : HiddenState) where
  root_same : block_at (block_width g) after (root_address g) ≡ block_at (block_width g) disk (root_address g)
  root_same = stored.in_root_lem ∙ cut-half_root g slot trace hides count short _

  -- ---- a slot that the tree does not use ----

  untouched_free : is_live g disk slot ≡ false → Turned g disk after tree state state
  untouched_free free =
      let unused = unused_of_not_is_live g f disk tree ghost slot free in
      record {
        grown = tree;
        ghost = ghost_unused g f disk after tree ghost slot unused root_same stored.apart;
        turn = still refl
            (value_of_unused g f disk after tree ghost slot unused root_same stored.apart);
      }

  -- ---- a live slot ----

  module _ (live : is_live g disk slot ≡ true)
      (trace-is : trace ≡ current_path g disk (owner_of g disk slot) slot
      (block_at (block_width g) disk (level_address g slot 0))) where
    abbrev owner : ℕ
    owner = owner_of g disk slot

    abbrev block : Bytes
    block = block_at (block_width g) disk (level_address g slot 0)

    owner_low : owner_of g disk slot < g.hidden
    owner_low = owner_lt_of_is_live g f disk tree ghost slot live

    owner_inside : owner_of g disk slot < tree_capacity g
    owner_inside = lt_tree_capacity g f owner owner_low

    holds : slot_at g tree 0 owner ≡ some slot
    holds = holds_of_is_live g f disk tree ghost slot live

    height_is : suc (g.height - 1) ≡ g.height
    height_is = omega (arith, f.height_low)

    path_is : trace ≡ path_stores g owner slot block (nodes_from g disk tree owner (suc (g.height - 1)))
    path_is =
        trace-is
        ∙ ap (path_stores g owner slot block)
        (walk_nodes g disk tree ghost.links owner owner_inside f
        ∙ ap (nodes_from g disk tree owner) (sym height_is))

    ours : (other level : ℕ) → other < tree_capacity g → level < g.height →
        slot_at g tree level other ≡ some slot → key_of g level other ≡ key_of g level owner
    ours other level h k e = sym (ghost.owned other level slot h k e).below

    -- a block that is stored is the path's
    place_stored : (place : ℕ) → place < count →
        block_at (block_width g) after (slot_start g slot + suc place) ≡
        last_at (path_stores g owner slot block (nodes_from g disk tree owner (suc (g.height - 1))))
        (slot_start g slot + suc place) (block_at (block_width g) disk (slot_start g slot + suc place))
    place_stored place h =
        stored.in_slot (suc place) (omega arith) (omega arith)
        ∙ cut-half_earlier g slot trace hides count short place _ h
        ∙ ap (λ (xs : Trace). last_at xs (slot_start g slot + suc place)
        (block_at (block_width g) disk (slot_start g slot + suc place))) path_is

    node_stored : (level : ℕ) → level < g.height - 1 → level < count →
        block_at (block_width g) after (level_address g slot (suc level)) ≡
        linked_node g owner slot level (node_at g disk tree (suc level) owner)
    node_stored level h k =
        place_stored level k ∙ path_node g disk tree owner slot block (g.height - 1) height_is level _ h

    -- and one that is not stays
    place_kept : (place : ℕ) → count ≤ place → suc place ≤ g.height →
        block_at (block_width g) after (slot_start g slot + suc place) ≡
        block_at (block_width g) disk (slot_start g slot + suc place)
    place_kept place h k =
        stored.in_slot (suc place) (omega arith) k ∙ cut-half_later g slot trace hides count short place _ h

    -- the data are the last hidden block, stored again or not
    data_same : block_at (block_width g) after (level_address g slot 0) ≡ block
    data_same = ⊎_elim
        (λ h.
        subst (λ (place : ℕ). block_at (block_width g) after (slot_start g slot + place) ≡
        block_at (block_width g) disk (slot_start g slot + place)) height_is
        (place_kept (g.height - 1) (omega arith) (omega (arith, height_is))))
        (λ h.
        subst (λ (place : ℕ). block_at (block_width g) after (slot_start g slot + place) ≡
        last_at (path_stores g owner slot block (nodes_from g disk tree owner (suc (g.height - 1))))
        (slot_start g slot + place) (block_at (block_width g) disk (slot_start g slot + place))) height_is
        (place_stored (g.height - 1) (omega (arith, height_is)))
        ∙ path_data g disk tree owner slot block (g.height - 1) height_is _)
        (lt_cases count g.height)

    leaf_owner : owner_of g after slot ≡ owner
    leaf_owner = ⊎_elim
        (λ h.
        owner_of_is g after slot
        ∙ ap (entry_at (fanout g - 1)) (node_stored 0 (omega (arith, f.height_low)) h)
        ∙ entry_at-linked_node_owner g f owner slot here (node_at g disk tree 1 owner)
        (length-node_at g disk tree whole ghost.links 1 owner (omega (arith, f.height_low)) owner_inside)
        (omega (arith, owner_low, f.hidden_high, f.blocks_high)))
        (λ h.
        owner_of_is g after slot
        ∙ ap (entry_at (fanout g - 1)) (place_kept 0 h (omega (arith, f.height_low)))
        ∙ sym (owner_of_is g disk slot))
        (lt_cases 0 count)

    -- the path planted up to the greatest level that the slot holds of it among those stored
    module _ (most : ℕ) (few : most ≤ count) (low : most < g.height)
        (high : (level : ℕ) → most < level → level < g.height → count < level) where
      best : Topmost g tree owner slot most
      best = topmost g tree owner slot most holds

      abbrev new : Tree
      new = planted g tree owner slot best.top

      kept_above : (level : ℕ) → count < level → level < g.height →
          block_at (block_width g) after (level_address g slot level) ≡
          block_at (block_width g) disk (level_address g slot level)
      kept_above zero h k = absurd (omega arith)
      kept_above (suc level) h k = place_kept level (omega arith) (omega arith)

      cut_planted : Planted g disk after tree owner slot best.top
      cut_planted =
          record {
            top_lt = omega (arith, best.within);
            ours = ours;
            nodes = λ level h.
                node_stored level (omega (arith, best.within)) (omega (arith, best.within));
            above = λ level h k e. ⊎_elim
                (λ l. kept_above level (high level l k) k)
                (λ l. absurd (best.greatest level h l e)) (lt_cases most level);
            apart = stored.apart;
            owner = leaf_owner;
            joined = inr (root_same, best.held, holds);
          }

      value_same : value_of g after new owner ≡ value_of g disk tree owner
      value_same =
          ap (block_in g after) (planted_same g tree owner slot best.top 0 owner (omega arith) refl)
          ∙ ap {B = Option Bytes} some data_same ∙ sym (ap (block_in g disk) holds)

      value_other : (other : ℕ) → other < tree_capacity g → other ≢ owner →
          value_of g after new other ≡ value_of g disk tree other
      value_other other h ne =
          ap (block_in g after)
          (planted_other g tree owner slot best.top 0 other
          (λ e. ne (sym (key_of-zero g other) ∙ e ∙ key_of-zero g owner)))
          ∙ block_in_same g disk after (slot_at g tree 0 other)
          (λ held e.
          stored.apart held g.height
          (ghost.links.inside other 0 held h (omega (arith, f.height_low)) e)
          (λ z. ne (sym (key_of-zero g other)
          ∙ ours other 0 h (omega (arith, f.height_low)) (e ∙ ap {B = Option ℕ} some z)
          ∙ key_of-zero g owner))
          (omega (arith, f.height_low)) (omega arith))

      untouched_upto : Turned g disk after tree state state
      untouched_upto =
          record {
            grown = new;
            ghost = ghost_planted g f disk after tree whole ghost owner slot best.top owner_low here
                cut_planted;
            turn = still refl (λ other h. ⊎_elim
                (λ e. ap (value_of g after new) e ∙ value_same ∙ ap (value_of g disk tree) (sym e))
                (value_other other h) (eq_cases other owner));
          }

    untouched_live : Turned g disk after tree state state
    untouched_live = ⊎_elim
        (λ h. untouched_upto count (omega arith) h (λ level k l. k))
        (λ h. untouched_upto (g.height - 1) (omega arith) (omega (arith, f.height_low))
        (λ level k l. absurd (omega arith)))
        (lt_cases count g.height)

-- ---- a round's half ----

module _ (g : Geometry) (f : Fits g) (disk : Bytes) (tree : Tree)
    (whole : length disk ≡ block_count g * g.block_size) (ghost : Ghost g disk tree) (slot : ℕ)
    (here : slot < g.slots) (state : HiddenState) (random : Bytes)
    (good : All (GoodWrite g) state.waiting) where
  abbrev part : HiddenHalf
  part = hidden_half g disk slot random state

  -- a live slot's half is its owner's path with its own data
  live_trace : is_live g disk slot ≡ true →
      part.trace ≡ current_path g disk (owner_of g disk slot) slot
      (block_at (block_width g) disk (level_address g slot 0))
  live_trace live =
      ap (λ (made : HiddenHalf). made.trace)
      (hidden_half_free g disk slot random state
      (is_blocked_false g f disk tree ghost slot state.waiting good)
      ∙ ap (λ (choice : HiddenChoice). hidden_by choice g disk slot random state state.waiting)
      (row_of_hidden g disk slot state.waiting ∙ cond_true _ _ live)
      ∙ hidden_by_keep g disk slot random state state.waiting)

  -- cut before the root, it leaves what every number shows
  pub hidden_half_untouched :
      Hides g slot part.trace → (count : ℕ) → count ≤ g.height → (after : Bytes) →
      StoredBy g slot disk after (take count part.trace) → Turned g disk after tree state state
  hidden_half_untouched hides count short after stored = ⊎_elim
      (λ live.
      untouched_live g f disk after tree whole ghost slot here part.trace hides count short stored state
      live (live_trace live))
      (untouched_free g f disk after tree whole ghost slot here part.trace hides count short stored state)
      (bool_cases (is_live g disk slot))
