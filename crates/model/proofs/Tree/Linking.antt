-- A path stored in a slot up to a level: the new disk's nodes lead just where the ghost tree with the path
-- planted in it says. Assumes nothing.
use mathlib.Core.Path.{◌≡◌, sym, ap, ap₂, ◌∙◌, subst}
use mathlib.Core.Logic.{◌≢◌, ◌⊎◌, inl, inr, ⊎_elim}
use mathlib.Core.Option.{Option, some}
use Prim.Native.Nat.{ℕ, suc, ◌*◌, ◌≤◌, ◌<◌}
use native.Mathlib.Omega.{arith}
use lib.ListN.{length}
use Rattle.laws.proofs.Cases.{eq_cases, lt_cases}
use Rattle.model.specs.Geometry.{Geometry, Fits, root_address, block_count, tree_capacity, block_width}
use Rattle.model.specs.Blocks.{Bytes, block_at, entry_at}
use Rattle.model.specs.Layout.{level_address}
use Rattle.model.specs.HiddenTree.{branch_at}
use Rattle.model.specs.Paths.{linked_node}
use Rattle.model.proofs.Tree.Keys.{key_of, key_of_up, key_of_down, branch_at_same, key_of_height}
use Rattle.model.proofs.Tree.Keys.{lt_tree_capacity}
use Rattle.model.proofs.Tree.Ghost.{Tree, slot_at, entry_to, node_in, node_at, Ghost, node_at_height}
use Rattle.model.proofs.Tree.Ghost.{node_at_below, node_at_same, node_in_same, length-node_at}
use Rattle.model.proofs.Tree.Nodes.{entry_at-linked_node_same, entry_at-linked_node_other}
use Rattle.model.proofs.Tree.Planted.{planted, Planted, planted_same, planted_above, planted_other}

module _ (g : Geometry) (f : Fits g) (disk after : Bytes) (tree : Tree)
    (whole : length disk ≡ block_count g * g.block_size)
    (ghost : Ghost g disk tree) (number slot top : ℕ) (low : number < g.hidden) (here : slot < g.slots)
    (path : Planted g disk after tree number slot top) where
  abbrev new : Tree
  new = planted g tree number slot top

  -- all numbers of the tree share the root
  root_shared : (other level : ℕ) → other < tree_capacity g → level ≡ g.height →
      key_of g level other ≡ key_of g level number
  root_shared other level h e =
      subst (λ (l : ℕ). key_of g l other ≡ key_of g l number) (sym e)
      (key_of_height g f other h ∙ sym (key_of_height g f number (lt_tree_capacity g f number low)))

  -- a node that was not stored, or that others use, is as it was
  node_in_kept : (other level : ℕ) → other < tree_capacity g → suc level < g.height →
      (top < suc level) ⊎ (key_of g (suc level) other ≢ key_of g (suc level) number) →
      node_in g after (suc level) (slot_at g tree (suc level) other) ≡
      node_in g disk (suc level) (slot_at g tree (suc level) other)
  node_in_kept other level h k unstored =
      node_in_same g disk after (suc level) (slot_at g tree (suc level) other)
      (λ held e. by held e (eq_cases held slot))
    where
      by : (held : ℕ) → slot_at g tree (suc level) other ≡ some held → (held ≡ slot) ⊎ (held ≢ slot) →
          node_in g after (suc level) (some held) ≡ node_in g disk (suc level) (some held)
      by held e (inr ne) =
          path.apart held (suc level) (ghost.links.inside other (suc level) held h k e) ne (omega arith)
          (omega arith)
      by held e (inl q) =
          let mine : slot_at g tree (suc level) other ≡ some slot = e ∙ ap {B = Option ℕ} some q in
          let shared = path.ours other (suc level) h k mine in
          ⊎_elim
          (λ l.
          ap (λ (n : ℕ). block_at (block_width g) after (level_address g n (suc level))) q
          ∙ path.above (suc level) l k (ap (tree (suc level)) (sym shared) ∙ mine)
          ∙ ap (λ (n : ℕ). block_at (block_width g) disk (level_address g n (suc level))) (sym q))
          (λ ne. absurd (ne shared)) unstored

  abbrev pub LinkedAt : (other level : ℕ) → Type 0
  LinkedAt other level =
      entry_at (branch_at g other level) (node_at g after new (suc level) other) ≡
      entry_to g level (slot_at g new level other)

  -- in a node that was stored
  linked_new : (other level : ℕ) → other < tree_capacity g → level < g.height → level ≤ top →
      key_of g (suc level) other ≡ key_of g (suc level) number →
      node_at g after new (suc level) other ≡
      linked_node g number slot level (node_at g disk tree (suc level) number) → LinkedAt other level
  linked_new other level h k l shared stored = by (eq_cases (key_of g level other) (key_of g level number))
    where
      old : Bytes
      old = node_at g disk tree (suc level) number

      sized : length old ≡ g.block_size
      sized =
          length-node_at g disk tree whole ghost.links (suc level) number (omega arith)
          (lt_tree_capacity g f number low)

      by : (key_of g level other ≡ key_of g level number) ⊎ (key_of g level other ≢ key_of g level number) →
          LinkedAt other level
      by (inl e) =
          ap₂ (λ (index : ℕ) (node : Bytes). entry_at index node) (branch_at_same g level other number e) stored
          ∙ entry_at-linked_node_same g f number slot here old sized level k
          ∙ ap (entry_to g level) (sym (planted_same g tree number slot top level other l e))
      by (inr ne) =
          ap (entry_at (branch_at g other level)) stored
          ∙ entry_at-linked_node_other g f number slot here old sized level other
          (λ e. ne (key_of_down g level other number shared e))
          ∙ ap (entry_at (branch_at g other level))
          (node_at_same g disk tree (suc level) number other (sym shared))
          ∙ ghost.links.linked other level h k
          ∙ ap (entry_to g level) (sym (planted_other g tree number slot top level other ne))

  -- in a node that was not
  linked_old : (other level : ℕ) → other < tree_capacity g → level < g.height →
      node_at g after new (suc level) other ≡ node_at g disk tree (suc level) other →
      slot_at g new level other ≡ slot_at g tree level other → LinkedAt other level
  linked_old other level h k same kept =
      ap (entry_at (branch_at g other level)) same ∙ ghost.links.linked other level h k
      ∙ ap (entry_to g level) (sym kept)

  -- a node of others
  node_at_other : (other level : ℕ) → other < tree_capacity g → level < g.height →
      key_of g (suc level) other ≢ key_of g (suc level) number →
      node_at g after new (suc level) other ≡ node_at g disk tree (suc level) other
  node_at_other other level h k ne =
      let l : suc level < g.height =
      ⊎_elim (λ e. absurd (ne (root_shared other (suc level) h e))) (λ e. omega arith)
      (eq_cases (suc level) g.height) in
      node_at_below g after new (suc level) other l
      ∙ ap (node_in g after (suc level)) (planted_other g tree number slot top (suc level) other ne)
      ∙ node_in_kept other level h l (inr ne)
      ∙ sym (node_at_below g disk tree (suc level) other l)

  -- a node above what was stored, the root as it was
  node_at_above : (other level : ℕ) → other < tree_capacity g → level < g.height → top < suc level →
      block_at (block_width g) after (root_address g) ≡ block_at (block_width g) disk (root_address g) →
      node_at g after new (suc level) other ≡ node_at g disk tree (suc level) other
  node_at_above other level h k l kept = ⊎_elim
      (λ e.
      subst (λ (n : ℕ). node_at g after new n other ≡ node_at g disk tree n other) (sym e)
      (node_at_height g after new other ∙ kept ∙ sym (node_at_height g disk tree other)))
      (λ e.
      let i : suc level < g.height = omega arith in
      node_at_below g after new (suc level) other i
      ∙ ap (node_in g after (suc level)) (planted_above g tree number slot top (suc level) other l)
      ∙ node_in_kept other level h i (inl l)
      ∙ sym (node_at_below g disk tree (suc level) other i))
      (eq_cases (suc level) g.height)

  pub linked_planted : (other level : ℕ) → other < tree_capacity g → level < g.height → LinkedAt other level
  linked_planted other level h k = ⊎_elim under over (lt_cases level top)
    where
      under : level < top → LinkedAt other level
      under l = ⊎_elim
          (λ e.
          linked_new other level h k (omega arith) e
          (node_at_below g after new (suc level) other (omega (arith, path.top_lt))
          ∙ ap (node_in g after (suc level)) (planted_same g tree number slot top (suc level) other l e)
          ∙ path.nodes level l))
          (λ ne.
          linked_old other level h k (node_at_other other level h k ne)
          (planted_other g tree number slot top level other (λ e. ne (key_of_up g level other number e))))
          (eq_cases (key_of g (suc level) other) (key_of g (suc level) number))

      at_top : slot_at g tree top number ≡ some slot → level ≡ top →
          slot_at g new level other ≡ slot_at g tree level other
      at_top held e = ⊎_elim
          (λ q.
          planted_same g tree number slot top level other (omega arith) q
          ∙ sym (ap (tree level) q ∙ subst (λ (n : ℕ). slot_at g tree n number ≡ some slot) (sym e) held))
          (planted_other g tree number slot top level other)
          (eq_cases (key_of g level other) (key_of g level number))

      over : top ≤ level → LinkedAt other level
      over l = ⊎_elim
          (λ c.
          let e : top ≡ level = omega (arith, c.0) in
          let up : suc level ≡ g.height = ap suc (sym e) ∙ c.0 in
          linked_new other level h k (omega arith) (root_shared other (suc level) h up)
          (ap (λ (n : ℕ). node_at g after new n other) up ∙ node_at_height g after new other ∙ c.1
          ∙ ap₂ (λ (n i : ℕ). linked_node g number slot n (node_at g disk tree i number)) e (sym up)))
          (λ c.
          linked_old other level h k (node_at_above other level h k (omega arith) c.0)
          (⊎_elim (at_top c.1) (λ ne. planted_above g tree number slot top level other (omega arith))
          (eq_cases level top)))
          path.joined
