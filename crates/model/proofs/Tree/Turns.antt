-- One round's hidden half under the ghost tree: it is never blocked, the new disk has a ghost tree again, and
-- at most the hidden write that it places changes what a number shows. Assumes nothing.
use mathlib.Core.Path.{◌≡◌, refl, sym, ap, ◌∙◌, subst}
use mathlib.Core.Logic.{◌≢◌, ⊎_elim}
use mathlib.Core.Bool.{true, false, cond}
use mathlib.Core.List.{List, [], ◌∷◌}
use mathlib.Core.Option.{Option, some}
use Prim.Native.Nat.{ℕ, ◌*◌, ◌<◌}
use lib.ListN.{length}
use Rattle.laws.proofs.Cases.{true_is_not_false, bool_cases, eq_cases, cond_false, cond_true}
use Rattle.laws.proofs.Members.{All}
use Rattle.model.specs.Geometry.{Geometry, Fits, block_count, tree_capacity, block_width}
use Rattle.model.specs.Blocks.{Bytes, block_at}
use Rattle.model.specs.Layout.{level_address}
use Rattle.model.specs.Table.{HiddenChoice, keep_hidden, place_hidden, fill_hidden}
use Rattle.model.specs.Paths.{current_path, written_back, dummy_stores}
use Rattle.model.specs.HiddenTree.{owner_of}
use Rattle.model.specs.HiddenHalf.{HiddenWrite, HiddenState, HiddenHalf, half, is_waiting}
use Rattle.model.specs.HiddenHalf.{is_live, placed_state, blocked_state, hidden_by, row_of, hidden_half}
use Rattle.model.proofs.Laws.Accepted.{GoodWrite}
use Rattle.model.proofs.Laws.HiddenHalf.{row_of_hidden}
use Rattle.model.proofs.Tree.Ghost.{Tree, Ghost, block_in, value_of}
use Rattle.model.proofs.Tree.Live.{owner_lt_of_is_live, holds_of_is_live, is_blocked_false}
use Rattle.model.proofs.Tree.Planted.{placed_tree}
use Rattle.model.proofs.Tree.Stored.{StoredBy}
use Rattle.model.proofs.Tree.Placing.{placement, ghost_dummy, value_of_dummy}

-- what a half changes of what the numbers show: nothing, or the number of the hidden write that it places
pub data Turn (g : Geometry) (state next : HiddenState) (before now : ℕ → Option Bytes) : Type 0 where
  still : next ≡ state → ((number : ℕ) → number < tree_capacity g → now number ≡ before number) →
      Turn g state next before now
  places : (write : HiddenWrite) (later : List HiddenWrite) → state.waiting ≡ write ∷ later →
      next ≡ placed_state state later → now write.number ≡ some write.content →
      ((number : ℕ) → number < tree_capacity g → number ≢ write.number → now number ≡ before number) →
      Turn g state next before now

-- the tree after a half, and what it changed
pub record Turned (g : Geometry) (disk after : Bytes) (tree : Tree) (state next : HiddenState) : Type 0 where
  pub grown : Tree
  pub ghost : Ghost g after grown
  pub turn : Turn g state next (value_of g disk tree) (value_of g after grown)

module _ (g : Geometry) (f : Fits g) (disk : Bytes) (tree : Tree)
    (whole : length disk ≡ block_count g * g.block_size)
    (start : Ghost g disk tree) (slot : ℕ) (here : slot < g.slots) (state : HiddenState) where
  -- a half after which every disk that it leaves has its tree
  abbrev Turns : HiddenHalf → Type 0
  Turns part =
      (after : Bytes) → StoredBy g slot disk after part.trace →
      Turned g disk after tree state part.state

  -- a live slot: its owner's path anew, the data kept
  turns_live : is_live g disk slot ≡ true →
      Turns
      (half (current_path g disk (owner_of g disk slot) slot
      (block_at (block_width g) disk (level_address g slot 0))) state)
  turns_live live after stored =
      let placed = placement g f disk after tree whole start owner slot _ low here (λ e. refl) stored in
      record {
        grown = placed_tree g tree owner slot;
        ghost = placed.ghost;
        turn = still refl (λ number h.
            ⊎_elim
            (λ e.
            ap (value_of g after (placed_tree g tree owner slot)) e ∙ placed.value_same
            ∙ sym (ap (block_in g disk) (holds_of_is_live g f disk tree start slot live))
            ∙ ap (value_of g disk tree) (sym e))
            (placed.value_other number h) (eq_cases number owner));
      }
    where
      owner : ℕ
      owner = owner_of g disk slot

      low : owner_of g disk slot < g.hidden
      low = owner_lt_of_is_live g f disk tree start slot live

  -- a slot that is not live and no hidden write waiting
  turns_dummy : is_live g disk slot ≡ false → (random : Bytes) →
      Turns (half (dummy_stores g disk slot random) state)
  turns_dummy free random after stored =
      record {
        grown = tree;
        ghost = ghost_dummy g f disk after tree start slot random free stored;
        turn = still refl (value_of_dummy g f disk after tree start slot random free stored);
      }

  -- a hidden write placed
  turns_placed : is_live g disk slot ≡ false → (write : HiddenWrite) (later : List HiddenWrite) →
      state.waiting ≡ write ∷ later → write.number < g.hidden →
      Turns (half (current_path g disk write.number slot write.content) (placed_state state later))
  turns_placed free write later e low after stored =
      let placed = placement g f disk after tree whole start write.number slot write.content low here
      (λ live. true_is_not_false live free) stored in
      record {
        grown = placed_tree g tree write.number slot;
        ghost = placed.ghost;
        turn = places write later e refl placed.value_same placed.value_other;
      }

  -- the table's choice for the slot
  choice_live : is_live g disk slot ≡ true → (row_of g disk slot state.waiting).hidden ≡ keep_hidden
  choice_live live = row_of_hidden g disk slot state.waiting ∙ cond_true _ _ live

  choice_free : is_live g disk slot ≡ false →
      (row_of g disk slot state.waiting).hidden ≡ cond (is_waiting state.waiting) place_hidden fill_hidden
  choice_free free = row_of_hidden g disk slot state.waiting ∙ cond_false _ _ free

  turns_free : is_live g disk slot ≡ false → (random : Bytes) (waiting : List HiddenWrite) →
      state.waiting ≡ waiting → All (GoodWrite g) waiting →
      Turns (hidden_by (cond (is_waiting waiting) place_hidden fill_hidden) g disk slot random state waiting)
  unfolding hidden_by
  turns_free free random [] e h = turns_dummy free random
  turns_free free random (write ∷ later) e h = turns_placed free write later e h.0.number_inside

  pub hidden_half-turns :
      (random : Bytes) → All (GoodWrite g) state.waiting → (after : Bytes) →
      StoredBy g slot disk after (hidden_half g disk slot random state).trace →
      Turned g disk after tree state (hidden_half g disk slot random state).state
  unfolding hidden_half hidden_by
  hidden_half-turns random h =
      subst Turns
      (sym (cond_false (half (written_back g disk slot) (blocked_state state)) _
      (is_blocked_false g f disk tree start slot state.waiting h)))
      (⊎_elim
      (λ e.
      subst (λ (choice : HiddenChoice). Turns (hidden_by choice g disk slot random state state.waiting))
      (sym (choice_live e)) (turns_live e))
      (λ e.
      subst (λ (choice : HiddenChoice). Turns (hidden_by choice g disk slot random state state.waiting))
      (sym (choice_free e)) (turns_free e random state.waiting refl h))
      (bool_cases (is_live g disk slot)))
