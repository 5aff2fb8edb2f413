-- Laws of a round's hidden half: the table's row of a slot by the rule, and that whatever the disk, the
-- hidden writes and the random bytes, the slot's hidden blocks are stored in order and then the root, each
-- whole. Assumes nothing.
use mathlib.Core.Path.{◌≡◌, ap}
use mathlib.Core.Bool.{cond}
use mathlib.Core.List.{List, [], ◌∷◌}
use Prim.Native.Nat.{ℕ, ◌*◌, ◌≤◌, ◌<◌}
use native.Mathlib.Omega.{arith}
use lib.ListN.{length}
use Rattle.laws.proofs.Cases.{cond_cases}
use Rattle.laws.proofs.Members.{All}
use Rattle.model.specs.Geometry.{Geometry, Fits, block_count, block_width}
use Rattle.model.specs.Blocks.{Bytes, block_at}
use Rattle.model.specs.Layout.{level_address, is_allocated}
use Rattle.model.specs.Table.{Row, keep_public, write_public, HiddenChoice, keep_hidden, place_hidden}
use Rattle.model.specs.Table.{fill_hidden}
use Rattle.model.specs.HiddenHalf.{HiddenWrite, HiddenState, HiddenHalf, is_waiting, is_live, is_blocked}
use Rattle.model.specs.HiddenTree.{owner_of}
use Rattle.model.specs.HiddenHalf.{hidden_by, row_of, hidden_half}
use Rattle.model.proofs.Laws.Geometry.{slot_block_lt}
use Rattle.model.proofs.Laws.Table.{row_at_ruled}
use Rattle.model.proofs.Laws.Paths.{Hides, block_at_whole, written_back_hides, dummy_stores_hides}
use Rattle.model.proofs.Laws.Paths.{current_path_hides}

-- ---- the table's row ----

pub row_of_public :
    (g : Geometry) (disk : Bytes) (slot : ℕ) (waiting : List HiddenWrite) →
    (row_of g disk slot waiting).public ≡ cond (is_allocated g disk slot) keep_public write_public
row_of_public g disk slot waiting =
    ap (λ (r : Row). r.public)
    (row_at_ruled (is_waiting waiting) (is_allocated g disk slot) (is_live g disk slot))

pub row_of_hidden :
    (g : Geometry) (disk : Bytes) (slot : ℕ) (waiting : List HiddenWrite) →
    (row_of g disk slot waiting).hidden ≡
    cond (is_live g disk slot) keep_hidden (cond (is_waiting waiting) place_hidden fill_hidden)
row_of_hidden g disk slot waiting =
    ap (λ (r : Row). r.hidden)
    (row_at_ruled (is_waiting waiting) (is_allocated g disk slot) (is_live g disk slot))

-- ---- the half ----

-- a hidden write of a whole block
abbrev pub WholeWrite : Geometry → HiddenWrite → Type 0
WholeWrite g write = length write.content ≡ g.block_size

-- what the half gives: a trace that hides, and of the writes still waiting what held of all of them
pub record HidesHalf (P : HiddenWrite → Type 0) (g : Geometry) (slot : ℕ) (part : HiddenHalf) : Type 0 where
  pub hides : Hides g slot part.trace
  pub waiting : All P part.state.waiting

module _ (g : Geometry) (f : Fits g) (disk : Bytes) (whole : length disk ≡ block_count g * g.block_size)
    (slot : ℕ) (inside : slot < g.slots) (random : Bytes)
    (enough : g.height * g.block_size ≤ length random) (P : HiddenWrite → Type 0)
    (whole-write : (write : HiddenWrite) → P write → WholeWrite g write) where
  hidden_by_hides :
      (choice : HiddenChoice) (state : HiddenState) (waiting : List HiddenWrite) →
      All P state.waiting → All P waiting →
      HidesHalf P g slot (hidden_by choice g disk slot random state waiting)
  unfolding hidden_by
  hidden_by_hides keep_hidden state waiting kept h =
      record {
        hides =
            current_path_hides g f disk whole slot inside (owner_of g disk slot)
            (block_at (block_width g) disk (level_address g slot 0))
            (block_at_whole g f disk whole (level_address g slot 0)
            (slot_block_lt g slot g.height inside (omega arith)));
        waiting = kept;
      }
  hidden_by_hides place_hidden state [] kept h =
      record { hides = dummy_stores_hides g f disk whole slot inside random enough; waiting = kept }
  hidden_by_hides place_hidden state (next ∷ later) kept h =
      record {
        hides = current_path_hides g f disk whole slot inside next.number next.content
            (whole-write next h.0);
        waiting = h.1;
      }
  hidden_by_hides fill_hidden state waiting kept h =
      record { hides = dummy_stores_hides g f disk whole slot inside random enough; waiting = kept }

  pub hidden_half_hides :
      (state : HiddenState) → All P state.waiting →
      HidesHalf P g slot (hidden_half g disk slot random state)
  unfolding hidden_half
  hidden_half_hides state h =
      cond_cases (HidesHalf P g slot) (is_blocked g disk slot state.waiting)
      (λ _. record { hides = written_back_hides g f disk whole slot inside; waiting = h })
      (λ _. hidden_by_hides (row_of g disk slot state.waiting).hidden state state.waiting h h)
