-- Which addresses are shown: header, map and bitmap before the root, and block A of every slot; and disks and
-- traces side by side under that. Assumes nothing.
use mathlib.Core.Path.{◌≡◌, sym, ◌∙◌}
use mathlib.Core.Bool.{true, false}
use mathlib.Core.List.{[], ◌∷◌}
use Prim.Native.Nat.{ℕ, ◌+◌, ◌≤◌, ◌<◌}
use native.Mathlib.Omega.{arith}
use lib.Dec.{ltb}
use borrow.Author.Tests.{lt-ltb, le-ltb}
use Rattle.laws.proofs.Cases.{or_left, or_right, or_neither, cond_true, cond_false}
use Rattle.laws.proofs.Members.{All}
use Rattle.model.specs.Geometry.{Geometry, root_address, block_count, block_width}
use Rattle.model.specs.Blocks.{Bytes, DiskAddress, block_at}
use Rattle.model.specs.Layout.{slot_start, is_slot_block}
use Rattle.model.specs.Stores.{Store, Trace, addresses}
use Rattle.model.specs.View.{is_shown, shown_of}
use Rattle.model.proofs.Laws.Slots.{is_slot_block_other, is_slot_block-slot_start, is_slot_block_below}
use Rattle.model.proofs.Laws.Slots.{is_slot_block_past}
use Rattle.model.proofs.Laws.Paths.{WholeStore}
use Rattle.model.proofs.Views.Agreement.{Agree, Beside, Along, none, more}

-- ---- addresses ----

pub is_shown_below :
    (g : Geometry) (address : DiskAddress) → address < root_address g → is_shown g address ≡ true
unfolding is_shown
is_shown_below g address h = or_left (is_slot_block g 0 address) (lt-ltb address (root_address g) h)

-- block A of a slot
pub is_shown-slot_block :
    (g : Geometry) (address : DiskAddress) → is_slot_block g 0 address ≡ true → is_shown g address ≡ true
unfolding is_shown
is_shown-slot_block g address e = or_right (ltb address (root_address g)) e

pub is_shown-slot_start : (g : Geometry) (slot : ℕ) → slot < g.slots → is_shown g (slot_start g slot) ≡ true
is_shown-slot_start g slot h = is_shown-slot_block g (slot_start g slot) (is_slot_block-slot_start g slot h)

is_shown_neither :
    (g : Geometry) (address : DiskAddress) → root_address g ≤ address → is_slot_block g 0 address ≡ false →
    is_shown g address ≡ false
unfolding is_shown
is_shown_neither g address h e = or_neither (le-ltb address (root_address g) h) e

-- A + 1 to A + k
pub is_shown_slot_block :
    (g : Geometry) (slot place : ℕ) → 1 ≤ place → place ≤ g.height →
    is_shown g (slot_start g slot + place) ≡ false
is_shown_slot_block g slot place low high =
    is_shown_neither g (slot_start g slot + place) (omega arith)
    (is_slot_block_other g slot place high 0 (λ e. omega arith))

pub is_shown-root_address : (g : Geometry) → is_shown g (root_address g) ≡ false
is_shown-root_address g =
    is_shown_neither g (root_address g) (omega arith) (is_slot_block_below g 0 (root_address g) (omega arith))

pub is_shown_past : (g : Geometry) (address : DiskAddress) → block_count g ≤ address → is_shown g address ≡ false
is_shown_past g address h = is_shown_neither g address (omega arith) (is_slot_block_past g 0 address h)

-- ---- what is shown ----

pub shown_of_shown :
    (g : Geometry) (address : DiskAddress) (block : Bytes) → is_shown g address ≡ true →
    shown_of g address block ≡ block
unfolding shown_of
shown_of_shown g address block e = cond_true block [] e

pub shown_of_hidden :
    (g : Geometry) (address : DiskAddress) (block : Bytes) → is_shown g address ≡ false →
    shown_of g address block ≡ []
unfolding shown_of
shown_of_hidden g address block e = cond_false block [] e

-- ---- side by side ----

-- two disks that show the same
abbrev pub ShowSame : Geometry → (disk other : Bytes) → Type 0
ShowSame g disk other = Agree (shown_of g) g.block_size (block_count g) disk other

abbrev pub StoreSame : Geometry → (x y : Store) → Type 0
StoreSame g x y = Beside (shown_of g) g.block_size (block_count g) x y

abbrev pub TraceSame : Geometry → (xs ys : Trace) → Type 0
TraceSame g xs ys = Along (shown_of g) g.block_size (block_count g) xs ys

-- a shown block is the same on both
pub block_at_alike :
    (g : Geometry) (disk other : Bytes) → ShowSame g disk other → (address : DiskAddress) →
    is_shown g address ≡ true →
    block_at (block_width g) disk address ≡ block_at (block_width g) other address
block_at_alike g disk other a address e =
    sym (shown_of_shown g address (block_at (block_width g) disk address) e) ∙ a.same_shown address
    ∙ shown_of_shown g address (block_at (block_width g) other address) e

-- an address on the disk that is not shown
abbrev pub Hidden : Geometry → DiskAddress → Type 0
Hidden g address = (address < block_count g) × (is_shown g address ≡ false)

-- whole blocks to addresses that are not shown are side by side, whatever they hold
pub along_hidden :
    (g : Geometry) (xs ys : Trace) → addresses xs ≡ addresses ys → All (Hidden g) (addresses xs) →
    All (WholeStore g) xs →
    All (WholeStore g) ys → TraceSame g xs ys
unfolding addresses
along_hidden g [] [] e h p q = none
along_hidden g [] (y ∷ ys) e h p q = absurd (let z : ◌≡◌ {A = ℕ} 0 1 = cc in omega arith)
along_hidden g (x ∷ xs) [] e h p q = absurd (let z : ◌≡◌ {A = ℕ} 0 1 = cc in omega arith)
along_hidden g (x ∷ xs) (y ∷ ys) e h p q =
    let here : x.address ≡ y.address = cc in
    let rest : addresses xs ≡ addresses ys = cc in
    more
    (record {
      same_address = here;
      inside = h.0.0;
      sized = p.0;
      other_sized = q.0;
      same_shown =
          shown_of_hidden g x.address x.content h.0.1
          ∙ sym (shown_of_hidden g x.address y.content h.0.1);
    })
    (along_hidden g xs ys rest h.1 p.1 q.1)
