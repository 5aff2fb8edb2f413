-- Laws of the geometry: what an accepted one says, its test case by case, where its areas lie, and when two
-- disks state the same. Assumes nothing.
use mathlib.Core.Path.{◌≡◌, refl, sym, subst}
use mathlib.Core.Logic.{⊎_elim}
use mathlib.Core.Bool.{true, ◌&&◌, false, and-false}
use mathlib.Core.List.{List, [], ◌∷◌}
use Prim.Native.Nat.{ℕ, ◌+◌, ◌*◌, ◌-◌, ◌/◌, ◌^◌, ◌≤◌, ◌<◌}
use native.Mathlib.Nat.{mul-le-mul_right}
use native.Mathlib.Omega.{arith}
use lib.Dec.{leb, ltb, eqb}
use borrow.Author.Tests.{ltb-true, leb-true, eqb-true, lt-ltb, le-ltb, le-leb, lt-leb}
use Rattle.laws.proofs.Cases.{and_left, and_right, or_cases, true_is_not_false}
use Rattle.laws.proofs.Division.{div_ceil_div_lt}
use Rattle.model.specs.Geometry.{Geometry, Fits, fanout, map_blocks, area_blocks, root_address, block_count}
use Rattle.model.specs.Geometry.{slot_width, tree_capacity, block_sizes, is_one_of, is_geometry}
use Rattle.model.specs.Blocks.{Bytes, entry_at}
use Rattle.model.specs.Layout.{slot_start, area_place, bit_address, map_address, geometry_in}

-- ---- an accepted geometry ----

pub record BlockSize (n : ℕ) : Type 0 where
  pub low : 32 ≤ n
  pub high : n ≤ 4096
  pub entries : n ≡ 4 * (n / 4)

-- the facts of a block size from a list of numbers that have them
abbrev AllBlockSizes : List ℕ → Type 0
AllBlockSizes [] = Unit {0}
AllBlockSizes (m ∷ ms) = BlockSize m × AllBlockSizes ms

size_in : (n : ℕ) (ms : List ℕ) → AllBlockSizes ms → is_one_of n ms ≡ true → BlockSize n
size_in n [] s e = true_is_not_false e refl
size_in n (m ∷ ms) s e =
    ⊎_elim (λ p. subst BlockSize (sym (eqb-true n m p)) s.0) (λ p. size_in n ms s.1 p)
    (or_cases (eqb n m) (is_one_of n ms) e)

sizes : AllBlockSizes block_sizes
sizes = omega arith

pub size_of_is_one_of : (n : ℕ) → is_one_of n block_sizes ≡ true → BlockSize n
size_of_is_one_of n e = size_in n block_sizes sizes e

pub fits_of_is_geometry : (g : Geometry) → is_geometry g ≡ true → Fits g
unfolding is_geometry
fits_of_is_geometry g e =
    let last = leb (block_count g) (2 ^ 31 - 1) in
    let h = is_one_of g.block_size block_sizes in
    let a = h && leb 2 g.height in
    let b = a && leb g.height 4 in
    let c = b && leb 1 g.publics in
    let d = c && leb 1 g.hidden in
    let p = d && ltb g.publics g.slots in
    let q = p && ltb g.hidden g.slots in
    let r = q && leb g.hidden (tree_capacity g) in
    let er = and_left r last e in
    let eq = and_left q (leb g.hidden (tree_capacity g)) er in
    let ep = and_left p (ltb g.hidden g.slots) eq in
    let ed = and_left d (ltb g.publics g.slots) ep in
    let ec = and_left c (leb 1 g.hidden) ed in
    let eb = and_left b (leb 1 g.publics) ec in
    let ea = and_left a (leb g.height 4) eb in
    let size = size_of_is_one_of g.block_size (and_left h (leb 2 g.height) ea) in
    let most : block_count g ≤ 2 ^ 31 - 1 = leb-true (block_count g) (2 ^ 31 - 1) (and_right r last e) in
    record {
      size_low = size.low;
      size_high = size.high;
      size_entries = size.entries;
      height_low = leb-true 2 g.height (and_right h (leb 2 g.height) ea);
      height_high = leb-true g.height 4 (and_right a (leb g.height 4) eb);
      publics_low = leb-true 1 g.publics (and_right b (leb 1 g.publics) ec);
      hidden_low = leb-true 1 g.hidden (and_right c (leb 1 g.hidden) ed);
      publics_high = ltb-true g.publics g.slots (and_right d (ltb g.publics g.slots) ep);
      hidden_high = ltb-true g.hidden g.slots (and_right p (ltb g.hidden g.slots) eq);
      hidden_fits = leb-true g.hidden (tree_capacity g) (and_right q (leb g.hidden (tree_capacity g)) er);
      blocks_high = omega arith;
    }

-- ---- the test, case by case ----

module _ (g : Geometry) where
  pub refused_size_lem : is_one_of g.block_size block_sizes ≡ false → false ≡ is_geometry g
  unfolding is_geometry
  refused_size_lem e = rw e

  pub refused_low : g.height < 2 → false ≡ is_geometry g
  unfolding is_geometry
  refused_low h = simp (lt-leb _ _ h, and-false)

  pub refused_high : 4 < g.height → false ≡ is_geometry g
  unfolding is_geometry
  refused_high h = simp (lt-leb _ _ h, and-false)

  pub refused_publics : g.publics < 1 → false ≡ is_geometry g
  unfolding is_geometry
  refused_publics h = simp (lt-leb _ _ h, and-false)

  pub refused_hidden : g.hidden < 1 → false ≡ is_geometry g
  unfolding is_geometry
  refused_hidden h = simp (lt-leb _ _ h, and-false)

  pub refused_public_slots : g.slots ≤ g.publics → false ≡ is_geometry g
  unfolding is_geometry
  refused_public_slots h = simp (le-ltb _ _ h, and-false)

  pub refused_hidden_slots : g.slots ≤ g.hidden → false ≡ is_geometry g
  unfolding is_geometry
  refused_hidden_slots h = simp (le-ltb _ _ h, and-false)

  pub refused_tree : tree_capacity g < g.hidden → false ≡ is_geometry g
  unfolding is_geometry
  refused_tree h = simp (lt-leb g.hidden (tree_capacity g) h, and-false)

  -- all tests but the last hold
  pub left_to_blocks :
      is_one_of g.block_size block_sizes ≡ true → 2 ≤ g.height → g.height ≤ 4 → 1 ≤ g.publics →
      1 ≤ g.hidden →
      g.publics < g.slots → g.hidden < g.slots → g.hidden ≤ tree_capacity g →
      leb (block_count g) 2147483647 ≡ is_geometry g
  unfolding is_geometry
  left_to_blocks e a b c d p q r =
      rw (
        e,
        le-leb 2 g.height a,
        le-leb g.height 4 b,
        le-leb 1 g.publics c,
        le-leb 1 g.hidden d,
        lt-ltb g.publics g.slots p,
        lt-ltb g.hidden g.slots q,
        le-leb g.hidden (tree_capacity g) r,
      )

-- ---- entries of a block ----

pub fanout_low : (g : Geometry) → Fits g → 8 ≤ fanout g
fanout_low g f = omega arith

-- ---- areas ----

pub map_address_lt : (g : Geometry) → Fits g → (number : ℕ) → number < g.publics →
    map_address g number < 1 + map_blocks g
map_address_lt g f number h =
    omega (arith, div_ceil_div_lt number g.publics (fanout g) h (omega (arith, fanout_low g f)))

-- a slot's blocks, counted over the data area
pub slot_place_lt : (g : Geometry) (slot place : ℕ) → slot < g.slots → place ≤ g.height →
    slot * slot_width g + place < area_blocks g
slot_place_lt g slot place h k = omega (arith, mul-le-mul_right (slot_width g) h)

pub bit_address_lt : (g : Geometry) → Fits g → (slot : ℕ) → slot < g.slots → bit_address g slot < root_address g
bit_address_lt g f slot h =
    let l : area_place g slot < area_blocks g = omega (arith, slot_place_lt g slot 0 h (omega arith)) in
    omega (
      arith,
      div_ceil_div_lt (area_place g slot) (area_blocks g) (8 * g.block_size) l
          (omega (arith, f.size_low)),
    )

pub bit_address_ge : (g : Geometry) (slot : ℕ) → 1 + map_blocks g ≤ bit_address g slot
bit_address_ge g slot = omega arith

pub slot_block_lt : (g : Geometry) (slot place : ℕ) → slot < g.slots → place ≤ g.height →
    slot_start g slot + place < block_count g
slot_block_lt g slot place h k = omega (arith, slot_place_lt g slot place h k)

pub slot_start_lt : (g : Geometry) (slot : ℕ) → slot < g.slots → slot_start g slot < block_count g
slot_start_lt g slot h = omega (arith, slot_block_lt g slot 0 h (omega arith))

pub root_address_lt : (g : Geometry) → root_address g < block_count g
root_address_lt g = omega arith

-- ---- the geometry that a disk states ----

-- it is five entries
pub geometry_ext :
    (disk other : Bytes) → ((index : ℕ) → index < 5 → entry_at index disk ≡ entry_at index other) →
    geometry_in disk ≡ geometry_in other
geometry_ext disk other e =
    cc (e 0 (omega arith), e 1 (omega arith), e 2 (omega arith), e 3 (omega arith), e 4 (omega arith))
