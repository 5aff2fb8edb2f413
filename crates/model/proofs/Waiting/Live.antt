-- Live slots: there are no more of them than hidden numbers, so one of the first H + 1 slots from any slot on
-- is not live; under the ghost tree a round at a live slot leaves which slots are live, and one that places
-- makes its slot live. Assumes nothing.
use mathlib.Core.Path.{◌≡◌, refl, sym, ap, ◌∙◌}
use mathlib.Core.Logic.{◌⊎◌, inl, inr, ⊎_elim}
use mathlib.Core.Bool.{true, false}
use Prim.Native.Nat.{ℕ, zero, suc, ◌*◌, ◌-◌, ◌≤◌, ◌<◌}
use native.Mathlib.Omega.{arith}
use lib.Dec.{ltb}
use lib.ListN.{length}
use borrow.Author.Tests.{ltb-true}
use Rattle.laws.proofs.Cases.{bool_cases, true_is_not_false, eq_cases, lt_cases, and_left, and_right}
use Rattle.laws.proofs.Pigeonhole.{Reached, reached_le}
use Rattle.model.specs.Geometry.{Geometry, Fits, block_count, block_width}
use Rattle.model.specs.Blocks.{Bytes, block_at}
use Rattle.model.specs.Layout.{next_slot, slot_of, level_address}
use Rattle.model.specs.HiddenTree.{End, found, unmapped, damaged, walk, owner_of}
use Rattle.model.specs.Paths.{current_path}
use Rattle.model.specs.HiddenHalf.{HiddenWrite, is_live}
use Rattle.model.specs.Refusals.{rounds_to}
use Rattle.model.proofs.Laws.Slots.{slot_after, slot_after-zero, slot_after_next, slot_of-level_address}
use Rattle.model.proofs.Laws.Owners.{is_live_is}
use Rattle.model.proofs.Laws.TreeCheck.{decides_found}
use Rattle.model.proofs.Refusals.Circle.{index_from, index_from-slot_after, RoundsTo, none_free, first_free}
use Rattle.model.proofs.Refusals.Circle.{rounds_to_is}
use Rattle.model.proofs.Tree.Keys.{key_of, key_of-zero, lt_tree_capacity}
use Rattle.model.proofs.Tree.Ghost.{Tree, slot_at, Ghost}
use Rattle.model.proofs.Tree.Live.{is_live_of_used, owner_lt_of_is_live, holds_of_is_live}
use Rattle.model.proofs.Tree.Planted.{placed_tree, planted_same, planted_other}
use Rattle.model.proofs.Tree.Stored.{StoredBy}
use Rattle.model.proofs.Tree.Placing.{placement}

-- ---- the first slot that is not live ----

-- so many slots on from a slot is the first one that is not live
pub record Near (g : Geometry) (disk : Bytes) (slot index : ℕ) : Type 0 where
  pub few : index ≤ g.hidden
  pub not_live : is_live g disk (slot_after g slot index) ≡ false
  pub live_before : (before : ℕ) → before < index → is_live g disk (slot_after g slot before) ≡ true

-- it is where the rounds to a slot that is not live end
pub record Nearest (g : Geometry) (disk : Bytes) (slot : ℕ) : Type 0 where
  pub index : ℕ
  pub rounds_are : rounds_to g.slots (is_live g disk) g slot ≡ suc index
  pub near : Near g disk slot index

-- past a live slot it is among the next H
pub record NearestAfter (g : Geometry) (disk : Bytes) (slot : ℕ) : Type 0 where
  pub index : ℕ
  pub fewer : suc index ≤ g.hidden
  pub near : Near g disk (next_slot g slot) index

-- there is one such slot
pub near_unique :
    (g : Geometry) (disk : Bytes) (slot index other : ℕ) → Near g disk slot index → Near g disk slot other →
    index ≡ other
near_unique g disk slot index other n m =
    ⊎_elim (λ l. true_is_not_false (m.live_before index l) n.not_live)
    (λ k.
    ⊎_elim (λ l. true_is_not_false (n.live_before other l) m.not_live) (λ l. omega arith)
    (lt_cases other index))
    (lt_cases index other)

-- one slot further on it is one less away, on a disk with the same live slots
pub near_next :
    (g : Geometry) (disk after : Bytes) (slot index : ℕ) →
    ((other : ℕ) → is_live g after other ≡ is_live g disk other) → Near g disk slot (suc index) →
    Near g after (next_slot g slot) index
near_next g disk after slot index same n =
    record {
      few = omega (arith, n.few);
      not_live = live_is index ∙ n.not_live;
      live_before = λ before l. live_is before ∙ n.live_before (suc before) (omega arith);
    }
  where
    live_is : (other : ℕ) →
        is_live g after (slot_after g (next_slot g slot) other) ≡ is_live g disk (slot_after g slot (suc other))
    live_is other =
        same (slot_after g (next_slot g slot) other) ∙ ap (is_live g disk) (slot_after_next g slot other)

-- the slot that a walk ends at
abbrev end_slot : Geometry → End → ℕ
end_slot g (found address) = slot_of g address
end_slot g unmapped = 0
end_slot g damaged = 0

module _ (g : Geometry) (f : Fits g) (disk : Bytes) where
  -- how many slots on a number's walk ends
  abbrev walk_index : (slot number : ℕ) → ℕ
  walk_index slot number = index_from g slot (end_slot g (walk g disk number).end)

  -- a live slot's owner is below H, and its walk ends there
  reached_of_live :
      (slot index : ℕ) → slot < g.slots → index < g.slots →
      is_live g disk (slot_after g slot index) ≡ true → Reached (walk_index slot) g.hidden index
  reached_of_live slot index here h e =
      let other = slot_after g slot index in
      let owner = owner_of g disk other in
      let live = sym (is_live_is g disk other) ∙ e in
      let ends = (decides_found (level_address g other 0) (walk g disk owner).end).holds
      (and_right (ltb owner g.hidden) _ live) in
      record {
        at = owner;
        below = ltb-true owner g.hidden (and_left _ _ live);
        value_is =
            ap (index_from g slot)
            (ap (end_slot g) ends ∙ slot_of-level_address g other 0 (omega (arith, f.height_low)))
            ∙ index_from-slot_after g slot here index h;
      }

  pub nearest : (slot : ℕ) → slot < g.slots → Nearest g disk slot
  nearest slot here = by refl (rounds_to_is (is_live g disk) g g.slots slot here)
    where
      by : {rounds : ℕ} → rounds_to g.slots (is_live g disk) g slot ≡ rounds →
          RoundsTo g.slots (is_live g disk) g slot rounds → Nearest g disk slot
      by e (none_free all) =
          let l = reached_le g.slots g.hidden (walk_index slot)
          (λ value k. reached_of_live slot value here k (all value k)) in
          absurd (omega (arith, l, f.hidden_high))
      by e (first_free {index = index} l free before) =
          record {
            index = index;
            rounds_are = e;
            near =
                record {
                  few =
                      reached_le index g.hidden (walk_index slot)
                      (λ value k. reached_of_live slot value here (omega arith) (before value k));
                  not_live = free;
                  live_before = before;
                };
          }

  pub nearest_after : (slot : ℕ) → slot < g.slots → is_live g disk slot ≡ true → NearestAfter g disk slot
  nearest_after slot here live = let n = nearest slot here in by n.index n.near
    where
      by : (index : ℕ) → Near g disk slot index → NearestAfter g disk slot
      by zero n = true_is_not_false live (ap (is_live g disk) (sym (slot_after-zero g slot here)) ∙ n.not_live)
      by (suc index) n =
          record {
            index = index;
            fewer = n.few;
            near = near_next g disk disk slot index (λ other. refl) n;
          }

-- ---- a round at a live slot ----

-- a tree whose numbers hold the slots that they held has the same live slots
module _ (g : Geometry) (f : Fits g) (disk after : Bytes) (tree grown : Tree) (ghost : Ghost g disk tree)
    (ghostAfter : Ghost g after grown)
    (same : (number : ℕ) → slot_at g grown 0 number ≡ slot_at g tree 0 number) where
  positive : 0 < g.height
  positive = omega (arith, f.height_low)

  live_after : (slot : ℕ) → is_live g disk slot ≡ true → is_live g after slot ≡ true
  live_after slot e =
      let owner = owner_of g disk slot in
      is_live_of_used g f after grown ghostAfter owner 0 slot
      (lt_tree_capacity g f owner (owner_lt_of_is_live g f disk tree ghost slot e)) positive
      (same owner ∙ holds_of_is_live g f disk tree ghost slot e)

  live_before : (slot : ℕ) → is_live g after slot ≡ true → is_live g disk slot ≡ true
  live_before slot e =
      let owner = owner_of g after slot in
      is_live_of_used g f disk tree ghost owner 0 slot
      (lt_tree_capacity g f owner (owner_lt_of_is_live g f after grown ghostAfter slot e)) positive
      (sym (same owner) ∙ holds_of_is_live g f after grown ghostAfter slot e)

  live_same : (slot : ℕ) → is_live g after slot ≡ is_live g disk slot
  live_same slot = by (bool_cases (is_live g disk slot)) (bool_cases (is_live g after slot))
    where
      by : (is_live g disk slot ≡ true) ⊎ (is_live g disk slot ≡ false) →
          (is_live g after slot ≡ true) ⊎ (is_live g after slot ≡ false) →
          is_live g after slot ≡ is_live g disk slot
      by (inl d) a = live_after slot d ∙ sym d
      by (inr d) (inl a) = true_is_not_false (live_before slot a) d
      by (inr d) (inr a) = a ∙ sym d

-- the disk after it has a ghost tree, and the same slots are live
pub record KeptLive (g : Geometry) (disk after : Bytes) : Type 0 where
  pub grown : Tree
  pub ghost : Ghost g after grown
  pub live_is : (slot : ℕ) → is_live g after slot ≡ is_live g disk slot

-- the disk after a placing has a ghost tree, and the slot is live
pub record MadeLive (g : Geometry) (after : Bytes) (slot : ℕ) : Type 0 where
  pub grown : Tree
  pub ghost : Ghost g after grown
  pub live_now : is_live g after slot ≡ true

-- a path placed in a slot, of its owner or in one that is not live
module _ (g : Geometry) (f : Fits g) (disk after : Bytes) (tree : Tree)
    (whole : length disk ≡ block_count g * g.block_size) (ghost : Ghost g disk tree) (slot : ℕ)
    (here : slot < g.slots) where
  -- the owner's path stored anew in its live slot
  pub round_live :
      is_live g disk slot ≡ true →
      StoredBy g slot disk after
      (current_path g disk (owner_of g disk slot) slot (block_at (block_width g) disk (level_address g slot 0))) →
      KeptLive g disk after
  round_live live stored =
      record { grown = anew; ghost = alive; live_is = live_same g f disk after tree anew ghost alive same }
    where
      owner : ℕ
      owner = owner_of g disk slot

      anew : Tree
      anew = placed_tree g tree owner slot

      alive : Ghost g after anew
      alive =
          (placement g f disk after tree whole ghost owner slot _
          (owner_lt_of_is_live g f disk tree ghost slot live) here (λ e. refl) stored).ghost

      same : (number : ℕ) → slot_at g anew 0 number ≡ slot_at g tree 0 number
      same number =
          ⊎_elim
          (λ e.
          planted_same g tree owner slot (g.height - 1) 0 number (omega arith) (ap (key_of g 0) e)
          ∙ sym (ap (slot_at g tree 0) e ∙ holds_of_is_live g f disk tree ghost slot live))
          (λ ne.
          planted_other g tree owner slot (g.height - 1) 0 number
          (λ e. ne (sym (key_of-zero g number) ∙ e ∙ key_of-zero g owner)))
          (eq_cases number owner)

  -- a hidden write placed in a slot that is not live: the slot is live from then on
  pub round_free :
      is_live g disk slot ≡ false → (write : HiddenWrite) → write.number < g.hidden →
      StoredBy g slot disk after (current_path g disk write.number slot write.content) →
      MadeLive g after slot
  round_free free write low stored =
      record {
        grown = placed_tree g tree write.number slot;
        ghost = alive;
        live_now =
            is_live_of_used g f after (placed_tree g tree write.number slot) alive write.number 0 slot
            (lt_tree_capacity g f write.number low) (omega (arith, f.height_low))
            (planted_same g tree write.number slot (g.height - 1) 0 write.number (omega arith) refl);
      }
    where
      alive : Ghost g after (placed_tree g tree write.number slot)
      alive =
          (placement g f disk after tree whole ghost write.number slot write.content low here
          (λ live. true_is_not_false live free) stored).ghost
