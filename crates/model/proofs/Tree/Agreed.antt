-- Two disks that agree from the root on have the same hidden volume: the same walks and owners, the invariant
-- of one if of the other, and the same hidden reads. Assumes nothing.
use mathlib.Core.Path.{◌≡◌, refl, sym, ap, ap₂, ◌∙◌}
use mathlib.Core.Bool.{Bool, true, false, cond}
use mathlib.Core.List.{[], ◌++◌}
use Prim.Native.Nat.{ℕ, zero, suc, ◌+◌, ◌-◌, ◌≤◌}
use native.Mathlib.Omega.{arith}
use lib.Dec.{eqb}
use lib.ListN.{length}
use Rattle.laws.specs.Checks.{first_of}
use Rattle.model.specs.Geometry.{Geometry, root_address, block_width, fanout}
use Rattle.model.specs.Blocks.{Bytes, DiskAddress, block_at, entry_at}
use Rattle.model.specs.Layout.{geometry_in, slot_of, slot_start, is_well_formed}
use Rattle.model.specs.HiddenTree.{branch_at, owner_of, End, found, unmapped, damaged, Walk, ended}
use Rattle.model.specs.HiddenTree.{passing, walk_from, walk}
use Rattle.model.specs.Refusals.{drive_refusal, hidden_checks, walk_checks, hidden_read_refusal}
use Rattle.model.specs.Calls.{shown_at, hidden_read}
use Rattle.model.specs.Invariants.{Met, in_root, in_node, HiddenInvariant}
use Rattle.model.proofs.Laws.Slots.{formed_in_area}
use Rattle.model.proofs.Laws.Refusals.{after_drive_pass}
use Rattle.model.proofs.Laws.Walks.{walk_by_step, found_formed}

module _ (g : Geometry) (disk other : Bytes)
    (agreed : (address : DiskAddress) → root_address g ≤ address →
    block_at (block_width g) other address ≡ block_at (block_width g) disk address) where
  -- a block that a well-formed entry leads to
  formed_agreed : (level : ℕ) (entry : DiskAddress) → is_well_formed g level entry ≡ true →
      block_at (block_width g) other entry ≡ block_at (block_width g) disk entry
  formed_agreed level entry formed = agreed entry (omega (arith, formed_in_area g level entry formed))

  -- ---- walks and owners ----

  walk_from_agreed : (number level : ℕ) (node : Bytes) →
      walk_from g other number level node ≡ walk_from g disk number level node
  unfolding walk_from
  walk_from_agreed number zero node = refl
  walk_from_agreed number (suc level) node =
      let entry = entry_at (branch_at g number (suc level)) node in
      by (eqb entry 0) (is_well_formed g (suc level) entry)
      (passing node (walk_from g other number level (block_at (block_width g) other entry)))
      (passing node (walk_from g disk number level (block_at (block_width g) disk entry)))
      (λ formed.
      ap (passing node)
      (ap (walk_from g other number level) (formed_agreed (suc level) entry formed)
      ∙ walk_from_agreed number level (block_at (block_width g) disk entry)))
    where
      by : (is_zero isFormed : Bool) (rest restDisk : Walk) → (isFormed ≡ true → rest ≡ restDisk) →
          walk_by_step is_zero isFormed (ended g node (suc level)) rest ≡
          walk_by_step is_zero isFormed (ended g node (suc level)) restDisk
      by true isFormed rest restDisk same = refl
      by false true rest restDisk same = same refl
      by false false rest restDisk same = refl

  walk_agreed : (number : ℕ) → walk g other number ≡ walk g disk number
  walk_agreed number =
      ap (walk_from g other number (g.height - 1)) (agreed (root_address g) (omega arith))
      ∙ walk_from_agreed number (g.height - 1) (block_at (block_width g) disk (root_address g))

  owner_of_agreed : (slot : ℕ) → owner_of g other slot ≡ owner_of g disk slot
  unfolding owner_of
  owner_of_agreed slot = ap (entry_at (fanout g - 1)) (agreed (slot_start g slot + 1) (omega arith))

  -- ---- the invariant ----

  met_agreed : (level index : ℕ) (entry : DiskAddress) → Met g other level index entry →
      Met g disk level index entry
  met_agreed level index entry (in_root e h p) =
      in_root e h (p ∙ ap (entry_at index) (agreed (root_address g) (omega arith)))
  met_agreed level index entry (in_node {above = above} {node = node} {place = place} met formed h e p) =
      in_node (met_agreed (suc level) above node met) formed h e
      (p ∙ ap (entry_at place) (formed_agreed (suc level) node formed))

  pub hidden_invariant_agreed : HiddenInvariant g disk → HiddenInvariant g other
  hidden_invariant_agreed sound =
      record {
        good_entries = λ level index entry met ne.
            let good = sound.good_entries level index entry (met_agreed level index entry met) ne in
            let owner = owner_of_agreed (slot_of g entry) in
            record {
              well_formed = good.well_formed;
              within = good.within;
              owner_below = rw owner good.owner_below;
              owner_found =
                  rw owner
                  (ap (λ (walked : Walk). walked.end) (walk_agreed (owner_of g disk (slot_of g entry)))
                  ∙ good.owner_found);
            };
      }

  -- ---- hidden reads ----

  module _ (states : geometry_in disk ≡ g) (states_other : geometry_in other ≡ g)
      (accepted : drive_refusal disk ≡ 0) (accepted-other : drive_refusal other ≡ 0)
      (number : ℕ) (blank : Bytes) where
    -- 10 to 12
    abbrev refusal_of : Geometry → (read : Bytes) → ℕ
    refusal_of stated read =
        first_of (hidden_checks stated number (length blank) ++ walk_checks stated read number)

    refusal_agreed : hidden_read_refusal other number blank ≡ hidden_read_refusal disk number blank
    unfolding hidden_read_refusal walk_checks
    refusal_agreed =
        after_drive_pass other _ accepted-other
        ∙ ap (λ (stated : Geometry). refusal_of stated other) states_other ∙ same
        ∙ ap (λ (stated : Geometry). refusal_of stated disk) (sym states)
        ∙ sym (after_drive_pass disk _ accepted)
      where
        same : refusal_of g other ≡ refusal_of g disk
        same = rw (walk_agreed number)

    shown_at_agreed : (end : End) → end ≡ (walk g disk number).end →
        shown_at g other blank end ≡ shown_at g disk blank end
    shown_at_agreed (found address) e =
        formed_agreed 0 address (found_formed g disk number (g.height - 1) _ address e)
    shown_at_agreed unmapped e = refl
    shown_at_agreed damaged e = refl

    pub hidden_read_agreed : hidden_read other number blank ≡ hidden_read disk number blank
    unfolding hidden_read
    hidden_read_agreed =
        ap₂ (λ (refusal : ℕ) (shown : Bytes). cond (eqb refusal 0) shown []) refusal_agreed
        (ap (λ (stated : Geometry). shown_at stated other blank (walk stated other number).end) states_other
        ∙ ap (λ (walked : Walk). shown_at g other blank walked.end) (walk_agreed number)
        ∙ shown_at_agreed (walk g disk number).end refl
        ∙ ap (λ (stated : Geometry). shown_at stated disk blank (walk stated disk number).end) (sym states))
