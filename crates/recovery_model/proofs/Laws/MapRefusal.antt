-- Laws of refusal 17, which comes after 1 to 3: what holds of the map where it is not given, and the other
-- way round; and two disks with one map. Assumes nothing.
use mathlib.Core.Path.{◌≡◌, refl, sym, ap, ◌∙◌, subst}
use mathlib.Core.Logic.{◌≢◌, ⊎_elim}
use mathlib.Core.Bool.{true, not, ◌&&◌}
use mathlib.Core.List.{List, []}
use Prim.Native.Nat.{ℕ, ◌<◌}
use native.Mathlib.Omega.{arith}
use borrow.Author.Tests.{not-false}
use Rattle.laws.proofs.Cases.{and_left, and_right, and_both, eq_cases, lt_cases, true_is_not_false}
use Rattle.laws.proofs.Checks.{Numbered, first_of_nil, first_of_pass}
use Rattle.model.specs.Geometry.{Geometry}
use Rattle.model.specs.Blocks.{Bytes, DiskAddress}
use Rattle.model.specs.Layout.{geometry_in, is_slot_block, map_entry}
use Rattle.model.specs.Refusals.{drive_refusal}
use Rattle.model.proofs.Laws.Refusals.{after_drive_pass, drive_refusal_of_chain, passed_after_drive}
use Rattle.recovery_model.specs.Recovery.{used_entries, are_starts, are_apart, map_checks, recovery_refusal}
use Rattle.recovery_model.proofs.Laws.MapTests.{Sharing, start_of_used, are_starts_of_starts}
use Rattle.recovery_model.proofs.Laws.MapTests.{apart_of_are_apart, are_apart_of_apart}

-- a map that 17 does not meet
pub record GoodMap (g : Geometry) (disk : Bytes) : Type 0 where
  pub starts :
      (number : ℕ) → number < g.publics → map_entry g disk number ≢ 0 →
      is_slot_block g 0 (map_entry g disk number) ≡ true
  pub apart :
      (number other : ℕ) → number < g.publics → other < g.publics → map_entry g disk number ≢ 0 →
      map_entry g disk number ≡ map_entry g disk other → number ≡ other

numbered-map : (g : Geometry) (disk : Bytes) → Numbered (map_checks g disk)
unfolding map_checks
numbered-map g disk = (λ e. omega arith, tt)

pub drive_refusal_of_recovery : (disk : Bytes) → recovery_refusal disk ≡ 0 → drive_refusal disk ≡ 0
unfolding recovery_refusal
drive_refusal_of_recovery disk e = drive_refusal_of_chain disk (map_checks (geometry_in disk) disk) e

module _ (g : Geometry) (disk : Bytes) (states : geometry_in disk ≡ g) where
  abbrev used : List DiskAddress
  used = used_entries g disk

  -- both tests of the map
  abbrev tests : Geometry → Type 0
  tests stated = (are_starts stated (used_entries stated disk) && are_apart (used_entries stated disk)) ≡ true

  tests_of_recovery : recovery_refusal disk ≡ 0 → tests g
  unfolding recovery_refusal map_checks
  tests_of_recovery e =
      let stated = geometry_in disk in
      subst tests states
      (not-false _ (passed_after_drive disk (map_checks stated disk) (numbered-map stated disk) e).0)

  pub are_starts_of_recovery : recovery_refusal disk ≡ 0 → are_starts g used ≡ true
  are_starts_of_recovery e = and_left (are_starts g used) (are_apart used) (tests_of_recovery e)

  pub good_map_of_recovery : recovery_refusal disk ≡ 0 → GoodMap g disk
  good_map_of_recovery e =
      record {
        starts = λ number h ne.
            start_of_used g disk 0 g.publics (are_starts_of_recovery e) (map_entry g disk number)
            (record { owner = number; low = omega arith; high = omega arith; mapped = ne; entry_is = refl });
        apart = λ number other h k ne p. ⊎_elim
            (λ same. same)
            (λ different. absurd (⊎_elim
            (λ l. none (record {
              first = number;
              second = other;
              low = omega arith;
              before = l;
              high = omega arith;
              mapped = ne;
              shared = p;
            }))
            (λ l. none (record {
              first = other;
              second = number;
              low = omega arith;
              before = omega arith;
              high = omega arith;
              mapped = λ z. ne (p ∙ z);
              shared = sym p;
            }))
            (lt_cases number other)))
            (eq_cases number other);
      }
    where
      none : Sharing g disk 0 g.publics → ⊥
      none = apart_of_are_apart g disk 0 g.publics
          (and_right (are_starts g used) (are_apart used) (tests_of_recovery e))

  module _ (accepted : drive_refusal disk ≡ 0) where
    recovery_refusal_of_tests : are_starts g used ≡ true → are_apart used ≡ true → recovery_refusal disk ≡ 0
    unfolding recovery_refusal map_checks
    recovery_refusal_of_tests starts apart =
        after_drive_pass disk (map_checks (geometry_in disk) disk) accepted
        ∙ first_of_pass 17 [] (ap not (subst tests (sym states) (and_both starts apart))) ∙ first_of_nil

    pub recovery_refusal_of-good_map : GoodMap g disk → recovery_refusal disk ≡ 0
    recovery_refusal_of-good_map good =
        recovery_refusal_of_tests
        (are_starts_of_starts g disk 0 g.publics
        (λ fault. true_is_not_false (good.starts fault.owner (omega arith) fault.mapped)
        fault.no_start))
        (are_apart_of_apart g disk 0 g.publics
        (λ pair.
        let e = good.apart pair.first pair.second (omega arith) (omega arith) pair.mapped
        pair.shared in
        omega arith))

-- two disks with one map
pub good_map_same :
    (g : Geometry) (disk other : Bytes) →
    ((number : ℕ) → number < g.publics → map_entry g other number ≡ map_entry g disk number) →
    GoodMap g disk → GoodMap g other
good_map_same g disk other same good =
    record {
      starts = λ number h ne.
          ap (is_slot_block g 0) (same number h) ∙ good.starts number h (λ z. ne (same number h ∙ z));
      apart = λ number second h k ne e.
          good.apart number second h k (λ z. ne (same number h ∙ z))
          (sym (same number h) ∙ e ∙ same second k);
    }
