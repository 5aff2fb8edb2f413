-- Laws of refusals 1 to 3: what a drive that is not refused gives, one law for each way through the tests,
-- and the chains of the calls taken apart. Assumes nothing.
use mathlib.Core.Path.{◌∙◌, ◌≡◌, ap, sym, subst}
use mathlib.Core.Logic.{◌≢◌, ⊎_elim}
use mathlib.Core.Bool.{true, not, false, ◌||◌}
use mathlib.Core.List.{List, [], ◌∷◌, ◌++◌}
use Prim.Native.Nat.{ℕ, ◌≤◌, ◌<◌}
use native.Mathlib.Omega.{arith}
use lib.Dec.{ltb, leb, eqb}
use lib.ListN.{length}
use borrow.Author.Tests.{ltb-false, leb-false, eqb-true, not-false, le-ltb, lt-leb, eq-eqb, lt-ltb, le-leb}
use borrow.Author.Tests.{ne_eqb}
use Rattle.laws.specs.Checks.{Check, check, first_of}
use Rattle.laws.proofs.Cases.{or_false_left, or_false_right, or_neither, eq_cases, or_left, or_right}
use Rattle.laws.proofs.Checks.{Numbered, Passed, passed_of_zero, zero_of_passed, passed_front, passed_rest}
use Rattle.laws.proofs.Checks.{first_of-append_pass, first_of-append_stop, first_of_nil, first_of_stop}
use Rattle.laws.proofs.Checks.{first_of_pass}
use Rattle.model.specs.Geometry.{Geometry, Fits, drive_size, is_geometry}
use Rattle.model.specs.Blocks.{Bytes}
use Rattle.model.specs.Layout.{Drive, geometry_in, head_in}
use Rattle.model.specs.Refusals.{size_checks, size_refusal, drive_checks, drive_refusal}
use Rattle.model.proofs.Laws.Geometry.{fits_of_is_geometry}

-- ---- refusals 1 and 2 ----

-- so many bytes are a whole drive of the geometry
pub record Sized (bytes : ℕ) (g : Geometry) : Type 0 where
  pub long : 24 ≤ bytes
  pub accepted : is_geometry g ≡ true
  pub fits : Fits g
  pub whole : bytes ≡ drive_size g

numbered_size : (bytes : ℕ) (g : Geometry) → Numbered (size_checks bytes g)
unfolding size_checks
numbered_size bytes g = (λ e. omega arith, ((λ e. omega arith), tt))

sized_of_passed : (bytes : ℕ) (g : Geometry) → Passed (size_checks bytes g) → Sized bytes g
unfolding size_checks
sized_of_passed bytes g p =
    let a : is_geometry g ≡ true = not-false (is_geometry g)
    (or_false_right (ltb bytes 24) (not (is_geometry g)) p.0) in
    record {
      long = ltb-false bytes 24 (or_false_left (ltb bytes 24) (not (is_geometry g)) p.0);
      accepted = a;
      fits = fits_of_is_geometry g a;
      whole = eqb-true bytes (drive_size g) (not-false (eqb bytes (drive_size g)) p.1.0);
    }

pub sized_of_refusal : (bytes : ℕ) (g : Geometry) → size_refusal bytes g ≡ 0 → Sized bytes g
unfolding size_refusal
sized_of_refusal bytes g e =
    sized_of_passed bytes g (passed_of_zero (size_checks bytes g) (numbered_size bytes g) e)

-- one law for each way through
module _ (bytes : ℕ) (g : Geometry) where
  pub size_short : bytes < 24 → 1 ≡ size_refusal bytes g
  unfolding size_refusal size_checks
  size_short h = sym (first_of_stop 1 _ (or_left (not (is_geometry g)) (lt-ltb bytes 24 h)))

  pub size_outside : is_geometry g ≡ false → 1 ≡ size_refusal bytes g
  unfolding size_refusal size_checks
  size_outside e = sym (first_of_stop 1 _ (or_right (ltb bytes 24) (ap not e)))

  module _ (long : 24 ≤ bytes) (good : is_geometry g ≡ true) where
    first_passes : (ltb bytes 24 || not (is_geometry g)) ≡ false
    first_passes = or_neither (le-ltb bytes 24 long) (ap not good)

    pub size_whole : bytes ≡ drive_size g → 0 ≡ size_refusal bytes g
    unfolding size_refusal size_checks
    size_whole e =
        sym (first_of_pass 1 _ first_passes ∙ first_of_pass 2 [] (ap not (eq-eqb bytes (drive_size g) e))
        ∙ first_of_nil)

    pub size_other : bytes ≢ drive_size g → 2 ≡ size_refusal bytes g
    unfolding size_refusal size_checks
    size_other f =
        sym (first_of_pass 1 _ first_passes ∙ first_of_stop 2 [] (ap not (ne_eqb bytes (drive_size g) f)))

-- ---- refusals 1 to 3 ----

-- a drive that refusals 1 to 3 do not meet
pub record Accepted (disk : Bytes) : Type 0 where
  pub sized : Sized (length disk) (geometry_in disk)
  pub head_inside : head_in disk < (geometry_in disk).slots

pub numbered_drive : (disk : Bytes) → Numbered (drive_checks disk)
unfolding drive_checks size_checks
numbered_drive disk = (λ e. omega arith, ((λ e. omega arith), ((λ e. omega arith), tt)))

pub passed_of_drive_refusal : (disk : Bytes) → drive_refusal disk ≡ 0 → Passed (drive_checks disk)
unfolding drive_refusal
passed_of_drive_refusal disk e = passed_of_zero (drive_checks disk) (numbered_drive disk) e

pub accepted_of_refusal : (disk : Bytes) → drive_refusal disk ≡ 0 → Accepted disk
unfolding drive_checks
accepted_of_refusal disk e =
    let p = passed_of_drive_refusal disk e in
    let front = size_checks (length disk) (geometry_in disk) in
    let last = check (leb (geometry_in disk).slots (head_in disk)) 3 ∷ [] in
    record {
      sized = sized_of_passed (length disk) (geometry_in disk) (passed_front front last p);
      head_inside = leb-false (geometry_in disk).slots (head_in disk) (passed_rest front last p).0;
    }

pub drive_of_refusal : (disk : Bytes) → drive_refusal disk ≡ 0 → Drive (geometry_in disk) disk
drive_of_refusal disk e =
    let a = accepted_of_refusal disk e in
    record { fits = a.sized.fits; whole = a.sized.whole }

-- what every call knows of a drive that 1 to 3 do not meet: its header is there, and the geometry read from
-- it is a drive's
module _ (disk : Bytes) (accepted : drive_refusal disk ≡ 0) where
  pub long_enough : 24 ≤ length disk
  long_enough = (accepted_of_refusal disk accepted).sized.long

  pub drive_read : (g : Geometry) → g ≡ geometry_in disk → Drive g disk
  drive_read g e = subst (λ (x : Geometry). Drive x disk) (sym e) (drive_of_refusal disk accepted)

-- and the other way round
pub refusal_of_accepted :
    (disk : Bytes) → 24 ≤ length disk → is_geometry (geometry_in disk) ≡ true →
    length disk ≡ drive_size (geometry_in disk) →
    head_in disk < (geometry_in disk).slots → drive_refusal disk ≡ 0
unfolding drive_refusal drive_checks size_checks
refusal_of_accepted disk long good whole head =
    zero_of_passed (drive_checks disk) (
      or_neither (le-ltb (length disk) 24 long) (ap not good),
      (
        ap not (eq-eqb (length disk) (drive_size (geometry_in disk)) whole),
        (lt-leb (geometry_in disk).slots (head_in disk) head, tt),
      ),
    )

-- one law for each way through
module _ (disk : Bytes) where
  pub drive_short : length disk < 24 → 1 ≡ drive_refusal disk
  unfolding drive_refusal drive_checks size_checks
  drive_short h = sym (first_of_stop 1 _ (or_left (not (is_geometry (geometry_in disk)))
      (lt-ltb (length disk) 24 h)))

  pub drive_sized : (fault : ℕ) → fault ≡ size_refusal (length disk) (geometry_in disk) → fault ≢ 0 →
      fault ≡ drive_refusal disk
  unfolding size_refusal drive_refusal drive_checks
  drive_sized fault e f =
      e ∙ sym (first_of-append_stop (size_checks (length disk) (geometry_in disk)) _ (λ z. f (e ∙ z)))

  module _ (accepted : size_refusal (length disk) (geometry_in disk) ≡ 0) where
    pub drive_good : head_in disk < (geometry_in disk).slots → 0 ≡ drive_refusal disk
    drive_good h =
        let s = sized_of_refusal (length disk) (geometry_in disk) accepted in
        sym (refusal_of_accepted disk s.long s.accepted s.whole h)

    pub drive_head : (geometry_in disk).slots ≤ head_in disk → 3 ≡ drive_refusal disk
    unfolding drive_refusal drive_checks size_checks
    drive_head h =
        let s = sized_of_refusal (length disk) (geometry_in disk) accepted in
        let first = or_neither (le-ltb (length disk) 24 s.long) (ap not s.accepted) in
        let second = ap not (eq-eqb (length disk) (drive_size (geometry_in disk)) s.whole) in
        let third = le-leb (geometry_in disk).slots (head_in disk) h in
        sym (first_of_pass 1 _ first ∙ first_of_pass 2 _ second ∙ first_of_stop 3 [] third)

-- ---- a call's chain after the drive's ----

-- a drive that is refused answers every call; one that is not leaves the answer to the call's own checks
pub after_drive_stop : (disk : Bytes) (cs : List Check) → drive_refusal disk ≢ 0 →
    first_of (drive_checks disk ++ cs) ≡ drive_refusal disk
unfolding drive_refusal
after_drive_stop disk cs f = first_of-append_stop (drive_checks disk) cs f

pub after_drive_pass : (disk : Bytes) (cs : List Check) → drive_refusal disk ≡ 0 →
    first_of (drive_checks disk ++ cs) ≡ first_of cs
after_drive_pass disk cs e = first_of-append_pass (drive_checks disk) cs (passed_of_drive_refusal disk e)

-- a chain after the drive's that answers 0 has an accepted drive before it, and has passed itself
pub drive_refusal_of_chain :
    (disk : Bytes) (cs : List Check) → first_of (drive_checks disk ++ cs) ≡ 0 → drive_refusal disk ≡ 0
drive_refusal_of_chain disk cs e =
    ⊎_elim (λ z. z) (λ f. absurd (f (sym (after_drive_stop disk cs f) ∙ e))) (eq_cases (drive_refusal disk) 0)

pub passed_after_drive :
    (disk : Bytes) (cs : List Check) → Numbered cs → first_of (drive_checks disk ++ cs) ≡ 0 → Passed cs
passed_after_drive disk cs n e =
    passed_of_zero cs n (sym (after_drive_pass disk cs (drive_refusal_of_chain disk cs e)) ∙ e)
