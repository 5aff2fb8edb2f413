-- Laws of the finds: the way to each answer, and what a find tells and shows: the read's refusal, what the
-- read shows, and a block on the drive. Assumes nothing.
use mathlib.Core.Path.{◌≡◌, refl, sym, ap, ◌∙◌}
use mathlib.Core.Logic.{◌≢◌, ⊎_elim}
use mathlib.Core.Bool.{false}
use Prim.Native.Nat.{ℕ, ◌-◌}
use native.Mathlib.Omega.{arith}
use lib.ListN.{length}
use borrow.Author.Tests.{eq-eqb, ne_eqb}
use Rattle.std.specs.Prelude.{Option, Some, None, Result, Ok, Err}
use Rattle.laws.specs.Checks.{first_of}
use Rattle.laws.proofs.Cases.{cond_true, cond_false, eq_cases}
use Rattle.model.specs.Geometry.{Geometry, root_address, block_width}
use Rattle.model.specs.Blocks.{Bytes, DiskAddress, block_at}
use Rattle.model.specs.Layout.{geometry_in, map_entry}
use Rattle.model.specs.HiddenTree.{End, found, unmapped, damaged, is_damaged, walk}
use Rattle.model.specs.Refusals.{drive_refusal, place_checks, public_read_refusal}
use Rattle.model.specs.Refusals.{hidden_checks, hidden_read_refusal}
use Rattle.model.specs.Calls.{public_read, shown_at, hidden_read}
use Rattle.model.proofs.Laws.Accepted.{accepted_of_read}
use Rattle.model.proofs.Laws.Calls.{entry_shown, public_read_done, public_read_when_refused, hidden_read_done}
use Rattle.model.proofs.Laws.Calls.{hidden_read_when_refused}
use Rattle.model.proofs.Laws.Chains.{entry_inside, public_read_refusal_drive, public_read_refusal_place}
use Rattle.model.proofs.Laws.Chains.{drive_refusal_of-public_read, hidden_read_refusal_drive}
use Rattle.model.proofs.Laws.Chains.{hidden_read_refusal_number, hidden_read_refusal_damaged}
use Rattle.model.proofs.Laws.Chains.{hidden_read_refusal_good, drive_refusal_of-hidden_read}
use Rattle.layout.specs.declared.numbers.DiskAddress as declared
use Rattle.layout.specs.declared.refusals.Refusal.{Refusal}
use Rattle.layout.specs.Refusals.{answer_number}
use Rattle.layout.specs.Drives.{RefusedBy, OpenedWith}
use Rattle.model.proofs.Laws.Walks.{found_inside}
use Rattle.reads.specs.Finds.{Find, find_of, refused_find, blank_find, block_find, unless_refused, entry_find}
use Rattle.reads.specs.Finds.{public_find, end_find, hidden_find, refusal_of, shown_find, BlockInside}

-- ---- the answer of a find ----

-- it answers the refusal of what it says
pub refusal_of-find_of :
    (find : Result (Option declared.DiskAddress) Refusal) → refusal_of (find_of find) ≡ answer_number find
refusal_of-find_of (Err refusal) = refl
refusal_of-find_of (Ok None) = refl
refusal_of-find_of (Ok (Some address)) = refl

-- ---- a refusal or none ----

unless_refused_some :
    (refusal : ℕ) (find : Find) {fault : ℕ} → fault ≡ refusal → fault ≢ 0 →
    refused_find fault ≡ unless_refused refusal find
unfolding unless_refused
unless_refused_some refusal find e f =
    ap refused_find e ∙ sym (cond_false _ _ (ne_eqb refusal 0 (λ z. f (e ∙ z))))

unless_refused_none : (refusal : ℕ) (find : Find) → refusal ≡ 0 → find ≡ unless_refused refusal find
unfolding unless_refused
unless_refused_none refusal find e = sym (cond_true _ _ (eq-eqb refusal 0 e))

-- what holds of a find, refused or not
unless_refused_cases :
    (P : Find → Type 0) (refusal : ℕ) (find : Find) → (refusal ≡ 0 → P find) →
    (refusal ≢ 0 → P (refused_find refusal)) → P (unless_refused refusal find)
unless_refused_cases P refusal find good bad =
    ⊎_elim (λ e. rw (← unless_refused_none refusal find e) (good e))
    (λ f. rw (← unless_refused_some refusal find refl f) (bad f)) (eq_cases refusal 0)

-- ---- a map entry ----

pub entry_find-zero : (entry : DiskAddress) → entry ≡ 0 → blank_find ≡ entry_find entry
unfolding entry_find
entry_find-zero entry e = sym (cond_true _ _ (eq-eqb entry 0 e))

pub entry_find_some : (entry : DiskAddress) → entry ≢ 0 → block_find entry ≡ entry_find entry
unfolding entry_find
entry_find_some entry f = sym (cond_false _ _ (ne_eqb entry 0 f))

-- what holds of an entry's find, 0 or not
entry_find_cases :
    (P : Find → Type 0) (entry : DiskAddress) → (entry ≡ 0 → P blank_find) →
    (entry ≢ 0 → P (block_find entry)) →
    P (entry_find entry)
entry_find_cases P entry zero some =
    ⊎_elim (λ e. rw (← entry_find-zero entry e) (zero e)) (λ f. rw (← entry_find_some entry f) (some f))
    (eq_cases entry 0)

-- ---- the public volume ----

module _ (disk : Bytes) (number : ℕ) (blank : Bytes) where
  abbrev public_refusal : ℕ
  public_refusal = public_read_refusal disk number blank

  abbrev own_entry : DiskAddress
  own_entry = map_entry (geometry_in disk) disk number

  -- the way to each answer
  pub public_find_drive :
      {fault : ℕ} → RefusedBy (drive_refusal disk) fault → refused_find fault ≡ public_find disk number blank
  public_find_drive told =
      unless_refused_some public_refusal (entry_find own_entry)
      (public_read_refusal_drive disk number blank told.fault_is told.fault_some) told.fault_some

  module _ {g : Geometry} (opened : OpenedWith (drive_refusal disk) disk g) {misplaced : ℕ}
      (e : misplaced ≡ first_of (place_checks g disk number (length blank))) where
    misplaced_is : misplaced ≡ public_refusal
    misplaced_is = public_read_refusal_place disk number blank opened.accepted g opened.same e

    pub public_find_place : misplaced ≢ 0 → refused_find misplaced ≡ public_find disk number blank
    public_find_place = unless_refused_some public_refusal (entry_find own_entry) misplaced_is

    pub public_find_entry :
        misplaced ≡ 0 → {entry : DiskAddress} → entry ≡ map_entry g disk number →
        entry_find entry ≡ public_find disk number blank
    public_find_entry z q =
        ap entry_find (q ∙ ap (λ (h : Geometry). map_entry h disk number) opened.same)
        ∙ unless_refused_none public_refusal (entry_find own_entry) (sym misplaced_is ∙ z)

  -- what it tells
  pub refusal_of-public_find : refusal_of (public_find disk number blank) ≡ public_refusal
  refusal_of-public_find =
      unless_refused_cases (λ (find : Find). refusal_of find ≡ public_refusal) public_refusal (entry_find own_entry)
      (λ e. entry_find_cases (λ (find : Find). refusal_of find ≡ public_refusal) own_entry (λ z. sym e)
      (λ f. sym e))
      (λ f. refl)

  -- what it shows
  pub shown_find-public_find :
      shown_find (public_find disk number blank) disk blank ≡ public_read disk number blank
  shown_find-public_find =
      unless_refused_cases (λ (find : Find). shown_find find disk blank ≡ public_read disk number blank)
      public_refusal (entry_find own_entry)
      (λ e. by_entry ∙ sym (public_read_done disk number blank e))
      (λ f. sym (public_read_when_refused disk number blank f))
    where
      by_entry : shown_find (entry_find own_entry) disk blank ≡ entry_shown (geometry_in disk) disk blank own_entry
      by_entry =
          entry_find_cases
          (λ (find : Find). shown_find find disk blank ≡ entry_shown (geometry_in disk) disk blank own_entry)
          own_entry (λ z. sym (cond_true _ _ (eq-eqb own_entry 0 z)))
          (λ f. sym (cond_false _ _ (ne_eqb own_entry 0 f)))

  pub inside_public_find : BlockInside (public_find disk number blank) disk
  inside_public_find =
      unless_refused_cases (λ (find : Find). BlockInside find disk) public_refusal (entry_find own_entry)
      (λ e. entry_find_cases (λ (find : Find). BlockInside find disk) own_entry (λ z. tt)
      (λ f. record {
        accepted = drive_refusal_of-public_read disk number blank e;
        inside =
            entry_inside (geometry_in disk) disk number (accepted_of_read disk number blank e).in_place f;
      }))
      (λ f. tt)

-- ---- the hidden volume ----

shown_find-end_find :
    (end : End) (disk blank : Bytes) →
    shown_find (end_find end) disk blank ≡ shown_at (geometry_in disk) disk blank end
shown_find-end_find (found address) disk blank = refl
shown_find-end_find unmapped disk blank = refl
shown_find-end_find damaged disk blank = refl

module _ (disk : Bytes) (number : ℕ) (blank : Bytes) where
  abbrev hidden_refusal : ℕ
  hidden_refusal = hidden_read_refusal disk number blank

  abbrev own_end : End
  own_end = (walk (geometry_in disk) disk number).end

  -- the way to each answer
  hidden_find_refused :
      {fault : ℕ} → fault ≡ hidden_refusal → fault ≢ 0 → refused_find fault ≡ hidden_find disk number blank
  hidden_find_refused = unless_refused_some hidden_refusal (end_find own_end)

  pub hidden_find_drive :
      {fault : ℕ} → RefusedBy (drive_refusal disk) fault → refused_find fault ≡ hidden_find disk number blank
  hidden_find_drive told =
      hidden_find_refused (hidden_read_refusal_drive disk number blank told.fault_is told.fault_some)
      told.fault_some

  module _ {g : Geometry} (opened : OpenedWith (drive_refusal disk) disk g) {bad : ℕ}
      (e : bad ≡ first_of (hidden_checks g number (length blank))) where
    pub hidden_find_number : bad ≢ 0 → refused_find bad ≡ hidden_find disk number blank
    hidden_find_number f =
        hidden_find_refused
        (hidden_read_refusal_number disk number blank opened.accepted g opened.same e f) f

    module _ (good : bad ≡ 0) where
      whole_end :
          (end : End) → end ≡ (walk g disk number).end → is_damaged end ≡ false →
          end_find end ≡ hidden_find disk number blank
      whole_end end w whole =
          ap end_find (w ∙ ap (λ (h : Geometry). (walk h disk number).end) opened.same)
          ∙ unless_refused_none hidden_refusal (end_find own_end)
          (hidden_read_refusal_good disk number blank opened.accepted g opened.same e good w whole)

      pub hidden_find_end :
          (end : End) → end ≡ (walk g disk number).end → end_find end ≡ hidden_find disk number blank
      hidden_find_end (found address) w = whole_end (found address) w refl
      hidden_find_end unmapped w = whole_end unmapped w refl
      hidden_find_end damaged w =
          hidden_find_refused
          (hidden_read_refusal_damaged disk number blank opened.accepted g opened.same e good w refl)
          (λ z. omega arith)

  -- what it tells: a damaged walk is refused
  refusal_of-end_find : hidden_refusal ≡ 0 → (end : End) → end ≡ own_end → refusal_of (end_find end) ≡ hidden_refusal
  refusal_of-end_find e (found address) w = sym e
  refusal_of-end_find e unmapped w = sym e
  refusal_of-end_find e damaged w =
      let accepted = drive_refusal_of-hidden_read disk number blank e in
      let bad = first_of (hidden_checks (geometry_in disk) number (length blank)) in
      ⊎_elim
      (λ z. hidden_read_refusal_damaged disk number blank accepted (geometry_in disk) refl refl z w refl)
      (λ f. absurd (f
      (hidden_read_refusal_number disk number blank accepted (geometry_in disk) refl refl f ∙ e)))
      (eq_cases bad 0)

  pub refusal_of-hidden_find : refusal_of (hidden_find disk number blank) ≡ hidden_refusal
  refusal_of-hidden_find =
      unless_refused_cases (λ (find : Find). refusal_of find ≡ hidden_refusal) hidden_refusal (end_find own_end)
      (λ e. refusal_of-end_find e own_end refl) (λ f. refl)

  -- what it shows
  pub shown_find-hidden_find :
      shown_find (hidden_find disk number blank) disk blank ≡ hidden_read disk number blank
  shown_find-hidden_find =
      unless_refused_cases (λ (find : Find). shown_find find disk blank ≡ hidden_read disk number blank)
      hidden_refusal (end_find own_end)
      (λ e. shown_find-end_find own_end disk blank ∙ sym (hidden_read_done disk number blank e))
      (λ f. sym (hidden_read_when_refused disk number blank f))

  inside_end_find :
      drive_refusal disk ≡ 0 → (end : End) → end ≡ own_end → BlockInside (end_find end) disk
  inside_end_find accepted (found address) w =
      let g = geometry_in disk in
      record {
        accepted = accepted;
        inside =
            found_inside g disk number (g.height - 1) (block_at (block_width g) disk (root_address g)) address
            w;
      }
  inside_end_find accepted unmapped w = tt
  inside_end_find accepted damaged w = tt

  pub inside_hidden_find : BlockInside (hidden_find disk number blank) disk
  inside_hidden_find =
      unless_refused_cases (λ (find : Find). BlockInside find disk) hidden_refusal (end_find own_end)
      (λ e. inside_end_find (drive_refusal_of-hidden_read disk number blank e) own_end refl) (λ f. tt)
