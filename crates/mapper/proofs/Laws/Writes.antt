-- Laws of a write up to a bound: a refused one leaves all as it was; one that is not refused can be run with
-- the turns of what it brings, and its run is the model's write, of which the stores before the bound are
-- made. Assumes nothing.
use mathlib.Core.Path.{◌≡◌, refl, sym, ap, ap₂, subst, ◌∙◌}
use mathlib.Core.Logic.{◌≢◌}
use mathlib.Core.Bool.{Bool, true, false, cond}
use mathlib.Core.List.{List, [], ◌∷◌}
use Prim.Native.Nat.{ℕ, ◌+◌, ◌*◌, ◌^◌, ◌≤◌, ◌<◌}
use native.Mathlib.Nat.{mul_assoc, zero-add, sub-zero}
use native.Mathlib.Omega.{arith}
use lib.Dec.{ltb}
use lib.ListN.{length, take, length-take}
use lib.Seq.{take-nil}
use borrow.Author.Tests.{le-ltb}
use Rattle.laws.specs.Lists.{over}
use Rattle.laws.proofs.Cases.{cond_false, cond_cases}
use Rattle.laws.proofs.Lists.{over_nil}
use Rattle.laws.proofs.Members.{All}
use Rattle.model.specs.Geometry.{Geometry, block_width}
use Rattle.model.specs.Blocks.{Bytes, DiskAddress}
use Rattle.model.specs.Stores.{Trace, apply, addresses}
use Rattle.model.specs.Layout.{geometry_in, head_in, round_slot, is_one_block, map_entry}
use Rattle.model.specs.HiddenHalf.{HiddenWrite, HiddenState}
use Rattle.model.specs.Rounds.{Run, run_from}
use Rattle.model.specs.Refusals.{round_count, write_store_count, write_refusal}
use Rattle.model.specs.Line.{Offer, hidden_writes_of}
use Rattle.model.specs.Calls as model
use Rattle.model.proofs.Laws.Runs.{rounds_ran, length_ran}
use Rattle.model.proofs.Laws.Stores.{apply_nil}
use Rattle.model.proofs.Laws.Traces.{addresses_nil}
use Rattle.model.proofs.Laws.Refusals.{Accepted, accepted_of_refusal}
use Rattle.model.proofs.Laws.Accepted.{AcceptedWrite, accepted_of_write, drive_refusal_of_write, GoodWrite}
use Rattle.model.proofs.Laws.Accepted.{offered_writes_good}
use Rattle.model.proofs.Laws.Calls.{written_refused, written_done}
use Rattle.model.proofs.Laws.HiddenWrites.{hidden_writes_of-cons}
use Rattle.model.proofs.Laws.LentBlocks.{lent_inside}
use Rattle.model.proofs.Laws.LineTurns.{length-hidden_writes_of}
use Rattle.model.proofs.Laws.Offers.{write_run_is}
use Rattle.model.proofs.Laws.RoundSearch.{stores_small}
use Rattle.model.proofs.Laws.WriteRuns.{write_run_ran}
use Rattle.model.proofs.Refusals.Circle.{round_count_le}
use Rattle.model.proofs.Volumes.Placed.{placed_le}
use Rattle.recovery_model.specs.Cuts.{is_cut}
use Rattle.stores.specs.Made.{Made}
use Rattle.stores.proofs.Laws.Made.{disk_after_lem, list_after, next_after}
use Rattle.rounds.specs.declared.runs.Ran.{Ran}
use Rattle.rounds.specs.Runs.{turns_run, TurnsLent, Runnable, RunMade}
use Rattle.mapper.specs.declared.within.Bounded.{Bounded}
use Rattle.mapper.specs.Within.{DoneAnswered, bounded_made, bounded_refused, BoundedAnswered}

-- ---- choices by one test ----

module _ {A B : Type 0} (f : A → B) where
  cond_after : (b : Bool) (x y : A) → f (cond b x y) ≡ cond b (f x) (f y)
  cond_after true x y = refl
  cond_after false x y = refl

  cond_inside : (b : Bool) (x y : A) (z : B) → cond b z (f (cond b x y)) ≡ cond b z (f y)
  cond_inside true x y z = refl
  cond_inside false x y z = refl

-- ---- refused ----

module _ (disk : Bytes) (number : ℕ) (content random : Bytes) (list : List DiskAddress) (fault : ℕ)
    (is : fault ≡ write_refusal disk number content (length random) (length list)) (some : fault ≢ 0) where
  refused : (offered : model.Offered) →
      model.written disk number content random (length list) offered ≡
      model.refused_write (write_refusal disk number content (length random) (length list))
  refused offered = written_refused disk number content random (length list) offered (λ z. some (is ∙ z))

  pub block_refused :
      (offered : model.Offered) (bound : ℕ) →
      BoundedAnswered (model.written disk number content random (length list) offered) bound disk list disk
      list (bounded_refused fault)
  block_refused offered bound =
      let nothing : take bound (model.refused_write 0).trace ≡ [] = take-nil bound in
      let whole : ltb bound 0 ≡ false = le-ltb bound 0 (omega arith) in
      rw (refused offered)
      (record {
        answered = is;
        rounds_are = sym (cond_false 0 0 whole);
        stores_are = sym (ap length nothing);
        outcome_is = sym (cond_false _ _ whole);
        cut_is = sym whole;
        stored =
            sym (apply_nil (block_width (geometry_in disk)) disk)
            ∙ ap (λ (xs : Trace). apply (block_width (geometry_in disk)) xs disk) (sym nothing);
        listed =
            sym (over_nil 0 list (omega arith))
            ∙ ap (λ (xs : List DiskAddress). over 0 xs list) (sym addresses_nil)
            ∙ ap (λ (xs : Trace). over 0 (addresses xs) list) (sym nothing);
      })

-- ---- the turns' blocks ----

-- good hidden writes are lent whole
lent_of_good :
    (g : Geometry) (blocks : Bytes) (offers : List Offer) →
    All (GoodWrite g) (hidden_writes_of g blocks offers) → TurnsLent g blocks offers
lent_of_good g blocks [] good = tt
lent_of_good g blocks (offer ∷ later) good =
    let split = rw (hidden_writes_of-cons g blocks offer later) at good in (
      lent_inside g.block_size blocks offer.place split.0.block_sized,
      lent_of_good g blocks later split.1,
    )

-- ---- not refused ----

module _ (disk : Bytes) (number : ℕ) (content random : Bytes) (list : List DiskAddress)
    (offered : model.Offered) (blocks : Bytes)
    (accepted : write_refusal disk number content (length random) (length list) ≡ 0) (g : Geometry)
    (same : g ≡ geometry_in disk) (head : ℕ) (first : head ≡ head_in disk) (offers : List Offer)
    (brought : hidden_writes_of g blocks offers ≡ model.offered_writes g offered) where
  abbrev theirs : Run
  theirs = model.write_run (geometry_in disk) disk number content random offered

  abbrev ours : Run
  ours = turns_run g disk number head content random offers blocks

  drive : Accepted disk
  drive =
      accepted_of_refusal disk (drive_refusal_of_write disk number content (length random) (length list)
      accepted)

  allowed : AcceptedWrite (geometry_in disk) disk number (length content) (length random) (length list)
  allowed = accepted_of_write disk number content (length random) (length list) accepted

  writes_are : hidden_writes_of (geometry_in disk) blocks offers ≡ model.offered_writes (geometry_in disk) offered
  writes_are =
      subst (λ (h : Geometry). hidden_writes_of h blocks offers ≡ model.offered_writes h offered) same brought

  -- the run with the geometry, the head and the turns that were found is the write's
  run_is : ours ≡ theirs
  run_is =
      ap (λ (h : Geometry). turns_run h disk number head content random offers blocks) same
      ∙ ap (λ (k : ℕ). turns_run (geometry_in disk) disk number k content random offers blocks) first
      ∙ ap (λ (writes : List HiddenWrite). run_from (geometry_in disk).slots (geometry_in disk) number content
      (head_in disk) random disk (model.start_state writes)) writes_are
      ∙ sym (write_run_is (geometry_in disk) disk number content random offered)

  rounds_are : theirs.rounds ≡ round_count (geometry_in disk) disk
  rounds_are =
      rounds_ran (geometry_in disk) number content (head_in disk) (round_count (geometry_in disk) disk)
      allowed.some_rounds disk theirs (write_run_ran disk number content random (length list) offered
      accepted)

  stores_are : length theirs.trace ≡ write_store_count (geometry_in disk) disk number
  stores_are =
      length_ran (geometry_in disk) number content (head_in disk) (round_count (geometry_in disk) disk)
      allowed.some_rounds disk theirs (write_run_ran disk number content random (length list) offered
      accepted)

  turns_lent : TurnsLent (geometry_in disk) blocks offers
  turns_lent =
      lent_of_good (geometry_in disk) blocks offers
      (rw writes_are (offered_writes_good (geometry_in disk) offered))

  runnable_theirs : Runnable (geometry_in disk) disk number (head_in disk) content random offers blocks theirs 0
      (length list)
  runnable_theirs =
      let a = allowed.accepted in
      record {
        drive = record { fits = drive.sized.fits; whole = drive.sized.whole };
        number_inside = a.number_inside;
        head_inside = drive.head_inside;
        content_whole = a.block_sized;
        turns_lent = turns_lent;
        old_place = a.in_place;
        random_enough =
            rw rounds_are
            (rw (mul_assoc (round_count (geometry_in disk) disk) (geometry_in disk).height
            (geometry_in disk).block_size) at
            allowed.enough_random);
        room_enough = omega (arith, stores_are, allowed.enough_room);
      }

  pub runnable : Runnable g disk number head content random offers blocks ours 0 (length list)
  runnable =
      rw run_is
      (subst (λ (h : Geometry).
      Runnable h disk number head content random offers blocks theirs 0 (length list)) (sym same)
      (subst (λ (k : ℕ).
      Runnable (geometry_in disk) disk number k content random offers blocks theirs 0 (length list))
      (sym first) runnable_theirs))

  module _ {bound : ℕ} (disk_after : Bytes) (listAfter : List DiskAddress) (ran : Ran)
      (done : RunMade g disk list 0 bound ours offers blocks disk_after listAfter ran) where
    done_theirs : RunMade (geometry_in disk) disk list 0 bound theirs offers blocks disk_after listAfter ran
    done_theirs =
        subst (λ (h : Geometry).
        RunMade h disk list 0 bound theirs offers blocks disk_after listAfter ran) same (rw run_is at done)

    made : Made (block_width (geometry_in disk)) (take bound theirs.trace) disk list 0 disk_after listAfter
        ran.next
    made = rw sub-zero at done_theirs.made

    cut_is : ran.is_cut ≡ ltb bound (length theirs.trace)
    cut_is = done_theirs.cut_is ∙ ap (ltb bound) (zero-add (length theirs.trace))

    placed_theirs : ran.state.placed ≡ cond ran.is_cut 0 theirs.state.placed
    placed_theirs =
        ap (λ (state : HiddenState). state.placed) done_theirs.state_is
        ∙ cond_after (λ (state : HiddenState). state.placed) ran.is_cut _ theirs.state

    pub placed_is :
        let result = model.written disk number content random (length list) offered in
        ran.state.placed ≡ cond (is_cut bound result) 0 result.placed
    placed_is =
        rw (written_done disk number content random (length list) offered accepted)
        (placed_theirs ∙ ap (λ (b : Bool). cond b 0 theirs.state.placed) cut_is)

    writes_count : length (hidden_writes_of (geometry_in disk) blocks offers) ≡ length offers
    writes_count = length-hidden_writes_of (geometry_in disk) blocks offers

    pub placed_most : ran.state.placed ≤ length offers
    placed_most =
        let result = model.written disk number content random (length list) offered in
        let most = placed_le disk number content random (length list) offered in
        rw placed_is
        (cond_cases (λ (n : ℕ). n ≤ length offers) (is_cut bound result) (λ e. omega arith)
        (λ e. omega (arith, most, writes_count, ap length writes_are)))

    pub next_fits : ran.next < 2 ^ 32
    next_fits =
        let g = geometry_in disk in
        let rounds = round_count g disk in
        let small = stores_small g drive.sized.fits rounds (round_count_le g disk) in
        let few : write_store_count g disk number < 2 ^ 32 =
        cond_cases (λ (n : ℕ). rounds * (g.height + 3) + n < 2 ^ 32)
        (is_one_block g (map_entry g disk number) (round_slot g (head_in disk) rounds))
        (λ e. omega arith) (λ e. omega arith) in
        omega (arith, next_after made, length-take bound theirs.trace, stores_are)

    pub block_done :
        (bad count : ℕ) → bad ≡ model.offer_refusal g offered → length offers ≡ count → (answer : Bounded) →
        DoneAnswered bad ran count answer →
        BoundedAnswered (model.written disk number content random (length list) offered) bound disk list
        disk_after listAfter (bounded_made answer)
    block_done bad count judged counted answer said =
        let m = done_theirs in
        rw (written_done disk number content random (length list) offered accepted)
        (record {
          answered = refl;
          rounds_are =
              said.rounds_are ∙ m.rounds_are ∙ ap (λ (b : Bool). cond b 0 theirs.rounds) cut_is;
          stores_are = omega (arith, said.stores_are, next_after made);
          outcome_is =
              said.outcome_is (hidden_writes_of (geometry_in disk) blocks offers) (writes_count ∙ counted)
              ∙ ap (λ (state : HiddenState).
              cond ran.is_cut model.not_tried (model.offer_outcome bad state)) m.state_is
              ∙ cond_inside (model.offer_outcome bad) ran.is_cut _ theirs.state model.not_tried
              ∙ ap₂ (λ (b : Bool) (n : ℕ).
              cond b model.not_tried (model.offer_outcome n theirs.state)) cut_is
              (judged ∙ ap (λ (h : Geometry). model.offer_refusal h offered) same);
          cut_is = said.cut_is ∙ cut_is;
          stored = disk_after_lem made;
          listed = list_after made;
        })
