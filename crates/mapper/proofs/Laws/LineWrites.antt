-- Laws of a write with a line up to a bound: what it tells is what the same write tells without one, with
-- what it placed and left; one that is refused or cut, and one with an empty line, keeps the line. Assumes
-- nothing.
use mathlib.Core.Path.{◌≡◌, refl, sym, ap, ap₂, subst, ◌∙◌}
use mathlib.Core.Logic.{◌≢◌}
use mathlib.Core.Bool.{Bool, true, false, cond}
use mathlib.Core.List.{List, [], ◌∷◌}
use Prim.Native.Nat.{ℕ}
use native.Mathlib.Omega.{arith}
use Rattle.std.specs.Prelude.{Ok}
use lib.ListN.{length, take}
use Rattle.laws.proofs.Cases.{cond_cases}
use Rattle.model.specs.Geometry.{Geometry}
use Rattle.model.specs.Blocks.{Bytes, DiskAddress}
use Rattle.model.specs.Layout.{geometry_in, head_in}
use Rattle.model.specs.Refusals.{write_refusal}
use Rattle.model.specs.Line.{Offer, turns, hidden_writes_of, left_after}
use Rattle.model.specs.Calls as model
use Rattle.model.proofs.Laws.Calls.{written_refused}
use Rattle.model.proofs.Laws.LineSteps.{left_after_none}
use Rattle.model.proofs.Laws.LineCalls.{line_left_is, line_left_none, written_empty_line}
use Rattle.model.proofs.Laws.Offers.{offer_refusal-in_line, offered_writes-in_line, offered_writes_nothing}
use Rattle.model.proofs.Volumes.Placed.{placed_le}
use Rattle.recovery_model.specs.Cuts.{is_cut}
use Rattle.line.specs.declared.offers.Line.{Line}
use Rattle.line.specs.Offers.{line_of}
use Rattle.line.specs.Turns.{TurnsFound}
use Rattle.rounds.specs.declared.runs.Ran.{Ran}
use Rattle.rounds.specs.Runs.{turns_run, RunMade}
use Rattle.mapper.specs.declared.within.LineBounded.{LineBounded}
use Rattle.mapper.specs.Within.{BoundedTold, bounded_refused, BoundedAnswered}
use Rattle.mapper.specs.Within.{LineFits, without_line, LineDone}
use Rattle.mapper.specs.Within.{LineBoundedTold, line_bounded_of, line_within, LineBoundedAnswered}
use Rattle.mapper.proofs.Laws.Writes.{block_refused, placed_is, placed_most, next_fits, block_done}

nil_of_length : (offers : List Offer) → length offers ≡ 0 → offers ≡ []
nil_of_length [] none = refl
nil_of_length (offer ∷ later) none = absurd (omega arith)

-- what a write told that placed none, and the line
abbrev keeping_line : BoundedTold → Line → LineBoundedTold
keeping_line answer line = record { bounded = answer; placed = 0; line = line }

module _ (disk : Bytes) (number : ℕ) (content random : Bytes) (list : List DiskAddress) (line : Line)
    (blocks : Bytes) (bound : ℕ) where
  abbrev with_line : model.Written
  with_line = model.written disk number content random (length list) (model.in_line blocks (line_of line))

  -- one that placed none keeps the line
  kept_line :
      (result : model.Written) → result.placed ≡ 0 → (disk_after : Bytes) (listAfter : List DiskAddress)
      (answer : BoundedTold) → BoundedAnswered result bound disk list disk_after listAfter answer →
      LineBoundedAnswered result bound disk list blocks line disk_after listAfter (keeping_line answer line)
  kept_line result none disk_after listAfter answer said =
      record {
        told = said;
        placed_are = sym (cond_cases (λ (n : ℕ). n ≡ 0) (is_cut bound result) (λ e. refl) (λ e. none));
        line_left_lem =
            sym
            (cond_cases (λ (offers : List Offer). offers ≡ line_of line) (is_cut bound result) (λ e. refl)
            (λ e. line_left_none result disk blocks (line_of line) none));
      }

  pub line_refused :
      (fault : ℕ) → fault ≡ write_refusal disk number content (length random) (length list) → fault ≢ 0 →
      LineBoundedAnswered with_line bound disk list blocks line disk list
      (keeping_line (bounded_refused fault) line)
  line_refused fault is some =
      let offered = model.in_line blocks (line_of line) in
      kept_line with_line
      (ap (λ (made : model.Written). made.placed)
      (written_refused disk number content random (length list) offered (λ z. some (is ∙ z))))
      disk list _ (block_refused disk number content random list fault is some offered bound)

  -- ---- not refused ----

  module _ (accepted : write_refusal disk number content (length random) (length list) ≡ 0) (g : Geometry)
      (same : g ≡ geometry_in disk) (head : ℕ) (first : head ≡ head_in disk) (taken : Line)
      (found : TurnsFound g (length blocks) (line_of line) taken) where
    pub brought_in_line :
        hidden_writes_of g blocks (line_of taken) ≡
        model.offered_writes g (model.in_line blocks (line_of line))
    brought_in_line =
        ap (hidden_writes_of g blocks) (found.turns_are blocks refl)
        ∙ sym (offered_writes-in_line g blocks (line_of line))

    module _ (disk_after : Bytes) (listAfter : List DiskAddress) (ran : Ran)
        (done : RunMade g disk list 0 bound
        (turns_run g disk number head content random (line_of taken) blocks) (line_of taken) blocks disk_after
        listAfter ran) where
      pub line_fits : LineFits ran taken
      line_fits =
          let offered = model.in_line blocks (line_of line) in
          let most =
          placed_most disk number content random list offered blocks accepted g same head first
          (line_of taken) brought_in_line disk_after listAfter ran done in
          record {
            placed_most = most;
            stores_few =
                next_fits disk number content random list offered blocks accepted g same head first
                (line_of taken) brought_in_line disk_after listAfter ran done;
          }

      placed : ran.state.placed ≡ cond (is_cut bound with_line) 0 with_line.placed
      placed =
          placed_is disk number content random list (model.in_line blocks (line_of line)) blocks accepted g same
          head first (line_of taken) brought_in_line disk_after listAfter ran done

      turns_are : line_of taken ≡ turns (geometry_in disk) blocks (line_of line)
      turns_are =
          found.turns_are blocks refl ∙ ap (λ (h : Geometry). turns h blocks (line_of line)) same

      -- the first so many of its turns leave the line, none where it is cut
      left : left_after (take ran.state.placed (line_of taken)) (line_of line) ≡
          line_within bound with_line disk blocks (line_of line)
      left =
          ap₂ (λ (count : ℕ) (offers : List Offer). left_after (take count offers) (line_of line)) placed
          turns_are
          ∙ by (is_cut bound with_line)
        where
          by : (cut : Bool) →
              left_after (take (cond cut 0 with_line.placed) (turns (geometry_in disk) blocks (line_of line)))
              (line_of line) ≡
              cond cut (line_of line) (model.line_left with_line disk blocks (line_of line))
          by true = left_after_none (line_of line)
          by false = sym (line_left_is with_line disk blocks (line_of line))

      pub line_done :
          (answer : LineBounded) → LineDone ran taken line answer →
          LineBoundedAnswered with_line bound disk list blocks line disk_after listAfter
          (line_bounded_of line (Ok answer))
      line_done answer said =
          record {
            told =
                block_done disk number content random list (model.in_line blocks (line_of line)) blocks accepted
                g same head first (line_of taken) brought_in_line disk_after listAfter ran done 0
                (length (line_of taken)) (sym (offer_refusal-in_line g blocks (line_of line))) refl
                (without_line answer) said.told;
            placed_are = said.placed_are ∙ placed;
            line_left_lem = said.line_left_lem ∙ left;
          }

  -- ---- where nothing waits ----

  -- it is the write with nothing offered
  pub line_empty :
      length (line_of line) ≡ 0 → (disk_after : Bytes) (listAfter : List DiskAddress) (answer : BoundedTold) →
      BoundedAnswered (model.written disk number content random (length list) model.nothing) bound disk list
      disk_after listAfter answer →
      LineBoundedAnswered with_line bound disk list blocks line disk_after listAfter (keeping_line answer line)
  line_empty none disk_after listAfter answer said =
      let result = model.written disk number content random (length list) model.nothing in
      let most = placed_le disk number content random (length list) model.nothing in
      let is-nothing : with_line ≡ result =
      ap (λ (offers : List Offer).
      model.written disk number content random (length list) (model.in_line blocks offers))
      (nil_of_length (line_of line) none)
      ∙ written_empty_line disk number content random (length list) blocks in
      subst (λ (made : model.Written).
      LineBoundedAnswered made bound disk list blocks line disk_after listAfter (keeping_line answer line))
      (sym is-nothing)
      (kept_line result (omega (arith, most, ap length (offered_writes_nothing (geometry_in disk)))) disk_after
      listAfter answer said)
