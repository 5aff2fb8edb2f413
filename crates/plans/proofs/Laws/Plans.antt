-- Laws of a round's plan: each way to a plan is the hidden half of the model. Assumes nothing.
use mathlib.Core.Path.{◌≡◌, refl, sym, ap, ap₂, subst, ◌∙◌}
use mathlib.Core.Logic.{◌⊎◌, inl, inr}
use mathlib.Core.Bool.{Bool, true, false, cond, not, ◌&&◌, ◌||◌}
use mathlib.Core.List.{List, []}
use Prim.Native.Nat.{ℕ}
use Rattle.std.specs.Prelude.{Option, Some, None}
use Rattle.std.specs.Option.{is_some}
use Rattle.laws.proofs.Cases.{bool_cases, true_is_not_false}
use Rattle.model.specs.Geometry.{Geometry, block_width}
use Rattle.model.specs.Blocks.{Bytes, block_at}
use Rattle.model.specs.Layout.{is_allocated, level_address}
use Rattle.model.specs.HiddenTree.{owner_of, walk, is_damaged}
use Rattle.model.specs.Paths.{path_stores}
use Rattle.model.specs.Table as model
use Rattle.model.specs.HiddenHalf.{HiddenWrite, HiddenState, is_waiting, is_live}
use Rattle.model.specs.HiddenHalf.{is_next_damaged, is_blocked, half, placed_state, hidden_by, row_of}
use Rattle.model.specs.HiddenHalf.{hidden_half}
use Rattle.model.proofs.Laws.HiddenHalf.{row_of_hidden}
use Rattle.model.proofs.Laws.Owners.{is_next_damaged_nil, is_next_damaged-cons, hidden_half_blocked}
use Rattle.model.proofs.Laws.Owners.{hidden_half_free, hidden_by_keep, hidden_by_place, hidden_by_fill}
use Rattle.model.proofs.Laws.Owners.{live_of_keep, stale_of_place, stale_of_fill}
use Rattle.hidden_map.specs.declared.walks.Trail.{Trail}
use Rattle.hidden_map.specs.Ends.{end_of}
use Rattle.hidden_map.specs.Walks.{Walked}
use Rattle.hidden_map.proofs.Laws.Walks.{blocks_walked, placed_walked}
use Rattle.table.specs.declared.HiddenChoice.{HiddenChoice}
use Rattle.table.specs.declared.HiddenChoice.TheVariants.{Keep, Place, Fill}
use Rattle.table.specs.declared.Row.{Row}
use Rattle.table.specs.Rows as rows
use Rattle.owners.specs.declared.Owner.{Owner}
use Rattle.owners.specs.Owners.{OwnerWalked, is_live_for, is_damaged_for}
use Rattle.owners.proofs.Laws.Owners.{is_live_owned, is_owner_damaged_owned}
use Rattle.line.specs.declared.offers.Offer.{Offer}
use Rattle.plans.specs.declared.hidden_plans.Data.TheVariants.{Offered}
use Rattle.plans.specs.declared.hidden_plans.HiddenPlan.{HiddenPlan}
use Rattle.plans.specs.declared.hidden_plans.HiddenPlan.TheVariants as plan
use Rattle.plans.specs.declared.states.Turn.{Turn}
use Rattle.plans.specs.declared.plans.Plans.{Plans}
use Rattle.plans.specs.HiddenPlans.{BlockLent}
use Rattle.plans.specs.States.{first_number, first_place, waiting_by}
use Rattle.plans.specs.Plans.{kept_plan, FirstPlanned, PlannedBy, HalfPlanned, turn_of, Planned}

-- ---- what is known when a round is planned ----

-- the table's row, and whose slot it is
pub record Settled (g : Geometry) (disk : Bytes) (slot : ℕ) (first : Option Offer) (row : Row)
    (owner : Option Owner) : Type 0 where
  pub row_is :
      (blocks : Bytes) (later : List HiddenWrite) →
      rows.table_row_of row ≡ row_of g disk slot (waiting_by g blocks first later)
  pub owned : OwnerWalked g disk (owner_of g disk slot) owner

module _ (g : Geometry) (disk : Bytes) (blocks : Bytes) (later : List HiddenWrite) where
  is_waiting_is : (first : Option Offer) → is_waiting (waiting_by g blocks first later) ≡ is_some first
  is_waiting_is None = refl
  is_waiting_is (Some offer) = refl

  is_next_damaged_is :
      (first : Option Offer) → is_next_damaged g disk (waiting_by g blocks first later) ≡
      (is_some first && is_damaged (walk g disk (first_number first)).end)
  is_next_damaged_is None = is_next_damaged_nil g disk
  is_next_damaged_is (Some offer) = is_next_damaged-cons g disk _ later

pub settled :
    (g : Geometry) (disk : Bytes) (slot own : ℕ) (first : Option Offer) (row : Row) (owner : Option Owner)
    (waiting allocated live : Bool) → own ≡ owner_of g disk slot → OwnerWalked g disk own owner →
    waiting ≡ is_some first → allocated ≡ is_allocated g disk slot → live ≡ is_live_for g slot owner →
    rows.table_row_of row ≡ model.row_at waiting allocated live → Settled g disk slot first row owner
settled g disk slot own first row owner waiting allocated live e owned w a l r =
    record {
      row_is = λ blocks later.
          let z = is_waiting_is g disk blocks later first in
          let j = is_live_owned g disk slot own e owner owned in cc;
      owned = subst (λ (n : ℕ). OwnerWalked g disk n owner) e owned;
    }

-- ---- the plans ----

module _ (g : Geometry) (disk : Bytes) (slot : ℕ) (first : Option Offer) (row : Row) (owner : Option Owner)
    (known : Settled g disk slot first row owner) where
  abbrev plans_by : HiddenPlan → Plans
  plans_by hidden = record { choice = row.public; plan = hidden; turn = turn_of hidden }

  -- a plan said in another way
  planned_as : {hidden other : HiddenPlan} → hidden ≡ other → Planned g disk slot first (plans_by other) →
      Planned g disk slot first (plans_by hidden)
  planned_as e p = subst (λ (x : HiddenPlan). Planned g disk slot first (plans_by x)) (sym e) p

  -- the public choice, whatever the plan
  chosen : (blocks : Bytes) (later : List HiddenWrite) →
      rows.public_of row.public ≡ (row_of g disk slot (waiting_by g blocks first later)).public
  chosen blocks later = ap (λ (r : model.Row). r.public) (known.row_is blocks later)

  live_is : is_live_for g slot owner ≡ is_live g disk slot
  live_is = is_live_owned g disk slot (owner_of g disk slot) refl owner known.owned

  blocked_is :
      (blocks : Bytes) (later : List HiddenWrite) → is_blocked g disk slot (waiting_by g blocks first later) ≡
      (is_damaged_for owner || not (is_live g disk slot) &&
      (is_some first && is_damaged (walk g disk (first_number first)).end))
  blocked_is blocks later =
      rw (
        is_owner_damaged_owned g disk slot (owner_of g disk slot) refl owner known.owned,
        is_next_damaged_is g disk blocks later first,
      )

  planned_back :
      ((blocks : Bytes) (later : List HiddenWrite) →
      is_blocked g disk slot (waiting_by g blocks first later) ≡ true) →
      Planned g disk slot first (plans_by plan.Back)
  planned_back blocked =
      record {
        chosen = chosen;
        half_is = λ blocks random later state w.
            hidden_half_blocked g disk slot random state
            (ap (is_blocked g disk slot) w ∙ blocked blocks later);
        placed = tt;
        lent = λ blocks h. tt;
      }

  -- the half by the table's choice
  half_by :
      (choice : model.HiddenChoice) → rows.hidden_of row.hidden ≡ choice → (blocks random : Bytes)
      (later : List HiddenWrite) (state : HiddenState) → state.waiting ≡ waiting_by g blocks first later →
      is_blocked g disk slot (waiting_by g blocks first later) ≡ false →
      hidden_half g disk slot random state ≡
      hidden_by choice g disk slot random state (waiting_by g blocks first later)
  half_by choice e blocks random later state w free =
      hidden_half_free g disk slot random state (ap (is_blocked g disk slot) w ∙ free)
      ∙ ap (λ (writes : List HiddenWrite).
      hidden_by (row_of g disk slot writes).hidden g disk slot random state writes) w
      ∙ ap (λ (c : model.HiddenChoice).
      hidden_by c g disk slot random state (waiting_by g blocks first later))
      (sym (ap (λ (r : model.Row). r.hidden) (known.row_is blocks later)) ∙ e)

  rule :
      (choice : model.HiddenChoice) → rows.hidden_of row.hidden ≡ choice →
      choice ≡ cond (is_live g disk slot) model.keep_hidden
      (cond (is_some first) model.place_hidden model.fill_hidden)
  rule choice e =
      sym e ∙ ap (λ (r : model.Row). r.hidden) (known.row_is [] [])
      ∙ row_of_hidden g disk slot (waiting_by g [] first [])
      ∙ ap (λ (w : Bool). cond (is_live g disk slot) model.keep_hidden
      (cond w model.place_hidden model.fill_hidden))
      (is_waiting_is g disk [] [] first)

  module _ (sound : is_damaged_for owner ≡ false) where
    planned_kept :
        rows.hidden_of row.hidden ≡ model.keep_hidden → (told : Option Owner) → owner ≡ told →
        Planned g disk slot first (plans_by (kept_plan told))
    planned_kept e None o =
        true_is_not_false
        (live_of_keep (is_live g disk slot) (is_some first) (rule model.keep_hidden e))
        (sym live_is ∙ ap (is_live_for g slot) o)
    planned_kept e (Some own) o =
        let live = live_of_keep (is_live g disk slot) (is_some first) (rule model.keep_hidden e) in
        let owned = subst (OwnerWalked g disk (owner_of g disk slot)) o known.owned in
        let walked = owned.1.1 in
        record {
          chosen = chosen;
          half_is = λ blocks random later state w.
              half_by model.keep_hidden e blocks random later state w
              (blocked_is blocks later ∙ rw (sound, live))
              ∙ hidden_by_keep g disk slot random _ _
              ∙ ap₂ (λ (n : ℕ) (xs : List Bytes).
              half (path_stores g n slot (block_at (block_width g) disk (level_address g slot 0)) xs) state)
              (sym owned.0) (sym (blocks_walked g disk (owner_of g disk slot) own.trail walked));
          placed = placed_walked g disk (owner_of g disk slot) own.trail walked;
          lent = λ blocks h. tt;
        }

    module _ (e : rows.hidden_of row.hidden ≡ model.place_hidden) where
      stale : (is_live g disk slot ≡ false) × (is_some first ≡ true)
      stale = stale_of_place (is_live g disk slot) (is_some first) (rule model.place_hidden e)

      module _ (offer : Offer) (waits : first ≡ Some offer) (trail : Trail)
          (walked : Walked g disk offer.number.0 trail) where
        -- the number's walk decides
        blocked_next : (blocks : Bytes) (later : List HiddenWrite) →
            is_blocked g disk slot (waiting_by g blocks first later) ≡ is_damaged (end_of trail.end)
        blocked_next blocks later =
            blocked_is blocks later
            ∙ rw (sound, stale.0, stale.1)
            (ap (λ (f : Option Offer). is_damaged (walk g disk (first_number f)).end) waits
            ∙ ap is_damaged (sym walked.end_is))

        placed_by :
            (blocks random : Bytes) (later : List HiddenWrite) (state : HiddenState) →
            hidden_by model.place_hidden g disk slot random state (waiting_by g blocks first later) ≡
            half (path_stores g offer.number.0 slot (block_at (block_width g) blocks offer.place)
            (walk g disk offer.number.0).nodes) (placed_state state later)
        placed_by blocks random later state =
            ap (λ (f : Option Offer).
            hidden_by model.place_hidden g disk slot random state (waiting_by g blocks f later)) waits
            ∙ hidden_by_place g disk slot random state _ later

        planned_placed :
            (damaged : Bool) → is_damaged (end_of trail.end) ≡ damaged →
            Planned g disk slot first
            (plans_by (cond damaged plan.Back
            (plan.Path offer.number trail.nodes (Offered offer.place))))
        planned_placed true d = planned_back (λ blocks later. blocked_next blocks later ∙ d)
        planned_placed false d =
            record {
              chosen = chosen;
              half_is = λ blocks random later state w.
                  half_by model.place_hidden e blocks random later state w (blocked_next blocks later ∙ d)
                  ∙ placed_by blocks random later state
                  ∙ ap (λ (xs : List Bytes).
                  half (path_stores g offer.number.0 slot (block_at (block_width g) blocks offer.place)
                  xs) (placed_state state later)) (sym (blocks_walked g disk offer.number.0 trail walked));
              placed = placed_walked g disk offer.number.0 trail walked;
              lent = λ blocks h. subst (λ (f : Option Offer). BlockLent g blocks (first_place f)) waits h;
            }

      planned_first :
          (told : Option Offer) → first ≡ told → (hidden : HiddenPlan) → FirstPlanned g disk told hidden →
          Planned g disk slot first (plans_by hidden)
      planned_first None waits hidden h =
          true_is_not_false stale.1 (ap is_some waits)
      planned_first (Some offer) waits hidden (trail, (walked, h)) =
          planned_as h (planned_placed offer waits trail walked (is_damaged (end_of trail.end)) refl)

    planned_filled :
        rows.hidden_of row.hidden ≡ model.fill_hidden → Planned g disk slot first (plans_by plan.Fill)
    planned_filled e =
        let stale = stale_of_fill (is_live g disk slot) (is_some first) (rule model.fill_hidden e) in
        record {
          chosen = chosen;
          half_is = λ blocks random later state w.
              half_by model.fill_hidden e blocks random later state w
              (blocked_is blocks later ∙ rw (sound, stale.0, stale.1))
              ∙ hidden_by_fill g disk slot random _ _;
          placed = tt;
          lent = λ blocks h. tt;
        }

    planned_by :
        (choice : HiddenChoice) → row.hidden ≡ choice → (hidden : HiddenPlan) →
        PlannedBy choice g disk owner first hidden → Planned g disk slot first (plans_by hidden)
    planned_by Keep e hidden h = planned_as h (planned_kept (ap rows.hidden_of e) owner refl)
    planned_by Place e hidden h = planned_first (ap rows.hidden_of e) first refl hidden h
    planned_by Fill e hidden h = planned_as h (planned_filled (ap rows.hidden_of e))

  pub planned :
      (hidden : HiddenPlan) → HalfPlanned g disk row.hidden owner first hidden → (turn : Turn) →
      turn ≡ turn_of hidden →
      Planned g disk slot first (record { choice = row.public; plan = hidden; turn = turn })
  planned hidden h turn told =
      subst
      (λ (t : Turn). Planned g disk slot first (record { choice = row.public; plan = hidden; turn = t }))
      (sym told) (by (bool_cases (is_damaged_for owner)))
    where
      by : (is_damaged_for owner ≡ true) ⊎ (is_damaged_for owner ≡ false) →
          Planned g disk slot first (plans_by hidden)
      by (inl d) =
          planned_as (h.stopped d) (planned_back (λ blocks later. blocked_is blocks later ∙ rw d))
      by (inr d) = planned_by d row.hidden refl hidden (h.chosen d)
