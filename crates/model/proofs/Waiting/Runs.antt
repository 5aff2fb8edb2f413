-- The rounds of a write, or the first of them, on a drive with a ghost tree: the hidden write behind so many
-- others is placed, or so many rounds less are left to it. Assumes nothing.
use mathlib.Core.Path.{◌≡◌, refl, sym, ap, subst, ◌∙◌}
use mathlib.Core.Logic.{◌⊎◌, inl, inr, ⊎_elim}
use mathlib.Core.Bool.{true}
use mathlib.Core.List.{List, [], ◌∷◌, append-nil}
use Prim.Native.Nat.{ℕ, zero, suc, ◌+◌, ◌*◌, ◌≤◌, ◌<◌}
use native.Mathlib.Nat.{mul-le-mul_right, suc-mul}
use native.Mathlib.Omega.{arith}
use lib.ListN.{length, drop, length-drop}
use Rattle.laws.proofs.Cases.{bool_cases, cond_cases}
use Rattle.laws.proofs.Members.{All}
use Rattle.model.specs.Geometry.{Geometry, Fits, block_count, block_width}
use Rattle.model.specs.Blocks.{Bytes}
use Rattle.model.specs.Layout.{next_slot, is_allocated}
use Rattle.model.specs.Stores.{Trace, apply}
use Rattle.model.specs.Table.{PublicChoice, keep_public, write_public, HiddenChoice, keep_hidden}
use Rattle.model.specs.Table.{place_hidden, fill_hidden}
use Rattle.model.specs.HiddenHalf.{HiddenWrite, HiddenState, HiddenHalf}
use Rattle.model.specs.HiddenHalf.{is_blocked, hidden_by, row_of, hidden_half}
use Rattle.model.specs.Rounds.{Run, stopped, followed_by, round_trace, choice_goes_on, run_from}
use Rattle.model.proofs.Laws.Stores.{apply-append, apply_nil}
use Rattle.model.proofs.Laws.Slots.{slot_after, slot_after-zero, slot_after_next, next_slot_lt}
use Rattle.model.proofs.Laws.Places.{Placed}
use Rattle.model.proofs.Laws.Accepted.{GoodWrite}
use Rattle.model.proofs.Laws.HiddenHalf.{HidesHalf, hidden_half_hides}
use Rattle.model.proofs.Laws.RoundStores.{after_round, length_round, Round}
use Rattle.model.proofs.Laws.Rounds.{parts_round}
use Rattle.model.proofs.Laws.Wrote.{placed_kept}
use Rattle.model.proofs.Laws.Ready.{run_from_kept, run_from_last}
use Rattle.model.proofs.Tree.Ghost.{Tree, Ghost}
use Rattle.model.proofs.Tree.Stored.{StoredBy, stored_of_parts}
use Rattle.model.proofs.Waiting.Live.{Near}
use Rattle.model.proofs.Waiting.Rounds.{rounds_left, RoundWaits, first_placed_lem, nearer, turn_of_round}

-- ---- what becomes of a hidden write ----

-- random bytes for each round of a run of at most so many, and good hidden writes; the run may end before its
-- last round
pub record Underway (g : Geometry) (number : ℕ) (content : Bytes) (most : ℕ) (disk : Bytes) (slot : ℕ)
    (random : Bytes) (state : HiddenState) : Type 0 where
  pub whole : length disk ≡ block_count g * g.block_size
  pub here : slot < g.slots
  pub placed : Placed g disk number
  pub enough :
      (run_from most g number content slot random disk state).rounds * (g.height * g.block_size) ≤
      length random
  pub good : All (GoodWrite g) state.waiting

-- the write behind so many others is placed, not before the first slot that is not live
pub record Done (state : HiddenState) (run : Run) (index front : ℕ) : Type 0 where
  pub placed : state.placed + suc front ≤ run.state.placed
  pub late : suc index ≤ run.rounds

-- it waits, and the rounds made bring it nearer
pub record Nearer (g : Geometry) (final : Bytes) (slot : ℕ) (state : HiddenState) (run : Run)
    (index front : ℕ) : Type 0 where
  pub grown : Tree
  pub ghost : Ghost g final grown
  pub index_after : ℕ
  pub near_after : Near g final (slot_after g slot run.rounds) index_after
  pub front_after : ℕ
  pub front_is : run.state.placed + front_after ≡ state.placed + front
  pub spent : run.rounds + rounds_left g index_after front_after ≤ rounds_left g index front
  pub no_sooner : index ≤ run.rounds + index_after

-- what becomes of the write behind so many others
abbrev pub Waits : Geometry → (final : Bytes) → (slot : ℕ) → HiddenState → Run → (index front : ℕ) → Type 0
Waits g final slot state run index front =
    Done state run index front ⊎ Nearer g final slot state run index front

-- ---- placed ones stay placed ----

module _ (g : Geometry) where
  hidden_half_placed :
      (disk : Bytes) (slot : ℕ) (random : Bytes) (state : HiddenState) →
      state.placed ≤ (hidden_half g disk slot random state).state.placed
  unfolding hidden_half hidden_by
  hidden_half_placed disk slot random state =
      cond_cases (λ (part : HiddenHalf). state.placed ≤ part.state.placed)
      (is_blocked g disk slot state.waiting) (λ e. omega arith)
      (λ e. by (row_of g disk slot state.waiting).hidden state.waiting)
    where
      by : (choice : HiddenChoice) (waits : List HiddenWrite) →
          state.placed ≤ (hidden_by choice g disk slot random state waits).state.placed
      by keep_hidden waits = omega arith
      by fill_hidden waits = omega arith
      by place_hidden [] = omega arith
      by place_hidden (first ∷ later) = omega arith

  pub run_from_placed :
      (most number : ℕ) (content : Bytes) (slot : ℕ) (random disk : Bytes) (state : HiddenState) →
      state.placed ≤ (run_from most g number content slot random disk state).state.placed
  unfolding run_from
  run_from_placed zero number content slot random disk state = omega arith
  run_from_placed (suc most) number content slot random disk state =
      let here = hidden_half_placed disk slot random state in
      cond_cases (λ (run : Run). state.placed ≤ run.state.placed)
      (choice_goes_on (row_of g disk slot state.waiting).public)
      (λ e.
      let part = hidden_half g disk slot random state in
      let l = run_from_placed most number content (next_slot g slot) (drop (g.height * g.block_size) random)
      (apply (block_width g)
      (round_trace (row_of g disk slot state.waiting).public g disk number slot content part.trace) disk)
      part.state in
      omega (arith, here, l)) (λ e. here)

-- ---- all rounds ----

module _ (g : Geometry) (f : Fits g) (number : ℕ) (counted : number < g.publics) (content : Bytes)
    (sized : length content ≡ g.block_size) where
  -- what a run of at most so many rounds does to the write behind so many others
  abbrev WaitsBy : (most : ℕ) → Type 0
  WaitsBy most =
      (disk : Bytes) (slot : ℕ) (random : Bytes) (state : HiddenState) (tree : Tree) (index front : ℕ) →
      Underway g number content most disk slot random state → Ghost g disk tree → Near g disk slot index →
      front < length state.waiting →
      let run = run_from most g number content slot random disk state in
      Waits g (apply (block_width g) run.trace disk) slot state run index front

  module _ (most : ℕ) (later : WaitsBy most) (disk : Bytes) (slot : ℕ) (random : Bytes) (state : HiddenState)
      (tree : Tree) (index front : ℕ) (underway : Underway g number content (suc most) disk slot random state)
      (ghost : Ghost g disk tree) (n : Near g disk slot index) (waits : front < length state.waiting) where
    abbrev now : HiddenHalf
    now = hidden_half g disk slot random state

    abbrev round : PublicChoice → Trace
    round choice = round_trace choice g disk number slot content now.trace

    abbrev after : PublicChoice → Bytes
    after choice = after_round choice g disk number slot content now.trace

    some_random : g.height * g.block_size ≤ length random
    unfolding run_from
    some_random =
        let run = run_from (suc most) g number content slot random disk state in
        let one : 1 ≤ run.rounds = omega arith in
        omega (arith, underway.enough, mul-le-mul_right (g.height * g.block_size) one)

    hides : HidesHalf (GoodWrite g) g slot now
    hides =
        hidden_half_hides g f disk underway.whole slot underway.here random some_random (GoodWrite g)
        (λ write good. good.block_sized) state underway.good

    this : Round g disk number slot content now.trace
    this =
        record {
          fits = f;
          whole = underway.whole;
          counted = counted;
          inside = underway.here;
          sized = sized;
          placed = underway.placed;
          hides = hides.hides;
        }

    stored : (choice : PublicChoice) → StoredBy g slot disk (after choice) now.trace
    stored choice = stored_of_parts (parts_round this choice)

    this_waits : (choice : PublicChoice) → RoundWaits g (after choice) slot state now.state index front
    this_waits choice =
        turn_of_round g f disk (after choice) tree underway.whole ghost slot underway.here random state
        underway.good (stored choice) index front n waits

    -- a run of this round alone
    alone : Waits g (apply (block_width g) (round write_public) disk) slot state
        (followed_by (round write_public) (stopped now.state)) index front
    alone = by (this_waits write_public)
      where
        by : RoundWaits g (after write_public) slot state now.state index front →
            Waits g (after write_public) slot state
            (followed_by (round write_public) (stopped now.state)) index front
        by (first_placed_lem e none_before l) = inl (record { placed = omega arith; late = omega arith })
        by (nearer grown alive index_after front_after near_after front_is waiting spent low) =
            inr (record {
              grown = grown;
              ghost = alive;
              index_after = index_after;
              near_after = near_after;
              front_after = front_after;
              front_is = front_is;
              spent = omega (arith, spent);
              no_sooner = omega arith;
            })

    -- this round and a run after it
    abbrev rest : Run
    rest =
        run_from most g number content (next_slot g slot) (drop (g.height * g.block_size) random)
        (after keep_public) now.state

    module _ (taken : is_allocated g disk slot ≡ true) where
      enough_rest : rest.rounds * (g.height * g.block_size) ≤
          length (drop (g.height * g.block_size) random)
      enough_rest =
          let run_is = run_from_kept most g number content slot random disk state taken in
          let counts : (run_from (suc most) g number content slot random disk state).rounds ≡
          suc rest.rounds = ap (λ (r : Run). r.rounds) run_is in
          let split = ap (λ (m : ℕ). m * (g.height * g.block_size)) counts in
          omega (
            arith,
            split,
            underway.enough,
            length-drop (g.height * g.block_size) random,
            suc-mul rest.rounds (g.height * g.block_size),
          )

      underway_rest : Underway g number content most (after keep_public) (next_slot g slot)
          (drop (g.height * g.block_size) random) now.state
      underway_rest =
          record {
            whole = length_round this keep_public ∙ underway.whole;
            here = next_slot_lt g slot f;
            placed = placed_kept this;
            enough = enough_rest;
            good = hides.waiting;
          }

      followed : Waits g (apply (block_width g) rest.trace (after keep_public)) slot state
          (followed_by (round keep_public) rest) index front
      followed = by (this_waits keep_public)
        where
          by : RoundWaits g (after keep_public) slot state now.state index front →
              Waits g (apply (block_width g) rest.trace (after keep_public)) slot state
              (followed_by (round keep_public) rest) index front
          by (first_placed_lem e none_before l) =
              inl (let more = run_from_placed g most number content (next_slot g slot)
              (drop (g.height * g.block_size) random) (after keep_public) now.state in
              record { placed = omega (arith, more); late = omega arith })
          by (nearer grown alive index_after front_after near_after front_is waiting spent low) =
              and_then (later (after keep_public) (next_slot g slot) (drop (g.height * g.block_size) random)
              now.state grown index_after front_after underway_rest alive near_after waiting)
            where
              and_then : Waits g (apply (block_width g) rest.trace (after keep_public))
                  (next_slot g slot) now.state rest index_after front_after →
                  Waits g (apply (block_width g) rest.trace (after keep_public)) slot state
                  (followed_by (round keep_public) rest) index front
              and_then (inl d) =
                  inl (record { placed = omega (arith, d.placed); late = omega (arith, d.late) })
              and_then (inr m) =
                  inr (record {
                    grown = m.grown;
                    ghost = m.ghost;
                    index_after = m.index_after;
                    near_after =
                        subst (λ (s : ℕ). Near g (apply (block_width g) rest.trace (after keep_public)) s
                        m.index_after) (slot_after_next g slot rest.rounds) m.near_after;
                    front_after = m.front_after;
                    front_is = m.front_is ∙ front_is;
                    spent = omega (arith, spent, m.spent);
                    no_sooner = omega (arith, m.no_sooner);
                  })

    waits_by :
        let run = run_from (suc most) g number content slot random disk state in
        Waits g (apply (block_width g) run.trace disk) slot state run index front
    waits_by = ⊎_elim
        (λ taken.
        subst (λ (run : Run). Waits g (apply (block_width g) run.trace disk) slot state run index front)
        (sym (run_from_kept most g number content slot random disk state taken))
        (subst (λ (final : Bytes). Waits g final slot state (followed_by (round keep_public) rest) index front)
        (sym (apply-append (block_width g) (round keep_public) rest.trace disk)) (followed taken)))
        (λ free.
        subst (λ (run : Run). Waits g (apply (block_width g) run.trace disk) slot state run index front)
        (sym (run_from_last most g number content slot random disk state free))
        (subst (λ (trace : Trace). Waits g (apply (block_width g) trace disk) slot state
        (followed_by (round write_public) (stopped now.state)) index front)
        (sym (append-nil (round write_public))) alone))
        (bool_cases (is_allocated g disk slot))

  pub run_from_waits : (most : ℕ) → WaitsBy most
  unfolding run_from
  run_from_waits zero disk slot random state tree index front underway ghost n waits =
      inr (record {
        grown = tree;
        ghost = subst (λ (d : Bytes). Ghost g d tree) (sym (apply_nil (block_width g) disk)) ghost;
        index_after = index;
        near_after =
            subst (λ (d : Bytes). Near g d (slot_after g slot 0) index) (sym (apply_nil (block_width g) disk))
            (subst (λ (s : ℕ). Near g disk s index) (sym (slot_after-zero g slot underway.here)) n);
        front_after = front;
        front_is = refl;
        spent = omega arith;
        no_sooner = omega arith;
      })
  run_from_waits (suc most) disk slot random state tree index front underway ghost n waits =
      waits_by most (run_from_waits most) disk slot random state tree index front underway ghost n waits
