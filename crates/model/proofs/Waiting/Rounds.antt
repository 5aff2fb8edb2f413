-- Hidden writes under the rounds of a write, on a drive with a ghost tree: a round at a live slot leaves what
-- waits, one at another slot places the first, so each round brings every waiting write nearer. Assumes
-- nothing.
use mathlib.Core.Path.{◌≡◌, refl, sym, ap, subst, ◌∙◌}
use mathlib.Core.Bool.{true, false, cond}
use mathlib.Core.List.{List, [], ◌∷◌}
use Prim.Native.Nat.{ℕ, zero, suc, ◌+◌, ◌*◌, ◌≤◌, ◌<◌}
use native.Mathlib.Nat.{suc-mul}
use native.Mathlib.Omega.{arith}
use lib.ListN.{length}
use Rattle.laws.proofs.Cases.{cond_true, cond_false}
use Rattle.laws.proofs.Members.{All}
use Rattle.model.specs.Geometry.{Geometry, Fits, block_count, block_width}
use Rattle.model.specs.Blocks.{Bytes, block_at}
use Rattle.model.specs.Layout.{next_slot, level_address}
use Rattle.model.specs.HiddenTree.{owner_of}
use Rattle.model.specs.Table.{HiddenChoice, keep_hidden}
use Rattle.model.specs.Table.{place_hidden, fill_hidden}
use Rattle.model.specs.Paths.{current_path}
use Rattle.model.specs.HiddenHalf.{HiddenWrite, HiddenState, HiddenHalf, half, is_waiting, is_live}
use Rattle.model.specs.HiddenHalf.{placed_state, hidden_by, row_of, hidden_half}
use Rattle.model.proofs.Laws.Slots.{slot_after-zero}
use Rattle.model.proofs.Laws.Accepted.{GoodWrite}
use Rattle.model.proofs.Laws.HiddenHalf.{row_of_hidden}
use Rattle.model.proofs.Tree.Ghost.{Tree, Ghost}
use Rattle.model.proofs.Tree.Live.{is_blocked_false}
use Rattle.model.proofs.Tree.Stored.{StoredBy}
use Rattle.model.proofs.Waiting.Live.{Near, near_next, nearest_after, round_live, round_free}

-- ---- the hidden half, by whether the slot is live ----

module _ (g : Geometry) (f : Fits g) (disk : Bytes) (tree : Tree) (ghost : Ghost g disk tree) (slot : ℕ)
    (random : Bytes) (state : HiddenState) (good : All (GoodWrite g) state.waiting) where
  half_by : (choice : HiddenChoice) → (row_of g disk slot state.waiting).hidden ≡ choice →
      hidden_half g disk slot random state ≡ hidden_by choice g disk slot random state state.waiting
  unfolding hidden_half
  half_by choice e =
      cond_false _ _ (is_blocked_false g f disk tree ghost slot state.waiting good)
      ∙ ap (λ (c : HiddenChoice). hidden_by c g disk slot random state state.waiting) e

  half_live : is_live g disk slot ≡ true →
      hidden_half g disk slot random state ≡
      half
      (current_path g disk (owner_of g disk slot) slot (block_at (block_width g) disk (level_address g slot 0)))
      state
  unfolding hidden_by
  half_live live = half_by keep_hidden (row_of_hidden g disk slot state.waiting ∙ cond_true _ _ live)

  half_free : is_live g disk slot ≡ false → (next : HiddenWrite) (later : List HiddenWrite) →
      state.waiting ≡ next ∷ later →
      hidden_half g disk slot random state ≡
      half (current_path g disk next.number slot next.content) (placed_state state later)
  unfolding hidden_by
  half_free free next later e =
      half_by place_hidden
      (row_of_hidden g disk slot state.waiting ∙ cond_false _ _ free
      ∙ ap (λ (waits : List HiddenWrite). cond (is_waiting waits) place_hidden fill_hidden) e)
      ∙ ap (hidden_by place_hidden g disk slot random state) e

-- ---- one round ----

-- rounds within which the write behind so many others is placed, where so many live slots come first: past a
-- slot placed in there is one that is not live among the next H
abbrev pub rounds_left : Geometry → (index front : ℕ) → ℕ
rounds_left g index front = suc index + front * g.hidden

-- what one round does to the write behind so many others
pub data RoundWaits (g : Geometry) (after : Bytes) (slot : ℕ) (state next : HiddenState) (index front : ℕ) :
    Type 0 where
  -- it was the first, and is placed
  first_placed_lem : index ≡ 0 → front ≡ 0 → state.placed + 1 ≤ next.placed →
      RoundWaits g after slot state next index front
  -- it comes nearer
  nearer : (grown : Tree) → Ghost g after grown → (index_after front_after : ℕ) →
      Near g after (next_slot g slot) index_after → next.placed + front_after ≡ state.placed + front →
      front_after < length next.waiting →
      suc (rounds_left g index_after front_after) ≤ rounds_left g index front → index ≤ suc index_after →
      RoundWaits g after slot state next index front

module _ (g : Geometry) (f : Fits g) (disk after : Bytes) (tree : Tree)
    (whole : length disk ≡ block_count g * g.block_size) (ghost : Ghost g disk tree) (slot : ℕ)
    (here : slot < g.slots) (random : Bytes) (state : HiddenState)
    (good : All (GoodWrite g) state.waiting)
    (stored : StoredBy g slot disk after (hidden_half g disk slot random state).trace) where
  abbrev next : HiddenState
  next = (hidden_half g disk slot random state).state

  -- the slot is live: one live slot less in front
  waits_live :
      (index front : ℕ) → Near g disk slot (suc index) → front < length state.waiting →
      RoundWaits g after slot state next (suc index) front
  waits_live index front n waits =
      let live : is_live g disk slot ≡ true =
      ap (is_live g disk) (sym (slot_after-zero g slot here)) ∙ n.live_before 0 (omega arith) in
      let same = half_live g f disk tree ghost slot random state good live in
      let kept = round_live g f disk after tree whole ghost slot here live
      (subst (λ (part : HiddenHalf). StoredBy g slot disk after part.trace) same stored) in
      let state_is : next ≡ state = ap (λ (part : HiddenHalf). part.state) same in
      nearer kept.grown kept.ghost index front (near_next g disk after slot index kept.live_is n)
      (ap (λ (s : HiddenState). s.placed + front) state_is)
      (subst (λ (s : HiddenState). front < length s.waiting) (sym state_is) waits) (omega arith)
      (omega arith)

  -- it is not: the first one waiting is placed
  waits_free :
      (front : ℕ) → Near g disk slot 0 → (first : HiddenWrite) (later : List HiddenWrite) →
      state.waiting ≡ first ∷ later → front < length state.waiting →
      RoundWaits g after slot state next 0 front
  waits_free front n first later e waits = by front waits
    where
      free : is_live g disk slot ≡ false
      free = ap (is_live g disk) (sym (slot_after-zero g slot here)) ∙ n.not_live

      half_is : hidden_half g disk slot random state ≡
          half (current_path g disk first.number slot first.content) (placed_state state later)
      half_is = half_free g f disk tree ghost slot random state good free first later e

      state_is : next ≡ placed_state state later
      state_is = ap (λ (part : HiddenHalf). part.state) half_is

      placed_is : next.placed ≡ suc state.placed
      placed_is = ap (λ (s : HiddenState). s.placed) state_is

      low : first.number < g.hidden
      low = (subst (All (GoodWrite g)) e good).0.number_inside

      by : (front : ℕ) → front < length state.waiting → RoundWaits g after slot state next 0 front
      by zero l = first_placed_lem refl refl (omega (arith, placed_is))
      by (suc front) l =
          let made = round_free g f disk after tree whole ghost slot here free first low
          (subst (λ (part : HiddenHalf). StoredBy g slot disk after part.trace) half_is stored) in
          let found = nearest_after g f after slot here made.live_now in
          let longer : length state.waiting ≡ suc (length later) = ap length e in
          let rest : length next.waiting ≡ length later =
          ap (λ (s : HiddenState). length s.waiting) state_is in
          nearer made.grown made.ghost found.index front found.near (omega (arith, placed_is))
          (omega arith) (omega (arith, found.fewer, suc-mul front g.hidden)) (omega arith)

  pub turn_of_round :
      (index front : ℕ) → Near g disk slot index → front < length state.waiting →
      RoundWaits g after slot state next index front
  turn_of_round (suc index) front n waits = waits_live index front n waits
  turn_of_round zero front n waits = by state.waiting refl
    where
      by : (writes : List HiddenWrite) → state.waiting ≡ writes → RoundWaits g after slot state next 0 front
      by [] e = let l : length state.waiting ≡ 0 = ap length e in absurd (omega arith)
      by (first ∷ later) e = waits_free front n first later e waits
