-- Reads on a drive whose volumes are sound: none is refused, and each shows its number's block, or the blank.
-- Assumes nothing.
use mathlib.Core.Path.{◌≡◌, refl, ap, ◌∙◌}
use mathlib.Core.Logic.{inl, inr, ⊎_elim}
use mathlib.Core.Bool.{Bool, true, false, cond}
use mathlib.Core.Option.{none, some}
use Prim.Native.Nat.{ℕ, ◌<◌}
use lib.Dec.{eqb}
use lib.ListN.{length}
use Rattle.laws.proofs.Cases.{eq_cases}
use Rattle.model.specs.Geometry.{Geometry, Fits, tree_capacity, block_width}
use Rattle.model.specs.Blocks.{Bytes, block_at}
use Rattle.model.specs.Layout.{geometry_in, map_entry}
use Rattle.model.specs.HiddenTree.{walk}
use Rattle.model.specs.Refusals.{drive_refusal, public_read_refusal, hidden_read_refusal}
use Rattle.model.specs.Calls.{public_read, hidden_read, shown_at, or_else}
use Rattle.model.specs.Invariants.{PublicInvariant}
use Rattle.model.proofs.Laws.Accepted.{AcceptedNumber}
use Rattle.model.proofs.Laws.Calls.{public_read_refusal_of_accepted, hidden_read_refusal_of_accepted}
use Rattle.model.proofs.Laws.Calls.{entry_shown, hidden_read_done, public_read_done}
use Rattle.model.proofs.Tree.Keys.{lt_tree_capacity}
use Rattle.model.proofs.Tree.Ghost.{Tree, Ghost, value_of}
use Rattle.model.proofs.Tree.Walks.{is_damaged-walk}
use Rattle.model.proofs.Tree.Shown.{shown_at-walk}
use Rattle.model.proofs.Volumes.Public.{public_value}

module _ (g : Geometry) (disk : Bytes) (states : geometry_in disk ≡ g) (accepted : drive_refusal disk ≡ 0)
    (number : ℕ) (blank : Bytes) (sized : length blank ≡ g.block_size) where
  -- ---- public ----

  module _ (sound : PublicInvariant g disk) (counted : number < g.publics) where
    good_number : AcceptedNumber g disk number (length blank)
    good_number =
        record {
          number_inside = counted;
          block_sized = sized;
          in_place =
              ⊎_elim (λ e. inl e) (λ ne. inr (sound.in_place number counted ne))
              (eq_cases (map_entry g disk number) 0);
        }

    pub public_read_accepted : public_read_refusal disk number blank ≡ 0
    public_read_accepted = public_read_refusal_of_accepted disk number blank g states accepted good_number

    pub public_read_shows : public_read disk number blank ≡ or_else (public_value g disk number) blank
    public_read_shows =
        public_read_done disk number blank public_read_accepted
        ∙ ap (λ (stated : Geometry). entry_shown stated disk blank (map_entry stated disk number)) states
        ∙ by (eqb (map_entry g disk number) 0) (block_at (block_width g) disk (map_entry g disk number))
      where
        by : (is_none : Bool) (block : Bytes) →
            cond is_none blank block ≡ or_else (cond is_none none (some block)) blank
        by true block = refl
        by false block = refl

  -- ---- hidden ----

  module _ (f : Fits g) (tree : Tree) (ghost : Ghost g disk tree) (counted : number < g.hidden) where
    low : number < tree_capacity g
    low = lt_tree_capacity g f number counted

    pub hidden_read_accepted : hidden_read_refusal disk number blank ≡ 0
    hidden_read_accepted =
        hidden_read_refusal_of_accepted disk number blank g states accepted
        (record { number_inside = counted; block_sized = sized })
        (is_damaged-walk g disk tree ghost.links number low f)

    pub hidden_read_shows : hidden_read disk number blank ≡ or_else (value_of g disk tree number) blank
    hidden_read_shows =
        hidden_read_done disk number blank hidden_read_accepted
        ∙ ap (λ (stated : Geometry). shown_at stated disk blank (walk stated disk number).end) states
        ∙ shown_at-walk g disk blank tree number f ghost.links low
