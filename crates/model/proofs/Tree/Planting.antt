-- A path stored in a slot up to a level: the ghost tree with the path planted in it is that of the new disk.
-- Owners, by whether a slot is the path's or was there before. Assumes nothing.
use mathlib.Core.Path.{◌≡◌, refl, sym, ap, ◌∙◌, subst}
use mathlib.Core.Logic.{◌≢◌, ◌⊎◌, inl, inr, ⊎_elim}
use mathlib.Core.Option.{Option, some}
use Prim.Native.Nat.{ℕ, ◌*◌, ◌-◌, ◌≤◌, ◌<◌}
use native.Mathlib.Omega.{arith}
use lib.ListN.{length}
use Rattle.laws.proofs.Cases.{eq_cases, lt_cases, some_inj}
use Rattle.model.specs.Geometry.{Geometry, Fits, fanout, block_count, tree_capacity}
use Rattle.model.specs.Blocks.{Bytes, entry_at}
use Rattle.model.specs.HiddenTree.{owner_of}
use Rattle.model.proofs.Tree.Keys.{key_of, key_of-zero}
use Rattle.model.proofs.Tree.Ghost.{Tree, slot_at, Owned, Ghost}
use Rattle.model.proofs.Tree.Planted.{planted, Planted, planted_same, planted_above, planted_other}
use Rattle.model.proofs.Tree.Linking.{linked_planted}

module _ (g : Geometry) (f : Fits g) (disk after : Bytes) (tree : Tree)
    (whole : length disk ≡ block_count g * g.block_size)
    (ghost : Ghost g disk tree) (number slot top : ℕ) (low : number < g.hidden) (here : slot < g.slots)
    (path : Planted g disk after tree number slot top) where
  abbrev new : Tree
  new = planted g tree number slot top

  module _ (other level held : ℕ) (h : other < tree_capacity g) (k : level < g.height) where
    owned_mine : key_of g level other ≡ key_of g level number → slot ≡ held → Owned g after new other level held
    owned_mine e q =
        subst (Owned g after new other level) q
        (record {
          owner_lt = subst (λ (n : ℕ). n < g.hidden) (sym path.owner) low;
          holds =
              ap (slot_at g new 0) path.owner
              ∙ planted_same g tree number slot top 0 number (omega arith) refl;
          below = ap (key_of g level) path.owner ∙ sym e;
        })

    owned_theirs : slot_at g tree level other ≡ some held → held ≢ slot →
        (key_of g level other ≡ key_of g level number → top < level) →
        Owned g after new other level held
    unfolding owner_of
    owned_theirs e ne high =
        record {
          owner_lt = subst (λ (n : ℕ). n < g.hidden) (sym same) old.owner_lt;
          holds =
              ap (slot_at g new 0) same ∙ planted_other g tree number slot top 0 (owner_of g disk held) not_mine
              ∙ old.holds;
          below = ap (key_of g level) same ∙ old.below;
        }
      where
        old : Owned g disk tree other level held
        old = ghost.owned other level held h k e

        same : owner_of g after held ≡ owner_of g disk held
        same =
            ap (entry_at (fanout g - 1))
            (path.apart held 1 (ghost.links.inside other level held h k e) ne (omega arith)
            (omega (arith, f.height_low)))

        not_mine : key_of g 0 (owner_of g disk held) ≢ key_of g 0 number
        not_mine q =
            let z : owner_of g disk held ≡ number =
            sym (key_of-zero g (owner_of g disk held)) ∙ q ∙ key_of-zero g number in
            ⊎_elim
            (λ c. let l = high (sym old.below ∙ ap (key_of g level) z) in omega (arith, c.0))
            (λ c. ne (some_inj held slot (sym old.holds ∙ ap (tree 0) q ∙ c.2))) path.joined

  -- a slot of the new tree is the path's, or it was there before and the path did not reach it
  data Held (other level held : ℕ) : Type 0 where
    mine : key_of g level other ≡ key_of g level number → slot ≡ held → Held other level held
    theirs : slot_at g tree level other ≡ some held → held ≢ slot →
        (key_of g level other ≡ key_of g level number → top < level) → Held other level held

  module _ (other level held : ℕ) (h : other < tree_capacity g) (k : level < g.height)
      (e : slot_at g new level other ≡ some held) where
    held_cases : Held other level held
    held_cases = by (eq_cases (key_of g level other) (key_of g level number)) (lt_cases top level)
      where
        by : (key_of g level other ≡ key_of g level number) ⊎ (key_of g level other ≢ key_of g level number) →
            (top < level) ⊎ (level ≤ top) → Held other level held
        by (inl q) (inr l) =
            mine q (some_inj slot held (sym (planted_same g tree number slot top level other l q) ∙ e))
        by (inl q) (inl l) =
            ⊎_elim (λ z. mine q (sym z))
            (λ z. theirs (sym (planted_above g tree number slot top level other l) ∙ e) z (λ p. l))
            (eq_cases held slot)
        by (inr q) l =
            let old : slot_at g tree level other ≡ some held =
            sym (planted_other g tree number slot top level other q) ∙ e in
            theirs old (λ z. q (path.ours other level h k (old ∙ ap {B = Option ℕ} some z)))
            (λ p. absurd (q p))

    inside_planted : held < g.slots
    inside_planted = by held_cases
      where
        by : Held other level held → held < g.slots
        by (mine q same) = subst (λ (n : ℕ). n < g.slots) same here
        by (theirs old ne high) = ghost.links.inside other level held h k old

    owned_planted : Owned g after new other level held
    owned_planted = by held_cases
      where
        by : Held other level held → Owned g after new other level held
        by (mine q same) = owned_mine other level held h k q same
        by (theirs old ne high) = owned_theirs other level held h k old ne high

  pub ghost_planted : Ghost g after (planted g tree number slot top)
  ghost_planted =
      record {
        links = record {
          linked = linked_planted g f disk after tree whole ghost number slot top low here path;
          inside = inside_planted;
        };
        owned = owned_planted;
      }
