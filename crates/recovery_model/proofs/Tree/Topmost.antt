-- The greatest level up to one at which a slot holds a number's path: a slot of the hidden tree may hold a
-- node of some level while the nodes below it are elsewhere. Assumes nothing.
use mathlib.Core.Path.{◌≡◌, sym, ap, subst}
use mathlib.Core.Logic.{◌≢◌, ◌⊎◌, inl, inr, ⊎_elim}
use mathlib.Core.Option.{Option, none, some}
use Prim.Native.Nat.{ℕ, zero, suc, ◌≤◌, ◌<◌}
use native.Mathlib.Omega.{arith}
use Rattle.laws.proofs.Cases.{eq_cases, some_inj, none_is_not_some}
use Rattle.model.specs.Geometry.{Geometry}
use Rattle.model.proofs.Tree.Ghost.{Tree, slot_at}

-- the greatest of the levels up to one at which a number's slot is this one
pub record Topmost (g : Geometry) (tree : Tree) (number slot most : ℕ) : Type 0 where
  pub top : ℕ
  pub within : top ≤ most
  pub held : slot_at g tree top number ≡ some slot
  pub greatest : (level : ℕ) → top < level → level ≤ most → slot_at g tree level number ≢ some slot

some_cases : (held : Option ℕ) (slot : ℕ) → (held ≡ some slot) ⊎ (held ≢ some slot)
some_cases none slot = inr (λ e. none_is_not_some slot e)
some_cases (some other) slot =
    ⊎_elim (λ e. inl (ap {B = Option ℕ} some e)) (λ ne. inr (λ e. ne (some_inj other slot e)))
    (eq_cases other slot)

pub topmost :
    (g : Geometry) (tree : Tree) (number slot most : ℕ) → slot_at g tree 0 number ≡ some slot →
    Topmost g tree number slot most
topmost g tree number slot zero e =
    record { top = 0; within = omega arith; held = e; greatest = λ level h k. absurd (omega arith) }
topmost g tree number slot (suc most) e =
    let below = topmost g tree number slot most e in
    ⊎_elim
    (λ h.
    record {
      top = suc most;
      within = omega arith;
      held = h;
      greatest = λ level k l. absurd (omega arith);
    })
    (λ ne.
    record {
      top = below.top;
      within = omega (arith, below.within);
      held = below.held;
      greatest = λ level k l. ⊎_elim
          (λ z. subst (λ (i : ℕ). slot_at g tree i number ≢ some slot) (sym z) ne)
          (λ z. below.greatest level k (omega arith)) (eq_cases level (suc most));
    })
    (some_cases (slot_at g tree (suc most) number) slot)
