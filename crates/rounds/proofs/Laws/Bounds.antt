-- Laws of stores that are made up to a bound: how many stores of a round that are, and that all of a trace is
-- made where the bound leaves room for it, and only then. Assumes nothing.
use mathlib.Core.Path.{◌≡◌, sym, ap, subst, ◌∙◌}
use mathlib.Core.Logic.{⊎_elim}
use mathlib.Core.Bool.{false}
use mathlib.Core.List.{List, ◌++◌}
use Prim.Native.Nat.{ℕ, ◌+◌, ◌-◌, ◌≤◌, min}
use native.Mathlib.Omega.{arith}
use lib.Dec.{ltb}
use lib.ListN.{length, take, length-append}
use lib.Seq.{take_all, take-append-le, take-append-add}
use borrow.Author.Tests.{lt-ltb, le-ltb}
use Rattle.laws.proofs.Cases.{lt_cases}
use Rattle.model.specs.Blocks.{Bytes, DiskAddress}
use Rattle.model.specs.Stores.{Trace}
use Rattle.stores.specs.Made.{Made}
use Rattle.stores.proofs.Laws.Made.{next_after}

-- ---- a round ----

-- the lesser of all stores and of those that there is room for
module _ (trace : Trace) (next bound : ℕ) {all count : ℕ} (whole : length trace ≡ all)
    (counted : count ≡ min all (bound - next)) where
  pub take_counted : take count trace ≡ take (bound - next) trace
  take_counted =
      ⊎_elim (λ h. let e : count ≡ bound - next = omega arith in rw e)
      (λ h. take_all count trace (omega arith) ∙ sym (take_all (bound - next) trace (omega arith)))
      (lt_cases (bound - next) all)

  -- some are left out where the bound comes before the last one
  pub ltb_counted : next ≤ bound → ltb count all ≡ ltb bound (next + length trace)
  ltb_counted bounded =
      ⊎_elim
      (λ h. lt-ltb count all (omega arith) ∙ sym (lt-ltb bound (next + length trace) (omega arith)))
      (λ h. le-ltb count all (omega arith) ∙ sym (le-ltb bound (next + length trace) (omega arith)))
      (lt_cases (bound - next) all)

-- ---- a whole trace ----

module _ {width : ℕ} {trace : Trace} {disk after : Bytes} {list entered : List DiskAddress} {next last : ℕ}
    {bound : ℕ} where
  pub made_whole :
      Made width (take (bound - next) trace) disk list next after entered last →
      next + length trace ≤ bound →
      Made width trace disk list next after entered last
  made_whole made inside =
      subst (λ (xs : Trace). Made width xs disk list next after entered last)
      (take_all (bound - next) trace (omega arith)) made

  module _ (made : Made width trace disk list next after entered last) (inside : last ≤ bound) where
    pub made_bounded : Made width (take (bound - next) trace) disk list next after entered last
    made_bounded =
        subst (λ (xs : Trace). Made width xs disk list next after entered last)
        (sym (take_all (bound - next) trace (omega (arith, next_after made)))) made

    pub cut_none : false ≡ ltb bound (next + length trace)
    cut_none = sym (le-ltb bound (next + length trace) (omega (arith, next_after made)))

-- ---- a trace that is cut in its middle ----

pub take_middle :
    {A : Type 0} (front middle back : List A) (count : ℕ) → length front ≤ count →
    count ≤ length front + length middle →
    take count ((front ++ middle) ++ back) ≡ front ++ take (count - length front) middle
take_middle front middle back count low high =
    let e : count ≡ length front + (count - length front) = omega arith in
    take-append-le count (front ++ middle) back (omega (arith, length-append front middle))
    ∙ ap (λ (n : ℕ). take n (front ++ middle)) e
    ∙ take-append-add front middle (count - length front)
