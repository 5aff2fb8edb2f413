-- The law of a part of a list that is written anew: the list with the new part in it. Assumes nothing.
use mathlib.Core.Path.{◌≡◌, sym, ap, ◌∙◌}
use mathlib.Core.List.{List, ◌++◌}
use Prim.Native.Nat.{ℕ, ◌+◌, ◌-◌}
use native.Mathlib.Omega.{arith}
use lib.ListN.{length, take, drop}
use Rattle.std.proofs.lemmas.List.{drop-drop, append_assoc}
use Rattle.laws.specs.Lists.{over}
use Rattle.laws.proofs.Lists.{over_is}

pub part_over :
    (at count : ℕ) (target part : List ℕ) → length part ≡ count →
    take at target ++ (part ++ drop (at + count - at) (drop at target)) ≡ over at part target
part_over at count target part e =
    let k : at + (at + count - at) ≡ at + length part = omega arith in
    ap (λ (rest : List ℕ). take at target ++ (part ++ rest))
    (drop-drop (at + count - at) at target ∙ ap (λ (n : ℕ). drop n target) k)
    ∙ sym (append_assoc (take at target) part (drop (at + length part) target)) ∙ sym (over_is at part target)
