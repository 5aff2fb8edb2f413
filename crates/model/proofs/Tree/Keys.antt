-- The key of a number at a level, how many entries of that level stand before its own: numbers share an entry
-- just if they share its key. Spans, keys by level, keys and branches, keys at the root. Assumes nothing.
use mathlib.Core.Path.{◌≡◌, refl, sym, ap, ap₂, ◌∙◌, subst}
use Prim.Native.Nat.{ℕ, zero, suc, ◌+◌, ◌*◌, ◌-◌, ◌/◌, ◌%◌, ◌^◌, ◌≤◌, ◌<◌}
use native.Mathlib.Nat.{div-div-eq-div-mul, div-add-mod', div-lt_iff_lt-mul, div-eq_of_lt, div-one, mod-lt}
use native.Mathlib.Nat.{pow-suc, pow-zero, mul-one, one-mul, mul_assoc, mul-div_cancel}
use native.Mathlib.Omega.{arith}
use Rattle.model.specs.Geometry.{Geometry, Fits, fanout, tree_capacity}
use Rattle.model.specs.HiddenTree.{branch_at, span}
use Rattle.model.specs.Invariants.{entries_in}
use Rattle.model.proofs.Laws.Geometry.{fanout_low}

-- how many entries of a level stand before a number's own
abbrev pub key_of : Geometry → (level number : ℕ) → ℕ
key_of g level number = number / span g level

-- ---- spans ----

pub span-zero : (g : Geometry) → span g 0 ≡ 1
unfolding span
span-zero g = refl

pub span_suc : (g : Geometry) (level : ℕ) → span g (suc level) ≡ span g level * entries_in g level
unfolding span
span_suc g zero = rw (pow-zero (fanout g), mul-one, one-mul)
span_suc g (suc level) =
    rw (pow-suc (fanout g) level)
    (sym (mul_assoc (fanout g - 1) (fanout g ^ level) (fanout g)))

-- ---- keys by level ----

pub key_of-zero : (g : Geometry) (number : ℕ) → key_of g 0 number ≡ number
key_of-zero g number = ap (λ (n : ℕ). number / n) (span-zero g) ∙ div-one number

pub key_of_suc : (g : Geometry) (level number : ℕ) →
    key_of g (suc level) number ≡ key_of g level number / entries_in g level
key_of_suc g level number =
    ap (λ (n : ℕ). number / n) (span_suc g level)
    ∙ sym (div-div-eq-div-mul number (span g level) (entries_in g level))

pub key_of_up : (g : Geometry) (level n m : ℕ) → key_of g level n ≡ key_of g level m →
    key_of g (suc level) n ≡ key_of g (suc level) m
key_of_up g level n m e =
    key_of_suc g level n ∙ ap (λ (k : ℕ). k / entries_in g level) e ∙ sym (key_of_suc g level m)

-- ---- keys and branches ----

pub branch_at-key_of : (g : Geometry) (number level : ℕ) →
    branch_at g number level ≡ key_of g level number % entries_in g level
unfolding branch_at span
branch_at-key_of g number zero = ap (λ (n : ℕ). n % (fanout g - 1)) (sym (key_of-zero g number))
branch_at-key_of g number (suc level) =
    ap (λ (n : ℕ). n % fanout g)
    (div-div-eq-div-mul number (fanout g - 1) (fanout g ^ level))

pub branch_at_same : (g : Geometry) (level n m : ℕ) → key_of g level n ≡ key_of g level m →
    branch_at g n level ≡ branch_at g m level
branch_at_same g level n m e =
    branch_at-key_of g n level ∙ ap (λ (k : ℕ). k % entries_in g level) e ∙ sym (branch_at-key_of g m level)

-- the key above and the branch there make the key
pub key_of_down :
    (g : Geometry) (level n m : ℕ) → key_of g (suc level) n ≡ key_of g (suc level) m →
    branch_at g n level ≡ branch_at g m level → key_of g level n ≡ key_of g level m
key_of_down g level n m e p =
    sym (div-add-mod' (key_of g level n) (entries_in g level))
    ∙ ap₂ (λ (i j : ℕ). i * entries_in g level + j) (sym (key_of_suc g level n) ∙ e ∙ key_of_suc g level m)
    (sym (branch_at-key_of g n level) ∙ p ∙ branch_at-key_of g m level)
    ∙ div-add-mod' (key_of g level m) (entries_in g level)

-- ---- an accepted geometry ----

module _ (g : Geometry) (f : Fits g) where
  pub entries_in_positive : (level : ℕ) → 0 < entries_in g level
  entries_in_positive zero = omega (arith, fanout_low g f)
  entries_in_positive (suc level) = omega (arith, fanout_low g f)

  pub branch_at_lt : (number level : ℕ) → branch_at g number level < entries_in g level
  branch_at_lt number level =
      rw (branch_at-key_of g number level)
      (mod-lt (key_of g level number) (entries_in_positive level))

  pub span_positive : (level : ℕ) → 0 < span g level
  span_positive zero = rw (span-zero g) (omega arith)
  span_positive (suc level) =
      rw (span_suc g level)
      (product (span g level) (entries_in g level) (span_positive level) (entries_in_positive level))
    where
      product : (n m : ℕ) → 0 < n → 0 < m → 0 < n * m
      product zero m h k = elim h [ ]
      product (suc n) zero h k = elim k [ ]
      product (suc n) (suc m) h k = omega arith

  -- the first number below an entry
  pub key_of_first : (level key : ℕ) → key_of g level (key * span g level) ≡ key
  key_of_first level key = mul-div_cancel key (span_positive level)

  -- ---- keys at the root ----

  pub lt_tree_capacity : (number : ℕ) → number < g.hidden → number < tree_capacity g
  lt_tree_capacity number h = omega (arith, f.hidden_fits)

  span_height : span g g.height ≡ tree_capacity g
  unfolding span
  span_height = let e : suc (g.height - 1) ≡ g.height = omega (arith, f.height_low) in ap (span g) (sym e)

  pub key_of_height : (number : ℕ) → number < tree_capacity g → key_of g g.height number ≡ 0
  key_of_height number h = div-eq_of_lt (rw span_height h)

  pub lt_of_key_of_height : (number : ℕ) → key_of g g.height number ≡ 0 → number < tree_capacity g
  lt_of_key_of_height number e =
      let h : key_of g g.height number < 1 = omega arith in
      rw (← span_height)
      (rw (one-mul (span g g.height)) at ((div-lt_iff_lt-mul (span_positive g.height)).0 h))

  -- a number that shares a key with one of the tree's is one of them
  pub lt_of_key_of_same :
      (level n m : ℕ) → level ≤ g.height → key_of g level n ≡ key_of g level m → m < tree_capacity g →
      n < tree_capacity g
  lt_of_key_of_same level n m h e k =
      lt_of_key_of_height n (up (g.height - level) level (omega arith) e ∙ key_of_height m k)
    where
      up : (steps level : ℕ) → level + steps ≡ g.height → key_of g level n ≡ key_of g level m →
          key_of g g.height n ≡ key_of g g.height m
      up zero level q p = subst (λ (l : ℕ). key_of g l n ≡ key_of g l m) (omega arith) p
      up (suc steps) level q p = up steps (suc level) (omega arith) (key_of_up g level n m p)
