-- Laws of traces: joined traces, what a block holds after a trace, the disk's length, addresses not stored
-- to. Assumes nothing.
use mathlib.Core.Path.{◌≡◌, refl, sym, ap, ◌∙◌}
use mathlib.Core.Logic.{◌≢◌, ◌⊎◌, inl, inr}
use mathlib.Core.Bool.{Bool, cond}
use mathlib.Core.List.{List, [], ◌∷◌, ◌++◌}
use Prim.Native.Nat.{ℕ, zero, suc, ◌*◌, ◌<◌}
use lib.ListN.{length, get_or, take, drop}
use lib.Dec.{eqb}
use borrow.Author.Tests.{eq-eqb, ne_eqb}
use Rattle.laws.proofs.Cases.{eq_cases}
use Rattle.model.specs.Blocks.{Bytes, DiskAddress, block_at, set_block}
use Rattle.model.specs.Stores.{Store, Trace, store, apply, addresses}
use Rattle.model.proofs.Laws.Blocks.{length-set_block, block_at-set_block_same, block_at-set_block_other}
-- what holds of each store of a trace is said by it
pub use Rattle.laws.proofs.Members.{All}

-- ---- joined traces ----

pub apply-append : (width : ℕ) (xs ys : Trace) (disk : Bytes) →
    apply width (xs ++ ys) disk ≡ apply width ys (apply width xs disk)
unfolding apply
apply-append width [] ys disk = refl
apply-append width (x ∷ xs) ys disk = apply-append width xs ys (set_block width disk x.address x.content)

pub apply_nil : (width : ℕ) (disk : Bytes) → apply width [] disk ≡ disk
unfolding apply
apply_nil width disk = refl

pub apply_one : (width : ℕ) (x : Store) (disk : Bytes) →
    apply width (x ∷ []) disk ≡ set_block width disk x.address x.content
unfolding apply
apply_one width x disk = refl

pub addresses-append : (xs ys : Trace) → addresses (xs ++ ys) ≡ addresses xs ++ addresses ys
unfolding addresses
addresses-append [] ys = refl
addresses-append (x ∷ xs) ys = ap {B = List ℕ} (λ (rest : List ℕ). x.address ∷ rest) (addresses-append xs ys)

pub length-addresses : (xs : Trace) → length (addresses xs) ≡ length xs
unfolding addresses
length-addresses [] = refl
length-addresses (x ∷ xs) = ap suc (length-addresses xs)

pub addresses-take : (xs : Trace) (count : ℕ) → addresses (take count xs) ≡ take count (addresses xs)
unfolding addresses
addresses-take xs zero = refl
addresses-take [] (suc count) = refl
addresses-take (x ∷ xs) (suc count) =
    ap {B = List ℕ} (λ (rest : List ℕ). x.address ∷ rest) (addresses-take xs count)

pub addresses-drop : (xs : Trace) (count : ℕ) → addresses (drop count xs) ≡ drop count (addresses xs)
unfolding addresses
addresses-drop xs zero = refl
addresses-drop [] (suc count) = refl
addresses-drop (x ∷ xs) (suc count) = addresses-drop xs count

pub get_d-addresses : (xs : Trace) (index : ℕ) →
    get_or (addresses xs) index 0 ≡ (get_or xs index (store 0 [])).address
unfolding addresses
get_d-addresses [] index = refl
get_d-addresses (x ∷ xs) zero = refl
get_d-addresses (x ∷ xs) (suc index) = get_d-addresses xs index

-- ---- what a block holds after a trace ----

-- the content last stored at an address, else the old one
unfoldable pub last_at : Trace → DiskAddress → (old : Bytes) → Bytes
last_at [] address old = old
last_at (x ∷ xs) address old = last_at xs address (cond (eqb address x.address) x.content old)

pub last_at_nil : (address : DiskAddress) (old : Bytes) → last_at [] address old ≡ old
unfolding last_at
last_at_nil address old = refl

pub last_at-append : (xs ys : Trace) (address : DiskAddress) (old : Bytes) →
    last_at (xs ++ ys) address old ≡ last_at ys address (last_at xs address old)
unfolding last_at
last_at-append [] ys address old = refl
last_at-append (x ∷ xs) ys address old =
    last_at-append xs ys address (cond (eqb address x.address) x.content old)

pub last_at_same : (x : Store) (xs : Trace) (address : DiskAddress) (old : Bytes) → address ≡ x.address →
    last_at (x ∷ xs) address old ≡ last_at xs address x.content
unfolding last_at
last_at_same x xs address old e =
    ap (λ (b : Bool). last_at xs address (cond b x.content old)) (eq-eqb address x.address e)

pub last_at_other : (x : Store) (xs : Trace) (address : DiskAddress) (old : Bytes) → address ≢ x.address →
    last_at (x ∷ xs) address old ≡ last_at xs address old
unfolding last_at
last_at_other x xs address old ne =
    ap (λ (b : Bool). last_at xs address (cond b x.content old)) (ne_eqb address x.address ne)

pub last_at_outside : (xs : Trace) (address : DiskAddress) (old : Bytes) →
    All (λ (other : ℕ). address ≢ other) (addresses xs) → last_at xs address old ≡ old
unfolding addresses
last_at_outside [] address old h = last_at_nil address old
last_at_outside (x ∷ xs) address old h =
    last_at_other x xs address old h.0 ∙ last_at_outside xs address old h.1

-- ---- a trace on a disk ----

-- a store of a whole block, inside the disk's blocks
abbrev pub Stored : (width count : ℕ) → Store → Type 0
Stored width count x = (x.address < count) × (length x.content ≡ width)

module _ (width count : ℕ) where
  pub length-apply : (xs : Trace) (disk : Bytes) → length disk ≡ count * width →
      All (Stored width count) xs → length (apply width xs disk) ≡ length disk
  unfolding apply
  length-apply [] disk whole h = refl
  length-apply (x ∷ xs) disk whole h =
      let l : length (set_block width disk x.address x.content) ≡ length disk =
      length-set_block width disk count whole x.address h.0.0 x.content h.0.1 in
      length-apply xs (set_block width disk x.address x.content) (l ∙ whole) h.1 ∙ l

  pub block_at-apply :
      (xs : Trace) (disk : Bytes) (address : DiskAddress) → length disk ≡ count * width →
      All (Stored width count) xs →
      block_at width (apply width xs disk) address ≡ last_at xs address (block_at width disk address)
  unfolding apply
  block_at-apply [] disk address whole h = sym (last_at_nil address (block_at width disk address))
  block_at-apply (x ∷ xs) disk address whole h =
      let l : length (set_block width disk x.address x.content) ≡ length disk =
      length-set_block width disk count whole x.address h.0.0 x.content h.0.1 in
      block_at-apply xs (set_block width disk x.address x.content) address (l ∙ whole) h.1
      ∙ one (eq_cases address x.address)
    where
      one : (address ≡ x.address) ⊎ (address ≢ x.address) →
          last_at xs address (block_at width (set_block width disk x.address x.content) address) ≡
          last_at (x ∷ xs) address (block_at width disk address)
      one (inl e) =
          ap (last_at xs address)
          (ap (block_at width (set_block width disk x.address x.content)) e
          ∙ block_at-set_block_same width disk count whole x.address h.0.0 x.content h.0.1)
          ∙ sym (last_at_same x xs address (block_at width disk address) e)
      one (inr e) =
          ap (last_at xs address)
          (block_at-set_block_other width disk count whole x.address h.0.0 x.content
          h.0.1 address e)
          ∙ sym (last_at_other x xs address (block_at width disk address) e)

  pub block_at-apply_outside :
      (xs : Trace) (disk : Bytes) (address : DiskAddress) → length disk ≡ count * width →
      All (Stored width count) xs →
      All (λ (other : ℕ). address ≢ other) (addresses xs) →
      block_at width (apply width xs disk) address ≡ block_at width disk address
  block_at-apply_outside xs disk address whole h o =
      block_at-apply xs disk address whole h ∙ last_at_outside xs address (block_at width disk address) o
