-- Two disks that agree on what every address shows of its block, and two traces side by side: the same
-- addresses, whole blocks, contents that show the same. Over what an address shows, the width of a block and
-- their number. Assumes nothing.
use mathlib.Core.Path.{◌≡◌, refl, sym, ap₂, ◌∙◌}
use mathlib.Core.Logic.{◌≢◌, ◌⊎◌, inl, inr}
use mathlib.Core.List.{List, [], ◌∷◌, ◌++◌}
use Prim.Native.Nat.{ℕ, zero, suc, ◌*◌, ◌<◌}
use lib.ListN.{length, take}
use Rattle.laws.proofs.Cases.{eq_cases}
use Rattle.model.specs.Blocks.{Bytes, DiskAddress, block_at, set_block}
use Rattle.model.specs.Stores.{Store, Trace, apply, addresses}
use Rattle.model.proofs.Laws.Blocks.{length-set_block, block_at-set_block_same, block_at-set_block_other}

module _ (shows : DiskAddress → Bytes → Bytes) (width count : ℕ) where
  pub record Agree (disk other : Bytes) : Type 0 where
    pub whole : length disk ≡ count * width
    pub other_whole : length other ≡ count * width
    pub same_shown :
        (address : DiskAddress) →
        shows address (block_at width disk address) ≡ shows address (block_at width other address)

  -- two stores to one address that show the same there
  pub record Beside (x y : Store) : Type 0 where
    pub same_address : x.address ≡ y.address
    pub inside : x.address < count
    pub sized : length x.content ≡ width
    pub other_sized : length y.content ≡ width
    pub same_shown : shows x.address x.content ≡ shows x.address y.content

  pub data Along : Trace → Trace → Type 0 where
    none : Along [] []
    more : {x y : Store} {xs ys : Trace} → Beside x y → Along xs ys → Along (x ∷ xs) (y ∷ ys)

  -- ---- traces side by side ----

  pub along_append : {xs ys us vs : Trace} → Along xs ys → Along us vs → Along (xs ++ us) (ys ++ vs)
  along_append none k = k
  along_append (more b h) k = more b (along_append h k)

  -- the first so many of each
  pub along_take :
      {xs ys : Trace} (count : ℕ) → Along xs ys → Along (take count xs) (take count ys)
  along_take zero h = none
  along_take (suc count) none = none
  along_take (suc count) (more b h) = more b (along_take count h)

  pub along_addresses : {xs ys : Trace} → Along xs ys → addresses xs ≡ addresses ys
  unfolding addresses
  along_addresses none = refl
  along_addresses (more b h) =
      ap₂ {C = List ℕ} (λ (a : ℕ) (rest : List ℕ). a ∷ rest) b.same_address (along_addresses h)

  -- ---- disks after them ----

  agree_one :
      {disk other : Bytes} {x y : Store} → Agree disk other → Beside x y →
      Agree (set_block width disk x.address x.content) (set_block width other y.address y.content)
  agree_one {disk} {other} {x} {y} a b =
      record {
        whole =
            length-set_block width disk count a.whole x.address b.inside x.content b.sized
            ∙ a.whole;
        other_whole =
            length-set_block width other count a.other_whole y.address inside_other y.content
            b.other_sized
            ∙ a.other_whole;
        same_shown = λ address. by address (eq_cases address x.address);
      }
    where
      inside_other : y.address < count
      inside_other = rw b.same_address at b.inside

      by : (address : DiskAddress) → (address ≡ x.address) ⊎ (address ≢ x.address) →
          shows address (block_at width (set_block width disk x.address x.content) address) ≡
          shows address (block_at width (set_block width other y.address y.content) address)
      by address (inl e) =
          let here =
          block_at-set_block_same width disk count a.whole x.address b.inside x.content
          b.sized in
          let there =
          block_at-set_block_same width other count a.other_whole y.address inside_other y.content
          b.other_sized in
          rw (e, here, b.same_shown, b.same_address, there)
      by address (inr ne) =
          let here =
          block_at-set_block_other width disk count a.whole x.address b.inside x.content
          b.sized address ne in
          let there =
          block_at-set_block_other width other count a.other_whole y.address inside_other y.content
          b.other_sized
          address (λ e. ne (e ∙ sym b.same_address)) in
          rw (here, there) (a.same_shown address)

  pub agree_apply :
      {xs ys : Trace} {disk other : Bytes} → Along xs ys → Agree disk other →
      Agree (apply width xs disk) (apply width ys other)
  unfolding apply
  agree_apply none a = a
  agree_apply (more b h) a = agree_apply h (agree_one a b)
