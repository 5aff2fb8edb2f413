-- Laws of `Made`: what is left on the disk and in the list, nothing stored, one store, one trace after
-- another, and what stays: lengths, a whole drive, blocks that are not stored to. Assumes nothing.
use mathlib.Core.Path.{◌≡◌, refl, sym, ap, subst, ◌∙◌}
use mathlib.Core.Logic.{◌≢◌}
use mathlib.Core.List.{List, [], ◌∷◌, ◌++◌}
use Prim.Native.Nat.{ℕ, ◌+◌, ◌*◌, ◌≤◌, ◌<◌}
use native.Mathlib.Omega.{arith}
use lib.ListN.{length, set, length-append}
use Rattle.laws.specs.Lists.{over}
use Rattle.laws.proofs.Lists.{length_over, over_append, over_nil, over_one}
use Rattle.model.specs.Geometry.{Geometry, block_count, block_width}
use Rattle.model.specs.Blocks.{Bytes, DiskAddress, block_at}
use Rattle.model.specs.Layout.{Drive}
use Rattle.model.specs.Stores.{Store, Trace, store, apply, addresses}
use Rattle.model.proofs.Laws.Blocks.{set_block_is}
use Rattle.model.proofs.Laws.Stores.{All, Stored, apply-append, apply_nil, apply_one, addresses-append}
use Rattle.model.proofs.Laws.Stores.{length-addresses, length-apply, block_at-apply_outside}
use Rattle.model.proofs.Laws.Traces.{addresses_nil, addresses-cons}
use Rattle.stores.specs.Made.{Made}

-- ---- what is left ----

module _ {width : ℕ} {trace : Trace} {disk after : Bytes} {list entered : List DiskAddress} {next last : ℕ}
    (made : Made width trace disk list next after entered last) where
  pub disk_after_lem : after ≡ apply width trace disk
  disk_after_lem = made.on_disk

  pub list_after : entered ≡ over next (addresses trace) list
  list_after = made.in_list

  pub next_after : last ≡ next + length trace
  next_after = made.counted

-- ---- traces one after another ----

pub made_nothing :
    (width : ℕ) (disk : Bytes) (list : List DiskAddress) (next : ℕ) → next ≤ length list →
    Made width [] disk list next disk list next
made_nothing width disk list next h =
    record {
      on_disk = sym (apply_nil width disk);
      in_list = rw addresses_nil (sym (over_nil next list h));
      counted = omega arith;
    }

pub made_one :
    (width : ℕ) (address : DiskAddress) (content disk after : Bytes) (list : List DiskAddress) (next : ℕ) →
    next < length list → after ≡ over (address * width) content disk →
    Made width (store address content ∷ []) disk list next after (set list next address) (next + 1)
made_one width address content disk after list next h e =
    record {
      on_disk = e ∙ sym (set_block_is width disk address content)
          ∙ sym (apply_one width (store address content) disk);
      in_list = rw (addresses-cons, addresses_nil) (sym (over_one list next address h));
      counted = refl;
    }

-- what one store made, an equal one made
pub made_store :
    {width : ℕ} {x y : Store} {disk after : Bytes} {list entered : List DiskAddress} {next last : ℕ} → x ≡ y →
    Made width (x ∷ []) disk list next after entered last →
    Made width (y ∷ []) disk list next after entered last
made_store {width} {x} {y} {disk} {after} {list} {entered} {next} {last} e made =
    subst (λ (z : Store). Made width (z ∷ []) disk list next after entered last) e made

module _ {width : ℕ} {disk middle after : Bytes} {list listed entered : List DiskAddress}
    {next later last : ℕ} where
  pub made_then :
      (front back : Trace) → next + length front + length back ≤ length list →
      Made width front disk list next middle listed later →
      Made width back middle listed later after entered last →
      Made width (front ++ back) disk list next after entered last
  made_then front back room m k =
      let e : later ≡ next + length (addresses front) =
      m.counted ∙ ap (λ (n : ℕ). next + n) (sym (length-addresses front)) in
      record {
        on_disk = k.on_disk ∙ ap (apply width back) m.on_disk ∙ sym (apply-append width front back disk);
        in_list =
            k.in_list ∙ ap (over later (addresses back)) m.in_list
            ∙ ap (λ (n : ℕ). over n (addresses back) (over next (addresses front) list)) e
            ∙ over_append (addresses front) list next (omega (arith, length-addresses front)) (addresses back)
            (omega (arith, length-addresses front, length-addresses back))
            ∙ ap (λ (xs : List DiskAddress). over next xs list) (sym (addresses-append front back));
        counted = omega (arith, m.counted, k.counted, length-append front back);
      }

-- ---- what stays ----

module _ {width : ℕ} {trace : Trace} {disk after : Bytes} {list entered : List DiskAddress} {next last : ℕ}
    (made : Made width trace disk list next after entered last) where
  pub length_made_list : next + length trace ≤ length list → length entered ≡ length list
  length_made_list h =
      ap length made.in_list ∙ length_over (addresses trace) list next
      (omega (arith, length-addresses trace))

  length_made_disk : (count : ℕ) → length disk ≡ count * width → All (Stored width count) trace →
      length after ≡ length disk
  length_made_disk count whole h = ap length made.on_disk ∙ length-apply width count trace disk whole h

  pub block_at_made_outside :
      (count : ℕ) (address : DiskAddress) → length disk ≡ count * width → All (Stored width count) trace →
      All (λ (other : ℕ). address ≢ other) (addresses trace) →
      block_at width after address ≡ block_at width disk address
  block_at_made_outside count address whole h o =
      ap (λ (d : Bytes). block_at width d address) made.on_disk
      ∙ block_at-apply_outside width count trace disk address whole h o

pub drive_made :
    (g : Geometry) {trace : Trace} {disk after : Bytes} {list entered : List DiskAddress} {next last : ℕ} →
    Made (block_width g) trace disk list next after entered last → Drive g disk →
    All (Stored (block_width g) (block_count g)) trace →
    Drive g after
drive_made g made drive h =
    record {
      fits = drive.fits;
      whole = length_made_disk made (block_count g) drive.whole h
          ∙ drive.whole;
    }
