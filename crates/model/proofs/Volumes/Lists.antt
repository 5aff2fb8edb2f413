-- Lists of calls from a sound drive on, given what each call does: the drive stays sound, and a read shows
-- the block last placed under its number, else what it showed before. Assumes nothing.
use mathlib.Core.Path.{◌≡◌, refl}
use mathlib.Core.List.{List, [], ◌∷◌}
use mathlib.Core.Option.{Option, none}
use Prim.Native.Nat.{ℕ, ◌<◌}
use lib.ListN.{length}
use Rattle.model.specs.Calls.{or_else}
use Rattle.model.specs.Geometry.{Geometry}
use Rattle.model.specs.Blocks.{Bytes}
use Rattle.model.specs.Calls.{public_read, hidden_read}
use Rattle.model.specs.Runs.{Call, disk_after, disk_after_all}
use Rattle.model.specs.Promises.ReadAfterWrite.{public_after, last_public, hidden_after, last_hidden}
use Rattle.model.specs.Promises.ReadAfterWrite.{Sound, Readable, ReadsBack}

-- what is shown goes on as the block last placed does
abbrev pub Carries : (shown after : Bytes) → (step : Option Bytes → Option Bytes) → Type 0
Carries shown after step =
    (before : Option Bytes) (otherwise : Bytes) → shown ≡ or_else before otherwise →
    after ≡ or_else (step before) otherwise

-- what one call does to a sound drive
pub record Stepped (g : Geometry) (disk : Bytes) (call : Call) : Type 0 where
  pub sound : Sound g (disk_after disk call)
  pub public_step :
      (number : ℕ) (blank : Bytes) → number < g.publics → length blank ≡ g.block_size →
      Carries (public_read disk number blank) (public_read (disk_after disk call) number blank)
      (λ before. public_after number before disk call)
  pub hidden_step :
      (number : ℕ) (blank : Bytes) → number < g.hidden → length blank ≡ g.block_size →
      Carries (hidden_read disk number blank) (hidden_read (disk_after disk call) number blank)
      (λ before. hidden_after number before disk call)

module _ (g : Geometry) (stepped : (disk : Bytes) (call : Call) → Sound g disk → Stepped g disk call) where
  sound_all : (calls : List Call) (disk : Bytes) → Sound g disk → Sound g (disk_after_all disk calls)
  unfolding disk_after_all
  sound_all [] disk sound = sound
  sound_all (call ∷ calls) disk sound = sound_all calls (disk_after disk call) (stepped disk call sound).sound

  module _ (number : ℕ) (blank : Bytes) (sized : length blank ≡ g.block_size) where
    public_all :
        number < g.publics → (calls : List Call) (disk : Bytes) → Sound g disk →
        Carries (public_read disk number blank) (public_read (disk_after_all disk calls) number blank)
        (λ before. last_public number before disk calls)
    unfolding disk_after_all last_public
    public_all h [] disk sound before otherwise e = e
    public_all h (call ∷ calls) disk sound before otherwise e =
        let one = stepped disk call sound in
        public_all h calls (disk_after disk call) one.sound (public_after number before disk call) otherwise
        (one.public_step number blank h sized before otherwise e)

    hidden_all :
        number < g.hidden → (calls : List Call) (disk : Bytes) → Sound g disk →
        Carries (hidden_read disk number blank) (hidden_read (disk_after_all disk calls) number blank)
        (λ before. last_hidden number before disk calls)
    unfolding disk_after_all last_hidden
    hidden_all h [] disk sound before otherwise e = e
    hidden_all h (call ∷ calls) disk sound before otherwise e =
        let one = stepped disk call sound in
        hidden_all h calls (disk_after disk call) one.sound (hidden_after number before disk call) otherwise
        (one.hidden_step number blank h sized before otherwise e)

  pub reads_back_of_steps :
      ((disk : Bytes) → Sound g disk → Readable g disk) → (disk : Bytes) (calls : List Call) → Sound g disk →
      ReadsBack g disk calls
  reads_back_of_steps readable disk calls sound =
      record {
        sound = sound_all calls disk sound;
        readable = readable (disk_after_all disk calls) (sound_all calls disk sound);
        public_shown = λ number blank h sized.
            public_all number blank sized h calls disk sound none (public_read disk number blank) refl;
        hidden_shown_lem = λ number blank h sized.
            hidden_all number blank sized h calls disk sound none (hidden_read disk number blank) refl;
      }
