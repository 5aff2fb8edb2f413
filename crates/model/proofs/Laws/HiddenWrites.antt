-- Equations of the hidden writes of a row of offers. Assumes nothing.
use mathlib.Core.Path.{◌≡◌, refl}
use mathlib.Core.List.{List, [], ◌∷◌}
use Rattle.model.specs.Geometry.{Geometry}
use Rattle.model.specs.Blocks.{Bytes}
use Rattle.model.specs.Line.{Offer, hidden_write_of, hidden_writes_of}

module _ (g : Geometry) (blocks : Bytes) where
  pub hidden_writes_of_nil : hidden_writes_of g blocks [] ≡ []
  unfolding hidden_writes_of
  hidden_writes_of_nil = refl

  pub hidden_writes_of-cons :
      (offer : Offer) (later : List Offer) →
      hidden_writes_of g blocks (offer ∷ later) ≡ hidden_write_of g blocks offer ∷ hidden_writes_of g blocks later
  unfolding hidden_writes_of
  hidden_writes_of-cons offer later = refl
