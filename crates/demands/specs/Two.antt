-- DEMAND 2, over libraries of any make. Frames, check bits, scrambling, symbol levels and precoded values are exactly those of ETSI TS 101 524-2
-- as SCOPE sets them out. What one card writes or scrambles, the other gets back unchanged.
use Rattle.demands.specs.Library.{Library}
use Rattle.demands.specs.Frames.{Frames, Scrambling}
use Rattle.demands.specs.Symbols.{Symbols, Precoding}
use Rattle.demands.specs.DataFrames.{DataFrames}
use Rattle.demands.specs.Messages.{Messages}
use Rattle.demands.specs.Receiving.{Receives}
use Rattle.demands.specs.Back.{Back}

-- the first sentence of the demand
pub record Exact (x : Library) : Type 0 where
  pub frames : Frames x
  pub data_frames : DataFrames x
  pub messages : Messages x
  pub scrambling : Scrambling x
  pub receiving : Receives x
  pub symbols : Symbols x
  pub precoding : Precoding x

-- THE DEMAND: of a card, and of two of them. The second sentence follows from the first, for cards of any two makes (theorem `interwork`)
pub record Two (x : Library) : Type 0 where
  pub exact : Exact x
  pub back : Back x x
