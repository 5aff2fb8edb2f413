-- Where the blocks of a path are taken from. Assumes nothing.
use Rattle.std.specs.Prelude.{Option, Some, None}
use Rattle.layout.specs.declared.numbers.DiskAddress.{DiskAddress}
use Rattle.stores.specs.declared.descriptors.Source.{Source}
use Rattle.stores.specs.declared.descriptors.Source.TheVariants as source
use Rattle.plans.specs.declared.hidden_plans.Data.{Data}
use Rattle.plans.specs.declared.hidden_plans.Data.TheVariants.{Own, Offered}

-- a node where the walk read it, zeros where it was not reached
abbrev pub node_source : Option DiskAddress → Source
node_source (Some address) = source.Disk address
node_source None = source.Zeros

-- the slot's own data, or what is offered
abbrev pub data_source : (own : DiskAddress) → Data → Source
data_source own Own = source.Disk own
data_source own (Offered place) = source.Offered place
