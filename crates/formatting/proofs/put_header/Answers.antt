-- `put_header` meets its contract: six entries one after another are the packed ones. Assumes nothing.
use Rattle.model.proofs.Laws.Headers.{header_put}
use Rattle.layout.specs.Geometries.{geometry_of}
use Rattle.formatting.proofs.put_header.Goals as goal

pub returns : goal.returns
returns c =
    cc (header_put (geometry_of c.args.g) c.args.disk.now c.requires)
