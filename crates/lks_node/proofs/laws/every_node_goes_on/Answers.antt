use Rattle.lks_law.specs.World.{deposits}
use Rattle.lks_node.proofs.Again.{goes_on}
use Rattle.lks_node.proofs.laws.every_node_goes_on.Goals as goal

pub returns : goal.returns
returns c =
    λ verdict own aus copies p orders whole low small read. goes_on verdict own (deposits aus copies) p orders whole
    low small read
