use Rattle.std.proofs.Common.{arith}
use Rattle.lks_gather.proofs.printing.put_file.Goals as goal

pub returns-clause-bytes : goal.returns-clause-bytes
returns-clause-bytes c = λ i. omega (arith, c.type_inv.file i)
