use Rattle.std.proofs.Common.{◌∙◌, ap, length, min}
use Rattle.lks_base.specs.Counted.{most_numbered}
use Rattle.lks_base.proofs.FirstBlocks.{count_first}
use Rattle.lks_base.proofs.lists.SeqSeqU8Contents.count.Goals as goal

pub returns : goal.returns
unfolding most_numbered
returns c = c.min.ensures ∙ ap (λ n. min n 65535) (ap length c.as_slice.ensures) ∙ count_first 65535 c.args.self.now
