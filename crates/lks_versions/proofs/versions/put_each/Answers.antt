use Rattle.std.proofs.Common.{◌≡◌, [], ◌∷◌, ◌++◌, rules, ap, ◌∙◌, arith}
use Rattle.std.proofs.lemmas.Grind.{common_steps}
use Rattle.lks_blocks.specs.Block.{bytes_of, all_push}
use Rattle.lks_blocks.proofs.Bytes.{bytes_push}
use Rattle.lks_versions.proofs.versions.put_each.Goals as goal

pub loop-bytes-preserved : goal.loop-bytes-preserved
loop-bytes-preserved g c =
    let more : c.push.new.self.items ≡ c.loop-bytes.refs.items ++ c.in_ok-put_block.field-0 ∷ [] = search rules in
    record {
      bytes = ap bytes_of more ∙ bytes_push _ _ ∙ grind (arith, common_steps);
      of = rw more (all_push _ _ _ c.loop-bytes.invariant.of c.in_ok-put_block.ensures.pool);
    }
