use Rattle.std.proofs.Common.{◌∙◌, ap, arith, length, refl}
use Rattle.lks_base.specs.Kinds.{is_second}
use Rattle.lks_hash.proofs.RunningLaws.{hashes_length}
use Rattle.lks_tally.specs.Counting.{key_for}
use Rattle.lks_evidence.proofs.Fronts.{front_hash}
use Rattle.lks_evidence.proofs.hashing.hash_by.Goals as goal

pub bounds-hashes-b : goal.bounds-hashes-b
bounds-hashes-b c =
    let as_many = ap length c.requires
    ∙ hashes_length (is_second c.args.ballot.now.kind) (key_for c.args.ballot.now c.args.voter)
    c.args.version.now in
    omega (arith, as_many, c.if-b-eq0.false, c.if-not-same_front.ensures.long refl)

pub returns : goal.returns
returns c =
    front_hash (is_second c.args.ballot.now.kind) (key_for c.args.ballot.now c.args.voter) c.args.version.now
    c.args.copy.now c.args.hashes.now c.args.b
    c.requires c.if-b-eq0.false (c.if-not-same_front.ensures.long refl) (c.if-not-same_front.ensures.same refl)
