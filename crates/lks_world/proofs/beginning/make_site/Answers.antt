use Rattle.std.proofs.Common.{◌≡◌, ◌∙◌, ap, refl, sym, subst, true, false, arith}
use Rattle.std.specs.Prelude.{Err, IsSome, option_map}
use Rattle.lks_law.specs.World.{standing_of}
use Rattle.lks_world.proofs.CountLaws.{some_is}
use Rattle.lks_world.specs.Powers.{Power}
use Rattle.lks_world.proofs.beginning.make_site.Goals as goal

pub create_host-requires-clause-honest : goal.create_host-requires-clause-honest
create_host-requires-clause-honest g c = λ κs lives. subst IsSome (sym (c.requires.planned c.if-peer.false)) refl

pub returns-then-peer-clause-served : goal.returns-then-peer-clause-served
returns-then-peer-clause-served g c =
    record { fuse = refl; later = omega arith; cause = λ id is. absurd cc; idle = λ bad. (refl, refl) }

pub returns-in-Ok-clause-begun : goal.returns-in-Ok-clause-begun
returns-in-Ok-clause-begun g c =
    let made = sym c.in-Ok.ensures.peer
    ∙ ap (option_map (standing_of c.args.plan.now)) (c.requires.planned c.if-peer.false) in
    (c.if-peer.false, some_is made, c.in-Ok.ensures.begun)

pub returns-in-Ok-clause-served : goal.returns-in-Ok-clause-served
returns-in-Ok-clause-served g c = record {
  fuse = ap (λ (p : Power). p.fused) c.in-Ok.ensures.power;
  later = c.in-Ok.ensures.later;
  cause = λ id is. absurd cc;
  idle = λ bad. let both : true ≡ false = sym bad ∙ c.if-peer.false in absurd cc;
}

pub returns-in-Err-clause-served : goal.returns-in-Err-clause-served
returns-in-Err-clause-served g c = record {
  fuse = ap (λ (p : Power). p.fused) c.in-Err.ensures.power;
  later = c.in-Err.ensures.later;
  cause = λ id is. c.in-Err.ensures.cause id (ap Err (some_is is));
  idle = λ bad. let both : true ≡ false = sym bad ∙ c.if-peer.false in absurd cc;
}

pub returns-in-Err-clause-front : goal.returns-in-Err-clause-front
returns-in-Err-clause-front g c =
    (c.if-peer.false, c.in-Err.ensures.front c.args.peer.now (c.requires.planned c.if-peer.false))
