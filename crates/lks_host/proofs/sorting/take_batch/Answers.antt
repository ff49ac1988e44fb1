use Rattle.std.proofs.Common.{◌≡◌, true, ◌++◌, rules}
use Rattle.std.specs.Prelude.{max, ◌||◌}
use Rattle.lks_law.specs.Journal.{was_tuned}
use Rattle.lks_law.specs.Behind.{latest_tick}
use Rattle.lks_host.specs.Naming.{IsAsked}
use Rattle.lks_host.specs.declared.sorting.Sorter.{Sorter}
use Rattle.lks_host.proofs.Taking.{not_named, asked_is, taken_so}
use Rattle.lks_host.proofs.sorting.take_batch.Goals as goal

pub returns-in_default-clause-taken : goal.returns-in_default-clause-taken
returns-in_default-clause-taken g c = λ b found stands.
    not_named c.args.sorter.now.peer.own c.args.sorter.now.list.items c.args.batch.items c.deref.result.now
    c.deref-2.result.now c.in_ok-named.field-0 c.args.body.now
    c.deref.ensures.value c.deref-2.ensures.value c.in_default.is c.in_ok-named.ensures c.requires.spells.read b
    found stands

pub returns-clause-taken : goal.returns-clause-taken
returns-clause-taken g c =
    let old = c.args.sorter.now in
    let new : Sorter = record {
      peer = c.add_batch.new.sorter.peer;
      list = c.append.new.self;
      last = c.latest_with-sorter.result;
      tuned = c.tuned_with-sorter.result;
    } in
    let asked : IsAsked old.list.items c.args.batch.items c.in-Some.named =
    asked_is old.list.items c.args.batch.items c.deref.result.now c.deref-2.result.now c.in_ok-named.field-0
    c.in-Some.named c.deref.ensures.value c.deref-2.ensures.value c.in-Some.is c.in_ok-named.ensures in
    let granted : c.in_ok-add_batch.field-0 ≡ true = search rules in
    let goes : c.append.new.self.items ≡ old.list.items ++ c.args.batch.items = search rules in
    let last : c.latest_with-sorter.result ≡ max old.last (latest_tick c.args.batch.items) = search rules in
    let tunes : c.tuned_with-sorter.result ≡ (old.tuned || was_tuned c.args.batch.items) = search rules in
    taken_so old new c.deref-3.result.now c.args.batch.items c.args.body.now c.in-Some.named c.in_ok-add_batch.field-0
    c.deref-3.ensures.value c.requires.spells.is c.requires.spells.read c.requires.spells.spelled asked granted
    c.in_ok-add_batch.ensures.added c.in_ok-add_batch.ensures.state
    c.in_ok-add_batch.ensures.same.0 goes last tunes
