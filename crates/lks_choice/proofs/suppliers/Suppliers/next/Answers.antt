use Rattle.std.proofs.Common.{◌≡◌, rules}
use Rattle.lks_choice.specs.Asking.{was_asked, next_at}
use Rattle.lks_choice.proofs.Asked.{none_left}
use Rattle.lks_choice.proofs.suppliers.Suppliers.next.Goals as goal

pub returns-clause-none : goal.returns-clause-none
returns-clause-none c =
    let first : c.first_unasked.result ≡ next_at c.args.self.now.asked c.args.b c.args.against.now = search rules in
    none_left (was_asked c.args.self.now.asked c.args.b) c.args.against.now _ first
