use Rattle.lks_law.proofs.Histories.{entries_events}
use Rattle.lks_law.proofs.laws.every_event_has_its_entry.Goals as goal

pub returns : goal.returns
returns c = entries_events
