use Rattle.lks_law.proofs.Room.{journal_fits, room_left}
use Rattle.lks_law.proofs.laws.every_journal_fits.Goals as goal

pub returns-clause-fits : goal.returns-clause-fits
returns-clause-fits c = journal_fits

pub returns-clause-room : goal.returns-clause-room
returns-clause-room c = room_left
