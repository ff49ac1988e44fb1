-- The answer of a run that came so far, and the exit code of each answer.
use Rattle.std.specs.Prelude.{ℕ, true, false, Ok, Err}
use Rattle.lks_outside.specs.declared.sinks.WriteStop.TheVariants as writing
use Rattle.lks_outside.specs.declared.sources.ReadStop.TheVariants as reading
use Rattle.lks_script.specs.declared.faults.ScriptFault.TheVariants as script
use Rattle.lks_world.specs.declared.faults.WorldFault.TheVariants as world
use Rattle.lockss.specs.declared.ends.End.{End}
use Rattle.lockss.specs.declared.ends.End.TheVariants as end
use Rattle.lockss.specs.declared.ends.Played.TheVariants.{Stopped, Told, Unmade, Untold}
use Rattle.lockss.specs.declared.ends.Raced.TheVariants as raced
use Rattle.lockss.specs.declared.ends.Unscripted.TheVariants.{Unread, Unsaid}
use Rattle.lockss.specs.declared.statuses.Status.{Status}
use Rattle.lockss.specs.declared.statuses.Status.TheVariants.{Done, Alarmed, Usage, BadScript, ReadFault, WriteFault}
use Rattle.lockss.specs.declared.statuses.Status.TheVariants.{DiskFault, NoMemory, TooLong, Doubted}

abbrev pub status_of : End → Status
status_of end.Unnamed = Usage
status_of end.Unbegun = NoMemory
status_of (end.Unscripted (Unread reading.Failed)) = ReadFault
status_of (end.Unscripted (Unread reading.TooLong)) = TooLong
status_of (end.Unscripted (Unread reading.Memory)) = NoMemory
status_of (end.Unscripted (Unsaid (script.BadLine line))) = BadScript line
status_of (end.Unscripted (Unsaid script.Memory)) = NoMemory
status_of (end.Played (Unmade (world.Disk peer))) = DiskFault peer
status_of (end.Played (Unmade world.Memory)) = NoMemory
status_of (end.Played (Stopped (world.Disk peer))) = DiskFault peer
status_of (end.Played (Stopped world.Memory)) = NoMemory
status_of (end.Played (Untold (world.Disk peer))) = DiskFault peer
status_of (end.Played (Untold world.Memory)) = NoMemory
status_of (end.Played (Told (Ok false))) = Done
status_of (end.Played (Told (Ok true))) = Alarmed
status_of (end.Played (Told (Err writing.Failed))) = WriteFault
status_of (end.Played (Told (Err writing.Memory))) = NoMemory
status_of (end.Raced (raced.Unmade (world.Disk peer))) = DiskFault peer
status_of (end.Raced (raced.Unmade world.Memory)) = NoMemory
status_of (end.Raced (raced.Stopped (world.Disk peer))) = DiskFault peer
status_of (end.Raced (raced.Stopped world.Memory)) = NoMemory
status_of (end.Raced (raced.Halted (world.Disk peer))) = DiskFault peer
status_of (end.Raced (raced.Halted world.Memory)) = NoMemory
status_of (end.Raced (raced.Told (Ok false))) = Done
status_of (end.Raced (raced.Told (Ok true))) = Alarmed
status_of (end.Raced (raced.Told (Err writing.Failed))) = WriteFault
status_of (end.Raced (raced.Told (Err writing.Memory))) = NoMemory
status_of (end.Examined (Ok false)) = Done
status_of (end.Examined (Ok true)) = Doubted
status_of (end.Examined (Err writing.Failed)) = WriteFault
status_of (end.Examined (Err writing.Memory)) = NoMemory

abbrev pub code_of : Status → ℕ
code_of Done = 0
code_of Alarmed = 1
code_of Usage = 2
code_of (BadScript line) = 3
code_of ReadFault = 4
code_of WriteFault = 5
code_of (DiskFault peer) = 6
code_of NoMemory = 7
code_of TooLong = 8
code_of Doubted = 9
