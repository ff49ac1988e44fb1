-- The answer of a run that came so far, and the exit code of each answer.
use Rattle.std.specs.Prelude.{ℕ}
use Rattle.lks_node.specs.declared.ends.NodeEnd.{NodeEnd}
use Rattle.lks_node.specs.declared.ends.NodeEnd.TheVariants as end
use Rattle.lks_node.specs.declared.ends.Fall.TheVariants as fall
use Rattle.lks_node.specs.declared.ends.Rest.{Rest}
use Rattle.lks_node.specs.declared.ends.Rest.TheVariants as rest
use Rattle.lks_node.specs.declared.ends.NodeStop.TheVariants.{Rested, Fell, Untold}
use Rattle.lks_node.specs.declared.ends.Unready.TheVariants as unready
use Rattle.lks_node.specs.declared.ends.NoScript.TheVariants.{Unread, Unframed, Unsaid}
use Rattle.lks_node.specs.declared.frames.Unread.TheVariants as reading
use Rattle.lks_node.specs.declared.statuses.NodeStatus.{NodeStatus}
use Rattle.lks_node.specs.declared.statuses.NodeStatus.TheVariants.{Done, Usage, BadScript, ReadFault, WriteFault}
use Rattle.lks_node.specs.declared.statuses.NodeStatus.TheVariants.{DiskFault, NoMemory, Foreign, BadFrame, OpenFault}
use Rattle.lks_node.specs.declared.statuses.NodeStatus.TheVariants.{Full, TooMany, Stranger, Damaged}
use Rattle.lks_outside.specs.declared.sinks.WriteStop.TheVariants as writing
use Rattle.lks_script.specs.declared.faults.ScriptFault.TheVariants as script
use Rattle.lks_store.specs.declared.openers.OpenStop.TheVariants as opening

abbrev pub rest_status : Rest → NodeStatus
rest_status rest.Done = Done
rest_status rest.TooMany = TooMany
rest_status (rest.Unread reading.Failed) = ReadFault
rest_status (rest.Unread reading.Memory) = NoMemory
rest_status (rest.Bad index) = BadFrame index
rest_status rest.Memory = NoMemory
rest_status rest.Full = Full

abbrev pub status_of : NodeEnd → NodeStatus
status_of end.Unnamed = Usage
status_of (end.Unopened opening.Failed) = OpenFault
status_of (end.Unopened opening.Memory) = NoMemory
status_of (end.Unscripted (Unread reading.Failed)) = ReadFault
status_of (end.Unscripted (Unread reading.Memory)) = NoMemory
status_of (end.Unscripted Unframed) = BadFrame 0
status_of (end.Unscripted (Unsaid (script.BadLine line))) = BadScript line
status_of (end.Unscripted (Unsaid script.Memory)) = NoMemory
status_of end.Strange = Stranger
status_of (end.Unready unready.Failed) = DiskFault
status_of (end.Unready unready.Memory) = NoMemory
status_of (end.Unready (unready.Damaged offset)) = Damaged offset
status_of (end.Unready unready.Full) = Full
status_of (end.Unready (unready.Foreign batch)) = Foreign batch
status_of (end.Answered (Rested rest)) = rest_status rest
status_of (end.Answered (Fell fall.Failed)) = DiskFault
status_of (end.Answered (Fell fall.Memory)) = NoMemory
status_of (end.Answered (Untold writing.Failed)) = WriteFault
status_of (end.Answered (Untold writing.Memory)) = NoMemory

abbrev pub code_of : NodeStatus → ℕ
code_of Done = 0
code_of Usage = 2
code_of (BadScript line) = 3
code_of ReadFault = 4
code_of WriteFault = 5
code_of DiskFault = 6
code_of NoMemory = 7
code_of (Foreign batch) = 10
code_of (BadFrame index) = 11
code_of OpenFault = 12
code_of Full = 13
code_of TooMany = 14
code_of Stranger = 15
code_of (Damaged offset) = 16
