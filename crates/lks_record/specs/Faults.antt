-- How a field's fault is told of a batch.
use Rattle.std.specs.Prelude.{Bool, true, false, Result}
use Rattle.lks_field.specs.declared.fault.FieldFault.{FieldFault}
use Rattle.lks_field.specs.declared.fault.FieldFault.TheVariants as fields
use Rattle.lks_field.specs.Reading.{told}
use Rattle.lks_record.specs.declared.fault.RecFault.{RecFault}
use Rattle.lks_record.specs.declared.fault.RecFault.TheVariants.{Short, Limit, Trailing, Memory}

-- the fault of a batch that a fault of a field is
abbrev pub told_as : FieldFault → RecFault
told_as fields.Short = Short
told_as fields.Value = Limit
told_as fields.Long = Trailing
told_as fields.Memory = Memory

-- what is read of a field, with its fault told so
abbrev pub field : {X : Type 0} → Result X FieldFault → Result X RecFault
field read = told told_as read

-- whether it is want of memory
abbrev pub is_memory : RecFault → Bool
is_memory Memory = true
is_memory fault = false
