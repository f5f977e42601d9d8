-- The records of a flat tray's table, one for each column.
use Rattle.std.specs.Prelude.{◌+◌, ◌%◌, ◌^◌, Bool, false}
use Rattle.tray.specs.declared.flat.columns.Column.{Column}

-- A column's record after one more read, counted modulo 2^32.
abbrev pub counted : Column → Column
counted x = record { answering = x.answering; reads = (x.reads + 1) % 2 ^ 32 }

-- A column's record with its flag set.
abbrev pub turned : Column → Bool → Column
turned x on = record { answering = on; reads = x.reads }

-- What stands for a record past the table's end.
abbrev pub absent : Column
absent = record { answering = false; reads = 0 }
