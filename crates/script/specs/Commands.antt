-- Commands, by their operands.
use Rattle.std.specs.Prelude.{ℕ, ◌+◌, ◌*◌, List}
use Rattle.script.specs.declared.command.Number.{Number}
use Rattle.script.specs.declared.command.Place.{Place}
use Rattle.script.specs.declared.command.Plan.{Plan}
use Rattle.script.specs.declared.command.Command.{Command}
use Rattle.script.specs.declared.command.Command.TheVariants as command
use Rattle.script.specs.declared.source.Source.{Source}
use Rattle.script.specs.declared.source.Source.TheVariants as source

-- where a block to put comes from: its bytes, or the number of an entry of the sheet
pub data Origin : Type 0 where
  given : List ℕ → Origin
  entry : ℕ → Origin

pub data Operation : Type 0 where
  layout : (width size : ℕ) → Operation
  pull : (column : ℕ) → Operation
  rebuild : (column : ℕ) → Operation
  sweep : Operation
  get : (column row : ℕ) → Operation
  put : (column row : ℕ) → Origin → Operation
  drill : (drilled column row : ℕ) → Operation
  switch : (column flag : ℕ) → Operation
  fill : (column byte : ℕ) → Operation

-- a number in two bytes, the high one first
abbrev pub word : ℕ → ℕ → ℕ
word high low = high * 256 + low

abbrev pub number_of : Number → ℕ
number_of n = word n.high.now n.low.now

-- a place is a column and a row
abbrev pub place_of : Place → ℕ × ℕ
place_of p = (p.column.now, number_of p.row)

-- a plan is a width and a size
abbrev pub plan_of : Plan → ℕ × ℕ
plan_of p = (p.width.now, number_of p.size)

abbrev pub source_of : Source → Origin
source_of (source.Script block) = given block.now
source_of (source.Sheet number) = entry number.now

abbrev pub operation_of : Command → Operation
operation_of (command.Layout p) = layout p.width.now (number_of p.size)
operation_of (command.Pull c) = pull c.now
operation_of (command.Rebuild c) = rebuild c.now
operation_of command.Sweep = sweep
operation_of (command.Get p) = get p.column.now (number_of p.row)
operation_of (command.Put p s) = put p.column.now (number_of p.row) (source_of s)
operation_of (command.Drill d p) = drill d.now p.column.now (number_of p.row)
operation_of (command.Switch c b) = switch c.now b.now
operation_of (command.Fill c b) = fill c.now b.now
