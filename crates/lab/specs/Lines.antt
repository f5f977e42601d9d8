-- The lines that commands print.
use Rattle.std.specs.Prelude.{ℕ, ◌+◌, ◌/◌, ◌%◌, cond, List, [], ◌∷◌, ◌++◌, length, drop, Some, None, Ok, Err, codes, Option, Result, nat_lt}
pub use Rattle.std.specs.Fmt.{decimal}
use Rattle.tray.specs.declared.fault.Layer.{Layer}
use Rattle.tray.specs.declared.fault.Layer.TheVariants as layer
use Rattle.tray.specs.declared.fault.Fault.{Fault}
use Rattle.tray.specs.Refusals.{number_of}
use Rattle.script.specs.Letters.{is_letter}
use Rattle.lab.specs.declared.answer.Answer.{Answer}
use Rattle.lab.specs.declared.answer.Answer.TheVariants.{Done, Block, Count, Found}

-- ---- bytes, numbers and names as text

-- a digit of a byte in hexadecimal, in lowercase
abbrev pub hex_digit : ℕ → ℕ
hex_digit n = cond (nat_lt n 10) (48 + n) (87 + n)

-- two digits for each byte
abbrev pub hex : List ℕ → List ℕ
hex [] = []
hex (b ∷ bytes) = hex_digit (b / 16) ∷ (hex_digit (b % 16) ∷ hex bytes)

-- `-` for an absent number
abbrev pub number_or : Option ℕ → List ℕ
number_or None = codes "-"
number_or (Some n) = decimal n

abbrev pub layer_text : Layer → List ℕ
layer_text layer.Script = codes "script"
layer_text layer.Shelf = codes "shelf"
layer_text layer.Tray = codes "tray"

-- a column and a row
abbrev pub place_text : Option ℕ → Option ℕ → List ℕ
place_text column row = number_or column ++ (codes " " ++ number_or row)

-- ---- what is told

-- `no`, and the fault's number, layer, column and row
abbrev pub fault_text : Fault → List ℕ
fault_text f = codes "no " ++ (decimal (number_of f.refusal) ++ (codes " " ++ (layer_text f.layer ++ (codes " " ++ (number_or f.column ++ (codes " " ++ number_or f.row))))))

-- the block that a get shows; of any other command none
abbrev pub shown_block : Answer → List ℕ
shown_block Done = []
shown_block (Block block) = block.now
shown_block (Count n) = []
shown_block (Found place) = []

-- what an accepted command tells
abbrev pub answer_text : Answer → List ℕ
answer_text Done = codes "ok"
answer_text (Block block) = hex block.now
answer_text (Count n) = decimal n
answer_text (Found None) = codes "clean"
answer_text (Found (Some place)) = decimal place.0 ++ (codes " " ++ decimal place.1)

abbrev pub told_text : Result Answer Fault → List ℕ
told_text (Ok answer) = answer_text answer
told_text (Err f) = fault_text f

-- a line: the letter, or `?` for an unknown one, a space, what is told, and the line's end
abbrev pub line_text : ℕ → Result Answer Fault → List ℕ
line_text letter told = cond (is_letter letter) letter 63 ∷ (codes " " ++ (told_text told ++ (10 ∷ [])))

-- ---- lines in a buffer

-- a text at the front of a buffer
abbrev pub onto : List ℕ → List ℕ → List ℕ
onto text was = text ++ drop (length text) was
