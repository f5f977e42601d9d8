use Rattle.std.proofs.Common.{rules}
use Rattle.lab.proofs.Courses.{law_of_scripts}
use Rattle.lab.proofs.shelf_lab.Lab.new.Goals as goal

pub returns : goal.returns
returns c = record { value = search rules; law = law_of_scripts }
