-- Each theorem is proved in a file of its own subject.
use Rattle.code.proofs.laws.laws_hold.Goals as goal
use Rattle.code.proofs.Main.{any_two, any_two_blocks, half, solve_two, solve_one}
use Rattle.code.proofs.DarkHalf.{dark_half}
use Rattle.code.proofs.Put.{put_rule}
use Rattle.code.proofs.Published.{odd_widths}
use Rattle.code.proofs.Examples.{examples}

pub returns : goal.returns
returns c =
    record {
      any_two = any_two;
      any_two_blocks = any_two_blocks;
      half = half;
      dark_half = dark_half;
      put_rule = put_rule;
      solve_two = solve_two;
      solve_one = solve_one;
      odd_widths = odd_widths;
      examples = examples;
    }
