-- The lines of the clocks of a list, and how a loop over the list comes from one clock to the next.
use Rattle.std.specs.Prelude.{◌≡◌, List, [], ◌∷◌, ◌++◌, length, get_or, drop}
use mathlib.Core.Path.{ap}
use Rattle.std.proofs.{Common.ℕ, Common.◌+◌, Common.◌<◌, Common.◌≤◌, lemmas.List.at_drop_more}
use lib.ListN.{drop_of_length-le}
use Rattle.base.proofs.Writing.{put_more, put_none}
use Rattle.step.specs.{declared.clock.Clock.Clock, Clocks.clock_number, Clocks.clock_name}
use Rattle.runner.specs.{declared.Runner.Runner, Run.freq_of}
use Rattle.report.specs.Lines.{line_of}

abbrev pub clock_line : Runner → Clock → List ℕ
clock_line r c = line_of (clock_name c) (freq_of r (clock_number c))

abbrev pub clock_lines : Runner → List Clock → List ℕ
clock_lines r [] = []
clock_lines r (c ∷ cs) = clock_line r c ++ clock_lines r cs

pub lines_more : (r : Runner) (cs : List Clock) (i : ℕ) (d : Clock) → i < length cs
    → clock_lines r (drop i cs) ≡ clock_line r (get_or cs i d) ++ clock_lines r (drop (i + 1) cs)
lines_more r cs i d h = at_drop_more (clock_lines r) cs i d h

pub lines_end : (r : Runner) (cs : List Clock) (i : ℕ) → length cs ≤ i → clock_lines r (drop i cs) ≡ []
lines_end r cs i h = ap (clock_lines r) (drop_of_length-le cs {i = i} h)

pub ruleset steps = (put_more, put_none, lines_more, lines_end)
