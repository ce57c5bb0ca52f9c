-- `PllConfig::valid_vco` meets its contract: the three tests are those of `valid_of`.
use mathlib.Core.Path.{◌≡◌}
use native.Mathlib.Omega.{arith}
use Rattle.std.specs.Prelude.{true, ◌*◌}
use Rattle.base.specs.Choice.{in_range}
use Rattle.pll.specs.Ranges.{reference_min, reference_max, vco_min, vco_max}
use Rattle.pll.specs.Setting.{reference_of, valid_of}
use Rattle.pll.proofs.PllConfig.valid_vco.Goals as goal

pub returns-then-valid : goal.returns-then-valid
returns-then-valid c =
    let input = c.args.input_hz in
    let divided : c.from.result ≡ reference_of c.args.self input = grind arith in
    let reference : c.contains.result ≡ in_range reference_min reference_max c.from.result = grind arith in
    let vco : c.contains-2.result ≡ in_range vco_min vco_max (c.from.result * c.from-2.result) = grind arith in
    let valid : valid_of c.args.self input ≡ true
    = rw (← c.dividers_valid.ensures, ← divided, ← c.from-2.ensures, ← reference, ← vco) c.if-valid.true in
    rw (valid, divided, c.from-2.ensures)
