-- Inside: definitions that only the contracts of the crate's private functions use.
use Rattle.std.specs.Prelude.{◌≡◌, ◌+◌, ◌≤◌}
use Rattle.step.specs.{declared.kind.Kind.Kind, declared.packing.Widths.Widths, Layout.width}

-- The widths of the five fields of kind k; they leave 6 bits for the kind.
pub record Laid (k : Kind) (r : Widths) : Type 0 where
  pub at0 : r.0 ≡ width k 0
  pub at1 : r.1 ≡ width k 1
  pub at2 : r.2 ≡ width k 2
  pub at3 : r.3 ≡ width k 3
  pub at4 : r.4 ≡ width k 4
  pub room : r.0 + r.1 + r.2 + r.3 + r.4 ≤ 58
