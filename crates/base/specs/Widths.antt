-- The greatest numbers of 8, 16, 24 and 32 bits.
use Rattle.std.specs.Prelude.{ℕ}

abbrev pub u8 : ℕ
u8 = 255

abbrev pub u16 : ℕ
u16 = 65535

abbrev pub u24 : ℕ
u24 = 16777215

abbrev pub u32 : ℕ
u32 = 4294967295
