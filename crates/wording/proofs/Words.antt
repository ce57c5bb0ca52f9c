-- A number's bytes.
use Rattle.std.specs.Prelude.{◌≡◌, refl, ℕ}
use Rattle.std.specs.Int.{to_be_bytes, w32}
use Rattle.text.specs.Hex.{hex_of}
use Rattle.wording.specs.Does.{word_text}

pub word_bytes : (n : ℕ) → hex_of (to_be_bytes w32 n) ≡ word_text n
unfolding word_text
word_bytes n = refl
