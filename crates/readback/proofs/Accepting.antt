-- A plan is accepted where its refusal is none: the test for none, and what it says.
use Rattle.std.specs.Prelude.{Option, Some, None, true, false, ◌≡◌, refl}
use Rattle.std.specs.Option.{is_none}

pub some-held : {A : Type 0} (o : Option A) → (o ≡ None → ⊥) → is_none o ≡ false
some-held (Some x) h = refl
some-held None h = absurd (h refl)

pub none-held : {A : Type 0} (o : Option A) → is_none o ≡ true → o ≡ None
none-held (Some x) e = absurd cc
none-held None e = refl
