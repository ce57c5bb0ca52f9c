-- A loop that puts the numbers of each item of a list.
use Rattle.std.specs.Prelude.{◌≡◌, List, ℕ, ◌+◌, ◌<◌, flat_map, length, get_or, take}
use mathlib.Core.{Path.sym, List.append-nil}
use Rattle.std.proofs.{lemmas.List.take_more, lemmas.Grind.flat_map-append}
use Rattle.base.specs.Writing.{Written, puts}
use Rattle.base.proofs.Writing.{put_none, put_then}

module _ {A B : Type 0} (f : A → List B) (xs : List A) (w : Written B) where
  pub none_put : w ≡ puts w (flat_map f (take 0 xs))
  none_put = sym (put_none w)

  pub one_put : (i : ℕ) (d : A) (u v : Written B) → i < length xs → u ≡ puts w (flat_map f (take i xs))
      → v ≡ puts u (f (get_or xs i d)) → v ≡ puts w (flat_map f (take (i + 1) xs))
  one_put i d u v h before now =
      rw (take_more xs i d h, flat_map-append f, append-nil) (put_then w u v _ _ before now)
