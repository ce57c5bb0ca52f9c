-- Inside: the code puts the settings of one feedback divider after another.
use Rattle.std.specs.Prelude.{◌≡◌, List, map, Bool, ℕ, ◌+◌, ◌*◌, eqb, length}
use mathlib.Core.List.{flat_map}
use Rattle.std.specs.Borrow.{MutBor}
use lib.Seq.{sets}
use Rattle.pll.specs.{Setting.posts_of, Search.falling, Search.setting, declared.PllConfig.PllConfig}
use Rattle.base.specs.Writing.{Written}
use Rattle.lister.specs.{declared.Listing.Listing, Lister.list_bytes}

abbrev pub at_post1 : ℕ → ℕ → List PllConfig
at_post1 fb p1 = map (setting fb p1) (falling p1)

abbrev pub at_feedback : ℕ → List PllConfig
at_feedback fb = flat_map (at_post1 fb) (falling 7)

abbrev pub has_product : ℕ → PllConfig → Bool
has_product product c = eqb (posts_of c) product

-- what a listing holds: which buffer it is, its bytes, and the index past the settings
abbrev pub written : Listing → Written ℕ
written l = record { name = l.buf.ghost_name; values = l.buf.now; at = l.at }

-- settings are put from the index on, as far as the buffer reaches, and all are counted
unfoldable pub puts : Written ℕ → List PllConfig → Written ℕ
puts w cs = record { name = w.name; values = sets w.values w.at (list_bytes cs); at = w.at + 2 * length cs }

-- the call that finds the listing before, puts the settings and leaves the listing after
abbrev pub Puts : Listing → List PllConfig → Listing → Type 0
Puts before cs after = written after ≡ puts (written before) cs

-- a listing at the start of the buffer
abbrev pub IsNew : MutBor (List ℕ) → Listing → Type 0
IsNew buf l = written l ≡ record { name = buf.ghost_name; values = buf.now; at = 0 }
