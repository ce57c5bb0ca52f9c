-- The first setting that fits is right by `UsbRight` (specs/UsbLaw).
use Rattle.std.specs.Prelude.{◌≡◌, refl, List, [], ◌∷◌, ◌++◌, map, Bool, true, false, ◌&&◌, ℕ, zero, suc, ◌+◌, ◌*◌, ◌%◌, eqb}
use mathlib.Core.{Path.sym, Path.ap, Path.subst, Logic.⊎_elim, List.flat_map}
use native.Mathlib.{Omega.arith, Nat.mul-div_cancel, Numerals.add-one}
use borrow.Author.Tests.{eqb-true, eq-eqb}
use Rattle.base.specs.Answer.{value, refusal}
use Rattle.std.proofs.lemmas.Bool.{and_parts}
use Rattle.pll.specs.{Ranges.feedback_max, Setting.vco_of, Setting.posts_of, Setting.output_hz, Setting.valid_of, Search.rising}
use Rattle.pll.specs.{Search.settings, Search.keep, Search.first_or, Walk.key, Usb.with_reference, Usb.usb_settings, Usb.usb_fits}
use Rattle.pll.specs.{Usb.usb_of, UsbLaw.UsbSetting, UsbLaw.UsbRight, UsbWalk.NoneBelow, UsbWalk.UsbRightAt}
use Rattle.pll.specs.declared.PllConfig.{PllConfig}
use Rattle.pll.proofs.Order.{Lists, UpTo, lists-keep, keep_append, keep-map}
use Rattle.pll.proofs.UsbSteps.{usb-first, usb-next, usb-none}
use Rattle.pll.proofs.{Candidates.Posts, Candidates.lists-settings, Scores.before-key, Sizes.posts-some, Valid.valid}

both : (a b : Bool) → a ≡ true → b ≡ true → (a && b) ≡ true
both true b p q = q
both false b p q = p

module _ (crystal : ℕ) where
  fits-setting : (c : PllConfig) → usb_fits crystal c ≡ true → UsbSetting crystal c
  fits-setting c e =
      let t = and_parts (valid_of c crystal && eqb (crystal % c.refdiv) 0)
      (eqb (48000000 * posts_of c) (vco_of c crystal)) e in
      let s = and_parts (valid_of c crystal) (eqb (crystal % c.refdiv) 0) t.0 in
      record {
        valid = s.0;
        divides = eqb-true (crystal % c.refdiv) 0 s.1;
        exact = eqb-true (48000000 * posts_of c) (vco_of c crystal) t.1;
      }

  setting-fits : (c : PllConfig) → UsbSetting crystal c → usb_fits crystal c ≡ true
  setting-fits c u =
      both (valid_of c crystal && eqb (crystal % c.refdiv) 0) (eqb (48000000 * posts_of c) (vco_of c crystal))
      (both (valid_of c crystal) (eqb (crystal % c.refdiv) 0) u.valid (eq-eqb (crystal % c.refdiv) 0 u.divides))
      (eq-eqb (48000000 * posts_of c) (vco_of c crystal) u.exact)

  -- the first that fits of those with one reference divider
  module _ (r : ℕ) where
    abbrev fits : PllConfig → Bool
    fits c = usb_fits crystal (with_reference r c)

    abbrev Fitting : PllConfig → Type 0
    Fitting c = UpTo Posts (λ c. c.fbdiv) feedback_max c × (fits c ≡ true)

    fitting : (d : PllConfig) → UsbSetting crystal d → d.refdiv ≡ r → Fitting (with_reference 1 d)
    fitting d u e =
        let v = valid d crystal u.valid in (
          ((refl, v.post2.0, v.posts, v.post1.1), omega (arith, v.fbdiv.0), v.fbdiv.1),
          rw (sym e) (setting-fits d u),
        )

    first-fitting : UsbRightAt crystal r (first_or (refusal 25) (keep (usb_fits crystal) (map (with_reference r) settings)))
    unfolding Lists
    first-fitting =
        rw (keep-map (usb_fits crystal) (with_reference r) settings)
        (go (keep fits settings) (lists-keep key fits settings (UpTo Posts (λ c. c.fbdiv) feedback_max) lists-settings))
      where
        go : (cs : List PllConfig) → Lists key Fitting cs
            → UsbRightAt crystal r (first_or (refusal 25) (map (with_reference r) cs))
        go [] l = λ d u e. l (with_reference 1 d) (fitting d u e)
        go (c ∷ cs) l = (
          fits-setting (with_reference r c) l.0.1,
          refl,
          λ d u e b.
              let k = before-key c d l.0.0.0.3 l.0.0.0.2 b in
              ⊎_elim (λ s. omega (arith, ap key s)) (λ s. omega arith) (l.1 (with_reference 1 d) (fitting d u e)),
        )

  -- the first that fits of those with the next n reference dividers
  first-rising : (n r : ℕ) → n + r ≡ 64 → NoneBelow crystal r
      → UsbRight crystal
      (first_or (refusal 25) (keep (usb_fits crystal) (flat_map (λ r. map (with_reference r) settings) (rising n r))))
  unfolding keep rising flat_map
  first-rising zero r e below = usb-none crystal (rw (let f : r ≡ 64 = omega arith in f) at below)
  first-rising (suc n) r e below =
      rw (keep_append (usb_fits crystal) (map (with_reference r) settings)
      (flat_map (λ r. map (with_reference r) settings) (rising n (suc r))))
      (go (keep (usb_fits crystal) (map (with_reference r) settings)) (first-fitting r)
      (first-rising n (suc r) (omega arith)))
    where
      later : List PllConfig
      later = keep (usb_fits crystal) (flat_map (λ r. map (with_reference r) settings) (rising n (suc r)))

      go : (cs : List PllConfig) → UsbRightAt crystal r (first_or (refusal 25) cs)
          → (NoneBelow crystal (suc r) → UsbRight crystal (first_or (refusal 25) later))
          → UsbRight crystal (first_or (refusal 25) (cs ++ later))
      go [] h next = next (rw add-one at (usb-next crystal r 25 below h))
      go (c ∷ cs) h next = usb-first crystal r c below h

  pub usb-right : UsbRight crystal (usb_of crystal)
  unfolding usb_of usb_settings
  usb-right = first-rising 63 1 refl (λ d u l. omega (arith, (valid d crystal u.valid).refdiv.0))

  -- the setting that is answered is valid and gives 48 MHz
  pub usb-found : (c : PllConfig) → usb_of crystal ≡ value c → UsbSetting crystal c
  usb-found c e = (subst (UsbRight crystal) e usb-right).setting

  pub usb-output : (c : PllConfig) → usb_of crystal ≡ value c → output_hz c crystal ≡ 48000000
  usb-output c e =
      let u = usb-found c e in
      let v = valid c crystal u.valid in
      rw (sym u.exact)
      (mul-div_cancel 48000000 (posts-some c.post_div1 c.post_div2 v.post2.0 v.posts))
