-- Truncation does not change the settings of an accepted plan.
use Rattle.std.specs.Prelude.{Option, Some, None, ◌≡◌, refl, false, ℕ, ◌+◌, ◌%◌, ◌^◌, ◌≤◌, ◌<◌}
use native.Mathlib.{Nat.mod-eq_of_lt, Omega.arith}
use borrow.Author.Tests.{ltb-false, not-false}
use Rattle.pll.specs.{Setting.valid_of, declared.PllConfig.PllConfig}
use Rattle.pll.proofs.Valid.{valid}
use Rattle.config.specs.declared.{RoscConfig.RoscConfig, ChipSettings.ChipSettings, ClockConfig.ClockConfig}
use Rattle.config.specs.{declared.AuxClkConfig.AuxClkConfig, declared.RtcClkConfig.RtcClkConfig, ChipSettings.FractionFits}
use Rattle.chip.specs.{declared.Chip.Chip, declared.Chip.TheVariants.Rp2040, declared.Chip.TheVariants.Rp235x, Chips.facts_of}
use Rattle.settings.specs.{declared.Crystal.Crystal, Settings.ring_hz, Settings.settings_of, Frequencies.sources_of}
use Rattle.settings.specs.{Frequencies.frequencies_of, Typed.RtcTyped, Typed.Typed}
use Rattle.refusals.specs.Rules.{strengths_over, ring_divider_over, pll_invalid, sys_pll_invalid}
use Rattle.refusals.specs.{Rules.usb_pll_invalid, Rules.whole_bad, Rules.rtc_bad, Refusals.Accepted}
use Rattle.refusals.proofs.Accepted.{accepted-by, strengths-few, divider-good, whole-good, rtc-good}
use Rattle.sheet.proofs.{Facts.AuxFits, Facts.aux-fits, Parts.ring-source}
use Rattle.readback.specs.Cut.{cut_ring, cut_pll, cut_crystal, cut_aux, cut_rtc, cut_chip, cut_settings}

fits : (w x : ℕ) → x < 2 ^ w → x % 2 ^ w ≡ x
fits w x h = mod-eq_of_lt h

ring-fixed : (pass : ℕ) (o : Option RoscConfig) → ring_hz o < 2 ^ 32 → strengths_over o ≡ false → ring_divider_over pass o ≡ false
    → cut_ring o ≡ o
unfolding strengths_over ring_divider_over
ring-fixed pass (Some r) t s d =
    let g = r.drive_strength in
    let few = strengths-few g s in
    let d' = ltb-false 65535 (r.div + pass) d in
    rw (
      fits 32 r.hz t,
      fits 8 g.s0 (omega arith),
      fits 8 g.s1 (omega arith),
      fits 8 g.s2 (omega arith),
      fits 8 g.s3 (omega arith),
      fits 8 g.s4 (omega arith),
      fits 8 g.s5 (omega arith),
      fits 8 g.s6 (omega arith),
      fits 8 g.s7 (omega arith),
      fits 16 r.div (omega arith),
    )
ring-fixed pass None t s d = refl

pll-fixed : (hz : ℕ) (o : Option PllConfig) → pll_invalid hz o ≡ false → cut_pll o ≡ o
pll-fixed hz (Some p) e =
    let v = valid p hz (not-false (valid_of p hz) e) in
    rw (
      fits 8 p.refdiv (omega arith),
      fits 16 p.fbdiv (omega arith),
      fits 8 p.post_div1 (omega arith),
      fits 8 p.post_div2 (omega arith),
    )
pll-fixed hz None e = refl

crystal-fixed : (r : Option RoscConfig) (o : Option Crystal) → (sources_of r o).xosc < 2 ^ 32
    → sys_pll_invalid o ≡ false → usb_pll_invalid o ≡ false → cut_crystal o ≡ o
unfolding sources_of sys_pll_invalid usb_pll_invalid
crystal-fixed r (Some x) t s u = rw (fits 32 x.hz t, pll-fixed x.hz x.sys s, pll-fixed x.hz x.usb u)
crystal-fixed r None t s u = refl

aux-fixed : (o : Option AuxClkConfig) → AuxFits o → cut_aux o ≡ o
aux-fixed (Some a) h = rw (fits 8 a.div (omega arith), fits 8 a.phase (omega arith))
aux-fixed None h = refl

rtc-fixed : (source hz : ℕ) (o : Option RtcClkConfig) → RtcTyped o → rtc_bad source hz o ≡ false → cut_rtc o ≡ o
rtc-fixed source hz (Some r) t e =
    let good = rtc-good source hz r e in
    rw (fits 32 r.div_int (omega arith), fits 8 r.div_frac t, fits 8 r.phase (omega arith))
rtc-fixed source hz None t e = refl

divider-wide : (chip : Chip) → ((facts_of chip).top_whole < 2 ^ 32) × ((facts_of chip).scale ≤ 2 ^ 16)
divider-wide Rp2040 = (omega arith, omega arith)
divider-wide Rp235x = (omega arith, omega arith)

-- The chip-specific part fits its types by the tests of acceptance and the bounds of the types.
chip-fixed : (b : ChipSettings) (source hz : ℕ) → FractionFits b → RtcTyped b.rtc → whole_bad (facts_of b.model).top_whole b.whole ≡ false
    → rtc_bad source hz b.rtc ≡ false → cut_chip b ≡ b
chip-fixed b source hz t u w e =
    let g = whole-good (facts_of b.model).top_whole b.whole w in
    let wide = divider-wide b.model in
    rw (fits 32 b.whole (omega arith), fits 16 b.fraction (omega arith), rtc-fixed source hz b.rtc u e)

pub settings-fixed : (p : ClockConfig) (reading : ℕ) → Accepted p reading → Typed (settings_of p reading)
    → cut_settings (settings_of p reading) ≡ settings_of p reading
unfolding cut_settings
settings-fixed p reading ok t =
    let s = settings_of p reading in
    let f = frequencies_of s in
    let a = accepted-by s reading ok in
    let d = divider-good s.reference.div (a 7) in
    rw (
      chip-fixed s.chip f.rtc_source f.rtc t.fraction t.rtc (a 9) (a 14),
      ring-fixed (facts_of s.chip.model).pass s.rosc (rw (← ring-source s.rosc s.xosc) t.rosc) (a 1) (a 2),
      crystal-fixed s.rosc s.xosc t.xosc (a 5) (a 6),
      fits 8 s.reference.div (omega arith),
      aux-fixed s.usb (aux-fits _ _ (a 12)),
      aux-fixed s.adc (aux-fits _ _ (a 13)),
    )
