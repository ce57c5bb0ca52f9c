-- Every frequency that the sheet of an accepted plan stores fits in 32 bits, and the RTC's in 16.
use Rattle.std.specs.Prelude.{Option, Some, None, ◌≡◌, false, List, [], ◌∷◌, ℕ, ◌≤◌}
use native.Mathlib.Omega.{arith}
use Rattle.chip.specs.{declared.Chip.Chip, declared.Chip.TheVariants.Rp2040, declared.Chip.TheVariants.Rp235x, Chips.facts_of}
use Rattle.config.specs.declared.RtcClkConfig.{RtcClkConfig}
use Rattle.settings.specs.Frequencies.{rtc_hz, sources_in, ref_in, sys_in, frequencies_of, tenth_of, stored_of, ten_of}
use Rattle.settings.specs.{declared.Sources.Sources, declared.Settings.Settings, declared.Frequencies.Frequencies, Typed.Typed}
use Rattle.settings.proofs.Small.{Hz, AllHz, sources-hz, ref-small, sys-small, peri-small, aux-small}
use Rattle.refusals.specs.{Rules.rtc_bad, Refusals.refusal_of}
use Rattle.refusals.proofs.Accepted.{accepted-by, whole-good, rtc-good}

-- The frequency of an accepted RTC fits in 16 bits.
rtc-small : (source : ℕ) (f : Sources) (o : Option RtcClkConfig) → rtc_bad source (rtc_hz f o) o ≡ false → rtc_hz f o ≤ 65535
rtc-small source f (Some r) e = (rtc-good source (rtc_hz f (Some r)) r e).3
rtc-small source f None e = omega arith

pub record Stored (f : Frequencies) : Type 0 where
  pub sources : AllHz f.sources
  pub reference : Hz f.reference
  pub sys : Hz f.sys
  pub peri : Hz f.peri
  pub usb : Hz f.usb
  pub adc : Hz f.adc
  pub rtc : f.rtc ≤ 65535

pub stored : (s : Settings) (reading : ℕ) → Typed s → refusal_of s reading ≡ None → Stored (frequencies_of s)
stored s reading t e =
    let a = accepted-by s reading e in
    let h = sources-hz s t in
    let r : Hz (ref_in s) = ref-small (sources_in s) h s.reference in
    let whole = whole-good (facts_of s.chip.model).top_whole s.chip.whole (a 9) in
    let y : Hz (sys_in s) = sys-small (sources_in s) h s.chip (ref_in s) s.sys r whole.0 in
    record {
      sources = h;
      reference = r;
      sys = y;
      peri = peri-small (sources_in s) h (sys_in s) s.peri y;
      usb = aux-small (sources_in s) h s.usb;
      adc = aux-small (sources_in s) h s.adc;
      rtc = rtc-small (frequencies_of s).rtc_source (sources_in s) s.chip.rtc (a 14);
    }

abbrev pub EachHz : List ℕ → Type 0
EachHz [] = Unit {0}
EachHz (n ∷ ns) = Hz n × EachHz ns

tenth-small : (chip : Chip) (hz : ℕ) → Hz hz → EachHz (tenth_of chip hz)
tenth-small Rp2040 hz h = (h, tt)
tenth-small Rp235x hz h = tt

pub stored-small : (s : Settings) (reading : ℕ) → Typed s → refusal_of s reading ≡ None → EachHz (stored_of s)
unfolding stored_of
stored-small s reading t e =
    let h = stored s reading t e in
    let f = h.sources in
    let tenth = tenth-small s.chip.model (frequencies_of s).rtc (omega (arith, h.rtc)) in
    (f.rosc, (f.xosc, (f.pll-sys, (f.pll-usb, (h.reference, (h.sys, (h.peri, (h.usb, (h.adc, tenth)))))))))

pub ten-small : (s : Settings) (reading : ℕ) → Typed s → refusal_of s reading ≡ None → EachHz (ten_of s)
unfolding ten_of
ten-small s reading t e = let h = stored s reading t e in let f = h.sources in omega arith
