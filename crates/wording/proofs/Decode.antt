-- The settings of a plan can be decoded from the numbers of their parts, so plans with equal parts have equal settings.
use Rattle.std.specs.Prelude.{Option, Some, None, ◌≡◌, List, [], ◌∷◌, ℕ, eqb, get_or, refl}
use Rattle.base.specs.Choice.{pick}
use Rattle.chip.specs.declared.Chip.{Chip, TheVariants.Rp2040, TheVariants.Rp235x}
use Rattle.config.specs.Codes.{range_from, ref_from, sys_source_from, peri_from, aux_from, chip_from}
use Rattle.config.specs.declared.{ClockConfig.ClockConfig, RefClkConfig.RefClkConfig, RoscConfig.RoscConfig}
use Rattle.config.specs.declared.{PeriClkSrc.PeriClkSrc, AuxClkConfig.AuxClkConfig, RtcClkConfig.RtcClkConfig}
use Rattle.config.specs.ChipSettings.{chip_of}
use Rattle.pll.specs.declared.PllConfig.{PllConfig}
use Rattle.settings.specs.{declared.Crystal.Crystal, declared.Settings.Settings, Settings.settings_of}
use Rattle.settings.proofs.Decoded.{range-code, ref-code, sys-code, peri-code, aux-code, chip-back}
use Rattle.wording.specs.Parts.{chip_code, ring_numbers, crystal_numbers, sys_pll_of, usb_pll_of, pll_numbers, cycles_numbers}
use Rattle.wording.specs.Parts.{peri_numbers, aux_numbers, rtc_numbers, parts_of}

abbrev pub chip_at : ℕ → Chip
chip_at n = pick (eqb n 0) Rp2040 Rp235x

abbrev ring_at : List ℕ → Option RoscConfig
ring_at [] = None
ring_at (hz ∷ ns) =
    Some
    (record {
      hz = hz;
      range = range_from (get_or ns 0 0);
      drive_strength = record {
        s0 = get_or ns 1 0;
        s1 = get_or ns 2 0;
        s2 = get_or ns 3 0;
        s3 = get_or ns 4 0;
        s4 = get_or ns 5 0;
        s5 = get_or ns 6 0;
        s6 = get_or ns 7 0;
        s7 = get_or ns 8 0;
      };
      div = get_or ns 9 0;
    })

abbrev pll_at : List ℕ → Option PllConfig
pll_at [] = None
pll_at (n ∷ ns) = Some (record { refdiv = n; fbdiv = get_or ns 0 0; post_div1 = get_or ns 1 0; post_div2 = get_or ns 2 0 })

abbrev crystal_at : List ℕ → Option PllConfig → Option PllConfig → Option Crystal
crystal_at [] sys usb = None
crystal_at (hz ∷ ns) sys usb = Some (record { hz = hz; delay = get_or ns 0 0; sys = sys; usb = usb })

abbrev cycles_at : List ℕ → Option ℕ
cycles_at [] = None
cycles_at (n ∷ ns) = Some n

abbrev ref_at : List ℕ → RefClkConfig
ref_at ns = record { src = ref_from (get_or ns 0 0); div = get_or ns 1 0 }

abbrev peri_at : List ℕ → Option PeriClkSrc
peri_at [] = None
peri_at (n ∷ ns) = Some (peri_from n)

abbrev aux_at : List ℕ → Option AuxClkConfig
aux_at [] = None
aux_at (n ∷ ns) = Some (record { src = aux_from n; div = get_or ns 0 0; phase = get_or ns 1 0 })

abbrev rtc_at : List ℕ → Option RtcClkConfig
rtc_at [] = None
rtc_at (n ∷ ns) = Some (record { src = aux_from n; div_int = get_or ns 0 0; div_frac = get_or ns 1 0; phase = get_or ns 2 0 })

-- the settings whose parts these are
abbrev pub settings_at : List (List ℕ) → Settings
settings_at ps =
    let sys = get_or ps 8 [] in
    record {
      chip =
          chip_of
          (chip_from (chip_at (get_or (get_or ps 0 []) 0 0)) (get_or (get_or ps 5 []) 0 0) (get_or sys 1 0) (get_or sys 2 0)
          (rtc_at (get_or ps 12 [])));
      rosc = ring_at (get_or ps 1 []);
      xosc = crystal_at (get_or ps 2 []) (pll_at (get_or ps 3 [])) (pll_at (get_or ps 4 []));
      settling = cycles_at (get_or ps 6 []);
      reference = ref_at (get_or ps 7 []);
      sys = sys_source_from (get_or sys 0 0);
      peri = peri_at (get_or ps 9 []);
      usb = aux_at (get_or ps 10 []);
      adc = aux_at (get_or ps 11 []);
    }

pub code-back : (chip : Chip) → chip_at (chip_code chip) ≡ chip
code-back Rp2040 = refl
code-back Rp235x = refl

ring-back : (o : Option RoscConfig) → ring_at (ring_numbers o) ≡ o
ring-back (Some r) = rw (range-code r.range).0
ring-back None = refl

pll-back : (o : Option PllConfig) → pll_at (pll_numbers o) ≡ o
pll-back (Some p) = refl
pll-back None = refl

crystal-back : (o : Option Crystal)
    → crystal_at (crystal_numbers o) (pll_at (pll_numbers (sys_pll_of o))) (pll_at (pll_numbers (usb_pll_of o))) ≡ o
crystal-back (Some x) = rw (pll-back x.sys, pll-back x.usb)
crystal-back None = refl

cycles-back : (o : Option ℕ) → cycles_at (cycles_numbers o) ≡ o
cycles-back (Some n) = refl
cycles-back None = refl

peri-back : (o : Option PeriClkSrc) → peri_at (peri_numbers o) ≡ o
peri-back (Some src) = rw (peri-code src).0
peri-back None = refl

aux-back : (o : Option AuxClkConfig) → aux_at (aux_numbers o) ≡ o
aux-back (Some a) = rw (aux-code a.src).0
aux-back None = refl

rtc-back : (o : Option RtcClkConfig) → rtc_at (rtc_numbers o) ≡ o
rtc-back (Some r) = rw (aux-code r.src).0
rtc-back None = refl

pub settings-back : (p : ClockConfig) (reading : ℕ)
    → settings_at (parts_of (settings_of p reading)) ≡ settings_of p reading
settings-back p reading =
    let s = settings_of p reading in
    rw (
      code-back s.chip.model,
      ring-back s.rosc,
      crystal-back s.xosc,
      cycles-back s.settling,
      (ref-code s.reference.src).0,
      (sys-code s.sys).0,
      peri-back s.peri,
      aux-back s.usb,
      aux-back s.adc,
      rtc-back s.chip.rtc,
      chip-back p.chip,
    )
