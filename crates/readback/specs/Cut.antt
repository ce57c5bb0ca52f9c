-- Settings with each number truncated to its type. The settings of an accepted plan do not change.
use Rattle.std.specs.Prelude.{Option, Some, None, ℕ, ◌%◌, ◌^◌}
use Rattle.config.specs.declared.{RoscConfig.RoscConfig, RefClkConfig.RefClkConfig, AuxClkConfig.AuxClkConfig}
use Rattle.config.specs.declared.{RtcClkConfig.RtcClkConfig, ChipSettings.ChipSettings}
use Rattle.pll.specs.declared.PllConfig.{PllConfig}
use Rattle.settings.specs.declared.{Crystal.Crystal, Settings.Settings}

-- The low 8, 16 and 32 bits of a number, for u8, u16 and u32.
abbrev pub byte : ℕ → ℕ
byte n = n % 2 ^ 8

abbrev pub half : ℕ → ℕ
half n = n % 2 ^ 16

abbrev pub word : ℕ → ℕ
word n = n % 2 ^ 32

abbrev pub cut_ring : Option RoscConfig → Option RoscConfig
cut_ring (Some r) =
    Some
    (record {
      hz = word r.hz;
      range = r.range;
      drive_strength =
          record {
            s0 = byte r.drive_strength.s0;
            s1 = byte r.drive_strength.s1;
            s2 = byte r.drive_strength.s2;
            s3 = byte r.drive_strength.s3;
            s4 = byte r.drive_strength.s4;
            s5 = byte r.drive_strength.s5;
            s6 = byte r.drive_strength.s6;
            s7 = byte r.drive_strength.s7;
          };
      div = half r.div;
    })
cut_ring None = None

abbrev pub cut_pll : Option PllConfig → Option PllConfig
cut_pll (Some p) =
    Some
    (record {
      refdiv = byte p.refdiv;
      fbdiv = half p.fbdiv;
      post_div1 = byte p.post_div1;
      post_div2 = byte p.post_div2;
    })
cut_pll None = None

abbrev pub cut_crystal : Option Crystal → Option Crystal
cut_crystal (Some x) =
    Some (record { hz = word x.hz; delay = x.delay; sys = cut_pll x.sys; usb = cut_pll x.usb })
cut_crystal None = None

abbrev pub cut_aux : Option AuxClkConfig → Option AuxClkConfig
cut_aux (Some a) = Some (record { src = a.src; div = byte a.div; phase = byte a.phase })
cut_aux None = None

abbrev pub cut_rtc : Option RtcClkConfig → Option RtcClkConfig
cut_rtc (Some c) =
    Some
    (record {
      src = c.src;
      div_int = word c.div_int;
      div_frac = byte c.div_frac;
      phase = byte c.phase;
    })
cut_rtc None = None

abbrev pub cut_ref : RefClkConfig → RefClkConfig
cut_ref c = record { src = c.src; div = byte c.div }

abbrev pub cut_chip : ChipSettings → ChipSettings
cut_chip c =
    record { model = c.model; volts = c.volts; whole = word c.whole; fraction = half c.fraction; rtc = cut_rtc c.rtc }

unfoldable pub cut_settings : Settings → Settings
cut_settings s =
    record {
      chip = cut_chip s.chip;
      rosc = cut_ring s.rosc;
      xosc = cut_crystal s.xosc;
      settling = s.settling;
      reference = cut_ref s.reference;
      sys = s.sys;
      peri = s.peri;
      usb = cut_aux s.usb;
      adc = cut_aux s.adc;
    }
