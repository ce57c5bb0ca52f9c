-- The numbers of a plan read back as the plan, and a row that reads as a plan is the row of that plan's numbers.
use Rattle.std.specs.Prelude.{Option, Some, None, option_map, unwrap_or, Bool, true, false, ◌&&◌, List, [], ◌∷◌, ◌++◌, ◌≡◌, ℕ, ◌≤◌, eqb}
use Rattle.std.specs.Prelude.{leb, length}
use Rattle.config.specs.declared.{XoscConfig.XoscConfig, ChipConfig.ChipConfig, ClockConfig.ClockConfig}
use mathlib.Core.Path.{refl, sym, ap, ◌∙◌}
use native.Mathlib.Omega.{arith}
use borrow.Author.Tests.{eqb-true, leb-true, le-leb}
use Rattle.base.specs.{Answer.Answer, Answer.value, Answer.refusal, Choice.pick, Widths.u8, Widths.u16, Widths.u32}
use Rattle.base.proofs.Bools.{either_way}
use Rattle.std.proofs.lemmas.Bool.{and_parts}
use Rattle.chip.specs.declared.{Chip.Chip, Chip.TheVariants.Rp2040, Chip.TheVariants.Rp235x}
use Rattle.chip.specs.Voltage.{code_of, voltages, with_code, core_voltage_of}
use Rattle.chip.proofs.Codes.{core-voltage-code, code-small}
use Rattle.pll.specs.declared.PllConfig.{PllConfig}
use Rattle.config.specs.{ChipSettings.chip_of, Codes.ref_code}
use Rattle.config.proofs.OnChip.{on_chip}
use Rattle.settings.proofs.Decoded.{ref-code, sys-code, volts-small}
use Rattle.numbers.specs.Row.{ring_on, pll_on, time_on, peri_on, aux_on, rtc_on, part_row, crystal_on, sys_pll_in, usb_pll_in}
use Rattle.numbers.specs.Row.{oscillator_row, first_row, sys_row, clock_row, rtc_numbers, plan_row}
use Rattle.numbers.specs.Plan.{whole_oscillators, whole_clocks, whole_chip, whole_plan, strengths_at, ring_at, option_pll_at, crystal_at}
use Rattle.numbers.specs.Plan.{divided_at, rtc_at, chip_at, plan_at, flagged, part2040, part235x, plan_numbered}
use Rattle.numbers.specs.{Fields.nth, Fields.byte_at, Parts.fit_from, Parts.is_part, Answers.of_value}
use Rattle.numbers.specs.{Typed.PllTyped, Typed.CrystalTyped, Typed.ChipTyped, Typed.PlanTyped}
use Rattle.numbers.proofs.PartRows.{row_from, row-whole, cut, both, fits, gone, codes, code_read, ring_limits}
use Rattle.numbers.proofs.PartRows.{there-fits, ring_part, pll_limits, pll_part, time_limits, time_part, peri_limits, peri_part}
use Rattle.numbers.proofs.PartRows.{aux_limits, aux_part, rtc_limits, rtc_part}
use Rattle.config.specs.declared.ChipConfig.TheVariants.{Rp2040 as on2040, Rp235x as on235x}

-- the rows of a plan's parts, one after another
abbrev joined : List ℕ → List ℕ → List ℕ → List ℕ → List ℕ → List ℕ → List ℕ → List ℕ → List ℕ → List ℕ → List ℕ
joined a b c d e f g h k z = (a ++ (b ++ (c ++ d))) ++ ((e ++ (f ++ (g ++ (h ++ k)))) ++ z)

-- tests that all hold
abbrev AllTrue : List Bool → Type 0
AllTrue [] = Unit {0}
AllTrue (b ∷ bs) = (b ≡ true) × AllTrue bs

abbrev conj : List Bool → Bool
conj [] = true
conj (b ∷ []) = b
conj (b ∷ c ∷ bs) = b && conj (c ∷ bs)

all_true : (bs : List Bool) → conj bs ≡ true → AllTrue bs
all_true [] e = tt
all_true (b ∷ []) e = (e, tt)
all_true (b ∷ c ∷ bs) e = let h = and_parts b (conj (c ∷ bs)) e in (h.0, all_true (c ∷ bs) h.1)

-- ---- the crystal with its PLLs

abbrev pll_row : Option PllConfig → List ℕ
pll_row = part_row 4 pll_on

-- its flag is 1 or 0
pll-flag : (o : Option PllConfig) → nth (pll_row o) 0 ≤ 1
pll-flag (Some p) = omega arith
pll-flag None = omega arith

abbrev crystal_row : Option XoscConfig → List ℕ
crystal_row = part_row 2 crystal_on

abbrev crystal_limits : List ℕ
crystal_limits = 1 ∷ u32 ∷ u32 ∷ []

abbrev crystal_in : List ℕ → Option PllConfig → Option PllConfig → Option XoscConfig
crystal_in m s u =
    flagged m 0 (record { hz = nth m 1; sys_pll = s; usb_pll = u; delay_multiplier = nth m 2 })

plls-typed : (x : Option XoscConfig) → CrystalTyped x → PllTyped (sys_pll_in x) × PllTyped (usb_pll_in x)
plls-typed (Some x) t = (t.2, t.3)
plls-typed None t = (tt, tt)

record Crystal (x : Option XoscConfig) : Type 0 where
  pub long : row_from 3 0 (crystal_row x) ≡ crystal_row x
  pub fit : is_part (crystal_row x) 0 crystal_limits ≡ true
  pub sys : nth (pll_row (sys_pll_in x)) 0 ≤ nth (crystal_row x) 0
  pub usb : nth (pll_row (usb_pll_in x)) 0 ≤ nth (crystal_row x) 0
  pub read : crystal_in (crystal_row x) (option_pll_at (pll_row (sys_pll_in x)) 0) (option_pll_at (pll_row (usb_pll_in x)) 0) ≡ x

crystal-back : (x : Option XoscConfig) → CrystalTyped x → Crystal x
unfolding is_part
crystal-back (Some x) t =
    record {
      long = refl;
      fit = there-fits (crystal_row (Some x)) crystal_limits refl (omega (arith, t.0, t.1));
      sys = pll-flag x.sys_pll;
      usb = pll-flag x.usb_pll;
      read = rw (pll_part.back x.sys_pll t.2, pll_part.back x.usb_pll t.3);
    }
crystal-back None t = record { long = refl; fit = refl; sys = omega arith; usb = omega arith; read = refl }

crystal-row : (m s u : List ℕ) → is_part m 0 crystal_limits ≡ true → is_part s 0 pll_limits ≡ true → is_part u 0 pll_limits ≡ true
    → nth s 0 ≤ nth m 0 → nth u 0 ≤ nth m 0
    → (crystal_row (crystal_in m (option_pll_at s 0) (option_pll_at u 0)) ≡ row_from 3 0 m)
    × (pll_row (sys_pll_in (crystal_in m (option_pll_at s 0) (option_pll_at u 0))) ≡ row_from 5 0 s)
    × (pll_row (usb_pll_in (crystal_in m (option_pll_at s 0) (option_pll_at u 0))) ≡ row_from 5 0 u)
unfolding is_part
crystal-row m s u em es eu ls lu =
    either_way (eqb (nth m 0) 1)
    (λ f.
    let one = eqb-true (nth m 0) 1 f in
    rw f ((λ i. sym one i ∷ nth m 1 ∷ nth m 2 ∷ []), pll_part.row s es, pll_part.row u eu))
    (λ f.
    let w = fits false m 0 crystal_limits (rw f at em) in
    rw f (gone m crystal_limits em w.0, gone s pll_limits es (omega (arith, w.0)), gone u pll_limits eu (omega (arith, w.0))))

-- ---- a plan, with its chip-specific part c separate

module _ (c : ChipConfig) (p : ClockConfig) (t : PlanTyped p) (z : List ℕ) where
  abbrev settling : List ℕ
  settling = part_row 1 time_on p.voltage_stabilization_delay_us

  -- its row, number by number
  abbrev row : List ℕ
  row =
      joined (row_from 12 0 (part_row 11 ring_on p.rosc)) (row_from 3 0 (crystal_row p.xosc)) (row_from 5 0 (pll_row (sys_pll_in p.xosc)))
      (row_from 5 0 (pll_row (usb_pll_in p.xosc)))
      ((chip_of c).volts.code ∷ (row_from 2 0 settling ++ (ref_code p.ref_clk.src ∷ p.ref_clk.div ∷ [])))
      (sys_row p.sys_clk_src (chip_of c).whole (chip_of c).fraction)
      (row_from 2 0 (part_row 1 peri_on p.peri_clk_src)) (row_from 4 0 (part_row 3 aux_on p.usb_clk))
      (row_from 4 0 (part_row 3 aux_on p.adc_clk)) z

  row_is : z ≡ rtc_numbers c → row ≡ plan_row (on_chip c p)
  unfolding plan_row oscillator_row clock_row
  row_is e =
      let plls = plls-typed p.xosc t.xosc in
      let time = time_part.whole p.voltage_stabilization_delay_us in
      let first = ap (λ (l : List ℕ). (chip_of c).volts.code ∷ (l ++ (ref_code p.ref_clk.src ∷ p.ref_clk.div ∷ []))) time in
      λ i. joined (ring_part.whole p.rosc i) ((crystal-back p.xosc t.xosc).long i)
      (pll_part.whole (sys_pll_in p.xosc) i) (pll_part.whole (usb_pll_in p.xosc) i) (first i)
      (sys_row p.sys_clk_src (chip_of c).whole (chip_of c).fraction) (peri_part.whole p.peri_clk_src i)
      (aux_part.whole p.usb_clk i) (aux_part.whole p.adc_clk i) (e i)

  oscillators-fit : whole_oscillators row ≡ true
  unfolding whole_oscillators is_part
  oscillators-fit =
      let plls = plls-typed p.xosc t.xosc in
      let x = crystal-back p.xosc t.xosc in
      both (ring_part.fit p.rosc t.rosc) (both x.fit (both (pll_part.fit (sys_pll_in p.xosc) plls.0)
      (both (pll_part.fit (usb_pll_in p.xosc) plls.1) (both (le-leb _ _ x.sys) (le-leb _ _ x.usb)))))

  clocks-fit : whole_clocks row ≡ true
  unfolding whole_clocks is_part
  clocks-fit =
      let code : (chip_of c).volts.code ≤ 15 = omega (arith, (volts-small c).0) in
      both (both (le-leb (chip_of c).volts.code 15 code) refl)
      (both (time_part.fit p.voltage_stabilization_delay_us t.settling)
      (both (both (le-leb _ 2 (ref-code p.ref_clk.src).1) (both (le-leb _ u8 t.reference) refl))
      (both (both (le-leb _ 4 (sys-code p.sys_clk_src).1) refl)
      (both (peri_part.fit p.peri_clk_src tt)
      (both (aux_part.fit p.usb_clk t.usb) (aux_part.fit p.adc_clk t.adc))))))

  plan-is : plan_at c row ≡ on_chip c p
  unfolding plan_at ring_at strengths_at crystal_at option_pll_at divided_at
  plan-is = λ i. record {
    chip = c;
    rosc = ring_part.back p.rosc t.rosc i;
    xosc = (crystal-back p.xosc t.xosc).read i;
    ref_clk = record { src = (ref-code p.ref_clk.src).0 i; div = cut t.reference i };
    sys_clk_src = (sys-code p.sys_clk_src).0 i;
    peri_clk_src = peri_part.back p.peri_clk_src tt i;
    usb_clk = aux_part.back p.usb_clk t.usb i;
    adc_clk = aux_part.back p.adc_clk t.adc i;
    voltage_stabilization_delay_us = time_part.back p.voltage_stabilization_delay_us t.settling i;
  }

  read-so : (chip : Chip) → z ≡ rtc_numbers c → whole_chip chip row ≡ true → chip_at chip row ≡ Some c
      → plan_numbered chip (plan_row (on_chip c p)) ≡ Some (on_chip c p)
  unfolding plan_numbered
  read-so chip e fit read =
      ap (plan_numbered chip) (sym (row_is e))
      ∙ ap (λ (b : Bool). pick b (option_map (λ (c : ChipConfig). plan_at c row) (chip_at chip row)) None)
      (both fit (both oscillators-fit clocks-fit))
      ∙ ap (option_map (λ (c : ChipConfig). plan_at c row)) read ∙ ap Some plan-is

-- every typed plan reads back from its numbers
pub plan-back : (p : ClockConfig) → PlanTyped p → plan_numbered (chip_of p.chip).model (plan_row p) ≡ Some p
unfolding whole_chip is_part chip_at rtc_at
plan-back p t = go p.chip t.chip
  where
    go : (c : ChipConfig) → ChipTyped c → plan_numbered (chip_of c).model (plan_row (on_chip c p)) ≡ Some (on_chip c p)
    go (on2040 c) h =
        let z = part_row 4 rtc_on c.rtc_clk in
        let small : code_of Rp2040 c.core_voltage ≤ 255 = omega (arith, code-small Rp2040 c.core_voltage) in
        read-so (on2040 c) p t (row_from 5 0 z) Rp2040 (rtc_part.whole c.rtc_clk)
        (both refl (both (both (le-leb _ u32 h.0) (both (le-leb _ u8 h.1) refl)) (rtc_part.fit c.rtc_clk h.2)))
        (ap (of_value (part2040 (row (on2040 c) p t (row_from 5 0 z))))
        (ap (core_voltage_of Rp2040) (cut small) ∙ core-voltage-code Rp2040 c.core_voltage)
        ∙ (λ i. Some (on2040 (record {
          core_voltage = c.core_voltage;
          div_int = c.div_int;
          div_frac = cut h.1 i;
          rtc_clk = rtc_part.back c.rtc_clk h.2 i;
        }))))
    go (on235x c) h =
        let small : code_of Rp235x c.core_voltage ≤ 255 = omega (arith, code-small Rp235x c.core_voltage) in
        read-so (on235x c) p t [] Rp235x refl (both refl (both (le-leb _ u16 h.0) (both (le-leb _ u16 h.1) refl)))
        (ap (of_value (part235x (row (on235x c) p t [])))
        (ap (core_voltage_of Rp235x) (cut small) ∙ core-voltage-code Rp235x c.core_voltage)
        ∙ (λ i. Some (on235x (record {
          core_voltage = c.core_voltage;
          div_int = cut h.0 i;
          div_frac = cut h.1 i;
        }))))

-- ---- a row that reads as a plan

-- what an answer gives is of its value
valued : {A B : Type 0} (f : A → B) (a : Answer A) (b : B) → of_value f a ≡ Some b → (v : A) × (a ≡ value v) × (f v ≡ b)
valued f (value v) b e = (v, refl, ap (λ o. unwrap_or o (f v)) e)
valued f (refusal n) b e = let z : ◌≡◌ {A = ℕ} 0 1 = cc in absurd (omega arith)

module _ (n : List ℕ) (osc : whole_oscillators n ≡ true) (clk : whole_clocks n ≡ true) where
  abbrev oscillator_tests : List Bool
  oscillator_tests =
      is_part n 0 ring_limits ∷ is_part n 12 crystal_limits ∷ is_part n 15 pll_limits ∷ is_part n 20 pll_limits
      ∷ leb (nth n 15) (nth n 12) ∷ leb (nth n 20) (nth n 12) ∷ []

  abbrev clock_tests : List Bool
  clock_tests =
      fit_from true n 25 (15 ∷ []) ∷ is_part n 26 time_limits ∷ fit_from true n 28 (2 ∷ u8 ∷ []) ∷ fit_from true n 30 (4 ∷ [])
      ∷ is_part n 33 peri_limits ∷ is_part n 35 aux_limits ∷ is_part n 39 aux_limits ∷ []

  oscillator-facts : AllTrue oscillator_tests
  unfolding whole_oscillators
  oscillator-facts = all_true oscillator_tests osc

  clock-facts : AllTrue clock_tests
  unfolding whole_clocks
  clock-facts = all_true clock_tests clk

  code-most : nth n 25 ≤ 15
  code-most = (fits true n 25 (15 ∷ []) clock-facts.0).0

  plan-row : (c : ChipConfig) → (chip_of c).volts.code ≡ nth n 25 → (chip_of c).whole ≡ nth n 31 → (chip_of c).fraction ≡ nth n 32
      → plan_row (plan_at c n) ≡ row_from 43 0 n ++ rtc_numbers c
  unfolding plan_row oscillator_row clock_row plan_at is_part crystal_at option_pll_at divided_at
  plan-row c code whole fraction =
      let o = oscillator-facts in
      let k = clock-facts in
      let x = crystal-row (row_from 3 12 n) (row_from 5 15 n) (row_from 5 20 n) o.1.0 o.1.1.0 o.1.1.1.0
      (leb-true (nth n 15) (nth n 12) o.1.1.1.1.0) (leb-true (nth n 20) (nth n 12) o.1.1.1.1.1.0) in
      let r = fits true n 28 (2 ∷ u8 ∷ []) k.1.1.0 in
      let s = fits true n 30 (4 ∷ []) k.1.1.1.0 in
      let time = time_part.row (row_from 2 26 n) k.1.0 in
      let first : first_row (chip_of c).volts.code (plan_at c n).voltage_stabilization_delay_us (plan_at c n).ref_clk ≡ row_from 5 25 n =
      λ i. code i ∷ (time i ++ ((codes (nth n 28)).1 r.0 i ∷ cut r.1.0 i ∷ [])) in
      λ i. joined (ring_part.row n o.0 i) (x.0 i) (x.1 i) (x.2 i) (first i)
      (((codes (nth n 30)).2 s.0).0 i ∷ whole i ∷ fraction i ∷ []) (peri_part.row (row_from 2 33 n) k.1.1.1.1.0 i)
      (aux_part.row (row_from 4 35 n) k.1.1.1.1.1.0 i) (aux_part.row (row_from 4 39 n) k.1.1.1.1.1.1.0 i) (rtc_numbers c)

  code_is : {A : Type 0} (code_of_lem : A → ℕ) (vs : List A) (v : A)
      → with_code code_of_lem (byte_at n 25) vs ≡ value v → code_of_lem v ≡ nth n 25
  code_is code_of_lem vs v read =
      let small : nth n 25 ≤ u8 = omega (arith, code-most) in
      code_read code_of_lem (byte_at n 25) vs v read ∙ cut small

  -- of each chip: the row is that of the plan whose chip-specific part is read from it, which is of this chip
  chip-row : (chip : Chip) → whole_chip chip n ≡ true → (c : ChipConfig) → chip_at chip n ≡ Some c
      → (plan_row (plan_at c n) ≡ n) × ((chip_of c).model ≡ chip)
  unfolding whole_chip is_part rtc_at chip_at
  chip-row Rp2040 e c read =
      let bs : List Bool = eqb (length n) 48 ∷ fit_from true n 31 (u32 ∷ u8 ∷ []) ∷ is_part n 43 rtc_limits ∷ [] in
      let h = all_true bs e in
      let w = fits true n 31 (u32 ∷ u8 ∷ []) h.1.0 in
      let of = valued (part2040 n) (core_voltage_of Rp2040 (byte_at n 25)) c read in
      rw (← of.2) (
        plan-row (part2040 n of.0) (code_is (code_of Rp2040) (voltages Rp2040) of.0 of.1) refl (cut w.1.0)
            ∙ ap (λ (l : List ℕ). row_from 43 0 n ++ l) (rtc_part.row (row_from 5 43 n) h.1.1.0)
            ∙ row-whole 48 n (eqb-true (length n) 48 h.0),
        refl,
      )
  chip-row Rp235x e c read =
      let bs : List Bool = eqb (length n) 43 ∷ fit_from true n 31 (u16 ∷ u16 ∷ []) ∷ [] in
      let h = all_true bs e in
      let w = fits true n 31 (u16 ∷ u16 ∷ []) h.1.0 in
      let of = valued (part235x n) (core_voltage_of Rp235x (byte_at n 25)) c read in
      rw (← of.2) (
        plan-row (part235x n of.0) (code_is (code_of Rp235x) (voltages Rp235x) of.0 of.1) (cut w.0) (cut w.1.0)
            ∙ row-whole 43 n (eqb-true (length n) 43 h.0),
        refl,
      )

abbrev tests : Chip → List ℕ → List Bool
tests chip n = whole_chip chip n ∷ whole_oscillators n ∷ whole_clocks n ∷ []

-- a row that reads as a plan is the row of the plan's numbers, and the plan is for the chip asked for
pub row_back : (chip : Chip) (n : List ℕ) (p : ClockConfig) → plan_numbered chip n ≡ Some p
    → (plan_row p ≡ n) × ((chip_of p.chip).model ≡ chip)
unfolding plan_numbered plan_at
row_back chip n p e = go (whole_plan chip n) refl (chip_at chip n) refl
  where
    go : (b : Bool) → whole_plan chip n ≡ b → (read : Option ChipConfig) → chip_at chip n ≡ read
        → (plan_row p ≡ n) × ((chip_of p.chip).model ≡ chip)
    go true f (Some c) g =
        let h = all_true (tests chip n) f in
        let same : plan_at c n ≡ p = ap (λ o. unwrap_or o (plan_at c n)) (rw (f, g) at e) in
        rw (← same) (chip-row n h.1.0 h.1.1.0 chip h.0 c g)
    go true f None g = let z = rw (f, g) at e in let y : ◌≡◌ {A = ℕ} 0 1 = cc in absurd (omega arith)
    go false f read g = let z = rw f at e in let y : ◌≡◌ {A = ℕ} 0 1 = cc in absurd (omega arith)
