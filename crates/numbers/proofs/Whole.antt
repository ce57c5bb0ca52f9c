-- A plan has at most 48 numbers, so a row of 48 holds every plan.
use Rattle.std.specs.Prelude.{Option, Some, None, ◌≡◌, List, ℕ, ◌+◌, ◌≤◌, length, take, drop, refl}
use native.Mathlib.Omega.{arith}
use lib.{ListN.length-append, ListN.length-replicate, Seq.take-append_seam, Seq.length-sets, Seq.sets-eq}
use Rattle.base.specs.Placed.{Placed}
use Rattle.config.specs.declared.ChipConfig.TheVariants.{Rp2040 as on2040, Rp235x as on235x}
use Rattle.config.specs.declared.{RoscConfig.RoscConfig, XoscConfig.XoscConfig, ChipConfig.ChipConfig, ClockConfig.ClockConfig}
use Rattle.numbers.specs.Row.{part_row, ring_on, crystal_on, pll_on, sys_pll_in, usb_pll_in, time_on, peri_on, aux_on, rtc_on}
use Rattle.numbers.specs.Row.{oscillator_row, clock_row, rtc_numbers, plan_row}

-- the row of a part is as long as that of an absent one
pub part-long : {A : Type 0} (size : ℕ) (on : A → List ℕ) → ((part : A) → length (on part) ≡ size) → (o : Option A)
    → length (part_row size on o) ≡ size + 1
part-long size on each (Some part) = omega (arith, each part)
part-long size on each None = length-replicate (size + 1) 0

rtc-most : (c : ChipConfig) → length (rtc_numbers c) ≤ 5
rtc-most (on2040 c) = omega (arith, part-long 4 rtc_on (λ r. refl) c.rtc_clk)
rtc-most (on235x c) = omega arith

oscillators-long : (r : Option RoscConfig) (x : Option XoscConfig) → length (oscillator_row r x) ≡ 25
unfolding oscillator_row
oscillators-long r x =
    simp length-append
    (omega (
      arith,
      part-long 11 ring_on (λ r. refl) r,
      part-long 2 crystal_on (λ x. refl) x,
      part-long 4 pll_on (λ p. refl) (sys_pll_in x),
      part-long 4 pll_on (λ p. refl) (usb_pll_in x),
    ))

clocks-long : (p : ClockConfig) → length (clock_row p) ≡ 18
unfolding clock_row
clocks-long p =
    simp length-append
    (omega (
      arith,
      part-long 1 time_on (λ time. refl) p.voltage_stabilization_delay_us,
      part-long 1 peri_on (λ src. refl) p.peri_clk_src,
      part-long 3 aux_on (λ a. refl) p.usb_clk,
      part-long 3 aux_on (λ a. refl) p.adc_clk,
    ))

pub row-most : (p : ClockConfig) → length (plan_row p) ≤ 48
unfolding plan_row
row-most p = simp length-append (omega (arith, oscillators-long p.rosc p.xosc, clocks-long p, rtc-most p.chip))

-- a row of 48 into which a plan's numbers are placed begins with them
pub record Begins (p : ClockConfig) (n : ℕ) (row : List ℕ) : Type 0 where
  pub count : n ≡ length (plan_row p)
  pub inside : n ≤ length row
  pub whole : n ≡ length (take n row)
  pub numbers : take n row ≡ plan_row p

pub begins : {p : ClockConfig} {n : ℕ} {before after : List ℕ} → length before ≡ 48
    → Placed before 0 (plan_row p) n after → Begins p n after
begins {p} {n} {before} {after} long h =
    let few = row-most p in
    let count : n ≡ length (plan_row p) = omega (arith, h.index) in
    let size : length after ≡ length before = rw h.bytes (length-sets before 0 (plan_row p)) in
    let same : take n after ≡ plan_row p =
    rw (h.bytes, sets-eq (plan_row p) before 0 (omega arith), count)
    (take-append_seam (plan_row p) (drop (0 + length (plan_row p)) before)) in
    record { count = count; inside = omega arith; whole = rw same count; numbers = same }
