-- The tests of refusals 2, 3, 4 and 9 are equal to the conditions that docs/FORMAT.md, Refusals, states for a plan.
use Rattle.std.specs.Prelude.{◌≡◌, refl, ◌||◌, ◌&&◌, not, ℕ, zero, suc, ◌+◌, ◌-◌, ◌/◌, ◌≤◌, ◌<◌, ltb, eqb, Some}
use mathlib.Core.Path.{sym}
use native.Mathlib.{Omega.arith, Decide.dec_le}
use borrow.Author.Tests.{eqb-true, lt-ltb, le-ltb, le-leb, ne_eqb}
use Rattle.base.specs.Widths.{u16, u32}
use Rattle.base.proofs.Bools.{either_way}
use Rattle.chip.specs.{declared.Chip.TheVariants.Rp2040, declared.Chip.TheVariants.Rp235x, Chips.facts_of}
use Rattle.divider.specs.Delay.{startup_sum, delay_of, settling_cycles}
use Rattle.config.specs.declared.XoscConfig.{XoscConfig}
use Rattle.settings.specs.Settings.{crystal_of, settling_step}
use Rattle.refusals.specs.Rules.{settling_over, startup_over, whole_bad}

-- Refusal 3: the settling cycles are over 32 bits where the voltage changes.
pub settling-worded : (reading code time hz : ℕ)
    → settling_over (settling_step reading code time hz) ≡ (not (eqb code reading) && ltb u32 (settling_cycles time hz))
unfolding settling_over settling_step settling_cycles
settling-worded reading code time hz =
    either_way (eqb code reading) (λ same. rw same)
    (λ other.
    rw other
    (either_way (eqb time 0)
    (λ still. rw still (sym (le-ltb u32 (settling_cycles time hz) (rw (eqb-true time 0 still) (omega arith)))))
    (λ moves. rw moves)))

-- Refusal 4: the startup sum is over 32 bits or the delay over 16383.
pub startup-worded : (x : XoscConfig)
    → startup_over (crystal_of (Some x))
    ≡ (ltb u32 (startup_sum x.hz x.delay_multiplier) || ltb 16383 (delay_of x.hz x.delay_multiplier))
unfolding startup_over
startup-worded x =
    let sum = startup_sum x.hz x.delay_multiplier in
    go sum (dec_le sum u32)
  where
    go : (sum : ℕ) → Dec (sum ≤ u32) → ltb 16383 (sum / 256) ≡ (ltb u32 sum || ltb 16383 (sum / 256))
    go sum (yes h) = rw (le-ltb u32 sum h)
    go sum (no h) =
        let more : 16383 < sum / 256 = omega arith in
        let over : u32 < sum = omega arith in
        rw (lt-ltb 16383 (sum / 256) more, lt-ltb u32 sum over)

over-with : (d pass : ℕ) → pass ≤ u16 → ltb u16 (d + pass) ≡ ltb (u16 - pass) d
over-with d pass h = go (dec_le d (u16 - pass))
  where
    go : Dec (d ≤ u16 - pass) → ltb u16 (d + pass) ≡ ltb (u16 - pass) d
    go (yes few) = rw (le-ltb (u16 - pass) d few, le-ltb u16 (d + pass) (omega arith))
    go (no more) = rw (lt-ltb (u16 - pass) d (omega arith), lt-ltb u16 (d + pass) (omega arith))

-- Refusal 2: the ring divider is over 62815, on the RP235x over 22015.
pub ring-worded : (d : ℕ)
    → (ltb u16 (d + (facts_of Rp2040).pass) ≡ ltb 62815 d) × (ltb u16 (d + (facts_of Rp235x).pass) ≡ ltb 22015 d)
ring-worded d = (over-with d 0xAA0 (omega arith), over-with d 0xAA00 (omega arith))

-- Refusal 9: of the RP235x's whole parts, which have 16 bits, only 0 is refused.
pub whole-worded : (w : ℕ) → w < 65536 → whole_bad (facts_of Rp235x).top_whole w ≡ eqb w 0
unfolding whole_bad
whole-worded zero h = refl
whole-worded (suc n) h =
    let some : suc n ≡ 0 → ⊥ = λ e. omega arith in
    rw (le-leb 1 (suc n) (omega arith), le-leb (suc n) u16 (omega arith), ne_eqb (suc n) 0 some)
