-- A runner that was started with the sheet of an accepted plan, or with the bytes that `init` wrote, reaches done
-- within the bound, and the bound is reached.
use Rattle.std.specs.Prelude.{ℕ, ◌+◌, ◌*◌, ◌/◌, ◌≤◌, ◌<◌, Bool, List, ◌≡◌, refl, length, take, drop}
use native.Mathlib.{Omega.arith, Nat.mul-le-mul_left, Nat.lt_of_not-le, Decide.dec_le}
use lib.Seq.{take-append_seam}
use borrow.Author.Tests.{lt-ltb, le-ltb}
use Rattle.step.specs.Sheet.{max_steps, encoded}
use Rattle.step.proofs.Sheets.{length-encoded}
use Rattle.chip.specs.declared.Chip.{Chip, TheVariants.Rp2040, TheVariants.Rp235x}
use Rattle.divider.specs.{Delay.cycles_per_us, Delay.settling_cycles, Clock.divided_hz}
use Rattle.config.specs.declared.ClockConfig.{ClockConfig}
use Rattle.settings.specs.Frequencies.{pll_hz, sources_of, ref_hz, sys_hz, ten_of}
use Rattle.settings.specs.{Settings.settling_step, Settings.settings_of, Typed.Typed}
use Rattle.refusals.specs.Refusals.{Accepted}
use Rattle.sheet.specs.Steps.{head_part, ring_part, voltage_part, crystal_part, switch_steps, sys_part, peri_part, aux_part}
use Rattle.sheet.specs.Steps.{rtc_part, clocks_part, steps_of, most_steps}
use Rattle.sheet.specs.Writer.{sheet_bytes}
use Rattle.sheet.proofs.Examples.{Gives, longest_plan, longest-steps, longest235, longest-steps-235}
use Rattle.sheet.proofs.{Sheets.chip-few, Sheets.steps-few, Sheets.steps-formed, Demand3.answered}
use Rattle.bring_up.specs.ComesUp.{max_waits, most_calls, ComesUp, ComesUpReady, InitComesUp, longest_wait, LongestCovers}
use Rattle.bring_up.specs.{Up.plan_steps, Wait.HearsAtMost, Slow.waits_in, Wait.UpAfter, Wait.UpWithin, Slow.slowest}
use Rattle.bring_up.proofs.{Stored.steps-store, Run.sheet-starts, Wait.steps-come-up, Wait.steps-come-up-ready, Slow.slow-few}
use Rattle.bring_up.proofs.{Slow.steps-come-up-slowest, Waits.waits-ten}

module _ (p : ClockConfig) (reading : ℕ) (ok : Accepted p reading) (t : Typed (settings_of p reading)) where
  pub comes-up : ComesUp p reading
  unfolding sheet_bytes
  comes-up k small ready hears =
      let s = settings_of p reading in
      let steps = plan_steps p reading in
      let up = steps-come-up steps (steps-formed p reading ok t) (steps-few reading s) k small ready hears in
      let polls : k * waits_in steps ≤ k * max_waits = mul-le-mul_left k (waits-ten reading s) in
      record {
        calls = up.calls;
        few = omega (arith, up.few, polls, chip-few reading s);
        up = rw (steps-store reading p) at up.up;
      }

  pub comes-up-ready : ComesUpReady p reading
  unfolding sheet_bytes
  comes-up-ready ready hears =
      let s = settings_of p reading in
      rw (steps-store reading p) at
      (steps-come-up-ready (plan_steps p reading) (steps-formed p reading ok t) (steps-few reading s) ready hears)

-- the sheet of a call of `init`, from its contract alone: it answers a length only for an accepted plan, and the
-- buffer then starts with the sheet of the plan
pub init-comes-up : InitComesUp
unfolding sheet_bytes
init-comes-up p reading before after r n call e =
    let a = answered p reading before after r call n e in
    let sheet : take n after ≡ sheet_bytes p reading =
    rw (a.bytes, a.count) (take-append_seam (sheet_bytes p reading) (drop (length (sheet_bytes p reading)) before)) in
    let steps : n / 8 ≡ length (plan_steps p reading) = omega (arith, a.count, length-encoded (plan_steps p reading)) in
    rw sheet
    (record {
      starts = sheet-starts p reading;
      in_time = comes-up p reading a.ok call.typed;
      at_once = rw steps (comes-up-ready p reading a.ok call.typed);
    })

-- `longest_wait` covers both chips
chip-covered : (chip : Chip) (k : ℕ) → most_calls chip k ≤ max_steps + max_waits * k
chip-covered Rp2040 k = omega arith
chip-covered Rp235x k = omega arith

pub longest-covers : LongestCovers
unfolding longest_wait
longest-covers chip k = (
  (λ small. rw (lt-ltb k 1000000 small) (chip-covered chip k)),
  λ over. rw (le-ltb k 1000000 over),
)

-- the bound is reached: the longest plan of each chip at reading 11, with the slowest stream
abbrev pub longest : Chip → ClockConfig
longest Rp2040 = longest_plan
longest Rp235x = longest235

longest-gives : (chip : Chip) → Gives (longest chip) 11 (most_steps chip)
longest-gives Rp2040 = longest-steps
longest-gives Rp235x = longest-steps-235

longest-waits : (chip : Chip) → waits_in (plan_steps (longest chip) 11) ≡ max_waits
unfolding longest_plan longest235 cycles_per_us settling_cycles divided_hz settling_step pll_hz sources_of ref_hz sys_hz head_part ring_part
    voltage_part crystal_part switch_steps sys_part peri_part aux_part rtc_part clocks_part steps_of
longest-waits Rp2040 = refl
longest-waits Rp235x = refl

pub bound-reached : (chip : Chip) (k : ℕ) → k < 1000000 → let sheet = sheet_bytes (longest chip) 11 in
    HearsAtMost k sheet (slowest k sheet)
    × UpAfter (most_calls chip k) sheet (slowest k sheet) (ten_of (settings_of (longest chip) 11))
unfolding sheet_bytes
bound-reached chip k small =
    let g = longest-gives chip in
    let s = settings_of (longest chip) 11 in
    let xs = plan_steps (longest chip) 11 in
    let calls : length xs + k * waits_in xs ≡ most_calls chip k = rw (g.count, longest-waits chip) (omega arith) in (
      slow-few k (encoded xs),
      rw (calls, steps-store 11 (longest chip)) at
          (steps-come-up-slowest xs (steps-formed (longest chip) 11 g.accepted g.typed) (steps-few 11 s) k small),
    )

least : (n m : ℕ) (sheet : List ℕ) (ready : ℕ → Bool) (held freqs : List ℕ) → UpAfter n sheet ready held
    → UpWithin m sheet ready freqs → n ≤ m
least n m sheet ready held freqs a u =
    elim (dec_le n u.calls) [ yes h ↦ omega (arith, h, u.few) | no h ↦ absurd (early (lt_of_not-le h)) ]
  where
    early : u.calls < n → ⊥
    early h = rw (u.up.ends u.calls (omega arith)) at (a.before u.calls h)

-- so no lower number bounds the calls of every accepted plan of the chip
pub none-lower : (chip : Chip) (k : ℕ) → k < 1000000 → (m : ℕ) (freqs : List ℕ)
    → (let sheet = sheet_bytes (longest chip) 11 in UpWithin m sheet (slowest k sheet) freqs) → most_calls chip k ≤ m
none-lower chip k small m freqs u = least (most_calls chip k) m _ _ _ freqs (bound-reached chip k small).1 u
