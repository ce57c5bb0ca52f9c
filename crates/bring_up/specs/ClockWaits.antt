-- No wait is endless: at each wait of a sheet the registers written before it bring its condition about.
use mathlib.Core.{Bool.Bool, Bool.true, Bool.false, Bool.◌&&◌, Path.◌≡◌, List.List, List.[], List.◌∷◌}
use Rattle.std.specs.Prelude.{ℕ, ◌^◌}
use lib.{Dec.eqb, Bits.bit_and, ListN.get_or}
use Rattle.base.specs.{Choice.pick, Choice.in_range, Answer.Answer, Answer.value, Answer.refusal}
use Rattle.chip.specs.declared.Chip.{Chip}
use Rattle.step.specs.declared.Step.{Step}
use Rattle.pll.specs.{Ranges.reference_min, Ranges.reference_max, Ranges.vco_min, Ranges.vco_max, Setting.reference_of, Setting.vco_of}
use Rattle.config.specs.declared.ClockConfig.{ClockConfig}
use Rattle.settings.specs.{Settings.settings_of, Frequencies.sources_in}
use Rattle.refusals.specs.Refusals.{Accepted}
use Rattle.registers.specs.declared.Access.{Access}
use Rattle.registers.specs.Access.{access_of, op_of, address_of, mask_of, value_of}
use Rattle.registers.specs.Map.{RESET, RESET_DONE, CLK_REF_CTRL, CLK_REF_SELECTED, CLK_SYS_CTRL, CLK_SYS_SELECTED}
use Rattle.registers.specs.Map.{XOSC_CTRL, XOSC_STATUS, ROSC_CTRL, PLL_CS}
use Rattle.sheet.specs.Steps.{steps_of}
use Rattle.bring_up.specs.{Machine.bits_at, Machine.done, Machine.carried_out, Tree.oscillates, Tree.pll_at, Tree.vco_on, Tree.pll_on}

-- a PLL locks if it has power, its crystal oscillates, and its dividers give a reference and a VCO within their ranges
abbrev pub locks : Chip → ℕ → ℕ → (ℕ → ℕ) → Bool
locks c w crystal file =
    oscillates (file (XOSC_CTRL c))
    && (vco_on c w file
    && (in_range reference_min reference_max (reference_of (pll_at c w file) crystal)
    && in_range vco_min vco_max (vco_of (pll_at c w file) crystal)))

-- whether a wait can end, by the register that it reads; a wait on any other register cannot
abbrev pub can_come : Chip → ℕ → Access → (ℕ → ℕ) → Bool
can_come c crystal a file =
    pick (eqb (address_of a) (RESET_DONE c)) (eqb (bit_and (file (RESET c)) (mask_of a)) 0)
    (pick (eqb (address_of a) (CLK_SYS_SELECTED c)) (eqb (value_of a) (2 ^ bits_at 0 1 (file (CLK_SYS_CTRL c))))
    (pick (eqb (address_of a) (CLK_REF_SELECTED c)) (eqb (value_of a) (2 ^ bits_at 0 2 (file (CLK_REF_CTRL c))))
    (pick (eqb (address_of a) (XOSC_STATUS c)) (oscillates (file (XOSC_CTRL c)))
    (pick (eqb (address_of a) (PLL_CS c 0)) (locks c 0 crystal file)
    (pick (eqb (address_of a) (PLL_CS c 1)) (locks c 1 crystal file) false)))))

-- the test holds at each wait, for its access and the registers at that moment
abbrev pub at_wait : (Access → (ℕ → ℕ) → Bool) → Answer Access → (ℕ → ℕ) → Bool
at_wait test (value a) file = pick (eqb (op_of a) 3) (test a file) true
at_wait test (refusal n) file = false

abbrev pub all_waits : Chip → (Access → (ℕ → ℕ) → Bool) → List Step → (ℕ → ℕ) → Bool
all_waits c test [] file = true
all_waits c test (s ∷ ss) file = at_wait test (access_of c s) file && all_waits c test ss (done c (access_of c s) file)

abbrev pub NoEndlessWait : Type 0
NoEndlessWait =
    (p : ClockConfig) (reading : ℕ) → Accepted p reading → (before : ℕ → ℕ)
    → let s = settings_of p reading in
    let c = s.chip.model in
    all_waits c (can_come c (sources_in s).xosc) (steps_of reading s) before ≡ true

-- ---- the source that a clock is switched to runs, without which its SELECTED never changes

-- a PLL and its crystal are on
abbrev pub pll_runs : Chip → ℕ → (ℕ → ℕ) → Bool
pll_runs c w file = oscillates (file (XOSC_CTRL c)) && pll_on c w file

-- the source that CLK_REF_CTRL selects runs
abbrev pub ref_runs : Chip → (ℕ → ℕ) → Bool
ref_runs c file =
    let ctrl = file (CLK_REF_CTRL c) in
    let aux = get_or (pll_runs c 1 file ∷ []) (bits_at 5 2 ctrl) false in
    get_or (oscillates (file (ROSC_CTRL c)) ∷ aux ∷ oscillates (file (XOSC_CTRL c)) ∷ []) (bits_at 0 2 ctrl) false

-- the source that CLK_SYS_CTRL selects runs
abbrev pub sys_runs : Chip → (ℕ → ℕ) → Bool
sys_runs c file =
    let ctrl = file (CLK_SYS_CTRL c) in
    let ring = oscillates (file (ROSC_CTRL c)) in
    let aux = get_or (pll_runs c 0 file ∷ pll_runs c 1 file ∷ ring ∷ oscillates (file (XOSC_CTRL c)) ∷ []) (bits_at 5 3 ctrl) false in
    get_or (ref_runs c file ∷ aux ∷ []) (bits_at 0 1 ctrl) false

abbrev pub source_runs : Chip → Access → (ℕ → ℕ) → Bool
source_runs c a file =
    pick (eqb (address_of a) (CLK_SYS_SELECTED c)) (sys_runs c file)
    (pick (eqb (address_of a) (CLK_REF_SELECTED c)) (ref_runs c file) true)

-- the ring oscillates and the source of the reference clock runs, as after a reset of the chip
pub record Awake (c : Chip) (file : ℕ → ℕ) : Type 0 where
  pub ring : oscillates (file (ROSC_CTRL c)) ≡ true
  pub reference : ref_runs c file ≡ true

-- provided that the ring and the reference clock run before, as after a reset of the chip or after other sheets (`StaysAwake`)
abbrev pub SourcesRun : Type 0
SourcesRun =
    (p : ClockConfig) (reading : ℕ) → Accepted p reading → (before : ℕ → ℕ)
    → let s = settings_of p reading in
    let c = s.chip.model in
    oscillates (before (ROSC_CTRL c)) ≡ true → ref_runs c before ≡ true
    → all_waits c (source_runs c) (steps_of reading s) before ≡ true

-- the sheet of an accepted plan for the chip
pub record Sheet (c : Chip) : Type 0 where
  pub plan : ClockConfig
  pub reading : ℕ
  pub accepted : Accepted plan reading
  pub chip : (settings_of plan reading).chip.model ≡ c

-- the file after sheets, one after another
abbrev pub after_sheets : (c : Chip) → List (Sheet c) → (ℕ → ℕ) → (ℕ → ℕ)
after_sheets c [] file = file
after_sheets c (x ∷ xs) file = after_sheets c xs (carried_out c (steps_of x.reading (settings_of x.plan x.reading)) file)

-- sheets leave the chip as they want to find it
abbrev pub StaysAwake : Type 0
StaysAwake = (c : Chip) (sheets : List (Sheet c)) (before : ℕ → ℕ) → Awake c before → Awake c (after_sheets c sheets before)
