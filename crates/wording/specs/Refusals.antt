-- The meaning of each refusal, by its number (docs/FORMAT.md, Refusals).
use Rattle.std.specs.Prelude.{List, [], ◌∷◌, leb}
use Prim.Native.{Nat.ℕ, String.String}
use Rattle.base.specs.Choice.{pick}
use Rattle.wording.specs.Rows.{row_text}

-- a row for each refusal; row 0 is for a number that is no refusal
unfoldable pub refusal_rows : List String
refusal_rows =
    "Unknown refusal."
    ∷ "A drive strength of the ring oscillator is over 7."  -- 1
    ∷ "The divider of the ring oscillator is over 62815, on the RP235x over 22015."  -- 2
    ∷ "The settling time is too long: its cycles do not fit in 32 bits."  -- 3
    ∷ "The startup delay of the crystal is over 16383: the delay multiplier is too large."  -- 4
    ∷ "The system PLL is not valid: a divider, the reference or the VCO is out of range."  -- 5
    ∷ "The USB PLL is not valid: a divider, the reference or the VCO is out of range."  -- 6
    ∷ "The divider of the reference clock is not 1 to 4."  -- 7
    ∷ "The reference clock is 0 Hz, or 512 MHz or more."  -- 8
    ∷ "The whole part of the system clock's divider is not 1 to 16777215; on the RP235x it is 0."  -- 9
    ∷ "The system clock is 0 Hz: its source is absent or its divider too large."  -- 10
    ∷ "The source of the peripheral clock is absent or 0 Hz."  -- 11
    ∷ "The USB clock is not valid: its source is 0 Hz, its divider not 1 to 4 or its phase over 3."  -- 12
    ∷ "The ADC clock is not valid: its source is 0 Hz, its divider not 1 to 4 or its phase over 3."  -- 13
    ∷ "The RTC clock is not valid: its source is 0 Hz, its divider or phase out of range, or it is over 65535 Hz."  -- 14
    ∷ "No valid PLL setting was found for what was asked."  -- 15
    ∷ "The PLL has no output: its reference or a post divider is 0, or its VCO or the product of its post dividers is too large."  -- 16
    ∷ "The PIO divider is out of range: the target is 0, over the system clock or too low."  -- 17
    ∷ "The regulator's reading is over 15, on the RP235x over 31, or no voltage has this code."  -- 18
    ∷ "The buffer is too short for what is to be written."  -- 19
    ∷ "This is no clock sheet: its length is no multiple of 8 or over 528, or a step is not valid."  -- 20
    ∷ "This is no runner: a number in it is out of range."  -- 21
    ∷ "A PLL did not lock in time: the sheet has to be started again."  -- 22
    ∷ "The Gpout source is unknown, or the whole part of its divider is too large."  -- 23
    ∷ "The input cannot be read: it is not what the program takes."  -- 24
    ∷ "No USB PLL gives 48 MHz from this crystal."  -- 25
    ∷ "No accepted plan gives these bytes at this reading."  -- 26
    ∷ "This sheet is not the one that the runner was started with."  -- 27
    ∷ "There is no such board: they are numbered from 0 to 7."  -- 28
    ∷ "There is no such slot: they are numbered from 0 to 3."  -- 29
    ∷ "The slot was never saved."  -- 30
    ∷ "The count is over 10000."  -- 31
    ∷ []

-- a number past the table has row 0
unfoldable pub refusal_text : ℕ → List ℕ
refusal_text number = row_text refusal_rows (pick (leb number 31) number 0)
