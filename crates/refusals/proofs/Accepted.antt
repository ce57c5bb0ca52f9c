-- For accepted settings each test is false; the bounds that these tests give follow.
use Rattle.std.specs.Prelude.{◌≡◌, refl, Bool, true, false, ◌||◌, List, [], ◌∷◌, Some, None, ℕ, ◌≤◌, ◌<◌, eqb, leb, ltb}
use borrow.Author.Tests.{leb-false, ltb-false, not-false}
use Rattle.base.specs.{declared.refusal.Refusal.Refusal, Choice.pick, Choice.in_range, Refusals.number_of, Widths.u24}
use Rattle.std.proofs.lemmas.Bool.{or_parts}
use Rattle.base.proofs.Bools.{either_way, in-range}
use Rattle.config.specs.declared.{DriveStrength.DriveStrength, RtcClkConfig.RtcClkConfig}
use Rattle.settings.specs.{declared.Settings.Settings, Frequencies.frequencies_of}
use Rattle.refusals.specs.Rules.{strength_over, divider_bad, reference_bad, whole_bad, rtc_bad}
use Rattle.refusals.specs.Refusals.{tests_of, first, refusal_of}

-- Every test of the list is false.
abbrev NoneOf : List (Refusal × Bool) → Type 0
NoneOf [] = Unit {0}
NoneOf ((reason, test) ∷ rest) = (test ≡ false) × NoneOf rest

none-holds : (tests : List (Refusal × Bool)) → first tests ≡ None → NoneOf tests
none-holds [] e = tt
none-holds ((reason, true) ∷ rest) e = absurd cc
none-holds ((reason, false) ∷ rest) e = (refl, none-holds rest e)

-- The test of a refusal's number, false for a number that is not in the list.
abbrev pub test_of : ℕ → List (Refusal × Bool) → Bool
test_of n [] = false
test_of n ((reason, test) ∷ rest) = pick (eqb n (number_of reason)) test (test_of n rest)

test-false : (n : ℕ) (tests : List (Refusal × Bool)) → NoneOf tests → test_of n tests ≡ false
test-false n [] h = refl
test-false n ((reason, test) ∷ rest) h =
    either_way (eqb n (number_of reason)) (λ t. rw t h.0) (λ t. rw t (test-false n rest h.1))

-- For accepted settings the test of each number is false.
pub accepted-by : (s : Settings) (reading : ℕ) → refusal_of s reading ≡ None
    → (n : ℕ) → test_of n (tests_of s (frequencies_of s) reading) ≡ false
unfolding refusal_of
accepted-by s reading e n =
    test-false n (tests_of s (frequencies_of s) reading) (none-holds (tests_of s (frequencies_of s) reading) e)

-- Where none of a row of tests holds, the last one does not hold and no earlier one does.
pub none_more : (row : Bool) (l x : ℕ) → row || ltb l x ≡ false → (row ≡ false) × (x ≤ l)
none_more row l x e = let h = or_parts row (ltb l x) e in (h.0, ltb-false l x h.1)

-- Every drive strength is at most 7.
pub record Few (g : DriveStrength) : Type 0 where
  pub low : (g.s0 ≤ 7) × (g.s1 ≤ 7) × (g.s2 ≤ 7) × (g.s3 ≤ 7)
  pub high : (g.s4 ≤ 7) × (g.s5 ≤ 7) × (g.s6 ≤ 7) × (g.s7 ≤ 7)

pub strengths-few : (g : DriveStrength) → strength_over g ≡ false → Few g
strengths-few g e =
    let h7 = none_more _ 7 g.s7 e in let h6 = none_more _ 7 g.s6 h7.0 in let h5 = none_more _ 7 g.s5 h6.0 in
    let h4 = none_more _ 7 g.s4 h5.0 in let h3 = none_more _ 7 g.s3 h4.0 in let h2 = none_more _ 7 g.s2 h3.0 in
    let h1 = none_more _ 7 g.s1 h2.0 in
    record {
      low = (ltb-false 7 g.s0 h1.0, h1.1, h2.1, h3.1);
      high = (h4.1, h5.1, h6.1, h7.1);
    }

pub divider-good : (d : ℕ) → divider_bad d ≡ false → (1 ≤ d) × (d ≤ 4)
unfolding divider_bad
divider-good d e = in-range 1 4 d (not-false (in_range 1 4 d) e)

pub whole-good : (top w : ℕ) → whole_bad top w ≡ false → (1 ≤ w) × (w ≤ top)
unfolding whole_bad
whole-good top w e = in-range 1 top w (not-false (in_range 1 top w) e)

pub reference-good : (hz : ℕ) → reference_bad hz ≡ false → hz < 512000000
unfolding reference_bad
reference-good hz e = leb-false 512000000 hz (or_parts (eqb hz 0) (leb 512000000 hz) e).1

pub rtc-good : (source hz : ℕ) (r : RtcClkConfig) → rtc_bad source hz (Some r) ≡ false
    → (1 ≤ r.div_int) × (r.div_int ≤ u24) × (r.phase ≤ 3) × (hz ≤ 65535)
unfolding rtc_bad
rtc-good source hz r e =
    let still : Bool = eqb source 0 in
    let h3 = none_more (still || whole_bad u24 r.div_int || ltb 3 r.phase) 65535 hz e in
    let h2 = none_more (still || whole_bad u24 r.div_int) 3 r.phase h3.0 in
    let whole = whole-good u24 r.div_int (or_parts still (whole_bad u24 r.div_int) h2.0).1 in
    (whole.0, whole.1, h2.1, h3.1)
