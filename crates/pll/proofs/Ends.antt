-- The feedback dividers that the VCO permits are all the numbers between two ends, which divisions of the VCO range give.
use Rattle.std.specs.Prelude.{◌≡◌, refl, true, false, ℕ, zero, suc, max, ◌+◌, ◌*◌, ◌/◌, ◌≤◌, ◌<◌}
use mathlib.Core.{Path.sym, Path.ap, Path.subst, Path.◌∙◌, Logic.⊎_elim}
use Rattle.std.specs.Int.{div_ceil}
use Rattle.std.proofs.lemmas.{Grind.div_ceil_times, Bool.false_from_ne_true}
use native.Mathlib.{Omega.arith, Nat.mul-le-mul_left, Nat.mul-div-le, Nat.lt-mul-div-succ, Nat.le-div_iff_mul-le}
use native.Mathlib.{Nat.div-lt_iff_lt-mul, Nat.mul-add, Nat.mul-one, Nat.mul_comm, Nat.eq-or-lt_of_le, Decide.dec_le}
use Rattle.base.specs.Answer.{Answer, value, refusal}
use Rattle.pll.specs.Ranges.{reference_min, feedback_min, feedback_max, vco_min, vco_max}
use Rattle.pll.specs.{Search.falling, Search.rising, Search.setting, Search.permitted, Ends.first_permitted, Ends.highest_of}
use Rattle.pll.specs.{Ends.lowest_of, Law.VcoPermits, Law.HighestPermitted, Law.LowestPermitted}
use Rattle.pll.proofs.Candidates.{a-candidate, candidate-permits, candidate-permitted, permitted-candidate}

module _ (input : ℕ) where
  -- what the VCO permits at two dividers it permits between them
  pub permits-between : (low fb high : ℕ) → VcoPermits input low → VcoPermits input high → low ≤ fb → fb ≤ high
      → VcoPermits input fb
  permits-between low fb high a b l h =
      record {
        low = omega (arith, a.low);
        high = omega (arith, b.high);
        vco = record {
          low = omega (arith, a.vco.low, mul-le-mul_left input l);
          high = omega (arith, b.vco.high, mul-le-mul_left input h);
        };
      }

  -- the test of a permitted divider, and of one that is not
  is-permitted : (fb : ℕ) → reference_min ≤ input → VcoPermits input fb → permitted input (setting fb 1 1) ≡ true
  is-permitted fb least v =
      candidate-permitted input (setting fb 1 1)
      (a-candidate input fb 1 1 least v (omega arith) (omega arith) (omega arith))

  not-permitted : (fb : ℕ) → fb ≤ feedback_max → (reference_min ≤ input → VcoPermits input fb → ⊥)
      → permitted input (setting fb 1 1) ≡ false
  not-permitted fb high n =
      false_from_ne_true (permitted input (setting fb 1 1))
      (λ e.
      let m = permitted-candidate input (setting fb 1 1) (refl, omega arith, omega arith, omega arith) high e in
      n m.reference_low (candidate-permits input (setting fb 1 1) m))

  -- the first of falling dividers is the highest, of rising ones the lowest
  first-falling : (n fb : ℕ) → n ≤ feedback_max → fb ≤ n → reference_min ≤ input → HighestPermitted input fb
      → first_permitted input (falling n) ≡ value fb
  unfolding first_permitted falling
  first-falling zero fb top l least h = absurd (omega (arith, h.one.low))
  first-falling (suc n) fb top l least h =
      ⊎_elim
      (λ e. rw (is-permitted (suc n) least (subst (VcoPermits input) e h.one), e))
      (λ s. rw (not-permitted (suc n) top (λ r v. omega (arith, h.last (suc n) v)))
      (first-falling n fb (omega arith) (omega arith) least h))
      (eq-or-lt_of_le l)

  first-rising : (n k fb : ℕ) → k ≤ fb → fb < k + n → k + n ≤ feedback_max + 1 → reference_min ≤ input
      → LowestPermitted input fb → first_permitted input (rising n k) ≡ value fb
  unfolding first_permitted rising
  first-rising zero k fb l h top least p = absurd (omega arith)
  first-rising (suc n) k fb l h top least p =
      ⊎_elim
      (λ e. rw (is-permitted k least (subst (VcoPermits input) (sym e) p.one), e))
      (λ s. rw (not-permitted k (omega arith) (λ r v. omega (arith, p.last k v)))
      (first-rising n (suc k) fb (omega arith) (omega arith) (omega arith) least p))
      (eq-or-lt_of_le l)

  none-falling : (n : ℕ) → n ≤ feedback_max → ((fb : ℕ) → reference_min ≤ input → VcoPermits input fb → ⊥)
      → first_permitted input (falling n) ≡ refusal 15
  unfolding first_permitted falling
  none-falling zero top none = refl
  none-falling (suc n) top none =
      rw (not-permitted (suc n) top (none (suc n))) (none-falling n (omega arith) none)

  none-rising : (n k : ℕ) → k + n ≤ feedback_max + 1 → ((fb : ℕ) → reference_min ≤ input → VcoPermits input fb → ⊥)
      → first_permitted input (rising n k) ≡ refusal 15
  unfolding first_permitted rising
  none-rising zero k top none = refl
  none-rising (suc n) k top none =
      rw (not-permitted k (omega arith) (none k)) (none-rising n (suc k) (omega arith) none)

  -- the inputs that have such dividers
  abbrev pub Served : Type 0
  Served = (reference_min ≤ input) × (input ≤ 100000000)

  pub served : Dec Served
  served = go (dec_le reference_min input) (dec_le input 100000000)
    where
      go : Dec (reference_min ≤ input) → Dec (input ≤ 100000000) → Dec Served
      go (yes l) (yes h) = yes (l, h)
      go (no l) h = no (λ s. l s.0)
      go (yes l) (no h) = no (λ s. h s.1)

  -- no other input has a permitted divider
  pub unserved : (Served → ⊥) → (fb : ℕ) → reference_min ≤ input → VcoPermits input fb → ⊥
  unserved n fb least v = n (least, omega (arith, v.vco.high, mul-le-mul_left input v.low))

  pub highest-none : (Served → ⊥) → highest_of input ≡ refusal 15
  unfolding highest_of
  highest-none n = none-falling feedback_max (omega arith) (unserved n)

  pub lowest-none : (Served → ⊥) → lowest_of input ≡ refusal 15
  unfolding lowest_of
  lowest-none n = none-rising feedback_max 1 (omega arith) (unserved n)

  module _ (s : Served) where
    some : 0 < input
    some = omega (arith, s.0)

    next : (k : ℕ) → input * (k + 1) ≡ input * k + input
    next k = mul-add input k 1 ∙ ap (λ (n : ℕ). input * k + n) (mul-one input)

    highest-is : HighestPermitted input (vco_max / input)
    highest-is =
        let below : vco_max / input < 321 = (div-lt_iff_lt-mul {x = vco_max} {y = 321} some).1 (omega (arith, s.0)) in
        record {
          one = record {
            low = (le-div_iff_mul-le {x = feedback_min} {y = vco_max} some).1 (omega (arith, s.1));
            high = omega arith;
            vco = record {
              low = omega (arith, s.1, next (vco_max / input), lt-mul-div-succ vco_max {b = input} some);
              high = mul-div-le vco_max input;
            };
          };
          last = λ k v.
              (le-div_iff_mul-le {x = k} {y = vco_max} some).1 (omega (arith, mul_comm k input, v.vco.high));
        }

    abbrev up : ℕ
    up = div_ceil vco_min input

    -- 750 MHz over the input, rounded up, but at least 16
    abbrev pub lowest : ℕ
    lowest = max up feedback_min

    lowest-vco : input * lowest ≤ vco_max
    lowest-vco = go (dec_le up feedback_min)
      where
        go : Dec (up ≤ feedback_min) → input * lowest ≤ vco_max
        go (yes h) = let e : lowest ≡ feedback_min = omega arith in rw e (omega (arith, s.1))
        go (no n) =
            let e : lowest ≡ up = omega arith in
            rw e (omega (arith, s.1, mul_comm up input, (div_ceil_times vco_min input some).1))

    lowest-last : (k : ℕ) → VcoPermits input k → lowest ≤ k
    lowest-last k v = go (dec_le up k)
      where
        go : Dec (up ≤ k) → lowest ≤ k
        go (yes h) = omega (arith, v.low)
        go (no n) =
            let l : k + 1 ≤ up = omega arith in
            absurd (omega (
              arith,
              v.vco.low,
              next k,
              mul-le-mul_left input l,
              mul_comm up input,
              (div_ceil_times vco_min input some).1,
            ))

    lowest-is : LowestPermitted input lowest
    lowest-is =
        let l : up ≤ lowest = omega arith in
        let around = div_ceil_times vco_min input some in
        record {
          one = record {
            low = omega arith;
            high = omega (arith, s.1, around.1, mul-le-mul_left up s.0);
            vco = record {
              low = omega (arith, around.0, mul-le-mul_left input l, mul_comm up input);
              high = lowest-vco;
            };
          };
          last = lowest-last;
        }

    pub highest-value : highest_of input ≡ value (vco_max / input)
    unfolding highest_of
    highest-value =
        first-falling feedback_max (vco_max / input) (omega arith) highest-is.one.high s.0 highest-is

    pub lowest-value : lowest_of input ≡ value lowest
    unfolding lowest_of
    lowest-value =
        first-rising feedback_max 1 lowest (omega (arith, lowest-is.one.low)) (omega (arith, lowest-is.one.high))
        (omega arith) s.0 lowest-is

    pub lowest-some : (fb : ℕ) × (lowest_of input ≡ value fb)
    lowest-some = (lowest, lowest-value)

  abbrev pub number : Answer ℕ → ℕ
  number (value n) = n
  number (refusal n) = n

  -- an input that has an end is served
  pub end-served : (a : Answer ℕ) (fb : ℕ) → a ≡ value fb → ((Served → ⊥) → a ≡ refusal 15) → Served
  end-served a fb e none = go served
    where
      go : Dec Served → Served
      go (yes s) = s
      go (no n) = absurd (let r = none n in let z : ◌≡◌ {A = ℕ} 0 1 = cc in omega arith)

  -- the divider that is found is the highest; then the lowest
  pub highest-right : (fb : ℕ) → highest_of input ≡ value fb → Served × HighestPermitted input fb
  highest-right fb e =
      let s = end-served (highest_of input) fb e highest-none in
      (s, subst (HighestPermitted input) (ap number (sym (highest-value s) ∙ e)) (highest-is s))

  pub lowest-right : (fb : ℕ) → lowest_of input ≡ value fb → LowestPermitted input fb
  lowest-right fb e =
      let s = end-served (lowest_of input) fb e lowest-none in
      subst (LowestPermitted input) (ap number (sym (lowest-value s) ∙ e)) (lowest-is s)

  -- every divider between the ends is permitted
  pub between-permitted : (low high fb : ℕ) → lowest_of input ≡ value low → highest_of input ≡ value high
      → low ≤ fb → fb ≤ high → VcoPermits input fb
  between-permitted low high fb l h =
      permits-between low fb high (lowest-right low l).one (highest-right high h).1.one

  -- no divider outside the ends is permitted
  pub outside-refused : (low high fb : ℕ) → lowest_of input ≡ value low → highest_of input ≡ value high
      → VcoPermits input fb → (low ≤ fb) × (fb ≤ high)
  outside-refused low high fb l h v = ((lowest-right low l).last fb v, (highest-right high h).1.last fb v)

-- at 12 MHz the ends are 133 and 63
pub ends-at-12-mhz : (highest_of 12000000 ≡ value 133) × (lowest_of 12000000 ≡ value 63)
unfolding highest_of lowest_of first_permitted falling rising
ends-at-12-mhz = (refl, refl)

-- the ends that divisions give, and where there are none
pub ruleset ends = (lowest-value, highest-value, lowest-none, highest-none)
