-- Writing a plan as numbers and reading it from them are inverse to each other, part by part: a part's numbers read back as the
-- part, and a part that is read has these numbers.
use Rattle.std.specs.Prelude.{Option, Some, None, Bool, true, false, ◌&&◌, List, [], ◌∷◌, ◌≡◌, ℕ, zero, suc, min, ◌+◌, ◌≤◌, eqb, leb}
use Rattle.std.specs.Prelude.{length, get_or, take, drop, replicate}
use mathlib.Core.Path.{refl, sym, ap, ◌∙◌}
use native.Mathlib.{Numerals.add-one, Omega.arith}
use borrow.Author.Tests.{eqb-true, eq-eqb, ne_eqb, leb-true, le-leb}
use lib.Seq.{take-length, drop-cons}
use Rattle.base.specs.{Answer.value, Choice.pick, Widths.u8, Widths.u16, Widths.u32}
use Rattle.base.proofs.Bools.{either_way}
use Rattle.std.proofs.lemmas.Bool.{and_parts}
use Rattle.chip.specs.Voltage.{with_code}
use Rattle.config.specs.declared.{RtcClkConfig.RtcClkConfig}
use Rattle.config.specs.Codes.{range_code, ref_code, sys_code, peri_aux, aux_code, range_from, ref_from, sys_source_from, peri_from}
use Rattle.config.specs.Codes.{aux_from}
use Rattle.settings.proofs.Decoded.{range-code, peri-code, aux-code}
use Rattle.numbers.specs.Fields.{nth, byte_at}
use Rattle.numbers.specs.Row.{part_row, ring_on, pll_on, time_on, peri_on, aux_on, rtc_on}
use Rattle.numbers.specs.Plan.{flagged, strengths_at, ring_at, option_pll_at, divided_at}
use Rattle.numbers.proofs.Whole.{part-long}
use Rattle.numbers.specs.{Parts.fit_from, Parts.is_part, Typed.PllTyped, Typed.RingTyped, Typed.TimeTyped, Typed.AuxTyped, Typed.ClockTyped}

-- ---- numbers in a row

module _ {A : Type 0} (none : A) where
  -- k items from index i on
  abbrev pub items : ℕ → ℕ → List A → List A
  items zero i l = []
  items (suc k) i l = get_or l i none ∷ items k (i + 1) l

  pub items-drop : (k i : ℕ) (l : List A) → i + k ≤ length l → items k i l ≡ take k (drop i l)
  items-drop zero i l h = refl
  items-drop (suc k) i l h =
      rw (drop-cons l i none (omega arith), ← add-one i) (ap (λ r. get_or l i none ∷ r) (items-drop k (i + 1) l (omega arith)))

  pub items-whole : (k : ℕ) (l : List A) → length l ≡ k → items k 0 l ≡ l
  items-whole k l e = items-drop k 0 l (omega arith) ∙ ap (λ (n : ℕ). take n l) (sym e) ∙ take-length l

-- k numbers from index i on
abbrev pub row_from : ℕ → ℕ → List ℕ → List ℕ
row_from = items 0

pub row-drop : (k i : ℕ) (l : List ℕ) → i + k ≤ length l → row_from k i l ≡ take k (drop i l)
row-drop = items-drop 0

pub row-whole : (k : ℕ) (l : List ℕ) → length l ≡ k → row_from k 0 l ≡ l
row-whole = items-whole 0

pub cut : {n m : ℕ} → n ≤ m → min n m ≡ n
cut h = omega arith

pub both : {a b : Bool} → a ≡ true → b ≡ true → (a && b) ≡ true
both {a} {b} e f = rw (e, f)

-- the bounds that the limits give, number by number
abbrev pub Within : Bool → List ℕ → ℕ → List ℕ → Type 0
Within there n i [] = Unit {0}
Within there n i (limit ∷ limits) = (nth n i ≤ pick there limit 0) × Within there n (suc i) limits

pub fit : (there : Bool) (n : List ℕ) (i : ℕ) (limits : List ℕ) → Within there n i limits → fit_from there n i limits ≡ true
fit there n i [] w = refl
fit there n i (limit ∷ limits) (h, w) = both (le-leb (nth n i) (pick there limit 0) h) (fit there n (suc i) limits w)

pub fits : (there : Bool) (n : List ℕ) (i : ℕ) (limits : List ℕ) → fit_from there n i limits ≡ true → Within there n i limits
fits there n i [] e = tt
fits there n i (limit ∷ limits) e =
    let h = and_parts (leb (nth n i) (pick there limit 0)) (fit_from there n (suc i) limits) e in
    (leb-true (nth n i) (pick there limit 0) h.0, fits there n (suc i) limits h.1)

-- the numbers of a part that is there fit their limits, and those of an absent part are all 0
pub there-fits : (n limits : List ℕ) → nth n 0 ≡ 1 → Within true n 0 limits → is_part n 0 limits ≡ true
unfolding is_part
there-fits n limits e w = rw (eq-eqb (nth n 0) 1 e) (fit true n 0 limits w)

absent-row : (n : List ℕ) (i : ℕ) (limits : List ℕ) → Within false n i limits
    → replicate (length limits) 0 ≡ row_from (length limits) i n
absent-row n i [] w = refl
absent-row n i (limit ∷ limits) (h, w) =
    let z : 0 ≡ nth n i = omega arith in
    let rest : replicate (length limits) 0 ≡ row_from (length limits) (i + 1) n = rw add-one (absent-row n (suc i) limits w) in
    λ j. z j ∷ rest j

pub gone : (n limits : List ℕ) → is_part n 0 limits ≡ true → nth n 0 ≤ 0
    → replicate (length limits) 0 ≡ row_from (length limits) 0 n
unfolding is_part
gone n limits e h = absent-row n 0 limits (fits false n 0 limits (rw (ne_eqb (nth n 0) 1 (λ one. omega arith)) at e))

-- a part o that is read from the numbers n: by its flag all numbers are within the limits, or all are 0
by_flag : {A : Type 0} (row : A → List ℕ) (o : A) (n limits : List ℕ) → is_part n 0 limits ≡ true
    → (eqb (nth n 0) 1 ≡ true → nth n 0 ≡ 1 → Within true n 0 limits → row o ≡ row_from (length limits) 0 n)
    → (eqb (nth n 0) 1 ≡ false → row o ≡ replicate (length limits) 0) → row o ≡ row_from (length limits) 0 n
unfolding is_part
by_flag row o n limits e if-there if-absent =
    either_way (eqb (nth n 0) 1) (λ f. if-there f (eqb-true (nth n 0) 1 f) (fits true n 0 limits (rw f at e)))
    (λ f. if-absent f ∙ absent-row n 0 limits (fits false n 0 limits (rw f at e)))

-- ---- codes

-- a number within the range of a code is the code of the variant that it decodes to
pub codes : (n : ℕ) → (n ≤ 3 → (range_code (range_from n) ≡ n) × (aux_code (aux_from n) ≡ n)) × (n ≤ 2 → ref_code (ref_from n) ≡ n)
    × (n ≤ 4 → (sys_code (sys_source_from n) ≡ n) × (peri_aux (peri_from n) ≡ n))
codes zero = ((λ h. (refl, refl)), (λ h. refl), λ h. (refl, refl))
codes (suc zero) = ((λ h. (refl, refl)), (λ h. refl), λ h. (refl, refl))
codes (suc (suc zero)) = ((λ h. (refl, refl)), (λ h. refl), λ h. (refl, refl))
codes (suc (suc (suc zero))) = ((λ h. (refl, refl)), (λ h. absurd (omega arith)), λ h. (refl, refl))
codes (suc (suc (suc (suc zero)))) = ((λ h. absurd (omega arith)), (λ h. absurd (omega arith)), λ h. (refl, refl))
codes (suc (suc (suc (suc (suc n))))) =
    ((λ h. absurd (omega arith)), (λ h. absurd (omega arith)), λ h. absurd (omega arith))

pub code_read : {A : Type 0} (code_of_lem : A → ℕ) (code : ℕ) (vs : List A) (v : A)
    → with_code code_of_lem code vs ≡ value v → code_of_lem v ≡ code
code_read code_of_lem code [] v e = let z : ◌≡◌ {A = ℕ} 0 1 = cc in absurd (omega arith)
code_read code_of_lem code (u ∷ vs) v e =
    either_way (eqb code (code_of_lem u))
    (λ f.
    let first : value u ≡ value v = rw f at e in
    let same : u ≡ v = cc in
    ap code_of_lem (sym same) ∙ sym (eqb-true code (code_of_lem u) f))
    (λ f. code_read code_of_lem code vs v (rw f at e))

-- ---- the parts, each from index 0 on

-- an optional part with these numbers and limits that is written and read: its numbers are as many as limits and fit them, they read
-- back as the part, and numbers that fit are those of the part that is read from them
pub record Reads {A : Type 0} (size : ℕ) (on : A → List ℕ) (limits : List ℕ) (Typed : Option A → Type 0) (read : List ℕ → Option A)
    : Type 0
  where
    pub whole : (o : Option A) → row_from (length limits) 0 (part_row size on o) ≡ part_row size on o
    pub fit : (o : Option A) → Typed o → is_part (part_row size on o) 0 limits ≡ true
    pub back : (o : Option A) → Typed o → read (part_row size on o) ≡ o
    pub row : (n : List ℕ) → is_part n 0 limits ≡ true → part_row size on (read n) ≡ row_from (length limits) 0 n

-- the laws of a part follow from those of one that is there; the numbers of an absent one compute
reads : {A : Type 0} {size : ℕ} {on : A → List ℕ} {limits : List ℕ} {Typed : Option A → Type 0} {read : List ℕ → Option A}
    → length limits ≡ size + 1
    → ((a : A) → length (on a) ≡ size)
    → ((a : A) → Typed (Some a) → Within true (1 ∷ on a) 0 limits)
    → ((a : A) → Typed (Some a) → read (1 ∷ on a) ≡ Some a)
    → is_part (replicate (size + 1) 0) 0 limits ≡ true
    → read (replicate (size + 1) 0) ≡ None
    → ((n : List ℕ) → eqb (nth n 0) 1 ≡ true → nth n 0 ≡ 1 → Within true n 0 limits
    → part_row size on (read n) ≡ row_from (length limits) 0 n)
    → ((n : List ℕ) → eqb (nth n 0) 1 ≡ false → read n ≡ None)
    → Reads size on limits Typed read
reads {size} {on} {limits} {Typed} {read} long each within back none-fits none-back there none =
    record {
      whole = λ o. row-whole (length limits) (part_row size on o) (part-long size on each o ∙ sym long);
      fit = fitting;
      back = reading;
      row = λ n e. by_flag (part_row size on) (read n) n limits e (there n) (λ f. rw (none n f, long));
    }
  where
    fitting : (o : Option _) → Typed o → is_part (part_row size on o) 0 limits ≡ true
    fitting (Some a) t = there-fits (1 ∷ on a) limits refl (within a t)
    fitting None t = none-fits

    reading : (o : Option _) → Typed o → read (part_row size on o) ≡ o
    reading (Some a) t = back a t
    reading None t = none-back

abbrev pub ring_limits : List ℕ
ring_limits = 1 ∷ u32 ∷ 3 ∷ u8 ∷ u8 ∷ u8 ∷ u8 ∷ u8 ∷ u8 ∷ u8 ∷ u8 ∷ u16 ∷ []

pub ring_part : Reads 11 ring_on ring_limits RingTyped ring_at
unfolding is_part ring_at strengths_at
ring_part =
    reads refl (λ r. refl) (λ r t. omega (arith, t, (range-code r.range).1))
    (λ r t. rw ((range-code r.range).0, cut t.1, cut t.2, cut t.3, cut t.4, cut t.5, cut t.6, cut t.7, cut t.8, cut t.9)) refl refl
    (λ n f one w. let s = w.1.1.1 in rw f
    (λ i. sym one i ∷ nth n 1 ∷ ((codes (nth n 2)).0 w.1.1.0).0 i ∷ cut s.0 i ∷ cut s.1.0 i ∷ cut s.1.1.0 i
    ∷ cut s.1.1.1.0 i ∷ cut s.1.1.1.1.0 i ∷ cut s.1.1.1.1.1.0 i ∷ cut s.1.1.1.1.1.1.0 i
    ∷ cut s.1.1.1.1.1.1.1.0 i ∷ cut s.1.1.1.1.1.1.1.1.0 i ∷ [])) (λ n f. rw f)

abbrev pub pll_limits : List ℕ
pll_limits = 1 ∷ u8 ∷ u16 ∷ u8 ∷ u8 ∷ []

pub pll_part : Reads 4 pll_on pll_limits PllTyped (λ n. option_pll_at n 0)
unfolding is_part option_pll_at
pll_part =
    reads refl (λ p. refl) (λ p t. omega (arith, t)) (λ p t. rw (cut t.0, cut t.1, cut t.2, cut t.3)) refl refl
    (λ n f one w. rw f (λ i. sym one i ∷ cut w.1.0 i ∷ cut w.1.1.0 i ∷ cut w.1.1.1.0 i ∷ cut w.1.1.1.1.0 i ∷ [])) (λ n f. rw f)

abbrev pub time_limits : List ℕ
time_limits = 1 ∷ u32 ∷ []

pub time_part : Reads 1 time_on time_limits TimeTyped (λ n. flagged n 0 (nth n 1))
unfolding is_part
time_part =
    reads refl (λ time. refl) (λ time t. omega (arith, t)) (λ time t. refl) refl refl
    (λ n f one w. rw f (λ i. sym one i ∷ nth n 1 ∷ [])) (λ n f. rw f)

abbrev pub peri_limits : List ℕ
peri_limits = 1 ∷ 4 ∷ []

pub peri_part : Reads 1 peri_on peri_limits (λ o. Unit {0}) (λ n. flagged n 0 (peri_from (nth n 1)))
unfolding is_part
peri_part =
    reads refl (λ s. refl) (λ s t. omega (arith, (peri-code s).1)) (λ s t. rw (peri-code s).0) refl refl
    (λ n f one w. rw f (λ i. sym one i ∷ ((codes (nth n 1)).2 w.1.0).1 i ∷ [])) (λ n f. rw f)

abbrev pub aux_limits : List ℕ
aux_limits = 1 ∷ 3 ∷ u8 ∷ u8 ∷ []

pub aux_part : Reads 3 aux_on aux_limits AuxTyped (λ n. divided_at n 0)
unfolding is_part divided_at
aux_part =
    reads refl (λ a. refl) (λ a t. omega (arith, t, (aux-code a.src).1)) (λ a t. rw ((aux-code a.src).0, cut t.0, cut t.1)) refl refl
    (λ n f one w. rw f (λ i. sym one i ∷ ((codes (nth n 1)).0 w.1.0).1 i ∷ cut w.1.1.0 i ∷ cut w.1.1.1.0 i ∷ [])) (λ n f. rw f)

abbrev pub rtc_limits : List ℕ
rtc_limits = 1 ∷ 3 ∷ u32 ∷ u8 ∷ u8 ∷ []

-- the RTC as it is read from index 0 on
abbrev pub rtc_in : List ℕ → Option RtcClkConfig
rtc_in n =
    flagged n 0 (record { src = aux_from (nth n 1); div_int = nth n 2; div_frac = byte_at n 3; phase = byte_at n 4 })

pub rtc_part : Reads 4 rtc_on rtc_limits ClockTyped rtc_in
unfolding is_part
rtc_part =
    reads refl (λ r. refl) (λ r t. omega (arith, t, (aux-code r.src).1)) (λ r t. rw ((aux-code r.src).0, cut t.1, cut t.2)) refl refl
    (λ n f one w. rw f (λ i. sym one i ∷ ((codes (nth n 1)).0 w.1.0).1 i ∷ nth n 2 ∷ cut w.1.1.1.0 i
    ∷ cut w.1.1.1.1.0 i ∷ [])) (λ n f. rw f)
