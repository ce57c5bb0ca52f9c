-- The collected words of an accepted plan are ready to be copied, and each of the writer's three ends meets its contract.
use Rattle.std.specs.Prelude.{◌≡◌, refl, List, [], ◌++◌, map, ℕ, ◌*◌, ◌≤◌, ◌<◌, length, take, drop, replicate, Some, Result, Ok}
use Rattle.std.specs.Prelude.{Err}
use Rattle.base.specs.{Answer.value, Answer.refusal, Refusals.number_of, declared.refusal.Refusal.Refusal}
use mathlib.Core.Path.{sym, ap, ◌∙◌}
use lib.ListN.{length-map}
use borrow.Author.Tests.{lt-ltb, le-ltb, leb-true, leb-false}
use native.Mathlib.Omega.{arith}
use Rattle.step.specs.{declared.Step.Step, Bytes.turned_of, Bytes.bytes_of, Sheet.max_steps, Sheet.max_bytes, Sheet.encoded}
use Rattle.step.specs.Access.{room_for, copy_of, copied}
use Rattle.step.proofs.Sheets.{length-encoded}
use Rattle.config.specs.{declared.ClockConfig.ClockConfig, ChipSettings.FractionFits}
use Rattle.settings.specs.{Settings.settings_of, Frequencies.frequencies_of, Typed.Typed, declared.Settings.Settings}
use Rattle.settings.specs.declared.Frequencies.{Frequencies}
use Rattle.base.proofs.Bools.{either_way}
use Rattle.refusals.proofs.Examined.{examined-refused, examined-accepted}
use Rattle.refusals.specs.Refusals.{refusal_of, examined_of, Accepted}
use Rattle.sheet.specs.Writer.{sheet_bytes, refusal_in, init_answer, init_buffer, InitCall}
use Rattle.sheet.specs.{Steps.steps_of, Gather.Gathered, Gather.held, Gather.word_of, Gather.pushes}
use Rattle.sheet.proofs.{Sheets.steps-few, Gathering.Holds, Gathering.holds-pushes, Gathering.turned-back}

-- The words in use, byte-swapped as they are copied, have these bytes.
pub record Ready (g : Gathered) (bytes : List ℕ) : Type 0 where
  pub few : g.len ≤ max_steps
  pub room : g.len ≤ length g.words
  pub count : length (take g.len g.words) ≡ g.len
  pub size : length bytes ≡ 8 * g.len
  pub content : bytes_of (map turned_of (take g.len g.words)) ≡ bytes

ready_of : (xs : List Step) {g : Gathered} → length xs ≤ max_steps → g ≡ pushes (held (replicate max_steps 0) 0) xs
    → Ready g (encoded xs)
unfolding encoded
ready_of xs {g} few e =
    let none : Holds (held (replicate max_steps 0) 0) [] = record { count = refl; whole = refl; front = refl } in
    let h : Holds g (map word_of xs) =
    rw e (holds-pushes (held (replicate max_steps 0) 0) [] xs none (omega arith)) in
    let n : length (map word_of xs) ≡ length xs = length-map xs word_of in
    record {
      few = omega (arith, h.count);
      room = omega (arith, h.count, h.whole);
      count = rw h.front (sym h.count);
      size = omega (arith, length-encoded xs, h.count);
      content = ap (λ (ws : List ℕ). bytes_of (map turned_of ws)) h.front ∙ ap bytes_of (turned-back xs);
    }

module _ (g : Gathered) (bytes b : List ℕ) (y : Ready g bytes) where
  abbrev words : List ℕ
  words = take g.len g.words

  pub copy-short : {n : ℕ} → refusal n ≡ copy_of words b → (n ≡ 19) × (length b < length bytes) × (copied words b ≡ b)
  unfolding copied
  copy-short {n} same =
      either_way (room_for words b)
      (λ e. let end = rw e at same in absurd cc)
      (λ e.
      let end = rw e at same in
      rw e (cc, omega (arith, leb-false (8 * length words) (length b) e, y.count, y.size), refl))

  pub copy-whole : {x : Unit {0}} → value x ≡ copy_of words b
      → (length bytes ≤ length b) × (copied words b ≡ bytes ++ drop (length bytes) b)
  unfolding copied
  copy-whole {x} same =
      either_way (room_for words b)
      (λ e.
      rw e (omega (arith, leb-true (8 * length words) (length b) e, y.count, y.size), rw (y.content, y.count, y.size) refl))
      (λ e. let end = rw e at same in absurd cc)

-- The facts about a plan before its steps are collected.
pub record Looked (p : ClockConfig) (reading : ℕ) (s : Settings) (f : Frequencies) : Type 0 where
  pub settings-are : s ≡ settings_of p reading
  pub accepted : Accepted p reading
  pub frequencies-are : f ≡ frequencies_of s
  pub typed : Typed (settings_of p reading)

-- What is known of settings that `examine` answered.
abbrev pub Told : ClockConfig → ℕ → Settings → Result Frequencies Refusal → Type 0
Told p reading s r =
    ((s ≡ settings_of p reading) × FractionFits s.chip) × ((r ≡ examined_of s reading) × (FractionFits s.chip → Typed s))

pub looked : (p : ClockConfig) (reading : ℕ) {s : Settings} {f : Frequencies} → Told p reading s (Ok f) → Looked p reading s f
looked p reading {s} {f} t =
    let found = examined-accepted s reading f t.1.0 in
    record {
      settings-are = t.0.0;
      accepted = ap (λ (s : Settings). refusal_of s reading) (sym t.0.0) ∙ found.0;
      frequencies-are = found.1;
      typed = rw t.0.0 at (t.1.1 t.0.1);
    }

-- The facts about a plan that `examine` refused.
pub record Rejected (p : ClockConfig) (reading : ℕ) (reason : Refusal) : Type 0 where
  pub reason_is : refusal_in p reading ≡ Some reason
  pub typed : Typed (settings_of p reading)

pub turned : (p : ClockConfig) (reading : ℕ) {s : Settings} {reason : Refusal} → Told p reading s (Err reason) → Rejected p reading reason
turned p reading {s} {reason} t =
    record {
      reason_is = ap (λ (s : Settings). refusal_of s reading) (sym t.0.0) ∙ examined-refused s reading reason t.1.0;
      typed = rw t.0.0 at (t.1.1 t.0.1);
    }

pub ready : (p : ClockConfig) (reading : ℕ) {s : Settings} {f : Frequencies} {g : Gathered} → Looked p reading s f
    → (f ≡ frequencies_of s → g ≡ pushes (held (replicate max_steps 0) 0) (steps_of reading s))
    → Ready g (sheet_bytes p reading)
unfolding sheet_bytes
ready p reading l e =
    ready_of _ (steps-few reading (settings_of p reading)) (rw l.settings-are at (e l.frequencies-are))

-- Every sheet has at most 528 bytes.
pub sheet-most : (p : ClockConfig) (reading : ℕ) → length (sheet_bytes p reading) ≤ max_bytes
unfolding sheet_bytes
sheet-most p reading =
    let xs : List Step = steps_of reading (settings_of p reading) in
    omega (arith, length-encoded xs, steps-few reading (settings_of p reading))

module _ (p : ClockConfig) (reading : ℕ) (b : List ℕ) (t : Typed (settings_of p reading)) where
  pub refused-answer : {reason : Refusal} → refusal_in p reading ≡ Some reason → init_answer p reading b ≡ refusal (number_of reason)
  unfolding init_answer
  refused-answer e = rw e refl

  pub refused : {reason : Refusal} → refusal_in p reading ≡ Some reason → InitCall p reading b (Err reason) b
  unfolding init_answer init_buffer
  refused e = record { answer = rw e refl; bytes = rw e refl; typed = t }

  pub short-answer : Accepted p reading → length b < length (sheet_bytes p reading) → init_answer p reading b ≡ refusal 19
  unfolding init_answer
  short-answer h few = rw (h, lt-ltb _ _ few) refl

  pub too_short : Accepted p reading → length b < length (sheet_bytes p reading) → {reason : Refusal} → number_of reason ≡ 19
      → InitCall p reading b (Err reason) b
  unfolding init_answer init_buffer
  too_short h few same = record { answer = rw (h, lt-ltb _ _ few, same); bytes = rw (h, lt-ltb _ _ few); typed = t }

  pub accepted : Accepted p reading → length (sheet_bytes p reading) ≤ length b
      → InitCall p reading b (Ok (length (sheet_bytes p reading)))
      (sheet_bytes p reading ++ drop (length (sheet_bytes p reading)) b)
  unfolding init_answer init_buffer
  accepted h room = record { answer = rw (h, le-ltb _ _ room); bytes = rw (h, le-ltb _ _ room); typed = t }
