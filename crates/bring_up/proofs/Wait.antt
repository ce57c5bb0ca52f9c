-- A runner that was started with a sheet of well-formed steps, with at most k unready polls at each wait, k under
-- 1000000, reaches done: one call for each step and at most k for each wait.
use Rattle.std.specs.Prelude.{ℕ, zero, suc, ◌+◌, ◌-◌, ◌*◌, ◌≤◌, ◌<◌, Bool, true, false, ◌⊎◌, List, [], ◌∷◌, ◌≡◌, refl, length}
use Rattle.std.specs.Prelude.{get_or, replicate}
use native.Mathlib.Omega.{arith}
use native.Mathlib.Nat.{add-zero, zero-add, mul-add, mul-one, mul-zero, zero-mul, eq-or-lt_of_le}
use mathlib.Core.{Logic.inl, Logic.inr, Path.sym, Path.ap, Path.◌∙◌}
use Rattle.base.specs.Answer.{value}
use Rattle.base.proofs.Bools.{either_way}
use Rattle.step.specs.{Access.read_at, Sheet.max_steps, Sheet.encoded, Sheet.AllFormed, declared.Step.Step}
use Rattle.step.proofs.Sheets.{length-encoded, read-encoded}
use Rattle.runner.specs.{declared.Runner.Runner, declared.Reply.TheVariants.Passed, declared.Reply.TheVariants.Waiting, Run.outcome}
use Rattle.runner.specs.{Run.is_wait, Run.one_more, Run.take_step, Run.stored_by, Calls.stores_of}
use Rattle.runner.proofs.Going.{going, standing, wait-stores, hands, passes, polls-on, done_at, step-at}
use Rattle.bring_up.specs.Wait.{runner_after, call_answer, heard, HearsAtMost, OnTheWay, UpAfter, UpWithin}
use Rattle.bring_up.specs.Slow.{waits_in, HearsAll}
use Rattle.bring_up.proofs.Stream.{at, next, answered, stays-done, elsewhere, polled-here}
use Rattle.step.specs.declared.kind.Kind.TheVariants as kind

split : {A B C : Type 0} → A ⊎ B → (A → C) → (B → C) → C
split (inl a) f g = f a
split (inr b) f g = g b

not-both : {A : Type 0} (t : Bool) → t ≡ true → t ≡ false → A
not-both t e f = let z : ◌≡◌ {A = ℕ} 0 1 = cc in absurd (omega arith)

module _ (sheet : List ℕ) (n : ℕ) (few : n ≤ max_steps) (size : length sheet ≡ 8 * n) (ready : ℕ → Bool)
    (k : ℕ) (small : k < 1000000) (hears : HearsAtMost k sheet ready) where
  abbrev now : ℕ → Runner
  now i = at sheet ready i

  -- at call i the runner is at p, where c polls were unready, and no later position was polled
  record At (i p c polls total : ℕ) (freqs : List ℕ) : Type 0 where
    is : now i ≡ standing sheet p polls total freqs
    here : heard sheet ready p i ≡ c
    ahead : (q : ℕ) → p < q → heard sheet ready q i ≡ 0

  -- from call a on
  record Goes (a most : ℕ) (freqs : List ℕ) : Type 0 where
    calls : ℕ
    total : ℕ
    from : a ≤ calls
    within-most : calls ≤ most
    all : HearsAll k sheet ready → most ≤ calls
    before : (i : ℕ) → a ≤ i → i < calls → OnTheWay (call_answer sheet ready i)
    left : now calls ≡ standing sheet n 0 total freqs

  position : (i p c polls total : ℕ) (freqs : List ℕ) → At i p c polls total freqs → (now i).stepper.state.position ≡ p
  position i p c polls total freqs a = ap (λ (r : Runner). r.stepper.state.position) a.is

  -- a call that moves to the next position
  moved : (i p c polls total m : ℕ) (freqs held : List ℕ) → At i p c polls total freqs
      → now (suc i) ≡ standing sheet (p + 1) 0 m held → At (suc i) (p + 1) 0 0 m held
  moved i p c polls total m freqs held a e =
      let past : (q : ℕ) → p < q → heard sheet ready q (suc i) ≡ 0 =
      λ q h. elsewhere sheet ready i p q (position i p c polls total freqs a) h (a.ahead q h) in
      record { is = e; here = past (p + 1) (omega arith); ahead = λ q h. past q (omega arith) }

  one-more : (i most : ℕ) (freqs : List ℕ) → OnTheWay (call_answer sheet ready i) → Goes (suc i) most freqs
      → Goes i most freqs
  one-more i most freqs w g =
      record {
        calls = g.calls;
        total = g.total;
        from = omega (arith, g.from);
        within-most = g.within-most;
        all = g.all;
        before = λ j h l. first j h l (eq-or-lt_of_le h);
        left = g.left;
      }
    where
      first : (j : ℕ) → i ≤ j → j < g.calls → (i ≡ j) ⊎ (i < j) → OnTheWay (call_answer sheet ready j)
      first j h l (inl e) = rw e at w
      first j h l (inr m) = g.before j (omega arith) l

  -- at a wait with at most d more unready polls, given the rest of the sheet
  module _ (step : Step) (p : ℕ) (below : p < n) (read : read_at sheet (8 * p) ≡ value step)
      (w : is_wait step.kind ≡ true) (freqs ends : List ℕ) (rest : ℕ)
      (onward : (j m : ℕ) → At j (p + 1) 0 0 m freqs → Goes j (j + rest) ends) where
    -- the call with the ready flag
    passing : (d i c polls total : ℕ) → c + d ≡ k → polls ≤ c → At i p c polls total freqs → ready i ≡ true
        → Goes i (i + d + suc rest) ends
    passing d i c polls total e h a u =
        let taken : take_step (going p polls total) step (ready i) ≡ outcome (value Passed) (going (p + 1) 0 total) =
        rw u (passes (going p polls total) step w) in
        let call = step-at sheet n few size step p polls total freqs (ready i) _ below (omega arith) read taken in
        let g = onward (suc i) total (moved i p c polls total total freqs freqs a (next sheet ready i _ _ a.is call)) in
        let way : OnTheWay (call_answer sheet ready i) = rw (answered sheet ready i _ _ a.is call) tt in
        let waited : HearsAll k sheet ready → c < k → ready i ≡ false =
        λ s l. s i (rw (position i p c polls total freqs a) (omega (arith, a.here))) in
        one-more i (i + d + suc rest) ends way
        (record {
          calls = g.calls;
          total = g.total;
          from = g.from;
          within-most = omega (arith, g.within-most);
          all = λ s.
              let least = g.all s in
              let c≤k : c ≤ k = omega arith in
              split (eq-or-lt_of_le c≤k) (λ f. omega arith) (λ l. not-both (ready i) u (waited s l));
          before = g.before;
          left = g.left;
        })

    polling : (d i c polls total : ℕ) → c + d ≡ k → polls ≤ c → At i p c polls total freqs
        → Goes i (i + d + suc rest) ends
    polling zero i c polls total e h a =
        either_way (ready i) (passing 0 i c polls total e h a)
        (λ u. absurd
        (let now = polled-here sheet ready i p c step (position i p c polls total freqs a) read w u a.here in
        omega (arith, now, hears p (suc i))))
    polling (suc d) i c polls total e h a =
        either_way (ready i) (passing (suc d) i c polls total e h a)
        (λ u. let poll = polls-on p polls total step w (omega arith) in
        let taken : take_step (going p polls total) step (ready i)
        ≡ outcome (value Waiting) (going p poll.now (one_more total)) = rw u poll.is in
        let call = step-at sheet n few size step p polls total freqs (ready i) _ below (omega arith) read taken in
        let place = position i p c polls total freqs a in
        let way : OnTheWay (call_answer sheet ready i) = rw (answered sheet ready i _ _ a.is call) tt in
        let most : suc i + d + suc rest ≡ i + suc d + suc rest = omega arith in
        one-more i (i + suc d + suc rest) ends way
        (rw most at
        (polling d (suc i) (c + 1) poll.now (one_more total) (omega arith) (omega (arith, poll.more))
        (record {
          is = next sheet ready i _ _ a.is call;
          here = polled-here sheet ready i p c step place read w u a.here;
          ahead = λ q l. elsewhere sheet ready i p q place l (a.ahead q l);
        }))))

  wait-counts : (step : Step) (ts : List Step) → is_wait step.kind ≡ true
      → k * waits_in (step ∷ ts) ≡ k + k * waits_in ts
  wait-counts step ts w = rw (w, mul-add, mul-one)

  other-counts : (step : Step) (ts : List Step) → is_wait step.kind ≡ false → waits_in (step ∷ ts) ≡ waits_in ts
  other-counts step ts w = rw (w, zero-add)

  shifted : (d step : Step) (ts : List Step) (p : ℕ)
      → ((i : ℕ) → i < length (step ∷ ts) → read_at sheet (8 * (p + i)) ≡ value (get_or (step ∷ ts) i d))
      → (i : ℕ) → i < length ts → read_at sheet (8 * (p + 1 + i)) ≡ value (get_or ts i d)
  shifted d step ts p reads i h =
      let one : p + suc i ≡ p + 1 + i = omega arith in
      rw one at (reads (suc i) (omega arith))

  abbrev after : List Step → ℕ
  after ts = length ts + k * waits_in ts

  -- a step, given the rest of the sheet
  module _ (step : Step) (ts : List Step) (p : ℕ) (below : p < n) (read : read_at sheet (8 * p) ≡ value step)
      (onward : (f : List ℕ) (j m : ℕ) → At j (p + 1) 0 0 m f → Goes j (j + after ts) (stores_of ts f))
      (i total : ℕ) (freqs : List ℕ) (a : At i p 0 0 total freqs) where
    a-wait : is_wait step.kind ≡ true → Goes i (i + after (step ∷ ts)) (stores_of (step ∷ ts) freqs)
    a-wait w =
        let most : i + k + suc (after ts) ≡ i + after (step ∷ ts) = omega (arith, wait-counts step ts w) in
        let g : Goes i (i + k + suc (after ts)) (stores_of ts freqs) =
        polling step p below read w freqs (stores_of ts freqs) (after ts) (onward freqs) k i 0 0 total (omega arith)
        (omega arith) a in
        rw (most, ← wait-stores step freqs w) at g

    no-wait : is_wait step.kind ≡ false → Goes i (i + after (step ∷ ts)) (stores_of (step ∷ ts) freqs)
    no-wait w =
        let hand = hands (going p 0 total) step (ready i) w in
        let call = step-at sheet n few size step p 0 total freqs (ready i) _ below (omega arith) read hand in
        let way : OnTheWay (call_answer sheet ready i) = rw (answered sheet ready i _ _ a.is call) tt in
        let most : suc i + after ts ≡ i + after (step ∷ ts) = rw (other-counts step ts w) (omega arith) in
        let g : Goes (suc i) (suc i + after ts) (stores_of ts (stored_by step freqs)) =
        onward (stored_by step freqs) (suc i) total
        (moved i p 0 0 total total freqs (stored_by step freqs) a (next sheet ready i _ _ a.is call)) in
        one-more i (i + after (step ∷ ts)) (stores_of (step ∷ ts) freqs) way (rw most at g)

    either : Goes i (i + after (step ∷ ts)) (stores_of (step ∷ ts) freqs)
    either = either_way (is_wait step.kind) a-wait no-wait

  -- a runner that has just reached the steps ts
  through : (d : Step) (ts : List Step) (p : ℕ) → p + length ts ≡ n
      → ((i : ℕ) → i < length ts → read_at sheet (8 * (p + i)) ≡ value (get_or ts i d))
      → (freqs : List ℕ) (i total : ℕ) → At i p 0 0 total freqs → Goes i (i + after ts) (stores_of ts freqs)
  through d [] p e reads freqs i total a =
      let end : p ≡ n = omega arith in
      record {
        calls = i;
        total = total;
        from = omega arith;
        within-most = omega arith;
        all = λ s. rw mul-zero (omega arith);
        before = λ j h l. absurd (omega arith);
        left = rw end at a.is;
      }
  through d (step ∷ ts) p e reads freqs i total a =
      either step ts p (omega arith) (rw add-zero at (reads 0 (omega arith)))
      (through d ts (p + 1) (omega arith) (shifted d step ts p reads)) i total freqs a

-- the number of calls until done, with its upper bound, and its value with exactly k unready polls at each wait
record Comes (k : ℕ) (xs : List Step) (ready : ℕ → Bool) : Type 0 where
  calls : ℕ
  few : calls ≤ length xs + k * waits_in xs
  all : HearsAll k (encoded xs) ready → length xs + k * waits_in xs ≤ calls
  up : UpAfter calls (encoded xs) ready (stores_of xs (replicate 10 0))

comes : (xs : List Step) → AllFormed xs → length xs ≤ max_steps → (k : ℕ) → k < 1000000
    → (ready : ℕ → Bool) → HearsAtMost k (encoded xs) ready → Comes k xs ready
unfolding runner_after heard
comes xs f few k small ready hears =
    let none : Step = record { kind = kind.Unknown 0; f0 = 0; f1 = 0; f2 = 0; f3 = 0; f4 = 0 } in
    let g = through (encoded xs) (length xs) few (length-encoded xs) ready k small hears none xs 0
    (omega arith) (λ i h. simp zero-add (read-encoded xs none i f h)) (replicate 10 0) 0 0
    (record { is = refl; here = refl; ahead = λ q h. refl }) in
    let total = g.total in
    let freqs = stores_of xs (replicate 10 0) in
    let calls = g.calls in
    let sheet = encoded xs in
    let end : (i : ℕ) → calls ≤ i → runner_after sheet ready i ≡ standing sheet (length xs) 0 total freqs =
    λ i h. let e : (i - calls) + calls ≡ i = omega arith in
    rw e at (stays-done sheet ready (length xs) few (length-encoded xs) calls total freqs g.left (i - calls)) in
    record {
      calls = calls;
      few = omega (arith, g.within-most);
      all = λ s. omega (arith, g.all s);
      up =
          record {
            before = λ i l. g.before i (omega arith) l;
            ends = λ i h. answered sheet ready i _ _ (end i h)
                (done_at sheet (length xs) few (length-encoded xs) total freqs (ready i));
            stays = λ i h. end i h ∙ sym g.left;
            holds = ap (λ (r : Runner). r.stepper.freqs) g.left;
          };
    }

-- at most k unready polls at each wait: done after at most one call for each step and k for each wait
pub steps-come-up : (xs : List Step) → AllFormed xs → length xs ≤ max_steps → (k : ℕ) → k < 1000000
    → (ready : ℕ → Bool) → HearsAtMost k (encoded xs) ready
    → UpWithin (length xs + k * waits_in xs) (encoded xs) ready (stores_of xs (replicate 10 0))
steps-come-up xs f few k small ready hears =
    let c = comes xs f few k small ready hears in record { calls = c.calls; few = c.few; up = c.up }

-- exactly k unready polls at each wait: done after exactly one call for each step and k for each wait
pub steps-come-up-after : (xs : List Step) → AllFormed xs → length xs ≤ max_steps → (k : ℕ) → k < 1000000
    → (ready : ℕ → Bool) → HearsAtMost k (encoded xs) ready → HearsAll k (encoded xs) ready
    → UpAfter (length xs + k * waits_in xs) (encoded xs) ready (stores_of xs (replicate 10 0))
steps-come-up-after xs f few k small ready hears all =
    let c = comes xs f few k small ready hears in
    let same : c.calls ≡ length xs + k * waits_in xs = omega (arith, c.few, c.all all) in
    rw same at c.up

-- no unready poll: done after one call for each step
pub steps-come-up-ready : (xs : List Step) → AllFormed xs → length xs ≤ max_steps
    → (ready : ℕ → Bool) → HearsAtMost 0 (encoded xs) ready
    → UpAfter (length xs) (encoded xs) ready (stores_of xs (replicate 10 0))
steps-come-up-ready xs f few ready hears =
    rw (zero-mul, add-zero) at (steps-come-up-after xs f few 0 (omega arith) ready hears (λ i h. absurd (omega arith)))
