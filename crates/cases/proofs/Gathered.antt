-- A line that is fed byte by byte is held as that line: each byte is stored after the last one, and a line of more than 4096
-- bytes stays marked as too long.
use mathlib.Core.{Path.◌≡◌, Path.refl, Path.ap, Path.◌∙◌, List.List, List.[], List.◌∷◌}
use Prim.Native.Nat.{ℕ, suc, ◌+◌, ◌≤◌, ◌<◌}
use native.Mathlib.{Nat.add-zero, Nat.zero-add, Decide.dec_le, Omega.arith}
use borrow.Author.Tests.{ne_eqb, lt-ltb, le-ltb}
use lib.{ListN.length, ListN.take, ListN.drop, ListN.set, Seq.sets, Seq.sets-eq, Seq.take-append_seam}
use Rattle.cases.specs.declared.lines.Held.{Held}
use Rattle.cases.specs.Lines.{held_of, held_text, fed, feeds, NoNewline, FedLine, FedTooMuch}

feeds-line : (line before : List ℕ) (n : ℕ) → NoNewline line → n + length line ≤ 4096
    → feeds (held_of before n) line ≡ held_of (sets before n line) (n + length line)
unfolding feeds fed
feeds-line [] before n other room = rw add-zero
feeds-line (b ∷ bs) before n other room =
    let one : n + 1 ≡ suc n = omega arith in
    let long : suc n + length bs ≡ n + suc (length bs) = omega arith in
    let first : fed (held_of before n) b ≡ held_of (set before n b) (suc n) =
    rw (ne_eqb b 10 other.0, lt-ltb n 4096 (omega arith), one) in
    ap (λ (s : Held). feeds s bs) first ∙ feeds-line bs (set before n b) (suc n) other.1 (omega arith) ∙ rw long

-- bytes stored at a buffer's start are its first bytes
first-bytes : (line before : List ℕ) → length line ≤ length before → take (length line) (sets before 0 line) ≡ line
first-bytes line before room =
    rw (rw zero-add at (sets-eq line before 0 (omega arith))) (take-append_seam line (drop (length line) before))

pub fed-line : FedLine
unfolding held_text
fed-line line before other size room =
    let all : feeds (held_of before 0) line ≡ held_of (sets before 0 line) (length line) =
    rw zero-add at (feeds-line line before 0 other (omega arith)) in
    rw (all, le-ltb 4096 (length line) room, first-bytes line before (omega arith))

-- a line that is too long already, and one that becomes too long after n held bytes
stays-over : (line before : List ℕ) → NoNewline line → feeds (held_of before 4097) line ≡ held_of before 4097
unfolding feeds fed
stays-over [] before other = refl
stays-over (b ∷ bs) before other = rw (ne_eqb b 10 other.0) (stays-over bs before other.1)

feeds-over : (line before : List ℕ) (n : ℕ) → NoNewline line → n ≤ 4096 → 4096 < n + length line
    → (feeds (held_of before n) line).len ≡ 4097
unfolding feeds fed
feeds-over [] before n other low high = absurd (omega arith)
feeds-over (b ∷ bs) before n other low high = elim (dec_le (n + 1) 4096) [
  | yes inside ↦
      let first : fed (held_of before n) b ≡ held_of (set before n b) (n + 1) =
      rw (ne_eqb b 10 other.0, lt-ltb n 4096 (omega arith)) in
      ap (λ (s : Held). (feeds s bs).len) first ∙ feeds-over bs (set before n b) (n + 1) other.1 inside (omega arith)
  | no out ↦
      let first : fed (held_of before n) b ≡ held_of before 4097 =
      rw (ne_eqb b 10 other.0, le-ltb n 4096 (omega arith)) in
      ap (λ (s : Held). (feeds s bs).len) first ∙ ap (λ (s : Held). s.len) (stays-over bs before other.1)
]

pub fed-too-much : FedTooMuch
unfolding held_text
fed-too-much line before other long = rw (feeds-over line before 0 other (omega arith) (omega arith))
