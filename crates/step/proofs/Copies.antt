-- Each iteration of the copy adds the bytes of one word; `copied` is the buffer in the end, with room for all words and without.
use Rattle.std.specs.Prelude.{true, false, ◌≡◌, List, [], ◌∷◌, ◌++◌, map, ℕ, ◌+◌, ◌*◌, ◌≤◌, ◌<◌, length, take, drop, get_or}
use mathlib.Core.{Path.refl, Path.sym, Path.ap, Path.◌∙◌, List.map-append, List.append-nil, List.append_assoc}
use lib.{ListN.length-map, Seq.length-take-le, Seq.take_at, Seq.drop_at, Seq.drop-drop, Seq.take-suc}
use borrow.Rule.Slice.PartMut.{put_mid}
use borrow.Author.Tests.{le-leb, lt-leb}
use native.Mathlib.{Numerals.add-one, Omega.arith}
use Rattle.step.specs.{Bytes.bytes8, Bytes.turned_of, Bytes.bytes_of, Access.room_for, Access.copied}
use Rattle.step.proofs.Sheets.{length-bytes_of, bytes_of-append}

-- After the first i words, writing word i extends the bytes at the start by its eight.
pub copied_more : (ws b₀ b new : List ℕ) (i k : ℕ) → i < length ws → k ≡ 8
    → b ≡ bytes_of (map turned_of (take i ws)) ++ drop (8 * i) b₀ → new ≡ bytes8 (turned_of (get_or ws i 0))
    → put_mid (8 * i) k b new ≡ bytes_of (map turned_of (take (i + 1) ws)) ++ drop (8 * (i + 1)) b₀
copied_more ws b₀ b new i k h eight e is =
    let w : ℕ = turned_of (get_or ws i 0) in
    let done : List ℕ = bytes_of (map turned_of (take i ws)) in
    let n : length done ≡ 8 * i =
    length-bytes_of (map turned_of (take i ws))
    ∙ ap (λ (k : ℕ). 8 * k) (length-map (take i ws) turned_of ∙ length-take-le i ws (omega arith)) in
    let front : take (8 * i) b ≡ done = rw e (take_at done (drop (8 * i) b₀) (8 * i) n) in
    let back : drop (8 * i) b ≡ drop (8 * i) b₀ = rw e (drop_at done (drop (8 * i) b₀) (8 * i) n) in
    let grown : bytes_of (map turned_of (take (i + 1) ws)) ≡ done ++ bytes8 w =
    rw (add-one, take-suc ws i 0, map-append turned_of)
    (bytes_of-append (map turned_of (take i ws)) (w ∷ []) ∙ ap (λ (l : List ℕ). done ++ l) (append-nil (bytes8 w))) in
    let past : 8 * (i + 1) ≡ 8 * i + 8 = omega arith in
    rw (front, back, eight, is, grown, past, ← drop-drop 8 (8 * i) b₀) (sym (append_assoc done (bytes8 w) _))

pub copied-room : (ws xs : List ℕ) → 8 * length ws ≤ length xs
    → (true ≡ room_for ws xs) × (bytes_of (map turned_of ws) ++ drop (8 * length ws) xs ≡ copied ws xs)
unfolding copied
copied-room ws xs h = simp (le-leb (8 * length ws) (length xs) h) (refl, refl)

pub copied-short : (ws xs : List ℕ) → length xs < 8 * length ws → (false ≡ room_for ws xs) × (xs ≡ copied ws xs)
unfolding copied
copied-short ws xs h = simp (lt-leb (8 * length ws) (length xs) h) (refl, refl)
