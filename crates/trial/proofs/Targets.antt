-- The target trial after one more draw.
use mathlib.Core.{List.◌++◌, Path.◌≡◌, Path.ap, Path.◌∙◌}
use Rattle.std.proofs.Common.{ℕ, suc, ◌+◌, add-one}
use Rattle.trial.specs.{Lcg.draw_of, Lcg.drawn, Targets.target_line, Targets.target_lines}

module _ (seed i : ℕ) where
  pub draw-next : {x y : ℕ} → x ≡ drawn seed i → y ≡ draw_of x → y ≡ drawn seed (i + 1)
  unfolding drawn
  draw-next before step = rw add-one (step ∙ ap draw_of before)

  pub lines_next : {y : ℕ} → y ≡ drawn seed (i + 1) → target_lines seed i ++ target_line y ≡ target_lines seed (i + 1)
  unfolding target_lines
  lines_next {y} drew =
      let last : y ≡ drawn seed (suc i) = rw add-one at drew in
      rw (last, add-one)
