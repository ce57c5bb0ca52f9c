-- `trial::lcg::write_target` meets its contract: at 12 MHz the search finds a setting for every target (`search-finds`),
-- so the refusal cannot occur; the row and the newline are the line.
use Rattle.std.proofs.Common.{◌≡◌, ℕ, ◌∙◌, arith}
use Rattle.base.specs.Answer.{Answer, value, refusal}
use Rattle.pll.specs.declared.PllConfig.{PllConfig}
use Rattle.pll.proofs.Inputs.{search-finds}
use Rattle.trial.proofs.lcg.write_target.Goals as goal

never : {n : ℕ} {p : PllConfig} → ◌≡◌ {A = Answer PllConfig} (refusal n) (value p) → ⊥
never e = let z : ◌≡◌ {A = ℕ} 0 1 = cc in omega arith

pub returns-in_default : goal.returns-in_default
returns-in_default c = let x = c.args.x in
    let refused = rw c.in_default.is at c.find_pll_params.ensures in
    absurd (never (refused ∙ (search-finds 12000000 x (omega arith) (omega arith)).1))
