-- The law of reading back allows exactly one answer.
use Rattle.std.specs.Prelude.{Option, Some, None, ◌≡◌, refl, List, ℕ}
use mathlib.Core.Path.{sym, ap, ◌∙◌}
use native.Mathlib.Omega.{arith}
use Rattle.base.specs.Answer.{Answer, value}
use Rattle.config.specs.declared.{ClockConfig.ClockConfig, XoscConfig.XoscConfig}
use Rattle.pll.specs.declared.PllConfig.{PllConfig}
use Rattle.settings.specs.Settings.{crystal_of, settings_of}
use Rattle.settings.specs.{declared.Crystal.Crystal, declared.Settings.Settings, LeastPlan.plan_with}
use Rattle.sheet.proofs.Demand3.{same-sheets}
use Rattle.readback.proofs.Canonical.{planned}
use Rattle.readback.specs.Law.{multiplier_in, time_of, Back, ReadBack, over, none, back}

-- The crystal of the settings, and an arbitrary one where it is absent.
crystal_in : Option Crystal → Crystal
crystal_in (Some x) = x
crystal_in None = record { hz = 0; delay = 0; sys = None; usb = None }

made : ℕ → Option PllConfig → Option PllConfig → ℕ → Option XoscConfig
made hz sys usb m = Some (record { hz = hz; sys_pll = sys; usb_pll = usb; delay_multiplier = m })

made-same : {a b m n : ℕ} {s t u v : Option PllConfig} → a ≡ b → s ≡ t → u ≡ v → m ≡ n → made a s u m ≡ made b t v n
made-same h i j k = cc

same-xosc : (x y : Option XoscConfig) → crystal_of x ≡ crystal_of y → multiplier_in x ≡ multiplier_in y → x ≡ y
unfolding crystal_in made
same-xosc (Some x) (Some y) e m =
    made-same (ap (λ (o : Option Crystal). (crystal_in o).hz) e) (ap (λ (o : Option Crystal). (crystal_in o).sys) e)
    (ap (λ (o : Option Crystal). (crystal_in o).usb) e) m
same-xosc (Some x) None e m = cc
same-xosc None (Some y) e m = cc
same-xosc None None e m = refl

planned-same : {r s : Settings} {x y : Option XoscConfig} {t u : Option ℕ} → r ≡ s → x ≡ y → t ≡ u
    → plan_with r x t ≡ plan_with s y u
planned-same h i j = cc

one-plan : {sheet : List ℕ} {reading : ℕ} {p q : ClockConfig} → Back sheet reading p → Back sheet reading q → p ≡ q
one-plan {sheet} {reading} {p} {q} a b =
    let s : settings_of p reading ≡ settings_of q reading =
    (same-sheets p q reading a.gives.typed b.gives.typed a.gives.accepted b.gives.accepted).0
    (a.gives.bytes ∙ sym b.gives.bytes) in
    let time : time_of p ≡ time_of q = omega (arith, a.time q b.gives, b.time p a.gives) in
    let x : p.xosc ≡ q.xosc =
    same-xosc p.xosc q.xosc (ap (λ (s : Settings). s.xosc) s)
    (omega (arith, a.multiplier q b.gives, b.multiplier p a.gives)) in
    sym (planned p reading a.gives.accepted a.gives.typed.fraction)
    ∙ planned-same s x (a.is_given ∙ ap Some time ∙ sym b.is_given)
    ∙ planned q reading b.gives.accepted b.gives.typed.fraction

pub readback-one : {sheet : List ℕ} {reading : ℕ} {a b : Answer ClockConfig} → ReadBack sheet reading a
    → ReadBack sheet reading b → a ≡ b
readback-one (over h) (over l) = refl
readback-one (over h) (none l n) = absurd (omega arith)
readback-one (over h) (back q l b) = absurd (omega arith)
readback-one (none h n) (over l) = absurd (omega arith)
readback-one (none h n) (none l m) = refl
readback-one (none h n) (back q l b) = absurd (n q b.gives)
readback-one (back p h a) (over l) = absurd (omega arith)
readback-one (back p h a) (none l n) = absurd (n p a.gives)
readback-one (back p h a) (back q l b) = ap value (one-plan a b)
