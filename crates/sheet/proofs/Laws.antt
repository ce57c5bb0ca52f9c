-- What is proved of each part of a sheet (Parts), and how parts are joined to a sheet (Sheets).
use Rattle.std.specs.Prelude.{◌≡◌, refl, Bool, true, false, List, [], ◌∷◌, ◌++◌, map, ℕ, ◌+◌, ◌≤◌, T}
use native.Mathlib.Omega.{arith}
use Rattle.base.proofs.Bools.{either_way}
use Rattle.std.proofs.lemmas.List.{map-append}
use Rattle.chip.specs.{declared.Chip.Chip, declared.Chip.TheVariants.Rp2040, declared.Chip.TheVariants.Rp235x, Chips.facts_of}
use Rattle.step.specs.{declared.Step.Step, declared.kind.Kind.Kind, Fields.Fill, Kinds.known, Kinds.is, Layout.widths, Steps.values}
use Rattle.step.specs.{Steps.storable, Sheet.AllFormed}
use Rattle.sheet.specs.Stores.{stores_in}
use Rattle.step.specs.declared.kind.Kind.TheVariants as kind

-- The three facts that make a step well formed, as a product, which one `omega` proves.
abbrev pub Good : Step → Type 0
Good s = T (known s.kind) × Fill (widths s.kind) (values s) × T (storable s.kind s.f0 s.f1)

abbrev pub AllGood : List Step → Type 0
AllGood [] = Unit {0}
AllGood (x ∷ xs) = Good x × AllGood xs

good-append : (xs ys : List Step) → AllGood xs → AllGood ys → AllGood (xs ++ ys)
good-append [] ys g h = h
good-append (x ∷ xs) ys g h = (g.0, good-append xs ys g.1 h)

pub all-formed : (xs : List Step) → AllGood xs → AllFormed xs
all-formed [] g = tt
all-formed (x ∷ xs) g = (record { is_known = g.0.0; fill = g.0.1; stores = g.0.2 }, all-formed xs g.1)

-- The sum of a weight over kinds, and over the kinds of steps.
abbrev pub weight : (Kind → ℕ) → List Kind → ℕ
weight w [] = 0
weight w (k ∷ ks) = w k + weight w ks

abbrev pub weigh : (Kind → ℕ) → List Step → ℕ
weigh w steps = weight w (map (λ step. step.kind) steps)

weight-append : (w : Kind → ℕ) (xs ys : List Kind) → weight w (xs ++ ys) ≡ weight w xs + weight w ys
weight-append w [] ys = omega arith
weight-append w (x ∷ xs) ys = omega (arith, weight-append w xs ys)

stores-append : (xs ys : List Step) → stores_in (xs ++ ys) ≡ stores_in xs ++ stores_in ys
stores-append [] ys = refl
stores-append (x ∷ xs) ys = rw (stores-append xs ys) (either_way (is x.kind kind.Store) (λ e. rw e) (λ e. rw e))

-- The laws of a part with the steps xs. The steps are well formed where `Fits` says that the plan's numbers fit their fields. For
-- any weight of the kinds the part weighs no more than with everything present, when its kinds are ks. Its stores are ss. `Back`
-- says how the part is read back.
pub record Laws (Fits : Type 0) (xs : List Step) (ks : List Kind) (ss : List Step) (Back : Type 0) : Type 0 where
  pub good : Fits → AllGood xs
  pub most : (w : Kind → ℕ) → weigh w xs ≤ weight w ks
  pub stores : stores_in xs ≡ ss
  pub back : Back

-- The laws of a part under another condition, from which the part's own follows.
infix 6 ◌given◌
pub ◌given◌ : {A B P : Type 0} {xs : List Step} {ks : List Kind} {ss : List Step} → Laws B xs ks ss P → (A → B) → Laws A xs ks ss P
◌given◌ p fits = record { good = λ h. p.good (fits h); most = p.most; stores = p.stores; back = p.back }

-- The laws of a part and of the steps after it give those of both. Each part is read back on its own.
infixr 5 ◌and◌
pub ◌and◌ : {A P Q : Type 0} {xs ys : List Step} {ks ls : List Kind} {ss ts : List Step}
    → Laws A xs ks ss P → Laws A ys ls ts Q → Laws A (xs ++ ys) (ks ++ ls) (ss ++ ts) (Unit {0})
◌and◌ {xs} {ys} p q =
    record {
      good = λ h. good-append xs ys (p.good h) (q.good h);
      most = λ w. simp (map-append, weight-append w) (omega (arith, p.most w, q.most w));
      stores = rw (stores-append xs ys, p.stores, q.stores);
      back = tt;
    }

-- The kinds of each part with everything present (docs/FORMAT.md, Order of a sheet).
abbrev pub mark_kinds : Chip → List Kind
mark_kinds Rp2040 = []
mark_kinds Rp235x = kind.ChipMark ∷ []

abbrev pub head_kinds : List Kind
head_kinds =
    kind.Reset ∷ kind.ResusOff ∷ kind.SysSource ∷ kind.WaitSys ∷ kind.RefSource ∷ kind.WaitRef
    ∷ kind.Reset ∷ kind.Release ∷ kind.WaitReleased ∷ []

abbrev pub ring_kinds : List Kind
ring_kinds = kind.Strengths0To3 ∷ kind.Strengths4To7 ∷ kind.RingDivider ∷ kind.RingOn ∷ kind.Store ∷ []

abbrev pub voltage_kinds : Chip → List Kind
voltage_kinds chip = (facts_of chip).voltage ∷ kind.Delay ∷ (facts_of chip).brownout ∷ []

abbrev pub pll_kinds : List Kind
pll_kinds =
    kind.PllPower ∷ kind.Delay ∷ kind.PllReference ∷ kind.PllFeedback ∷ kind.PllPower
    ∷ kind.WaitLock ∷ kind.PllPosts ∷ kind.PllPostOn ∷ kind.Delay ∷ []

abbrev pub crystal_kinds : List Kind
crystal_kinds = kind.Startup ∷ kind.CrystalOn ∷ kind.WaitStable ∷ (pll_kinds ++ pll_kinds)

abbrev pub source_kinds : List Kind
source_kinds = kind.Store ∷ kind.Store ∷ kind.Store ∷ []

abbrev pub tick_kinds : Chip → List Kind
tick_kinds Rp2040 = kind.Tick ∷ []
tick_kinds Rp235x = kind.TimerCycles ∷ kind.TimerOn ∷ kind.WatchdogCycles ∷ kind.WatchdogOn ∷ []

abbrev pub ref_kinds : Chip → List Kind
ref_kinds chip = kind.Store ∷ kind.RefControl ∷ kind.WaitRef ∷ kind.RefDivider ∷ tick_kinds chip

abbrev pub sys_kinds : Chip → List Kind
sys_kinds chip = kind.Store ∷ kind.SysControl ∷ kind.WaitSys ∷ kind.SysControl ∷ kind.WaitSys ∷ (facts_of chip).divider ∷ []

abbrev pub peri_kinds : List Kind
peri_kinds = kind.PeriControl ∷ kind.Store ∷ []

-- The kinds of the USB clock where `usb` is true, else of the ADC clock.
abbrev pub aux_kinds : (usb : Bool) → List Kind
aux_kinds true = kind.UsbDivider ∷ kind.UsbControl ∷ kind.Store ∷ []
aux_kinds false = kind.AdcDivider ∷ kind.AdcControl ∷ kind.Store ∷ []

abbrev pub rtc_kinds : Chip → List Kind
rtc_kinds Rp2040 = kind.RtcDivider ∷ kind.RtcControl ∷ kind.Store ∷ []
rtc_kinds Rp235x = []

abbrev pub last_kinds : List Kind
last_kinds = kind.Release ∷ kind.WaitReleased ∷ []

-- The kinds from the stores of the sources on, and those of the whole sheet.
unfoldable pub clocks_kinds : Chip → List Kind
clocks_kinds chip =
    source_kinds ++ (ref_kinds chip ++ (sys_kinds chip ++ (peri_kinds
    ++ (aux_kinds true ++ (aux_kinds false ++ (rtc_kinds chip ++ last_kinds))))))

unfoldable pub sheet_kinds : Chip → List Kind
sheet_kinds chip =
    mark_kinds chip ++ (head_kinds ++ (ring_kinds ++ (voltage_kinds chip ++ (crystal_kinds ++ clocks_kinds chip))))
