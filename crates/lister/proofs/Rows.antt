-- Worked values of the lister, evaluated from the definitions.
use mathlib.Core.{Path.◌≡◌, Path.refl, List.[], List.◌∷◌, List.flat_map}
use Rattle.base.specs.Answer.{value, refusal}
use Rattle.pll.specs.Search.{falling, rising, setting, keep}
use Rattle.lister.specs.Lister.{in_order, list_of, list_bytes, listed_of}

-- 125 MHz from 12 MHz, and the room for it
pub rows :
    (list_of 12000000 125000000 ≡ setting 125 6 2 ∷ setting 125 4 3 ∷ [])
    × (list_bytes (list_of 12000000 125000000) ≡ 62 ∷ 228 ∷ 62 ∷ 198 ∷ [])
    × (listed_of 12000000 125000000 4 ≡ value 4)
    × (listed_of 12000000 125000000 3 ≡ refusal 19)
unfolding list_of in_order rising list_bytes keep falling flat_map
rows = (refl, refl, refl, refl)

-- the order: the lowest feedback divider first
pub rising-row :
    list_of 12000000 48000000
    ≡ setting 64 4 4
    ∷ setting 72 6 3
    ∷ setting 80 5 4
    ∷ setting 84 7 3
    ∷ setting 96 6 4
    ∷ setting 100 5 5
    ∷ setting 112 7 4
    ∷ setting 120 6 5
    ∷ []
unfolding list_of in_order rising keep falling flat_map
rising-row = refl

-- the ends of the input, of the feedback dividers and of the VCO
pub end-rows :
    (list_of 5000000 1600000000 ≡ setting 320 1 1 ∷ []) × (list_of 100000000 100000000 ≡ setting 16 4 4 ∷ [])
unfolding list_of in_order rising keep falling flat_map
end-rows = (refl, refl)

-- empty lists: a target that no setting meets, a target of 0, an input of 0, and inputs that the search refuses
pub none_rows :
    (listed_of 12000000 1 0 ≡ value 0)
    × (listed_of 12000000 0 0 ≡ value 0)
    × (listed_of 0 125000000 0 ≡ value 0)
    × (listed_of 100000001 100000001 0 ≡ value 0)
    × (listed_of 4999999 1599999680 0 ≡ value 0)
unfolding list_of in_order rising keep falling flat_map
none_rows = (refl, refl, refl, refl, refl)
