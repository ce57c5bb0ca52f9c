-- The length that `init` answers is within its buffer (`kept`), so the slice is in bounds.
use Rattle.sheet.proofs.Kept.{kept}
use Rattle.checks.proofs.in_place.show_all.Goals as goal

pub slice_bounds-bytes-end : goal.slice_bounds-bytes-end
slice_bounds-bytes-end g c = (kept c.init.ensures _ c.in-Ok.is).inside

pub slice_bounds-show_sheet-end : goal.slice_bounds-show_sheet-end
slice_bounds-show_sheet-end g c = (kept c.init.ensures _ c.in-Ok.is).whole
