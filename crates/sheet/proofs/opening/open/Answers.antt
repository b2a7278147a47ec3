-- A good sheet opens its book.
use mathlib.Core.Path.{◌∙◌}
use Rattle.conditions.specs.Places.{places}
use Rattle.book.proofs.Laws.Openings.{rows-opened}
use Rattle.sheet.proofs.Opens.{good}
use Rattle.sheet.proofs.opening.open.Goals as goal

pub returns-in-Ok : goal.returns-in-Ok
returns-in-Ok c = good places _ c.if-sheet-gt-MOST_BYTES.false _ _ c.in-Ok.ensures.ok.3 (c.opened.ensures ∙ rows-opened places _ _ c.in-Ok.ensures.count_le_most_items)
