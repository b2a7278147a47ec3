-- Each section in its turn, and no byte behind them.
use mathlib.Core.Path.{◌≡◌, ap}
use native.Mathlib.Omega.{arith}
use lib.ListN.{length}
use Rattle.sheet.specs.Sections.{sheet}
use Rattle.sheet.specs.Told.{left}
use Rattle.sheet.proofs.Reading.{end_past}
use Rattle.sheet.proofs.sections.whole.Goals as goal

pub returns-clause-ok : goal.returns-clause-ok
unfolding sheet
returns-clause-ok c =
    let kept : c.events.new.self.sheet.now ≡ c.args.sheet.now = cc in (
      c.in_ok-events.ensures.0,
      c.events.new.self.at,
      left c.events.new.self,
      rw (c.in_ok-districts.ensures.told, c.in_ok-items.ensures.reads.told, c.in_ok-events.ensures.1.told) (end_past _ _ _ (omega (arith, ap length kept))),
    )
