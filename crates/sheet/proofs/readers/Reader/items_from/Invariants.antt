-- The loop's invariant: what is left to read, after the items in the rows so far, tells all.
use mathlib.Core.Path.{◌≡◌}
use mathlib.Core.List.{[]}
use Prim.Native.Nat.{◌-◌}
use lib.ListN.{length, take}
use Rattle.sheet.specs.Readers.{repeat, one_more}
use Rattle.sheet.specs.Sections.{item}
use Rattle.sheet.specs.Told.{left}
use Rattle.sheet.proofs.readers.Reader.items_from.Given as goal

abbrev pub invariant-loop-row : goal.invariant-loop-row
invariant-loop-row l = record {
  rows : length l.row-items ≡ l.n;
  turns : l.row-index-end ≡ l.n;
  kept : l.self.sheet.now ≡ l.fn.self.sheet.now;
  tells : repeat l.n (one_more (item l.districts)) [] l.fn.self.at (left l.fn.self) ≡ repeat (l.n - l.row-index) (one_more (item l.districts)) (take l.row-index l.row-items) l.self.at (left l.self);
}
