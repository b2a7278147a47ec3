-- The loop's invariant: what is left to read, with the last code, tells all.
use mathlib.Core.Path.{◌≡◌}
use Prim.Native.Nat.{◌-◌}
use Rattle.sheet.specs.Readers.{repeat}
use Rattle.sheet.specs.Sections.{code}
use Rattle.sheet.specs.Told.{left}
use Rattle.sheet.proofs.readers.Reader.codes.Given as goal

abbrev pub invariant-loop : goal.invariant-loop
invariant-loop l = record {
  kept : l.self.sheet.now ≡ l.fn.self.sheet.now;
  tells : repeat l.n code 0 l.fn.self.at (left l.fn.self) ≡ repeat (l.n - l.counter) code l.last l.self.at (left l.self);
}
