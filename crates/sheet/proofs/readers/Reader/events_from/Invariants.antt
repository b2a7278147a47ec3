-- The loop's invariant: what is left to read, after the events so far, tells all.
use mathlib.Core.Path.{◌≡◌}
use mathlib.Core.List.{List, []}
use Prim.Native.Nat.{◌-◌}
use Rattle.sheet.specs.declared.events.Event.{Event}
use Rattle.sheet.specs.Readers.{repeat, one_more}
use Rattle.sheet.specs.Events.{event}
use Rattle.sheet.specs.Told.{left}
use Rattle.sheet.proofs.readers.Reader.events_from.Given as goal

abbrev pub invariant-loop : goal.invariant-loop
invariant-loop l = record {
  kept : l.self.sheet.now ≡ l.fn.self.sheet.now;
  tells : (es : List Event) × (repeat l.n (one_more event) [] l.fn.self.at (left l.fn.self) ≡ repeat (l.n - l.counter) (one_more event) es l.self.at (left l.self));
}
