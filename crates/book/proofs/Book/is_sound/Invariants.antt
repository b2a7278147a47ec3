-- The loop's invariant: the items before i are sound, and these places are depended on.
use mathlib.Core.Path.{◌≡◌}
use mathlib.Core.Bool.{true}
use Rattle.conditions.specs.Below.{all}
use Rattle.conditions.specs.Places.{places as width}
use Rattle.book.specs.SoundTest.{sound_item}
use Rattle.book.proofs.Depended.{DependedBy}
use Rattle.book.proofs.Book.is_sound.Given as goal

abbrev pub invariant-loop-x : goal.invariant-loop-x
invariant-loop-x l = (all l.x-index (sound_item width l.fn.self) ≡ true) × DependedBy width l.fn.self l.x-index l.depended
