-- The loop's invariant: each place before q is sound.
use mathlib.Core.Path.{◌≡◌}
use mathlib.Core.Bool.{true}
use Rattle.conditions.specs.Below.{all}
use Rattle.conditions.specs.Places.{places as width}
use Rattle.book.specs.declared.Book.{Book}
use Rattle.book.specs.SoundTest.{sound_place}
use Rattle.book.specs.Tables.{TablesOf}
use Rattle.book.proofs.place_sound.sound_places.Given as goal

abbrev pub invariant-loop-q : goal.invariant-loop-q
invariant-loop-q l = (b : Book) → TablesOf width b l.t → all l.q (sound_place width b) ≡ true
