use borrow.Author.Rules.{rules}
use borrow.Author.Tests.{tests}
use mathlib.Core.Path.{◌∙◌}
use native.Mathlib.Omega.{arith}
use Rattle.std.proofs.lemmas.Iterator.{YieldsList-from_range}
use Rattle.std.proofs.lemmas.Iterator.Search.{all_from_yields_List}
use Rattle.conditions.proofs.Lists.{all_range}
use Rattle.book.specs.SoundTest.{sound_at}
use Rattle.book.proofs.place_sound.sound_sets.Goals as goal

pub returns : goal.returns
returns c =
    all_from_yields_List (sound_at c.args.o) _ _ _ c.all.ensures.ran (YieldsList-from_range 0 c.args.districts c.args.districts (cc) (omega arith)) (λ x b q k. search (rules, tests))
    ∙ all_range (sound_at c.args.o) c.args.districts
