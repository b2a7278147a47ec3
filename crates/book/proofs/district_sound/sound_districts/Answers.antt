use borrow.Author.Rules.{rules}
use borrow.Author.Tests.{tests}
use mathlib.Core.Path.{◌≡◌, sym, ap, ◌∙◌}
use mathlib.Core.Bool.{Bool, cond}
use mathlib.Core.List.{List}
use Prim.Native.Nat.{ℕ}
use native.Mathlib.Omega.{arith}
use lib.Dec.{ltb}
use lib.ListN.{length, take}
use lib.Seq.{take-length}
use Rattle.std.specs.List.{list_all, enumerate_from}
use Rattle.std.proofs.lemmas.Iterator.{YieldsList-from_slice}
use Rattle.std.proofs.lemmas.Iterator.Consumers.{YieldsList-from_enumerate}
use Rattle.std.proofs.lemmas.Iterator.Search.{all_from_yields_List}
use Rattle.conditions.specs.Places.{places}
use Rattle.book.specs.declared.Record.{Record}
use Rattle.book.specs.Book.{most_districts, no_record}
use Rattle.book.specs.SoundTest.{zero_record, sound_record}
use Rattle.book.proofs.Lists.{all_numbered}
use Rattle.book.specs.SoundTest.{sound_district}
use Rattle.book.proofs.district_sound.sound_districts.Goals as goal

pub returns : goal.returns
unfolding sound_district
returns c =
    let long : length c.args.b.now.records ≡ most_districts = search rules in
    let sure : ℕ × Record → Bool = λ x. cond (ltb x.0 c.args.b.now.districts) (sound_record places c.args.b.now x.0 x.1) (zero_record x.1) in
    let them : take most_districts c.args.b.now.records ≡ c.args.b.now.records = ap (λ (n : ℕ). take n c.args.b.now.records) (sym long) ∙ take-length c.args.b.now.records in
    all_from_yields_List sure _ _ _ c.all.ensures.ran (YieldsList-from_enumerate (YieldsList-from_slice c.args.b.now.records cc) cc) (λ x b q k. search (rules, tests))
    ∙ ap (λ (xs : List Record). list_all sure (enumerate_from 0 xs)) (sym them)
    ∙ all_numbered no_record most_districts c.args.b.now.records (omega (arith, long)) sure
