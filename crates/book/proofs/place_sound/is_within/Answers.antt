-- A power of two is shifted to its place.
use mathlib.Core.Path.{ap₂}
use native.Mathlib.Omega.{arith}
use lib.Dec.{ltb}
use Rattle.conditions.proofs.Laws.Sets.{one_shl}
use Rattle.book.proofs.place_sound.is_within.Goals as goal

pub returns : goal.returns
returns c = ap₂ ltb c.from.ensures (one_shl 16 c.args.districts (omega (arith, c.requires)))
