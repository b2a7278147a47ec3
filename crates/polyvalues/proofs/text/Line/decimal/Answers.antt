-- There is room, so that it is written.
use mathlib.Core.Path.{refl, sym, ◌∙◌}
use Rattle.conditions.proofs.Putting.{written-put, never-refused}
use Rattle.polyvalues.proofs.text.Line.decimal.Goals as goal

pub unwrap-self-requires : goal.unwrap-self-requires
unwrap-self-requires c = never-refused _ _ _ c.requires c.write_decimal.ensures.value

pub returns : goal.returns
returns c = record { put = written-put c.requires (sym c.unwrap-self.ensures ∙ c.write_decimal.ensures.value) c.write_decimal.ensures.buf_after; lent = refl }
