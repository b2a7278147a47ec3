-- A sign where the value is below zero, and how far it is from zero.
use mathlib.Core.Path.{sym, ap, ◌∙◌}
use Prim.Native.Nat.{ℕ}
use mir.Facts.{to_z-of_z}
use Rattle.std.specs.Prelude.{unsigned_abs}
use Rattle.polyvalues.proofs.Texts.{signed_text, text-is}
use Rattle.polyvalues.proofs.text.distance.Goals as goal

pub returns-clause-v_value : goal.returns-clause-v_value
returns-clause-v_value c = text-is c.args.v ∙ ap (λ (n : ℕ). signed_text c.args.v n) (sym (c.from.ensures ∙ c.unsigned_abs.ensures.value ∙ ap unsigned_abs (to_z-of_z c.ranges.v)))
