-- Below half the range a number is itself, above it what is left of the range.
use mathlib.Core.Path.{◌≡◌, ◌∙◌}
use Prim.Native.Nat.{suc, ◌+◌, ◌*◌, ◌-◌}
use native.Mathlib.Omega.{arith}
use mir.Facts.{to_z-of_z}
use mir.Syntax.{w16}
use Rattle.polyvalues.specs.Values.{signed, of_bytes}
use Rattle.polyvalues.proofs.value.of_bytes.Goals as goal

pub returns : goal.returns
unfolding signed of_bytes
returns c =
    let n = c.args.high * 256 + c.args.low in
    let f : 65536 - suc n ≡ 65535 - n = omega arith in
    to_z-of_z {w = w16} (record { sfits = c.from_be_bytes.type_inv }) ∙ c.from_be_bytes.ensures ∙ rw f
