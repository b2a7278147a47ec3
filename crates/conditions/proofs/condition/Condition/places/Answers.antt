use mathlib.Core.Path.{◌≡◌, refl, ap, ◌∙◌}
use mathlib.Core.Bool.{Bool}
use Prim.Native.Nat.{ℕ, ◌+◌, ◌*◌, ◌%◌, ◌^◌, ◌≤◌, ◌<◌}
use native.Mathlib.Nat.{pow-le-pow_right, zero-lt-suc}
use native.Mathlib.Omega.{arith}
use Rattle.std.specs.Int.{from_bool}
use Rattle.conditions.specs.Places.{places}
use Rattle.conditions.specs.Sets.{set_of}
use Rattle.conditions.specs.Conditions.{depends_on}
use Rattle.conditions.proofs.Laws.Sets.{set_of-lt, set_of-more, bit-shl}
use Rattle.conditions.proofs.condition.Condition.places.Goals as goal

-- place i, where the condition depends on it
more : (c i : ℕ) {set r : ℕ} {b : Bool} → i < places → set ≡ set_of i (depends_on places c) → b ≡ depends_on places c i → r ≡ from_bool b
    → set + r * 2 ^ i % 2 ^ 8 ≡ set_of (i + 1) (depends_on places c)
more c i h e f g = set_of-more (depends_on places c) i e refl (bit-shl 8 i _ (omega arith) (g ∙ ap from_bool f))

pub loop-i-init : goal.loop-i-init
unfolding set_of
loop-i-init c = refl

pub overflow_add-set : goal.overflow_add-set
overflow_add-set c =
    let sum = more c.args.self.0 c.loop-i.i c.loop-i-test.true c.loop-i.invariant c.depends.ensures c.from.ensures in
    let least : c.loop-i.i + 1 ≤ places = omega arith in
    let small : 2 ^ (c.loop-i.i + 1) ≤ 2 ^ places = pow-le-pow_right (zero-lt-suc 1) least in
    record { fits = omega (arith, sum, set_of-lt (c.loop-i.i + 1) (depends_on places c.args.self.0)) }

pub loop-i-preserved : goal.loop-i-preserved
loop-i-preserved c = more c.args.self.0 c.loop-i.i c.loop-i-test.true c.loop-i.invariant c.depends.ensures c.from.ensures
