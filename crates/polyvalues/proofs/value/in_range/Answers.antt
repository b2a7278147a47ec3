-- Both ends are tested.
use mir.Facts.{to_z-of_z}
use Rattle.polyvalues.specs.Values.{in_range}
use Rattle.polyvalues.proofs.value.in_range.Goals as goal

pub returns-then-v-ge-LOWEST : goal.returns-then-v-ge-LOWEST
unfolding in_range
returns-then-v-ge-LOWEST c =
    let back = to_z-of_z c.ranges.v in
    let low = rw back at c.if-v-ge-LOWEST.true in
    simp (back, low)

pub returns-else-v-ge-LOWEST : goal.returns-else-v-ge-LOWEST
unfolding in_range
returns-else-v-ge-LOWEST c =
    let back = to_z-of_z c.ranges.v in
    let low = rw back at c.if-v-ge-LOWEST.false in
    simp (back, low)
