use mathlib.Core.Path.{◌≡◌, refl, ap, ◌∙◌}
use mathlib.Core.Bool.{cond}
use Prim.Native.Nat.{◌+◌}
use Rattle.conditions.specs.Sets.{member}
use Rattle.book.specs.declared.Book.{Book}
use Rattle.book.specs.declared.begin.Room.{Room}
use Rattle.book.specs.Records.{begin_record}
use native.Mathlib.Omega.{arith}
use Rattle.conditions.specs.Places.{places}
use Rattle.book.specs.Rows.{rows_from, rows}
use Rattle.book.specs.Book.{item_at}
use Rattle.book.specs.Begin.{begin_item}
use Rattle.book.specs.States.{steps_of}
use Rattle.book.proofs.Known.{Held}
use Rattle.book.proofs.Loops.{item-turn}
use Rattle.book.proofs.Beginning.{begin-row, begun-is}
use Rattle.book.proofs.begin.begun.Goals as goal

pub overflow_add-number : goal.overflow_add-number
overflow_add-number c = record { fits = omega (arith, c.requires.districts_le_most_districts.2) }

pub begun_records-b-requires : goal.begun_records-b-requires
begun_records-b-requires c = omega (arith, ap (λ (b : Book). b.districts) c.loop-i.invariant, c.requires.districts_le_most_districts.0)

pub loop-i-init : goal.loop-i-init
unfolding rows_from
loop-i-init c = refl

pub offset_bounds-b-i : goal.offset_bounds-b-i
offset_bounds-b-i c = record { fits = omega (arith, c.requires.districts_le_most_districts.1) }

pub bounds-b-i : goal.bounds-b-i
bounds-b-i c = omega (arith, c.requires.districts_le_most_districts.1)

pub offset_bounds-w-i : goal.offset_bounds-w-i
offset_bounds-w-i c = record { fits = omega (arith, c.requires.districts_le_most_districts.1) }

pub bounds-w-i : goal.bounds-w-i
bounds-w-i c = omega (arith, c.requires.districts_le_most_districts.1)

pub offset_bounds-b-i-in-loop-i : goal.offset_bounds-b-i-in-loop-i
offset_bounds-b-i-in-loop-i c = record { fits = omega (arith, c.requires.districts_le_most_districts.1) }

pub bounds-b-i-in-loop-i : goal.bounds-b-i-in-loop-i
bounds-b-i-in-loop-i c = omega (arith, c.requires.districts_le_most_districts.1)

pub loop-i-preserved : goal.loop-i-preserved
loop-i-preserved c =
    let b = c.args.b in
    let i = c.loop-i.i in
    let held : Held b = record { values = _; own = c.well_formed.0 } in
    let row = begin-row places b (steps_of c.args.p) c.args.w c.requires.worked_out i (omega arith) (item_at c.loop-i.b i) c.touches.ensures c.begun_item.ensures in
    item-turn (begin_item places b (steps_of c.args.p)) b i c.loop-i.invariant held (omega (arith, c.requires.districts_le_most_districts.1)) row

pub offset_bounds-b-room : goal.offset_bounds-b-room
offset_bounds-b-room c = record { fits = omega (arith, c.requires.room_value.1) }

pub bounds-b-room : goal.bounds-b-room
bounds-b-room c = omega (arith, c.requires.room_value.1)

pub returns : goal.returns
returns c =
    let b = c.args.b in
    let last : c.loop-i.i ≡ b.count = omega arith in
    let all = rw last at c.loop-i.invariant in
    let records = c.begun_records-b.ensures ∙ ap (λ (now : Book). rows (λ d x. cond (member c.args.room.districts d) (begin_record (b.last.0 + 1)) x) now.districts now.records) all in
    begun-is places b (steps_of c.args.p) c.requires.districts_le_most_districts.0 all (ap (λ (r : Room). r.districts) c.requires.room_value.0) records (ap (λ (r : Room). r.place) c.requires.room_value.0)
