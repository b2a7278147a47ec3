-- Soundness as a test, row by row: "15: the book handed in is not sound" (document 01, Answer numbers). proofs/Laws/Sound.antt shows that it agrees with `Sound`.
use Rattle.std.specs.Prelude.{Bool, true, not, ◌&&◌, cond, ℕ, ◌^◌, eqb, leb, ltb}
use Rattle.conditions.specs.declared.condition.Condition.{Condition}
use Rattle.conditions.specs.Below.{all}
use Rattle.conditions.specs.Conditions.{number}
use Rattle.conditions.specs.Sets.{member}
use Rattle.polyvalues.specs.declared.polyvalue.Polyvalue.{Polyvalue}
use Rattle.polyvalues.specs.Polyvalues.{most_pairs, in_use, sound as sound_polyvalue}
use Rattle.polyvalues.specs.Operations.{same_rows, together}
use Rattle.polyvalues.specs.Values.{equal}
use Rattle.book.specs.declared.Record.{Record}
use Rattle.book.specs.declared.Item.{Item}
use Rattle.book.specs.declared.Open.{Open}
use Rattle.book.specs.declared.Book.{Book}
use Rattle.book.specs.Book.{most_districts, most_items, good_counts, last_number, no_item, record_at, item_at, open_at, idle, waiting, item_on, is_open, place_of, item_depends, some_depends}
use Rattle.book.specs.Forget.{kept}

-- a test that matters only where another holds
abbrev pub implies : Bool → Bool → Bool
implies x y = cond x y true

-- ---- equal rows

-- two conditions are the same set
abbrev pub same_condition : Condition → Condition → Bool
same_condition c d = eqb (number c) (number d)

-- two polyvalues are the same, rows past the count too
unfoldable pub same_polyvalue : Polyvalue → Polyvalue → Bool
same_polyvalue q r = eqb q.count r.count && (same_rows equal q.values r.values && same_rows same_condition q.conditions r.conditions)

-- two items are
unfoldable pub same_item : Item → Item → Bool
same_item x y = eqb x.district y.district && same_polyvalue x.held y.held && same_polyvalue x.pending y.pending

-- a record holds zeros
unfoldable pub zero_record : Record → Bool
zero_record r = eqb r.phase 0 && eqb r.transaction.0 0

-- a place does
unfoldable pub zero_open : Open → Bool
zero_open o = eqb o.number.0 0 && eqb o.touched 0 && eqb o.ready 0 && eqb o.gave 0 && eqb o.decision 0

-- ---- a district

-- the transaction o at place q is open, touches the busy district d, and knows of its readiness
unfoldable pub sound_busy : ℕ → ℕ → ℕ → Open → Bool → Bool
sound_busy w d q o is_waiting =
    ltb q w && member o.touched d && cond is_waiting (member o.ready d) (not (member o.ready d) && not (member o.gave d))

-- the record r of district d, below the count
unfoldable pub sound_record : ℕ → Book → ℕ → Record → Bool
sound_record w b d r =
    let q : ℕ = place_of w b r.transaction.0 in
    let busy : Bool = sound_busy w d q (open_at b q) (waiting r) in
    leb r.phase 2 && cond (idle r) (eqb r.transaction.0 0) busy

-- row d of the districts
unfoldable pub sound_district : ℕ → Book → ℕ → Bool
sound_district w b d = cond (ltb d b.districts) (sound_record w b d (record_at b d)) (zero_record (record_at b d))

-- ---- an item

-- "in an idle district pending equals held; in a busy one neither depends on its own transaction": on no transaction (0) or on the one numbered n
unfoldable pub sound_pending : ℕ → Book → ℕ → Item → Bool
sound_pending w b n x = cond (eqb n 0) (same_polyvalue x.pending x.held) (not (item_depends w x (place_of w b n)))

-- an item below the count
unfoldable pub sound_row : ℕ → Book → Item → Bool
sound_row w b x =
    ltb x.district b.districts && sound_polyvalue w x.held && sound_polyvalue w x.pending && sound_pending w b (item_on b x) x
    && leb (together (in_use x.held) (in_use x.pending)) most_pairs

-- row i of the items
unfoldable pub sound_item : ℕ → Book → ℕ → Bool
sound_item w b i =
    let x : Item = item_at b i in
    let used : Bool = sound_row w b x in
    let past : Bool = same_item x no_item in
    cond (ltb i b.count) used past

-- ---- a place

-- what the sets of an open transaction say of district d
unfoldable pub sound_at : Open → ℕ → Bool
sound_at o d =
    implies (member o.ready d) (not (member o.gave d) && member o.touched d)
    && implies (member o.gave d) (member o.touched d)
    && implies (eqb o.decision 1 && member o.touched d) (member o.ready d)

-- the open transaction o at place q
unfoldable pub sound_open : ℕ → Book → ℕ → Open → Bool
sound_open w b q o =
    ltb o.touched (2 ^ b.districts) && ltb o.ready (2 ^ b.districts) && ltb o.gave (2 ^ b.districts) && leb o.decision 2
    && all q (λ p. not (eqb (open_at b p).number.0 o.number.0)) && leb o.number.0 b.last.0
    && kept w b q o && all b.districts (sound_at o)

-- place q
unfoldable pub sound_place : ℕ → Book → ℕ → Bool
sound_place w b q =
    let o : Open = open_at b q in
    let used : Bool = sound_open w b q o in
    let free : Bool = zero_open o && not (some_depends w b q) in
    cond (is_open o) used free

-- ---- the book

-- the counts, the last number, then every row
unfoldable pub sound : ℕ → Book → Bool
sound w b =
    good_counts b.districts b.count && leb b.last.0 last_number && all most_districts (sound_district w b) && all most_items (sound_item w b) && all w (sound_place w b)
