-- "Give up. From computing: pending becomes held, the district is idle and is marked as having given up. From waiting: each item becomes its pending value where the
-- transaction completes and its held value where it aborts; idle." (document 01, Events)
use Rattle.std.specs.Prelude.{Bool, not, cond, [], ◌∷◌, ℕ, set}
use Rattle.book.specs.declared.Refusal.TheVariants.{NoDistrict, NotOpen, NotOnIt, Unsound}
use Rattle.book.specs.declared.Book.{Book}
use Rattle.book.specs.declared.Item.{Item}
use Rattle.book.specs.declared.Open.{Open}
use Rattle.book.specs.declared.Done.{Done}
use Rattle.book.specs.Answers.{Answer, first_of}
use Rattle.book.specs.Rows.{rows}
use Rattle.book.specs.Book.{record_at, place_of, including, with_records, with_items, with_open, open_of}
use Rattle.book.specs.Records.{computing_on, busy_on, give_up_record}
use Rattle.book.specs.Items.{concerned, drop, split}
use Rattle.book.specs.Transactions.{unsound, not_open, no_district, done}

-- 15, 4, 1, 9: "give up: neither computing nor waiting on it"
unfoldable pub give_up_answer : ℕ → Book → ℕ → ℕ → Answer
give_up_answer w b n d =
    first_of (
    (unsound w b, Unsound)
    ∷ (not_open w b n, NotOpen)
    ∷ (no_district b d, NoDistrict)
    ∷ (not (busy_on n (record_at b d)), NotOnIt)
    ∷ []
    )

-- an item when district d gives up on the transaction number n, at place q, from computing or not
unfoldable pub give_up_item : ℕ → Book → ℕ → ℕ → ℕ → Bool → Item → Item
give_up_item w b n d q from_computing x =
    let either : Item = split w q x in
    let its : Item = cond from_computing (drop x) either in
    cond (concerned b n d x) its x

-- an open transaction on which district d gave up before it was ready
abbrev pub marked : ℕ → Open → Open
marked d o = record { number = o.number; touched = o.touched; ready = o.ready; gave = including o.gave d; decision = o.decision }

-- the district is idle, its items are as above, and the mark is set where it was computing
unfoldable pub gave_up : ℕ → Book → ℕ → ℕ → Book
gave_up w b n d =
    let q : ℕ = place_of w b n in
    let from_computing : Bool = computing_on n (record_at b d) in
    with_open
    (with_items (with_records b (set b.records d (give_up_record (record_at b d)))) (rows (λ i x. give_up_item w b n d q from_computing x) b.count b.items))
    (cond from_computing (set b.«open» q (marked d (open_of w b n))) b.«open»)

-- the call: transaction number n, district d
unfoldable pub give_up : ℕ → Book → ℕ → ℕ → Done
give_up w b n d = done w (give_up_answer w b n d) (gave_up w b n d) b
