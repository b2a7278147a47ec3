-- "Hear, at any district, also one not touched. If it is busy on that transaction it installs pending (completed) or drops it (aborted) and is idle. Then every held and
-- pending polyvalue there is reduced: its value under an assignment is the old one with that place set to the outcome." (document 01, Events)
use Rattle.std.specs.Prelude.{Bool, not, cond, [], ◌∷◌, ℕ, eqb, set}
use Rattle.book.specs.declared.Refusal.TheVariants.{NoDistrict, NotOpen, NotDecided, Unsound}
use Rattle.book.specs.declared.Book.{Book}
use Rattle.book.specs.declared.Item.{Item}
use Rattle.book.specs.declared.Open.{Open}
use Rattle.book.specs.declared.Done.{Done}
use Rattle.book.specs.Answers.{Answer, first_of}
use Rattle.book.specs.Rows.{rows}
use Rattle.book.specs.Book.{record_at, place_of, with_records, with_items, open_of}
use Rattle.book.specs.Records.{hear_record}
use Rattle.book.specs.Items.{there, concerned, install, drop, reduce_item}
use Rattle.book.specs.Forget.{decided}
use Rattle.book.specs.Transactions.{unsound, not_open, no_district, done}

-- 15, 4, 1, 12: "hear before a decision"
unfoldable pub hear_answer : ℕ → Book → ℕ → ℕ → Answer
hear_answer w b n d =
    first_of (
    (unsound w b, Unsound)
    ∷ (not_open w b n, NotOpen)
    ∷ (no_district b d, NoDistrict)
    ∷ (not (decided (open_of w b n)), NotDecided)
    ∷ []
    )

-- the outcome of a decided transaction: completed (true) or aborted
abbrev pub outcome : Open → Bool
outcome o = eqb o.decision 1

-- an item when district d hears the outcome of the transaction number n, at place q
unfoldable pub hear_item : ℕ → Book → ℕ → ℕ → ℕ → Bool → Item → Item
hear_item w b n d q completed x =
    let settled : Item = cond (concerned b n d x) (cond completed (install x) (drop x)) x in
    let reduced : Item = reduce_item w q completed settled in
    cond (there d x) reduced x

-- the district and its items have heard
unfoldable pub heard : ℕ → Book → ℕ → ℕ → Book
heard w b n d =
    let q : ℕ = place_of w b n in
    let completed : Bool = outcome (open_of w b n) in
    with_items (with_records b (set b.records d (hear_record n (record_at b d)))) (rows (λ i x. hear_item w b n d q completed x) b.count b.items)

-- the call: transaction number n, district d
unfoldable pub hear : ℕ → Book → ℕ → ℕ → Done
hear w b n d = done w (hear_answer w b n d) (heard w b n d) b
