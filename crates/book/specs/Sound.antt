-- "Sound books: all the above; rows past the counts and free places hold zeros; .." (document 01, The book): the paragraph, clause by clause and in its order.
use Rattle.std.specs.Prelude.{◌≡◌, true, false, ℕ, ◌^◌, ◌≤◌, ◌<◌}
use Rattle.conditions.specs.Sets.{member}
use Rattle.polyvalues.specs.Polyvalues.{most_pairs, in_use, sound as sound_polyvalue}
use Rattle.polyvalues.specs.Operations.{together}
use Rattle.book.specs.declared.Record.{Record}
use Rattle.book.specs.declared.Item.{Item}
use Rattle.book.specs.declared.Open.{Open}
use Rattle.book.specs.declared.Book.{Book}
use Rattle.book.specs.Book.{most_districts, most_items, last_number, no_record, no_item, no_open, record_at, item_at, open_at, idle, item_on, is_open, place_of, open_of, item_depends, some_depends}
use Rattle.book.specs.Forget.{needed}

-- something holds of each district and its record
abbrev pub EachDistrict : Book → (ℕ → Record → Type 0) → Type 0
EachDistrict b P = (d : ℕ) → d < b.districts → P d (record_at b d)

-- of each item
abbrev pub EachItem : Book → (Item → Type 0) → Type 0
EachItem b P = (i : ℕ) → i < b.count → P (item_at b i)

-- of each place and the open transaction there
abbrev pub EachOpen : ℕ → Book → (ℕ → Open → Type 0) → Type 0
EachOpen w b P = (q : ℕ) → q < w → is_open (open_at b q) ≡ true → P q (open_at b q)

-- of each free place
abbrev pub EachFree : ℕ → Book → (ℕ → Type 0) → Type 0
EachFree w b P = (q : ℕ) → q < w → is_open (open_at b q) ≡ false → P q

-- a sound book of w places
pub record Sound (w : ℕ) (b : Book) : Type 0 where
  -- "all the above": "1 to 8 districts, 1 to 32 items"
  pub some_districts : 1 ≤ b.districts
  pub few_districts : b.districts ≤ most_districts
  pub some_items : 1 ≤ b.count
  pub few_items : b.count ≤ most_items
  -- "Each item belongs to one district."
  pub belongs : EachItem b (λ x. x.district < b.districts)
  -- "Each item has a held and a pending polyvalue."
  pub held : EachItem b (λ x. sound_polyvalue w x.held ≡ true)
  pub pending : EachItem b (λ x. sound_polyvalue w x.pending ≡ true)
  -- "Each district has a record: idle (0), computing (1) or waiting (2)"
  pub phases : EachDistrict b (λ d r. r.phase ≤ 2)
  -- "Numbers are given 1, 2, 3 up to 65,535."
  pub last : b.last.0 ≤ last_number
  -- "its touched districts, those that reported ready, those that gave up before ready, and its decision (0 none, 1 completed, 2 aborted)"
  pub touched : EachOpen w b (λ q o. o.touched < 2 ^ b.districts)
  pub ready : EachOpen w b (λ q o. o.ready < 2 ^ b.districts)
  pub gave : EachOpen w b (λ q o. o.gave < 2 ^ b.districts)
  pub decisions : EachOpen w b (λ q o. o.decision ≤ 2)
  -- "rows past the counts and free places hold zeros"
  pub past_districts : (d : ℕ) → d < most_districts → b.districts ≤ d → record_at b d ≡ no_record
  pub past_items : (i : ℕ) → i < most_items → b.count ≤ i → item_at b i ≡ no_item
  pub free : EachFree w b (λ q. open_at b q ≡ no_open)
  -- "nothing depends on a free place"
  pub free_unused : EachFree w b (λ q. some_depends w b q ≡ false)
  -- "open numbers differ, are at least 1 and none exceeds the last given" (a place whose number is 0 is free)
  pub differ : EachOpen w b (λ q o. (p : ℕ) → p < q → (open_at b p).number.0 ≡ o.number.0 → ⊥)
  pub given : EachOpen w b (λ q o. o.number.0 ≤ b.last.0)
  -- "an idle record names transaction 0"
  pub idle_none : EachDistrict b (λ d r. idle r ≡ true → r.transaction.0 ≡ 0)
  -- "a decided open transaction has a district on it or a polyvalue that depends on its place"
  pub decided_needed : EachOpen w b (λ q o. 1 ≤ o.decision → needed w b q o ≡ true)
  -- "a busy district is on an open transaction that touches it"
  pub busy_open : EachDistrict b (λ d r. idle r ≡ false → place_of w b r.transaction.0 < w)
  pub busy_touched : EachDistrict b (λ d r. idle r ≡ false → member (open_of w b r.transaction.0).touched d ≡ true)
  -- "waiting districts are in its ready set, computing ones in neither set"
  pub waiting_ready : EachDistrict b (λ d r. r.phase ≡ 2 → member (open_of w b r.transaction.0).ready d ≡ true)
  pub computing_not_ready : EachDistrict b (λ d r. r.phase ≡ 1 → member (open_of w b r.transaction.0).ready d ≡ false)
  pub computing_not_gave : EachDistrict b (λ d r. r.phase ≡ 1 → member (open_of w b r.transaction.0).gave d ≡ false)
  -- "ready and gave-up sets are apart and within touched"
  pub apart : EachOpen w b (λ q o. (d : ℕ) → d < b.districts → member o.ready d ≡ true → member o.gave d ≡ false)
  pub ready_touched : EachOpen w b (λ q o. (d : ℕ) → d < b.districts → member o.ready d ≡ true → member o.touched d ≡ true)
  pub gave_touched : EachOpen w b (λ q o. (d : ℕ) → d < b.districts → member o.gave d ≡ true → member o.touched d ≡ true)
  -- "a completed transaction has every touched district ready"
  pub completed_ready : EachOpen w b (λ q o. o.decision ≡ 1 → (d : ℕ) → d < b.districts → member o.touched d ≡ true → member o.ready d ≡ true)
  -- "in an idle district pending equals held"
  pub idle_same : EachItem b (λ x. item_on b x ≡ 0 → x.pending ≡ x.held)
  -- "in a busy one neither depends on its own transaction"
  pub own_free : EachItem b (λ x. 1 ≤ item_on b x → item_depends w x (place_of w b (item_on b x)) ≡ false)
  -- "and held and pending of an item have at most 8 different values together"
  pub few_together : EachItem b (λ x. together (in_use x.held) (in_use x.pending) ≤ most_pairs)
