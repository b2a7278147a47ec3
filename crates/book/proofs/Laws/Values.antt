-- For each event, every item's held and pending value under every assignment after it. Forgetting changes no item.
use mathlib.Core.Path.{◌≡◌, refl, ◌∙◌, ap}
use mathlib.Core.Bool.{Bool, true, false, cond}
use mathlib.Core.List.{List}
use Prim.Native.Nat.{ℕ, ◌^◌, ◌<◌}
use native.Mathlib.Omega.{arith}
use lib.IntN.{ℤ}
use lib.ListN.{length}
use Rattle.conditions.specs.Sets.{member}
use Rattle.conditions.specs.Places.{with_place}
use Rattle.conditions.proofs.Laws.Below.{by_cases}
use Rattle.polyvalues.specs.declared.polyvalue.Pair.{Pair}
use Rattle.polyvalues.specs.declared.polyvalue.Polyvalue.{Polyvalue}
use Rattle.polyvalues.specs.Pairs.{at}
use Rattle.polyvalues.specs.Polyvalues.{Complete, in_use, packed}
use Rattle.polyvalues.specs.Simplify.{canon}
use Rattle.polyvalues.specs.Operations.{reduce, select}
use Rattle.polyvalues.proofs.Laws.Canon.{at-canon}
use Rattle.polyvalues.proofs.Laws.Operations.{reduce-canon, select-canon}
use Rattle.polyvalues.proofs.Laws.Packed.{in_use-packed, sound-well_formed}
use Rattle.book.specs.declared.Item.{Item}
use Rattle.book.specs.declared.Step.{Step}
use Rattle.book.specs.declared.Book.{Book}
use Rattle.book.specs.Book.{void_item, record_at, item_at, place_of, open_of}
use Rattle.book.specs.Programs.{run, touches}
use Rattle.book.specs.Records.{computing_on}
use Rattle.book.specs.Items.{there, concerned, install, drop, split, reduce_item}
use Rattle.book.specs.Forget.{forget}
use Rattle.book.specs.Begin.{held_at, results, begin_item, begun}
use Rattle.book.specs.GiveUp.{give_up_item, gave_up}
use Rattle.book.specs.Hear.{outcome, hear_item, heard}
use Rattle.book.specs.Sound.{Sound}
use Rattle.book.proofs.Laws.Rows.{get_or-rows}
use Rattle.book.specs.Shaped.{Shaped}

-- the value of a polyvalue under an assignment
abbrev pub value_under : Polyvalue → ℕ → ℤ
value_under v a = at (in_use v) a

-- ---- one polyvalue

-- of one that is made of its values
pub made_at : (w : ℕ) (f : ℕ → ℤ) (ps : List Pair) → ps ≡ canon w f → (a : ℕ) → a < 2 ^ w → value_under (packed ps) a ≡ f a
made_at w f ps e a h = ap (λ (qs : List Pair). at qs a) (in_use-packed ps ∙ e) ∙ at-canon w f a h

reduce-at : (w q : ℕ) (o : Bool) (ps : List Pair) → Complete w ps → (a : ℕ) → a < 2 ^ w → value_under (packed (reduce w q o ps)) a ≡ at ps (with_place w a q o)
reduce-at w q o ps c = made_at w (λ a. at ps (with_place w a q o)) (reduce w q o ps) (reduce-canon w q o ps c)

select-at : (w q : ℕ) (done gone : List Pair) → Complete w done → Complete w gone → (a : ℕ) → a < 2 ^ w
    → value_under (packed (select w q done gone)) a ≡ cond (member a q) (at done a) (at gone a)
select-at w q done gone c d = made_at w (λ a. cond (member a q) (at done a) (at gone a)) (select w q done gone) (select-canon w q done gone c d)

-- ---- the events

-- forgetting changes no item
pub forget-item : (w : ℕ) (b : Book) (i : ℕ) → item_at (forget w b) i ≡ item_at b i
unfolding forget
forget-item w b i = refl

module _ (w : ℕ) (b : Book) (s : Sound w b) (t : Shaped w b) where
  -- the items below the count are rows of the table
  inside : (i : ℕ) → i < b.count → i < length b.items
  inside i h = omega (arith, s.few_items, t.items)

  pub held-complete : (i : ℕ) → i < b.count → Complete w (in_use (item_at b i).held)
  held-complete i h = (sound-well_formed w (item_at b i).held (s.held i h)).complete

  pub pending-complete : (i : ℕ) → i < b.count → Complete w (in_use (item_at b i).pending)
  pending-complete i h = (sound-well_formed w (item_at b i).pending (s.pending i h)).complete

  -- ---- begin

  pub begin-item : (xs : List Step) (i : ℕ) → i < b.count → item_at (begun w b xs) i ≡ begin_item w b xs i (item_at b i)
  unfolding begun
  begin-item xs i h = get_or-rows (begin_item w b xs) void_item b.count b.items i h (inside i h)

  pub begin-held : (xs : List Step) (i : ℕ) → i < b.count → (item_at (begun w b xs) i).held ≡ (item_at b i).held
  unfolding begin_item
  begin-held xs i h = ap (λ (x : Item). x.held) (begin-item xs i h) ∙ by_cases (touches xs i) (λ e. rw e) (λ e. rw e)

  -- "The results are the touched items' pending polyvalues."
  pub begin-pending : (xs : List Step) (i : ℕ) → i < b.count → (a : ℕ) → a < 2 ^ w
      → value_under (item_at (begun w b xs) i).pending a ≡ cond (touches xs i) (run xs (held_at b a) i) (value_under (item_at b i).pending a)
  unfolding begin_item results
  begin-pending xs i h a l =
      ap (λ (x : Item). value_under x.pending a) (begin-item xs i h)
      ∙ by_cases (touches xs i)
      (λ e. rw e (made_at w (λ a. run xs (held_at b a) i) (results w b xs i) refl a l))
      (λ e. rw e)

  -- ---- give up

  pub give_up-item : (n d i : ℕ) → i < b.count → item_at (gave_up w b n d) i ≡ give_up_item w b n d (place_of w b n) (computing_on n (record_at b d)) (item_at b i)
  unfolding gave_up
  give_up-item n d i h = get_or-rows (λ i x. give_up_item w b n d (place_of w b n) (computing_on n (record_at b d)) x) void_item b.count b.items i h (inside i h)

  split_at : (q i : ℕ) → i < b.count → (a : ℕ) → a < 2 ^ w → value_under (split w q (item_at b i)).held a ≡ cond (member a q) (value_under (item_at b i).pending a) (value_under (item_at b i).held a)
  unfolding split
  split_at q i h a l = select-at w q (in_use (item_at b i).pending) (in_use (item_at b i).held) (pending-complete i h) (held-complete i h) a l

  -- "From computing: pending becomes held .. From waiting: each item becomes its pending value where the transaction completes and its held value where it aborts"
  pub give_up-held : (n d i : ℕ) → i < b.count → (a : ℕ) → a < 2 ^ w
      → value_under (item_at (gave_up w b n d) i).held a
      ≡ cond (concerned b n d (item_at b i))
      (cond (computing_on n (record_at b d)) (value_under (item_at b i).held a) (cond (member a (place_of w b n)) (value_under (item_at b i).pending a) (value_under (item_at b i).held a)))
      (value_under (item_at b i).held a)
  unfolding give_up_item
  give_up-held n d i h a l =
      ap (λ (x : Item). value_under x.held a) (give_up-item n d i h)
      ∙ by_cases (concerned b n d (item_at b i))
      (λ e. rw e (by_cases (computing_on n (record_at b d)) (λ f. rw f) (λ f. rw f (split_at (place_of w b n) i h a l))))
      (λ e. rw e)

  -- a district that gave up is idle: its items' pending values are the held ones
  pub give_up-pending : (n d i : ℕ) → i < b.count
      → (item_at (gave_up w b n d) i).pending ≡ cond (concerned b n d (item_at b i)) (item_at (gave_up w b n d) i).held (item_at b i).pending
  unfolding give_up_item split
  give_up-pending n d i h =
      rw (give_up-item n d i h)
      (by_cases (concerned b n d (item_at b i))
      (λ e. rw e (by_cases (computing_on n (record_at b d)) (λ f. rw f) (λ f. rw f)))
      (λ e. rw e))

  -- ---- hear

  pub hear-item : (n d i : ℕ) → i < b.count → item_at (heard w b n d) i ≡ hear_item w b n d (place_of w b n) (outcome (open_of w b n)) (item_at b i)
  unfolding heard
  hear-item n d i h = get_or-rows (λ i x. hear_item w b n d (place_of w b n) (outcome (open_of w b n)) x) void_item b.count b.items i h (inside i h)

  -- "If it is busy on that transaction it installs pending (completed) or drops it (aborted) .. Then every held and pending polyvalue there is reduced": f is the one or the other
  abbrev pub HearValue : (Item → Polyvalue) → Type 0
  HearValue f = (n d i : ℕ) → i < b.count → (a : ℕ) → a < 2 ^ w
      → value_under (f (item_at (heard w b n d) i)) a
      ≡ cond (there d (item_at b i))
      (cond (concerned b n d (item_at b i))
      (cond (outcome (open_of w b n)) (value_under (item_at b i).pending (with_place w a (place_of w b n) (outcome (open_of w b n))))
      (value_under (item_at b i).held (with_place w a (place_of w b n) (outcome (open_of w b n)))))
      (value_under (f (item_at b i)) (with_place w a (place_of w b n) (outcome (open_of w b n)))))
      (value_under (f (item_at b i)) a)

  hear-value : (f : Item → Polyvalue) → ((x : Item) → f (install x) ≡ x.pending) → ((x : Item) → f (drop x) ≡ x.held)
      → ((q : ℕ) (o : Bool) (x : Item) → f (reduce_item w q o x) ≡ packed (reduce w q o (in_use (f x)))) → ((i : ℕ) → i < b.count → Complete w (in_use (f (item_at b i))))
      → HearValue f
  unfolding hear_item
  hear-value f installs drops reduces complete n d i h a l =
      ap (λ (x : Item). value_under (f x) a) (hear-item n d i h)
      ∙ by_cases (there d x) (λ e. rw e (go (concerned b n d x) (outcome (open_of w b n)))) (λ e. rw e)
    where
      x : Item
      x = item_at b i

      q : ℕ
      q = place_of w b n

      go : (c o : Bool) → value_under (f (reduce_item w q o (cond c (cond o (install x) (drop x)) x))) a
          ≡ cond c (cond o (value_under x.pending (with_place w a q o)) (value_under x.held (with_place w a q o))) (value_under (f x) (with_place w a q o))
      go true true = rw (reduces q true (install x), installs x) (reduce-at w q true (in_use x.pending) (pending-complete i h) a l)
      go true false = rw (reduces q false (drop x), drops x) (reduce-at w q false (in_use x.held) (held-complete i h) a l)
      go false o = rw (reduces q o x) (reduce-at w q o (in_use (f x)) (complete i h) a l)

  pub hear-held : HearValue (λ x. x.held)
  unfolding reduce_item
  hear-held = hear-value (λ x. x.held) (λ x. refl) (λ x. refl) (λ q o x. refl) held-complete

  pub hear-pending : HearValue (λ x. x.pending)
  unfolding reduce_item
  hear-pending = hear-value (λ x. x.pending) (λ x. refl) (λ x. refl) (λ q o x. refl) pending-complete
