-- "Only a good sheet opens a book" (document 01, Events): a good sheet opens a sound one, and a refused one gives the all-zero book.
use mathlib.Core.Path.{◌≡◌, refl, sym, ap, ap₂, ◌∙◌}
use mathlib.Core.Bool.{Bool, true, false, ◌&&◌, true≢false, false≢true}
use mathlib.Core.List.{List, [], ◌∷◌, ◌++◌}
use Prim.Native.Nat.{ℕ, zero, suc, ◌+◌, ◌*◌, ◌^◌}
use native.Mathlib.Omega.{arith}
use lib.Dec.{leb, ltb}
use lib.IntN.{ℤ}
use lib.ListN.{length, length-append}
use Rattle.conditions.proofs.Laws.Below.{and_left, and_right, by_cases}
use Rattle.polyvalues.specs.Values.{in_range, signed}
use Rattle.polyvalues.proofs.Laws.Operations.{each_append}
use Rattle.book.specs.declared.Opening.{Opening}
use Rattle.book.specs.Answers.{accepted}
use Rattle.book.specs.Book.{most_districts, most_items, no_book}
use Rattle.book.specs.Open.{good_item, good_items, good_opening, opened}
use Rattle.book.specs.Shaped.{Whole}
use Rattle.book.proofs.Laws.OpenedShaped.{opened-whole}
use Rattle.sheet.specs.Readers.{Read, wrong, right, and_then, repeat, one_more, byte, word, between, end}
use Rattle.sheet.specs.Sections.{Sheet, code, districts, value, item, items, events, sheet}
use Rattle.sheet.specs.Open.{too_long, refused, opened_sheet, open_sheet}

-- ---- what a reader that found nothing wrong has read

pub no_read : {A : Type 0} {X : Type 0} {place at : ℕ} {x : A} {l : List ℕ} → wrong place ≡ right x at l → X
no_read e = let z : ◌≡◌ {A = ℕ} 0 1 = cc in absurd (omega arith)

-- where two readers found nothing wrong, the first did not
pub first_read : {A B : Type 0} (r : Read A) (more : A → ℕ → List ℕ → Read B) {y : B} {at : ℕ} {l : List ℕ} → and_then r more ≡ right y at l
    → (x : A) × (next : ℕ) × (rest : List ℕ) × (r ≡ right x next rest) × (more x next rest ≡ right y at l)
first_read (wrong place) more e = no_read e
first_read (right x next rest) more e = (x, next, rest, refl, e)

byte-passes : (test : ℕ → Bool) (at : ℕ) (l : List ℕ) {b next : ℕ} {rest : List ℕ} → byte test at l ≡ right b next rest → test b ≡ true
unfolding byte
byte-passes test at [] e = no_read e
byte-passes test at (c ∷ l) {b} e =
    by_cases (test c) (λ t. let read = rw t at e in let same : c ≡ b = cc in rw same at t) (λ t. no_read (rw t at e))

word-passes : (test : ℕ → Bool) (at : ℕ) (l : List ℕ) {n next : ℕ} {rest : List ℕ} → word test at l ≡ right n next rest → test n ≡ true
unfolding word
word-passes test at [] e = no_read e
word-passes test at (high ∷ []) e = no_read e
word-passes test at (high ∷ low ∷ l) {n} e =
    by_cases (test (high * 2 ^ 8 + low)) (λ t. let read = rw t at e in let same : high * 2 ^ 8 + low ≡ n = cc in rw same at t) (λ t. no_read (rw t at e))

-- ---- items

value-good : (at : ℕ) (l : List ℕ) {v : ℤ} {next : ℕ} {rest : List ℕ} → value at l ≡ right v next rest → in_range v ≡ true
unfolding value
value-good at l {v} e =
    let w = first_read (word (λ n. in_range (signed n)) at l) (λ n at s. right (signed n) at s) e in
    let same : signed w.0 ≡ v = cc w.4 in
    rw same at (word-passes (λ n. in_range (signed n)) at l w.3)

item-good : (count at : ℕ) (l : List ℕ) {x : Opening} {next : ℕ} {rest : List ℕ} → item count at l ≡ right x next rest → good_item count x ≡ true
unfolding item
item-good count at l {x} e =
    let d = first_read (byte (λ d. ltb d count) at l) _ e in
    let v = first_read (value d.1 d.2) _ d.4 in
    let same : record { district = d.0; value = v.0 } ≡ x = cc v.4 in
    ap (good_item count) (sym same) ∙ ap₂ ◌&&◌ (byte-passes (λ d. ltb d count) at l d.3) (value-good d.1 d.2 v.3)

items-good : (count n : ℕ) (got : List Opening) (at : ℕ) (l : List ℕ) {xs : List Opening} {next : ℕ} {rest : List ℕ} → repeat n (one_more (item count)) got at l ≡ right xs next rest
    → good_items count got ≡ true → (length xs ≡ length got + n) × (good_items count xs ≡ true)
unfolding repeat one_more
items-good count zero got at l {xs} e g = let same : got ≡ xs = cc in (ap length (sym same) ∙ omega arith, rw same at g)
items-good count (suc n) got at l e g =
    let more = first_read (one_more (item count) got at l) (repeat n (one_more (item count))) e in
    let one = first_read (item count at l) _ more.3 in
    let same : got ++ (one.0 ∷ []) ≡ more.0 = cc one.4 in
    let rest = items-good count n more.0 more.1 more.2 more.4 (rw same at (each_append (good_item count) got (one.0 ∷ []) g (ap₂ ◌&&◌ (item-good count at l one.3) refl))) in
    (omega (arith, rest.0, ap length same, length-append got (one.0 ∷ [])), rest.1)

-- ---- the sheet

pub all_read : {A : Type 0} (y : A) (at : ℕ) (l : List ℕ) {x : A} {next : ℕ} {rest : List ℕ} → end y at l ≡ right x next rest → y ≡ x
unfolding end
all_read y at [] e = cc
all_read y at (b ∷ l) e = no_read e

good-sheet : (s : List ℕ) {x : Sheet} {at : ℕ} {rest : List ℕ} → sheet s ≡ right x at rest → good_opening x.districts x.items ≡ true
unfolding sheet districts items good_opening
good-sheet s {x} e =
    let first = first_read (districts 0 s) _ e in
    let count = first_read (byte (between 1 most_districts) 0 s) _ first.3 in
    let codes = first_read (repeat count.0 code 0 count.1 count.2) _ count.4 in
    let n : count.0 ≡ first.0 = cc codes.4 in
    let few = rw n at (byte-passes (between 1 most_districts) 0 s count.3) in
    let second = first_read (items first.0 first.1 first.2) _ first.4 in
    let rows = first_read (byte (between 1 most_items) first.1 first.2) _ second.3 in
    let good = items-good first.0 rows.0 [] rows.1 rows.2 rows.4 refl in
    let long : rows.0 ≡ length second.0 = omega (arith, good.0) in
    let some = rw long at (byte-passes (between 1 most_items) first.1 first.2 rows.3) in
    let third = first_read (events second.1 second.2) _ second.4 in
    let same = all_read (record { districts = first.0; items = second.0; events = third.0 }) third.1 third.2 third.4 in
    let all : good_opening first.0 second.0 ≡ true =
    rw (and_left (leb 1 first.0) _ few, and_right (leb 1 first.0) _ few, and_left (leb 1 (length second.0)) _ some, and_right (leb 1 (length second.0)) _ some, good.1) in
    ap (λ (y : Sheet). good_opening y.districts y.items) (sym same) ∙ all

module _ (w : ℕ) (s : List ℕ) where
  -- a good sheet was read, and what it says opens its book
  pub sheet-opens : accepted (open_sheet w s).answer ≡ true
      → (x : Sheet) × (at : ℕ) × (rest : List ℕ) × (sheet s ≡ right x at rest) × (good_opening x.districts x.items ≡ true) × ((open_sheet w s).book ≡ opened w x.districts x.items)
  unfolding open_sheet opened_sheet refused
  sheet-opens e = by_cases (too_long s) (λ t. absurd (false≢true (rw t at e))) (λ t. rw t (go (sheet s) refl (rw t at e)))
    where
      go : (r : Read Sheet) → sheet s ≡ r → accepted (opened_sheet w r).answer ≡ true
          → (x : Sheet) × (at : ℕ) × (rest : List ℕ) × (sheet s ≡ right x at rest) × (good_opening x.districts x.items ≡ true) × ((opened_sheet w r).book ≡ opened w x.districts x.items)
      go (wrong place) q a = absurd (false≢true a)
      go (right x at rest) q a = (x, at, rest, q, good-sheet s q, refl)

  pub good-opens : accepted (open_sheet w s).answer ≡ true → Whole w (open_sheet w s).book
  good-opens e = let o = sheet-opens e in rw o.5 (opened-whole w o.0.districts o.0.items o.4)

  -- a refused one
  pub refused-zero : accepted (open_sheet w s).answer ≡ false → (open_sheet w s).book ≡ no_book w
  unfolding open_sheet opened_sheet refused
  refused-zero e = by_cases (too_long s) (λ t. rw t) (λ t. rw t (go (sheet s) (rw t at e)))
    where
      go : (r : Read Sheet) → accepted (opened_sheet w r).answer ≡ false → (opened_sheet w r).book ≡ no_book w
      go (wrong place) a = refl
      go (right x at rest) a = absurd (true≢false a)
