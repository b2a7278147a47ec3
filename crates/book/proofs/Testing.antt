-- The tests of soundness, as the code makes them.
use mathlib.Core.Path.{◌≡◌, refl, sym, ap, ap₂, ◌∙◌}
use mathlib.Core.Bool.{Bool, true, false, not, ◌&&◌, cond, and-false}
use mathlib.Core.List.{List, [], ◌∷◌}
use Prim.Native.Nat.{ℕ, ◌+◌, ◌-◌, ◌≤◌, ◌<◌}
use native.Mathlib.Omega.{arith}
use borrow.Author.Tests.{le-leb, lt-ltb, le-ltb, leb-true, not-false}
use lib.Dec.{eqb, leb, ltb}
use lib.IntN.{pos}
use lib.ListN.{length, get_or, drop, replicate}
use lib.Seq.{take_all}
use Rattle.std.specs.List.{list_all}
use Rattle.book.proofs.Lists.{all_past}
use Rattle.polyvalues.specs.declared.polyvalue.Pair.{Pair}
use Rattle.polyvalues.specs.declared.polyvalue.Polyvalue.{Polyvalue}
use Rattle.polyvalues.specs.Pairs.{no_pair, assignments, blank}
use Rattle.polyvalues.specs.Values.{equal}
use Rattle.polyvalues.specs.Polyvalues.{each, most_pairs, rows_of, in_use, packed, AllRows, sound as sound_polyvalue}
use Rattle.polyvalues.specs.Operations.{same_rows, same, together}
use Rattle.polyvalues.proofs.Laws.Packed.{sound-well_formed}
use Rattle.polyvalues.proofs.Laws.Paired.{rows_long}
use Rattle.polyvalues.proofs.Known.{Held, all-rows}
use Rattle.conditions.specs.Below.{all, first}
use Rattle.conditions.specs.Places.{places}
use Rattle.conditions.proofs.Laws.Below.{and_left, and_right, by_cases, all_same, all-plus}
use Rattle.book.specs.declared.Record.{Record}
use Rattle.book.specs.declared.Item.{Item}
use Rattle.book.specs.declared.Open.{Open}
use Rattle.book.specs.declared.Book.{Book}
use Rattle.book.specs.Book.{most_districts, most_items, good_counts, last_number, no_record, no_item, void_item, no_open, record_on, item_at, item_on, named, place_of, item_depends}
use Rattle.book.specs.SoundTest.{implies, same_condition, same_polyvalue, same_item, sound_pending, sound_row, sound_item}
use Rattle.book.proofs.Laws.Same.{same-paired, same-polyvalue}
use Rattle.book.proofs.Laws.Room.{together-self}

-- ---- all rows

-- a polyvalue with all its rows in use
abbrev pub whole : Polyvalue → Polyvalue
whole q = record { count = most_pairs; values = q.values; conditions = q.conditions }

pub whole_same : {q r : Polyvalue} → Held q → Held r → same (in_use (whole q)) (in_use (whole r))
    ≡ (same_rows equal q.values r.values && same_rows same_condition q.conditions r.conditions)
unfolding in_use
whole_same {q} {r} h l =
    let all : AllRows q = all-rows h in
    let other : AllRows r = all-rows l in
    ap₂ same (take_all most_pairs (rows_of q) (omega (arith, rows_long all))) (take_all most_pairs (rows_of r) (omega (arith, rows_long other)))
    ∙ same-paired q.values r.values q.conditions r.conditions (all.values ∙ sym all.conditions) (other.values ∙ sym other.conditions)

-- rows that are all blank are rows of zeros
blank-same : (ps : List Pair) → each blank ps ≡ same ps (replicate (length ps) no_pair)
blank-same [] = refl
blank-same (p ∷ ps) = ap (λ (b : Bool). equal p.value (pos 0) && eqb (assignments p) 0 && b) (blank-same ps)

pub nothing-same : {q : Polyvalue} → Held q → (eqb q.count 0 && each blank (rows_of q)) ≡ same_polyvalue q (packed [])
unfolding same_polyvalue packed
nothing-same {q} h =
    let all : AllRows q = all-rows h in
    ap (λ (b : Bool). eqb q.count 0 && b)
    (blank-same (rows_of q) ∙ ap (λ (n : ℕ). same (rows_of q) (replicate n no_pair)) (rows_long all)
    ∙ same-paired q.values (packed []).values q.conditions (packed []).conditions (all.values ∙ sym all.conditions) refl)

-- ---- the place of a transaction

pub place_in : (b : Book) (n : ℕ) {os : List Open} {q : ℕ} → b.«open» ≡ os → q ≡ first places (λ q. named n (get_or os q no_open)) → q ≡ place_of places b n
unfolding place_of
place_in b n e f = f ∙ ap (λ (l : List Open). first places (λ q. named n (get_or l q no_open))) (sym e)

-- ---- what the sets say of a district: touched t, ready r, given up g, completed x

pub at-cases : (t r g x : Bool) → (implies r (not g && t) && implies g t && implies (x && t) r) ≡ cond t (cond r (not g) (not x)) (cond r false (not g))
at-cases true true true x = refl
at-cases true true false true = refl
at-cases true true false false = refl
at-cases true false true true = refl
at-cases true false true false = refl
at-cases true false false true = refl
at-cases true false false false = refl
at-cases false true true x = refl
at-cases false true false x = refl
at-cases false false true x = refl
at-cases false false false true = refl
at-cases false false false false = refl

-- ---- an item, beside the transaction that its district is on

pub item_on-is : (b : Book) (x : Item) {rs : List Record} {n : ℕ} → b.records ≡ rs → n ≡ record_on (get_or rs x.district no_record) → item_on b x ≡ n
unfolding item_on
item_on-is b x e f = sym (f ∙ ap (λ (l : List Record). record_on (get_or l x.district no_record)) (sym e))

-- on none: pending equals held, so that held tells of both
pub row-idle : (w : ℕ) (b : Book) (x : Item) → ltb x.district b.districts ≡ true → item_on b x ≡ 0
    → sound_row w b x ≡ (sound_polyvalue w x.held && same_polyvalue x.pending x.held)
unfolding sound_row sound_pending
row-idle w b x l e =
    by_cases (sound_polyvalue w x.held)
    (λ s. by_cases (same_polyvalue x.pending x.held)
    (λ t.
    let same : x.pending ≡ x.held = same-polyvalue x.pending x.held t in
    let few : leb (together (in_use x.held) (in_use x.held)) most_pairs ≡ true = le-leb _ _ (together-self w (in_use x.held) (sound-well_formed w x.held s)) in
    rw (l, e, s, t, ap (sound_polyvalue w) same ∙ s, ap (λ (p : Polyvalue). leb (together (in_use x.held) (in_use p)) most_pairs) same ∙ few))
    (λ t. rw (l, e, s, t, and-false)))
    (λ s. rw (l, s))

-- on one
pub row-taken : (w : ℕ) (b : Book) (x : Item) → ltb x.district b.districts ≡ true → eqb (item_on b x) 0 ≡ false
    → sound_row w b x
    ≡ (sound_polyvalue w x.held && sound_polyvalue w x.pending && not (item_depends w x (place_of w b (item_on b x)))
    && leb (together (in_use x.held) (in_use x.pending)) most_pairs)
unfolding sound_row sound_pending
row-taken w b x l e = rw (l, e)

-- ---- every number that fits is one that may be given

pub number-last : {n : ℕ} → n < 65536 → leb n last_number ≡ true
number-last {n} h = le-leb n last_number (omega arith)

-- ---- a row of the items, below the count or past it

pub item-row : (w : ℕ) (b : Book) {i : ℕ} → i < b.count → sound_item w b i ≡ sound_row w b (item_at b i)
unfolding sound_item
item-row w b h = rw (lt-ltb _ _ h)

pub item-past : (w : ℕ) (b : Book) {i : ℕ} → b.count ≤ i → sound_item w b i ≡ same_item (item_at b i) no_item
unfolding sound_item
item-past w b h = rw (le-ltb _ _ h)

-- the rows past the count, once those below it are sound
pub items-past : (w : ℕ) (b : Book) → length b.items ≡ most_items → b.count ≤ most_items → all b.count (sound_item w b) ≡ true
    → list_all (λ x. same_item x no_item) (drop b.count b.items) ≡ all most_items (sound_item w b)
items-past w b long few sure =
    let left : most_items ≡ b.count + (most_items - b.count) = omega arith in
    all_past (λ x. same_item x no_item) void_item b.count b.items
    ∙ ap (λ (n : ℕ). all (n - b.count) (λ i. same_item (item_at b (b.count + i)) no_item)) long
    ∙ all_same (most_items - b.count) _ _ (λ i h. sym (item-past w b (omega arith)))
    ∙ sym (ap (λ (n : ℕ). all n (sound_item w b)) left ∙ all-plus b.count (most_items - b.count) (sound_item w b) ∙ rw sure)

-- the counts are sound: there are not too many districts and items
pub few-rows : (d n : ℕ) {r : Bool} → r ≡ good_counts d n → not r ≡ false → (d ≤ most_districts) × (n ≤ most_items)
few-rows d n {r} e f =
    let fit = sym e ∙ not-false r f in
    (leb-true d most_districts (and_right (leb 1 d) _ (and_left _ (leb 1 n) (and_left _ (leb n most_items) fit))), leb-true n most_items (and_right (leb 1 d && leb d most_districts && leb 1 n) _ fit))
