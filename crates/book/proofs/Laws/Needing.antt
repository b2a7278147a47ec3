-- What was needed stays needed where nobody leaves a transaction and no item comes to depend on fewer places: ready and begin forget nothing,
-- and a decision at most its own transaction.
use mathlib.Core.Path.{◌≡◌, refl, sym, ◌∙◌, ap}
use mathlib.Core.Bool.{Bool, true, false, not, ◌||◌, cond, false≢true, or-true}
use mathlib.Core.List.{List}
use Prim.Native.Nat.{ℕ, suc, ◌≤◌, ◌<◌}
use native.Mathlib.Omega.{arith}
use lib.Dec.{eqb}
use lib.ListN.{length, get_or, set, get_or-map}
use lib.Seq.{map-set_same, set-set}
use borrow.Author.Tests.{eqb-true, eqb-false, ne_eqb, not-true}
use Rattle.conditions.specs.Below.{any}
use Rattle.conditions.proofs.Laws.Below.{by_cases, any_of, any_some}
use Rattle.polyvalues.specs.declared.polyvalue.Polyvalue.{Polyvalue}
use Rattle.polyvalues.specs.Polyvalues.{in_use}
use Rattle.polyvalues.specs.Pairs.{depends}
use Rattle.book.specs.declared.Item.{Item}
use Rattle.book.specs.declared.Open.{Open}
use Rattle.book.specs.declared.Step.{Step}
use Rattle.book.specs.declared.Book.{Book}
use Rattle.book.specs.Book.{most_districts, most_items, no_record, no_open, void_item, record_at, item_at, open_at, record_on, place_of, free_place, item_depends, some_depends, some_on, with_open, open_of}
use Rattle.book.specs.Programs.{touches}
use Rattle.book.specs.Records.{computing_on, begin_record, ready_record}
use Rattle.book.specs.Forget.{needed, kept, remembered, forget}
use Rattle.book.specs.Ready.{reported, readied}
use Rattle.book.specs.Decide.{with_decision, decide}
use Rattle.book.specs.Begin.{some_busy, touches_district, begin_item, begun}
use Rattle.book.specs.Sound.{Sound}
use Rattle.book.proofs.Laws.Rows.{get_or-rows, rows-set, get_or-set}
use Rattle.book.proofs.Laws.Touched.{touched-item-idle, touched-idle}
use Rattle.book.proofs.Laws.But.{computing-on, busy-on}
use Rattle.book.proofs.Laws.Forget.{kept-needed, needed-kept, remembered-kept, forget-none, decided-open, sound-kept}

-- one row is set: what is the same of it is the same of every row
set-alike : {A B : Type 0} (f : A → B) (xs : List A) (i : ℕ) (y z : A) → f y ≡ f (get_or xs i z) → (j : ℕ) → f (get_or (set xs i y) j z) ≡ f (get_or xs j z)
set-alike {B = B} f xs i y z e j =
    sym (get_or-map f (set xs i y) j z) ∙ ap (λ (l : List B). get_or l j (f z)) (map-set_same f xs i y z e) ∙ get_or-map f xs j z

-- ---- ready

module _ (w : ℕ) (b : Book) (n d : ℕ) (s : Sound w b) (on : computing_on n (record_at b d) ≡ true) where
  number : (q : ℕ) → (open_at (readied w b n d) q).number.0 ≡ (open_at b q).number.0
  unfolding readied
  number = set-alike (λ (o : Open). o.number.0) b.«open» (place_of w b n) (reported d (open_of w b n)) no_open refl

  decision : (q : ℕ) → (open_at (readied w b n d) q).decision ≡ (open_at b q).decision
  unfolding readied
  decision = set-alike (λ (o : Open). o.decision) b.«open» (place_of w b n) (reported d (open_of w b n)) no_open refl

  stays : (e : ℕ) → record_on (record_at (readied w b n d) e) ≡ record_on (record_at b e)
  unfolding readied
  stays =
      set-alike record_on b.records d (ready_record (record_at b d)) no_record
      (busy-on (ready_record (record_at b d)) refl ∙ sym (busy-on (record_at b d) (ap (λ (v : ℕ). eqb v 0) (computing-on n (record_at b d) on).0)))

  same : (q : ℕ) → kept w (readied w b n d) q (open_at (readied w b n d) q) ≡ kept w b q (open_at b q)
  unfolding kept needed some_on some_depends readied
  same q = λ k. not (not (eqb (decision q k) 0)) || (any b.districts (λ e. eqb (stays e k) (number q k)) || any b.count (λ i. item_depends w (item_at b i) q))

  -- a district that reports ready stays on its transaction
  pub ready-forgets-none : forget w (readied w b n d) ≡ readied w b n d
  ready-forgets-none = forget-none w (readied w b n d) (λ q l. same q ∙ sound-kept w b s q l)

-- ---- begin

-- where a holds, so does c, and where b, so does d
or-still : (a b c d : Bool) → (a ≡ true → c ≡ true) → (b ≡ true → d ≡ true) → (a || b) ≡ true → (c || d) ≡ true
or-still true b c d f g e = ap (λ (x : Bool). x || d) (f refl)
or-still false b c d f g e = ap (λ (x : Bool). c || x) (g e) ∙ or-true c

-- an item that held what was pending depends on what it depended on, whatever is pending now
held-depends : (w : ℕ) (x y : Item) (q : ℕ) → x.pending ≡ x.held → y.held ≡ x.held → item_depends w x q ≡ true → item_depends w y q ≡ true
unfolding item_depends
held-depends w x y q e f k =
    let both : (depends w (in_use x.held) q || depends w (in_use x.held) q) ≡ true = ap (λ (p : Polyvalue). depends w (in_use x.held) q || depends w (in_use p) q) (sym e) ∙ k in
    by_cases (depends w (in_use x.held) q)
    (λ t. ap (λ (p : Polyvalue). depends w (in_use p) q || depends w (in_use y.pending) q) f ∙ rw t)
    (λ t. absurd (false≢true (rw t at both)))

module _ (w : ℕ) (b : Book) (xs : List Step) (s : Sound w b) (idles : some_busy b xs ≡ false) (place : free_place w b < w)
    (records : length b.records ≡ most_districts) (items : length b.items ≡ most_items) (places : length b.«open» ≡ w) where
  abbrev c : Book
  c = begun w b xs

  -- the new transaction is not decided
  old : (q : ℕ) → 1 ≤ (open_at c q).decision → open_at c q ≡ open_at b q
  unfolding begun
  old q e =
      let row = get_or-set b.«open» (free_place w b) _ no_open q (omega (arith, place, places)) in
      by_cases (eqb q (free_place w b))
      (λ k. absurd (omega (arith, rw (row, k) at e)))
      (λ k. row ∙ rw k)

  -- a touched district was on none, the others stay on theirs
  on : (n : ℕ) → 1 ≤ n → some_on b n ≡ true → some_on c n ≡ true
  unfolding some_on begun
  on n h k =
      let some = any_some b.districts (λ d. eqb (record_on (record_at b d)) n) k in
      let row = get_or-rows (λ d r. cond (touches_district b xs d) (begin_record (suc b.last.0)) r) no_record b.districts b.records some.0 some.1 (omega (arith, records, s.few_districts, some.1)) in
      any_of b.districts (λ d. eqb (record_on (record_at c d)) n) some.0 some.1 (by_cases (touches_district b xs some.0)
      (λ t. absurd (omega (arith, eqb-true (record_on (record_at b some.0)) n some.2, (touched-idle b xs s.belongs idles some.0 t).1)))
      (λ t. rw (row, t) some.2))

  -- a touched item held what was pending, and holds it
  depends_still : (q : ℕ) → some_depends w b q ≡ true → some_depends w c q ≡ true
  unfolding some_depends item_depends begun begin_item
  depends_still q k =
      let some = any_some b.count (λ i. item_depends w (item_at b i) q) k in
      let i : ℕ = some.0 in
      let x : Item = item_at b i in
      let row = get_or-rows (begin_item w b xs) void_item b.count b.items i some.1 (omega (arith, items, s.few_items, some.1)) in
      any_of b.count (λ i. item_depends w (item_at c i) q) i some.1 (by_cases (touches xs i)
      (λ t. held-depends w x (item_at c i) q (s.idle_same i some.1 (touched-item-idle b xs idles i some.1 t)) (ap (λ (y : Item). y.held) row ∙ rw t) some.2)
      (λ t. rw (row, t) some.2))

  pub begin-forgets-none : forget w (begun w b xs) ≡ begun w b xs
  unfolding needed
  begin-forgets-none = forget-none w c (λ q l. needed-kept w c q (open_at c q) (λ e.
      let was : 1 ≤ (open_at b q).decision = rw (old q e) at e in
      let n : ℕ = (open_at b q).number.0 in
      let given : 1 ≤ n = omega (arith, eqb-false n 0 (not-true _ (decided-open w b s q l was))) in
      rw (old q e) (or-still (some_on b n) (some_depends w b q) (some_on c n) (some_depends w c q) (on n given) (depends_still q) (kept-needed w b q (open_at b q) (sound-kept w b s q l) was))))

-- ---- decide

module _ (w : ℕ) (b : Book) (n v : ℕ) (s : Sound w b) (place : place_of w b n < w) (decides : 1 ≤ v) where
  -- every other transaction stays, as it was needed or is not decided
  decide-forgets-own : forget w (decide w b n v) ≡ with_open b (set b.«open» (place_of w b n) (remembered w b (place_of w b n) (with_decision v (open_of w b n))))
  unfolding forget decide remembered kept needed some_on some_depends
  decide-forgets-own =
      ap (with_open b) (rows-set (remembered w b) no_open w b.«open» (place_of w b n) (with_decision v (open_of w b n)) place
      (λ q l. remembered-kept w b q (open_at b q) (sound-kept w b s q l)))

  -- it stays itself where it is needed
  pub decide-keeps : {q : ℕ} → q ≡ place_of w b n → needed w b q (open_at b q) ≡ true → with_open b (set b.«open» q (with_decision v (open_at b q))) ≡ forget w (decide w b n v)
  unfolding needed
  decide-keeps e k =
      let new : Open = with_decision v (open_of w b n) in
      let stays = remembered-kept w b (place_of w b n) new (needed-kept w b (place_of w b n) new (λ d. rw e at k)) in
      rw e (sym (decide-forgets-own ∙ ap (λ (o : Open). with_open b (set b.«open» (place_of w b n) o)) stays))

  -- and is closed, though the decision was noted, where it is not
  pub decide-frees : (o : Open) {q : ℕ} → q ≡ place_of w b n → needed w b q (open_at b q) ≡ false → with_open b (set (set b.«open» q o) q no_open) ≡ forget w (decide w b n v)
  unfolding remembered kept needed
  decide-frees o {q} e k =
      let freed : remembered w b (place_of w b n) (with_decision v (open_of w b n)) ≡ no_open = rw (ne_eqb v 0 (λ z. omega arith), rw e at k) in
      rw (set-set b.«open» q o no_open, e) (sym (decide-forgets-own ∙ ap (λ (o : Open). with_open b (set b.«open» (place_of w b n) o)) freed))
