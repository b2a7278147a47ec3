-- Begin's work as the code does it: alternative by alternative, item by item.
use mathlib.Core.Path.{◌≡◌, refl, sym, ap, ap₂, ◌∙◌}
use mathlib.Core.Bool.{Bool, true, false, not, ◌&&◌, ◌||◌, true≢false, or-true, not-not}
use mathlib.Core.List.{List, [], ◌++◌}
use Prim.Native.Nat.{ℕ, suc, ◌^◌, ◌≤◌, ◌<◌}
use native.Mathlib.Omega.{arith}
use lib.Dec.{eqb, ltb}
use lib.IntN.{ℤ}
use lib.ListN.{length, get_or, take, set, length-set, get_or-replicate}
use lib.Seq.{get_or-set_same, get_or-set_other}
use borrow.Author.Count.{below_more}
use borrow.Author.Tests.{eq-eqb, ne_eqb, lt-ltb, ltb-true, ltb-false, not-false}
use Rattle.std.proofs.lemmas.List.{get_or-take, get_or_append_left, length-take-le}
use Rattle.std.specs.Prelude.{Some, None, is_some}
use Rattle.conditions.specs.declared.condition.Condition.{Condition}
use Rattle.conditions.specs.Below.{all, first}
use Rattle.conditions.specs.Sets.{member}
use Rattle.conditions.specs.Places.{places}
use Rattle.conditions.specs.Conditions.{number, full, union, intersection, complement, lowest}
use Rattle.conditions.proofs.Laws.Below.{by_cases, all_more, all-fails, all-not, none_any, any_of, first-le, first_passes, before-first}
use Rattle.conditions.proofs.Laws.Sets.{member-none, same-members}
use Rattle.conditions.proofs.Laws.Conditions.{member-full, member_union, member-complement, full-lt, union-lt}
use Rattle.std.specs.Result.{is_ok}
use Rattle.std.proofs.Common.{Result}
use Rattle.polyvalues.specs.declared.polyvalue.Pair.{Pair}
use Rattle.polyvalues.specs.declared.polyvalue.Polyvalue.{Polyvalue}
use Rattle.polyvalues.specs.Pairs.{assignments, applying}
use Rattle.polyvalues.specs.Polyvalues.{most_pairs, in_use, packed, fitting}
use Rattle.polyvalues.specs.Simplify.{join, canon_over, canon}
use Rattle.polyvalues.specs.Operations.{together}
use Rattle.polyvalues.proofs.Laws.Applying.{applying-value}
use Rattle.polyvalues.proofs.Laws.Canon.{over_none, over-full}
use Rattle.polyvalues.proofs.Laws.Packed.{in_use-packed, sound-well_formed}
use Rattle.polyvalues.proofs.Laws.Room.{over-count}
use Rattle.polyvalues.proofs.Inserting.{fits-yes, is_none-full}
use Rattle.book.specs.declared.Book.{Book}
use Rattle.book.specs.declared.Step.{Step}
use Rattle.book.specs.declared.state.State.{State}
use Rattle.book.specs.declared.program.Declined.{Declined}
use Rattle.book.specs.declared.alternatives.Alternative.{Alternative}
use Rattle.book.specs.declared.alternatives.Worked.{Worked}
use Rattle.book.specs.Book.{most_items, void, item_at}
use Rattle.book.specs.Programs.{takes, declined, run, touches, some_step}
use Rattle.book.specs.SoundTest.{sound}
use Rattle.book.specs.Begin.{outside, held_at, declines_at, results, too_many}
use Rattle.book.specs.States.{state_of, state_rows, ran}
use Rattle.book.specs.Alternatives.{block_below, block, some_declines, some_grants, StartsAs, joined_row, row_after, RowsAfter, Covers, nothing_worked, WorkedOut}
use Rattle.book.proofs.Laws.Programs.{declined-reads, run-reads}
use Rattle.book.proofs.Laws.Sound.{test-sound}
use Rattle.book.proofs.Laws.Alternatives.{Chosen, InTable, block-own, join-block, declines-more, grants-more, grant-is}
use Rattle.book.proofs.Laws.Touched.{touched-below}
use Rattle.book.proofs.States.{state-row}
use Rattle.book.proofs.Running.{ran-well, run-value}

-- ---- an alternative, item by item

-- the items below k have been looked at
pub record Choosing (b : Book) (xs : List Step) (a k : ℕ) (t : Alternative) : Type 0 where
  pub within : k ≤ b.count
  pub condition : number t.condition ≡ block_below places b xs a k
  pub starts : StartsAs b xs a k t.state

module _ (b : Book) (xs : List Step) (a k : ℕ) (most : b.count ≤ most_items) (h : k < b.count) {t : Alternative} (now-at : Choosing b xs a k t) where
  pub choosing-other : touches xs k ≡ false → Choosing b xs a (suc k) t
  unfolding block_below
  choosing-other e =
      record {
        within = h;
        condition = rw e now-at.condition;
        starts = λ i l f. below_more (λ i. touches xs i ≡ true → state_of t.state i ≡ held_at b a i) k now-at.starts (λ f. absurd (true≢false (sym f ∙ e))) i (omega arith) f;
      }

  pub choosing-touched : touches xs k ≡ true → {p : Pair} → p ≡ applying (in_use (item_at b k).held) a → {r : Alternative}
      → (number r.condition ≡ intersection places (number t.condition) (assignments p)) × (r.state ≡ state_rows (takes (state_of t.state) k p.value))
      → Choosing b xs a (suc k) r
  unfolding block_below
  choosing-touched e {p} q {r} new =
      record {
        within = h;
        condition = rw e (new.0 ∙ ap₂ (intersection places) now-at.condition (ap assignments q));
        starts = λ i l f. below_more (λ i. touches xs i ≡ true → state_of r.state i ≡ held_at b a i) k (λ i l f. row i (omega arith) ∙ rw (ne_eqb k i (λ z. omega arith)) (now-at.starts i l f))
            (λ f. row k (omega arith) ∙ rw (eq-eqb k k refl) (ap (λ (x : Pair). x.value) q ∙ applying-value (in_use (item_at b k).held) a)) i (omega arith) f;
      }
    where
      row : (i : ℕ) → i < most_items → state_of r.state i ≡ takes (state_of t.state) k p.value i
      row i l = ap (λ (s : State). state_of s i) new.1 ∙ state-row (takes (state_of t.state) k p.value) i l

-- ---- the results of a run, item by item

-- of the first count, those below k have been joined in
pub record Joining (xs : List Step) (s : State) (c : ℕ) (new : List Polyvalue) (count k : ℕ) (now : List Polyvalue) : Type 0 where
  pub long : length now ≡ count
  pub fits : all k (λ i. is_some (row_after places xs s c new i)) ≡ true
  pub done : RowsAfter places xs s c new k now
  pub rest : (i : ℕ) → k ≤ i → i < count → get_or now i void ≡ get_or new i void

module _ (xs : List Step) (s : State) (c : ℕ) (new : List Polyvalue) (count : ℕ) where
  pub joining-start : count ≤ length new → Joining xs s c new count 0 (take count new)
  unfolding all
  joining-start l = record { long = length-take-le count new l; fits = refl; done = λ i h. absurd (omega arith); rest = λ i h m. get_or-take count new i void m }

  -- the others stay as they were
  pub joining-done : {now : List Polyvalue} (tail : List Polyvalue) → Joining xs s c new count count now → RowsAfter places xs s c new count (now ++ tail)
  joining-done {now} tail e i h = ap Some (get_or_append_left now tail void i (omega (arith, e.long))) ∙ e.done i h

  module _ (k : ℕ) (h : k < count) {now : List Polyvalue} (now-at : Joining xs s c new count k now) where
    row : joined_row places (touches xs k) (state_of s k) c (get_or now k void) ≡ row_after places xs s c new k
    row = ap (joined_row places (touches xs k) (state_of s k) c) (now-at.rest k (omega arith) h)

    pub joining-next : {q : Polyvalue} → Some q ≡ joined_row places (touches xs k) (state_of s k) c (get_or now k void) → Joining xs s c new count (suc k) (set now k q)
    joining-next {q} e =
        record {
          long = length-set now k q ∙ now-at.long;
          fits = all_more k (λ i. is_some (row_after places xs s c new i)) now-at.fits (ap is_some (sym (e ∙ row)));
          done = λ i l. below_more (λ i. Some (get_or (set now k q) i void) ≡ row_after places xs s c new i) k
              (λ i l. ap Some (get_or-set_other now k i q void (λ z. omega arith)) ∙ now-at.done i l)
              (ap Some (get_or-set_same now k q void (omega (arith, now-at.long))) ∙ e ∙ row) i (omega arith);
          rest = λ i l m. get_or-set_other now k i q void (λ z. omega arith) ∙ now-at.rest i (omega arith) m;
        }

    pub joining-fails : None ≡ joined_row places (touches xs k) (state_of s k) c (get_or now k void) → false ≡ all count (λ i. is_some (row_after places xs s c new i))
    joining-fails e = sym (all-fails count (λ i. is_some (row_after places xs s c new i)) k h (ap is_some (sym (e ∙ row))))

-- ---- one more alternative

-- in a sound book every held polyvalue gives one value
sound-one : (b : Book) → sound places b ≡ true → Chosen places b
sound-one b e i h a l = (sound-well_formed places (item_at b i).held ((test-sound places b e).held i h)).complete.once a l

module _ (b : Book) (xs : List Step) (sure : sound places b ≡ true) (inside : some_step (outside b.count) xs ≡ false) (a : ℕ) (ha : a < 2 ^ places)
    {t : Worked} (so_far : Covers places b xs t) (s : State) (starts : StartsAs b xs a b.count s) {e : Result (Unit {0}) Declined} (ends : e ≡ ran xs (state_of s))
    {after : State} (leaves : after ≡ state_rows (run xs (state_of s))) where
  table : InTable b xs
  table i u = touched-below b.count xs i inside u

  agree : (i : ℕ) → touches xs i ≡ true → state_of s i ≡ held_at b a i
  agree i u = starts i (table i u) u

  end-well : is_ok e ≡ eqb (declined xs (held_at b a)) 0
  end-well = ap is_ok ends ∙ ran-well xs (state_of s) ∙ ap (λ (n : ℕ). eqb n 0) (declined-reads xs (state_of s) (held_at b a) agree)

  end-value : (i : ℕ) → touches xs i ≡ true → state_of after i ≡ run xs (held_at b a) i
  end-value i u =
      ap (λ (t : State). state_of t i) leaves ∙ run-value xs (state_of s) i (omega (arith, table i u, (test-sound places b sure).few_items))
      ∙ run-reads xs (state_of s) (held_at b a) agree i u

  -- what a touched item's results are then
  abbrev more : ℕ → List Pair
  more i = canon_over places (λ c. run xs (held_at b c) i) (union places (number t.covered) (block places b xs a))

  row_after-fitted : (i : ℕ) → touches xs i ≡ true → {c : ℕ} → c ≡ block places b xs a → row_after places xs after c t.new i ≡ fitting (more i)
  unfolding joined_row
  row_after-fitted i u {c} k =
      rw u (ap fitting (
      ap₂ (λ (v : ℤ) (ps : List Pair). join places v c ps) (end-value i u) (ap in_use (so_far.rows i (table i u) u) ∙ in_use-packed (canon_over places (λ c. run xs (held_at b c) i) (number t.covered)))
      ∙ ap (λ (m : ℕ). join places (run xs (held_at b a) i) m (canon_over places (λ c. run xs (held_at b c) i) (number t.covered))) k
      ∙ join-block places b xs (sound-one b sure) table a ha i (number t.covered) u))

  module _ {c : ℕ} (k : c ≡ block places b xs a) where
    -- where there is no room for some of an item's results, there is none for all of them
    over : (i : ℕ) → touches xs i ≡ true → is_some (row_after places xs after c t.new i) ≡ false → too_many places b xs ≡ true
    unfolding too_many results
    over i u f =
        let many : most_pairs < length (more i) = is_none-full (more i) (rw (row_after-fitted i u k) at f) in
        let all-many : most_pairs < together (in_use (item_at b i).held) (canon places (λ c. run xs (held_at b c) i)) =
        omega (arith, over-count places (λ c. run xs (held_at b c) i) (union places (number t.covered) (block places b xs a)) (in_use (item_at b i).held)) in
        any_of b.count _ i (table i u) (rw u (lt-ltb most_pairs _ all-many))

    pub no_room : false ≡ all b.count (λ i. is_some (row_after places xs after c t.new i)) → too_many places b xs ≡ true
    unfolding joined_row
    no_room f =
        let found = all-not b.count (λ i. is_some (row_after places xs after c t.new i)) (sym f) in
        by_cases (touches xs found.0) (λ u. over found.0 u found.2) (λ u. absurd (true≢false (rw u at found.2)))

    pub covers_more : {new : List Polyvalue} → RowsAfter places xs after c t.new b.count new → {v : Condition} → number v ≡ union places (number t.covered) c → {g : Bool} → g ≡ is_ok e
        → Covers places b xs (record { declines = t.declines || not g; grants = t.grants || g; covered = v; new = new })
    covers_more rows {v} n {g} is =
        record {
          conditions = rw n (union-lt places (number t.covered) c);
          rows = λ i l u.
              (fits-yes (more i) (rows i l ∙ row_after-fitted i u k)).0
              ∙ ap (λ (m : ℕ). packed (canon_over places (λ c. run xs (held_at b c) i) m)) (sym all-covered);
          declines = ap₂ ◌||◌ so_far.declines at_a ∙ sym (declines-more places b xs (sound-one b sure) table a ha (number t.covered)) ∙ ap (some_declines places b xs) (sym all-covered);
          grants = ap₂ ◌||◌ so_far.grants (sym (not-not g) ∙ ap not at_a) ∙ sym (grants-more places b xs (sound-one b sure) table a ha (number t.covered)) ∙ ap (some_grants places b xs) (sym all-covered);
        }
      where
        all-covered : number v ≡ union places (number t.covered) (block places b xs a)
        all-covered = n ∙ ap (union places (number t.covered)) k

        at_a : not g ≡ declines_at b xs a
        at_a = ap not (is ∙ end-well)

-- ---- all alternatives

-- the assignments before the lowest one that is left are covered
before-lowest : (s j : ℕ) → j < lowest places (complement places s) → member s j ≡ true
unfolding lowest
before-lowest s j h =
    let in-range : j < 2 ^ places = omega (arith, first-le (2 ^ places) (member (complement places s))) in
    not-false _ (sym (member-complement places s j in-range) ∙ before-first (2 ^ places) (member (complement places s)) j h)

-- and it is past those
lowest-past : (s n : ℕ) → n < 2 ^ places → ((j : ℕ) → j ≤ n → member s j ≡ true) → n < lowest places (complement places s)
unfolding lowest
lowest-past s n h e =
    by_cases (ltb n (first (2 ^ places) (member (complement places s))))
    (λ t. ltb-true n (first (2 ^ places) (member (complement places s))) t)
    (λ t. let l : first (2 ^ places) (member (complement places s)) ≤ n = ltb-false n (first (2 ^ places) (member (complement places s))) t in
    let in-range : first (2 ^ places) (member (complement places s)) < 2 ^ places = omega arith in
    absurd (true≢false (sym (first_passes (2 ^ places) (member (complement places s)) in-range) ∙ member-complement places s (first (2 ^ places) (member (complement places s))) in-range
    ∙ ap not (e (first (2 ^ places) (member (complement places s))) l))))

-- t covers the assignments before n
pub record Covering (b : Book) (xs : List Step) (n : ℕ) (t : Worked) : Type 0 where
  pub covers : Covers places b xs t
  pub before : (j : ℕ) → j < n → member (number t.covered) j ≡ true

module _ (b : Book) (xs : List Step) (sure : sound places b ≡ true) where
  pub covering-start : Covering b xs 0 nothing_worked
  unfolding nothing_worked some_declines some_grants
  covering-start =
      record {
        covers = record {
          conditions = omega arith;
          rows = λ i h u. get_or-replicate most_items i (packed []) void (omega (arith, (test-sound places b sure).few_items)) ∙ ap packed (sym (over_none places (λ a. run xs (held_at b a) i)));
          declines = sym (none_any (2 ^ places) _ (λ a h. rw (member-none a)));
          grants = sym (none_any (2 ^ places) _ (λ a h. rw (member-none a)));
        };
        before = λ j h. absurd (omega arith);
      }

  module _ (n : ℕ) (h : n < 2 ^ places) {t : Worked} (so_far : Covering b xs n t) (r : Worked) (more : number r.covered ≡ union places (number t.covered) (block places b xs n)) where
    covered-now : (j : ℕ) → j ≤ n → member (number r.covered) j ≡ true
    covered-now j l =
        ap (λ (s : ℕ). member s j) more ∙ member_union places (number t.covered) (block places b xs n) j (omega arith) ∙
        below_more (λ j. (member (number t.covered) j || member (block places b xs n) j) ≡ true) n (λ j l. rw (so_far.before j l))
        (ap (λ (x : Bool). member (number t.covered) n || x) (block-own places b xs (sound-one b sure) n h) ∙ or-true (member (number t.covered) n)) j (omega arith)

    module _ {m : ℕ} (left : m ≡ complement places (number r.covered)) {l : ℕ} (next : l ≡ lowest places m) where
      is-next : l ≡ lowest places (complement places (number r.covered))
      is-next = next ∙ ap (lowest places) left

      pub covering-rises : n < l
      covering-rises = omega (arith, is-next, lowest-past (number r.covered) n h covered-now)

      pub covering-next : Covers places b xs r → Covering b xs l r
      covering-next c = record { covers = c; before = λ j k. before-lowest (number r.covered) j (omega (arith, is-next, k)) }

  -- when none is left
  pub covering-all : (n : ℕ) → 2 ^ places ≤ n → {t : Worked} → Covering b xs n t → WorkedOut places b xs t
  unfolding results
  covering-all n h {t} c =
      let all-covered : number t.covered ≡ full places =
      same-members (2 ^ places) (number t.covered) (full places) c.covers.conditions (full-lt places) (λ a l. c.before a (omega arith) ∙ sym (member-full places a l)) in
      record {
        rows = λ i l u. c.covers.rows i l u ∙ ap (λ (s : ℕ). packed (canon_over places (λ a. run xs (held_at b a) i) s)) all-covered ∙ ap packed (over-full places (λ a. run xs (held_at b a) i));
        granted = rw (c.covers.declines, c.covers.grants, all-covered) (sym (grant-is places b xs));
      }

-- item i's old and new values are more than there is room for
abbrev pub over-at : Book → List Step → ℕ → Bool
over-at b xs i = touches xs i && ltb most_pairs (together (in_use (item_at b i).held) (results places b xs i))

pub over-worked : (b : Book) (xs : List Step) {t : Worked} → WorkedOut places b xs t → (i : ℕ) → i < b.count → {u v : Bool} → u ≡ touches xs i
    → v ≡ (u && ltb most_pairs (together (in_use (item_at b i).held) (in_use (get_or t.new i void)))) → v ≡ over-at b xs i
over-worked b xs {t} w i h {u} {v} e is =
    is ∙ ap (λ (x : Bool). x && ltb most_pairs (together (in_use (item_at b i).held) (in_use (get_or t.new i void)))) e
    ∙ by_cases (touches xs i)
    (λ y. rw y (ap (λ (ps : List Pair). ltb most_pairs (together (in_use (item_at b i).held) ps)) (ap in_use (w.rows i h y) ∙ in_use-packed (results places b xs i))))
    (λ y. rw y)
