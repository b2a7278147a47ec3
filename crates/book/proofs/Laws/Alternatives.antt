-- One run for a block of assignments stands for a run under each of them.
use mathlib.Core.Path.{◌≡◌, refl, sym, ap, ap₂, ◌∙◌}
use mathlib.Core.Bool.{Bool, true, false, not, ◌&&◌, ◌||◌, cond, true≢false, and-false, or-true, or-false, not-not}
use mathlib.Core.List.{List}
use Prim.Native.Nat.{ℕ, zero, suc, ◌^◌, ◌≤◌, ◌<◌}
use native.Mathlib.Omega.{arith}
use lib.Dec.{eqb}
use borrow.Author.Count.{below_more}
use Rattle.conditions.specs.Below.{all, any}
use Rattle.conditions.specs.Sets.{member}
use Rattle.conditions.specs.Conditions.{full, union}
use Rattle.conditions.proofs.Laws.Below.{and_left, and_right, or_left, or_right, by_cases, cond-not, all_of, all-fails, any_of, any_none, any_some, none_any}
use Rattle.conditions.proofs.Laws.Conditions.{member-full, member_union, member-intersection, full-lt, intersection-lt}
use Rattle.polyvalues.specs.Pairs.{hits}
use Rattle.polyvalues.specs.Polyvalues.{in_use}
use Rattle.polyvalues.specs.Simplify.{join, canon_over}
use Rattle.polyvalues.proofs.Laws.Applying.{applying-applies, applying-same}
use Rattle.polyvalues.proofs.Laws.Canon.{over-join}
use Rattle.book.specs.declared.Book.{Book}
use Rattle.book.specs.declared.Step.{Step}
use Rattle.book.specs.Book.{item_at}
use Rattle.book.specs.Programs.{run, touches}
use Rattle.book.specs.Begin.{held_at, declines_at, grant}
use Rattle.book.specs.Alternatives.{condition_at, block_below, block, some_declines, some_grants, grant_of}
use Rattle.book.proofs.Laws.Programs.{declined-reads, run-reads}

-- every held polyvalue of the book gives one value under each assignment
abbrev pub Chosen : ℕ → Book → Type 0
Chosen w b = (i : ℕ) → i < b.count → (a : ℕ) → a < 2 ^ w → hits (in_use (item_at b i).held) a ≡ 1

-- every touched item is in the table
abbrev pub InTable : Book → List Step → Type 0
InTable b xs = (i : ℕ) → touches xs i ≡ true → i < b.count

module _ (w : ℕ) (b : Book) (xs : List Step) where
  block-lt : (a k : ℕ) → block_below w b xs a k < 2 ^ 2 ^ w
  unfolding block_below
  block-lt a zero = full-lt w
  block-lt a (suc k) = by_cases (touches xs k) (λ t. rw t (intersection-lt w (block_below w b xs a k) (condition_at b a k))) (λ t. rw t (block-lt a k))

  -- an assignment is in its own block
  own_below : Chosen w b → (a : ℕ) → a < 2 ^ w → (k : ℕ) → k ≤ b.count → member (block_below w b xs a k) a ≡ true
  unfolding block_below
  own_below one a h zero l = member-full w a h
  own_below one a h (suc k) l =
      by_cases (touches xs k)
      (λ t. rw t (member-intersection w (block_below w b xs a k) (condition_at b a k) a h
      ∙ ap₂ ◌&&◌ (own_below one a h k (omega arith)) (applying-applies (in_use (item_at b k).held) a (one k (omega arith) a h))))
      (λ t. rw t (own_below one a h k (omega arith)))

  pub block-own : Chosen w b → (a : ℕ) → a < 2 ^ w → member (block w b xs a) a ≡ true
  unfolding block
  block-own one a h = own_below one a h b.count (omega arith)

  -- in a block each touched item has one held value
  same-below : Chosen w b → (a c : ℕ) → a < 2 ^ w → c < 2 ^ w → (k : ℕ) → k ≤ b.count → member (block_below w b xs a k) c ≡ true
      → (i : ℕ) → i < k → touches xs i ≡ true → held_at b c i ≡ held_at b a i
  unfolding block_below
  same-below one a c ha hc zero l e i h t = absurd (omega arith)
  same-below one a c ha hc (suc k) l e i h t =
      by_cases (touches xs k)
      (λ u.
      let both = sym (member-intersection w (block_below w b xs a k) (condition_at b a k) c hc) ∙ rw u at e in
      below_more Same k (same-below one a c ha hc k (omega arith) (and_left (member (block_below w b xs a k) c) _ both))
      (λ s. applying-same (in_use (item_at b k).held) a c (one k (omega arith) a ha) (one k (omega arith) c hc) (and_right (member (block_below w b xs a k) c) _ both)) i (omega arith) t)
      (λ u. below_more Same k (same-below one a c ha hc k (omega arith) (rw u at e)) (λ s. absurd (true≢false (sym s ∙ u))) i (omega arith) t)
    where
      Same : ℕ → Type 0
      Same j = touches xs j ≡ true → held_at b c j ≡ held_at b a j

  module _ (one : Chosen w b) (table : InTable b xs) (a : ℕ) (ha : a < 2 ^ w) where
    agree : (c : ℕ) → c < 2 ^ w → member (block w b xs a) c ≡ true → (i : ℕ) → touches xs i ≡ true → held_at b c i ≡ held_at b a i
    unfolding block
    agree c hc e i t = same-below one a c ha hc b.count (omega arith) e i (table i t) t

    -- so a run under one of its assignments is a run under each
    run-block : (c : ℕ) → c < 2 ^ w → member (block w b xs a) c ≡ true → (i : ℕ) → touches xs i ≡ true → run xs (held_at b c) i ≡ run xs (held_at b a) i
    run-block c hc e i t = run-reads xs (held_at b c) (held_at b a) (agree c hc e) i t

    pub declines-block : (c : ℕ) → c < 2 ^ w → member (block w b xs a) c ≡ true → declines_at b xs c ≡ declines_at b xs a
    declines-block c hc e = ap (λ (n : ℕ). not (eqb n 0)) (declined-reads xs (held_at b c) (held_at b a) (agree c hc e))

    -- its results are joined at once
    pub join-block : (i s : ℕ) → touches xs i ≡ true
        → join w (run xs (held_at b a) i) (block w b xs a) (canon_over w (λ c. run xs (held_at b c) i) s) ≡ canon_over w (λ c. run xs (held_at b c) i) (union w s (block w b xs a))
    unfolding block
    join-block i s t = over-join w (λ c. run xs (held_at b c) i) s (run xs (held_at b a) i) (block w b xs a) (block-lt a b.count) (λ c hc e. run-block c hc e i t)

    -- and so is what it grants
    some_more : (f : ℕ → Bool) → ((c : ℕ) → c < 2 ^ w → member (block w b xs a) c ≡ true → f c ≡ f a) → (s : ℕ)
        → any (2 ^ w) (λ c. member (union w s (block w b xs a)) c && f c) ≡ (any (2 ^ w) (λ c. member s c && f c) || f a)
    some_more f same s =
        by_cases (any (2 ^ w) (λ c. member s c && f c) || f a)
        (λ e. by_cases (f a)
        (λ t. any_of (2 ^ w) _ a ha (ap₂ ◌&&◌ (member_union w s (block w b xs a) a ha ∙ ap (λ (x : Bool). member s a || x) (block-own one a ha) ∙ or-true (member s a)) t) ∙ sym e)
        (λ t.
        let found = any_some (2 ^ w) (λ c. member s c && f c) (sym (or-false _) ∙ ap (λ (x : Bool). any (2 ^ w) (λ c. member s c && f c) || x) (sym t) ∙ e) in
        any_of (2 ^ w) _ found.0 found.1
        (ap₂ ◌&&◌ (member_union w s (block w b xs a) found.0 found.1 ∙ ap (λ (x : Bool). x || member (block w b xs a) found.0) (and_left (member s found.0) _ found.2))
        (and_right (member s found.0) _ found.2)) ∙ sym e))
        (λ e. none_any (2 ^ w) _ (λ c hc. each_none c hc (or_left (any (2 ^ w) (λ c. member s c && f c)) (f a) e) (or_right (any (2 ^ w) (λ c. member s c && f c)) (f a) e)) ∙ sym e)
      where
        each_none : (c : ℕ) → c < 2 ^ w → any (2 ^ w) (λ c. member s c && f c) ≡ false → f a ≡ false → (member (union w s (block w b xs a)) c && f c) ≡ false
        each_none c hc clear own =
            by_cases (f c)
            (λ t. by_cases (member (block w b xs a) c)
            (λ m. absurd (true≢false (sym t ∙ same c hc m ∙ own)))
            (λ m. ap (λ (x : Bool). x && f c) (member_union w s (block w b xs a) c hc ∙ ap (λ (x : Bool). member s c || x) m ∙ or-false (member s c)) ∙ any_none (2 ^ w) (λ c. member s c && f c) clear c hc))
            (λ t. ap (λ (x : Bool). member (union w s (block w b xs a)) c && x) t ∙ and-false (member (union w s (block w b xs a)) c))

    pub declines-more : (s : ℕ) → some_declines w b xs (union w s (block w b xs a)) ≡ (some_declines w b xs s || declines_at b xs a)
    unfolding some_declines
    declines-more s = some_more (declines_at b xs) declines-block s

    pub grants-more : (s : ℕ) → some_grants w b xs (union w s (block w b xs a)) ≡ (some_grants w b xs s || not (declines_at b xs a))
    unfolding some_grants
    grants-more s = some_more (λ c. not (declines_at b xs c)) (λ c hc e. ap not (declines-block c hc e)) s

  -- ---- when all is covered

  -- every assignment passes a test where none fails it
  every : (f g : ℕ → Bool) → ((a : ℕ) → f a ≡ not (g a)) → all (2 ^ w) f ≡ not (any (2 ^ w) (λ a. member (full w) a && g a))
  every f g e =
      by_cases (any (2 ^ w) (λ a. member (full w) a && g a))
      (λ q.
      let found = any_some (2 ^ w) (λ a. member (full w) a && g a) q in
      rw q (all-fails (2 ^ w) f found.0 found.1 (e found.0 ∙ ap not (and_right (member (full w) found.0) _ found.2))))
      (λ q. rw q (all_of (2 ^ w) f (λ a h. e a ∙ ap not (ap (λ (x : Bool). x && g a) (sym (member-full w a h)) ∙ any_none (2 ^ w) (λ a. member (full w) a && g a) q a h))))

  pub grant-is : grant w b xs ≡ grant_of (some_declines w b xs (full w)) (some_grants w b xs (full w))
  unfolding grant some_declines some_grants
  grant-is =
      rw (every (λ a. not (declines_at b xs a)) (declines_at b xs) (λ a. refl), every (declines_at b xs) (λ a. not (declines_at b xs a)) (λ a. sym (not-not _)))
      (cond-not (any (2 ^ w) (λ a. member (full w) a && declines_at b xs a)) 1 _
      ∙ ap (λ (n : ℕ). cond (any (2 ^ w) (λ a. member (full w) a && declines_at b xs a)) n 1) (cond-not (any (2 ^ w) (λ a. member (full w) a && not (declines_at b xs a))) 0 2))
