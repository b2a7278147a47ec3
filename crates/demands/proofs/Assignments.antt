-- A polyvalue has one value under all assignments that agree on the places which it depends on. So a sound book's values under a guess are settled by the open places alone.
use mathlib.Core.Path.{◌≡◌, refl, sym, ◌∙◌, ap}
use mathlib.Core.Bool.{Bool, true, false, cond, true≢false}
use mathlib.Core.List.{List}
use Prim.Native.Nat.{ℕ, zero, suc, ◌^◌, ◌≤◌, ◌<◌}
use native.Mathlib.Omega.{arith}
use lib.Dec.{eqb, ltb}
use borrow.Author.Tests.{eqb-true, eqb-false, ltb-true, ltb-false, lt-ltb, le-ltb}
use Rattle.conditions.specs.Sets.{member, set_of}
use Rattle.conditions.specs.Places.{with_place}
use Rattle.conditions.proofs.Laws.Below.{by_cases}
use Rattle.conditions.proofs.Laws.Sets.{set_of-lt, member-set_of, is-set_of}
use Rattle.conditions.proofs.Laws.Places.{is-place, place_same}
use Rattle.polyvalues.specs.declared.polyvalue.Pair.{Pair}
use Rattle.polyvalues.specs.Pairs.{at, depends}
use Rattle.polyvalues.specs.Polyvalues.{in_use}
use Rattle.polyvalues.proofs.Laws.Depends.{at-free}
use Rattle.book.specs.declared.Book.{Book}
use Rattle.book.specs.Book.{item_at, open_at, is_open}
use Rattle.book.specs.Begin.{held_at}
use Rattle.book.specs.Sound.{Sound}
use Rattle.book.proofs.Laws.But.{sound-but}
use Rattle.book.proofs.Laws.Settling.{neither-depends}
use Rattle.demands.specs.Demands.{pending_at, Says}

-- ---- one list of pairs

module _ (w a c : ℕ) (ha : a < 2 ^ w) (hc : c < 2 ^ w) where
  -- a at the places below k, and c at the others
  half : ℕ → ℕ → Bool
  half k q = cond (ltb q k) (member a q) (member c q)

  mix : ℕ → ℕ
  mix k = set_of w (half k)

  mix-none : mix 0 ≡ c
  unfolding mix half
  mix-none = sym (is-set_of w c (half 0) hc (λ q h. rw (le-ltb q 0 (omega arith))))

  mix_all : mix w ≡ a
  unfolding mix half
  mix_all = sym (is-set_of w a (half w) ha (λ q h. rw (lt-ltb q w h)))

  mix_next : (k : ℕ) → mix (suc k) ≡ with_place w (mix k) k (member a k)
  unfolding mix half
  mix_next k = is-place w (mix k) k (member a k) (mix (suc k)) (set_of-lt w (half (suc k))) (λ q h. rw (member-set_of w (half (suc k)) q h, member-set_of w (half k) q h) (go q))
    where
      go : (q : ℕ) → half (suc k) q ≡ cond (eqb q k) (member a k) (half k q)
      go q =
          by_cases (eqb q k)
          (λ e. rw (e, eqb-true q k e, lt-ltb k (suc k) (omega arith)))
          (λ e. rw e (by_cases (ltb q k)
          (λ l. rw (l, lt-ltb q (suc k) (omega (arith, ltb-true q k l))))
          (λ l. rw (l, le-ltb q (suc k) (omega (arith, ltb-false q k l, eqb-false q k e))))))

  pub at_agree : (ps : List Pair) → ((q : ℕ) → q < w → depends w ps q ≡ true → member a q ≡ member c q) → at ps a ≡ at ps c
  unfolding mix half
  at_agree ps agree = ap (at ps) (sym mix_all) ∙ go w (omega arith) ∙ ap (at ps) mix-none
    where
      own : (k : ℕ) → k < w → member (mix k) k ≡ member c k
      own k h = member-set_of w (half k) k h ∙ rw (le-ltb k k (omega arith))

      next : (k : ℕ) → k < w → at ps (with_place w (mix k) k (member a k)) ≡ at ps (mix k)
      next k h =
          by_cases (depends w ps k)
          (λ e. ap (at ps) (place_same w (mix k) k (member a k) (set_of-lt w (half k)) (λ l. own k h ∙ sym (agree k h e))))
          (λ e. at-free w ps k e (member a k) (mix k) (set_of-lt w (half k)))

      go : (k : ℕ) → k ≤ w → at ps (mix k) ≡ at ps (mix 0)
      go zero h = refl
      go (suc k) h = ap (at ps) (mix_next k) ∙ next k (omega arith) ∙ go k (omega arith)

-- ---- a sound book

module _ (w : ℕ) (b : Book) (s : Sound w b) (g : ℕ → Bool) (a c : ℕ) (sa : Says w b g a) (sc : Says w b g c) (i : ℕ) (h : i < b.count) where
  -- where an item depends on a place, the place is open
  agree : (q : ℕ) → q < w → (is_open (open_at b q) ≡ false → ⊥) → member a q ≡ member c q
  agree q l used =
      by_cases (is_open (open_at b q))
      (λ e. sa.places q l e ∙ sym (sc.places q l e))
      (λ e. absurd (used e))

  pub held-agree : held_at b a i ≡ held_at b c i
  held-agree =
      at_agree w a c sa.assignment sc.assignment (in_use (item_at b i).held)
      (λ q l e. agree q l (λ k. true≢false (sym e ∙ (neither-depends w (item_at b i) q ((sound-but w b s).free_unused q l k i h)).0)))

  pub pending-agree : pending_at b a i ≡ pending_at b c i
  pending-agree =
      at_agree w a c sa.assignment sc.assignment (in_use (item_at b i).pending)
      (λ q l e. agree q l (λ k. true≢false (sym e ∙ (neither-depends w (item_at b i) q ((sound-but w b s).free_unused q l k i h)).1)))

-- ---- an assignment for each guess

-- what is open is as guessed, and the rest as in another assignment
pub saying : (w : ℕ) (b : Book) (g : ℕ → Bool) (other : ℕ) → (a : ℕ) × (Says w b g a) × ((q : ℕ) → q < w → is_open (open_at b q) ≡ false → member a q ≡ member other q)
saying w b g other = (
  set_of w says,
  record { assignment = set_of-lt w says; places = λ q h e. member-set_of w says q h ∙ rw e },
  λ q h e. member-set_of w says q h ∙ rw e,
)
  where
    says : ℕ → Bool
    says q = cond (is_open (open_at b q)) (g (open_at b q).number.0) (member other q)

-- two books in which what is open in both has the same number: an assignment for the second comes from one for both
pub saying-both : (w : ℕ) (b c : Book) (g : ℕ → Bool)
    → ((q : ℕ) → q < w → is_open (open_at c q) ≡ true → is_open (open_at b q) ≡ true → (open_at c q).number ≡ (open_at b q).number)
    → (other : ℕ) → Says w c g other → (a : ℕ) × (Says w b g a) × (Says w c g a)
saying-both w b c g same other s =
    let found = saying w b g other in (
      found.0,
      found.1,
      record {
        assignment = found.1.assignment;
        places = λ q h e.
            by_cases (is_open (open_at b q))
            (λ o. rw (same q h e o) (found.1.places q h o))
            (λ o. found.2 q h o ∙ s.places q h e);
      },
    )
