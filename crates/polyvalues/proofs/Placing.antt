-- Looking at the values, one after the other, for the row of a value, or where it goes.
use mathlib.Core.Path.{◌≡◌, sym, ap, ap₂, ◌∙◌}
use mathlib.Core.Bool.{true, false, ◌&&◌}
use Prim.Native.Nat.{ℕ, ◌+◌, ◌<◌}
use native.Mathlib.Omega.{arith}
use lib.IntN.{ℤ, pos}
use lib.ListN.{length, get_or, take, length-take}
use borrow.Author.Count.{below_more}
use borrow.Author.Tests.{lt-ltb}
use mir.Facts.{to_z-of_z}
use mir.Syntax.{w16}
use mir.Val.{SFits, of_z, to_z}
use Rattle.std.proofs.lemmas.List.{get_or-take}
use Rattle.polyvalues.specs.declared.polyvalue.Pair.{Pair}
use Rattle.polyvalues.specs.declared.polyvalue.Polyvalue.{Polyvalue}
use Rattle.polyvalues.specs.Values.{below, equal}
use Rattle.polyvalues.specs.Polyvalues.{AllRows}
use Rattle.polyvalues.specs.Rows.{value_at, PlaceOf, has_at}
use Rattle.polyvalues.proofs.Laws.Values.{equal-refl, equal-true, equal-false, not_equal, below-not, below_apart, below-back, below-else}
use Rattle.polyvalues.proofs.Laws.Paired.{paired_at}
use Rattle.polyvalues.proofs.Known.{Held, all-rows, value-fits}

-- the value of a row before the count
pub value-there : {q : Polyvalue} → AllRows q → (k : ℕ) → k < q.count → get_or (take q.count q.values) k (pos 0) ≡ value_at q k
value-there {q} all k h = get_or-take q.count q.values k (pos 0) h ∙ ap (λ (p : Pair). p.value) (sym (paired_at q.values q.conditions k (all.values ∙ sym all.conditions)))

-- at row k, where all values before it are below v
module _ (q : Polyvalue) (v : ℤ) (k : ℕ) (before : (j : ℕ) → j < k → below (value_at q j) v ≡ true) where
  pub place-same : k < q.count → value_at q k ≡ v → PlaceOf q v k × (has_at q k v ≡ true)
  place-same h e = (
    record {
      within = omega (arith, h);
      before = before;
      stops = λ l. ap (λ (x : ℤ). below x v) e ∙ below-not v;
    },
    ap₂ ◌&&◌ (lt-ltb k q.count h) (ap (λ (x : ℤ). equal x v) e ∙ equal-refl v),
  )

  pub place-new : k < q.count → below v (value_at q k) ≡ true → PlaceOf q v k × (has_at q k v ≡ false)
  place-new h l = (
    record {
      within = omega (arith, h);
      before = before;
      stops = λ t. below-back v (value_at q k) l;
    },
    ap₂ ◌&&◌ (lt-ltb k q.count h) (not_equal (value_at q k) v (λ e. below_apart v (value_at q k) l (sym e))),
  )

  pub place-more : (value_at q k ≡ v → ⊥) → below v (value_at q k) ≡ false → (j : ℕ) → j < k + 1 → below (value_at q j) v ≡ true
  place-more apart h = below_more (λ i. below (value_at q i) v ≡ true) k before (below-else v (value_at q k) h (not_equal v (value_at q k) (λ e. apart (sym e))))

-- the same of the values as the code reads them
module _ {q : Polyvalue} (held : Held q) {v : ℤ} (fits : SFits w16 v) (k : ℕ) (more : k < length (take q.count q.values))
    (before : (j : ℕ) → j < k → below (value_at q j) (to_z w16 (of_z w16 v)) ≡ true) where
  abbrev read : ℤ
  read = get_or (take q.count q.values) k (pos 0)

  inside : k < q.count
  inside = omega (arith, length-take q.count q.values)

  there : read ≡ value_at q k
  there = value-there (all-rows held) k inside

  read-fits : SFits w16 read
  read-fits = rw (get_or-take q.count q.values k (pos 0) inside) (value-fits held k)

  pub read-same : equal (to_z w16 (of_z w16 read)) (to_z w16 (of_z w16 v)) ≡ true → PlaceOf q v k × (has_at q k v ≡ true)
  read-same e = place-same q v k (rw (to_z-of_z fits) at before) inside (sym there ∙ equal-true read v (rw (to_z-of_z fits, to_z-of_z read-fits) at e))

  pub read-new : below (to_z w16 (of_z w16 v)) (to_z w16 (of_z w16 read)) ≡ true → PlaceOf q v k × (has_at q k v ≡ false)
  read-new l = place-new q v k (rw (to_z-of_z fits) at before) inside (rw (to_z-of_z fits, to_z-of_z read-fits, there) at l)

  pub read-more : equal (to_z w16 (of_z w16 read)) (to_z w16 (of_z w16 v)) ≡ false → below (to_z w16 (of_z w16 v)) (to_z w16 (of_z w16 read)) ≡ false
      → (j : ℕ) → j < k + 1 → below (value_at q j) (to_z w16 (of_z w16 v)) ≡ true
  read-more apart h =
      rw (to_z-of_z fits)
      (place-more q v k (rw (to_z-of_z fits) at before) (λ e. equal-false read v (rw (to_z-of_z fits, to_z-of_z read-fits) at apart) (there ∙ e))
      (rw (to_z-of_z fits, to_z-of_z read-fits, there) at h))
