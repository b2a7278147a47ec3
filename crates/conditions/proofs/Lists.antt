-- What the library says of the numbers of a range, as the document says it of the numbers below k.
use mathlib.Core.Path.{◌≡◌, refl, sym, ap, ap₂, ◌∙◌}
use mathlib.Core.Bool.{Bool, ◌&&◌}
use mathlib.Core.List.{List}
use Prim.Native.Nat.{ℕ, zero, suc, ◌≤◌}
use native.Mathlib.Nat.{le_refl, zero-add}
use native.Mathlib.Numerals.{add-one}
use native.Mathlib.Omega.{arith}
use lib.ListN.{take}
use lib.Seq.{take-length}
use Rattle.std.specs.List.{list_all, range_with_len}
use Rattle.std.proofs.lemmas.List.Folds.{list_all_more}
use Rattle.std.proofs.lemmas.List.FromFn.{length-range_with_len, get_or-range_with_len}
use Rattle.conditions.specs.Below.{all}

-- the first n of them
all_first : (p : ℕ → Bool) (k n : ℕ) → n ≤ k → list_all p (take n (range_with_len 0 k)) ≡ all n p
unfolding all
all_first p k zero h = refl
all_first p k (suc n) h =
    let more = list_all_more p (range_with_len 0 k) n 0 (omega (arith, length-range_with_len 0 k)) in
    rw add-one at more ∙ ap₂ ◌&&◌ (all_first p k n (omega arith)) (ap p (get_or-range_with_len 0 k n 0 h ∙ zero-add n))

pub all_range : (p : ℕ → Bool) (n : ℕ) → list_all p (range_with_len 0 n) ≡ all n p
all_range p n =
    let counted : List ℕ = range_with_len 0 n in
    let them : take n counted ≡ counted = ap (λ (k : ℕ). take k counted) (sym (length-range_with_len 0 n)) ∙ take-length counted in
    ap (list_all p) (sym them) ∙ all_first p n n (le_refl n)
