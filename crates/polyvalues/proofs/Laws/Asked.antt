-- "It refuses (2) if the assignment's number is over 63, or unless exactly one pair of the list applies." (document 01, The book)
use mathlib.Core.Path.{◌≡◌}
use mathlib.Core.Bool.{◌&&◌, cond}
use mathlib.Core.List.{List}
use Prim.Native.Nat.{ℕ, ◌^◌}
use lib.Dec.{eqb, ltb}
use Rattle.conditions.proofs.Laws.Below.{by_cases}
use Rattle.polyvalues.specs.declared.polyvalue.Pair.{Pair}
use Rattle.polyvalues.specs.Pairs.{hits, asked}
use Rattle.polyvalues.specs.Asked.{asked_number}

-- the number of the answer, for each list and each assignment
pub asked-number : (w : ℕ) (ps : List Pair) (a : ℕ) → asked_number (asked w ps a) ≡ cond (ltb a (2 ^ w) && eqb (hits ps a) 1) 0 2
unfolding asked
asked-number w ps a = by_cases (ltb a (2 ^ w) && eqb (hits ps a) 1) (λ e. rw e) (λ e. rw e)
