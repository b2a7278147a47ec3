-- What is past the rows in use is filled with zeros, in both arrays.
use mathlib.Core.Path.{◌≡◌, ap, ◌∙◌}
use mathlib.Core.List.{List}
use Prim.Native.Nat.{ℕ, ◌-◌}
use native.Mathlib.Omega.{arith}
use lib.IntN.{pos}
use lib.ListN.{length, take, drop, replicate, length-take, length-drop}
use Rattle.conditions.specs.Conditions.{of_number}
use Rattle.polyvalues.specs.Polyvalues.{most_pairs, AllRows}
use Rattle.polyvalues.proofs.Known.{Held, all-rows}
use Rattle.polyvalues.proofs.Moving.{cleared-is}
use Rattle.polyvalues.proofs.polyvalue.Polyvalue.tidied.Goals as goal

left : {X : Type 0} (n : ℕ) (xs : List X) → length xs ≡ most_pairs → length (take (most_pairs - n) (drop n xs)) ≡ most_pairs - n
left n xs e = omega (arith, length-take (most_pairs - n) (drop n xs), length-drop n xs)

pub returns : goal.returns
returns c =
    let q = c.args.self in
    let n = c.len-n.result in
    let held : Held q = record { values = _; own = c.well_formed.0 } in
    let all : AllRows q = all-rows held in
    cleared-is q all c.len-n.ensures.value c.len-n.ensures.upper_bound
    (c.fill.ensures.after (λ y e. e) ∙ ap (λ (k : ℕ). replicate k (pos 0)) (left n q.values all.values))
    (c.fill-2.ensures.after (λ y e. e) ∙ ap (λ (k : ℕ). replicate k (of_number 0)) (left n q.conditions all.conditions))
