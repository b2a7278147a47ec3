-- Values, pairs and lines of pairs, as the code measures and puts them.
use mathlib.Core.Path.{◌≡◌, refl, sym, ap, ◌∙◌}
use mathlib.Core.Bool.{Bool, true, false, cond}
use mathlib.Core.List.{List, [], ◌++◌, map}
use Prim.Native.Nat.{ℕ, suc, ◌+◌, ◌≤◌, ◌<◌}
use Prim.Native.Char.{code}
use native.Mathlib.Numerals.{add-one}
use native.Mathlib.Omega.{arith}
use lib.IntN.{ℤ, pos, negsuc, nat_abs}
use lib.ListN.{length, get_or, drop, length-append, drop_of_length-le}
use mir.Facts.{to_z-of_z}
use mir.Syntax.{w16}
use mir.Val.{SFits, of_z, to_z}
use borrow.Author.Tests.{le-ltb}
use Rattle.std.specs.Prelude.{unsigned_abs}
use Rattle.conditions.specs.Text.{bytes, decimal, prefixed, condition_text}
use Rattle.conditions.proofs.Putting.{put-none, put_then, put-length}
use Rattle.polyvalues.specs.declared.polyvalue.Pair.{Pair}
use Rattle.polyvalues.specs.declared.polyvalue.Polyvalue.{Polyvalue}
use Rattle.polyvalues.specs.declared.text.Line.{Line}
use Rattle.polyvalues.specs.Values.{below, value_text}
use Rattle.polyvalues.specs.Pairs.{assignments, no_pair}
use Rattle.polyvalues.specs.Polyvalues.{rows_of, in_use}
use Rattle.polyvalues.specs.Text.{pair_text, line_text, Puts}
use Rattle.polyvalues.proofs.Joining.{in_use-more}

-- ---- a value: its sign, and its distance from zero

-- a value as the code sees it that is handed one
abbrev pub handed : ℤ → ℤ
handed v = to_z w16 (of_z w16 v)

-- a sign where the value is below zero, and the number n
abbrev pub signed_text : ℤ → ℕ → List ℕ
signed_text v n = cond (below v (pos 0)) (bytes "-") [] ++ decimal n

pub text-is : (v : ℤ) → value_text v ≡ signed_text v (unsigned_abs v)
unfolding value_text
text-is (pos n) = let plain : below (pos n) (pos 0) ≡ false = le-ltb n 0 (omega arith) in rw plain
text-is (negsuc n) = refl

pub handed-text : {v : ℤ} → SFits w16 v → value_text (handed v) ≡ value_text v
handed-text f = ap value_text (to_z-of_z f)

module _ {v : ℤ} (f : SFits w16 v) (n : ℕ) (e : value_text (handed v) ≡ signed_text (handed v) n) where
  pub signed-text : below (handed v) (pos 0) ≡ true → value_text v ≡ bytes "-" ++ decimal n
  signed-text t = sym (handed-text f) ∙ e ∙ ap (λ (s : Bool). cond s (bytes "-") [] ++ decimal n) t

  pub plain-text : below (handed v) (pos 0) ≡ false → value_text v ≡ decimal n
  plain-text t = sym (handed-text f) ∙ e ∙ ap (λ (s : Bool). cond s (bytes "-") [] ++ decimal n) t

-- ---- texts behind what a line has

pub puts_then : {a b c : Line} {s t : List ℕ} → Puts a b s → Puts b c t → Puts a c (s ++ t)
puts_then p q = record { put = put_then p.put q.put; lent = q.lent ∙ p.lent }

-- ---- pairs and lines

module _ (w : ℕ) (n : ℕ → ℕ) where
  pub pair-length : (p : Pair) → length (pair_text w n p) ≡ length (value_text p.value) + 1 + length (condition_text w n (assignments p))
  unfolding pair_text
  pair-length p = simp length-append (omega arith)

  pub pair_put : (p : Pair) {l a b m : Line} → Puts l a (value_text p.value) → Puts a b (bytes ":")
      → Puts b m (condition_text w n (assignments p)) → Puts l m (pair_text w n p)
  unfolding pair_text
  pair_put p value colon condition = puts_then (puts_then value colon) condition

  -- the pairs of a line, each after a space
  abbrev pub rows_text : List Pair → List ℕ
  rows_text ps = prefixed (code " ") (map (pair_text w n) ps)

  pub line-length : (ps : List Pair) → length (line_text w n ps) ≡ length (decimal (length ps)) + length (rows_text ps)
  unfolding line_text
  line-length ps = length-append (decimal (length ps)) (rows_text ps)

  rows-done : (ps : List Pair) (i : ℕ) → length ps ≤ i → rows_text (drop i ps) ≡ []
  unfolding prefixed
  rows-done ps i h = rw (drop_of_length-le ps h)

  pub rows-done-length : (ps : List Pair) (i : ℕ) → length ps ≤ i → length (rows_text (drop i ps)) ≡ 0
  rows-done-length ps i h = ap length (rows-done ps i h)

  module _ (q : Polyvalue) where
    -- the pair of row i, and the pairs from row i on
    abbrev row_text : ℕ → List ℕ
    row_text i = pair_text w n (get_or (rows_of q) i no_pair)

    abbrev rest : ℕ → List ℕ
    rest i = rows_text (drop i (in_use q))

    rest_more : (i : ℕ) → i < length (in_use q) → rest i ≡ bytes " " ++ row_text i ++ rest (suc i)
    unfolding prefixed
    rest_more i h = rw (in_use-more q i refl h)

    pub rest-length : (i : ℕ) → i < length (in_use q) → length (rest i) ≡ 1 + length (row_text i) + length (rest (i + 1))
    rest-length i h = rw (add-one i, rest_more i h) (simp length-append (omega arith))

    -- rows are put into the line l, up to row i: there is room for the rest, and with the rest put they all are
    pub record Begun (l m : Line) (i : ℕ) : Type 0 where
      pub enough : m.end + length (rest i) ≤ length m.buf.now
      pub finish : {k : Line} → Puts m k (rest i) → Puts l k (rest 0)

    module _ {l m : Line} {i : ℕ} (before : Begun l m i) where
      pub begun-room : i < length (in_use q) → m.end + (1 + length (row_text i)) ≤ length m.buf.now
      begun-room h = omega (arith, before.enough, rest-length i h)

      pub begun_more : i < length (in_use q) → {a k : Line} → Puts m a (bytes " ") → Puts a k (row_text i) → Begun l k (i + 1)
      begun_more h space pair =
          record {
            enough = omega (arith, before.enough, rest-length i h, space.put.ends, pair.put.ends, put-length space.put, put-length pair.put);
            finish = λ r. before.finish (rw (rest_more i h) (puts_then space (puts_then pair (rw (add-one i) at r))));
          }

      begun-done : length (in_use q) ≤ i → Puts l m (rest 0)
      begun-done h = before.finish (rw (rows-done (in_use q) i h) (record { put = put-none m.buf.now m.end; lent = refl }))

    -- the line: the count is put, and then the rows
    module _ {k : ℕ} (is : k ≡ length (in_use q)) {l m : Line} (count : Puts l m (decimal k)) where
      pub line-begun : l.end + length (line_text w n (in_use q)) ≤ length l.buf.now → Begun m m 0
      line-begun h =
          record {
            enough = omega (arith, line-length (in_use q), ap (λ (j : ℕ). length (decimal j)) is, count.put.ends, put-length count.put);
            finish = λ r. r;
          }

      pub line-done : {o : Line} {i : ℕ} → Begun m o i → length (in_use q) ≤ i → Puts l o (line_text w n (in_use q))
      unfolding line_text
      line-done rows h = puts_then (rw is at count) (begun-done rows h)
