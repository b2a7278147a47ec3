-- Lines that are put into a buffer, byte by byte.
use mathlib.Core.Path.{◌≡◌, refl, sym, ap, ◌∙◌}
use mathlib.Core.Bool.{true, false}
use mathlib.Core.List.{List, [], ◌∷◌, ◌++◌, append-nil, append_assoc}
use lib.Dec.{leb}
use Prim.Native.Nat.{ℕ, min, ◌+◌, ◌-◌, ◌^◌, ◌≤◌, ◌<◌}
use Prim.Native.Char.{code}
use native.Mathlib.Omega.{arith}
use lib.ListN.{length, take, drop, length-append, length-drop, drop_of_length-le}
use lib.Seq.{take-nil, take_all, sets, sets-eq, drop-append-add, drop-drop}
use borrow.Author.Tests.{le-leb, leb-true, leb-false}
use borrow.Rule.Slice.PartMut.{put_mid}
use Rattle.conditions.proofs.Laws.Below.{by_cases}
use Rattle.std.specs.Prelude.{Ok}
use Rattle.conditions.specs.Text.{bytes, decimal, prefixed, joined}
use Rattle.conditions.specs.Written.{written, Put}
use Rattle.conditions.proofs.Laws.Text.{decimal-some, decimal-le, decimal-one, prefixed-snoc}
use Rattle.conditions.proofs.Putting.{put-length, put_then, put_written}
use Rattle.book.specs.Answers.{Answer, answer_number, accepted}
use Rattle.sheet.specs.Lines.{line, event_line, refusal_line, lent_room, longest_line, line_answer, line_written}
use Rattle.sheet.specs.declared.lines.Line.{Line}
use Rattle.sheet.specs.Plays.{field, head, Puts}

-- ---- the bytes from a place up to another

module _ (s : List ℕ) (from to : ℕ) where
  pub none_between : to ≤ from → [] ≡ take (to - from) (drop from s)
  none_between h = let e : to - from ≡ 0 = omega arith in rw e

module _ (s : List ℕ) (from to : ℕ) {start end : ℕ} (first : start ≡ min from end) (last : end ≡ min to (length s)) where
  none_inside : end ≤ from → take (end - start) (drop start s) ≡ take (to - from) (drop from s)
  none_inside h =
      let none : end - start ≡ 0 = omega arith in
      rw none (by_cases (leb to from) (λ t. let h : to ≤ from = leb-true to from t in let e : to - from ≡ 0 = omega arith in rw e)
      (λ t. let h : from < to = leb-false to from t in let past : length s ≤ from = omega arith in rw (drop_of_length-le s past) (sym (take-nil (to - from)))))

  some_between : from < end → take (end - start) (drop start s) ≡ take (to - from) (drop from s)
  some_between h =
      let e : start ≡ from = omega arith in
      rw e (by_cases (leb to (length s)) (λ t. let h : to ≤ length s = leb-true to (length s) t in let e : end ≡ to = omega arith in rw e)
      (λ t. let h : length s < to = leb-false to (length s) t in let e : end ≡ length s = omega arith in
      let long : length (drop from s) ≤ to - from = rw (length-drop from s) (omega arith) in
      rw e (take_all (length s - from) (drop from s) (rw (length-drop from s) (omega arith)) ∙ sym (take_all (to - from) (drop from s) long))))

  pub within : take (end - start) (drop start s) ≡ take (to - from) (drop from s)
  within = by_cases (leb end from) (λ t. none_inside (leb-true end from t)) (λ t. some_between (leb-false end from t))

-- ---- texts behind what a line has

module _ {a b : Line} where
  pub puts_then : {c : Line} {s t : List ℕ} → Puts a b s → Puts b c t → Puts a c (s ++ t)
  puts_then p q = record { put = put_then p.put q.put; lent = q.lent ∙ p.lent; long = q.long ∙ p.long }

-- bytes that are copied into a part as long as they are
pub copied : (at : ℕ) (xs t : List ℕ) {part : List ℕ} → at + length t ≤ length xs → part ≡ t → Put xs (put_mid at (at + length t - at) xs part) at (at + length t) t
copied at xs t h e =
    let k : at + length t - at ≡ length t = omega arith in
    record {
      ends = refl;
      holds =
          rw (e, k)
          (ap (λ (r : List ℕ). take at xs ++ (t ++ r)) (drop-drop (length t) at xs) ∙ sym (append_assoc (take at xs) t (drop (at + length t) xs)) ∙ sym (sets-eq t xs at h));
    }

-- ---- the lines as the code puts them, field by field

two_fields : (x y : List ℕ) → x ++ field y ≡ joined (code " ") (x ∷ y ∷ [])
unfolding joined prefixed
two_fields x y = ap (λ (t : List ℕ). x ++ field t) (sym (append-nil y))

field-more : (x : List ℕ) (xs : List (List ℕ)) (y : List ℕ) → joined (code " ") (x ∷ xs) ++ field y ≡ joined (code " ") (x ∷ (xs ++ (y ∷ [])))
unfolding joined
field-more x xs y = append_assoc x (prefixed (code " ") xs) (field y) ∙ ap (λ (t : List ℕ). x ++ t) (sym (prefixed-snoc (code " ") xs y))

module _ (position : ℕ) (a : Answer) where
  pub head-fields : decimal position ++ field (decimal (answer_number a)) ≡ head position a
  head-fields = two_fields (decimal position) (decimal (answer_number a))

  pub plain-line : head position a ++ bytes "\n" ≡ event_line position a []
  unfolding event_line line
  plain-line = by_cases (accepted a) (λ e. rw e) (λ e. rw e)

  pub refused-line : accepted a ≡ false → (more : List (List ℕ)) → event_line position a [] ≡ event_line position a more
  unfolding event_line
  refused-line e more = rw e

  module _ (e : accepted a ≡ true) where
    pub begun-line : (n grant : List ℕ) → ((head position a ++ field n) ++ field grant) ++ bytes "\n" ≡ event_line position a (n ∷ grant ∷ [])
    unfolding event_line line
    begun-line n grant =
        rw (e, field-more (decimal position) (decimal (answer_number a) ∷ []) n, field-more (decimal position) (decimal (answer_number a) ∷ n ∷ []) grant)

    pub shown-line : (text : List ℕ) → ((head position a ++ bytes " ") ++ text) ++ bytes "\n" ≡ event_line position a (text ∷ [])
    unfolding event_line line
    shown-line text = rw (e, append_assoc (head position a) (bytes " ") text, field-more (decimal position) (decimal (answer_number a) ∷ []) text)

pub refusal-line : (a : Answer) (place : ℕ) → ((bytes "sheet" ++ field (decimal (answer_number a))) ++ field (decimal place)) ++ bytes "\n" ≡ refusal_line a place
unfolding refusal_line line
refusal-line a place =
    ap (λ (t : List ℕ). t ++ bytes "\n")
    (ap (λ (t : List ℕ). t ++ field (decimal place)) (two_fields (bytes "sheet") (decimal (answer_number a)))
    ∙ field-more (bytes "sheet") (decimal (answer_number a) ∷ []) (decimal place))

-- ---- at the buffer's start

-- a line that was put is written
pub line-written : {l m : List ℕ} {end : ℕ} {t : List ℕ} → Put l m 0 end t → length t ≤ length l → (end ≡ length t) × (m ≡ written l 0 t)
line-written p h = (omega (arith, p.ends), put_written (omega arith) p)

-- what is answered of it
module _ (l t : List ℕ) where
  pub line-given : {m : List ℕ} {end : ℕ} → longest_line ≤ length l → Put l m 0 end t → end ≤ length l → (Ok end ≡ line_answer l t) × (m ≡ line_written l t)
  unfolding line_answer line_written
  line-given {m} {end} h p k =
      let roomy = le-leb longest_line (length l) h in
      let w = line-written p (omega (arith, p.ends)) in
      (rw roomy (ap Ok w.0), rw roomy w.1)

-- a text over a shorter one
at-start : (l t : List ℕ) → length t ≤ length l → sets l 0 t ≡ t ++ drop (length t) l
at-start l t h = let e : 0 + length t ≡ length t = omega arith in rw (sets-eq t l 0 (omega arith), e)

pub put-over : {l m k : List ℕ} {i j : ℕ} {s t : List ℕ} → Put l m 0 i s → Put m k 0 j t → length s ≤ length t → length t ≤ length l → Put l k 0 j t
put-over {l} {m} {k} {i} {j} {s} {t} p q h fits =
    let longer : length s + (length t - length s) ≡ length t = omega arith in
    let rest : drop (length t) m ≡ drop (length t) l =
    ap (drop (length t)) (p.holds ∙ at-start l s (omega arith))
    ∙ ap (λ (n : ℕ). drop n (s ++ drop (length s) l)) (sym longer)
    ∙ drop-append-add s (drop (length s) l) (length t - length s)
    ∙ drop-drop (length t - length s) (length s) l
    ∙ ap (λ (n : ℕ). drop n l) longer in
    record {
      ends = q.ends;
      holds = q.holds ∙ at-start m t (omega (arith, put-length p)) ∙ ap (λ (r : List ℕ). t ++ r) rest ∙ sym (at-start l t fits);
    }

-- what is put before a show's line is no longer than the line of a refused one
pub head-shorter : (position : ℕ) (a : Answer) → length (head position (Ok tt) ++ bytes " ") ≤ length (event_line position a [])
head-shorter position a = rw (← plain-line position a, ← head-fields position a, ← head-fields position (Ok tt)) (simp length-append (omega (arith, decimal-some (answer_number a), ap length (decimal-one 0 (omega arith)))))

-- and it leaves what show is lent, and a line feed
pub show-fits : (position : ℕ) {l m k : List ℕ} {i from : ℕ} → position < 10 ^ 20 → longest_line ≤ length l → Put l m 0 i (head position (Ok tt)) → Put m k i from (bytes " ")
    → from + lent_room + 1 ≤ length k
show-fits position few h p q =
    let digits = decimal-le 19 position few in
    let long = length-append (decimal position) (field (decimal 0)) ∙ ap (λ (n : ℕ). length (decimal position) + n) (ap length (ap field (decimal-one 0 (omega arith)))) in
    omega (arith, long, ap length (head-fields position (Ok tt)), p.ends, q.ends, put-length p, put-length q)
